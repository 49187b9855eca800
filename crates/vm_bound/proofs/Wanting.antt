-- Which places the accesses that wait want: what the tests tell, and that they find each such place.
use Rattle.std.proofs.Common.{ℕ, zero, suc, ◌+◌, ◌<◌, ◌≡◌, ◌==◌, ◌∙◌, ◌&&◌, ◌||◌, Bool, true, false, List, [], ◌∷◌, Option, Some, None, if◌then◌else◌, nat_lt}
use Rattle.std.proofs.Common.{ap, sym, refl, subst, inl, inr, arith}
use Rattle.std.proofs.lemmas.Bool.Decides.{nat_tests}
use Rattle.std.proofs.lemmas.Bool.{and_from, and_parts, cases_lt, or_cases, or_left, or_right}
use Rattle.vm_base.specs.declared.entry.Entry.{Entry}
use Rattle.vm_base.specs.Limits.{most_tasks}
use Rattle.vm_bound.proofs.Depths.{chain_is_short, has_leads, leads_has, linked}
use Rattle.vm_bound.specs.Accesses.{any_wants, chain_has, has_place, is_wanted, led, page_led, pages_left, wants, wants_as}
use Rattle.vm_bound.specs.Letters.{host_count}
use Rattle.vm_bound.specs.Settles.{IsOnHosts}
use Rattle.vm_legal.proofs.Homes.{on_host}
use Rattle.vm_legal.specs.Accesses.{HasPageLeft, HasPlace, Waits, page_of}
use Rattle.vm_legal.specs.Licences.{HasCause}
use Rattle.vm_legal.specs.Living.{lives_on}
use Rattle.vm_legal.specs.Outside.{Outside}
use Rattle.vm_model.specs.Local.{is_on}
use Rattle.vm_model.specs.Moments.{EachEvent}
use Rattle.vm_model.specs.Regions.{backing_of, next_object, next_region, region_of}
use Rattle.vm_model.specs.Tasks.{host_of}
use Rattle.vm_model.specs.Waiting.{Access, Copying, Loading, Storing, next_page, waiting}
use Rattle.vm_model.specs.declared.event.Event.{Event}
use Rattle.vm_model.specs.declared.event.Event.TheVariants as event
use Rattle.vm_model.specs.declared.script.Header.{Header}
use Rattle.vm_shared.proofs.Numbering.{at_made}

-- such an access waits on the host, and is about a page of the place
pub record Wanting (header : Header) (such : Access → Bool) (task h o p : ℕ) (past : List Event) : Type 0 where
  pub access : Access
  pub waits : Waits header task access past
  pub on_host : waits.at.host ≡ h
  pub kind : such access ≡ true
  pub place : HasPlace header waits.at.entry.region.0 (page_of header task access past waits.at.entry) o p past

-- an access has a page left where the test says so, and only there

left_of : (size : ℕ) (access : Access) (next : ℕ) → nat_lt 0 (pages_left size access next) ≡ true → HasPageLeft size access next
left_of size (Loading address bytes) next is = tt
left_of size (Storing address bytes value) next is = tt
left_of size (Copying address bytes to) next is = grind (arith, nat_tests)

left_test : (size : ℕ) (access : Access) (next : ℕ) → HasPageLeft size access next → nat_lt 0 (pages_left size access next) ≡ true
left_test size (Loading address bytes) next left = refl
left_test size (Storing address bytes value) next left = refl
left_test size (Copying address bytes to) next left = grind (arith, nat_tests)

-- where the test tells that a task wants a place, it does

place_of : (header : Header) (task : ℕ) (access : Access) (o p : ℕ) (entry : Entry) (past : List Event)
    → has_place header task access o p (Some entry) past ≡ true → HasPlace header entry.region.0 (page_of header task access past entry) o p past
place_of header task access o p entry past is =
    let leads = has_leads (λ k. backing_of header k past) (next_object header past) (region_of header entry.region.0 past).top
    ((region_of header entry.region.0 past).shift + page_led header task access past entry) o p is in
    record {
      top = (region_of header entry.region.0 past).top;
      top_page = (region_of header entry.region.0 past).shift + page_led header task access past entry;
      steps = leads.0;
      is_top = record { object = refl; page = refl };
      leads = leads.1;
    }

wants_at : (header : Header) (such : Access → Bool) (task h o p : ℕ) (access : Access) (entry : Entry) (past : List Event) → waiting task past ≡ Some access
    → such access ≡ true → lives_on h task past ≡ true → nat_lt 0 (pages_left header.size access (next_page task past)) ≡ true
    → led header task access past ≡ Some entry → has_place header task access o p (Some entry) past ≡ true → Wanting header such task h o p past
wants_at header such task h o p access entry past waits kind lives left found has =
    record {
      access = access;
      waits = record {
        waits = waits;
        at = record { host = h; entry = entry; lives = on_host h (host_of task past) lives; found = found };
        left = left_of header.size access (next_page task past) left;
      };
      on_host = refl;
      kind = kind;
      place = place_of header task access o p entry past has;
    }

wants_led : (header : Header) (such : Access → Bool) (task h o p : ℕ) (access : Access) (past : List Event) → waiting task past ≡ Some access
    → such access ≡ true → lives_on h task past ≡ true → nat_lt 0 (pages_left header.size access (next_page task past)) ≡ true
    → (x : Option Entry) → led header task access past ≡ x → has_place header task access o p x past ≡ true → Wanting header such task h o p past
wants_led header such task h o p access past waits kind lives left None found has = absurd (cc)
wants_led header such task h o p access past waits kind lives left (Some entry) found has =
    wants_at header such task h o p access entry past waits kind lives left found has

pub wants_is : (header : Header) (such : Access → Bool) (task h o p : ℕ) (past : List Event) → wants header such task h o p past ≡ true
    → Wanting header such task h o p past
wants_is header such task h o p past is = by (waiting task past) refl is
  where
    by : (x : Option Access) → waiting task past ≡ x → wants_as header such task h o p x past ≡ true → Wanting header such task h o p past
    by None waits is = absurd (cc)
    by (Some access) waits is =
        let first = and_parts (such access) _ is in
        let second = and_parts (lives_on h task past) _ first.1 in
        let third = and_parts (nat_lt 0 (pages_left header.size access (next_page task past))) _ second.1 in
        wants_led header such task h o p access past waits first.0 second.0 third.0 (led header task access past) refl third.1

-- and it tells each place that one wants

place_test : (header : Header) (outside : Outside) (task o p : ℕ) (access : Access) (entry : Entry) (past : List Event)
    → EachEvent (HasCause header outside) past → entry.region.0 < next_region header past
    → HasPlace header entry.region.0 (page_of header task access past entry) o p past → has_place header task access o p (Some entry) past ≡ true
place_test header outside task o p access entry past caused made place =
    subst (λ (z : ℕ). chain_has (λ k. backing_of header k past) (next_object header past) z
    ((region_of header entry.region.0 past).shift + page_led header task access past entry) o p ≡ true) (sym place.is_top.object)
    (subst (λ (q : ℕ). chain_has (λ k. backing_of header k past) (next_object header past) place.top q o p ≡ true) (sym place.is_top.page)
    (leads_has (λ k. backing_of header k past) (next_object header past) place.steps place.top place.top_page o p
    (chain_is_short header outside past caused place.steps place.top place.top_page o p
    (subst (λ (k : ℕ). k < next_object header past) place.is_top.object ((linked header outside past caused).tops entry.region.0 made)) place.leads)
    place.leads))

lives_test : (task host : ℕ) (past : List Event) → host_of task past ≡ Some host → lives_on host task past ≡ true
lives_test task host past is = let same : (host == host) ≡ true = grind (arith, nat_tests) in ap (is_on host) is ∙ same

pub wants_of : (header : Header) (outside : Outside) (such : Access → Bool) (task o p : ℕ) (access : Access) (past : List Event)
    → EachEvent (HasCause header outside) past → (waits : Waits header task access past) → such access ≡ true
    → HasPlace header waits.at.entry.region.0 (page_of header task access past waits.at.entry) o p past
    → wants header such task waits.at.host o p past ≡ true
wants_of header outside such task o p access past caused waits kind place =
    let made = at_made header task _ past (linked header outside past caused).made waits.at in
    let has = place_test header outside task o p access waits.at.entry past caused made place in
    let led_has : has_place header task access o p (led header task access past) past ≡ true =
    subst (λ (x : Option Entry). has_place header task access o p x past ≡ true) (sym waits.at.found) has in
    subst (λ (x : Option Access). wants_as header such task waits.at.host o p x past ≡ true) (sym waits.waits)
    (and_from (such access) _ kind (and_from (lives_on waits.at.host task past) _ (lives_test task waits.at.host past waits.at.lives)
    (and_from (nat_lt 0 (pages_left header.size access (next_page task past))) _ (left_test header.size access (next_page task past) waits.left) led_has)))

-- tasks that live have numbers below the most, and are on one of the hosts

pub task_below : (header : Header) (task host : ℕ) (past : List Event) → EachEvent (IsOnHosts header) past → host_of task past ≡ Some host
    → (task < most_tasks) × (host < host_count header)
task_below header task host [] hosts is = absurd (cc)
task_below header task host (event.TaskMade made on ∷ past) hosts is = by (made.0 == task) refl is (task_below header task host past hosts.1)
  where
    by : (b : Bool) → (made.0 == task) ≡ b → (if b then Some on.0 else host_of task past) ≡ Some host
        → (host_of task past ≡ Some host → (task < most_tasks) × (host < host_count header)) → (task < most_tasks) × (host < host_count header)
    by true same now before =
        let one : made.0 ≡ task = grind (arith, nat_tests) in
        let it : on.0 ≡ host = cc in
        (subst (λ (k : ℕ). k < most_tasks) one hosts.0.1, subst (λ (k : ℕ). k < host_count header) it hosts.0.0)
    by false apart was before = before was
task_below header task host (event.TaskEnded gone ∷ past) hosts is = by (gone.0 == task) is (task_below header task host past hosts.1)
  where
    by : (b : Bool) → (if b then None else host_of task past) ≡ Some host
        → (host_of task past ≡ Some host → (task < most_tasks) × (host < host_count header)) → (task < most_tasks) × (host < host_count header)
    by true none before = absurd (cc)
    by false was before = before was
task_below header task host (e ∷ past) hosts is = task_below header task host past hosts.1 is

-- some task below a number wants a place

pub any_of : (header : Header) (such : Access → Bool) (n task h o p : ℕ) (past : List Event) → task < n → wants header such task h o p past ≡ true
    → any_wants header such n h o p past ≡ true
any_of header such zero task h o p past less is = absurd (omega (arith, less))
any_of header such (suc n) task h o p past less is = elim (cases_lt task n) [
  | inl below ↦ or_right (wants header such n h o p past) _ (any_of header such n task h o p past below is)
  | inr high ↦
      let same : task ≡ n = omega (arith, less, high) in
      or_left _ (any_wants header such n h o p past) (subst (λ (k : ℕ). wants header such k h o p past ≡ true) same is)
]

pub any_is : (header : Header) (such : Access → Bool) (n h o p : ℕ) (past : List Event) → any_wants header such n h o p past ≡ true
    → (task : ℕ) × (task < n) × (wants header such task h o p past ≡ true)
any_is header such zero h o p past is = absurd (cc)
any_is header such (suc n) h o p past is = elim (or_cases (wants header such n h o p past) _ is) [
  | inl here ↦ (n, omega arith, here)
  | inr below ↦ let rest = any_is header such n h o p past below in (rest.0, omega (arith, rest.1), rest.2)
]

pub any_kept : (header : Header) (such : Access → Bool) (n h o p : ℕ) (e : Event) (past : List Event)
    → ((task : ℕ) → task < n → wants header such task h o p (e ∷ past) ≡ true → wants header such task h o p past ≡ true)
    → any_wants header such n h o p (e ∷ past) ≡ true → any_wants header such n h o p past ≡ true
any_kept header such n h o p e past each is =
    let it = any_is header such n h o p (e ∷ past) is in any_of header such n it.0 h o p past it.1 (each it.0 it.1 it.2)

-- so the place of an access that waits is wanted on its host, and that of a store to be written

any_waits : (header : Header) (outside : Outside) (such : Access → Bool) (n task o p : ℕ) (access : Access) (past : List Event)
    → EachEvent (HasCause header outside) past → (waits : Waits header task access past) → task < n → such access ≡ true
    → HasPlace header waits.at.entry.region.0 (page_of header task access past waits.at.entry) o p past
    → any_wants header such n waits.at.host o p past ≡ true
any_waits header outside such n task o p access past caused waits below kind place =
    any_of header such n task waits.at.host o p past below (wants_of header outside such task o p access past caused waits kind place)

pub is_wanted_of : (header : Header) (outside : Outside) (task o p : ℕ) (access : Access) (past : List Event) → EachEvent (HasCause header outside) past
    → EachEvent (IsOnHosts header) past → (waits : Waits header task access past)
    → HasPlace header waits.at.entry.region.0 (page_of header task access past waits.at.entry) o p past → is_wanted header waits.at.host o p past ≡ true
is_wanted_of header outside task o p access past caused hosts waits place =
    let below = task_below header task waits.at.host past hosts waits.at.lives in
    any_waits header outside (λ access. true) most_tasks task o p access past caused waits below.0 refl place

-- What changes neither who waits, nor tasks and their entries, nor regions and what stands on what, leaves what each task wants.

abbrev pub LeavesWanting : Event → Type 0
LeavesWanting (event.Line line) = Unit {0}
LeavesWanting (event.Refused code) = Unit {0}
LeavesWanting (event.Wired host count) = Unit {0}
LeavesWanting (event.Sent channel m) = Unit {0}
LeavesWanting (event.Taken channel m) = Unit {0}
LeavesWanting (event.Dropped host object page) = Unit {0}
LeavesWanting (event.Zeroed host object page) = Unit {0}
LeavesWanting (event.Raised host lower lower_page upper upper_page) = Unit {0}
LeavesWanting (event.Unmarked region) = Unit {0}
LeavesWanting (event.DeviceFailed who way object page) = Unit {0}
LeavesWanting (event.NoSlot object page) = Unit {0}
LeavesWanting other = ⊥

-- an access ends
abbrev pub EndsAccess : Event → Type 0
EndsAccess (event.Loaded owner object page value) = Unit {0}
EndsAccess (event.Stored owner object page at bytes value) = Unit {0}
EndsAccess (event.CopyEnded owner) = Unit {0}
EndsAccess (event.Failed owner object page) = Unit {0}
EndsAccess other = ⊥

-- where the accesses lead stays as it was
abbrev pub LeavesPlaces : Event → Type 0
LeavesPlaces (event.Line line) = Unit {0}
LeavesPlaces (event.Refused code) = Unit {0}
LeavesPlaces (event.Wired host count) = Unit {0}
LeavesPlaces (event.Sent channel m) = Unit {0}
LeavesPlaces (event.Taken channel m) = Unit {0}
LeavesPlaces (event.Dropped host object page) = Unit {0}
LeavesPlaces (event.Zeroed host object page) = Unit {0}
LeavesPlaces (event.Raised host lower lower_page upper upper_page) = Unit {0}
LeavesPlaces (event.Unmarked region) = Unit {0}
LeavesPlaces (event.DeviceFailed who way object page) = Unit {0}
LeavesPlaces (event.NoSlot object page) = Unit {0}
LeavesPlaces (event.Loaded owner object page value) = Unit {0}
LeavesPlaces (event.Stored owner object page at bytes value) = Unit {0}
LeavesPlaces (event.CopyEnded owner) = Unit {0}
LeavesPlaces (event.Failed owner object page) = Unit {0}
LeavesPlaces other = ⊥

-- so a place is one of those of an access as before
has_same : (header : Header) (task : ℕ) (access : Access) (o p : ℕ) (x : Option Entry) (e : Event) (past : List Event) → LeavesPlaces e
    → has_place header task access o p x (e ∷ past) ≡ has_place header task access o p x past
has_same header task access o p None e past leaves = refl
has_same header task access o p (Some entry) (event.Line line) past leaves = refl
has_same header task access o p (Some entry) (event.Refused code) past leaves = refl
has_same header task access o p (Some entry) (event.Wired host count) past leaves = refl
has_same header task access o p (Some entry) (event.Sent channel m) past leaves = refl
has_same header task access o p (Some entry) (event.Taken channel m) past leaves = refl
has_same header task access o p (Some entry) (event.Dropped host object page) past leaves = refl
has_same header task access o p (Some entry) (event.Zeroed host object page) past leaves = refl
has_same header task access o p (Some entry) (event.Raised host lower lower_page upper upper_page) past leaves = refl
has_same header task access o p (Some entry) (event.Unmarked region) past leaves = refl
has_same header task access o p (Some entry) (event.DeviceFailed who way object page) past leaves = refl
has_same header task access o p (Some entry) (event.NoSlot object page) past leaves = refl
has_same header task access o p (Some entry) (event.Loaded owner object page value) past leaves = refl
has_same header task access o p (Some entry) (event.Stored owner object page at bytes value) past leaves = refl
has_same header task access o p (Some entry) (event.CopyEnded owner) past leaves = refl
has_same header task access o p (Some entry) (event.Failed owner object page) past leaves = refl
has_same header task access o p (Some entry) other past leaves = absurd leaves

-- the tests of an access, behind which its place is tested
abbrev tested : Header → (Access → Bool) → ℕ → ℕ → Access → List Event → Bool → Bool
tested header such task h access past b = such access && (lives_on h task past && (nat_lt 0 (pages_left header.size access (next_page task past)) && b))

led_same : (header : Header) (such : Access → Bool) (task h o p : ℕ) (access : Access) (e : Event) (past : List Event) → LeavesPlaces e
    → tested header such task h access past (has_place header task access o p (led header task access past) (e ∷ past))
    ≡ tested header such task h access past (has_place header task access o p (led header task access past) past)
led_same header such task h o p access e past leaves =
    ap (tested header such task h access past) (has_same header task access o p (led header task access past) e past leaves)

as_same : (header : Header) (such : Access → Bool) (task h o p : ℕ) (x : Option Access) (e : Event) (past : List Event) → LeavesPlaces e
    → wants_as header such task h o p x (e ∷ past) ≡ wants_as header such task h o p x past
as_same header such task h o p None e past leaves = refl
as_same header such task h o p (Some access) (event.Line line) past leaves = led_same header such task h o p access _ past leaves
as_same header such task h o p (Some access) (event.Refused code) past leaves = led_same header such task h o p access _ past leaves
as_same header such task h o p (Some access) (event.Wired host count) past leaves = led_same header such task h o p access _ past leaves
as_same header such task h o p (Some access) (event.Sent channel m) past leaves = led_same header such task h o p access _ past leaves
as_same header such task h o p (Some access) (event.Taken channel m) past leaves = led_same header such task h o p access _ past leaves
as_same header such task h o p (Some access) (event.Dropped host object page) past leaves = led_same header such task h o p access _ past leaves
as_same header such task h o p (Some access) (event.Zeroed host object page) past leaves = led_same header such task h o p access _ past leaves
as_same header such task h o p (Some access) (event.Raised host lower lower_page upper upper_page) past leaves =
    led_same header such task h o p access _ past leaves
as_same header such task h o p (Some access) (event.Unmarked region) past leaves = led_same header such task h o p access _ past leaves
as_same header such task h o p (Some access) (event.DeviceFailed who way object page) past leaves = led_same header such task h o p access _ past leaves
as_same header such task h o p (Some access) (event.NoSlot object page) past leaves = led_same header such task h o p access _ past leaves
as_same header such task h o p (Some access) (event.Loaded owner object page value) past leaves = led_same header such task h o p access _ past leaves
as_same header such task h o p (Some access) (event.Stored owner object page at bytes value) past leaves = led_same header such task h o p access _ past leaves
as_same header such task h o p (Some access) (event.CopyEnded owner) past leaves = led_same header such task h o p access _ past leaves
as_same header such task h o p (Some access) (event.Failed owner object page) past leaves = led_same header such task h o p access _ past leaves
as_same header such task h o p (Some access) other past leaves = absurd leaves

pub wants_same : (header : Header) (such : Access → Bool) (task h o p : ℕ) (e : Event) (past : List Event) → LeavesWanting e
    → wants header such task h o p (e ∷ past) ≡ wants header such task h o p past
wants_same header such task h o p (event.Line line) past leaves = as_same header such task h o p (waiting task past) _ past tt
wants_same header such task h o p (event.Refused code) past leaves = as_same header such task h o p (waiting task past) _ past tt
wants_same header such task h o p (event.Wired host count) past leaves = as_same header such task h o p (waiting task past) _ past tt
wants_same header such task h o p (event.Sent channel m) past leaves = as_same header such task h o p (waiting task past) _ past tt
wants_same header such task h o p (event.Taken channel m) past leaves = as_same header such task h o p (waiting task past) _ past tt
wants_same header such task h o p (event.Dropped host object page) past leaves = as_same header such task h o p (waiting task past) _ past tt
wants_same header such task h o p (event.Zeroed host object page) past leaves = as_same header such task h o p (waiting task past) _ past tt
wants_same header such task h o p (event.Raised host lower lower_page upper upper_page) past leaves =
    as_same header such task h o p (waiting task past) _ past tt
wants_same header such task h o p (event.Unmarked region) past leaves = as_same header such task h o p (waiting task past) _ past tt
wants_same header such task h o p (event.DeviceFailed who way object page) past leaves = as_same header such task h o p (waiting task past) _ past tt
wants_same header such task h o p (event.NoSlot object page) past leaves = as_same header such task h o p (waiting task past) _ past tt
wants_same header such task h o p other past leaves = absurd leaves

pub any_same : (header : Header) (such : Access → Bool) (n h o p : ℕ) (e : Event) (past : List Event) → LeavesWanting e
    → any_wants header such n h o p (e ∷ past) ≡ any_wants header such n h o p past
any_same header such zero h o p e past leaves = refl
any_same header such (suc n) h o p e past leaves =
    ap (λ (b : Bool). b || any_wants header such n h o p (e ∷ past)) (wants_same header such n h o p e past leaves)
    ∙ ap (λ (b : Bool). wants header such n h o p past || b) (any_same header such n h o p e past leaves)

-- a task whose access ends wants nothing more, and the others what they wanted

wants_if : (header : Header) (such : Access → Bool) (task h o p : ℕ) (b : Bool) (x : Option Access) (past : List Event)
    → wants_as header such task h o p (if b then None else x) past ≡ true → wants_as header such task h o p x past ≡ true
wants_if header such task h o p true x past is = absurd (cc)
wants_if header such task h o p false x past is = is

pub wants_ended : (header : Header) (such : Access → Bool) (task h o p : ℕ) (e : Event) (past : List Event) → EndsAccess e
    → wants header such task h o p (e ∷ past) ≡ true → wants header such task h o p past ≡ true
wants_ended header such task h o p (event.Loaded owner object page value) past ends is =
    sym (as_same header such task h o p (waiting task past) (event.Loaded owner object page value) past tt)
    ∙ wants_if header such task h o p (owner.0 == task) (waiting task past) (event.Loaded owner object page value ∷ past) is
wants_ended header such task h o p (event.Stored owner object page at bytes value) past ends is =
    sym (as_same header such task h o p (waiting task past) (event.Stored owner object page at bytes value) past tt)
    ∙ wants_if header such task h o p (owner.0 == task) (waiting task past) (event.Stored owner object page at bytes value ∷ past) is
wants_ended header such task h o p (event.CopyEnded owner) past ends is =
    sym (as_same header such task h o p (waiting task past) (event.CopyEnded owner) past tt)
    ∙ wants_if header such task h o p (owner.0 == task) (waiting task past) (event.CopyEnded owner ∷ past) is
wants_ended header such task h o p (event.Failed owner object page) past ends is =
    sym (as_same header such task h o p (waiting task past) (event.Failed owner object page) past tt)
    ∙ wants_if header such task h o p (owner.0 == task) (waiting task past) (event.Failed owner object page ∷ past) is
wants_ended header such task h o p other past ends is = absurd ends

pub any_ended : (header : Header) (such : Access → Bool) (n h o p : ℕ) (e : Event) (past : List Event) → EndsAccess e
    → any_wants header such n h o p (e ∷ past) ≡ true → any_wants header such n h o p past ≡ true
any_ended header such n h o p e past ends = any_kept header such n h o p e past (λ task below. wants_ended header such task h o p e past ends)
