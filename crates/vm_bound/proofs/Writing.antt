-- Which stores wait for a page, and that inside a step who waits waits as before, but for a slow copy that goes on.
use Rattle.std.proofs.Common.{ℕ, zero, suc, ◌+◌, ◌<◌, ◌≡◌, ◌==◌, ◌∙◌, ◌&&◌, Bool, true, false, List, ◌∷◌, Option, Some, None}
use Rattle.std.proofs.Common.{ap, sym, refl, subst, inl, inr, arith, if◌then◌else◌}
use Rattle.std.proofs.lemmas.Bool.Decides.{nat_tests}
use Rattle.std.proofs.lemmas.Bool.{and_from, and_parts, cases_lt, or_cases, or_left, or_right}
use Rattle.std.specs.Prelude.{◌⊎◌}
use Rattle.vm_base.specs.Entries.{entry_at, page_at}
use Rattle.vm_base.specs.Limits.{most_tasks}
use Rattle.vm_base.specs.declared.entry.Entry.{Entry}
use Rattle.vm_bound.proofs.Owing.{access_relief}
use Rattle.vm_bound.proofs.Wanting.{task_below}
use Rattle.vm_bound.specs.Accesses.{any_writes, is_wanted_to_write, leads_at, led, writes, writes_as}
use Rattle.vm_bound.specs.Settles.{IsOnHosts, MayCome}
use Rattle.vm_legal.proofs.Homes.{on_host}
use Rattle.vm_legal.specs.Accesses.{HasPageLeft, Waits, page_of}
use Rattle.vm_legal.specs.Licences.{CopiesPage, HasCause}
use Rattle.vm_legal.specs.Living.{lives_on}
use Rattle.vm_legal.specs.Outside.{Outside, is_shared}
use Rattle.vm_legal.specs.Stretches.{IsInner}
use Rattle.vm_model.specs.Local.{is_on}
use Rattle.vm_model.specs.Moments.{EachEvent}
use Rattle.vm_model.specs.Tasks.{entries_of, host_of}
use Rattle.vm_model.specs.Waiting.{Access, Copying, Loading, Storing, address_of, is_store, next_page, waiting}
use Rattle.vm_model.specs.declared.event.Event.{Event}
use Rattle.vm_model.specs.declared.event.Event.TheVariants as event
use Rattle.vm_model.specs.declared.script.Header.{Header}
use Rattle.vm_shared.proofs.Waiters.{IsSame, is_of, same}

pub no_true : {A : Type 0} → false ≡ true → A
no_true e = absurd (let bad : false ≡ true = e in cc)

pub number_is : (a b : ℕ) → (a == b) ≡ true → a ≡ b
number_is a b is = grind (arith, nat_tests)

pub itself : (n : ℕ) → (n == n) ≡ true
itself n = grind (arith, nat_tests)

-- Who writes a page, by the parts of what is known of a task.

abbrev leads_by : ℕ → ℕ → Access → ℕ → ℕ → Option Entry → Bool
leads_by size next access o p None = false
leads_by size next access o p (Some entry) = entry.region.0 == o && page_at size (address_of size next access) entry == p

abbrev writes_by : ℕ → ℕ → ℕ → ℕ → Option Access → Option ℕ → List Entry → ℕ → Bool
writes_by size h o p None host rows next = false
writes_by size h o p (Some access) host rows next =
    is_store access && (is_on h host && leads_by size next access o p (entry_at (address_of size next access) rows))

leads_parts : (header : Header) (task : ℕ) (access : Access) (o p : ℕ) (past : List Event) (x : Option Entry)
    → leads_at header task access o p x past ≡ leads_by header.size (next_page task past) access o p x
leads_parts header task access o p past None = refl
leads_parts header task access o p past (Some entry) = refl

as_parts : (header : Header) (task h o p : ℕ) (past : List Event) (x : Option Access)
    → writes_as header task h o p x past ≡ writes_by header.size h o p x (host_of task past) (entries_of header.size task past) (next_page task past)
as_parts header task h o p past None = refl
as_parts header task h o p past (Some access) =
    ap (λ (b : Bool). is_store access && (lives_on h task past && b)) (leads_parts header task access o p past (led header task access past))

writes_parts : (header : Header) (task h o p : ℕ) (past : List Event)
    → writes header task h o p past
    ≡ writes_by header.size h o p (waiting task past) (host_of task past) (entries_of header.size task past) (next_page task past)
writes_parts header task h o p past = as_parts header task h o p past (waiting task past)

-- the task waits on the host with a store into the page
pub record Writing (header : Header) (task h o p : ℕ) (past : List Event) : Type 0 where
  pub access : Access
  pub waits : Waits header task access past
  pub on_host : waits.at.host ≡ h
  pub kind : is_store access ≡ true
  pub region : waits.at.entry.region.0 ≡ o
  pub page : page_of header task access past waits.at.entry ≡ p

store_left : (size : ℕ) (access : Access) (next : ℕ) → is_store access ≡ true → HasPageLeft size access next
store_left size (Loading address bytes) next is = no_true is
store_left size (Storing address bytes value) next is = tt
store_left size (Copying address bytes to) next is = no_true is

writes_at : (header : Header) (task h o p : ℕ) (access : Access) (entry : Entry) (past : List Event) → waiting task past ≡ Some access
    → is_store access ≡ true → lives_on h task past ≡ true → led header task access past ≡ Some entry
    → (entry.region.0 == o && page_of header task access past entry == p) ≡ true → Writing header task h o p past
writes_at header task h o p access entry past waits kind lives found is =
    let parts = and_parts (entry.region.0 == o) _ is in
    record {
      access = access;
      waits = record {
        waits = waits;
        at = record { host = h; entry = entry; lives = on_host h (host_of task past) lives; found = found };
        left = store_left header.size access (next_page task past) kind;
      };
      on_host = refl;
      kind = kind;
      region = number_is entry.region.0 o parts.0;
      page = number_is (page_of header task access past entry) p parts.1;
    }

writes_led : (header : Header) (task h o p : ℕ) (access : Access) (past : List Event) → waiting task past ≡ Some access → is_store access ≡ true
    → lives_on h task past ≡ true → (x : Option Entry) → led header task access past ≡ x → leads_at header task access o p x past ≡ true
    → Writing header task h o p past
writes_led header task h o p access past waits kind lives None found is = no_true is
writes_led header task h o p access past waits kind lives (Some entry) found is = writes_at header task h o p access entry past waits kind lives found is

pub writes_is : (header : Header) (task h o p : ℕ) (past : List Event) → writes header task h o p past ≡ true → Writing header task h o p past
writes_is header task h o p past is = by (waiting task past) refl is
  where
    by : (x : Option Access) → waiting task past ≡ x → writes_as header task h o p x past ≡ true → Writing header task h o p past
    by None waits is = no_true is
    by (Some access) waits is =
        let first = and_parts (is_store access) _ is in
        let second = and_parts (lives_on h task past) _ first.1 in
        writes_led header task h o p access past waits first.0 second.0 (led header task access past) refl second.1

lives_test : (task host : ℕ) (past : List Event) → host_of task past ≡ Some host → lives_on host task past ≡ true
lives_test task host past is = ap (is_on host) is ∙ itself host

same_test : (a b : ℕ) → a ≡ b → (a == b) ≡ true
same_test a b is = grind (arith, nat_tests)

pub writes_of : (header : Header) (task o p : ℕ) (access : Access) (past : List Event) → (waits : Waits header task access past) → is_store access ≡ true
    → waits.at.entry.region.0 ≡ o → page_of header task access past waits.at.entry ≡ p → writes header task waits.at.host o p past ≡ true
writes_of header task o p access past waits kind region page =
    let leads : leads_at header task access o p (led header task access past) past ≡ true =
    subst (λ (x : Option Entry). leads_at header task access o p x past ≡ true) (sym waits.at.found)
    (and_from (waits.at.entry.region.0 == o) _ (same_test waits.at.entry.region.0 o region)
    (same_test (page_of header task access past waits.at.entry) p page)) in
    subst (λ (x : Option Access). writes_as header task waits.at.host o p x past ≡ true) (sym waits.waits)
    (and_from (is_store access) _ kind (and_from (lives_on waits.at.host task past) _ (lives_test task waits.at.host past waits.at.lives) leads))

-- some task below a number does

any_of : (header : Header) (n task h o p : ℕ) (past : List Event) → task < n → writes header task h o p past ≡ true → any_writes header n h o p past ≡ true
any_of header zero task h o p past less is = absurd (omega (arith, less))
any_of header (suc n) task h o p past less is = elim (cases_lt task n) [
  | inl below ↦ or_right (writes header n h o p past) _ (any_of header n task h o p past below is)
  | inr high ↦
      let same : task ≡ n = omega (arith, less, high) in
      or_left _ (any_writes header n h o p past) (subst (λ (k : ℕ). writes header k h o p past ≡ true) same is)
]

any_is : (header : Header) (n h o p : ℕ) (past : List Event) → any_writes header n h o p past ≡ true
    → (task : ℕ) × (task < n) × (writes header task h o p past ≡ true)
any_is header zero h o p past is = no_true is
any_is header (suc n) h o p past is = elim (or_cases (writes header n h o p past) _ is) [
  | inl here ↦ (n, omega arith, here)
  | inr below ↦ let rest = any_is header n h o p past below in (rest.0, omega (arith, rest.1), rest.2)
]

-- where a page is wanted to be written some store waits for it
pub record Writer (header : Header) (h o p : ℕ) (past : List Event) : Type 0 where
  pub task : ℕ
  pub is : Writing header task h o p past

pub writer_of : (header : Header) (h o p : ℕ) (past : List Event) → is_wanted_to_write header h o p past ≡ true → Writer header h o p past
writer_of header h o p past is =
    let it = any_is header most_tasks h o p past is in record { task = it.0; is = writes_is header it.0 h o p past it.2 }

pub writer_wants : (header : Header) (task o p : ℕ) (access : Access) (past : List Event) → EachEvent (IsOnHosts header) past
    → (waits : Waits header task access past) → is_store access ≡ true → waits.at.entry.region.0 ≡ o
    → page_of header task access past waits.at.entry ≡ p → is_wanted_to_write header waits.at.host o p past ≡ true
writer_wants header task o p access past hosts waits kind region page =
    any_of header most_tasks task waits.at.host o p past (task_below header task waits.at.host past hosts waits.at.lives).0
    (writes_of header task o p access past waits kind region page)

-- Inside a step of a settle nobody begins to wait.

-- a slow copy went on to its next page
pub record WentOn (header : Header) (task : ℕ) (e : Event) (past : List Event) : Type 0 where
  pub index : ℕ
  pub object : ℕ
  pub page : ℕ
  pub target : ℕ
  pub cause : CopiesPage header task index object page target past
  pub host : host_of task (e ∷ past) ≡ host_of task past
  pub entries : entries_of header.size task (e ∷ past) ≡ entries_of header.size task past
  pub waits : waiting task (e ∷ past) ≡ waiting task past
  pub next : next_page task (e ∷ past) ≡ next_page task past + 1
  pub relief : access_relief header e ≡ (if is_shared header object then 0 else 2)

ended : {A : Type 0} (b : Bool) (x : Option Access) (access : Access) → b ≡ true → (if b then None else x) ≡ Some access → A
ended true x access is waits = absurd (let bad : ◌≡◌ {A = Option Access} None (Some access) = waits in cc)
ended false x access is waits = no_true is

went_on : (header : Header) (task : ℕ) (owner : ℕ) (index object page target : ℕ) (past : List Event) (e : Event) → owner ≡ task
    → CopiesPage header owner index object page target past → host_of task (e ∷ past) ≡ host_of task past
    → entries_of header.size task (e ∷ past) ≡ entries_of header.size task past → waiting task (e ∷ past) ≡ waiting task past
    → next_page task (e ∷ past) ≡ (if owner == task then index + 1 else next_page task past)
    → access_relief header e ≡ (if is_shared header object then 0 else 2) → WentOn header task e past
went_on header task owner index object page target past e mine c host entries waits next relief =
    let its : CopiesPage header task index object page target past = subst (λ (k : ℕ). CopiesPage header k index object page target past) mine c in
    let own : (if owner == task then index + 1 else next_page task past) ≡ index + 1 = grind (arith, nat_tests) in
    record {
      index = index;
      object = object;
      page = page;
      target = target;
      cause = its;
      host = host;
      entries = entries;
      waits = waits;
      next = next ∙ own ∙ ap (λ (n : ℕ). n + 1) its.next;
      relief = relief;
    }

pub own_event : (header : Header) (outside : Outside) (task : ℕ) (access : Access) (e : Event) (past : List Event) → HasCause header outside e past
    → MayCome e past → IsInner e → is_of task e ≡ true → waiting task (e ∷ past) ≡ Some access → WentOn header task e past
own_event header outside task access (event.Loaded owner object page value) past c may inner mine waits =
    ended (owner.0 == task) (waiting task past) access mine waits
own_event header outside task access (event.Stored owner object page at bytes value) past c may inner mine waits =
    ended (owner.0 == task) (waiting task past) access mine waits
own_event header outside task access (event.CopyEnded owner) past c may inner mine waits = ended (owner.0 == task) (waiting task past) access mine waits
own_event header outside task access (event.Failed owner object page) past c may inner mine waits =
    ended (owner.0 == task) (waiting task past) access mine waits
own_event header outside task access (event.CopiedPage owner page object object_page target) past c may inner mine waits =
    went_on header task owner.0 page.0 object.0 object_page.0 target.0 past (event.CopiedPage owner page object object_page target)
    (number_is owner.0 task mine) c.1 refl refl refl refl refl
own_event header outside task access (event.Entered owner address bytes region offset prot inherit) past c may inner mine waits =
    let idle : waiting task past ≡ None = subst (λ (k : ℕ). waiting k past ≡ None) (number_is owner.0 task mine) c.1.idle in
    absurd (let bad : ◌≡◌ {A = Option Access} None (Some access) = sym idle ∙ waits in cc)
own_event header outside task access (event.TaskMade made host) past c may inner mine waits = absurd may.0
own_event header outside task access (event.TaskEnded gone) past c may inner mine waits = absurd may.0
own_event header outside task access (event.Removed owner address bytes) past c may inner mine waits = absurd may.0
own_event header outside task access (event.Protected owner address bytes prot) past c may inner mine waits = absurd may.0
own_event header outside task access (event.Inherited owner address bytes inherit) past c may inner mine waits = absurd may.0
own_event header outside task access (event.BegunLoad owner address bytes) past c may inner mine waits = absurd may.0
own_event header outside task access (event.BegunStore owner address bytes value) past c may inner mine waits = absurd may.0
own_event header outside task access (event.BegunCopy owner address bytes to) past c may inner mine waits = absurd may.0
own_event header outside task access e past c may inner mine waits = no_true mine

pub waits_on : (header : Header) (outside : Outside) (task : ℕ) (access : Access) (e : Event) (past : List Event) → HasCause header outside e past
    → MayCome e past → IsInner e → waiting task (e ∷ past) ≡ Some access → IsSame header.size task past (e ∷ past) ⊎ WentOn header task e past
waits_on header outside task access e past c may inner waits = by (is_of task e) refl
  where
    by : (b : Bool) → is_of task e ≡ b → IsSame header.size task past (e ∷ past) ⊎ WentOn header task e past
    by true mine = inr (own_event header outside task access e past c may inner mine waits)
    by false other = inl (same header.size task e past other)

-- whoever waits as before is about the same page

pub found_same : (size : ℕ) (access : Access) (entry : Entry) (n m : ℕ) (rows other : List Entry) → n ≡ m → rows ≡ other
    → entry_at (address_of size n access) rows ≡ Some entry → entry_at (address_of size m access) other ≡ Some entry
found_same size access entry n m rows other next same is =
    subst (λ (k : ℕ). entry_at (address_of size k access) other ≡ Some entry) next
    (subst (λ (r : List Entry). entry_at (address_of size n access) r ≡ Some entry) same is)

abbrev pub waits_back : (header : Header) (task : ℕ) (access : Access) (past now : List Event) → IsSame header.size task past now
    → Waits header task access now → Waits header task access past
waits_back header task access past now same waits =
    record {
      waits = sym same.waits ∙ waits.waits;
      at = record {
        host = waits.at.host;
        entry = waits.at.entry;
        lives = sym same.host ∙ waits.at.lives;
        found = found_same header.size access waits.at.entry (next_page task now) (next_page task past) (entries_of header.size task now)
            (entries_of header.size task past) same.next same.entries waits.at.found;
      };
      left = subst (λ (n : ℕ). HasPageLeft header.size access n) same.next waits.left;
    }

pub page_back : (header : Header) (task : ℕ) (access : Access) (past now : List Event) (entry : Entry) → next_page task now ≡ next_page task past
    → page_of header task access now entry ≡ page_of header task access past entry
page_back header task access past now entry next = ap (λ (n : ℕ). page_at header.size (address_of header.size n access) entry) next

-- so the stores that wait get no more

pub store_copies : (access : Access) (address bytes to : ℕ) → ◌≡◌ {A = Option Access} (Some access) (Some (Copying address bytes to))
    → is_store access ≡ false
store_copies access address bytes to is = let one : access ≡ Copying address bytes to = cc in ap is_store one

writing_back : (header : Header) (task h o p : ℕ) (past now : List Event) → IsSame header.size task past now → Writing header task h o p now
    → Writing header task h o p past
writing_back header task h o p past now alike w =
    record {
      access = w.access;
      waits = waits_back header task w.access past now alike w.waits;
      on_host = w.on_host;
      kind = w.kind;
      region = w.region;
      page = sym (page_back header task w.access past now w.waits.at.entry alike.next) ∙ w.page;
    }

writing_stays : (header : Header) (outside : Outside) (task h o p : ℕ) (e : Event) (past : List Event) → HasCause header outside e past → MayCome e past
    → IsInner e → Writing header task h o p (e ∷ past) → Writing header task h o p past
writing_stays header outside task h o p e past c may inner w = elim (waits_on header outside task w.access e past c may inner w.waits.waits) [
  | inl alike ↦ writing_back header task h o p past (e ∷ past) alike w
  | inr on ↦
      let is : ◌≡◌ {A = Option Access} (Some w.access) (Some (Copying on.cause.address on.cause.bytes on.cause.to)) =
      sym w.waits.waits ∙ on.waits ∙ on.cause.waits.waits in
      no_true (sym (store_copies w.access on.cause.address on.cause.bytes on.cause.to is) ∙ w.kind)
]

writers_back : (header : Header) (n h o p : ℕ) (past now : List Event)
    → ((task : ℕ) → Writing header task h o p now → Writing header task h o p past) → any_writes header n h o p now ≡ true
    → any_writes header n h o p past ≡ true
writers_back header n h o p past now each is =
    let it = any_is header n h o p now is in
    let was = each it.0 (writes_is header it.0 h o p now it.2) in
    any_of header n it.0 h o p past it.1 (subst (λ (k : ℕ). writes header it.0 k o p past ≡ true) was.on_host
    (writes_of header it.0 o p was.access past was.waits was.kind was.region was.page))

pub wanted_stays : (header : Header) (outside : Outside) (h o p : ℕ) (e : Event) (past : List Event) → HasCause header outside e past → MayCome e past
    → IsInner e → is_wanted_to_write header h o p (e ∷ past) ≡ true → is_wanted_to_write header h o p past ≡ true
wanted_stays header outside h o p e past c may inner =
    writers_back header most_tasks h o p past (e ∷ past) (λ task. writing_stays header outside task h o p e past c may inner)

-- and where all wait as before, they are the same
pub wanted_back : (header : Header) (h o p : ℕ) (past now : List Event) → ((task : ℕ) → IsSame header.size task past now)
    → is_wanted_to_write header h o p now ≡ true → is_wanted_to_write header h o p past ≡ true
wanted_back header h o p past now each =
    writers_back header most_tasks h o p past now (λ task. writing_back header task h o p past now (each task))
