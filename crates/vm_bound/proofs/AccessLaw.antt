-- What the accesses that wait may cost by themselves, behind each event inside a step of a settle, and behind a taking.
use Rattle.std.proofs.Common.{ℕ, zero, suc, ◌+◌, ◌-◌, ◌*◌, ◌<◌, ◌≤◌, ◌≡◌, ◌==◌, ◌∙◌, ◌&&◌, ◌||◌, Bool, true, false, List, ◌∷◌, Option, Some, None}
use Rattle.std.proofs.Common.{ap, sym, refl, subst, inl, inr, arith, if◌then◌else◌, not}
use Rattle.std.proofs.Math.Nat.{mul-suc}
use Rattle.std.proofs.lemmas.Bool.{or_left, or_right}
use native.Mathlib.Decide.{ℕ_discrete}
use Rattle.vm_base.specs.Limits.{most_tasks}
use Rattle.vm_base.specs.declared.entry.Entry.{Entry}
use Rattle.vm_base.specs.declared.ids.HostId.{HostId}
use Rattle.vm_base.specs.declared.ids.ObjectId.{ObjectId}
use Rattle.vm_base.specs.declared.ids.PageNo.{PageNo}
use Rattle.vm_bound.proofs.Calm.{KeepsRegion, next_region_same, went_access, went_next}
use Rattle.vm_bound.proofs.LineLaw.{sum_less}
use Rattle.vm_bound.proofs.Owing.{Follows, access_relief}
use Rattle.vm_bound.proofs.Paying.{is_flushed_page}
use Rattle.vm_bound.proofs.SharedMoves.{Goes, IsAsked, IsUnlocked, Moved, Stays}
use Rattle.vm_bound.proofs.SharedPlaces.{cause_of, flush_is, moves, shared_at, unmapped_none}
use Rattle.vm_bound.proofs.Wanting.{task_below}
use Rattle.vm_bound.proofs.Writing.{WentOn, itself, own_event, no_true, page_back, waits_back, waits_on}
use Rattle.vm_bound.specs.Accesses.{access_weight, accesses, entry_weight, later_weight, led, left_weight, pages_left, present_weight, read_weight, turn_weight}
use Rattle.vm_bound.specs.Accesses.{weight_of}
use Rattle.vm_bound.specs.Lines.{sum_below}
use Rattle.vm_legal.specs.Accesses.{HasPageLeft, Waits, page_of}
use Rattle.vm_legal.specs.Licences as L
use Rattle.vm_legal.specs.Licences.{HasCause, LockRequest, Licensed, desired_access, lock_taken}
use Rattle.vm_legal.specs.Outside.{Outside, is_shared}
use Rattle.vm_legal.specs.Walks.{page_on}
use Rattle.vm_model.specs.Controls.{is_control, live_control}
use Rattle.vm_model.specs.Local.{Asks, Elsewhere, Local, LocalEffect, TakesLock, TakesPage, local_after, taken_effect}
use Rattle.vm_model.specs.Moments.{EachEvent}
use Rattle.vm_model.specs.Tasks.{host_of}
use Rattle.vm_model.specs.Waiting.{Access, Copying, Loading, Storing, is_store, next_page, waiting}
use Rattle.vm_model.specs.Words.{in_range}
use Rattle.vm_model.specs.declared.command.Command.TheVariants as command
use Rattle.vm_model.specs.declared.event.Event.{Event}
use Rattle.vm_model.specs.declared.event.Event.TheVariants as event
use Rattle.vm_model.specs.declared.message.Channel.{Channel}
use Rattle.vm_model.specs.declared.message.Channel.TheVariants.{Up, Down}
use Rattle.vm_model.specs.declared.message.Message.{Message}
use Rattle.vm_model.specs.declared.message.Message.TheVariants as message
use Rattle.vm_model.specs.declared.script.Header.{Header}
use Rattle.vm_shared.proofs.Declared.{declared_top_own, shared_declared}
use Rattle.vm_shared.proofs.Flat.{shared_no_file}
use Rattle.vm_shared.proofs.Numbering.{ComesOwn, IsOwn, at_made, comes_own, numbering}
use Rattle.vm_shared.proofs.Servers.{IsServers, taken_servers}
use Rattle.vm_shared.proofs.Waiters.{IsSame, same}

-- Sums.

-- where one of them falls by so much, and none rises, the sum falls by so much
sum_falls : (n t r : ℕ) (f g : ℕ → ℕ) → t < n → ((i : ℕ) → f i ≤ g i) → f t + r ≤ g t → sum_below n f + r ≤ sum_below n g
sum_falls zero t r f g less each falls = absurd (omega (arith, less))
sum_falls (suc n) t r f g less each falls = elim (ℕ_discrete t n) [
  | yes is ↦
      let here : f n + r ≤ g n = subst (λ (k : ℕ). f k + r ≤ g k) is falls in
      let rest = sum_less n f g each in
      omega (arith, here, rest)
  | no isnt ↦
      let one = each n in
      let rest = sum_falls n t r f g (omega (arith, less, isnt)) each falls in
      omega (arith, one, rest)
]

-- What an access that waits weighs.

-- the pages behind the present one
abbrev pub behind : ℕ → Access → ℕ → ℕ
behind size access next = pages_left size access next - 1

some_left : (size : ℕ) (access : Access) (next : ℕ) → HasPageLeft size access next → pages_left size access next ≡ suc (behind size access next)
some_left size (Loading address bytes) next left = refl
some_left size (Storing address bytes value) next left = refl
some_left size (Copying address bytes to) next left = omega (arith, left)

entry_is : (header : Header) (task host : ℕ) (access : Access) (entry : Entry) (past : List Event) → HasPageLeft header.size access (next_page task past)
    → entry_weight header task host access (Some entry) past
    ≡ 4 + present_weight header host access entry.region.0 (page_of header task access past entry) past
    + later_weight header access (behind header.size access (next_page task past))
entry_is header task host access entry past left =
    ap (λ (n : ℕ). left_weight header task host access entry n past) (some_left header.size access (next_page task past) left)

weight_is : (header : Header) (task : ℕ) (access : Access) (past : List Event) → (waits : Waits header task access past)
    → access_weight header task past
    ≡ 4 + present_weight header waits.at.host access waits.at.entry.region.0 (page_of header task access past waits.at.entry) past
    + later_weight header access (behind header.size access (next_page task past))
weight_is header task access past waits =
    ap (λ (x : Option Access). weight_of header task x (host_of task past) past) waits.waits
    ∙ ap (λ (x : Option ℕ). weight_of header task (Some access) x past) waits.at.lives
    ∙ ap (λ (x : Option Entry). entry_weight header task waits.at.host access x past) waits.at.found
    ∙ entry_is header task waits.at.host access waits.at.entry past waits.left

-- what weighs something waits somewhere
pub record SomeWaits (header : Header) (task : ℕ) (past : List Event) : Type 0 where
  pub access : Access
  pub waits : Waits header task access past

left_some : (size : ℕ) (access : Access) (next : ℕ) → 0 < pages_left size access next → HasPageLeft size access next
left_some size (Loading address bytes) next some = tt
left_some size (Storing address bytes value) next some = tt
left_some size (Copying address bytes to) next some = omega (arith, some)

weighs_left : (header : Header) (task host : ℕ) (access : Access) (entry : Entry) (n : ℕ) (past : List Event)
    → 0 < left_weight header task host access entry n past → 0 < n
weighs_left header task host access entry zero past some = some
weighs_left header task host access entry (suc n) past some = omega arith

weighs_at : (header : Header) (task host : ℕ) (access : Access) (past : List Event) → waiting task past ≡ Some access → host_of task past ≡ Some host
    → (x : Option Entry) → led header task access past ≡ x → 0 < entry_weight header task host access x past → SomeWaits header task past
weighs_at header task host access past waits lives None found some = absurd (omega (arith, some))
weighs_at header task host access past waits lives (Some entry) found some =
    record {
      access = access;
      waits = record {
        waits = waits;
        at = record { host = host; entry = entry; lives = lives; found = found };
        left = left_some header.size access (next_page task past)
            (weighs_left header task host access entry (pages_left header.size access (next_page task past)) past some);
      };
    }

weighs_of : (header : Header) (task : ℕ) (past : List Event) (x : Option Access) (y : Option ℕ) → waiting task past ≡ x → host_of task past ≡ y
    → 0 < weight_of header task x y past → SomeWaits header task past
weighs_of header task past None y waits lives some = absurd (omega (arith, some))
weighs_of header task past (Some access) None waits lives some = absurd (omega (arith, some))
weighs_of header task past (Some access) (Some host) waits lives some =
    weighs_at header task host access past waits lives (led header task access past) refl some

weighs : (header : Header) (task : ℕ) (past : List Event) → 0 < access_weight header task past → SomeWaits header task past
weighs header task past some = weighs_of header task past (waiting task past) (host_of task past) refl refl some

-- an access that doesn't wait weighs nothing
idle_weight : (header : Header) (task : ℕ) (past : List Event) → waiting task past ≡ None → access_weight header task past ≡ 0
idle_weight header task past idle = ap (λ (x : Option Access). weight_of header task x (host_of task past) past) idle

-- it is enough to look at who waits
by_some : (n r k : ℕ) → (0 < n → n + r ≤ k) → r ≤ k → n + r ≤ k
by_some zero r k some none = omega (arith, none)
by_some (suc n) r k some none = some (omega arith)

-- The present page.

read_less : (header : Header) (now was : Local) → ((was.here || was.asked) ≡ true → (now.here || now.asked) ≡ true)
    → read_weight header now ≤ read_weight header was
read_less header now was stays = by (now.here || now.asked) (was.here || was.asked) stays
  where
    by : (b c : Bool) → (c ≡ true → b ≡ true) → (if b then 0 else 2 * turn_weight header) ≤ (if c then 0 else 2 * turn_weight header)
    by true c stays = omega arith
    by false true stays = no_true (stays refl)
    by false false stays = omega arith

present_less : (header : Header) (h region page : ℕ) (access : Access) (now past : List Event)
    → (is_shared header region ≡ true → is_store access ≡ false
    → read_weight header (page_on header h region page now) ≤ read_weight header (page_on header h region page past))
    → present_weight header h access region page now ≤ present_weight header h access region page past
present_less header h region page access now past less =
    by (is_shared header region) (is_store access) (read_weight header (page_on header h region page now))
    (read_weight header (page_on header h region page past)) less
  where
    by : (s w : Bool) (m n : ℕ) → (s ≡ true → w ≡ false → m ≤ n) → (if s && not w then m else 0) ≤ (if s && not w then n else 0)
    by true false m n less = less refl refl
    by true true m n less = omega arith
    by false w m n less = omega arith

-- whoever waits as before weighs no more, where its page is still here or asked
same_less : (header : Header) (task : ℕ) (access : Access) (past now : List Event) → (alike : IsSame header.size task past now)
    → (waits : Waits header task access now)
    → (is_shared header waits.at.entry.region.0 ≡ true → is_store access ≡ false
    → read_weight header (page_on header waits.at.host waits.at.entry.region.0 (page_of header task access past waits.at.entry) now)
    ≤ read_weight header (page_on header waits.at.host waits.at.entry.region.0 (page_of header task access past waits.at.entry) past))
    → access_weight header task now ≤ access_weight header task past
same_less header task access past now alike waits less =
    let after = weight_is header task access now waits in
    let before = weight_is header task access past (waits_back header task access past now alike waits) in
    let page = page_back header task access past now waits.at.entry alike.next in
    let one = present_less header waits.at.host waits.at.entry.region.0 (page_of header task access past waits.at.entry) access now past less in
    let two = ap (λ (q : ℕ). present_weight header waits.at.host access waits.at.entry.region.0 q now) page in
    let three = ap (λ (n : ℕ). later_weight header access (behind header.size access n)) alike.next in
    omega (arith, after, before, one, two, three)

-- Inside a step.

-- the lock of a flush
record FlushOf (h : ℕ) (past : List Event) : Type 0 where
  request : LockRequest
  taken : lock_taken past ≡ Some request
  host : h ≡ request.host

flush_of : (h o p : ℕ) (past : List Event) → is_flushed_page h o p (lock_taken past) ≡ true → FlushOf h past
flush_of h o p past flushed = by (lock_taken past) refl flushed
  where
    by : (x : Option LockRequest) → lock_taken past ≡ x → is_flushed_page h o p x ≡ true → FlushOf h past
    by None taken is = no_true is
    by (Some r) taken is = record { request = r; taken = taken; host = (flush_is h o p r is).1 }

-- a page for which a reader waits stays here or asked
seen_stays : (header : Header) (outside : Outside) (count : ℕ) (e : Event) (past : List Event) → Follows header outside count e past → (task : ℕ)
    (access : Access) → (waits : Waits header task access past) → is_shared header waits.at.entry.region.0 ≡ true → is_store access ≡ false
    → (now : Local) (asked pays opens : ℕ)
    → Moved header waits.at.host waits.at.entry.region.0 (page_of header task access past waits.at.entry) past now asked pays opens
    → ((page_on header waits.at.host waits.at.entry.region.0 (page_of header task access past waits.at.entry) past).here
    || (page_on header waits.at.host waits.at.entry.region.0 (page_of header task access past waits.at.entry) past).asked) ≡ true
    → (now.here || now.asked) ≡ true
seen_stays header outside count e past f task access waits shared reads now asked pays opens (Stays alike for_ none free) seen =
    both now.here _ now.asked _ alike.here alike.asked seen
  where
    both : (a b c d : Bool) → a ≡ b → c ≡ d → (b || d) ≡ true → (a || c) ≡ true
    both a b c d one two is = rw (one, two) is
seen_stays header outside count e past f task access waits shared reads now asked pays opens (IsAsked away unasked gone now_asked writes paid opened) seen =
    or_right now.here now.asked now_asked
seen_stays header outside count e past f task access waits shared reads now asked pays opens
    (IsUnlocked here locked none stands lock out writes kept paid free) seen = or_left now.here now.asked stands
seen_stays header outside count e past f task access waits shared reads now asked pays opens (Goes here gone unasked for_ none free (inl flushed)) seen =
    let it = flush_of waits.at.host waits.at.entry.region.0 (page_of header task access past waits.at.entry) past flushed in
    no_true (sym (f.calm it.request task access it.taken waits it.host shared reads) ∙ here)
seen_stays header outside count e past f task access waits shared reads now asked pays opens (Goes here gone unasked for_ none free (inr unmapped)) seen =
    absurd (unmapped_none header waits.at.host waits.at.entry.region.0 task access past unmapped waits refl refl)

-- whoever waits as before weighs no more
same_step : (header : Header) (outside : Outside) (count : ℕ) (e : Event) (past : List Event) → Follows header outside count e past → (task : ℕ)
    (access : Access) → IsSame header.size task past (e ∷ past) → Waits header task access (e ∷ past)
    → access_weight header task (e ∷ past) ≤ access_weight header task past
same_step header outside count e past f task access alike waits =
    let was = waits_back header task access past (e ∷ past) alike waits in
    same_less header task access past (e ∷ past) alike waits
    (λ shared reads. read_less header (page_on header waits.at.host waits.at.entry.region.0 (page_of header task access past waits.at.entry) (e ∷ past))
    (page_on header waits.at.host waits.at.entry.region.0 (page_of header task access past waits.at.entry) past)
    (seen_stays header outside count e past f task access (waits_back header task access past (e ∷ past) alike waits) shared reads _ _ _ _
    (moves header outside count waits.at.host waits.at.entry.region.0 (page_of header task access past waits.at.entry) e past f shared)))

-- a slow copy that goes on

present_most : (header : Header) (h region page : ℕ) (access : Access) (past : List Event)
    → present_weight header h access region page past ≤ 2 * turn_weight header
present_most header h region page access past =
    by (is_shared header region && not (is_store access))
    ((page_on header h region page past).here || (page_on header h region page past).asked)
  where
    by : (b c : Bool) → (if b then (if c then 0 else 2 * turn_weight header) else 0) ≤ 2 * turn_weight header
    by true true = omega arith
    by true false = omega arith
    by false c = omega arith

present_apart : (header : Header) (h region page : ℕ) (access : Access) (past : List Event) → is_shared header region ≡ false
    → present_weight header h access region page past ≡ 0
present_apart header h region page access past apart =
    by (is_shared header region) (read_weight header (page_on header h region page past)) apart
  where
    by : (b : Bool) (n : ℕ) → b ≡ false → (if b && not (is_store access) then n else 0) ≡ 0
    by true n is = no_true (sym is)
    by false n is = refl

grows : (turn k m : ℕ) → m ≡ suc k → 2 * turn * m ≡ 2 * turn * k + 2 * turn
grows turn k m more = ap (λ (n : ℕ). 2 * turn * n) more ∙ mul-suc (2 * turn) k

goes_on : (turn now was k m : ℕ) (shared : Bool) → 1 ≤ turn → now ≤ 2 * turn → (shared ≡ false → now ≡ 0) → m ≡ suc k
    → 4 + now + 2 * turn * k + (if shared then 0 else 2) ≤ 4 + was + 2 * turn * m
goes_on turn now was k m true one most none more = let rise = grows turn k m more in omega (arith, most, rise)
goes_on turn now was k m false one most none more =
    let rise = grows turn k m more in
    let zero_now = none refl in
    omega (arith, one, zero_now, rise)

one_turn : (header : Header) → 1 ≤ turn_weight header
one_turn header = omega arith

-- the object of the page that is copied is its region
copied_object : (header : Header) (outside : Outside) (count : ℕ) (e : Event) (past : List Event) → Follows header outside count e past → (task : ℕ)
    → (on : WentOn header task e past) → on.cause.waits.at.entry.region.0 ≡ on.object
copied_object header outside count e past f task on =
    let c = on.cause in
    let own : IsOwn c.waits.at.entry.region.0 (page_of header task (Copying c.address c.bytes c.to) past c.waits.at.entry) on.object on.page =
    declared_top_own header past c.waits.at.entry.region.0 (page_of header task (Copying c.address c.bytes c.to) past c.waits.at.entry) on.object on.page
    (numbering header outside past f.causes).numbered c.declared c.is_top in
    own.region

went_less : (header : Header) (outside : Outside) (count : ℕ) (e : Event) (past : List Event) → Follows header outside count e past
    → KeepsRegion header past → (task : ℕ) (access : Access) → WentOn header task e past → Waits header task access (e ∷ past)
    → access_weight header task (e ∷ past) + access_relief header e ≤ access_weight header task past
went_less header outside count e past f keeps task access on waits =
    let c = on.cause in
    let is = went_access header task access e past on waits.waits in
    let it = went_next header task access e past on waits in
    let region = next_region_same header task access e past keeps on waits in
    let object = copied_object header outside count e past f task on in
    let q : ℕ = page_of header task access (e ∷ past) waits.at.entry in
    let after = weight_is header task access (e ∷ past) waits in
    let before = weight_is header task (Copying c.address c.bytes c.to) past c.waits in
    let later = ap (λ (a : Access). later_weight header a (behind header.size a (next_page task (e ∷ past)))) is
    ∙ ap (λ (n : ℕ). 2 * turn_weight header * behind header.size (Copying c.address c.bytes c.to) n) on.next in
    let most = present_most header waits.at.host waits.at.entry.region.0 q access (e ∷ past) in
    let left = it.left in
    let sum = goes_on (turn_weight header) (present_weight header waits.at.host access waits.at.entry.region.0 q (e ∷ past))
    (present_weight header c.waits.at.host (Copying c.address c.bytes c.to) c.waits.at.entry.region.0
    (page_of header task (Copying c.address c.bytes c.to) past c.waits.at.entry) past)
    (behind header.size (Copying c.address c.bytes c.to) (next_page task past + 1)) (behind header.size (Copying c.address c.bytes c.to) (next_page task past))
    (is_shared header on.object) (one_turn header) most
    (λ apart. present_apart header waits.at.host waits.at.entry.region.0 q access (e ∷ past) (ap (is_shared header) (region ∙ object) ∙ apart))
    (omega (arith, left)) in
    let relief = on.relief in
    omega (arith, after, before, later, sum, relief)

-- the weights of all

each_less : (header : Header) (outside : Outside) (count : ℕ) (e : Event) (past : List Event) → Follows header outside count e past
    → KeepsRegion header past → (task : ℕ) → access_weight header task (e ∷ past) ≤ access_weight header task past
each_less header outside count e past f keeps task =
    let le = by_some (access_weight header task (e ∷ past)) 0 (access_weight header task past) (λ some. less (weighs header task (e ∷ past) some)) (omega arith)
    in
    omega (arith, le)
  where
    less : SomeWaits header task (e ∷ past) → access_weight header task (e ∷ past) + 0 ≤ access_weight header task past
    less w =
        elim (waits_on header outside task w.access e past (cause_of header outside count e past f) f.may f.inner w.waits.waits) [
          | inl alike ↦ let le = same_step header outside count e past f task w.access alike w.waits in omega (arith, le)
          | inr on ↦ let le = went_less header outside count e past f keeps task w.access on w.waits in omega (arith, le)
        ]

-- the events with a relief

law_falls : (header : Header) (outside : Outside) (count : ℕ) (e : Event) (past : List Event) → Follows header outside count e past
    → KeepsRegion header past → (task : ℕ) (access : Access) → Waits header task access past
    → access_weight header task (e ∷ past) + access_relief header e ≤ access_weight header task past
    → accesses header (e ∷ past) + access_relief header e ≤ accesses header past
law_falls header outside count e past f keeps task access waits falls =
    sum_falls most_tasks task (access_relief header e) (λ i. access_weight header i (e ∷ past)) (λ i. access_weight header i past)
    (task_below header task waits.at.host past f.hosts.1 waits.at.lives).0 (each_less header outside count e past f keeps) falls

-- an access that ends
ends_less : (header : Header) (task : ℕ) (access : Access) (e : Event) (past : List Event) → Waits header task access past → waiting task (e ∷ past) ≡ None
    → access_relief header e ≡ 4 → access_weight header task (e ∷ past) + access_relief header e ≤ access_weight header task past
ends_less header task access e past waits idle four =
    let none = idle_weight header task (e ∷ past) idle in
    let was = weight_is header task access past waits in
    omega (arith, none, was, four)

own_ended : (task : ℕ) (x : Option Access) → (if task == task then None else x) ≡ None
own_ended task x = by (task == task) (itself task)
  where
    by : (b : Bool) → b ≡ true → (if b then None else x) ≡ None
    by true is = refl
    by false is = no_true is

no_more : (a b r : ℕ) → r ≡ 0 → a ≤ b → a + r ≤ b
no_more a b r none le = omega (arith, none, le)

law_plain : (header : Header) (outside : Outside) (count : ℕ) (e : Event) (past : List Event) → Follows header outside count e past
    → KeepsRegion header past → access_relief header e ≡ 0 → accesses header (e ∷ past) + access_relief header e ≤ accesses header past
law_plain header outside count e past f keeps none =
    no_more (accesses header (e ∷ past)) (accesses header past) (access_relief header e) none
    (sum_less most_tasks (λ i. access_weight header i (e ∷ past)) (λ i. access_weight header i past) (each_less header outside count e past f keeps))

-- a slow copy that goes on

copies_less : (header : Header) (outside : Outside) (count : ℕ) (task : ℕ) (e : Event) (past : List Event) → Follows header outside count e past
    → KeepsRegion header past → (access : Access) → Waits header task access past → access_relief header e ≤ 4
    → ((later : Access) → Waits header task later (e ∷ past) → WentOn header task e past)
    → access_weight header task (e ∷ past) + access_relief header e ≤ access_weight header task past
copies_less header outside count task e past f keeps access waits few went =
    by_some (access_weight header task (e ∷ past)) (access_relief header e) (access_weight header task past)
    (λ some. less (weighs header task (e ∷ past) some)) (was (weight_is header task access past waits))
  where
    less : SomeWaits header task (e ∷ past) → access_weight header task (e ∷ past) + access_relief header e ≤ access_weight header task past
    less w = went_less header outside count e past f keeps task w.access (went w.access w.waits) w.waits

    was : access_weight header task past
        ≡ 4 + present_weight header waits.at.host access waits.at.entry.region.0 (page_of header task access past waits.at.entry) past
        + later_weight header access (behind header.size access (next_page task past)) → access_relief header e ≤ access_weight header task past
    was is = omega (arith, few, is)

few_copied : (b : Bool) → (if b then 0 else 2) ≤ 4
few_copied true = omega arith
few_copied false = omega arith

-- a request to read

asked_then : (size : ℕ) (a b c k : Bool) (was : Local) → a ≡ true → b ≡ true → c ≡ true → k ≡ true
    → (local_after size (if a && b then (if c && k then Asks else Elsewhere) else Elsewhere) was).asked ≡ true
asked_then size true true true true was one two three four = refl
asked_then size false b c k was one two three four = no_true one
asked_then size true false c k was one two three four = no_true two
asked_then size true true false k was one two three four = no_true three
asked_then size true true true false was one two three four = no_true four

read_none : (header : Header) (page : Local) → page.asked ≡ true → read_weight header page ≡ 0
read_none header page asked = by page.here page.asked asked
  where
    by : (b c : Bool) → c ≡ true → (if b || c then 0 else 2 * turn_weight header) ≡ 0
    by true true is = refl
    by false true is = refl
    by b false is = no_true is

read_all : (header : Header) (page : Local) → page.here ≡ false → page.asked ≡ false → read_weight header page ≡ 2 * turn_weight header
read_all header page away unasked = by page.here page.asked away unasked
  where
    by : (b c : Bool) → b ≡ false → c ≡ false → (if b || c then 0 else 2 * turn_weight header) ≡ 2 * turn_weight header
    by false false one two = refl
    by true c one two = no_true (sym one)
    by b true one two = no_true (sym two)

present_read : (header : Header) (h region page : ℕ) (access : Access) (past : List Event) → is_shared header region ≡ true → is_store access ≡ false
    → present_weight header h access region page past ≡ read_weight header (page_on header h region page past)
present_read header h region page access past shared reads =
    by (is_shared header region) (is_store access) (read_weight header (page_on header h region page past)) shared reads
  where
    by : (s w : Bool) (n : ℕ) → s ≡ true → w ≡ false → (if s && not w then n else 0) ≡ n
    by true false n one two = refl
    by false w n one two = no_true one
    by s true n one two = no_true (sym two)

reads_of : (access : Access) (steps wanted : ℕ) → wanted ≡ desired_access access steps → steps ≡ 0 → (wanted == 3) ≡ false → is_store access ≡ false
reads_of access steps wanted number none apart = by (is_store access) (number ∙ ap (desired_access access) none) apart
  where
    by : (b : Bool) → wanted ≡ (if b then 3 else 1) → (wanted == 3) ≡ false → b ≡ false
    by false number apart = refl
    by true number apart = no_true (sym apart ∙ ap (λ (n : ℕ). n == 3) number)

-- the access asks at its own place
record AsksOwn (header : Header) (host object page : ℕ) (past : List Event) : Type 0 where
  task : ℕ
  access : Access
  waits : Waits header task access past
  host_is : waits.at.host ≡ host
  region : waits.at.entry.region.0 ≡ object
  page_is : page_of header task access past waits.at.entry ≡ page
  reads : is_store access ≡ false

asks_own : (header : Header) (outside : Outside) (h control o p wanted : ℕ) (past : List Event) → EachEvent (HasCause header outside) past
    → is_shared header o ≡ true → (wanted == 3) ≡ false → L.Asks header h control o p wanted past → AsksOwn header h o p past
asks_own header outside h control o p wanted past caused shared apart c =
    let num = numbering header outside past caused in
    let own : ComesOwn _ _ c.comes.steps o p = comes_own header past h c.waits.at.entry.region.0 (page_of header c.task c.access past c.waits.at.entry) o p num
    (shared_declared header o shared) (shared_no_file header o shared) (at_made header c.task _ past num.made c.waits.at) c.comes in
    record {
      task = c.task;
      access = c.access;
      waits = c.waits;
      host_is = c.on_host;
      region = own.own.region;
      page_is = own.own.page;
      reads = reads_of c.access c.comes.steps wanted c.number own.steps apart;
    }

asks_weight : (header : Header) (h o p : ℕ) (e : Event) (past : List Event) → (own : AsksOwn header h o p past)
    → IsSame header.size own.task (e ∷ past) past → is_shared header o ≡ true → (page_on header h o p past).here ≡ false
    → (page_on header h o p past).asked ≡ false → (page_on header h o p (e ∷ past)).asked ≡ true
    → access_weight header own.task (e ∷ past) + 2 * turn_weight header ≤ access_weight header own.task past
asks_weight header h o p e past own alike shared away unasked asked =
    let w = own.waits in
    let q : ℕ = page_of header own.task own.access past w.at.entry in
    let its = subst (λ (k : ℕ). is_shared header k ≡ true) (sym own.region) shared in
    let after = weight_is header own.task own.access (e ∷ past) (waits_back header own.task own.access (e ∷ past) past alike w) in
    let before = weight_is header own.task own.access past w in
    let page = page_back header own.task own.access (e ∷ past) past w.at.entry alike.next in
    let one = ap (λ (x : ℕ). present_weight header w.at.host own.access w.at.entry.region.0 x (e ∷ past)) page in
    let now = present_read header w.at.host w.at.entry.region.0 q own.access (e ∷ past) its own.reads
    ∙ at_own (λ g k j. page_on header g k j (e ∷ past)) ∙ read_none header (page_on header h o p (e ∷ past)) asked in
    let was = present_read header w.at.host w.at.entry.region.0 q own.access past its own.reads
    ∙ at_own (λ g k j. page_on header g k j past) ∙ read_all header (page_on header h o p past) away unasked in
    let later = ap (λ (n : ℕ). later_weight header own.access (behind header.size own.access n)) alike.next in
    omega (arith, after, before, one, now, was, later)
  where
    at_own : (page : ℕ → ℕ → ℕ → Local)
        → read_weight header (page own.waits.at.host own.waits.at.entry.region.0 (page_of header own.task own.access past own.waits.at.entry))
        ≡ read_weight header (page h o p)
    at_own page =
        ap (λ (g : ℕ). read_weight header (page g own.waits.at.entry.region.0 (page_of header own.task own.access past own.waits.at.entry))) own.host_is
        ∙ ap (λ (k : ℕ). read_weight header (page h k (page_of header own.task own.access past own.waits.at.entry))) own.region
        ∙ ap (λ (j : ℕ). read_weight header (page h o j)) own.page_is

asks_falls : (header : Header) (outside : Outside) (count : ℕ) (host : HostId) (object : ObjectId) (control : ℕ) (page : PageNo) (wanted : ℕ)
    (past : List Event) → Follows header outside count (event.Sent (Up host object) (message.Request control page wanted)) past → KeepsRegion header past
    → is_shared header object.0 ≡ true → (wanted == 3) ≡ false
    → accesses header (event.Sent (Up host object) (message.Request control page wanted) ∷ past) + 2 * turn_weight header ≤ accesses header past
asks_falls header outside count host object control page wanted past f keeps shared apart =
    let c : L.Asks header host.0 control object.0 page.0 wanted past = f.licensed.0 in
    let own = asks_own header outside host.0 control object.0 page.0 wanted past f.causes shared apart c in
    let live : is_control control (live_control host.0 object.0 past) ≡ true = ap (is_control control) c.live ∙ itself control in
    let asked = asked_then header.size (host.0 == host.0) (object.0 == object.0) (page.0 == page.0) (is_control control (live_control host.0 object.0 past))
    (page_on header host.0 object.0 page.0 past) (itself host.0) (itself object.0) (itself page.0) live in
    sum_falls most_tasks own.task (2 * turn_weight header)
    (λ i. access_weight header i (event.Sent (Up host object) (message.Request control page wanted) ∷ past)) (λ i. access_weight header i past)
    (task_below header own.task own.waits.at.host past f.hosts.1 own.waits.at.lives).0
    (each_less header outside count (event.Sent (Up host object) (message.Request control page wanted)) past f keeps)
    (asks_weight header host.0 object.0 page.0 (event.Sent (Up host object) (message.Request control page wanted)) past own
    (record { host = refl; entries = refl; waits = refl; next = refl }) shared c.away c.unasked asked)

law_asks : (header : Header) (outside : Outside) (count : ℕ) (host : HostId) (object : ObjectId) (control : ℕ) (page : PageNo) (wanted : ℕ)
    (past : List Event) → Follows header outside count (event.Sent (Up host object) (message.Request control page wanted)) past → KeepsRegion header past
    → accesses header (event.Sent (Up host object) (message.Request control page wanted) ∷ past)
    + access_relief header (event.Sent (Up host object) (message.Request control page wanted)) ≤ accesses header past
law_asks header outside count host object control page wanted past f keeps =
    by (is_shared header object.0) (wanted == 3) (asks_falls header outside count host object control page wanted past f keeps)
    (sum_less most_tasks (λ i. access_weight header i (event.Sent (Up host object) (message.Request control page wanted) ∷ past))
    (λ i. access_weight header i past)
    (each_less header outside count (event.Sent (Up host object) (message.Request control page wanted)) past f keeps))
  where
    by : (s t : Bool)
        → (s ≡ true → t ≡ false
        → accesses header (event.Sent (Up host object) (message.Request control page wanted) ∷ past) + 2 * turn_weight header ≤ accesses header past)
        → accesses header (event.Sent (Up host object) (message.Request control page wanted) ∷ past) ≤ accesses header past
        → accesses header (event.Sent (Up host object) (message.Request control page wanted) ∷ past) + (if s && not t then 2 * turn_weight header else 0)
        ≤ accesses header past
    by true false falls less = falls refl refl
    by true true falls less = no_more _ (accesses header past) 0 refl less
    by false t falls less = no_more _ (accesses header past) 0 refl less

law_sent : (header : Header) (outside : Outside) (count : ℕ) (host : HostId) (object : ObjectId) (m : Message) (past : List Event)
    → Follows header outside count (event.Sent (Up host object) m) past → KeepsRegion header past
    → accesses header (event.Sent (Up host object) m ∷ past) + access_relief header (event.Sent (Up host object) m) ≤ accesses header past
law_sent header outside count host object (message.Request control page wanted) past f keeps =
    law_asks header outside count host object control page wanted past f keeps
law_sent header outside count host object m past f keeps = law_plain header outside count (event.Sent (Up host object) m) past f keeps refl

fails_waits : (header : Header) (task object page : ℕ) (past : List Event) → L.Fails header task object page past → SomeWaits header task past
fails_waits header task object page past (L.ByError c) = record { access = c.access; waits = c.waits }
fails_waits header task object page past (L.Unserved c) = record { access = c.access; waits = c.waits }

-- The law: what the accesses may cost by themselves never rises, and falls by what an event pays.
pub access_law : (header : Header) (outside : Outside) (count : ℕ) (e : Event) (past : List Event) → Follows header outside count e past
    → KeepsRegion header past → accesses header (e ∷ past) + access_relief header e ≤ accesses header past
access_law header outside count (event.Loaded task object page value) past f keeps =
    let c : L.Loads header task.0 object.0 page.0 past = f.licensed.0 in
    law_falls header outside count (event.Loaded task object page value) past f keeps task.0 (Loading c.address c.bytes) c.waits
    (ends_less header task.0 (Loading c.address c.bytes) (event.Loaded task object page value) past c.waits (own_ended task.0 (waiting task.0 past)) refl)
access_law header outside count (event.Stored task object page at bytes value) past f keeps =
    let c : L.Stores header task.0 object.0 page.0 at bytes value past = f.licensed.0 in
    law_falls header outside count (event.Stored task object page at bytes value) past f keeps task.0 (Storing c.address bytes value) c.waits
    (ends_less header task.0 (Storing c.address bytes value) (event.Stored task object page at bytes value) past c.waits
    (own_ended task.0 (waiting task.0 past)) refl)
access_law header outside count (event.Failed task object page) past f keeps =
    let w = fails_waits header task.0 object.0 page.0 past f.licensed.0 in
    law_falls header outside count (event.Failed task object page) past f keeps task.0 w.access w.waits
    (ends_less header task.0 w.access (event.Failed task object page) past w.waits (own_ended task.0 (waiting task.0 past)) refl)
access_law header outside count (event.CopiedPage task page object object_page target) past f keeps =
    let c : L.CopiesPage header task.0 page.0 object.0 object_page.0 target.0 past = f.licensed.0 in
    law_falls header outside count (event.CopiedPage task page object object_page target) past f keeps task.0 (Copying c.address c.bytes c.to) c.waits
    (copies_less header outside count task.0 (event.CopiedPage task page object object_page target) past f keeps (Copying c.address c.bytes c.to) c.waits
    (few_copied (is_shared header object.0))
    (λ later waits. own_event header outside task.0 later (event.CopiedPage task page object object_page target) past
    (cause_of header outside count (event.CopiedPage task page object object_page target) past f) f.may f.inner (itself task.0) waits.waits))
access_law header outside count (event.Sent (Up host object) m) past f keeps = law_sent header outside count host object m past f keeps
access_law header outside count e past f keeps = law_plain header outside count e past f keeps refl

-- Behind a taking.

-- a page of shared memory that is here or asked is so still
abbrev Seen : Local → Type 0
Seen page = (page.here || page.asked) ≡ true

seen_supply : (size lock : ℕ) (precious : Bool) (bytes : List ℕ) (t i : Bool) (was : Local) → Seen was
    → Seen (local_after size (if t then (if i then TakesPage lock precious bytes else Elsewhere) else Elsewhere) was)
seen_supply size lock precious bytes true true was seen = by was.asked
  where
    by : (b : Bool) → Seen (if b then record was {
      here = true;
      bytes = bytes;
      lock = lock;
      dirty = false;
      precious = precious;
      unlocking = false;
      asked = false;
    } else was)
    by true = refl
    by false = seen
seen_supply size lock precious bytes true false was seen = seen
seen_supply size lock precious bytes false i was seen = seen

seen_lock : (size lock : ℕ) (flush t i : Bool) (was : Local) → Seen was
    → Seen (local_after size (if t then (if i then TakesLock lock flush else Elsewhere) else Elsewhere) was)
seen_lock size lock flush true true was seen = by was.here
  where
    by : (b : Bool) → Seen (if b then record was { lock = if flush || lock == 8 then was.lock else lock; unlocking = false } else was)
    by true = seen
    by false = seen
seen_lock size lock flush true false was seen = seen
seen_lock size lock flush false i was seen = seen

seen_not : (size : ℕ) (t : Bool) (e : LocalEffect) (was : Local) → (t ≡ true → ⊥) → Seen was → Seen (local_after size (if t then e else Elsewhere) was)
seen_not size true e was isnt seen = absurd (isnt refl)
seen_not size false e was isnt seen = seen

seen_else : (size : ℕ) (t : Bool) (was : Local) → Seen was → Seen (local_after size (if t then Elsewhere else Elsewhere) was)
seen_else size true was seen = seen
seen_else size false was seen = seen

-- its server sends no such word
server_says : (header : Header) (outside : Outside) (count h o : ℕ) (host : HostId) (object : ObjectId) (control : ℕ) (m : Message) (past : List Event)
    → EachEvent (HasCause header outside) past → Licensed header outside (command.Settle count) (event.Taken (Down host object control) m) past
    → is_shared header o ≡ true → (k : Bool) → (host.0 == h && (object.0 == o && k)) ≡ true → IsServers m
server_says header outside count h o host object control m past caused c shared k is =
    taken_servers header outside host object control m past caused c.0.0 (shared_at header object.0 o (second_is (host.0 == h) (object.0 == o) k is) shared)
  where
    second_is : (a b c : Bool) → (a && (b && c)) ≡ true → b ≡ true
    second_is a b c is = grind arith

taken_seen : (header : Header) (outside : Outside) (count h o p : ℕ) (channel : Channel) (m : Message) (past : List Event)
    → EachEvent (HasCause header outside) past → Licensed header outside (command.Settle count) (event.Taken channel m) past → is_shared header o ≡ true
    → Seen (page_on header h o p past) → Seen (page_on header h o p (event.Taken channel m ∷ past))
taken_seen header outside count h o p (Up host object) m past caused c shared seen = seen
taken_seen header outside count h o p (Down host object control) (message.Supply page lock precious bytes) past caused c shared seen =
    seen_supply header.size lock precious bytes (host.0 == h && (object.0 == o && is_control control (live_control h o past))) (page.0 == p)
    (page_on header h o p past) seen
taken_seen header outside count h o p (Down host object control) (message.Lock page range returns flush lock reply) past caused c shared seen =
    seen_lock header.size lock flush (host.0 == h && (object.0 == o && is_control control (live_control h o past))) (in_range p page.0 range)
    (page_on header h o p past) seen
taken_seen header outside count h o p (Down host object control) (message.Unavailable page) past caused c shared seen =
    seen_not header.size (host.0 == h && (object.0 == o && is_control control (live_control h o past))) (taken_effect p (message.Unavailable page))
    (page_on header h o p past)
    (server_says header outside count h o host object control (message.Unavailable page) past caused c shared (is_control control (live_control h o past)))
    seen
taken_seen header outside count h o p (Down host object control) (message.Error page reason) past caused c shared seen =
    seen_not header.size (host.0 == h && (object.0 == o && is_control control (live_control h o past))) (taken_effect p (message.Error page reason))
    (page_on header h o p past)
    (server_says header outside count h o host object control (message.Error page reason) past caused c shared (is_control control (live_control h o past)))
    seen
taken_seen header outside count h o p (Down host object control) m past caused c shared seen =
    seen_else header.size (host.0 == h && (object.0 == o && is_control control (live_control h o past))) (page_on header h o p past) seen

taking_less : (header : Header) (outside : Outside) (count : ℕ) (channel : Channel) (m : Message) (past : List Event)
    → EachEvent (HasCause header outside) past → Licensed header outside (command.Settle count) (event.Taken channel m) past → (task : ℕ)
    → access_weight header task (event.Taken channel m ∷ past) ≤ access_weight header task past
taking_less header outside count channel m past caused c task =
    by_less (access_weight header task (event.Taken channel m ∷ past)) (access_weight header task past)
    (λ some. less (weighs header task (event.Taken channel m ∷ past) some))
  where
    by_less : (n k : ℕ) → (0 < n → n ≤ k) → n ≤ k
    by_less zero k some = omega arith
    by_less (suc n) k some = some (omega arith)

    less : SomeWaits header task (event.Taken channel m ∷ past) → access_weight header task (event.Taken channel m ∷ past) ≤ access_weight header task past
    less w =
        same_less header task w.access past (event.Taken channel m ∷ past) (same header.size task (event.Taken channel m) past refl) w.waits
        (λ shared reads. read_less header
        (page_on header w.waits.at.host w.waits.at.entry.region.0 (page_of header task w.access past w.waits.at.entry) (event.Taken channel m ∷ past))
        (page_on header w.waits.at.host w.waits.at.entry.region.0 (page_of header task w.access past w.waits.at.entry) past)
        (taken_seen header outside count w.waits.at.host w.waits.at.entry.region.0 (page_of header task w.access past w.waits.at.entry) channel m past caused c
        shared))

pub access_taken : (header : Header) (outside : Outside) (count : ℕ) (channel : Channel) (m : Message) (past : List Event)
    → Licensed header outside (command.Settle count) (event.Taken channel m) past → EachEvent (HasCause header outside) past
    → accesses header (event.Taken channel m ∷ past) ≤ accesses header past
access_taken header outside count channel m past c caused =
    sum_less most_tasks (λ i. access_weight header i (event.Taken channel m ∷ past)) (λ i. access_weight header i past)
    (taking_less header outside count channel m past caused c)
