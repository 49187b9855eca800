-- How a task stands in the free part: it waits for the newest access that it began, or has ended all that it began.
use Rattle.std.proofs.Common.{Bool, List, [], ap, arith, false, inl, inr, length, refl, subst, sym, true, ℕ, ◌++◌, ◌+◌, ◌<◌, ◌==◌, ◌∙◌, ◌∷◌, ◌≡◌, ◌≤◌}
use Rattle.std.proofs.lemmas.Bool.{eq-eqb, eqb-true, false≢true}
use Rattle.std.proofs.lemmas.Bool.Decides.{eqb_tells}
use Rattle.std.proofs.lemmas.List.{length-append}
use Rattle.std.specs.List.{AllByRecursion}
use Rattle.std.specs.Prelude.{None, Option, Some, if◌then◌else◌}
use Rattle.vm_model.specs.Moments.{EachEvent}
use Rattle.vm_model.specs.Tasks.{entries_of}
use Rattle.vm_model.specs.Waiting.{Access, Loading, Storing, waiting}
use Rattle.vm_model.specs.declared.event.Event.{Event}
use Rattle.vm_model.specs.declared.event.Event.TheVariants as event
use Rattle.vm_model.specs.declared.script.Header.{Header}
use Rattle.vm_order.specs.OneMemory.{IsOneAtATime}
use Rattle.vm_free.specs.Free.{AreOldest, begun, is_plain}
use Rattle.vm_free.specs.Orders.{occurrences, order_of}

-- each event is plain
abbrev pub ArePlain : List Event → Type 0
ArePlain later = AllByRecursion (λ e. is_plain e ≡ true) later

pub never_plain : {A : Type 0} → false ≡ true → A
never_plain plain = absurd (false≢true plain)

-- what is mapped stays
pub entries_stay : (size t : ℕ) (start later : List Event) → ArePlain later → entries_of size t (later ++ start) ≡ entries_of size t start
entries_stay size t start [] plain = refl
entries_stay size t start (event.TaskMade task host ∷ past) plain = never_plain plain.0
entries_stay size t start (event.TaskEnded task ∷ past) plain = never_plain plain.0
entries_stay size t start (event.Entered task address bytes region offset prot inherit ∷ past) plain = never_plain plain.0
entries_stay size t start (event.Removed task address bytes ∷ past) plain = never_plain plain.0
entries_stay size t start (event.Protected task address bytes prot ∷ past) plain = never_plain plain.0
entries_stay size t start (event.Inherited task address bytes inherit ∷ past) plain = never_plain plain.0
entries_stay size t start (e ∷ past) plain = entries_stay size t start past plain.1

-- what a task waits for, what it began, and how many of them ended
abbrev pub Stands : Option Access → List Access → ℕ → Type 0
Stands None began ended = length began ≡ ended
Stands (Some access) began ended = (older : List Access) × (began ≡ access ∷ older) × (length older ≡ ended)

begins_one : (same : Bool) (access : Access) (w : Option Access) (began : List Access) (ended : ℕ) → (same ≡ true → w ≡ None) → Stands w began ended
    → Stands (if same then Some access else w) ((if same then access ∷ [] else []) ++ began) ended
begins_one true access w began ended idle stands = (began, refl, subst (λ (z : Option Access). Stands z began ended) (idle refl) stands)
begins_one false access w began ended idle stands = stands

ends_one : (same : Bool) (access : Access) (w : Option Access) (began : List Access) (ended : ℕ) → (same ≡ true → w ≡ Some access) → Stands w began ended
    → Stands (if same then None else w) began ((if same then 1 else 0) + ended)
ends_one true access w began ended waits stands =
    let s = subst (λ (z : Option Access). Stands z began ended) (waits refl) stands in
    ap length s.1 ∙ omega (arith, s.2)
ends_one false access w began ended waits stands =
    let none : ended ≡ 0 + ended = omega arith in
    subst (λ z. Stands w began z) none stands

its_own : (past : List Event) (w : Option Access) (task t : ℕ) → waiting task past ≡ w → task == t ≡ true → waiting t past ≡ w
its_own past w task t is same = subst (λ z. waiting z past ≡ w) (eqb-true task t same) is

pub stands : (header : Header) (t : ℕ) (start : List Event) → waiting t start ≡ None
    → (later : List Event) → EachEvent (IsOneAtATime header) (later ++ start) → ArePlain later
    → Stands (waiting t (later ++ start)) (begun t later) (occurrences t (order_of later))
stands header t start idle [] tasks plain = subst (λ (z : Option Access). Stands z [] 0) (sym idle) refl
stands header t start idle (event.BegunLoad task address bytes ∷ past) tasks plain =
    begins_one (task.0 == t) (Loading address bytes) (waiting t (past ++ start)) (begun t past) (occurrences t (order_of past))
    (its_own (past ++ start) None task.0 t tasks.0)
    (stands header t start idle past tasks.1 plain.1)
stands header t start idle (event.BegunStore task address bytes value ∷ past) tasks plain =
    begins_one (task.0 == t) (Storing address bytes value) (waiting t (past ++ start)) (begun t past) (occurrences t (order_of past))
    (its_own (past ++ start) None task.0 t tasks.0)
    (stands header t start idle past tasks.1 plain.1)
stands header t start idle (event.Loaded task object page value ∷ past) tasks plain =
    let access = Loading tasks.0.0 tasks.0.1 in
    ends_one (task.0 == t) access (waiting t (past ++ start)) (begun t past) (occurrences t (order_of past))
    (its_own (past ++ start) (Some access) task.0 t tasks.0.2.waits)
    (stands header t start idle past tasks.1 plain.1)
stands header t start idle (event.Stored task object page at bytes value ∷ past) tasks plain =
    let access = Storing tasks.0.0 bytes value in
    ends_one (task.0 == t) access (waiting t (past ++ start)) (begun t past) (occurrences t (order_of past))
    (its_own (past ++ start) (Some access) task.0 t tasks.0.1.waits)
    (stands header t start idle past tasks.1 plain.1)
stands header t start idle (event.TaskMade task host ∷ past) tasks plain = never_plain plain.0
stands header t start idle (event.TaskEnded task ∷ past) tasks plain = never_plain plain.0
stands header t start idle (event.BegunCopy task address bytes to ∷ past) tasks plain = never_plain plain.0
stands header t start idle (event.CopyEnded task ∷ past) tasks plain = never_plain plain.0
stands header t start idle (event.Failed task object page ∷ past) tasks plain = never_plain plain.0
stands header t start idle (e ∷ past) tasks plain = stands header t start idle past tasks.1 plain.1

-- no more ended than began
pub few_ended : (w : Option Access) (began all : List Access) (ended : ℕ) → Stands w began ended → AreOldest began all → ended ≤ length all
few_ended None began all ended stands oldest = omega (arith, stands, ap length oldest.is, length-append oldest.newer began)
few_ended (Some access) began all ended stands oldest = omega (arith, stands.2, ap length stands.1, ap length oldest.is, length-append oldest.newer began)

-- an access of a list that has the newest first, by how many are older
abbrev pub oldest_at : ℕ → List Access → Option Access
oldest_at k [] = None
oldest_at k (access ∷ older) = if length older == k then Some access else oldest_at k older

oldest_is : (newer : List Access) (access : Access) (older : List Access) → oldest_at (length older) (newer ++ access ∷ older) ≡ Some access
oldest_is [] access older = rw (eq-eqb (length older) (length older) refl) refl
oldest_is (x ∷ newer) access older =
    let longer : length older < length (newer ++ access ∷ older) = omega (arith, length-append newer (access ∷ older)) in
    let more : (length (newer ++ access ∷ older) == length older) ≡ false = apart (length (newer ++ access ∷ older)) (length older) longer in
    rw more (oldest_is newer access older)
  where
    apart : (a b : ℕ) → b < a → (a == b) ≡ false
    apart a b less = elim (eqb_tells a b) [ inl same ↦ absurd (omega (arith, same.1)) | inr other ↦ other.0 ]

-- what a task waits for is the access of the free part behind those that it ended
pub is_next : (w : Option Access) (began all : List Access) (ended : ℕ) (access : Access) → Stands w began ended → AreOldest began all → w ≡ Some access
    → oldest_at ended all ≡ Some access
is_next w began all ended access stands oldest waits =
    let s = subst (λ (z : Option Access). Stands z began ended) waits stands in
    let all_are : oldest.newer ++ access ∷ s.0 ≡ all = sym (oldest.is ∙ ap (λ z. oldest.newer ++ z) s.1) in
    let its_place = subst (λ z. oldest_at z (oldest.newer ++ access ∷ s.0) ≡ Some access) s.2 (oldest_is oldest.newer access s.0) in
    subst (λ z. oldest_at ended z ≡ Some access) all_are its_place
