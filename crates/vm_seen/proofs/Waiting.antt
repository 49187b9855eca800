-- Those who wait, one event at a time.
use Rattle.std.proofs.Common.{◌≡◌, ℕ, ◌==◌, not, true, false, cond, List, [], ◌∷◌, ◌++◌, filter, refl, ap, sym, ◌∙◌, Option, Some, None, is_some}
use Rattle.std.proofs.Common.{arith}
use Rattle.std.proofs.lemmas.Bool.{false≢true, or_left, eq-eqb}
use Rattle.std.proofs.lemmas.Bool.Decides.{nat_tests}
use Rattle.vm_model.specs.declared.event.Event.{Event}
use Rattle.vm_model.specs.Waiting.{waiting}
use Rattle.vm_free.specs.Free.{NobodyWaits}
use Rattle.vm_seen.specs.declared.waits.Turn.TheVariants as turn
use Rattle.vm_seen.specs.Waits.{AreWaiting, IsTurn, stands, without}

pub filtered : (t : ℕ) (tasks : List ℕ) → filter (λ u. not (u == t)) tasks ≡ without t tasks
filtered t [] = refl
filtered t (u ∷ more) =
    let others = filter (λ v. not (v == t)) more in
    elim (u == t) as (λ b. cond (not b) (u ∷ others) others ≡ cond b (without t more) (u ∷ without t more)) [
      | true ↦ filtered t more
      | false ↦ ap (λ z. u ∷ z) (filtered t more)
    ]

stands_push : (t task : ℕ) (tasks : List ℕ) → stands t (tasks ++ task ∷ []) ≡ cond (task == t) true (stands t tasks)
stands_push t task [] = grind (arith, nat_tests)
stands_push t task (u ∷ more) = let rest = stands_push t task more in grind (arith, nat_tests, rest)

stands_without : (t task : ℕ) (tasks : List ℕ) → stands t (without task tasks) ≡ cond (task == t) false (stands t tasks)
stands_without t task [] = grind (arith, nat_tests)
stands_without t task (u ∷ more) = let rest = stands_without t task more in grind (arith, nat_tests, rest)

pub one_begins : (tasks : List ℕ) (task : ℕ) (e : Event) (past : List Event) → IsTurn e (turn.Begins task) → AreWaiting tasks past
    → AreWaiting (tasks ++ task ∷ []) (e ∷ past)
one_begins tasks task e past is waiting = λ t. is t past ∙ (ap (λ b. cond (task == t) true b) (waiting t) ∙ sym (stands_push t task tasks))

pub one_ends : (tasks : List ℕ) (task : ℕ) (e : Event) (past : List Event) → IsTurn e (turn.Ends task) → AreWaiting tasks past
    → AreWaiting (without task tasks) (e ∷ past)
one_ends tasks task e past is waiting = λ t. is t past ∙ (ap (λ b. cond (task == t) false b) (waiting t) ∙ sym (stands_without t task tasks))

none_waiting : {A : Type 0} (access : Option A) → is_some access ≡ false → access ≡ None
none_waiting None ended = refl
none_waiting (Some access) ended = absurd (cc)

pub nobody : (tasks : List ℕ) (history : List Event) → AreWaiting tasks history → tasks ≡ [] → NobodyWaits history
nobody tasks history waiting none = λ t. none_waiting _ (waiting t ∙ ap (stands t) none)

pub somebody : (tasks : List ℕ) (history : List Event) → AreWaiting tasks history → NobodyWaits history → tasks ≡ []
somebody [] history waiting none = refl
somebody (u ∷ more) history waiting none =
    absurd (false≢true (sym (ap is_some (none u)) ∙ (waiting u ∙ or_left (u == u) (stands u more) (eq-eqb u u refl))))
