-- Zeros come to no page that nobody's access is about.
use Rattle.std.proofs.Common.{Bool, None, Some, inl, inr, ℕ, ◌+◌, ◌<◌, ◌==◌, ◌≡◌, arith, false, subst, sym, true}
use Rattle.std.specs.Prelude.{◌/◌, if◌then◌else◌}
use Rattle.vm_model.specs.declared.command.Command.{Command}
use Rattle.vm_model.specs.declared.event.Event.TheVariants as event
use Rattle.vm_model.specs.Waiting.{Access, Copying, next_page, waiting}
use Rattle.vm_legal.specs.Accesses.{HasPageLeft}
use Rattle.vm_legal.specs.Licences.{Bottoms, Caused, Fills}
use Rattle.vm_legal.specs.Outside.{Outside}
use Rattle.vm_worked.specs.Beside.{header, history, host, object, page}

-- whoever waits has no page left
nobody : (t : ℕ) (access : Access) → waiting t history ≡ Some access → HasPageLeft 16 access (next_page t history) → ⊥
nobody t access is left = by (0 == t) is left
  where
    by : (b : Bool) → (if b then Some (Copying 0 16 48) else if b then None else None) ≡ Some access
        → HasPageLeft 16 access (if b then 0 + 1 else if b then 0 else 0) → ⊥
    by true is left =
        let same : Copying 0 16 48 ≡ access = cc in
        let more : 1 < 16 / 16 = subst (λ (a : Access). HasPageLeft 16 a (0 + 1)) (sym same) left in
        omega (arith, more)
    by false is left = absurd (let bad : None ≡ Some access = is in cc)

fills_none : Fills header 0 1 0 history → ⊥
fills_none fills = omega (arith, fills.declared)

bottoms_none : Bottoms header 0 1 0 history → ⊥
bottoms_none bottoms = nobody bottoms.task bottoms.access bottoms.waits.waits bottoms.waits.left

pub uncaused : (outside : Outside) (doing : Command) → Caused header outside doing (event.Zeroed host (object 1) page) history → ⊥
uncaused outside doing cause = elim cause [
  | inl fills ↦ fills_none fills
  | inr bottoms ↦ bottoms_none bottoms
]
