-- A made script can be run.
use Rattle.std.proofs.Common.{ℕ, [], ◌≡◌}
use Rattle.std.specs.Prelude.{◌≢◌}
use Rattle.std.proofs.lemmas.List.Elements.{All-nil, All-cons}
use Rattle.vm_gen.specs.Made.{IsMade, shared_object}
use Rattle.vm_model.specs.Ranges.{KeepsRanges}
use Rattle.vm_model.specs.declared.script.Script.{Script}
use Rattle.vm_base.specs.declared.ids.ObjectKind.TheVariants as kinds
use Rattle.vm_top.specs.Run.{IsRunnable}
use Rattle.vm_top.proofs.Ends.{runnable}

pub made_runnable : (number lines : ℕ) (script : Script) → IsMade number lines script → KeepsRanges script → IsRunnable script
made_runnable number lines script made ranges =
    runnable script ranges (rw made.header.objects (All-cons (λ object. object.kind ≢ kinds.Temp) shared_object []
    (λ is. absurd (let bad : kinds.Shared ≡ kinds.Temp = is in cc)) (All-nil (λ object. object.kind ≢ kinds.Temp))))
