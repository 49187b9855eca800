-- Steps one after another.
use Rattle.std.proofs.Common.{zero, suc, ◌≡◌, ◌<◌, ◌∙◌, ℕ, List, [], ◌∷◌, ◌++◌, refl, ap, subst, arith, take, take-suc, get_or, length, ◌+◌}
use Rattle.vm_model.specs.declared.event.Event.{Event}
use Rattle.sms_proto.specs.declared.step.WorldStep.{WorldStep}
use Rattle.sms_proto.specs.Steps.{Takes, TakesSteps}
use Rattle.sms_proto.specs.World.{AllWithin, step_host}

pub runs_end : (size : ℕ) (steps : List WorldStep) (s : WorldStep) (old middle new : List Event) → TakesSteps size steps old middle → Takes size s middle new
    → TakesSteps size (steps ++ s ∷ []) old new
runs_end size [] s old middle new runs takes = (new, subst (λ (e : List Event). Takes size s e new) runs takes, refl)
runs_end size (x ∷ steps) s old middle new runs takes = (runs.0, runs.1, runs_end size steps s runs.0 middle new runs.2 takes)

pub within_index : (hosts : ℕ) (steps : List WorldStep) (i : ℕ) (d : WorldStep) → AllWithin hosts steps → i < length steps
    → (step_host (get_or steps i d)).0 < hosts
within_index hosts [] i d all lt = absurd (omega arith)
within_index hosts (x ∷ steps) zero d all lt = all.0
within_index hosts (x ∷ steps) (suc i) d all lt = within_index hosts steps i d all.1 (omega arith)

pub take_one_more : (steps : List WorldStep) (i : ℕ) (d : WorldStep) → i < length steps → take (i + 1) steps ≡ take i steps ++ get_or steps i d ∷ []
take_one_more steps i d lt = let next : i + 1 ≡ suc i = omega arith in ap (λ (n : ℕ). take n steps) next ∙ take-suc steps i d lt
