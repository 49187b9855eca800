-- What holds inside a step of a settle in which some may wait.
use Rattle.std.specs.Prelude.{ℕ, ◌≡◌, ◌==◌, ◌&&◌, ◌||◌, ◌⊎◌, ◌<◌, ◌≤◌, Bool, true, false, List, [], ◌∷◌, Option, Some, None}
pub use Rattle.vm_bound.specs.Settles.{AllHaveFrames}
use Rattle.vm_bound.proofs.Paying.{frees}
use Rattle.vm_bound.specs.Bound.{NoneWaitsOnWild}
use Rattle.vm_legal.specs.Licences.{ReturnOn, owed}
use Rattle.vm_legal.specs.Living.{lives_on}
use Rattle.vm_legal.specs.Steps.{ends_control, since, taken_letter}
use Rattle.vm_legal.specs.Swept.{IsUnheld}
use Rattle.vm_legal.specs.Walks.{Reach}
use Rattle.vm_model.specs.Controls.{live_control}
use Rattle.vm_model.specs.Named.{named}
use Rattle.vm_model.specs.Waiting.{Access, Copying, Target, copy_target, waiting}
use Rattle.vm_model.specs.declared.event.Event.{Event}
use Rattle.vm_model.specs.declared.event.Event.TheVariants as event
use Rattle.vm_model.specs.declared.message.Channel.{Channel}
use Rattle.vm_model.specs.declared.script.Header.{Header}

-- a slow copy whose region stands on the object
abbrev pub is_copy_over : ℕ → Option Access → Option Target → Bool
is_copy_over o (Some (Copying address bytes to)) (Some target) = target.object == o
is_copy_over o other target = false

-- a slow copy of the host that filled the object has failed in the step
abbrev pub is_left : ℕ → ℕ → List Event → Bool
is_left h o [] = false
is_left h o (event.Line line ∷ past) = false
is_left h o (event.Taken channel m ∷ past) = false
is_left h o (event.Failed task object page ∷ past) =
    (lives_on h task.0 past && is_copy_over o (waiting task.0 past) (copy_target task.0 past)) || is_left h o past
is_left h o (e ∷ past) = is_left h o past

pub record Going (header : Header) (past : List Event) : Type 0 where
  pub tame : NoneWaitsOnWild header past
  -- no first control of a temporary object was just made
  pub unowed : (channel : Channel) → owed past ≡ Some (ReturnOn channel) → ⊥
  -- what nothing holds has no control, but what a slow copy left that has failed; and so has what the step ended
  pub orphans : (h o : ℕ) → named header ≤ o → (Reach header h o past → ⊥) → (live_control h o past ≡ None) ⊎ (is_left h o past ≡ true)
  pub unheld : (h o : ℕ) → o < named header → IsUnheld header h o past → frees h o (taken_letter past) ≡ false → live_control h o past ≡ None
  pub ended : (h o : ℕ) → since (ends_control h o) past ≡ true → live_control h o past ≡ None
