-- Which accesses fail where no backing does.
use Rattle.std.specs.Prelude.{ℕ, ◌≡◌, IfSome, false, List, Option}
use Rattle.vm_model.specs.declared.command.Numbered.{Numbered}
use Rattle.vm_model.specs.declared.event.Device.{Device}
use Rattle.vm_model.specs.declared.event.Event.{Event}
use Rattle.vm_model.specs.declared.script.Script.{Script}
use Rattle.vm_model.specs.Moments.{EachEvent}
use Rattle.vm_losses.specs.Losses.{FailsUnslotted, ever, is_device_event}
use Rattle.vm_outside.specs.Causes.{CountRises}
use Rattle.vm_system.specs.Steps.{arms}
use Rattle.vm_top.specs.Arming.{armings}

-- the backing within failed in no call, no `fail` of it was run, and the whole count of its faults doesn't stand at its last value
pub record HasNotFailed (who : Device) (run : List Numbered) (before now whole : ℕ) : Type 0 where
  pub within : now ≡ before
  pub unarmed : armings (arms who) run ≡ 0
  pub counts : CountRises whole whole → ⊥

-- no event tells of a device that failed, and each access that fails, but for one to a wild object, is to a page of temporary memory for which
-- there was no slot
abbrev pub LosesUnslotted : Option Script → List Event → Type 0
LosesUnslotted script history = IfSome script (λ run. (ever is_device_event history ≡ false) × EachEvent (FailsUnslotted run.header) history)
