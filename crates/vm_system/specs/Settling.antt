-- A settle goes on, taking message after message.
use Rattle.std.specs.Prelude.{ℕ, ◌+◌, ◌≤◌, ◌≡◌, ◌⊎◌, List, ◌∷◌}
use Rattle.vm_model.specs.declared.event.Device.{Device}
use Rattle.vm_model.specs.declared.event.Event.{Event}
use Rattle.vm_model.specs.declared.command.Command.{Command}
use Rattle.vm_model.specs.declared.command.Command.TheVariants as command
use Rattle.vm_model.specs.declared.command.Numbered.{Numbered}
use Rattle.vm_model.specs.declared.script.Header.{Header}
use Rattle.vm_legal.specs.Outside.{Outside}
use Rattle.vm_legal.specs.Steps.{takings}
use Rattle.vm_outside.specs.Causes.{CountRises}
use Rattle.vm_system.specs.Steps.{CanonicalOpen, devices}

-- a settle has so many takings left, or more
pub record HasLeft (doing : Command) (n : ℕ) (history : List Event) : Type 0 where
  pub count : ℕ
  pub is : doing ≡ command.Settle count
  pub left : takings history + n ≤ count

-- canonical with these commands, of which the settle is the last, it stays so
abbrev pub StaysOpen : Header → Outside → Command → List Event → List Event → Type 0
StaysOpen header outside doing old new =
    (line : ℕ) (run : List Numbered) → CanonicalOpen header outside (record { line = line; command = doing } ∷ run) old
    → CanonicalOpen header outside (record { line = line; command = doing } ∷ run) new

-- the failures that are told are at most as many as the count of faults rose, unless that stands at its last value; and where none is told the count stays
pub record DevicesCounted (who : Device) (before now : ℕ) (old new : List Event) : Type 0 where
  pub later : before ≤ now
  pub few : (devices who new + before ≤ devices who old + now) ⊎ CountRises now now
  pub spared : devices who new ≡ devices who old → now ≡ before
