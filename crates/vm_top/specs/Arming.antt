-- How the backings are armed when a run ends, and how often they failed.
use Rattle.std.specs.Prelude.{ℕ, min, ◌+◌, ◌<◌, ◌≤◌, ◌≡◌, ◌⊎◌, Bool, true, false, if◌then◌else◌, List, [], ◌∷◌, Option, Some, None, is_some}
use Rattle.vm_model.specs.declared.event.Device.{Device}
use Rattle.vm_model.specs.declared.event.Event.{Event}
use Rattle.vm_model.specs.declared.event.Event.TheVariants as event
use Rattle.vm_model.specs.declared.command.Command.{Command}
use Rattle.vm_model.specs.declared.command.Numbered.{Numbered}
use Rattle.vm_model.specs.declared.message.Channel.TheVariants.{Up}
use Rattle.vm_model.specs.declared.script.Header.{Header}
use Rattle.vm_model.specs.declared.script.Script.{Script}
use Rattle.vm_model.specs.Summary.{count_of, is_line}
use Rattle.vm_outside.specs.Arming.{Arming}
use Rattle.vm_outside.specs.Causes.{CountRises}
use Rattle.vm_system.specs.Steps.{arms, devices, is_kept_in}
use Rattle.vm_top.specs.Writing.{oldest_items}

-- the commands of a script that have a line in the history
abbrev pub ran_of : Script → List Event → List Numbered
ran_of script history = oldest_items (count_of is_line history) script.commands.items

-- the number of the last command that arms
abbrev pub last_arming : (Command → Option ℕ) → List Numbered → Option ℕ
last_arming arms [] = None
last_arming arms (numbered ∷ before) = elim (arms numbered.command) [ Some count ↦ Some count | None ↦ last_arming arms before ]

-- how many commands arm
abbrev pub armings : (Command → Option ℕ) → List Numbered → ℕ
armings arms [] = 0
armings arms (numbered ∷ before) =
    if is_some (arms numbered.command) then armings arms before + 1 else armings arms before

-- no pager of this backing took a message since the last command that armed it
abbrev pub is_untouched : Header → Device → List Numbered → List Event → Bool
is_untouched header who run [] = true
is_untouched header who [] (event.Line line ∷ past) = true
is_untouched header who (numbered ∷ before) (event.Line line ∷ past) =
    if is_some (arms who numbered.command) then true else is_untouched header who before past
is_untouched header who run (event.Taken (Up host object) m ∷ past) =
    if is_kept_in header who object then false else is_untouched header who run past
is_untouched header who run (e ∷ past) = is_untouched header who run past

-- where no `fail` of a backing was run it isn't armed; else it is, or an armed failure was reached; it is armed with the last one's number
-- where none of its pagers took a message since; and the armed failures that were reached, with one that is still armed, are at most as many
-- as `fail` commands were run
pub record BackingLeft {B : Type 0} (header : Header) (who : Device) (run : List Numbered) (history : List Event) (old new : Arming B) : Type 0 where
  pub none : last_arming (arms who) run ≡ None → (new.left ≡ 0) × (new.reached ≡ old.reached)
  pub some : (count : ℕ) → last_arming (arms who) run ≡ Some count → (0 < new.left) ⊎ CountRises old.reached new.reached
  pub untouched : (count : ℕ) → last_arming (arms who) run ≡ Some count → is_untouched header who run history ≡ true
      → new.left ≡ count
  pub few : new.reached + min 1 new.left ≤ old.reached + armings (arms who) run

-- the failures of a backing that were told are at most as many as its count of faults rose, unless that stands at its last value; and where
-- none is told the count stays
pub record FailuresCounted (who : Device) (before now : ℕ) (history : List Event) : Type 0 where
  pub few : (devices who history + before ≤ now) ⊎ CountRises now now
  pub none : devices who history ≡ 0 → now ≡ before

-- and at most as many as the backing within failed of its own and `fail` commands were run, unless the whole count
-- stands at its last value
abbrev pub FailuresBounded : Device → List Numbered → ℕ → ℕ → ℕ → List Event → Type 0
FailuresBounded who run before now whole history =
    (devices who history + before ≤ now + armings (arms who) run) ⊎ CountRises whole whole
