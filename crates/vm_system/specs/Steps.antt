-- What a system's steps make of its history, and of the backings.
use Rattle.std.specs.Prelude.{ℕ, ◌+◌, ◌<◌, ◌≤◌, ◌≡◌, ◌⊎◌, Bool, true, false, not, List, [], ◌∷◌, ◌++◌, length, nat_lt, if◌then◌else◌, Option, Some, None}
use Rattle.vm_model.specs.declared.event.Event.{Event}
use Rattle.vm_model.specs.declared.event.Event.TheVariants as event
use Rattle.vm_model.specs.declared.event.Device.{Device}
use Rattle.vm_model.specs.declared.event.Device.TheVariants as device
use Rattle.vm_base.specs.declared.ids.ObjectId.{ObjectId}
use Rattle.vm_model.specs.Named.{named}
use Rattle.vm_model.specs.declared.command.Command.{Command}
use Rattle.vm_model.specs.declared.command.Command.TheVariants as command
use Rattle.vm_model.specs.declared.command.Numbered.{Numbered}
use Rattle.vm_model.specs.declared.message.Channel.TheVariants.{Up}
use Rattle.vm_model.specs.declared.script.Header.{Header}
use Rattle.vm_model.specs.Limits.{most_events}
use Rattle.vm_model.specs.Moments.{BeforeSteps}
use Rattle.vm_legal.specs.InTurn.{AllRecalled, FollowsSoFarInTurn, StepIsInTurn}
use Rattle.vm_legal.specs.Legal.{Holds, IsAtRest, CanonicalFor}
use Rattle.vm_legal.specs.Outside.{Outside, is_file}
use Rattle.vm_legal.specs.Steps.{takings}
use Rattle.vm_outside.specs.Arming.{Arming}
use Rattle.vm_outside.specs.Causes.{CountRises}

-- what is told to calls: the script's header, and what is told of the outside
pub record Setting : Type 0 where
  pub header : Header
  pub outside : Outside

-- canonical for these commands, of which the last, where it is a settle, may have more to take
pub record CanonicalOpen (header : Header) (outside : Outside) (run : List Numbered) (history : List Event) : Type 0 where
  pub follows : FollowsSoFarInTurn header outside run history
  pub holds : Holds header outside history
  pub rests : IsAtRest header history
  pub ended : BeforeSteps (StepIsInTurn header) history
  pub last : StepIsInTurn header history
  pub recalled : BeforeSteps (AllRecalled header) history
  pub recalls : AllRecalled header history

-- the number of messages that a settle is to take
abbrev pub settles : Command → Option ℕ
settles (command.Settle count) = Some count
settles other = None

-- a canonical history stays so with one command more; a settle has not begun to take
pub record IsNextCanonical (header : Header) (outside : Outside) (numbered : Numbered) (run : List Numbered) (new : List Event) : Type 0 where
  pub so_far : CanonicalOpen header outside (numbered ∷ run) new
  pub whole : settles numbered.command ≡ None → CanonicalFor header outside (numbered ∷ run) new
  pub none : takings new ≡ 0 ⊎ (settles numbered.command ≡ None)

abbrev pub KeepsCanonical : Header → Outside → Numbered → List Event → List Event → Type 0
KeepsCanonical header outside numbered old new = (run : List Numbered) → CanonicalFor header outside run old → IsNextCanonical header outside numbered run new

-- a settle that has more to take goes on being canonical with one message more taken
pub record TakesMore (header : Header) (outside : Outside) (numbered : Numbered) (run : List Numbered) (old new : List Event) : Type 0 where
  pub so_far : CanonicalOpen header outside (numbered ∷ run) new
  pub more : takings new ≡ takings old + 1

abbrev pub KeepsOpen : Header → Outside → Command → List Event → List Event → Type 0
KeepsOpen header outside doing old new = (line : ℕ) (run : List Numbered) → CanonicalOpen header outside (record { line = line; command = doing } ∷ run) old
    → TakesMore header outside (record { line = line; command = doing }) run old new

-- a settle has more to take
pub record HasMore (doing : Command) (history : List Event) : Type 0 where
  pub count : ℕ
  pub is : doing ≡ command.Settle count
  pub more : takings history < count

abbrev pub is_device : Device → Device → Bool
is_device device.Files device.Files = true
is_device device.Paging device.Paging = true
is_device who other = false

-- how many times this backing failed
abbrev pub devices : Device → List Event → ℕ
devices who [] = 0
devices who (event.DeviceFailed by way object page ∷ past) = if is_device who by then devices who past + 1 else devices who past
devices who (e ∷ past) = devices who past

-- a backing's failure is told only where its count of faults rose, once for a step; and where none is told the count stays
pub record DevicesHaveCause (who : Device) (before now : ℕ) (old new : List Event) : Type 0 where
  pub later : before ≤ now
  pub few : devices who new ≤ devices who old + 1
  pub cause : (devices who new ≡ devices who old) ⊎ CountRises before now
  pub spared : devices who new ≡ devices who old → now ≡ before

-- a step may begin: the history has few enough events; the taking of a `take` begins with its line
abbrev pub MayBegin : List Event → Type 0
MayBegin past = (length past < most_events) ⊎ ((line : ℕ) × (before : List Event) × (past ≡ event.Line line ∷ before) × (length before < most_events))

abbrev pub IsBelowLimit : List Event → Type 0
IsBelowLimit history = BeforeSteps MayBegin history

-- the new history has events more, and each step began where it might
pub record GrowsWithinLimit (old new : List Event) : Type 0 where
  pub more : List Event
  pub is : new ≡ more ++ old
  pub limit : length old < most_events → IsBelowLimit old → IsBelowLimit new

-- a line, where the step begins with one
abbrev pub lined : Option ℕ → List Event → List Event
lined None past = past
lined (Some line) past = event.Line line ∷ past

-- the object's pager asks this backing: the files for a file, and the paging area for a temporary object
abbrev pub is_kept_in : Header → Device → ObjectId → Bool
is_kept_in header device.Files object = is_file header object.0
is_kept_in header device.Paging object = not (nat_lt object.0 (named header))

-- the step began with a message that a pager of this backing took
abbrev pub took_up : Header → Device → List Event → Bool
took_up header who [] = false
took_up header who (event.Line line ∷ past) = false
took_up header who (event.Taken (Up host object) m ∷ past) = is_kept_in header who object
took_up header who (event.Taken channel m ∷ past) = false
took_up header who (e ∷ past) = took_up header who past

-- the command takes a message that goes to a pager of this backing
abbrev pub takes_up : Header → Device → Command → Bool
takes_up header who (command.Take (Up host object)) = is_kept_in header who object
takes_up header who other = false

-- the command takes a message that goes to a pager
abbrev pub takes_any : Command → Bool
takes_any (command.Take (Up host object)) = true
takes_any other = false

-- the command arms this backing
abbrev pub arms : Device → Command → Option ℕ
arms device.Files (command.FailFiles count) = Some count
arms device.Paging (command.FailPaging count) = Some count
arms who other = None

-- what a command leaves of a backing's arming: `fail` arms it, and else only a pager's call changes it
pub record LeavesBacking {B : Type 0} (header : Header) (who : Device) (doing : Command) (history : List Event) (old new : Arming B) : Type 0 where
  pub armed : (count : ℕ) → arms who doing ≡ Some count → new ≡ record { inner = old.inner; left = count; reached = old.reached }
  pub same : arms who doing ≡ None → takes_up header who doing ≡ false → new ≡ old
  pub asked : arms who doing ≡ None → took_up header who history ≡ false → new ≡ old

-- the command is no host's
abbrev pub is_idle : Command → Bool
is_idle (command.FailFiles count) = true
is_idle (command.FailPaging count) = true
is_idle (command.Clean object page count flush) = true
is_idle (command.Cache object cache) = true
is_idle (command.Say host object m) = true
is_idle other = false
