-- What a legal history is.
use Rattle.std.specs.Prelude.{ℕ, ◌≡◌, ◌≢◌, true, List, ◌++◌}
use Rattle.vm_model.specs.declared.event.Event.{Event}
use Rattle.vm_model.specs.declared.command.Numbered.{Numbered}
use Rattle.vm_model.specs.declared.script.Header.{Header}
use Rattle.vm_model.specs.declared.script.Script.{Script}
use Rattle.vm_model.specs.Coherence.{PageLegal}
use Rattle.vm_model.specs.Local.{CanRead, CanWrite}
use Rattle.vm_model.specs.Moments.{EachEvent, EachMoment, BeforeSteps}
use Rattle.vm_model.specs.PagePart.{page_part}
use Rattle.vm_legal.specs.Bytes.{OwnBytes, FlatBytes}
use Rattle.vm_legal.specs.Debts.{IsPaid}
use Rattle.vm_legal.specs.Follows.{Follows, FollowsSoFar}
use Rattle.vm_legal.specs.Frames.{FramesSuffice}
use Rattle.vm_legal.specs.InTurn.{AllRecalled, FollowsInTurn, FollowsSoFarInTurn, StepIsInTurn}
use Rattle.vm_legal.specs.Outside.{Outside, is_shared}
use Rattle.vm_legal.specs.Prompt.{AllServed, Prompt}
use Rattle.vm_legal.specs.Walks.{page_on}

-- while a host can write a page of a shared object, no other host can read it
abbrev pub HasOneWriter : Header → List Event → Type 0
HasOneWriter header past =
    (writer reader object page : ℕ) → is_shared header object ≡ true → writer ≢ reader → CanWrite (page_on header writer object page past)
    → CanRead (page_on header reader object page past) → ⊥

-- what holds throughout a history, whatever its commands, but inside its last step
pub record Holds (header : Header) (outside : Outside) (history : List Event) : Type 0 where
  -- each load answers from its own host's page
  pub own_bytes : EachEvent (OwnBytes header) history
  -- each load answers the flat map's bytes
  pub flat_bytes : EachEvent (FlatBytes header outside) history
  -- at every moment the frames suffice
  pub frames : EachMoment (FramesSuffice header) history
  -- whenever a step has ended, no access waits in vain and nothing is left behind
  pub prompt : BeforeSteps (Prompt header) history
  -- and it did what it owes
  pub paid : BeforeSteps (IsPaid header) history
  -- and of each page of shared memory that somebody wants some host is awaited
  pub served : BeforeSteps (AllServed header) history
  -- at every moment a page of shared memory has one writer
  pub one_writer : EachMoment (HasOneWriter header) history
  -- each such page behaves as one memory
  pub pages : (object page : ℕ) → is_shared header object ≡ true → PageLegal header.size (page_part header.size object page history)

-- a step has ended
pub record IsAtRest (header : Header) (history : List Event) : Type 0 where
  pub prompt : Prompt header history
  pub paid : IsPaid header history
  pub served : AllServed header history

-- the history is legal for these commands under this header
pub record LegalFor (header : Header) (outside : Outside) (commands : List Numbered) (history : List Event) : Type 0 where
  -- each command has its group, in order, and each event its cause
  pub follows : Follows header outside commands history
  pub holds : Holds header outside history
  pub rests : IsAtRest header history

abbrev pub Legal : Script → Outside → List Event → Type 0
Legal script outside history = LegalFor script.header outside script.commands.items history

-- the history is legal for the commands that were run, and some may be left; the last one may be a settle that has more to take
pub record LegalSoFar (script : Script) (outside : Outside) (history : List Event) : Type 0 where
  pub later : List Numbered
  pub run : List Numbered
  pub order : script.commands.items ≡ later ++ run
  pub follows : FollowsSoFar script.header outside run history
  pub holds : Holds script.header outside history
  pub rests : IsAtRest script.header history

-- the history is the one that the rules give for these commands: legal, with each event in its turn, and nobody passed over
pub record CanonicalFor (header : Header) (outside : Outside) (commands : List Numbered) (history : List Event) : Type 0 where
  -- each command has its group, in order, and each event its cause and its turn
  pub follows : FollowsInTurn header outside commands history
  pub holds : Holds header outside history
  pub rests : IsAtRest header history
  -- whenever a step has ended, an error that it took has ended each access that waited for its page, and the hosts have served by rising number
  pub ended : BeforeSteps (StepIsInTurn header) history
  pub last : StepIsInTurn header history
  -- and of each page of shared memory all hosts that stand in the way of the first in line are awaited
  pub recalled : BeforeSteps (AllRecalled header) history
  pub recalls : AllRecalled header history

abbrev pub Canonical : Script → Outside → List Event → Type 0
Canonical script outside history = CanonicalFor script.header outside script.commands.items history

-- it is so for the commands that were run, and some may be left; the last one may be a settle that has more to take
pub record CanonicalSoFar (script : Script) (outside : Outside) (history : List Event) : Type 0 where
  pub later : List Numbered
  pub run : List Numbered
  pub order : script.commands.items ≡ later ++ run
  pub follows : FollowsSoFarInTurn script.header outside run history
  pub holds : Holds script.header outside history
  pub rests : IsAtRest script.header history
  pub ended : BeforeSteps (StepIsInTurn script.header) history
  pub last : StepIsInTurn script.header history
  pub recalled : BeforeSteps (AllRecalled script.header) history
  pub recalls : AllRecalled script.header history
