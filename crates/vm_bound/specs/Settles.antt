-- What a settle makes of a history: takings of the oldest message, and what follows from each.
use Rattle.std.specs.Prelude.{ℕ, ◌<◌, ◌≡◌, ◌+◌, ◌*◌, ◌/◌, List, ◌∷◌, ◌++◌, Some}
use Rattle.vm_base.specs.Entries.{entry_at}
use Rattle.vm_base.specs.Limits.{most_tasks}
use Rattle.vm_base.specs.declared.entry.Entry.{Entry}
use Rattle.vm_bound.specs.Bound.{NoneWaitsOnWild}
use Rattle.vm_bound.specs.Letters.{host_count}
use Rattle.vm_legal.specs.Accesses.{Waits}
use Rattle.vm_legal.specs.Bytes.{OwnBytes}
use Rattle.vm_legal.specs.Debts.{IsPaid}
use Rattle.vm_legal.specs.Follows.{IsConsequence}
use Rattle.vm_legal.specs.Frames.{frames_free}
use Rattle.vm_legal.specs.Licences.{AllLicensed, HasCause}
use Rattle.vm_legal.specs.Outside.{Outside}
use Rattle.vm_legal.specs.Prompt.{Prompt}
use Rattle.vm_legal.specs.Stretches.{EachIn, MomentsIn}
use Rattle.vm_model.specs.Moments.{BeforeSteps, EachEvent}
use Rattle.vm_model.specs.Waiting.{Access, Copying, waiting}
use Rattle.vm_model.specs.Tasks.{entries_of}
use Rattle.vm_model.specs.declared.command.Command.TheVariants as command
use Rattle.vm_model.specs.declared.event.Event.{Event}
use Rattle.vm_model.specs.declared.event.Event.TheVariants as event
use Rattle.vm_model.specs.declared.message.Channel.{Channel}
use Rattle.vm_model.specs.declared.message.Channel.TheVariants.{Up, Down}
use Rattle.vm_model.specs.declared.message.Message.TheVariants as message
use Rattle.vm_model.specs.declared.script.Header.{Header}

-- the host that the messages of a channel go to, or come from
abbrev pub host_on : Channel → ℕ
host_on (Up host object) = host.0
host_on (Down host object control) = host.0

-- each host that an event names is one of the header's, and tasks have numbers below the most
abbrev pub IsOnHosts : Header → Event → List Event → Type 0
IsOnHosts header (event.TaskMade task host) past = (host.0 < host_count header) × (task.0 < most_tasks)
IsOnHosts header (event.Sent channel m) past = host_on channel < host_count header
IsOnHosts header (event.Taken channel m) past = host_on channel < host_count header
IsOnHosts header other past = Unit {0}

-- no pager is told of a control of a declared object: that is done with the first entry on its region alone
abbrev pub OpensNone : Event → Type 0
OpensNone (event.Sent (Up host object) (message.Init control size)) = ⊥
OpensNone other = Unit {0}

-- the event may follow from a taking
abbrev pub MayCome : Event → List Event → Type 0
MayCome e past = IsConsequence e past × OpensNone e

-- a history whose last step has ended: each event has its cause, is of its own host's bytes, and on one of the hosts
pub record HasEnded (header : Header) (outside : Outside) (past : List Event) : Type 0 where
  pub causes : EachEvent (HasCause header outside) past
  pub own_bytes : EachEvent (OwnBytes header) past
  pub hosts : EachEvent (IsOnHosts header) past
  pub prompt : Prompt header past
  pub paid : IsPaid header past

-- whoever waits has a free frame
abbrev pub AllHaveFrames : Header → List Event → Type 0
AllHaveFrames header past = (task : ℕ) (access : Access) → (waits : Waits header task access past) → 0 < frames_free header waits.at.host past

-- the pages of each slow copy are all on one region
abbrev pub CopyFromOne : Header → List Event → Type 0
CopyFromOne header past =
    (task address bytes to one two : ℕ) (first second : Entry) → waiting task past ≡ Some (Copying address bytes to) → one < bytes / header.size
    → two < bytes / header.size → entry_at (address + one * header.size) (entries_of header.size task past) ≡ Some first
    → entry_at (address + two * header.size) (entries_of header.size task past) ≡ Some second → first.region.0 ≡ second.region.0

-- what a settle begins with: nobody waits for a pager that the script drives, each slow copy is of one region, and whoever waits has a free frame
pub record IsOpening (header : Header) (past : List Event) : Type 0 where
  pub tame : NoneWaitsOnWild header past
  pub copies : CopyFromOne header past
  pub frames : AllHaveFrames header past

-- what a settle made, on top of a past: each event has its cause in it and may follow, and the steps that it made did what they owe
pub record IsSettle (header : Header) (outside : Outside) (count line : ℕ) (group past : List Event) : Type 0 where
  pub licensed : AllLicensed header outside (command.Settle count) group (event.Line line ∷ past)
  pub follows : EachIn MayCome group (event.Line line ∷ past)
  pub own_bytes : EachEvent (OwnBytes header) (group ++ event.Line line ∷ past)
  pub hosts : EachEvent (IsOnHosts header) (group ++ event.Line line ∷ past)
  pub prompt : BeforeSteps (Prompt header) (group ++ event.Line line ∷ past)
  pub paid : BeforeSteps (IsPaid header) (group ++ event.Line line ∷ past)
  pub ends : IsPaid header (group ++ event.Line line ∷ past)
  -- at each moment
  pub frames : MomentsIn (AllHaveFrames header) group (event.Line line ∷ past)
