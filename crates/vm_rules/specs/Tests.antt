-- What there is to test in a history.
use Rattle.std.specs.Prelude.{List}
use Rattle.vm_model.specs.declared.command.Numbered.{Numbered}
use Rattle.vm_model.specs.declared.event.Event.{Event}
use Rattle.vm_model.specs.declared.script.Header.{Header}
use Rattle.vm_model.specs.Moments.{EachEvent, EachMoment, BeforeSteps}
use Rattle.vm_legal.specs.Bytes.{OwnBytes}
use Rattle.vm_legal.specs.Debts.{IsPaid}
use Rattle.vm_legal.specs.Follows.{FollowsAnyCut}
use Rattle.vm_legal.specs.Frames.{FramesSuffice}
use Rattle.vm_legal.specs.Outside.{Outside}
use Rattle.vm_legal.specs.Prompt.{AllServed, Prompt}

-- each event, each moment and each step of the history is as the rules want it, for the commands that were run; it may end behind any event
pub record Tests (header : Header) (outside : Outside) (run : List Numbered) (history : List Event) : Type 0 where
  -- the groups are those of the commands, wherever the history ends, and each event has its cause
  pub follows : FollowsAnyCut header outside run history
  -- each load answers from its own host's page
  pub own_bytes : EachEvent (OwnBytes header) history
  -- at every moment the frames suffice
  pub frames : EachMoment (FramesSuffice header) history
  -- whenever a step has ended, no access waits in vain and nothing is left behind
  pub prompt : BeforeSteps (Prompt header) history
  -- and it did what it owes
  pub paid : BeforeSteps (IsPaid header) history
  -- and of each page of shared memory that somebody wants some host is awaited
  pub served : BeforeSteps (AllServed header) history
