-- What holds of a history whatever its commands, also inside a step.
use Rattle.std.specs.Prelude.{List}
use Rattle.vm_model.specs.declared.event.Event.{Event}
use Rattle.vm_model.specs.declared.script.Header.{Header}
use Rattle.vm_model.specs.Moments.{BeforeSteps, EachEvent}
use Rattle.vm_legal.specs.Bytes.{OwnBytes}
use Rattle.vm_legal.specs.Debts.{IsPaid}
use Rattle.vm_legal.specs.Licences.{HasCause}
use Rattle.vm_legal.specs.Outside.{Outside}

-- each event has its cause, each load answers from its own host's page, and whenever a step has ended it did what it owes
pub record Lawful (header : Header) (outside : Outside) (history : List Event) : Type 0 where
  pub causes : EachEvent (HasCause header outside) history
  pub own_bytes : EachEvent (OwnBytes header) history
  pub paid : BeforeSteps (IsPaid header) history
