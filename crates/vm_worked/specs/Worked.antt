-- A whole history with a slow copy: page 16 / hosts 1 4 / shared s 1 / task 0 0 / map 0 0 16 s 0 / settle 100 / copy 0 0 16 0 32 / settle 100.
use Rattle.std.specs.Prelude.{◌∷◌, [], List, true}
use Rattle.vm_base.specs.declared.ids.Inherit.TheVariants.{Copy}
use Rattle.vm_base.specs.declared.ids.Prot.{Prot}
use Rattle.vm_model.specs.declared.command.Command.TheVariants as command
use Rattle.vm_model.specs.declared.command.Numbered.{Numbered}
use Rattle.vm_model.specs.declared.event.Event.{Event}
use Rattle.vm_model.specs.declared.event.Event.TheVariants as event
use Rattle.vm_model.specs.declared.script.Header.{Header}
use Rattle.vm_legal.specs.Outside.{Outside}
use Rattle.vm_quiet.specs.Unended as unended

-- pages of 16 bytes, one host of 4 frames, a shared object of one page
abbrev pub header : Header
header = unended.header

-- nothing is told of files, and there are none
abbrev pub outside : Outside
outside = unended.outside

abbrev pub both : Prot
both = record { read = true; write = true }

-- the commands, the newest first
abbrev pub commands : List Numbered
commands =
    record { line = 8; command = command.Settle 100 } ∷
    record { line = 7; command = command.Copy unended.task 0 16 unended.task 32 } ∷
    record { line = 6; command = command.Settle 100 } ∷
    record { line = 5; command = command.Map unended.task 0 16 unended.shared 0 } ∷
    record { line = 4; command = command.Task unended.task unended.host } ∷
    []

-- the events, the newest first: behind its last page the copy ends, and its task gets the entry of what it filled
abbrev pub history : List Event
history = event.Entered unended.task 32 16 unended.filled 0 both Copy ∷ event.CopyEnded unended.task ∷ unended.history
