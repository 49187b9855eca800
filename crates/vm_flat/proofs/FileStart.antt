-- How two runs with a file begin: its page is mapped, and a load reads it.
use Rattle.std.proofs.Common.{List, [], ◌∷◌, true, false}
use Rattle.vm_base.specs.declared.entry.Entry.{Entry}
use Rattle.vm_base.specs.declared.ids.Inherit.TheVariants.{Share}
use Rattle.vm_base.specs.declared.ids.Prot.{Prot}
use Rattle.vm_model.specs.declared.command.Command.{Command}
use Rattle.vm_model.specs.declared.command.Command.TheVariants as command
use Rattle.vm_model.specs.declared.event.Event.{Event}
use Rattle.vm_model.specs.declared.event.Event.TheVariants as event
use Rattle.vm_model.specs.declared.message.Channel.TheVariants.{Up, Down}
use Rattle.vm_model.specs.declared.message.Message.TheVariants as message

abbrev pub all : Prot
all = record { read = true; write = true }

abbrev pub mapped : Entry
mapped = record { address = 64; bytes = 16; region = record { 0 = 0 }; offset = 0; prot = all; inherit = Share }

-- for these commands
abbrev pub settling : Command
settling = command.Settle 9

abbrev pub past_0 : List Event
past_0 = event.Line 1 ∷ []

abbrev pub past_1 : List Event
past_1 = event.TaskMade (record { 0 = 0 }) (record { 0 = 0 }) ∷ past_0

abbrev pub past_2 : List Event
past_2 = event.Line 2 ∷ past_1

abbrev pub past_3 : List Event
past_3 = event.Entered (record { 0 = 0 }) 64 16 (record { 0 = 0 }) 0 all Share ∷ past_2

abbrev pub past_4 : List Event
past_4 = event.Sent (Up (record { 0 = 0 }) (record { 0 = 0 })) (message.Init 1 16) ∷ past_3

abbrev pub past_5 : List Event
past_5 = event.Line 3 ∷ past_4

abbrev pub past_6 : List Event
past_6 = event.BegunLoad (record { 0 = 0 }) 64 2 ∷ past_5

abbrev pub past_7 : List Event
past_7 = event.Line 4 ∷ past_6

abbrev pub past_8 : List Event
past_8 = event.Taken (Up (record { 0 = 0 }) (record { 0 = 0 })) (message.Init 1 16) ∷ past_7

abbrev pub past_9 : List Event
past_9 = event.Sent (Down (record { 0 = 0 }) (record { 0 = 0 }) 1) (message.Ready false 2) ∷ past_8

abbrev pub past_10 : List Event
past_10 = event.Taken (Down (record { 0 = 0 }) (record { 0 = 0 }) 1) (message.Ready false 2) ∷ past_9

abbrev pub past_11 : List Event
past_11 = event.Sent (Up (record { 0 = 0 }) (record { 0 = 0 })) (message.Request 1 (record { 0 = 0 }) 1) ∷ past_10

abbrev pub past_12 : List Event
past_12 = event.Taken (Up (record { 0 = 0 }) (record { 0 = 0 })) (message.Request 1 (record { 0 = 0 }) 1) ∷ past_11

abbrev pub past_13 : List Event
past_13 =
    event.Sent (Down (record { 0 = 0 }) (record { 0 = 0 }) 1) (message.Supply (record { 0 = 0 }) 0 false
    (4 ∷ 5 ∷ 0 ∷ 0 ∷ 0 ∷ 0 ∷ 0 ∷ 0 ∷ 0 ∷ 0 ∷ 0 ∷ 0 ∷ 0 ∷ 0 ∷ 0 ∷ 0 ∷ [])) ∷ past_12

abbrev pub past_14 : List Event
past_14 =
    event.Taken (Down (record { 0 = 0 }) (record { 0 = 0 }) 1) (message.Supply (record { 0 = 0 }) 0 false
    (4 ∷ 5 ∷ 0 ∷ 0 ∷ 0 ∷ 0 ∷ 0 ∷ 0 ∷ 0 ∷ 0 ∷ 0 ∷ 0 ∷ 0 ∷ 0 ∷ 0 ∷ 0 ∷ [])) ∷ past_13

abbrev pub past_15 : List Event
past_15 = event.Loaded (record { 0 = 0 }) (record { 0 = 0 }) (record { 0 = 0 }) 1284 ∷ past_14

abbrev pub past_16 : List Event
past_16 = event.Line 5 ∷ past_15
