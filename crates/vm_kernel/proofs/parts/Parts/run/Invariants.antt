use Rattle.vm_kernel.proofs.Common.{host_id}
use Rattle.vm_model.specs.declared.command.Command.TheVariants as command
use Rattle.vm_kernel.proofs.parts.Parts.run.Given as goal

abbrev pub ghost-make_task : goal.ghost-make_task
ghost-make_task g a = g.given

abbrev pub ghost-fork : goal.ghost-fork
ghost-fork g a =
    record { header = g.given.header; host = g.given.host; outside = g.given.outside; past = g.given.past; command = command.Fork a.task a.child }

abbrev pub ghost-copy : goal.ghost-copy
ghost-copy g a =
    record {
      header = g.given.header;
      host = g.given.host;
      outside = g.given.outside;
      past = g.given.past;
      command = command.Copy a.task a.address a.bytes a.target a.to;
    }

abbrev pub ghost-wire : goal.ghost-wire
ghost-wire g a = g.given

abbrev pub ghost-unwire : goal.ghost-unwire
ghost-unwire g a = g.given

abbrev pub ghost-map : goal.ghost-map
ghost-map g a = g.given

abbrev pub ghost-exit : goal.ghost-exit
ghost-exit g a = record { header = g.given.header; host = g.given.host; outside = g.given.outside; past = g.given.past; command = command.Exit a.task }

abbrev pub ghost-load : goal.ghost-load
ghost-load g a =
    record { header = g.given.header; host = g.given.host; outside = g.given.outside; past = g.given.past; command = command.Load a.task a.address a.size }

abbrev pub ghost-store : goal.ghost-store
ghost-store g a =
    record {
      header = g.given.header;
      host = g.given.host;
      outside = g.given.outside;
      past = g.given.past;
      command = command.Store a.task a.address a.size a.value;
    }

abbrev pub ghost-pageout : goal.ghost-pageout
ghost-pageout g a =
    record {
      header = g.given.header;
      host = g.given.host;
      outside = g.given.outside;
      past = g.given.past;
      command = command.Pageout (host_id g.given.host) a.count;
    }

abbrev pub ghost-change_entries : goal.ghost-change_entries
ghost-change_entries g a = g.given
