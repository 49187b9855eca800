use Rattle.vm_model.specs.declared.command.Command.TheVariants as command
use Rattle.vm_kernel.proofs.parts.Parts.copy.Given as goal

abbrev pub ghost-begin_copy : goal.ghost-begin_copy
ghost-begin_copy g a =
    record {
      header = g.given.header;
      host = g.given.host;
      outside = g.given.outside;
      past = g.given.past;
      command = command.Copy a.task a.address a.bytes a.task a.to;
    }

abbrev pub ghost-restart : goal.ghost-restart
ghost-restart g a = g.given
