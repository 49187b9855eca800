use Rattle.vm_model.specs.declared.command.Command.TheVariants as command
use Rattle.vm_kernel.proofs.parts.Parts.change_entries.Given as goal

abbrev pub ghost-allocate : goal.ghost-allocate
ghost-allocate g a = g.given

abbrev pub ghost-protect : goal.ghost-protect
ghost-protect g a = g.given

abbrev pub ghost-inherit : goal.ghost-inherit
ghost-inherit g a = g.given

abbrev pub ghost-deallocate : goal.ghost-deallocate
ghost-deallocate g a =
    record {
      header = g.given.header;
      host = g.given.host;
      outside = g.given.outside;
      past = g.given.past;
      command = command.Deallocate a.task a.address a.bytes;
    }
