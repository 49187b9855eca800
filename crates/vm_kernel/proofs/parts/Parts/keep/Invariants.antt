use Rattle.vm_kernel.proofs.Common.{[]}
use Rattle.vm_kernel.proofs.parts.Parts.keep.Given as goal

abbrev pub ghost-end_object : goal.ghost-end_object
ghost-end_object g a =
    record {
      header = g.given.header;
      host = g.given.host;
      outside = g.given.outside;
      past = g.given.past;
      command = g.given.command;
      who = g.given.who;
      rest = [];
    }
