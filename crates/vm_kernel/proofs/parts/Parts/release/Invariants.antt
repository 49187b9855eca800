use Rattle.vm_kernel.proofs.parts.Parts.release.Given as goal
use Rattle.vm_supply.specs.declared.woken.Woken.TheVariants as woken

abbrev pub ghost-end_region : goal.ghost-end_region
ghost-end_region g a =
    record {
      header = g.given.header;
      host = g.given.host;
      outside = g.given.outside;
      past = g.given.past;
      command = g.given.command;
      who = woken.Nobody;
      rest = g.given.rest;
    }
