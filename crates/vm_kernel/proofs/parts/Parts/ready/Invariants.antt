use Rattle.vm_kernel.proofs.Common.{◌++◌}
use Rattle.vm_kernel.proofs.parts.Parts.ready.Given as goal
use Rattle.vm_supply.specs.declared.woken.Woken.TheVariants as who

abbrev pub ghost-keep : goal.ghost-keep
ghost-keep g a =
    record {
      header = g.given.header;
      host = g.given.host;
      outside = g.given.outside;
      past = g.given.front ++ g.given.past;
      command = g.given.command;
      who = who.ReadyOf a.object;
    }
