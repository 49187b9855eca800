use Rattle.std.specs.Prelude.{◌+◌}
use Rattle.vm_model.specs.declared.command.Command.TheVariants as command
use Rattle.vm_legal.specs.Steps.{takings}
use Rattle.top_tests.proofs.system.take_all.Given as goal

abbrev pub ghost-take_oldest : goal.ghost-take_oldest
ghost-take_oldest g a =
    record {
      header = g.given.header;
      outside = g.given.outside;
      command = command.Settle (takings a.self.now.history.items + 1);
      past = a.self.now.history.items;
    }

abbrev pub ghost-settle : goal.ghost-settle
ghost-settle g a =
    record {
      header = g.given.header;
      outside = g.given.outside;
      command = command.Settle (takings a.system.now.history.items + 1);
      past = a.system.now.history.items;
    }
