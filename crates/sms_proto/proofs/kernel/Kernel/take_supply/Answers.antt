use Rattle.std.proofs.Common.{◌∙◌, ap, arith}
use Rattle.std.proofs.lemmas.Grind.{common_steps}
use Rattle.std.proofs.lemmas.Bool.Decides.{nat_tests}
use Rattle.vm_model.specs.declared.message.Message.{Message}
use Rattle.vm_model.specs.declared.event.Event.TheVariants.{Taken}
use Rattle.vm_model.specs.declared.message.Channel.TheVariants.{Down}
use Rattle.sms_proto.proofs.Adding.{adds_none}
use Rattle.sms_proto.proofs.Supplies.{supply_locks, supply_bounded, supplied_not, supplied_yes, first_whole}
use Rattle.sms_proto.proofs.Queues.{map_end, each_end}
use Rattle.sms_proto.proofs.kernel.Kernel.take_supply.Goals as goal

pub returns-then-not-self-clause-adds : goal.returns-then-not-self-clause-adds
returns-then-not-self-clause-adds c =
    adds_none _ _ _ _ _ c.in_ok-push.ensures.ok (c.taken.ensures
    ∙ ap (λ (m : Message). Taken (Down c.args.self.now.host (record { 0 = 0 }) c.args.self.now.control) m) c.requires.message)

pub returns-clause-adds : goal.returns-clause-adds
returns-clause-adds c =
    adds_none _ _ _ _ _ c.in_ok-push.ensures.ok (c.taken.ensures
    ∙ ap (λ (m : Message). Taken (Down c.args.self.now.host (record { 0 = 0 }) c.args.self.now.control) m) c.requires.message)

pub returns-then-not-self-clause-fits : goal.returns-then-not-self-clause-fits
returns-then-not-self-clause-fits c =
    record {
      control = grind (arith, nat_tests, common_steps, map_end, each_end, supply_locks, supply_bounded, supplied_not, supplied_yes, first_whole);
      live = grind (arith, nat_tests, common_steps, map_end, each_end, supply_locks, supply_bounded, supplied_not, supplied_yes, first_whole);
      ready = grind (arith, nat_tests, common_steps, map_end, each_end, supply_locks, supply_bounded, supplied_not, supplied_yes, first_whole);
      right = grind (arith, nat_tests, common_steps, map_end, each_end, supply_locks, supply_bounded, supplied_not, supplied_yes, first_whole);
      lock = grind (arith, nat_tests, common_steps, map_end, each_end, supply_locks, supply_bounded, supplied_not, supplied_yes, first_whole);
      bytes = grind (arith, nat_tests, common_steps, map_end, each_end, supply_locks, supply_bounded, supplied_not, supplied_yes, first_whole);
      dirty = grind (arith, nat_tests, common_steps, map_end, each_end, supply_locks, supply_bounded, supplied_not, supplied_yes, first_whole);
      asked = grind (arith, nat_tests, common_steps, map_end, each_end, supply_locks, supply_bounded, supplied_not, supplied_yes, first_whole);
      unlocking = grind (arith, nat_tests, common_steps, map_end, each_end, supply_locks, supply_bounded, supplied_not, supplied_yes, first_whole);
      step = grind (arith, nat_tests, common_steps, map_end, each_end, supply_locks, supply_bounded, supplied_not, supplied_yes, first_whole);
      heard = grind (arith, nat_tests, common_steps, map_end, each_end, supply_locks, supply_bounded, supplied_not, supplied_yes, first_whole);
      up = grind (arith, nat_tests, common_steps, map_end, each_end, supply_locks, supply_bounded, supplied_not, supplied_yes, first_whole);
      down = grind (arith, nat_tests, common_steps, map_end, each_end, supply_locks, supply_bounded, supplied_not, supplied_yes, first_whole);
      waits = grind (arith, nat_tests, common_steps, map_end, each_end, supply_locks, supply_bounded, supplied_not, supplied_yes, first_whole);
      sent = grind (arith, nat_tests, common_steps, map_end, each_end, supply_locks, supply_bounded, supplied_not, supplied_yes, first_whole);
      coming = grind (arith, nat_tests, common_steps, map_end, each_end, supply_locks, supply_bounded, supplied_not, supplied_yes, first_whole);
      later = grind (arith, nat_tests, common_steps, map_end, each_end, supply_locks, supply_bounded, supplied_not, supplied_yes, first_whole);
      gone_right = grind (arith, nat_tests, common_steps, map_end, each_end, supply_locks, supply_bounded, supplied_not, supplied_yes, first_whole);
      gone_down = grind (arith, nat_tests, common_steps, map_end, each_end, supply_locks, supply_bounded, supplied_not, supplied_yes, first_whole);
      gone_asked = grind (arith, nat_tests, common_steps, map_end, each_end, supply_locks, supply_bounded, supplied_not, supplied_yes, first_whole);
      asked_away = grind (arith, nat_tests, common_steps, map_end, each_end, supply_locks, supply_bounded, supplied_not, supplied_yes, first_whole);
      asked_waits = grind (arith, nat_tests, common_steps, map_end, each_end, supply_locks, supply_bounded, supplied_not, supplied_yes, first_whole);
      bounded = grind (arith, nat_tests, common_steps, map_end, each_end, supply_locks, supply_bounded, supplied_not, supplied_yes, first_whole);
      heard_before = grind (arith, nat_tests, common_steps, map_end, each_end, supply_locks, supply_bounded, supplied_not, supplied_yes, first_whole);
      proper = grind (arith, nat_tests, common_steps, map_end, each_end, supply_locks, supply_bounded, supplied_not, supplied_yes, first_whole);
      supplies = grind (arith, nat_tests, common_steps, map_end, each_end, supply_locks, supply_bounded, supplied_not, supplied_yes, first_whole);
      whole = grind (arith, nat_tests, common_steps, map_end, each_end, supply_locks, supply_bounded, supplied_not, supplied_yes, first_whole);
      front = grind (arith, nat_tests, common_steps, map_end, each_end, supply_locks, supply_bounded, supplied_not, supplied_yes, first_whole);
    }

pub returns-clause-fits : goal.returns-clause-fits
returns-clause-fits c =
    record {
      control = grind (arith, nat_tests, common_steps, map_end, each_end, supply_locks, supply_bounded, supplied_not, supplied_yes, first_whole);
      live = grind (arith, nat_tests, common_steps, map_end, each_end, supply_locks, supply_bounded, supplied_not, supplied_yes, first_whole);
      ready = grind (arith, nat_tests, common_steps, map_end, each_end, supply_locks, supply_bounded, supplied_not, supplied_yes, first_whole);
      right = grind (arith, nat_tests, common_steps, map_end, each_end, supply_locks, supply_bounded, supplied_not, supplied_yes, first_whole);
      lock = grind (arith, nat_tests, common_steps, map_end, each_end, supply_locks, supply_bounded, supplied_not, supplied_yes, first_whole);
      bytes = grind (arith, nat_tests, common_steps, map_end, each_end, supply_locks, supply_bounded, supplied_not, supplied_yes, first_whole);
      dirty = grind (arith, nat_tests, common_steps, map_end, each_end, supply_locks, supply_bounded, supplied_not, supplied_yes, first_whole);
      asked = grind (arith, nat_tests, common_steps, map_end, each_end, supply_locks, supply_bounded, supplied_not, supplied_yes, first_whole);
      unlocking = grind (arith, nat_tests, common_steps, map_end, each_end, supply_locks, supply_bounded, supplied_not, supplied_yes, first_whole);
      step = grind (arith, nat_tests, common_steps, map_end, each_end, supply_locks, supply_bounded, supplied_not, supplied_yes, first_whole);
      heard = grind (arith, nat_tests, common_steps, map_end, each_end, supply_locks, supply_bounded, supplied_not, supplied_yes, first_whole);
      up = grind (arith, nat_tests, common_steps, map_end, each_end, supply_locks, supply_bounded, supplied_not, supplied_yes, first_whole);
      down = grind (arith, nat_tests, common_steps, map_end, each_end, supply_locks, supply_bounded, supplied_not, supplied_yes, first_whole);
      waits = grind (arith, nat_tests, common_steps, map_end, each_end, supply_locks, supply_bounded, supplied_not, supplied_yes, first_whole);
      sent = grind (arith, nat_tests, common_steps, map_end, each_end, supply_locks, supply_bounded, supplied_not, supplied_yes, first_whole);
      coming = grind (arith, nat_tests, common_steps, map_end, each_end, supply_locks, supply_bounded, supplied_not, supplied_yes, first_whole);
      later = grind (arith, nat_tests, common_steps, map_end, each_end, supply_locks, supply_bounded, supplied_not, supplied_yes, first_whole);
      gone_right = grind (arith, nat_tests, common_steps, map_end, each_end, supply_locks, supply_bounded, supplied_not, supplied_yes, first_whole);
      gone_down = grind (arith, nat_tests, common_steps, map_end, each_end, supply_locks, supply_bounded, supplied_not, supplied_yes, first_whole);
      gone_asked = grind (arith, nat_tests, common_steps, map_end, each_end, supply_locks, supply_bounded, supplied_not, supplied_yes, first_whole);
      asked_away = grind (arith, nat_tests, common_steps, map_end, each_end, supply_locks, supply_bounded, supplied_not, supplied_yes, first_whole);
      asked_waits = grind (arith, nat_tests, common_steps, map_end, each_end, supply_locks, supply_bounded, supplied_not, supplied_yes, first_whole);
      bounded = grind (arith, nat_tests, common_steps, map_end, each_end, supply_locks, supply_bounded, supplied_not, supplied_yes, first_whole);
      heard_before = grind (arith, nat_tests, common_steps, map_end, each_end, supply_locks, supply_bounded, supplied_not, supplied_yes, first_whole);
      proper = grind (arith, nat_tests, common_steps, map_end, each_end, supply_locks, supply_bounded, supplied_not, supplied_yes, first_whole);
      supplies = grind (arith, nat_tests, common_steps, map_end, each_end, supply_locks, supply_bounded, supplied_not, supplied_yes, first_whole);
      whole = grind (arith, nat_tests, common_steps, map_end, each_end, supply_locks, supply_bounded, supplied_not, supplied_yes, first_whole);
      front = grind (arith, nat_tests, common_steps, map_end, each_end, supply_locks, supply_bounded, supplied_not, supplied_yes, first_whole);
    }
