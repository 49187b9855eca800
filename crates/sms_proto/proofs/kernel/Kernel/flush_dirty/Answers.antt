use Rattle.std.proofs.Common.{refl, ◌∙◌, ap, sym, subst, arith}
use Rattle.std.proofs.lemmas.Grind.{common_steps}
use Rattle.std.proofs.lemmas.Bool.Decides.{nat_tests}
use Rattle.vm_model.specs.declared.message.Message.{Message}
use Rattle.vm_model.specs.declared.event.Event.TheVariants.{Taken}
use Rattle.vm_model.specs.declared.message.Channel.TheVariants.{Down}
use Rattle.sms_proto.specs.Adds.{IsPageMessage}
use Rattle.sms_proto.proofs.Adding.{adds_next, adds_none}
use Rattle.sms_proto.proofs.Queues.{map_end, each_end}
use Rattle.sms_proto.proofs.kernel.Kernel.flush_dirty.Goals as goal

pub returns-clause-adds : goal.returns-clause-adds
returns-clause-adds c =
    adds_next _ _ _ _ _ _ c.in_ok-push-3.ensures.ok c.done.ensures (refl, refl, refl)
    (adds_next _ _ _ _ _ _ c.in_ok-push-2.ensures.ok c.sent.ensures (
      refl,
      refl,
      subst (λ (m : Message). IsPageMessage m) (sym c.in_ok-message.ensures) refl,
    )
    (adds_none _ _ _ _ _ c.in_ok-push.ensures.ok (c.taken.ensures
    ∙ ap (λ (m : Message). Taken (Down c.args.self.now.host (record { 0 = 0 }) c.args.self.now.control) m) c.lock.ensures)))

pub returns-clause-fits : goal.returns-clause-fits
returns-clause-fits c =
    record {
      control = grind (arith, nat_tests, common_steps, map_end, each_end);
      live = grind (arith, nat_tests, common_steps, map_end, each_end);
      ready = grind (arith, nat_tests, common_steps, map_end, each_end);
      right = grind (arith, nat_tests, common_steps, map_end, each_end);
      lock = grind (arith, nat_tests, common_steps, map_end, each_end);
      bytes = grind (arith, nat_tests, common_steps, map_end, each_end);
      dirty = grind (arith, nat_tests, common_steps, map_end, each_end);
      asked = grind (arith, nat_tests, common_steps, map_end, each_end);
      unlocking = grind (arith, nat_tests, common_steps, map_end, each_end);
      step = grind (arith, nat_tests, common_steps, map_end, each_end);
      heard = grind (arith, nat_tests, common_steps, map_end, each_end);
      up = grind (arith, nat_tests, common_steps, map_end, each_end);
      down = grind (arith, nat_tests, common_steps, map_end, each_end);
      waits = grind (arith, nat_tests, common_steps, map_end, each_end);
      sent = grind (arith, nat_tests, common_steps, map_end, each_end);
      coming = grind (arith, nat_tests, common_steps, map_end, each_end);
      later = grind (arith, nat_tests, common_steps, map_end, each_end);
      gone_right = grind (arith, nat_tests, common_steps, map_end, each_end);
      gone_down = grind (arith, nat_tests, common_steps, map_end, each_end);
      gone_asked = grind (arith, nat_tests, common_steps, map_end, each_end);
      asked_away = grind (arith, nat_tests, common_steps, map_end, each_end);
      asked_waits = grind (arith, nat_tests, common_steps, map_end, each_end);
      bounded = grind (arith, nat_tests, common_steps, map_end, each_end);
      heard_before = grind (arith, nat_tests, common_steps, map_end, each_end);
      proper = grind (arith, nat_tests, common_steps, map_end, each_end);
      supplies = grind (arith, nat_tests, common_steps, map_end, each_end);
      whole = grind (arith, nat_tests, common_steps, map_end, each_end);
      front = grind (arith, nat_tests, common_steps, map_end, each_end);
    }
