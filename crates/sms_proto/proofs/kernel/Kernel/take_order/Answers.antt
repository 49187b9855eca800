use Rattle.std.proofs.Common.{◌≡◌, sym, subst, Some, Option, arith}
use Rattle.std.proofs.lemmas.Grind.{common_steps}
use Rattle.vm_model.specs.Server.{first}
use Rattle.sms_proto.specs.declared.letter.Order.{Order}
use Rattle.sms_proto.specs.declared.letter.Order.TheVariants as order
use Rattle.sms_proto.specs.Adds.{HostDoes}
use Rattle.sms_proto.specs.Letters.{taken_first}
use Rattle.sms_proto.specs.Steps.{StepEvents}
use Rattle.sms_proto.proofs.Adding.{on_ok}
use Rattle.sms_proto.proofs.kernel.Kernel.take_order.Goals as goal

pub returns-in_ok-bytes-in-Supply-clause-goes : goal.returns-in_ok-bytes-in-Supply-clause-goes
returns-in_ok-bytes-in-Supply-clause-goes c =
    let head : first c.args.self.now.down.items ≡ Some (order.Supply c.in-Supply.writes c.in_ok-bytes-in-Supply.bytes) = grind (arith, common_steps) in
    on_ok c.take_supply.result _ _ (subst (λ (x : Option Order). StepEvents (HostDoes c.args.self.now.host.0)
    (taken_first c.args.self.now.host c.args.self.now.control x) c.args.events.now.items c.take_supply.new.events.items) (sym head))
    c.take_supply.ensures.adds

pub returns-in-Flush-clause-goes : goal.returns-in-Flush-clause-goes
returns-in-Flush-clause-goes c =
    let head : first c.args.self.now.down.items ≡ Some order.Flush = grind (arith, common_steps) in
    on_ok c.take_flush.result _ _ (subst (λ (x : Option Order). StepEvents (HostDoes c.args.self.now.host.0)
    (taken_first c.args.self.now.host c.args.self.now.control x) c.args.events.now.items c.take_flush.new.events.items) (sym head))
    c.take_flush.ensures.adds

pub returns-in-Clean-clause-goes : goal.returns-in-Clean-clause-goes
returns-in-Clean-clause-goes c =
    let head : first c.args.self.now.down.items ≡ Some order.Clean = grind (arith, common_steps) in
    on_ok c.take_clean.result _ _ (subst (λ (x : Option Order). StepEvents (HostDoes c.args.self.now.host.0)
    (taken_first c.args.self.now.host c.args.self.now.control x) c.args.events.now.items c.take_clean.new.events.items) (sym head))
    c.take_clean.ensures.adds

pub returns-in-Unlock-clause-goes : goal.returns-in-Unlock-clause-goes
returns-in-Unlock-clause-goes c =
    let head : first c.args.self.now.down.items ≡ Some order.Unlock = grind (arith, common_steps) in
    on_ok c.take_unlock.result _ _ (subst (λ (x : Option Order). StepEvents (HostDoes c.args.self.now.host.0)
    (taken_first c.args.self.now.host c.args.self.now.control x) c.args.events.now.items c.take_unlock.new.events.items) (sym head))
    c.take_unlock.ensures.adds
