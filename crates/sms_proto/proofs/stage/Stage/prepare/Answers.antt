use Rattle.std.proofs.Common.{sym, subst, List}
use Rattle.vm_model.specs.declared.event.Event.{Event}
use Rattle.sms_proto.specs.Worlds.{WorldStands}
use Rattle.sms_proto.proofs.Answering.{stands_reserved, stands_each}
use Rattle.sms_proto.proofs.stage.Stage.prepare.Goals as goal

pub returns-in_err-make_places-clause-stands : goal.returns-in_err-make_places-clause-stands
returns-in_err-make_places-clause-stands c =
    subst (λ (e : List Event). WorldStands c.args.self.now.size c.make_places.new.kernels.items c.reserve.new.self e) (sym c.reserve-2.ensures.same)
    (stands_each c.args.self.now.size c.args.self.now.kernels.items c.make_places.new.kernels.items c.reserve.new.self c.args.self.now.events.items
    c.make_places.ensures.same (c.make_places.ensures.each c.args.self.now.size c.args.self.now.events.items)
    (stands_reserved c.args.self.now.size c.args.self.now.kernels.items c.args.self.now.directory c.reserve.new.self c.args.self.now.events.items
    c.reserve.ensures.same c.requires.stands))

pub returns-clause-stands : goal.returns-clause-stands
returns-clause-stands c =
    subst (λ (e : List Event). WorldStands c.args.self.now.size c.make_places.new.kernels.items c.reserve.new.self e) (sym c.reserve-2.ensures.same)
    (stands_each c.args.self.now.size c.args.self.now.kernels.items c.make_places.new.kernels.items c.reserve.new.self c.args.self.now.events.items
    c.make_places.ensures.same (c.make_places.ensures.each c.args.self.now.size c.args.self.now.events.items)
    (stands_reserved c.args.self.now.size c.args.self.now.kernels.items c.args.self.now.directory c.reserve.new.self c.args.self.now.events.items
    c.reserve.ensures.same c.requires.stands))
