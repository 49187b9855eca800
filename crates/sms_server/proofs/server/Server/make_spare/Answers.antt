use Rattle.std.proofs.Common.{rules}
use Rattle.sms_server.proofs.Placed.{kept_reserved}
use Rattle.sms_server.proofs.server.Server.make_spare.Goals as goal

pub invariant_of-self-in_err-reserve-2 : goal.invariant_of-self-in_err-reserve-2
invariant_of-self-in_err-reserve-2 c =
    kept_reserved c.self.inside.size c.self.inside.rows.items c.reserve.new.self.items c.self.inside.places c.reserve-2.new.self c.self.inside.spare _
    c.self.inside.events.items c.self.invariant c.reserve.ensures.items c.reserve-2.ensures.groups c.reserve-2.ensures.objects (search rules)

pub invariant_of-self-in_err-directory-in-None : goal.invariant_of-self-in_err-directory-in-None
invariant_of-self-in_err-directory-in-None c =
    kept_reserved c.self.inside.size c.self.inside.rows.items c.reserve.new.self.items c.self.inside.places c.reserve-2.new.self c.self.inside.spare _
    c.self.inside.events.items c.self.invariant c.reserve.ensures.items c.reserve-2.ensures.groups c.reserve-2.ensures.objects (search rules)

pub invariant_of-self-in_err-reserve-3 : goal.invariant_of-self-in_err-reserve-3
invariant_of-self-in_err-reserve-3 c =
    kept_reserved c.self.inside.size c.self.inside.rows.items c.reserve.new.self.items c.self.inside.places c.reserve-2.new.self c.self.inside.spare _
    c.self.inside.events.items c.self.invariant c.reserve.ensures.items c.reserve-2.ensures.groups c.reserve-2.ensures.objects (search rules)

pub invariant_of-self-2 : goal.invariant_of-self-2
invariant_of-self-2 c =
    kept_reserved c.self.inside.size c.self.inside.rows.items c.reserve.new.self.items c.self.inside.places c.reserve-2.new.self c.self.inside.spare _
    c.self.inside.events.items c.self.invariant c.reserve.ensures.items c.reserve-2.ensures.groups c.reserve-2.ensures.objects (search rules)
