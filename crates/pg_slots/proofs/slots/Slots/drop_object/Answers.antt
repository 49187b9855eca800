use Rattle.std.proofs.Common.{ℕ, None, Option, Some, refl}
use Rattle.pg_slots.proofs.Choices.{kept_dropped}
use Rattle.pg_slots.proofs.Giving.{none_given}
use Rattle.pg_slots.specs.Kept.{slot_in_map}
use Rattle.pg_slots.proofs.slots.Slots.drop_object.Goals as goal

pub invariant_of-self : goal.invariant_of-self
invariant_of-self c =
    kept_dropped c.self.inside.host.0 c.args.object.0 (slot_in_map (Some c.in-Some.pages)) c.self.inside.rows.rows c.drop_object.new.self.rows
    c.self.inside.free c.give_back.new.free c.drop_object.ensures.dropped c.in-Some.ensures.slots c.give_back.ensures c.self.invariant

pub invariant_of-self-in_default : goal.invariant_of-self-in_default
invariant_of-self-in_default c =
    let none : ℕ → Option ℕ = λ p. None in
    kept_dropped c.self.inside.host.0 c.args.object.0 none c.self.inside.rows.rows c.drop_object.new.self.rows c.self.inside.free c.self.inside.free
    c.drop_object.ensures.dropped c.in_default.ensures.slots (none_given none c.self.inside.free (λ p. refl)) c.self.invariant
