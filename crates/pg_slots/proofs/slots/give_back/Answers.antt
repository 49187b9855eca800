use Rattle.std.proofs.Common.{None, Some, refl, sym, ◌∙◌}
use Rattle.std.proofs.lemmas.Bool.{false≢true}
use Rattle.pg_slots.specs.Kept.{slot_in_map}
use Rattle.pg_slots.proofs.Giving.{given_back, gone, none_left, slot_last, slots_left}
use Rattle.pg_slots.proofs.slots.give_back.Goals as goal

pub give-requires : goal.give-requires
give-requires c =
    let page = c.in-Some.field-0-0 in
    let own = slot_last c.all.left c.pop.new.self page c.in-Some.held c.in-Some.ensures.entries c.in-Some.ensures.updates.1
    ∙ (sym c.slot_in.ensures ∙ c.in-Some-slot_in.is) in
    c.all.invariant.there page.0 c.in-Some-slot_in.slot own

pub all-preserved-in-Some-slot_in : goal.all-preserved-in-Some-slot_in
all-preserved-in-Some-slot_in c =
    let page = c.in-Some.field-0-0 in
    let own = slot_last c.all.left c.pop.new.self page c.in-Some.held c.in-Some.ensures.entries c.in-Some.ensures.updates.1
    ∙ (sym c.slot_in.ensures ∙ c.in-Some-slot_in.is) in
    gone (slot_in_map (Some c.args.pages)) (slot_in_map (Some c.all.left)) (slot_in_map (Some c.pop.new.self)) page.0 (Some c.in-Some-slot_in.slot)
    c.args.free.now c.all.free c.give.new.self c.requires c.all.invariant own
    (slots_left c.all.left c.pop.new.self page.0 (λ p. c.in-Some.ensures.updates.0 (record { 0 = p }))) (c.give.ensures.count, c.give.ensures.taken)

pub all-preserved : goal.all-preserved
all-preserved c =
    let page = c.in-Some.field-0-0 in
    let own = slot_last c.all.left c.pop.new.self page c.in-Some.held c.in-Some.ensures.entries c.in-Some.ensures.updates.1
    ∙ (sym c.slot_in.ensures ∙ c.in_default-slot_in.is) in
    gone (slot_in_map (Some c.args.pages)) (slot_in_map (Some c.all.left)) (slot_in_map (Some c.pop.new.self)) page.0 None c.args.free.now c.all.free c.all.free
    c.requires c.all.invariant own
    (slots_left c.all.left c.pop.new.self page.0 (λ p. c.in-Some.ensures.updates.0 (record { 0 = p }))) refl

pub returns : goal.returns
returns c =
    given_back (slot_in_map (Some c.args.pages)) (slot_in_map (Some c.all.left)) c.args.free.now c.all.free c.all.invariant
    (none_left c.all.left (λ less. false≢true (c.in_default.ensures.found.1 less)))
