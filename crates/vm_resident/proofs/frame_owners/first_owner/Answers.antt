use Rattle.std.proofs.Common.{◌∙◌, ap, sym}
use Rattle.vm_resident.proofs.Owners.{owner_first, owner_later}
use Rattle.vm_resident.specs.Kept.{pages_of}
use Rattle.vm_resident.specs.Resident.{owner_among}
use Rattle.vm_resident.proofs.frame_owners.first_owner.Goals as goal

pub all-init : goal.all-init
all-init c = ap (λ z. owner_among c.args.f.0 (pages_of z)) c.into_iter-key-iterator.ensures.into_iter_gives.0

pub returns-then-row-f : goal.returns-then-row-f
returns-then-row-f c =
    owner_first c.args.f.0 c.in-Some.key.now c.in-Some.row.now c.all.key-iterator c.next.new.self c.in-Some.ensures.steps c.if-row-f.true ∙ c.all.invariant

pub all-preserved : goal.all-preserved
all-preserved c =
    owner_later c.args.f.0 c.in-Some.key.now c.in-Some.row.now c.all.key-iterator c.next.new.self c.in-Some.ensures.steps c.if-row-f.false ∙ c.all.invariant

pub returns : goal.returns
returns c = ap (λ z. owner_among c.args.f.0 (pages_of z)) (sym c.in-None.ensures.steps.0) ∙ c.all.invariant
