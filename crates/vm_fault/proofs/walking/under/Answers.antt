use Rattle.std.proofs.Common.{ap, sym, ◌∙◌, arith}
use Rattle.vm_parts.specs.Fits.{pages_of_row}
use Rattle.vm_fault.proofs.Standing.{object_there, stands_at, under_inside}
use Rattle.vm_fault.proofs.walking.under.Goals as goal

pub unreachable-requires : goal.unreachable-requires
unreachable-requires c =
    let found = sym c.in_ok-row.ensures.value in
    object_there c.args.parts.now.objects c.in_ok-row.row.under.0 _ (under_inside c.args.chains.now c.args.parts.now.objects c.args.spot c.in_ok-row.row
    c.requires.fits c.requires.stands found) (sym c.find.ensures ∙ c.in_default.is)

pub overflow_add-key : goal.overflow_add-key
overflow_add-key c =
    let less = under_inside c.args.chains.now c.args.parts.now.objects c.args.spot c.in_ok-row.row c.requires.fits c.requires.stands
    (sym c.in_ok-row.ensures.value) in
    omega (arith, less, ap pages_of_row (sym c.find.ensures ∙ c.in-Some.is))

pub returns-clause-stands : goal.returns-clause-stands
returns-clause-stands c =
    let row = c.in_ok-row.row in
    let objects = c.args.parts.now.objects in
    let less = under_inside c.args.chains.now objects c.args.spot row c.requires.fits c.requires.stands (sym c.in_ok-row.ensures.value) in
    stands_at objects _ c.in-Some.object (sym c.find.ensures ∙ c.in-Some.is) less
