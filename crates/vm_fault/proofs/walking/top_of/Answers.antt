use Rattle.std.proofs.lemmas.Option.{MatchOption-at_some}
use Rattle.std.proofs.Common.{ap, sym, ◌∙◌, ◌<◌, arith}
use Rattle.vm_parts.specs.Fits.{pages_of_row}
use Rattle.vm_fault.proofs.Standing.{object_there, stands_at, top_inside}
use Rattle.vm_fault.proofs.walking.top_of.Goals as goal

pub unreachable-requires-in_default-find : goal.unreachable-requires-in_default-find
unreachable-requires-in_default-find c =
    let found = sym c.region.ensures.row ∙ c.in-Some.is in
    let row = c.in-Some.row in
    let inside = MatchOption-at_some _ (λ r. c.args.page.0 < r.pages) row found c.requires.inside in
    object_there c.args.parts.now.objects row.top.0 _ (top_inside c.args.chains.now c.args.parts.now.objects c.args.region.0 c.args.page.0 row c.requires.fits
    found inside) (sym c.find.ensures ∙ c.in_default-find.is)

pub overflow_add-key : goal.overflow_add-key
overflow_add-key c =
    let found = sym c.region.ensures.row ∙ c.in-Some.is in
    let row = c.in-Some.row in
    let inside = MatchOption-at_some _ (λ r. c.args.page.0 < r.pages) row found c.requires.inside in
    let less = top_inside c.args.chains.now c.args.parts.now.objects c.args.region.0 c.args.page.0 row c.requires.fits found inside in
    omega (arith, less, ap pages_of_row (sym c.find.ensures ∙ c.in-Some-find.is))

pub returns-clause-stands : goal.returns-clause-stands
returns-clause-stands c =
    let found = sym c.region.ensures.row ∙ c.in-Some.is in
    let row = c.in-Some.row in
    let inside = MatchOption-at_some _ (λ r. c.args.page.0 < r.pages) row found c.requires.inside in
    stands_at c.args.parts.now.objects _ c.in-Some-find.object (sym c.find.ensures ∙ c.in-Some-find.is)
    (top_inside c.args.chains.now c.args.parts.now.objects c.args.region.0 c.args.page.0 row c.requires.fits found inside)
