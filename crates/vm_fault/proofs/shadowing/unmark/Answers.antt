use Rattle.std.proofs.lemmas.Option.{MatchOption-at_some}
use Rattle.std.proofs.Common.{false, refl, Some}
use Rattle.vm_fault.proofs.Shadows.{chains_unmarked, told_loses}
use Rattle.vm_shadow.specs.Chains.{PutsRegion}
use Rattle.vm_fault.proofs.shadowing.unmark.Goals as goal

pub returns-clause-ok : goal.returns-clause-ok
returns-clause-ok c copies =
    let chains = c.args.chains.now in
    let row = c.args.row in
    let put = MatchOption-at_some _ (λ r. PutsRegion c.args.region.0 (Some (record r { marked = false })) chains c.unmark.new.self) row c.requires.row
    c.unmark.ensures.unmarks in
    told_loses c.push.result _ _ _ _ _
    (λ told. record {
      sole = c.requires.sole;
      chains = put;
      fewer = c.unmark.ensures.marked;
      parts = refl;
      fits = chains_unmarked chains c.unmark.new.self _ c.args.region.0 row false c.requires.chains c.requires.row put;
      copies = refl;
      ids = c.unmark.ensures.ids;
      told = told;
    })
    c.push.ensures.ok
