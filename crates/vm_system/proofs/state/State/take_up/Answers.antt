use Rattle.vm_system.proofs.Common.{arith, false, named, nat_lt, nat_tests, sym, true, ◌∙◌, ◌≡◌}
use Rattle.vm_system.proofs.Backed.{fit_filed, fit_spared, goes_still, still}
use Rattle.vm_system.proofs.Sharing.{undeclared}
use Rattle.vm_system.proofs.state.State.take_up.Goals as goal

pub take_paged-requires : goal.take_paged-requires
take_paged-requires g c κs within =
    let may = c.requires.1.1.0 in
    (within, (may, (undeclared g.given.header c.args.object.0 may.stands.built.ranged (sym c.kind.ensures ∙ c.in-Temp.is), c.requires.1.1.1.1.kept)))

pub returns-in-File-clause-backings : goal.returns-in-File-clause-backings
returns-in-File-clause-backings g c =
    λ start fit. fit_filed _ _ start _ _ _ _ _ c.take_filed.ensures.spares c.take_filed.ensures.files_kept (c.take_filed.ensures.carried start) fit

pub returns-in-Temp-clause-files_go : goal.returns-in-Temp-clause-files_go
returns-in-Temp-clause-files_go g c =
    goes_still _ _ _ _ (still g.F.Backing.later g.met.F.Backing.later_same c.args.files.now) c.take_paged.ensures.spares.devices

pub returns-in-File-clause-paging_goes : goal.returns-in-File-clause-paging_goes
returns-in-File-clause-paging_goes g c =
    goes_still _ _ _ _ (still g.P.Backing.later g.met.P.Backing.later_same c.args.paging.now) c.take_filed.ensures.spares.devices

pub returns-in-Shared-clause-backings : goal.returns-in-Shared-clause-backings
returns-in-Shared-clause-backings g c = λ start fit. fit_spared _ _ start _ _ _ _ c.take_shared.ensures.spares fit

pub returns-in-Wild-clause-backings : goal.returns-in-Wild-clause-backings
returns-in-Wild-clause-backings g c = λ start fit. fit_spared _ _ start _ _ _ _ c.take_wild.ensures.spares fit

pub returns-in-Temp-clause-paging : goal.returns-in-Temp-clause-paging
returns-in-Temp-clause-paging g c = λ none.
    let above = undeclared g.given.header c.args.object.0 c.requires.1.1.0.stands.built.ranged (sym c.kind.ensures ∙ c.in-Temp.is) in
    let high : nat_lt c.args.object.0 (named g.given.header) ≡ false = grind (arith, nat_tests, above) in
    absurd (let bad : true ≡ false = rw high at none in cc)
