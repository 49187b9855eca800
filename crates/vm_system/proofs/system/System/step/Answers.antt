use Rattle.vm_system.proofs.Common.{KeepsCanonical, State, ap, subst, sym, ◌∙◌}
use Rattle.vm_model.specs.declared.event.Device.TheVariants as device
use Rattle.vm_system.proofs.Backed.{fit_at, goes_from, step_reaches}
use Rattle.vm_system.specs.Resting.{LeavesAtRest}
use Rattle.vm_system.proofs.Resting.{left_at_rest}
use Rattle.vm_system.proofs.system.System.step.Goals as goal

pub returns-clause-legal : goal.returns-clause-legal
returns-clause-legal g c =
    subst (λ (z : State). KeepsCanonical g.given.header g.given.outside (record { line = c.args.line; command = c.args.command.now }) z.history.items
    c.step.new.self.history.items) c.self.view_is
    c.in_ok-step.ensures.made.legal

pub returns-clause-rests : goal.returns-clause-rests
returns-clause-rests g c =
    let made = c.in_ok-step.ensures.made in
    subst (λ (z : State). LeavesAtRest g.given.header z.history.items c.step.new.self.history.items) c.self.view_is
    (left_at_rest g.given.header g.given.outside c.self.inside.state.history.items c.step.new.self made.stands made.prompt)

pub returns-clause-backings : goal.returns-clause-backings
returns-clause-backings g c = λ start fit. c.step.ensures.backings start (fit_at _ _ start _ _ _ _ (sym c.self.view_is) fit)

pub returns-in_err-step-clause-backings : goal.returns-in_err-step-clause-backings
returns-in_err-step-clause-backings g c = λ start fit. c.step.ensures.backings start (fit_at _ _ start _ _ _ _ (sym c.self.view_is) fit)

pub returns-clause-files_go : goal.returns-clause-files_go
returns-clause-files_go g c = goes_from _ _ _ _ _ _ (ap (λ (z : State). z.history.items) c.self.view_is) c.step.ensures.files_go

pub returns-clause-files_reached : goal.returns-clause-files_reached
returns-clause-files_reached g c =
    step_reaches g.given.header device.Files c.args.command.now _ c.args.files.now c.step.new.files c.in_ok-step.ensures.files
    (λ none. (c.step.ensures.files_go.later none).1)

pub returns-clause-paging_goes : goal.returns-clause-paging_goes
returns-clause-paging_goes g c = goes_from _ _ _ _ _ _ (ap (λ (z : State). z.history.items) c.self.view_is) c.step.ensures.paging_goes

pub returns-clause-reached : goal.returns-clause-reached
returns-clause-reached g c =
    step_reaches g.given.header device.Paging c.args.command.now _ c.args.paging.now c.step.new.paging c.in_ok-step.ensures.paging
    (λ none. (c.step.ensures.paging_goes.later none).1)

pub returns-in_err-step-clause-files_go : goal.returns-in_err-step-clause-files_go
returns-in_err-step-clause-files_go g c = goes_from _ _ _ _ _ _ (ap (λ (z : State). z.history.items) c.self.view_is) c.step.ensures.files_go

pub returns-in_err-step-clause-paging_goes : goal.returns-in_err-step-clause-paging_goes
returns-in_err-step-clause-paging_goes g c = goes_from _ _ _ _ _ _ (ap (λ (z : State). z.history.items) c.self.view_is) c.step.ensures.paging_goes

pub returns-in_err-step-clause-refused : goal.returns-in_err-step-clause-refused
returns-in_err-step-clause-refused g c =
    λ none. let e = c.in_err-step.ensures in (e.err.0, (e.err.1 ∙ ap (λ (z : State). z.history.items) c.self.view_is, e.unmoved))
