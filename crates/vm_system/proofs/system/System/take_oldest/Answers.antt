use Rattle.vm_system.proofs.Common.{HasMore, None, State, SystemStands, [], ap, subst, sym, takings, undelivered, ◌+◌, ◌∙◌, ◌≡◌}
use Rattle.vm_model.specs.declared.event.Device.TheVariants as device
use Rattle.vm_outside.specs.Arming.{later_reaches_one}
use Rattle.vm_system.proofs.Backed.{fit_at, goes_from}
use Rattle.vm_system.proofs.Growth.{grew_none, grew_taken, step_taken, takings_taken}
use Rattle.vm_system.proofs.Numbers.{number_read}
use Rattle.vm_system.proofs.Resting.{left_at_rest}
use Rattle.vm_system.proofs.Untouched.{not_up}
use Rattle.vm_system.proofs.Opening.{keeps_settle, may_settle, none_left, some_left}
use Rattle.vm_system.proofs.system.System.take_oldest.Goals as goal

pub take-requires : goal.take-requires
take-requires g c κs within =
    let given = g.given in
    let s = c.self.inside.state in
    let view : c.args.self.now ≡ s = sym c.self.view_is in
    let stands : SystemStands given.header given.outside s = subst (λ (z : State). SystemStands given.header given.outside z) view c.requires.1.1.0 in
    let past = c.requires.1.1.1.1.0 ∙ ap (λ (z : State). z.history.items) view in
    let more : HasMore given.command s.history.items = subst (λ (z : State). HasMore given.command z.history.items) view c.requires.1.1.1.1.1 in
    let fit = fit_at _ _ _ _ _ _ _ view c.requires.1.1.1.0.1 in
    (within.0, (within.1, (may_settle given c.in-Some.number s stands past more (sym c.oldest.ensures.oldest ∙ c.in-Some.is), (c.requires.1.1.1.0.0, fit))))

pub returns-clause-backings : goal.returns-clause-backings
returns-clause-backings g c = λ start fit. c.take.ensures.backings start (fit_at _ _ start _ _ _ _ (sym c.self.view_is) fit)

pub returns-in_err-take-clause-backings : goal.returns-in_err-take-clause-backings
returns-in_err-take-clause-backings g c = λ start fit. c.take.ensures.backings start (fit_at _ _ start _ _ _ _ (sym c.self.view_is) fit)

pub returns-in_default-clause-full : goal.returns-in_default-clause-full
returns-in_default-clause-full g c =
    let given = g.given in
    let s = c.self.inside.state in
    let items = s.history.items in
    let view : c.args.self.now ≡ s = sym c.self.view_is in
    let stands : SystemStands given.header given.outside s = subst (λ (z : State). SystemStands given.header given.outside z) view c.requires.1.1.0 in
    let none : undelivered items ≡ [] = none_left s.channels.made s.ports.letters (undelivered items) items stands.agrees.posts.letters
    c.in_default.ensures.added in
    (λ is. absurd (cc), λ over. absurd (over.1 (ap (λ (z : State). undelivered z.history.items) view ∙ none)))

pub returns-clause-legal : goal.returns-clause-legal
returns-clause-legal g c =
    let stands = c.requires.1.1.0 in
    let past = c.requires.1.1.1.1.0 in
    let more = c.requires.1.1.1.1.1 in
    λ took. keeps_settle g.given c.args.self.now c.take.new.self stands past more c.in_ok-take.ensures.took

pub returns-in_default-clause-rests : goal.returns-in_default-clause-rests
returns-in_default-clause-rests g c =
    left_at_rest g.given.header g.given.outside c.args.self.now.history.items c.args.self.now c.requires.1.1.0 (λ before. before)

pub returns-clause-rests : goal.returns-clause-rests
returns-clause-rests g c =
    let took = c.in_ok-take.ensures.took in
    left_at_rest g.given.header g.given.outside c.args.self.now.history.items c.take.new.self took.stands (λ before. took.prompt)

pub returns-clause-grew : goal.returns-clause-grew
returns-clause-grew g c =
    grew_taken g.given None c.args.self.now.history.items c.take.new.self.history.items c.in_ok-take.ensures.took.step c.requires.1.1.1.1.0

pub returns-clause-front : goal.returns-clause-front
returns-clause-front g c = λ took. step_taken g.given c.take.new.self.history.items c.in_ok-take.ensures.took.step ∙ c.requires.1.1.1.1.0

pub returns-clause-count : goal.returns-clause-count
returns-clause-count g c =
    λ took. takings_taken g.given c.take.new.self.history.items c.in_ok-take.ensures.took.step ∙ ap (λ z. takings z + 1) c.requires.1.1.1.1.0

pub returns-clause-some : goal.returns-clause-some
returns-clause-some g c = λ yes none. some_left _ _ c.in-Some.number _ _ c.self.view_is c.requires.1.1.0 (sym c.oldest.ensures.oldest ∙ c.in-Some.is) none

pub returns-clause-calm : goal.returns-clause-calm
returns-clause-calm g c = λ none. absurd (some_left _ _ c.in-Some.number _ _ c.self.view_is c.requires.1.1.0 (sym c.oldest.ensures.oldest ∙ c.in-Some.is) none)

pub returns-clause-files_go : goal.returns-clause-files_go
returns-clause-files_go g c = goes_from _ _ _ _ _ _ (ap (λ (z : State). z.history.items) c.self.view_is) c.take.ensures.files_go

pub returns-clause-files_reached : goal.returns-clause-files_reached
returns-clause-files_reached g c = later_reaches_one c.args.files.now c.take.new.files c.take.ensures.files_go.later.1

pub returns-clause-paging_goes : goal.returns-clause-paging_goes
returns-clause-paging_goes g c = goes_from _ _ _ _ _ _ (ap (λ (z : State). z.history.items) c.self.view_is) c.take.ensures.paging_goes

pub returns-clause-reached : goal.returns-clause-reached
returns-clause-reached g c = later_reaches_one c.args.paging.now c.take.new.paging c.take.ensures.paging_goes.later.1

pub returns-clause-unasked : goal.returns-clause-unasked
returns-clause-unasked g c =
    let given = g.given in
    let s = c.self.inside.state in
    let view : c.args.self.now ≡ s = sym c.self.view_is in
    let stands : SystemStands given.header given.outside s = subst (λ (z : State). SystemStands given.header given.outside z) view c.requires.1.1.0 in
    let past = c.requires.1.1.1.1.0 ∙ ap (λ (z : State). z.history.items) view in
    let more : HasMore given.command s.history.items = subst (λ (z : State). HasMore given.command z.history.items) view c.requires.1.1.1.1.1 in
    let may = may_settle given c.in-Some.number s stands past more (sym c.oldest.ensures.oldest ∙ c.in-Some.is) in
    λ took none. c.take.ensures.paging may.0 (number_read may.0 s.channels.made c.in-Some.number.0 may.1.made)
    (not_up given device.Paging may.0 c.take.new.self.history.items may.1.may c.in_ok-take.ensures.took.step none)

pub returns-clause-files_unasked : goal.returns-clause-files_unasked
returns-clause-files_unasked g c =
    let given = g.given in
    let s = c.self.inside.state in
    let view : c.args.self.now ≡ s = sym c.self.view_is in
    let stands : SystemStands given.header given.outside s = subst (λ (z : State). SystemStands given.header given.outside z) view c.requires.1.1.0 in
    let past = c.requires.1.1.1.1.0 ∙ ap (λ (z : State). z.history.items) view in
    let more : HasMore given.command s.history.items = subst (λ (z : State). HasMore given.command z.history.items) view c.requires.1.1.1.1.1 in
    let may = may_settle given c.in-Some.number s stands past more (sym c.oldest.ensures.oldest ∙ c.in-Some.is) in
    λ took none. c.take.ensures.files may.0 (number_read may.0 s.channels.made c.in-Some.number.0 may.1.made)
    (not_up given device.Files may.0 c.take.new.self.history.items may.1.may c.in_ok-take.ensures.took.step none)

pub returns-in_err-take-clause-grew : goal.returns-in_err-take-clause-grew
returns-in_err-take-clause-grew g c = grew_none _ _ (c.in_err-take.ensures.err.1 ∙ ap (λ (z : State). z.history.items) c.self.view_is)

pub returns-in_err-take-clause-files_go : goal.returns-in_err-take-clause-files_go
returns-in_err-take-clause-files_go g c = goes_from _ _ _ _ _ _ (ap (λ (z : State). z.history.items) c.self.view_is) c.take.ensures.files_go

pub returns-in_err-take-clause-paging_goes : goal.returns-in_err-take-clause-paging_goes
returns-in_err-take-clause-paging_goes g c = goes_from _ _ _ _ _ _ (ap (λ (z : State). z.history.items) c.self.view_is) c.take.ensures.paging_goes

pub returns-in_err-take-clause-refused : goal.returns-in_err-take-clause-refused
returns-in_err-take-clause-refused g c =
    λ none. let e = c.in_err-take.ensures in (e.err.0, (e.err.1 ∙ ap (λ (z : State). z.history.items) c.self.view_is, e.unmoved))
