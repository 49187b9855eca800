use Rattle.vm_system.proofs.Common.{Some, Step, Took, on_err_weaker, on_ok_weaker, refl, subst, sym}
use Rattle.vm_model.specs.declared.event.Device.TheVariants as device
use Rattle.vm_system.proofs.Beginning.{on_either}
use Rattle.vm_system.proofs.Growth.{grew_none, grew_taken, line_taken}
use Rattle.vm_system.proofs.Numbers.{number_read}
use Rattle.vm_system.proofs.TakenFrom.{keeps_taken}
use Rattle.vm_system.proofs.Untouched.{apart_all, not_up_from}
use Rattle.vm_system.proofs.state.State.take_from.Goals as goal

pub returns-clause-made : goal.returns-clause-made
returns-clause-made g c =
    let given = g.given in
    let old = c.args.self.now in
    let new = c.take.new.self in
    on_ok_weaker c.take.result
    (λ was.
    let took = subst (λ (z : Step). Took z new) c.requires.1.1.0 was in
    record {
      stands = took.stands;
      legal = keeps_taken given.header given.outside c.args.line c.args.channel old new c.requires.1.1.1.0 c.requires.1.1.1.1.1 took;
      prompt = λ prompt. took.prompt;
      grew = grew_taken _ (Some c.args.line) old.history.items _ took.step refl;
      front = line_taken _ c.args.line old.history.items _ took.step refl;
    })
    c.take.ensures.took

pub returns-clause-grew : goal.returns-clause-grew
returns-clause-grew g c =
    let old = c.args.self.now.history.items in
    let new = c.take.new.self in
    on_either c.take.result
    (λ took. grew_taken _ (Some c.args.line) old new.history.items (subst (λ (z : Step). Took z new) c.requires.1.1.0 took).step refl)
    (λ still. grew_none _ _ still.1)
    c.take.ensures.took c.take.ensures.err

pub returns-clause-paging : goal.returns-clause-paging
returns-clause-paging g c =
    λ apart. c.take.ensures.paging c.args.channel (number_read c.args.channel c.args.self.now.channels.made c.in-Some.number.0 (sym c.in-Some.ensures)) apart

pub returns-clause-files : goal.returns-clause-files
returns-clause-files g c =
    λ apart. c.take.ensures.files c.args.channel (number_read c.args.channel c.args.self.now.channels.made c.in-Some.number.0 (sym c.in-Some.ensures)) apart

pub returns-clause-unasked : goal.returns-clause-unasked
returns-clause-unasked g c =
    let given = g.given in
    let old = c.args.self.now in
    let new = c.take.new.self in
    let made = number_read c.args.channel old.channels.made c.in-Some.number.0 (sym c.in-Some.ensures) in
    on_ok_weaker c.take.result
    (λ took none. c.take.ensures.paging c.args.channel made
    (not_up_from given.header given.outside device.Paging c.args.line c.args.channel old.history.items new.history.items
    (subst (λ (z : Step). Took z new) c.requires.1.1.0 took).step none))
    c.take.ensures.took

pub returns-clause-files_unasked : goal.returns-clause-files_unasked
returns-clause-files_unasked g c =
    let given = g.given in
    let old = c.args.self.now in
    let new = c.take.new.self in
    let made = number_read c.args.channel old.channels.made c.in-Some.number.0 (sym c.in-Some.ensures) in
    on_ok_weaker c.take.result
    (λ took none. c.take.ensures.files c.args.channel made
    (not_up_from given.header given.outside device.Files c.args.line c.args.channel old.history.items new.history.items
    (subst (λ (z : Step). Took z new) c.requires.1.1.0 took).step none))
    c.take.ensures.took

pub returns-clause-calm : goal.returns-clause-calm
returns-clause-calm g c =
    let made = number_read c.args.channel c.args.self.now.channels.made c.in-Some.number.0 (sym c.in-Some.ensures) in
    let header = g.given.header in
    on_err_weaker c.take.result
    (λ still up. (
      still.1,
      c.take.ensures.files c.args.channel made (apart_all header device.Files c.args.channel up),
      c.take.ensures.paging c.args.channel made (apart_all header device.Paging c.args.channel up),
    ))
    c.take.ensures.err
