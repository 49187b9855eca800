use Rattle.vm_kernel.proofs.Common.{Event, List, Ran, ap, arith, length, refl, rows_in, subst, sym, ◌+◌, ◌∙◌, ◌∷◌}
use Rattle.vm_kernel.proofs.lists.ListsAsTold.{plays_told}
use Rattle.vm_model.specs.declared.event.Event.TheVariants as event
use Rattle.vm_model.specs.declared.command.Command.TheVariants as command
use Rattle.vm_kernel.proofs.space.EntriesChanged.{all_there, entries_few, may_inherit, ran_inherit}
use Rattle.vm_kernel.proofs.steps.EventsGrow.{on_ok}
use Rattle.vm_kernel.proofs.space.EntriesAtBoundary.{cut_there}
use Rattle.vm_kernel.proofs.room.CallsSpend.{never_err}
use Rattle.vm_kernel.proofs.parts.Parts.inherit.Goals as goal

pub cuts_of-cuts-requires-clause-end : goal.cuts_of-cuts-requires-clause-end
cuts_of-cuts-requires-clause-end g c = (may_inherit c.requires).0.below

pub count_cuts-requires-clause-low : goal.count_cuts-requires-clause-low
count_cuts-requires-clause-low g c =
    cut_there c.args.self.now.chains c.args.address (rows_in c.args.task.0 c.args.self.now.maps) _ (all_there c.args.task.0 c.requires.rests)
    c.cuts_of-cuts.ensures.low

pub count_cuts-requires-clause-high : goal.count_cuts-requires-clause-high
count_cuts-requires-clause-high g c =
    cut_there c.args.self.now.chains (c.args.address + c.args.bytes) (rows_in c.args.task.0 c.args.self.now.maps) _ (all_there c.args.task.0 c.requires.rests)
    c.cuts_of-cuts.ensures.high

pub count_cuts-requires-clause-few : goal.count_cuts-requires-clause-few
count_cuts-requires-clause-few g c = entries_few g.given.header.size c.args.self.now.maps c.args.self.now.chains c.requires.rests.matches.core.spaces.entries

pub returns-clause-ran : goal.returns-clause-ran
returns-clause-ran g c =
    on_ok c.push.result _ _
    (λ is. subst (λ (z : List Event). Ran g.given.header g.given.host g.given.outside (command.Inherit c.args.task c.args.address c.args.bytes c.args.inherit)
    g.given.past (record c.args.self.now { maps = c.set_inherit.new.self; chains = c.count_cuts.new.chains }) c.args.ids.now z)
    (sym (is ∙ ap (λ z. event.Inherited c.args.task c.args.address c.args.bytes c.args.inherit ∷ z) c.requires.nothing))
    (ran_inherit g.given.header g.given.host g.given.outside c.args.task c.args.address c.args.bytes c.args.inherit g.given.past _ c.args.self.now
    c.args.ids.now c.set_inherit.new.self c.count_cuts.new.chains c.inheritance.result
    c.requires c.inheritance.ensures c.set_inherit.ensures.changes (c.count_cuts.ensures.raised _ _ c.cuts_of-cuts.ensures.low c.cuts_of-cuts.ensures.high)))
    c.push.ensures.ok

pub returns-clause-plays : goal.returns-clause-plays
returns-clause-plays g c = on_ok c.push.result _ _ (λ told. plays_told told refl) c.push.ensures.ok

pub returns-clause-spends : goal.returns-clause-spends
returns-clause-spends g c =
    let spare = c.count_cuts.ensures.spare.0 in
    let marked = c.count_cuts.ensures.spare.1 in
    on_ok c.push.result _ _
    (λ told. let one = ap length told in record {
      told = omega (arith, one, marked);
      room = omega (arith, c.push.ensures.room, marked);
      rows = omega (arith, marked);
      shadows = omega (arith, spare, marked);
      objects = omega (arith, marked);
      copies = omega arith;
    })
    c.push.ensures.ok

pub returns-clause-err : goal.returns-clause-err
returns-clause-err g c = λ roomy. never_err c.push.result _ (c.push.ensures.succeeds (omega (arith, roomy.log)))
