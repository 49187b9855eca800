use Rattle.vm_system.proofs.Common.{Event, EventLimit, GrowsWithinLimit, List, Prompt, State, StaysOpen, SystemStands, ap, arith, subst, sym, takings, ◌∙◌, ◌≡◌}
use Rattle.vm_model.specs.declared.event.Device.TheVariants as device
use Rattle.vm_system.proofs.Backed.{went_more}
use Rattle.vm_system.proofs.Growth.{grew_more}
use Rattle.vm_system.proofs.Resting.{left_at_rest}
use Rattle.vm_system.proofs.Settled.{by_stop, grew_stop, other_err, stays_more}
use Rattle.vm_system.specs.Resting.{LeavesAtRest}
use Rattle.vm_system.proofs.settling.settle.Goals as goal

pub returns-in-Ok-false-clause-legal : goal.returns-in-Ok-false-clause-legal
returns-in-Ok-false-clause-legal g c =
    let same = (c.in-Ok-false.ensures.quiet c.in-Ok-false.field-0-test).1 in
    subst (λ (z : State). StaysOpen g.given.header g.given.outside g.given.command c.args.system.now.history.items z.history.items) (sym same)
    c.all.invariant.legal

pub returns-in-Err-clause-stood : goal.returns-in-Err-clause-stood
returns-in-Err-clause-stood g c =
    let header = g.given.header in
    let outside = g.given.outside in
    let first = c.args.system.now.history.items in
    let before = c.all.invariant in
    let new = c.take_oldest.new.self in
    by_stop c.in-Err.stop c.take_oldest.result _ c.in-Err.is
    (λ full.
    let same = (c.take_oldest.ensures.unchanged full).0 in
    subst (λ (z : State). SystemStands header outside z × StaysOpen header outside g.given.command first z.history.items
    × LeavesAtRest header first z.history.items) (sym same)
    (before.stands, before.legal, left_at_rest header outside first c.all.system before.stands before.prompt))
    (λ none.
    let refused = c.take_oldest.ensures.refused none in
    let same = refused.1.0 in (
      refused.0,
      subst (λ (z : List Event). StaysOpen header outside g.given.command first z) (sym same) before.legal,
      left_at_rest header outside first new refused.0 (λ prompt. subst (λ (z : List Event). Prompt header z) (sym same) (before.prompt prompt)),
    ))

pub returns-in-Ok-false-clause-rests : goal.returns-in-Ok-false-clause-rests
returns-in-Ok-false-clause-rests g c =
    let taking = c.in-Ok-false.ensures in
    left_at_rest g.given.header g.given.outside c.args.system.now.history.items c.take_oldest.new.self taking.stands
    (λ first. taking.rests.prompt (c.all.invariant.prompt first))

pub returns-clause-rests : goal.returns-clause-rests
returns-clause-rests g c =
    left_at_rest g.given.header g.given.outside c.args.system.now.history.items c.all.system c.all.invariant.stands c.all.invariant.prompt

pub returns-in-Err-clause-files_went : goal.returns-in-Err-clause-files_went
returns-in-Err-clause-files_went g c =
    went_more device.Files g.F.Backing.later g.F.Backing.faults c.args.files.now c.all.files c.take_oldest.new.files _ _ _ g.met.F.Backing.later_more
    c.all.invariant.grew c.take_oldest.ensures.grew c.all.invariant.files_went c.take_oldest.ensures.files_go

pub returns-in-Err-clause-paging_went : goal.returns-in-Err-clause-paging_went
returns-in-Err-clause-paging_went g c =
    went_more device.Paging g.P.Backing.later g.P.Backing.faults c.args.paging.now c.all.paging c.take_oldest.new.paging _ _ _ g.met.P.Backing.later_more
    c.all.invariant.grew c.take_oldest.ensures.grew c.all.invariant.paging_went c.take_oldest.ensures.paging_goes

pub returns-in-Ok-false-clause-files_went : goal.returns-in-Ok-false-clause-files_went
returns-in-Ok-false-clause-files_went g c =
    went_more device.Files g.F.Backing.later g.F.Backing.faults c.args.files.now c.all.files c.take_oldest.new.files _ _ _ g.met.F.Backing.later_more
    c.all.invariant.grew c.take_oldest.ensures.grew c.all.invariant.files_went c.take_oldest.ensures.files_go

pub returns-in-Ok-false-clause-paging_went : goal.returns-in-Ok-false-clause-paging_went
returns-in-Ok-false-clause-paging_went g c =
    went_more device.Paging g.P.Backing.later g.P.Backing.faults c.args.paging.now c.all.paging c.take_oldest.new.paging _ _ _ g.met.P.Backing.later_more
    c.all.invariant.grew c.take_oldest.ensures.grew c.all.invariant.paging_went c.take_oldest.ensures.paging_goes

pub returns-in-Ok-false-clause-count : goal.returns-in-Ok-false-clause-count
returns-in-Ok-false-clause-count g c =
    ap (λ (z : State). takings z.history.items) (c.in-Ok-false.ensures.quiet c.in-Ok-false.field-0-test).1 ∙ c.all.invariant.count

pub all-preserved : goal.all-preserved
all-preserved g c =
    let taking = c.in-Ok-true.ensures in
    let took = c.in-Ok-true.field-0-test in
    let before = c.all.invariant in
    record {
      stands = taking.stands;
      backings = λ start fit. c.take_oldest.ensures.backings start (before.backings start fit);
      legal =
          stays_more g.given.header g.given.outside g.given.command c.args.system.now.history.items c.all.system.history.items
          c.take_oldest.new.self.history.items before.legal (taking.legal took);
      prompt = λ first. taking.rests.prompt (before.prompt first);
      count = omega (arith, taking.count took, before.count);
      grew =
          grew_more c.args.system.now.history.items c.all.system.history.items c.take_oldest.new.self.history.items before.grew c.take_oldest.ensures.grew
          (taking.below took);
      files_went =
          went_more device.Files g.F.Backing.later g.F.Backing.faults c.args.files.now c.all.files c.take_oldest.new.files _ _ _ g.met.F.Backing.later_more
          c.all.invariant.grew c.take_oldest.ensures.grew c.all.invariant.files_went c.take_oldest.ensures.files_go;
      paging_went =
          went_more device.Paging g.P.Backing.later g.P.Backing.faults c.args.paging.now c.all.paging c.take_oldest.new.paging _ _ _ g.met.P.Backing.later_more
          c.all.invariant.grew c.take_oldest.ensures.grew c.all.invariant.paging_went c.take_oldest.ensures.paging_goes;
    }

pub returns-in-Ok-false-clause-grew : goal.returns-in-Ok-false-clause-grew
returns-in-Ok-false-clause-grew g c =
    let same = (c.in-Ok-false.ensures.quiet c.in-Ok-false.field-0-test).1 in
    subst (λ (z : State). GrowsWithinLimit c.args.system.now.history.items z.history.items) (sym same) c.all.invariant.grew

pub returns-in-Err-clause-grew : goal.returns-in-Err-clause-grew
returns-in-Err-clause-grew g c =
    let all = c.take_oldest.ensures in
    grew_stop c.in-Err.stop c.take_oldest.result c.args.system.now.history.items c.all.system.history.items c.take_oldest.new.self.history.items c.in-Err.is
    (λ full. ap (λ (z : State). z.history.items) (all.unchanged full).0)
    all.calm all.full.1 c.all.invariant.grew all.grew

pub returns-in-Err-clause-left : goal.returns-in-Err-clause-left
returns-in-Err-clause-left g c = λ full.
    let same = (c.in-Err.ensures.unchanged (other_err c.in-Err.stop EventLimit full)).0 in
    let count : takings c.take_oldest.new.self.history.items ≡ takings c.all.system.history.items = ap (λ (z : State). takings z.history.items) same in
    omega (arith, count, c.all.invariant.count, c.all-test.true)
