use Rattle.std.proofs.Common.{List, sym, subst, arith}
use Rattle.std.specs.List.{All}
use Rattle.std.proofs.lemmas.List.Elements.{All-cons, All-nil}
use Rattle.vm_model.specs.declared.event.Event.{Event}
use Rattle.vm_seen.specs.Behind.{later_of, oldest_items}
use Rattle.vm_base.proofs.Lists.{oldest_all}
use Rattle.vm_seen.proofs.Behind.{later_none, later_step}
use Rattle.vm_lens.specs.Exploring.{IsOnShared}
use Rattle.vm_lens.proofs.exploring.ended_on_shared.Goals as goal

pub loop-i-init : goal.loop-i-init
loop-i-init c =
    let P : Event → Type 0 = IsOnShared c.args.header.now in
    let Q : List Event → Type 0 = All P in
    subst Q (sym (later_none c.args.history.now.items c.args.from)) (All-nil P)

pub loop-i-preserved : goal.loop-i-preserved
loop-i-preserved c =
    let P : Event → Type 0 = IsOnShared c.args.header.now in
    let Q : List Event → Type 0 = All P in
    let h = c.args.history.now.items in
    let past = later_of c.args.from (oldest_items c.loop-i.i h) in
    let step = later_step h c.args.from c.loop-i.i c.at.result.now c.loop-i.auto.i c.at.ensures in
    subst Q (sym step) (All-cons P c.at.result.now past (c.is_on_shared.ensures c.if-not-is_on_shared.false) c.loop-i.invariant)

pub returns : goal.returns
returns c = λ is.
    let P : Event → Type 0 = IsOnShared c.args.header.now in
    let Q : List Event → Type 0 = λ z. All P (later_of c.args.from z) in
    subst Q (oldest_all c.args.history.now.items c.loop-i.i (omega arith)) c.loop-i.invariant
