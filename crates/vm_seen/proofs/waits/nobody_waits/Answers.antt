use Rattle.std.proofs.Common.{◌≡◌, sym, ◌∙◌, subst, arith, rules, List}
use Rattle.vm_model.specs.declared.event.Event.{Event}
use Rattle.vm_seen.specs.Behind.{oldest_items}
use Rattle.vm_seen.specs.Waits.{AreWaiting}
use Rattle.vm_base.proofs.Lists.{oldest_all, oldest_step}
use Rattle.vm_seen.proofs.Waiting.{nobody, somebody}
use Rattle.vm_seen.proofs.waits.nobody_waits.Goals as goal

pub loop-i-preserved : goal.loop-i-preserved
loop-i-preserved c =
    let h = c.args.history.now.items in
    let P : List Event → Type 0 = λ past. AreWaiting c.note.new.tasks.items past in
    subst P (sym (oldest_step h c.loop-i.i c.at.result.now c.at.ensures)) (c.in_ok-note.ensures (oldest_items c.loop-i.i h) c.loop-i.invariant)

pub returns : goal.returns
returns c =
    let h = c.args.history.now.items in
    let P : List Event → Type 0 = λ past. AreWaiting c.loop-i.tasks.items past in
    let all = subst P (oldest_all h c.loop-i.i (omega arith)) c.loop-i.invariant in
    let same : c.deref.result.now ≡ c.loop-i.tasks.items = search rules in (
      λ empty. nobody c.loop-i.tasks.items h all (sym same ∙ c.is_nobody.ensures.0 empty),
      λ none. c.is_nobody.ensures.1 (same
          ∙ somebody c.loop-i.tasks.items h all none),
    )
