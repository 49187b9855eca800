use Rattle.std.proofs.Common.{◌≡◌, ap, subst, ◌∙◌, [], ◌∷◌, ◌+◌, length, arith}
use Rattle.std.proofs.lemmas.Bool.{false≢true}
use Rattle.vm_free.specs.Free.{AreOldest, accesses_of}
use Rattle.vm_seen.specs.Behind.{later_of, oldest_items}
use Rattle.vm_seen.specs.Begun.{access_of}
use Rattle.vm_seen.specs.declared.begun.Begun.{Begun}
use Rattle.vm_seen.proofs.Accesses.{accesses_more, next_access, none_next, of_other_task, of_own_task, only_next}
use Rattle.vm_base.proofs.Lists.{oldest_all}
use Rattle.vm_seen.proofs.Behind.{later_step}
use Rattle.vm_seen.proofs.begun.is_next.Goals as goal
use Rattle.vm_seen.proofs.begun.is_next.Goals.{in-Some+then-made-begun+else-passed-count, in-Some+else-made-begun, in_default}

pub returns-then-passed-count : goal.returns-then-passed-count
returns-then-passed-count c = λ older long oldest.
    let commands = c.args.commands.now.items in
    let t = c.args.begun.task in
    let past = later_of c.args.from (oldest_items c.loop-i.i commands) in
    let grown = later_of c.args.from (oldest_items (c.loop-i.i + 1) commands) in
    let step = later_step commands c.args.from c.loop-i.i c.at.result.now c.loop-i.auto.i c.at.ensures in
    let own : accesses_of t grown ≡ access_of c.in-Some.made ∷ accesses_of t past =
    accesses_more t c.at.result.now grown past (access_of c.in-Some.made ∷ []) step (c.in-Some.ensures t ∙ of_own_task c.in-Some.made t c.if-made-begun.true) in
    let mine = next_access commands c.args.from c.loop-i.i t (access_of c.in-Some.made) older c.loop-i.auto.i (omega arith) own (omega arith) oldest in
    let whole = accesses_of t (later_of c.args.from commands) in
    let P : Begun → Type 0 = λ b. AreOldest (access_of b ∷ older) whole in (
      λ same. subst P (c.same_begun.ensures.0 same) mine,
      λ next. c.same_begun.ensures.1
          (only_next c.in-Some.made c.args.begun older whole c.if-made-begun.true mine next),
    )

pub returns : goal.returns
returns c = λ older long oldest.
    let commands = c.args.commands.now.items in
    let t = c.args.begun.task in
    let whole = accesses_of t (later_of c.args.from commands) in
    let all = ap (λ z. length (accesses_of t (later_of c.args.from z))) (oldest_all commands c.loop-i.i (omega arith)) in
    (λ no. absurd (false≢true no), λ next. absurd (none_next (access_of c.args.begun) older whole c.args.count long (omega arith) next))

pub loop-i-preserved : goal.loop-i-preserved
loop-i-preserved c =
    let commands = c.args.commands.now.items in
    let t = c.args.begun.task in
    let x = c.at.result.now in
    let past = later_of c.args.from (oldest_items c.loop-i.i commands) in
    let grown = later_of c.args.from (oldest_items (c.loop-i.i + 1) commands) in
    let step = later_step commands c.args.from c.loop-i.i x c.loop-i.auto.i c.at.ensures in
    elim c.match-made_by.branch [
      | in-Some+then-made-begun+else-passed-count w ↦
          let more = ap length (accesses_more t x grown past (access_of w.in-Some.made ∷ []) step (w.in-Some.ensures t
          ∙ of_own_task w.in-Some.made t w.if-made-begun.true)) in
          record { few = omega arith; short = omega arith; counted = omega arith }
      | in-Some+else-made-begun w ↦
          let more = ap length (accesses_more t x grown past [] step (w.in-Some.ensures t ∙ of_other_task w.in-Some.made t w.if-made-begun.false)) in
          record { few = omega arith; short = omega arith; counted = omega arith }
      | in_default w ↦
          let more = ap length (accesses_more t x grown past [] step (w.in_default.ensures t)) in
          record { few = omega arith; short = omega arith; counted = omega arith }
    ]
