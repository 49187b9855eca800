use Rattle.std.proofs.Common.{ap, ◌∙◌, ◌+◌, [], ◌∷◌, length, arith}
use Rattle.vm_seen.specs.Behind.{later_of, oldest_items}
use Rattle.vm_seen.specs.Begun.{access_of}
use Rattle.vm_seen.proofs.Accesses.{begun_more, of_other_task, of_own_task}
use Rattle.vm_seen.proofs.Behind.{later_step}
use Rattle.vm_seen.proofs.begun.count_begun.Goals as goal
use Rattle.vm_seen.proofs.begun.count_begun.Goals.{in-Some+then-begun-task, in-Some+else-begun-task, in_default}

pub loop-i-preserved : goal.loop-i-preserved
loop-i-preserved c =
    let h = c.args.history.now.items in
    let t = c.args.task in
    let e = c.at.result.now in
    let past = later_of c.args.from (oldest_items c.loop-i.i h) in
    let grown = later_of c.args.from (oldest_items (c.loop-i.i + 1) h) in
    let step = later_step h c.args.from c.loop-i.i e c.loop-i.auto.i c.at.ensures in
    elim c.match-begun_by.branch [
      | in-Some+then-begun-task w ↦
          let more = ap length (begun_more t e grown past (access_of w.in-Some.begun ∷ []) step (w.in-Some.ensures t
          ∙ of_own_task w.in-Some.begun t w.if-begun-task.true)) in
          record { few = omega arith; counted = omega arith }
      | in-Some+else-begun-task w ↦
          let more = ap length (begun_more t e grown past [] step (w.in-Some.ensures t ∙ of_other_task w.in-Some.begun t w.if-begun-task.false)) in
          record { few = omega arith; counted = omega arith }
      | in_default w ↦
          let more = ap length (begun_more t e grown past [] step (w.in_default.ensures t)) in
          record { few = omega arith; counted = omega arith }
    ]
