use Rattle.std.proofs.Common.{sym, ◌∙◌, ◌+◌}
use Rattle.std.proofs.lemmas.Bool.{both_ways, false≢true}
use Rattle.vm_free.specs.Free.{begun}
use Rattle.vm_seen.specs.Behind.{later_of, oldest_items}
use Rattle.vm_seen.proofs.Accesses.{first_next, goes_on_at, goes_on_at_start, goes_on_more, next_begun, none_begun}
use Rattle.vm_seen.proofs.Behind.{later_none, later_step}
use Rattle.vm_seen.proofs.begun.goes_on.Goals as goal
use Rattle.vm_seen.proofs.begun.goes_on.Goals.{in-Some+else-not-is_next, in_default}

pub loop-i-init : goal.loop-i-init
loop-i-init c = goes_on_at_start _ _ (later_none c.args.history.now.items c.args.from)

pub loop-i-preserved : goal.loop-i-preserved
loop-i-preserved c =
    let h = c.args.history.now.items in
    let free = later_of c.args.setup c.args.commands.now.items in
    let e = c.at-event.result.now in
    let past = later_of c.args.from (oldest_items c.loop-i.i h) in
    let grown = later_of c.args.from (oldest_items (c.loop-i.i + 1) h) in
    let step = later_step h c.args.from c.loop-i.i e c.loop-i.auto.i c.at-event.ensures in
    let goes = c.loop-i.invariant in
    let plain = sym c.is_plain.ensures ∙ c.if-not-is_plain.false in
    elim c.match-begun_by.branch [
      | in-Some+else-not-is_next w ↦
          let next = (w.is_next.ensures (begun w.in-Some.begun.task past) (sym w.count_begun-count.ensures)
          (goes.in_order w.in-Some.begun.task)).0 w.if-not-is_next.false in
          goes_on_more free e grown past step plain goes (next_begun free w.in-Some.begun e past w.in-Some.ensures goes.in_order next)
      | in_default w ↦ goes_on_more free e grown past step plain goes (none_begun free e past w.in_default.ensures goes.in_order)
    ]

pub returns-then-not-is_next : goal.returns-then-not-is_next
returns-then-not-is_next c =
    let h = c.args.history.now.items in
    let free = later_of c.args.setup c.args.commands.now.items in
    let e = c.at-event.result.now in
    let b = c.in-Some.begun in
    let past = later_of c.args.from (oldest_items c.loop-i.i h) in
    let turn = c.is_next.ensures (begun b.task past) (sym c.count_begun-count.ensures) (c.loop-i.invariant.in_order b.task) in (
      λ no. absurd (false≢true no),
      λ goes. absurd (both_ways c.is_next.result c.if-not-is_next.true (turn.1 (first_next free b e past (c.in-Some.ensures b.task)
          (goes_on_at free h c.args.from c.loop-i.i e c.loop-i.auto.i c.at-event.ensures goes)))),
    )
