use Rattle.std.proofs.Common.{◌≡◌}
use Rattle.vm_maps.proofs.Rewriting.{rewritten_inside}
use Rattle.vm_maps.proofs.rewrite.rewrite_entry.Goals as goal

pub returns-then-entry-end-clause-kept : goal.returns-then-entry-end-clause-kept
returns-then-entry-end-clause-kept c =
    let one = rewritten_inside c.args.size c.args.change.now c.args.entry c.requires.some c.if-change-entry.true c.if-entry-end.true in
    rw one (rw c.altered.ensures at c.push_part.ensures)
