use Rattle.std.proofs.Common.{◌^◌, reverse, arith}
use Rattle.vm_maps.proofs.Entering.{entered_at}
use Rattle.vm_maps.proofs.rewrite.put_entry.Goals as goal

pub returns-clause-entered : goal.returns-clause-entered
returns-clause-entered c =
    let rows = reverse c.args.entries.now.items in
    let put = entered_at 0 (2 ^ 32) c.args.entry rows c.requires.order c.requires.some c.requires.free in
    let ok = c.insert.ensures.succeeds (omega arith) in
    grind (arith, put, ok, c.insert.ensures.ok, c.count_passed-at.ensures.value)
