use Rattle.std.proofs.Common.{◌^◌, reverse, arith}
use Rattle.std.proofs.lemmas.List.{length-reverse}
use Rattle.vm_maps.proofs.Counts.{length_removed}
use Rattle.vm_maps.proofs.judge.count_removed.Goals as goal

pub returns : goal.returns
returns c = λ size.
    let rows = reverse c.args.entries.now.items in
    let counted = length_removed size c.args.address c.args.bytes 0 (2 ^ 32) rows c.requires.some c.requires.end c.requires.order (omega arith) in
    omega (arith, counted, length-reverse c.args.entries.now.items)
