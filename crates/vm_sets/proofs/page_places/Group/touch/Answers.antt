use Rattle.std.proofs.Common.{arith}
use Rattle.vm_sets.proofs.Bits.{bit_set}
use Rattle.vm_sets.proofs.page_places.Group.touch.Goals as goal

pub returns-clause-words : goal.returns-clause-words
returns-clause-words c = λ k le.
    let set = c.loop-word.invariant.set k (omega (arith, c.loop-word-test.false)) in
    rw set (bit_set _ c.args.slot c.requires)
