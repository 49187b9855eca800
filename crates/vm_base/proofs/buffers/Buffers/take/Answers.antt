use Rattle.std.proofs.Common.{arith, ap, ◌∙◌, ◌<◌, length, replicate, ◌-◌}
use Rattle.vm_base.proofs.ZeroPages.{zero_at, zero_rest}
use Rattle.vm_base.proofs.buffers.Buffers.take.Goals as goal

pub invariant_of-self : goal.invariant_of-self
invariant_of-self c = rw c.remove.ensures.items (zero_rest _ _ _ c.self.invariant)

pub returns-clause-zeros : goal.returns-clause-zeros
returns-clause-zeros c =
    let size = ap (λ store. store.size) c.self.view_is in
    let inside : c.len-last.result - 1 < length c.self.inside.kept.items = grind arith in
    c.remove.ensures.value ∙ (zero_at _ _ _ _ c.self.invariant inside ∙ ap (λ n. replicate n 0) size)
