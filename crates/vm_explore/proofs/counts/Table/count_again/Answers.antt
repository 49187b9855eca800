use Rattle.std.proofs.Common.{refl, arith}
use Rattle.vm_explore.proofs.Counted.{known_again, line_again, times_fit}
use Rattle.vm_explore.proofs.counts.Table.count_again.Goals as goal

pub overflow_add-index_mut : goal.overflow_add-index_mut
overflow_add-index_mut c =
    omega (arith, times_fit c.self.inside.rows.items c.args.i c.index_mut.result.now c.args.self.now c.self.view_is c.requires.within c.index_mut.ensures.value)

pub invariant_of-self : goal.invariant_of-self
invariant_of-self c =
    known_again c.self.inside.outcomes.keys c.self.inside.rows.items c.args.i c.index_mut.result.now _ c.self.invariant c.index_mut.ensures.value refl

pub returns : goal.returns
returns c = λ line. line_again c.self.inside.rows.items c.args.i c.index_mut.result.now _ c.args.self.now line c.self.view_is c.requires.within
    c.index_mut.ensures.value refl
