use Rattle.std.proofs.Common.{eqb, refl, rules}
use Rattle.std.proofs.lemmas.List.Recursion.{is_count_by}
use Rattle.vm_free.specs.Orders.{occurrences}
use Rattle.vm_litmus.proofs.Listed.{occurrences-step}
use Rattle.vm_litmus.proofs.parts.times_in.Goals as goal

pub returns : goal.returns
returns c = search (rules, is_count_by (occurrences c.args.task) (λ x. eqb x c.args.task) refl (occurrences-step c.args.task))
