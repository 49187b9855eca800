use Rattle.std.proofs.Common.{◌≡◌, None, refl, rules}
use Rattle.vm_fault.specs.Faults.{AtOnce}
use Rattle.vm_fault.specs.Pushes.{owed_at}
use Rattle.vm_fault.proofs.pushing.store_top.Goals as goal

pub returns-clause-goes : goal.returns-clause-goes
returns-clause-goes c =
    let owed : owed_at c.args.copies.now c.args.run.top ≡ None = search rules in
    let hits = c.hit-value.ensures.hits in
    λ chains finds ids. AtOnce 0 c.args.run.top c.args.row finds (λ stores. refl) c.requires.unlocked (λ stores. owed) hits.0 hits.1 refl hits.2
