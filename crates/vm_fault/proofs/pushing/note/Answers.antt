use Rattle.std.proofs.Common.{refl, rules, IsSome}
use Rattle.vm_copies.specs.Copies.{copy_at}
use Rattle.vm_fault.proofs.Owed.{notes_copy}
use Rattle.vm_fault.proofs.pushing.note.Goals as goal

pub returns-then-is_copy : goal.returns-then-is_copy
returns-then-is_copy c =
    let some : IsSome (copy_at c.args.copies.now c.args.key.object.0) = search rules in
    notes_copy c.args.key c.args.copies.now c.note.new.self _ refl some c.note.ensures.copy c.note.ensures.had c.note.ensures.newest c.note.ensures.room
