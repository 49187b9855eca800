use Rattle.vm_text.proofs.Parts.{not_one_part}
use Rattle.vm_text.proofs.channel.one_part.Goals as goal

pub returns-in-Some : goal.returns-in-Some
returns-in-Some c =
    let pieces = rw c.in-Some.is at c.cut.ensures.pieces in
    not_one_part c.args.word.now c.cut.result.0.now c.in-Some.field-0.now pieces
