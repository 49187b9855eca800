use Rattle.vm_text.proofs.Pieces.{first_line}
use Rattle.vm_text.proofs.words.line_at.Goals as goal

pub returns-in-Some : goal.returns-in-Some
returns-in-Some c =
    let pieces = rw c.in-Some.is at c.cut.ensures.pieces in
    let shorter = rw c.in-Some.is at c.cut.ensures.shorter in
    (first_line c.args.bytes.now c.cut.result.0.now c.in-Some.rest.now pieces, shorter)
