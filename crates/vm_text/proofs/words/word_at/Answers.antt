use Rattle.std.proofs.Common.{◌<◌, length, Some, None, sym, ◌∙◌, arith}
use Rattle.std.proofs.lemmas.Bool.Decides.{nat_tests}
use Rattle.vm_text.proofs.Pieces.{word_first}
use Rattle.vm_text.proofs.words.word_at.Goals as goal

pub returns-in-Some : goal.returns-in-Some
returns-in-Some c =
    let text = c.without_spaces-text.result.now in
    let some : 0 < length text = grind (arith, nat_tests) in
    sym c.without_spaces-text.ensures.same ∙ (word_first text (Some c.in-Some.end) c.without_spaces-text.ensures.leads some c.in-Some.ensures).1

pub returns-in-None : goal.returns-in-None
returns-in-None c =
    let text = c.without_spaces-text.result.now in
    let some : 0 < length text = grind (arith, nat_tests) in
    sym c.without_spaces-text.ensures.same ∙ word_first text None c.without_spaces-text.ensures.leads some c.in-None.ensures
