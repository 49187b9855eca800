use Rattle.std.proofs.Common.{sym}
use Rattle.vm_text.proofs.Sizes.{page_size_is}
use Rattle.vm_text.proofs.terms.page_size.Goals as goal

pub returns-in-Some : goal.returns-in-Some
returns-in-Some c =
    page_size_is c.args.word.now c.in_ok-number.number c.in-Some.size (sym c.in_ok-number.ensures) c.in-Some.ensures.exact.0 c.in-Some.ensures.exact.1
