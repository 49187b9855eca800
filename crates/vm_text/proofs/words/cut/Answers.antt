use Rattle.std.proofs.Common.{◌==◌, Some, None}
use Rattle.vm_text.proofs.Pieces.{cut_at}
use Rattle.vm_text.proofs.words.cut.Goals as goal

pub returns-in-Some-clause-pieces : goal.returns-in-Some-clause-pieces
returns-in-Some-clause-pieces c = (cut_at (λ byte. byte == c.args.mark) c.args.bytes.now (Some c.in-Some.end) c.in-Some.ensures).1

pub returns-in-None-clause-pieces : goal.returns-in-None-clause-pieces
returns-in-None-clause-pieces c = cut_at (λ byte. byte == c.args.mark) c.args.bytes.now None c.in-None.ensures
