use Rattle.std.proofs.Common.{sym}
use Rattle.vm_text.proofs.Pieces.{from_first, all_spaces}
use Rattle.vm_text.proofs.words.without_spaces.Goals as goal

pub returns-in-Some-clause-same : goal.returns-in-Some-clause-same
returns-in-Some-clause-same c = (from_first c.args.line.now c.in-Some.start (sym c.in-Some.ensures)).0

pub returns-in-Some-clause-leads : goal.returns-in-Some-clause-leads
returns-in-Some-clause-leads c = (from_first c.args.line.now c.in-Some.start (sym c.in-Some.ensures)).1

pub returns-in-None-clause-same : goal.returns-in-None-clause-same
returns-in-None-clause-same c = sym (all_spaces c.args.line.now (sym c.in-None.ensures))
