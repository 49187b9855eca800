use Rattle.vm_text.proofs.Tables.{pair_at}
use Rattle.vm_text.proofs.room.pair_of.Goals as goal

pub returns-clause-tens : goal.returns-clause-tens
returns-clause-tens c = (pair_at c.args.number c.requires).0

pub returns-clause-ones : goal.returns-clause-ones
returns-clause-ones c = (pair_at c.args.number c.requires).1
