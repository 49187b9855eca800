use Rattle.vm_text.proofs.Tables.{hex_pair_at}
use Rattle.vm_text.proofs.room.hex_pair.Goals as goal

pub returns-clause-high : goal.returns-clause-high
returns-clause-high c = (hex_pair_at c.args.byte c.ranges.byte.fits).0

pub returns-clause-low : goal.returns-clause-low
returns-clause-low c = (hex_pair_at c.args.byte c.ranges.byte.fits).1
