use Rattle.std.proofs.Common.{◌<◌, length, arith, get_or-set_same}
use Rattle.vm_sets.proofs.Bits.{bit_cleared}
use Rattle.vm_sets.proofs.page_places.Group.unmark.Goals as goal

pub returns-clause-word : goal.returns-clause-word
returns-clause-word c =
    let within : c.args.mark < length c.args.self.now.words = omega arith in
    rw get_or-set_same (bit_cleared _ c.args.slot c.requires.slot)
