use Rattle.vm_system.proofs.Common.{arith, sym}
use Rattle.vm_system.proofs.Numbers.{number_within}
use Rattle.vm_system.proofs.state.State.take_refusal.Goals as goal

pub head-requires : goal.head-requires
head-requires c = omega (arith, c.requires, number_within c.args.channel c.args.self.now.channels.made c.in-Some.number.0 (sym c.in-Some.ensures))
