use Rattle.vm_system.proofs.Common.{arith, sym}
use Rattle.vm_system.proofs.Numbers.{number_within}
use Rattle.vm_system.proofs.state.State.send.Goals as goal

pub send_spare-requires-clause-added : goal.send_spare-requires-clause-added
send_spare-requires-clause-added c =
    omega (arith, number_within c.args.channel c.args.self.now.channels.made c.in-Some.number.0 (sym c.in-Some.ensures), c.requires.count)
