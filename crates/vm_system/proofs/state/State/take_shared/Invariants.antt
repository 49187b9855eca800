use Rattle.vm_system.proofs.Common.{take}
use Rattle.vm_system.proofs.state.State.take_shared.Given as goal

abbrev pub ghost-follow : goal.ghost-follow
ghost-follow g a =
    record { header = g.given.header; outside = g.given.outside; command = g.given.command; past = g.given.past; front = take a.fresh a.self.now.history.items }
