use Rattle.vm_abroad.proofs.Own.{held_own, last_own, live_own, local_own, out_own, ready_own, wired_own}
use Rattle.vm_abroad.proofs.own_events_move_their_host.Goals as goal

pub returns-clause-local : goal.returns-clause-local
returns-clause-local c = local_own

pub returns-clause-live : goal.returns-clause-live
returns-clause-live c = live_own

pub returns-clause-last : goal.returns-clause-last
returns-clause-last c = last_own

pub returns-clause-ready : goal.returns-clause-ready
returns-clause-ready c = ready_own

pub returns-clause-held : goal.returns-clause-held
returns-clause-held c = held_own

pub returns-clause-wired : goal.returns-clause-wired
returns-clause-wired c = wired_own

pub returns-clause-out : goal.returns-clause-out
returns-clause-out c = out_own
