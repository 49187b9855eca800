use Rattle.vm_hosts.proofs.Common.{◌++◌}
use Rattle.vm_hosts.proofs.hosts.Hosts.follow.Given as goal

abbrev pub ghost-behind : goal.ghost-behind
ghost-behind g a = g.given

abbrev pub ghost-serve_all : goal.ghost-serve_all
ghost-serve_all g a = record { header = g.given.header; outside = g.given.outside; command = g.given.command; past = g.given.front ++ g.given.past }
