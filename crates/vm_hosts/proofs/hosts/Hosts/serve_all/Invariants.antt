use Rattle.vm_hosts.proofs.Common.{length, sum_of_dues, ◌+◌, ◌≡◌}
use Rattle.vm_hosts.proofs.Dues.{Serves}
use Rattle.vm_hosts.proofs.Serving.{Serving}
use Rattle.vm_hosts.proofs.hosts.Hosts.serve_all.Given as goal

abbrev pub ghost-serve : goal.ghost-serve
ghost-serve g a = record { header = g.given.header; host = a.self.now.host.0; outside = g.given.outside; past = g.given.past; command = g.given.command }

abbrev pub invariant-hosts : goal.invariant-hosts
invariant-hosts g l = record {
  serving : Serving g.given.header g.given.outside g.given.command g.given.past l.fn.log.items l.host
      (record { kernels = l.self-inside.kernels.items; ids = l.self-inside.ids }) l.log.items;
  same : length l.self-inside.kernels.items ≡ length l.initial.self-inside.kernels.items;
  serves :
      Serves (length l.fn.log.items + sum_of_dues l.initial.self-inside.kernels.items) l.host
      (record { kernels = l.self-inside.kernels.items; ids = l.self-inside.ids }) (length l.log.items)
      l.log.room;
}
