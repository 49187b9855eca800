use Rattle.vm_hosts.proofs.Common.{length, ◌≡◌}
use Rattle.vm_hosts.proofs.Rooms.{Reserving}
use Rattle.vm_hosts.proofs.hosts.Hosts.reserve_tables.Given as goal

abbrev pub invariant-rooms : goal.invariant-rooms
invariant-rooms l = record {
  reserving : Reserving l.fn.acting l.fn.breadth l.fn.self l.host l.most (record { kernels = l.self-inside.kernels.items; ids = l.self-inside.ids });
  same : length l.self-inside.kernels.items ≡ length l.initial.self-inside.kernels.items;
}
