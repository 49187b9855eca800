use Rattle.std.proofs.Common.{◌-◌, ◌^◌}
use Rattle.vm_sets.specs.Places.{from_of}
use Rattle.sms_server.proofs.Loops.{Reserving, Walks}
use Rattle.sms_server.proofs.rows.reserve_ends.Given as goal
use Rattle.sms_server.specs.Kept.{IsReadyToEnd, end_replies}

abbrev pub invariant-pages : goal.invariant-pages
invariant-pages l = record {
  walks : Walks l.fn.object l.rows l.fn.places l.places l.walk;
  reserving : Reserving (end_replies l.host.0) (IsReadyToEnd l.host.0) l.fn.object.0 (from_of l.walk) l.fn.rows l.rows l.most;
}

abbrev pub decreases-pages : goal.decreases-pages
decreases-pages l = 2 ^ 32 - from_of l.walk
