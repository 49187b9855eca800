use Rattle.std.proofs.Common.{◌-◌, ◌^◌}
use Rattle.vm_sets.specs.Places.{from_of}
use Rattle.sms_server.proofs.Loops.{IsReady, Reserving, Walks, replies_of}
use Rattle.sms_server.proofs.rows.reserve_rows.Given as goal

abbrev pub invariant-pages : goal.invariant-pages
invariant-pages l = record {
  walks : Walks l.fn.object l.rows l.places l.places l.walk;
  reserving : Reserving replies_of IsReady l.fn.object.0 (from_of l.walk) l.fn.rows l.rows l.most;
}

abbrev pub decreases-pages : goal.decreases-pages
decreases-pages l = 2 ^ 32 - from_of l.walk
