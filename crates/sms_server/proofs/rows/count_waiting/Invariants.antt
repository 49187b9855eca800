use Rattle.std.proofs.Common.{◌≡◌, ◌+◌, ◌-◌, ◌^◌}
use Rattle.vm_sets.specs.Places.{from_of}
use Rattle.sms_server.proofs.Loops.{Walks, waiting_of}
use Rattle.sms_server.proofs.Walking.{weight_from}
use Rattle.sms_server.proofs.rows.count_waiting.Given as goal
use Rattle.sms_server.specs.Kept.{waiting_among}

abbrev pub invariant-pages : goal.invariant-pages
invariant-pages l = record {
  walks : Walks l.fn.object l.rows l.fn.places l.places l.walk;
  counted : l.sum + weight_from waiting_of l.fn.object.0 (from_of l.walk) l.rows ≡ waiting_among l.fn.object.0 l.rows;
}

abbrev pub decreases-pages : goal.decreases-pages
decreases-pages l = 2 ^ 32 - from_of l.walk
