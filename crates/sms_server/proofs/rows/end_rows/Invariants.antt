use Rattle.std.proofs.Common.{◌-◌, ◌^◌}
use Rattle.vm_sets.specs.Places.{from_of}
use Rattle.sms_server.proofs.Loops.{Ending, Walks}
use Rattle.sms_server.proofs.rows.end_rows.Given as goal

abbrev pub invariant-pages : goal.invariant-pages
invariant-pages l = record {
  walks : Walks l.fn.object l.rows l.fn.places l.places l.walk;
  ending : Ending l.host.0 l.message l.fn.object.0 (from_of l.walk) l.fn.rows l.rows l.fn.events.items l.events.items l.events.room;
}

abbrev pub decreases-pages : goal.decreases-pages
decreases-pages l = 2 ^ 32 - from_of l.walk
