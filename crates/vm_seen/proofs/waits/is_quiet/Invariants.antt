use Rattle.std.proofs.Common.{◌≡◌, ◌≤◌}
use Rattle.vm_model.specs.Summary.{count_of, is_sent, is_taken_event}
use Rattle.vm_seen.specs.Behind.{oldest_items}
use Rattle.vm_seen.proofs.waits.is_quiet.Given as goal

abbrev pub invariant-loop-i : goal.invariant-loop-i
invariant-loop-i l = record {
  few_sent : l.sent ≤ l.i;
  few_taken : l.taken ≤ l.i;
  sent : l.sent ≡ count_of is_sent (oldest_items l.i l.history.items);
  taken : l.taken ≡ count_of is_taken_event (oldest_items l.i l.history.items);
}
