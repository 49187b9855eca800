use Rattle.std.proofs.Common.{◌≡◌, ◌+◌, ◌*◌, ◌≤◌, length}
use Rattle.vm_merge.proofs.merging.merge_losers.Given as goal
use Rattle.vm_merge.specs.Merges.{IsThinBut, MergeInTurn, MergeState}
use Rattle.vm_merge.specs.Standing.{MayMerge, merge_state}

abbrev pub invariant-losers : goal.invariant-losers
invariant-losers g l = record {
  may : MayMerge g.given l.parts l.chains l.fn.copies;
  thin : IsThinBut l.fn.copies l.losers.items l.chains l.parts.objects;
  so_far : (end : MergeState) → MergeInTurn (merge_state l.parts l.chains l.fn.copies l.log.items) end
      → MergeInTurn (merge_state l.fn.parts l.fn.chains l.fn.copies l.fn.log.items) end;
  fewer : length l.losers.items ≤ length l.fn.losers.items;
  buffers : l.parts.buffers ≡ l.fn.parts.buffers;
  told : length l.log.items + length l.losers.items ≤ length l.fn.log.items + length l.fn.losers.items;
  log : l.fn.log.room + length l.losers.items ≤ l.log.room + length l.fn.losers.items;
  spare : l.fn.parts.resident.spare + length l.losers.items * g.given ≤ l.parts.resident.spare + length l.fn.losers.items * g.given;
  objects : l.fn.parts.objects.rows ≤ l.parts.objects.rows;
  shadows : l.fn.chains.spare ≤ l.chains.spare;
  marked : l.chains.marked ≡ l.fn.chains.marked;
}

abbrev pub decreases-losers : goal.decreases-losers
decreases-losers g l = length l.losers.items
