use Rattle.std.proofs.Common.{◌-◌, ◌≤◌, length, reverse}
use Rattle.vm_maps.specs.Rows.{passed}
use Rattle.vm_maps.proofs.search.count_passed.Given as goal

abbrev pub invariant-search : goal.invariant-search
invariant-search l = record {
  low : l.low ≤ passed l.address (reverse l.entries.items);
  high : passed l.address (reverse l.entries.items) ≤ l.high;
  within : l.high ≤ length l.entries.items;
}

abbrev pub decreases-search : goal.decreases-search
decreases-search l = l.high - l.low
