use Rattle.std.proofs.Common.{Any, ℕ, ◌<◌, ◌≡◌}
use Rattle.std.specs.Prelude.{slice_index_or}
use Rattle.std.specs.Global.{Vec}
use Rattle.std.specs.List.{All}
use Rattle.vm_explore.specs.Tables.{times_of}
use Rattle.vm_lens.specs.Exploring.{Gives, IsShown}
use Rattle.vm_lens.proofs.exploring.explore_orders.Given as goal

abbrev pub invariant-loop-order : goal.invariant-loop-order
invariant-loop-order l = record {
  shown : All (IsShown l.script l.setup l.start.items l.shared) l.table;
  given : (k : ℕ) (d : Vec ℕ) → k < l.order-index → Any (Gives l.script l.setup l.start.items (slice_index_or l.all k d).items) l.table;
  times : times_of l.table ≡ l.order-index;
}
