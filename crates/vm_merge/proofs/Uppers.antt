-- The one shadow over an object that can be merged.
use Rattle.std.proofs.Common.{ℕ}
use Rattle.vm_copies.specs.Copies.{CopyTable}
use Rattle.vm_merge.specs.Merges.{CanMerge}
use Rattle.vm_merge.specs.Standing.{CountsFit}
use Rattle.vm_objects.specs.Objects.{ObjectTable}
use Rattle.vm_shadow.specs.Chains.{ChainTable, StandsAlone}

-- the shadow into which an object can be merged stands alone on it
pub stands_alone : {copies : CopyTable} (chains : ChainTable) (objects : ObjectTable) (upper lower : ℕ) → CountsFit copies chains objects
    → CanMerge copies chains objects upper lower
    → StandsAlone upper lower chains
stands_alone chains objects upper lower counts can =
    let only = counts upper lower can in
    record { over = rw can.over can.under; others = only.shadows }
