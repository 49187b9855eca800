use Rattle.std.proofs.Common.{◌≡◌, ◌++◌, drop, map, take}
use Rattle.indexmap.specs.IndexMap.{spare}
use Rattle.vm_waits.specs.Kept.{on_value}
use Rattle.vm_waits.specs.Waits.{woken, woken_ready}
use Rattle.vm_waits.proofs.scan.wake_for_ready.Given as goal

abbrev pub invariant-all : goal.invariant-all
invariant-all l =
    (l.rows.entries ≡ map (on_value (woken (woken_ready l.object.0))) (take l.at l.fn.rows.entries) ++ drop l.at l.fn.rows.entries)
    × (spare l.rows ≡ spare l.fn.rows)
