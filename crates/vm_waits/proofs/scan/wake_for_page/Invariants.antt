use Rattle.std.proofs.Common.{◌≡◌, ◌++◌, drop, map, take}
use Rattle.indexmap.specs.IndexMap.{spare}
use Rattle.vm_waits.specs.Kept.{on_value}
use Rattle.vm_waits.specs.Waits.{woken, woken_page}
use Rattle.vm_waits.proofs.scan.wake_for_page.Given as goal

abbrev pub invariant-all : goal.invariant-all
invariant-all l =
    (l.rows.entries ≡ map (on_value (woken (woken_page l.key))) (take l.at l.fn.rows.entries) ++ drop l.at l.fn.rows.entries) × (spare l.rows ≡ spare l.fn.rows)
