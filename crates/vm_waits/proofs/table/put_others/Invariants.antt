use Rattle.std.proofs.Common.{◌≡◌, ◌+◌, ◌≤◌, map, take}
use Rattle.indexmap.specs.IndexMap.{index_map_len, spare}
use Rattle.vm_waits.specs.Kept.{by_task}
use Rattle.vm_waits.specs.Waits.{rows_without}
use Rattle.vm_waits.proofs.table.put_others.Given as goal

abbrev pub invariant-all : goal.invariant-all
invariant-all l =
    (l.others.entries ≡ map by_task (rows_without l.task.0 (take l.row-index l.rows))) × (spare l.fn.others ≤ index_map_len l.others + spare l.others)
    × (index_map_len l.others ≤ l.row-index)
