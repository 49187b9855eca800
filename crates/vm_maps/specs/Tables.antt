-- How the maps are kept: each task with a table for the most entries.
use Rattle.std.specs.Prelude.{ℕ, ◌+◌, ◌≤◌, ◌≡◌, ◌==◌, List, length, map, Option, Some}
use Rattle.std.specs.Map.{lookup}
use Rattle.vm_base.specs.Entries.{AreEntries, by_address, most_entries}
use Rattle.vm_base.specs.Listing.{Listed}
use Rattle.vm_base.specs.declared.entry.Entry.{Entry}
use Rattle.vm_base.specs.declared.ids.TaskId.{TaskId}

-- each task with its entries by rising address
abbrev pub task_rows : List (TaskId × Listed Entry) → List (ℕ × List Entry)
task_rows tables = map (λ table. (table.0.0, by_address table.1)) tables

-- the table of a task
abbrev pub table_of : ℕ → List (TaskId × Listed Entry) → Option (Listed Entry)
table_of task tables = lookup (λ id. task == id.0) tables

pub record IsTable (size : ℕ) (table : Listed Entry) : Type 0 where
  pub entries : AreEntries size (by_address table)
  pub room : most_entries ≤ length table.items + table.room

abbrev pub AreTables : ℕ → List (TaskId × Listed Entry) → Type 0
AreTables size tables = (task : ℕ) (table : Listed Entry) → table_of task tables ≡ Some table → IsTable size table
