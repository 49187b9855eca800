-- How many entries lead to each region, and how many regions are marked.
use Rattle.std.specs.Prelude.{ℕ, zero, suc, ◌+◌, ◌==◌, List, [], ◌∷◌, if◌then◌else◌}
use Rattle.vm_base.specs.declared.entry.Entry.{Entry}
use Rattle.vm_base.specs.Limits.{most_tasks as task_limit}
use Rattle.vm_maps.specs.Maps.{Mapped, rows_in}
use Rattle.vm_model.specs.declared.event.Event.{Event}
use Rattle.vm_model.specs.declared.script.Header.{Header}
use Rattle.vm_model.specs.Regions.{Region, next_region, region_of}

-- how many of the entries lead to a region
abbrev pub count_on : ℕ → List Entry → ℕ
count_on region [] = 0
count_on region (row ∷ rows) = (if row.region.0 == region then 1 else 0) + count_on region rows

-- how many entries of the tasks below a number do
abbrev pub count_by : ℕ → ℕ → Mapped → ℕ
count_by zero region maps = 0
count_by (suc task) region maps = count_on region (rows_in task maps) + count_by task region maps

-- every task has a number below this
unfoldable pub all_tasks : ℕ
all_tasks = task_limit

-- how many of the first n regions are marked
abbrev pub marked_in : ℕ → (ℕ → Region) → ℕ
marked_in zero region_from = 0
marked_in (suc n) region_from = if (region_from n).mark then marked_in n region_from + 1 else marked_in n region_from

-- of all that were made
abbrev pub marks_of : Header → List Event → ℕ
marks_of header past = marked_in (next_region header past) (λ r. region_of header r past)
