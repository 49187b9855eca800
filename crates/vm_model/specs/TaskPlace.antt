-- Where a task runs, and the page that an address of it means.
use Rattle.std.specs.Prelude.{ℕ, ◌==◌, ◌&&◌, List, [], ◌∷◌, Bool, false, if◌then◌else◌, Option, Some, None}
use Rattle.vm_base.specs.declared.entry.Entry.{Entry}
use Rattle.vm_base.specs.Entries.{entry_at, page_at}
use Rattle.vm_model.specs.declared.event.Event.{Event}
use Rattle.vm_model.specs.declared.event.Event.TheVariants as event
use Rattle.vm_model.specs.Tasks.{entries_of}

-- the host on which the task began last
abbrev pub task_host : ℕ → List Event → ℕ
task_host task [] = 0
task_host task (event.TaskMade made host ∷ past) = if made.0 == task then host.0 else task_host task past
task_host task (e ∷ past) = task_host task past

-- an entry has page p of object o at an address: it is on the region with that number, which is the whole object
abbrev pub has_page : ℕ → ℕ → ℕ → ℕ → Option Entry → Bool
has_page size o p address None = false
has_page size o p address (Some entry) = entry.region.0 == o && page_at size address entry == p

-- an address of a task means page p of object o
abbrev pub means_page : ℕ → ℕ → ℕ → ℕ → ℕ → List Event → Bool
means_page size o p task address past = has_page size o p address (entry_at address (entries_of size task past))
