-- The hosts that have regions in use.
use Rattle.std.specs.Prelude.{ℕ, List, [], ◌∷◌, if◌then◌else◌, ◌==◌, ◌&&◌, ◌||◌, not, nat_lt, Bool, true, false}
use Rattle.vm_model.specs.declared.event.Event.{Event}
use Rattle.vm_model.specs.declared.event.Event.TheVariants as event
use Rattle.vm_model.specs.declared.script.Header.{Header}
use Rattle.vm_model.specs.Named.{named}
use Rattle.vm_model.specs.Tasks.{entries_of, has_entry}
use Rattle.vm_model.specs.Waiting.{waiting, copy_target, fills}
use Rattle.vm_legal.specs.Living.{lives_on, tasks}
use Rattle.vm_legal.specs.Outside.{is_file}

-- one of these tasks has an entry on the region, or fills it by a slow copy that waits
abbrev pub is_held : ℕ → ℕ → List ℕ → List Event → Bool
is_held size region [] past = false
is_held size region (task ∷ others) past =
    (has_entry region (entries_of size task past) || fills region (waiting task past) (copy_target task past)) || is_held size region others past

-- one of these tasks fills the region by a slow copy that waits
abbrev pub is_filled : ℕ → List ℕ → List Event → Bool
is_filled region [] past = false
is_filled region (task ∷ others) past = fills region (waiting task past) (copy_target task past) || is_filled region others past

-- a region is kept while it is held; the declared objects' regions are always kept
abbrev pub is_kept : Header → ℕ → List Event → Bool
is_kept header region past = nat_lt region (named header) || is_held header.size region (tasks past) past

-- a region that is made now may be used on the host: a slow copy's region is for the host of its task
abbrev pub made_here : ℕ → List Event → Bool
made_here host (event.BegunCopy task address bytes to ∷ past) = lives_on host task.0 past
made_here host other = true

-- The region is in use on the host: from the event that makes it until the last entry on it goes, and once it has an entry, on
-- the host of its entries alone. A copy is in use where its source is. A file's region is in use from the start.
abbrev pub in_use : Header → ℕ → ℕ → List Event → Bool
in_use header host region [] = is_file header region
in_use header host region (event.RegionMade new object pages ∷ past) = if region == new.0 then made_here host past else in_use header host region past
in_use header host region (event.RegionCopied new source offset pages ∷ past) =
    if region == new.0 then in_use header host source.0 past else in_use header host region past
in_use header host region (event.Delayed new source offset pages copy ∷ past) =
    if region == new.0 then in_use header host source.0 past else in_use header host region past
in_use header host region (event.Entered task address bytes entered offset prot inherit ∷ past) =
    (not (region == entered.0) || lives_on host task.0 past) && in_use header host region past
in_use header host region (event.Removed task address bytes ∷ past) =
    is_kept header region (event.Removed task address bytes ∷ past) && in_use header host region past
in_use header host region (event.TaskEnded task ∷ past) = is_kept header region (event.TaskEnded task ∷ past) && in_use header host region past
in_use header host region (event.Failed task object page ∷ past) =
    is_kept header region (event.Failed task object page ∷ past) && in_use header host region past
in_use header host region (e ∷ past) = in_use header host region past
