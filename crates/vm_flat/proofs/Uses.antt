-- The hosts that have regions in use of which the law speaks.
use Rattle.std.specs.Prelude.{ℕ, List, [], ◌∷◌, if◌then◌else◌, ◌==◌, ◌&&◌, ◌||◌, not, Bool, Some}
use Rattle.vm_model.specs.declared.event.Event.{Event}
use Rattle.vm_model.specs.declared.event.Event.TheVariants as event
use Rattle.vm_model.specs.declared.script.Header.{Header}
use Rattle.vm_legal.specs.Living.{lives_on}
use Rattle.vm_legal.specs.Outside.{Outside, is_file, is_from_told}
use Rattle.vm_legal.specs.Used.{is_kept, made_here}

-- The region is in use on the host, and its bytes are told: temporary regions are left out where the paging area does not tell, or their file.
abbrev pub in_use : Header → Outside → ℕ → ℕ → List Event → Bool
in_use header outside host region [] = is_file header region
in_use header outside host region (event.RegionMade new object pages ∷ past) =
    if region == new.0 then made_here host past && outside.paging else in_use header outside host region past
in_use header outside host region (event.RegionCopied new source offset pages ∷ past) =
    if region == new.0 then in_use header outside host source.0 past else in_use header outside host region past
in_use header outside host region (event.Delayed new source offset pages copy ∷ past) =
    if region == new.0 then in_use header outside host source.0 past && (outside.paging && is_from_told header outside (Some source.0)) else in_use header
    outside host region past
in_use header outside host region (event.Entered task address bytes entered offset prot inherit ∷ past) =
    (not (region == entered.0) || lives_on host task.0 past) && in_use header outside host region past
in_use header outside host region (event.Removed task address bytes ∷ past) =
    is_kept header region (event.Removed task address bytes ∷ past) && in_use header outside host region past
in_use header outside host region (event.TaskEnded task ∷ past) = is_kept header region (event.TaskEnded task ∷ past) && in_use header outside host region past
in_use header outside host region (event.Failed task object page ∷ past) =
    is_kept header region (event.Failed task object page ∷ past) && in_use header outside host region past
in_use header outside host region (e ∷ past) = in_use header outside host region past
