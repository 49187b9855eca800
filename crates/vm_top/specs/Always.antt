-- What holds at every status.
use Rattle.std.specs.Prelude.{ℕ, List, Option}
use Rattle.vm_model.specs.declared.event.Device.{Device}
use Rattle.vm_model.specs.declared.event.Device.TheVariants as device
use Rattle.vm_model.specs.declared.event.Event.{Event}
use Rattle.vm_model.specs.declared.script.Script.{Script}
use Rattle.vm_outside.specs.Arming.{Arming}
use Rattle.vm_outside.specs.Areas.{Told}
use Rattle.vm_system.specs.Steps.{IsBelowLimit}
use Rattle.vm_top.specs.Arming.{FailuresBounded, FailuresCounted}
use Rattle.vm_top.specs.Flat.{FilesFlatAt}
use Rattle.vm_top.specs.Losses.{HasNotFailed, LosesUnslotted}
use Rattle.vm_top.specs.Memory.{MemoryIsOne}
use Rattle.vm_top.specs.Resting.{CarriesAll, WaitsForFramesAlone}
use Rattle.vm_top.specs.Run.{outside_of}
use Rattle.vm_top.specs.Top.{BackingEnds, FilesKeptAt, KeptAt, commands_run}

-- how often a backing had failed before the call, and behind it: with what `fail` had it fail, and of its own
pub record Counts : Type 0 where
  pub old : ℕ
  pub new : ℕ
  pub own_old : ℕ
  pub own_new : ℕ

-- How a backing is left.
pub record BackingKept {B : Type 0} (who : Device) (script : Option Script) (history : List Event) (old new : Arming B) (counts : Counts) : Type 0 where
  -- an arming that stood before is gone, and `fail` alone arms
  pub ends : BackingEnds who script history old new
  -- its failures are told at most as often as its count rose, and where none is told the count stays
  pub counted : FailuresCounted who counts.old counts.new history
  -- and at most as often as the backing within failed of its own and `fail` commands were run
  pub bounded : FailuresBounded who (commands_run script history) counts.own_old counts.own_new counts.new history

-- What holds of the script, of its history, and of what both backings tell.
pub record HoldsAlways (files files_after paging paging_after : List ℕ → Told) (script : Option Script) (history : List Event) : Type 0 where
  -- no step began where the history was full
  pub limit : IsBelowLimit history
  -- Wherever a script is held, the history ends with a whole step. Once nothing is undelivered there no access waits while frames are reclaimable, but on a
  -- wild object; and whoever is asked has a message on its way.
  pub quiet : WaitsForFramesAlone script history
  pub carried : CarriesAll script history
  -- where the paging area told before it tells now, and each page that was returned and not lost stands at its slot
  pub kept : KeptAt (outside_of files paging) paging paging_after script history
  -- each declared file has what was returned, and else what it had
  pub files_kept : FilesKeptAt files files_after script history
  -- Where nothing is undelivered, no `device files` event stands in the history, and no control of a declared file lives on its host, the file, with zeros past
  -- its end, begins with the bytes of the flat map, as far as its object goes. What stands past its object's end is as it was.
  pub files_flat : FilesFlatAt (outside_of files paging) files files_after script history
  -- memory is one: each load and each store takes effect at one moment between its beginning and its end, and a load reads what was stored last in the order of
  -- these moments, which keeps the order of each task
  pub linear : MemoryIsOne (outside_of files paging) script history

-- Where neither backing within failed and no `fail` was run, unless a whole count stands at its last value, no event tells of a device that failed, and each
-- access that fails, but for one to a wild object, is to a page of temporary memory for which there was no slot.
abbrev pub LosesNothingElse : Counts → Counts → Option Script → List Event → Type 0
LosesNothingElse files paging script history =
    HasNotFailed device.Files (commands_run script history) files.own_old files.own_new files.new
    → HasNotFailed device.Paging (commands_run script history) paging.own_old paging.own_new paging.new
    → LosesUnslotted script history
