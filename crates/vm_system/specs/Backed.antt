-- What both backings keep, and what a call leaves of each.
use Rattle.std.specs.Prelude.{ℕ, List}
use Rattle.vm_model.specs.declared.event.Device.{Device}
use Rattle.vm_model.specs.declared.event.Event.{Event}
use Rattle.vm_model.specs.declared.script.Header.{Header}
use Rattle.vm_legal.specs.Outside.{Outside}
use Rattle.vm_outside.specs.Areas.{Told}
use Rattle.vm_system.specs.Keeping.{FilesCarry}
use Rattle.vm_system.specs.Settling.{DevicesCounted}
use Rattle.vm_system.specs.Stands.{FilesAreKept, PagingIsKept}
use Rattle.vm_system.specs.Steps.{DevicesHaveCause}
use Rattle.vm_system.specs.declared.state.State.{State}

-- What the backings tell fits the system: each page that was returned and not lost stands at its slot, the pagers know what their files have, and each declared
-- file has what was returned, and else what it had at the start.
pub record BackingsFit (header : Header) (outside : Outside) (start files paging : List ℕ → Told) (system : State) : Type 0 where
  pub kept : PagingIsKept header outside paging system
  pub files_kept : FilesAreKept header outside files system
  pub carried : FilesCarry header start files system.history.items

-- what a call leaves of a backing, whatever it answers: it goes on, and its failures are told where its count of faults rose
pub record BackingGoes (who : Device) (goes_on : Type 0) (before now : ℕ) (old new : List Event) : Type 0 where
  pub later : goes_on
  pub devices : DevicesHaveCause who before now old new

-- what a settle leaves of a backing, whatever it answers: it goes on, and as many of its failures are told as its count of faults rose, or fewer
pub record BackingWent (who : Device) (goes_on : Type 0) (before now : ℕ) (old new : List Event) : Type 0 where
  pub later : goes_on
  pub devices : DevicesCounted who before now old new
