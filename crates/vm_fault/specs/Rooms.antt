-- Room for an access that is run.
use Rattle.std.specs.Prelude.{ℕ, ◌+◌, ◌-◌, ◌≤◌, List, length, min}
use Rattle.vm_fault.specs.Faults.{FaultState}
use Rattle.vm_frames.specs.Frames.{free}
use Rattle.vm_model.specs.declared.event.Event.{Event}
use Rattle.vm_parts.specs.declared.parts.HostParts.{HostParts}
use Rattle.vm_shadow.specs.Chains.{ChainTable}
use Rattle.vm_waits.specs.declared.waiting.Want.{Want}
use Rattle.vm_waits.specs.declared.waiting.Want.TheVariants as want

-- how many pages a slow copy has left
abbrev pub pages_left : Want → ℕ
pages_left (want.Load address size) = 0
pages_left (want.Store address size value) = 0
pages_left (want.CopyTo address pages target next) = pages - next

-- what running an access has taken of the room: for each event at most one place in the log and one row of a page, and for each region that is marked no longer
-- at most one shadow and one object
pub record TakesRoom (old new : FaultState) (before after : ℕ) : Type 0 where
  pub log : before + length old.events ≤ after + length new.events
  pub rows : old.parts.resident.spare + length old.events ≤ new.parts.resident.spare + length new.events
  pub shadows : old.chains.spare + new.chains.marked ≤ new.chains.spare + old.chains.marked
  pub objects : old.parts.objects.rows + new.chains.marked ≤ new.parts.objects.rows + old.chains.marked

-- where no object is made: for each event at most one place in the log and one row of a page
pub record TakesPlaces (old new : HostParts) (before after : List Event) (room rest : ℕ) : Type 0 where
  pub log : room + length before ≤ rest + length after
  pub rows : old.resident.spare + length before ≤ new.resident.spare + length after

-- there is room for three events and one row of a page; for an event and a row more for each page that a slow copy has left, as far as frames are free; and for
-- a shadow and an object for each region that is marked
pub record HasRoom (what : Want) (parts : HostParts) (chains : ChainTable) (events : ℕ) : Type 0 where
  pub log : 3 + min (pages_left what) (free parts.frames) ≤ events
  pub rows : 1 + min (pages_left what) (free parts.frames) ≤ parts.resident.spare
  pub shadows : chains.marked ≤ chains.spare
  pub objects : chains.marked ≤ parts.objects.rows
