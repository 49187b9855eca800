-- Where a walk down a chain stops, and what running an access from there comes to.
use Rattle.std.specs.Prelude.{ℕ, ◌≡◌, ◌≢◌, ◌+◌, ◌<◌, ◌≤◌, true, false, List, Some, None}
use Rattle.vm_base.specs.declared.ids.FrameNo.{FrameNo}
use Rattle.vm_base.specs.declared.ids.ObjectId.{ObjectId}
use Rattle.vm_base.specs.declared.ids.PageKey.{PageKey}
use Rattle.vm_copies.specs.Copies.{CopyTable}
use Rattle.vm_fault.specs.Faults.{Comes}
use Rattle.vm_fault.specs.Walks.{Finds, MayCome, Sinks, StopsAsked}
use Rattle.vm_fault.specs.declared.running.Running.{Running}
use Rattle.vm_fault.specs.declared.step.FaultStep.{FaultStep}
use Rattle.vm_fault.specs.declared.walking.Spot.{Spot}
use Rattle.vm_fault.specs.declared.walking.Stop.{Stop}
use Rattle.vm_fault.specs.declared.walking.Stop.TheVariants as stop
use Rattle.vm_model.specs.declared.event.Event.{Event}
use Rattle.vm_objects.specs.Objects.{ObjectTable, absent_at, object_at}
use Rattle.vm_objects.specs.declared.row.ObjectRow.{ObjectRow}
use Rattle.vm_objects.specs.declared.row.PagerState.TheVariants as state
use Rattle.vm_parts.specs.Fits.{Fit, object_pages}
use Rattle.vm_parts.specs.declared.parts.HostParts.{HostParts}
use Rattle.vm_resident.specs.Resident.{row_at}
use Rattle.vm_resident.specs.declared.page_row.PageRow.{PageRow}
use Rattle.vm_shadow.specs.Chains.{ChainTable}
use Rattle.vm_shadow.specs.declared.ids.Ids.{Ids}
use Rattle.vm_waits.specs.Wants.{IsSizedWant, want_size}
use Rattle.vm_waits.specs.declared.waiting.Want.{Want}
use Rattle.vm_waits.specs.declared.waiting.Want.TheVariants as want

-- a place is one of its object's pages
pub record Stands (objects : ObjectTable) (spot : Spot) : Type 0 where
  pub known : object_at objects spot.key.object.0 ≡ Some spot.object
  pub inside : spot.key.page.0 < spot.object.pages

-- where a walk stops
abbrev pub Stops : HostParts → ChainTable → PageKey → Stop → Type 0
Stops parts chains top (stop.Found key row steps) = Finds parts chains steps top key row
Stops parts chains top (stop.Asked key) = (steps : ℕ) × (row : PageRow) × StopsAsked parts chains steps top key row
Stops parts chains top (stop.MayCome key object steps) =
    MayCome parts chains steps top key object × (key.page.0 < object.pages) × (object.state ≢ state.Without)
Stops parts chains top stop.Nowhere = Sinks parts chains top

-- a slow copy from this place can make its next page: no walk from the place comes to nothing, and the page is one of its object, and neither here nor asked
pub record CopiesNext (top : PageKey) (target : ObjectId) (next : ℕ) (parts : HostParts) : Type 0 where
  pub told : (row : ObjectRow) → object_at parts.objects top.object.0 ≡ Some row → row.state ≢ state.Without
  pub present : absent_at parts.objects top.object.0 top.page.0 ≡ false
  pub inside : next < object_pages parts.objects target.0
  pub unmade : row_at parts.resident target.0 next ≡ None

abbrev pub CopiesFrom : Want → PageKey → HostParts → Type 0
CopiesFrom (want.Load address size) top parts = Unit {0}
CopiesFrom (want.Store address size value) top parts = Unit {0}
CopiesFrom (want.CopyTo address pages target next) top parts = CopiesNext top target next parts

-- an access can go on, where its walk has stopped: its top place is a page, in which its bytes lie, and there is room for two events
pub record CanGo (run : Running) (parts : HostParts) (room : ℕ) : Type 0 where
  pub fit : Fit parts
  pub top : run.top.page.0 < object_pages parts.objects run.top.object.0
  pub inside : run.at + want_size parts.buffers.size run.want ≤ parts.buffers.size
  pub sized : IsSizedWant parts.buffers.size run.want
  pub copies : CopiesFrom run.want run.top parts
  pub log : 2 ≤ room

-- a page is here, in this frame
pub record IsHere (key : PageKey) (frame : FrameNo) (parts : HostParts) : Type 0 where
  pub row : PageRow
  pub found : row_at parts.resident key.object.0 key.page.0 ≡ Some row
  pub is : row.frame ≡ frame
  pub here : row.here ≡ true

-- what running an access comes to, whose region has an object of its own where it needs one
abbrev pub Goes : Running → FaultStep → ChainTable → CopyTable → CopyTable → HostParts → HostParts → List Event → List Event → Type 0
Goes run answer chains had have old new before after = (ids : Ids) → Comes run.host run.task run.want run.may_claim run.top run.at answer
    (record { parts = old; chains = chains; copies = had; ids = ids; events = before })
    (record { parts = new; chains = chains; copies = have; ids = ids; events = after })
