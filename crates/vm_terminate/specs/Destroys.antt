-- What the end of a memory object by its pager changes on a host: its pages, and its control.
use Rattle.std.specs.Prelude.{ℕ, zero, suc, ◌≡◌, ◌+◌, ◌<◌, ◌≤◌, true, false, List, [], ◌∷◌, Some, None}
use Rattle.vm_base.specs.declared.ids.HostId.{HostId}
use Rattle.vm_base.specs.declared.ids.ObjectId.{ObjectId}
use Rattle.vm_base.specs.declared.ids.PageKey.{PageKey}
use Rattle.vm_base.specs.declared.ids.PageNo.{PageNo}
use Rattle.vm_model.specs.declared.event.Event.TheVariants as event
use Rattle.vm_objects.specs.declared.row.ObjectRow.{ObjectRow}
use Rattle.vm_parts.specs.Changes.{Cancels, Discards, is_here, one}
use Rattle.vm_resident.specs.Resident.{ResidentTable, row_at}
use Rattle.vm_resident.specs.declared.page_row.PageRow.{PageRow}
use Rattle.vm_terminate.specs.Finishes.{ControlEnds, FinishState}

-- how many of the pages of an object below a number are here
abbrev pub here_below : ResidentTable → ℕ → ℕ → ℕ
here_below resident o zero = 0
here_below resident o (suc p) = one (is_here (row_at resident o p)) + here_below resident o p

-- nothing but pages and their frames, and the events, has changed
pub record KeepsRest (old new : FinishState) : Type 0 where
  pub objects : new.parts.objects ≡ old.parts.objects
  pub buffers : new.parts.buffers ≡ old.parts.buffers
  pub is : new ≡ record old { parts = new.parts; events = new.events }

-- a page that is here is dropped, changed or not
pub record IsDropped (host : HostId) (key : PageKey) (row : PageRow) (old new : FinishState) : Type 0 where
  pub here : row.here ≡ true
  pub page : Discards key row old.parts new.parts
  pub rest : KeepsRest old new
  pub events : new.events ≡ event.Dropped host key.object key.page ∷ old.events

-- the pages that are here go from one on, by rising number, until none is left
pub data PagesDrop (host : HostId) (object : ObjectId) : ℕ → FinishState → FinishState → Type 0 where
  NoneHere : (from : ℕ) → (s : FinishState) → ((p : ℕ) → from ≤ p → is_here (row_at s.parts.resident object.0 p) ≡ false) → PagesDrop host object from s s
  NextHere : (from : ℕ) → (page : PageNo) → (row : PageRow) → (old mid new : FinishState) → from ≤ page.0
      → ((p : ℕ) → from ≤ p → p < page.0 → is_here (row_at old.parts.resident object.0 p) ≡ false)
      → row_at old.parts.resident object.0 page.0 ≡ Some row → IsDropped host (record { object = object; page = page }) row old mid
      → PagesDrop host object (suc page.0) mid new → PagesDrop host object from old new

-- a page that is asked is asked no more, and its frame is free
pub record IsCancelled (key : PageKey) (row : PageRow) (old new : FinishState) : Type 0 where
  pub away : row.here ≡ false
  pub page : Cancels key row old.parts new.parts
  pub rest : KeepsRest old new
  pub events : new.events ≡ old.events

-- these pages, which are asked, are asked no more, from one on, by rising number, until the object has no page left
pub data PagesCancel (object : ObjectId) : ℕ → List ℕ → FinishState → FinishState → Type 0 where
  NoneAsked : (from : ℕ) → (s : FinishState) → ((p : ℕ) → from ≤ p → row_at s.parts.resident object.0 p ≡ None) → PagesCancel object from [] s s
  NextAsked : (from : ℕ) → (page : PageNo) → (more : List ℕ) → (row : PageRow) → (old mid new : FinishState) → from ≤ page.0
      → ((p : ℕ) → from ≤ p → p < page.0 → row_at old.parts.resident object.0 p ≡ None)
      → row_at old.parts.resident object.0 page.0 ≡ Some row → IsCancelled (record { object = object; page = page }) row old mid
      → PagesCancel object (suc page.0) more mid new → PagesCancel object from (page.0 ∷ more) old new

-- its pages that are here are dropped, then those that are asked are asked no more, and then its control ends
pub record Destroys (host : HostId) (object : ObjectId) (known : ObjectRow) (old new : FinishState) : Type 0 where
  pub bare : FinishState
  pub clear : FinishState
  pub asked : List ℕ
  pub drops : PagesDrop host object 0 old bare
  pub cancels : PagesCancel object 0 asked bare clear
  pub ends : ControlEnds host object known clear new
