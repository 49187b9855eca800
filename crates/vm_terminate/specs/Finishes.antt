-- What the end of a memory object on a host changes: its pages, its control, and what stood under it.
use Rattle.std.specs.Prelude.{ℕ, suc, ◌≡◌, ◌≢◌, ◌+◌, ◌<◌, ◌≤◌, ◌⊎◌, ◌||◌, true, false, List, [], ◌∷◌, ◌++◌, length, Option, Some, None}
use Rattle.vm_base.specs.declared.ids.FrameNo.{FrameNo}
use Rattle.vm_base.specs.declared.ids.HostId.{HostId}
use Rattle.vm_base.specs.declared.ids.ObjectId.{ObjectId}
use Rattle.vm_base.specs.declared.ids.ObjectKind.TheVariants.{Temp}
use Rattle.vm_base.specs.declared.ids.PageKey.{PageKey}
use Rattle.vm_base.specs.declared.ids.PageNo.{PageNo}
use Rattle.vm_copies.specs.Copies.{CopyTable, LeavesCopies}
use Rattle.vm_frames.specs.Frames.{page_in}
use Rattle.vm_model.specs.declared.event.Event.{Event}
use Rattle.vm_model.specs.declared.event.Event.TheVariants as event
use Rattle.vm_model.specs.declared.message.Channel.TheVariants.{Up}
use Rattle.vm_model.specs.declared.message.Message.TheVariants as message
use Rattle.vm_objects.specs.Objects.{ObjectTable, PutsAbsent, PutsObject, SameMarks, SameObjects, object_at}
use Rattle.vm_objects.specs.declared.row.ObjectRow.{ObjectRow}
use Rattle.vm_objects.specs.declared.row.PagerState.TheVariants as state
use Rattle.vm_parts.specs.Changes.{Discards, Removes}
use Rattle.vm_parts.specs.Fits.{Fit}
use Rattle.vm_parts.specs.declared.parts.HostParts.{HostParts}
use Rattle.vm_resident.specs.Resident.{row_at}
use Rattle.vm_resident.specs.declared.page_row.PageRow.{PageRow}
use Rattle.vm_shadow.specs.Chains.{ChainTable, DropsShadow, shadow_at}
use Rattle.vm_shadow.specs.declared.shadow_row.ShadowRow.{ShadowRow}

-- what an object's end may change: the parts of the host, its chains, its copy objects, the frames that are held for returns and the room for more, and the
-- events so far
pub record FinishState : Type 0 where
  pub parts : HostParts
  pub chains : ChainTable
  pub copies : CopyTable
  pub held : List FrameNo
  pub room : ℕ
  pub events : List Event

-- the object itself, or one under it to which nothing else refers, and so on
pub data EndsWith (chains : ChainTable) (objects : ObjectTable) (object : ℕ) : ℕ → Type 0 where
  Itself : EndsWith chains objects object object
  Further : (o : ℕ) → (row : ShadowRow) → (known : ObjectRow) → EndsWith chains objects object o → shadow_at chains o ≡ Some row
      → object_at objects row.under.0 ≡ Some known
      → known.references ≡ 1 → EndsWith chains objects object row.under.0

-- an object is known, and something refers to it
pub record IsReferred (objects : ObjectTable) (o : ℕ) : Type 0 where
  pub row : ObjectRow
  pub known : object_at objects o ≡ Some row
  pub some : 0 < row.references

-- An object to which nothing refers can end: what stands under an object that ends is referred to, no page of one that ends is asked, and there is room for
-- the frame of each page that is here.
pub record CanFinish (s : FinishState) (object : ℕ) : Type 0 where
  pub fit : Fit s.parts
  pub row : ObjectRow
  pub known : object_at s.parts.objects object ≡ Some row
  pub none : row.references ≡ 0
  pub under : (o : ℕ) (shadow : ShadowRow) → EndsWith s.chains s.parts.objects object o → shadow_at s.chains o ≡ Some shadow
      → IsReferred s.parts.objects shadow.under.0
  pub here : (o p : ℕ) (page : PageRow) → EndsWith s.chains s.parts.objects object o → row_at s.parts.resident o p ≡ Some page → page.here ≡ true
  pub room : length s.parts.queues.active + length s.parts.queues.inactive ≤ s.room

-- a page that is here leaves an object that ends: of a declared object a changed or precious one goes to the pager, without a copy, and its frame is held;
-- each other is dropped
pub data PageLeaves (host : HostId) (key : PageKey) (known : ObjectRow) (row : PageRow) (old new : FinishState) : Type 0 where
  IsDropped : (known.kind ≡ Temp) ⊎ ((row.dirty || row.precious) ≡ false) → Discards key row old.parts new.parts → new.parts.objects ≡ old.parts.objects
      → new.held ≡ old.held → new.room ≡ old.room
      → new.events ≡ event.Dropped host key.object key.page ∷ old.events → PageLeaves host key known row old new
  GoesBack : known.kind ≢ Temp → (row.dirty || row.precious) ≡ true → Removes key row old.parts new.parts → SameObjects old.parts.objects new.parts.objects
      → PutsAbsent key.object.0 key.page.0 false old.parts.objects new.parts.objects → new.held ≡ old.held ++ row.frame ∷ [] → new.room + 1 ≡ old.room
      → new.events ≡ event.Sent (Up host key.object) (message.Return known.control key.page row.dirty false (page_in old.parts.frames row.frame.0)) ∷ old.events
      → PageLeaves host key known row old new

-- its pages leave from one on, by rising number, until none is left
pub data PagesLeave (host : HostId) (object : ObjectId) (known : ObjectRow) : ℕ → FinishState → FinishState → Type 0 where
  NoMore : (from : ℕ) → (s : FinishState) → ((p : ℕ) → from ≤ p → row_at s.parts.resident object.0 p ≡ None) → PagesLeave host object known from s s
  Next : (from : ℕ) → (page : PageNo) → (row : PageRow) → (old mid new : FinishState) → from ≤ page.0
      → ((p : ℕ) → from ≤ p → p < page.0 → row_at old.parts.resident object.0 p ≡ None)
      → row_at old.parts.resident object.0 page.0 ≡ Some row → row.here ≡ true → mid.chains ≡ old.chains → mid.copies ≡ old.copies
      → PageLeaves host (record { object = object; page = page }) known row old mid
      → PagesLeave host object known (suc page.0) mid new → PagesLeave host object known from old new

-- nothing but what is known of objects, and the events, has changed
pub record KeepsPages (old new : FinishState) : Type 0 where
  pub is : new ≡ record old { parts = record old.parts { objects = new.parts.objects }; events = new.events }
  pub marks : SameMarks old.parts.objects new.parts.objects

-- its control ends, where it has one, and the pager is told
pub data ControlEnds (host : HostId) (object : ObjectId) (known : ObjectRow) (old new : FinishState) : Type 0 where
  NoControl : known.live ≡ false → new ≡ old → ControlEnds host object known old new
  IsTold : known.live ≡ true → KeepsPages old new → PutsObject object.0 (Some (record known { live = false; state = state.Without })) old.parts.objects
      new.parts.objects
      → new.events ≡ event.Sent (Up host object) (message.Terminate known.control) ∷ old.events → ControlEnds host object known old new

-- its shadow goes, and what stood under it has one reference less
pub record LosesUnder (object : ObjectId) (row : ShadowRow) (known : ObjectRow) (left : ℕ) (old new : FinishState) : Type 0 where
  pub found : shadow_at old.chains object.0 ≡ Some row
  pub chains : DropsShadow object.0 old.chains new.chains
  pub under : object_at old.parts.objects row.under.0 ≡ Some known
  pub less : left + 1 ≡ known.references
  pub objects : PutsObject row.under.0 (Some (record known { references = left })) old.parts.objects new.parts.objects
  pub marks : SameMarks old.parts.objects new.parts.objects
  pub rest : new ≡ record old { parts = record old.parts { objects = new.parts.objects }; chains = new.chains }

-- an object ends, and with it each one under it that loses its last reference by that; a copy object is one no more
pub data Finishes (host : HostId) : ObjectId → FinishState → FinishState → Type 0 where
  Alone : (object : ObjectId) → (known : ObjectRow) → (old bare quiet new : FinishState) → object_at old.parts.objects object.0 ≡ Some known
      → PagesLeave host object known 0 old bare
      → ControlEnds host object known bare quiet → LeavesCopies object.0 quiet.copies new.copies → new ≡ record quiet { copies = new.copies }
      → shadow_at new.chains object.0 ≡ None → Finishes host object old new
  OverOne : (object : ObjectId) → (known under : ObjectRow) → (row : ShadowRow) → (left : ℕ) → (old bare quiet silent new : FinishState)
      → object_at old.parts.objects object.0 ≡ Some known
      → PagesLeave host object known 0 old bare
      → ControlEnds host object known bare quiet → LeavesCopies object.0 quiet.copies silent.copies → silent ≡ record quiet { copies = silent.copies }
      → LosesUnder object row under left silent new → 0 < left
      → Finishes host object old new
  Downward : (object : ObjectId) → (known under : ObjectRow) → (row : ShadowRow) → (old bare quiet silent next new : FinishState)
      → object_at old.parts.objects object.0 ≡ Some known
      → PagesLeave host object known 0 old bare
      → ControlEnds host object known bare quiet → LeavesCopies object.0 quiet.copies silent.copies → silent ≡ record quiet { copies = silent.copies }
      → LosesUnder object row under 0 silent next
      → Finishes host row.under next new → Finishes host object old new

-- the object that lost a reference by these ends and has some left; None where they came to the bottom
abbrev pub left_of : {host : HostId} → {object : ObjectId} → {old new : FinishState} → Finishes host object old new → Option ObjectId
left_of (Alone object known old bare quiet new found pages control copies rest bottom) = None
left_of (OverOne object known under row left old bare quiet silent new found pages control copies rest loses some) = Some row.under
left_of (Downward object known under row old bare quiet silent next new found pages control copies rest loses more) = left_of more
