-- Which objects of a host can be merged, and what a merge changes.
use Rattle.std.specs.Prelude.{ℕ, ◌≡◌, ◌≤◌, List, ◌∷◌, Contains, Some, None}
use Rattle.vm_base.specs.declared.ids.ObjectId.{ObjectId}
use Rattle.vm_copies.specs.Copies.{CopyTable, copy_at}
use Rattle.vm_model.specs.declared.event.Event.{Event}
use Rattle.vm_model.specs.declared.event.Event.TheVariants as event
use Rattle.vm_objects.specs.Objects.{ObjectTable, PutsObject, SameMarks, object_at}
use Rattle.vm_objects.specs.declared.row.ObjectRow.{ObjectRow}
use Rattle.vm_parts.specs.Fits.{Fit}
use Rattle.vm_parts.specs.Merging.{PagesMerge}
use Rattle.vm_parts.specs.declared.parts.HostParts.{HostParts}
use Rattle.vm_shadow.specs.Chains.{ChainTable, MergesShadow, shadow_at}
use Rattle.vm_shadow.specs.declared.shadow_row.ShadowRow.{ShadowRow}

-- an object that is no copy object can be merged into the shadow over it that is its one reference, where neither ever had a control
pub record CanMerge (copies : CopyTable) (chains : ChainTable) (objects : ObjectTable) (upper lower : ℕ) : Type 0 where
  pub link : ShadowRow
  pub over : shadow_at chains upper ≡ Some link
  pub under : link.under.0 ≡ lower
  pub upper_row : ObjectRow
  pub upper_known : object_at objects upper ≡ Some upper_row
  pub lower_row : ObjectRow
  pub lower_known : object_at objects lower ≡ Some lower_row
  pub sole : lower_row.references ≡ 1
  pub upper_never : upper_row.control ≡ 0
  pub lower_never : lower_row.control ≡ 0
  pub plain : copy_at copies lower ≡ None

-- no object can be merged into a shadow but these
abbrev pub IsThinBut : CopyTable → List ObjectId → ChainTable → ObjectTable → Type 0
IsThinBut copies lowers chains objects =
    (upper lower : ℕ) → CanMerge copies chains objects upper lower → Contains lowers (record { 0 = lower })

-- no object can
abbrev pub IsThin : CopyTable → ChainTable → ObjectTable → Type 0
IsThin copies chains objects = (upper lower : ℕ) → CanMerge copies chains objects upper lower → ⊥

-- what a merge may change, the parts of the host, its chains, and the events so far, and the copy objects, which stay as they are
pub record MergeState : Type 0 where
  pub parts : HostParts
  pub chains : ChainTable
  pub copies : CopyTable
  pub events : List Event

-- An object is merged into its shadow, and none with a lower number can be: its pages go up or go, what stood under it stands under the shadow, nothing refers
-- to it any more, and that is told.
pub record MergesInto (upper lower : ObjectId) (old new : MergeState) : Type 0 where
  pub can : CanMerge old.copies old.chains old.parts.objects upper.0 lower.0
  pub least : (u l : ℕ) → CanMerge old.copies old.chains old.parts.objects u l → lower.0 ≤ l
  pub moved : HostParts
  pub pages : PagesMerge upper lower can.link.shift can.upper_row.pages 0 old.parts moved
  pub same : moved.objects ≡ old.parts.objects
  pub chain : MergesShadow upper.0 lower.0 can.link old.chains new.chains
  pub copied : new.copies ≡ old.copies
  pub object : PutsObject lower.0 (Some (record can.lower_row { references = 0 })) old.parts.objects new.parts.objects
  pub marks : SameMarks old.parts.objects new.parts.objects
  pub rest : new.parts ≡ record moved { objects = new.parts.objects }
  pub told : new.events ≡ event.Merged upper lower ∷ old.events

-- objects are merged, one at a time, until none can be; the parts fit each other all the time
pub data MergeInTurn : MergeState → MergeState → Type 0 where
  NoneLeft : (s : MergeState) → IsThin s.copies s.chains s.parts.objects → MergeInTurn s s
  OneFirst : (upper lower : ObjectId) → (old mid new : MergeState) → MergesInto upper lower old mid → Fit mid.parts
      → mid.parts.buffers ≡ old.parts.buffers → MergeInTurn mid new → MergeInTurn old new
