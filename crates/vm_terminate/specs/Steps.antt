-- The steps of an object's end, as its calls take them.
use Rattle.std.specs.Prelude.{ℕ, ◌<◌, ◌≤◌, ◌≡◌, true, List, Option, Some, None}
use Rattle.vm_base.specs.declared.ids.FrameNo.{FrameNo}
use Rattle.vm_base.specs.declared.ids.ObjectId.{ObjectId}
use Rattle.vm_copies.specs.Copies.{CopyTable}
use Rattle.vm_model.specs.declared.event.Event.{Event}
use Rattle.vm_objects.specs.declared.row.ObjectRow.{ObjectRow}
use Rattle.vm_parts.specs.Changes.{is_here}
use Rattle.vm_parts.specs.declared.parts.HostParts.{HostParts}
use Rattle.vm_resident.specs.Resident.{ResidentTable, row_at}
use Rattle.vm_resident.specs.declared.page_row.PageRow.{PageRow}
use Rattle.vm_shadow.specs.Chains.{ChainTable, IsRanked, shadow_at}
use Rattle.vm_shadow.specs.declared.shadow_row.ShadowRow.{ShadowRow}
use Rattle.vm_terminate.specs.Finishes.{FinishState, LosesUnder}

abbrev pub finish_state : HostParts → ChainTable → CopyTable → List FrameNo → ℕ → List Event → FinishState
finish_state parts chains copies held room events =
    record { parts = parts; chains = chains; copies = copies; held = held; room = room; events = events }

-- no page of an object is asked
abbrev pub AllHere : ResidentTable → ℕ → Type 0
AllHere table o = (p : ℕ) (page : PageRow) → row_at table o p ≡ Some page → page.here ≡ true

-- no page of an object is here, from one on
abbrev pub NoneHereFrom : ResidentTable → ℕ → ℕ → Type 0
NoneHereFrom table o n = (p : ℕ) → n ≤ p → is_here (row_at table o p) ≡ true → ⊥

-- What becomes of what stood under an object that has ended: nothing was there; or it stays, since something else refers to it; or it ends too, and as
-- each chain ends, so does that.
pub data LeavesUnder (object : ObjectId) (next : Option ObjectId) (old new : FinishState) : Type 0 where
  Nothing : next ≡ None → shadow_at old.chains object.0 ≡ None → new ≡ old → LeavesUnder object next old new
  Stays : (row : ShadowRow) → (known : ObjectRow) → (left : ℕ) → next ≡ None → LosesUnder object row known left old new → 0 < left
      → LeavesUnder object next old new
  Ends : (row : ShadowRow) → (known : ObjectRow) → next ≡ Some row.under → LosesUnder object row known 0 old new → IsRanked old.chains
      → LeavesUnder object next old new
