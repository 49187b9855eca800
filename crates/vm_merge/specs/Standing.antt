-- What the merges of a host stand on.
use Rattle.std.specs.Prelude.{ℕ, ◌≡◌, ◌+◌, ◌<◌, ◌≤◌, ◌^◌, List, Some}
use Rattle.vm_copies.specs.Copies.{CopyTable}
use Rattle.vm_merge.specs.Merges.{CanMerge, MergeState}
use Rattle.vm_model.specs.declared.event.Event.{Event}
use Rattle.vm_objects.specs.Objects.{ObjectTable, object_at}
use Rattle.vm_objects.specs.declared.row.ObjectRow.{ObjectRow}
use Rattle.vm_parts.specs.Fits.{Fit, object_pages}
use Rattle.vm_parts.specs.Merging.{NoneAsked}
use Rattle.vm_parts.specs.declared.parts.HostParts.{HostParts}
use Rattle.vm_shadow.specs.Chains.{ChainTable, IsOnlyShadow, shadow_at}
use Rattle.vm_shadow.specs.declared.shadow_row.ShadowRow.{ShadowRow}

abbrev pub merge_state : HostParts → ChainTable → CopyTable → List Event → MergeState
merge_state parts chains copies events = record { parts = parts; chains = chains; copies = copies; events = events }

-- the references of an object that can be merged count what is over it: the shadow is the one
abbrev pub CountsFit : CopyTable → ChainTable → ObjectTable → Type 0
CountsFit copies chains objects = (upper lower : ℕ) → CanMerge copies chains objects upper lower → IsOnlyShadow upper lower chains

-- each shadow lies within the pages of what is under it
abbrev pub ShadowsFit : ChainTable → ObjectTable → Type 0
ShadowsFit chains objects =
    (o : ℕ) (row : ShadowRow) → shadow_at chains o ≡ Some row → row.shift + object_pages objects o ≤ object_pages objects row.under.0

-- The parts fit, no page is asked of an object that never had a control, no object has more than so many pages, which 32 bits can count, and the chains are
-- as the objects have it.
pub record MayMerge (pages : ℕ) (parts : HostParts) (chains : ChainTable) (copies : CopyTable) : Type 0 where
  pub fit : Fit parts
  pub here : (o : ℕ) (known : ObjectRow) → object_at parts.objects o ≡ Some known → known.control ≡ 0 → NoneAsked parts o
  pub most : (o : ℕ) → object_pages parts.objects o ≤ pages
  pub few : pages < 2 ^ 32
  pub shadows : ShadowsFit chains parts.objects
  pub counts : CountsFit copies chains parts.objects
