-- What a kernel stands for of its copy objects stays so while references are counted, regions go, objects end, and objects are merged.
use Rattle.std.proofs.Common.{Bool, List, None, Some, ap, arith, false, refl, subst, sym, ℕ, ◌<◌, ◌∙◌, ◌≡◌, ◌≤◌}
use Rattle.std.specs.Prelude.{IsSome}
use Rattle.vm_abroad.proofs.Home.{copy_made}
use Rattle.vm_abroad.specs.Home.{HaveHomes}
use Rattle.vm_base.specs.declared.ids.ObjectId.{ObjectId}
use Rattle.vm_copies.specs.Copies.{CopyTable, LeavesCopies, WasCopy, WasNone, copy_at}
use Rattle.vm_kernel.proofs.memory.CopiesKept.{copied_put}
use Rattle.vm_kernel.specs.Matches.{Copied, ObjectFacts}
use Rattle.vm_model.specs.Regions.{newest_copy, next_object}
use Rattle.vm_model.specs.declared.event.Event.{Event}
use Rattle.vm_model.specs.declared.script.Header.{Header}
use Rattle.vm_objects.specs.Objects.{ObjectTable, PutsObject, object_at}
use Rattle.vm_objects.specs.declared.row.ObjectRow.{ObjectRow}
use Rattle.vm_parts.specs.Merging.{PagesMerge}
use Rattle.vm_parts.specs.declared.parts.HostParts.{HostParts}
use Rattle.vm_shadow.specs.Chains.{ChainTable, DropsShadow, shadow_at}
use Rattle.vm_shadow.specs.declared.shadow_row.ShadowRow.{ShadowRow}
use Rattle.vm_state.proofs.CopyFits.{IsNoNewest, ended_none, fits_chains, fits_dropped, fits_ended, fits_new, fits_regions, plain_no_newest}
use Rattle.vm_state.proofs.CopyFits.{fits_joined, fits_merged, fits_put, unknown_uncopied}
use Rattle.vm_state.specs.Merging.{MergesObjects}
use Rattle.vm_state.proofs.CopyObjects.{copies_ended, copies_new, copies_put}
use Rattle.vm_terminate.specs.Finishes.{IsReferred}

module _ {copies : CopyTable} {memory : HostParts} {chains chains2 : ChainTable} {s : ObjectFacts} {pushed : ℕ → ℕ → Bool} where
  -- regions change, and all that stands on something stands on that still
  pub copied_regions : shadow_at chains2 ≡ shadow_at chains → Copied copies memory chains s pushed → Copied copies memory chains2 s pushed
  copied_regions same was = record { known = was.known; fits = fits_regions same was.fits }

  -- the same, object by object
  pub copied_chains : ((o : ℕ) → shadow_at chains2 o ≡ shadow_at chains o) → Copied copies memory chains s pushed → Copied copies memory chains2 s pushed
  copied_chains same was = record { known = was.known; fits = fits_chains (λ s c is. same c.0) was.fits }

  -- an object that is no newest copy stands on nothing any more
  pub copied_dropped : (o : ℕ) → DropsShadow o chains chains2 → IsNoNewest copies o → Copied copies memory chains s pushed
      → Copied copies memory chains2 s pushed
  copied_dropped o drops none was = record { known = was.known; fits = fits_dropped o drops none was.fits }

-- an object has a reference more or less, of those that it had
pub copied_referred : {copies : CopyTable} {memory : HostParts} {chains : ChainTable} {s : ObjectFacts} {pushed : ℕ → ℕ → Bool} (o count : ℕ) (row : ObjectRow)
    (os2 : ObjectTable) → object_at memory.objects o ≡ Some row → PutsObject o (Some (record row { references = count })) memory.objects os2
    → (0 < count → 0 < row.references) → Copied copies memory chains s pushed
    → Copied copies (record memory { objects = os2 }) chains s pushed
copied_referred o count row os2 found put some was =
    copied_put o row (record row { references = count }) os2 found put refl (λ more. record { row = row; known = found; some = some more }) was

-- one more object is known that is no copy, and a region over it
pub copied_made : {copies : CopyTable} {memory : HostParts} {chains chains2 : ChainTable} {s : ObjectFacts} {pushed : ℕ → ℕ → Bool} (o : ℕ)
    (new : ObjectRow) (os2 : ObjectTable) → object_at memory.objects o ≡ None → PutsObject o (Some new) memory.objects os2
    → shadow_at chains2 ≡ shadow_at chains → s.copy o ≡ false → ((f : ℕ) → s.newest f ≡ Some o → ⊥)
    → ((c : ℕ) (row : ShadowRow) → shadow_at chains c ≡ Some row → IsSome (object_at memory.objects row.under.0))
    → Copied copies memory chains s pushed → Copied copies (record memory { objects = os2 }) chains2 s pushed
copied_made o new os2 none put same plain bare under was =
    record {
      known = copies_new o new _ os2 put plain bare was.known;
      fits = fits_regions same (fits_new o new none (unknown_uncopied o was.fits under none) put refl was.fits);
    }

-- what isn't made yet is no file's newest copy
pub made_no_newest : (header : Header) (o : ℕ) (past : List Event) → HaveHomes header past → next_object header past ≤ o
    → (f : ℕ) → newest_copy f past ≡ Some o → ⊥
made_no_newest header o past homes high f is = let low = copy_made header f o past homes is in omega (arith, low, high)

-- an object ends to which nothing refers: it is one copy object less, or was none
pub copied_ended : {copies copies2 : CopyTable} {memory : HostParts} {chains : ChainTable} {s : ObjectFacts} {pushed : ℕ → ℕ → Bool} (o : ℕ)
    → LeavesCopies o copies copies2 → (IsReferred memory.objects o → ⊥) → Copied copies memory chains s pushed → Copied copies2 memory chains s pushed
copied_ended o (WasCopy row ends living) none was = record { known = copies_ended o row ends none was.known; fits = fits_ended ends was.fits }
copied_ended {memory = memory} {chains = chains} {s = s} {pushed = pushed} o (WasNone plain same) none was =
    subst (λ (z : CopyTable). Copied z memory chains s pushed) (sym same) was

-- and it is no newest copy behind that
pub ended_no_newest : {copies copies2 : CopyTable} {memory : HostParts} {chains : ChainTable} {s : ObjectFacts} {pushed : ℕ → ℕ → Bool} (o : ℕ)
    → LeavesCopies o copies copies2 → Copied copies memory chains s pushed → IsNoNewest copies2 o
ended_no_newest o (WasCopy row ends living) was = ended_none was.fits.living ends
ended_no_newest o (WasNone plain same) was =
    subst (λ (z : CopyTable). IsNoNewest z o) (sym same) (plain_no_newest o was.fits.living plain)

-- what a merge does to the pages, the chains and the objects, where neither object is a copy object
pub copied_merged : {copies : CopyTable} {memory moved : HostParts} {chains chains2 : ChainTable} {s : ObjectFacts} {pushed : ℕ → ℕ → Bool}
    (upper lower : ObjectId) (os2 : ObjectTable) (merges : MergesObjects upper.0 lower.0 chains chains2 copies memory.objects os2)
    → PagesMerge upper lower merges.can.link.shift merges.can.upper_row.pages 0 memory moved → moved.objects ≡ memory.objects
    → copy_at copies upper.0 ≡ None → Copied copies memory chains s pushed → Copied copies (record moved { objects = os2 }) chains2 s pushed
copied_merged {copies = copies} {memory = memory} {moved = moved} {chains2 = chains2} upper lower os2 merges pages same plain was =
    let living = was.fits.living in
    let joined = fits_joined upper.0 lower.0 merges.can.link merges.chain (plain_no_newest upper.0 living plain)
    (plain_no_newest lower.0 living merges.can.plain) was.fits in
    let gone : ObjectRow = record merges.can.lower_row { references = 0 } in
    record {
      known = copies_put lower.0 gone memory.objects os2 merges.object (λ some. absurd (omega (arith, some))) was.known;
      fits =
          fits_put lower.0 merges.can.lower_row gone (ap (λ (z : ObjectTable). object_at z lower.0) same ∙ merges.can.lower_known) refl
          (subst (λ (z : ObjectTable). PutsObject lower.0 (Some gone) z os2) (sym same) merges.object) refl
          (fits_merged upper lower merges.can.link.shift merges.can.upper_row.pages 0 memory moved plain pages joined);
    }
