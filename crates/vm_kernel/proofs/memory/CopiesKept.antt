-- What a kernel stands for of its copy objects stays so while pages, objects and chains change.
use Rattle.vm_kernel.proofs.Common.{Bool, ChainTable, HostParts, ObjectRow, ObjectTable, PageRow, PutsObject}
use Rattle.vm_kernel.proofs.Common.{SameObjects, Some, object_at, refl, row_at, true, ℕ, ◌<◌, ◌≡◌}
use Rattle.vm_copies.specs.Copies.{CopyTable}
use Rattle.vm_kernel.specs.Matches.{Copied, ObjectFacts}
use Rattle.vm_state.proofs.CopyFits.{MayBeHere, fits_pages, fits_put, fits_same}
use Rattle.vm_state.proofs.CopyObjects.{copies_put, copies_same}
use Rattle.vm_terminate.specs.Finishes.{IsReferred}

module _ {copies : CopyTable} {memory memory2 : HostParts} {chains : ChainTable} {s : ObjectFacts} {pushed : ℕ → ℕ → Bool} where
  -- pages have other rows, and each that is here now was, or its object is no copy, or has had it
  pub copied_pages : SameObjects memory.objects memory2.objects
      → ((o p : ℕ) (page : PageRow) → row_at memory2.resident o p ≡ Some page → page.here ≡ true → MayBeHere copies memory.resident o p)
      → Copied copies memory chains s pushed → Copied copies memory2 chains s pushed
  copied_pages same may was = record { known = copies_same same was.known; fits = fits_pages same may was.fits }

  -- no page changes, nor is an object known otherwise
  pub copied_same : SameObjects memory.objects memory2.objects → memory2.resident ≡ memory.resident
      → Copied copies memory chains s pushed → Copied copies memory2 chains s pushed
  copied_same same rows was = record { known = copies_same same was.known; fits = fits_same same rows was.fits }

-- an object is known otherwise: as long as it was, and only then with references where it had some
pub copied_put : {copies : CopyTable} {memory : HostParts} {chains : ChainTable} {s : ObjectFacts} {pushed : ℕ → ℕ → Bool} (o : ℕ) (row new : ObjectRow)
    (os2 : ObjectTable) → object_at memory.objects o ≡ Some row → PutsObject o (Some new) memory.objects os2 → new.pages ≡ row.pages
    → (0 < new.references → IsReferred memory.objects o)
    → Copied copies memory chains s pushed → Copied copies (record memory { objects = os2 }) chains s pushed
copied_put o row new os2 found put pages referred was =
    record { known = copies_put o new _ os2 put referred was.known; fits = fits_put o row new found pages put refl was.fits }
