-- What a kernel stands for of its copy objects stays so while pagers answer, and while declared objects come to be known otherwise.
use Rattle.std.proofs.Common.{◌≡◌, ◌∙◌, ◌<◌, ℕ, Bool, List, None, Option, Some, ap, arith, false, refl, sym, true}
use Rattle.vm_abroad.proofs.Home.{copy_temporary}
use Rattle.vm_abroad.specs.Home.{HaveHomes}
use Rattle.vm_copies.specs.Copies.{CopyRow, CopyTable, copy_at}
use Rattle.vm_fault.specs.Pushes.{CopiesFit}
use Rattle.vm_kernel.specs.Matches.{Copied, ObjectFacts, Objects, object_facts}
use Rattle.vm_model.specs.Named.{named}
use Rattle.vm_model.specs.Regions.{newest_copy}
use Rattle.vm_model.specs.declared.event.Event.{Event}
use Rattle.vm_model.specs.declared.script.Header.{Header}
use Rattle.vm_objects.specs.Objects.{ObjectTable, PutsObject, SameObjects, object_at}
use Rattle.vm_objects.specs.declared.row.ObjectRow.{ObjectRow}
use Rattle.vm_parts.proofs.Rows.{some_is}
use Rattle.vm_parts.specs.Changes.{is_here}
use Rattle.vm_parts.specs.declared.parts.HostParts.{HostParts}
use Rattle.vm_resident.specs.Resident.{PutsRow, ResidentTable}
use Rattle.vm_resident.specs.declared.page_row.PageRow.{PageRow}
use Rattle.vm_shadow.specs.Chains.{ChainTable, shadow_at}
use Rattle.vm_shadow.specs.declared.ids.Ids.{Ids}
use Rattle.vm_state.proofs.CopyFits.{HasHad, MayBeHere, OfNone, fits_gone, fits_new, fits_put, fits_regions, fits_row, unknown_uncopied}
use Rattle.vm_state.proofs.CopyObjects.{copies_new, copies_same}

module _ {copies : CopyTable} {memory : HostParts} {chains : ChainTable} {s : ObjectFacts} {pushed : ℕ → ℕ → Bool}
    (was : Copied copies memory chains s pushed) where
  -- a page may come to a place of a copy object into which it was copied up, and to each of another object
  pub may_come : (resident : ResidentTable) (o p : ℕ) → (s.copy o ≡ true → pushed o p ≡ true) → MayBeHere copies resident o p
  may_come resident o p before = by (copy_at copies o) refl
    where
      by : (x : Option CopyRow) → copy_at copies o ≡ x → MayBeHere copies resident o p
      by None none = OfNone none
      by (Some row) found = HasHad (was.known.had o row found p ∙ before (was.known.copy o row found))

  -- it comes
  pub copied_came : {memory2 : HostParts} (o p : ℕ) (now : Option PageRow) → SameObjects memory.objects memory2.objects
      → PutsRow o p now memory.resident memory2.resident → MayBeHere copies memory.resident o p → Copied copies memory2 chains s pushed
  copied_came o p now same put may = record {
    known = copies_same same was.known;
    fits = fits_row o p now same put (λ page is here. may) was.fits;
  }

  -- it has another row, and isn't here
  pub copied_away : {memory2 : HostParts} (o p : ℕ) (now : Option PageRow) → SameObjects memory.objects memory2.objects
      → PutsRow o p now memory.resident memory2.resident → is_here now ≡ false → Copied copies memory2 chains s pushed
  copied_away o p now same put away = record {
    known = copies_same same was.known;
    fits = fits_row o p now same put (λ page is here. absurd (let bad : false ≡ true = sym away ∙ (ap is_here is ∙ here) in cc)) was.fits;
  }

  -- it has none any more
  pub copied_gone : {memory2 : HostParts} (o p : ℕ) → SameObjects memory.objects memory2.objects → PutsRow o p None memory.resident memory2.resident
      → Copied copies memory2 chains s pushed
  copied_gone o p same put = record { known = copies_same same was.known; fits = fits_gone o p same put was.fits }

-- a declared object is known otherwise, or for the first time, and its region may have been made
pub copied_declared : {header : Header} {h : ℕ} {copies : CopyTable} {memory : HostParts} {chains chains2 : ChainTable} {ids : Ids}
    {pushed : ℕ → ℕ → Bool} (past : List Event) (o : ℕ) (new : ObjectRow) (os2 : ObjectTable) → o < named header → HaveHomes header past
    → Objects header h chains memory.objects ids (object_facts header past)
    → ((row : ObjectRow) → object_at memory.objects o ≡ Some row → new.pages ≡ row.pages) → PutsObject o (Some new) memory.objects os2
    → shadow_at chains2 ≡ shadow_at chains → Copied copies memory chains (object_facts header past) pushed
    → Copied copies (record memory { objects = os2 }) chains2 (object_facts header past) pushed
copied_declared {header = header} {copies = copies} {memory = memory} {chains = chains} past o new os2 declared homes objects pages put shadows was =
    record {
      known = copies_new o new memory.objects os2 put (objects.undelayed o declared).copy unmade was.known;
      fits = fits_regions shadows (by (object_at memory.objects o) refl);
    }
  where
    unmade : (file : ℕ) → newest_copy file past ≡ Some o → ⊥
    unmade file is = let least = copy_temporary header file o past homes is in omega (arith, least, declared)

    by : (x : Option ObjectRow) → object_at memory.objects o ≡ x → CopiesFit copies (record memory { objects = os2 }) chains
    by None none =
        fits_new o new none (unknown_uncopied o was.fits (λ x row found. (objects.regions.unders x row found).1) none) put refl was.fits
    by (Some row) found = fits_put o row new found (pages row found) put refl was.fits

-- a declared object is known otherwise, as long as it was
pub copied_put_declared : {header : Header} {h : ℕ} {copies : CopyTable} {memory : HostParts} {chains : ChainTable} {ids : Ids}
    {pushed : ℕ → ℕ → Bool} (past : List Event) (o : ℕ) (row new : ObjectRow) (os2 : ObjectTable) → o < named header → HaveHomes header past
    → Objects header h chains memory.objects ids (object_facts header past) → object_at memory.objects o ≡ Some row → new.pages ≡ row.pages
    → PutsObject o (Some new) memory.objects os2 → Copied copies memory chains (object_facts header past) pushed
    → Copied copies (record memory { objects = os2 }) chains (object_facts header past) pushed
copied_put_declared past o row new os2 declared homes objects found pages put was =
    copied_declared past o new os2 declared homes objects (λ other is. pages ∙ ap (λ (z : ObjectRow). z.pages) (some_is row other (sym found ∙ is))) put refl
    was
