-- The place to which a store owes the page that it is about to change.
use Rattle.std.proofs.Common.{◌≡◌, ℕ, ◌<◌, Bool, true, false, Option, Some, None, List, refl, ap, sym, ◌∙◌, subst, inl, inr, arith}
use Rattle.std.proofs.lemmas.Bool.{false≢true}
use Rattle.std.proofs.lemmas.Option.{MatchOption-at_some}
use Rattle.std.specs.Prelude.{IfSome, IsSome, if◌then◌else◌, slice_set}
use Rattle.vm_base.specs.declared.ids.FrameNo.{FrameNo}
use Rattle.vm_base.specs.declared.ids.ObjectId.{ObjectId}
use Rattle.vm_base.specs.declared.ids.PageKey.{PageKey}
use Rattle.vm_base.specs.declared.ids.PageNo.{PageNo}
use Rattle.vm_copies.specs.Copies.{CopyRow, CopyTable, IsCopyOf, PutsCopy, PutsHad, copy_at, had_at, newest_at}
use Rattle.vm_fault.specs.Pushes.{CopiesFit, Notes, OfCopy, owed_at, owed_of}
use Rattle.vm_fault.specs.Stops.{IsHere}
use Rattle.vm_parts.specs.Changes.{RaisesPage}
use Rattle.vm_parts.specs.Fits.{object_pages}
use Rattle.vm_parts.specs.declared.parts.HostParts.{HostParts}
use Rattle.vm_parts.proofs.Rows.{row_cases, some_is, stood}
use Rattle.vm_resident.specs.Resident.{row_at}
use Rattle.vm_resident.specs.declared.page_row.PageRow.{PageRow}
use Rattle.vm_shadow.specs.Chains.{ChainTable}

-- the place is that page of the newest copy object, which hasn't had it
record IsOwed (copies : CopyTable) (page : PageNo) (newest : Option ObjectId) (place : PageKey) : Type 0 where
  pub object : newest ≡ Some place.object
  pub same : page ≡ place.page
  pub lacks : had_at copies place.object.0 place.page.0 ≡ false

owed_is : (copies : CopyTable) (page : PageNo) (newest : Option ObjectId) (place : PageKey) → owed_of copies page newest ≡ Some place
    → IsOwed copies page newest place
owed_is copies page None place is = cc
owed_is copies page (Some copy) place is = by (had_at copies copy.0 page.0) refl is
  where
    by : (had : Bool) → had_at copies copy.0 page.0 ≡ had → (if had then None else Some (record { object = copy; page = page })) ≡ Some place
        → IsOwed copies page (Some copy) place
    by true had is = cc
    by false had is =
        let same = some_is (record { object = copy; page = page }) place is in
        record {
          object = ap (λ (z : PageKey). Some z.object) same;
          same = ap (λ (z : PageKey). z.page) same;
          lacks = subst (λ (z : PageKey). had_at copies z.object.0 z.page.0 ≡ false) same had;
        }

-- what is known of the place, and that a page there is asked
pub record Owes (copies : CopyTable) (parts : HostParts) (place : PageKey) : Type 0 where
  pub row : CopyRow
  pub found : copy_at copies place.object.0 ≡ Some row
  pub inside : place.page.0 < object_pages parts.objects place.object.0
  pub within : place.page.0 < row.pages
  pub away : (asked : PageRow) → row_at parts.resident place.object.0 place.page.0 ≡ Some asked → asked.here ≡ false

copy_there : (copies : CopyTable) (c s : ℕ) (x : Option CopyRow) → copy_at copies c ≡ x → IsCopyOf s x → (row : CopyRow) × (copy_at copies c ≡ Some row)
copy_there copies c s None is of = absurd of
copy_there copies c s (Some row) is of = (row, is)

pub owes : (copies : CopyTable) (parts : HostParts) (chains : ChainTable) (top place : PageKey) → CopiesFit copies parts chains
    → owed_at copies top ≡ Some place → top.page.0 < object_pages parts.objects top.object.0 → Owes copies parts place
owes copies parts chains top place fit owed less =
    let is = owed_is copies top.page (newest_at copies top.object.0) place owed in
    let stands = fit.stands top.object.0 place.object is.object in
    let of = MatchOption-at_some _ (λ (c : ObjectId). IsCopyOf top.object.0 (copy_at copies c.0)) place.object is.object (fit.living.at top.object.0) in
    let there = copy_there copies place.object.0 top.object.0 _ refl of in
    let fits = fit.fits place.object.0 there.0 there.1 in
    let same : top.page.0 ≡ place.page.0 = ap (λ (z : PageNo). z.0) is.same in
    let inside : place.page.0 < object_pages parts.objects place.object.0 = omega (arith, less, same, stands.pages) in
    record {
      row = there.0;
      found = there.1;
      inside = inside;
      within = omega (arith, inside, fits.pages);
      away = λ asked found. by asked.here (λ here. fits.had place.page.0 asked found here) is.lacks;
    }
  where
    by : (here : Bool) → (here ≡ true → had_at copies place.object.0 place.page.0 ≡ true) → had_at copies place.object.0 place.page.0 ≡ false → here ≡ false
    by true had lacks = absurd (false≢true (sym lacks ∙ had refl))
    by false had lacks = refl

-- the page that is copied is here still
pub here_still : (place top : PageKey) (frame : FrameNo) (bytes : List ℕ) (row : PageRow) (old new : HostParts) → RaisesPage place frame bytes old new
    → row_at old.resident top.object.0 top.page.0 ≡ Some row → row.here ≡ true → IsHere top row.frame new
here_still place top frame bytes row old new raises found here =
    record {
      row = row;
      found = elim (row_cases place.object.0 place.page.0 _ old.resident new.resident raises.row top.object.0 top.page.0) [
        | inl put ↦
            let none = stood old.resident place.object.0 place.page.0 top.object.0 top.page.0 None put.object put.page raises.found in
            let bad : None ≡ Some row = sym none ∙ found in
            cc
        | inr other ↦ other.is ∙ found
      ];
      is = refl;
      here = here;
    }

-- a page of a copy object is one that is kept of it
pub within_copy : (copies : CopyTable) (parts : HostParts) (chains : ChainTable) (key : PageKey) → CopiesFit copies parts chains
    → key.page.0 < object_pages parts.objects key.object.0 → IfSome (copy_at copies key.object.0) (λ row. key.page.0 < row.pages)
within_copy copies parts chains key fit less = by (copy_at copies key.object.0) refl
  where
    by : (x : Option CopyRow) → copy_at copies key.object.0 ≡ x → IfSome x (λ row. key.page.0 < row.pages)
    by None is = tt
    by (Some row) is = omega (arith, less, (fit.fits key.object.0 row is).pages)

-- the copy object of a place is there, and is noted
pub notes_copy : (key : PageKey) (old new : CopyTable) (x : Option CopyRow) → copy_at old key.object.0 ≡ x → IsSome x
    → IfSome x (λ row. PutsCopy key.object.0 (Some (record row { had = slice_set row.had key.page.0 true })) old new)
    → PutsHad key.object.0 key.page.0 true old new → new.newest ≡ old.newest → new.room ≡ old.room → Notes key old new
notes_copy key old new None is some puts marks newest room = absurd (false≢true some)
notes_copy key old new (Some row) is some puts marks newest room = OfCopy row is puts marks newest room

pub noted_owed : (old new : CopyTable) (parts : HostParts) (place : PageKey) → (is : Owes old parts place)
    → IfSome (copy_at old place.object.0) (λ row. PutsCopy place.object.0 (Some (record row { had = slice_set row.had place.page.0 true })) old new)
    → PutsHad place.object.0 place.page.0 true old new → new.newest ≡ old.newest → new.room ≡ old.room → Notes place old new
noted_owed old new parts place is puts marks newest room =
    OfCopy is.row is.found
    (MatchOption-at_some _ (λ row. PutsCopy place.object.0 (Some (record row { had = slice_set row.had place.page.0 true })) old new) is.row is.found puts)
    marks newest room
