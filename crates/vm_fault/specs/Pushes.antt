-- The copy objects of a host, as a fault finds them, and the place to which a store owes the page that it is about to change.
use Rattle.std.specs.Prelude.{ℕ, ◌≡◌, true, if◌then◌else◌, Option, Some, None, IsSome, slice_set}
use Rattle.vm_base.specs.declared.ids.ObjectId.{ObjectId}
use Rattle.vm_base.specs.declared.ids.PageKey.{PageKey}
use Rattle.vm_base.specs.declared.ids.PageNo.{PageNo}
use Rattle.vm_copies.specs.Copies.{AreNewest, CopyRow, CopyTable, PutsCopy, PutsHad, copy_at, had_at, newest_at}
use Rattle.vm_objects.specs.Objects.{object_at}
use Rattle.vm_parts.specs.Fits.{object_pages}
use Rattle.vm_parts.specs.declared.parts.HostParts.{HostParts}
use Rattle.vm_resident.specs.Resident.{row_at}
use Rattle.vm_resident.specs.declared.page_row.PageRow.{PageRow}
use Rattle.vm_shadow.specs.Chains.{ChainTable, shadow_at}
use Rattle.vm_shadow.specs.declared.shadow_row.ShadowRow.{ShadowRow}
use Rattle.vm_waits.specs.declared.waiting.Want.{Want}
use Rattle.vm_waits.specs.declared.waiting.Want.TheVariants as want

-- a copy object that lives is an object with as many pages, and has had each of its pages that is here
pub record CopyFits (copies : CopyTable) (parts : HostParts) (copy : ℕ) (row : CopyRow) : Type 0 where
  pub known : IsSome (object_at parts.objects copy)
  pub pages : object_pages parts.objects copy ≡ row.pages
  pub had : (p : ℕ) (page : PageRow) → row_at parts.resident copy p ≡ Some page → page.here ≡ true → had_at copies copy p ≡ true

-- the newest copy object of a source stands on it, page over page
pub record StandsOn (parts : HostParts) (chains : ChainTable) (source copy : ℕ) : Type 0 where
  pub row : ShadowRow
  pub found : shadow_at chains copy ≡ Some row
  pub under : row.under.0 ≡ source
  pub shift : row.shift ≡ 0
  pub pages : object_pages parts.objects copy ≡ object_pages parts.objects source

-- the copy objects fit what the host has of objects and pages, and what stands on what
pub record CopiesFit (copies : CopyTable) (parts : HostParts) (chains : ChainTable) : Type 0 where
  pub living : AreNewest copies
  pub fits : (c : ℕ) (row : CopyRow) → copy_at copies c ≡ Some row → CopyFits copies parts c row
  pub stands : (s : ℕ) (c : ObjectId) → newest_at copies s ≡ Some c → StandsOn parts chains s c.0

-- where an access is a slow copy, its target is no copy object
abbrev pub IsFresh : Want → CopyTable → Type 0
IsFresh (want.Load address size) copies = Unit {0}
IsFresh (want.Store address size value) copies = Unit {0}
IsFresh (want.CopyTo address pages target next) copies = copy_at copies target.0 ≡ None

abbrev pub owed_of : CopyTable → PageNo → Option ObjectId → Option PageKey
owed_of copies page None = None
owed_of copies page (Some copy) = if had_at copies copy.0 page.0 then None else Some (record { object = copy; page = page })

-- the place to which a store owes a page of an object: that of the object's newest copy, unless it has had the page
abbrev pub owed_at : CopyTable → PageKey → Option PageKey
owed_at copies key = owed_of copies key.page (newest_at copies key.object.0)

-- a page came to a place: of a copy object that is noted, and any other object is none
pub data Notes (key : PageKey) (old new : CopyTable) : Type 0 where
  OfCopy : (row : CopyRow) → copy_at old key.object.0 ≡ Some row
      → PutsCopy key.object.0 (Some (record row { had = slice_set row.had key.page.0 true })) old new → PutsHad key.object.0 key.page.0 true old new
      → new.newest ≡ old.newest → new.room ≡ old.room → Notes key old new
  OfOther : copy_at old key.object.0 ≡ None → new ≡ old → Notes key old new
