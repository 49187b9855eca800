-- Pages obey a lock request, one after another.
use Rattle.std.proofs.Common.{◌≡◌, ℕ, suc, ◌+◌, ◌≤◌, true, false, Option, Some, None, length, ap, subst, arith}
use Rattle.vm_base.specs.declared.ids.HostId.{HostId}
use Rattle.vm_base.specs.declared.ids.ObjectId.{ObjectId}
use Rattle.vm_base.specs.declared.ids.PageKey.{PageKey}
use Rattle.vm_base.specs.declared.ids.PageNo.{PageNo}
use Rattle.vm_objects.specs.Objects.{SameObjects, object_at}
use Rattle.vm_parts.specs.Changes.{relocked}
use Rattle.vm_resident.specs.Resident.{PutsRow}
use Rattle.vm_resident.specs.declared.page_row.PageRow.{PageRow}
use Rattle.vm_locks.specs.Obeys.{GoesBack, IsAsked, IsDropped, IsNextInRange, IsSaved, LockState, Next, PageObeys, PagesObey, Stays}
use Rattle.vm_locks.specs.declared.request.LockRequest.{LockRequest}

-- a page has obeyed: it alone has changed or gone
pub record HasObeyed (o p : ℕ) (old new : LockState) : Type 0 where
  pub now : Option PageRow
  pub row : PutsRow o p now old.parts.resident new.parts.resident
  pub objects : SameObjects old.parts.objects new.parts.objects
  pub room : old.room ≤ new.room + 1
  pub told : length new.events ≤ length old.events + 1

pub has_obeyed : (host : HostId) (key : PageKey) (control : ℕ) (request : LockRequest) (row : PageRow) (old new : LockState)
    → PageObeys host key control request row old new → HasObeyed key.object.0 key.page.0 old new
has_obeyed host key control request row old new (IsDropped act page objects held room events) =
    record { now = None; row = page.row; objects = record { at = λ o. ap (λ z. object_at z o) objects }; room = omega arith; told = rw events (omega arith) }
has_obeyed host key control request row old new (Stays act page objects held room events) =
    record {
      now = Some (relocked request.lock false row);
      row = page.row;
      objects = record { at = λ o. ap (λ z. object_at z o) objects };
      room = omega arith;
      told = rw events (omega arith);
    }
has_obeyed host key control request row old new (GoesBack act page objects present held room events) =
    record { now = None; row = page.row; objects = objects; room = omega arith; told = rw events (omega arith) }
has_obeyed host key control request row old new (IsSaved act page objects present held room events) =
    record { now = Some (relocked request.lock true row); row = page.row; objects = objects; room = omega arith; told = rw events (omega arith) }

-- a page is passed over, and the others behind it obey
pub one_asked : (host : HostId) (object : ObjectId) (control : ℕ) (request : LockRequest) (from : ℕ) (page : PageNo) (row : PageRow) (old end : LockState)
    → IsNextInRange object request from page row old → row.here ≡ false
    → PagesObey host object control request (page.0 + 1) old end → PagesObey host object control request from old end
one_asked host object control request from page row old end next asked more =
    IsAsked from page row old end next asked (subst (λ (n : ℕ). PagesObey host object control request n old end)
    (let e : page.0 + 1 ≡ suc page.0 = omega arith in e) more)

-- a page obeys, and the others behind it
pub one_more : (host : HostId) (object : ObjectId) (control : ℕ) (request : LockRequest) (from : ℕ) (page : PageNo) (row : PageRow) (old mid end : LockState)
    → IsNextInRange object request from page row old → row.here ≡ true
    → PageObeys host (record { object = object; page = page }) control request row old mid → PagesObey host object control request (page.0 + 1) mid end
    → PagesObey host object control request from old end
one_more host object control request from page row old mid end next here obeys more =
    Next from page row old mid end next here obeys (subst (λ (n : ℕ). PagesObey host object control request n mid end)
    (let e : page.0 + 1 ≡ suc page.0 = omega arith in e) more)
