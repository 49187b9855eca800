-- The pages of an object leave, one after another.
use Rattle.std.proofs.Common.{◌≡◌, ◌∙◌, ℕ, suc, ◌+◌, ◌≤◌, true, Some, None, inl, inr, ap, sym, subst, arith}
use Rattle.vm_base.specs.declared.ids.HostId.{HostId}
use Rattle.vm_base.specs.declared.ids.ObjectId.{ObjectId}
use Rattle.vm_base.specs.declared.ids.PageKey.{PageKey}
use Rattle.vm_base.specs.declared.ids.PageNo.{PageNo}
use Rattle.vm_objects.specs.Objects.{SameObjects, object_at}
use Rattle.vm_objects.specs.declared.row.ObjectRow.{ObjectRow}
use Rattle.vm_parts.proofs.Lists.{listed_less}
use Rattle.vm_parts.proofs.Rows.{row_cases}
use Rattle.vm_parts.specs.Listed.{listed_pages}
use Rattle.vm_resident.specs.Resident.{IsNextPage, PutsRow, ResidentTable, row_at}
use Rattle.vm_resident.specs.declared.page_row.PageRow.{PageRow}
use Rattle.vm_terminate.specs.Finishes.{FinishState, GoesBack, IsDropped, Next, PageLeaves, PagesLeave}
use Rattle.vm_terminate.specs.Steps.{AllHere}

-- a page that was here has gone
pub record HasGone (o p : ℕ) (old new : FinishState) : Type 0 where
  pub rows : PutsRow o p None old.parts.resident new.parts.resident
  pub objects : SameObjects old.parts.objects new.parts.objects
  pub lists : listed_pages new.parts.queues + 1 ≤ listed_pages old.parts.queues
  pub room : old.room ≤ new.room + 1

pub has_gone : (host : HostId) (key : PageKey) (known : ObjectRow) (row : PageRow) (old new : FinishState) → row.here ≡ true
    → PageLeaves host key known row old new → HasGone key.object.0 key.page.0 old new
has_gone host key known row old new here (IsDropped why page objects held room events) =
    record {
      rows = page.row;
      objects = record { at = λ o. ap (λ z. object_at z o) objects };
      lists = listed_less row.frame.0 old.parts.queues new.parts.queues (page.listed ∙ here) page.queues;
      room = omega arith;
    }
has_gone host key known row old new here (GoesBack declared wanted page objects present held room events) =
    record {
      rows = page.row;
      objects = objects;
      lists = listed_less row.frame.0 old.parts.queues new.parts.queues (page.listed ∙ here) page.queues;
      room = omega arith;
    }

-- a page of an object leaves, and the others behind it
pub one_more : (host : HostId) (object : ObjectId) (known : ObjectRow) (from : ℕ) (page : PageNo) (row : PageRow) (old mid end : FinishState)
    → IsNextPage old.parts.resident object.0 from page.0
    → row_at old.parts.resident object.0 page.0 ≡ Some row → row.here ≡ true → mid.chains ≡ old.chains → mid.copies ≡ old.copies
    → PageLeaves host (record { object = object; page = page }) known row old mid
    → PagesLeave host object known (page.0 + 1) mid end → PagesLeave host object known from old end
one_more host object known from page row old mid end next found here chains copies leaves more =
    let rest = subst (λ (n : ℕ). PagesLeave host object known n mid end) (let e : page.0 + 1 ≡ suc page.0 = omega arith in e) more in
    Next from page row old mid end next.low next.first found here chains copies leaves rest

-- where a page of an object has gone, each other one is here still
pub others_here : (o p : ℕ) (old new : ResidentTable) → PutsRow o p None old new → AllHere old o → AllHere new o
others_here o p old new put here q page is = elim (row_cases o p None old new put o q) [
  | inl gone ↦ absurd (let bad : None ≡ Some page = sym gone.is ∙ is in cc)
  | inr other ↦ here q page (sym other.is ∙ is)
]
