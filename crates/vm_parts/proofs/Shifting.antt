-- A page becomes another, in its frame, and the parts of a host fit each other still.
use Rattle.std.proofs.Common.{◌≡◌, ℕ, ◌<◌, ◌==◌, ◌&&◌, Bool, true, false, refl, ap, sym, ◌∙◌, subst, Some, None, Option, inl, inr, arith}
use Rattle.std.proofs.lemmas.Bool.Decides.{nat_tests}
use Rattle.std.specs.Prelude.{if◌then◌else◌, ◌⊎◌}
use Rattle.vm_base.specs.declared.ids.PageKey.{PageKey}
use Rattle.vm_frames.specs.Frames.{is_claimed}
use Rattle.vm_queues.specs.Queues.{is_queued}
use Rattle.vm_resident.specs.Resident.{IsOwned, PutsOwner, PutsRow, ResidentTable, owner_of, row_at}
use Rattle.vm_resident.specs.declared.page_row.PageRow.{PageRow}
use Rattle.vm_parts.specs.Changes.{ShiftsPage}
use Rattle.vm_parts.specs.Fits.{Fit, object_pages}
use Rattle.vm_parts.specs.declared.parts.HostParts.{HostParts}
use Rattle.vm_parts.proofs.Rows.{one_case, some_is}

put_twice : {A : Type 0} (b : Bool) (x y z middle : A) → middle ≡ (if b then y else z) → (if b then x else middle) ≡ (if b then x else z)
put_twice true x y z middle is = refl
put_twice false x y z middle is = is

-- the row of a page is taken out, and put in for another
pub shifts : (from to : PageKey) (row : PageRow) (parts : HostParts) (middle last : ResidentTable) → row_at parts.resident from.object.0 from.page.0 ≡ Some row
    → row_at parts.resident to.object.0 to.page.0 ≡ None → PutsRow from.object.0 from.page.0 None parts.resident middle
    → PutsOwner row.frame.0 None parts.resident middle → PutsRow to.object.0 to.page.0 (Some row) middle last → PutsOwner row.frame.0 (Some to) middle last
    → ShiftsPage from to row parts (record parts { resident = last })
shifts from to row parts middle last found vacant out freed put owner =
    record {
      found = found;
      vacant = vacant;
      rows = λ o p. put.at o p ∙ ap (λ z. if to.object.0 == o && to.page.0 == p then Some row else z) (out.at o p);
      owner = record { at = λ g. owner.at g ∙ put_twice (row.frame.0 == g) (Some to) None (owner_of parts.resident g) (owner_of middle g) (freed.at g) };
      frames = refl;
      queues = refl;
    }

-- a row behind two edits is the one that was put, or was there
put_or_was : {A : Type 0} (put out : Bool) (x row : A) (was : Option A) → (if put then Some x else (if out then None else was)) ≡ Some row
    → ((put ≡ true) × (x ≡ row)) ⊎ (was ≡ Some row)
put_or_was true out x row was is = inl (refl, some_is x row is)
put_or_was false true x row was is = absurd (let bad : None ≡ Some row = is in cc)
put_or_was false false x row was is = inr is

pub fit_shifted : (from to : PageKey) (row : PageRow) (parts : HostParts) (table : ResidentTable) → Fit parts
    → ShiftsPage from to row parts (record parts { resident = table }) → IsOwned table → to.page.0 < object_pages parts.objects to.object.0
    → Fit (record parts { resident = table })
fit_shifted from to row parts table fit shifted owned inside =
    record {
      owned = owned;
      held = λ o p r is. elim (cases o p r is) [
        | inl its ↦ subst (λ (z : PageRow). is_claimed parts.frames z.frame.0 ≡ true) its.1 claimed
        | inr was ↦ fit.held o p r was
      ];
      listed = λ o p r is. elim (cases o p r is) [
        | inl its ↦ subst (λ (z : PageRow). is_queued parts.queues z.frame.0 ≡ z.here) its.1 (fit.listed from.object.0 from.page.0 row shifted.found)
        | inr was ↦ fit.listed o p r was
      ];
      unlisted = λ g none. elim (owners g) [
        | inl same ↦ absurd (let bad : Some to ≡ None = sym same.1 ∙ none in cc)
        | inr other ↦ fit.unlisted g (sym other.1 ∙ none)
      ];
      unowned = λ g free. elim (owners g) [
        | inl same ↦ absurd (let bad : true ≡ false = sym claimed ∙ (ap (is_claimed parts.frames) same.0 ∙ free) in cc)
        | inr other ↦ other.1 ∙ fit.unowned g free
      ];
      inside = λ o p r is. elim (cases o p r is) [
        | inl its ↦ within o p its.0
        | inr was ↦ fit.inside o p r was
      ];
      all_sized = fit.all_sized;
      count = fit.count;
      pages = fit.pages;
    }
  where
    cases : (o p : ℕ) (r : PageRow) → row_at table o p ≡ Some r
        → (((to.object.0 == o && to.page.0 == p) ≡ true) × (row ≡ r)) ⊎ (row_at parts.resident o p ≡ Some r)
    cases o p r is =
        put_or_was (to.object.0 == o && to.page.0 == p) (from.object.0 == o && from.page.0 == p) row r (row_at parts.resident o p) (sym (shifted.rows o p) ∙ is)

    owners : (g : ℕ) → ((row.frame.0 ≡ g) × (owner_of table g ≡ Some to)) ⊎ ((row.frame.0 ≡ g → ⊥) × (owner_of table g ≡ owner_of parts.resident g))
    owners g = one_case row.frame.0 g (Some to) (owner_of parts.resident g) (owner_of table g) (shifted.owner.at g)

    claimed : is_claimed parts.frames row.frame.0 ≡ true
    claimed = fit.held from.object.0 from.page.0 row shifted.found

    within : (o p : ℕ) → (to.object.0 == o && to.page.0 == p) ≡ true → p < object_pages parts.objects o
    within o p test =
        let object : to.object.0 ≡ o = grind (arith, nat_tests) in
        let page : to.page.0 ≡ p = grind (arith, nat_tests) in
        subst (λ (z : ℕ). p < object_pages parts.objects z) object (subst (λ (z : ℕ). z < object_pages parts.objects to.object.0) page inside)
