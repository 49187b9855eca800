-- The pages of an object that is merged into another: what one of them leaves of the others.
use Rattle.std.proofs.Common.{◌≡◌, ℕ, ◌==◌, ◌&&◌, Bool, true, false, ap, sym, ◌∙◌, Some, None, Option, arith, inl, inr}
use Rattle.std.proofs.lemmas.Bool.Decides.{eqb_tells, nat_tests}
use Rattle.std.specs.Prelude.{if◌then◌else◌, IfSome, ◌≢◌}
use Rattle.vm_base.specs.declared.ids.ObjectId.{ObjectId}
use Rattle.vm_base.specs.declared.ids.PageNo.{PageNo}
use Rattle.vm_resident.specs.Resident.{row_at}
use Rattle.vm_resident.specs.declared.page_row.PageRow.{PageRow}
use Rattle.vm_parts.specs.Merging.{Goes, MovesUp, NoneAsked, PageMerges}
use Rattle.vm_parts.specs.declared.parts.HostParts.{HostParts}

pub if_some_map : {A : Type 0} {P Q : A → Type 0} (x : Option A) → ((a : A) → P a → Q a) → IfSome x P → IfSome x Q
if_some_map None f is = tt
if_some_map (Some a) f is = f a is

apart_test : (n m : ℕ) → n ≢ m → (n == m) ≡ false
apart_test n m apart = elim (eqb_tells n m) [ inl same ↦ absurd (apart same.1) | inr other ↦ other.0 ]

same_test : (n : ℕ) → (n == n) ≡ true
same_test n = grind (arith, nat_tests)

-- of the lower object that page has gone, and each other is as it was
pub lower_rows : (upper lower : ObjectId) (shift pages : ℕ) (page : PageNo) (row : PageRow) (old new : HostParts) → upper.0 ≢ lower.0
    → PageMerges upper shift pages (record { object = lower; page = page }) row old new
    → (p : ℕ) → row_at new.resident lower.0 p ≡ (if page.0 == p then None else row_at old.resident lower.0 p)
lower_rows upper lower shift pages page row old new apart (MovesUp to is less shifts) p =
    shifts.rows lower.0 p
    ∙ (ap (λ b. if b && to.0 == p then Some row else (if lower.0 == lower.0 && page.0 == p then None else row_at old.resident lower.0 p))
    (apart_test upper.0 lower.0 apart)
    ∙ ap (λ b. if b && page.0 == p then None else row_at old.resident lower.0 p) (same_test lower.0))
lower_rows upper lower shift pages page row old new apart (Goes why discards) p =
    discards.row.at lower.0 p ∙ ap (λ b. if b && page.0 == p then None else row_at old.resident lower.0 p) (same_test lower.0)

-- a row that is left where one was taken out stood there before
pub left_of : {A : Type 0} (b : Bool) {row : A} (was : Option A) → (if b then None else was) ≡ Some row → was ≡ Some row
left_of true was none = absurd (let bad : None ≡ Some _ = none in cc)
left_of false was is = is

pub none_asked : (upper lower : ObjectId) (shift pages : ℕ) (page : PageNo) (row : PageRow) (old new : HostParts) → upper.0 ≢ lower.0
    → PageMerges upper shift pages (record { object = lower; page = page }) row old new → NoneAsked old lower.0 → NoneAsked new lower.0
none_asked upper lower shift pages page row old new apart merges none p other is =
    none p other (left_of (page.0 == p) _ (sym (lower_rows upper lower shift pages page row old new apart merges p) ∙ is))
