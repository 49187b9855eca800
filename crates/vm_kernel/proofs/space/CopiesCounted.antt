-- How many entries a fork copies, and how many regions it marks, counted one after another.
use Rattle.vm_kernel.proofs.Common.{Bool, ChainTable, Entry, List, Some, [], meets_range, ap, arith, copies, copies_from, drop, false, is_copied, length}
use Rattle.vm_kernel.proofs.Common.{new_marks, refl, suc, true, zero, ℕ, ◌&&◌, ◌+◌, ◌==◌, ◌||◌, ◌∙◌, ◌∷◌, ◌≡◌, ◌≤◌}
use Rattle.std.proofs.Common.{if◌then◌else◌, nat_lt, not, slice_get}
use Rattle.vm_kernel.proofs.space.CountsChanged.{next_row}
use Rattle.vm_kernel.specs.Refusing.{is_marked, is_paged, meets_uncopied, takes_no_mark}
use Rattle.vm_model.specs.declared.script.Declared.{Declared}
use Rattle.vm_model.specs.Tasks.{copies_below}

pub drop_past : (rows : List Entry) (i : ℕ) → length rows ≤ i → drop i rows ≡ []
drop_past [] zero le = refl
drop_past [] (suc i) le = refl
drop_past (row ∷ rows) zero le = absurd (omega arith)
drop_past (row ∷ rows) (suc i) le = drop_past rows i (omega arith)

-- how many are copied, counted one after another

pub copies_one : (rows : List Entry) (i : ℕ) (row : Entry) → slice_get rows i ≡ Some row → is_copied row.inherit ≡ true
    → copies (drop i rows) ≡ copies (drop (i + 1) rows) + 1
copies_one rows i row found is = ap copies (next_row rows i row found) ∙ rw is refl

pub copies_other : (rows : List Entry) (i : ℕ) (row : Entry) → slice_get rows i ≡ Some row → is_copied row.inherit ≡ false
    → copies (drop i rows) ≡ copies (drop (i + 1) rows)
copies_other rows i row found is = ap copies (next_row rows i row found) ∙ rw is refl

from_next : (rows : List Entry) (i region : ℕ) (row : Entry) → slice_get rows i ≡ Some row
    → copies_from region (drop i rows) ≡ ((is_copied row.inherit && row.region.0 == region) || copies_from region (drop (i + 1) rows))
from_next rows i region row found = ap (copies_from region) (next_row rows i row found)

pub from_one : (rows : List Entry) (i region : ℕ) (row : Entry) → slice_get rows i ≡ Some row → (is_copied row.inherit && row.region.0 == region) ≡ true
    → copies_from region (drop i rows) ≡ true
from_one rows i region row found is = from_next rows i region row found ∙ rw is refl

pub from_other : (rows : List Entry) (i region : ℕ) (row : Entry) → slice_get rows i ≡ Some row → (is_copied row.inherit && row.region.0 == region) ≡ false
    → copies_from region (drop i rows) ≡ copies_from region (drop (i + 1) rows)
from_other rows i region row found is = from_next rows i region row found ∙ rw is refl

-- the entry makes a mark
abbrev pub makes_mark : (ℕ → Bool) → Entry → List Entry → Bool
makes_mark marked row later = is_copied row.inherit && (not (copies_from row.region.0 later) && not (marked row.region.0))

pub marks_one : (marked : ℕ → Bool) (rows : List Entry) (i : ℕ) (row : Entry) → slice_get rows i ≡ Some row → makes_mark marked row (drop (i + 1) rows) ≡ true
    → new_marks marked (drop i rows) ≡ new_marks marked (drop (i + 1) rows) + 1
marks_one marked rows i row found is = ap (new_marks marked) (next_row rows i row found) ∙ rw is refl

pub marks_other : (marked : ℕ → Bool) (rows : List Entry) (i : ℕ) (row : Entry) → slice_get rows i ≡ Some row
    → makes_mark marked row (drop (i + 1) rows) ≡ false → new_marks marked (drop i rows) ≡ new_marks marked (drop (i + 1) rows)
marks_other marked rows i row found is = ap (new_marks marked) (next_row rows i row found) ∙ rw is refl

-- how many are on declared objects, counted one after another

pub below_one : (rows : List Entry) (i declared : ℕ) (row : Entry) → slice_get rows i ≡ Some row
    → (is_copied row.inherit && nat_lt row.region.0 declared) ≡ true
    → copies_below declared (drop i rows) ≡ copies_below declared (drop (i + 1) rows) + 1
below_one rows i declared row found is = ap (copies_below declared) (next_row rows i row found) ∙ rw is refl

pub below_other : (rows : List Entry) (i declared : ℕ) (row : Entry) → slice_get rows i ≡ Some row
    → (is_copied row.inherit && nat_lt row.region.0 declared) ≡ false → copies_below declared (drop i rows) ≡ copies_below declared (drop (i + 1) rows)
below_other rows i declared row found is = ap (copies_below declared) (next_row rows i row found) ∙ rw is refl

-- no more regions are marked, and files' pages delayed, than entries are copied
pub marks_few : (declared : ℕ) (chains : ChainTable) (rows : List Entry)
    → new_marks (takes_no_mark declared chains) rows + copies_below declared rows ≤ copies rows
marks_few declared chains [] = omega arith
marks_few declared chains (row ∷ rows) =
    more (is_copied row.inherit) (nat_lt row.region.0 declared) (copies_from row.region.0 rows) (is_marked chains row.region.0) _ _ _
    (marks_few declared chains rows)
  where
    more : (copied below from marked : Bool) (n b m : ℕ) → n + b ≤ m
        → (if copied && (not from && not (below || marked)) then n + 1 else n) + (if copied && below then b + 1 else b) ≤ (if copied then m + 1 else m)
    more true true true marked n b m le = omega (arith, le)
    more true true false marked n b m le = omega (arith, le)
    more true false true marked n b m le = omega (arith, le)
    more true false false true n b m le = omega (arith, le)
    more true false false false n b m le = omega (arith, le)
    more false below from marked n b m le = le

-- whether one of the entries is on a shared or wild object and in a range, one after another

pub meets_one : (rows : List Entry) (i : ℕ) (declared : List Declared) (address bytes : ℕ) (row : Entry) → slice_get rows i ≡ Some row
    → (not (is_paged declared row.region.0) && meets_range address bytes (row ∷ [])) ≡ true → meets_uncopied declared address bytes (drop i rows) ≡ true
meets_one rows i declared address bytes row found is =
    ap (meets_uncopied declared address bytes) (next_row rows i row found) ∙ ap (λ b. b || meets_uncopied declared address bytes (drop (i + 1) rows)) is

pub meets_other : (rows : List Entry) (i : ℕ) (declared : List Declared) (address bytes : ℕ) (row : Entry) → slice_get rows i ≡ Some row
    → (not (is_paged declared row.region.0) && meets_range address bytes (row ∷ [])) ≡ false
    → meets_uncopied declared address bytes (drop i rows) ≡ meets_uncopied declared address bytes (drop (i + 1) rows)
meets_other rows i declared address bytes row found is =
    ap (meets_uncopied declared address bytes) (next_row rows i row found) ∙ ap (λ b. b || meets_uncopied declared address bytes (drop (i + 1) rows)) is
