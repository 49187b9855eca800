-- A walk over entries that stand one behind another.
use Rattle.std.proofs.Common.{ℕ, zero, suc, ◌≡◌, ◌+◌, ◌<◌, ◌≤◌, true, false, List, [], ◌∷◌, length, drop, Some, ap, arith, add-one}
use Rattle.std.proofs.lemmas.Bool.Decides.{nat_tests}
use Rattle.std.proofs.lemmas.List.{drop_all}
use Rattle.std.proofs.lemmas.Option.{none-some, same_Some}
use Rattle.std.specs.Prelude.{slice_get}
use Rattle.vm_base.specs.declared.entry.Entry.{Entry}
use Rattle.vm_maps.specs.Rows.{is_without_gap}

drop_suc : (i : ℕ) (rows : List Entry) (row : Entry) → slice_get rows i ≡ Some row → drop i rows ≡ row ∷ drop (suc i) rows
drop_suc i [] row is = absurd (none-some row is)
drop_suc zero (x ∷ rows) row is = ap (λ z. z ∷ rows) (same_Some x row is)
drop_suc (suc i) (x ∷ rows) row is = drop_suc i rows row is

-- what is left from an entry on
pub drop_one : (i : ℕ) (rows : List Entry) (row : Entry) → slice_get rows i ≡ Some row → drop i rows ≡ row ∷ drop (i + 1) rows
drop_one i rows row is = rw add-one (drop_suc i rows row is)

pub reaches_done : (from to : ℕ) (rows : List Entry) → to ≤ from → is_without_gap from to rows ≡ true
reaches_done from to [] done = grind (arith, nat_tests)
reaches_done from to (row ∷ rows) done = grind (arith, nat_tests)

pub reaches_past : (i from to : ℕ) (rows : List Entry) → from < to → length rows ≤ i → is_without_gap from to (drop i rows) ≡ false
reaches_past i from to rows less past = rw (drop_all i rows past) (grind (arith, nat_tests))

pub reaches_gap : (i from to : ℕ) (rows : List Entry) (row : Entry) → slice_get rows i ≡ Some row → from < to → from < row.address
    → is_without_gap from to (drop i rows) ≡ false
reaches_gap i from to rows row is less gap = rw (drop_one i rows row is) (grind (arith, nat_tests))

pub reaches_one : (i from to : ℕ) (rows : List Entry) (row : Entry) → slice_get rows i ≡ Some row → from < to → row.address ≤ from
    → is_without_gap from to (drop i rows) ≡ is_without_gap (row.address + row.bytes) to (drop (i + 1) rows)
reaches_one i from to rows row is less near = rw (drop_one i rows row is) (grind (arith, nat_tests))
