-- Entries by rising address: where one stands, and how many end in front of an address.
use Rattle.std.proofs.Common.{ℕ, zero, suc, ◌≡◌, ◌+◌, ◌<◌, ◌≤◌, List, [], ◌∷◌, length, Some, subst, arith}
use Rattle.std.proofs.lemmas.Bool.Decides.{nat_tests}
use Rattle.std.proofs.lemmas.Option.{none-some, same_Some}
use Rattle.std.specs.Prelude.{slice_get}
use Rattle.vm_base.specs.Entries.{InOrder}
use Rattle.vm_base.specs.declared.entry.Entry.{Entry}
use Rattle.vm_maps.specs.Rows.{passed}

-- an entry is not empty, and lies from one address on up to another
pub record LiesIn (from to : ℕ) (row : Entry) : Type 0 where
  pub low : from ≤ row.address
  pub some : 0 < row.bytes
  pub high : row.address + row.bytes ≤ to

pub ends_rise : (from to : ℕ) (rows : List Entry) → InOrder from to rows → from ≤ to
ends_rise from to [] order = order
ends_rise from to (row ∷ rows) order = omega (arith, ends_rise (row.address + row.bytes) to rows order.1.1)

pub lies_in : (k from to : ℕ) (rows : List Entry) (row : Entry) → InOrder from to rows → slice_get rows k ≡ Some row → LiesIn from to row
lies_in k from to [] row order is = absurd (none-some row is)
lies_in zero from to (x ∷ rows) row order is =
    subst (LiesIn from to) (same_Some x row is) (record { low = order.0; some = order.1.0; high = ends_rise (x.address + x.bytes) to rows order.1.1 })
lies_in (suc k) from to (x ∷ rows) row order is =
    let h = lies_in k (x.address + x.bytes) to rows row order.1.1 is in
    record { low = omega (arith, h.low, order.0); some = h.some; high = h.high }

pub passed_within : (address : ℕ) (rows : List Entry) → passed address rows ≤ length rows
passed_within address [] = omega arith
passed_within address (row ∷ rows) = grind (arith, nat_tests, passed_within address rows)

-- an entry that ends at or in front of the address is counted
pub passed_above : (k address from to : ℕ) (rows : List Entry) (row : Entry) → InOrder from to rows → slice_get rows k ≡ Some row
    → row.address + row.bytes ≤ address → k < passed address rows
passed_above k address from to [] row order is ends = absurd (none-some row is)
passed_above zero address from to (x ∷ rows) row order is ends = let same = same_Some x row is in grind (arith, nat_tests)
passed_above (suc k) address from to (x ∷ rows) row order is ends =
    let h = passed_above k address (x.address + x.bytes) to rows row order.1.1 is ends in
    let inside = lies_in k (x.address + x.bytes) to rows row order.1.1 is in
    let less : x.address + x.bytes ≤ address = omega (arith, inside.low) in
    grind (arith, nat_tests)

-- an entry that ends behind the address is not counted
pub passed_below : (k address : ℕ) (rows : List Entry) (row : Entry) → slice_get rows k ≡ Some row → address < row.address + row.bytes → passed address rows ≤ k
passed_below k address [] row is ends = absurd (none-some row is)
passed_below zero address (x ∷ rows) row is ends = let same = same_Some x row is in grind (arith, nat_tests)
passed_below (suc k) address (x ∷ rows) row is ends = let h = passed_below k address rows row is ends in grind (arith, nat_tests)
