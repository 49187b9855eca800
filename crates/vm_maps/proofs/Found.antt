-- What the first entry that ends behind an address tells.
use Rattle.std.proofs.Common.{ℕ, ◌≡◌, ◌+◌, ◌<◌, ◌≤◌, ◌^◌, Bool, true, false, List, [], ◌∷◌, Option, Some, None, refl, ⊎_elim, arith}
use Rattle.std.proofs.lemmas.Bool.{cases_lt}
use Rattle.std.proofs.lemmas.Bool.Decides.{nat_tests}
use Rattle.std.proofs.lemmas.Option.{none-some, same_Some}
use Rattle.std.specs.Prelude.{slice_get, nat_le, nat_lt, if◌then◌else◌}
use Rattle.vm_base.specs.Entries.{InOrder, entry_at, meets_range}
use Rattle.vm_base.specs.declared.entry.Entry.{Entry}
use Rattle.vm_maps.specs.Rows.{cuts_at, if_below, passed}

pub none_at : (address from to : ℕ) (rows : List Entry) → InOrder from to rows → address < from → entry_at address rows ≡ None
none_at address from to [] order less = refl
none_at address from to (row ∷ rows) order less =
    let rest = none_at address (row.address + row.bytes) to rows order.1.1 (omega (arith, order.0)) in
    let low : address < row.address = omega (arith, order.0) in
    grind (arith, nat_tests)

abbrev pub held : ℕ → Option Entry → Option Entry
held address None = None
held address (Some row) = if nat_le row.address address then Some row else None

pub entry_found : (address from to : ℕ) (rows : List Entry) → InOrder from to rows → entry_at address rows ≡ held address (slice_get rows (passed address rows))
entry_found address from to [] order = refl
entry_found address from to (row ∷ rows) order =
    let rest = entry_found address (row.address + row.bytes) to rows order.1.1 in
    let none = none_at address (row.address + row.bytes) to rows order.1.1 in
    grind (arith, nat_tests, rest, none)

none_met : (address bytes from to : ℕ) (rows : List Entry) → InOrder from to rows → address + bytes ≤ from → meets_range address bytes rows ≡ false
none_met address bytes from to [] order less = refl
none_met address bytes from to (row ∷ rows) order less =
    let rest = none_met address bytes (row.address + row.bytes) to rows order.1.1 (omega (arith, order.0)) in
    let low : address + bytes ≤ row.address = omega (arith, order.0) in
    grind (arith, nat_tests)

abbrev pub begins_below : ℕ → Option Entry → Bool
begins_below address None = false
begins_below address (Some row) = nat_lt row.address address

pub range_found : (address bytes from to : ℕ) (rows : List Entry) → InOrder from to rows → 0 < bytes
    → meets_range address bytes rows ≡ begins_below (address + bytes) (slice_get rows (passed address rows))
range_found address bytes from to [] order some = refl
range_found address bytes from to (row ∷ rows) order some =
    let rest = range_found address bytes (row.address + row.bytes) to rows order.1.1 some in
    let none = none_met address bytes (row.address + row.bytes) to rows order.1.1 in
    let less = order.1.0 in
    grind (arith, nat_tests, rest, none)

pub none_cut : (address from to : ℕ) (rows : List Entry) → InOrder from to rows → address ≤ from → cuts_at address rows ≡ 0
none_cut address from to [] order less = refl
none_cut address from to (row ∷ rows) order less =
    let rest = none_cut address (row.address + row.bytes) to rows order.1.1 (omega (arith, order.0)) in
    let low : address ≤ row.address = omega (arith, order.0) in
    grind (arith, nat_tests)

pub cut_found : (address from to : ℕ) (rows : List Entry) → InOrder from to rows
    → cuts_at address rows ≡ (if begins_below address (slice_get rows (passed address rows)) then 1 else 0)
cut_found address from to [] order = refl
cut_found address from to (row ∷ rows) order =
    let rest = cut_found address (row.address + row.bytes) to rows order.1.1 in
    let none = none_cut address (row.address + row.bytes) to rows order.1.1 in
    let less = order.1.0 in
    grind (arith, nat_tests, rest, none)

pub entry_of : (address : ℕ) (rows : List Entry) → InOrder 0 (2 ^ 32) rows → entry_at address rows ≡ held address (slice_get rows (passed address rows))
entry_of address rows order = entry_found address 0 (2 ^ 32) rows order

pub cut_of : (address : ℕ) (rows : List Entry) → InOrder 0 (2 ^ 32) rows
    → cuts_at address rows ≡ (if begins_below address (slice_get rows (passed address rows)) then 1 else 0)
cut_of address rows order = cut_found address 0 (2 ^ 32) rows order

pub range_of : (address bytes : ℕ) (rows : List Entry) → InOrder 0 (2 ^ 32) rows → 0 < bytes
    → meets_range address bytes rows ≡ begins_below (address + bytes) (slice_get rows (passed address rows))
range_of address bytes rows order some = range_found address bytes 0 (2 ^ 32) rows order some

-- an entry that was found begins below the address
pub record Begins (address : ℕ) (found : Option Entry) (row : Entry) : Type 0 where
  pub is : found ≡ Some row
  pub low : row.address < address

pub begins : (address : ℕ) (found : Option Entry) (row : Entry) → if_below address found ≡ Some row → Begins address found row
begins address None row is = absurd (none-some row is)
begins address (Some x) row is =
    ⊎_elim
    (λ (less : x.address < address).
    let yes : nat_lt x.address address ≡ true = grind (arith, nat_tests) in
    let same : Some x ≡ Some row = rw yes at is in
    let low : row.address < address = rw (same_Some x row same) at less in
    record { is = same; low = low })
    (λ (le : address ≤ x.address). let no : nat_lt x.address address ≡ false = grind (arith, nat_tests) in absurd (none-some row (rw no at is)))
    (cases_lt x.address address)

pub none_begins : (address : ℕ) (found : Option Entry) → if_below address found ≡ None → begins_below address found ≡ false
none_begins address None is = refl
none_begins address (Some x) is = grind (arith, nat_tests)

pub ruleset found = (entry_of, cut_of, range_of, nat_tests)
