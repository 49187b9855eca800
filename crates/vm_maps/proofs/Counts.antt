-- How many entries there are after they are cut at the ends of a range.
use Rattle.std.proofs.Common.{ℕ, ◌≡◌, ◌+◌, ◌<◌, ◌≤◌, ◌^◌, Bool, List, [], ◌∷◌, ◌++◌, length, refl, ◌∙◌, arith, length-append}
use Rattle.std.proofs.lemmas.Bool.Decides.{nat_tests}
use Rattle.std.specs.List.{flat_map}
use Rattle.std.specs.Prelude.{nat_le, nat_lt, max, min, if◌then◌else◌, ◌&&◌}
use Rattle.vm_base.specs.Entries.{InOrder, cut, removed, rewritten}
use Rattle.vm_base.specs.declared.entry.Entry.{Entry}
use Rattle.vm_maps.specs.Rows.{cuts_at, passed}
use Rattle.vm_maps.proofs.Order.{ends_rise}

abbrev one_if : Bool → ℕ
one_if b = if b then 1 else 0

length_cut : (size from to : ℕ) (row : Entry) → length (cut size from to row) ≡ one_if (nat_lt (max from row.address) (min to (row.address + row.bytes)))
length_cut size from to row = grind (arith, nat_tests)

-- a range cuts an entry into one part and one more for each of its ends inside
three_parts : (low high start end top : ℕ) → low < high → start < end → end ≤ top → high ≤ top
    → one_if (nat_lt (max 0 low) (min start high)) + (one_if (nat_lt (max start low) (min end high)) + one_if (nat_lt (max end low) (min top high)))
    ≡ 1 + (one_if (nat_lt low start && nat_lt start high) + one_if (nat_lt low end && nat_lt end high))
three_parts low high start end top some range below inside = grind (arith, nat_tests)

length_each : (becomes : Entry → List Entry) → ((row : Entry) → length (becomes row) ≡ 1) → (rows : List Entry) → length (flat_map becomes rows) ≡ length rows
length_each becomes each [] = refl
length_each becomes each (row ∷ rows) = length-append (becomes row) (flat_map becomes rows) ∙ omega (arith, each row, length_each becomes each rows)

length_none : (rows : List Entry) → length (flat_map {X = Entry} {A = Entry} (λ row. []) rows) ≡ 0
length_none [] = refl
length_none (row ∷ rows) = length_none rows

length_four : (first second third fourth : List Entry)
    → length (first ++ (second ++ (third ++ fourth))) ≡ length first + (length second + (length third + length fourth))
length_four first second third fourth =
    omega (arith, length-append first (second ++ (third ++ fourth)), length-append second (third ++ fourth), length-append third fourth)

pub length_rewritten : (becomes : Entry → List Entry) → ((row : Entry) → length (becomes row) ≡ 1) → (size start bytes from to : ℕ) (rows : List Entry)
    → 0 < bytes → start + bytes ≤ to → InOrder from to rows → to ≤ 2 ^ 32
    → length (rewritten becomes size start bytes rows) ≡ length rows + (cuts_at start rows + cuts_at (start + bytes) rows)
length_rewritten becomes each size start bytes from to [] some below order top = refl
length_rewritten becomes each size start bytes from to (row ∷ rows) some below order top =
    let rest = length_rewritten becomes each size start bytes (row.address + row.bytes) to rows some below order.1.1 top in
    let end : row.address + row.bytes ≤ 2 ^ 32 = omega (arith, ends_rise (row.address + row.bytes) to rows order.1.1) in
    let parts = three_parts row.address (row.address + row.bytes) start (start + bytes) (2 ^ 32) (omega (arith, order.1.0)) (omega arith) (omega arith) end in
    let four = length_four (cut size 0 start row) (flat_map becomes (cut size start (start + bytes) row)) (cut size (start + bytes) (2 ^ 32) row)
    (rewritten becomes size start bytes rows) in
    let middle = length_each becomes each (cut size start (start + bytes) row) in
    omega (
      arith,
      rest,
      parts,
      four,
      middle,
      length_cut size 0 start row,
      length_cut size start (start + bytes) row,
      length_cut size (start + bytes) (2 ^ 32) row,
    )

pub passed_none : (address from to : ℕ) (rows : List Entry) → InOrder from to rows → address ≤ from → passed address rows ≡ 0
passed_none address from to [] order less = refl
passed_none address from to (row ∷ rows) order less =
    let high : address < row.address + row.bytes = omega (arith, order.0, order.1.0) in grind (arith, nat_tests)

-- what a range in an entry leaves of it
left_of : (low high start end top : ℕ) → low < high → start < end → end ≤ top → high ≤ top
    → one_if (nat_lt (max 0 low) (min start high)) + (0 + one_if (nat_lt (max end low) (min top high))) + one_if (nat_le high end)
    ≡ one_if (nat_le high start) + (one_if (nat_lt low start && nat_lt start high) + 1)
left_of low high start end top some range below inside = grind (arith, nat_tests)

passed_one : (address from to : ℕ) (row : Entry) (rows : List Entry) → InOrder from to (row ∷ rows)
    → passed address (row ∷ rows) ≡ one_if (nat_le (row.address + row.bytes) address) + passed address rows
passed_one address from to row rows order =
    let none = passed_none address (row.address + row.bytes) to rows order.1.1 in
    grind (arith, nat_tests, none)

pub length_removed : (size start bytes from to : ℕ) (rows : List Entry) → 0 < bytes → start + bytes ≤ to → InOrder from to rows → to ≤ 2 ^ 32
    → length (removed size start bytes rows) + passed (start + bytes) rows ≡ passed start rows + (cuts_at start rows + length rows)
length_removed size start bytes from to [] some below order top = refl
length_removed size start bytes from to (row ∷ rows) some below order top =
    let rest = length_removed size start bytes (row.address + row.bytes) to rows some below order.1.1 top in
    let end : row.address + row.bytes ≤ 2 ^ 32 = omega (arith, ends_rise (row.address + row.bytes) to rows order.1.1) in
    let parts = left_of row.address (row.address + row.bytes) start (start + bytes) (2 ^ 32) (omega (arith, order.1.0)) (omega arith) (omega arith) end in
    let four = length_four (cut size 0 start row) (flat_map {A = Entry} (λ row. []) (cut size start (start + bytes) row))
    (cut size (start + bytes) (2 ^ 32) row) (removed size start bytes rows) in
    let middle = length_none (cut size start (start + bytes) row) in
    omega (
      arith,
      rest,
      parts,
      four,
      middle,
      length_cut size 0 start row,
      length_cut size (start + bytes) (2 ^ 32) row,
      passed_one start from to row rows order,
      passed_one (start + bytes) from to row rows order,
    )
