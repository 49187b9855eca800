-- What holds of entries is kept when they are cut.
use Rattle.std.proofs.Common.{ℕ, ◌≡◌, ◌+◌, ◌-◌, ◌/◌, ◌%◌, ◌<◌, ◌≤◌, ◌^◌, true, false, List, [], ◌∷◌, ◌++◌, ◌∙◌, ⊎_elim, arith}
use Rattle.std.proofs.lemmas.Bool.{cases_lt}
use Rattle.std.proofs.lemmas.Bool.Decides.{nat_tests}
use Rattle.std.specs.List.{flat_map}
use Rattle.std.specs.Prelude.{nat_lt, max, min}
use Rattle.vm_base.specs.Entries.{AllWholePages, HasWholePages, InOrder, cut, rewritten}
use Rattle.vm_base.specs.declared.entry.Entry.{Entry}
use Rattle.vm_maps.specs.Rows.{becomes, becomes_by}
use Rattle.vm_maps.specs.declared.change.MapChange.{MapChange}
use Rattle.vm_maps.specs.declared.change.MapKind.{MapKind}
use Rattle.vm_maps.specs.declared.change.MapKind.TheVariants as kind
use Rattle.vm_maps.proofs.Multiples.{div_grows, div_sum, whole_add, whole_sub}
use Rattle.vm_maps.proofs.Order.{ends_rise}

pub later_start : (low from to : ℕ) (rows : List Entry) → low ≤ from → InOrder from to rows → InOrder low to rows
later_start low from to [] le order = omega arith
later_start low from to (row ∷ rows) le order = (omega (arith, order.0), order.1)

order_append : (from middle to : ℕ) (rows more : List Entry) → InOrder from middle rows → InOrder middle to more → InOrder from to (rows ++ more)
order_append from middle to [] more order next = later_start from middle to more order next
order_append from middle to (row ∷ rows) more order next = (order.0, (order.1.0, order_append (row.address + row.bytes) middle to rows more order.1.1 next))

-- an address held inside an entry
abbrev inside : Entry → ℕ → ℕ
inside row address = min (row.address + row.bytes) (max row.address address)

order_cut : (size from to : ℕ) (row : Entry) → 0 < row.bytes → from ≤ to → InOrder (inside row from) (inside row to) (cut size from to row)
order_cut size from to row some le =
    let part : max from row.address < min to (row.address + row.bytes) → InOrder (inside row from) (inside row to) (cut size from to row)
    = λ less. let test : nat_lt (max from row.address) (min to (row.address + row.bytes)) ≡ true =
    grind (arith, nat_tests) in rw test (omega arith, (omega arith, omega arith)) in
    let none : min to (row.address + row.bytes) ≤ max from row.address → InOrder (inside row from) (inside row to) (cut size from to row)
    = λ ge. let test : nat_lt (max from row.address) (min to (row.address + row.bytes)) ≡ false = grind (arith, nat_tests) in rw test (omega arith) in
    ⊎_elim part none (cases_lt (max from row.address) (min to (row.address + row.bytes)))

order_becomes : (kind : MapKind) (change : MapChange) (from to : ℕ) (rows : List Entry) → InOrder from to rows
    → InOrder from to (flat_map (becomes_by kind change) rows)
order_becomes kind change from to [] order = order
order_becomes kind.Enter change from to (row ∷ rows) order = (order.0, (order.1.0, order_becomes kind.Enter change (row.address + row.bytes) to rows order.1.1))
order_becomes kind.Remove change from to (row ∷ rows) order =
    later_start from (row.address + row.bytes) to (flat_map (becomes_by kind.Remove change) rows) (omega (arith, order.0))
    (order_becomes kind.Remove change (row.address + row.bytes) to rows order.1.1)
order_becomes kind.Protect change from to (row ∷ rows) order =
    (order.0, (order.1.0, order_becomes kind.Protect change (row.address + row.bytes) to rows order.1.1))
order_becomes kind.Inherit change from to (row ∷ rows) order =
    (order.0, (order.1.0, order_becomes kind.Inherit change (row.address + row.bytes) to rows order.1.1))

pub order_rewritten : (change : MapChange) (size start bytes from to : ℕ) (rows : List Entry) → start + bytes ≤ 2 ^ 32 → to ≤ 2 ^ 32 → InOrder from to rows
    → InOrder from to (rewritten (becomes change) size start bytes rows)
order_rewritten change size start bytes from to [] below top order = order
order_rewritten change size start bytes from to (row ∷ rows) below top order =
    let some : 0 < row.bytes = order.1.0 in
    let high : row.address + row.bytes ≤ 2 ^ 32 = omega (arith, ends_rise (row.address + row.bytes) to rows order.1.1) in
    let rest = order_rewritten change size start bytes (row.address + row.bytes) to rows below top order.1.1 in
    let behind = order_append (inside row (start + bytes)) (inside row (2 ^ 32)) to (cut size (start + bytes) (2 ^ 32) row)
    (rewritten (becomes change) size start bytes rows)
    (order_cut size (start + bytes) (2 ^ 32) row some below) (later_start (inside row (2 ^ 32)) (row.address + row.bytes) to
    (rewritten (becomes change) size start bytes rows) (omega arith) rest) in
    let middle = order_append (inside row start) (inside row (start + bytes)) to (flat_map (becomes change) (cut size start (start + bytes) row))
    (cut size (start + bytes) (2 ^ 32) row ++ rewritten (becomes change) size start bytes rows)
    (order_becomes change.kind change (inside row start) (inside row (start + bytes)) (cut size start (start + bytes) row)
    (order_cut size start (start + bytes) row some (omega arith))) behind in
    let all = order_append (inside row 0) (inside row start) to (cut size 0 start row)
    (flat_map (becomes change) (cut size start (start + bytes) row) ++ (cut size (start + bytes) (2 ^ 32) row ++ rewritten (becomes change) size start bytes
    rows))
    (order_cut size 0 start row some (omega arith)) middle in
    later_start from (inside row 0) to (rewritten (becomes change) size start bytes (row ∷ rows)) (omega (arith, order.0)) all

whole_append : (size : ℕ) (rows more : List Entry) → AllWholePages size rows → AllWholePages size more → AllWholePages size (rows ++ more)
whole_append size [] more whole next = next
whole_append size (row ∷ rows) more whole next = (whole.0, whole_append size rows more whole.1 next)

whole_becomes : (kind : MapKind) (change : MapChange) (size : ℕ) (rows : List Entry) → AllWholePages size rows
    → AllWholePages size (flat_map (becomes_by kind change) rows)
whole_becomes kind change size [] whole = tt
whole_becomes kind.Enter change size (row ∷ rows) whole = (whole.0, whole_becomes kind.Enter change size rows whole.1)
whole_becomes kind.Remove change size (row ∷ rows) whole = whole_becomes kind.Remove change size rows whole.1
whole_becomes kind.Protect change size (row ∷ rows) whole =
    (record { address = whole.0.address; bytes = whole.0.bytes; pages = whole.0.pages }, whole_becomes kind.Protect change size rows whole.1)
whole_becomes kind.Inherit change size (row ∷ rows) whole =
    (record { address = whole.0.address; bytes = whole.0.bytes; pages = whole.0.pages }, whole_becomes kind.Inherit change size rows whole.1)

whole_max : (size a b : ℕ) → a % size ≡ 0 → b % size ≡ 0 → max a b % size ≡ 0
whole_max size a b whole_a whole_b =
    ⊎_elim (λ less. let e : max a b ≡ b = omega arith in rw e whole_b) (λ le. let e : max a b ≡ a = omega arith in rw e whole_a) (cases_lt a b)

whole_min : (size a b : ℕ) → a % size ≡ 0 → b % size ≡ 0 → min a b % size ≡ 0
whole_min size a b whole_a whole_b =
    ⊎_elim (λ less. let e : min a b ≡ a = omega arith in rw e whole_a) (λ le. let e : min a b ≡ b = omega arith in rw e whole_b) (cases_lt a b)

-- a part of whole pages has whole pages
whole_part : (size start end : ℕ) (row : Entry) → HasWholePages size row → start % size ≡ 0 → end % size ≡ 0 → row.address ≤ start → start < end
    → end ≤ row.address + row.bytes
    → HasWholePages size (record row { address = start; bytes = end - start; offset = row.offset + (start - row.address) / size })
whole_part size start end row whole from to low less high =
    let sum = div_sum size (start - row.address) (end - start) in
    let all = div_grows size (start - row.address + (end - start)) row.bytes (omega arith) in
    record {
      address = from;
      bytes = whole_sub size end start (omega arith) to from;
      pages = omega (arith, sum, all, whole.pages);
    }

whole_cut : (size from to : ℕ) (row : Entry) → HasWholePages size row → max from row.address % size ≡ 0 → min to (row.address + row.bytes) % size ≡ 0
    → AllWholePages size (cut size from to row)
whole_cut size from to row whole start end =
    let part : max from row.address < min to (row.address + row.bytes) → AllWholePages size (cut size from to row)
    = λ less. let test : nat_lt (max from row.address) (min to (row.address + row.bytes)) ≡ true = grind (arith, nat_tests) in
    rw test (whole_part size (max from row.address) (min to (row.address + row.bytes)) row whole start end (omega arith) less (omega arith), tt) in
    let none : min to (row.address + row.bytes) ≤ max from row.address → AllWholePages size (cut size from to row)
    = λ ge. let test : nat_lt (max from row.address) (min to (row.address + row.bytes)) ≡ false = grind (arith, nat_tests) in rw test tt in
    ⊎_elim part none (cases_lt (max from row.address) (min to (row.address + row.bytes)))

pub whole_rewritten : (change : MapChange) (size start bytes from to : ℕ) (rows : List Entry) → start % size ≡ 0 → bytes % size ≡ 0 → to ≤ 2 ^ 32
    → InOrder from to rows → AllWholePages size rows
    → AllWholePages size (rewritten (becomes change) size start bytes rows)
whole_rewritten change size start bytes from to [] first last top order whole = tt
whole_rewritten change size start bytes from to (row ∷ rows) first last top order whole =
    let high : row.address + row.bytes ≤ 2 ^ 32 = omega (arith, ends_rise (row.address + row.bytes) to rows order.1.1) in
    let end : (start + bytes) % size ≡ 0 = whole_add size start bytes first ∙ last in
    let row_end : (row.address + row.bytes) % size ≡ 0 = whole_add size row.address row.bytes whole.0.address ∙ whole.0.bytes in
    let top_end : min (2 ^ 32) (row.address + row.bytes) % size ≡ 0 = let e : min (2 ^ 32) (row.address + row.bytes) ≡ row.address + row.bytes = omega
    arith in rw e row_end in
    let zero_start : max 0 row.address % size ≡ 0 = let e : max 0 row.address ≡ row.address = omega arith in rw e whole.0.address in
    let rest = whole_rewritten change size start bytes (row.address + row.bytes) to rows first last top order.1.1 whole.1 in
    let behind = whole_append size (cut size (start + bytes) (2 ^ 32) row) (rewritten (becomes change) size start bytes rows)
    (whole_cut size (start + bytes) (2 ^ 32) row whole.0 (whole_max size (start + bytes) row.address end whole.0.address) top_end) rest in
    let middle = whole_append size (flat_map (becomes change) (cut size start (start + bytes) row))
    (cut size (start + bytes) (2 ^ 32) row ++ rewritten (becomes change) size start bytes rows)
    (whole_becomes change.kind change size (cut size start (start + bytes) row) (whole_cut size start (start + bytes) row whole.0
    (whole_max size start row.address first whole.0.address) (whole_min size (start + bytes) (row.address + row.bytes) end row_end))) behind in
    whole_append size (cut size 0 start row) (flat_map (becomes change) (cut size start (start + bytes) row) ++
    (cut size (start + bytes) (2 ^ 32) row ++ rewritten (becomes change) size start bytes rows))
    (whole_cut size 0 start row whole.0 zero_start (whole_min size start (row.address + row.bytes) first row_end)) middle
