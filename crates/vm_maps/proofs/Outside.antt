-- Entries that don't meet a range stay as they are, and those that meet it stand behind one another.
use Rattle.std.proofs.Common.{ℕ, suc, ◌≡◌, ◌+◌, ◌-◌, ◌/◌, ◌<◌, ◌≤◌, ◌^◌, true, false, List, [], ◌∷◌, ◌++◌, length, take, drop, refl, sym, ◌∙◌, ap, append-nil}
use Rattle.std.proofs.Common.{⊎_elim, arith}
use Rattle.std.proofs.Math.Nat.{zero-div}
use Rattle.std.proofs.lemmas.Bool.{cases_lt}
use Rattle.std.proofs.lemmas.Bool.Decides.{nat_tests}
use Rattle.std.specs.Prelude.{nat_le, nat_lt, max, min}
use Rattle.vm_base.specs.Entries.{InOrder, cut, parts_in, rewritten}
use Rattle.vm_base.specs.declared.entry.Entry.{Entry}
use Rattle.vm_maps.specs.Rows.{cuts_at, passed}
use Rattle.vm_maps.proofs.Found.{none_cut}
use Rattle.vm_maps.proofs.Kept.{later_start}
use Rattle.vm_maps.proofs.Order.{ends_rise}

same_row : (start bytes offset : ℕ) (row : Entry) → start ≡ row.address → bytes ≡ row.bytes → offset ≡ row.offset
    → record row { address = start; bytes = bytes; offset = offset } ≡ row
same_row start bytes offset row p q r = λ i. record row { address = p i; bytes = q i; offset = r i }

pub cut_all : (size from to : ℕ) (row : Entry) → 0 < row.bytes → from ≤ row.address → row.address + row.bytes ≤ to → cut size from to row ≡ row ∷ []
cut_all size from to row some low high =
    let start : max from row.address ≡ row.address = omega arith in
    let end : min to (row.address + row.bytes) ≡ row.address + row.bytes = omega arith in
    let test : nat_lt (max from row.address) (min to (row.address + row.bytes)) ≡ true = grind (arith, nat_tests) in
    let none : max from row.address - row.address ≡ 0 = omega arith in
    let pages : (max from row.address - row.address) / size ≡ 0 = ap (λ z. z / size) none ∙ zero-div size in
    rw test (ap (λ z. z ∷ []) (same_row _ _ _ row start (omega arith) (omega (arith, pages))))

pub cut_behind : (size from to : ℕ) (row : Entry) → to ≤ row.address → cut size from to row ≡ []
cut_behind size from to row behind =
    let test : nat_lt (max from row.address) (min to (row.address + row.bytes)) ≡ false = grind (arith, nat_tests) in rw test refl

pub cut_front : (size from to : ℕ) (row : Entry) → row.address + row.bytes ≤ from → cut size from to row ≡ []
cut_front size from to row front =
    let test : nat_lt (max from row.address) (min to (row.address + row.bytes)) ≡ false = grind (arith, nat_tests) in rw test refl

pub rewritten_front : (becomes : Entry → List Entry) (size start bytes from to : ℕ) (rows : List Entry) → InOrder from to rows
    → rewritten becomes size start bytes rows ≡ take (passed start rows) rows ++ rewritten becomes size start bytes (drop (passed start rows) rows)
rewritten_front becomes size start bytes from to [] order = refl
rewritten_front becomes size start bytes from to (row ∷ rows) order =
    let rest = rewritten_front becomes size start bytes (row.address + row.bytes) to rows order.1.1 in
    let front : row.address + row.bytes ≤ start → rewritten becomes size start bytes (row ∷ rows) ≡ take (passed start (row ∷ rows)) (row ∷ rows) ++ rewritten
    becomes size start bytes (drop (passed start (row ∷ rows)) (row ∷ rows))
    = λ le.
    let yes : nat_le (row.address + row.bytes) start ≡ true = grind (arith, nat_tests) in
    rw (
      yes,
      cut_all size 0 start row order.1.0 (omega arith) le,
      cut_front size start (start + bytes) row le,
      cut_front size (start + bytes) (2 ^ 32) row (omega arith),
    ) (ap (λ z. row ∷ z) rest) in
    let behind : start < row.address + row.bytes → rewritten becomes size start bytes (row ∷ rows) ≡ take (passed start (row ∷ rows)) (row ∷ rows) ++ rewritten
    becomes size start bytes (drop (passed start (row ∷ rows)) (row ∷ rows))
    = λ less. let no : nat_le (row.address + row.bytes) start ≡ false = grind (arith, nat_tests) in rw no refl in
    ⊎_elim behind front (cases_lt start (row.address + row.bytes))

pub parts_front : (size start bytes : ℕ) (rows : List Entry) → parts_in size start bytes rows ≡ parts_in size start bytes (drop (passed start rows) rows)
parts_front size start bytes [] = refl
parts_front size start bytes (row ∷ rows) =
    let rest = parts_front size start bytes rows in
    let front : row.address + row.bytes ≤ start → parts_in size start bytes (row ∷ rows) ≡ parts_in size start bytes
    (drop (passed start (row ∷ rows)) (row ∷ rows))
    = λ le. let yes : nat_le (row.address + row.bytes) start ≡ true = grind (arith, nat_tests) in rw (yes, cut_front size start (start + bytes) row le) rest in
    let behind : start < row.address + row.bytes → parts_in size start bytes (row ∷ rows) ≡ parts_in size start bytes
    (drop (passed start (row ∷ rows)) (row ∷ rows))
    = λ less. let no : nat_le (row.address + row.bytes) start ≡ false = grind (arith, nat_tests) in rw no refl in
    ⊎_elim behind front (cases_lt start (row.address + row.bytes))

pub rewritten_behind : (becomes : Entry → List Entry) (size start bytes from to : ℕ) (rows : List Entry) → InOrder from to rows → start + bytes ≤ from
    → to ≤ 2 ^ 32 → rewritten becomes size start bytes rows ≡ rows
rewritten_behind becomes size start bytes from to [] order low top = refl
rewritten_behind becomes size start bytes from to (row ∷ rows) order low top =
    let far : start + bytes ≤ row.address = omega (arith, order.0) in
    let high : row.address + row.bytes ≤ 2 ^ 32 = omega (arith, ends_rise (row.address + row.bytes) to rows order.1.1) in
    let rest = rewritten_behind becomes size start bytes (row.address + row.bytes) to rows order.1.1 (omega arith) top in
    rw (cut_behind size 0 start row (omega arith), cut_behind size start (start + bytes) row far, cut_all size (start + bytes) (2 ^ 32) row order.1.0 far high)
    (ap (λ z. row ∷ z) rest)

pub parts_behind : (size start bytes from to : ℕ) (rows : List Entry) → InOrder from to rows → start + bytes ≤ from → parts_in size start bytes rows ≡ []
parts_behind size start bytes from to [] order low = refl
parts_behind size start bytes from to (row ∷ rows) order low =
    let rest = parts_behind size start bytes (row.address + row.bytes) to rows order.1.1 (omega (arith, order.0)) in
    rw (cut_behind size start (start + bytes) row (omega (arith, order.0))) rest

-- how many entries begin below an address
abbrev pub begun : ℕ → List Entry → ℕ
begun address rows = passed address rows + cuts_at address rows

pub order_behind : (address from to : ℕ) (rows : List Entry) → InOrder from to rows → address ≤ to → InOrder address to (drop (begun address rows) rows)
order_behind address from to [] order le = le
order_behind address from to (row ∷ rows) order le =
    let some = order.1.0 in
    let none = none_cut address (row.address + row.bytes) to rows order.1.1 in
    let past : row.address + row.bytes ≤ address → begun address (row ∷ rows) ≡ suc (begun address rows) = λ less. grind (arith, nat_tests) in
    let cuts : row.address < address → address < row.address + row.bytes → begun address (row ∷ rows) ≡ 1 = λ low high. grind (arith, nat_tests, none) in
    let later : address ≤ row.address → begun address (row ∷ rows) ≡ 0 = λ low. grind (arith, nat_tests, none) in
    ⊎_elim
    (λ high. ⊎_elim
    (λ low. rw (cuts low high) (later_start address (row.address + row.bytes) to rows (omega arith) order.1.1))
    (λ low. rw (later low) (low, order.1))
    (cases_lt row.address address))
    (λ less. rw (past less) (order_behind address (row.address + row.bytes) to rows order.1.1 le))
    (cases_lt address (row.address + row.bytes))

pub begun_within : (address from to : ℕ) (rows : List Entry) → InOrder from to rows → begun address rows ≤ length rows
begun_within address from to [] order = omega arith
begun_within address from to (row ∷ rows) order =
    let rest = begun_within address (row.address + row.bytes) to rows order.1.1 in
    let none = none_cut address (row.address + row.bytes) to rows order.1.1 in
    let some = order.1.0 in
    grind (arith, nat_tests, rest, none)

pub passed_grows : (low high : ℕ) (rows : List Entry) → low ≤ high → passed low rows ≤ passed high rows
passed_grows low high [] le = omega arith
passed_grows low high (row ∷ rows) le = let rest = passed_grows low high rows le in grind (arith, nat_tests, rest)

-- the entries in front of the range, what is left of those that meet it, and those behind it
pub rewritten_met : (becomes : Entry → List Entry) (size start bytes : ℕ) (rows kept : List Entry) → InOrder 0 (2 ^ 32) rows → start + bytes ≤ 2 ^ 32
    → kept ++ rewritten becomes size start bytes (drop (begun (start + bytes) rows) rows) ≡ rewritten becomes size start bytes (drop (passed start rows) rows)
    → take (passed start rows) rows ++ (kept ++ drop (begun (start + bytes) rows) rows) ≡ rewritten becomes size start bytes rows
rewritten_met becomes size start bytes rows kept order end met =
    let rest = drop (begun (start + bytes) rows) rows in
    let stays = rewritten_behind becomes size start bytes (start + bytes) (2 ^ 32) rest (order_behind (start + bytes) 0 (2 ^ 32) rows order end) (omega arith)
    (omega arith) in
    ap (λ z. take (passed start rows) rows ++ z) (ap (λ z. kept ++ z) (sym stays) ∙ met) ∙ sym (rewritten_front becomes size start bytes 0 (2 ^ 32) rows order)

pub parts_met : (size start bytes : ℕ) (rows taken all : List Entry) → InOrder 0 (2 ^ 32) rows → start + bytes ≤ 2 ^ 32
    → taken ++ parts_in size start bytes (drop (begun (start + bytes) rows) rows) ≡ all → taken ≡ all
parts_met size start bytes rows taken all order end met =
    let none = parts_behind size start bytes (start + bytes) (2 ^ 32) (drop (begun (start + bytes) rows) rows)
    (order_behind (start + bytes) 0 (2 ^ 32) rows order end) (omega arith) in
    sym (append-nil taken) ∙ rw none at met
