-- A new entry in a free range.
use Rattle.std.proofs.Common.{ℕ, ◌≡◌, ◌+◌, ◌<◌, ◌≤◌, true, false, List, [], ◌∷◌, length, refl, ap, ⊎_elim, arith}
use Rattle.std.proofs.lemmas.Bool.{cases_lt}
use Rattle.std.proofs.lemmas.Bool.Decides.{nat_tests}
use Rattle.std.specs.List.{insert}
use Rattle.std.specs.Prelude.{nat_le, nat_lt}
use Rattle.vm_base.specs.Entries.{AllWholePages, HasWholePages, InOrder, entered, meets_range}
use Rattle.vm_base.specs.declared.entry.Entry.{Entry}
use Rattle.vm_maps.specs.Rows.{passed}

-- an entry in front of a free range, or behind it
pub record Clear (new row : Entry) (rows : List Entry) : Type 0 where
  pub behind : new.address < row.address + row.bytes → new.address + new.bytes ≤ row.address
  pub rest : meets_range new.address new.bytes rows ≡ false

pub clear : (new row : Entry) (rows : List Entry) → meets_range new.address new.bytes (row ∷ rows) ≡ false → Clear new row rows
clear new row rows free = record { behind = λ less. grind (arith, nat_tests); rest = grind (arith, nat_tests) }

pub entered_at : (from to : ℕ) (new : Entry) (rows : List Entry) → InOrder from to rows → 0 < new.bytes → meets_range new.address new.bytes rows ≡ false
    → entered new rows ≡ insert rows (passed new.address rows) new
entered_at from to new [] order some free = refl
entered_at from to new (row ∷ rows) order some free =
    let open_range = clear new row rows free in
    let front : new.address < row.address + row.bytes → entered new (row ∷ rows) ≡ insert (row ∷ rows) (passed new.address (row ∷ rows)) new
    = λ less.
    let far = open_range.behind less in
    let yes : nat_lt new.address row.address ≡ true = grind (arith, nat_tests) in
    let no : nat_le (row.address + row.bytes) new.address ≡ false = grind (arith, nat_tests) in
    rw (yes, no) refl in
    let later : row.address + row.bytes ≤ new.address → entered new (row ∷ rows) ≡ insert (row ∷ rows) (passed new.address (row ∷ rows)) new
    = λ le.
    let row_some = order.1.0 in
    let no : nat_lt new.address row.address ≡ false = grind (arith, nat_tests) in
    let yes : nat_le (row.address + row.bytes) new.address ≡ true = grind (arith, nat_tests) in
    rw (yes, no) (ap (λ z. row ∷ z) (entered_at (row.address + row.bytes) to new rows order.1.1 some open_range.rest)) in
    ⊎_elim front later (cases_lt new.address (row.address + row.bytes))

pub order_entered : (from to : ℕ) (new : Entry) (rows : List Entry) → InOrder from to rows → from ≤ new.address → new.address + new.bytes ≤ to → 0 < new.bytes
    → meets_range new.address new.bytes rows ≡ false → InOrder from to (entered new rows)
order_entered from to new [] order low high some free = (low, (some, high))
order_entered from to new (row ∷ rows) order low high some free =
    let open_range = clear new row rows free in
    let front : new.address < row.address + row.bytes → InOrder from to (entered new (row ∷ rows))
    = λ less.
    let far = open_range.behind less in
    let yes : nat_lt new.address row.address ≡ true = grind (arith, nat_tests) in
    rw yes (low, (some, (far, order.1))) in
    let later : row.address + row.bytes ≤ new.address → InOrder from to (entered new (row ∷ rows))
    = λ le.
    let row_some = order.1.0 in
    let no : nat_lt new.address row.address ≡ false = grind (arith, nat_tests) in
    rw no (order.0, (order.1.0, order_entered (row.address + row.bytes) to new rows order.1.1 le high some open_range.rest)) in
    ⊎_elim front later (cases_lt new.address (row.address + row.bytes))

pub whole_entered : (size : ℕ) (new : Entry) (rows : List Entry) → AllWholePages size rows → HasWholePages size new → AllWholePages size (entered new rows)
whole_entered size new [] whole one = (one, tt)
whole_entered size new (row ∷ rows) whole one =
    ⊎_elim
    (λ less. let yes : nat_lt new.address row.address ≡ true = grind (arith, nat_tests) in rw yes (one, whole))
    (λ le. let no : nat_lt new.address row.address ≡ false = grind (arith, nat_tests) in rw no (whole.0, whole_entered size new rows whole.1 one))
    (cases_lt new.address row.address)

pub length_entered : (new : Entry) (rows : List Entry) → length (entered new rows) ≡ length rows + 1
length_entered new [] = refl
length_entered new (row ∷ rows) = let rest = length_entered new rows in grind (arith, nat_tests, rest)
