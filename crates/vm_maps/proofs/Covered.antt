-- A walk without a gap, and pages that are each in some entry.
use Rattle.std.proofs.Common.{ℕ, zero, suc, ◌≡◌, ◌+◌, ◌*◌, ◌/◌, ◌%◌, ◌<◌, ◌≤◌, ◌^◌, true, false, List, [], ◌∷◌, drop, None, refl, sym, ◌∙◌, ap, ⊎_elim, arith}
use Rattle.std.proofs.lemmas.Bool.{cases_lt}
use Rattle.std.proofs.lemmas.Bool.Decides.{nat_tests}
use Rattle.std.specs.Prelude.{is_some, nat_le}
use Rattle.vm_base.specs.Entries.{AllWholePages, AreEntries, InOrder, are_mapped, entry_at, is_mapped}
use Rattle.vm_base.specs.declared.entry.Entry.{Entry}
use Rattle.vm_maps.specs.Rows.{is_without_gap, passed}
use Rattle.vm_maps.proofs.Found.{none_at}
use Rattle.vm_maps.proofs.Multiples.{page_between, pages_of, whole_add, whole_step}
use Rattle.vm_maps.proofs.Walk.{reaches_done}

-- an entry in front of the pages doesn't matter
mapped_behind : (size pages address : ℕ) (row : Entry) (rows : List Entry) → row.address + row.bytes ≤ address
    → are_mapped size address pages (row ∷ rows) ≡ are_mapped size address pages rows
mapped_behind size zero address row rows behind = refl
mapped_behind size (suc pages) address row rows behind =
    let rest = mapped_behind size pages (address + size) row rows (omega arith) in
    grind (arith, nat_tests, rest)

abbrev EndsBehind : ℕ → List Entry → Type 0
EndsBehind address [] = Unit {0}
EndsBehind address (row ∷ rows) = address < row.address + row.bytes

ends_behind : (from to : ℕ) (rows : List Entry) → InOrder from to rows → EndsBehind from rows
ends_behind from to [] order = tt
ends_behind from to (row ∷ rows) order = omega (arith, order.0, order.1.0)

-- pages from inside an entry on, where the walk behind it tells the pages behind it
mapped_from : (size pages address : ℕ) (row : Entry) (rows : List Entry) → 0 < size → row.address ≤ address → address < row.address + row.bytes
    → address % size ≡ 0 → (row.address + row.bytes) % size ≡ 0
    → ((n : ℕ) → is_without_gap (row.address + row.bytes) (row.address + row.bytes + n * size) rows ≡ are_mapped size (row.address + row.bytes) n rows)
    → is_without_gap (row.address + row.bytes) (address + pages * size) rows ≡ are_mapped size address pages (row ∷ rows)
mapped_from size zero address row rows some low high whole ends rest = reaches_done (row.address + row.bytes) (address + 0 * size) rows (omega arith)
mapped_from size (suc pages) address row rows some low high whole ends rest =
    let near : address + size ≤ row.address + row.bytes = page_between size address (row.address + row.bytes) some whole ends high in
    let here : is_some (entry_at address (row ∷ rows)) ≡ true = grind (arith, nat_tests) in
    let sum : address + suc pages * size ≡ address + size + pages * size = omega arith in
    let next : address + size < row.address + row.bytes
    → is_without_gap (row.address + row.bytes) (address + size + pages * size) rows ≡ are_mapped size (address + size) pages (row ∷ rows)
    = λ less. mapped_from size pages (address + size) row rows some (omega arith) less (whole_step size address whole) ends rest in
    let last : address + size ≡ row.address + row.bytes
    → is_without_gap (row.address + row.bytes) (address + size + pages * size) rows ≡ are_mapped size (address + size) pages (row ∷ rows)
    = λ same. rw same (rest pages ∙ sym (mapped_behind size pages (row.address + row.bytes) row rows (omega arith))) in
    rw (sum, here) (⊎_elim next (λ le. last (omega (arith, le, near))) (cases_lt (address + size) (row.address + row.bytes)))

mapped_walk : (size address from to pages : ℕ) (rows : List Entry) → 0 < size → InOrder from to rows → AllWholePages size rows → address % size ≡ 0
    → EndsBehind address rows
    → is_without_gap address (address + pages * size) rows ≡ are_mapped size address pages rows
mapped_walk size address from to zero [] some order whole start ends = grind (arith, nat_tests)
mapped_walk size address from to (suc pages) [] some order whole start ends =
    let more : address < address + suc pages * size = omega arith in grind (arith, nat_tests)
mapped_walk size address from to zero (row ∷ rows) some order whole start ends = grind (arith, nat_tests)
mapped_walk size address from to (suc pages) (row ∷ rows) some order whole start ends =
    let more : address < address + suc pages * size = omega arith in
    let last : (row.address + row.bytes) % size ≡ 0 = whole_add size row.address row.bytes whole.0.address ∙ whole.0.bytes in
    let rest : (n : ℕ) → is_without_gap (row.address + row.bytes) (row.address + row.bytes + n * size) rows ≡ are_mapped size (row.address + row.bytes) n rows
    = λ n. mapped_walk size (row.address + row.bytes) (row.address + row.bytes) to n rows some order.1.1 whole.1 last
    (ends_behind (row.address + row.bytes) to rows order.1.1) in
    let inside : row.address ≤ address → is_without_gap (row.address + row.bytes) (address + suc pages * size) rows ≡ are_mapped size address (suc pages)
    (row ∷ rows)
    = λ low. mapped_from size (suc pages) address row rows some low ends start last rest in
    let outside : address < row.address → is_some (entry_at address (row ∷ rows)) ≡ false
    = λ low. let none : entry_at address rows ≡ None = none_at address (row.address + row.bytes) to rows order.1.1 (omega arith) in grind (arith, nat_tests) in
    let opens : row.address ≤ address → is_without_gap address (address + suc pages * size) (row ∷ rows) ≡ is_without_gap (row.address + row.bytes)
    (address + suc pages * size) rows
    = λ low. grind (arith, nat_tests) in
    ⊎_elim (λ low. let none = outside low in rw none (grind (arith, nat_tests))) (λ low. opens low ∙ inside low) (cases_lt address row.address)

walk_from : (size address from to pages : ℕ) (rows : List Entry) → 0 < size → InOrder from to rows → AllWholePages size rows → address % size ≡ 0
    → is_without_gap address (address + pages * size) (drop (passed address rows) rows) ≡ are_mapped size address pages rows
walk_from size address from to pages [] some order whole start = mapped_walk size address from to pages [] some order whole start tt
walk_from size address from to pages (row ∷ rows) some order whole start =
    let behind : row.address + row.bytes ≤ address → is_without_gap address (address + pages * size)
    (drop (passed address (row ∷ rows)) (row ∷ rows)) ≡ are_mapped size address pages (row ∷ rows)
    = λ le. let test : nat_le (row.address + row.bytes) address ≡ true = grind (arith, nat_tests) in
    rw test (walk_from size address (row.address + row.bytes) to pages rows some order.1.1 whole.1 start
    ∙ sym (mapped_behind size pages address row rows le)) in
    let ahead : address < row.address + row.bytes → is_without_gap address (address + pages * size)
    (drop (passed address (row ∷ rows)) (row ∷ rows)) ≡ are_mapped size address pages (row ∷ rows)
    = λ less. let test : nat_le (row.address + row.bytes) address ≡ false = grind (arith, nat_tests) in
    rw test (mapped_walk size address from to pages (row ∷ rows) some order whole start less) in
    ⊎_elim ahead behind (cases_lt address (row.address + row.bytes))

-- where a walk finds no gap, each page is mapped
pub covered : (size address bytes : ℕ) (rows : List Entry) → 0 < size → AreEntries size rows → address % size ≡ 0 → bytes % size ≡ 0
    → is_without_gap address (address + bytes) (drop (passed address rows) rows) ≡ is_mapped size address bytes rows
covered size address bytes rows some are start whole =
    ap (λ z. is_without_gap address (address + z) (drop (passed address rows) rows)) (sym (pages_of size bytes whole))
    ∙ walk_from size address 0 (2 ^ 32) (bytes / size) rows some are.in_order are.whole start
