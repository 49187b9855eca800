-- What holds of all entries of a list, and is kept when they are cut.
use Rattle.std.proofs.Common.{ℕ, zero, suc, ◌≡◌, ◌+◌, ◌-◌, ◌*◌, ◌/◌, ◌%◌, ◌<◌, ◌≤◌, ◌^◌, Bool, true, false, List, [], ◌∷◌, ◌++◌, refl, subst, ⊎_elim, arith}
use Rattle.std.proofs.Common.{Some, if◌then◌else◌}
use Rattle.std.proofs.lemmas.Bool.{cases_lt}
use Rattle.std.proofs.lemmas.Bool.Decides.{nat_tests}
use Rattle.std.proofs.Math.Nat.{div-zero, div-mul-le_self, div-add-mod'}
use Rattle.std.proofs.lemmas.Nat.{le-div}
use Rattle.std.specs.List.{flat_map}
use Rattle.std.specs.Prelude.{nat_lt, nat_le, max, min, ◌==◌, ◌&&◌, ◌||◌}
use Rattle.vm_base.specs.Entries.{cut, rewritten, entered, entry_at, page_at}
use Rattle.vm_base.specs.declared.entry.Entry.{Entry}
use Rattle.vm_model.specs.Tasks.{has_entry}

abbrev pub AllRows : (Entry → Type 0) → List Entry → Type 0
AllRows P [] = Unit {0}
AllRows P (row ∷ rows) = P row × AllRows P rows

pub rows_map : (P Q : Entry → Type 0) → ((row : Entry) → P row → Q row) → (rows : List Entry) → AllRows P rows
    → AllRows Q rows
rows_map P Q f [] all = tt
rows_map P Q f (row ∷ rows) all = (f row all.0, rows_map P Q f rows all.1)

pub rows_append : (P : Entry → Type 0) (rows more : List Entry) → AllRows P rows → AllRows P more
    → AllRows P (rows ++ more)
rows_append P [] more all next = next
rows_append P (row ∷ rows) more all next = (all.0, rows_append P rows more all.1 next)

pub rows_flat : (P : Entry → Type 0) (f : Entry → List Entry) → ((row : Entry) → P row → AllRows P (f row))
    → (rows : List Entry) → AllRows P rows → AllRows P (flat_map f rows)
rows_flat P f each [] all = tt
rows_flat P f each (row ∷ rows) all =
    rows_append P (f row) (flat_map f rows) (each row all.0) (rows_flat P f each rows all.1)

-- a part of an entry, from `start` up to `end`
abbrev pub part : ℕ → Entry → ℕ → ℕ → Entry
part size row start end =
    record row { address = start; bytes = end - start; offset = row.offset + (start - row.address) / size }

-- parts have what their entry has
abbrev pub HoldsOfParts : ℕ → (Entry → Type 0) → Type 0
HoldsOfParts size P =
    (row : Entry) (start end : ℕ) → P row → row.address ≤ start → start < end → end ≤ row.address + row.bytes
    → P (part size row start end)

pub rows_cut : (size : ℕ) (P : Entry → Type 0) → HoldsOfParts size P → (from to : ℕ) (row : Entry) → P row
    → AllRows P (cut size from to row)
rows_cut size P parts from to row is = by_test (nat_lt (max from row.address) (min to (row.address + row.bytes))) refl
  where
    by_test : (b : Bool) → nat_lt (max from row.address) (min to (row.address + row.bytes)) ≡ b
        → AllRows P (if b then part size row (max from row.address) (min to (row.address + row.bytes)) ∷ [] else [])
    by_test true less = (parts row (max from row.address) (min to (row.address + row.bytes)) is (omega arith) (grind (arith, nat_tests)) (omega arith), tt)
    by_test false less = tt

pub rows_rewritten : (size : ℕ) (P : Entry → Type 0) (becomes : Entry → List Entry) → HoldsOfParts size P
    → ((row : Entry) → P row → AllRows P (becomes row)) → (address bytes : ℕ) (rows : List Entry) → AllRows P rows
    → AllRows P (rewritten becomes size address bytes rows)
rows_rewritten size P becomes parts each address bytes [] all = tt
rows_rewritten size P becomes parts each address bytes (row ∷ rows) all =
    rows_append P (cut size 0 address row) (flat_map becomes (cut size address (address + bytes) row) ++
    (cut size (address + bytes) (2 ^ 32) row ++ rewritten becomes size address bytes rows))
    (rows_cut size P parts 0 address row all.0)
    (rows_append P (flat_map becomes (cut size address (address + bytes) row)) (cut size (address + bytes) (2 ^ 32) row ++ rewritten becomes size address bytes
    rows)
    (rows_flat P becomes each (cut size address (address + bytes) row) (rows_cut size P parts address (address + bytes) row all.0))
    (rows_append P (cut size (address + bytes) (2 ^ 32) row) (rewritten becomes size address bytes rows)
    (rows_cut size P parts (address + bytes) (2 ^ 32) row all.0)
    (rows_rewritten size P becomes parts each address bytes rows all.1)))

pub rows_entered : (P : Entry → Type 0) (new : Entry) (rows : List Entry) → P new → AllRows P rows
    → AllRows P (entered new rows)
rows_entered P new [] is all = (is, tt)
rows_entered P new (row ∷ rows) is all = by_test (rows_entered P new rows is all.1) (nat_lt new.address row.address)
  where
    by_test : AllRows P (entered new rows) → (b : Bool)
        → AllRows P (if b then new ∷ row ∷ rows else row ∷ entered new rows)
    by_test later true = (is, all)
    by_test later false = (all.0, later)

-- the entry that is found is one of them, and holds the address
pub record FoundRow (P : Entry → Type 0) (address : ℕ) (row : Entry) : Type 0 where
  pub is : P row
  pub from : row.address ≤ address
  pub below : address < row.address + row.bytes

pub found_row : (P : Entry → Type 0) (address : ℕ) (rows : List Entry) (entry : Entry) → AllRows P rows
    → entry_at address rows ≡ Some entry → FoundRow P address entry
found_row P address [] entry all found = absurd (cc)
found_row P address (row ∷ rows) entry all found =
    by_test (λ e. found_row P address rows entry all.1 e) (nat_le row.address address && nat_lt address (row.address + row.bytes)) refl found
  where
    by_test : (entry_at address rows ≡ Some entry → FoundRow P address entry) → (b : Bool)
        → (nat_le row.address address && nat_lt address (row.address + row.bytes)) ≡ b
        → (if b then Some row else entry_at address rows) ≡ Some entry → FoundRow P address entry
    by_test later true is e =
        let same : row ≡ entry = cc in
        subst (λ (r : Entry). FoundRow P address r) same (record { is = all.0; from = grind (arith, nat_tests); below = grind (arith, nat_tests) })
    by_test later false is e = later e

-- each has its region among those of the list
pub rows_known : (P : Entry → Type 0) (rows : List Entry) → AllRows P rows → AllRows (λ row. P row × (has_entry row.region.0 rows ≡ true)) rows
rows_known P [] all = tt
rows_known P (row ∷ rows) all = (
  (all.0, grind (arith, nat_tests)),
  rows_map (λ r. P r × (has_entry r.region.0 rows ≡ true)) (λ r. P r × (has_entry r.region.0 (row ∷ rows) ≡ true))
      (λ r is. (is.0, more (row.region.0 == r.region.0) (has_entry r.region.0 rows) is.1)) rows (rows_known P rows all.1),
)
  where
    more : (a b : Bool) → b ≡ true → (a || b) ≡ true
    more true b is = refl
    more false b is = is

-- whole pages

pub div_grows : (size a b : ℕ) → a ≤ b → a / size ≤ b / size
div_grows zero a b le = rw (div-zero a, div-zero b) (omega arith)
div_grows (suc size) a b le = le-div (a / suc size) b (suc size) (omega arith) (omega (arith, div-mul-le_self a (suc size)))

pub div_sum : (size a b : ℕ) → a / size + b / size ≤ (a + b) / size
div_sum zero a b = rw (div-zero a, div-zero b, div-zero (a + b)) (omega arith)
div_sum (suc size) a b =
    le-div (a / suc size + b / suc size) (a + b) (suc size) (omega arith) (omega (arith, div-mul-le_self a (suc size), div-mul-le_self b (suc size)))

-- an address of an entry has a page among its pages
pub page_below : (size x bytes : ℕ) → x < bytes → bytes % size ≡ 0 → x / size < bytes / size
page_below size x bytes less whole =
    ⊎_elim (λ low. low)
    (λ high. let large : bytes / size * size ≤ x = omega (arith, times (bytes / size) (x / size) size high, div-mul-le_self x size) in absurd
    (omega (arith, div-add-mod' bytes size)))
    (cases_lt (x / size) (bytes / size))
  where
    times : (a b c : ℕ) → a ≤ b → a * c ≤ b * c
    times a b c le = grind arith

-- all pages of an entry are pages of its region
pub record Inside (size pages : ℕ) (row : Entry) : Type 0 where
  pub whole : row.offset + row.bytes / size ≤ pages
  pub each : (address : ℕ) → row.address ≤ address → address < row.address + row.bytes
      → page_at size address row < pages

pub inside_part : (size pages : ℕ) (row : Entry) (start end : ℕ) → Inside size pages row → row.address ≤ start
    → start < end → end ≤ row.address + row.bytes → Inside size pages (part size row start end)
inside_part size pages row start end is low less high =
    record {
      whole =
          omega (
            arith,
            div_sum size (start - row.address) (end - start),
            div_grows size (start - row.address + (end - start)) row.bytes (omega arith),
            is.whole,
          );
      each = λ address from to.
          let sum = div_sum size (start - row.address) (address - start) in
          let same : start - row.address + (address - start) ≡ address - row.address = omega arith in
          let is : row.offset + (address - row.address) / size < pages = is.each address (omega arith) (omega arith) in
          let all : (start - row.address) / size + (address - start) / size ≤ (address - row.address) / size = subst
          (λ (k : ℕ). (start - row.address) / size + (address - start) / size ≤ k / size) same sum in
          omega (arith, all, is);
    }
