-- Entries that are cut at a boundary, and those between two boundaries that cut none.
use Rattle.std.proofs.Common.{ℕ, zero, suc, ◌≡◌, ◌+◌, ◌-◌, ◌/◌, ◌%◌, ◌<◌, ◌≤◌, ◌^◌, true, false, List, [], ◌∷◌, ◌++◌, length, take, drop, set, Some, None, refl, sym, ◌∙◌, ap}
use Rattle.std.proofs.Common.{add-one, append_assoc, append-nil, ◌⊎◌, ⊎_elim, arith}
use Rattle.std.proofs.Math.Nat.{zero-div}
use Rattle.std.proofs.lemmas.Bool.{cases_lt}
use Rattle.std.proofs.lemmas.Bool.Decides.{nat_tests}
use Rattle.std.proofs.lemmas.List.{drop-set-lt, take-append-drop, take_more_set}
use Rattle.std.proofs.lemmas.Option.{none-some, same_Some, slice_get_within}
use Rattle.std.specs.List.{flat_map, insert}
use Rattle.std.specs.Prelude.{nat_le, nat_lt, max, min, slice_get, if◌then◌else◌}
use Rattle.vm_base.specs.Entries.{AllWholePages, AreEntries, HasWholePages, InOrder, cut, most_entries, rewritten}
use Rattle.vm_base.specs.declared.entry.Entry.{Entry}
use Rattle.vm_maps.specs.Rows.{altered, becomes_by, cuts_at, if_below, passed, split}
use Rattle.vm_maps.specs.declared.change.MapChange.{MapChange}
use Rattle.vm_maps.specs.declared.change.MapKind.{MapKind}
use Rattle.vm_maps.specs.declared.change.MapKind.TheVariants as kind
use Rattle.vm_maps.proofs.Counts.{length_rewritten, passed_none}
use Rattle.vm_maps.proofs.Found.{begins, begins_below, cut_of, none_begins, none_cut}
use Rattle.vm_maps.proofs.Kept.{later_start}
use Rattle.vm_maps.proofs.Mappings.{pages_apart}
use Rattle.vm_maps.proofs.Multiples.{div_grows, div_sum, whole_sub}
use Rattle.vm_maps.proofs.Order.{ends_rise, passed_above, passed_within}
use Rattle.vm_maps.proofs.Outside.{begun, cut_all, cut_behind, cut_front, passed_grows, rewritten_behind}
use Rattle.vm_maps.proofs.Pages.{whole_at}
use Rattle.vm_maps.proofs.Range.{IsRange}
use Rattle.vm_maps.proofs.Walk.{drop_one}

-- the parts of an entry in front of a boundary in it, and behind it
abbrev pub head : ℕ → Entry → Entry
head at row = record row { bytes = at - row.address }

abbrev pub tail : ℕ → ℕ → Entry → Entry
tail size at row = record row { address = at; bytes = row.bytes - (at - row.address); offset = row.offset + (at - row.address) / size }

-- a part of an entry, by where it begins and ends, and by its first page
abbrev part : Entry → ℕ → ℕ → ℕ → List Entry
part row start end offset = if nat_lt start end then record row { address = start; bytes = end - start; offset = offset } ∷ [] else []

part_same : (row : Entry) (start end offset first last page : ℕ) → start ≡ first → end ≡ last → offset ≡ page
    → part row start end offset ≡ part row first last page
part_same row start end offset first last page p q r = λ i. part row (p i) (q i) (r i)

part_some : (row : Entry) (start bytes offset : ℕ) → 0 < bytes
    → part row start (start + bytes) offset ≡ record row { address = start; bytes = bytes; offset = offset } ∷ []
part_some row start bytes offset some =
    let test : nat_lt start (start + bytes) ≡ true = grind (arith, nat_tests) in
    let whole : start + bytes - start ≡ bytes = omega arith in
    rw (test, whole) refl

cut_head : (size at : ℕ) (row : Entry) → row.address < at → at ≤ row.address + row.bytes → cut size 0 at row ≡ head at row ∷ []
cut_head size at row low high =
    let none : max 0 row.address - row.address ≡ 0 = omega arith in
    let pages : (max 0 row.address - row.address) / size ≡ 0 = ap (λ z. z / size) none ∙ zero-div size in
    part_same row (max 0 row.address) (min at (row.address + row.bytes)) (row.offset + (max 0 row.address - row.address) / size) row.address
    (row.address + (at - row.address)) row.offset (omega arith) (omega arith) (omega (arith, pages))
    ∙ part_some row row.address (at - row.address) row.offset (omega arith)

cut_tail : (size at : ℕ) (row : Entry) → row.address ≤ at → at < row.address + row.bytes → row.address + row.bytes ≤ 2 ^ 32
    → cut size at (2 ^ 32) row ≡ tail size at row ∷ []
cut_tail size at row low high top =
    let start : max at row.address ≡ at = omega arith in
    part_same row (max at row.address) (min (2 ^ 32) (row.address + row.bytes)) (row.offset + (max at row.address - row.address) / size) at
    (at + (row.bytes - (at - row.address))) (row.offset + (at - row.address) / size) start (omega arith)
    (ap (λ z. row.offset + (z - row.address) / size) start)
    ∙ part_some row at (row.bytes - (at - row.address)) (row.offset + (at - row.address) / size) (omega arith)

-- a part of a part is a part of the entry
cut_of_head : (size from to at : ℕ) (row : Entry) → row.address < at → at < row.address + row.bytes → to ≤ at
    → cut size from to (head at row) ≡ cut size from to row
cut_of_head size from to at row low high le =
    part_same row (max from row.address) (min to (row.address + (at - row.address))) (row.offset + (max from row.address - row.address) / size)
    (max from row.address) (min to (row.address + row.bytes)) (row.offset + (max from row.address - row.address) / size) refl (omega arith) refl

cut_of_tail : (size from to at : ℕ) (row : Entry) → row.address ≤ at → at < row.address + row.bytes → at ≤ from → (at - row.address) % size ≡ 0
    → cut size from to (tail size at row) ≡ cut size from to row
cut_of_tail size from to at row low high le whole =
    let start : max from at ≡ from = omega arith in
    let first : max from row.address ≡ from = omega arith in
    let apart = pages_apart size (at - row.address) (from - at) whole in
    let sum : at - row.address + (from - at) ≡ from - row.address = omega arith in
    let pages : (from - row.address) / size ≡ (at - row.address) / size + (from - at) / size = sym (ap (λ z. z / size) sum) ∙ apart in
    let page : row.offset + (at - row.address) / size + (max from at - at) / size ≡ row.offset + (max from row.address - row.address) / size
    = ap (λ z. row.offset + (at - row.address) / size + (z - at) / size) start
    ∙ (omega (arith, pages) ∙ sym (ap (λ z. row.offset + (z - row.address) / size) first)) in
    part_same row (max from at) (min to (at + (row.bytes - (at - row.address)))) (row.offset + (at - row.address) / size + (max from at - at) / size)
    (max from row.address) (min to (row.address + row.bytes)) (row.offset + (max from row.address - row.address) / size) (omega arith) (omega arith) page

-- what holds of entries where the first one is in front of a boundary, or behind it, or is cut there
by_boundary : (P : List Entry → Type 0) (size at : ℕ) (row : Entry) (rest : List Entry) → 0 < row.bytes → row.address + row.bytes ≤ 2 ^ 32
    → (row.address + row.bytes ≤ at → P (row ∷ rest)) → (at ≤ row.address → P (row ∷ rest))
    → (row.address < at → at < row.address + row.bytes → P (head at row ∷ tail size at row ∷ rest)) → P (cut size 0 at row ++ (cut size at (2 ^ 32) row ++ rest))
by_boundary P size at row rest some top front behind both =
    ⊎_elim
    (λ (high : at < row.address + row.bytes). ⊎_elim
    (λ (low : row.address < at). rw (cut_head size at row low (omega arith), cut_tail size at row (omega arith) high top) (both low high))
    (λ (low : at ≤ row.address). rw (cut_behind size 0 at row low, cut_all size at (2 ^ 32) row some low top) (behind low))
    (cases_lt row.address at))
    (λ (le : row.address + row.bytes ≤ at). rw (cut_all size 0 at row some (omega arith) le, cut_front size at (2 ^ 32) row le) (front le))
    (cases_lt at (row.address + row.bytes))

below_top : (to : ℕ) (row : Entry) (rows : List Entry) → InOrder (row.address + row.bytes) to rows → to ≤ 2 ^ 32 → row.address + row.bytes ≤ 2 ^ 32
below_top to row rows order top = omega (arith, ends_rise (row.address + row.bytes) to rows order)

pub length_split : (size at from to : ℕ) (rows : List Entry) → InOrder from to rows → to ≤ 2 ^ 32
    → length (split size at rows) ≡ length rows + cuts_at at rows
length_split size at from to [] order top = refl
length_split size at from to (row ∷ rows) order top =
    let rest = length_split size at (row.address + row.bytes) to rows order.1.1 top in
    by_boundary (λ z. length z ≡ length (row ∷ rows) + cuts_at at (row ∷ rows)) size at row (split size at rows) order.1.0
    (below_top to row rows order.1.1 top) (λ le. grind (arith, nat_tests, rest)) (λ le. grind (arith, nat_tests, rest))
    (λ low high. grind (arith, nat_tests, rest))

pub passed_split : (size at from to : ℕ) (rows : List Entry) → InOrder from to rows → to ≤ 2 ^ 32 → passed at (split size at rows) ≡ begun at rows
passed_split size at from to [] order top = refl
passed_split size at from to (row ∷ rows) order top =
    let rest = passed_split size at (row.address + row.bytes) to rows order.1.1 top in
    let none = none_cut at (row.address + row.bytes) to rows order.1.1 in
    let some = order.1.0 in
    by_boundary (λ z. passed at z ≡ begun at (row ∷ rows)) size at row (split size at rows) order.1.0
    (below_top to row rows order.1.1 top) (λ le. grind (arith, nat_tests, rest)) (λ le. grind (arith, nat_tests, none))
    (λ low high. grind (arith, nat_tests, none))

pub cuts_split : (size at from to : ℕ) (rows : List Entry) → InOrder from to rows → to ≤ 2 ^ 32 → cuts_at at (split size at rows) ≡ 0
cuts_split size at from to [] order top = refl
cuts_split size at from to (row ∷ rows) order top =
    let rest = cuts_split size at (row.address + row.bytes) to rows order.1.1 top in
    by_boundary (λ z. cuts_at at z ≡ 0) size at row (split size at rows) order.1.0
    (below_top to row rows order.1.1 top) (λ le. grind (arith, nat_tests, rest)) (λ le. grind (arith, nat_tests, rest))
    (λ low high. grind (arith, nat_tests, rest))

-- a cut at a higher boundary changes nothing at a lower one
pub passed_below_split : (size low at from to : ℕ) (rows : List Entry) → InOrder from to rows → to ≤ 2 ^ 32 → low < at
    → passed low (split size at rows) ≡ passed low rows
passed_below_split size low at from to [] order top less = refl
passed_below_split size low at from to (row ∷ rows) order top less =
    let rest = passed_below_split size low at (row.address + row.bytes) to rows order.1.1 top less in
    by_boundary (λ z. passed low z ≡ passed low (row ∷ rows)) size at row (split size at rows) order.1.0
    (below_top to row rows order.1.1 top) (λ le. grind (arith, nat_tests, rest)) (λ le. grind (arith, nat_tests, rest))
    (λ above high. grind (arith, nat_tests, rest))

pub cuts_below_split : (size low at from to : ℕ) (rows : List Entry) → InOrder from to rows → to ≤ 2 ^ 32 → low < at
    → cuts_at low (split size at rows) ≡ cuts_at low rows
cuts_below_split size low at from to [] order top less = refl
cuts_below_split size low at from to (row ∷ rows) order top less =
    let rest = cuts_below_split size low at (row.address + row.bytes) to rows order.1.1 top less in
    by_boundary (λ z. cuts_at low z ≡ cuts_at low (row ∷ rows)) size at row (split size at rows) order.1.0
    (below_top to row rows order.1.1 top) (λ le. grind (arith, nat_tests, rest)) (λ le. grind (arith, nat_tests, rest))
    (λ above high. grind (arith, nat_tests, rest))

-- entries of which none is cut by the boundary stay as they are
pub split_none : (size at from to : ℕ) (rows : List Entry) → InOrder from to rows → to ≤ 2 ^ 32 → cuts_at at rows ≡ 0 → split size at rows ≡ rows
split_none size at from to [] order top none = refl
split_none size at from to (row ∷ rows) order top none =
    let same : split size at rows ≡ rows = split_none size at (row.address + row.bytes) to rows order.1.1 top (grind (arith, nat_tests)) in
    by_boundary (λ z. z ≡ row ∷ rows) size at row (split size at rows) order.1.0
    (below_top to row rows order.1.1 top) (λ le. ap (λ z. row ∷ z) same) (λ le. ap (λ z. row ∷ z) same)
    (λ low high. let cut : cuts_at at (row ∷ rows) ≡ 1 + cuts_at at rows = grind (arith, nat_tests) in absurd (omega arith))

-- the entry that the boundary cuts is two, and the others stay as they are
pub split_one : (size at from to : ℕ) (rows : List Entry) (row : Entry) → InOrder from to rows → to ≤ 2 ^ 32 → slice_get rows (passed at rows) ≡ Some row
    → row.address < at
    → split size at rows ≡ take (passed at rows) rows ++ (head at row ∷ tail size at row ∷ drop (suc (passed at rows)) rows)
split_one size at from to [] row order top is low = absurd (none-some row is)
split_one size at from to (x ∷ rows) row order top is low =
    let front : x.address + x.bytes ≤ at → split size at (x ∷ rows) ≡ take (passed at (x ∷ rows)) (x ∷ rows) ++ (head at row ∷ tail size at row ∷ drop
    (suc (passed at (x ∷ rows))) (x ∷ rows))
    = λ le.
    let yes : nat_le (x.address + x.bytes) at ≡ true = grind (arith, nat_tests) in
    let rest = split_one size at (x.address + x.bytes) to rows row order.1.1 top (rw yes at is) low in
    rw (yes, cut_all size 0 at x order.1.0 (omega arith) le, cut_front size at (2 ^ 32) x le) (ap (λ z. x ∷ z) rest) in
    let both : at < x.address + x.bytes → split size at (x ∷ rows) ≡ take (passed at (x ∷ rows)) (x ∷ rows) ++ (head at row ∷ tail size at row ∷ drop
    (suc (passed at (x ∷ rows))) (x ∷ rows))
    = λ high.
    let no : nat_le (x.address + x.bytes) at ≡ false = grind (arith, nat_tests) in
    let same : x ≡ row = same_Some x row (rw no at is) in
    let below : x.address < at = rw same low in
    let stay = split_none size at (x.address + x.bytes) to rows order.1.1 top (none_cut at (x.address + x.bytes) to rows order.1.1 (omega arith)) in
    rw (
      no,
      cut_head size at x below (omega arith),
      cut_tail size at x (omega arith) high (below_top to x rows order.1.1 top),
      stay,
      same,
    ) refl in
    ⊎_elim both front (cases_lt at (x.address + x.bytes))

order_split : (size at from to : ℕ) (rows : List Entry) → InOrder from to rows → to ≤ 2 ^ 32 → InOrder from to (split size at rows)
order_split size at from to [] order top = order
order_split size at from to (row ∷ rows) order top =
    let rest = order_split size at (row.address + row.bytes) to rows order.1.1 top in
    by_boundary (InOrder from to) size at row (split size at rows) order.1.0 (below_top to row rows order.1.1 top)
    (λ le. (order.0, (order.1.0, rest))) (λ le. (order.0, (order.1.0, rest)))
    (λ low high. (order.0, (omega arith, (omega arith, (omega arith, later_start _ (row.address + row.bytes) to (split size at rows) (omega arith) rest)))))

whole_split : (size at from to : ℕ) (rows : List Entry) → at % size ≡ 0 → InOrder from to rows → to ≤ 2 ^ 32 → AllWholePages size rows
    → AllWholePages size (split size at rows)
whole_split size at from to [] boundary order top whole = tt
whole_split size at from to (row ∷ rows) boundary order top whole =
    let rest = whole_split size at (row.address + row.bytes) to rows boundary order.1.1 top whole.1 in
    by_boundary (AllWholePages size) size at row (split size at rows) order.1.0 (below_top to row rows order.1.1 top)
    (λ le. (whole.0, rest)) (λ le. (whole.0, rest))
    (λ low high.
    let kept : (at - row.address) % size ≡ 0 = whole_sub size at row.address (omega arith) boundary whole.0.address in
    let sum = div_sum size (at - row.address) (row.bytes - (at - row.address)) in
    let all = div_grows size (at - row.address + (row.bytes - (at - row.address))) row.bytes (omega arith) in
    let fewer = div_grows size (at - row.address) row.bytes (omega arith) in (
      record { address = whole.0.address; bytes = kept; pages = omega (arith, fewer, whole.0.pages) },
      (
        record {
          address = boundary;
          bytes = whole_sub size row.bytes (at - row.address) (omega arith) whole.0.bytes kept;
          pages = omega (arith, sum, all, whole.0.pages);
        },
        rest,
      ),
    ))

pub entries_split : (size at : ℕ) (rows : List Entry) → at % size ≡ 0 → length (split size at rows) ≤ most_entries → AreEntries size rows
    → AreEntries size (split size at rows)
entries_split size at rows boundary few are = record {
  in_order = order_split size at 0 (2 ^ 32) rows are.in_order (omega arith);
  whole = whole_split size at 0 (2 ^ 32) rows boundary are.in_order (omega arith) are.whole;
  few = few;
}

-- what a range makes of entries is what it makes of them cut at its lower end
pub rewritten_low : (becomes : Entry → List Entry) (size start bytes from to : ℕ) (rows : List Entry) → start % size ≡ 0 → InOrder from to rows → to ≤ 2 ^ 32
    → AllWholePages size rows
    → rewritten becomes size start bytes (split size start rows) ≡ rewritten becomes size start bytes rows
rewritten_low becomes size start bytes from to [] boundary order top whole = refl
rewritten_low becomes size start bytes from to (row ∷ rows) boundary order top whole =
    let rest = rewritten_low becomes size start bytes (row.address + row.bytes) to rows boundary order.1.1 top whole.1 in
    by_boundary (λ z. rewritten becomes size start bytes z ≡ rewritten becomes size start bytes (row ∷ rows)) size start row (split size start rows) order.1.0
    (below_top to row rows order.1.1 top) (λ le. rw rest refl) (λ le. rw rest refl)
    (λ low high.
    let apart : (start - row.address) % size ≡ 0 = whole_sub size start row.address (omega arith) boundary whole.0.address in
    rw (
      cut_all size 0 start (head start row) (omega arith) (omega arith) (omega arith),
      cut_front size start (start + bytes) (head start row) (omega arith),
      cut_front size (start + bytes) (2 ^ 32) (head start row) (omega arith),
      cut_behind size 0 start (tail size start row) (omega arith),
      cut_of_tail size start (start + bytes) start row (omega arith) high (omega arith) apart,
      cut_of_tail size (start + bytes) (2 ^ 32) start row (omega arith) high (omega arith) apart,
      cut_head size start row low (omega arith),
      rest,
    ) refl)

-- and cut at its upper end
pub rewritten_high : (becomes : Entry → List Entry) (size start bytes from to : ℕ) (rows : List Entry) → InOrder from to rows → to ≤ 2 ^ 32
    → rewritten becomes size start bytes (split size (start + bytes) rows) ≡ rewritten becomes size start bytes rows
rewritten_high becomes size start bytes from to [] order top = refl
rewritten_high becomes size start bytes from to (row ∷ rows) order top =
    let rest = rewritten_high becomes size start bytes (row.address + row.bytes) to rows order.1.1 top in
    let below = below_top to row rows order.1.1 top in
    by_boundary (λ z. rewritten becomes size start bytes z ≡ rewritten becomes size start bytes (row ∷ rows)) size (start + bytes) row
    (split size (start + bytes) rows) order.1.0 below (λ le. rw rest refl) (λ le. rw rest refl)
    (λ low high. rw (
      cut_of_head size 0 start (start + bytes) row low high (omega arith),
      cut_of_head size start (start + bytes) (start + bytes) row low high (omega arith),
      cut_front size (start + bytes) (2 ^ 32) (head (start + bytes) row) (omega arith),
      cut_behind size 0 start (tail size (start + bytes) row) (omega arith),
      cut_behind size start (start + bytes) (tail size (start + bytes) row) (omega arith),
      cut_all size (start + bytes) (2 ^ 32) (tail size (start + bytes) row) (omega arith) (omega arith) (omega arith),
      cut_tail size (start + bytes) row (omega arith) high below,
      rest,
    ) refl)

altered_front : (becomes : Entry → List Entry) (row : Entry) (from to : ℕ) (rows : List Entry)
    → altered becomes (suc from) (suc to) (row ∷ rows) ≡ row ∷ altered becomes from to rows
altered_front becomes row from to rows = let count : suc to - suc from ≡ to - from = omega arith in rw count refl

altered_met : (becomes : Entry → List Entry) (row : Entry) (to : ℕ) (rows : List Entry)
    → altered becomes 0 (suc to) (row ∷ rows) ≡ becomes row ++ altered becomes 0 to rows
altered_met becomes row to rows =
    let more : suc to - 0 ≡ suc to = omega arith in let count : to - 0 ≡ to = omega arith in rw (more, count) (simp append_assoc)

pub altered_none : (becomes : Entry → List Entry) (at : ℕ) (rows : List Entry) → altered becomes at at rows ≡ rows
altered_none becomes at rows = let none : at - at ≡ 0 = omega arith in rw none (take-append-drop at rows)

-- between boundaries that cut no entry each becomes what it is to
pub rewritten_between : (becomes : Entry → List Entry) (size start bytes from to : ℕ) (rows : List Entry) → InOrder from to rows → to ≤ 2 ^ 32
    → cuts_at start rows ≡ 0 → cuts_at (start + bytes) rows ≡ 0
    → rewritten becomes size start bytes rows ≡ altered becomes (passed start rows) (passed (start + bytes) rows) rows
rewritten_between becomes size start bytes from to [] order top low high = refl
rewritten_between becomes size start bytes from to (row ∷ rows) order top low high =
    let some = order.1.0 in
    let below = below_top to row rows order.1.1 top in
    let rest = rewritten_between becomes size start bytes (row.address + row.bytes) to rows order.1.1 top (grind (arith, nat_tests)) (grind (arith, nat_tests))
    in
    let front : row.address + row.bytes ≤ start → rewritten becomes size start bytes (row ∷ rows) ≡ altered becomes (passed start (row ∷ rows)) (passed
    (start + bytes) (row ∷ rows)) (row ∷ rows)
    = λ le.
    let first : passed start (row ∷ rows) ≡ suc (passed start rows) = grind (arith, nat_tests) in
    let last : passed (start + bytes) (row ∷ rows) ≡ suc (passed (start + bytes) rows) = grind (arith, nat_tests) in
    let one : rewritten becomes size start bytes (row ∷ rows) ≡ row ∷ altered becomes (passed start rows) (passed (start + bytes) rows) rows
    = rw (
      cut_all size 0 start row some (omega arith) le,
      cut_front size start (start + bytes) row le,
      cut_front size (start + bytes) (2 ^ 32) row (omega arith),
    ) (ap (λ z. row ∷ z) rest) in
    rw (first, last) (one ∙ sym (altered_front becomes row (passed start rows) (passed (start + bytes) rows) rows)) in
    let met : start < row.address + row.bytes → row.address + row.bytes ≤ start + bytes → rewritten becomes size start bytes (row ∷ rows) ≡ altered becomes
    (passed start (row ∷ rows)) (passed (start + bytes) (row ∷ rows)) (row ∷ rows)
    = λ behind le.
    let begins : start ≤ row.address = grind (arith, nat_tests) in
    let first : passed start (row ∷ rows) ≡ 0 = grind (arith, nat_tests) in
    let last : passed (start + bytes) (row ∷ rows) ≡ suc (passed (start + bytes) rows) = grind (arith, nat_tests) in
    let none : passed start rows ≡ 0 = passed_none start (row.address + row.bytes) to rows order.1.1 (omega arith) in
    let others : rewritten becomes size start bytes rows ≡ altered becomes 0 (passed (start + bytes) rows) rows = rw none at rest in
    let one : rewritten becomes size start bytes (row ∷ rows) ≡ becomes row ++ altered becomes 0 (passed (start + bytes) rows) rows
    = rw (
      cut_behind size 0 start row begins,
      cut_all size start (start + bytes) row some begins le,
      cut_front size (start + bytes) (2 ^ 32) row le,
    ) (rw append-nil (ap (λ z. becomes row ++ z) others)) in
    rw (first, last) (one ∙ sym (altered_met becomes row (passed (start + bytes) rows) rows)) in
    let behind : start + bytes < row.address + row.bytes → rewritten becomes size start bytes (row ∷ rows) ≡ altered becomes
    (passed start (row ∷ rows)) (passed (start + bytes) (row ∷ rows)) (row ∷ rows)
    = λ far.
    let begins : start + bytes ≤ row.address = grind (arith, nat_tests) in
    let first : passed start (row ∷ rows) ≡ 0 = grind (arith, nat_tests) in
    let last : passed (start + bytes) (row ∷ rows) ≡ 0 = grind (arith, nat_tests) in
    rw (first, last) (rewritten_behind becomes size start bytes row.address to (row ∷ rows) (omega arith, order.1) begins top
    ∙ sym (altered_none becomes 0 (row ∷ rows))) in
    ⊎_elim
    (λ (past : start < row.address + row.bytes). ⊎_elim behind (λ le. met past le) (cases_lt (start + bytes) (row.address + row.bytes)))
    front
    (cases_lt start (row.address + row.bytes))

-- one more entry becomes what it is to
pub altered_more : (becomes : Entry → List Entry) (i to : ℕ) (rows : List Entry) (row new : Entry) → slice_get rows i ≡ Some row → becomes row ≡ new ∷ []
    → i < to → altered becomes (i + 1) to (set rows i new) ≡ altered becomes i to rows
altered_more becomes i to rows row new is one less =
    let within : i < length rows = slice_get_within rows i row is in
    let here : drop i rows ≡ row ∷ drop (i + 1) rows = drop_one i rows row is in
    let count : to - i ≡ suc (to - (i + 1)) = omega arith in
    let opened : altered becomes i to rows ≡ take i rows ++ (new ∷ (flat_map becomes (take (to - (i + 1)) (drop (i + 1) rows)) ++ drop to rows))
    = rw (here, count, one) refl in
    rw (take_more_set rows i new within, drop-set-lt (i + 1) rows i new (omega arith), drop-set-lt to rows i new less) (simp append_assoc (sym opened))

-- the entry that a boundary cuts, and what the cut makes of the entries
pub record IsCut (size at : ℕ) (rows : List Entry) (row : Entry) : Type 0 where
  pub low : row.address < at
  pub high : at < row.address + row.bytes
  pub within : passed at rows < length rows
  pub pages : row.offset + row.bytes / size < 2 ^ 32
  pub count : cuts_at at rows ≡ 1
  pub split : split size at rows ≡ take (passed at rows) rows ++ (head at row ∷ tail size at row ∷ drop (suc (passed at rows)) rows)

pub is_cut : (size at : ℕ) (rows : List Entry) (row : Entry) → AreEntries size rows → if_below at (slice_get rows (passed at rows)) ≡ Some row
    → IsCut size at rows row
is_cut size at rows row are found =
    let first = begins at (slice_get rows (passed at rows)) row found in
    let whole = whole_at size (passed at rows) rows row are.whole first.is in
    let above : row.address + row.bytes ≤ at → passed at rows < passed at rows = passed_above (passed at rows) at 0 (2 ^ 32) rows row are.in_order first.is in
    let test : begins_below at (slice_get rows (passed at rows)) ≡ true = let low = first.low in rw first.is (grind (arith, nat_tests)) in
    record {
      low = first.low;
      high = ⊎_elim (λ less. less) (λ le. let more = above le in absurd (omega arith)) (cases_lt at (row.address + row.bytes));
      within = slice_get_within rows (passed at rows) row first.is;
      pages = whole.pages;
      count = cut_of at rows are.in_order ∙ rw test refl;
      split = split_one size at 0 (2 ^ 32) rows row are.in_order (omega arith) first.is first.low;
    }

pub split_same : (size at : ℕ) (rows : List Entry) → AreEntries size rows → if_below at (slice_get rows (passed at rows)) ≡ None → split size at rows ≡ rows
split_same size at rows are found =
    let none : cuts_at at rows ≡ 0 = cut_of at rows are.in_order ∙ rw (none_begins at (slice_get rows (passed at rows)) found) refl in
    split_none size at 0 (2 ^ 32) rows are.in_order (omega arith) none

-- the part in front in the place of the entry, and the part behind put behind it
pub split_made : (size at i pages : ℕ) (rows once twice : List Entry) (row : Entry) → IsCut size at rows row → i ≡ passed at rows
    → pages ≡ (at - row.address) / size → once ≡ set rows i (head at row)
    → twice ≡ insert once (i + 1) (record row { address = at; bytes = row.bytes - (at - row.address); offset = row.offset + pages })
    → twice ≡ split size at rows
split_made size at i pages rows once twice row cut place count first second =
    let within : passed at rows < length rows = cut.within in
    rw (
      second,
      first,
      place,
      count,
      take_more_set rows (passed at rows) (head at row) within,
      drop-set-lt (passed at rows + 1) rows (passed at rows)
          (head at row) (omega arith),
    ) (rw add-one (simp append_assoc (sym cut.split)))

pub passed_made : (size at : ℕ) (rows : List Entry) (row : Entry) → AreEntries size rows → IsCut size at rows row
    → passed at (split size at rows) ≡ passed at rows + 1
passed_made size at rows row are cut = passed_split size at 0 (2 ^ 32) rows are.in_order (omega arith) ∙ ap (λ z. passed at rows + z) cut.count

-- entries that are cut at both ends of a range
pub record Splits (becomes : Entry → List Entry) (size start bytes : ℕ) (rows : List Entry) : Type 0 where
  pub low_few : length (split size start rows) ≤ most_entries
  pub low : AreEntries size (split size start rows)
  pub high_few : length (split size (start + bytes) (split size start rows)) ≤ most_entries
  pub order : passed start (split size start rows) ≤ passed (start + bytes) (split size (start + bytes) (split size start rows))
  pub within : passed (start + bytes) (split size (start + bytes) (split size start rows)) ≤ length (split size (start + bytes) (split size start rows))
  pub all : altered becomes (passed start (split size start rows)) (passed (start + bytes) (split size (start + bytes) (split size start rows)))
      (split size (start + bytes) (split size start rows)) ≡ rewritten becomes size start bytes rows

pub splits : (becomes : Entry → List Entry) → ((row : Entry) → length (becomes row) ≡ 1) → (size start bytes : ℕ) (rows : List Entry)
    → IsRange size start bytes → AreEntries size rows → length (rewritten becomes size start bytes rows) ≤ most_entries
    → Splits becomes size start bytes rows
splits becomes each size start bytes rows range are few =
    let top : 2 ^ 32 ≤ 2 ^ 32 = omega arith in
    let once = split size start rows in
    let twice = split size (start + bytes) once in
    let counted = length_rewritten becomes each size start bytes 0 (2 ^ 32) rows range.some range.end are.in_order top in
    let one_more = length_split size start 0 (2 ^ 32) rows are.in_order top in
    let fits : length once ≤ most_entries = omega (arith, counted, one_more, few) in
    let low = entries_split size start rows range.start fits are in
    let same = rewritten_low becomes size start bytes 0 (2 ^ 32) rows range.start are.in_order top are.whole in
    let also = rewritten_high becomes size start bytes 0 (2 ^ 32) once low.in_order top in
    let counted_once = length_rewritten becomes each size start bytes 0 (2 ^ 32) once range.some range.end low.in_order top in
    let two_more = length_split size (start + bytes) 0 (2 ^ 32) once low.in_order top in
    let fits_too : length twice ≤ most_entries = omega (arith, counted_once, two_more, ap length same, few) in
    let high = order_split size (start + bytes) 0 (2 ^ 32) once low.in_order top in
    let less : start < start + bytes = omega (arith, range.some) in
    let place = passed_below_split size start (start + bytes) 0 (2 ^ 32) once low.in_order top less in
    let grows = passed_grows start (start + bytes) twice (omega arith) in
    let none = cuts_below_split size start (start + bytes) 0 (2 ^ 32) once low.in_order top less ∙ cuts_split size start 0 (2 ^ 32) rows are.in_order top in
    let none_too = cuts_split size (start + bytes) 0 (2 ^ 32) once low.in_order top in
    let between = rewritten_between becomes size start bytes 0 (2 ^ 32) twice high top none none_too in
    record {
      low_few = fits;
      low = low;
      high_few = fits_too;
      order = omega (arith, place, grows);
      within = passed_within (start + bytes) twice;
      all = ap (λ z. altered becomes z (passed (start + bytes) twice) twice) (sym place) ∙ (sym between ∙ (also ∙ same));
    }

-- what is read of entries that were cut at both ends
pub record AreSplit (becomes : Entry → List Entry) (size start bytes : ℕ) (rows twice : List Entry) (from to : ℕ) : Type 0 where
  pub order : from ≤ to
  pub within : to ≤ length twice
  pub all : altered becomes from to twice ≡ rewritten becomes size start bytes rows

pub are_split : (becomes : Entry → List Entry) (size start bytes : ℕ) (rows once twice : List Entry) (from to : ℕ) → Splits becomes size start bytes rows
    → once ≡ split size start rows → twice ≡ split size (start + bytes) once → from ≡ passed start once → to ≡ passed (start + bytes) twice
    → AreSplit becomes size start bytes rows twice from to
are_split becomes size start bytes rows once twice from to cut first second low high =
    let both : twice ≡ split size (start + bytes) (split size start rows) = second ∙ ap (split size (start + bytes)) first in
    let from_is : from ≡ passed start (split size start rows) = low ∙ ap (passed start) first in
    let to_is : to ≡ passed (start + bytes) (split size (start + bytes) (split size start rows)) = high ∙ ap (passed (start + bytes)) both in
    record {
      order = omega (arith, from_is, to_is, cut.order);
      within = omega (arith, to_is, ap length both, cut.within);
      all = rw (from_is, to_is, both) cut.all;
    }

pub keeps : (call : MapKind) (change : MapChange) (row : Entry) → (call ≡ kind.Protect) ⊎ (call ≡ kind.Inherit) → length (becomes_by call change row) ≡ 1
keeps kind.Enter change row is = refl
keeps kind.Remove change row is = ⊎_elim (λ (e : kind.Remove ≡ kind.Protect). absurd (cc)) (λ (e : kind.Remove ≡ kind.Inherit). absurd (cc)) is
keeps kind.Protect change row is = refl
keeps kind.Inherit change row is = refl
