-- The next page with a mark.
use Rattle.std.proofs.Common.{ℕ, ◌≡◌, ◌≤◌, ◌/◌, ◌%◌, ◌==◌, true, false, Option, Some, None, refl, sym, ◌∙◌, ap, subst, arith, w64}
use Rattle.std.proofs.lemmas.Nat.Bits.{bit_at-trailing_zeros, bit_at-zero}
use Rattle.std.specs.Int.{bit_at, trailing_zeros}
use Rattle.std.specs.Option.{option_map_or}
use Rattle.std.specs.Prelude.{slice_index}
use Rattle.vm_base.specs.declared.ids.ObjectId.{ObjectId}
use Rattle.vm_sets.proofs.Bits.{Seeks, seek_found}
use Rattle.vm_sets.specs.Places.{AreGrouped, IsLowest, IsNextPlace, PlaceTable, all_marks, end_of, group_at, has_mark, spot_in, word_in}
use Rattle.vm_sets.specs.declared.page_places.Group.{Group}
use Rattle.vm_sets.specs.declared.page_places.Place.{Place}

-- a group behind the end of its object has no page with a mark
pub no_word : (table : PlaceTable) (k o g : ℕ) → AreGrouped table.groups table.objects → end_of o table.objects ≤ g → word_in table k o g ≡ 0
no_word table k o g grouped past = by (group_at o g table.groups) refl
  where
    by : (kept : Option Group) → group_at o g table.groups ≡ kept → option_map_or (λ (x : Group). slice_index x.words k) kept 0 ≡ 0
    by None is = refl
    by (Some group) is = absurd (let less = grouped.within o g group is in omega arith)

pub no_mark_behind : (table : PlaceTable) (k o q : ℕ) → AreGrouped table.groups table.objects → end_of o table.objects ≤ q / 64 → has_mark table k o q ≡ false
no_mark_behind table k o q grouped past =
    ap (λ z. bit_at z (q % 64) == 1) (no_word table k o (q / 64) grouped past) ∙ ap (λ z. z == 1) (bit_at-zero (q % 64))

pub next_found : (table : PlaceTable) (k : ℕ) (object : ObjectId) (from group bits : ℕ) (place : Place) → AreGrouped table.groups table.objects
    → k ≤ all_marks → Seeks (word_in table k object.0) from group bits → IsLowest table (record { object = object; group = group }) bits place
    → IsNextPlace table k object from place
next_found table k object from group bits place grouped le seeks lowest =
    let found = seek_found (word_in table k object.0) from group bits seeks lowest.some in
    let slot = trailing_zeros w64 bits in
    let small = (bit_at-trailing_zeros w64 bits lowest.some seeks.bound).0 in
    let marked : has_mark table k object.0 place.key.page.0 ≡ true = subst (λ q. has_mark table k object.0 q ≡ true) (sym lowest.page) found.there in
    let stands = grouped.placed k object.0 place.key.page.0 le marked in
    let one : place.key.page.0 / 64 ≡ group = omega (arith, lowest.page, small) in
    let two : place.key.page.0 % 64 ≡ slot = omega (arith, lowest.page, small) in
    let spot : spot_in table object.0 (place.key.page.0 / 64) (place.key.page.0 % 64) ≡ place.at = ap (λ g. spot_in table object.0 g (place.key.page.0 % 64)) one
    ∙ (ap (spot_in table object.0 group) two ∙ sym lowest.at) in
    record {
      own = lowest.object;
      low = omega (arith, found.low, lowest.page);
      there = rw (stands, spot) refl;
      first = λ q low less. found.first q low (omega (arith, less, lowest.page));
    }
