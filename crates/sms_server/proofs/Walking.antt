-- Going over the pages of an object that have a mark, by rising number.
use Rattle.std.proofs.Common.{ℕ, zero, suc, ◌≡◌, ◌<◌, ◌≤◌, ◌+◌, ◌==◌, Bool, true, false, if◌then◌else◌, List, [], ◌∷◌, length, get_or, set}
use Rattle.std.proofs.Common.{Some, refl, sym, ◌∙◌, ap, subst, ⊎_elim, arith, nat_le}
use Rattle.std.proofs.lemmas.Bool.{cases_Bool, cases_lt}
use Rattle.std.proofs.lemmas.Bool.Decides.{nat_tests}
use Rattle.std.proofs.lemmas.Option.{get_or_from_slice_get, none-some, same_Some, slice_get_within}
use Rattle.std.specs.Prelude.{◌&&◌, slice_get}
use Rattle.vm_base.specs.declared.ids.ObjectId.{ObjectId}
use Rattle.vm_sets.specs.Places.{IsNextPlace, NoMarkFrom, PlaceTable, all_marks}
use Rattle.vm_sets.specs.declared.page_places.Place.{Place}
use Rattle.sms_server.proofs.Placed.{AreApart, are_apart, row_there}
use Rattle.sms_server.specs.Kept.{ArePlaced, IsMarked, is_quiet, sum_among}
use Rattle.sms_server.specs.declared.page_row.PageRow.{PageRow}

-- the next row of a walk: whatever stands in front of it, from the walk's page on, is quiet
pub record NextRow (k o from : ℕ) (rows : List PageRow) (i q : ℕ) (x : PageRow) : Type 0 where
  pub at : slice_get rows i ≡ Some x
  pub own : x.key.object.0 ≡ o
  pub page : x.key.page.0 ≡ q
  pub low : from ≤ q
  pub quiet : (j : ℕ) (z : PageRow) → slice_get rows j ≡ Some z → z.key.object.0 ≡ o → from ≤ z.key.page.0 → z.key.page.0 < q
      → is_quiet k z.directory ≡ true
  pub apart : AreApart rows

-- all that is left for a walk is quiet
pub record NoRow (k o from : ℕ) (rows : List PageRow) : Type 0 where
  pub quiet : (j : ℕ) (z : PageRow) → slice_get rows j ≡ Some z → z.key.object.0 ≡ o → from ≤ z.key.page.0 → is_quiet k z.directory ≡ true

pub next_within : (places : PlaceTable) (rows : List PageRow) (k : ℕ) (object : ObjectId) (from : ℕ) (place : Place) → ArePlaced places rows
    → IsNextPlace places k object from place → place.at < length rows
next_within places rows k object from place placed next =
    let there = row_there object.0 place.key.page.0 place.at (slice_get rows place.at) (placed.leads object.0 place.key.page.0 place.at next.there) in
    slice_get_within rows place.at there.0 there.1

pub next_row : (places : PlaceTable) (rows : List PageRow) (k : ℕ) (object : ObjectId) (from : ℕ) (place : Place) (d x : PageRow) → ArePlaced places rows
    → k ≤ all_marks → IsNextPlace places k object from place → x ≡ get_or rows place.at d → NextRow k object.0 from rows place.at place.key.page.0 x
next_row places rows k object from place d x placed le next read =
    let there = row_there object.0 place.key.page.0 place.at (slice_get rows place.at) (placed.leads object.0 place.key.page.0 place.at next.there) in
    let same : there.0 ≡ x = sym (read ∙ get_or_from_slice_get rows place.at there.0 d there.1) in
    record {
      at = there.1 ∙ ap Some same;
      own = subst (λ (z : PageRow). z.key.object.0 ≡ object.0) same there.2;
      page = subst (λ (z : PageRow). z.key.page.0 ≡ place.key.page.0) same there.3;
      low = next.low;
      quiet = λ j z is own low less.
          let marked = subst (IsMarked places k) is (placed.marked j k le) in
          marked (rw own (next.first z.key.page.0 low less));
      apart = are_apart places rows placed;
    }

pub no_row : (places : PlaceTable) (rows : List PageRow) (k o from : ℕ) → ArePlaced places rows → k ≤ all_marks → NoMarkFrom places k o from
    → NoRow k o from rows
no_row places rows k o from placed le none = record {
  quiet = λ j z is own low.
      let marked = subst (IsMarked places k) is (placed.marked j k le) in
      marked (rw own (none z.key.page.0 low));
}

-- sums over the object's pages from one on

abbrev weight_if : (PageRow → ℕ) → ℕ → ℕ → PageRow → ℕ
weight_if w o from row = if row.key.object.0 == o && nat_le from row.key.page.0 then w row else 0

abbrev pub weight_from : (PageRow → ℕ) → ℕ → ℕ → List PageRow → ℕ
weight_from w o from [] = 0
weight_from w o from (row ∷ rows) = weight_if w o from row + weight_from w o from rows

pub sum_whole : (w : PageRow → ℕ) (o : ℕ) (rows : List PageRow) → sum_among w o rows ≡ weight_from w o 0 rows
sum_whole w o [] = refl
sum_whole w o (x ∷ xs) = let rest = sum_whole w o xs in rw rest (by (x.key.object.0 == o))
  where
    all : nat_le 0 x.key.page.0 ≡ true
    all = grind (arith, nat_tests)

    by : (b : Bool) → (if b then w x else 0) + weight_from w o 0 xs ≡ (if b && nat_le 0 x.key.page.0 then w x else 0) + weight_from w o 0 xs
    by true = rw all refl
    by false = refl

-- a row that weighs the same from another page on
weighs_same : (w : PageRow → ℕ) (o from after : ℕ) (z : PageRow) → from ≤ after
    → (z.key.object.0 ≡ o → from ≤ z.key.page.0 → z.key.page.0 < after → w z ≡ 0) → weight_if w o from z ≡ weight_if w o after z
weighs_same w o from after z le none =
    ⊎_elim
    (λ (own : (z.key.object.0 == o) ≡ true).
    let e : z.key.object.0 ≡ o = grind (arith, nat_tests, own) in
    rw own (⊎_elim
    (λ (before : z.key.page.0 < from).
    let one : nat_le from z.key.page.0 ≡ false = grind (arith, nat_tests) in
    let two : nat_le after z.key.page.0 ≡ false = grind (arith, nat_tests) in
    rw (one, two) refl)
    (λ (low : from ≤ z.key.page.0). ⊎_elim
    (λ (less : z.key.page.0 < after).
    let one : nat_le from z.key.page.0 ≡ true = grind (arith, nat_tests) in
    let two : nat_le after z.key.page.0 ≡ false = grind (arith, nat_tests) in
    rw (one, two) (none e low less))
    (λ (high : after ≤ z.key.page.0).
    let one : nat_le from z.key.page.0 ≡ true = grind (arith, nat_tests) in
    let two : nat_le after z.key.page.0 ≡ true = grind (arith, nat_tests) in
    rw (one, two) refl)
    (cases_lt z.key.page.0 after))
    (cases_lt z.key.page.0 from)))
    (λ (other : (z.key.object.0 == o) ≡ false). rw other refl)
    (cases_Bool (z.key.object.0 == o))

weigh_same : (w : PageRow → ℕ) (o from after : ℕ) (rows : List PageRow) → from ≤ after
    → ((j : ℕ) (z : PageRow) → slice_get rows j ≡ Some z → z.key.object.0 ≡ o → from ≤ z.key.page.0 → z.key.page.0 < after → w z ≡ 0)
    → weight_from w o from rows ≡ weight_from w o after rows
weigh_same w o from after [] le none = refl
weigh_same w o from after (x ∷ xs) le none =
    let first = weighs_same w o from after x le (none 0 x refl) in
    let rest = weigh_same w o from after xs le (λ j z is. none (suc j) z is) in
    omega (arith, first, rest)

more_at : (w : PageRow → ℕ) (o from q : ℕ) (rows : List PageRow) (i : ℕ) (x : PageRow) → slice_get rows i ≡ Some x → x.key.object.0 ≡ o
    → x.key.page.0 ≡ q → from ≤ q
    → ((j : ℕ) (z : PageRow) → slice_get rows j ≡ Some z → (j ≡ i → ⊥) → z.key.object.0 ≡ o → from ≤ z.key.page.0 → z.key.page.0 < q + 1 → w z ≡ 0)
    → weight_from w o from rows ≡ w x + weight_from w o (q + 1) rows
more_at w o from q [] i x is own page low none = absurd (none-some x is)
more_at w o from q (y ∷ ys) zero x is own page low none =
    let same = same_Some y x is in
    let rest = weigh_same w o from (q + 1) ys (omega (arith, low)) (λ j z at. none (suc j) z at (λ e. omega arith)) in
    let mine : (x.key.object.0 == o) ≡ true = grind (arith, nat_tests, own) in
    let one : nat_le from x.key.page.0 ≡ true = grind (arith, nat_tests, page, low) in
    let two : nat_le (q + 1) x.key.page.0 ≡ false = grind (arith, nat_tests, page) in
    rw same (rw (mine, one, two) (omega (arith, rest)))
more_at w o from q (y ∷ ys) (suc i) x is own page low none =
    let first = weighs_same w o from (q + 1) y (omega (arith, low)) (none 0 y refl (λ e. omega arith)) in
    let rest = more_at w o from q ys i x is own page low (λ j z at other. none (suc j) z at (λ e. other (omega (arith, e)))) in
    omega (arith, first, rest)

pub weight_more : (w : PageRow → ℕ) (k o from : ℕ) (rows : List PageRow) (i q : ℕ) (x : PageRow) → NextRow k o from rows i q x
    → ((z : PageRow) → is_quiet k z.directory ≡ true → w z ≡ 0) → weight_from w o from rows ≡ w x + weight_from w o (q + 1) rows
weight_more w k o from rows i q x next none =
    more_at w o from q rows i x next.at next.own next.page next.low
    (λ j z is other own low less. ⊎_elim
    (λ (before : z.key.page.0 < q). none z (next.quiet j z is own low before))
    (λ (high : q ≤ z.key.page.0). absurd (other (next.apart j i z x is next.at (own ∙ sym next.own) (omega (arith, high, less, next.page)))))
    (cases_lt z.key.page.0 q))

pub weight_end : (w : PageRow → ℕ) (k o from : ℕ) (rows : List PageRow) → NoRow k o from rows → ((z : PageRow) → is_quiet k z.directory ≡ true → w z ≡ 0)
    → weight_from w o from rows ≡ 0
weight_end w k o from rows last none = by rows (λ j z is own low. none z (last.quiet j z is own low))
  where
    head : (z : PageRow) → (z.key.object.0 ≡ o → from ≤ z.key.page.0 → w z ≡ 0) → weight_if w o from z ≡ 0
    head z zero_there =
        ⊎_elim
        (λ (own : (z.key.object.0 == o) ≡ true).
        let e : z.key.object.0 ≡ o = grind (arith, nat_tests, own) in
        rw own (⊎_elim
        (λ (here : nat_le from z.key.page.0 ≡ true). rw here (zero_there e (grind (arith, nat_tests, here))))
        (λ (before : nat_le from z.key.page.0 ≡ false). rw before refl)
        (cases_Bool (nat_le from z.key.page.0))))
        (λ (other : (z.key.object.0 == o) ≡ false). rw other refl)
        (cases_Bool (z.key.object.0 == o))

    by : (rows : List PageRow) → ((j : ℕ) (z : PageRow) → slice_get rows j ≡ Some z → z.key.object.0 ≡ o → from ≤ z.key.page.0 → w z ≡ 0)
        → weight_from w o from rows ≡ 0
    by [] each = refl
    by (x ∷ xs) each =
        let first = head x (each 0 x refl) in
        let rest = by xs (λ j z is. each (suc j) z is) in
        omega (arith, first, rest)

-- a row in front counts for nothing
pub weight_set : (w : PageRow → ℕ) (o from : ℕ) (rows : List PageRow) (i : ℕ) (x y : PageRow) → slice_get rows i ≡ Some x → y.key ≡ x.key
    → x.key.page.0 < from → weight_from w o from (set rows i y) ≡ weight_from w o from rows
weight_set w o from [] i x y is key less = absurd (none-some x is)
weight_set w o from (z ∷ zs) zero x y is key less =
    let same = same_Some z x is in
    let one : nat_le from z.key.page.0 ≡ false = rw same (grind (arith, nat_tests, less)) in
    let two : nat_le from y.key.page.0 ≡ false = rw key (grind (arith, nat_tests, less)) in
    rw (one, two) (ap (λ n. n + weight_from w o from zs) (by (w y) (y.key.object.0 == o) ∙ sym (by (w z) (z.key.object.0 == o))))
  where
    by : (n : ℕ) (b : Bool) → (if b && false then n else 0) ≡ 0
    by n true = refl
    by n false = refl
weight_set w o from (z ∷ zs) (suc i) x y is key less =
    let rest = weight_set w o from zs i x y is key less in
    omega (arith, rest)
