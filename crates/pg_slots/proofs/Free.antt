-- Which slots are free, by the heap of those that were given back.
use Rattle.std.proofs.Common.{ℕ, ◌≡◌, ◌<◌, ◌≤◌, ◌==◌, Bool, true, false, List, [], ◌∷◌, length, if◌then◌else◌, not, Option, Some, None, IfSome, IsSome}
use Rattle.std.proofs.Common.{slice_index_or, nat_eq, nat_lt, refl, sym, ◌∙◌, ap, ⊎_elim, arith}
use Rattle.std.proofs.lemmas.Bool.{cases_Bool, cases_order, false≢true}
use Rattle.std.proofs.lemmas.Bool.Decides.{nat_tests}
use Rattle.std.proofs.lemmas.List.{length-map}
use Rattle.std.proofs.lemmas.List.Sorted.{IsPermutation-map, list_any-IsPermutation}
use Rattle.std.proofs.lemmas.Map.Keys.{IsDistinct-IsPermutation, IsDistinct-cons, IsDistinct-tail}
use Rattle.std.proofs.lemmas.Map.Steps.{length-le_from_distinct_below}
use Rattle.std.specs.BinaryHeap.{IsUpperBound, PopsGreatest}
use Rattle.std.specs.List.{AllByRecursion, IsDistinct, list_any}
use Rattle.std.specs.List.Sorted.{IsPermutation}
use Rattle.std.specs.Option.{option_eq}
use Rattle.std.specs.Ordering.{nat_cmp}
use Rattle.std.specs.Prelude.{MatchOption}
use Rattle.std.specs.declared.cmp.Reverse.{Reverse}
use Rattle.pg_slots.specs.Kept.{AllMarked, AreFree, IsLowestFirst, IsUnmarked, SlotMarks, is_taken, slots_of}

abbrev pub marks : ℕ → ℕ → List (Reverse ℕ) → SlotMarks
marks count unused given = record { count = count; unused = unused; given = slots_of given }

-- at first none was taken
pub none_given : (count room : ℕ) → count ≤ room → AreFree (marks count 0 []) room
unfolding IsDistinct
none_given count room fits = record { inside = omega arith; room_for = fits; below = λ s is. absurd (false≢true is); apart = tt }

-- the top has the lowest number
none_below : (top : Reverse ℕ) (given : List (Reverse ℕ)) (s : ℕ) → IsUpperBound (λ x y. nat_cmp y.0 x.0) top given → s < top.0
    → list_any (nat_eq s) (slots_of given) ≡ false
none_below top [] s bound less = refl
none_below top (x ∷ xs) s bound less =
    let rest = none_below top xs s bound.1 less in
    let low : top.0 ≤ x.0 = grind (arith, nat_tests, bound.0) in
    let other : (nat_eq s x.0) ≡ false = grind (arith, nat_tests) in
    rw (other, rest) refl

top_among : (top : Reverse ℕ) (given : List (Reverse ℕ)) → 0 < length given → top ≡ slice_index_or given 0 top → list_any (nat_eq top.0) (slots_of given) ≡ true
top_among top [] some is = absurd (omega arith)
top_among top (x ∷ xs) some is = let same : (nat_eq top.0 x.0) ≡ true = grind (arith, nat_tests, ap (λ (r : Reverse ℕ). r.0) is) in rw same refl

-- the top is the lowest free slot
pub lowest_given : (count unused room : ℕ) (given : List (Reverse ℕ)) (top : Reverse ℕ) → AreFree (marks count unused given) room → 0 < length given
    → top ≡ slice_index_or given 0 top → IsUpperBound (λ x y. nat_cmp y.0 x.0) top given
    → IsUnmarked (marks count unused given) top.0
lowest_given count unused room given top free some is bound =
    let here = top_among top given some is in
    let less = free.below top.0 here in
    record {
      inside = omega (arith, free.inside);
      free = grind (arith, here);
      lowest = λ t below.
          let none = none_below top given t bound below in
          let used : nat_lt t unused ≡ true = grind (arith, nat_tests) in
          rw (none, used) refl;
    }

pub lowest_same : (slots : SlotMarks) (s t : ℕ) → IsUnmarked slots s → IsUnmarked slots t → s ≡ t
lowest_same slots s t one two =
    ⊎_elim
    (λ (e : s ≡ t). e)
    (⊎_elim
    (λ (less : s < t). absurd (false≢true (sym one.free ∙ two.lowest s less)))
    (λ (more : t < s). absurd (false≢true (sym two.free ∙ one.lowest t more))))
    (cases_order s t)

any_apart : (s : ℕ) (xs : List ℕ) → AllByRecursion (λ y. nat_eq s y ≡ false) xs → list_any (nat_eq s) xs ≡ false
any_apart s [] all = refl
any_apart s (x ∷ xs) all = rw (all.0, any_apart s xs all.1) refl

all_apart : (s : ℕ) (xs : List ℕ) → list_any (nat_eq s) xs ≡ false → AllByRecursion (λ y. nat_eq s y ≡ false) xs
all_apart s [] none = tt
all_apart s (x ∷ xs) none = (grind (arith, none), all_apart s xs (grind (arith, none)))

flips : (x y : ℕ) → nat_eq x y ≡ nat_eq y x
flips x y = grind (arith, nat_tests)

first_apart : (s : ℕ) (xs : List ℕ) → IsDistinct nat_eq (s ∷ xs) → list_any (nat_eq s) xs ≡ false
unfolding IsDistinct
first_apart s xs apart = any_apart s xs apart.0

-- one slot is taken now, or is free now
pub record Changes (slot : ℕ) (now : Bool) (room : ℕ) (old new : SlotMarks) : Type 0 where
  pub free : AreFree new room
  pub taken : (s : ℕ) → is_taken new s ≡ (if slot == s then now else is_taken old s)

pub popped : (count unused room : ℕ) (given rest : List (Reverse ℕ)) (top : Reverse ℕ) → AreFree (marks count unused given) room
    → IsPermutation given (top ∷ rest) → Changes top.0 true room (marks count unused given) (marks count unused rest)
popped count unused room given rest top free moved =
    let numbers : IsPermutation (slots_of given) (top.0 ∷ slots_of rest) = IsPermutation-map (λ (r : Reverse ℕ). r.0) given (top ∷ rest) moved in
    let distinct : IsDistinct nat_eq (top.0 ∷ slots_of rest) = IsDistinct-IsPermutation nat_eq flips (slots_of given) (top.0 ∷ slots_of rest) numbers
    free.apart in
    let none = first_apart top.0 (slots_of rest) distinct in
    let any : (s : ℕ) → list_any (nat_eq s) (slots_of given) ≡ list_any (nat_eq s) (top.0 ∷ slots_of rest) = λ s. list_any-IsPermutation (nat_eq s)
    (slots_of given) (top.0 ∷ slots_of rest) numbers in
    let here : list_any (nat_eq top.0) (slots_of given) ≡ true = any top.0 ∙ grind (arith, nat_tests) in
    let less = free.below top.0 here in
    record {
      free = record {
        inside = free.inside;
        room_for = free.room_for;
        below = λ s is. free.below s (any s ∙ grind (arith, is));
        apart = IsDistinct-tail nat_eq top.0 (slots_of rest) distinct;
      };
      taken = λ s. ⊎_elim
          (λ (same : (top.0 == s) ≡ true).
          let e : top.0 ≡ s = grind (arith, nat_tests) in
          let gone : list_any (nat_eq s) (slots_of rest) ≡ false = rw e at none in
          let used : nat_lt s unused ≡ true = grind (arith, nat_tests, less) in
          rw (same, gone, used) refl)
          (λ (other : (top.0 == s) ≡ false).
          let apart : nat_eq s top.0 ≡ false = grind (arith, nat_tests) in
          rw (other, any s, apart) refl)
          (cases_Bool (top.0 == s));
    }

-- what is popped is the lowest free slot
pub popped_lowest : (count unused room slot : ℕ) (given rest : List (Reverse ℕ)) (result : Option (Reverse ℕ)) → IsLowestFirst given
    → AreFree (marks count unused given) room → IsSome result → 0 < length given
    → IfSome result (λ top. top ≡ slice_index_or given 0 top) → IfSome result (λ top. IsPermutation given (top ∷ rest))
    → IfSome result (λ top. PopsGreatest (λ x y. nat_cmp y.0 x.0) given top rest) → IsUnmarked (marks count unused given) slot
    → IsLowestFirst rest × Changes slot true room (marks count unused given) (marks count unused rest)
popped_lowest count unused room slot given rest None order free some full first moved pops low = absurd (false≢true some)
popped_lowest count unused room slot given rest (Some top) order free some full first moved pops low =
    let kept = pops order in
    let same : top.0 ≡ slot = lowest_same (marks count unused given) top.0 slot (lowest_given count unused room given top free full first kept.1) low in
    (kept.0, rw (← same) (popped count unused room given rest top free moved))

-- what was found is the lowest free slot
pub found_lowest : (slots : SlotMarks) (result : Option ℕ) (slot : ℕ) → false ≡ not (option_eq nat_eq result (Some slot))
    → MatchOption result (AllMarked slots) (IsUnmarked slots) → IsUnmarked slots slot
found_lowest slots None slot is low = absurd (false≢true is)
found_lowest slots (Some s) slot is low = let same : s ≡ slot = grind (arith, nat_tests, is) in rw (← same) low

-- there is room for one slot more
pub has_room : (count unused room slot : ℕ) (given : List (Reverse ℕ)) → AreFree (marks count unused given) room
    → is_taken (marks count unused given) slot ≡ true → length given < room
has_room count unused room slot given free taken =
    let none : list_any (nat_eq slot) (slots_of given) ≡ false = grind (arith, taken) in
    let less : slot < unused = grind (arith, nat_tests, taken) in
    let distinct = IsDistinct-cons nat_eq slot (slots_of given) (all_apart slot (slots_of given) none) free.apart in
    let below : (s : ℕ) → list_any (nat_eq s) (slot ∷ slots_of given) ≡ true → s < unused
    = λ s is. ⊎_elim
    (λ (same : nat_eq s slot ≡ true). let e : s ≡ slot = grind (arith, nat_tests) in omega (arith, e, less))
    (λ (other : nat_eq s slot ≡ false). free.below s (rw other at is))
    (cases_Bool (nat_eq s slot)) in
    omega (
      arith,
      length-le_from_distinct_below (slot ∷ slots_of given) unused distinct below,
      length-map given (λ (r : Reverse ℕ). r.0),
      free.inside,
      free.room_for,
    )

pub pushed : (count unused room space slot : ℕ) (given new : List (Reverse ℕ)) → AreFree (marks count unused given) room → room ≤ space
    → is_taken (marks count unused given) slot ≡ true → IsPermutation (record { 0 = slot } ∷ given) new
    → Changes slot false space (marks count unused given) (marks count unused new)
pushed count unused room space slot given new free more taken moved =
    let numbers : IsPermutation (slot ∷ slots_of given) (slots_of new) = IsPermutation-map (λ (r : Reverse ℕ). r.0) (record { 0 = slot } ∷ given) new moved in
    let none : list_any (nat_eq slot) (slots_of given) ≡ false = grind (arith, taken) in
    let less : slot < unused = grind (arith, nat_tests, taken) in
    let any : (s : ℕ) → list_any (nat_eq s) (slot ∷ slots_of given) ≡ list_any (nat_eq s) (slots_of new) = λ s. list_any-IsPermutation (nat_eq s)
    (slot ∷ slots_of given) (slots_of new) numbers in
    record {
      free = record {
        inside = free.inside;
        room_for = omega (arith, free.room_for);
        below = λ s is. ⊎_elim
            (λ (same : nat_eq s slot ≡ true). let e : s ≡ slot = grind (arith, nat_tests) in omega (arith, e, less))
            (λ (other : nat_eq s slot ≡ false). free.below s (rw other at (any s ∙ is)))
            (cases_Bool (nat_eq s slot));
        apart =
            IsDistinct-IsPermutation nat_eq flips (slot ∷ slots_of given) (slots_of new) numbers
            (IsDistinct-cons nat_eq slot (slots_of given) (all_apart slot (slots_of given) none) free.apart);
      };
      taken = λ s. ⊎_elim
          (λ (same : (slot == s) ≡ true).
          let back : nat_eq s slot ≡ true = grind (arith, nat_tests) in
          let here : list_any (nat_eq s) (slots_of new) ≡ true = sym (any s) ∙ rw back refl in
          rw (same, here) (grind arith))
          (λ (other : (slot == s) ≡ false).
          let apart : nat_eq s slot ≡ false = grind (arith, nat_tests) in
          rw (other, ← (any s), apart) refl)
          (cases_Bool (slot == s));
    }
