-- The objects of a heap, and the least of them.
use Rattle.std.proofs.Common.{◌≡◌, ◌≤◌, ◌⊎◌, List, [], ◌∷◌, Contains, IsPermutation, refl, sym, ap, inl, inr, arith}
use Rattle.std.proofs.lemmas.Bool.Decides.{nat_tests}
use Rattle.std.proofs.lemmas.List.Elements.{Contains-append_cases, Contains-append_right, Contains-push_cases}
use Rattle.std.proofs.lemmas.List.Sorted.{Contains-permutation, IsPermutation-map, IsPermutation-sym}
use Rattle.std.specs.BinaryHeap.{IsUpperBound}
use Rattle.std.specs.Ordering.{nat_cmp}
use Rattle.std.specs.declared.cmp.Reverse.{Reverse}
use Rattle.vm_base.specs.declared.ids.ObjectId.{ObjectId}
use Rattle.vm_merge.specs.Losing.{losers_of}

pub in_none : {X : Type 0} (x : X) → Contains [] x → ⊥
in_none x h = let less = h.1 in absurd (omega arith)

pub in_front : {X : Type 0} (x y : X) (xs : List X) → Contains (x ∷ xs) y → (y ≡ x) ⊎ Contains xs y
in_front x y xs h = elim (Contains-append_cases (x ∷ []) xs y h) [
  | inl one ↦ elim (Contains-push_cases [] x y one) [
    | inl none ↦ absurd (in_none y none)
    | inr same ↦ inl (sym same)
  ]
  | inr more ↦ inr more
]

pub first_in : {X : Type 0} (x : X) (xs : List X) → Contains (x ∷ xs) x
first_in x xs = (0, omega arith, refl)

-- another order has the same objects
pub same_losers : (xs ys : List (Reverse ObjectId)) → IsPermutation xs ys → (o : ObjectId) → Contains (losers_of xs) o → Contains (losers_of ys) o
same_losers xs ys moved o = Contains-permutation (losers_of xs) (losers_of ys) o (IsPermutation-map (λ (r : Reverse ObjectId). r.0) xs ys moved)

pub losers_back : (xs ys : List (Reverse ObjectId)) → IsPermutation xs ys → (o : ObjectId) → Contains (losers_of ys) o → Contains (losers_of xs) o
losers_back xs ys moved = same_losers ys xs (IsPermutation-sym xs ys moved)

pub behind_top : {X : Type 0} (x y : X) (xs : List X) → Contains xs y → Contains (x ∷ xs) y
behind_top x y xs h = Contains-append_right (x ∷ []) xs y h

-- the top has the least number
pub least_top : (top : Reverse ObjectId) (heap : List (Reverse ObjectId)) → IsUpperBound (λ x y. nat_cmp y.0.0 x.0.0) top heap → (o : ObjectId)
    → Contains (losers_of heap) o → top.0.0 ≤ o.0
least_top top [] bound o h = absurd (in_none o h)
least_top top (x ∷ xs) bound o h = elim (in_front x.0 o (losers_of xs) h) [
  | inl same ↦
      let low : top.0.0 ≤ x.0.0 = grind (arith, nat_tests, bound.0) in
      let number : o.0 ≡ x.0.0 = ap (λ z. z.0) same in
      omega (arith, low, number)
  | inr more ↦ least_top top xs bound.1 o more
]
