-- Two lists in which each number stands equally often are equally long.
use Rattle.vm_kernel.proofs.Common.{Bool, List, [], ap, arith, eqb_tells, false, if◌then◌else◌, inl, inr, length, refl, subst, sym, true, ℕ, ◌+◌, ◌<◌, ◌==◌}
use Rattle.vm_kernel.proofs.Common.{◌∙◌, ◌∷◌, ◌≡◌}
use Rattle.vm_kernel.proofs.memory.PagesShown.{itself}
use Rattle.vm_kernel.specs.Destroying.{occurrences}
use Rattle.vm_parts.specs.Changes.{one}

-- the list without the first such number
abbrev without_one : ℕ → List ℕ → List ℕ
without_one x [] = []
without_one x (y ∷ ys) = if y == x then ys else y ∷ without_one x ys

-- it stands there
there : (x y : ℕ) (ys : List ℕ) → (y == x) ≡ true → one (y == x) + occurrences x ys ≡ 1 + occurrences x ys
there x y ys is = ap (λ b. one b + occurrences x ys) is

further : (x y : ℕ) (ys : List ℕ) → (y == x) ≡ false → 0 < occurrences x (y ∷ ys) → 0 < occurrences x ys
further x y ys apart some = let more : 0 < 0 + occurrences x ys = subst (λ (b : Bool). 0 < one b + occurrences x ys) apart some in omega (arith, more)

occurs_less : (x : ℕ) (ys : List ℕ) → 0 < occurrences x ys → (n : ℕ) → occurrences n (without_one x ys) + one (x == n) ≡ occurrences n ys
occurs_less x [] some n = absurd (omega (arith, some))
occurs_less x (y ∷ ys) some n = elim (eqb_tells y x) [
  | inl same ↦ ap (λ b. occurrences n (if b then ys else y ∷ without_one x ys) + one (x == n)) same.0
      ∙ (ap (λ z. occurrences n ys + one (z == n)) (sym same.1) ∙ swapped (occurrences n ys) (one (y == n)))
  | inr apart ↦ ap (λ b. occurrences n (if b then ys else y ∷ without_one x ys) + one (x == n)) apart.0
      ∙ kept (one (y == n)) (occurrences n (without_one x ys)) (one (x == n)) (occurrences n ys) (occurs_less x ys (further x y ys apart.0 some) n)
]
  where
    swapped : (a b : ℕ) → a + b ≡ b + a
    swapped a b = omega arith

    kept : (a b c d : ℕ) → b + c ≡ d → a + b + c ≡ a + d
    kept a b c d is = omega (arith, is)

length_less : (x : ℕ) (ys : List ℕ) → 0 < occurrences x ys → length (without_one x ys) + 1 ≡ length ys
length_less x [] some = absurd (omega (arith, some))
length_less x (y ∷ ys) some = elim (eqb_tells y x) [
  | inl same ↦ ap (λ b. length (if b then ys else y ∷ without_one x ys) + 1) same.0 ∙ omega arith
  | inr apart ↦ ap (λ b. length (if b then ys else y ∷ without_one x ys) + 1) apart.0
      ∙ (let less = length_less x ys (further x y ys apart.0 some) in omega (arith, less))
]

pub lengths_same : (xs ys : List ℕ) → ((n : ℕ) → occurrences n xs ≡ occurrences n ys) → length xs ≡ length ys
lengths_same [] [] same = refl
lengths_same [] (y ∷ ys) same = let bad = same y in let its = there y y ys (itself y) in absurd (omega (arith, bad, its))
lengths_same (x ∷ xs) ys same =
    let its = same x in
    let stands = there x x xs (itself x) in
    let some : 0 < occurrences x ys = omega (arith, its, stands) in
    let less = length_less x ys some in
    let rest = lengths_same xs (without_one x ys) (λ n. let both = same n in let without = occurs_less x ys some n in omega (arith, both, without)) in
    omega (arith, less, rest)
