-- Sums over all places, where one place changes.
use Rattle.std.proofs.Common.{ℕ, zero, suc, ◌≡◌, ◌≤◌, ◌<◌, ◌+◌, Bool, true, false, Some, refl, subst, arith}
use Rattle.std.proofs.lemmas.Bool.Decides.{nat_tests}
use Rattle.std.specs.Prelude.{◌==◌, ◌&&◌}
use Rattle.vm_bound.proofs.Distinct.{one_host, one_page, pages_lower, pages_sum, places_both, places_lower, places_sum, sum_lower, weigh}
use Rattle.vm_bound.specs.Lines.{sum_below}

-- the place is this one
abbrev pub is_at : ℕ → ℕ → ℕ → ℕ → ℕ → ℕ → Bool
is_at host object page h o p = host == h && (object == o && page == p)

-- where no summand rises, and one falls by so much, the sum does
pub falls_by : (n k w : ℕ) (f g : ℕ → ℕ) → ((i : ℕ) → f i ≤ g i) → k < n → f k + w ≤ g k → sum_below n f + w ≤ sum_below n g
falls_by zero k w f g each below less = absurd (omega (arith, below))
falls_by (suc n) k w f g each below less = by (k == n) refl (λ before. falls_by n k w f g each before less)
  where
    by : (b : Bool) → (k == n) ≡ b → (k < n → sum_below n f + w ≤ sum_below n g) → f n + sum_below n f + w ≤ g n + sum_below n g
    by true is more =
        let same : k ≡ n = grind (arith, nat_tests) in
        let one = subst (λ (j : ℕ). f j + w ≤ g j) same less in
        let rest = sum_lower n f g each in
        omega (arith, one, rest)
    by false is more =
        let apart : k < n = grind (arith, nat_tests, below) in
        let rest = more apart in
        let one = each n in
        omega (arith, one, rest)

-- one place of all
pub place_falls : (hosts objects : ℕ) (pages : ℕ → ℕ) (f g : ℕ → ℕ → ℕ → ℕ) (h o p w : ℕ) → ((i j k : ℕ) → f i j k ≤ g i j k) → h < hosts → o < objects
    → p < pages o → f h o p + w ≤ g h o p → places_sum hosts objects pages f + w ≤ places_sum hosts objects pages g
place_falls hosts objects pages f g h o p w each host object page less =
    falls_by hosts h w (λ i. pages_sum objects pages (f i)) (λ i. pages_sum objects pages (g i)) (λ i. pages_lower objects pages (f i) (g i) (each i)) host
    (falls_by objects o w (λ j. sum_below (pages j) (f h j)) (λ j. sum_below (pages j) (g h j)) (λ j. sum_lower (pages j) (f h j) (g h j) (each h j)) object
    (falls_by (pages o) p w (f h o) (g h o) (each h o) page less))

-- one place that may rise by so much
pub place_rises : (hosts objects : ℕ) (pages : ℕ → ℕ) (f g : ℕ → ℕ → ℕ → ℕ) (h o p w : ℕ)
    → ((i j k : ℕ) → f i j k ≤ g i j k + weigh (is_at h o p i j k) w) → places_sum hosts objects pages f ≤ places_sum hosts objects pages g + w
place_rises hosts objects pages f g h o p w each =
    let all = places_lower hosts objects pages f (λ i j k. g i j k + weigh (is_at h o p i j k) w) each in
    let both = places_both hosts objects pages g (λ i j k. weigh (is_at h o p i j k) w) in
    let few = one_host hosts objects pages (Some h) (λ j k. o == j && p == k) w w (one_page objects pages o p w) in
    omega (arith, all, both, few)
