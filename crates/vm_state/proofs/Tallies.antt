-- How many of the numbers below one pass a test: when another test counts as many, and what a count tells.
use Rattle.std.proofs.Common.{◌≡◌, ◌≤◌, ℕ, zero, suc, ◌+◌, ◌<◌, Bool, true, false, ap, refl, sym, ◌∙◌, arith, inl, inr}
use Rattle.std.proofs.lemmas.Bool.Decides.{eqb_tells, nat_tests}
use Rattle.std.specs.Prelude.{nat_lt}
use Rattle.vm_parts.specs.Changes.{one}
use Rattle.vm_state.specs.References.{tally}

pub tally_same : (test test2 : ℕ → Bool) (n : ℕ) → ((m : ℕ) → m < n → test2 m ≡ test m) → tally test2 n ≡ tally test n
tally_same test test2 zero same = refl
tally_same test test2 (suc n) same =
    let here : one (test2 n) ≡ one (test n) = ap one (same n (omega arith)) in
    let below = tally_same test test2 n (λ m less. same m (omega arith)) in
    omega arith

-- the tests differ on one number at most
pub tally_put : (test test2 : ℕ → Bool) (n at : ℕ) → at < n → ((m : ℕ) → (at ≡ m → ⊥) → test2 m ≡ test m)
    → tally test2 n + one (test at) ≡ tally test n + one (test2 at)
tally_put test test2 zero at less same = absurd (omega arith)
tally_put test test2 (suc n) at less same = elim (eqb_tells at n) [
  | inl is ↦
      let below = tally_same test test2 n (λ m small. same m (λ (eq : at ≡ m). let e = is.1 in omega arith)) in
      let first : one (test at) ≡ one (test n) = ap (λ z. one (test z)) is.1 in
      let second : one (test2 at) ≡ one (test2 n) = ap (λ z. one (test2 z)) is.1 in
      omega arith
  | inr apart ↦
      let not = apart.1 in
      let small : at < n = grind (arith, nat_tests) in
      let below = tally_put test test2 n at small same in
      let here : one (test2 n) ≡ one (test n) = ap one (same n apart.1) in
      omega arith
]

pub tally_some : (test : ℕ → Bool) (n at : ℕ) → at < n → test at ≡ true → 0 < tally test n
tally_some test zero at less passes = absurd (omega arith)
tally_some test (suc n) at less passes = elim (eqb_tells at n) [
  | inl is ↦ let here : one (test n) ≡ 1 = ap (λ z. one (test z)) (sym is.1) ∙ ap one passes in omega arith
  | inr apart ↦ let below = tally_some test n at (grind (arith, nat_tests)) passes in omega arith
]

pub tally_found : (test : ℕ → Bool) (n : ℕ) → 0 < tally test n → (at : ℕ) × (at < n) × (test at ≡ true)
tally_found test zero some = absurd (omega arith)
tally_found test (suc n) some = by (test n) refl (λ below. tally_found test n below)
  where
    by : (b : Bool) → test n ≡ b → (0 < tally test n → (at : ℕ) × (at < n) × (test at ≡ true)) → (at : ℕ) × (at < suc n) × (test at ≡ true)
    by true passes below = (n, omega arith, passes)
    by false fails below =
        let here : one (test n) ≡ 0 = ap one fails in
        let found = below (omega arith) in
        (found.0, (let less = found.1 in omega arith), found.2)

-- two numbers that pass count two
pub tally_two : (test : ℕ → Bool) (n a b : ℕ) → a < n → b < n → (a ≡ b → ⊥) → test a ≡ true → test b ≡ true → 2 ≤ tally test n
tally_two test zero a b less less2 apart passes passes2 = absurd (omega arith)
tally_two test (suc n) a b less less2 apart passes passes2 = elim (eqb_tells a n) [
  | inl is ↦
      let here : one (test n) ≡ 1 = ap (λ z. one (test z)) (sym is.1) ∙ ap one passes in
      let below = tally_some test n b (other b less2 (λ eq. apart (is.1 ∙ sym eq))) passes2 in
      omega arith
  | inr not ↦ elim (eqb_tells b n) [
    | inl is ↦
        let here : one (test n) ≡ 1 = ap (λ z. one (test z)) (sym is.1) ∙ ap one passes2 in
        let below = tally_some test n a (other a less not.1) passes in
        omega arith
    | inr not2 ↦ let below = tally_two test n a b (other a less not.1) (other b less2 not2.1) apart passes passes2 in omega arith
  ]
]
  where
    other : (m : ℕ) → m < suc n → (m ≡ n → ⊥) → m < n
    other m small not = by (nat_lt m n) refl
      where
        by : (b : Bool) → nat_lt m n ≡ b → m < n
        by true passes = grind (arith, nat_tests)
        by false fails = absurd (not (let le : n ≤ m = grind (arith, nat_tests) in omega arith))

pub tally_none : (test : ℕ → Bool) (n : ℕ) → ((m : ℕ) → m < n → test m ≡ false) → tally test n ≡ 0
tally_none test zero none = refl
tally_none test (suc n) none =
    let here : one (test n) ≡ 0 = ap one (none n (omega arith)) in
    let below = tally_none test n (λ m less. none m (omega arith)) in
    omega arith
