-- What the bits of pages say, and what they say when one is set.
use Rattle.std.proofs.Common.{ℕ, ◌≡◌, ◌≢◌, ◌<◌, ◌≤◌, ◌*◌, ◌/◌, ◌%◌, ◌^◌, ◌==◌, Bool, true, false, List, ◌∷◌, zero, suc, length, inl, inr, refl, sym, ◌∙◌, ap}
use Rattle.std.proofs.Common.{arith, w64}
use Rattle.std.proofs.lemmas.Bool.Decides.{eqb_tells}
use Rattle.std.proofs.lemmas.List.{get_or-set_other, get_or-set_same}
use Rattle.std.proofs.lemmas.Nat.Bits.{bit_at-zero, bit_at_set_other, bit_at_set_same}
use Rattle.std.specs.Int.{bit_at}
use Rattle.std.specs.Prelude.{bit_or, if◌then◌else◌, replicate, slice_index_or, slice_set}
use Rattle.vm_copies.specs.Pages.{each_below, is_set, pages_in}

pub at_below : (n : ℕ) (test : ℕ → Bool) (p : ℕ) → p < n → slice_index_or (each_below n test) p false ≡ test p
at_below zero test p less = absurd (omega (arith, less))
at_below (suc n) test zero less = refl
at_below (suc n) test (suc p) less = at_below n (λ i. test (suc i)) p (omega (arith, less))

pub at_above : (n : ℕ) (test : ℕ → Bool) (p : ℕ) → n ≤ p → slice_index_or (each_below n test) p false ≡ false
at_above zero test p past = refl
at_above (suc n) test zero past = absurd (omega (arith, past))
at_above (suc n) test (suc p) past = at_above n (λ i. test (suc i)) p (omega (arith, past))

pub same_below : (n : ℕ) (one other : ℕ → Bool) → ((i : ℕ) → one i ≡ other i) → each_below n one ≡ each_below n other
same_below zero one other each = refl
same_below (suc n) one other each = rw (each 0, same_below n (λ i. one (suc i)) (λ i. other (suc i)) (λ i. each (suc i))) refl

none_below : (n : ℕ) → each_below n (λ i. false) ≡ replicate n false
none_below zero = refl
none_below (suc n) = ap (λ z. false ∷ z) (none_below n)

-- a test turns true at one number
pub set_below : (n : ℕ) (old new : ℕ → Bool) (p : ℕ) → new p ≡ true → ((i : ℕ) → i ≢ p → new i ≡ old i)
    → slice_set (each_below n old) p true ≡ each_below n new
set_below zero old new p at other = refl
set_below (suc n) old new zero at other =
    rw (at, same_below n (λ i. new (suc i)) (λ i. old (suc i)) (λ i. other (suc i) (λ e. absurd (omega (arith, e))))) refl
set_below (suc n) old new (suc p) at other =
    rw (other 0 (λ e. absurd (omega (arith, e))))
    (ap (λ z. old 0 ∷ z) (set_below n (λ i. old (suc i)) (λ i. new (suc i)) p at (λ i apart. other (suc i) (λ e. apart (omega (arith, e))))))

length_below : (n : ℕ) (test : ℕ → Bool) → length (each_below n test) ≡ n
length_below zero test = refl
length_below (suc n) test = ap suc (length_below n (λ i. test (suc i)))

-- a list of the same has that everywhere
pub all_same : {X : Type 0} (x : X) (n i : ℕ) → slice_index_or (replicate n x) i x ≡ x
all_same x zero i = refl
all_same x (suc n) zero = refl
all_same x (suc n) (suc i) = all_same x n i

-- words of zeros have no page
pub none_in : (pages n : ℕ) → pages_in pages (replicate {A = ℕ} n 0) ≡ replicate pages false
none_in pages n =
    same_below pages (is_set (replicate {A = ℕ} n 0)) (λ i. false)
    (λ i. ap (λ z. bit_at z (i % 64) == 1) (all_same 0 n (i / 64)) ∙ ap (λ z. z == 1) (bit_at-zero (i % 64))) ∙ none_below pages

-- the words with the bit of a page set
abbrev pub words_with : ℕ → List ℕ → List ℕ
words_with p words = slice_set words (p / 64) (bit_or (slice_index_or words (p / 64) 0) (1 * 2 ^ (p % 64) % 2 ^ 64))

set_here : (p : ℕ) (words : List ℕ) → p / 64 < length words → is_set (words_with p words) p ≡ true
set_here p words inside =
    ap (λ z. bit_at z (p % 64) == 1) (get_or-set_same words (p / 64) _ 0 inside)
    ∙ ap (λ z. z == 1) (bit_at_set_same w64 (slice_index_or words (p / 64) 0) (p % 64) (omega arith))

set_elsewhere : (p : ℕ) (words : List ℕ) → p / 64 < length words → (q : ℕ) → q ≢ p → is_set (words_with p words) q ≡ is_set words q
set_elsewhere p words inside q apart = elim (eqb_tells (p / 64) (q / 64)) [
  | inl same ↦
      let differ : q % 64 ≢ p % 64 = λ e. apart (omega (arith, e, same.1)) in
      let word = slice_index_or words (p / 64) 0 in
      let now : slice_index_or (words_with p words) (q / 64) 0 ≡ bit_or word (1 * 2 ^ (p % 64) % 2 ^ 64) =
      ap (λ z. slice_index_or (words_with p words) z 0) (sym same.1) ∙ get_or-set_same words (p / 64) _ 0 inside in
      ap (λ z. bit_at z (q % 64) == 1) now ∙ ap (λ z. z == 1) (bit_at_set_other w64 word (p % 64) (omega arith) (q % 64) differ)
      ∙ ap (λ z. bit_at z (q % 64) == 1) (ap (λ z. slice_index_or words z 0) same.1)
  | inr other ↦ ap (λ z. bit_at z (q % 64) == 1) (get_or-set_other words (p / 64) (q / 64) _ 0 (λ e. other.1 (sym e)))
]

-- the bit of a page is set, and so the page is among those that were had
pub pages_with : (pages p : ℕ) (words : List ℕ) → pages ≤ 64 * length words → p < pages
    → pages_in pages (words_with p words) ≡ slice_set (pages_in pages words) p true
pages_with pages p words enough less =
    let inside : p / 64 < length words = omega (arith, enough, less) in
    sym (set_below pages (is_set words) (is_set (words_with p words)) p (set_here p words inside) (set_elsewhere p words inside))

-- and each other page is among them as it was
pub had_with : (pages p : ℕ) (words : List ℕ) → p < pages → (q : ℕ)
    → slice_index_or (slice_set (pages_in pages words) p true) q false ≡ (if p == q then true else slice_index_or (pages_in pages words) q false)
had_with pages p words less q = elim (eqb_tells p q) [
  | inl same ↦
      let inside : p < length (pages_in pages words) = rw (length_below pages (is_set words)) less in
      rw same.0 (ap (λ z. slice_index_or (slice_set (pages_in pages words) p true) z false) (sym same.1)
      ∙ get_or-set_same (pages_in pages words) p true false inside)
  | inr other ↦ rw other.0 (get_or-set_other (pages_in pages words) p q true false (λ e. other.1 (sym e)))
]
