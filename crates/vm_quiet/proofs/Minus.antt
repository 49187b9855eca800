-- Places that are held, without others of them.
use Rattle.std.proofs.Common.{ℕ, suc, ◌≡◌, ◌∙◌, List, [], ◌∷◌, length, Bool, true, false, refl, sym, ap, subst, arith, if◌then◌else◌}
use Rattle.std.proofs.lemmas.Bool.Decides.{nat_tests}
use Rattle.std.specs.Prelude.{◌==◌, ◌&&◌, ◌+◌, ◌-◌, ◌≤◌}
use Rattle.vm_model.specs.Local.{Place}
use Rattle.vm_quiet.specs.Places.{times}
use Rattle.vm_quiet.proofs.Letters.{never}
use Rattle.vm_quiet.proofs.Places.{Held, held_less, held_same, held_some, one_if, own_place}

-- the test, but false at one place
abbrev pub but : Place → (ℕ → ℕ → Bool) → ℕ → ℕ → Bool
but x U o p = if x.object == o && x.page == p then false else U o p

none : (v u : Bool) → 0 ≡ one_if v → (if v then false else u) ≡ u
none true u is = absurd (omega (arith, is))
none false u is = refl

here : (b v : Bool) (k : ℕ) → b ≡ true → (if b then suc k else k) ≡ one_if v → v ≡ true
here true true k is e = refl
here true false k is e = absurd (omega (arith, e))
here false v k is e = never is

fewer : (b v : Bool) (k : ℕ) → (if b then suc k else k) ≡ one_if v → k ≡ one_if (if b then false else v)
fewer true true k e = omega (arith, e)
fewer true false k e = absurd (omega (arith, e))
fewer false v k e = e

within : (b v u : Bool) → (v ≡ true → u ≡ true) → (if b then false else v) ≡ true → (if b then false else u) ≡ true
within true v u inside is = is
within false v u inside is = inside is

left_out : (b v u w : Bool) → (b ≡ true → v ≡ true) → w ≡ (if v then false else u) → w ≡ (if (if b then false else v) then false else (if b then false else u))
left_out true true u w there is = is
left_out true false u w there is = never (there refl)
left_out false v u w there is = is

pub minus : (U W : ℕ → ℕ → Bool) (n : ℕ) (v : List Place) (V : ℕ → ℕ → Bool) → ((o p : ℕ) → times o p v ≡ one_if (V o p))
    → ((o p : ℕ) → V o p ≡ true → U o p ≡ true) → ((o p : ℕ) → W o p ≡ (if V o p then false else U o p))
    → Held U n → Held W (n - length v) × (length v ≤ n)
minus U W n [] V each inside new h =
    (subst (λ (k : ℕ). Held W k) (omega arith) (held_same U W n (λ o p. new o p ∙ none (V o p) (U o p) (each o p)) h), omega arith)
minus U W n (x ∷ xs) V each inside new h =
    let there : V x.object x.page ≡ true = here (x.object == x.object && x.page == x.page) (V x.object x.page) (times x.object x.page xs)
    (own_place x.object x.page) (each x.object x.page) in
    let some : 1 ≤ n = held_some U n x.object x.page (inside x.object x.page there) h in
    let one : Held (but x U) (n - 1) = held_less U (but x U) n x.object x.page (inside x.object x.page there) (λ o p. refl) h in
    let more = minus (but x U) W (n - 1) xs (but x V)
    (λ o p. fewer (x.object == o && x.page == p) (V o p) (times o p xs) (each o p))
    (λ o p. within (x.object == o && x.page == p) (V o p) (U o p) (inside o p))
    (λ o p. left_out (x.object == o && x.page == p) (V o p) (U o p) (W o p)
    (λ is. here (x.object == o && x.page == p) (V o p) (times o p xs) is (each o p)) (new o p))
    one in
    (subst (λ (k : ℕ). Held W k) (omega arith) more.0, omega (arith, more.1, some))

-- of so many places, of which there are as many at least
pub held_minus : (U V W : ℕ → ℕ → Bool) (n k : ℕ) → ((o p : ℕ) → V o p ≡ true → U o p ≡ true) → ((o p : ℕ) → W o p ≡ (if V o p then false else U o p))
    → Held U n → Held V k → Held W (n - k) × (k ≤ n)
held_minus U V W n k inside new h v =
    subst (λ (j : ℕ). Held W (n - j) × (j ≤ n)) v.count (minus U W n v.places V v.each inside new h)
