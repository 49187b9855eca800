-- Numbers that are whole pages.
use Rattle.std.proofs.Common.{ℕ, zero, suc, ◌≡◌, ◌+◌, ◌-◌, ◌*◌, ◌/◌, ◌%◌, ◌<◌, ◌≤◌, sym, ◌∙◌, ap, zero-add, ⊎_elim, arith}
use Rattle.std.proofs.lemmas.Bool.{cases_lt}
use Rattle.std.proofs.Math.Nat.{div-zero, add-mod, mod-mod, mod-eq_of_lt, div-mul-le_self, div-add-mod', add-mod_right}
use Rattle.std.proofs.lemmas.Nat.{le-div}

pub whole_add : (size a b : ℕ) → a % size ≡ 0 → (a + b) % size ≡ b % size
whole_add size a b whole = add-mod a b size ∙ (ap (λ z. (z + b % size) % size) whole ∙ (ap (λ z. z % size) (zero-add (b % size)) ∙ mod-mod b size))

pub whole_sub : (size a b : ℕ) → b ≤ a → a % size ≡ 0 → b % size ≡ 0 → (a - b) % size ≡ 0
whole_sub size a b le whole_a whole_b =
    let sum : b + (a - b) ≡ a = omega arith in
    sym (whole_add size b (a - b) whole_b) ∙ (ap (λ z. z % size) sum ∙ whole_a)

-- a page lies between two different multiples
pub page_between : (size a b : ℕ) → 0 < size → a % size ≡ 0 → b % size ≡ 0 → a < b → a + size ≤ b
page_between size a b some whole_a whole_b less =
    let whole : (b - a) % size ≡ 0 = whole_sub size b a (omega arith) whole_b whole_a in
    let far : b - a < size → ⊥ = λ small. let same : (b - a) % size ≡ b - a = mod-eq_of_lt small in omega arith in
    ⊎_elim (λ small. absurd (far small)) (λ le. omega arith) (cases_lt (b - a) size)

pub whole_step : (size a : ℕ) → a % size ≡ 0 → (a + size) % size ≡ 0
whole_step size a whole = add-mod_right a size ∙ whole

pub pages_of : (size bytes : ℕ) → bytes % size ≡ 0 → bytes / size * size ≡ bytes
pages_of size bytes whole = omega (arith, div-add-mod' bytes size)

pub div_grows : (size a b : ℕ) → a ≤ b → a / size ≤ b / size
div_grows zero a b le = rw (div-zero a, div-zero b) (omega arith)
div_grows (suc size) a b le = le-div (a / suc size) b (suc size) (omega arith) (omega (arith, div-mul-le_self a (suc size)))

pub div_sum : (size a b : ℕ) → a / size + b / size ≤ (a + b) / size
div_sum zero a b = rw (div-zero a, div-zero b, div-zero (a + b)) (omega arith)
div_sum (suc size) a b =
    le-div (a / suc size + b / suc size) (a + b) (suc size) (omega arith) (omega (arith, div-mul-le_self a (suc size), div-mul-le_self b (suc size)))
