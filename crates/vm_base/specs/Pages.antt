-- Page sizes, and the number that stands in bytes.
use Rattle.std.specs.Prelude.{ℕ, zero, suc, ◌≡◌, ◌≤◌, ◌<◌, ◌+◌, ◌*◌, ◌/◌, ◌%◌, List, [], ◌∷◌, ◌++◌, ◌⊎◌, length, take, drop}
use Rattle.std.proofs.Math.Nat.{mul_assoc}
use Rattle.std.proofs.Common.{arith, inl, inr, ◌∙◌, ap}

-- a power of two from 16 to 4,096
abbrev pub IsPageSize : ℕ → Type 0
IsPageSize n = (n ≡ 16) ⊎ ((n ≡ 32) ⊎ ((n ≡ 64) ⊎ ((n ≡ 128) ⊎ ((n ≡ 256)
    ⊎ ((n ≡ 512) ⊎ ((n ≡ 1024) ⊎ ((n ≡ 2048) ⊎ (n ≡ 4096))))))))

-- the size of an access
abbrev pub IsAccessSize : ℕ → Type 0
IsAccessSize n = (n ≡ 1) ⊎ ((n ≡ 2) ⊎ ((n ≡ 4) ⊎ (n ≡ 8)))

-- the number that little-endian bytes spell
abbrev pub little_endian : List ℕ → ℕ
little_endian [] = 0
little_endian (byte ∷ bytes) = byte + 256 * little_endian bytes

-- the so many little-endian bytes that spell a number
abbrev pub little_endian_bytes : ℕ → ℕ → List ℕ
little_endian_bytes zero value = []
little_endian_bytes (suc n) value = value % 256 ∷ little_endian_bytes n (value / 256)

-- the page with these bytes at this place
abbrev pub with_bytes : ℕ → List ℕ → List ℕ → List ℕ
with_bytes at bytes page = take at page ++ bytes ++ drop (at + length bytes) page

-- a page is a multiple of eight bytes
eights : (size : ℕ) → IsPageSize size → size ≡ 8 * (size / 8)
eights size page = grind arith

within : (m n x r at : ℕ) → IsAccessSize n → at ≡ 8 * x + r → r < 8 * m → at % n ≡ 0 → r + n ≤ 8 * m
within m n x r at (inl one) sum less multiple = rw one (omega arith)
within m n x r at (inr (inl two)) sum less multiple = let h : at % 2 ≡ 0 = rw two at multiple in rw two (omega arith)
within m n x r at (inr (inr (inl four))) sum less multiple = let h : at % 4 ≡ 0 = rw four at multiple in rw four (omega arith)
within m n x r at (inr (inr (inr eight))) sum less multiple = let h : at % 8 ≡ 0 = rw eight at multiple in rw eight (omega arith)

-- an access of this size at a multiple of its size lies within a page
pub access_fits : (size n at : ℕ) → IsPageSize size → IsAccessSize n → at % n ≡ 0 → at % size + n ≤ size
access_fits size n at page access multiple =
    let e = eights size page in
    let positive : 0 < size = grind arith in
    let parts : size * (at / size) + at % size ≡ at = omega arith in
    let less : at % size < 8 * (size / 8) = omega arith in
    let product : size * (at / size) ≡ 8 * ((size / 8) * (at / size)) = ap (λ z. z * (at / size)) e ∙ mul_assoc 8 (size / 8) (at / size) in
    let sum : at ≡ 8 * ((size / 8) * (at / size)) + at % size = omega arith in
    let fits = within (size / 8) n ((size / 8) * (at / size)) (at % size) at access sum less multiple in
    omega arith

pub page_positive : (size : ℕ) → IsPageSize size → 0 < size
page_positive size page = grind arith
