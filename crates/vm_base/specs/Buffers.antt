-- What contracts see of a store of page buffers.
use Rattle.std.specs.Prelude.{ℕ, ◌≡◌, List, [], ◌∷◌, replicate}

-- the bytes of a page, and how many buffers are kept
pub record BufferStore : Type 0 where
  pub size : ℕ
  pub count : ℕ

-- each of them is a page of zeros
abbrev pub AllZero : ℕ → List (List ℕ) → Type 0
AllZero size [] = Unit {0}
AllZero size (page ∷ pages) = (page ≡ replicate size 0) × AllZero size pages
