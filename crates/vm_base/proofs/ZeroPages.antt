-- Buffers that are all pages of zeros.
use Rattle.std.proofs.Common.{◌≡◌, ℕ, zero, suc, ◌<◌, List, [], ◌∷◌, ◌++◌, length, replicate, take, drop, get_or, arith}
use Rattle.vm_base.specs.Buffers.{AllZero}

pub zero_at : (size : ℕ) (pages : List (List ℕ)) (i : ℕ) (default : List ℕ) → AllZero size pages → i < length pages → get_or pages i default ≡ replicate size 0
zero_at size [] i default zeros inside = absurd (omega arith)
zero_at size (page ∷ pages) zero default zeros inside = zeros.0
zero_at size (page ∷ pages) (suc i) default zeros inside = zero_at size pages i default zeros.1 (omega arith)

pub zero_rest : (size : ℕ) (pages : List (List ℕ)) (i : ℕ) → AllZero size pages → AllZero size (take i pages ++ drop (suc i) pages)
zero_rest size [] zero zeros = tt
zero_rest size [] (suc i) zeros = tt
zero_rest size (page ∷ pages) zero zeros = zeros.1
zero_rest size (page ∷ pages) (suc i) zeros = (zeros.0, zero_rest size pages i zeros.1)

pub zero_more : (size : ℕ) (pages : List (List ℕ)) (page : List ℕ) → AllZero size pages → page ≡ replicate size 0 → AllZero size (pages ++ page ∷ [])
zero_more size [] page zeros is = (is, tt)
zero_more size (first ∷ pages) page zeros is = (zeros.0, zero_more size pages page zeros.1 is)
