-- What the two queues of a place hold.
use Rattle.std.proofs.Common.{◌≡◌, ℕ, suc, ◌+◌, List, [], ◌∷◌, ◌++◌, arith, Option, Some, refl, length, subst}
use Rattle.vm_flat.specs.Words.{SpotUpWord, Requesting, Returning, SpotDownWord, Supplying, Unavailing, Erring}
use Rattle.vm_model.specs.Side.{rest}
use Rattle.vm_model.specs.Server.{first}

abbrev pub requests : List SpotUpWord → ℕ
requests [] = 0
requests (Requesting ∷ q) = suc (requests q)
requests (Returning bytes ∷ q) = requests q

abbrev pub returns : List SpotUpWord → ℕ
returns [] = 0
returns (Requesting ∷ q) = returns q
returns (Returning bytes ∷ q) = suc (returns q)

-- returns behind a request
abbrev pub behind : List SpotUpWord → ℕ
behind [] = 0
behind (Requesting ∷ q) = returns q + behind q
behind (Returning bytes ∷ q) = behind q

-- what the pager has once all is taken
abbrev pub latest : List SpotUpWord → Option (List ℕ) → Option (List ℕ)
latest [] k = k
latest (Requesting ∷ q) k = latest q k
latest (Returning bytes ∷ q) k = latest q (Some bytes)

pub requests_ask : (q : List SpotUpWord) → requests (q ++ Requesting ∷ []) ≡ suc (requests q)
requests_ask [] = refl
requests_ask (Requesting ∷ q) = omega (arith, requests_ask q)
requests_ask (Returning bytes ∷ q) = requests_ask q

pub requests_return : (q : List SpotUpWord) (b : List ℕ) → requests (q ++ Returning b ∷ []) ≡ requests q
requests_return [] b = refl
requests_return (Requesting ∷ q) b = omega (arith, requests_return q b)
requests_return (Returning bytes ∷ q) b = requests_return q b

pub returns_ask : (q : List SpotUpWord) → returns (q ++ Requesting ∷ []) ≡ returns q
returns_ask [] = refl
returns_ask (Requesting ∷ q) = returns_ask q
returns_ask (Returning bytes ∷ q) = omega (arith, returns_ask q)

pub behind_ask : (q : List SpotUpWord) → behind (q ++ Requesting ∷ []) ≡ behind q
behind_ask [] = refl
behind_ask (Requesting ∷ q) = omega (arith, behind_ask q, returns_ask q)
behind_ask (Returning bytes ∷ q) = behind_ask q

pub behind_return : (q : List SpotUpWord) (b : List ℕ) → requests q ≡ 0 → behind (q ++ Returning b ∷ []) ≡ behind q
behind_return [] b none = refl
behind_return (Requesting ∷ q) b none = absurd (omega (arith, none))
behind_return (Returning bytes ∷ q) b none = behind_return q b none

pub latest_ask : (q : List SpotUpWord) (k : Option (List ℕ)) → latest (q ++ Requesting ∷ []) k ≡ latest q k
latest_ask [] k = refl
latest_ask (Requesting ∷ q) k = latest_ask q k
latest_ask (Returning bytes ∷ q) k = latest_ask q (Some bytes)

pub latest_return : (q : List SpotUpWord) (k : Option (List ℕ)) (b : List ℕ) → latest (q ++ Returning b ∷ []) k ≡ Some b
latest_return [] k b = refl
latest_return (Requesting ∷ q) k b = latest_return q k b
latest_return (Returning bytes ∷ q) k b = latest_return q (Some bytes) b

pub latest_none : (q : List SpotUpWord) (k : Option (List ℕ)) → returns q ≡ 0 → latest q k ≡ k
latest_none [] k none = refl
latest_none (Requesting ∷ q) k none = latest_none q k none
latest_none (Returning bytes ∷ q) k none = absurd (omega (arith, none))

-- each answer on its way says what was returned last
abbrev pub Says : Option (List ℕ) → Option (List ℕ) → SpotDownWord → Type 0
Says n r (Supplying bytes) = r ≡ Some bytes
Says n r Unavailing = r ≡ n
Says n r Erring = Unit {0}

abbrev pub Carry : Option (List ℕ) → Option (List ℕ) → List SpotDownWord → Type 0
Carry n r [] = Unit {0}
Carry n r (w ∷ q) = Says n r w × Carry n r q

pub carry_end : (n r : Option (List ℕ)) (q : List SpotDownWord) (w : SpotDownWord) → Carry n r q → Says n r w → Carry n r (q ++ w ∷ [])
carry_end n r [] w c says = (says, tt)
carry_end n r (v ∷ q) w c says = (c.0, carry_end n r q w c.1 says)

pub carry_rest : (n r : Option (List ℕ)) (q : List SpotDownWord) → Carry n r q → Carry n r (rest q)
carry_rest n r [] c = tt
carry_rest n r (v ∷ q) c = c.1

pub carry_none : (n r : Option (List ℕ)) (q : List SpotDownWord) → length q ≡ 0 → Carry n r q
carry_none n r [] none = tt
carry_none n r (v ∷ q) none = absurd (omega (arith, none))

pub carry_first : (n r : Option (List ℕ)) (q : List SpotDownWord) (w : SpotDownWord) → first q ≡ Some w → Carry n r q → Says n r w
carry_first n r [] w is c = absurd (cc)
carry_first n r (v ∷ q) w is c = let e : v ≡ w = cc in subst (λ (u : SpotDownWord). Says n r u) e c.0

pub length_end : (q : List SpotDownWord) (w : SpotDownWord) → length (q ++ w ∷ []) ≡ suc (length q)
length_end [] w = refl
length_end (v ∷ q) w = omega (arith, length_end q w)
