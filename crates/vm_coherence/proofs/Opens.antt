-- Where unlocks and the locks that answer them stand.
use Rattle.std.proofs.Common.{◌≡◌, ℕ, zero, suc, ◌+◌, ◌≤◌, List, [], ◌∷◌, ◌++◌, arith, false}
use Rattle.std.proofs.lemmas.Bool.Decides.{nat_tests}
use Rattle.vm_model.specs.Words.{DownWord, Supplying, Locking}
use Rattle.vm_coherence.proofs.Queues.{if_any, grant, supplies, any_reply, sum_down, odd, sum_down_end}
use Rattle.vm_coherence.proofs.Ways.{locks}

-- 1 for a lock that answers an unlock
abbrev pub opens : DownWord → ℕ
opens (Locking count returns false zero false) = 1
opens w = 0

-- 1 for a supply with a lock
abbrev pub reads_down : DownWord → ℕ
reads_down (Supplying (suc lock) precious bytes) = 1
reads_down w = 0

opens_is : (w : DownWord) → opens w ≤ grant w
opens_is w = grind arith

pub opens_le : (q : List DownWord) → sum_down opens q ≤ sum_down grant q
opens_le [] = omega arith
opens_le (w ∷ q) = omega (arith, opens_le q, opens_is w)

reads_is : (w : DownWord) → reads_down w ≤ supplies w
reads_is w = grind arith

pub reads_le : (q : List DownWord) → sum_down reads_down q ≤ sum_down supplies q
reads_le [] = omega arith
reads_le (w ∷ q) = omega (arith, reads_le q, reads_is w)

locks_is : (w : DownWord) → locks w ≤ (any_reply w + opens w) + odd w
locks_is w = grind (arith, nat_tests)

-- a lock has a reply, or answers an unlock
pub locks_le : (q : List DownWord) → sum_down locks q ≤ (sum_down any_reply q + sum_down opens q) + sum_down odd q
locks_le [] = omega arith
locks_le (w ∷ q) = omega (arith, locks_le q, locks_is w)

-- words of one kind behind words of another
abbrev pub behind_down : (DownWord → ℕ) → (DownWord → ℕ) → List DownWord → ℕ
behind_down f g [] = 0
behind_down f g (w ∷ q) = if_any (f w) (sum_down g q) + behind_down f g q

if_any_0 : (m : ℕ) → if_any m 0 ≡ 0
if_any_0 m = grind arith

if_any_none : (m n : ℕ) → m ≡ 0 → if_any m n ≡ 0
if_any_none m n e = grind arith

pub behind_down_end : (f g : DownWord → ℕ) (q : List DownWord) (w : DownWord) → g w ≡ 0 → behind_down f g (q ++ w ∷ []) ≡ behind_down f g q
behind_down_end f g [] w none = omega (arith, if_any_0 (f w))
behind_down_end f g (v ∷ q) w none =
    rw (sum_down_end g q w, none) (let e : sum_down g q + 0 ≡ sum_down g q = omega arith in rw e (omega (arith, behind_down_end f g q w none)))

pub behind_down_new : (f g : DownWord → ℕ) (q : List DownWord) (w : DownWord) → sum_down f q ≡ 0 → behind_down f g (q ++ w ∷ []) ≡ 0
behind_down_new f g [] w none = omega (arith, if_any_0 (f w))
behind_down_new f g (v ∷ q) w none =
    let v_none : f v ≡ 0 = omega arith in
    let rest_none : sum_down f q ≡ 0 = omega arith in
    omega (arith, if_any_none (f v) (sum_down g (q ++ w ∷ [])) v_none, behind_down_new f g q w rest_none)
