-- More counts of what is on the way.
use Rattle.std.proofs.Common.{◌≡◌, ℕ, ◌+◌, ◌≤◌, List, [], ◌∷◌, ◌++◌, arith, if◌then◌else◌, refl, ◌==◌}
use Rattle.std.proofs.lemmas.Bool.Decides.{nat_tests}
use Rattle.vm_model.specs.Words.{UpWord, Asking, Unlocking, Doing, DownWord, Supplying, Locking}
use Rattle.vm_model.specs.Side.{right_of, locked}
use Rattle.vm_coherence.proofs.Queues.{asks, ender, does, ends, sum_up, sum_up_end, sum_up_le, late_step, supplies, any_reply, sum_down, raise, drain}

abbrev pub unlocks : UpWord → ℕ
unlocks (Unlocking access) = 1
unlocks w = 0

-- 1 for a request of another control
abbrev pub strange : ℕ → UpWord → ℕ
strange k (Asking control access) = if control == k then 0 else 1
strange k w = 0

abbrev pub does_of : ℕ → UpWord → ℕ
does_of k (Doing control count) = if control == k then 1 else 0
does_of k w = 0

strange_is : (k : ℕ) (w : UpWord) → strange k w ≤ asks w
strange_is k w = grind (arith, nat_tests)

does_is : (k : ℕ) (w : UpWord) → does_of k w ≤ does w
does_is k w = grind (arith, nat_tests)

ends_is : (k : ℕ) (w : UpWord) → ends k w ≤ ender w
ends_is k w = grind (arith, nat_tests)

pub strange_le : (k : ℕ) (q : List UpWord) → sum_up (strange k) q ≤ sum_up asks q
strange_le k q = sum_up_le (strange k) asks q (strange_is k)

pub does_le : (k : ℕ) (q : List UpWord) → sum_up (does_of k) q ≤ sum_up does q
does_le k q = sum_up_le (does_of k) does q (does_is k)

pub ends_le : (k : ℕ) (q : List UpWord) → sum_up (ends k) q ≤ sum_up ender q
ends_le k q = sum_up_le (ends k) ender q (ends_is k)

-- unlocks behind the last word that a lock is done
abbrev pub unlocks_left : List UpWord → ℕ
unlocks_left [] = 0
unlocks_left (w ∷ q) = late_step (sum_up does q) (unlocks w) (unlocks_left q)

pub unlocks_left_end : (q : List UpWord) (w : UpWord) → does w ≡ 0 → unlocks_left (q ++ w ∷ []) ≡ unlocks_left q + unlocks w
unlocks_left_end [] w none = omega arith
unlocks_left_end (v ∷ q) w none = rw (sum_up_end does q w, none) (grind (arith, unlocks_left_end q w none))

-- 1 for any lock
abbrev pub locks : DownWord → ℕ
locks (Locking count returns flush lock reply) = 1
locks w = 0

pub reply_le : (q : List DownWord) → sum_down any_reply q ≤ sum_down locks q
reply_le [] = omega arith
reply_le (w ∷ q) = omega (arith, reply_le q, reply_is w) where
  reply_is : (w : DownWord) → any_reply w ≤ locks w
  reply_is w = grind arith

-- the right that the host ends with, once it has taken all
abbrev pub exactly : DownWord → ℕ → ℕ
exactly (Supplying lock precious bytes) right = right_of lock
exactly (Locking count returns flush lock reply) right = locked right flush lock
exactly w right = right

abbrev pub outcome : List DownWord → ℕ → ℕ
outcome [] right = right
outcome (w ∷ q) right = outcome q (exactly w right)

pub outcome_end : (q : List DownWord) (w : DownWord) (right : ℕ) → outcome (q ++ w ∷ []) right ≡ exactly w (outcome q right)
outcome_end [] w right = refl
outcome_end (v ∷ q) w right = outcome_end q w (exactly v right)

exactly_le : (w : DownWord) (m n : ℕ) → m ≤ n → exactly w m ≤ raise w n
exactly_le w m n le = grind (arith, nat_tests)

outcome_more : (q : List DownWord) (m n : ℕ) → m ≤ n → outcome q m ≤ drain q n
outcome_more [] m n le = le
outcome_more (w ∷ q) m n le = outcome_more q (exactly w m) (raise w n) (exactly_le w m n le)

pub outcome_le : (q : List DownWord) (right : ℕ) → outcome q right ≤ drain q right
outcome_le q right = outcome_more q right right (omega arith)

pub outcome_none : (q : List DownWord) (right : ℕ) → sum_down locks q ≡ 0 → sum_down supplies q ≡ 0 → outcome q right ≡ right
outcome_none [] right none empty = refl
outcome_none (w ∷ q) right none empty =
    let same : exactly w right ≡ right = exactly_none w right (omega arith) (omega arith) in
    rw same (outcome_none q right (omega arith) (omega arith)) where
      exactly_none : (w : DownWord) (right : ℕ) → locks w ≡ 0 → supplies w ≡ 0 → exactly w right ≡ right
      exactly_none w right none empty = grind arith
