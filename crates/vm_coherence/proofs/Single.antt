-- A host has one unlock at a time.
use Rattle.std.proofs.Common.{◌≡◌, ℕ, ◌+◌, ◌<◌, ◌≤◌, ◌≢◌, List, arith, Bool, true, false, Some}
use Rattle.std.proofs.lemmas.Bool.Decides.{nat_tests}
use Rattle.vm_model.specs.Words.{Asking, Unlocking, Returning, Doing, Ending, Supplying, Locking, SendsUp, TakenUp, SentDown, Drops, Stores}
use Rattle.vm_model.specs.Side.{Side, nobody, rest, opened, side_taken_down, side_after}
use Rattle.vm_model.specs.Waiters.{Waiter}
use Rattle.vm_model.specs.Server.{first}
use Rattle.vm_model.specs.PageLicences.{MaySend}
use Rattle.vm_coherence.proofs.Queues.{asks, sum_up, sum_up_end, behind, behind_end, behind_new, supplies, replies, sum_down, replies_le, sum_down_end}
use Rattle.vm_coherence.proofs.Queues.{loose_all}
use Rattle.vm_coherence.proofs.Sound.{MayAnswer, Sound}
use Rattle.vm_coherence.proofs.Law.{writes}
use Rattle.vm_coherence.proofs.Ways.{unlocks, outcome_none}
use Rattle.vm_coherence.proofs.Carried.{gate, after, Carried}
use Rattle.vm_coherence.proofs.Opens.{opens, reads_down, opens_le, reads_le, locks_le, behind_down, behind_down_end, behind_down_new}

-- of a host that has n unlocks pending
pub record Single (s : Side) (n : ℕ) : Type 0 where
  pub one : sum_up unlocks s.up + n ≤ 1
  -- a page that is here with no unlock outstanding has none on the way or pending, but for one that a flush has overtaken
  pub reading : 0 < s.right → s.unlocking ≡ false → s.step ≢ 2 → sum_up unlocks s.up + n ≡ 0
  pub behind_asks : behind asks unlocks s.up ≡ 0
  pub pending_none : 0 < s.pending → sum_up unlocks s.up ≡ 0
  pub coming_none : 0 < sum_down supplies s.down → sum_up unlocks s.up + n ≡ 0
  -- the lock that answers an unlock
  pub opening : 0 < sum_down opens s.down → sum_up unlocks s.up + n ≡ 0
  pub opening_out : 0 < sum_down opens s.down → 0 < s.right → s.unlocking ≡ true
  pub opens_first : behind_down supplies opens s.down ≡ 0
  pub opens_once : sum_down opens s.down ≤ 1
  -- a host that holds Write and isn't awaited has none on the way
  pub settled : s.holds ≡ 2 → s.awaits ≡ 0 → sum_up unlocks s.up ≡ 0
  -- a clean lock meets no page that is here with a lock
  pub clean_ahead : 0 < sum_down (replies 1) s.down → s.right ≡ 1 → 0 < sum_down opens s.down
  pub clean_reads : 0 < sum_down (replies 1) s.down → sum_down reads_down s.down ≡ 0
  pub reads_hold : 0 < sum_down reads_down s.down → s.holds ≢ 2

pub single_asking : (ws : List Waiter) (rs : List ℕ) (s : Side) (n control asker access : ℕ) → Sound s → Carried s n → Single s n
    → MaySend ws rs s (Asking asker access) → Single (side_after s (SendsUp control (Asking asker access))) (after s n (SendsUp control (Asking asker access)))
single_asking ws rs s n control asker access ok k x may = grind (arith, nat_tests, sum_up_end, behind_end)

pub single_unlocking : (ws : List Waiter) (rs : List ℕ) (s : Side) (n control access : ℕ) → Sound s → Carried s n → Single s n
    → MaySend ws rs s (Unlocking access) → Single (side_after s (SendsUp control (Unlocking access))) (after s n (SendsUp control (Unlocking access)))
single_unlocking ws rs s n control access ok k x may = grind (arith, nat_tests, sum_up_end, behind_new, outcome_none s.down s.right, locks_le s.down)

pub single_returning : (ws : List Waiter) (rs : List ℕ) (s : Side) (n control : ℕ) (dirty keep : Bool) (bytes : List ℕ) → Sound s → Carried s n → Single s n
    → MaySend ws rs s (Returning dirty keep bytes) → Single (side_after s (SendsUp control (Returning dirty keep bytes)))
    (after s n (SendsUp control (Returning dirty keep bytes)))
single_returning ws rs s n control dirty keep bytes ok k x may = grind (arith, nat_tests, sum_up_end, behind_end)

pub single_doing : (ws : List Waiter) (rs : List ℕ) (s : Side) (n control told count : ℕ) → Sound s → Carried s n → Single s n
    → MaySend ws rs s (Doing told count) → Single (side_after s (SendsUp control (Doing told count))) (after s n (SendsUp control (Doing told count)))
single_doing ws rs s n control told count ok k x may = grind (arith, nat_tests, sum_up_end, behind_end)

pub single_ending : (ws : List Waiter) (rs : List ℕ) (s : Side) (n control told : ℕ) → Sound s → Carried s n → Single s n → MaySend ws rs s (Ending told)
    → Single (side_after s (SendsUp control (Ending told))) (after s n (SendsUp control (Ending told)))
single_ending ws rs s n control told ok k x may = grind (arith, nat_tests, sum_up_end, behind_end)

pub single_opens : (s : Side) (n control : ℕ) (ready : Bool) → Sound s → Carried s n → Single s n → s.live ≡ false
    → Single (opened s control ready) (gate s.holds n)
single_opens s n control ready ok k x live = grind (arith, nat_tests)

pub single_rest : (s : Side) (n : ℕ) → Sound s → Carried s n → Single s n → s.step ≡ 0 → Single (record s { step = 0 }) (gate s.holds n)
single_rest s n ok k x none = grind (arith, nat_tests)

pub single_ready : (s : Side) (n : ℕ) → Sound s → Carried s n → Single s n → s.step ≡ 0 → Single (record s { ready = true; step = 0 }) (gate s.holds n)
single_ready s n ok k x none = grind (arith, nat_tests)

pub single_same : (s : Side) (n : ℕ) → Carried s n → Single s n → Single s (gate s.holds n)
single_same s n k x = grind (arith, nat_tests)

pub single_drops : (s : Side) (n : ℕ) → Sound s → Carried s n → Single s n → Single (side_after s Drops) (after s n Drops)
single_drops s n ok k x = grind (arith, nat_tests)

pub single_stores : (s : Side) (n task at size value : ℕ) → Carried s n → Single s n
    → Single (side_after s (Stores task at size value)) (after s n (Stores task at size value))
single_stores s n task at size value k x = grind (arith, nat_tests)

-- what the server takes

pub single_heard_asking : (s : Side) (n asker access : ℕ) → Sound s → Carried s n → Single s n → first s.up ≡ Some (Asking asker access) → s.step ≡ 0
    → Single (side_after s (TakenUp (Asking asker access))) (after s n (TakenUp (Asking asker access)))
single_heard_asking s n asker access ok k x is none = grind (arith, nat_tests)

pub single_heard_unlocking : (s : Side) (n access : ℕ) → Sound s → Carried s n → Single s n → first s.up ≡ Some (Unlocking access) → s.step ≡ 0
    → Single (side_after s (TakenUp (Unlocking access))) (after s n (TakenUp (Unlocking access)))
single_heard_unlocking s n access ok k x is none = grind (arith, nat_tests)

pub single_heard_returning : (s : Side) (n : ℕ) (dirty keep : Bool) (bytes : List ℕ) → Sound s → Carried s n → Single s n
    → first s.up ≡ Some (Returning dirty keep bytes) → s.step ≡ 0
    → Single (side_after s (TakenUp (Returning dirty keep bytes))) (after s n (TakenUp (Returning dirty keep bytes)))
single_heard_returning s n dirty keep bytes ok k x is none = grind (arith, nat_tests)

pub single_heard_doing : (s : Side) (n control count : ℕ) → Sound s → Carried s n → Single s n → first s.up ≡ Some (Doing control count) → s.step ≡ 0
    → Single (side_after s (TakenUp (Doing control count))) (after s n (TakenUp (Doing control count)))
single_heard_doing s n control count ok k x is none = grind (arith, nat_tests)

pub single_heard_ending : (s : Side) (n control : ℕ) → Sound s → Carried s n → Single s n → first s.up ≡ Some (Ending control) → s.step ≡ 0
    → Single (side_after s (TakenUp (Ending control))) (after s n (TakenUp (Ending control)))
single_heard_ending s n control ok k x is none = grind (arith, nat_tests)

-- what the server sends

pub single_supply : (s : Side) (n control lock : ℕ) (precious : Bool) (bytes : List ℕ) → Sound s → Carried s n → Single s n
    → MayAnswer s (Supplying lock precious bytes) → Single (side_after s (SentDown control (Supplying lock precious bytes)))
    (after s n (SentDown control (Supplying lock precious bytes)))
single_supply s n control lock precious bytes ok k x may = grind (arith, nat_tests, sum_down_end, behind_down_end, reads_le s.down, replies_le 1 s.down)

pub single_upgrade : (s : Side) (n control count returns lock : ℕ) (flush : Bool) → Sound s → Carried s n → Single s n
    → MayAnswer s (Locking count returns flush lock false) → 0 < n
    → Single (side_after s (SentDown control (Locking count returns flush lock false))) (after s n (SentDown control (Locking count returns flush lock false)))
single_upgrade s n control count returns lock flush ok k x may some =
    grind (arith, nat_tests, sum_down_end, behind_down_new, reads_le s.down, replies_le 1 s.down)

pub single_order : (s : Side) (n control count returns lock : ℕ) (flush : Bool) → Sound s → Carried s n → Single s n
    → MayAnswer s (Locking count returns flush lock true) → (flush ≡ false → s.holds ≡ 2)
    → Single (side_after s (SentDown control (Locking count returns flush lock true))) (after s n (SentDown control (Locking count returns flush lock true)))
single_order s n control count returns lock flush ok k x may writes =
    grind (arith, nat_tests, sum_down_end, behind_down_end, outcome_none s.down s.right, locks_le s.down, replies_le 1 s.down)

-- what the host takes

pub single_supplied : (s : Side) (n lock : ℕ) (precious : Bool) (bytes : List ℕ) → Sound s → Carried s n → Single s n → s.live ≡ true
    → first s.down ≡ Some (Supplying lock precious bytes) → s.step ≡ 0 → Single (side_taken_down s (Supplying lock precious bytes)) (gate s.holds n)
single_supplied s n lock precious bytes ok k x live is none = grind (arith, nat_tests)

pub single_flushed : (s : Side) (n count returns lock : ℕ) → Sound s → Carried s n → Single s n → s.live ≡ true
    → first s.down ≡ Some (Locking count returns true lock true) → s.step ≡ 0
    → Single (side_taken_down s (Locking count returns true lock true)) (gate s.holds n)
single_flushed s n count returns lock ok k x live is none =
    grind (arith, nat_tests, loose_all (rest s.down), opens_le (rest s.down), replies_le 1 (rest s.down))

pub single_cleaned : (s : Side) (n count returns lock : ℕ) → Sound s → Carried s n → Single s n → s.live ≡ true
    → first s.down ≡ Some (Locking count returns false lock true) → s.step ≡ 0
    → Single (side_taken_down s (Locking count returns false lock true)) (gate s.holds n)
single_cleaned s n count returns lock ok k x live is none =
    grind (arith, nat_tests, loose_all (rest s.down), opens_le (rest s.down), replies_le 1 (rest s.down))

pub single_unlocked : (s : Side) (n count returns lock : ℕ) → Sound s → Carried s n → Single s n → s.live ≡ true
    → first s.down ≡ Some (Locking count returns false lock false) → s.step ≡ 0
    → Single (side_taken_down s (Locking count returns false lock false)) (gate s.holds n)
single_unlocked s n count returns lock ok k x live is none = grind (arith, nat_tests)

pub single_start : Single nobody 0
single_start = grind (arith, nat_tests)
