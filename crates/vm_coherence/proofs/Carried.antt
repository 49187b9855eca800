-- What a host waits for is on its way, or with the server.
use Rattle.std.proofs.Common.{◌≡◌, ℕ, ◌+◌, ◌==◌, ◌&&◌, if◌then◌else◌, ◌<◌, ◌≢◌, List, arith, Bool, true, false, Some}
use Rattle.std.proofs.lemmas.Bool.Decides.{nat_tests}
use native.Mathlib.Decide.{ℕ_discrete}
use Rattle.vm_model.specs.Words.{Asking, Unlocking, Returning, Doing, Ending, Supplying, Locking, ActEffect, SendsUp, TakenUp, SentDown, Drops, Stores}
use Rattle.vm_model.specs.Side.{Side, nobody, opened, put_down, side_taken_down, side_after}
use Rattle.vm_model.specs.Waiters.{Waiter}
use Rattle.vm_model.specs.Server.{first}
use Rattle.vm_model.specs.PageLicences.{MaySend}
use Rattle.vm_coherence.proofs.Queues.{asks, ends, sum_up, sum_up_end, supplies, any_reply, sum_down, sum_down_end, drain_up, drain_0}
use Rattle.vm_coherence.proofs.Sound.{MayAnswer, Sound}
use Rattle.vm_coherence.proofs.Ways.{strange, does_of, strange_le, does_le, ends_le, unlocks_left, unlocks_left_end, locks, reply_le, outcome, outcome_end}
use Rattle.vm_coherence.proofs.Ways.{outcome_le, outcome_none}

-- an unlock is pending only while its host holds Read
abbrev pub gate : ℕ → ℕ → ℕ
gate holds n = if holds == 1 then n else 0

abbrev pub counted_in : Side → ActEffect → ℕ → ℕ
counted_in s (TakenUp (Unlocking access)) n = if s.holds == 1 && s.awaits == 0 then n + 1 else n
counted_in s e n = n

-- the pending unlocks of a host, after one that it had
abbrev pub after : Side → ℕ → ActEffect → ℕ
after s n e = gate (side_after s e).holds (counted_in s e n)

-- of a host that has so many unlocks pending
pub record Carried (s : Side) (n : ℕ) : Type 0 where
  pub asked_carried : s.asked ≡ true → 0 < (sum_up asks s.up + s.pending) + sum_down supplies s.down
  pub unlock_carried : s.unlocking ≡ true → 0 < s.right → 0 < (unlocks_left s.up + n) + sum_down locks s.down
  pub awaited_carried : 0 < s.awaits → 0 < (sum_down any_reply s.down + s.step) + (sum_up (does_of s.awaited_control) s.up + sum_up (ends s.awaited_control)
      s.up)
  pub held_control : 0 < s.holds → sum_up (ends s.heard) s.up ≡ 0 → s.heard ≡ s.control
  pub held_live : 0 < s.holds → sum_up (ends s.heard) s.up ≡ 0 → s.live ≡ true
  pub pending_control : 0 < s.pending → s.heard ≡ s.control
  pub pending_live : 0 < s.pending → s.live ≡ true
  pub no_strange : sum_up (strange s.control) s.up ≡ 0
  pub settles : s.holds ≡ 2 → s.awaits ≡ 0 → outcome s.down s.right ≢ 1
  pub reads : s.unlocking ≡ true → 0 < s.right → s.right ≡ 1
  pub step_first : 0 < s.step → s.unlocking ≡ false
  pub upgrading_reads : 0 < n → s.holds ≡ 1

pub carried_asking : (ws : List Waiter) (rs : List ℕ) (s : Side) (n : ℕ) (control asker access : ℕ) → Sound s → Carried s n → s.live ≡ true
    → MaySend ws rs s (Asking asker access) → Carried (side_after s (SendsUp control (Asking asker access))) (after s n (SendsUp control (Asking asker access)))
carried_asking ws rs s n control asker access ok k live may = grind (arith, nat_tests, sum_up_end, unlocks_left_end)

pub carried_unlocking : (ws : List Waiter) (rs : List ℕ) (s : Side) (n : ℕ) (control access : ℕ) → Sound s → Carried s n → MaySend ws rs s (Unlocking access)
    → Carried (side_after s (SendsUp control (Unlocking access))) (after s n (SendsUp control (Unlocking access)))
carried_unlocking ws rs s n control access ok k may = grind (arith, nat_tests, sum_up_end, unlocks_left_end)

pub carried_returning : (ws : List Waiter) (rs : List ℕ) (s : Side) (n : ℕ) (control : ℕ) (dirty keep : Bool) (bytes : List ℕ) → Sound s → Carried s n
    → MaySend ws rs s (Returning dirty keep bytes) → Carried (side_after s (SendsUp control (Returning dirty keep bytes)))
    (after s n (SendsUp control (Returning dirty keep bytes)))
carried_returning ws rs s n control dirty keep bytes ok k may = grind (arith, nat_tests, sum_up_end, unlocks_left_end, outcome_le, drain_0)

pub carried_doing : (ws : List Waiter) (rs : List ℕ) (s : Side) (n : ℕ) (control told count : ℕ) → Sound s → Carried s n → MaySend ws rs s (Doing told count)
    → Carried (side_after s (SendsUp control (Doing told count))) (after s n (SendsUp control (Doing told count)))
carried_doing ws rs s n control told count ok k may = grind (arith, nat_tests, sum_up_end)

pub carried_ending : (ws : List Waiter) (rs : List ℕ) (s : Side) (n : ℕ) (control told : ℕ) → Sound s → Carried s n → MaySend ws rs s (Ending told)
    → Carried (side_after s (SendsUp control (Ending told))) (after s n (SendsUp control (Ending told)))
carried_ending ws rs s n control told ok k may = grind (arith, nat_tests, sum_up_end, unlocks_left_end)

pub carried_drops : (s : Side) (n : ℕ) → Sound s → Carried s n → Carried (side_after s Drops) (after s n Drops)
carried_drops s n ok k = grind (arith, nat_tests, outcome_le, drain_0)

pub carried_rest : (s : Side) (n : ℕ) → Sound s → Carried s n → s.step ≡ 0 → Carried (record s { step = 0 }) (gate s.holds n)
carried_rest s n ok k none = grind (arith, nat_tests)

pub carried_same : (s : Side) (n : ℕ) → Carried s n → Carried s (gate s.holds n)
carried_same s n k = grind (arith, nat_tests)

pub carried_stores : (s : Side) (n task at size value : ℕ) → Sound s → Carried s n
    → Carried (side_after s (Stores task at size value)) (after s n (Stores task at size value))
carried_stores s n task at size value ok k = grind (arith, nat_tests)

pub carried_opens : (s : Side) (n control : ℕ) (ready : Bool) → Sound s → Carried s n → s.live ≡ false → control ≡ s.control + 1
    → Carried (opened s control ready) (gate s.holds n)
carried_opens s n control ready ok k live next = grind (arith, nat_tests, strange_le control s.up)

pub carried_ready : (s : Side) (n : ℕ) → Sound s → Carried s n → s.step ≡ 0 → Carried (record s { ready = true; step = 0 }) (gate s.holds n)
carried_ready s n ok k none = grind (arith, nat_tests)

-- what the server takes

pub carried_heard_asking : (s : Side) (n : ℕ) (asker access : ℕ) → Sound s → Carried s n → first s.up ≡ Some (Asking asker access) → s.step ≡ 0
    → Carried (side_after s (TakenUp (Asking asker access))) (after s n (TakenUp (Asking asker access)))
carried_heard_asking s n asker access ok k is none = grind (arith, nat_tests)

pub carried_heard_unlocking : (s : Side) (n : ℕ) (access : ℕ) → Sound s → Carried s n → first s.up ≡ Some (Unlocking access) → s.step ≡ 0
    → Carried (side_after s (TakenUp (Unlocking access))) (after s n (TakenUp (Unlocking access)))
carried_heard_unlocking s n access ok k is none =
    record {
      asked_carried = grind (arith, nat_tests);
      unlock_carried =
          grind (
            arith,
            nat_tests,
            does_le s.awaited_control s.up,
            ends_le s.awaited_control s.up,
            reply_le s.down,
            outcome_none s.down s.right,
            drain_up s.down s.right,
          );
      awaited_carried = grind (arith, nat_tests);
      held_control = grind (arith, nat_tests);
      held_live = grind (arith, nat_tests);
      pending_control = grind (arith, nat_tests);
      pending_live = grind (arith, nat_tests);
      no_strange = grind (arith, nat_tests);
      settles = grind (arith, nat_tests);
      reads = grind (arith, nat_tests);
      step_first = grind (arith, nat_tests);
      upgrading_reads = grind (arith, nat_tests);
    }

pub carried_heard_returning : (s : Side) (n : ℕ) (dirty keep : Bool) (bytes : List ℕ) → Sound s → Carried s n → first s.up ≡ Some (Returning dirty keep bytes)
    → s.step ≡ 0 → Carried (side_after s (TakenUp (Returning dirty keep bytes))) (after s n (TakenUp (Returning dirty keep bytes)))
carried_heard_returning s n dirty keep bytes ok k is none = grind (arith, nat_tests, drain_up)

pub carried_heard_doing : (s : Side) (n : ℕ) (control count : ℕ) → Sound s → Carried s n → first s.up ≡ Some (Doing control count) → s.step ≡ 0
    → Carried (side_after s (TakenUp (Doing control count))) (after s n (TakenUp (Doing control count)))
carried_heard_doing s n control count ok k is none = grind (arith, nat_tests, drain_up)

pub carried_heard_ending : (s : Side) (n : ℕ) (control : ℕ) → Sound s → Carried s n → first s.up ≡ Some (Ending control) → s.step ≡ 0
    → Carried (side_after s (TakenUp (Ending control))) (after s n (TakenUp (Ending control)))
carried_heard_ending s n control ok k is none = grind (arith, nat_tests, drain_up)

-- what the server sends

pub carried_supply : (s : Side) (n : ℕ) (control lock : ℕ) (precious : Bool) (bytes : List ℕ) → Sound s → Carried s n
    → MayAnswer s (Supplying lock precious bytes) → control ≡ s.heard
    → Carried (side_after s (SentDown control (Supplying lock precious bytes))) (after s n (SentDown control (Supplying lock precious bytes)))
carried_supply s n control lock precious bytes ok k may fits = grind (arith, nat_tests, sum_down_end, outcome_end)

pub carried_upgrade : (s : Side) (n : ℕ) (control count returns lock : ℕ) (flush : Bool) → Sound s → Carried s n
    → MayAnswer s (Locking count returns flush lock false) → control ≡ s.heard
    → Carried (side_after s (SentDown control (Locking count returns flush lock false))) (after s n (SentDown control (Locking count returns flush lock false)))
carried_upgrade s n control count returns lock flush ok k may fits =
    grind (arith, nat_tests, sum_down_end, outcome_end, outcome_le s.down s.right, ends_le s.heard s.up, drain_up s.down s.right)

put_reply : (s : Side) (control count returns lock : ℕ) (flush : Bool) → s.live ≡ true → s.control ≡ control
    → 0 < sum_down any_reply (put_down s control (Locking count returns flush lock true))
put_reply s control count returns lock flush live mine = grind (arith, nat_tests, sum_down_end)

-- a lock goes to the control that holds the page; where that has ended, its end is on the way
order_carried : (s : Side) (n : ℕ) (control count returns lock : ℕ) (flush : Bool) → Carried s n → 0 < s.holds → control ≡ s.heard
    → 0 < (sum_down any_reply (put_down s control (Locking count returns flush lock true)) + s.step) + (sum_up (does_of control) s.up + sum_up (ends control)
    s.up)
order_carried s n control count returns lock flush k holds fits = elim (ℕ_discrete (sum_up (ends control) s.up) 0) [
  | yes none ↦
      let heard_none : sum_up (ends s.heard) s.up ≡ 0 = rw (← fits) none in
      let live : s.live ≡ true = k.held_live holds heard_none in
      let mine : s.heard ≡ s.control = k.held_control holds heard_none in
      let some : 0 < sum_down any_reply (put_down s control (Locking count returns flush lock true)) = put_reply s control count returns lock flush live (cc) in
      omega arith
  | no some ↦ omega arith
]

pub carried_order : (s : Side) (n : ℕ) (control count returns lock : ℕ) (flush : Bool) → Sound s → Carried s n
    → MayAnswer s (Locking count returns flush lock true) → 0 < s.holds → control ≡ s.heard
    → Carried (side_after s (SentDown control (Locking count returns flush lock true))) (after s n (SentDown control (Locking count returns flush lock true)))
carried_order s n control count returns lock flush ok k may holds fits =
    record {
      asked_carried = grind (arith, nat_tests, sum_down_end);
      unlock_carried = grind (arith, nat_tests, sum_down_end);
      awaited_carried = λ some. order_carried s n control count returns lock flush k holds fits;
      held_control = grind (arith, nat_tests);
      held_live = grind (arith, nat_tests);
      pending_control = grind (arith, nat_tests);
      pending_live = grind (arith, nat_tests);
      no_strange = grind (arith, nat_tests);
      settles = grind (arith, nat_tests);
      reads = grind (arith, nat_tests);
      step_first = grind (arith, nat_tests);
      upgrading_reads = grind (arith, nat_tests);
    }

-- what the host takes

pub carried_supplied : (s : Side) (n : ℕ) (control lock : ℕ) (precious : Bool) (bytes : List ℕ) → Sound s → Carried s n → s.live ≡ true → s.control ≡ control
    → first s.down ≡ Some (Supplying lock precious bytes) → s.step ≡ 0 → Carried (side_taken_down s (Supplying lock precious bytes)) (gate s.holds n)
carried_supplied s n control lock precious bytes ok k live mine is none = grind (arith, nat_tests)

pub carried_locked : (s : Side) (n : ℕ) (count returns lock : ℕ) (flush reply : Bool) → Sound s → Carried s n → s.live ≡ true
    → first s.down ≡ Some (Locking count returns flush lock reply) → s.step ≡ 0
    → Carried (side_taken_down s (Locking count returns flush lock reply)) (gate s.holds n)
carried_locked s n count returns lock flush reply ok k live is none = grind (arith, nat_tests)

pub carried_start : Carried nobody 0
carried_start = grind (arith, nat_tests)
