-- Where saves stand among what a host has sent, and when a host can have unsaved bytes.
use Rattle.std.proofs.Common.{◌≡◌, ℕ, ◌<◌, List, arith, Bool, true, false, Some}
use Rattle.std.proofs.lemmas.Bool.Decides.{nat_tests}
use Rattle.vm_model.specs.Words.{Asking, Unlocking, Returning, Doing, Ending, Supplying, Locking, Stores}
use Rattle.vm_model.specs.Side.{Side, has_alone, rest, opened, side_sent_up, side_taken_up, side_sent_down, side_taken_down, side_after}
use Rattle.vm_model.specs.Waiters.{Waiter}
use Rattle.vm_model.specs.Server.{first}
use Rattle.vm_model.specs.PageLicences.{MaySend}
use Rattle.vm_coherence.proofs.Queues.{ender, does, sum_up, sum_up_end, saves, keeps, keeps_le, returns_le, late_returns, behind, behind_end, behind_new}
use Rattle.vm_coherence.proofs.Queues.{sum_down_end, loose_all, drain, drain_end, drain_le, drain_up, drain_none, drain_0}
use Rattle.vm_coherence.proofs.Sound.{MayAnswer, Sound}

pub record Orderly (s : Side) : Type 0 where
  -- while a return is on its way the server still says that the host holds the page
  pub returns_hold : 0 < sum_up saves s.up → 0 < s.holds
  -- and the host can't write
  pub returns_write : drain s.down s.right ≡ 2 → sum_up saves s.up ≡ 0
  -- one that keeps the page is a step of a lock
  pub keeps_awaited : 0 < sum_up keeps s.up → 0 < s.awaits
  -- no return stands behind what ends the holding
  pub behind_ender : behind ender saves s.up ≡ 0
  pub behind_does : behind does saves s.up ≡ 0
  pub done_saved : 0 < sum_up does s.up → has_alone s ≡ false

pub order_asking : (ws : List Waiter) (rs : List ℕ) (s : Side) (asker access : ℕ) → Sound s → Orderly s → MaySend ws rs s (Asking asker access)
    → Orderly (side_sent_up s (Asking asker access))
order_asking ws rs s asker access ok o may = grind (arith, nat_tests, sum_up_end, behind_end, drain_0)

pub order_unlocking : (s : Side) (access : ℕ) → Sound s → Orderly s → Orderly (side_sent_up s (Unlocking access))
order_unlocking s access ok o = grind (arith, nat_tests, sum_up_end, behind_end)

pub order_returning : (ws : List Waiter) (rs : List ℕ) (s : Side) (dirty keep : Bool) (bytes : List ℕ) → Sound s → Orderly s
    → MaySend ws rs s (Returning dirty keep bytes) → Orderly (side_sent_up s (Returning dirty keep bytes))
order_returning ws rs s dirty keep bytes ok o may = grind (arith, nat_tests, sum_up_end, behind_new, drain_0, drain_up, drain_none, loose_all)

pub order_doing : (ws : List Waiter) (rs : List ℕ) (s : Side) (control count : ℕ) → Sound s → Orderly s → MaySend ws rs s (Doing control count)
    → Orderly (side_sent_up s (Doing control count))
order_doing ws rs s control count ok o may = grind (arith, nat_tests, sum_up_end, behind_end)

pub order_ending : (ws : List Waiter) (rs : List ℕ) (s : Side) (control : ℕ) → Sound s → Orderly s → MaySend ws rs s (Ending control)
    → Orderly (side_sent_up s (Ending control))
order_ending ws rs s control ok o may = grind (arith, nat_tests, sum_up_end, behind_end)

pub order_drops : (s : Side) → Sound s → Orderly s → Orderly (record s { right = 0 })
order_drops s ok o = grind (arith, nat_tests, drain_le)

pub order_step : (s : Side) → Orderly s → Orderly (record s { step = 0 })
order_step s o = grind (arith, nat_tests)

pub order_opens : (s : Side) (control : ℕ) (ready : Bool) → Sound s → Orderly s → s.live ≡ false → Orderly (opened s control ready)
order_opens s control ready ok o live = grind (arith, nat_tests)

pub order_ready : (s : Side) → Orderly s → Orderly (record s { ready = true; step = 0 })
order_ready s o = grind (arith, nat_tests)

pub order_stores : (s : Side) (task at size value : ℕ) → Sound s → Orderly s → s.right ≡ 2 → Orderly (side_after s (Stores task at size value))
order_stores s task at size value ok o can = grind (arith, nat_tests, drain_up)

-- what the server takes

pub order_heard_asking : (s : Side) (asker access : ℕ) → Sound s → Orderly s → first s.up ≡ Some (Asking asker access)
    → Orderly (side_taken_up s (Asking asker access))
order_heard_asking s asker access ok o is = grind (arith, nat_tests)

pub order_heard_unlocking : (s : Side) (access : ℕ) → Sound s → Orderly s → first s.up ≡ Some (Unlocking access) → Orderly (side_taken_up s (Unlocking access))
order_heard_unlocking s access ok o is = grind (arith, nat_tests)

pub order_heard_returning : (s : Side) (dirty keep : Bool) (bytes : List ℕ) → Sound s → Orderly s → first s.up ≡ Some (Returning dirty keep bytes)
    → Orderly (side_taken_up s (Returning dirty keep bytes))
order_heard_returning s dirty keep bytes ok o is = grind (arith, nat_tests)

pub order_heard_doing : (s : Side) (control count : ℕ) → Sound s → Orderly s → first s.up ≡ Some (Doing control count)
    → Orderly (side_taken_up s (Doing control count))
order_heard_doing s control count ok o is = grind (arith, nat_tests, keeps_le (rest s.up))

pub order_heard_ending : (s : Side) (control : ℕ) → Sound s → Orderly s → first s.up ≡ Some (Ending control) → Orderly (side_taken_up s (Ending control))
order_heard_ending s control ok o is = grind (arith, nat_tests, keeps_le (rest s.up))

-- what the server sends

pub order_supply : (s : Side) (control lock : ℕ) (precious : Bool) (bytes : List ℕ) → Sound s → Orderly s → MayAnswer s (Supplying lock precious bytes)
    → Orderly (side_sent_down s control (Supplying lock precious bytes))
order_supply s control lock precious bytes ok o may = grind (arith, nat_tests, sum_down_end, drain_end, late_returns)

pub order_upgrade : (s : Side) (control count returns lock : ℕ) (flush : Bool) → Sound s → Orderly s → MayAnswer s (Locking count returns flush lock false)
    → Orderly (side_sent_down s control (Locking count returns flush lock false))
order_upgrade s control count returns lock flush ok o may = grind (arith, nat_tests, sum_down_end, drain_end, returns_le s.up)

pub order_order : (s : Side) (control count returns lock : ℕ) (flush : Bool) → Sound s → Orderly s → MayAnswer s (Locking count returns flush lock true)
    → Orderly (side_sent_down s control (Locking count returns flush lock true))
order_order s control count returns lock flush ok o may = grind (arith, nat_tests, sum_down_end, drain_end)

-- what the host takes

pub order_supplied : (s : Side) (lock : ℕ) (precious : Bool) (bytes : List ℕ) → Sound s → Orderly s → first s.down ≡ Some (Supplying lock precious bytes)
    → Orderly (side_taken_down s (Supplying lock precious bytes))
order_supplied s lock precious bytes ok o is = grind (arith, nat_tests, drain_le)

pub order_locked : (s : Side) (count returns lock : ℕ) (flush reply : Bool) → Sound s → Orderly s → first s.down ≡ Some (Locking count returns flush lock reply)
    → Orderly (side_taken_down s (Locking count returns flush lock reply))
order_locked s count returns lock flush reply ok o is = grind (arith, nat_tests, drain_le)
