-- What holds of one host and the page at every moment.
use Rattle.std.proofs.Common.{◌≡◌, ℕ, ◌+◌, ◌<◌, ◌≤◌, ◌≢◌, List, [], ◌∷◌, ◌++◌, arith, Bool, true, false, Some, refl}
use Rattle.std.specs.Prelude.{nat_lt}
use Rattle.std.proofs.lemmas.Bool.Decides.{nat_tests}
use native.Mathlib.Decide.{ℕ_discrete}
use Rattle.vm_model.specs.Words.{UpWord, Asking, Unlocking, Returning, Doing, Ending, DownWord, Supplying, Locking, Lacking, Failing, Readying, OtherDown}
use Rattle.vm_model.specs.Words.{ActEffect, SentDown, Stores}
use Rattle.vm_model.specs.Side.{Side, rest, opened, side_sent_up, side_taken_up, side_sent_down, side_taken_down, side_after}
use Rattle.vm_model.specs.Waiters.{Waiter}
use Rattle.vm_model.specs.Server.{first}
use Rattle.vm_model.specs.PageLicences.{MaySend, HostMay}
use Rattle.vm_coherence.proofs.Queues.{asks, ender, does, ends, over, sum_up, sum_up_end, over_more, ends_more, late, late_end, late_ask, late_all, stray}
use Rattle.vm_coherence.proofs.Queues.{stray_none, stray_end, stray_live, supplies, replies, any_reply, sum_down, odd, replies_le, sum_down_end, loose}
use Rattle.vm_coherence.proofs.Queues.{loose_end, loose_all, drain, drain_end, drain_le, drain_none, drain_0}

-- why the server may send this, as far as the host itself tells
abbrev pub MayAnswer : Side → DownWord → Type 0
MayAnswer s (Supplying lock precious bytes) = (s.awaits ≡ 0) × (0 < s.pending)
MayAnswer s (Locking count returns flush lock true) = (returns ≡ 1) × (s.awaits ≡ 0) × (flush ≡ false → lock ≡ 2)
MayAnswer s (Locking count returns flush lock false) = (returns ≡ 0) × (flush ≡ false) × (lock ≡ 0) × (s.awaits ≡ 0) × (s.holds ≡ 1)
MayAnswer s Lacking = ⊥
MayAnswer s Failing = ⊥
MayAnswer s Readying = Unit {0}
MayAnswer s OtherDown = Unit {0}

-- why an act of the host's own may happen, as far as the host itself tells
abbrev pub Fair : List Waiter → List ℕ → Side → ActEffect → Type 0
Fair ws rs s (SentDown control word) = MayAnswer s word
Fair ws rs s e = HostMay ws rs s e

abbrev pub one_if : Bool → ℕ
one_if true = 1
one_if false = 0

pub record Sound (s : Side) : Type 0 where
  -- the server's word covers what the host has and what is on the way to it
  pub bounded : s.holds ≤ 2
  pub covered : drain s.down s.right ≤ s.holds
  -- where the host has told that it gives the page up, it has nothing of it and nothing comes
  pub leaving : 0 < sum_up ender s.up → drain s.down s.right ≡ 0
  -- a host without a control has nothing
  pub gone_right : s.live ≡ false → s.right ≡ 0
  pub gone_asked : s.live ≡ false → s.asked ≡ false
  pub gone_down : s.live ≡ false → s.down ≡ []
  -- a request is on its way up, pending, or answered
  pub pending_none : 0 < s.pending → s.holds ≡ 0
  pub asking : (sum_up asks s.up + s.pending) + sum_down supplies s.down ≤ one_if s.asked
  pub not_here : s.asked ≡ true → s.right ≡ 0
  pub late_none : s.asked ≡ true → late s.up ≡ 0
  -- a lock with a reply is on its way down, being done, or answered
  pub one_reply : (sum_up does s.up + sum_down any_reply s.down) + one_if (nat_lt 0 s.step) ≤ 1
  pub unawaited : s.awaits ≡ 0 → (sum_up does s.up + sum_down any_reply s.down) + s.step ≡ 0
  pub kind_1 : 0 < sum_down (replies 1) s.down → s.awaits ≡ 1
  pub kind_2 : 0 < sum_down (replies 2) s.down → s.awaits ≡ 2
  pub kind_step : 0 < s.step → s.step ≡ s.awaits
  pub mine : 0 < sum_down any_reply s.down + s.step → s.awaited_control ≡ s.control
  pub mine_live : 0 < sum_down any_reply s.down + s.step → s.live ≡ true
  pub tight : 0 < s.awaits → s.awaited_control ≡ s.control → loose s.down ≡ 0
  pub plain : sum_down odd s.down ≡ 0
  pub cleaned : s.step ≡ 1 → s.right ≤ 1
  pub done_1 : 0 < sum_up does s.up → s.awaits ≡ 1 → drain s.down s.right ≤ 1
  pub done_2 : 0 < sum_up does s.up → s.awaits ≡ 2 → drain s.down s.right ≡ 0
  pub awaits_kind : s.awaits ≤ 2
  -- ends of controls
  pub running : s.live ≡ true → sum_up (ends s.control) s.up ≡ 0
  pub earlier : sum_up (over s.control) s.up ≡ 0
  pub straight : stray s.awaited_control s.up ≡ 0

pub keep_asking : (ws : List Waiter) (rs : List ℕ) (s : Side) (asker access : ℕ) → Sound s → s.live ≡ true → MaySend ws rs s (Asking asker access)
    → Sound (side_sent_up s (Asking asker access))
keep_asking ws rs s asker access ok live may = grind (arith, nat_tests, sum_up_end, late_ask, stray_end, drain_0)

pub keep_unlocking : (ws : List Waiter) (rs : List ℕ) (s : Side) (access : ℕ) → Sound s → s.live ≡ true → MaySend ws rs s (Unlocking access)
    → Sound (side_sent_up s (Unlocking access))
keep_unlocking ws rs s access ok live may = grind (arith, nat_tests, sum_up_end, late_end, stray_end)

pub keep_returning : (ws : List Waiter) (rs : List ℕ) (s : Side) (dirty keep : Bool) (bytes : List ℕ) → Sound s → s.live ≡ true
    → MaySend ws rs s (Returning dirty keep bytes) → Sound (side_sent_up s (Returning dirty keep bytes))
keep_returning ws rs s dirty keep bytes ok live may = grind (arith, nat_tests, sum_up_end, late_end, stray_end, drain_0)

pub keep_doing : (ws : List Waiter) (rs : List ℕ) (s : Side) (control count : ℕ) → Sound s → s.live ≡ true → s.control ≡ control
    → MaySend ws rs s (Doing control count) → Sound (side_sent_up s (Doing control count))
keep_doing ws rs s control count ok live mine may =
    let theirs : s.awaited_control ≡ s.control = ok.mine (omega arith) in
    let none : sum_up (ends s.awaited_control) s.up ≡ 0 = rw theirs (ok.running live) in
    let straight : stray s.awaited_control (s.up ++ Doing control count ∷ []) ≡ 0 = stray_live s.awaited_control s.up (Doing control count) none refl in
    grind (arith, nat_tests, sum_up_end, late_end, drain_none, loose_all, replies_le 1 s.down, replies_le 2 s.down)

pub keep_ending : (ws : List Waiter) (rs : List ℕ) (s : Side) (control : ℕ) → Sound s → s.live ≡ true → s.control ≡ control → MaySend ws rs s (Ending control)
    → Sound (side_sent_up s (Ending control))
keep_ending ws rs s control ok live mine may = grind (arith, nat_tests, sum_up_end, late_end, stray_end)

pub keep_drops : (s : Side) → Sound s → Sound (record s { right = 0 })
keep_drops s ok = grind (arith, nat_tests, drain_le)

pub keep_step : (s : Side) → Sound s → Sound (record s { step = 0 })
keep_step s ok = grind (arith, nat_tests)

pub keep_opens : (s : Side) (ready : Bool) → Sound s → s.live ≡ false → Sound (opened s (s.control + 1) ready)
keep_opens s ready ok live = grind (arith, nat_tests, over_more (s.control) s.up, ends_more (s.control) s.up)

pub keep_ready : (s : Side) → Sound s → Sound (record s { ready = true; step = 0 })
keep_ready s ok = grind (arith, nat_tests)

pub keep_stores : (s : Side) (task at size value : ℕ) → Sound s → Sound (side_after s (Stores task at size value))
keep_stores s task at size value ok = grind (arith, nat_tests)

-- what the server takes

gone_up : (s : Side) (w : UpWord) → first s.up ≡ Some w → s.up ≡ w ∷ rest s.up
gone_up s w is = grind arith

pub keep_heard_asking : (s : Side) (asker access : ℕ) → Sound s → first s.up ≡ Some (Asking asker access) → Sound (side_taken_up s (Asking asker access))
keep_heard_asking s asker access ok is = grind (arith, nat_tests, late_all)

pub keep_heard_unlocking : (s : Side) (access : ℕ) → Sound s → first s.up ≡ Some (Unlocking access) → Sound (side_taken_up s (Unlocking access))
keep_heard_unlocking s access ok is = grind (arith, nat_tests, late_all)

pub keep_heard_returning : (s : Side) (dirty keep : Bool) (bytes : List ℕ) → Sound s → first s.up ≡ Some (Returning dirty keep bytes)
    → Sound (side_taken_up s (Returning dirty keep bytes))
keep_heard_returning s dirty keep bytes ok is = grind (arith, nat_tests, late_all)

keep_done : (s : Side) (control count : ℕ) → Sound s → first s.up ≡ Some (Doing control count) → s.awaited_control ≡ control
    → Sound (side_taken_up s (Doing control count))
keep_done s control count ok is e = grind (arith, nat_tests, late_all, stray_none, replies_le 1 s.down, replies_le 2 s.down)

keep_stale : (s : Side) (control count : ℕ) → Sound s → first s.up ≡ Some (Doing control count) → s.awaited_control ≢ control
    → Sound (side_taken_up s (Doing control count))
keep_stale s control count ok is e = grind (arith, nat_tests, late_all, stray_none)

pub keep_heard_doing : (s : Side) (control count : ℕ) → Sound s → first s.up ≡ Some (Doing control count) → Sound (side_taken_up s (Doing control count))
keep_heard_doing s control count ok is =
    elim (ℕ_discrete s.awaited_control control) [ yes e ↦ keep_done s control count ok is e | no e ↦ keep_stale s control count ok is e ]

pub keep_heard_ending : (s : Side) (control : ℕ) → Sound s → first s.up ≡ Some (Ending control) → Sound (side_taken_up s (Ending control))
keep_heard_ending s control ok is = grind (arith, nat_tests, late_all, stray_none, replies_le 1 s.down, replies_le 2 s.down)

-- what the server sends

pub keep_supply : (s : Side) (control lock : ℕ) (precious : Bool) (bytes : List ℕ) → Sound s → MayAnswer s (Supplying lock precious bytes)
    → Sound (side_sent_down s control (Supplying lock precious bytes))
keep_supply s control lock precious bytes ok may = grind (arith, nat_tests, sum_down_end, drain_end, late_all)

pub keep_upgrade : (s : Side) (control count returns lock : ℕ) (flush : Bool) → Sound s → MayAnswer s (Locking count returns flush lock false)
    → Sound (side_sent_down s control (Locking count returns flush lock false))
keep_upgrade s control count returns lock flush ok may = grind (arith, nat_tests, sum_down_end, drain_end)

pub keep_order : (s : Side) (control count returns lock : ℕ) (flush : Bool) → Sound s → MayAnswer s (Locking count returns flush lock true)
    → Sound (side_sent_down s control (Locking count returns flush lock true))
keep_order s control count returns lock flush ok may = grind (arith, nat_tests, sum_down_end, drain_end, loose_end, stray_none)

-- what the host takes

pub keep_supplied : (s : Side) (lock : ℕ) (precious : Bool) (bytes : List ℕ) → Sound s → s.live ≡ true → first s.down ≡ Some (Supplying lock precious bytes)
    → Sound (side_taken_down s (Supplying lock precious bytes))
keep_supplied s lock precious bytes ok live is = grind (arith, nat_tests, drain_le)

keep_flushed : (s : Side) (count returns lock : ℕ) (reply : Bool) → Sound s → s.live ≡ true → first s.down ≡ Some (Locking count returns true lock reply)
    → Sound (side_taken_down s (Locking count returns true lock reply))
keep_flushed s count returns lock reply ok live is = grind (arith, nat_tests, drain_le)

keep_cleaned : (s : Side) (count returns lock : ℕ) → Sound s → s.live ≡ true → first s.down ≡ Some (Locking count returns false lock true)
    → Sound (side_taken_down s (Locking count returns false lock true))
keep_cleaned s count returns lock ok live is = grind (arith, nat_tests, drain_le)

keep_upgraded : (s : Side) (count returns lock : ℕ) → Sound s → s.live ≡ true → first s.down ≡ Some (Locking count returns false lock false)
    → Sound (side_taken_down s (Locking count returns false lock false))
keep_upgraded s count returns lock ok live is = grind (arith, nat_tests, drain_le)

pub keep_locked : (s : Side) (count returns lock : ℕ) (flush reply : Bool) → Sound s → s.live ≡ true
    → first s.down ≡ Some (Locking count returns flush lock reply) → Sound (side_taken_down s (Locking count returns flush lock reply))
keep_locked s count returns lock true reply ok live is = keep_flushed s count returns lock reply ok live is
keep_locked s count returns lock false true ok live is = keep_cleaned s count returns lock ok live is
keep_locked s count returns lock false false ok live is = keep_upgraded s count returns lock ok live is
