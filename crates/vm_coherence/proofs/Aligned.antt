-- What says that a lock is done, and what ends a control, is of the control for which the host is awaited.
use Rattle.std.proofs.Common.{◌≡◌, ◌≢◌, ℕ, ◌+◌, ◌==◌, ◌<◌, ◌≤◌, List, [], ◌∷◌, ◌++◌, arith, Bool, true, Some, if◌then◌else◌, refl}
use Rattle.std.specs.Prelude.{nat_lt}
use native.Mathlib.Decide.{ℕ_discrete}
use Rattle.std.proofs.lemmas.Bool.Decides.{nat_tests}
use Rattle.vm_model.specs.Words.{UpWord, Asking, Unlocking, Returning, Doing, Ending, OtherUp, DownWord, Locking, SendsUp, TakenUp}
use Rattle.vm_model.specs.Side.{Side, nobody, rest, opened, side_sent_up, side_taken_up, side_sent_down, side_taken_down}
use Rattle.vm_model.specs.Waiters.{Waiter}
use Rattle.vm_model.specs.Server.{first}
use Rattle.vm_model.specs.PageLicences.{HostMay}
use Rattle.vm_coherence.proofs.Queues.{ender, does, ends, over, sum_up, sum_up_end, sum_up_le, late_all}
use Rattle.vm_coherence.proofs.Sound.{MayAnswer, Sound}
use Rattle.vm_coherence.proofs.Ways.{does_of}
use Rattle.vm_coherence.proofs.Carried.{Carried}

-- 1 for a lock that another control has done
abbrev pub does_other : ℕ → UpWord → ℕ
does_other k (Doing control count) = if control == k then 0 else 1
does_other k w = 0

-- 1 for the end of an earlier control
abbrev pub ends_under : ℕ → UpWord → ℕ
ends_under k (Ending control) = if nat_lt control k then 1 else 0
ends_under k w = 0

-- 1 for either word of an earlier control
abbrev pub early : ℕ → UpWord → ℕ
early k (Doing control count) = if nat_lt control k then 1 else 0
early k (Ending control) = if nat_lt control k then 1 else 0
early k w = 0

-- behind the end of a control, what is of that control or of an earlier one
abbrev pub belated : UpWord → List UpWord → ℕ
belated (Ending control) q = sum_up (early (control + 1)) q
belated w q = 0

abbrev pub unordered : List UpWord → ℕ
unordered [] = 0
unordered (w ∷ q) = belated w q + unordered q

early_le : (j k : ℕ) (w : UpWord) → j ≤ k → early j w ≤ early k w
early_le j k w le = grind (arith, nat_tests)

belated_end : (v : UpWord) (q : List UpWord) (w : UpWord) (k : ℕ) → over k v ≡ 0 → ends k v ≡ 0 → early k w ≡ 0 → belated v (q ++ w ∷ []) ≡ belated v q
belated_end (Ending control) q w k over_none ends_none none =
    let below : control + 1 ≤ k = grind (arith, nat_tests) in
    omega (arith, sum_up_end (early (control + 1)) q w, early_le (control + 1) k w below)
belated_end v q w k over_none ends_none none = refl

pub unordered_end : (k : ℕ) (q : List UpWord) (w : UpWord) → sum_up (over k) q ≡ 0 → sum_up (ends k) q ≡ 0 → early k w ≡ 0
    → unordered (q ++ w ∷ []) ≡ unordered q
unordered_end k [] w over_none ends_none none = omega (arith, belated_alone w) where
  belated_alone : (w : UpWord) → belated w [] ≡ 0
  belated_alone w = grind arith
unordered_end k (v ∷ q) w over_none ends_none none =
    omega (arith, belated_end v q w k (omega arith) (omega arith) none, unordered_end k q w (omega arith) (omega arith) none)

does_other_is : (k : ℕ) (w : UpWord) → does_other k w ≤ does w
does_other_is k w = grind (arith, nat_tests)

pub does_other_le : (k : ℕ) (q : List UpWord) → sum_up (does_other k) q ≤ sum_up does q
does_other_le k q = sum_up_le (does_other k) does q (does_other_is k)

ends_under_is : (k : ℕ) (w : UpWord) → ends_under k w ≤ ender w
ends_under_is k w = grind (arith, nat_tests)

pub ends_under_le : (k : ℕ) (q : List UpWord) → sum_up (ends_under k) q ≤ sum_up ender q
ends_under_le k q = sum_up_le (ends_under k) ender q (ends_under_is k)

does_early_is : (j k : ℕ) (w : UpWord) → j < k → does_of j w ≤ early k w
does_early_is j k w lt = grind (arith, nat_tests)

ends_early_is : (j k : ℕ) (w : UpWord) → j < k → ends j w ≤ early k w
ends_early_is j k w lt = grind (arith, nat_tests)

pub does_early : (j k : ℕ) (q : List UpWord) → j < k → sum_up (does_of j) q ≤ sum_up (early k) q
does_early j k q lt = sum_up_le (does_of j) (early k) q (λ w. does_early_is j k w lt)

pub ends_early : (j k : ℕ) (q : List UpWord) → j < k → sum_up (ends j) q ≤ sum_up (early k) q
ends_early j k q lt = sum_up_le (ends j) (early k) q (λ w. ends_early_is j k w lt)

pub record Aligned (s : Side) : Type 0 where
  pub done_mine : sum_up (does_other s.awaited_control) s.up ≡ 0
  pub ends_old : sum_up (ends_under s.heard) s.up ≡ 0
  pub awaited_heard : 0 < s.awaits → s.awaited_control ≤ s.heard
  pub heard_le : s.heard ≤ s.control
  pub ordered : unordered s.up ≡ 0

pub aligned_sent : (ws : List Waiter) (rs : List ℕ) (w : UpWord) (control : ℕ) (s : Side) → Sound s → Aligned s → HostMay ws rs s (SendsUp control w)
    → Aligned (side_sent_up s w)
aligned_sent ws rs (Asking asker access) control s ok x may = grind (arith, nat_tests, sum_up_end, unordered_end (s.control) s.up)
aligned_sent ws rs (Unlocking access) control s ok x may = grind (arith, nat_tests, sum_up_end, unordered_end (s.control) s.up)
aligned_sent ws rs (Returning dirty keep bytes) control s ok x may = aligned_return ws rs dirty keep bytes control s ok x may where
  aligned_return : (ws : List Waiter) (rs : List ℕ) (dirty keep : Bool) (bytes : List ℕ) (control : ℕ) (s : Side) → Sound s → Aligned s
      → HostMay ws rs s (SendsUp control (Returning dirty keep bytes)) → Aligned (side_sent_up s (Returning dirty keep bytes))
  aligned_return ws rs dirty keep bytes control s ok x may = grind (arith, nat_tests, sum_up_end, unordered_end (s.control) s.up)
aligned_sent ws rs (Doing told count) control s ok x may = aligned_doing ws rs told count control s ok x may where
  aligned_doing : (ws : List Waiter) (rs : List ℕ) (told count control : ℕ) (s : Side) → Sound s → Aligned s
      → HostMay ws rs s (SendsUp control (Doing told count)) → Aligned (side_sent_up s (Doing told count))
  aligned_doing ws rs told count control s ok x may = grind (arith, nat_tests, sum_up_end, unordered_end (s.control) s.up)
aligned_sent ws rs (Ending told) control s ok x may = aligned_ending ws rs told control s ok x may where
  aligned_ending : (ws : List Waiter) (rs : List ℕ) (told control : ℕ) (s : Side) → Sound s → Aligned s → HostMay ws rs s (SendsUp control (Ending told))
      → Aligned (side_sent_up s (Ending told))
  aligned_ending ws rs told control s ok x may = grind (arith, nat_tests, sum_up_end, unordered_end (s.control) s.up)
aligned_sent ws rs OtherUp control s ok x may = x

aligned_asked : (s : Side) (n asker access : ℕ) → Sound s → Carried s n → Aligned s → first s.up ≡ Some (Asking asker access)
    → Aligned (side_taken_up s (Asking asker access))
aligned_asked s n asker access ok k x is = grind (arith, nat_tests, late_all, ends_under_le asker (rest s.up))

pub aligned_taken : (w : UpWord) (ws : List Waiter) (rs : List ℕ) (s : Side) (n : ℕ) → Sound s → Carried s n → Aligned s → HostMay ws rs s (TakenUp w)
    → Aligned (side_taken_up s w)
aligned_taken (Asking asker access) ws rs s n ok k x may = aligned_asked s n asker access ok k x may
aligned_taken (Unlocking access) ws rs s n ok k x may = grind (arith, nat_tests)
aligned_taken (Returning dirty keep bytes) ws rs s n ok k x may = grind (arith, nat_tests)
aligned_taken (Doing control count) ws rs s n ok k x may = grind (arith, nat_tests)
aligned_taken (Ending control) ws rs s n ok k x may = grind (arith, nat_tests)
aligned_taken OtherUp ws rs s n ok k x may =
    record { done_mine = x.done_mine; ends_old = x.ends_old; awaited_heard = x.awaited_heard; heard_le = x.heard_le; ordered = x.ordered }

pub aligned_order : (s : Side) (control count returns lock : ℕ) (flush : Bool) → Sound s → Aligned s → MayAnswer s (Locking count returns flush lock true)
    → control ≡ s.heard → Aligned (side_sent_down s control (Locking count returns flush lock true))
aligned_order s control count returns lock flush ok x may mine = grind (arith, nat_tests, does_other_le control s.up)

pub aligned_opens : (s : Side) (control : ℕ) (ready : Bool) → Aligned s → control ≡ s.control + 1 → Aligned (opened s control ready)
aligned_opens s control ready x next =
    record { done_mine = x.done_mine; ends_old = x.ends_old; awaited_heard = x.awaited_heard; heard_le = omega (arith, x.heard_le); ordered = x.ordered }

-- the completion at the head is of the awaited control
pub done_is_mine : (s : Side) (control count : ℕ) → Aligned s → first s.up ≡ Some (Doing control count) → s.awaited_control ≡ control
done_is_mine s control count x is = grind (arith, nat_tests)

-- so is the end at the head, where the host is awaited
pub end_is_mine : (s : Side) (n control : ℕ) → Sound s → Carried s n → Aligned s → first s.up ≡ Some (Ending control) → 0 < s.awaits
    → s.awaited_control ≡ control
end_is_mine s n control ok k x is some = elim (ℕ_discrete s.awaited_control control) [
  | yes same ↦ same
  | no apart ↦ absurd (not_later s n control ok k x is some apart)
] where
  not_later : (s : Side) (n control : ℕ) → Sound s → Carried s n → Aligned s → first s.up ≡ Some (Ending control) → 0 < s.awaits → s.awaited_control ≢ control
      → ⊥
  not_later s n control ok k x is some apart =
      let low : s.heard ≤ control = grind (arith, nat_tests) in
      let less : s.awaited_control < control + 1 = omega (arith, x.awaited_heard some) in
      let high : control ≤ s.control = grind (arith, nat_tests) in
      let none : sum_up (early (control + 1)) (rest s.up) ≡ 0 = grind (arith, nat_tests) in
      let no_does : sum_up (does_of s.awaited_control) (rest s.up) ≤ sum_up (early (control + 1)) (rest s.up) = does_early s.awaited_control (control + 1)
      (rest s.up) less in
      let no_ends : sum_up (ends s.awaited_control) (rest s.up) ≤ sum_up (early (control + 1)) (rest s.up) = ends_early s.awaited_control (control + 1)
      (rest s.up) less in
      grind (arith, nat_tests, k.awaited_carried some, ok.mine)

pub aligned_start : Aligned nobody
aligned_start = grind (arith, nat_tests)

pub aligned_hears : (s : Side) (w : DownWord) → Aligned s → Aligned (side_taken_down s w)
aligned_hears s w x = grind arith
