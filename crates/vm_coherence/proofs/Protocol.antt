-- What the hosts' own rules give the server: one request and one unlock at a time, and words of the awaited control.
use Rattle.std.proofs.Common.{◌≡◌, ◌≢◌, ℕ, ◌<◌, ◌≤◌, ◌∙◌, subst, sym, List, [], ◌∷◌, arith, Bool, true, false, Option, Some, None, if◌then◌else◌, refl}
use Rattle.std.proofs.lemmas.Bool.Decides.{nat_tests}
use native.Mathlib.Decide.{ℕ_discrete}
use Rattle.vm_model.specs.Words.{Asking, Unlocking, Returning, Doing, Ending, OtherUp, DownWord, Supplying, Locking, Lacking, Failing, Readying, OtherDown}
use Rattle.vm_model.specs.Words.{ActEffect, Opens, SendsUp, TakenUp, SentDown, TakesDown, Puts, Drops, Stores, StepBegins, Act, to_others}
use Rattle.vm_model.specs.Side.{Side, done, is_open_to, side_sent_down, side_taken_down, side_after, side}
use Rattle.vm_model.specs.Waiters.{Waiter, waiters, readers}
use Rattle.vm_model.specs.Server.{first, Wanting, line, NoUpgrade, NoRequest, kept}
use Rattle.vm_model.specs.PageLicences.{HostMay, UpgradeRow, RecallRow, Cause, ActsLicensed}
use Rattle.vm_model.specs.Coherence.{Done, begins_step, StepsDone}
use Rattle.vm_coherence.proofs.Queues.{late_all}
use Rattle.vm_coherence.proofs.Sound.{Fair, Sound}
use Rattle.vm_coherence.proofs.Line.{request, upgrade, total, total_front}
use Rattle.vm_coherence.proofs.Law.{never, World, cause, own_side, other_side, upgrades_one, world}
use Rattle.vm_coherence.proofs.Whole.{at_each}
use Rattle.vm_coherence.proofs.Carried.{gate, after, Carried}
use Rattle.vm_coherence.proofs.Still.{upgrades, Waits, upgrades_own, upgrades_other, waits}
use Rattle.vm_coherence.proofs.Single.{Single, single_asking, single_unlocking, single_returning, single_doing, single_ending, single_opens, single_rest}
use Rattle.vm_coherence.proofs.Single.{single_ready, single_same, single_drops, single_stores, single_heard_asking, single_heard_unlocking}
use Rattle.vm_coherence.proofs.Single.{single_heard_returning, single_heard_doing, single_heard_ending, single_supply, single_upgrade, single_order}
use Rattle.vm_coherence.proofs.Single.{single_supplied, single_flushed, single_cleaned, single_unlocked, single_start}
use Rattle.vm_coherence.proofs.Aligned.{Aligned, aligned_sent, aligned_taken, aligned_order, aligned_opens, done_is_mine, end_is_mine, aligned_start}
use Rattle.vm_coherence.proofs.Aligned.{aligned_hears}

-- what is known of a message to the host beside the host's own reasons
abbrev pub Told : Side → ℕ → ActEffect → Type 0
Told s n (SentDown control (Locking count returns flush lock true)) = (control ≡ s.heard) × (flush ≡ false → s.holds ≡ 2)
Told s n (SentDown control (Locking count returns flush lock false)) = 0 < n
Told s n e = Unit {0}

recall_holds : (h : ℕ) (flush : Bool) (lock holds : ℕ) (o : Option Wanting) → RecallRow h flush lock holds o → flush ≡ false → holds ≡ 2
recall_holds h flush lock holds o row is = grind arith

upgrade_some : (h : ℕ) (ws : List Wanting) (o : Option Wanting) → first ws ≡ o → UpgradeRow h o → 0 < total (upgrade h) ws
upgrade_some h ws None is row = absurd row
upgrade_some h ws (Some v) is row =
    let some : upgrade h v ≤ total (upgrade h) ws = total_front (upgrade h) ws v is in
    let one : upgrade h v ≡ 1 = upgrades_one h v row.0 row.1 in
    omega arith

told_if : (size h : ℕ) (e : ActEffect) (past : List Act) → Cause size h e past → Told (side h past) (upgrades h past) e
told_if size h (SentDown control (Locking count returns flush lock true)) past c = (c.0, recall_holds h flush lock (side h past).holds (first (line past)) c.5)
told_if size h (SentDown control (Locking count returns flush lock false)) past c = upgrade_some h (line past) (first (line past)) refl c.7
told_if size h e past c = tt

-- one unlock, over all acts

single_hears : (w : DownWord) (s : Side) (n : ℕ) → Sound s → Carried s n → Single s n → s.live ≡ true → first s.down ≡ Some w → s.step ≡ 0
    → Single (side_taken_down s w) (gate (side_taken_down s w).holds n)
single_hears (Supplying lock precious bytes) s n ok k x live is none = single_supplied s n lock precious bytes ok k x live is none
single_hears (Locking count returns true lock true) s n ok k x live is none = single_flushed s n count returns lock ok k x live is none
single_hears (Locking count returns false lock true) s n ok k x live is none = single_cleaned s n count returns lock ok k x live is none
single_hears (Locking count returns false lock false) s n ok k x live is none = single_unlocked s n count returns lock ok k x live is none
single_hears (Locking count returns true lock false) s n ok k x live is none = absurd (never s (Locking count returns true lock false) ok refl is)
single_hears Lacking s n ok k x live is none = absurd (never s Lacking ok refl is)
single_hears Failing s n ok k x live is none = absurd (never s Failing ok refl is)
single_hears Readying s n ok k x live is none = single_ready s n ok k x none
single_hears OtherDown s n ok k x live is none = single_rest s n ok k x none

single_takes : (ws : List Waiter) (rs : List ℕ) (w : DownWord) (s : Side) (n control : ℕ) (b : Bool) → is_open_to s control ≡ b → Sound s → Carried s n
    → Single s n → HostMay ws rs s (TakesDown control w) → s.step ≡ 0
    → Single (if b then side_taken_down s w else record s { step = 0 }) (gate (if b then side_taken_down s w else record s { step = 0 }).holds n)
single_takes ws rs w s n control false is ok k x may none = single_rest s n ok k x none
single_takes ws rs OtherDown s n control true is ok k x may none = single_rest s n ok k x none
single_takes ws rs Readying s n control true is ok k x may none = single_ready s n ok k x none
single_takes ws rs w s n control true is ok k x may none =
    let live : s.live ≡ true = grind (arith, nat_tests) in
    let mine : s.control ≡ control = grind (arith, nat_tests) in
    single_hears w s n ok k x live (may mine live) none

single_own : (e : ActEffect) (ws : List Waiter) (rs : List ℕ) (s : Side) (n : ℕ) → Sound s → Carried s n → Single s n → Fair ws rs s e
    → (begins_step e ≡ true → s.step ≡ 0) → Told s n e → Single (side_after s e) (after s n e)
single_own (Opens control ready) ws rs s n ok k x may none told = single_opens s n control ready ok k x may.0
single_own (SendsUp control (Asking asker access)) ws rs s n ok k x may none told = single_asking ws rs s n control asker access ok k x may.2
single_own (SendsUp control (Unlocking access)) ws rs s n ok k x may none told = single_unlocking ws rs s n control access ok k x may.2
single_own (SendsUp control (Returning dirty kept bytes)) ws rs s n ok k x may none told = single_returning ws rs s n control dirty kept bytes ok k x may.2
single_own (SendsUp control (Doing done_control count)) ws rs s n ok k x may none told = single_doing ws rs s n control done_control count ok k x may.2
single_own (SendsUp control (Ending ended)) ws rs s n ok k x may none told = single_ending ws rs s n control ended ok k x may.2
single_own (SendsUp control OtherUp) ws rs s n ok k x may none told = single_same s n k x
single_own (TakenUp (Asking asker access)) ws rs s n ok k x may none told = single_heard_asking s n asker access ok k x may (none refl)
single_own (TakenUp (Unlocking access)) ws rs s n ok k x may none told = single_heard_unlocking s n access ok k x may (none refl)
single_own (TakenUp (Returning dirty kept bytes)) ws rs s n ok k x may none told = single_heard_returning s n dirty kept bytes ok k x may (none refl)
single_own (TakenUp (Doing control count)) ws rs s n ok k x may none told = single_heard_doing s n control count ok k x may (none refl)
single_own (TakenUp (Ending control)) ws rs s n ok k x may none told = single_heard_ending s n control ok k x may (none refl)
single_own (TakenUp OtherUp) ws rs s n ok k x may none told = single_rest s n ok k x (none refl)
single_own (SentDown control (Supplying lock precious bytes)) ws rs s n ok k x may none told = single_supply s n control lock precious bytes ok k x may
single_own (SentDown control (Locking count returns flush lock true)) ws rs s n ok k x may none told =
    single_order s n control count returns lock flush ok k x may told.1
single_own (SentDown control (Locking count returns flush lock false)) ws rs s n ok k x may none told =
    single_upgrade s n control count returns lock flush ok k x may told
single_own (SentDown control Lacking) ws rs s n ok k x may none told = absurd may
single_own (SentDown control Failing) ws rs s n ok k x may none told = absurd may
single_own (SentDown control Readying) ws rs s n ok k x may none told = single_same s n k x
single_own (SentDown control OtherDown) ws rs s n ok k x may none told = single_same s n k x
single_own (TakesDown control w) ws rs s n ok k x may none told = single_takes ws rs w s n control (is_open_to s control) refl ok k x may (none refl)
single_own (Puts bytes dirty) ws rs s n ok k x may none told = absurd may
single_own Drops ws rs s n ok k x may none told = single_drops s n ok k x
single_own (Stores task at size value) ws rs s n ok k x may none told = single_stores s n task at size value k x
single_own StepBegins ws rs s n ok k x may none told = single_rest s n ok k x (none refl)
single_own e ws rs s n ok k x may none told = single_same s n k x

single_bare : (s : Side) (n : ℕ) → Single s n → s.step ≡ 0 → Single (record s { step = 0 }) n
single_bare s n x none = grind (arith, nat_tests)

single_others : (e : ActEffect) (s : Side) (n : ℕ) → Single s n → (begins_step e ≡ true → s.step ≡ 0) → Single (side_after s (to_others e)) n
single_others (TakenUp w) s n x none = single_bare s n x (none refl)
single_others (TakesDown control w) s n x none = single_bare s n x (none refl)
single_others StepBegins s n x none = single_bare s n x (none refl)
single_others e s n x none = x

-- the controls, over all acts

aligned_same : (s t : Side) → Aligned s → t.up ≡ s.up → t.awaited_control ≡ s.awaited_control → t.heard ≡ s.heard → t.awaits ≡ s.awaits → t.control ≡ s.control
    → Aligned t
aligned_same s t x up awaited heard awaits control = grind (arith, nat_tests)

aligned_takes : (w : DownWord) (s : Side) (b : Bool) → Aligned s → Aligned (if b then side_taken_down s w else record s { step = 0 })
aligned_takes w s true x = aligned_hears s w x
aligned_takes w s false x = aligned_same s (record s { step = 0 }) x refl refl refl refl refl

aligned_own : (e : ActEffect) (ws : List Waiter) (rs : List ℕ) (s : Side) (n : ℕ) → Sound s → Carried s n → Aligned s → Fair ws rs s e → Told s n e
    → Aligned (side_after s e)
aligned_own (Opens control ready) ws rs s n ok k x may told = aligned_opens s control ready x may.1
aligned_own (SendsUp control w) ws rs s n ok k x may told = aligned_sent ws rs w control s ok x may
aligned_own (TakenUp w) ws rs s n ok k x may told = aligned_taken w ws rs s n ok k x may
aligned_own (SentDown control (Locking count returns flush lock true)) ws rs s n ok k x may told =
    aligned_order s control count returns lock flush ok x may told.0
aligned_own (SentDown control (Locking count returns flush lock false)) ws rs s n ok k x may told =
    aligned_same s (side_sent_down s control (Locking count returns flush lock false)) x refl refl refl refl refl
aligned_own (SentDown control (Supplying lock precious bytes)) ws rs s n ok k x may told =
    aligned_same s (side_sent_down s control (Supplying lock precious bytes)) x refl refl refl refl refl
aligned_own (SentDown control Lacking) ws rs s n ok k x may told = absurd may
aligned_own (SentDown control Failing) ws rs s n ok k x may told = absurd may
aligned_own (SentDown control Readying) ws rs s n ok k x may told = x
aligned_own (SentDown control OtherDown) ws rs s n ok k x may told = x
aligned_own (TakesDown control w) ws rs s n ok k x may told = aligned_takes w s (is_open_to s control) x
aligned_own (Puts bytes dirty) ws rs s n ok k x may told = absurd may
aligned_own Drops ws rs s n ok k x may told = aligned_same s (record s { right = 0 }) x refl refl refl refl refl
aligned_own (Stores task at size value) ws rs s n ok k x may told = aligned_same s (side_after s (Stores task at size value)) x refl refl refl refl refl
aligned_own StepBegins ws rs s n ok k x may told = aligned_same s (record s { step = 0 }) x refl refl refl refl refl
aligned_own e ws rs s n ok k x may told = x

aligned_others : (e : ActEffect) (s : Side) → Aligned s → Aligned (side_after s (to_others e))
aligned_others (TakenUp w) s x = aligned_same s (record s { step = 0 }) x refl refl refl refl refl
aligned_others (TakesDown control w) s x = aligned_same s (record s { step = 0 }) x refl refl refl refl refl
aligned_others StepBegins s x = aligned_same s (record s { step = 0 }) x refl refl refl refl refl
aligned_others e s x = x

-- all hosts

pub record Protocol (past : List Act) : Type 0 where
  pub single : (h : ℕ) → Single (side h past) (upgrades h past)
  pub aligned : (h : ℕ) → Aligned (side h past)

single_after : (size : ℕ) (a : Act) (past : List Act) → World past → Waits past → Protocol past → Cause size a.host a.effect past
    → (begins_step a.effect ≡ true → Done past) → (h : ℕ) → Single (side h (a ∷ past)) (upgrades h (a ∷ past))
single_after size a past w k p c none h = elim (ℕ_discrete a.host h) [
  | yes e ↦ subst (λ (g : ℕ). Single (side g (a ∷ past)) (upgrades g (a ∷ past))) e
      (subst (λ (n : ℕ). Single (side a.host (a ∷ past)) n) (sym (upgrades_own a past))
      (subst (λ (s : Side). Single s (after (side a.host past) (upgrades a.host past) a.effect)) (sym (own_side a past))
      (single_own a.effect (waiters a.host past) (readers a.host past) (side a.host past) (upgrades a.host past) (w.each a.host) (k.each a.host)
      (p.single a.host) (cause size a.host a.effect past w c) (λ begins. none begins a.host) (told_if size a.host a.effect past c))))
  | no e ↦ subst (λ (n : ℕ). Single (side h (a ∷ past)) n) (sym (upgrades_other h a past e))
      (subst (λ (s : Side). Single s (upgrades h past)) (sym (other_side h a past e))
      (single_others a.effect (side h past) (upgrades h past) (p.single h) (λ begins. none begins h)))
]

aligned_after : (size : ℕ) (a : Act) (past : List Act) → World past → Waits past → Protocol past → Cause size a.host a.effect past → (h : ℕ)
    → Aligned (side h (a ∷ past))
aligned_after size a past w k p c = at_each (λ s. Aligned s) a past
    (aligned_own a.effect (waiters a.host past) (readers a.host past) (side a.host past) (upgrades a.host past) (w.each a.host) (k.each a.host)
    (p.aligned a.host) (cause size a.host a.effect past w c) (told_if size a.host a.effect past c))
    (λ h e. aligned_others a.effect (side h past) (p.aligned h))

pub protocol : (size : ℕ) (past : List Act) → ActsLicensed size past → StepsDone past → Protocol past
protocol size [] licensed done = record { single = λ h. single_start; aligned = λ h. aligned_start }
protocol size (a ∷ past) licensed done =
    let w = world size past licensed.1 in
    let k = waits size past licensed.1 done.1 in
    let p = protocol size past licensed.1 done.1 in
    record { single = single_after size a past w k p licensed.0 done.0; aligned = aligned_after size a past w k p licensed.0 }

-- what the server may count on

none_requests : (h : ℕ) (ws : List Wanting) → total (request h) ws ≡ 0 → NoRequest h ws
none_requests h [] none = tt
none_requests h (w ∷ ws) none = (one h w (omega arith), none_requests h ws (omega arith)) where
  one : (h : ℕ) (w : Wanting) → request h w ≡ 0 → w.upgrade ≡ false → w.host ≢ h
  one h w none plain is = absurd (grind (arith, nat_tests))

none_upgrades : (h : ℕ) (ws : List Wanting) → total (upgrade h) ws ≡ 0 → NoUpgrade h ws
none_upgrades h [] none = tt
none_upgrades h (w ∷ ws) none = (one h w (omega arith), none_upgrades h ws (omega arith)) where
  one : (h : ℕ) (w : Wanting) → upgrade h w ≡ 0 → w.upgrade ≡ true → w.host ≢ h
  one h w none up is = absurd (grind (arith, nat_tests))

pending_0 : (s : Side) (control access : ℕ) → Sound s → first s.up ≡ Some (Asking control access) → s.pending ≡ 0
pending_0 s control access ok is = grind (arith, nat_tests)

-- a host that has told that it ends a control has no request with the server
ended_0 : (s : Side) (control : ℕ) → Sound s → first s.up ≡ Some (Ending control) → s.pending ≡ 0
ended_0 s control ok is = grind (arith, nat_tests, late_all s.up)

upgrades_0 : (s : Side) (n access : ℕ) → Single s n → first s.up ≡ Some (Unlocking access) → n ≡ 0
upgrades_0 s n access x is = grind (arith, nat_tests)

pub one_request : (size h control access : ℕ) (past : List Act) → ActsLicensed size past → first (side h past).up ≡ Some (Asking control access)
    → NoRequest h (line past)
one_request size h control access past licensed is =
    let w = world size past licensed in
    none_requests h (line past) (w.counted h ∙ pending_0 (side h past) control access (w.each h) is)

pub one_unlock : (size h access : ℕ) (past : List Act) → ActsLicensed size past → StepsDone past → first (side h past).up ≡ Some (Unlocking access)
    → NoUpgrade h (line past)
one_unlock size h access past licensed done is =
    none_upgrades h (line past) (upgrades_0 (side h past) (upgrades h past) access ((protocol size past licensed done).single h) is)

pub completed_awaited : (size h control count : ℕ) (past : List Act) → ActsLicensed size past → StepsDone past
    → first (side h past).up ≡ Some (Doing control count) → (side h past).awaited_control ≡ control
completed_awaited size h control count past licensed done is = done_is_mine (side h past) control count ((protocol size past licensed done).aligned h) is

pub ended_awaited : (size h control : ℕ) (past : List Act) → ActsLicensed size past → StepsDone past → first (side h past).up ≡ Some (Ending control)
    → 0 < (side h past).awaits → (side h past).awaited_control ≡ control
ended_awaited size h control past licensed done is some =
    end_is_mine (side h past) (upgrades h past) control ((world size past licensed).each h) ((waits size past licensed done).each h)
    ((protocol size past licensed done).aligned h) is some

pub ended_unasked : (size h control : ℕ) (past : List Act) → ActsLicensed size past → first (side h past).up ≡ Some (Ending control) → NoRequest h (line past)
ended_unasked size h control past licensed is =
    let w = world size past licensed in
    none_requests h (line past) (w.counted h ∙ ended_0 (side h past) control (w.each h) is)
