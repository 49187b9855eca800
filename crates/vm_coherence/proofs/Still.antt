-- Where nothing is on its way, no access waits.
use Rattle.std.proofs.Common.{◌≡◌, ℕ, ◌+◌, ◌<◌, ◌≢◌, ◌∙◌, subst, sym, inl, inr, List, [], ◌∷◌, arith, Some, Bool, true, false, if◌then◌else◌, refl, ap}
use Rattle.std.proofs.lemmas.Bool.Decides.{nat_tests}
use native.Mathlib.Decide.{ℕ_discrete}
use Rattle.vm_model.specs.Words.{UpWord, Asking, Unlocking, Returning, Doing, Ending, OtherUp, DownWord, Supplying, Locking, Lacking, Failing, Readying}
use Rattle.vm_model.specs.Words.{OtherDown, ActEffect, Opens, SendsUp, TakenUp, SentDown, TakesDown, Puts, Drops, Stores, StepBegins, Act, to_others}
use Rattle.vm_model.specs.Side.{Side, done, is_open_to, side_taken_down, side_after, side}
use Rattle.vm_model.specs.Waiters.{Waiter, waiters, readers}
use Rattle.vm_model.specs.Server.{first, Wanting, joined, stays, trimmed_line, line, kept}
use Rattle.vm_model.specs.PageLicences.{HostMay, Cause, ActsLicensed}
use Rattle.vm_model.specs.Coherence.{Done, begins_step, StepsDone, WaitersHaveAsked, SomebodyIsAwaited, Quiet, NothingIsAsked, NobodyWaits}
use Rattle.vm_coherence.proofs.Sound.{Fair, Sound}
use Rattle.vm_coherence.proofs.Line.{request, upgrade, total, total_end, without_upgrade}
use Rattle.vm_coherence.proofs.Law.{never, World, cause, own_side, other_side, joined_upgrade, world}
use Rattle.vm_coherence.proofs.Carried.{gate, counted_in, after, Carried, carried_asking, carried_unlocking, carried_returning, carried_doing, carried_ending}
use Rattle.vm_coherence.proofs.Carried.{carried_drops, carried_rest, carried_same, carried_stores, carried_opens, carried_ready, carried_heard_asking}
use Rattle.vm_coherence.proofs.Carried.{carried_heard_unlocking, carried_heard_returning, carried_heard_doing, carried_heard_ending, carried_supply}
use Rattle.vm_coherence.proofs.Carried.{carried_upgrade, carried_order, carried_supplied, carried_locked, carried_start}

-- the line's upgrades

keeps_other : (h k holds : ℕ) (w : Wanting) (ws : List Wanting) → h ≢ k
    → total (upgrade h) (if stays k holds w then w ∷ ws else ws) ≡ upgrade h w + total (upgrade h) ws
keeps_other h k holds w ws apart = grind (arith, nat_tests)

trimmed_other : (h k holds : ℕ) (ws : List Wanting) → h ≢ k → total (upgrade h) (trimmed_line k holds ws) ≡ total (upgrade h) ws
trimmed_other h k holds [] apart = refl
trimmed_other h k holds (w ∷ ws) apart = omega (arith, keeps_other h k holds w (trimmed_line k holds ws) apart, trimmed_other h k holds ws apart)

keeps_own : (k holds : ℕ) (w : Wanting) (ws vs : List Wanting) → total (upgrade k) ws ≡ gate holds (total (upgrade k) vs)
    → total (upgrade k) (if stays k holds w then w ∷ ws else ws) ≡ gate holds (upgrade k w + total (upgrade k) vs)
keeps_own k holds w ws vs is = grind (arith, nat_tests)

trimmed_own : (k holds : ℕ) (ws : List Wanting) → total (upgrade k) (trimmed_line k holds ws) ≡ gate holds (total (upgrade k) ws)
trimmed_own k holds [] = grind (arith, nat_tests)
trimmed_own k holds (w ∷ ws) = keeps_own k holds w (trimmed_line k holds ws) ws (trimmed_own k holds ws)

joined_own : (k : ℕ) (e : ActEffect) (s : Side) (n : ℕ) (ws : List Wanting) → total (upgrade k) ws ≡ n → total (upgrade k) (joined s k e ws) ≡ counted_in s e n
joined_own k e s n ws is = grind (arith, nat_tests, total_end, without_upgrade)

-- one host

hears_one : (w : DownWord) (s : Side) (n control : ℕ) → Sound s → Carried s n → s.live ≡ true → s.control ≡ control → first s.down ≡ Some w → s.step ≡ 0
    → Carried (side_taken_down s w) (gate (side_taken_down s w).holds n)
hears_one (Supplying lock precious bytes) s n control ok k live mine is none = carried_supplied s n control lock precious bytes ok k live mine is none
hears_one (Locking count returns flush lock reply) s n control ok k live mine is none = carried_locked s n count returns lock flush reply ok k live is none
hears_one Lacking s n control ok k live mine is none = absurd (never s Lacking ok refl is)
hears_one Failing s n control ok k live mine is none = absurd (never s Failing ok refl is)
hears_one Readying s n control ok k live mine is none = carried_ready s n ok k none
hears_one OtherDown s n control ok k live mine is none = carried_rest s n ok k none

-- what a host takes, where its control is the live one or not
hears_if : (ws : List Waiter) (rs : List ℕ) (w : DownWord) (s : Side) (n control : ℕ) (b : Bool) → is_open_to s control ≡ b → Sound s → Carried s n
    → HostMay ws rs s (TakesDown control w) → s.step ≡ 0
    → Carried (if b then side_taken_down s w else record s { step = 0 }) (gate (if b then side_taken_down s w else record s { step = 0 }).holds n)
hears_if ws rs w s n control false is ok k may none = carried_rest s n ok k none
hears_if ws rs OtherDown s n control true is ok k may none = carried_rest s n ok k none
hears_if ws rs Readying s n control true is ok k may none = carried_ready s n ok k none
hears_if ws rs w s n control true is ok k may none =
    let live : s.live ≡ true = grind (arith, nat_tests) in
    let mine : s.control ≡ control = grind (arith, nat_tests) in
    hears_one w s n control ok k live mine (may mine live) none

carried_sent : (ws : List Waiter) (rs : List ℕ) (w : UpWord) (control : ℕ) (s : Side) (n : ℕ) → Sound s → Carried s n → HostMay ws rs s (SendsUp control w)
    → Carried (side_after s (SendsUp control w)) (after s n (SendsUp control w))
carried_sent ws rs (Asking asker access) control s n ok k may = carried_asking ws rs s n control asker access ok k may.0 may.2
carried_sent ws rs (Unlocking access) control s n ok k may = carried_unlocking ws rs s n control access ok k may.2
carried_sent ws rs (Returning dirty kept bytes) control s n ok k may = carried_returning ws rs s n control dirty kept bytes ok k may.2
carried_sent ws rs (Doing told count) control s n ok k may = carried_doing ws rs s n control told count ok k may.2
carried_sent ws rs (Ending told) control s n ok k may = carried_ending ws rs s n control told ok k may.2
carried_sent ws rs OtherUp control s n ok k may = carried_same s n k

-- what is known of a message to the host beside the host's own reasons: its control, and that an awaited host holds
abbrev pub Orders : Side → ActEffect → Type 0
Orders s (SentDown control (Supplying lock precious bytes)) = control ≡ s.heard
Orders s (SentDown control (Locking count returns flush lock true)) = (control ≡ s.heard) × (0 < s.holds)
Orders s (SentDown control (Locking count returns flush lock false)) = control ≡ s.heard
Orders s e = Unit {0}

carried_own : (e : ActEffect) (ws : List Waiter) (rs : List ℕ) (s : Side) (n : ℕ) → Sound s → Carried s n → Fair ws rs s e → (begins_step e ≡ true → s.step ≡ 0)
    → Orders s e → Carried (side_after s e) (after s n e)
carried_own (Opens control ready) ws rs s n ok k may none orders = carried_opens s n control ready ok k may.0 may.1
carried_own (SendsUp control w) ws rs s n ok k may none orders = carried_sent ws rs w control s n ok k may
carried_own (TakenUp (Asking asker access)) ws rs s n ok k may none orders = carried_heard_asking s n asker access ok k may (none refl)
carried_own (TakenUp (Unlocking access)) ws rs s n ok k may none orders = carried_heard_unlocking s n access ok k may (none refl)
carried_own (TakenUp (Returning dirty kept bytes)) ws rs s n ok k may none orders = carried_heard_returning s n dirty kept bytes ok k may (none refl)
carried_own (TakenUp (Doing control count)) ws rs s n ok k may none orders = carried_heard_doing s n control count ok k may (none refl)
carried_own (TakenUp (Ending control)) ws rs s n ok k may none orders = carried_heard_ending s n control ok k may (none refl)
carried_own (TakenUp OtherUp) ws rs s n ok k may none orders = carried_rest s n ok k (none refl)
carried_own (SentDown control (Supplying lock precious bytes)) ws rs s n ok k may none orders = carried_supply s n control lock precious bytes ok k may orders
carried_own (SentDown control (Locking count returns flush lock true)) ws rs s n ok k may none orders =
    carried_order s n control count returns lock flush ok k may orders.1 orders.0
carried_own (SentDown control (Locking count returns flush lock false)) ws rs s n ok k may none orders =
    carried_upgrade s n control count returns lock flush ok k may orders
carried_own (SentDown control Lacking) ws rs s n ok k may none orders = absurd may
carried_own (SentDown control Failing) ws rs s n ok k may none orders = absurd may
carried_own (SentDown control Readying) ws rs s n ok k may none orders = carried_same s n k
carried_own (SentDown control OtherDown) ws rs s n ok k may none orders = carried_same s n k
carried_own (TakesDown control w) ws rs s n ok k may none orders = hears_if ws rs w s n control (is_open_to s control) refl ok k may (none refl)
carried_own (Puts bytes dirty) ws rs s n ok k may none orders = absurd may
carried_own Drops ws rs s n ok k may none orders = carried_drops s n ok k
carried_own (Stores task at size value) ws rs s n ok k may none orders = carried_stores s n task at size value ok k
carried_own StepBegins ws rs s n ok k may none orders = carried_rest s n ok k (none refl)
carried_own e ws rs s n ok k may none orders = carried_same s n k

carried_bare : (s : Side) (n : ℕ) → Carried s n → s.step ≡ 0 → Carried (record s { step = 0 }) n
carried_bare s n k none = grind (arith, nat_tests)

carried_others : (e : ActEffect) (s : Side) (n : ℕ) → Sound s → Carried s n → (begins_step e ≡ true → s.step ≡ 0) → Carried (side_after s (to_others e)) n
carried_others (TakenUp w) s n ok k none = carried_bare s n k (none refl)
carried_others (TakesDown control w) s n ok k none = carried_bare s n k (none refl)
carried_others StepBegins s n ok k none = carried_bare s n k (none refl)
carried_others e s n ok k none = k

orders_if : (size h : ℕ) (e : ActEffect) (past : List Act) → Cause size h e past → Orders (side h past) e
orders_if size h (SentDown control (Supplying lock precious bytes)) past c = c.0
orders_if size h (SentDown control (Locking count returns flush lock true)) past c = (c.0, c.4)
orders_if size h (SentDown control (Locking count returns flush lock false)) past c = c.0
orders_if size h e past c = tt

-- all hosts: each has its unlocks in the line

abbrev pub upgrades : ℕ → List Act → ℕ
upgrades h past = total (upgrade h) (line past)

pub record Waits (past : List Act) : Type 0 where
  pub each : (h : ℕ) → Carried (side h past) (upgrades h past)

pub upgrades_own : (a : Act) (past : List Act) → upgrades a.host (a ∷ past) ≡ after (side a.host past) (upgrades a.host past) a.effect
upgrades_own a past =
    trimmed_own a.host (side a.host (a ∷ past)).holds (joined (side a.host past) a.host a.effect (line past))
    ∙ (ap (λ (n : ℕ). gate (side a.host (a ∷ past)).holds n) (joined_own a.host a.effect (side a.host past) (upgrades a.host past) (line past) refl)
    ∙ ap (λ (s : Side). gate s.holds (counted_in (side a.host past) a.effect (upgrades a.host past))) (own_side a past))

pub upgrades_other : (h : ℕ) (a : Act) (past : List Act) → a.host ≢ h → upgrades h (a ∷ past) ≡ upgrades h past
upgrades_other h a past apart =
    trimmed_other h a.host (side a.host (a ∷ past)).holds (joined (side a.host past) a.host a.effect (line past)) (λ f. apart (sym f))
    ∙ joined_upgrade h a.host a.effect (side a.host past) (line past) (λ f. apart (sym f))

each_after : (size : ℕ) (a : Act) (past : List Act) → World past → Waits past → Cause size a.host a.effect past → (begins_step a.effect ≡ true → Done past)
    → (h : ℕ) → Carried (side h (a ∷ past)) (upgrades h (a ∷ past))
each_after size a past w k c none h = elim (ℕ_discrete a.host h) [
  | yes e ↦ subst (λ (g : ℕ). Carried (side g (a ∷ past)) (upgrades g (a ∷ past))) e
      (subst (λ (n : ℕ). Carried (side a.host (a ∷ past)) n) (sym (upgrades_own a past))
      (subst (λ (s : Side). Carried s (after (side a.host past) (upgrades a.host past) a.effect)) (sym (own_side a past))
      (carried_own a.effect (waiters a.host past) (readers a.host past) (side a.host past) (upgrades a.host past) (w.each a.host) (k.each a.host)
      (cause size a.host a.effect past w c) (λ begins. none begins a.host) (orders_if size a.host a.effect past c))))
  | no e ↦ subst (λ (n : ℕ). Carried (side h (a ∷ past)) n) (sym (upgrades_other h a past e))
      (subst (λ (s : Side). Carried s (upgrades h past)) (sym (other_side h a past e))
      (carried_others a.effect (side h past) (upgrades h past) (w.each h) (k.each h) (λ begins. none begins h)))
]

pub waits : (size : ℕ) (past : List Act) → ActsLicensed size past → StepsDone past → Waits past
waits size [] licensed done = record { each = λ h. carried_start }
waits size (a ∷ past) licensed done =
    record { each = each_after size a past (world size past licensed.1) (waits size past licensed.1 done.1) licensed.0 done.0 }

-- an empty network

some_line : (f : Wanting → ℕ) (ws : List Wanting) → 0 < total f ws → ws ≢ []
some_line f [] some is = absurd (omega arith)
some_line f (w ∷ ws) some is = absurd (cc)

nothing_awaited : (s : Side) (n : ℕ) → Carried s n → s.up ≡ [] → s.down ≡ [] → s.step ≡ 0 → s.awaits ≡ 0
nothing_awaited s n k up down none = grind (arith, nat_tests)

asked_pending : (s : Side) (n : ℕ) → Carried s n → s.up ≡ [] → s.down ≡ [] → s.asked ≡ true → 0 < s.pending
asked_pending s n k up down asked = grind (arith, nat_tests)

unlocked_pending : (s : Side) (n : ℕ) → Carried s n → s.up ≡ [] → s.down ≡ [] → 0 < s.right → s.unlocking ≡ true → 0 < n
unlocked_pending s n k up down here unlocking = grind (arith, nat_tests)

-- the server's line is empty
no_line : (past : List Act) → Waits past → SomebodyIsAwaited past → Quiet past → line past ≢ [] → ⊥
no_line past k served quiet some =
    let h : (g : ℕ) × (0 < (side g past).awaits) = served some in
    let none : (side h.0 past).awaits ≡ 0 = nothing_awaited (side h.0 past) (upgrades h.0 past) (k.each h.0) (quiet.no_up h.0) (quiet.no_down h.0)
    (quiet.done h.0) in
    omega (arith, h.1)

not_true : (b : Bool) → (b ≡ true → ⊥) → b ≡ false
not_true true never = absurd (never refl)
not_true false never = refl

pub answered : (size : ℕ) (past : List Act) → ActsLicensed size past → StepsDone past → SomebodyIsAwaited past → Quiet past → NothingIsAsked past
answered size past licensed done served quiet =
    record {
      none_asked =
          λ h. not_true (side h past).asked (λ asked. no_line past k served quiet
          (some_line (request h) (line past) (subst (λ (n : ℕ). 0 < n) (sym (w.counted h))
          (asked_pending (side h past) (upgrades h past) (k.each h) (quiet.no_up h) (quiet.no_down h) asked))));
      none_unlocking =
          λ h here. not_true (side h past).unlocking (λ unlocking. no_line past k served quiet
          (some_line (upgrade h) (line past) (unlocked_pending (side h past) (upgrades h past) (k.each h) (quiet.no_up h) (quiet.no_down h) here unlocking)));
    } where
      w : World past
      w = world size past licensed

      k : Waits past
      k = waits size past licensed done

both : (b : Bool) → b ≡ true → b ≡ false → ⊥
both b one other = grind arith

no_waiter : (ws : List Waiter) → (ws ≢ [] → ⊥) → ws ≡ []
no_waiter [] never = refl
no_waiter (w ∷ ws) never = absurd (never (λ is. absurd (cc)))

pub nobody_waits : (past : List Act) → WaitersHaveAsked past → Quiet past → NothingIsAsked past → NobodyWaits past
nobody_waits past prompt quiet answered h = no_waiter (waiters h past) (λ some. elim (prompt h some) [
  | inl asked ↦ both (side h past).asked asked (answered.none_asked h)
  | inr other ↦ elim other [
    | inl here ↦ both (side h past).unlocking here.1 (answered.none_unlocking h here.0)
    | inr dark ↦ both (side h past).ready (quiet.all_ready h dark.0) dark.1
  ]
])

pub still : (size : ℕ) (past : List Act) → ActsLicensed size past → StepsDone past → SomebodyIsAwaited past → WaitersHaveAsked past → Quiet past
    → NobodyWaits past
still size past licensed done served prompt quiet = nobody_waits past prompt quiet (answered size past licensed done served quiet)
