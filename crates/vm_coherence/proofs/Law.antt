-- Every licensed list of acts has one writer.
use Rattle.std.proofs.Common.{Option, Some, None, ◌≡◌, ℕ, ◌+◌, ◌<◌, ◌≤◌, ◌≢◌, inl, inr, List, [], ◌∷◌, arith, Bool, true, false, if◌then◌else◌, refl, ap}
use Rattle.std.specs.Prelude.{◌⊎◌, ◌==◌}
use Rattle.std.proofs.lemmas.Bool.Decides.{nat_tests}
use native.Mathlib.Decide.{ℕ_discrete}
use Rattle.std.proofs.Common.{subst, sym, ◌∙◌}
use Rattle.vm_model.specs.Words.{UpWord, Asking, Unlocking, Returning, Doing, Ending, OtherUp, DownWord, Supplying, Locking, Lacking, Failing, Readying}
use Rattle.vm_model.specs.Words.{OtherDown, ActEffect, Opens, SendsUp, TakenUp, SentDown, TakesDown, Puts, Drops, Begins, Loads, Stores, Fails, BeginsCopy}
use Rattle.vm_model.specs.Words.{Copies, EndsCopy, StepBegins, Nothing, Act, to_others, effect_on}
use Rattle.vm_model.specs.Side.{Side, nobody, can_read, can_write, right_of, opened, side_sent_up, is_open_to, side_taken_down, side_after, side}
use Rattle.vm_model.specs.Waiters.{Waiter, waiters, waiters_after, readers}
use Rattle.vm_model.specs.Server.{first, Wanting, joined, line, kept}
use Rattle.vm_model.specs.PageLicences.{HostMay, OthersHold, SupplyRow, UpgradeRow, RecallRow, ReplyCause, Cause, ActsLicensed}
use Rattle.vm_model.specs.Coherence.{Throughout, OneWriter}
use Rattle.vm_coherence.proofs.Queues.{odd, drain, drain_up}
use Rattle.vm_coherence.proofs.Sound.{MayAnswer, Fair, Sound, keep_asking, keep_unlocking, keep_returning, keep_doing, keep_ending, keep_drops, keep_step}
use Rattle.vm_coherence.proofs.Sound.{keep_opens, keep_ready, keep_stores, keep_heard_asking, keep_heard_unlocking, keep_heard_returning, keep_heard_doing}
use Rattle.vm_coherence.proofs.Sound.{keep_heard_ending, keep_supply, keep_upgrade, keep_order, keep_supplied, keep_locked}
use Rattle.vm_coherence.proofs.Line.{request, upgrade, total, total_end, total_front, trimmed_request, trimmed_upgrade, trimmed_none, without_upgrade}
use Rattle.vm_coherence.proofs.Line.{without_other, without_own}
use Rattle.vm_model.proofs.Others.{others_holds}

-- the server of a shared page sends neither of these
pub never : (s : Side) (w : DownWord) → Sound s → odd w ≡ 1 → first s.down ≡ Some w → ⊥
never s w ok is head = absurd (grind (arith, ok.plain))

-- what a host takes, where its control is the live one
keep_taking : (ws : List Waiter) (rs : List ℕ) (s : Side) (control : ℕ) (word : DownWord) (b : Bool) → is_open_to s control ≡ b → Sound s
    → HostMay ws rs s (TakesDown control word) → Sound (if b then side_taken_down s word else record s { step = 0 })
keep_taking ws rs s control word false is ok may = keep_step s ok
keep_taking ws rs s control OtherDown true is ok may = keep_step s ok
keep_taking ws rs s control Readying true is ok may = keep_ready s ok
keep_taking ws rs s control Lacking true is ok may =
    let live : s.live ≡ true = grind (arith, nat_tests) in
    let mine : s.control ≡ control = grind (arith, nat_tests) in
    absurd (never s Lacking ok refl (may mine live))
keep_taking ws rs s control Failing true is ok may =
    let live : s.live ≡ true = grind (arith, nat_tests) in
    let mine : s.control ≡ control = grind (arith, nat_tests) in
    absurd (never s Failing ok refl (may mine live))
keep_taking ws rs s control (Supplying lock precious bytes) true is ok may =
    let live : s.live ≡ true = grind (arith, nat_tests) in
    let mine : s.control ≡ control = grind (arith, nat_tests) in
    keep_supplied s lock precious bytes ok live (may mine live)
keep_taking ws rs s control (Locking count returns flush lock reply) true is ok may =
    let live : s.live ≡ true = grind (arith, nat_tests) in
    let mine : s.control ≡ control = grind (arith, nat_tests) in
    keep_locked s count returns lock flush reply ok live (may mine live)

pub keep : (e : ActEffect) (ws : List Waiter) (rs : List ℕ) (s : Side) → Sound s → Fair ws rs s e → Sound (side_after s e)
keep (Opens control ready) ws rs s ok may =
    let next : s.control + 1 ≡ control = sym may.1 in subst (λ (k : ℕ). Sound (opened s k ready)) next (keep_opens s ready ok may.0)
keep (SendsUp control (Asking asker access)) ws rs s ok may = keep_asking ws rs s asker access ok may.0 may.2
keep (SendsUp control (Unlocking access)) ws rs s ok may = keep_unlocking ws rs s access ok may.0 may.2
keep (SendsUp control (Returning dirty kept bytes)) ws rs s ok may = keep_returning ws rs s dirty kept bytes ok may.0 may.2
keep (SendsUp control (Doing told count)) ws rs s ok may = keep_doing ws rs s told count ok may.0 may.2.0 may.2
keep (SendsUp control (Ending told)) ws rs s ok may = keep_ending ws rs s told ok may.0 may.2.0 may.2
keep (SendsUp control OtherUp) ws rs s ok may = ok
keep (TakenUp (Asking asker access)) ws rs s ok may = keep_heard_asking s asker access ok may
keep (TakenUp (Unlocking access)) ws rs s ok may = keep_heard_unlocking s access ok may
keep (TakenUp (Returning dirty kept bytes)) ws rs s ok may = keep_heard_returning s dirty kept bytes ok may
keep (TakenUp (Doing control count)) ws rs s ok may = keep_heard_doing s control count ok may
keep (TakenUp (Ending control)) ws rs s ok may = keep_heard_ending s control ok may
keep (TakenUp OtherUp) ws rs s ok may = keep_step s ok
keep (SentDown control (Supplying lock precious bytes)) ws rs s ok may = keep_supply s control lock precious bytes ok may
keep (SentDown control (Locking count returns flush lock true)) ws rs s ok may = keep_order s control count returns lock flush ok may
keep (SentDown control (Locking count returns flush lock false)) ws rs s ok may = keep_upgrade s control count returns lock flush ok may
keep (SentDown control Lacking) ws rs s ok may = absurd may
keep (SentDown control Failing) ws rs s ok may = absurd may
keep (SentDown control Readying) ws rs s ok may = ok
keep (SentDown control OtherDown) ws rs s ok may = ok
keep (TakesDown control word) ws rs s ok may = keep_taking ws rs s control word (is_open_to s control) refl ok may
keep (Puts bytes dirty) ws rs s ok may = absurd may
keep Drops ws rs s ok may = keep_drops s ok
keep (Begins task store at size value) ws rs s ok may = ok
keep (Loads task value) ws rs s ok may = ok
keep (Stores task at size value) ws rs s ok may = keep_stores s task at size value ok
keep (Fails task) ws rs s ok may = absurd may
keep (BeginsCopy task times) ws rs s ok may = ok
keep (Copies task) ws rs s ok may = ok
keep (EndsCopy task) ws rs s ok may = ok
keep StepBegins ws rs s ok may = keep_step s ok
keep Nothing ws rs s ok may = ok

-- what the law keeps over a list of acts

pub others_rest : (e : ActEffect) (s : Side) → Sound s → Sound (side_after s (to_others e))
others_rest (Opens control ready) s ok = ok
others_rest (SendsUp control word) s ok = ok
others_rest (TakenUp word) s ok = keep_step s ok
others_rest (SentDown control word) s ok = ok
others_rest (TakesDown control word) s ok = keep_step s ok
others_rest (Puts bytes dirty) s ok = ok
others_rest Drops s ok = ok
others_rest (Begins task store at size value) s ok = ok
others_rest (Loads task value) s ok = ok
others_rest (Stores task at size value) s ok = ok
others_rest (Fails task) s ok = ok
others_rest (BeginsCopy task times) s ok = ok
others_rest (Copies task) s ok = ok
others_rest (EndsCopy task) s ok = ok
others_rest StepBegins s ok = keep_step s ok
others_rest Nothing s ok = ok

-- other hosts' acts leave the server's words of a host as they are
others_pending : (e : ActEffect) (s : Side) → (side_after s (to_others e)).pending ≡ s.pending
others_pending (Opens control ready) s = refl
others_pending (SendsUp control word) s = refl
others_pending (TakenUp word) s = refl
others_pending (SentDown control word) s = refl
others_pending (TakesDown control word) s = refl
others_pending (Puts bytes dirty) s = refl
others_pending Drops s = refl
others_pending (Begins task store at size value) s = refl
others_pending (Loads task value) s = refl
others_pending (Stores task at size value) s = refl
others_pending (Fails task) s = refl
others_pending (BeginsCopy task times) s = refl
others_pending (Copies task) s = refl
others_pending (EndsCopy task) s = refl
others_pending StepBegins s = refl
others_pending Nothing s = refl

pub record World (past : List Act) : Type 0 where
  pub each : (h : ℕ) → Sound (side h past)
  pub alone : (g h : ℕ) → g ≢ h → (side h past).holds ≡ 2 → (side g past).holds ≡ 0
  pub counted : (h : ℕ) → total (request h) (line past) ≡ (side h past).pending
  pub upgrading : (h : ℕ) → 0 < total (upgrade h) (line past) → (side h past).holds ≡ 1

-- where a host can write, the server says that no other has anything
pub alone_if : (g h : ℕ) (past : List Act) → World past → g ≢ h → (side h past).right ≡ 2 → (side g past).holds ≡ 0
alone_if g h past w apart writes =
    let ok : Sound (side h past) = w.each h in
    let up : (side h past).right ≤ drain (side h past).down (side h past).right = drain_up (side h past).down (side h past).right in
    w.alone g h apart (omega (arith, ok.covered, ok.bounded))

none_here : (s : Side) → Sound s → s.holds ≡ 0 → can_read s ≡ false
none_here s ok none = grind (arith, nat_tests, drain_up)

pub writes : (s : Side) → can_write s ≡ true → s.right ≡ 2
writes s can = grind (arith, nat_tests)

pub one_writer : (past : List Act) → World past → OneWriter past
one_writer past w g h apart can = none_here (side g past) (w.each g) (alone_if g h past w apart (writes (side h past) can))

-- each cause is one as far as the host itself tells

pub pending_if : (h lock : ℕ) (past : List Act) (o : Option Wanting) → World past → first (line past) ≡ o → SupplyRow h lock past o → 0 < (side h past).pending
pending_if h lock past None w is row = absurd row
pending_if h lock past (Some v) w is row =
    let some : request h v ≤ total (request h) (line past) = total_front (request h) (line past) v is in
    let same : total (request h) (line past) ≡ (side h past).pending = w.counted h in
    let one : request h v ≡ 1 = wants_one h v row.0 row.1 in
    omega arith where
      wants_one : (h : ℕ) (v : Wanting) → v.host ≡ h → v.upgrade ≡ false → request h v ≡ 1
      wants_one h v mine plain = grind (arith, nat_tests)

pub upgrades_one : (h : ℕ) (v : Wanting) → v.host ≡ h → v.upgrade ≡ true → upgrade h v ≡ 1
upgrades_one h v mine up = grind (arith, nat_tests)

holds_if : (h : ℕ) (past : List Act) (o : Option Wanting) → World past → first (line past) ≡ o → UpgradeRow h o → (side h past).holds ≡ 1
holds_if h past None w is row = absurd row
holds_if h past (Some v) w is row =
    let some : upgrade h v ≤ total (upgrade h) (line past) = total_front (upgrade h) (line past) v is in
    let one : upgrade h v ≡ 1 = upgrades_one h v row.0 row.1 in
    w.upgrading h (omega arith)

recall_lock : (h : ℕ) (flush : Bool) (lock holds : ℕ) (o : Option Wanting) → RecallRow h flush lock holds o → flush ≡ false → lock ≡ 2
recall_lock h flush lock holds o row is = grind arith

answer_cause : (size h control : ℕ) (word : DownWord) (past : List Act) → World past → ReplyCause size h control word past → MayAnswer (side h past) word
answer_cause size h control (Supplying lock precious bytes) past w a = (a.2 h, pending_if h lock past (first (line past)) w refl a.4)
answer_cause size h control (Locking count returns flush lock true) past w a = (a.2, a.3, recall_lock h flush lock (side h past).holds (first (line past)) a.5)
answer_cause size h control (Locking count returns flush lock false) past w a = (a.2, a.3, a.4, a.5 h, holds_if h past (first (line past)) w refl a.7)
answer_cause size h control Lacking past w a = a
answer_cause size h control Failing past w a = a
answer_cause size h control Readying past w a = tt
answer_cause size h control OtherDown past w a = tt

pub cause : (size h : ℕ) (e : ActEffect) (past : List Act) → World past → Cause size h e past → Fair (waiters h past) (readers h past) (side h past) e
cause size h (SentDown control word) past w a = answer_cause size h control word past w a
cause size h e past w a = a

-- the host that an act is of

pub own_effect : (a : Act) → effect_on a.host a ≡ a.effect
own_effect a = grind (arith, nat_tests)

pub other_effect : (h : ℕ) (a : Act) → a.host ≢ h → effect_on h a ≡ to_others a.effect
other_effect h a apart = grind (arith, nat_tests)

pub own_side : (a : Act) (past : List Act) → side a.host (a ∷ past) ≡ side_after (side a.host past) a.effect
own_side a past = ap (side_after (side a.host past)) (own_effect a)

pub others_wait : (e : ActEffect) (ws : List Waiter) → waiters_after (to_others e) ws ≡ ws
others_wait (TakenUp word) ws = refl
others_wait (TakesDown control word) ws = refl
others_wait StepBegins ws = refl
others_wait e ws = refl

pub other_side : (h : ℕ) (a : Act) (past : List Act) → a.host ≢ h → side h (a ∷ past) ≡ side_after (side h past) (to_others a.effect)
other_side h a past apart = ap (side_after (side h past)) (other_effect h a apart)

sound_after : (size : ℕ) (a : Act) (past : List Act) → World past → Cause size a.host a.effect past → (h : ℕ) → Sound (side h (a ∷ past))
sound_after size a past w c h = elim (ℕ_discrete a.host h) [
  | yes e ↦ subst (λ (k : ℕ). Sound (side k (a ∷ past))) e (subst (λ (s : Side). Sound s) (sym (own_side a past))
      (keep a.effect (waiters a.host past) (readers a.host past) (side a.host past) (w.each a.host) (cause size a.host a.effect past w c)))
  | no e ↦ subst (λ (s : Side). Sound s) (sym (other_side h a past e)) (others_rest a.effect (side h past) (w.each h))
]

-- what the server may give more of a page: no more than the others leave
abbrev pub Gives : ℕ → Side → Side → List Act → Type 0
Gives k old new past = (new.holds ≤ old.holds) ⊎ ((m : ℕ) × (new.holds + m ≤ 2) × OthersHold m k past)

gives_supply : (k lock : ℕ) (old new : Side) (past : List Act) (o : Option Wanting) → new.holds ≡ right_of lock → SupplyRow k lock past o → Gives k old new past
gives_supply k lock old new past None is row = absurd row
gives_supply k lock old new past (Some v) is row = inr ((if v.access == 3 then 0 else 1), room new.holds lock v.access is row.2, row.3) where
  room : (holds lock access : ℕ) → holds ≡ right_of lock → lock ≡ (if access == 3 then 0 else 2) → holds + (if access == 3 then 0 else 1) ≤ 2
  room holds lock access is row = grind (arith, nat_tests)

gives : (size k : ℕ) (e : ActEffect) (s : Side) (past : List Act) → Cause size k e past → Gives k s (side_after s e) past
gives size k (SentDown control (Supplying lock precious bytes)) s past c =
    gives_supply k lock s (side_after s (SentDown control (Supplying lock precious bytes))) past (first (line past)) refl c.4
gives size k (SentDown control (Locking count returns flush lock true)) s past c = inl (grind (arith, nat_tests, c.2))
gives size k (SentDown control (Locking count returns flush lock false)) s past c = inr (0, grind (arith, nat_tests, c.2), c.6)
gives size k (SentDown control word) s past c = inl (grind (arith, nat_tests))
gives size k (TakenUp (Asking asker access)) s past c = inl (omega arith)
gives size k (TakenUp (Unlocking access)) s past c = inl (omega arith)
gives size k (TakenUp (Returning dirty kept bytes)) s past c = inl (grind (arith, nat_tests))
gives size k (TakenUp (Doing control count)) s past c = inl (grind (arith, nat_tests))
gives size k (TakenUp (Ending control)) s past c = inl (omega arith)
gives size k (TakenUp OtherUp) s past c = inl (omega arith)
gives size k (SendsUp control word) s past c = inl (sends_same word s) where
  sends_same : (w : UpWord) (s : Side) → (side_sent_up s w).holds ≤ s.holds
  sends_same w s = grind arith
gives size k (TakesDown control word) s past c = inl (takes_same word s (is_open_to s control)) where
  takes_same : (w : DownWord) (s : Side) (b : Bool) → (if b then side_taken_down s w else record s { step = 0 }).holds ≤ s.holds
  takes_same w s b = grind arith
gives size k (Puts bytes dirty) s past c = absurd c
gives size k e s past c = inl (omega arith)

other_holds : (h : ℕ) (a : Act) (past : List Act) → a.host ≢ h → (side h (a ∷ past)).holds ≡ (side h past).holds
other_holds h a past apart = ap (λ (s : Side). s.holds) (other_side h a past apart) ∙ others_holds a.effect (side h past)

other_pending : (h : ℕ) (a : Act) (past : List Act) → a.host ≢ h → (side h (a ∷ past)).pending ≡ (side h past).pending
other_pending h a past apart = ap (λ (s : Side). s.pending) (other_side h a past apart) ∙ others_pending a.effect (side h past)

own_gives : (size : ℕ) (a : Act) (past : List Act) → Cause size a.host a.effect past → Gives a.host (side a.host past) (side a.host (a ∷ past)) past
own_gives size a past c =
    subst (λ (s : Side). Gives a.host (side a.host past) s past) (sym (own_side a past)) (gives size a.host a.effect (side a.host past) past c)

alone_gain : (size : ℕ) (a : Act) (past : List Act) → World past → Cause size a.host a.effect past → (g : ℕ) → g ≢ a.host → (side a.host (a ∷ past)).holds ≡ 2
    → (side g (a ∷ past)).holds ≡ 0
alone_gain size a past w c g apart is =
    let bounded : (side a.host past).holds ≤ 2 = (w.each a.host).bounded in
    let same : (side g (a ∷ past)).holds ≡ (side g past).holds = other_holds g a past (λ e. apart (sym e)) in
    same ∙ elim (own_gives size a past c) [
      | inl le ↦ w.alone g a.host apart (omega arith)
      | inr more ↦ let m_none : more.0 ≡ 0 = omega (arith, more.1) in omega (arith, more.2 g apart)
    ]

alone_lose : (size : ℕ) (a : Act) (past : List Act) → World past → Cause size a.host a.effect past → (h : ℕ) → a.host ≢ h → (side h (a ∷ past)).holds ≡ 2
    → (side a.host (a ∷ past)).holds ≡ 0
alone_lose size a past w c h apart is =
    let same : (side h (a ∷ past)).holds ≡ (side h past).holds = other_holds h a past apart in
    let before : (side a.host past).holds ≡ 0 = w.alone a.host h apart (sym same ∙ is) in
    elim (own_gives size a past c) [
      | inl le ↦ omega arith
      | inr more ↦ omega (arith, more.1, more.2 h (λ e. apart (sym e)))
    ]

alone_after : (size : ℕ) (a : Act) (past : List Act) → World past → Cause size a.host a.effect past → (g h : ℕ) → g ≢ h → (side h (a ∷ past)).holds ≡ 2
    → (side g (a ∷ past)).holds ≡ 0
alone_after size a past w c g h apart is = elim (ℕ_discrete a.host h) [
  | yes e ↦ alone_gain size a past w c g (λ f. apart (f ∙ e)) (ap (λ (k : ℕ). (side k (a ∷ past)).holds) e ∙ is)
  | no e ↦ elim (ℕ_discrete a.host g) [
    | yes f ↦ ap (λ (k : ℕ). (side k (a ∷ past)).holds) (sym f) ∙ alone_lose size a past w c h e is
    | no f ↦ other_holds g a past f ∙ w.alone g h apart (sym (other_holds h a past e) ∙ is)
  ]
]

joined_other : (h k : ℕ) (e : ActEffect) (s : Side) (ws : List Wanting) → h ≢ k → total (request h) (joined s k e ws) ≡ total (request h) ws
joined_other h k e s ws apart = grind (arith, nat_tests, total_end, without_other)

joined_own : (k : ℕ) (e : ActEffect) (s : Side) (ws : List Wanting) → total (request k) ws ≡ s.pending
    → total (request k) (joined s k e ws) ≡ (side_after s e).pending
joined_own k e s ws is = grind (arith, nat_tests, total_end, without_own)

pub joined_upgrade : (h k : ℕ) (e : ActEffect) (s : Side) (ws : List Wanting) → h ≢ k → total (upgrade h) (joined s k e ws) ≡ total (upgrade h) ws
joined_upgrade h k e s ws apart = grind (arith, nat_tests, total_end, without_upgrade)

-- the line after an act, before it is trimmed
abbrev pub next_line : Act → List Act → List Wanting
next_line a past = joined (side a.host past) a.host a.effect (line past)

counted_after : (a : Act) (past : List Act) → World past → (h : ℕ) → total (request h) (line (a ∷ past)) ≡ (side h (a ∷ past)).pending
counted_after a past w h =
    let same : total (request h) (line (a ∷ past)) ≡ total (request h) (next_line a past) = trimmed_request h a.host (side a.host (a ∷ past)).holds
    (next_line a past) in
    same ∙ elim (ℕ_discrete h a.host) [
      | yes e ↦ counted_own a past w h e
      | no e ↦ joined_other h a.host a.effect (side a.host past) (line past) e ∙ (w.counted h ∙ sym (other_pending h a past (λ f. e (sym f))))
    ] where
      counted_own : (a : Act) (past : List Act) → World past → (h : ℕ) → h ≡ a.host → total (request h) (next_line a past) ≡ (side h (a ∷ past)).pending
      counted_own a past w h e =
          subst (λ (k : ℕ). total (request k) (next_line a past) ≡ (side k (a ∷ past)).pending) (sym e)
          (joined_own a.host a.effect (side a.host past) (line past) (w.counted a.host) ∙ sym (ap (λ (s : Side). s.pending) (own_side a past)))

upgrading_after : (a : Act) (past : List Act) → World past → (h : ℕ) → 0 < total (upgrade h) (line (a ∷ past)) → (side h (a ∷ past)).holds ≡ 1
upgrading_after a past w h some = elim (ℕ_discrete h a.host) [
  | yes e ↦ upgrading_own a past h e some
  | no e ↦
      let fewer : total (upgrade h) (line (a ∷ past)) ≤ total (upgrade h) (next_line a past) = trimmed_upgrade h a.host (side a.host (a ∷ past)).holds
      (next_line a past) in
      let same : total (upgrade h) (next_line a past) ≡ total (upgrade h) (line past) = joined_upgrade h a.host a.effect (side a.host past) (line past) e in
      other_holds h a past (λ f. e (sym f)) ∙ w.upgrading h (omega arith)
] where
  upgrading_at : (a : Act) (past : List Act) → 0 < total (upgrade a.host) (line (a ∷ past)) → (side a.host (a ∷ past)).holds ≡ 1
  upgrading_at a past some = elim (ℕ_discrete (side a.host (a ∷ past)).holds 1) [
    | yes e ↦ e
    | no e ↦ let none : total (upgrade a.host) (line (a ∷ past)) ≡ 0 =
        trimmed_none a.host (side a.host (a ∷ past)).holds (next_line a past) e in absurd (omega arith)
  ]

  upgrading_own : (a : Act) (past : List Act) (h : ℕ) → h ≡ a.host → 0 < total (upgrade h) (line (a ∷ past)) → (side h (a ∷ past)).holds ≡ 1
  upgrading_own a past h e some =
      subst (λ (k : ℕ). (side k (a ∷ past)).holds ≡ 1) (sym e) (upgrading_at a past (subst (λ (k : ℕ). 0 < total (upgrade k) (line (a ∷ past))) e some))

sound_start : Sound nobody
sound_start = grind (arith, nat_tests)

pub world : (size : ℕ) (past : List Act) → ActsLicensed size past → World past
world size [] licensed = record { each = λ h. sound_start; alone = λ g h apart is. refl; counted = λ h. refl; upgrading = λ h some. absurd (omega arith) }
world size (a ∷ past) licensed =
    let w : World past = world size past licensed.1 in
    record {
      each = sound_after size a past w licensed.0;
      alone = alone_after size a past w licensed.0;
      counted = counted_after a past w;
      upgrading = upgrading_after a past w;
    }

pub writer : (size : ℕ) (past : List Act) → ActsLicensed size past → OneWriter past
writer size past licensed = one_writer past (world size past licensed)

pub throughout_writer : (size : ℕ) (past : List Act) → ActsLicensed size past → Throughout OneWriter past
throughout_writer size [] licensed = writer size [] licensed
throughout_writer size (a ∷ past) licensed = (writer size (a ∷ past) licensed, throughout_writer size past licensed.1)
