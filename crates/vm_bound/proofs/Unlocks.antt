-- Behind an outstanding unlock of a page of shared memory the next lock that its host takes is a flush, or the grant.
use Rattle.std.proofs.Common.{◌≡◌, ℕ, ◌+◌, ◌<◌, ◌≢◌, subst, sym, inl, inr, List, [], ◌∷◌, ◌++◌, arith, Some, None, Option, Bool, true, false}
use Rattle.std.proofs.Common.{if◌then◌else◌, refl}
use Rattle.std.specs.Prelude.{◌==◌, ◌&&◌, ◌⊎◌, not}
use Rattle.std.proofs.lemmas.Bool.Decides.{nat_tests}
use native.Mathlib.Decide.{ℕ_discrete}
use Rattle.vm_model.specs.Words.{UpWord, Asking, Unlocking, Returning, Doing, Ending, OtherUp, DownWord, Supplying, Locking, Lacking, Failing, Readying}
use Rattle.vm_model.specs.Words.{OtherDown, ActEffect, Opens, SendsUp, TakenUp, SentDown, TakesDown, Puts, Drops, StepBegins, Act, to_others}
use Rattle.vm_model.specs.Side.{Side, is_open_to, side, side_after, side_sent_down, side_sent_up, side_taken_down}
use Rattle.vm_model.specs.Waiters.{Waiter, waiters, readers}
use Rattle.vm_model.specs.Server.{Wanting, first, line}
use Rattle.vm_model.specs.PageLicences.{ActsLicensed, Cause, HostMay, RecallRow}
use Rattle.vm_model.specs.Coherence.{StepsDone}
use Rattle.vm_coherence.proofs.Queues.{sum_down, supplies}
use Rattle.vm_coherence.proofs.Sound.{Fair, Sound}
use Rattle.vm_coherence.proofs.Law.{World, cause, never, own_side, other_side, world}
use Rattle.vm_coherence.proofs.Carried.{Carried}
use Rattle.vm_coherence.proofs.Still.{Waits, upgrades, waits}
use Rattle.vm_coherence.proofs.Ways.{exactly, outcome}

-- a lock after which the host can still read
abbrev pub cleans : DownWord → Bool
cleans (Locking count returns flush lock reply) = not flush && not (lock == 0)
cleans w = false

abbrev pub one_where : Bool → ℕ
one_where true = 1
one_where false = 0

-- how many such locks on the way find the page here to read alone
abbrev pub stale : List DownWord → ℕ → ℕ
stale [] right = 0
stale (w ∷ q) right = one_where (cleans w && right == 1) + stale q (exactly w right)

stale_end : (q : List DownWord) (w : DownWord) (right : ℕ) → stale (q ++ w ∷ []) right ≡ stale q right + one_where (cleans w && outcome q right == 1)
stale_end [] w right = omega arith
stale_end (v ∷ q) w right = let more = stale_end q w (exactly v right) in omega (arith, more)

-- none finds it where it isn't here, and isn't to come
stale_gone : (q : List DownWord) → sum_down supplies q ≡ 0 → stale q 0 ≡ 0
stale_gone [] none = refl
stale_gone (w ∷ q) none =
    let same : exactly w 0 ≡ 0 = gone w (omega (arith, none)) in
    rw same (omega (arith, away w, stale_gone q (omega (arith, none))))
  where
    gone : (w : DownWord) → supplies w ≡ 0 → exactly w 0 ≡ 0
    gone (Supplying lock precious bytes) none = absurd (omega (arith, none))
    gone (Locking count returns true lock reply) none = refl
    gone (Locking count returns false lock reply) none = refl
    gone Lacking none = refl
    gone Failing none = refl
    gone Readying none = refl
    gone OtherDown none = refl

    away : (w : DownWord) → one_where (cleans w && 0 == 1) ≡ 0
    away w = by (cleans w)
      where
        by : (b : Bool) → one_where (b && 0 == 1) ≡ 0
        by true = refl
        by false = refl

-- no lock on the way to the host is such
abbrev pub IsFresh : Side → Type 0
IsFresh s = stale s.down s.right ≡ 0

-- the page goes
fresh_gone : (s : Side) → Sound s → IsFresh s → 0 < s.right → stale s.down 0 ≡ 0
fresh_gone s ok fresh here = stale_gone s.down (none s ok here)
  where
    none : (s : Side) → Sound s → 0 < s.right → sum_down supplies s.down ≡ 0
    none s ok here = by s.asked refl
      where
        by : (b : Bool) → s.asked ≡ b → sum_down supplies s.down ≡ 0
        by true asked = absurd (omega (arith, ok.not_here asked, here))
        by false asked = let few = ok.asking in grind (arith)

fresh_drops : (s : Side) → Sound s → IsFresh s → 0 < s.right → IsFresh (side_after s Drops)
fresh_drops s ok fresh here = fresh_gone s ok fresh here

fresh_returning : (s : Side) (dirty keep : Bool) (bytes : List ℕ) → Sound s → IsFresh s → 0 < s.right → IsFresh (side_sent_up s (Returning dirty keep bytes))
fresh_returning s dirty true bytes ok fresh here = fresh
fresh_returning s dirty false bytes ok fresh here = fresh_gone s ok fresh here

-- the server sends a lock
fresh_locking : (s : Side) (control count returns lock : ℕ) (flush reply : Bool) → IsFresh s → (cleans (Locking count returns flush lock reply) ≡ true
    → outcome s.down s.right ≢ 1) → IsFresh (side_sent_down s control (Locking count returns flush lock reply))
fresh_locking s control count returns lock flush reply fresh apart = by (is_open_to s control)
  where
    last : (c : Bool) (n : ℕ) → (c ≡ true → n ≢ 1) → one_where (c && n == 1) ≡ 0
    last true n apart = grind (arith, nat_tests, apart refl)
    last false n apart = refl

    by : (b : Bool) → stale (if b then s.down ++ Locking count returns flush lock reply ∷ [] else s.down) s.right ≡ 0
    by true =
        let more = stale_end s.down (Locking count returns flush lock reply) s.right in
        let none = last (cleans (Locking count returns flush lock reply)) (outcome s.down s.right) apart in
        omega (arith, more, none, fresh)
    by false = fresh

fresh_supplying : (s : Side) (control lock : ℕ) (precious : Bool) (bytes : List ℕ) → IsFresh s
    → IsFresh (side_sent_down s control (Supplying lock precious bytes))
fresh_supplying s control lock precious bytes fresh = by (is_open_to s control)
  where
    by : (b : Bool) → stale (if b then s.down ++ Supplying lock precious bytes ∷ [] else s.down) s.right ≡ 0
    by true = let more = stale_end s.down (Supplying lock precious bytes) s.right in omega (arith, more, fresh)
    by false = fresh

-- the host takes the oldest
fresh_taken : (s : Side) (w : DownWord) → Sound s → IsFresh s → first s.down ≡ Some w → IsFresh (side_taken_down s w)
fresh_taken s (Supplying lock precious bytes) ok fresh is =
    let asked : s.asked ≡ true = is_asked s lock precious bytes ok is in by s lock precious bytes asked fresh is
  where
    is_asked : (s : Side) (lock : ℕ) (precious : Bool) (bytes : List ℕ) → Sound s → first s.down ≡ Some (Supplying lock precious bytes) → s.asked ≡ true
    is_asked s lock precious bytes ok is = grind (arith, ok.asking)

    by : (s : Side) (lock : ℕ) (precious : Bool) (bytes : List ℕ) → s.asked ≡ true → IsFresh s → first s.down ≡ Some (Supplying lock precious bytes)
        → IsFresh (side_taken_down s (Supplying lock precious bytes))
    by s lock precious bytes asked fresh is = grind (arith, nat_tests)
fresh_taken s (Locking count returns flush lock reply) ok fresh is = grind (arith, nat_tests)
fresh_taken s Lacking ok fresh is = absurd (never s Lacking ok refl is)
fresh_taken s Failing ok fresh is = absurd (never s Failing ok refl is)
fresh_taken s Readying ok fresh is = fresh
fresh_taken s OtherDown ok fresh is = fresh

fresh_taking : (ws : List Waiter) (rs : List ℕ) (s : Side) (control : ℕ) (w : DownWord) (b : Bool) → is_open_to s control ≡ b → Sound s → IsFresh s
    → HostMay ws rs s (TakesDown control w) → IsFresh (if b then side_taken_down s w else record s { step = 0 })
fresh_taking ws rs s control w false is ok fresh may = fresh
fresh_taking ws rs s control OtherDown true is ok fresh may = fresh
fresh_taking ws rs s control Readying true is ok fresh may = fresh
fresh_taking ws rs s control w true is ok fresh may =
    let live : s.live ≡ true = grind (arith, nat_tests) in
    let mine : s.control ≡ control = grind (arith, nat_tests) in
    fresh_taken s w ok fresh (may mine live)

-- a lock that wants a reply and lets the host read goes to one that can write
abbrev pub Cleans : Side → ActEffect → Type 0
Cleans s (SentDown control (Locking count returns false lock true)) = s.holds ≡ 2
Cleans s e = Unit {0}

fresh_sent : (ws : List Waiter) (rs : List ℕ) (s : Side) (control : ℕ) (w : UpWord) → Sound s → IsFresh s → HostMay ws rs s (SendsUp control w)
    → IsFresh (side_sent_up s w)
fresh_sent ws rs s control (Asking asker access) ok fresh may = fresh
fresh_sent ws rs s control (Unlocking access) ok fresh may = fresh
fresh_sent ws rs s control (Returning dirty keep bytes) ok fresh may = fresh_returning s dirty keep bytes ok fresh may.2.0
fresh_sent ws rs s control (Doing told count) ok fresh may = fresh
fresh_sent ws rs s control (Ending told) ok fresh may = refl
fresh_sent ws rs s control OtherUp ok fresh may = fresh

-- any act of the host's own
fresh_own : (e : ActEffect) (ws : List Waiter) (rs : List ℕ) (s : Side) (n : ℕ) → Sound s → Carried s n → IsFresh s → Fair ws rs s e → Cleans s e
    → IsFresh (side_after s e)
fresh_own (Opens control ready) ws rs s n ok k fresh may clean = refl
fresh_own (SendsUp control w) ws rs s n ok k fresh may clean = fresh_sent ws rs s control w ok fresh may
fresh_own (TakenUp (Asking asker access)) ws rs s n ok k fresh may clean = fresh
fresh_own (TakenUp (Unlocking access)) ws rs s n ok k fresh may clean = fresh
fresh_own (TakenUp (Returning dirty keep bytes)) ws rs s n ok k fresh may clean = fresh
fresh_own (TakenUp (Doing control count)) ws rs s n ok k fresh may clean = fresh
fresh_own (TakenUp (Ending control)) ws rs s n ok k fresh may clean = fresh
fresh_own (TakenUp OtherUp) ws rs s n ok k fresh may clean = fresh
fresh_own (SentDown control (Supplying lock precious bytes)) ws rs s n ok k fresh may clean = fresh_supplying s control lock precious bytes fresh
fresh_own (SentDown control (Locking count returns true lock reply)) ws rs s n ok k fresh may clean =
    fresh_locking s control count returns lock true reply fresh (λ bad. absurd (let no : false ≡ true = bad in cc))
fresh_own (SentDown control (Locking count returns false lock true)) ws rs s n ok k fresh may clean =
    fresh_locking s control count returns lock false true fresh (λ is. k.settles clean may.1)
fresh_own (SentDown control (Locking count returns false lock false)) ws rs s n ok k fresh may clean =
    fresh_locking s control count returns lock false false fresh (λ is. absurd (grant lock may.2 is))
  where
    grant : (lock : ℕ) → lock ≡ 0 → (true && not (lock == 0)) ≡ true → ⊥
    grant lock none is = grind (arith, nat_tests)
fresh_own (SentDown control Lacking) ws rs s n ok k fresh may clean = absurd may
fresh_own (SentDown control Failing) ws rs s n ok k fresh may clean = absurd may
fresh_own (SentDown control Readying) ws rs s n ok k fresh may clean = fresh
fresh_own (SentDown control OtherDown) ws rs s n ok k fresh may clean = fresh
fresh_own (TakesDown control w) ws rs s n ok k fresh may clean = fresh_taking ws rs s control w (is_open_to s control) refl ok fresh may
fresh_own (Puts bytes dirty) ws rs s n ok k fresh may clean = absurd may
fresh_own Drops ws rs s n ok k fresh may clean = fresh_drops s ok fresh may.0
fresh_own e ws rs s n ok k fresh may clean = fresh

fresh_others : (e : ActEffect) (s : Side) → IsFresh s → IsFresh (side_after s (to_others e))
fresh_others (TakenUp w) s fresh = fresh
fresh_others (TakesDown control w) s fresh = fresh
fresh_others StepBegins s fresh = fresh
fresh_others e s fresh = fresh

-- all hosts

cleans_if : (size h : ℕ) (e : ActEffect) (past : List Act) → Cause size h e past → Cleans (side h past) e
cleans_if size h (SentDown control (Locking count returns false lock true)) past c = by (first (line past)) c.5
  where
    by : (w : Option Wanting) → RecallRow h false lock (side h past).holds w → (side h past).holds ≡ 2
    by None row = absurd row
    by (Some w) row = row.3
cleans_if size h e past c = tt

fresh_after : (size : ℕ) (a : Act) (past : List Act) → World past → Waits past → ((h : ℕ) → IsFresh (side h past)) → Cause size a.host a.effect past
    → (h : ℕ) → IsFresh (side h (a ∷ past))
fresh_after size a past w k fresh c h = elim (ℕ_discrete a.host h) [
  | yes e ↦ subst (λ (g : ℕ). IsFresh (side g (a ∷ past))) e
      (subst (λ (s : Side). IsFresh s) (sym (own_side a past))
      (fresh_own a.effect (waiters a.host past) (readers a.host past) (side a.host past) (upgrades a.host past) (w.each a.host) (k.each a.host) (fresh a.host)
      (cause size a.host a.effect past w c) (cleans_if size a.host a.effect past c)))
  | no e ↦ subst (λ (s : Side). IsFresh s) (sym (other_side h a past e)) (fresh_others a.effect (side h past) (fresh h))
]

fresh_law : (size : ℕ) (past : List Act) → ActsLicensed size past → StepsDone past → (h : ℕ) → IsFresh (side h past)
fresh_law size [] licensed done h = refl
fresh_law size (a ∷ past) licensed done h =
    fresh_after size a past (world size past licensed.1) (waits size past licensed.1 done.1) (fresh_law size past licensed.1 done.1) licensed.0 h

-- the next lock that a host with an outstanding unlock takes is a flush, or the grant
next_lock : (s : Side) (n count returns lock : ℕ) (flush reply : Bool) → Carried s n → IsFresh s → s.unlocking ≡ true → 0 < s.right
    → first s.down ≡ Some (Locking count returns flush lock reply) → (flush ≡ true) ⊎ (lock ≡ 0)
next_lock s n count returns lock true reply k fresh unlocking here is = inl refl
next_lock s n count returns lock false reply k fresh unlocking here is = inr (none lock (reads s n k unlocking here) (found s count returns lock reply is fresh))
  where
    reads : (s : Side) (n : ℕ) → Carried s n → s.unlocking ≡ true → 0 < s.right → s.right ≡ 1
    reads s n k unlocking here = k.reads unlocking here

    found : (s : Side) (count returns lock : ℕ) (reply : Bool) → first s.down ≡ Some (Locking count returns false lock reply) → IsFresh s
        → one_where ((true && not (lock == 0)) && s.right == 1) ≡ 0
    found s count returns lock reply is fresh = grind (arith, nat_tests)

    none : (lock : ℕ) → s.right ≡ 1 → one_where ((true && not (lock == 0)) && s.right == 1) ≡ 0 → lock ≡ 0
    none lock one fresh = grind (arith, nat_tests)

pub unlock_is_answered : (size h count returns lock : ℕ) (flush reply : Bool) (past : List Act) → ActsLicensed size past → StepsDone past
    → (side h past).unlocking ≡ true → 0 < (side h past).right → first (side h past).down ≡ Some (Locking count returns flush lock reply)
    → (flush ≡ true) ⊎ (lock ≡ 0)
unlock_is_answered size h count returns lock flush reply past licensed done unlocking here is =
    next_lock (side h past) (upgrades h past) count returns lock flush reply ((waits size past licensed done).each h) (fresh_law size past licensed done h) unlocking
    here is
