-- Every licensed list of acts is truthful: each page that is here has what the stores left.
use Rattle.std.proofs.Common.{◌≡◌, ℕ, ◌≤◌, ◌≢◌, ◌∙◌, subst, sym, List, [], ◌∷◌, arith, Bool, true, false, Option, Some, None, ◌+◌, ◌<◌, ◌==◌, if◌then◌else◌}
use Rattle.std.proofs.Common.{refl}
use Rattle.std.specs.Prelude.{replicate, slice_range}
use Rattle.std.proofs.lemmas.Bool.Decides.{nat_tests}
use native.Mathlib.Decide.{ℕ_discrete}
use Rattle.vm_base.specs.Pages.{little_endian}
use Rattle.vm_model.specs.Words.{UpWord, Asking, Unlocking, Returning, Doing, Ending, OtherUp, DownWord, Supplying, Locking, Lacking, Failing, Readying}
use Rattle.vm_model.specs.Words.{OtherDown, ActEffect, Opens, SendsUp, TakenUp, SentDown, TakesDown, Puts, Drops, Begins, Loads, Stores, Fails, BeginsCopy}
use Rattle.vm_model.specs.Words.{Copies, EndsCopy, StepBegins, Nothing, Act, to_others}
use Rattle.vm_model.specs.Side.{Side, nobody, can_read, is_open_to, side_taken_down, side_after, side}
use Rattle.vm_model.specs.Waiters.{Waiter, waiters, readers, waiter_of}
use Rattle.vm_model.specs.Server.{first, Wanting, line, current_after, current, kept_after, kept}
use Rattle.vm_model.specs.PageLicences.{MayLoad, HostMay, SupplyRow, ReplyCause, Cause, ActsLicensed}
use Rattle.vm_model.specs.Coherence.{Throughout, SaysUp, CarryUp, Carries, SameBytes, WaiterReads, LoadReads, EachLoadReads, PageLegal}
use Rattle.vm_coherence.proofs.Queues.{drain_up}
use Rattle.vm_coherence.proofs.Sound.{Fair, Sound}
use Rattle.vm_coherence.proofs.Law.{never, keep, World, alone_if, pending_if, cause, own_side, other_side, world, throughout_writer}
use Rattle.vm_coherence.proofs.Orderly.{Orderly, order_asking, order_unlocking, order_returning, order_doing, order_ending, order_drops, order_step}
use Rattle.vm_coherence.proofs.Orderly.{order_opens, order_ready, order_stores, order_heard_asking, order_heard_unlocking, order_heard_returning}
use Rattle.vm_coherence.proofs.Orderly.{order_heard_doing, order_heard_ending, order_supply, order_upgrade, order_order, order_supplied, order_locked}
use Rattle.vm_coherence.proofs.Truth.{SaysTruth, can_store, carry, IsStore, carry_others, Settled, Silent, settled_others}
use Rattle.vm_coherence.proofs.Settled.{settled_own}

order_hears : (w : DownWord) (s : Side) → Sound s → Orderly s → first s.down ≡ Some w → Orderly (side_taken_down s w)
order_hears (Supplying lock precious bytes) s ok o is = order_supplied s lock precious bytes ok o is
order_hears (Locking count returns flush lock reply) s ok o is = order_locked s count returns lock flush reply ok o is
order_hears Lacking s ok o is = absurd (never s Lacking ok refl is)
order_hears Failing s ok o is = absurd (never s Failing ok refl is)
order_hears Readying s ok o is = order_ready s o
order_hears OtherDown s ok o is = order_step s o

order_taking : (ws : List Waiter) (rs : List ℕ) (s : Side) (control : ℕ) (word : DownWord) (b : Bool) → is_open_to s control ≡ b → Sound s → Orderly s
    → HostMay ws rs s (TakesDown control word) → Orderly (if b then side_taken_down s word else record s { step = 0 })
order_taking ws rs s control word false is ok o may = order_step s o
order_taking ws rs s control OtherDown true is ok o may = order_step s o
order_taking ws rs s control Readying true is ok o may = order_ready s o
order_taking ws rs s control word true is ok o may =
    let live : s.live ≡ true = grind (arith, nat_tests) in
    let mine : s.control ≡ control = grind (arith, nat_tests) in
    order_hears word s ok o (may mine live)

order : (e : ActEffect) (ws : List Waiter) (rs : List ℕ) (s : Side) → Sound s → Orderly s → Fair ws rs s e → Orderly (side_after s e)
order (Opens control ready) ws rs s ok o may = order_opens s control ready ok o may.0
order (SendsUp control (Asking asker access)) ws rs s ok o may = order_asking ws rs s asker access ok o may.2
order (SendsUp control (Unlocking access)) ws rs s ok o may = order_unlocking s access ok o
order (SendsUp control (Returning dirty kept bytes)) ws rs s ok o may = order_returning ws rs s dirty kept bytes ok o may.2
order (SendsUp control (Doing told count)) ws rs s ok o may = order_doing ws rs s told count ok o may.2
order (SendsUp control (Ending told)) ws rs s ok o may = order_ending ws rs s told ok o may.2
order (SendsUp control OtherUp) ws rs s ok o may = o
order (TakenUp (Asking asker access)) ws rs s ok o may = order_heard_asking s asker access ok o may
order (TakenUp (Unlocking access)) ws rs s ok o may = order_heard_unlocking s access ok o may
order (TakenUp (Returning dirty kept bytes)) ws rs s ok o may = order_heard_returning s dirty kept bytes ok o may
order (TakenUp (Doing control count)) ws rs s ok o may = order_heard_doing s control count ok o may
order (TakenUp (Ending control)) ws rs s ok o may = order_heard_ending s control ok o may
order (TakenUp OtherUp) ws rs s ok o may = order_step s o
order (SentDown control (Supplying lock precious bytes)) ws rs s ok o may = order_supply s control lock precious bytes ok o may
order (SentDown control (Locking count returns flush lock true)) ws rs s ok o may = order_order s control count returns lock flush ok o may
order (SentDown control (Locking count returns flush lock false)) ws rs s ok o may = order_upgrade s control count returns lock flush ok o may
order (SentDown control Lacking) ws rs s ok o may = absurd may
order (SentDown control Failing) ws rs s ok o may = absurd may
order (SentDown control Readying) ws rs s ok o may = o
order (SentDown control OtherDown) ws rs s ok o may = o
order (TakesDown control word) ws rs s ok o may = order_taking ws rs s control word (is_open_to s control) refl ok o may
order (Puts bytes dirty) ws rs s ok o may = absurd may
order Drops ws rs s ok o may = order_drops s ok o
order (Begins task store at size value) ws rs s ok o may = o
order (Loads task value) ws rs s ok o may = o
order (Stores task at size value) ws rs s ok o may = order_stores s task at size value ok o (can_store (waiter_of task ws) s at size value may)
order (Fails task) ws rs s ok o may = o
order (BeginsCopy task times) ws rs s ok o may = o
order (Copies task) ws rs s ok o may = o
order (EndsCopy task) ws rs s ok o may = o
order StepBegins ws rs s ok o may = order_step s o
order Nothing ws rs s ok o may = o

order_others : (e : ActEffect) (s : Side) → Orderly s → Orderly (side_after s (to_others e))
order_others (TakenUp w) s o = order_step s o
order_others (TakesDown control w) s o = order_step s o
order_others StepBegins s o = order_step s o
order_others e s o = o

pub record Bytes (size : ℕ) (past : List Act) : Type 0 where
  pub orders : (h : ℕ) → Orderly (side h past)
  pub carries : (h : ℕ) → Carries (current size past) (side h past)
  pub saved : ((h : ℕ) → Settled (side h past)) → kept size past ≡ current size past

-- what holds of the host of an act, and of every other host, holds of all
pub at_each : (P : Side → Type 0) (a : Act) (past : List Act) → P (side_after (side a.host past) a.effect)
    → ((h : ℕ) → a.host ≢ h → P (side_after (side h past) (to_others a.effect))) → (h : ℕ) → P (side h (a ∷ past))
at_each P a past own others h = elim (ℕ_discrete a.host h) [
  | yes e ↦ subst (λ (k : ℕ). P (side k (a ∷ past))) e (subst P (sym (own_side a past)) own)
  | no e ↦ subst P (sym (other_side h a past e)) (others h e)
]

orders_after : (size : ℕ) (a : Act) (past : List Act) → World past → Bytes size past → Cause size a.host a.effect past → (h : ℕ) → Orderly (side h (a ∷ past))
orders_after size a past w b c =
    at_each (λ s. Orderly s) a past (order a.effect (waiters a.host past) (readers a.host past) (side a.host past) (w.each a.host) (b.orders a.host)
    (cause size a.host a.effect past w c)) (λ h e. order_others a.effect (side h past) (b.orders h))

-- the front's host holds nothing, and no other holds Write
nobody_writes : (h lock : ℕ) (past : List Act) (o : Option Wanting) → World past → first (line past) ≡ o → SupplyRow h lock past o → (g : ℕ)
    → (side g past).holds ≢ 2
nobody_writes h lock past None w is row g holds = absurd row
nobody_writes h lock past (Some v) w is row g holds = elim (ℕ_discrete g h) [
  | yes e ↦ let some : (side h past).holds ≡ 2 =
      subst (λ (k : ℕ). (side k past).holds ≡ 2) e holds in omega (arith, (w.each h).pending_none (pending_if h lock past (Some v) w is row))
  | no e ↦ less (side g past).holds v.access holds (row.3 g e)
] where
  less : (holds access : ℕ) → holds ≡ 2 → holds ≤ (if access == 3 then 0 else 1) → ⊥
  less holds access two le = grind (arith, nat_tests)

-- a supply has the page's bytes
supply_says : (size h control lock : ℕ) (precious : Bool) (bytes : List ℕ) (past : List Act) → World past → Bytes size past
    → ReplyCause size h control (Supplying lock precious bytes) past → bytes ≡ current size past
supply_says size h control lock precious bytes past w b a = a.3 ∙ b.saved (λ g holds. absurd (nobody_writes h lock past (first (line past)) w refl a.4 g holds))

says : (size h : ℕ) (e : ActEffect) (past : List Act) → World past → Bytes size past → Cause size h e past → SaysTruth (current size past) e
says size h (SentDown control (Supplying lock precious bytes)) past w b c = supply_says size h control lock precious bytes past w b c
says size h (SentDown control word) past w b c = tt
says size h e past w b c = tt

writes_if : (e : ActEffect) (ws : List Waiter) (rs : List ℕ) (s : Side) → IsStore e → Fair ws rs s e → s.right ≡ 2
writes_if (Stores task at size value) ws rs s is may = can_store (waiter_of task ws) s at size value may
writes_if e ws rs s is may = absurd is

carries_after : (size : ℕ) (a : Act) (past : List Act) → World past → Bytes size past → Cause size a.host a.effect past → (h : ℕ)
    → Carries (current size (a ∷ past)) (side h (a ∷ past))
carries_after size a past w b c =
    let may : Fair (waiters a.host past) (readers a.host past) (side a.host past) a.effect = cause size a.host a.effect past w c in
    at_each (λ s. Carries (current_after a.effect (current size past)) s) a past
    (carry a.effect (waiters a.host past) (readers a.host past) (current size past) (side a.host past) (w.each a.host) (b.orders a.host) may
    (says size a.host a.effect past w b c) (b.carries a.host))
    (λ h e. carry_others a.effect (current size past) (side h past) (w.each h) (b.orders h)
    (λ is. alone_if h a.host past w (λ f. e (sym f)) (writes_if a.effect (waiters a.host past) (readers a.host past) (side a.host past) is may))
    (b.carries h))

first_up_says : (page : List ℕ) (q : List UpWord) (w : UpWord) → first q ≡ Some w → CarryUp page q → SaysUp page w
first_up_says page [] w is c = absurd (cc)
first_up_says page (v ∷ q) w is c = let e : v ≡ w = cc in subst (λ (u : UpWord). SaysUp page u) e c.0

fresh_store : (s : Side) (task at size value : ℕ) → Sound s → s.right ≡ 2 → Settled (side_after s (Stores task at size value)) → ⊥
fresh_store s task at size value ok can is = grind (arith, nat_tests, drain_up)

-- the act is silent, or it is of these two kinds
saved_by : (e : ActEffect) (ws : List Waiter) (rs : List ℕ) (s : Side) (page store : List ℕ) → Sound s → Orderly s → Fair ws rs s e → CarryUp page s.up
    → Settled (side_after s e) → (Silent e → store ≡ page) → kept_after e store ≡ current_after e page
saved_by (TakenUp (Returning dirty keep bytes)) ws rs s page store ok o may c is silent = first_up_says page s.up (Returning dirty keep bytes) may c
saved_by (TakenUp w) ws rs s page store ok o may c is silent = silent tt
saved_by (Stores task at size value) ws rs s page store ok o may c is silent =
    absurd (fresh_store s task at size value ok (can_store (waiter_of task ws) s at size value may) is)
saved_by e ws rs s page store ok o may c is silent = silent tt

saved_after : (size : ℕ) (a : Act) (past : List Act) → World past → Bytes size past → Cause size a.host a.effect past → ((h : ℕ) → Settled (side h (a ∷ past)))
    → kept size (a ∷ past) ≡ current size (a ∷ past)
saved_after size a past w b c is =
    let may : Fair (waiters a.host past) (readers a.host past) (side a.host past) a.effect = cause size a.host a.effect past w c in
    let own : Settled (side_after (side a.host past) a.effect) = subst (λ (s : Side). Settled s) (own_side a past) (is a.host) in
    saved_by a.effect (waiters a.host past) (readers a.host past) (side a.host past) (current size past) (kept size past) (w.each a.host) (b.orders a.host) may
    (b.carries a.host).going own
    (λ silent. b.saved (λ h. elim (ℕ_discrete a.host h) [
      | yes e ↦ subst (λ (k : ℕ). Settled (side k past)) e (settled_own a.effect (waiters a.host past) (readers a.host past) (side a.host past) (w.each a.host)
          (b.orders a.host) may silent own)
      | no e ↦ settled_others a.effect (side h past) (subst (λ (s : Side). Settled s) (other_side h a past e) (is h))
    ]))

order_start : Orderly nobody
order_start = grind (arith, nat_tests)

carry_start : (page : List ℕ) → Carries page nobody
carry_start page = record { here = λ some. absurd (omega arith); coming = tt; going = tt }

pub bytes_law : (size : ℕ) (past : List Act) → ActsLicensed size past → Bytes size past
bytes_law size [] licensed = record { orders = λ h. order_start; carries = λ h. carry_start (replicate size 0); saved = λ is. refl }
bytes_law size (a ∷ past) licensed =
    let w : World past = world size past licensed.1 in
    let b : Bytes size past = bytes_law size past licensed.1 in
    record {
      orders = orders_after size a past w b licensed.0;
      carries = carries_after size a past w b licensed.0;
      saved = saved_after size a past w b licensed.0;
    }

pub same_bytes : (size : ℕ) (past : List Act) → ActsLicensed size past → SameBytes size past
same_bytes size past licensed = (bytes_law size past licensed).carries

-- a load reads what its host has

load_reads : (o : Option Waiter) (s : Side) (value : ℕ) (page : List ℕ) → Carries page s → MayLoad o s value → WaiterReads page value o
load_reads None s value page c may = absurd may
load_reads (Some v) s value page c may =
    let here : 0 < s.right = some_right s may.1 in
    subst (λ (bytes : List ℕ). value ≡ little_endian (slice_range bytes v.at (v.at + v.size))) (c.here here) may.2 where
      some_right : (s : Side) → can_read s ≡ true → 0 < s.right
      some_right s can = grind (arith, nat_tests)

cause_reads : (size h : ℕ) (e : ActEffect) (past : List Act) → Carries (current size past) (side h past) → Cause size h e past → LoadReads size h e past
cause_reads size h (Loads task value) past c cause = load_reads (waiter_of task (waiters h past)) (side h past) value (current size past) c cause
cause_reads size h e past c cause = tt

pub loads : (size : ℕ) (past : List Act) → ActsLicensed size past → EachLoadReads size past
loads size [] licensed = tt
loads size (a ∷ past) licensed = (cause_reads size a.host a.effect past (same_bytes size past licensed.1 a.host) licensed.0, loads size past licensed.1)

pub throughout_bytes : (size : ℕ) (past : List Act) → ActsLicensed size past → Throughout (SameBytes size) past
throughout_bytes size [] licensed = same_bytes size [] licensed
throughout_bytes size (a ∷ past) licensed = (same_bytes size (a ∷ past) licensed, throughout_bytes size past licensed.1)

pub page_legal : (size : ℕ) (past : List Act) → ActsLicensed size past → PageLegal size past
page_legal size past licensed =
    record {
      licensed = licensed;
      one_writer = throughout_writer size past licensed;
      same_bytes = throughout_bytes size past licensed;
      loads = loads size past licensed;
    }
