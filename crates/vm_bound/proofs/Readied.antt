-- A page of shared memory is on a host, or asked, only where the control of its object is ready.
use Rattle.std.proofs.Common.{◌≡◌, ℕ, ◌<◌, ◌∙◌, subst, sym, List, [], ◌∷◌, arith, Bool, true, false, Option, if◌then◌else◌, refl}
use Rattle.std.proofs.lemmas.Bool.Decides.{nat_tests}
use native.Mathlib.Decide.{ℕ_discrete}
use Rattle.vm_legal.specs.Accesses.{is_ready}
use Rattle.vm_legal.specs.Bytes.{OwnBytes}
use Rattle.vm_legal.specs.Licences.{HasCause}
use Rattle.vm_legal.specs.Outside.{Outside, is_shared}
use Rattle.vm_legal.specs.Walks.{page_on}
use Rattle.vm_model.specs.Controls.{live_control}
use Rattle.vm_model.specs.Local.{Local}
use Rattle.vm_model.specs.Moments.{EachEvent}
use Rattle.vm_model.specs.PageLicences.{ActsLicensed, Cause, HostMay}
use Rattle.vm_model.specs.PagePart.{page_part}
use Rattle.vm_model.specs.Side.{Side, is_open_to, right_of, side, side_after, side_sent_down, side_sent_up, side_taken_down, side_taken_up}
use Rattle.vm_model.specs.Waiters.{Waiter, readers, waiters}
use Rattle.vm_model.specs.Words.{UpWord, Asking, Unlocking, Returning, Doing, Ending, OtherUp, DownWord, Supplying, Locking, Lacking, Failing, Readying}
use Rattle.vm_model.specs.Words.{OtherDown, ActEffect, Opens, SendsUp, TakenUp, SentDown, TakesDown, Puts, Drops, Stores, StepBegins, Act, to_others}
use Rattle.vm_model.specs.declared.event.Event.{Event}
use Rattle.vm_model.specs.declared.script.Header.{Header}
use Rattle.vm_coherence.proofs.Law.{World, cause, other_side, own_side, world}
use Rattle.vm_coherence.proofs.Sound.{Fair, Sound}
use Rattle.vm_coherence.specs.Locals.{SideIsLocal}
use Rattle.vm_coherence.proofs.Locals.{side_is_local}
use Rattle.vm_flat.proofs.Locals.{each_founded}
use Rattle.vm_shared.proofs.Causes.{Known, licensed}
use Rattle.vm_shared.proofs.Kept.{shareds_of, unmerged}
use Rattle.vm_shared.proofs.Stepped.{stepped_of}

-- the page is on the host, or asked, only where the control is ready
pub record IsReadied (s : Side) : Type 0 where
  pub here : 0 < s.right → s.ready ≡ true
  pub asked : s.asked ≡ true → s.ready ≡ true

readied_sent : (ws : List Waiter) (rs : List ℕ) (s : Side) (control : ℕ) (w : UpWord) → IsReadied s → HostMay ws rs s (SendsUp control w)
    → IsReadied (side_sent_up s w)
readied_sent ws rs s control (Asking asker access) ok may = record { here = ok.here; asked = λ is. may.2.2 }
readied_sent ws rs s control (Unlocking access) ok may = record { here = ok.here; asked = ok.asked }
readied_sent ws rs s control (Returning dirty true bytes) ok may = record { here = ok.here; asked = ok.asked }
readied_sent ws rs s control (Returning dirty false bytes) ok may = record { here = λ is. absurd (omega (arith, is)); asked = ok.asked }
readied_sent ws rs s control (Doing told count) ok may = record { here = ok.here; asked = ok.asked }
readied_sent ws rs s control (Ending told) ok may =
    record { here = λ is. absurd (omega (arith, is, may.2.1)); asked = λ is. absurd (let bad : false ≡ true = is in cc) }
readied_sent ws rs s control OtherUp ok may = ok

readied_heard : (s : Side) (w : UpWord) → IsReadied s → IsReadied (side_taken_up s w)
readied_heard s (Asking asker access) ok = record { here = ok.here; asked = ok.asked }
readied_heard s (Unlocking access) ok = record { here = ok.here; asked = ok.asked }
readied_heard s (Returning dirty keep bytes) ok = record { here = ok.here; asked = ok.asked }
readied_heard s (Doing control count) ok = record { here = ok.here; asked = ok.asked }
readied_heard s (Ending control) ok = record { here = ok.here; asked = ok.asked }
readied_heard s OtherUp ok = record { here = ok.here; asked = ok.asked }

readied_told : (s : Side) (control : ℕ) (w : DownWord) → IsReadied s → IsReadied (side_sent_down s control w)
readied_told s control (Supplying lock precious bytes) ok = record { here = ok.here; asked = ok.asked }
readied_told s control (Locking count returns flush lock reply) ok = record { here = ok.here; asked = ok.asked }
readied_told s control Lacking ok = record { here = ok.here; asked = ok.asked }
readied_told s control Failing ok = record { here = ok.here; asked = ok.asked }
readied_told s control Readying ok = ok
readied_told s control OtherDown ok = ok

readied_taken : (s : Side) (w : DownWord) → IsReadied s → IsReadied (side_taken_down s w)
readied_taken s (Supplying lock precious bytes) ok = by s.asked refl
  where
    no_true : {A : Type 0} → false ≡ true → A
    no_true e = absurd (let bad : false ≡ true = e in cc)

    by : (b : Bool) → s.asked ≡ b → IsReadied (side_taken_down s (Supplying lock precious bytes))
    by true is = record { here = λ now. ok.asked is; asked = λ now. no_true now }
    by false is = record { here = λ now. ok.here (was now); asked = λ now. no_true now }
      where
        was : 0 < (side_taken_down s (Supplying lock precious bytes)).right → 0 < s.right
        was now = grind (arith, nat_tests)
readied_taken s (Locking count returns flush lock reply) ok = record { here = λ now. ok.here (was s count returns flush lock reply now); asked = ok.asked }
  where
    was : (s : Side) (count returns : ℕ) (flush : Bool) (lock : ℕ) (reply : Bool)
        → 0 < (side_taken_down s (Locking count returns flush lock reply)).right → 0 < s.right
    was s count returns flush lock reply now = grind (arith, nat_tests)
readied_taken s Lacking ok = record { here = ok.here; asked = λ now. absurd (let bad : false ≡ true = now in cc) }
readied_taken s Failing ok = record { here = ok.here; asked = λ now. absurd (let bad : false ≡ true = now in cc) }
readied_taken s Readying ok = record { here = λ now. refl; asked = λ now. refl }
readied_taken s OtherDown ok = record { here = ok.here; asked = ok.asked }

readied_taking : (s : Side) (control : ℕ) (w : DownWord) → IsReadied s → IsReadied (side_after s (TakesDown control w))
readied_taking s control w ok = by (is_open_to s control)
  where
    by : (b : Bool) → IsReadied (if b then side_taken_down s w else record s { step = 0 })
    by true = readied_taken s w ok
    by false = record { here = ok.here; asked = ok.asked }

-- any act of the host's own
readied_own : (e : ActEffect) (ws : List Waiter) (rs : List ℕ) (s : Side) → Sound s → IsReadied s → Fair ws rs s e → IsReadied (side_after s e)
readied_own (Opens control ready) ws rs s sound ok may =
    record { here = λ now. absurd (omega (arith, now, sound.gone_right may.0)); asked = λ now. absurd (let bad : false ≡ true = now in cc) }
readied_own (SendsUp control w) ws rs s sound ok may = readied_sent ws rs s control w ok may
readied_own (TakenUp w) ws rs s sound ok may = readied_heard s w ok
readied_own (SentDown control w) ws rs s sound ok may = readied_told s control w ok
readied_own (TakesDown control w) ws rs s sound ok may = readied_taking s control w ok
readied_own (Puts bytes dirty) ws rs s sound ok may = absurd may
readied_own Drops ws rs s sound ok may = record { here = λ now. absurd (omega (arith, now)); asked = ok.asked }
readied_own (Stores task at size value) ws rs s sound ok may = record { here = ok.here; asked = ok.asked }
readied_own StepBegins ws rs s sound ok may = record { here = ok.here; asked = ok.asked }
readied_own e ws rs s sound ok may = ok

readied_others : (e : ActEffect) (s : Side) → IsReadied s → IsReadied (side_after s (to_others e))
readied_others (TakenUp w) s ok = record { here = ok.here; asked = ok.asked }
readied_others (TakesDown control w) s ok = record { here = ok.here; asked = ok.asked }
readied_others StepBegins s ok = record { here = ok.here; asked = ok.asked }
readied_others e s ok = ok

readied_after : (size : ℕ) (a : Act) (past : List Act) → World past → ((h : ℕ) → IsReadied (side h past)) → Cause size a.host a.effect past
    → (h : ℕ) → IsReadied (side h (a ∷ past))
readied_after size a past w ok c h = elim (ℕ_discrete a.host h) [
  | yes e ↦ subst (λ (g : ℕ). IsReadied (side g (a ∷ past))) e
      (subst (λ (s : Side). IsReadied s) (sym (own_side a past))
      (readied_own a.effect (waiters a.host past) (readers a.host past) (side a.host past) (w.each a.host) (ok a.host)
      (cause size a.host a.effect past w c)))
  | no e ↦ subst (λ (s : Side). IsReadied s) (sym (other_side h a past e)) (readied_others a.effect (side h past) (ok h))
]

pub readied : (size : ℕ) (past : List Act) → ActsLicensed size past → (h : ℕ) → IsReadied (side h past)
readied size [] licensed h =
    record { here = λ is. absurd (omega (arith, is)); asked = λ is. absurd (let bad : false ≡ true = is in cc) }
readied size (a ∷ past) licensed h = readied_after size a past (world size past licensed.1) (readied size past licensed.1) licensed.0 h

-- What a host has of a page of shared memory.

pub known : (header : Header) (outside : Outside) (past : List Event) → EachEvent (HasCause header outside) past → (h o p : ℕ) → is_shared header o ≡ true
    → Known header h o p past
known header outside past caused h o p shared =
    record {
      is = side_is_local header past h o p (unmerged header outside past caused o shared) (each_founded header outside past caused);
      shared = shareds_of header outside past caused h o p shared;
      steps = stepped_of header outside past caused h o p shared;
    }

pub right_here : (live : Option ℕ) (s : Side) (page : Local) → SideIsLocal live s page → page.here ≡ true → 0 < s.right
right_here live s page is here = omega (arith, is.right, by page.here here, above page.lock)
  where
    above : (lock : ℕ) → 0 < right_of lock
    above lock = grind (arith, nat_tests)

    by : (b : Bool) → b ≡ true → (if b then right_of page.lock else 0) ≡ right_of page.lock
    by true e = refl
    by false e = absurd (let bad : false ≡ true = e in cc)

-- where it is, its control lives and is ready
pub here_ready : (header : Header) (outside : Outside) (past : List Event) → EachEvent (HasCause header outside) past → EachEvent (OwnBytes header) past
    → (h o p : ℕ) → is_shared header o ≡ true → (page_on header h o p past).here ≡ true → is_ready h o past ≡ true
here_ready header outside past caused own h o p shared here =
    let k : Known header h o p past = known header outside past caused h o p shared in
    let acts = licensed header outside past caused own o p shared in
    let some = right_here (live_control h o past) (side h (page_part header.size o p past)) (page_on header h o p past) k.is here in
    let sound = (world header.size (page_part header.size o p past) acts).each h in
    let live = lives (side h (page_part header.size o p past)) sound some in
    sym (k.steps.ready live) ∙ (readied header.size (page_part header.size o p past) acts h).here some
  where
    lives : (s : Side) → Sound s → 0 < s.right → s.live ≡ true
    lives s sound some = by s.live refl
      where
        by : (b : Bool) → s.live ≡ b → b ≡ true
        by true is = refl
        by false is = absurd (omega (arith, some, sound.gone_right is))

-- and nothing of it is asked
pub here_unasked : (header : Header) (outside : Outside) (past : List Event) → EachEvent (HasCause header outside) past → EachEvent (OwnBytes header) past
    → (h o p : ℕ) → is_shared header o ≡ true → (page_on header h o p past).here ≡ true → (page_on header h o p past).asked ≡ false
here_unasked header outside past caused own h o p shared here =
    let k : Known header h o p past = known header outside past caused h o p shared in
    let acts = licensed header outside past caused own o p shared in
    let some = right_here (live_control h o past) (side h (page_part header.size o p past)) (page_on header h o p past) k.is here in
    let sound = (world header.size (page_part header.size o p past) acts).each h in
    sym k.is.asked ∙ unasked (side h (page_part header.size o p past)) sound some
  where
    unasked : (s : Side) → Sound s → 0 < s.right → s.asked ≡ false
    unasked s sound some = by s.asked refl
      where
        by : (b : Bool) → s.asked ≡ b → b ≡ false
        by false is = refl
        by true is = absurd (omega (arith, some, sound.not_here is))
