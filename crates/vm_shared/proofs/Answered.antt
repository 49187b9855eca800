-- Where nothing is undelivered the server of shared memory has answered everybody.
use Rattle.std.proofs.Common.{ℕ, zero, suc, ◌≡◌, ◌∙◌, List, [], Bool, true, false, refl, sym, ap, subst, arith, Option, Some, None}
use Rattle.std.proofs.Common.{if◌then◌else◌}
use Rattle.std.specs.Prelude.{◌<◌}
use Rattle.vm_model.specs.declared.event.Event.{Event}
use Rattle.vm_model.specs.declared.script.Header.{Header}
use Rattle.vm_model.specs.Channels.{down_port, down_words, up_port, up_words}
use Rattle.vm_model.specs.Coherence.{NothingIsAsked, Quiet}
use Rattle.vm_model.specs.Controls.{live_control}
use Rattle.vm_model.specs.Founded.{IsFounded}
use Rattle.vm_model.specs.Local.{Local}
use Rattle.vm_model.specs.Moments.{BeforeSteps, EachEvent}
use Rattle.vm_model.specs.PageLicences.{ActsLicensed}
use Rattle.vm_model.specs.PagePart.{page_part}
use Rattle.vm_model.specs.Waiting.{Access, address_of, next_page}
use Rattle.vm_model.specs.Side.{Side, right_of, side}
use Rattle.vm_legal.proofs.Unshared.{paged_tame, shared_tame, wild_named}
use Rattle.vm_legal.specs.Accesses.{Waits, page_of}
use Rattle.vm_legal.specs.Bytes.{OwnBytes}
use Rattle.vm_legal.specs.Debts.{IsPaid}
use Rattle.vm_legal.specs.Licences.{HasCause}
use Rattle.vm_legal.specs.Outside.{NoneIsTemporary, Outside, is_file, is_shared, is_wild}
use Rattle.vm_legal.specs.Licences.{is_paged}
use Rattle.vm_model.specs.Named.{named}
use Rattle.std.specs.Prelude.{nat_lt, not, ◌||◌}
use Rattle.vm_legal.specs.Prompt.{AllServed, Prompt}
use Rattle.vm_legal.specs.Undelivered.{undelivered}
use Rattle.vm_legal.specs.Walks.{page_on}
use Rattle.vm_coherence.proofs.Channels.{page_queue}
use Rattle.vm_coherence.proofs.Descent.{page_descent}
use Rattle.vm_coherence.proofs.Law.{world}
use Rattle.vm_coherence.proofs.Locals.{side_is_local}
use Rattle.vm_coherence.proofs.Still.{answered}
use Rattle.vm_coherence.specs.Locals.{SideIsLocal, right_now}
use Rattle.vm_flat.proofs.Locals.{each_founded}
use Rattle.vm_quiet.proofs.Letters.{none_queued}
use Rattle.vm_quiet.proofs.Quiet.{none_in_vain, only_wild, ready_now}
use Rattle.vm_quiet.specs.Quiet.{NobodyWaitsInVain, OnlyWildAreAwaited, SharedAreAnswered, WaitsForWild, WaitsOnWild}
use Rattle.vm_shared.proofs.Kept.{unmerged}
use Rattle.vm_shared.proofs.Causes.{licensed}
use Rattle.vm_shared.proofs.Declared.{place_own}
use Rattle.vm_shared.proofs.Numbering.{Numbering, at_made, numbering}
use Rattle.vm_shared.proofs.Order.{down_in_order, up_in_order}
use Rattle.vm_shared.proofs.Stepped.{stepped_of}
use Rattle.vm_shared.proofs.Steps.{done_now, steps_done}

-- what is known of a history of shared memory in which nothing is undelivered
pub record IsStill (header : Header) (outside : Outside) (history : List Event) : Type 0 where
  pub causes : EachEvent (HasCause header outside) history
  pub steps : BeforeSteps (IsPaid header) history
  pub paid : IsPaid header history
  pub delivered : undelivered history ≡ []

pub live_some : (s : Side) (live : Option ℕ) → (if s.live then Some s.control else None) ≡ live → s.live ≡ true → live ≡ Some s.control
live_some s live is lives = sym is ∙ pick s.live lives
  where
    pick : (b : Bool) → b ≡ true → (if b then Some s.control else None) ≡ Some s.control
    pick true e = refl
    pick false e = absurd (let bad : false ≡ true = e in cc)

pub quiet_part : (header : Header) (outside : Outside) (history : List Event) (o p : ℕ) → IsStill header outside history → is_shared header o ≡ true
    → ActsLicensed header.size (page_part header.size o p history) → Quiet (page_part header.size o p history)
quiet_part header outside history o p still shared licensed =
    record {
      no_up =
          λ h. page_queue header.size history h o p (up_in_order header outside history still.causes)
          ∙ ap (up_words p) (none_queued (up_port h o) history still.delivered);
      no_down = λ h. by h (side h (page_part header.size o p history)).live refl;
      all_ready = λ h live.
          (stepped_of header outside history still.causes h o p shared).ready live
          ∙ ready_now header outside history h o (side h (page_part header.size o p history)).control still.causes still.steps still.paid still.delivered
          (shared_tame header o shared)
          (live_some (side h (page_part header.size o p history)) (live_control h o history)
          (side_is_local header history h o p (unmerged header outside history still.causes o shared) known).control live);
      done = done_now header outside o p history shared still.causes still.paid;
    }
  where
    known : EachEvent (IsFounded header) history
    known = each_founded header outside history still.causes

    by : (h : ℕ) (b : Bool) → (side h (page_part header.size o p history)).live ≡ b → (side h (page_part header.size o p history)).down ≡ []
    by h true live =
        page_descent header.size history h o p (down_in_order header outside history still.causes) live
        ∙ ap (down_words p) (none_queued (down_port h o (side h (page_part header.size o p history)).control) history still.delivered)
    by h false live = ((world header.size (page_part header.size o p history) licensed).each h).gone_down live

-- what the part says is what the hosts have
pub has_right : (page : Local) (right : ℕ) → right ≡ right_now page → page.here ≡ true → 0 < right
has_right page right is here = subst (λ n. 0 < n) (sym is) (pick page.here here)
  where
    above : (lock : ℕ) → 0 < right_of lock
    above zero = omega arith
    above (suc lock) = omega arith

    pick : (b : Bool) → b ≡ true → 0 < (if b then right_of page.lock else 0)
    pick true e = above page.lock
    pick false e = absurd (let bad : false ≡ true = e in cc)

all_answered : (header : Header) (outside : Outside) (history : List Event) → IsStill header outside history
    → ((o p : ℕ) → is_shared header o ≡ true → ActsLicensed header.size (page_part header.size o p history)) → AllServed header history
    → SharedAreAnswered header history
all_answered header outside history still licensed served =
    record {
      asked = λ h o p shared. sym (tied h o p shared).asked ∙ (none o p shared).none_asked h;
      unlocking =
          λ h o p shared here. sym ((tied h o p shared).unlocking here)
          ∙ (none o p shared).none_unlocking h (has_right (page_on header h o p history) _ (tied h o p shared).right here);
    }
  where
    tied : (h o p : ℕ) → is_shared header o ≡ true → SideIsLocal (live_control h o history) (side h (page_part header.size o p history))
        (page_on header h o p history)
    tied h o p shared =
        side_is_local header history h o p (unmerged header outside history still.causes o shared) (each_founded header outside history still.causes)

    none : (o p : ℕ) → is_shared header o ≡ true → NothingIsAsked (page_part header.size o p history)
    none o p shared =
        answered header.size (page_part header.size o p history) (licensed o p shared) (steps_done header outside o p history shared still.causes still.steps)
        (served o p shared)
        (quiet_part header outside history o p still shared (licensed o p shared))

pub shared_are_answered : (header : Header) (outside : Outside) (history : List Event) → EachEvent (HasCause header outside) history
    → EachEvent (OwnBytes header) history → BeforeSteps (IsPaid header) history → IsPaid header history → AllServed header history → undelivered history ≡ []
    → SharedAreAnswered header history
shared_are_answered header outside history causes own steps paid served delivered =
    all_answered header outside history (record { causes = causes; steps = steps; paid = paid; delivered = delivered })
    (λ o p shared. licensed header outside history causes own o p shared) served

-- whoever waits for a wild object's place waits on its region

wild_no_file : (header : Header) (o : ℕ) → is_wild header o ≡ true → is_file header o ≡ false
wild_no_file header o wild = by (is_file header o) refl
  where
    either : (b : Bool) → (not b || true) ≡ true
    either true = refl
    either false = refl

    by : (b : Bool) → is_file header o ≡ b → b ≡ false
    by false is = refl
    by true is =
        let paged : is_paged header o ≡ true = ap (λ x. not (nat_lt o (named header)) || x) is ∙ either (nat_lt o (named header)) in
        let bad : true ≡ false = sym wild ∙ paged_tame header o paged in absurd (cc)

on_wild : (header : Header) (outside : Outside) (history : List Event) (host task : ℕ) (access : Access) → EachEvent (HasCause header outside) history
    → WaitsForWild header host task access history → WaitsOnWild header host task access history
on_wild header outside history host task access causes is =
    let waits : Waits header task access history = is.what.waits in
    let n : Numbering header history = numbering header outside history causes in
    let made = at_made header task (address_of header.size (next_page task history) access) history n.made waits.at in
    let own = place_own header history waits.at.entry.region.0 (page_of header task access history waits.at.entry) is.what.object is.what.page n
    (wild_named header is.what.object is.wild) (wild_no_file header is.what.object is.wild) made is.what.place in
    record { waits = waits; on_host = is.what.on_host; wild = ap (is_wild header) own.own.region ∙ is.wild }

pub nobody_waits : (header : Header) (outside : Outside) (history : List Event) → NoneIsTemporary header → EachEvent (HasCause header outside) history
    → EachEvent (OwnBytes header) history → BeforeSteps (IsPaid header) history → IsPaid header history → AllServed header history → Prompt header history
    → undelivered history ≡ [] → NobodyWaitsInVain header history
nobody_waits header outside history kinds causes own steps paid served prompt delivered =
    none_in_vain header history only (λ host task access is. on_wild header outside history host task access causes is)
  where
    only : OnlyWildAreAwaited header history
    only =
        only_wild header outside history kinds causes steps paid (shared_are_answered header outside history causes own steps paid served delivered) prompt
        delivered
