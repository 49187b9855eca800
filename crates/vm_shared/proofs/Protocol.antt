-- What the server of shared memory is promised of a message that it takes.
use Rattle.std.proofs.Common.{inl, inr, ℕ, ◌≡◌, ◌∙◌, List, [], ◌∷◌, ◌++◌, Bool, true, false, refl, sym, ap, subst, arith, Option, Some, None, if◌then◌else◌}
use Rattle.std.proofs.lemmas.Bool.Decides.{nat_tests}
use Rattle.std.specs.Prelude.{◌==◌, ◌&&◌, ◌⊎◌, ◌<◌}
use native.Mathlib.Decide.{ℕ_discrete}
use Rattle.vm_base.specs.declared.ids.PageNo.{PageNo}
use Rattle.vm_model.specs.declared.command.Command.{Command}
use Rattle.vm_model.specs.declared.event.Event.{Event}
use Rattle.vm_model.specs.declared.event.Event.TheVariants as event
use Rattle.vm_model.specs.declared.message.Channel.TheVariants.{Up}
use Rattle.vm_model.specs.declared.message.Message.{Message}
use Rattle.vm_model.specs.declared.message.Message.TheVariants as message
use Rattle.vm_model.specs.declared.script.Header.{Header}
use Rattle.vm_model.specs.Channels.{queue, up_port, up_queue, up_words}
use Rattle.vm_model.specs.Moments.{BeforeSteps, EachEvent}
use Rattle.vm_model.specs.PageLicences.{ActsLicensed, Cause, has_reason}
use Rattle.vm_model.specs.PagePart.{page_part}
use Rattle.vm_model.specs.Server.{NoRequest, NoUpgrade, first, line}
use Rattle.vm_model.specs.Side.{Side, rest, side, side_after}
use Rattle.vm_model.specs.Waiters.{Waiter, readers, waiters}
use Rattle.vm_model.specs.Words.{Act, ActEffect, Asking, Unlocking, Returning, Doing, Ending, OtherUp, UpWord, SendsUp, TakenUp, in_range, to_others, up_word}
use Rattle.vm_legal.specs.Bytes.{OwnBytes}
use Rattle.vm_legal.specs.Debts.{IsPaid}
use Rattle.vm_legal.specs.Licences.{HasCause, LockRequest, MaySendUp, lock_taken}
use Rattle.vm_legal.specs.Outside.{Outside, is_shared}
use Rattle.vm_coherence.proofs.Channels.{others_up, page_queue}
use Rattle.vm_coherence.proofs.Protocol.{completed_awaited, ended_awaited, ended_unasked, one_request, one_unlock}
use Rattle.vm_quiet.proofs.Letters.{never}
use Rattle.vm_shared.proofs.Causes.{licensed as part_licensed}
use Rattle.vm_shared.proofs.Order.{up_in_order}
use Rattle.vm_shared.proofs.Servers.{IsServersLock, IsServersRequest, lock_is}
use Rattle.vm_shared.proofs.Steps.{steps_done}

-- the word of the oldest message is the oldest of the page's words

first_word : (p : ℕ) (q : List Message) (m : Message) → first q ≡ Some m → (up_word p m ≡ OtherUp → ⊥) → first (up_words p q) ≡ Some (up_word p m)
first_word p q m head word = grind arith

taken_word : (header : Header) (outside : Outside) (h o p : ℕ) (m : Message) (past : List Event) → EachEvent (HasCause header outside) past
    → first (queue (up_port h o) past) ≡ Some m → (up_word p m ≡ OtherUp → ⊥)
    → first (side h (page_part header.size o p past)).up ≡ Some (up_word p m)
taken_word header outside h o p m past causes head word =
    ap (λ (q : List UpWord). first q) (page_queue header.size past h o p (up_in_order header outside past causes))
    ∙ first_word p (up_queue h o past) m head word

itself : (n : ℕ) → (n == n) ≡ true
itself n = grind (arith, nat_tests)

-- the numbers in a page's words

abbrev pub IsNumbered : UpWord → Type 0
IsNumbered (Asking control access) = (access ≡ 1) ⊎ (access ≡ 3)
IsNumbered (Unlocking access) = access ≡ 3
IsNumbered other = Unit {0}

abbrev pub AreNumbered : List UpWord → Type 0
AreNumbered [] = Unit {0}
AreNumbered (w ∷ q) = IsNumbered w × AreNumbered q

numbered_end : (q : List UpWord) (w : UpWord) → IsNumbered w → AreNumbered q → AreNumbered (q ++ w ∷ [])
numbered_end [] w one all = (one, tt)
numbered_end (v ∷ q) w one all = (all.0, numbered_end q w one all.1)

numbered_rest : (q : List UpWord) → AreNumbered q → AreNumbered (rest q)
numbered_rest [] all = tt
numbered_rest (v ∷ q) all = all.1

numbered_first : (q : List UpWord) (w : UpWord) → first q ≡ Some w → AreNumbered q → IsNumbered w
numbered_first [] w head all = absurd (cc)
numbered_first (v ∷ q) w head all = let same : v ≡ w = cc in subst (λ (x : UpWord). IsNumbered x) same all.0

reason_is : (access : ℕ) (ws : List Waiter) (rs : List ℕ) → has_reason access ws rs ≡ true → (access ≡ 1) ⊎ (access ≡ 3)
reason_is access ws rs is = elim (ℕ_discrete access 1) [
  | yes one ↦ inl one
  | no other ↦ inr (grind (arith, nat_tests))
]

-- what changes the words on the way
abbrev pub IsMute : ActEffect → Type 0
IsMute (SendsUp control word) = ⊥
IsMute (TakenUp word) = ⊥
IsMute e = Unit {0}

mute : (e : ActEffect) (s : Side) → IsMute e → (side_after s e).up ≡ s.up
mute e s is = grind (arith, nat_tests)

numbered_own : (size h : ℕ) (e : ActEffect) (past : List Act) → Cause size h e past → AreNumbered (side h past).up → AreNumbered (side_after (side h past) e).up
numbered_own size h (SendsUp control (Asking asker access)) past c all =
    numbered_end (side h past).up (Asking asker access) (reason_is access (waiters h past) (readers h past) c.2.4) all
numbered_own size h (SendsUp control (Unlocking access)) past c all = numbered_end (side h past).up (Unlocking access) c.2.3 all
numbered_own size h (SendsUp control (Returning dirty keep bytes)) past c all = numbered_end (side h past).up (Returning dirty keep bytes) tt all
numbered_own size h (SendsUp control (Doing told count)) past c all = numbered_end (side h past).up (Doing told count) tt all
numbered_own size h (SendsUp control (Ending told)) past c all = numbered_end (side h past).up (Ending told) tt all
numbered_own size h (SendsUp control OtherUp) past c all = all
numbered_own size h (TakenUp (Asking asker access)) past c all = numbered_rest (side h past).up all
numbered_own size h (TakenUp (Unlocking access)) past c all = numbered_rest (side h past).up all
numbered_own size h (TakenUp (Returning dirty keep bytes)) past c all = numbered_rest (side h past).up all
numbered_own size h (TakenUp (Doing control count)) past c all = numbered_rest (side h past).up all
numbered_own size h (TakenUp (Ending control)) past c all = numbered_rest (side h past).up all
numbered_own size h (TakenUp OtherUp) past c all = all
numbered_own size h e past c all = subst (λ (q : List UpWord). AreNumbered q) (sym (mute e (side h past) tt)) all

numbered_next : (size : ℕ) (a : Act) (past : List Act) → Cause size a.host a.effect past → (h : ℕ) → AreNumbered (side h past).up
    → AreNumbered (side h (a ∷ past)).up
numbered_next size a past licensed h all = by (a.host == h) refl
  where
    same : (a b : ℕ) → (a == b) ≡ true → a ≡ b
    same a b is = grind (arith, nat_tests)

    by : (b : Bool) → (a.host == h) ≡ b → AreNumbered (side_after (side h past) (if b then a.effect else to_others a.effect)).up
    by true own = numbered_own size h a.effect past (subst (λ g. Cause size g a.effect past) (same a.host h own) licensed) all
    by false other = subst (λ (q : List UpWord). AreNumbered q) (sym (others_up a.effect (side h past))) all

pub numbered : (size : ℕ) (past : List Act) → ActsLicensed size past → (h : ℕ) → AreNumbered (side h past).up
numbered size [] licensed h = tt
numbered size (a ∷ past) licensed h = numbered_next size a past licensed.0 h (numbered size past licensed.1 h)

-- a completion is of one page

abbrev pub IsOfOne : Message → Type 0
IsOfOne (message.Completed control page count) = count ≡ 1
IsOfOne other = Unit {0}

abbrev pub AreOfOne : List Message → Type 0
AreOfOne [] = Unit {0}
AreOfOne (m ∷ q) = IsOfOne m × AreOfOne q

one_if : (b : Bool) (q : List Message) (m : Message) → (b ≡ true → IsOfOne m) → AreOfOne q → AreOfOne (if b then q ++ m ∷ [] else q)
one_if false q m one all = all
one_if true q m one all = end q all
  where
    end : (q : List Message) → AreOfOne q → AreOfOne (q ++ m ∷ [])
    end [] all = (one refl, tt)
    end (x ∷ q) all = (all.0, end q all.1)

one_rest : (b : Bool) (q : List Message) → AreOfOne q → AreOfOne (if b then rest q else q)
one_rest false q all = all
one_rest true [] all = tt
one_rest true (x ∷ q) all = all.1

one_first : (q : List Message) (m : Message) → first q ≡ Some m → AreOfOne q → IsOfOne m
one_first [] m head all = absurd (cc)
one_first (x ∷ q) m head all = let same : x ≡ m = cc in subst (λ (y : Message). IsOfOne y) same all.0

count_is : (header : Header) (taken : Option LockRequest) (r : LockRequest) → IsServersRequest taken header → taken ≡ Some r → is_shared header r.object ≡ true
    → r.count ≡ 1
count_is header None r is e shared = absurd (cc)
count_is header (Some t) r is e shared = by r.flush r.reply (subst (λ (x : Option LockRequest). IsServersRequest x header) e is shared)
  where
    by : (flush reply : Bool) → IsServersLock r.count r.returns flush r.lock reply → r.count ≡ 1
    by true true is = is.0
    by false true is = is.0
    by true false is = absurd is
    by false false is = is.0

sent_one : (header : Header) (outside : Outside) (doing : Command) (h o : ℕ) (m : Message) (past : List Event) → EachEvent (HasCause header outside) past
    → is_shared header o ≡ true → MaySendUp header doing h o m past → IsOfOne m
sent_one header outside doing h o (message.Completed control page count) past causes shared c =
    count_is header (lock_taken past) (record {
      host = h;
      object = o;
      control = control;
      page = page.0;
      count = count;
      returns = c.returns;
      flush = c.flush;
      lock = c.lock;
      reply = true;
    }) (lock_is header outside past causes) c.taken shared
sent_one header outside doing h o m past causes shared c = tt

pub one_of : (header : Header) (outside : Outside) (past : List Event) → EachEvent (HasCause header outside) past → (h o : ℕ) → is_shared header o ≡ true
    → AreOfOne (queue (up_port h o) past)
one_of header outside [] causes h o shared = tt
one_of header outside (event.Sent (Up host object) m ∷ past) causes h o shared =
    one_if (host.0 == h && object.0 == o) (queue (up_port h o) past) m
    (λ is. sent_one header outside causes.0.0 host.0 object.0 m past causes.1 (subst (λ j. is_shared header j ≡ true) (same host.0 h object.0 o is) shared)
    causes.0.1)
    (one_of header outside past causes.1 h o shared)
  where
    same : (a h b o : ℕ) → (a == h && b == o) ≡ true → o ≡ b
    same a h b o is = grind (arith, nat_tests)
one_of header outside (event.Taken (Up host object) m ∷ past) causes h o shared =
    one_rest (host.0 == h && object.0 == o) (queue (up_port h o) past) (one_of header outside past causes.1 h o shared)
one_of header outside (e ∷ past) causes h o shared = one_of header outside past causes.1 h o shared

-- what is promised

pub request_alone : (header : Header) (outside : Outside) (h o control access : ℕ) (page : PageNo) (past : List Event)
    → EachEvent (HasCause header outside) past → EachEvent (OwnBytes header) past → is_shared header o ≡ true
    → first (queue (up_port h o) past) ≡ Some (message.Request control page access) → NoRequest h (line (page_part header.size o page.0 past))
    × ((access ≡ 1) ⊎ (access ≡ 3))
request_alone header outside h o control access page past causes own shared head =
    by (page.0 == page.0) (itself page.0) (taken_word header outside h o page.0 (message.Request control page access) past causes head)
  where
    licensed : ActsLicensed header.size (page_part header.size o page.0 past)
    licensed = part_licensed header outside past causes own o page.0 shared

    by : (b : Bool) → b ≡ true → (((if b then Asking control access else OtherUp) ≡ OtherUp → ⊥)
        → first (side h (page_part header.size o page.0 past)).up ≡ Some (if b then Asking control access else OtherUp))
        → NoRequest h (line (page_part header.size o page.0 past)) × ((access ≡ 1) ⊎ (access ≡ 3))
    by true is word =
        let w : first (side h (page_part header.size o page.0 past)).up ≡ Some (Asking control access) = word (λ e. cc) in (
          one_request header.size h control access (page_part header.size o page.0 past) licensed w,
          numbered_first (side h (page_part header.size o page.0 past)).up (Asking control access) w
              (numbered header.size (page_part header.size o page.0 past) licensed h),
        )
    by false is word = never is

pub unlock_alone : (header : Header) (outside : Outside) (h o control access : ℕ) (page : PageNo) (past : List Event) → EachEvent (HasCause header outside) past
    → EachEvent (OwnBytes header) past → BeforeSteps (IsPaid header) past → is_shared header o ≡ true
    → first (queue (up_port h o) past) ≡ Some (message.Unlock control page access) → NoUpgrade h (line (page_part header.size o page.0 past)) × (access ≡ 3)
unlock_alone header outside h o control access page past causes own steps shared head =
    by (page.0 == page.0) (itself page.0) (taken_word header outside h o page.0 (message.Unlock control page access) past causes head)
  where
    licensed : ActsLicensed header.size (page_part header.size o page.0 past)
    licensed = part_licensed header outside past causes own o page.0 shared

    by : (b : Bool) → b ≡ true → (((if b then Unlocking access else OtherUp) ≡ OtherUp → ⊥)
        → first (side h (page_part header.size o page.0 past)).up ≡ Some (if b then Unlocking access else OtherUp))
        → NoUpgrade h (line (page_part header.size o page.0 past)) × (access ≡ 3)
    by true is word =
        let w : first (side h (page_part header.size o page.0 past)).up ≡ Some (Unlocking access) = word (λ e. cc) in (
          one_unlock header.size h access (page_part header.size o page.0 past) licensed (steps_done header outside o page.0 past shared causes steps) w,
          numbered_first (side h (page_part header.size o page.0 past)).up (Unlocking access) w
              (numbered header.size (page_part header.size o page.0 past) licensed h),
        )
    by false is word = never is

pub completed_mine : (header : Header) (outside : Outside) (h o control count : ℕ) (page : PageNo) (past : List Event)
    → EachEvent (HasCause header outside) past → EachEvent (OwnBytes header) past → BeforeSteps (IsPaid header) past → is_shared header o ≡ true
    → first (queue (up_port h o) past) ≡ Some (message.Completed control page count) → (count ≡ 1)
    × ((side h (page_part header.size o page.0 past)).awaited_control ≡ control)
completed_mine header outside h o control count page past causes own steps shared head = (
  one,
  by (in_range page.0 page.0 count) (inside page.0 count one) (taken_word header outside h o page.0 (message.Completed control page count) past causes
      head),
)
  where
    licensed : ActsLicensed header.size (page_part header.size o page.0 past)
    licensed = part_licensed header outside past causes own o page.0 shared

    one : count ≡ 1
    one = one_first (queue (up_port h o) past) (message.Completed control page count) head (one_of header outside past causes h o shared)

    inside : (p n : ℕ) → n ≡ 1 → in_range p p n ≡ true
    inside p n is = grind (arith, nat_tests)

    by : (b : Bool) → b ≡ true → (((if b then Doing control count else OtherUp) ≡ OtherUp → ⊥)
        → first (side h (page_part header.size o page.0 past)).up ≡ Some (if b then Doing control count else OtherUp))
        → (side h (page_part header.size o page.0 past)).awaited_control ≡ control
    by true is word =
        completed_awaited header.size h control count (page_part header.size o page.0 past) licensed
        (steps_done header outside o page.0 past shared causes steps) (word (λ e. cc))
    by false is word = never is

pub ended_mine : (header : Header) (outside : Outside) (h o control p : ℕ) (past : List Event) → EachEvent (HasCause header outside) past
    → EachEvent (OwnBytes header) past → BeforeSteps (IsPaid header) past → is_shared header o ≡ true
    → first (queue (up_port h o) past) ≡ Some (message.Terminate control) → NoRequest h (line (page_part header.size o p past))
    × (0 < (side h (page_part header.size o p past)).awaits → (side h (page_part header.size o p past)).awaited_control ≡ control)
ended_mine header outside h o control p past causes own steps shared head =
    let w : first (side h (page_part header.size o p past)).up ≡ Some (Ending control) = taken_word header outside h o p (message.Terminate control) past causes
    head (λ e. let bad : Ending control ≡ OtherUp = e in cc) in (
      ended_unasked header.size h control (page_part header.size o p past) licensed w,
      ended_awaited header.size h control (page_part header.size o p past) licensed (steps_done header outside o p past shared causes steps) w,
    )
  where
    licensed : ActsLicensed header.size (page_part header.size o p past)
    licensed = part_licensed header outside past causes own o p shared
