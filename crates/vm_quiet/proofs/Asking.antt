-- How many pages of an object are asked on a host: its requests are counted, and their answers.
use Rattle.std.proofs.Common.{ℕ, ◌≡◌, ◌∙◌, List, ◌∷◌, [], Bool, true, false, refl, sym, ap, subst, arith, if◌then◌else◌, Some}
use Rattle.std.proofs.lemmas.Bool.Decides.{nat_tests}
use Rattle.std.specs.Prelude.{◌==◌, ◌&&◌, ◌+◌, ◌-◌, ◌||◌, not, nat_lt}
use Rattle.vm_base.specs.declared.ids.HostId.{HostId}
use Rattle.vm_base.specs.declared.ids.ObjectId.{ObjectId}
use Rattle.vm_legal.specs.Frames.{asked_pages}
use Rattle.vm_legal.specs.Licences.{HasCause, MaySendUp}
use Rattle.vm_legal.specs.Outside.{Outside}
use Rattle.vm_legal.specs.Walks.{page_on}
use Rattle.vm_model.specs.Controls.{is_control, live_control}
use Rattle.vm_model.specs.Local.{Asks, Begins, Drops, Elsewhere, Ends, Local, LocalEffect, Moves, Raises, Returns, Stores, TakesError, TakesLock, TakesNothing}
use Rattle.vm_model.specs.Local.{TakesPage, Unlocks, Zeroes, is_on, local_after}
use Rattle.vm_base.specs.Pages.{little_endian_bytes}
use Rattle.vm_model.specs.Homes.{object_home}
use Rattle.vm_model.specs.Regions.{backing_of, object_pages}
use Rattle.vm_model.specs.Moments.{EachEvent}
use Rattle.vm_model.specs.Tasks.{host_of}
use Rattle.vm_model.specs.Words.{in_range}
use Rattle.vm_model.specs.declared.command.Command.{Command}
use Rattle.vm_model.specs.declared.event.Event.{Event}
use Rattle.vm_model.specs.declared.event.Event.TheVariants as event
use Rattle.vm_model.specs.declared.message.Channel.TheVariants.{Up, Down}
use Rattle.vm_model.specs.declared.message.Message.{Message}
use Rattle.vm_model.specs.declared.message.Message.TheVariants as message
use Rattle.vm_model.specs.declared.script.Header.{Header}
use Rattle.vm_quiet.proofs.Letters.{never}
use Rattle.vm_quiet.proofs.Places.{Held, held_less, held_more, held_none, held_same}
use Rattle.vm_quiet.proofs.Sane.{at_place, control_of, own_number}

-- the page of the object is asked
abbrev pub asked_of : Header → ℕ → ℕ → List Event → ℕ → ℕ → Bool
asked_of header host k past o p = k == o && (page_on header host o p past).asked

abbrev pub Asking : Header → ℕ → ℕ → List Event → Type 0
Asking header host k past = Held (asked_of header host k past) (asked_pages header host k past)

-- what an effect leaves of that

pub kept_if : (size : ℕ) (t : Bool) (e : LocalEffect) (page : Local) → (local_after size e page).asked ≡ page.asked
    → (local_after size (if t then e else Elsewhere) page).asked ≡ page.asked
kept_if size true e page is = is
kept_if size false e page is = refl

pub kept_two : (size : ℕ) (s t : Bool) (e : LocalEffect) (page : Local) → (local_after size e page).asked ≡ page.asked
    → (local_after size (if s then (if t then e else Elsewhere) else Elsewhere) page).asked ≡ page.asked
kept_two size true true e page is = is
kept_two size true false e page is = refl
kept_two size false t e page is = refl

pub kept_lock : (size lock : ℕ) (flush : Bool) (page : Local) → (local_after size (TakesLock lock flush) page).asked ≡ page.asked
kept_lock size lock flush page = by page.here
  where
    by : (b : Bool) → (if b then record page { lock = if flush || lock == 8 then page.lock else lock; unlocking = false } else page).asked ≡ page.asked
    by true = refl
    by false = refl

kept_merge : (size : ℕ) (s t up low : Bool) (there page : Local)
    → (local_after size (if s then (if t then (if up then Moves there else Elsewhere) else if low then Drops else Elsewhere) else Elsewhere) page).asked
    ≡ page.asked
kept_merge size true true true low there page = refl
kept_merge size true true false low there page = refl
kept_merge size true false up true there page = refl
kept_merge size true false up false there page = refl
kept_merge size false t up low there page = refl

gone_if : (size : ℕ) (t : Bool) (page : Local) → (local_after size (if t then Begins else Elsewhere) page).asked ≡ (if t then false else page.asked)
gone_if size true page = refl
gone_if size false page = refl

gone_two : (size : ℕ) (s t : Bool) (page : Local) → (s ≡ true → t ≡ true)
    → (local_after size (if s then (if t then Ends else Elsewhere) else Elsewhere) page).asked ≡ (if s then false else page.asked)
gone_two size true true page is = refl
gone_two size true false page is = never (is refl)
gone_two size false t page is = refl

asks_two : (size : ℕ) (own object at live : Bool) (page : Local) → ((own && object) ≡ true → live ≡ true)
    → (local_after size (if own && object then (if at && live then Asks else Elsewhere) else Elsewhere) page).asked
    ≡ (if own && (object && at) then true else page.asked)
asks_two size true true true true page is = refl
asks_two size true true true false page is = never (is refl)
asks_two size true true false live page is = refl
asks_two size true false at live page is = refl
asks_two size false object at live page is = refl

-- an answer leaves nothing asked
record Answers (size : ℕ) (e : LocalEffect) : Type 0 where
  none : (page : Local) → (local_after size e page).asked ≡ false

supplies : (size lock : ℕ) (precious : Bool) (bytes : List ℕ) → Answers size (TakesPage lock precious bytes)
supplies size lock precious bytes = record { none = λ page. by page page.asked refl }
  where
    by : (page : Local) (b : Bool) → page.asked ≡ b → (if b then record page {
      here = true;
      bytes = bytes;
      lock = lock;
      dirty = false;
      precious = precious;
      unlocking = false;
      asked = false;
    } else page).asked ≡ false
    by page true is = refl
    by page false is = is

lacks : (size : ℕ) → Answers size TakesNothing
lacks size = record { none = λ page. by page page.asked refl }
  where
    by : (page : Local) (b : Bool) → page.asked ≡ b → (if b then record page { asked = false; absent = true } else page).asked ≡ false
    by page true is = refl
    by page false is = is

fails : (size : ℕ) → Answers size TakesError
fails size = record { none = λ page. refl }

answered_two : (size : ℕ) (s t : Bool) (e : LocalEffect) (page : Local) → Answers size e
    → (local_after size (if s then (if t then e else Elsewhere) else Elsewhere) page).asked ≡ (if s && t then false else page.asked)
answered_two size true true e page is = is.none page
answered_two size true false e page is = refl
answered_two size false t e page is = refl

and_false : (b : Bool) → (b && false) ≡ false
and_false true = refl
and_false false = refl

both : (b c : Bool) → b ≡ true → c ≡ true → (b && c) ≡ true
both true c is at = at
both false c is at = is

own_test : (k : ℕ) → (k == k) ≡ true
own_test k = grind (arith, nat_tests)

same_count : (b : Bool) (n : ℕ) → (if b then n else n) ≡ n
same_count true n = refl
same_count false n = refl

unanswered : (b : Bool) (n : ℕ) → (if b && false then n - 1 else n) ≡ n
unanswered true n = refl
unanswered false n = refl

module _ (header : Header) (host k : ℕ) (e : Event) (past : List Event) where
  -- nothing is asked, or answered
  asking_same : ((o p : ℕ) → (page_on header host o p (e ∷ past)).asked ≡ (page_on header host o p past).asked)
      → asked_pages header host k (e ∷ past) ≡ asked_pages header host k past → Asking header host k past → Asking header host k (e ∷ past)
  asking_same same count h =
      subst (λ (n : ℕ). Held (asked_of header host k (e ∷ past)) n) (sym count)
      (held_same (asked_of header host k past) (asked_of header host k (e ∷ past)) (asked_pages header host k past) (λ o p. ap (λ z. k == o && z) (same o p)) h)

  -- the object's control begins, or ends
  asking_none : (test : ℕ → Bool) → ((o p : ℕ) → (page_on header host o p (e ∷ past)).asked ≡ (if test o then false else (page_on header host o p past).asked))
      → asked_pages header host k (e ∷ past) ≡ (if test k then 0 else asked_pages header host k past) → Asking header host k past
      → Asking header host k (e ∷ past)
  asking_none test new count h = by (test k) refl
    where
      none : (b : Bool) (o p : ℕ) → (k == o) ≡ b → test k ≡ true → (b && (page_on header host o p (e ∷ past)).asked) ≡ false
      none true o p is own =
          new o p ∙ ap (λ z. if z then false else (page_on header host o p past).asked) (sym (ap test (own_number k o is)) ∙ own)
      none false o p is own = refl

      kept : (b : Bool) (o p : ℕ) → (k == o) ≡ b → test k ≡ false
          → (b && (page_on header host o p (e ∷ past)).asked) ≡ (b && (page_on header host o p past).asked)
      kept true o p is other =
          new o p ∙ ap (λ z. if z then false else (page_on header host o p past).asked) (sym (ap test (own_number k o is)) ∙ other)
      kept false o p is other = refl

      by : (b : Bool) → test k ≡ b → Asking header host k (e ∷ past)
      by true own =
          subst (λ (n : ℕ). Held (asked_of header host k (e ∷ past)) n) (sym (count ∙ ap (λ z. if z then 0 else asked_pages header host k past) own))
          (held_none (asked_of header host k (e ∷ past)) (λ o p. none (k == o) o p refl own))
      by false other =
          subst (λ (n : ℕ). Held (asked_of header host k (e ∷ past)) n) (sym (count ∙ ap (λ z. if z then 0 else asked_pages header host k past) other))
          (held_same (asked_of header host k past) (asked_of header host k (e ∷ past)) (asked_pages header host k past) (λ o p. kept (k == o) o p refl other) h)

  -- a page is asked
  asking_more : (own : Bool) (object page : ℕ)
      → ((o p : ℕ) → (page_on header host o p (e ∷ past)).asked ≡ (if own && (object == o && page == p) then true else (page_on header host o p past).asked))
      → asked_pages header host k (e ∷ past) ≡ (if own && object == k then asked_pages header host k past + 1 else asked_pages header host k past)
      → (own ≡ true → (page_on header host object page past).asked ≡ false) → Asking header host k past → Asking header host k (e ∷ past)
  asking_more own object page new count free h = by own (object == k) refl refl
    where
      U : ℕ → ℕ → Bool
      U = asked_of header host k past

      V : ℕ → ℕ → Bool
      V = asked_of header host k (e ∷ past)

      n : ℕ
      n = asked_pages header host k past

      here : (a b c u : Bool) → a ≡ b → (a && (if b && c then true else u)) ≡ (if b && c then true else (a && u))
      here true true true u same = refl
      here true true false u same = refl
      here false false c u same = refl
      here true false c u same = never (sym same)
      here false true c u same = never same

      other : (a b c u : Bool) → (a ≡ true → b ≡ false) → (a && (if b && c then true else u)) ≡ (a && u)
      other true true c u apart = never (sym (apart refl))
      other true false c u apart = refl
      other false b c u apart = refl

      counted : (s t : Bool) → own ≡ s → (object == k) ≡ t → asked_pages header host k (e ∷ past) ≡ (if s && t then n + 1 else n)
      counted s t is at = count ∙ (ap (λ z. if z && object == k then n + 1 else n) is ∙ ap (λ z. if s && z then n + 1 else n) at)

      told : (s : Bool) → own ≡ s → (o p : ℕ) → V o p ≡ (k == o && (if s && (object == o && page == p) then true else (page_on header host o p past).asked))
      told s is o p =
          ap (λ z. k == o && z) (new o p ∙ ap (λ z. if z && (object == o && page == p) then true else (page_on header host o p past).asked) is)

      by : (s t : Bool) → own ≡ s → (object == k) ≡ t → Asking header host k (e ∷ past)
      by true true is at =
          let same : object ≡ k = own_number object k at in
          subst (λ (m : ℕ). Held V m) (sym (counted true true is at))
          (held_more U V n object page (ap (λ z. k == object && z) (free is) ∙ and_false (k == object))
          (λ o p. told true is o p ∙ here (k == o) (object == o) (page == p) (page_on header host o p past).asked (ap (λ z. z == o) (sym same))) h)
      by true false is at =
          subst (λ (m : ℕ). Held V m) (sym (counted true false is at))
          (held_same U V n (λ o p. told true is o p ∙ other (k == o) (object == o) (page == p) (page_on header host o p past).asked
          (λ there. ap (λ z. object == z) (sym (own_number k o there)) ∙ at)) h)
      by false t is at = subst (λ (m : ℕ). Held V m) (sym (counted false t is at)) (held_same U V n (told false is) h)

  -- a request is answered
  asking_less : (own : ℕ → Bool) (page : ℕ)
      → ((o p : ℕ) → (page_on header host o p (e ∷ past)).asked ≡ (if own o && page == p then false else (page_on header host o p past).asked))
      → asked_pages header host k (e ∷ past) ≡ (if own k && (page_on header host k page past).asked then asked_pages header host k past - 1
      else asked_pages header host k past)
      → Asking header host k past → Asking header host k (e ∷ past)
  asking_less own page new count h = by (own k) (page_on header host k page past).asked refl refl
    where
      U : ℕ → ℕ → Bool
      U = asked_of header host k past

      V : ℕ → ℕ → Bool
      V = asked_of header host k (e ∷ past)

      n : ℕ
      n = asked_pages header host k past

      here : (a b c u : Bool) → (a ≡ true → b ≡ true) → (a && (if b && c then false else u)) ≡ (if a && c then false else (a && u))
      here true true true u own = refl
      here true true false u own = refl
      here true false c u own = never (own refl)
      here false b c u own = refl

      none : (a b c u : Bool) → (a ≡ true → b ≡ true) → ((a && c) ≡ true → u ≡ false) → (a && (if b && c then false else u)) ≡ (a && u)
      none true true true u own free = sym (free refl)
      none true true false u own free = refl
      none true false c u own free = never (own refl)
      none false b c u own free = refl

      other : (a b c u : Bool) → (a ≡ true → b ≡ false) → (a && (if b && c then false else u)) ≡ (a && u)
      other true true c u apart = never (sym (apart refl))
      other true false c u apart = refl
      other false b c u apart = refl

      counted : (s t : Bool) → own k ≡ s → (page_on header host k page past).asked ≡ t → asked_pages header host k (e ∷ past) ≡ (if s && t then n - 1 else n)
      counted s t is at =
          count ∙ (ap (λ z. if z && (page_on header host k page past).asked then n - 1 else n) is ∙ ap (λ z. if s && z then n - 1 else n) at)

      told : (o p : ℕ) → V o p ≡ (k == o && (if own o && page == p then false else (page_on header host o p past).asked))
      told o p = ap (λ z. k == o && z) (new o p)

      by : (s t : Bool) → own k ≡ s → (page_on header host k page past).asked ≡ t → Asking header host k (e ∷ past)
      by true true is at =
          subst (λ (m : ℕ). Held V m) (sym (counted true true is at))
          (held_less U V n k page (both (k == k) (page_on header host k page past).asked (own_test k) at)
          (λ o p. told o p ∙ here (k == o) (own o) (page == p) (page_on header host o p past).asked
          (λ there. ap own (sym (own_number k o there)) ∙ is)) h)
      by true false is at =
          subst (λ (m : ℕ). Held V m) (sym (counted true false is at))
          (held_same U V n (λ o p. told o p ∙ none (k == o) (own o) (page == p) (page_on header host o p past).asked
          (λ there. ap own (sym (own_number k o there)) ∙ is) (λ there. at_place (λ a b. (page_on header host a b past).asked ≡ false) k page o p there at)) h)
      by false t is at =
          subst (λ (m : ℕ). Held V m) (sym (counted false t is at))
          (held_same U V n (λ o p. told o p ∙ other (k == o) (own o) (page == p) (page_on header host o p past).asked
          (λ there. ap own (sym (own_number k o there)) ∙ is)) h)

-- what a host says

asking_up : (header : Header) (host k : ℕ) (at : HostId) (object : ObjectId) (m : Message) (past : List Event)
    → ((doing : Command) × MaySendUp header doing at.0 object.0 m past) → Asking header host k past → Asking header host k (event.Sent (Up at object) m ∷ past)
asking_up header host k at object (message.Init control size) past c h =
    asking_none header host k (event.Sent (Up at object) (message.Init control size)) past (λ o. at.0 == host && object.0 == o)
    (λ o p. gone_if header.size (at.0 == host && object.0 == o) (page_on header host o p past)) refl h
asking_up header host k at object (message.Create control size) past c h =
    asking_none header host k (event.Sent (Up at object) (message.Create control size)) past (λ o. at.0 == host && object.0 == o)
    (λ o p. gone_if header.size (at.0 == host && object.0 == o) (page_on header host o p past)) refl h
asking_up header host k at object (message.Terminate control) past c h =
    asking_none header host k (event.Sent (Up at object) (message.Terminate control)) past (λ o. at.0 == host && object.0 == o)
    (λ o p. gone_two header.size (at.0 == host && object.0 == o) (is_control control (live_control host o past)) (page_on header host o p past)
    (λ is. control_of (live_control host o past) control (at_place (λ a b. live_control a b past ≡ Some control) at.0 object.0 host o is c.1.live))) refl h
asking_up header host k at object (message.Request control page access) past c h =
    asking_more header host k (event.Sent (Up at object) (message.Request control page access)) past (at.0 == host) object.0 page.0
    (λ o p. asks_two header.size (at.0 == host) (object.0 == o) (page.0 == p) (is_control control (live_control host o past)) (page_on header host o p past)
    (λ is. control_of (live_control host o past) control (at_place (λ a b. live_control a b past ≡ Some control) at.0 object.0 host o is c.1.live))) refl
    (λ is. subst (λ (z : ℕ). (page_on header z object.0 page.0 past).asked ≡ false) (own_number at.0 host is) c.1.unasked) h
asking_up header host k at object (message.Return control page dirty true bytes) past c h =
    asking_same header host k (event.Sent (Up at object) (message.Return control page dirty true bytes)) past
    (λ o p. kept_two header.size (at.0 == host && object.0 == o) (page.0 == p) (Returns true) (page_on header host o p past) refl)
    (same_count (at.0 == host && object.0 == k) (asked_pages header host k past)) h
asking_up header host k at object (message.Return control page dirty false bytes) past c h =
    asking_same header host k (event.Sent (Up at object) (message.Return control page dirty false bytes)) past
    (λ o p. kept_two header.size (at.0 == host && object.0 == o) (page.0 == p) (Returns false) (page_on header host o p past) refl)
    (same_count (at.0 == host && object.0 == k) (asked_pages header host k past)) h
asking_up header host k at object (message.Unlock control page access) past c h =
    asking_same header host k (event.Sent (Up at object) (message.Unlock control page access)) past
    (λ o p. kept_two header.size (at.0 == host && object.0 == o) (page.0 == p) Unlocks (page_on header host o p past) refl)
    (same_count (at.0 == host && object.0 == k) (asked_pages header host k past)) h
asking_up header host k at object (message.Completed control page number) past c h =
    asking_same header host k (event.Sent (Up at object) (message.Completed control page number)) past
    (λ o p. kept_if header.size (at.0 == host && object.0 == o) Elsewhere (page_on header host o p past) refl)
    (same_count (at.0 == host && object.0 == k) (asked_pages header host k past)) h
asking_up header host k at object (message.Changed control cache strategy) past c h =
    asking_same header host k (event.Sent (Up at object) (message.Changed control cache strategy)) past
    (λ o p. kept_if header.size (at.0 == host && object.0 == o) Elsewhere (page_on header host o p past) refl)
    (same_count (at.0 == host && object.0 == k) (asked_pages header host k past)) h
asking_up header host k at object m past c h = absurd c.1

-- what it takes

asking_down : (header : Header) (host k : ℕ) (at : HostId) (object : ObjectId) (control : ℕ) (m : Message) (past : List Event)
    → Asking header host k past → Asking header host k (event.Taken (Down at object control) m ∷ past)
asking_down header host k at object control (message.Supply page lock precious bytes) past h =
    asking_less header host k (event.Taken (Down at object control) (message.Supply page lock precious bytes)) past
    (λ o. at.0 == host && (object.0 == o && is_control control (live_control host o past))) page.0
    (λ o p. answered_two header.size (at.0 == host && (object.0 == o && is_control control (live_control host o past))) (page.0 == p)
    (TakesPage lock precious bytes) (page_on header host o p past) (supplies header.size lock precious bytes)) refl h
asking_down header host k at object control (message.Unavailable page) past h =
    asking_less header host k (event.Taken (Down at object control) (message.Unavailable page)) past
    (λ o. at.0 == host && (object.0 == o && is_control control (live_control host o past))) page.0
    (λ o p. answered_two header.size (at.0 == host && (object.0 == o && is_control control (live_control host o past))) (page.0 == p) TakesNothing
    (page_on header host o p past) (lacks header.size)) refl h
asking_down header host k at object control (message.Error page reason) past h =
    asking_less header host k (event.Taken (Down at object control) (message.Error page reason)) past
    (λ o. at.0 == host && (object.0 == o && is_control control (live_control host o past))) page.0
    (λ o p. answered_two header.size (at.0 == host && (object.0 == o && is_control control (live_control host o past))) (page.0 == p) TakesError
    (page_on header host o p past) (fails header.size)) refl h
asking_down header host k at object control (message.Lock page number returns flush lock reply) past h =
    asking_same header host k (event.Taken (Down at object control) (message.Lock page number returns flush lock reply)) past
    (λ o p. kept_two header.size (at.0 == host && (object.0 == o && is_control control (live_control host o past))) (in_range p page.0 number)
    (TakesLock lock flush) (page_on header host o p past) (kept_lock header.size lock flush (page_on header host o p past)))
    (unanswered (at.0 == host && (object.0 == k && is_control control (live_control host k past))) (asked_pages header host k past)) h
asking_down header host k at object control m past h =
    asking_same header host k (event.Taken (Down at object control) m) past
    (λ o p. kept_if header.size (at.0 == host && (object.0 == o && is_control control (live_control host o past))) Elsewhere (page_on header host o p past)
    refl)
    (unanswered (at.0 == host && (object.0 == k && is_control control (live_control host k past))) (asked_pages header host k past)) h

asking_next : (header : Header) (outside : Outside) (host k : ℕ) (e : Event) (past : List Event) → HasCause header outside e past → Asking header host k past
    → Asking header host k (e ∷ past)
asking_next header outside host k (event.Zeroed at object page) past c h =
    asking_same header host k (event.Zeroed at object page) past
    (λ o p. kept_if header.size (at.0 == host && (object.0 == o && page.0 == p)) Zeroes (page_on header host o p past) refl) refl h
asking_next header outside host k (event.Raised at lower lower_page upper upper_page) past c h =
    asking_same header host k (event.Raised at lower lower_page upper upper_page) past
    (λ o p. kept_if header.size (at.0 == host && (upper.0 == o && upper_page.0 == p)) (Raises (page_on header host lower.0 lower_page.0 past).bytes)
    (page_on header host o p past) refl) refl h
asking_next header outside host k (event.CopiedPage task page object object_page target) past c h =
    asking_same header host k (event.CopiedPage task page object object_page target) past
    (λ o p. kept_if header.size (is_on host (host_of task.0 past) && (target.0 == o && page.0 == p))
    (Raises (page_on header host object.0 object_page.0 past).bytes) (page_on header host o p past) refl) refl h
asking_next header outside host k (event.Stored task object page at size value) past c h =
    asking_same header host k (event.Stored task object page at size value) past
    (λ o p. kept_if header.size (is_on host (host_of task.0 past) && (object.0 == o && page.0 == p)) (Stores at (little_endian_bytes size value))
    (page_on header host o p past) refl) refl h
asking_next header outside host k (event.Dropped at object page) past c h =
    asking_same header host k (event.Dropped at object page) past
    (λ o p. kept_if header.size (at.0 == host && (object.0 == o && page.0 == p)) Drops (page_on header host o p past) refl) refl h
asking_next header outside host k (event.Merged upper lower) past c h =
    asking_same header host k (event.Merged upper lower) past
    (λ o p.
    let shift = (backing_of header upper.0 past).shift in
    let there = page_on header host lower.0 (shift + p) past in
    let page = page_on header host o p past in
    kept_merge header.size (is_on host (object_home upper.0 past)) (o == upper.0) (nat_lt p (object_pages header upper.0 past)
    && (nat_lt (shift + p) (object_pages header lower.0 past) && (there.here && not page.here)))
    (o == lower.0 && nat_lt p (object_pages header lower.0 past)) there page) refl h
asking_next header outside host k (event.Sent (Up at object) m) past c h = asking_up header host k at object m past c h
asking_next header outside host k (event.Taken (Down at object control) m) past c h = asking_down header host k at object control m past h
asking_next header outside host k e past c h = asking_same header host k e past (λ o p. refl) refl h

pub asking_of : (header : Header) (outside : Outside) (host k : ℕ) (history : List Event) → EachEvent (HasCause header outside) history
    → Asking header host k history
asking_of header outside host k [] c = held_none (asked_of header host k []) (λ o p. and_false (k == o))
asking_of header outside host k (e ∷ past) c = asking_next header outside host k e past c.0 (asking_of header outside host k past c.1)
