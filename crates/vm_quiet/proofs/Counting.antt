-- The frames that are counted are those of the places and of the returns.
use Rattle.std.proofs.Common.{ℕ, ◌≡◌, ◌∙◌, List, [], ◌∷◌, Bool, true, false, refl, sym, ap, subst, arith, Option, Some, None, if◌then◌else◌}
use Rattle.std.proofs.lemmas.Bool.Decides.{nat_tests}
use Rattle.std.specs.Prelude.{◌==◌, ◌&&◌, ◌||◌, ◌+◌, ◌-◌, ◌<◌, not, nat_lt, is_some}
use Rattle.std.proofs.lemmas.Bool.{cond-false}
use Rattle.vm_base.specs.Pages.{little_endian_bytes}
use Rattle.vm_base.specs.declared.ids.HostId.{HostId}
use Rattle.vm_base.specs.declared.ids.ObjectId.{ObjectId}
use Rattle.vm_model.specs.declared.command.Command.{Command}
use Rattle.vm_model.specs.declared.event.Event.{Event}
use Rattle.vm_model.specs.declared.event.Event.TheVariants as event
use Rattle.vm_model.specs.declared.message.Channel.TheVariants.{Up, Down}
use Rattle.vm_model.specs.declared.message.Message.{Message}
use Rattle.vm_model.specs.declared.message.Message.TheVariants as message
use Rattle.vm_model.specs.declared.script.Header.{Header}
use Rattle.vm_model.specs.Channels.{queue}
use Rattle.vm_model.specs.Controls.{is_control, last_control, live_control}
use Rattle.vm_model.specs.Homes.{object_home}
use Rattle.vm_model.specs.Local.{Asks, Begins, Drops, Elsewhere, Ends, Local, LocalEffect, Moves, Place, Raises, Returns, Stores, TakesError, TakesLock}
use Rattle.vm_model.specs.Local.{TakesNothing, TakesPage, Unlocks, Zeroes, is_on, local, local_after, merge_effect}
use Rattle.vm_model.specs.Moments.{EachEvent}
use Rattle.vm_model.specs.Regions.{backing_of, object_pages}
use Rattle.vm_model.specs.Server.{first}
use Rattle.vm_model.specs.Tasks.{host_of}
use Rattle.vm_model.specs.Words.{in_range}
use Rattle.vm_legal.specs.Frames.{Gives, GivesSome, Takes, asked_pages, change_where, frames_after, frames_held, given_at_end, pages_gone, returns_out}
use Rattle.vm_legal.specs.Licences.{Destroyed, EndCause, HasCause, MaySendUp, Unheld, Unreachable}
use Rattle.vm_legal.specs.Merges.{Merges}
use Rattle.vm_legal.specs.Outside.{Outside}
use Rattle.vm_legal.specs.Walks.{page_on}
use Rattle.vm_model.proofs.Ports.{same_control}
use Rattle.vm_quiet.specs.Places.{FramesAreCounted, has_frame}
use Rattle.vm_quiet.proofs.Letters.{never, some_out}
use Rattle.vm_legal.specs.Destroyed.{destroy_taken, is_destroyed}
use Rattle.vm_quiet.proofs.Asking.{Asking, asked_of, asking_of}
use Rattle.vm_quiet.proofs.Minus.{held_minus}
use Rattle.vm_quiet.proofs.Merging.{gone_same, held_merged, merged_below, pair_apart, place_left}
use Rattle.vm_quiet.proofs.Places.{Held, one_if, held_none, held_same, held_more, held_less, held_some, test_there}
use Rattle.vm_quiet.proofs.Sane.{Base, IsVacant, at_place, base_of, control_of, left, merged_pair, merged_unasked, own_number, right, there, unasked_dead}
use Rattle.vm_quiet.proofs.Sane.{vacant_copied, vacant_raised, vacant_zeroed}

abbrev pub framed : Header → ℕ → List Event → ℕ → ℕ → Bool
framed header host past o p = has_frame (page_on header host o p past)

pub record Count (header : Header) (host : ℕ) (past : List Event) : Type 0 where
  pub number : ℕ
  pub held : Held (framed header host past) number
  pub sum : number + returns_out host past ≡ frames_held header host past

vacant_free : (page : Local) → IsVacant page → has_frame page ≡ false
vacant_free page v = ap (λ b. b || page.asked) v.away ∙ v.unasked

here_framed : (page : Local) → page.here ≡ true → has_frame page ≡ true
here_framed page is = ap (λ b. b || page.asked) is

asked_framed : (page : Local) → page.asked ≡ true → has_frame page ≡ true
asked_framed page is = by page.here page.asked is
  where
    by : (a b : Bool) → b ≡ true → (a || b) ≡ true
    by true b e = refl
    by false b e = e

-- what an effect at one place makes of the frames

used_if : (size : ℕ) (t : Bool) (e : LocalEffect) (page : Local) (v : Bool) → (t ≡ true → has_frame (local_after size e page) ≡ v)
    → has_frame (local_after size (if t then e else Elsewhere) page) ≡ (if t then v else has_frame page)
used_if size true e page v is = is refl
used_if size false e page v is = refl

used_two : (size : ℕ) (own object at : Bool) (e : LocalEffect) (page : Local) (v : Bool)
    → ((own && (object && at)) ≡ true → has_frame (local_after size e page) ≡ v)
    → has_frame (local_after size (if own && object then (if at then e else Elsewhere) else Elsewhere) page) ≡ (if own && (object && at) then v else has_frame
    page)
used_two size true true true e page v is = is refl
used_two size true true false e page v is = refl
used_two size true false at e page v is = refl
used_two size false object at e page v is = refl

kept_if : (size : ℕ) (t : Bool) (e : LocalEffect) (page : Local) → (t ≡ true → has_frame (local_after size e page) ≡ has_frame page)
    → has_frame (local_after size (if t then e else Elsewhere) page) ≡ has_frame page
kept_if size true e page is = is refl
kept_if size false e page is = refl

kept_two : (size : ℕ) (s t : Bool) (e : LocalEffect) (page : Local) → (s ≡ true → t ≡ true → has_frame (local_after size e page) ≡ has_frame page)
    → has_frame (local_after size (if s then (if t then e else Elsewhere) else Elsewhere) page) ≡ has_frame page
kept_two size true true e page is = is refl refl
kept_two size true false e page is = refl
kept_two size false t e page is = refl

more_if : (own : Bool) (U V : ℕ → ℕ → Bool) (n a b : ℕ) → (own ≡ true → U a b ≡ false)
    → ((o p : ℕ) → V o p ≡ (if own && (a == o && b == p) then true else U o p)) → Held U n → Held V (if own then n + 1 else n)
more_if true U V n a b free new h = held_more U V n a b (free refl) new h
more_if false U V n a b free new h = held_same U V n new h

less_if : (own : Bool) (U V : ℕ → ℕ → Bool) (n a b : ℕ) → (own ≡ true → U a b ≡ true)
    → ((o p : ℕ) → V o p ≡ (if own && (a == o && b == p) then false else U o p)) → Held U n → Held V (if own then n - 1 else n)
less_if true U V n a b there new h = held_less U V n a b (there refl) new h
less_if false U V n a b there new h = held_same U V n new h

takes : (own : Bool) (n r f : ℕ) → n + r ≡ f → (if own then n + 1 else n) + r ≡ frames_after (change_where own Takes) f
takes true n r f e = omega (arith, e)
takes false n r f e = e

gives : (own : Bool) (U : ℕ → ℕ → Bool) (n a b r f : ℕ) → (own ≡ true → U a b ≡ true) → Held U n → n + r ≡ f
    → (if own then n - 1 else n) + r ≡ frames_after (change_where own Gives) f
gives true U n a b r f there h e = omega (arith, e, held_some U n a b (there refl) h)
gives false U n a b r f there h e = e

on_host : (P : ℕ → Type 0) (a h : ℕ) → (a == h) ≡ true → P a → P h
on_host P a h is holds = subst P (own_number a h is) holds

sent_same : (header : Header) (host : ℕ) (at : HostId) (object : ObjectId) (m : Message) (past : List Event)
    → ((o p : ℕ) → framed header host (event.Sent (Up at object) m ∷ past) o p ≡ framed header host past o p)
    → returns_out host (event.Sent (Up at object) m ∷ past) ≡ returns_out host past
    → frames_held header host (event.Sent (Up at object) m ∷ past) ≡ frames_held header host past → Count header host past
    → Count header host (event.Sent (Up at object) m ∷ past)
sent_same header host at object m past same out frames count =
    record {
      number = count.number;
      held = held_same (framed header host past) (framed header host (event.Sent (Up at object) m ∷ past)) count.number same
          count.held;
      sum = ap (λ r. count.number + r) out ∙ count.sum ∙ sym frames;
    }

-- a control begins or ends while nothing is asked
unasked_kept : (size : ℕ) (page : Local) → page.asked ≡ false → (page.here || false) ≡ has_frame page
unasked_kept size page is = ap (λ a. page.here || a) (sym is)

dead_none : (live : Option ℕ) → live ≡ None → is_some live ≡ false
dead_none live e = ap (λ (l : Option ℕ). is_some l) e

-- a control ends, and what is asked of it
ended_used : (page : Local) → (page.here ≡ true → page.asked ≡ false) → (page.here || false) ≡ (if page.asked then false else has_frame page)
ended_used page apart = by page.here page.asked apart
  where
    by : (a b : Bool) → (a ≡ true → b ≡ false) → (a || false) ≡ (if b then false else (a || b))
    by true true apart = never (sym (apart refl))
    by true false apart = refl
    by false true apart = refl
    by false false apart = refl

ended_two : (size : ℕ) (own object live : Bool) (page : Local) → ((own && object) ≡ true → live ≡ true) → (page.here ≡ true → page.asked ≡ false)
    → has_frame (local_after size (if own && object then (if live then Ends else Elsewhere) else Elsewhere) page)
    ≡ (if own && (object && page.asked) then false else has_frame page)
ended_two size true true true page is apart = ended_used page apart
ended_two size true true false page is apart = never (is refl)
ended_two size true false live page is apart = refl
ended_two size false object live page is apart = refl

itself : (a b : ℕ) → (a == a && b == b) ≡ true
itself a b = grind (arith, nat_tests)

-- what is given back is what is asked: without a destroy nothing is
asking_end : (header : Header) (host o : ℕ) (past : List Event) → EndCause header host o past → Asking header host o past
    → Held (asked_of header host o past) (given_at_end header host o past)
asking_end header host o past why h = by (is_destroyed host o (destroy_taken past)) refl
  where
    left : (page : ℕ) → EndCause header host o past → is_destroyed host o (destroy_taken past) ≡ false → (page_on header host o page past).asked ≡ false
    left page (Unreachable above gone unasked) none = unasked page
    left page (Unheld below unheld unasked) none = unasked page
    left page (Destroyed destroyed) none = never (sym none ∙ (ap (is_destroyed host o) destroyed.taken ∙ itself host o))

    one : (b : Bool) (q p : ℕ) → (o == q) ≡ b → is_destroyed host o (destroy_taken past) ≡ false → (b && (page_on header host q p past).asked) ≡ false
    one true q p is none = subst (λ (k : ℕ). (page_on header host k p past).asked ≡ false) (own_number o q is) (left p why none)
    one false q p is none = refl

    by : (b : Bool) → is_destroyed host o (destroy_taken past) ≡ b → Held (asked_of header host o past) (given_at_end header host o past)
    by true is = subst (λ (n : ℕ). Held (asked_of header host o past) n) (ap (λ z. if z then asked_pages header host o past else 0) (sym is)) h
    by false is = subst (λ (n : ℕ). Held (asked_of header host o past) n) (ap (λ z. if z then asked_pages header host o past else 0) (sym is))
        (held_none (asked_of header host o past) (λ q p. one (o == q) q p refl is))

ends_some : (own : Bool) (U V W : ℕ → ℕ → Bool) (n k r f : ℕ) → ((o p : ℕ) → V o p ≡ true → U o p ≡ true)
    → ((o p : ℕ) → W o p ≡ (if own && V o p then false else U o p)) → Held U n → (own ≡ true → Held V k) → n + r ≡ f
    → (m : ℕ) × Held W m × (m + r ≡ frames_after (change_where own (GivesSome k)) f)
ends_some true U V W n k r f inside new h v e = let left = held_minus U V W n k inside new h (v refl) in (n - k, left.0, omega (arith, e, left.1))
ends_some false U V W n k r f inside new h v e = (n, held_same U W n new h, e)

-- a return without a copy
out_more : (own : Bool) (U V : ℕ → ℕ → Bool) (n a b r f : ℕ) → (own ≡ true → U a b ≡ true)
    → ((o p : ℕ) → V o p ≡ (if own && (a == o && b == p) then false else U o p)) → Held U n → n + r ≡ f → (k : ℕ) × Held V k
    × (k + (if own && true then r + 1 else r) ≡ f)
out_more true U V n a b r f there new h e = (n - 1, held_less U V n a b (there refl) new h, omega (arith, e, held_some U n a b (there refl) h))
out_more false U V n a b r f there new h e = (n, held_same U V n new h, e)

no_out : (own : Bool) (r : ℕ) → (if own && false then r + 1 else r) ≡ r
no_out true r = refl
no_out false r = refl

asks_here : (own object at live : Bool) → ((own && object) ≡ true → live ≡ true) → (own && (object && (at && live))) ≡ (own && (object && at))
asks_here true true true live is = is refl
asks_here true true false live is = refl
asks_here true false at live is = refl
asks_here false object at live is = refl

asks_used : (size : ℕ) (own object at live : Bool) (page : Local) → ((own && object) ≡ true → live ≡ true)
    → has_frame (local_after size (if own && object then (if at && live then Asks else Elsewhere) else Elsewhere) page) ≡ (if own && (object && at) then
    true else has_frame page)
asks_used size own object at live page is =
    used_two size own object (at && live) Asks page true (λ e. either page.here)
    ∙ ap (λ b. if b then true else has_frame page) (asks_here own object at live is)
  where
    either : (b : Bool) → (b || true) ≡ true
    either true = refl
    either false = refl

count_up : (header : Header) (host : ℕ) (at : HostId) (object : ObjectId) (m : Message) (past : List Event) → Base header host past
    → ((doing : Command) × MaySendUp header doing at.0 object.0 m past) → ((k : ℕ) → Asking header host k past) → Count header host past
    → Count header host (event.Sent (Up at object) m ∷ past)
count_up header host at object (message.Init control size) past base c asking count =
    sent_same header host at object (message.Init control size) past
    (λ o p. kept_if header.size (at.0 == host && object.0 == o) Begins (page_on header host o p past)
    (λ is. unasked_kept header.size (page_on header host o p past) (unasked_dead header host o p past base
    (dead_none (live_control host o past) (at_place (λ h k. live_control h k past ≡ None) at.0 object.0 host o is c.1.none)))))
    refl refl count
count_up header host at object (message.Create control size) past base c asking count =
    sent_same header host at object (message.Create control size) past
    (λ o p. kept_if header.size (at.0 == host && object.0 == o) Begins (page_on header host o p past)
    (λ is. unasked_kept header.size (page_on header host o p past) (unasked_dead header host o p past base
    (base.numbered o (at_place (λ h k. last_control h k past ≡ 0) at.0 object.0 host o is c.1.never)))))
    refl refl count
count_up header host at object (message.Terminate control) past base c asking count =
    let left = ends_some (at.0 == host) (framed header host past) (asked_of header host object.0 past)
    (framed header host (event.Sent (Up at object) (message.Terminate control) ∷ past)) count.number (given_at_end header host object.0 past)
    (returns_out host past) (frames_held header host past)
    (λ o p is. asked_framed (page_on header host o p past) (right (object.0 == o) (page_on header host o p past).asked is))
    (λ o p. ended_two header.size (at.0 == host) (object.0 == o) (is_control control (live_control host o past)) (page_on header host o p past)
    (λ is. control_of (live_control host o past) control (at_place (λ h k. live_control h k past ≡ Some control) at.0 object.0 host o is c.1.live))
    (base.sane o p).apart) count.held
    (λ is. asking_end header host object.0 past (on_host (λ h. EndCause header h object.0 past) at.0 host is c.1.why) (asking object.0)) count.sum in
    record { number = left.0; held = left.1; sum = left.2 }
count_up header host at object (message.Request control page access) past base c asking count =
    record {
      number = if at.0 == host then count.number + 1 else count.number;
      held =
          more_if (at.0 == host) (framed header host past) (framed header host (event.Sent (Up at object) (message.Request control page access) ∷ past))
          count.number object.0 page.0
          (λ is. vacant_free (page_on header host object.0 page.0 past) (on_host (λ h. IsVacant (page_on header h object.0 page.0 past)) at.0 host is
          (record { away = c.1.away; unasked = c.1.unasked })))
          (λ o p. asks_used header.size (at.0 == host) (object.0 == o) (page.0 == p) (is_control control (live_control host o past))
          (page_on header host o p past)
          (λ is. control_of (live_control host o past) control (at_place (λ h k. live_control h k past ≡ Some control) at.0 object.0 host o is c.1.live)))
          count.held;
      sum = takes (at.0 == host) count.number (returns_out host past) (frames_held header host past) count.sum;
    }
count_up header host at object (message.Return control page dirty true bytes) past base c asking count =
    sent_same header host at object (message.Return control page dirty true bytes) past
    (λ o p. kept_two header.size (at.0 == host && object.0 == o) (page.0 == p) (Returns true) (page_on header host o p past) (λ s t. refl))
    (no_out (at.0 == host) (returns_out host past)) refl count
count_up header host at object (message.Return control page dirty false bytes) past base c asking count =
    let out = out_more (at.0 == host) (framed header host past) (framed header host
    (event.Sent (Up at object) (message.Return control page dirty false bytes) ∷ past)) count.number object.0 page.0 (returns_out host past)
    (frames_held header host past)
    (λ is. here_framed (page_on header host object.0 page.0 past) (on_host (λ h. (page_on header h object.0 page.0 past).here ≡ true) at.0 host is c.1.here))
    (λ o p. used_two header.size (at.0 == host) (object.0 == o) (page.0 == p) (Returns false) (page_on header host o p past) false
    (λ is. (base.sane o p).apart (there (λ h k q. (page_on header h k q past).here ≡ true) at.0 object.0 page.0 host o p is c.1.here)))
    count.held count.sum in
    record { number = out.0; held = out.1; sum = out.2 }
count_up header host at object (message.Unlock control page access) past base c asking count =
    sent_same header host at object (message.Unlock control page access) past
    (λ o p. kept_two header.size (at.0 == host && object.0 == o) (page.0 == p) Unlocks (page_on header host o p past) (λ s t. refl))
    refl refl count
count_up header host at object (message.Completed control page number) past base c asking count =
    sent_same header host at object (message.Completed control page number) past
    (λ o p. kept_if header.size (at.0 == host && object.0 == o) Elsewhere (page_on header host o p past) (λ is. refl))
    refl refl count
count_up header host at object (message.Changed control cache strategy) past base c asking count =
    sent_same header host at object (message.Changed control cache strategy) past
    (λ o p. kept_if header.size (at.0 == host && object.0 == o) Elsewhere (page_on header host o p past) (λ is. refl))
    refl refl count
count_up header host at object m past base c asking count = absurd c.1

-- what comes down

page_used : (size : ℕ) (lock : ℕ) (precious : Bool) (bytes : List ℕ) (page : Local)
    → has_frame (local_after size (TakesPage lock precious bytes) page) ≡ has_frame page
page_used size lock precious bytes page = by page.asked refl
  where
    by : (b : Bool) → page.asked ≡ b → has_frame (if b then record page {
      here = true;
      bytes = bytes;
      lock = lock;
      dirty = false;
      precious = precious;
      unlocking = false;
      asked = false;
    } else page) ≡ has_frame page
    by true is = sym (asked_framed page is)
    by false is = refl

lock_used : (size : ℕ) (lock : ℕ) (flush : Bool) (page : Local) → has_frame (local_after size (TakesLock lock flush) page) ≡ has_frame page
lock_used size lock flush page = by page.here
  where
    by : (b : Bool) → has_frame (if b then record page { lock = if flush || lock == 8 then page.lock else lock; unlocking = false } else page) ≡ has_frame page
    by true = refl
    by false = refl

nothing_used : (size : ℕ) (page : Local) → (page.here ≡ true → page.asked ≡ false)
    → has_frame (local_after size TakesNothing page) ≡ (if page.asked then false else has_frame page)
nothing_used size page apart = by page.asked refl
  where
    by : (b : Bool) → page.asked ≡ b → has_frame (if b then record page { asked = false; absent = true } else page) ≡ (if b then false else has_frame page)
    by true is = ended_used page apart ∙ ap (λ b. if b then false else has_frame page) is
    by false is = refl

and_false : (b : Bool) → (b && false) ≡ false
and_false true = refl
and_false false = refl

-- the test at the place that is asked is the test at the place that the message names
same_end : (u a ob pg live live' asked asked' : Bool) → ((ob && pg) ≡ true → live ≡ live') → ((ob && pg) ≡ true → asked ≡ asked')
    → (if a && (ob && live) then (if pg then (if asked then false else u) else u) else u) ≡ (if (a && (live' && asked')) && (ob && pg) then false else u)
same_end u false ob pg live live' asked asked' e f = refl
same_end u true false pg live live' asked asked' e f = sym (cond-false ((live' && asked') && false) false u (and_false (live' && asked')))
same_end u true true false live live' asked asked' e f = by live ∙ sym (cond-false ((live' && asked') && false) false u (and_false (live' && asked')))
  where
    by : (b : Bool) → (if b then u else u) ≡ u
    by true = refl
    by false = refl
same_end u true true true live live' asked asked' e f =
    by live asked ∙ ap (λ x. if (x && asked) && true then false else u) (e refl) ∙ ap (λ x. if (live' && x) && true then false else u) (f refl)
  where
    by : (x y : Bool) → (if x then (if y then false else u) else u) ≡ (if (x && y) && true then false else u)
    by true true = refl
    by true false = refl
    by false true = refl
    by false false = refl

end_used : (size : ℕ) (s t : Bool) (e : LocalEffect) (page : Local) → has_frame (local_after size e page) ≡ (if page.asked then false else has_frame page)
    → has_frame (local_after size (if s then (if t then e else Elsewhere) else Elsewhere) page) ≡ (if s then
    (if t then (if page.asked then false else has_frame page) else has_frame page) else has_frame page)
end_used size true true e page is = is
end_used size true false e page is = refl
end_used size false t e page is = refl

object_there : (a b o p : ℕ) → (a == o && b == p) ≡ true → (a == o) ≡ true
object_there a b o p is = left (a == o) (b == p) is

count_end : (header : Header) (host : ℕ) (at : HostId) (object : ObjectId) (control page : ℕ) (past : List Event) (V : ℕ → ℕ → Bool) → Base header host past
    → ((o p : ℕ) → V o p ≡ (if at.0 == host && (object.0 == o && is_control control (live_control host o past)) then
    (if page == p then (if (page_on header host o p past).asked then false else framed header host past o p) else framed header host past o p) else framed
    header host past o p))
    → (count : Count header host past) → Held V (if at.0 == host && (is_control control (live_control host object.0 past) &&
    (page_on header host object.0 page past).asked) then count.number - 1 else count.number)
    × ((if at.0 == host && (is_control control (live_control host object.0 past) && (page_on header host object.0 page past).asked) then count.number - 1 else
    count.number) + returns_out host past
    ≡ frames_after (change_where (at.0 == host && (is_control control (live_control host object.0 past) && (page_on header host object.0 page past).asked))
    Gives) (frames_held header host past))
count_end header host at object control page past V base new count =
    let own : Bool = at.0 == host && (is_control control (live_control host object.0 past) && (page_on header host object.0 page past).asked) in (
      less_if own (framed header host past) V count.number object.0 page there_is
          (λ o p. new o p ∙ same_end (framed header host past o p) (at.0 == host) (object.0 == o) (page == p) (is_control control (live_control host o past))
          (is_control control (live_control host object.0 past)) (page_on header host o p past).asked (page_on header host object.0 page past).asked
          (λ is. same_control host object.0 o control past (object_there object.0 page o p is))
          (λ is. test_there (λ k q. (page_on header host k q past).asked) object.0 page o p is))
          count.held,
      gives own (framed header host past) count.number object.0 page (returns_out host past) (frames_held header host past) there_is count.held count.sum,
    )
  where
    there_is : (at.0 == host && (is_control control (live_control host object.0 past) && (page_on header host object.0 page past).asked)) ≡ true
        → framed header host past object.0 page ≡ true
    there_is is =
        asked_framed (page_on header host object.0 page past) (right (is_control control (live_control host object.0 past))
        (page_on header host object.0 page past).asked (right (at.0 == host) (is_control control (live_control host object.0 past) &&
        (page_on header host object.0 page past).asked) is))

down_same : (header : Header) (host : ℕ) (at : HostId) (object : ObjectId) (control : ℕ) (m : Message) (past : List Event)
    → ((o p : ℕ) → framed header host (event.Taken (Down at object control) m ∷ past) o p ≡ framed header host past o p)
    → frames_held header host (event.Taken (Down at object control) m ∷ past) ≡ frames_held header host past → Count header host past
    → Count header host (event.Taken (Down at object control) m ∷ past)
down_same header host at object control m past same frames count =
    record {
      number = count.number;
      held = held_same (framed header host past) (framed header host (event.Taken (Down at object control) m ∷ past)) count.number
          same count.held;
      sum = count.sum ∙ sym frames;
    }

count_down : (header : Header) (host : ℕ) (at : HostId) (object : ObjectId) (control : ℕ) (m : Message) (past : List Event) → Base header host past
    → Count header host past → Count header host (event.Taken (Down at object control) m ∷ past)
count_down header host at object control (message.Supply page lock precious bytes) past base count =
    down_same header host at object control (message.Supply page lock precious bytes) past
    (λ o p. kept_two header.size (at.0 == host && (object.0 == o && is_control control (live_control host o past))) (page.0 == p)
    (TakesPage lock precious bytes) (page_on header host o p past) (λ s t. page_used header.size lock precious bytes (page_on header host o p past)))
    refl count
count_down header host at object control (message.Lock page number returns flush lock reply) past base count =
    down_same header host at object control (message.Lock page number returns flush lock reply) past
    (λ o p. kept_two header.size (at.0 == host && (object.0 == o && is_control control (live_control host o past))) (in_range p page.0 number)
    (TakesLock lock flush) (page_on header host o p past) (λ s t. lock_used header.size lock flush (page_on header host o p past)))
    refl count
count_down header host at object control (message.Unavailable page) past base count =
    let end = count_end header host at object control page.0 past (framed header host (event.Taken (Down at object control) (message.Unavailable page) ∷ past))
    base
    (λ o p. end_used header.size (at.0 == host && (object.0 == o && is_control control (live_control host o past))) (page.0 == p) TakesNothing
    (page_on header host o p past) (nothing_used header.size (page_on header host o p past) (base.sane o p).apart)) count in
    record { number = _; held = end.0; sum = end.1 }
count_down header host at object control (message.Error page reason) past base count =
    let end = count_end header host at object control page.0 past (framed header host (event.Taken (Down at object control) (message.Error page reason) ∷ past))
    base
    (λ o p. end_used header.size (at.0 == host && (object.0 == o && is_control control (live_control host o past))) (page.0 == p) TakesError
    (page_on header host o p past) (ended_used (page_on header host o p past) (base.sane o p).apart)) count in
    record { number = _; held = end.0; sum = end.1 }
count_down header host at object control m past base count =
    down_same header host at object control m past
    (λ o p. kept_if header.size (at.0 == host && (object.0 == o && is_control control (live_control host o past))) Elsewhere (page_on header host o p past)
    (λ is. refl))
    refl count

-- what a pager takes

taken_same : (header : Header) (host : ℕ) (at : HostId) (object : ObjectId) (m : Message) (past : List Event)
    → returns_out host (event.Taken (Up at object) m ∷ past) ≡ returns_out host past
    → frames_held header host (event.Taken (Up at object) m ∷ past) ≡ frames_held header host past → Count header host past
    → Count header host (event.Taken (Up at object) m ∷ past)
taken_same header host at object m past out frames count =
    record {
      number = count.number;
      held = held_same (framed header host past) (framed header host past) count.number (λ o p. refl) count.held;
      sum = ap (λ r. count.number + r) out ∙ count.sum ∙ sym frames;
    }

count_taken : (header : Header) (host : ℕ) (at : HostId) (object : ObjectId) (m : Message) (past : List Event) → Base header host past
    → first (queue (Up at object) past) ≡ Some m → Count header host past → Count header host (event.Taken (Up at object) m ∷ past)
count_taken header host at object (message.Return control page dirty keep bytes) past base head count =
    record {
      number = count.number;
      held = held_same (framed header host past) (framed header host past) count.number (λ o p. refl) count.held;
      sum =
          by (at.0 == host && not keep) count.number (returns_out host past) (frames_held header host past)
          (λ is. some_out host (Up at object) (message.Return control page dirty keep bytes) past head is base.returns) count.sum;
    }
  where
    by : (b : Bool) (n r f : ℕ) → (b ≡ true → 0 < r) → n + r ≡ f → n + (if b then r - 1 else r) ≡ frames_after (change_where b Gives) f
    by true n r f some e = omega (arith, some refl, e)
    by false n r f some e = e
count_taken header host at object m past base head count = taken_same header host at object m past refl refl count

-- a merge

-- a page that isn't asked for has a frame where it is here
unasked_framed : (page : Local) → page.asked ≡ false → has_frame page ≡ page.here
unasked_framed page none = ap (λ x. page.here || x) none ∙ kept page.here
  where
    kept : (b : Bool) → (b || false) ≡ b
    kept true = refl
    kept false = refl

-- the upper's place, to which a page moves up
framed_up : (size : ℕ) (a b : Bool) (there page : Local) → there.asked ≡ false → page.asked ≡ false
    → has_frame (local_after size (if a && (b && (there.here && not page.here)) then Moves there else Elsewhere) page)
    ≡ (has_frame page || (a && (b && has_frame there)))
framed_up size a b there page none none_here =
    by a b there.here page.here refl (unasked_framed page none_here)
    ∙ ap (λ x. x || (a && (b && there.here))) (sym (unasked_framed page none_here))
    ∙ ap (λ x. has_frame page || (a && (b && x))) (sym (unasked_framed there none))
  where
    by : (a b h w : Bool) → there.here ≡ h → has_frame page ≡ w
        → has_frame (local_after size (if a && (b && (h && not w)) then Moves there else Elsewhere) page) ≡ (w || (a && (b && h)))
    by true true true false here is = ap (λ x. x || page.asked) here
    by true true true true here is = is
    by true true false true here is = is
    by true true false false here is = is
    by true false h true here is = is
    by true false h false here is = is
    by false b h true here is = is
    by false b h false here is = is

framed_merged : (size upper lower shift upper_pages lower_pages o p : ℕ) (others : Place → Local)
    → ((q : ℕ) → ((others (record { object = upper; page = q })).asked ≡ false) × ((others (record { object = lower; page = q })).asked ≡ false))
    → has_frame (local_after size (merge_effect upper lower shift upper_pages lower_pages (record { object = o; page = p }) others)
    (others (record { object = o; page = p })))
    ≡ merged_below (λ k q. has_frame (others (record { object = k; page = q }))) upper lower shift upper_pages lower_pages o p
framed_merged size upper lower shift upper_pages lower_pages o p others none =
    by (o == upper) (o == lower) refl refl
    ∙ ap (λ x. place_left x (o == lower) (has_frame page) up (nat_lt p lower_pages)) (turned o upper)
    ∙ ap (λ x. place_left (upper == o) x (has_frame page) up (nat_lt p lower_pages)) (turned o lower)
  where
    page : Local
    page = others (record { object = o; page = p })

    there : Local
    there = others (record { object = lower; page = shift + p })

    up : Bool
    up = nat_lt p upper_pages && (nat_lt (shift + p) lower_pages && has_frame there)

    turned : (a b : ℕ) → (a == b) ≡ (b == a)
    turned a b = grind (arith, nat_tests)

    by : (s t : Bool) → (o == upper) ≡ s → (o == lower) ≡ t
        → has_frame (local_after size (if s then if nat_lt p upper_pages && (nat_lt (shift + p) lower_pages && (there.here && not page.here))
        then Moves there else Elsewhere else if t && nat_lt p lower_pages then Drops else Elsewhere) page)
        ≡ place_left s t (has_frame page) up (nat_lt p lower_pages)
    by true t own low =
        framed_up size (nat_lt p upper_pages) (nat_lt (shift + p) lower_pages) there page (none (shift + p)).1
        (subst (λ k. (others (record { object = k; page = p })).asked ≡ false) (sym (own_number o upper own)) (none p).0)
    by false true own low = drops (nat_lt p lower_pages)
      where
        drops : (l : Bool) → has_frame (local_after size (if l then Drops else Elsewhere) page) ≡ (not l && has_frame page)
        drops true = subst (λ k. (others (record { object = k; page = p })).asked ≡ false) (sym (own_number o lower low)) (none p).1
        drops false = refl
    by false false own low = refl

merged_sum : (left out held was gone gone_there : ℕ) → left + gone_there ≡ was → gone_there ≡ gone → was + out ≡ held → left + out ≡ held - gone
merged_sum left out held was gone gone_there e f g = omega (arith, e, f, g)

count_merged : (header : Header) (host : ℕ) (upper lower : ObjectId) (past : List Event) → Base header host past → Merges header upper.0 lower.0 past
    → Count header host past → Count header host (event.Merged upper lower ∷ past)
count_merged header host upper lower past base c count = by (is_on host (object_home upper.0 past)) refl
  where
    shift : ℕ
    shift = (backing_of header upper.0 past).shift

    upper_pages : ℕ
    upper_pages = object_pages header upper.0 past

    lower_pages : ℕ
    lower_pages = object_pages header lower.0 past

    here : ℕ → ℕ → Bool
    here = λ k q. (page_on header host k q past).here

    gone : ℕ
    gone = pages_gone here upper.0 lower.0 shift upper_pages lower_pages

    by : (on : Bool) → is_on host (object_home upper.0 past) ≡ on → Count header host (event.Merged upper lower ∷ past)
    by true on =
        let none = λ (q : ℕ). merged_unasked header host upper.0 lower.0 q past base c on in
        let same : pages_gone (framed header host past) upper.0 lower.0 shift upper_pages lower_pages ≡ gone =
        gone_same (framed header host past) here upper.0 lower.0 shift upper_pages lower_pages
        (λ q. unasked_framed (page_on header host upper.0 q past) (none q).0) (λ q. unasked_framed (page_on header host lower.0 q past) (none q).1) in
        let left = held_merged (framed header host past) upper.0 lower.0 shift upper_pages count.number lower_pages
        (pair_apart header host upper.0 lower.0 past base.declared (merged_pair header host upper.0 lower.0 past c on)) count.held in
        record {
          number = left.number;
          held =
              held_same (merged_below (framed header host past) upper.0 lower.0 shift upper_pages lower_pages)
              (framed header host (event.Merged upper lower ∷ past)) left.number
              (λ o p. ap (λ b. has_frame (local_after header.size (if b then merge_effect upper.0 lower.0 shift upper_pages lower_pages
              (record { object = o; page = p }) (λ source. local header host source past) else Elsewhere) (page_on header host o p past))) on
              ∙ framed_merged header.size upper.0 lower.0 shift upper_pages lower_pages o p (λ source. local header host source past) none) left.held;
          sum =
              merged_sum left.number (returns_out host past) (frames_held header host past) count.number gone
              (pages_gone (framed header host past) upper.0 lower.0 shift upper_pages lower_pages) left.sum same count.sum
              ∙ ap (λ b. frames_after (change_where b (GivesSome gone)) (frames_held header host past)) (sym on);
        }
    by false off =
        record {
          number = count.number;
          held =
              held_same (framed header host past) (framed header host (event.Merged upper lower ∷ past)) count.number
              (λ o p. ap (λ b. has_frame (local_after header.size (if b then merge_effect upper.0 lower.0 shift upper_pages lower_pages
              (record { object = o; page = p }) (λ source. local header host source past) else Elsewhere) (page_on header host o p past))) off) count.held;
          sum = count.sum ∙ ap (λ b. frames_after (change_where b (GivesSome gone)) (frames_held header host past)) (sym off);
        }

pub count_next : (header : Header) (outside : Outside) (host : ℕ) (e : Event) (past : List Event) → Base header host past → HasCause header outside e past
    → ((k : ℕ) → Asking header host k past) → Count header host past → Count header host (e ∷ past)
count_next header outside host (event.Zeroed at object page) past base c asking count =
    record {
      number = if at.0 == host then count.number + 1 else count.number;
      held = more_if (at.0 == host) (framed header host past) (framed header host (event.Zeroed at object page ∷ past)) count.number object.0 page.0
          (λ is. vacant_free (page_on header host object.0 page.0 past) (on_host (λ h. IsVacant (page_on header h object.0 page.0 past)) at.0 host is
          (vacant_zeroed header at.0 object.0 page.0 past c.1)))
          (λ o p. used_if header.size (at.0 == host && (object.0 == o && page.0 == p)) Zeroes (page_on header host o p past) true (λ is. refl))
          count.held;
      sum = takes (at.0 == host) count.number (returns_out host past) (frames_held header host past) count.sum;
    }
count_next header outside host (event.Raised at lower lower_page upper upper_page) past base c asking count =
    record {
      number = if at.0 == host then count.number + 1 else count.number;
      held =
          more_if (at.0 == host) (framed header host past) (framed header host (event.Raised at lower lower_page upper upper_page ∷ past)) count.number upper.0
          upper_page.0
          (λ is. vacant_free (page_on header host upper.0 upper_page.0 past) (on_host (λ h. IsVacant (page_on header h upper.0 upper_page.0 past)) at.0 host is
          (vacant_raised header at.0 lower.0 lower_page.0 upper.0 upper_page.0 past c.1)))
          (λ o p. used_if header.size (at.0 == host && (upper.0 == o && upper_page.0 == p)) (Raises (page_on header host lower.0 lower_page.0 past).bytes)
          (page_on header host o p past) true (λ is. refl))
          count.held;
      sum = takes (at.0 == host) count.number (returns_out host past) (frames_held header host past) count.sum;
    }
count_next header outside host (event.CopiedPage task page object object_page target) past base c asking count =
    record {
      number = if is_on host (host_of task.0 past) then count.number + 1 else count.number;
      held =
          more_if (is_on host (host_of task.0 past)) (framed header host past) (framed header host
          (event.CopiedPage task page object object_page target ∷ past)) count.number target.0 page.0
          (λ is. vacant_free (page_on header host target.0 page.0 past) (vacant_copied header host task.0 page.0 object.0 object_page.0 target.0 past c.1 is))
          (λ o p. used_if header.size (is_on host (host_of task.0 past) && (target.0 == o && page.0 == p))
          (Raises (page_on header host object.0 object_page.0 past).bytes) (page_on header host o p past) true (λ is. refl))
          count.held;
      sum = takes (is_on host (host_of task.0 past)) count.number (returns_out host past) (frames_held header host past) count.sum;
    }
count_next header outside host (event.Stored task object page at size value) past base c asking count =
    record {
      number = count.number;
      held = held_same (framed header host past) (framed header host (event.Stored task object page at size value ∷ past)) count.number
          (λ o p. kept_if header.size (is_on host (host_of task.0 past) && (object.0 == o && page.0 == p)) (Stores at (little_endian_bytes size value))
          (page_on header host o p past) (λ is. refl)) count.held;
      sum = count.sum;
    }
count_next header outside host (event.Dropped at object page) past base c asking count =
    record {
      number = if at.0 == host then count.number - 1 else count.number;
      held =
          less_if (at.0 == host) (framed header host past) (framed header host (event.Dropped at object page ∷ past)) count.number object.0 page.0
          (λ is. here_framed (page_on header host object.0 page.0 past) (own is))
          (λ o p. used_if header.size (at.0 == host && (object.0 == o && page.0 == p)) Drops (page_on header host o p past) false
          (λ is. (base.sane o p).apart (there (λ h k q. (page_on header h k q past).here ≡ true) at.0 object.0 page.0 host o p is c.1.here)))
          count.held;
      sum =
          gives (at.0 == host) (framed header host past) count.number object.0 page.0 (returns_out host past) (frames_held header host past)
          (λ is. here_framed (page_on header host object.0 page.0 past) (own is)) count.held count.sum;
    }
  where
    own : (at.0 == host) ≡ true → (page_on header host object.0 page.0 past).here ≡ true
    own is = on_host (λ h. (page_on header h object.0 page.0 past).here ≡ true) at.0 host is c.1.here
count_next header outside host (event.Merged upper lower) past base c asking count = count_merged header host upper lower past base c.1 count
count_next header outside host (event.Sent (Up at object) m) past base c asking count = count_up header host at object m past base c asking count
count_next header outside host (event.Taken (Up at object) m) past base c asking count = count_taken header host at object m past base c.1.0 count
count_next header outside host (event.Taken (Down at object control) m) past base c asking count = count_down header host at object control m past base count
count_next header outside host e past base c asking count =
    record {
      number = count.number;
      held = held_same (framed header host past) (framed header host past) count.number (λ o p. refl) count.held;
      sum = count.sum;
    }

pub count_of : (header : Header) (outside : Outside) (host : ℕ) (history : List Event) → EachEvent (HasCause header outside) history → Count header host history
count_of header outside host [] c = record { number = 0; held = held_none (framed header host []) (λ o p. refl); sum = refl }
count_of header outside host (e ∷ past) c =
    count_next header outside host e past (base_of header outside host past c.1) c.0 (λ k. asking_of header outside host k past c.1)
    (count_of header outside host past c.1)

pub frames_counted : (header : Header) (outside : Outside) (host : ℕ) (history : List Event) → EachEvent (HasCause header outside) history
    → FramesAreCounted header host history
frames_counted header outside host history c = by (count_of header outside host history c)
  where
    by : Count header host history → FramesAreCounted header host history
    by count =
        record {
          places = count.held.places;
          each = λ o p is. count.held.each o p ∙ ap one_if is;
          only = λ o p is. count.held.each o p ∙ ap one_if is;
          count = ap (λ n. n + returns_out host history) count.held.count ∙ count.sum;
        }

pub never_both : (header : Header) (outside : Outside) (host o p : ℕ) (history : List Event) → EachEvent (HasCause header outside) history
    → (page_on header host o p history).here ≡ true → (page_on header host o p history).asked ≡ false
never_both header outside host o p history c = ((base_of header outside host history c).sane o p).apart
