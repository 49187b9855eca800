-- No page of temporary or file memory is precious: its pagers supply none.
use Rattle.std.proofs.Common.{ℕ, ◌+◌, ◌≡◌, List, [], ◌∷◌, ◌++◌, Bool, true, false, Option, Some, if◌then◌else◌, refl, ap, subst, ◌∙◌, arith}
use Rattle.std.proofs.lemmas.Bool.Decides.{nat_tests}
use Rattle.std.specs.Prelude.{◌==◌, ◌&&◌, ◌||◌, nat_lt, not}
use Rattle.vm_base.specs.Pages.{little_endian_bytes}
use Rattle.vm_model.specs.declared.command.Command.{Command}
use Rattle.vm_model.specs.declared.event.Event.{Event}
use Rattle.vm_model.specs.declared.event.Event.TheVariants as event
use Rattle.vm_model.specs.declared.message.Channel.TheVariants.{Up, Down}
use Rattle.vm_model.specs.declared.message.Message.{Message}
use Rattle.vm_model.specs.declared.message.Message.TheVariants as message
use Rattle.vm_model.specs.declared.script.Header.{Header}
use Rattle.vm_model.specs.Channels.{down_port, queue}
use Rattle.vm_model.specs.Controls.{is_control, live_control}
use Rattle.vm_model.specs.Local.{LocalEffect, Local, Place, Zeroes, Raises, Stores, Drops, Moves, Returns, Asks, Unlocks, TakesPage, TakesNothing, TakesError}
use Rattle.vm_model.specs.Homes.{object_home}
use Rattle.vm_model.specs.Regions.{backing_of, object_pages}
use Rattle.vm_model.specs.Local.{TakesLock, Begins, Ends, Elsewhere, effect, merge_effect, is_on, is_place, local, local_after, sent_effect, taken_effect}
use Rattle.vm_model.specs.Moments.{EachEvent}
use Rattle.vm_model.specs.Server.{first}
use Rattle.vm_model.specs.Side.{rest}
use Rattle.vm_model.specs.Tasks.{host_of}
use Rattle.vm_model.specs.Words.{in_range}
use Rattle.vm_legal.proofs.Served.{later_paged, paged_may}
use Rattle.vm_legal.specs.Licences.{HasCause, MaySendDown, is_paged}
use Rattle.vm_legal.specs.Outside.{Outside}
use Rattle.vm_legal.specs.Walks.{page_on}

-- nothing precious comes
abbrev IsPlain : LocalEffect → Type 0
IsPlain (TakesPage lock precious bytes) = precious ≡ false
IsPlain (Moves page) = page.precious ≡ false
IsPlain other = Unit {0}

plain_if : (b : Bool) (e : LocalEffect) → IsPlain e → IsPlain (if b then e else Elsewhere)
plain_if true e is = is
plain_if false e is = tt

plain_moved : (size : ℕ) (e : LocalEffect) (was : Local) → IsPlain e → was.precious ≡ false → (local_after size e was).precious ≡ false
plain_moved size Zeroes was is plain = refl
plain_moved size (Raises bytes) was is plain = refl
plain_moved size (Stores at bytes) was is plain = plain
plain_moved size Drops was is plain = refl
plain_moved size (Moves page) was is plain = is
plain_moved size (Returns true) was is plain = refl
plain_moved size (Returns false) was is plain = refl
plain_moved size Asks was is plain = plain
plain_moved size Unlocks was is plain = plain
plain_moved size (TakesPage lock precious bytes) was is plain = by was.asked
  where
    by : (b : Bool) → (if b then record was {
      here = true;
      bytes = bytes;
      lock = lock;
      dirty = false;
      precious = precious;
      unlocking = false;
      asked = false;
    } else was).precious ≡ false
    by true = is
    by false = plain
plain_moved size TakesNothing was is plain = by was.asked
  where
    by : (b : Bool) → (if b then record was { asked = false; absent = true } else was).precious ≡ false
    by true = plain
    by false = plain
plain_moved size TakesError was is plain = plain
plain_moved size (TakesLock lock flush) was is plain = by was.here
  where
    by : (b : Bool) → (if b then record was { lock = if flush || lock == 8 then was.lock else lock; unlocking = false } else was).precious ≡ false
    by true = plain
    by false = plain
plain_moved size Begins was is plain = plain
plain_moved size Ends was is plain = plain
plain_moved size Elsewhere was is plain = plain

-- messages down

abbrev IsUnprecious : Message → Type 0
IsUnprecious (message.Supply page lock precious bytes) = precious ≡ false
IsUnprecious other = Unit {0}

abbrev AreUnprecious : List Message → Type 0
AreUnprecious [] = Unit {0}
AreUnprecious (m ∷ q) = IsUnprecious m × AreUnprecious q

added : (b : Bool) (q : List Message) (m : Message) → (b ≡ true → IsUnprecious m) → AreUnprecious q → AreUnprecious (if b then q ++ m ∷ [] else q)
added false q m one all = all
added true q m one all = end q all
  where
    end : (q : List Message) → AreUnprecious q → AreUnprecious (q ++ m ∷ [])
    end [] all = (one refl, tt)
    end (x ∷ q) all = (all.0, end q all.1)

less : (b : Bool) (q : List Message) → AreUnprecious q → AreUnprecious (if b then rest q else q)
less false q all = all
less true [] all = tt
less true (x ∷ q) all = all.1

front : (q : List Message) (m : Message) → first q ≡ Some m → AreUnprecious q → IsUnprecious m
front [] m is all = absurd (cc)
front (x ∷ q) m is all = let same : x ≡ m = cc in subst (λ (y : Message). IsUnprecious y) same all.0

sent_plain : (header : Header) (outside : Outside) (doing : Command) (host o control : ℕ) (m : Message) (past : List Event)
    → MaySendDown header outside doing host o control m past → IsUnprecious m
sent_plain header outside doing host o control (message.Supply page lock precious bytes) past c = c.3
sent_plain header outside doing host o control other past c = tt

-- what the page is, and what is on its way

record Plain (header : Header) (past : List Event) : Type 0 where
  pub queued : (h o k : ℕ) → is_paged header o ≡ true → AreUnprecious (queue (down_port h o k) past)
  pub here : (h o p : ℕ) → is_paged header o ≡ true → (page_on header h o p past).precious ≡ false

up_plain : (page : ℕ) (live : Option ℕ) (m : Message) → IsPlain (sent_effect page live m)
up_plain page live (message.Init control size) = tt
up_plain page live (message.Create control size) = tt
up_plain page live (message.Terminate control) = plain_if (is_control control live) Ends tt
up_plain page live (message.Request control at access) = plain_if (at.0 == page && is_control control live) Asks tt
up_plain page live (message.Unlock control at access) = plain_if (at.0 == page) Unlocks tt
up_plain page live (message.Return control at dirty keep bytes) = plain_if (at.0 == page) (Returns keep) tt
up_plain page live other = tt

down_plain : (page : ℕ) (m : Message) → IsUnprecious m → IsPlain (taken_effect page m)
down_plain page (message.Supply at lock precious bytes) is = plain_if (at.0 == page) (TakesPage lock precious bytes) is
down_plain page (message.Unavailable at) is = plain_if (at.0 == page) TakesNothing tt
down_plain page (message.Error at reason) is = plain_if (at.0 == page) TakesError tt
down_plain page (message.Lock at count returns flush lock reply) is = plain_if (in_range page at.0 count) (TakesLock lock flush) tt
down_plain page other is = tt

guarded : (b : Bool) (e : LocalEffect) → (b ≡ true → IsPlain e) → IsPlain (if b then e else Elsewhere)
guarded true e is = is refl
guarded false e is = tt

abbrev spot : ℕ → ℕ → Place
spot o p = record { object = o; page = p }

abbrev sources : Header → ℕ → List Event → Place → Local
sources header host past = λ source. local header host source past

-- of two objects that are merged only a page of the lower comes
merge_plain : (upper lower shift upper_pages lower_pages o p : ℕ) (others : Place → Local) → (others (spot lower (shift + p))).precious ≡ false
    → IsPlain (merge_effect upper lower shift upper_pages lower_pages (spot o p) others)
merge_plain upper lower shift upper_pages lower_pages o p others plain =
    by (o == upper) (nat_lt p upper_pages && (nat_lt (shift + p) lower_pages && ((others (spot lower (shift + p))).here && not (others (spot o p)).here)))
    (o == lower && nat_lt p lower_pages)
  where
    by : (a b c : Bool) → IsPlain (if a then (if b then Moves (others (spot lower (shift + p))) else Elsewhere) else (if c then Drops else Elsewhere))
    by true true c = plain
    by true false c = tt
    by false b true = tt
    by false b false = tt

-- the object of a message on a channel
object_is : (a h b o k n : ℕ) (x : Bool) → (a == h && (b == o && x)) ≡ true → b ≡ o
object_is a h b o k n x is = grind (arith, nat_tests)

event_plain : (header : Header) (outside : Outside) (host o p : ℕ) (e : Event) (past : List Event) → Plain header past → HasCause header outside e past
    → is_paged header o ≡ true → IsPlain (effect header host (spot o p) (sources header host past) e past)
event_plain header outside host o p (event.Zeroed at object page) past was c paged = plain_if (at.0 == host && is_place (spot o p) object.0 page.0) Zeroes tt
event_plain header outside host o p (event.Raised at lower lower_page upper upper_page) past was c paged =
    plain_if (at.0 == host && is_place (spot o p) upper.0 upper_page.0) (Raises _) tt
event_plain header outside host o p (event.CopiedPage task page object object_page target) past was c paged =
    plain_if (is_on host (host_of task.0 past) && is_place (spot o p) target.0 page.0) (Raises _) tt
event_plain header outside host o p (event.Stored task object page at size value) past was c paged =
    plain_if (is_on host (host_of task.0 past) && is_place (spot o p) object.0 page.0) (Stores at (little_endian_bytes size value)) tt
event_plain header outside host o p (event.Dropped at object page) past was c paged = plain_if (at.0 == host && is_place (spot o p) object.0 page.0) Drops tt
event_plain header outside host o p (event.Sent (Up at object) m) past was c paged =
    plain_if (at.0 == host && object.0 == o) (sent_effect p (live_control host o past) m) (up_plain p (live_control host o past) m)
event_plain header outside host o p (event.Taken (Down at object control) m) past was c paged =
    guarded (at.0 == host && (object.0 == o && is_control control (live_control host o past))) (taken_effect p m)
    (λ own. down_plain p m (front (queue (Down at object control) past) m c.1.0 (was.queued at.0 object.0 control
    (ap (λ (k : ℕ). is_paged header k) (object_is at.0 host object.0 o control control (is_control control (live_control host o past)) own) ∙ paged))))
event_plain header outside host o p (event.Merged upper lower) past was c paged =
    guarded (is_on host (object_home upper.0 past)) _ (λ own. merge_plain upper.0 lower.0 (backing_of header upper.0 past).shift
    (object_pages header upper.0 past) (object_pages header lower.0 past) o p (sources header host past)
    (was.here host lower.0 ((backing_of header upper.0 past).shift + p) (later_paged header lower.0 c.1.pair.temporary)))
event_plain header outside host o p other past was c paged = tt

queue_plain : (header : Header) (outside : Outside) (h o k : ℕ) (e : Event) (past : List Event) → Plain header past → HasCause header outside e past
    → is_paged header o ≡ true → AreUnprecious (queue (down_port h o k) (e ∷ past))
queue_plain header outside h o k (event.Sent (Down at object n) m) past was c paged =
    added (at.0 == h && (object.0 == o && n == k)) (queue (down_port h o k) past) m
    (λ own. sent_plain header outside c.0 at.0 object.0 n m past
    (paged_may header outside c.0 at.0 object.0 n m past (ap (λ (j : ℕ). is_paged header j) (object_is at.0 h object.0 o k n (n == k) own) ∙ paged) c.1))
    (was.queued h o k paged)
queue_plain header outside h o k (event.Taken (Down at object n) m) past was c paged =
    less (at.0 == h && (object.0 == o && n == k)) (queue (down_port h o k) past) (was.queued h o k paged)
queue_plain header outside h o k e past was c paged = was.queued h o k paged

plain_of : (header : Header) (outside : Outside) (past : List Event) → EachEvent (HasCause header outside) past → Plain header past
plain_of header outside [] caused = record { queued = λ h o k paged. tt; here = λ h o p paged. refl }
plain_of header outside (e ∷ past) caused =
    let was : Plain header past = plain_of header outside past caused.1 in
    record {
      queued = λ h o k paged. queue_plain header outside h o k e past was caused.0 paged;
      here = λ h o p paged.
          plain_moved header.size (effect header h (spot o p) (sources header h past) e past) (page_on header h o p past)
          (event_plain header outside h o p e past was caused.0 paged) (was.here h o p paged);
    }

pub unprecious : (header : Header) (outside : Outside) (host o p : ℕ) (past : List Event) → EachEvent (HasCause header outside) past → is_paged header o ≡ true
    → (page_on header host o p past).precious ≡ false
unprecious header outside host o p past caused paged = (plain_of header outside past caused).here host o p paged
