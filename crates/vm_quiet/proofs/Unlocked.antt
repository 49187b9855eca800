-- No page of temporary memory or of a file has a lock, whatever else the header declares.
use Rattle.std.proofs.Common.{ℕ, ◌≡◌, List, [], ◌∷◌, ◌++◌, Bool, true, false, refl, subst, arith, Some, if◌then◌else◌}
use Rattle.std.proofs.lemmas.Bool.Decides.{nat_tests}
use Rattle.std.specs.Prelude.{◌==◌, ◌&&◌, ◌||◌, ◌+◌}
use Rattle.vm_base.specs.Pages.{little_endian_bytes}
use Rattle.vm_base.specs.declared.ids.HostId.{HostId}
use Rattle.vm_base.specs.declared.ids.ObjectId.{ObjectId}
use Rattle.vm_model.specs.declared.command.Command.{Command}
use Rattle.vm_model.specs.declared.event.Event.{Event}
use Rattle.vm_model.specs.declared.event.Event.TheVariants as event
use Rattle.vm_model.specs.declared.message.Channel.TheVariants.{Up, Down}
use Rattle.vm_model.specs.declared.message.Message.{Message}
use Rattle.vm_model.specs.declared.message.Message.TheVariants as message
use Rattle.vm_model.specs.declared.script.Header.{Header}
use Rattle.vm_model.specs.Channels.{queue, down_port}
use Rattle.vm_model.specs.Controls.{is_control, live_control}
use Rattle.vm_model.specs.Homes.{object_home}
use Rattle.vm_model.specs.Local.{LocalEffect, Local, Zeroes, Raises, Stores, Drops, Moves, Returns, Asks, Unlocks, TakesPage, TakesNothing, TakesError}
use Rattle.vm_model.specs.Local.{TakesLock}
use Rattle.vm_model.specs.Local.{Begins, Ends, Elsewhere, effect, is_on, local, local_after}
use Rattle.vm_model.specs.Moments.{EachEvent}
use Rattle.vm_model.specs.Regions.{backing_of, object_pages}
use Rattle.vm_model.specs.Server.{first}
use Rattle.vm_model.specs.Side.{rest}
use Rattle.vm_model.specs.Tasks.{host_of}
use Rattle.vm_model.specs.Words.{in_range}
use Rattle.vm_legal.proofs.Served.{later_paged, paged_may}
use Rattle.vm_legal.specs.Licences.{HasCause, MaySendDown, is_paged}
use Rattle.vm_legal.specs.Outside.{Outside}
use Rattle.vm_legal.specs.Walks.{page_on}
use Rattle.vm_quiet.proofs.Letters.{never}
use Rattle.vm_quiet.proofs.Sane.{at_place, merge_case}

-- an effect that locks nothing
abbrev pub LocksNothing : LocalEffect → Type 0
LocksNothing (TakesPage lock precious bytes) = lock ≡ 0
LocksNothing (TakesLock lock flush) = lock ≡ 8
LocksNothing (Moves page) = page.lock ≡ 0
LocksNothing other = Unit {0}

lock_kept : (flush : Bool) (lock was : ℕ) → lock ≡ 8 → was ≡ 0 → (if flush || lock == 8 then was else lock) ≡ 0
lock_kept true lock was is open_ = open_
lock_kept false lock was is open_ = by (lock == 8) (eight lock is)
  where
    eight : (l : ℕ) → l ≡ 8 → (l == 8) ≡ true
    eight l e = grind (arith, nat_tests)

    by : (b : Bool) → b ≡ true → (if b then was else lock) ≡ 0
    by true e = open_
    by false e = never e

lock_moved : (size : ℕ) (e : LocalEffect) (was : Local) → LocksNothing e → was.lock ≡ 0 → (local_after size e was).lock ≡ 0
lock_moved size Zeroes was c is = refl
lock_moved size (Raises bytes) was c is = refl
lock_moved size (Stores at bytes) was c is = is
lock_moved size Drops was c is = refl
lock_moved size (Moves page) was c is = c
lock_moved size (Returns true) was c is = is
lock_moved size (Returns false) was c is = refl
lock_moved size Asks was c is = is
lock_moved size Unlocks was c is = is
lock_moved size (TakesPage lock precious bytes) was c is = by was.asked
  where
    by : (b : Bool) → (if b then record was {
      here = true;
      bytes = bytes;
      lock = lock;
      dirty = false;
      precious = precious;
      unlocking = false;
      asked = false;
    } else was).lock ≡ 0
    by true = c
    by false = is
lock_moved size TakesNothing was c is = by was.asked
  where
    by : (b : Bool) → (if b then record was { asked = false; absent = true } else was).lock ≡ 0
    by true = is
    by false = is
lock_moved size TakesError was c is = is
lock_moved size (TakesLock lock flush) was c is = by was.here
  where
    by : (b : Bool) → (if b then record was { lock = if flush || lock == 8 then was.lock else lock; unlocking = false } else was).lock ≡ 0
    by true = lock_kept flush lock was.lock c is
    by false = is
lock_moved size Begins was c is = is
lock_moved size Ends was c is = is
lock_moved size Elsewhere was c is = is

-- the messages down have no lock
abbrev pub IsPlain : Message → Type 0
IsPlain (message.Supply page lock precious bytes) = lock ≡ 0
IsPlain (message.Lock page count returns flush lock reply) = lock ≡ 8
IsPlain other = Unit {0}

abbrev pub ArePlain : List Message → Type 0
ArePlain [] = Unit {0}
ArePlain (m ∷ q) = IsPlain m × ArePlain q

plain_if : (b : Bool) (q : List Message) (m : Message) → (b ≡ true → IsPlain m) → ArePlain q → ArePlain (if b then q ++ m ∷ [] else q)
plain_if false q m one all = all
plain_if true q m one all = end q all
  where
    end : (q : List Message) → ArePlain q → ArePlain (q ++ m ∷ [])
    end [] all = (one refl, tt)
    end (x ∷ q) all = (all.0, end q all.1)

plain_rest : (b : Bool) (q : List Message) → ArePlain q → ArePlain (if b then rest q else q)
plain_rest false q all = all
plain_rest true [] all = tt
plain_rest true (x ∷ q) all = all.1

plain_first : (q : List Message) (m : Message) → first q ≡ Some m → ArePlain q → IsPlain m
plain_first [] m is all = absurd (cc)
plain_first (x ∷ q) m is all = let same : x ≡ m = cc in subst (λ (y : Message). IsPlain y) same all.0

-- a temporary object or a file on a host: no page of it has a lock, and none is on its way
pub record HasNoLock (header : Header) (host o : ℕ) (past : List Event) : Type 0 where
  pub locks : (p : ℕ) → (page_on header host o p past).lock ≡ 0
  pub plain : (k : ℕ) → ArePlain (queue (down_port host o k) past)

if_nothing : (b : Bool) (e : LocalEffect) → (b ≡ true → LocksNothing e) → LocksNothing (if b then e else Elsewhere)
if_nothing true e is = is refl
if_nothing false e is = tt

two_nothing : (s t : Bool) (e : LocalEffect) → (s ≡ true → LocksNothing e) → LocksNothing (if s then (if t then e else Elsewhere) else Elsewhere)
two_nothing true t e is = if_nothing t e (λ at. is refl)
two_nothing false t e is = tt

up_nothing : (header : Header) (host : ℕ) (at : HostId) (object : ObjectId) (m : Message) (past : List Event) (o p : ℕ)
    → LocksNothing (effect header host (record { object = o; page = p }) (λ source. local header host source past) (event.Sent (Up at object) m) past)
up_nothing header host at object (message.Init control size) past o p = if_nothing (at.0 == host && object.0 == o) Begins (λ is. tt)
up_nothing header host at object (message.Create control size) past o p = if_nothing (at.0 == host && object.0 == o) Begins (λ is. tt)
up_nothing header host at object (message.Terminate control) past o p =
    two_nothing (at.0 == host && object.0 == o) (is_control control (live_control host o past)) Ends (λ is. tt)
up_nothing header host at object (message.Request control page access) past o p =
    two_nothing (at.0 == host && object.0 == o) (page.0 == p && is_control control (live_control host o past)) Asks (λ is. tt)
up_nothing header host at object (message.Unlock control page access) past o p = two_nothing (at.0 == host && object.0 == o) (page.0 == p) Unlocks (λ is. tt)
up_nothing header host at object (message.Return control page dirty keep bytes) past o p =
    two_nothing (at.0 == host && object.0 == o) (page.0 == p) (Returns keep) (λ is. tt)
up_nothing header host at object m past o p = if_nothing (at.0 == host && object.0 == o) Elsewhere (λ is. tt)

down_nothing : (header : Header) (host : ℕ) (at : HostId) (object : ObjectId) (control : ℕ) (m : Message) (past : List Event) (o p : ℕ)
    → ((at.0 == host && object.0 == o) ≡ true → IsPlain m)
    → LocksNothing (effect header host (record { object = o; page = p }) (λ source. local header host source past) (event.Taken (Down at object control) m)
    past)
down_nothing header host at object control (message.Supply page lock precious bytes) past o p plain =
    two_nothing (at.0 == host && (object.0 == o && is_control control (live_control host o past))) (page.0 == p) (TakesPage lock precious bytes)
    (λ is. plain (pair (at.0 == host) (object.0 == o) (is_control control (live_control host o past)) is))
  where
    pair : (a b c : Bool) → (a && (b && c)) ≡ true → (a && b) ≡ true
    pair true true c e = refl
    pair true false c e = never e
    pair false b c e = never e
down_nothing header host at object control (message.Lock page count returns flush lock reply) past o p plain =
    two_nothing (at.0 == host && (object.0 == o && is_control control (live_control host o past))) (in_range p page.0 count) (TakesLock lock flush)
    (λ is. plain (pair (at.0 == host) (object.0 == o) (is_control control (live_control host o past)) is))
  where
    pair : (a b c : Bool) → (a && (b && c)) ≡ true → (a && b) ≡ true
    pair true true c e = refl
    pair true false c e = never e
    pair false b c e = never e
down_nothing header host at object control (message.Unavailable page) past o p plain =
    two_nothing (at.0 == host && (object.0 == o && is_control control (live_control host o past))) (page.0 == p) TakesNothing (λ is. tt)
down_nothing header host at object control (message.Error page reason) past o p plain =
    two_nothing (at.0 == host && (object.0 == o && is_control control (live_control host o past))) (page.0 == p) TakesError (λ is. tt)
down_nothing header host at object control m past o p plain =
    if_nothing (at.0 == host && (object.0 == o && is_control control (live_control host o past))) Elsewhere (λ is. tt)

nothing_next : (header : Header) (outside : Outside) (host o : ℕ) (e : Event) (past : List Event) → HasNoLock header host o past
    → ((k q : ℕ) → is_paged header k ≡ true → (page_on header host k q past).lock ≡ 0) → HasCause header outside e past → (p : ℕ)
    → LocksNothing (effect header host (record { object = o; page = p }) (λ source. local header host source past) e past)
nothing_next header outside host o (event.Zeroed at object page) past h unlocked c p =
    if_nothing (at.0 == host && (object.0 == o && page.0 == p)) Zeroes (λ is. tt)
nothing_next header outside host o (event.Raised at lower lower_page upper upper_page) past h unlocked c p =
    if_nothing (at.0 == host && (upper.0 == o && upper_page.0 == p)) (Raises (page_on header host lower.0 lower_page.0 past).bytes) (λ is. tt)
nothing_next header outside host o (event.CopiedPage task page object object_page target) past h unlocked c p =
    if_nothing (is_on host (host_of task.0 past) && (target.0 == o && page.0 == p)) (Raises (page_on header host object.0 object_page.0 past).bytes) (λ is. tt)
nothing_next header outside host o (event.Stored task object page at size value) past h unlocked c p =
    if_nothing (is_on host (host_of task.0 past) && (object.0 == o && page.0 == p)) (Stores at (little_endian_bytes size value)) (λ is. tt)
nothing_next header outside host o (event.Dropped at object page) past h unlocked c p =
    if_nothing (at.0 == host && (object.0 == o && page.0 == p)) Drops (λ is. tt)
nothing_next header outside host o (event.Merged upper lower) past h unlocked c p =
    merge_case LocksNothing (is_on host (object_home upper.0 past)) upper.0 lower.0 (backing_of header upper.0 past).shift
    (object_pages header upper.0 past) (object_pages header lower.0 past) o p (λ source. local header host source past)
    (λ on own here. unlocked lower.0 ((backing_of header upper.0 past).shift + p) (later_paged header lower.0 c.1.pair.temporary)) (λ on own. tt) tt
nothing_next header outside host o (event.Sent (Up at object) m) past h unlocked c p = up_nothing header host at object m past o p
nothing_next header outside host o (event.Taken (Down at object control) m) past h unlocked c p =
    down_nothing header host at object control m past o p
    (λ is. plain_first (queue (down_port host o control) past) m (at_place (λ g k. first (queue (down_port g k control) past) ≡ Some m) at.0 object.0 host o is
    c.1.0) (h.plain control))
nothing_next header outside host o e past h unlocked c p = tt

down_plain : (header : Header) (outside : Outside) (doing : Command) (h o k : ℕ) (m : Message) (past : List Event)
    → MaySendDown header outside doing h o k m past → IsPlain m
down_plain header outside doing h o k (message.Supply page lock precious bytes) past c = c.2
down_plain header outside doing h o k (message.Lock page count returns flush lock reply) past c = c.2
down_plain header outside doing h o k m past c = tt

plain_next : (header : Header) (outside : Outside) (host o : ℕ) (e : Event) (past : List Event) → is_paged header o ≡ true → HasNoLock header host o past
    → HasCause header outside e past → (k : ℕ) → ArePlain (queue (down_port host o k) (e ∷ past))
plain_next header outside host o (event.Sent (Down at object n) m) past paged h c k =
    plain_if (at.0 == host && (object.0 == o && n == k)) (queue (down_port host o k) past) m
    (λ is. down_plain header outside c.0 at.0 object.0 n m past (paged_may header outside c.0 at.0 object.0 n m past
    (subst (λ b. is_paged header b ≡ true) (same at.0 object.0 n host o k is) paged) c.1))
    (h.plain k)
  where
    same : (a b n h o k : ℕ) → (a == h && (b == o && n == k)) ≡ true → o ≡ b
    same a b n h o k is = grind (arith, nat_tests)
plain_next header outside host o (event.Taken (Down at object n) m) past paged h c k =
    plain_rest (at.0 == host && (object.0 == o && n == k)) (queue (down_port host o k) past) (h.plain k)
plain_next header outside host o e past paged h c k = h.plain k

pub no_lock : (header : Header) (outside : Outside) (host o : ℕ) (history : List Event) → is_paged header o ≡ true → EachEvent (HasCause header outside) history
    → HasNoLock header host o history
no_lock header outside host o [] paged c = record { locks = λ p. refl; plain = λ k. tt }
no_lock header outside host o (e ∷ past) paged c =
    let was = no_lock header outside host o past paged c.1 in
    record {
      locks =
          λ p. lock_moved header.size (effect header host (record { object = o; page = p }) (λ source. local header host source past) e past)
          (page_on header host o p past) (nothing_next header outside host o e past was
          (λ k q ours. (no_lock header outside host k past ours c.1).locks q) c.0 p) (was.locks p);
      plain = plain_next header outside host o e past paged was c.0;
    }
