-- What the server of shared memory says: what is on its way to a control of a shared object, and what a step took of it.
use Rattle.std.proofs.Common.{◌≡◌, ℕ, ◌==◌, ◌&&◌, List, [], ◌∷◌, ◌++◌, Bool, true, false, Option, Some, None, if◌then◌else◌, refl, subst, arith, inl, inr}
use Rattle.std.proofs.lemmas.Bool.Decides.{nat_tests}
use Rattle.std.specs.Prelude.{◌⊎◌}
use Rattle.vm_base.specs.declared.ids.HostId.{HostId}
use Rattle.vm_base.specs.declared.ids.ObjectId.{ObjectId}
use Rattle.vm_base.specs.declared.ids.ObjectKind.{ObjectKind}
use Rattle.vm_base.specs.declared.ids.ObjectKind.TheVariants.{Temp, File, Shared, Wild}
use Rattle.vm_model.specs.declared.command.Command.{Command}
use Rattle.vm_model.specs.declared.event.Event.{Event}
use Rattle.vm_model.specs.declared.event.Event.TheVariants as event
use Rattle.vm_model.specs.declared.message.Channel.TheVariants.{Up, Down}
use Rattle.vm_model.specs.declared.message.Message.{Message}
use Rattle.vm_model.specs.declared.message.Message.TheVariants as message
use Rattle.vm_model.specs.declared.script.Header.{Header}
use Rattle.vm_model.specs.Channels.{down_port, queue}
use Rattle.vm_model.specs.Controls.{is_control, live_control}
use Rattle.vm_model.specs.Moments.{EachEvent}
use Rattle.vm_model.specs.PageLicences.{RecallRow, SupplyRow}
use Rattle.vm_model.specs.Server.{Wanting, first}
use Rattle.vm_model.specs.Side.{rest}
use Rattle.vm_model.specs.Words.{Act}
use Rattle.vm_legal.specs.Licences.{HasCause, LockRequest, PagerSends, ServerSends, lock_taken}
use Rattle.vm_legal.specs.Outside.{Outside, is_shared, is_shared_kind, kind_of}
use Rattle.vm_legal.specs.Steps.{Asked, absence_of, absence_taken, error_of, error_taken}
use Rattle.vm_quiet.proofs.Letters.{never}

-- a shared page's lock: none, or one that prohibits writing
abbrev pub IsLock : ℕ → Type 0
IsLock lock = (lock ≡ 0) ⊎ (lock ≡ 2)

-- a flush, a clean lock, or an unlock, each of one page
abbrev pub IsServersLock : ℕ → ℕ → Bool → ℕ → Bool → Type 0
IsServersLock count returns true lock true = (count ≡ 1) × (returns ≡ 1) × (lock ≡ 8)
IsServersLock count returns false lock true = (count ≡ 1) × (returns ≡ 1) × (lock ≡ 2)
IsServersLock count returns true lock false = ⊥
IsServersLock count returns false lock false = (count ≡ 1) × (returns ≡ 0) × (lock ≡ 0)

-- the five kinds of its messages
abbrev pub IsServers : Message → Type 0
IsServers (message.Supply page lock precious bytes) = IsLock lock × (precious ≡ false)
IsServers (message.Lock page count returns flush lock reply) = IsServersLock count returns flush lock reply
IsServers (message.Ready cache strategy) = Unit {0}
IsServers other = ⊥

abbrev pub AreServers : List Message → Type 0
AreServers [] = Unit {0}
AreServers (m ∷ q) = IsServers m × AreServers q

supply_lock : (h lock : ℕ) (past : List Act) (w : Option Wanting) → SupplyRow h lock past w → IsLock lock
supply_lock h lock past None row = absurd row
supply_lock h lock past (Some w) row = by (w.access == 3) row.2
  where
    by : (b : Bool) → lock ≡ (if b then 0 else 2) → IsLock lock
    by true is = inl is
    by false is = inr is

recall_lock : (h count returns : ℕ) (flush : Bool) (lock holds : ℕ) (w : Option Wanting) → count ≡ 1 → returns ≡ 1 → RecallRow h flush lock holds w
    → IsServersLock count returns flush lock true
recall_lock h count returns true lock holds None one kind row = absurd row
recall_lock h count returns false lock holds None one kind row = absurd row
recall_lock h count returns true lock holds (Some w) one kind row = (one, kind, row.1)
recall_lock h count returns false lock holds (Some w) one kind row = (one, kind, row.1)

sends_servers : (header : Header) (host object control : ℕ) (m : Message) (past : List Event) → ServerSends header host object control m past → IsServers m
sends_servers header host object control (message.Supply page lock precious bytes) past c = (supply_lock host lock _ _ c.4, c.1)
sends_servers header host object control (message.Lock page count returns flush lock true) past c = recall_lock host count returns flush lock _ _ c.1 c.2 c.5
sends_servers header host object control (message.Lock page count returns true lock false) past c = let bad : true ≡ false = c.3 in cc
sends_servers header host object control (message.Lock page count returns false lock false) past c = (c.1, c.2, c.4)
sends_servers header host object control (message.Ready cache strategy) past c = tt
sends_servers header host object control m past c = absurd c

pub shared_sends : (kind : ObjectKind) (header : Header) (outside : Outside) (why : Command) (host object control : ℕ) (m : Message) (past : List Event)
    → is_shared_kind kind ≡ true → PagerSends kind header outside why host object control m past → ServerSends header host object control m past
shared_sends Temp header outside why host object control m past is c = never is
shared_sends File header outside why host object control m past is c = never is
shared_sends Shared header outside why host object control m past is c = c
shared_sends Wild header outside why host object control m past is c = never is

-- what is on its way down

servers_if : (b : Bool) (q : List Message) (m : Message) → (b ≡ true → IsServers m) → AreServers q → AreServers (if b then q ++ m ∷ [] else q)
servers_if false q m one all = all
servers_if true q m one all = end q all
  where
    end : (q : List Message) → AreServers q → AreServers (q ++ m ∷ [])
    end [] all = (one refl, tt)
    end (x ∷ q) all = (all.0, end q all.1)

servers_rest : (b : Bool) (q : List Message) → AreServers q → AreServers (if b then rest q else q)
servers_rest false q all = all
servers_rest true [] all = tt
servers_rest true (x ∷ q) all = all.1

servers_first : (q : List Message) (m : Message) → first q ≡ Some m → AreServers q → IsServers m
servers_first [] m is all = absurd (cc)
servers_first (x ∷ q) m is all = let same : x ≡ m = cc in subst (λ (y : Message). IsServers y) same all.0

same_object : (a h b o c k : ℕ) → (a == h && (b == o && c == k)) ≡ true → o ≡ b
same_object a h b o c k is = grind (arith, nat_tests)

pub servers_of : (header : Header) (outside : Outside) (past : List Event) → EachEvent (HasCause header outside) past → (h o k : ℕ) → is_shared header o ≡ true
    → AreServers (queue (down_port h o k) past)
servers_of header outside [] caused h o k shared = tt
servers_of header outside (event.Sent (Down host object control) m ∷ past) caused h o k shared =
    servers_if (host.0 == h && (object.0 == o && control == k)) (queue (down_port h o k) past) m
    (λ is.
    let its : is_shared header object.0 ≡ true = subst (λ j. is_shared header j ≡ true) (same_object host.0 h object.0 o control k is) shared in
    sends_servers header host.0 object.0 control m past (shared_sends (kind_of header object.0) header outside caused.0.0 host.0 object.0 control m past its
    caused.0.1))
    (servers_of header outside past caused.1 h o k shared)
servers_of header outside (event.Taken (Down host object control) m ∷ past) caused h o k shared =
    servers_rest (host.0 == h && (object.0 == o && control == k)) (queue (down_port h o k) past) (servers_of header outside past caused.1 h o k shared)
servers_of header outside (e ∷ past) caused h o k shared = servers_of header outside past caused.1 h o k shared

-- what a step took

pub taken_servers : (header : Header) (outside : Outside) (host : HostId) (object : ObjectId) (control : ℕ) (m : Message) (past : List Event)
    → EachEvent (HasCause header outside) past → first (queue (Down host object control) past) ≡ Some m → is_shared header object.0 ≡ true → IsServers m
taken_servers header outside host object control m past caused head shared =
    servers_first (queue (down_port host.0 object.0 control) past) m head (servers_of header outside past caused host.0 object.0 control shared)

-- the lock that a step took
abbrev pub IsServersRequest : Option LockRequest → Header → Type 0
IsServersRequest None header = Unit {0}
IsServersRequest (Some r) header = is_shared header r.object ≡ true → IsServersLock r.count r.returns r.flush r.lock r.reply

request_if : (b : Bool) (header : Header) (r : LockRequest) → (is_shared header r.object ≡ true → IsServersLock r.count r.returns r.flush r.lock r.reply)
    → IsServersRequest (if b then Some r else None) header
request_if true header r is = is
request_if false header r is = tt

pub lock_is : (header : Header) (outside : Outside) (past : List Event) → EachEvent (HasCause header outside) past → IsServersRequest (lock_taken past) header
lock_is header outside [] caused = tt
lock_is header outside (event.Line line ∷ past) caused = tt
lock_is header outside (event.Taken (Down host object control) (message.Lock page count returns flush lock reply) ∷ past) caused =
    request_if (is_control control (live_control host.0 object.0 past)) header (record
    { host = host.0; object = object.0; control = control; page = page.0; count = count; returns = returns; flush = flush; lock = lock; reply = reply })
    (λ shared. taken_servers header outside host object control (message.Lock page count returns flush lock reply) past caused.1 caused.0.1.0 shared)
lock_is header outside (event.Taken (Down host object control) m ∷ past) caused = tt
lock_is header outside (event.Taken (Up host object) m ∷ past) caused = tt
lock_is header outside (e ∷ past) caused = lock_is header outside past caused.1

-- no page of shared memory lacks, and none fails
abbrev pub IsElsewhere : Option Asked → Header → Type 0
IsElsewhere None header = Unit {0}
IsElsewhere (Some asked) header = is_shared header asked.object ≡ true → ⊥

elsewhere_if : (b : Bool) (header : Header) (asked : Asked) → (is_shared header asked.object ≡ true → ⊥) → IsElsewhere (if b then Some asked else None) header
elsewhere_if true header asked is = is
elsewhere_if false header asked is = tt

lacking : (header : Header) (host object : ℕ) (asked : ℕ → Bool) (m : Message) → (is_shared header object ≡ true → IsServers m)
    → IsElsewhere (absence_of host object asked m) header
lacking header host object asked (message.Unavailable page) is = elsewhere_if (asked page.0) header (record { host = host; object = object; page = page.0 }) is
lacking header host object asked m is = tt

failing : (header : Header) (host object : ℕ) (asked : ℕ → Bool) (m : Message) → (is_shared header object ≡ true → IsServers m)
    → IsElsewhere (error_of host object asked m) header
failing header host object asked (message.Error page reason) is = elsewhere_if (asked page.0) header (record { host = host; object = object; page = page.0 }) is
failing header host object asked m is = tt

pub none_lacks : (header : Header) (outside : Outside) (past : List Event) → EachEvent (HasCause header outside) past
    → IsElsewhere (absence_taken header past) header
none_lacks header outside [] caused = tt
none_lacks header outside (event.Line line ∷ past) caused = tt
none_lacks header outside (event.Taken (Down host object control) m ∷ past) caused =
    lacking header host.0 object.0 _ m (λ shared. taken_servers header outside host object control m past caused.1 caused.0.1.0 shared)
none_lacks header outside (event.Taken (Up host object) m ∷ past) caused = tt
none_lacks header outside (e ∷ past) caused = none_lacks header outside past caused.1

pub none_fails : (header : Header) (outside : Outside) (past : List Event) → EachEvent (HasCause header outside) past
    → IsElsewhere (error_taken header past) header
none_fails header outside [] caused = tt
none_fails header outside (event.Line line ∷ past) caused = tt
none_fails header outside (event.Taken (Down host object control) m ∷ past) caused =
    failing header host.0 object.0 _ m (λ shared. taken_servers header outside host object control m past caused.1 caused.0.1.0 shared)
none_fails header outside (event.Taken (Up host object) m ∷ past) caused = tt
none_fails header outside (e ∷ past) caused = none_fails header outside past caused.1
