-- A lock request that a host took is done, and paid.
use Rattle.vm_kernel.proofs.Common.{AllInner, Bool, Command, Event, FailsNow, Fit, Header, HostId, HostParts, Ids, IsAbsencePaid, IsBrought, LaundryList}
use Rattle.vm_kernel.proofs.Common.{LegalEvents, List, Message, None, ObjectId, ObjectRow, Option, Outside, PageNo, Parts, Plays, Rests, RunsNoneYet, Some}
use Rattle.vm_kernel.proofs.Common.{Still, Works, [], absence_more, ap, append_assoc, arith, eqb_tells, error_more, false, host_id, if◌then◌else◌, inl, inr}
use Rattle.vm_kernel.proofs.Common.{is_control, live_in, no_request, object_at, paging, refl, returns_out, some_is, subst, sym, true, ℕ, ◌++◌, ◌<◌, ◌∙◌, ◌∷◌}
use Rattle.vm_kernel.proofs.Common.{◌≡◌}
use Rattle.std.specs.Prelude.{map, ◌⊎◌}
use Rattle.vm_kernel.proofs.controls.AnswerEffects.{hears, nothing_dead}
use Rattle.vm_kernel.proofs.steps.EventsGrow.{goes_none}
use Rattle.vm_kernel.proofs.controls.WordHeard.{no_absence}
use Rattle.vm_kernel.proofs.memory.FramesHeld.{room_once}
use Rattle.vm_kernel.proofs.controls.RangeLocked.{IsTaken, Request, request_at, wanted_at}
use Rattle.vm_kernel.proofs.controls.LockDone.{Done, done, inner_of}
use Rattle.vm_kernel.proofs.controls.WordTaken.{changed_none, stays_heard, works_flagged, works_of as heard_works}
use Rattle.vm_kernel.proofs.controls.PageLocked.{asks}
use Rattle.vm_kernel.proofs.controls.LockRequested.{mid_taken}
use Rattle.vm_kernel.proofs.abroad.OtherLists.{matches_with}
use Rattle.vm_kernel.proofs.abroad.OwnHost.{named_host}
use Rattle.vm_kernel.proofs.steps.FramesInTurn.{unrun}
use Rattle.vm_kernel.specs.Taking.{HasEnded, IsLockPaid, IsWord, KeepsAskers, is_lock_request, is_unlocked}
use Rattle.vm_legal.proofs.Paying.{lock_more, locked_more}
use Rattle.vm_legal.specs.Debts.{HasLocked}
use Rattle.vm_legal.specs.Licences.{LockRequest, lock_taken}
use Rattle.vm_model.specs.Controls.{live_control}
use Rattle.vm_locks.specs.Obeys.{CanLock, LockState, Obeys, PagesObey, Replies, lock_state}
use Rattle.vm_locks.specs.Requests.{IsLockRequest}
use Rattle.vm_locks.specs.declared.request.LockRequest.{LockRequest as Wanted}
use Rattle.vm_model.specs.declared.message.Message.TheVariants as message
use Rattle.vm_queues.specs.Queues.{EachOnce}
use Rattle.vm_supply.specs.declared.woken.Woken.{Woken}
use Rattle.vm_supply.specs.declared.woken.Woken.TheVariants as woken
use Rattle.vm_waits.specs.Waits as waits
use Rattle.vm_waits.specs.Waits.{WaitTable}
use Rattle.vm_waits.specs.declared.waiting.Waiting.{Waiting}

-- the message is a lock request
pub record IsLock (m : Message) : Type 0 where
  pub page : PageNo
  pub count : ℕ
  pub returns : ℕ
  pub flush : Bool
  pub lock : ℕ
  pub reply : Bool
  pub is : m ≡ message.Lock page count returns flush lock reply
  pub asks : (returns < 3) × ((lock < 4) ⊎ (lock ≡ 8))

pub lock_of : (size : ℕ) (m : Message) → IsWord size m → is_lock_request m ≡ true → IsLock m
lock_of size (message.Lock page count returns flush lock reply) word asks =
    record { page = page; count = count; returns = returns; flush = flush; lock = lock; reply = reply; is = refl; asks = word }
lock_of size other word asks = absurd (let bad : false ≡ true = asks in cc)

-- the control of an object lives
pub record IsLive (x : Option ObjectRow) (control : ℕ) : Type 0 where
  pub known : ObjectRow
  pub is : x ≡ Some known
  pub live : known.live ≡ true
  pub number : known.control ≡ control

pub live_of : (x : Option ObjectRow) (control : ℕ) → is_control control (live_in x) ≡ true → IsLive x control
live_of None control lives = absurd (let bad : false ≡ true = lives in cc)
live_of (Some known) control lives = by known.live refl lives
  where
    by : (b : Bool) → known.live ≡ b → is_control control (if b then Some known.control else None) ≡ true → IsLive (Some known) control
    by true live same = elim (eqb_tells known.control control) [
      | inl is ↦ record { known = known; is = refl; live = live; number = is.1 }
      | inr apart ↦ absurd (let bad : false ≡ true = sym apart.0 ∙ same in cc)
    ]
    by false live same = absurd (let bad : false ≡ true = same in cc)

-- so it can be done
pub can_lock : (header : Header) (h : ℕ) (k : Parts) (ids : Ids) (past : List Event) (object : ObjectId) (control : ℕ) (m : Message) (events : List Event)
    → Rests header h k ids past → IsWord k.size m → is_lock_request m ≡ true → is_control control (live_in (object_at k.memory.objects object.0)) ≡ true
    → EachOnce (k.memory.queues.inactive ++ k.memory.queues.active) → CanLock (lock_state k.memory k.laundry.held k.laundry.room events) object.0 m
can_lock header h k ids past object control m events rests word asks lives once =
    let is = lock_of k.size m word asks in
    let live = live_of (object_at k.memory.objects object.0) control lives in
    let m2 = rests.matches in
    record {
      fit = m2.core.fits.parts;
      asks = subst IsLockRequest (sym is.is) is.asks;
      row = live.known;
      known = live.is;
      live = live.live;
      room =
          room_once k.memory k.laundry (returns_out h past) m2.core.fits.parts m2.core.pages.washed
          (let fits = m2.core.pages.counted.fits in omega (arith, fits)) once;
    }

-- what the request comes to
pub record Heeds (header : Header) (h : ℕ) (outside : Outside) (doing : Command) (k new : Parts) (ids : Ids) (past after : List Event) : Type 0 where
  pub works : Works header h new ids woken.Nobody (after ++ past)
  pub fails : FailsNow header h woken.Nobody (after ++ past)
  pub goes : LegalEvents header h outside doing past [] after
  pub early : RunsNoneYet after
  pub zeroed : IsAbsencePaid header (after ++ past)
  pub locked : IsLockPaid header (after ++ past)
  pub plays : Plays header past [] (paging k) after (paging new)

-- it was for another control
heeds_dead : (header : Header) (h : ℕ) (outside : Outside) (doing : Command) (k : Parts) (ids : Ids) (past : List Event) (object : ObjectId) (control : ℕ)
    (page : PageNo) (count returns : ℕ) (flush : Bool) (lock : ℕ) (reply : Bool) → Rests header h k ids past
    → is_control control (live_in (object_at k.memory.objects object.0)) ≡ false
    → Heeds header h outside doing k k ids (asks h object control page count returns flush lock reply ∷ past) []
heeds_dead header h outside doing k ids past object control page count returns flush lock reply rests dead =
    let now = asks h object control page count returns flush lock reply ∷ past in
    let m = message.Lock page count returns flush lock reply in
    let dead_now : is_control control (live_control h object.0 past) ≡ false = ap (is_control control) (rests.matches.core.controls.live object.0) ∙ dead in
    let none : lock_taken now ≡ None = ap (λ b. if b then Some (record {
      host = h;
      object = object.0;
      control = control;
      page = page.0;
      count = count;
      returns = returns;
      flush = flush;
      lock = lock;
      reply = reply;
    }) else None) dead_now in
    record {
      works =
          works_flagged
          (heard_works header h k ids woken.Nobody k.memory past now rests (stays_heard header h k ids past object control m rests (none, refl))
          rests.matches.core.fits.parts
          refl (changed_none header h k ids past object control m rests (nothing_dead header h object control m past dead_now))) (λ o less. refl);
      fails = refl;
      goes = goes_none header h outside doing now [];
      early = unrun [] tt;
      zeroed = no_absence header now refl;
      locked = λ request is. no_request request now none is;
      plays = Still;
    }

-- a kernel works with other buffers of the same size
works_roomier : {header : Header} {h : ℕ} (k : Parts) {ids : Ids} {past : List Event} (memory : HostParts) (laundry : LaundryList)
    → Works header h (record k { memory = record memory { buffers = k.memory.buffers }; laundry = laundry }) ids woken.Nobody past → Fit memory
    → memory.buffers.size ≡ k.memory.buffers.size
    → Works header h (record k { memory = memory; laundry = laundry }) ids woken.Nobody past
works_roomier k memory laundry works fit size =
    record {
      matches = matches_with memory.queues memory.buffers k.waits (λ t r. refl) fit size works.matches;
      used = works.used;
      referred = works.referred;
      thin = works.thin;
      waits = works.waits;
      order = works.order;
    }

-- or it was done, and those are to be run again that waited for unlocks under it
heeds_live : (header : Header) (h : ℕ) (outside : Outside) (doing : Command) (k : Parts) (ids : Ids) (past : List Event) (object : ObjectId) (control : ℕ)
    (page : PageNo) (count returns : ℕ) (flush : Bool) (lock : ℕ) (reply : Bool) (memory : HostParts) (laundry : LaundryList) (waits2 : WaitTable)
    (after : List Event) → Rests header h k ids past
    → (returns < 3) × ((lock < 4) ⊎ (lock ≡ 8)) → is_control control (live_in (object_at k.memory.objects object.0)) ≡ true
    → waits2.rows ≡ map (waits.woken (is_unlocked k.memory.resident object.0 page.0 count)) k.waits.rows
    → Obeys k.host object (message.Lock page count returns flush lock reply) (lock_state k.memory k.laundry.held k.laundry.room [])
    (lock_state memory laundry.held laundry.room after)
    → Fit memory → memory.buffers.size ≡ k.memory.buffers.size
    → Heeds header h outside doing k (record k { memory = memory; laundry = laundry; waits = waits2 }) ids
    (asks h object control page count returns flush lock reply ∷ past) after
heeds_live header h outside doing k ids past object control page count returns flush lock reply memory laundry waits2 after rests few lives woke obeys fit
    size =
    record {
      works = works_roomier (record k { waits = waits2 }) memory laundry its.works fit size;
      fails = error_more header after now inner;
      goes = its.goes;
      early = unrun after its.quiet;
      zeroed = no_absence header (after ++ now) (absence_more header after now inner);
      locked =
          λ request is. subst (λ (z : LockRequest). HasLocked header z (after ++ now))
          (some_is (request_at r) request (sym (lock_more after now inner ∙ taken.taken) ∙ is)) its.paid;
      plays = its.plays;
    }
  where
    now : List Event
    now = asks h object control page count returns flush lock reply ∷ past

    live : IsLive (object_at k.memory.objects object.0) control
    live = live_of (object_at k.memory.objects object.0) control lives

    lives_now : is_control control (live_control h object.0 past) ≡ true
    lives_now = ap (is_control control) (rests.matches.core.controls.live object.0) ∙ lives

    r : Request
    r = record {
      header = header;
      host = h;
      outside = outside;
      command = doing;
      ids = ids;
      kernel = record k { waits = waits2 };
      past = asks h object control page count returns flush lock reply ∷ past;
      object = object;
      known = live.known;
      page = page;
      count = count;
      returns = returns;
      flush = flush;
      lock = lock;
      reply = reply;
    }

    taken : IsTaken r
    taken = record {
      rests = mid_taken header h k ids past object control page count returns lock flush reply waits2 rests lives_now live.known live.is live.live few.1 woke;
      taken =
          ap (λ b. if b then Some (record {
            host = h;
            object = object.0;
            control = control;
            page = page.0;
            count = count;
            returns = returns;
            flush = flush;
            lock = lock;
            reply = reply;
          }) else None) lives_now
          ∙ ap (λ c. Some (record (request_at r) { control = c })) (sym live.number);
      few = few.0;
      lock = few.1;
      found = live.is;
      live = live.live;
      first = λ test. refl;
      shown = λ p. rests.matches.core.pages.shown.shown object.0 p;
    }

    start : LockState
    start = lock_state k.memory k.laundry.held k.laundry.room []

    host : k.host ≡ host_id h
    host = named_host k.host h rests.matches.core.setting.numbered

    known : obeys.known ≡ live.known
    known = some_is obeys.known live.known (sym obeys.found ∙ live.is)

    request : obeys.request ≡ wanted_at r
    request = sym (some_is (wanted_at r) obeys.request obeys.asks)

    pages : PagesObey (host_id h) object live.known.control (wanted_at r) page.0 start obeys.done
    pages = subst (λ (z : HostId). PagesObey z object live.known.control (wanted_at r) page.0 start obeys.done) host
        (subst (λ (z : ObjectRow). PagesObey k.host object z.control (wanted_at r) page.0 start obeys.done) known
        (subst (λ (z : Wanted). PagesObey k.host object obeys.known.control z z.page.0 start obeys.done) request obeys.pages))

    reply_is : Replies (host_id h) object live.known.control (wanted_at r) obeys.done (lock_state memory laundry.held laundry.room after)
    reply_is = subst (λ (z : HostId). Replies z object live.known.control (wanted_at r) obeys.done (lock_state memory laundry.held laundry.room after)) host
        (subst (λ (z : ObjectRow). Replies k.host object z.control (wanted_at r) obeys.done (lock_state memory laundry.held laundry.room after)) known
        (subst (λ (z : Wanted). Replies k.host object obeys.known.control z obeys.done (lock_state memory laundry.held laundry.room after)) request
        obeys.reply))

    its : Done r (lock_state memory laundry.held laundry.room after)
    its = done r obeys.done (lock_state memory laundry.held laundry.room after) taken pages reply_is

    inner : AllInner after
    inner = inner_of its.goes

-- from the start of the call

pub heeds_none : (header : Header) (h : ℕ) (outside : Outside) (doing : Command) (k : Parts) (ids : Ids) (past front after : List Event) (object : ObjectId)
    (control : ℕ) (m : Message) → Rests header h k ids past → front ≡ hears h object control m ∷ [] → IsWord k.size m → is_lock_request m ≡ true
    → after ≡ [] → is_control control (live_in (object_at k.memory.objects object.0)) ≡ false → Heeds header h outside doing k k ids (front ++ past) after
heeds_none header h outside doing k ids past front after object control m rests told word asked nothing dead =
    let is = lock_of k.size m word asked in
    subst (λ (z : List Event). Heeds header h outside doing k k ids (front ++ past) z) (sym nothing)
    (subst (λ (z : List Event). Heeds header h outside doing k k ids (z ++ past) []) (sym told)
    (subst (λ (z : Message). Heeds header h outside doing k k ids (hears h object control z ∷ past) []) (sym is.is)
    (heeds_dead header h outside doing k ids past object control is.page is.count is.returns is.flush is.lock is.reply rests dead)))

-- the range of a message
pub record IsRange (m : Message) (page : PageNo) (count : ℕ) : Type 0 where
  pub returns : ℕ
  pub flush : Bool
  pub lock : ℕ
  pub reply : Bool
  pub is : m ≡ message.Lock page count returns flush lock reply

pub heeds_done : (header : Header) (h : ℕ) (outside : Outside) (doing : Command) (k : Parts) (ids : Ids) (past front before after : List Event)
    (object : ObjectId) (control : ℕ) (m : Message) (page : PageNo) (count : ℕ) (memory : HostParts) (laundry : LaundryList) (waits2 : WaitTable)
    → Rests header h k ids past → front ≡ hears h object control m ∷ [] → IsWord k.size m
    → IsRange m page count → before ≡ [] → is_control control (live_in (object_at k.memory.objects object.0)) ≡ true
    → waits2.rows ≡ map (waits.woken (is_unlocked k.memory.resident object.0 page.0 count)) k.waits.rows
    → Obeys k.host object m (lock_state k.memory k.laundry.held k.laundry.room before) (lock_state memory laundry.held laundry.room after)
    → Fit memory → memory.buffers.size ≡ k.memory.buffers.size
    → Heeds header h outside doing k (record k { memory = memory; laundry = laundry; waits = waits2 }) ids (front ++ past) after
heeds_done header h outside doing k ids past front before after object control m page count memory laundry waits2 rests told word range nothing lives woke obeys
    fit size =
    let new = record k { memory = memory; laundry = laundry; waits = waits2 } in
    let asks_it : (range.returns < 3) × ((range.lock < 4) ⊎ (range.lock ≡ 8)) = subst (IsWord k.size) range.is word in
    subst (λ (z : List Event). Heeds header h outside doing k new ids (z ++ past) after) (sym told)
    (subst (λ (z : Message). Heeds header h outside doing k new ids (hears h object control z ∷ past) after) (sym range.is)
    (heeds_live header h outside doing k ids past object control page count range.returns range.flush range.lock range.reply memory laundry waits2 after rests
    asks_it lives woke
    (subst (λ (z : Message). Obeys k.host object z (lock_state k.memory k.laundry.held k.laundry.room []) (lock_state memory laundry.held laundry.room after))
    range.is
    (subst (λ (z : List Event). Obeys k.host object m (lock_state k.memory k.laundry.held k.laundry.room z) (lock_state memory laundry.held laundry.room after))
    nothing obeys)) fit size))

-- who is to be ended waits still
pub askers_kept : (who : Woken) (old new : WaitTable) → new ≡ old → KeepsAskers who old.rows new.rows
askers_kept (woken.Fails key) old new same = ap (λ (z : WaitTable). z.rows) same
askers_kept woken.Nobody old new same = tt
askers_kept (woken.ReadyOf object) old new same = tt
askers_kept (woken.Page key) old new same = tt

pub ended_still : (who : Woken) (old new : List Waiting) (past : List Event) → KeepsAskers who old new → HasEnded who new past → HasEnded who old past
ended_still (woken.Fails key) old new past same ended = subst (λ (z : List Waiting). HasEnded (woken.Fails key) z past) same ended
ended_still woken.Nobody old new past same ended = tt
ended_still (woken.ReadyOf object) old new past same ended = tt
ended_still (woken.Page key) old new past same ended = tt

-- what was paid stays paid

pub locked_goes : (header : Header) (h : ℕ) (outside : Outside) (doing : Command) (past old new : List Event) → LegalEvents header h outside doing past old new
    → IsLockPaid header (old ++ past) → IsLockPaid header (new ++ past)
locked_goes header h outside doing past old new goes paid = λ request is.
    subst (λ (z : List Event). HasLocked header request z) (sym told) (locked_more header request goes.more (old ++ past) goes.inner
    (paid request (sym (lock_more goes.more (old ++ past) goes.inner) ∙ (sym (ap lock_taken told) ∙ is))))
  where
    told : new ++ past ≡ goes.more ++ (old ++ past)
    told = ap (λ z. z ++ past) goes.is ∙ append_assoc goes.more old past

-- no lock request was taken
pub none_locked : (header : Header) (h : ℕ) (outside : Outside) (doing : Command) (past front after : List Event) (object : ObjectId) (control : ℕ)
    (m : Message) → front ≡ hears h object control m ∷ [] → is_lock_request m ≡ false → LegalEvents header h outside doing (front ++ past) [] after
    → IsLockPaid header (after ++ (front ++ past))
none_locked header h outside doing past front after object control m told other goes =
    locked_goes header h outside doing (front ++ past) [] after goes
    (subst (λ (z : List Event). IsLockPaid header (z ++ past)) (sym told) (λ request is. no_request request (hears h object control m ∷ past) (by m other) is))
  where
    by : (x : Message) → is_lock_request x ≡ false → lock_taken (hears h object control x ∷ past) ≡ None
    by (message.Lock page count returns flush lock reply) none = absurd (let bad : true ≡ false = none in cc)
    by answer none = refl

-- another message than that is an answer
pub other_word : (m : Message) → ((page : PageNo) (count returns : ℕ) (flush : Bool) (lock : ℕ) (reply : Bool)
    → m ≡ message.Lock page count returns flush lock reply → ⊥) → is_lock_request m ≡ false
other_word (message.Lock page count returns flush lock reply) other = absurd (other page count returns flush lock reply refl)
other_word answer other = refl

-- what an answer brings is all that it does
pub early_answer : (events : List Event) → IsBrought events → RunsNoneYet events
early_answer events brought = record { late = []; first = events; is = refl; none = tt; brought = brought }
