-- The letters on their way under events that begin a step, and the first of a channel.
use Rattle.vm_system.proofs.Common.{AllLetters, Bool, Channel, Down, Ending, Event, HasHeard, Header, HostId, IsHostLetter, IsOrderly, IsWordUp, Letter, List}
use Rattle.vm_system.proofs.Common.{Message, None, ObjectId, Some, Up, [], false, first, first_is, gives_frame, home_for, host_id, if◌then◌else◌, inr}
use Rattle.vm_system.proofs.Common.{is_channel, is_ended, is_paged, is_heard_elsewhere, is_made, is_shared, arith, known_after, known_control, length}
use Rattle.vm_system.proofs.Common.{live_control, lock_taken, messages_on, named, never, queue, queue_is, refl, rest, returns_out, same_Some, same_channel}
use Rattle.vm_system.proofs.Common.{subst, sym, true, undelivered, up, without_first, ℕ, ◌&&◌, ◌++◌, ◌==◌, ◌∙◌, ◌∷◌, ◌≡◌, ◌≢◌, ◌≤◌}
use Rattle.std.specs.Prelude.{◌<◌}
use Rattle.vm_model.specs.declared.event.Event.TheVariants as event
use Rattle.vm_model.specs.declared.message.Message.TheVariants as message
use Rattle.vm_legal.proofs.Served.{later_paged}
use Rattle.vm_legal.specs.Cached.{Attributes, attributes_taken}
use Rattle.vm_legal.specs.Licences.{LockRequest}
use Rattle.vm_legal.proofs.Locks.{no_change}
use Rattle.vm_model.specs.Controls.{is_control}
use Rattle.vm_system.proofs.Endings.{ends_taken}
use Rattle.vm_system.proofs.Hearing.{heard_next}
use Rattle.vm_system.proofs.Homes.{elsewhere_taken, home_kept, home_taken, home_temporary}
use Rattle.vm_quiet.proofs.Sane.{at_place}
use Rattle.vm_system.proofs.Makings.{ended_is, is_open, made_kept, made_none, made_taken, own}
use Rattle.vm_system.proofs.Washings.{some_washed, washed_taken}

-- the channels of one history are made in another
pub record Grew (old new : List Event) : Type 0 where
  pub kept : (c : Channel) → is_made c old ≡ true → is_made c new ≡ true

word_stays : (size : ℕ) (old new : ℕ → Bool) (m : Message) → ((k : ℕ) → old k ≡ true → new k ≡ true) → IsWordUp size old m → IsWordUp size new m
word_stays size old new (message.Init control bytes) kept word = kept control word
word_stays size old new (message.Create control bytes) kept word = kept control word
word_stays size old new (message.Request control page access) kept word = kept control word
word_stays size old new (message.Return control page dirty keep bytes) kept word = word
word_stays size old new (message.Unlock control page access) kept word = word
word_stays size old new (message.Completed control page count) kept word = word
word_stays size old new (message.Terminate control) kept word = word
word_stays size old new (message.Changed control cache strategy) kept word = word
word_stays size old new m kept word = absurd word

letter_stays : (header : Header) (old new : List Event) → Grew old new → (c : Channel) (m : Message)
    → IsHostLetter header old (record { channel = c; message = m }) → IsHostLetter header new (record { channel = c; message = m })
letter_stays header old new grew (Up host object) m letter = (
  letter.0,
  word_stays header.size (λ k. is_made (Down host object k) old) (λ k. is_made (Down host object k) new) m
      (λ k made. grew.kept (Down host object k) made) letter.1,
  letter.2,
)
letter_stays header old new grew (Down host object control) m letter = letter

pub letters_stay : (header : Header) (old new : List Event) → Grew old new → (ls : List Letter) → AllLetters header old ls → AllLetters header new ls
letters_stay header old new grew [] all = tt
letters_stay header old new grew (l ∷ ls) all = (letter_stays header old new grew l.channel l.message all.0, letters_stay header old new grew ls all.1)

pub letters_end : (header : Header) (past : List Event) (ls : List Letter) (l : Letter) → AllLetters header past ls → IsHostLetter header past l
    → AllLetters header past (ls ++ l ∷ [])
letters_end header past [] l all letter = (letter, tt)
letters_end header past (k ∷ ls) l all letter = (all.0, letters_end header past ls l all.1 letter)

letters_without : (header : Header) (past : List Event) (c : Channel) (ls : List Letter) → AllLetters header past ls
    → AllLetters header past (without_first c ls)
letters_without header past c [] all = tt
letters_without header past c (l ∷ ls) all = one (is_channel c l.channel) (letters_without header past c ls all.1)
  where
    one : (b : Bool) → AllLetters header past (without_first c ls) → AllLetters header past (if b then ls else l ∷ without_first c ls)
    one true more = all.1
    one false more = (all.0, more)

letter_among : (header : Header) (past : List Event) (c : Channel) (m : Message) (ls : List Letter) → AllLetters header past ls
    → first (messages_on c ls) ≡ Some m → IsHostLetter header past (record { channel = c; message = m })
letter_among header past c m [] all head = absurd (let bad : None ≡ Some m = head in cc)
letter_among header past c m (l ∷ ls) all head = one (is_channel c l.channel) refl head (letter_among header past c m ls all.1)
  where
    inner : (x : Message) (q : List Message) → first (x ∷ q) ≡ Some m → x ≡ m
    inner x q e = cc

    one : (b : Bool) → is_channel c l.channel ≡ b → first (if b then l.message ∷ messages_on c ls else messages_on c ls) ≡ Some m
        → (first (messages_on c ls) ≡ Some m → IsHostLetter header past (record { channel = c; message = m }))
        → IsHostLetter header past (record { channel = c; message = m })
    one true is at more =
        subst (λ (x : Message). IsHostLetter header past (record { channel = c; message = x })) (inner l.message (messages_on c ls) at)
        (subst (λ (d : Channel). IsHostLetter header past (record { channel = d; message = l.message })) (same_channel c l.channel is) all.0)
    one false is at more = more at

pub letter_first : (header : Header) (channel : Channel) (m : Message) (past : List Event) → IsOrderly header past → first (queue channel past) ≡ Some m
    → IsHostLetter header past (record { channel = channel; message = m })
letter_first header channel m past orderly head = letter_among header past channel m (undelivered past) orderly.letters (first_is channel m past head)

-- what is on the way up, by the channel's queue
pub queued : (header : Header) (h o : ℕ) (past : List Event) → IsOrderly header past → named header ≤ o
    → Ending (live_control h o past) (is_ended h o past) (queue (up h o) past)
queued header h o past orderly temporary =
    subst (λ (q : List Message). Ending (live_control h o past) (is_ended h o past) q) (sym (queue_is (up h o) past)) (orderly.ending h o temporary)

pub lettered : (h o : ℕ) (past : List Event) → Ending (live_control h o past) (is_ended h o past) (queue (up h o) past)
    → Ending (live_control h o past) (is_ended h o past) (messages_on (up h o) (undelivered past))
lettered h o past ending = subst (λ (q : List Message). Ending (live_control h o past) (is_ended h o past) q) (queue_is (up h o) past) ending

pub unended_first : (header : Header) (h : ℕ) (object : ObjectId) (m : Message) (past : List Event) → IsOrderly header past → named header ≤ object.0
    → first (queue (Up (host_id h) object) past) ≡ Some m → is_ended h object.0 past ≡ false
unended_first header h object m past orderly temporary head = one (is_ended h object.0 past) refl
  where
    empty : (q : List Message) → q ≡ [] → first q ≡ Some m → ⊥
    empty q none at = absurd (let bad : first {A = Message} [] ≡ Some m = subst (λ (x : List Message). first x ≡ Some m) none at in cc)

    one : (b : Bool) → is_ended h object.0 past ≡ b → is_ended h object.0 past ≡ false
    one true is = absurd (empty (queue (Up (host_id h) object) past) ((queued header h object.0 past orderly temporary).over is).0 head)
    one false is = is

-- a message is on the way up from the host of its object
at_home : (header : Header) (host : HostId) (object : ObjectId) (m : Message) (past : List Event) → IsOrderly header past
    → first (queue (Up host object) past) ≡ Some m → is_paged header object.0 ≡ true → home_for header object.0 past ≡ Some host.0
at_home header host object m past orderly head paged =
    (orderly.home host.0 object.0).made paged (is_open host.0 object.0 m past (orderly.made host.0 object.0) head)

pub home_first : (header : Header) (h : ℕ) (object : ObjectId) (m : Message) (past : List Event) → IsOrderly header past → named header ≤ object.0
    → first (queue (Up (host_id h) object) past) ≡ Some m → is_heard_elsewhere h object.0 past ≡ false
home_first header h object m past orderly temporary head =
    (orderly.home h object.0).own temporary (inr (sym (home_temporary header object.0 past temporary)
    ∙ at_home header (host_id h) object m past orderly head (later_paged header object.0 temporary)))

-- of a file or of temporary memory its pager knows no control of another host
pub known_first : (header : Header) (h : ℕ) (object : ObjectId) (m : Message) (past : List Event) → IsOrderly header past → is_paged header object.0 ≡ true
    → first (queue (Up (host_id h) object) past) ≡ Some m → (other : ℕ) → other ≢ h → known_control other object.0 past ≡ None
known_first header h object m past orderly paged head other apart = by (is_made (up other object.0) past) refl
  where
    by : (b : Bool) → is_made (up other object.0) past ≡ b → known_control other object.0 past ≡ None
    by true is =
        absurd (apart (same_Some other h (sym ((orderly.home other object.0).made paged is) ∙ at_home header (host_id h) object m past orderly head paged)))
    by false is = (orderly.made other object.0).unknown is

pub elsewhere_first : (header : Header) (h : ℕ) (object : ObjectId) (m : Message) (past : List Event) → IsOrderly header past
    → first (queue (Up (host_id h) object) past) ≡ Some m → (g : ℕ) → g ≢ h
    → is_heard_elsewhere g object.0 (event.Taken (Up (host_id h) object) m ∷ past) ≡ true
elsewhere_first header h object m past orderly head g other = elsewhere_taken (host_id h) object m past g other

pub washed_out : (header : Header) (h : ℕ) (object : ObjectId) (m : Message) (past : List Event) → IsOrderly header past
    → first (queue (Up (host_id h) object) past) ≡ Some m → gives_frame m ≡ true → 0 < returns_out h past
washed_out header h object m past orderly head gives =
    some_washed h (Up (host_id h) object) m past head (both (h == h) (gives_frame m) (own h) gives) (orderly.washed h)
  where
    both : (b c : Bool) → b ≡ true → c ≡ true → (b && c) ≡ true
    both true c is at = at
    both false c is at = is

pub orderly_none : (header : Header) → IsOrderly header []
orderly_none header = record {
  letters = tt;
  washed = λ h. refl;
  home = λ h o. record { made = λ paged gone. never gone; own = λ temporary home. refl };
  ending = λ h o temporary. record { living = λ control at. tt; last = tt; over = λ gone. never gone };
  made = λ h o. made_none h o;
  known = λ h o control at. absurd (let bad : None ≡ Some control = at in cc);
  heard = λ h o p shared. record { holder = λ holds. absurd (omega (arith, holds)); waiter = λ stands. never stands };
  locks = λ request is shared. absurd (let bad : None ≡ Some request = is in cc);
  changes = λ request is. no_change request [] refl is;
}

-- lock requests of the server are of one page
abbrev HasCounted : Header → List Event → Type 0
HasCounted header past = (request : LockRequest) → lock_taken past ≡ Some request → is_shared header request.object ≡ true → request.count ≡ 1

-- and it never changes attributes
abbrev ChangesNone : Header → List Event → Type 0
ChangesNone header past = (request : Attributes) → attributes_taken past ≡ Some request → is_shared header request.object ≡ false

-- the event is no message
abbrev pub IsSilent : Event → Type 0
IsSilent (event.Sent channel m) = ⊥
IsSilent (event.Taken channel m) = ⊥
IsSilent other = Unit {0}

-- the server hears nothing in it
heard_silent : (header : Header) (e : Event) (past : List Event) → IsSilent e → ((h o p : ℕ) → is_shared header o ≡ true → HasHeard header h o p past)
    → (h o p : ℕ) → is_shared header o ≡ true → HasHeard header h o p (e ∷ past)
heard_silent header (event.Sent channel m) past silent old = absurd silent
heard_silent header (event.Taken channel m) past silent old = absurd silent
heard_silent header e past silent old = heard_next header e past tt old

-- so it is no lock request
locks_silent : (header : Header) (e : Event) (past : List Event) → IsSilent e → HasCounted header past → HasCounted header (e ∷ past)
locks_silent header (event.Sent channel m) past silent old = absurd silent
locks_silent header (event.Taken channel m) past silent old = absurd silent
locks_silent header (event.Line line) past silent old = λ request is shared. absurd (let bad : None ≡ Some request = is in cc)
locks_silent header e past silent old = old

-- nor does it change attributes
changes_silent : (header : Header) (e : Event) (past : List Event) → IsSilent e → ChangesNone header past → ChangesNone header (e ∷ past)
changes_silent header (event.Sent channel m) past silent old = absurd silent
changes_silent header (event.Taken channel m) past silent old = absurd silent
changes_silent header (event.Line line) past silent old = λ request is. no_change request (event.Line line ∷ past) refl is
changes_silent header e past silent old = old

pub orderly_silent : (header : Header) (e : Event) (past : List Event) → IsSilent e → IsOrderly header past → IsOrderly header (e ∷ past)
orderly_silent header (event.Sent channel m) past silent old = absurd silent
orderly_silent header (event.Taken channel m) past silent old = absurd silent
orderly_silent header e past silent old = record {
  letters = letters_stay header past (e ∷ past) (record { kept = λ c is. is }) (undelivered past) old.letters;
  washed = old.washed;
  home = λ h o. home_kept header h o e past (old.home h o) (old.home h o).made refl;
  ending = old.ending;
  made =
      λ h o. let was = old.made h o in record {
        live = was.live;
        never = was.never;
        ended = was.ended;
        quiet = was.quiet;
        unmade = was.unmade;
        unknown = was.unknown;
        known = was.known;
      };
  known = old.known;
  heard = λ h o p shared. heard_silent header e past silent old.heard h o p shared;
  locks = locks_silent header e past silent old.locks;
  changes = changes_silent header e past silent old.changes;
}

pub orderly_line : (header : Header) (line : ℕ) (past : List Event) → IsOrderly header past → IsOrderly header (event.Line line ∷ past)
orderly_line header line past old = orderly_silent header (event.Line line) past tt old

-- the letters after a taking
letters_taken : (header : Header) (channel : Channel) (m : Message) (past : List Event) → IsOrderly header past
    → AllLetters header (event.Taken channel m ∷ past) (undelivered (event.Taken channel m ∷ past))
letters_taken header channel m past old =
    letters_without header (event.Taken channel m ∷ past) channel (undelivered past)
    (letters_stay header past (event.Taken channel m ∷ past) (record { kept = λ c is. is }) (undelivered past) old.letters)

-- who knows a control has the message's host, where a pager just took a message, or knew one before
known_taken : (header : Header) (host : HostId) (object : ObjectId) (m : Message) (past : List Event) (h o control : ℕ) → IsOrderly header past
    → host.0 < length header.frames.items
    → known_control h o (event.Taken (Up host object) m ∷ past) ≡ Some control → h < length header.frames.items
known_taken header host object m past h o control old here is = by (host.0 == h && object.0 == o) refl is
  where
    by : (b : Bool) → (host.0 == h && object.0 == o) ≡ b → (if b then known_after m (known_control h o past) else known_control h o past) ≡ Some control
        → h < length header.frames.items
    by true at is = at_place (λ a n. a < length header.frames.items) host.0 object.0 h o at here
    by false at is = old.known h o control is

-- a lock request that is taken was a letter
locks_taken : (header : Header) (host : HostId) (object : ObjectId) (control : ℕ) (m : Message) (past : List Event)
    → IsHostLetter header past (record { channel = Down host object control; message = m })
    → HasCounted header (event.Taken (Down host object control) m ∷ past)
locks_taken header host object control (message.Lock page count returns flush lock reply) past letter request is shared =
    by (is_control control (live_control host.0 object.0 past)) is
  where
    by : (b : Bool)
        → (if b then Some (record {
          host = host.0;
          object = object.0;
          control = control;
          page = page.0;
          count = count;
          returns = returns;
          flush = flush;
          lock = lock;
          reply = reply;
        }) else None) ≡ Some request → request.count ≡ 1
    by true is =
        let its : object.0 ≡ request.object = cc in
        let same : count ≡ request.count = cc in
        sym same ∙ letter.2 (subst (λ (n : ℕ). is_shared header n ≡ true) (sym its) shared)
    by false is = absurd (let bad : None ≡ Some request = is in cc)
locks_taken header host object control m past letter request is shared = absurd (let bad : None ≡ Some request = is in cc)

-- nor was a change of attributes of a shared object
changes_taken : (header : Header) (host : HostId) (object : ObjectId) (control : ℕ) (m : Message) (past : List Event)
    → IsHostLetter header past (record { channel = Down host object control; message = m })
    → ChangesNone header (event.Taken (Down host object control) m ∷ past)
changes_taken header host object control (message.Attributes cache strategy reply) past letter request is =
    by (is_control control (live_control host.0 object.0 past)) is
  where
    plain : (b : Bool) → is_shared header object.0 ≡ b → is_shared header object.0 ≡ false
    plain true shared = absurd (letter.2 shared)
    plain false none = none

    by : (b : Bool) → (if b then Some (record { host = host.0; object = object.0; control = control; cache = cache; strategy = strategy; reply = reply })
        else None) ≡ Some request → is_shared header request.object ≡ false
    by true is = let its : object.0 ≡ request.object = cc in subst (λ (n : ℕ). is_shared header n ≡ false) its (plain (is_shared header object.0) refl)
    by false is = absurd (let bad : None ≡ Some request = is in cc)
changes_taken header host object control m past letter request is = absurd (let bad : None ≡ Some request = is in cc)

pub orderly_taken : (header : Header) (channel : Channel) (m : Message) (past : List Event) → IsOrderly header past → first (queue channel past) ≡ Some m
    → IsOrderly header (event.Taken channel m ∷ past)
orderly_taken header (Up host object) m past old head = record {
  letters = letters_taken header (Up host object) m past old;
  washed = λ h. washed_taken h (Up host object) m past head (old.washed h);
  home = λ h o. home_taken header host object m past h o (old.home h o) (at_home header host object m past old head);
  ending = λ h o temporary. lettered h o (event.Taken (Up host object) m ∷ past)
      (subst (λ (x : Bool). Ending (live_control h o past) x (if host.0 == h && object.0 == o then rest (queue (up h o) past) else queue (up h o) past))
      (sym (ended_is h o host object m past))
      (ends_taken (host.0 == h && object.0 == o) (is_ended h o past) (live_control h o past) (queue (up h o) past) m (queued header h o past old temporary)
      (λ is. at_place (λ a n. first (queue (up a n) past) ≡ Some m) host.0 object.0 h o is head)));
  made = λ h o. made_taken host object m header.size past h o (old.made h o) head (letter_first header (Up host object) m past old head).1;
  known = λ h o control at. known_taken header host object m past h o control old (letter_first header (Up host object) m past old head).0 at;
  heard = heard_next header (event.Taken (Up host object) m) past (letter_first header (Up host object) m past old head) old.heard;
  locks = λ request is shared. absurd (let bad : None ≡ Some request = is in cc);
  changes = λ request is. absurd (let bad : None ≡ Some request = is in cc);
}
orderly_taken header (Down host object control) m past old head = record {
  letters = letters_taken header (Down host object control) m past old;
  washed = λ h. washed_taken h (Down host object control) m past head (old.washed h);
  home = λ h o. home_kept header h o (event.Taken (Down host object control) m) past (old.home h o) (old.home h o).made refl;
  ending = λ h o temporary. lettered h o (event.Taken (Down host object control) m ∷ past) (queued header h o past old temporary);
  made = λ h o. made_kept (event.Taken (Down host object control) m) past h o tt (old.made h o);
  known = old.known;
  heard = heard_next header (event.Taken (Down host object control) m) past tt old.heard;
  locks = locks_taken header host object control m past (letter_first header (Down host object control) m past old head);
  changes = changes_taken header host object control m past (letter_first header (Down host object control) m past old head);
}
