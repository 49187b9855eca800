-- The letters on their way under what a kernel says, and under what a pager answers or asks.
use Rattle.vm_system.proofs.Common.{Access, AllInner, AllLetters, AllInTurn, Bool, CanSend, CanTell, CanTellAll, Channel, Command, CreatesHere, Down, EachIn}
use Rattle.vm_system.proofs.Common.{Ending, Event, FileAnswer, FileTable, HasMade, HasPageOf, Header, Held, HostId, IsHostLetter, IsInner, IsOrderly}
use Rattle.vm_system.proofs.Common.{IsServerWord, IsWord, KernelSays, LicensedInTurn, List, MaySendUp, Message, None, ObjectId, Option, Outside, PageNo}
use Rattle.vm_system.proofs.Common.{PagerAnswer, Put, Read, RequestAnswer, SlotTable, Some, SomeKernelSays, Up, Write, [], arith, became, device_failed, error}
use Rattle.vm_system.proofs.Common.{false, has_lost, held_at, home_for, home_of, host_id, inl, inr, is_ended, is_made, last_control, length, live_control}
use Rattle.vm_system.proofs.Common.{makes, named, nat_tests, never, object_home, queue, refl, sent_to, subst, suc, supply, sym, taking, told_of, true}
use Rattle.vm_system.proofs.Common.{undelivered, up, ℕ, ◌&&◌, ◌++◌, ◌+◌, ◌==◌, ◌||◌, ◌∙◌, ◌∷◌, ◌≡◌, ◌≤◌, is_paged, is_shared, ◌⊎◌, is_store, if◌then◌else◌}
use Rattle.vm_system.proofs.Common.{zero}
use Rattle.std.specs.Prelude.{◌<◌}
use Rattle.vm_model.specs.declared.event.Event.TheVariants as event
use Rattle.vm_model.specs.declared.message.Message.TheVariants as message
use Rattle.pg_file.specs.Answers.{RequestAnswer as FileReply, device_failed as file_failed, is_stored, told_of as file_told}
use Rattle.pg_slots.specs.declared.answers.Put.TheVariants as put
use Rattle.pg_slots.specs.declared.slot_row.Held.TheVariants as held
use Rattle.vm_system.proofs.Endings.{ends_created, ends_ended, ends_said}
use Rattle.vm_legal.proofs.Unshared.{temporary_unshared}
use Rattle.vm_legal.specs.Licences.{ServerSends, desired_access}
use Rattle.vm_system.proofs.Hearing.{heard_next}
use Rattle.vm_system.proofs.Homes.{home_declared, home_kept, home_temporary, paged_file}
use Rattle.vm_system.proofs.Letters.{Grew, lettered, letters_end, letters_stay, orderly_silent, queued}
use Rattle.vm_quiet.proofs.Sane.{at_place}
use Rattle.vm_system.proofs.Makings.{made_changed, made_completed, made_created, made_kept, made_opened, made_requested, made_returned, made_terminated}
use Rattle.vm_system.proofs.Makings.{made_unlocked, of_number, own}
use Rattle.vm_system.proofs.Washings.{washed_sent}
use Rattle.vm_legal.proofs.Turns.{cause_of}

-- channels stay made where a message is sent
grew_sent : (c : Channel) (m : Message) (past : List Event) → Grew past (event.Sent c m ∷ past)
grew_sent (Up host object) m past = record { kept = λ c is. either (makes c host.0 object.0 m) (is_made c past) is }
  where
    either : (b c : Bool) → c ≡ true → b || c ≡ true
    either true c is = refl
    either false c is = is
grew_sent (Down host object control) m past = record { kept = λ c is. is }

letters_sent : (header : Header) (c : Channel) (m : Message) (past : List Event) → AllLetters header past (undelivered past)
    → IsHostLetter header (event.Sent c m ∷ past) (record { channel = c; message = m })
    → AllLetters header (event.Sent c m ∷ past) (undelivered (event.Sent c m ∷ past))
letters_sent header c m past old letter =
    letters_end header (event.Sent c m ∷ past) (undelivered past) (record { channel = c; message = m })
    (letters_stay header past (event.Sent c m ∷ past) (grew_sent c m past) (undelivered past) old) letter

-- a message up is sent: what is left to show is of its object
sent_up : (header : Header) (host : HostId) (object : ObjectId) (m : Message) (past : List Event) → IsOrderly header past
    → IsHostLetter header (event.Sent (Up host object) m ∷ past) (record { channel = Up host object; message = m })
    → ((h o : ℕ) → is_paged header o ≡ true → is_made (up h o) (event.Sent (Up host object) m ∷ past) ≡ true → home_for header o past ≡ Some h)
    → ((h o : ℕ) → named header ≤ o → Ending (live_control h o (event.Sent (Up host object) m ∷ past)) (is_ended h o past)
    (queue (up h o) (event.Sent (Up host object) m ∷ past)))
    → ((h o : ℕ) → HasMade h o (event.Sent (Up host object) m ∷ past)) → IsOrderly header (event.Sent (Up host object) m ∷ past)
sent_up header host object m past old letter home ending made = record {
  letters = letters_sent header (Up host object) m past old.letters letter;
  washed = λ h. washed_sent h (Up host object) m past (old.washed h);
  home = λ h o. home_kept header h o (event.Sent (Up host object) m) past (old.home h o) (home h o) refl;
  ending = λ h o temporary. lettered h o (event.Sent (Up host object) m ∷ past) (ending h o temporary);
  made = made;
  known = old.known;
  heard = heard_next header (event.Sent (Up host object) m) past tt old.heard;
  locks = old.locks;
  changes = old.changes;
}

flipped : (a h n o : ℕ) → h == a ≡ true → o == n ≡ true → (a == h && n == o) ≡ true
flipped a h n o is at = grind (arith, nat_tests)

-- what is of no shared object is no matter of the server
pub never_shared : {A : Type 0} (header : Header) (o : ℕ) → is_shared header o ≡ false → is_shared header o ≡ true → A
never_shared header o plain shared = never (sym plain ∙ shared)

-- what a message does where it is sent
pub record Sends (header : Header) (c : Channel) (m : Message) (past : List Event) : Type 0 where
  pub orderly : IsOrderly header (event.Sent c m ∷ past)
  pub page : HasPageOf header.size m
  pub can : CanSend c m past

-- the channels of a new control

all_same : (b c d e : Bool) → b ≡ true → c ≡ true → d ≡ true → (b && (c && d)) || e ≡ true
all_same true true true e is at this = refl
all_same true true false e is at this = never this
all_same true false d e is at this = never at
all_same false c d e is at this = never is

opened_down : (host : HostId) (object : ObjectId) (control : ℕ) (past : List Event)
    → (host.0 == host.0 && (object.0 == object.0 && control == control)) || is_made (Down host object control) past ≡ true
opened_down host object control past =
    all_same (host.0 == host.0) (object.0 == object.0) (control == control) (is_made (Down host object control) past) (own host.0) (own object.0) (own control)

opened_home : (header : Header) (host : HostId) (object : ObjectId) (past : List Event) → IsOrderly header past
    → (is_paged header object.0 ≡ true → home_for header object.0 past ≡ Some host.0) → (h o : ℕ) → is_paged header o ≡ true
    → (h == host.0 && o == object.0) || is_made (up h o) past ≡ true → home_for header o past ≡ Some h
opened_home header host object past old here h o paged is = by (h == host.0) (o == object.0) refl refl is
  where
    by : (b c : Bool) → h == host.0 ≡ b → o == object.0 ≡ c → (b && c) || is_made (up h o) past ≡ true → home_for header o past ≡ Some h
    by true true is at made =
        at_place (λ a n. is_paged header n ≡ true → home_for header n past ≡ Some a) host.0 object.0 h o (flipped host.0 h object.0 o is at) here paged
    by true false is at made = (old.home h o).made paged made
    by false c is at made = (old.home h o).made paged made

next_unmade : (header : Header) (host : HostId) (object : ObjectId) (control : ℕ) (past : List Event) → IsOrderly header past
    → control ≡ last_control host.0 object.0 past + 1 → is_made (Down host object control) past ≡ false
next_unmade header host object control past old next = (old.made host.0 object.0).unmade control (omega (arith, next))

created : (header : Header) (host : HostId) (object : ObjectId) (control size : ℕ) (past : List Event) → IsOrderly header past
    → host.0 < length header.frames.items → object_home object.0 past ≡ Some host.0 → named header ≤ object.0
    → control ≡ 1 → last_control host.0 object.0 past ≡ 0 → Sends header (Up host object) (message.Create control size) past
created header host object control size past old known here temporary one nil = record {
  orderly =
      sent_up header host object (message.Create control size) past old (
        known,
        opened_down host object control past,
        λ shared. never (sym (temporary_unshared header object.0 temporary) ∙ shared),
      )
      (opened_home header host object past old (λ paged. home_temporary header object.0 past temporary ∙ here))
      (λ h o above. ends_created (host.0 == h && object.0 == o) (is_ended h o past) (live_control h o past) control (queue (up h o) past)
      (message.Create control size) (queued header h o past old above) (fresh h o) refl)
      (λ h o. made_created host object control size past h o (old.made h o) next);
  page = tt;
  can = next_unmade header host object control past old next;
}
  where
    next : control ≡ last_control host.0 object.0 past + 1
    next = omega (arith, one, nil)

    its : HasMade host.0 object.0 past
    its = old.made host.0 object.0

    unended : (b : Bool) → is_ended host.0 object.0 past ≡ b → b ≡ false
    unended true is = absurd (its.ended is nil)
    unended false is = refl

    fresh : (h o : ℕ) → (host.0 == h && object.0 == o) ≡ true → (queue (up h o) past ≡ []) × (is_ended h o past ≡ false)
    fresh h o is =
        at_place (λ a n. (queue (up a n) past ≡ []) × (is_ended a n past ≡ false)) host.0 object.0 h o is
        (its.quiet (its.never nil).0, unended (is_ended host.0 object.0 past) refl)

-- a declared object is mapped: nothing is claimed of its ends
opened : (header : Header) (host : HostId) (object : ObjectId) (control size : ℕ) (past : List Event) → IsOrderly header past
    → host.0 < length header.frames.items → (is_paged header object.0 ≡ true → home_of object.0 past ≡ Some host.0) → object.0 < named header
    → control ≡ suc (last_control host.0 object.0 past) → Sends header (Up host object) (message.Init control size) past
opened header host object control size past old known here declared number = record {
  orderly =
      sent_up header host object (message.Init control size) past old (known, opened_down host object control past, λ shared. tt)
      (opened_home header host object past old (λ paged. home_declared header object.0 past declared ∙ here paged))
      (λ h o above. ends_created (host.0 == h && object.0 == o) (is_ended h o past) (live_control h o past) control (queue (up h o) past)
      (message.Init control size) (queued header h o past old above) (λ is. absurd (other h o above is)) refl)
      (λ h o. made_opened host object control size past h o (old.made h o) next);
  page = tt;
  can = next_unmade header host object control past old next;
}
  where
    next : control ≡ last_control host.0 object.0 past + 1
    next = omega (arith, number)

    other : (h o : ℕ) → named header ≤ o → (host.0 == h && object.0 == o) ≡ true → ⊥
    other h o above is = let below : o < named header = at_place (λ a n. n < named header) host.0 object.0 h o is declared in omega (arith, above, below)

requested : (header : Header) (host : HostId) (object : ObjectId) (control access : ℕ) (page : PageNo) (past : List Event) → IsOrderly header past
    → host.0 < length header.frames.items → live_control host.0 object.0 past ≡ Some control
    → (access ≡ 1) ⊎ (access ≡ 3) → Sends header (Up host object) (message.Request control page access) past
requested header host object control access page past old known lives wants = record {
  orderly =
      sent_up header host object (message.Request control page access) past old (known, ((old.made host.0 object.0).live control lives).1, λ shared. wants)
      (λ h o. (old.home h o).made)
      (λ h o above. ends_said (host.0 == h && object.0 == o) (is_ended h o past) (live_control h o past) control (queue (up h o) past)
      (message.Request control page access) (queued header h o past old above)
      (of_number host object h o control past lives) refl)
      (λ h o. made_requested host object control access page past h o (old.made h o) lives);
  page = tt;
  can = ((old.made host.0 object.0).live control lives).0;
}

unlocked : (header : Header) (host : HostId) (object : ObjectId) (control access : ℕ) (page : PageNo) (past : List Event) → IsOrderly header past
    → host.0 < length header.frames.items → live_control host.0 object.0 past ≡ Some control
    → Sends header (Up host object) (message.Unlock control page access) past
unlocked header host object control access page past old known lives = record {
  orderly = sent_up header host object (message.Unlock control page access) past old (known, tt, λ shared. tt) (λ h o. (old.home h o).made)
      (λ h o above. ends_said (host.0 == h && object.0 == o) (is_ended h o past) (live_control h o past) control (queue (up h o) past)
      (message.Unlock control page access) (queued header h o past old above)
      (of_number host object h o control past lives) refl)
      (λ h o. made_unlocked host object control access page past h o (old.made h o) lives);
  page = tt;
  can = ((old.made host.0 object.0).live control lives).0;
}

completed : (header : Header) (host : HostId) (object : ObjectId) (control count : ℕ) (page : PageNo) (past : List Event) → IsOrderly header past
    → host.0 < length header.frames.items → live_control host.0 object.0 past ≡ Some control
    → (is_shared header object.0 ≡ true → count ≡ 1) → Sends header (Up host object) (message.Completed control page count) past
completed header host object control count page past old known lives single = record {
  orderly = sent_up header host object (message.Completed control page count) past old (known, tt, single) (λ h o. (old.home h o).made)
      (λ h o above. ends_said (host.0 == h && object.0 == o) (is_ended h o past) (live_control h o past) control (queue (up h o) past)
      (message.Completed control page count) (queued header h o past old above)
      (of_number host object h o control past lives) refl)
      (λ h o. made_completed host object control count page past h o (old.made h o) lives);
  page = tt;
  can = ((old.made host.0 object.0).live control lives).0;
}

returned : (header : Header) (host : HostId) (object : ObjectId) (control : ℕ) (page : PageNo) (dirty keep : Bool) (bytes : List ℕ) (past : List Event)
    → IsOrderly header past → host.0 < length header.frames.items
    → live_control host.0 object.0 past ≡ Some control → length bytes ≡ header.size
    → Sends header (Up host object) (message.Return control page dirty keep bytes) past
returned header host object control page dirty keep bytes past old known lives whole = record {
  orderly = sent_up header host object (message.Return control page dirty keep bytes) past old (known, whole, λ shared. tt) (λ h o. (old.home h o).made)
      (λ h o above. ends_said (host.0 == h && object.0 == o) (is_ended h o past) (live_control h o past) control (queue (up h o) past)
      (message.Return control page dirty keep bytes) (queued header h o past old above)
      (of_number host object h o control past lives) refl)
      (λ h o. made_returned host object control page dirty keep bytes past h o (old.made h o) lives);
  page = whole;
  can = ((old.made host.0 object.0).live control lives).0;
}

changed : (header : Header) (host : HostId) (object : ObjectId) (control : ℕ) (cache : Bool) (strategy : ℕ) (past : List Event) → IsOrderly header past
    → host.0 < length header.frames.items → live_control host.0 object.0 past ≡ Some control
    → is_shared header object.0 ≡ false → Sends header (Up host object) (message.Changed control cache strategy) past
changed header host object control cache strategy past old known lives plain = record {
  orderly =
      sent_up header host object (message.Changed control cache strategy) past old (known, tt, λ shared. never_shared header object.0 plain shared)
      (λ h o. (old.home h o).made)
      (λ h o above. ends_said (host.0 == h && object.0 == o) (is_ended h o past) (live_control h o past) control (queue (up h o) past)
      (message.Changed control cache strategy) (queued header h o past old above)
      (of_number host object h o control past lives) refl)
      (λ h o. made_changed host object control cache strategy past h o (old.made h o) lives);
  page = tt;
  can = ((old.made host.0 object.0).live control lives).0;
}

terminated : (header : Header) (host : HostId) (object : ObjectId) (control : ℕ) (past : List Event) → IsOrderly header past
    → host.0 < length header.frames.items → live_control host.0 object.0 past ≡ Some control
    → Sends header (Up host object) (message.Terminate control) past
terminated header host object control past old known lives = record {
  orderly = sent_up header host object (message.Terminate control) past old (known, tt, λ shared. tt) (λ h o. (old.home h o).made)
      (λ h o above. ends_ended (host.0 == h && object.0 == o) (is_ended h o past) (live_control h o past) control (queue (up h o) past)
      (message.Terminate control) (queued header h o past old above)
      (of_number host object h o control past lives))
      (λ h o. made_terminated host object control past h o (old.made h o) lives);
  page = tt;
  can = ((old.made host.0 object.0).live control lives).0;
}

-- what is asked for is to read or to write
desired : (access : Access) (steps : ℕ) → (desired_access access steps ≡ 1) ⊎ (desired_access access steps ≡ 3)
desired access zero = by (is_store access)
  where
    by : (b : Bool) → (◌≡◌ {A = ℕ} (if b then 3 else 1) 1) ⊎ (◌≡◌ {A = ℕ} (if b then 3 else 1) 3)
    by true = inr refl
    by false = inl refl
desired access (suc steps) = inl refl

-- what a kernel says up
said_up : (header : Header) (doing : Command) (host : HostId) (object : ObjectId) (m : Message) (past : List Event) → IsOrderly header past
    → host.0 < length header.frames.items → MaySendUp header doing host.0 object.0 m past
    → KernelSays host.0 header.size (event.Sent (Up host object) m) → CreatesHere header host.0 (event.Sent (Up host object) m) past
    → Sends header (Up host object) m past
said_up header doing host object (message.Init control size) past old known may said creates =
    opened header host object control size past old known (λ paged. creates (paged_file header object.0 may.declared paged)) may.declared may.number
said_up header doing host object (message.Create control size) past old known may said creates =
    created header host object control size past old known creates may.temporary may.number may.never
said_up header doing host object (message.Request control page access) past old known may said creates =
    requested header host object control access page past old known may.live (subst (λ (n : ℕ). (n ≡ 1) ⊎ (n ≡ 3)) (sym may.number)
    (desired may.access may.comes.steps))
said_up header doing host object (message.Return control page dirty keep bytes) past old known may said creates =
    returned header host object control page dirty keep bytes past old known may.live said.1
said_up header doing host object (message.Unlock control page access) past old known may said creates =
    unlocked header host object control access page past old known may.live
said_up header doing host object (message.Completed control page count) past old known may said creates =
    completed header host object control count page past old known may.live (λ shared. old.locks _ may.taken shared)
said_up header doing host object (message.Terminate control) past old known may said creates = terminated header host object control past old known may.live
said_up header doing host object (message.Changed control cache strategy) past old known may said creates =
    changed header host object control cache strategy past old known may.live (old.changes _ may.taken)
said_up header doing host object m past old known may said creates = absurd said

-- the host of what is said
said_here : (h size : ℕ) (host : HostId) (object : ObjectId) (m : Message) → KernelSays h size (event.Sent (Up host object) m) → host.0 ≡ h
said_here h size host object (message.Return control page dirty keep bytes) said = said.0
said_here h size host object (message.Init control bytes) said = said
said_here h size host object (message.Create control bytes) said = said
said_here h size host object (message.Request control page access) said = said
said_here h size host object (message.Unlock control page access) said = said
said_here h size host object (message.Completed control page count) said = said
said_here h size host object (message.Terminate control) said = said
said_here h size host object (message.Changed control cache strategy) said = said
said_here h size host object m said = absurd said

-- what an event does where it is told
pub record Tells (header : Header) (e : Event) (past : List Event) : Type 0 where
  pub orderly : IsOrderly header (e ∷ past)
  pub can : CanTell header.size e past

sends_tells : (header : Header) (c : Channel) (m : Message) (past : List Event) → Sends header c m past → Tells header (event.Sent c m) past
sends_tells header c m past sends = record { orderly = sends.orderly; can = (sends.page, sends.can) }

-- what a kernel says
said : (header : Header) (outside : Outside) (doing : Command) (e : Event) (past : List Event) → IsOrderly header past
    → LicensedInTurn header outside doing e past → SomeKernelSays header e past → IsInner e → Tells header e past
said header outside doing (event.Line line) past old licence is inner = absurd inner
said header outside doing (event.Taken channel m) past old licence is inner = absurd inner
said header outside doing (event.Sent (Down host object control) m) past old licence is inner = absurd is.says
said header outside doing (event.Sent (Up host object) m) past old licence is inner =
    let here : is.host ≡ host.0 = sym (said_here is.host header.size host object m is.says) in
    sends_tells header (Up host object) m past
    (said_up header doing host object m past old (subst (λ (h : ℕ). h < length header.frames.items) here is.known)
    (cause_of header outside doing (event.Sent (Up host object) m) past licence.0)
    (subst (λ (h : ℕ). KernelSays h header.size (event.Sent (Up host object) m)) here is.says)
    (subst (λ (h : ℕ). CreatesHere header h (event.Sent (Up host object) m) past) here is.creates))
said header outside doing e past old licence is inner = record { orderly = orderly_silent header e past tt old; can = tt }

pub orderly_said : (header : Header) (outside : Outside) (doing : Command) (past events : List Event) → IsOrderly header past
    → AllInTurn header outside doing events past → EachIn (SomeKernelSays header) events past → AllInner events
    → IsOrderly header (events ++ past)
orderly_said header outside doing past [] old licences is inner = old
orderly_said header outside doing past (e ∷ events) old licences is inner =
    (said header outside doing e (events ++ past) (orderly_said header outside doing past events old licences.1 is.1 inner.1) licences.0 is.0 inner.0).orderly

pub can_say : (header : Header) (outside : Outside) (doing : Command) (past events : List Event) → IsOrderly header past
    → AllInTurn header outside doing events past → EachIn (SomeKernelSays header) events past → AllInner events
    → CanTellAll header.size events past
can_say header outside doing past [] old licences is inner = tt
can_say header outside doing past (e ∷ events) old licences is inner = (
  (said header outside doing e (events ++ past) (orderly_said header outside doing past events old licences.1 is.1 inner.1) licences.0 is.0 inner.0).can,
  can_say header outside doing past events old licences.1 is.1 inner.1,
)

-- events that were told, one after another
pub record AllTold (header : Header) (events past : List Event) : Type 0 where
  pub orderly : IsOrderly header (events ++ past)
  pub can : CanTellAll header.size events past

pub page_of_answer : (size : ℕ) (m : Message) → IsWord size m → HasPageOf size m
page_of_answer size (message.Supply page lock precious bytes) is = is.1
page_of_answer size (message.Return control page dirty keep bytes) is = absurd is
page_of_answer size m is = tt

pub sent_down : (header : Header) (host : ℕ) (object : ObjectId) (control : ℕ) (m : Message) (past : List Event) → IsOrderly header past
    → host < length header.frames.items → IsWord header.size m
    → (is_shared header object.0 ≡ true → IsServerWord header.size m) → (is_shared header object.0 ≡ true → ServerSends header host object.0 control m past)
    → IsOrderly header (sent_to host object control m ∷ past)
sent_down header host object control m past old known answer word may = record {
  letters = letters_sent header (Down (host_id host) object control) m past old.letters (known, answer, word);
  washed = λ h. washed_sent h (Down (host_id host) object control) m past (old.washed h);
  home = λ h o. home_kept header h o (sent_to host object control m) past (old.home h o) (old.home h o).made refl;
  ending = λ h o temporary. lettered h o (sent_to host object control m ∷ past) (queued header h o past old temporary);
  made = λ h o. made_kept (sent_to host object control m) past h o tt (old.made h o);
  known = old.known;
  heard = heard_next header (sent_to host object control m) past may old.heard;
  locks = old.locks;
  changes = old.changes;
}

-- the pager of a host, which is not the server of shared memory, answers a control, whose channel was made
pub record Server (header : Header) (host at : ℕ) (object : ObjectId) (control : ℕ) (past : List Event) : Type 0 where
  pub known : host < length header.frames.items
  pub own : at ≡ host
  pub made : is_made (Down (host_id host) object control) past ≡ true
  pub plain : is_shared header object.0 ≡ false

pub told_none : (header : Header) (past : List Event) → IsOrderly header past → AllTold header [] past
told_none header past old = record { orderly = old; can = tt }

told_down : (header : Header) (host at : ℕ) (object : ObjectId) (control : ℕ) (m : Message) (events past : List Event) → AllTold header events past
    → Server header host at object control (events ++ past) → IsWord header.size m
    → AllTold header (sent_to at object control m ∷ events) past
told_down header host at object control m events past more server answer =
    subst (λ (h : ℕ). AllTold header (sent_to h object control m ∷ events) past) (sym server.own)
    (record {
      orderly = sent_down header host object control m (events ++ past) more.orderly server.known answer
          (λ shared. never_shared header object.0 server.plain shared) (λ shared. never_shared header object.0 server.plain shared);
      can = ((page_of_answer header.size m answer, server.made), more.can);
    })

told_one : (header : Header) (host at : ℕ) (object : ObjectId) (control : ℕ) (m : Message) (past : List Event) → IsOrderly header past
    → Server header host at object control past → IsWord header.size m → AllTold header (sent_to at object control m ∷ []) past
told_one header host at object control m past old server answer = told_down header host at object control m [] past (told_none header past old) server answer

-- a request is answered
replied : (header : Header) (host at size : ℕ) (object : ObjectId) (control : ℕ) (page : PageNo) (has : Option Held) (events past : List Event)
    → IsOrderly header past → Server header host at object control past → size ≡ header.size
    → RequestAnswer size at object control page has events → AllTold header events past
replied header host at size object control page None events past old server sized is =
    subst (λ (x : List Event). AllTold header x past) (sym is) (told_one header host at object control (message.Unavailable page) past old server tt)
replied header host at size object control page (Some held.Lost) events past old server sized is =
    subst (λ (x : List Event). AllTold header x past) (sym is) (told_one header host at object control (error page) past old server tt)
replied header host at size object control page (Some (held.Torn s)) events past old server sized is =
    subst (λ (x : List Event). AllTold header x past) (sym is) (told_one header host at object control (error page) past old server tt)
replied header host at size object control page (Some (held.Kept s)) events past old server sized (inl supplied) =
    subst (λ (x : List Event). AllTold header x past) (sym supplied.2) (told_one header host at object control (supply page supplied.0) past old server
    (omega arith, supplied.1 ∙ sized))
replied header host at size object control page (Some (held.Kept s)) events past old server sized (inr failed) =
    let failure : AllTold header (device_failed Read object page ∷ []) past = record {
      orderly = orderly_silent header (device_failed Read object page) past tt
          old;
      can = (tt, tt);
    } in
    subst (λ (x : List Event). AllTold header x past) (sym failed)
    (told_down header host at object control (error page) (device_failed Read object page ∷ []) past failure
    (record { known = server.known; own = server.own; made = server.made; plain = server.plain }) tt)

-- a page that was returned is put
kept_told : (header : Header) (object : ObjectId) (page : PageNo) (what : Put) (past : List Event) → IsOrderly header past
    → AllTold header (told_of what object page) past
kept_told header object page put.Kept past old = told_none header past old
kept_told header object page put.NoSlot past old = record { orderly = orderly_silent header (event.NoSlot object page) past tt old; can = (tt, tt) }
kept_told header object page put.Failed past old = record { orderly = orderly_silent header (device_failed Write object page) past tt old; can = (tt, tt) }

-- what the default pager answers
answered : (header : Header) (host : ℕ) (object : ObjectId) (m : Message) (past : List Event) (old new : SlotTable) (events : List Event)
    → IsOrderly header (taking host object m past)
    → IsHostLetter header past (record { channel = Up (host_id host) object; message = m }) → old.host ≡ host → old.size ≡ header.size
    → is_shared header object.0 ≡ false → PagerAnswer m object old new events → AllTold header events (taking host object m past)
answered header host object (message.Init control size) past old new events orderly letter home sized plain is =
    subst (λ (x : List Event). AllTold header x (taking host object (message.Init control size) past)) (sym is.1)
    (told_one header host old.host object control (message.Ready false 0) (taking host object (message.Init control size) past) orderly
    (record { known = letter.0; own = home; made = letter.1; plain = plain }) tt)
answered header host object (message.Create control size) past old new events orderly letter home sized plain is =
    subst (λ (x : List Event). AllTold header x (taking host object (message.Create control size) past)) (sym is.1)
    (told_one header host old.host object control (message.Ready false 3) (taking host object (message.Create control size) past) orderly
    (record { known = letter.0; own = home; made = letter.1; plain = plain }) tt)
answered header host object (message.Request control page access) past old new events orderly letter home sized plain is =
    replied header host old.host old.size object control page (held_at old object.0 page.0) events
    (taking host object (message.Request control page access) past) orderly (record { known = letter.0; own = home; made = letter.1; plain = plain }) sized
    is.1
answered header host object (message.Return control page dirty keep bytes) past old new events orderly letter home sized plain is =
    subst (λ (x : List Event). AllTold header x (taking host object (message.Return control page dirty keep bytes) past)) (sym is.told)
    (kept_told header object page (became events) (taking host object (message.Return control page dirty keep bytes) past) orderly)
answered header host object (message.Terminate control) past old new events orderly letter home sized plain is =
    subst (λ (x : List Event). AllTold header x (taking host object (message.Terminate control) past)) (sym is.1)
    (told_none header (taking host object (message.Terminate control) past) orderly)
answered header host object (message.Unlock control page access) past old new events orderly letter home sized plain is =
    subst (λ (x : List Event). AllTold header x (taking host object (message.Unlock control page access) past)) (sym is.1)
    (told_none header (taking host object (message.Unlock control page access) past) orderly)
answered header host object (message.Completed control page count) past old new events orderly letter home sized plain is =
    subst (λ (x : List Event). AllTold header x (taking host object (message.Completed control page count) past)) (sym is.1)
    (told_none header (taking host object (message.Completed control page count) past) orderly)
answered header host object (message.Changed control cache strategy) past old new events orderly letter home sized plain is =
    subst (λ (x : List Event). AllTold header x (taking host object (message.Changed control cache strategy) past)) (sym is.1)
    (told_none header (taking host object (message.Changed control cache strategy) past) orderly)
answered header host object m past old new events orderly letter home sized plain is = absurd letter.1

pub orderly_answered : (header : Header) (host : ℕ) (object : ObjectId) (m : Message) (past : List Event) (old new : SlotTable) (events : List Event)
    → IsOrderly header (taking host object m past)
    → IsHostLetter header past (record { channel = Up (host_id host) object; message = m }) → old.host ≡ host → old.size ≡ header.size
    → is_shared header object.0 ≡ false → PagerAnswer m object old new events → IsOrderly header (events ++ taking host object m past)
orderly_answered header host object m past old new events orderly letter home sized plain is =
    (answered header host object m past old new events orderly letter home sized plain is).orderly

pub can_answer : (header : Header) (host : ℕ) (object : ObjectId) (m : Message) (past : List Event) (old new : SlotTable) (events : List Event)
    → IsOrderly header (taking host object m past)
    → IsHostLetter header past (record { channel = Up (host_id host) object; message = m }) → old.host ≡ host → old.size ≡ header.size
    → is_shared header object.0 ≡ false → PagerAnswer m object old new events → CanTellAll header.size events (taking host object m past)
can_answer header host object m past old new events orderly letter home sized plain is =
    (answered header host object m past old new events orderly letter home sized plain is).can

-- a file's pager answers a request
file_replied : (header : Header) (host size : ℕ) (object : ObjectId) (control : ℕ) (page : PageNo) (lost : Bool) (events past : List Event)
    → IsOrderly header past → Server header host host object control past → size ≡ header.size
    → FileReply size host object.0 control page lost events → AllTold header events past
file_replied header host size object control page true events past old server sized is =
    subst (λ (x : List Event). AllTold header x past) (sym is) (told_one header host host object control (error page) past old server tt)
file_replied header host size object control page false events past old server sized (inl supplied) =
    subst (λ (x : List Event). AllTold header x past) (sym supplied.2) (told_one header host host object control (supply page supplied.0) past old server
    (omega arith, supplied.1 ∙ sized))
file_replied header host size object control page false events past old server sized (inr (inl lacking)) =
    subst (λ (x : List Event). AllTold header x past) (sym lacking) (told_one header host host object control (message.Unavailable page) past old server tt)
file_replied header host size object control page false events past old server sized (inr (inr failed)) =
    let failure : AllTold header (file_failed Read object.0 page ∷ []) past = record {
      orderly = orderly_silent header (file_failed Read object.0 page) past tt
          old;
      can = (tt, tt);
    } in
    subst (λ (x : List Event). AllTold header x past) (sym failed)
    (told_down header host host object control (error page) (file_failed Read object.0 page ∷ []) past failure
    (record { known = server.known; own = refl; made = server.made; plain = server.plain }) tt)

file_kept : (header : Header) (stored : Bool) (object : ℕ) (page : PageNo) (past : List Event) → IsOrderly header past
    → AllTold header (file_told stored object page) past
file_kept header true object page past old = told_none header past old
file_kept header false object page past old = record { orderly = orderly_silent header (file_failed Write object page) past tt old; can = (tt, tt) }

-- what a file's pager answers
filed : (header : Header) (host : ℕ) (object : ObjectId) (m : Message) (past : List Event) (old new : FileTable) (events : List Event)
    → IsOrderly header (taking host object m past)
    → IsHostLetter header past (record { channel = Up (host_id host) object; message = m }) → old.object ≡ object.0 → old.size ≡ header.size
    → is_shared header object.0 ≡ false → FileAnswer m host old new events → AllTold header events (taking host object m past)
filed header host object m past old new events orderly letter own sized unshared answer =
    by m orderly (subst (λ (n : ℕ). IsHostLetter header past (record { channel = Up (host_id host) (record { 0 = n }); message = m })) (sym own) letter) answer
  where
    its : ObjectId
    its = record { 0 = old.object }

    plain : is_shared header its.0 ≡ false
    plain = subst (λ (n : ℕ). is_shared header n ≡ false) (sym own) unshared

    by : (m : Message) → IsOrderly header (taking host object m past) → IsHostLetter header past (record { channel = Up (host_id host) its; message = m })
        → FileAnswer m host old new events → AllTold header events (taking host object m past)
    by (message.Init control size) orderly letter is =
        subst (λ (x : List Event). AllTold header x (taking host object (message.Init control size) past)) (sym is.1)
        (told_one header host host its control (message.Ready false 2) (taking host object (message.Init control size) past) orderly
        (record { known = letter.0; own = refl; made = letter.1; plain = plain }) tt)
    by (message.Create control size) orderly letter is =
        subst (λ (x : List Event). AllTold header x (taking host object (message.Create control size) past)) (sym is.1)
        (told_one header host host its control (message.Ready false 3) (taking host object (message.Create control size) past) orderly
        (record { known = letter.0; own = refl; made = letter.1; plain = plain }) tt)
    by (message.Request control page access) orderly letter is =
        file_replied header host old.size its control page (has_lost old page.0) events (taking host object (message.Request control page access) past) orderly
        (record { known = letter.0; own = refl; made = letter.1; plain = plain }) sized is.1
    by (message.Return control page dirty keep bytes) orderly letter is =
        subst (λ (x : List Event). AllTold header x (taking host object (message.Return control page dirty keep bytes) past)) (sym is.told)
        (file_kept header (is_stored events) old.object page (taking host object (message.Return control page dirty keep bytes) past) orderly)
    by (message.Terminate control) orderly letter is =
        subst (λ (x : List Event). AllTold header x (taking host object (message.Terminate control) past)) (sym is.1)
        (told_none header (taking host object (message.Terminate control) past) orderly)
    by (message.Unlock control page access) orderly letter is =
        subst (λ (x : List Event). AllTold header x (taking host object (message.Unlock control page access) past)) (sym is.1)
        (told_none header (taking host object (message.Unlock control page access) past) orderly)
    by (message.Completed control page count) orderly letter is =
        subst (λ (x : List Event). AllTold header x (taking host object (message.Completed control page count) past)) (sym is.1)
        (told_none header (taking host object (message.Completed control page count) past) orderly)
    by (message.Changed control cache strategy) orderly letter is =
        subst (λ (x : List Event). AllTold header x (taking host object (message.Changed control cache strategy) past)) (sym is.1)
        (told_none header (taking host object (message.Changed control cache strategy) past) orderly)
    by m orderly letter is = absurd letter.1

pub orderly_filed : (header : Header) (host : ℕ) (object : ObjectId) (m : Message) (past : List Event) (old new : FileTable) (events : List Event)
    → IsOrderly header (taking host object m past)
    → IsHostLetter header past (record { channel = Up (host_id host) object; message = m }) → old.object ≡ object.0 → old.size ≡ header.size
    → is_shared header object.0 ≡ false → FileAnswer m host old new events → IsOrderly header (events ++ taking host object m past)
orderly_filed header host object m past old new events orderly letter own sized plain is =
    (filed header host object m past old new events orderly letter own sized plain is).orderly

pub can_file : (header : Header) (host : ℕ) (object : ObjectId) (m : Message) (past : List Event) (old new : FileTable) (events : List Event)
    → IsOrderly header (taking host object m past)
    → IsHostLetter header past (record { channel = Up (host_id host) object; message = m }) → old.object ≡ object.0 → old.size ≡ header.size
    → is_shared header object.0 ≡ false → FileAnswer m host old new events → CanTellAll header.size events (taking host object m past)
can_file header host object m past old new events orderly letter own sized plain is =
    (filed header host object m past old new events orderly letter own sized plain is).can

-- what a file's pager asks for a clean
pub orderly_cleaned : (header : Header) (host : ℕ) (object : ObjectId) (control : ℕ) (page : PageNo) (count : ℕ) (flush : Bool) (past : List Event)
    → IsOrderly header past → host < length header.frames.items
    → is_shared header object.0 ≡ false → IsOrderly header (event.Sent (Down (host_id host) object control) (message.Lock page count 2 flush 8 true) ∷ past)
orderly_cleaned header host object control page count flush past old known plain =
    sent_down header host object control (message.Lock page count 2 flush 8 true) past old known (omega arith, inr refl)
    (λ shared. never_shared header object.0 plain shared) (λ shared. never_shared header object.0 plain shared)

pub orderly_cached : (header : Header) (host : ℕ) (object : ObjectId) (control : ℕ) (cache : Bool) (past : List Event)
    → IsOrderly header past → host < length header.frames.items
    → is_shared header object.0 ≡ false → IsOrderly header (event.Sent (Down (host_id host) object control) (message.Attributes cache 2 true) ∷ past)
orderly_cached header host object control cache past old known plain =
    sent_down header host object control (message.Attributes cache 2 true) past old known tt
    (λ shared. never_shared header object.0 plain shared) (λ shared. never_shared header object.0 plain shared)
