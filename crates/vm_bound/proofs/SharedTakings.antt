-- What the places of shared memory cost behind a taking, and that a lock which is taken finds nobody waiting for a page that may go.
use Rattle.std.proofs.Common.{ℕ, ◌*◌, ◌≤◌, ◌≡◌, ◌==◌, ◌∙◌, ◌&&◌, ◌||◌, Bool, true, false, List, ◌∷◌, Option, Some, None}
use Rattle.std.proofs.Common.{ap, sym, refl, subst, inl, inr, arith, if◌then◌else◌}
use Rattle.std.proofs.Math.Nat.{mul-le-mul_left}
use Rattle.std.specs.Prelude.{◌⊎◌}
use Rattle.vm_base.specs.declared.entry.Entry.{Entry}
use Rattle.vm_base.specs.declared.ids.HostId.{HostId}
use Rattle.vm_base.specs.declared.ids.ObjectId.{ObjectId}
use Rattle.vm_base.specs.declared.ids.PageNo.{PageNo}
use Rattle.vm_bound.proofs.AskedFor.{asked_same}
use Rattle.vm_bound.proofs.Calm.{same_entry}
use Rattle.vm_bound.proofs.Going.{AllHaveFrames}
use Rattle.vm_bound.proofs.Granting.{granted, supply_is_granted}
use Rattle.vm_bound.proofs.Owing.{IsCalm, inner_weight, turns}
use Rattle.vm_bound.proofs.Paying.{is_flushed_page}
use Rattle.vm_bound.proofs.Readied.{here_ready, here_unasked, known, right_here}
use Rattle.vm_bound.proofs.SharedPlaces.{IsCalmToWrite, at_third, shared_at, shared_weight, turns_seen}
use Rattle.vm_bound.proofs.Unlocks.{unlock_is_answered}
use Rattle.vm_bound.proofs.Wanting.{task_below}
use Rattle.vm_bound.proofs.Writing.{no_true, number_is, waits_back, wanted_back, writer_of}
use Rattle.vm_bound.specs.Accesses.{is_wanted_to_write, turn_weight}
use Rattle.vm_bound.specs.Places.{asked_for, place_weight, write_turns}
use Rattle.vm_bound.specs.Settles.{IsOnHosts}
use Rattle.vm_legal.proofs.Unshared.{shared_tame}
use Rattle.vm_legal.specs.Accesses.{Waits, names, page_of}
use Rattle.vm_legal.specs.Bytes.{OwnBytes}
use Rattle.vm_legal.specs.Debts.{IsPaid}
use Rattle.vm_legal.specs.Licences.{HasCause, Licensed, LockRequest, lock_taken}
use Rattle.vm_legal.specs.Outside.{Outside, is_file, is_shared}
use Rattle.vm_legal.specs.Prompt.{Awaits, AwaitsPage, Prompt}
use Rattle.vm_legal.specs.Walks.{page_on}
use Rattle.vm_model.specs.Controls.{is_control, live_control}
use Rattle.vm_model.specs.Local.{Elsewhere, Local, LocalEffect, TakesLock, TakesPage, local_after, taken_effect}
use Rattle.vm_model.specs.Moments.{BeforeSteps, EachEvent}
use Rattle.vm_model.specs.Named.{named}
use Rattle.vm_model.specs.PageLicences.{Cause}
use Rattle.vm_model.specs.PagePart.{page_part}
use Rattle.vm_model.specs.Side.{side}
use Rattle.vm_model.specs.Waiting.{Access, is_store}
use Rattle.vm_model.specs.Words.{Act, DownWord, Locking, OtherDown, StepBegins, Supplying, TakesDown, down_word, in_range}
use Rattle.vm_model.specs.declared.command.Command.TheVariants as command
use Rattle.vm_model.specs.declared.event.Event.{Event}
use Rattle.vm_model.specs.declared.event.Event.TheVariants as event
use Rattle.vm_model.specs.declared.message.Channel.{Channel}
use Rattle.vm_model.specs.declared.message.Channel.TheVariants.{Up, Down}
use Rattle.vm_model.specs.declared.message.Message.{Message}
use Rattle.vm_model.specs.declared.message.Message.TheVariants as message
use Rattle.vm_model.specs.declared.script.Header.{Header}
use Rattle.vm_shared.proofs.Causes.{licensed, page_cause}
use Rattle.vm_shared.proofs.Declared.{declared_top_own, place_from_declared, shared_declared}
use Rattle.vm_shared.proofs.Flat.{shared_no_file}
use Rattle.vm_shared.proofs.Numbering.{IsOwn, numbering}
use Rattle.vm_shared.proofs.Rows.{names_store}
use Rattle.vm_shared.proofs.Servers.{IsServers, taken_servers}
use Rattle.vm_shared.proofs.Steps.{steps_done}
use Rattle.vm_shared.proofs.Waiters.{same}

-- the moment before a taking: each event has its cause, the step before has ended, and whoever waits has a frame
pub record Rests (header : Header) (outside : Outside) (past : List Event) : Type 0 where
  pub causes : EachEvent (HasCause header outside) past
  pub own_bytes : EachEvent (OwnBytes header) past
  pub hosts : EachEvent (IsOnHosts header) past
  pub paid : BeforeSteps (IsPaid header) past
  pub prompt : Prompt header past
  pub frames : AllHaveFrames header past

-- What waits for a page of shared memory that is here finds it locked, with an unlock out.

awaits_lock : (header : Header) (outside : Outside) (past : List Event) → Rests header outside past → (h o p : ℕ) (store : Bool) → is_shared header o ≡ true
    → (page_on header h o p past).here ≡ true → Awaits header h store o p past
    → (names (page_on header h o p past).lock store ≡ true) × ((page_on header h o p past).unlocking ≡ true)
awaits_lock header outside past r h o p store shared here (Awaits.AnAnswer asked) =
    no_true (sym (here_unasked header outside past r.causes r.own_bytes h o p shared here) ∙ asked)
awaits_lock header outside past r h o p store shared here (Awaits.AReady control live unready) =
    no_true (sym unready ∙ here_ready header outside past r.causes r.own_bytes h o p shared here)
awaits_lock header outside past r h o p store shared here (Awaits.AnUnlock now named unlocking) = (named, unlocking)

awaits_here : (header : Header) (outside : Outside) (past : List Event) → Rests header outside past → (h o p : ℕ) (access : Access)
    → is_shared header o ≡ true → (page_on header h o p past).here ≡ true → AwaitsPage header h access o p past
    → (names (page_on header h o p past).lock (is_store access) ≡ true) × ((page_on header h o p past).unlocking ≡ true)
awaits_here header outside past r h o p access shared here (AwaitsPage.AtPlace object object_page place awaits) =
    let own : IsOwn o p object object_page = place_from_declared header past o p object object_page (numbering header outside past r.causes).numbered
    (shared_declared header o shared) place in
    awaits_lock header outside past r h o p (is_store access) shared here
    (subst (λ (x : ℕ). Awaits header h (is_store access) x p past) (sym own.region)
    (subst (λ (x : ℕ). Awaits header h (is_store access) object x past) (sym own.page) awaits))
awaits_here header outside past r h o p access shared here (AwaitsPage.ForPush object object_page copy store top owes asked) =
    let own : IsOwn o p object object_page = declared_top_own header past o p object object_page (numbering header outside past r.causes).numbered
    (shared_declared header o shared) top in
    no_true (sym (subst (λ (k : ℕ). is_file header k ≡ false) own.region (shared_no_file header o shared)) ∙ owes.file)

pub held_here : (header : Header) (outside : Outside) (past : List Event) → Rests header outside past → (task : ℕ) (access : Access)
    → (waits : Waits header task access past) → is_shared header waits.at.entry.region.0 ≡ true
    → (page_on header waits.at.host waits.at.entry.region.0 (page_of header task access past waits.at.entry) past).here ≡ true
    → (names (page_on header waits.at.host waits.at.entry.region.0 (page_of header task access past waits.at.entry) past).lock (is_store access) ≡ true)
    × ((page_on header waits.at.host waits.at.entry.region.0 (page_of header task access past waits.at.entry) past).unlocking ≡ true)
held_here header outside past r task access waits shared here =
    elim ((r.prompt waits.at.host (task_below header task waits.at.host past r.hosts waits.at.lives).1).waits task access waits refl) [
      | inl it ↦
          let entry : it.waits.at.entry ≡ waits.at.entry = same_entry _ it.waits.at.entry waits.at.entry it.waits.at.found waits.at.found in
          awaits_here header outside past r waits.at.host waits.at.entry.region.0 (page_of header task access past waits.at.entry) access shared here
          (subst (λ (e : Entry). AwaitsPage header waits.at.host access e.region.0 (page_of header task access past e) past) entry it.what)
      | inr full ↦ let some = r.frames task access waits in let none = full.none in absurd (omega (arith, some, none))
    ]

-- so no reader's page is here
pub reader_away : (header : Header) (outside : Outside) (past : List Event) → Rests header outside past → (task : ℕ) (access : Access)
    → (waits : Waits header task access past) → is_shared header waits.at.entry.region.0 ≡ true → is_store access ≡ false
    → (page_on header waits.at.host waits.at.entry.region.0 (page_of header task access past waits.at.entry) past).here ≡ false
reader_away header outside past r task access waits shared reads =
    by (page_on header waits.at.host waits.at.entry.region.0 (page_of header task access past waits.at.entry) past).here
    (held_here header outside past r task access waits shared)
  where
    place : Local
    place = page_on header waits.at.host waits.at.entry.region.0 (page_of header task access past waits.at.entry) past

    by : (b : Bool) → (b ≡ true → (names place.lock (is_store access) ≡ true) × (place.unlocking ≡ true)) → b ≡ false
    by false held = refl
    by true held =
        let store = (names_store place.lock (is_store access)
        (known header outside past r.causes waits.at.host waits.at.entry.region.0 (page_of header task access past waits.at.entry) shared).shared.lock
        (held refl).0).0 in
        no_true (sym reads ∙ store)

-- and a store's is locked
pub writer_held : (header : Header) (outside : Outside) (past : List Event) → Rests header outside past → (h o p : ℕ) → is_shared header o ≡ true
    → is_wanted_to_write header h o p past ≡ true → (page_on header h o p past).here ≡ true
    → (names (page_on header h o p past).lock true ≡ true) × ((page_on header h o p past).unlocking ≡ true)
writer_held header outside past r h o p shared wanted here =
    let it = writer_of header h o p past wanted in
    let w = it.is in
    let q : ℕ = page_of header it.task w.access past w.waits.at.entry in
    let there = subst (λ (x : ℕ). (page_on header x w.waits.at.entry.region.0 q past).here ≡ true) (sym w.on_host)
    (subst (λ (x : ℕ). (page_on header h x q past).here ≡ true) (sym w.region)
    (subst (λ (x : ℕ). (page_on header h o x past).here ≡ true) (sym w.page) here)) in
    let held = held_here header outside past r it.task w.access w.waits (subst (λ (k : ℕ). is_shared header k ≡ true) (sym w.region) shared) there in
    subst (λ (x : ℕ). (names (page_on header x o p past).lock true ≡ true) × ((page_on header x o p past).unlocking ≡ true)) w.on_host
    (subst (λ (x : ℕ). (names (page_on header w.waits.at.host x p past).lock true ≡ true) × ((page_on header w.waits.at.host x p past).unlocking ≡ true))
    w.region
    (subst (λ (x : ℕ). (names (page_on header w.waits.at.host w.waits.at.entry.region.0 x past).lock true ≡ true)
    × ((page_on header w.waits.at.host w.waits.at.entry.region.0 x past).unlocking ≡ true)) w.page
    (subst (λ (b : Bool). (names (page_on header w.waits.at.host w.waits.at.entry.region.0 q past).lock b ≡ true)
    × ((page_on header w.waits.at.host w.waits.at.entry.region.0 q past).unlocking ≡ true)) w.kind held)))

-- What a host takes is the oldest of its channel.

live_own : (b : Bool) (n control : ℕ) (live : Option ℕ) → (if b then Some n else None) ≡ live → is_control control live ≡ true → (b ≡ true) × (n ≡ control)
live_own b n control live same is = by b (subst (λ (l : Option ℕ). is_control control l ≡ true) (sym same) is)
  where
    by : (b : Bool) → is_control control (if b then Some n else None) ≡ true → (b ≡ true) × (n ≡ control)
    by true is = (refl, number_is n control is)
    by false is = no_true is

word_cause : (size h control : ℕ) (b : Bool) (v w : DownWord) (part : List Act) → b ≡ true → v ≡ w
    → Cause size h (if b then TakesDown control v else StepBegins) part → Cause size h (TakesDown control w) part
word_cause size h control true v w part is same c = subst (λ (x : DownWord). Cause size h (TakesDown control x) part) same c
word_cause size h control false v w part is same c = no_true is

-- a message that the live control of a host takes
pub record TakesHere (header : Header) (outside : Outside) (count : ℕ) (h o : ℕ) (host : HostId) (object : ObjectId) (control : ℕ) (m : Message)
    (past : List Event) : Type 0 where
  pub licensed : Licensed header outside (command.Settle count) (event.Taken (Down host object control) m) past
  pub host_is : (host.0 == h) ≡ true
  pub object_is : (object.0 == o) ≡ true
  pub lives : is_control control (live_control h o past) ≡ true

takes_word : (header : Header) (outside : Outside) (count h o p : ℕ) (host : HostId) (object : ObjectId) (control : ℕ) (m : Message) (w : DownWord)
    (past : List Event) → Rests header outside past → is_shared header o ≡ true → TakesHere header outside count h o host object control m past
    → down_word p m ≡ w → Cause header.size h (TakesDown control w) (page_part header.size o p past)
takes_word header outside count h o p host object control m w past r shared t same =
    let c = page_cause header outside o p (event.Taken (Down host object control) m) past r.causes (command.Settle count, t.licensed.0) tt shared in
    let it = word_cause header.size host.0 control (object.0 == o) (down_word p m) w (page_part header.size o p past) t.object_is same c in
    subst (λ (g : ℕ). Cause header.size g (TakesDown control w) (page_part header.size o p past)) (number_is host.0 h t.host_is) it

side_lives : (header : Header) (outside : Outside) (past : List Event) → Rests header outside past → (h o p control : ℕ) → is_shared header o ≡ true
    → is_control control (live_control h o past) ≡ true
    → ((side h (page_part header.size o p past)).live ≡ true) × ((side h (page_part header.size o p past)).control ≡ control)
side_lives header outside past r h o p control shared lives =
    live_own (side h (page_part header.size o p past)).live (side h (page_part header.size o p past)).control control (live_control h o past)
    (known header outside past r.causes h o p shared).is.control lives

takes_server : (header : Header) (outside : Outside) (count h o : ℕ) (host : HostId) (object : ObjectId) (control : ℕ) (m : Message) (past : List Event)
    → Rests header outside past → is_shared header o ≡ true → TakesHere header outside count h o host object control m past → IsServers m
takes_server header outside count h o host object control m past r shared t =
    taken_servers header outside host object control m past r.causes t.licensed.0.0 (shared_at header object.0 o t.object_is shared)

-- a supply is as the last request was
supply_fits : (header : Header) (outside : Outside) (count h o p : ℕ) (host : HostId) (object : ObjectId) (control : ℕ) (page : PageNo) (lock : ℕ)
    (precious : Bool) (bytes : List ℕ) (past : List Event) → Rests header outside past → is_shared header o ≡ true
    → TakesHere header outside count h o host object control (message.Supply page lock precious bytes) past → (page.0 == p) ≡ true
    → lock ≡ granted (asked_for h o p past)
supply_fits header outside count h o p host object control page lock precious bytes past r shared t is =
    let word = own (page.0 == p) is in
    let c = takes_word header outside count h o p host object control (message.Supply page lock precious bytes) (Supplying lock precious bytes) past r shared t
    word in
    let lives = side_lives header outside past r h o p control shared t.lives in
    let acts = licensed header outside past r.causes r.own_bytes o p shared in
    supply_is_granted header.size h lock precious bytes (page_part header.size o p past) acts (c lives.1 lives.0)
    ∙ ap granted (asked_same header.size h o p past)
  where
    own : (b : Bool) → b ≡ true → (if b then Supplying lock precious bytes else OtherDown) ≡ Supplying lock precious bytes
    own true one = refl
    own false one = no_true one

-- a lock that leaves the page readable finds no store waiting there
clean_none : (header : Header) (outside : Outside) (count h o p : ℕ) (host : HostId) (object : ObjectId) (control : ℕ) (page : PageNo) (range returns : ℕ)
    (lock : ℕ) (reply : Bool) (past : List Event) → Rests header outside past → is_shared header o ≡ true
    → TakesHere header outside count h o host object control (message.Lock page range returns false lock reply) past → in_range p page.0 range ≡ true
    → lock ≡ 2 → is_wanted_to_write header h o p past ≡ true → (page_on header h o p past).here ≡ true → ⊥
clean_none header outside count h o p host object control page range returns lock reply past r shared t within two wanted here =
    let word = own (in_range p page.0 range) within in
    let c = takes_word header outside count h o p host object control (message.Lock page range returns false lock reply)
    (Locking range returns false lock reply) past r shared t word in
    let lives = side_lives header outside past r h o p control shared t.lives in
    let acts = licensed header outside past r.causes r.own_bytes o p shared in
    let held = writer_held header outside past r h o p shared wanted here in
    let k = known header outside past r.causes h o p shared in
    let out = k.is.unlocking here ∙ held.1 in
    let some = right_here (live_control h o past) (side h (page_part header.size o p past)) (page_on header h o p past) k.is here in
    elim (unlock_is_answered header.size h range returns lock false reply (page_part header.size o p past) acts
    (steps_done header outside o p past shared r.causes r.paid) out some (c lives.1 lives.0)) [
      | inl flush ↦ no_true flush
      | inr none ↦ absurd (omega (arith, two, none))
    ]
  where
    own : (b : Bool) → b ≡ true → (if b then Locking range returns false lock reply else OtherDown) ≡ Locking range returns false lock reply
    own true one = refl
    own false one = no_true one

-- The turns behind a taking.

flush_seen : (access : ℕ) (a b u q v : Bool) → turns_seen true access a b v q ≤ turns_seen false access a b u q
flush_seen access true true true q v = omega arith
flush_seen access true true false q v = omega arith
flush_seen access true false u q v = omega arith
flush_seen access false b u q v = itself_le (if q then (if access == 3 then 0 else 2) else 1)
  where
    itself_le : (n : ℕ) → n ≤ n
    itself_le n = omega arith

granted_seen : (access : ℕ) (a c b u q v : Bool) → a ≡ true → c ≡ false → turns_seen false access a c v q ≤ turns_seen false access a b u q
granted_seen access true false b u q v one two = omega arith
granted_seen access false c b u q v one two = no_true one
granted_seen access a true b u q v one two = no_true (sym two)

turns_same : (f : Bool) (access : ℕ) (was : Local) → f ≡ false → turns f access was ≤ write_turns access was
turns_same f access was is = subst (λ (b : Bool). turns b access was ≤ write_turns access was) (sym is) (itself_le (write_turns access was))
  where
    itself_le : (n : ℕ) → n ≤ n
    itself_le n = omega arith

-- a flush, a grant, or any lock of a page that isn't here
abbrev LockFits : Bool → ℕ → Local → Type 0
LockFits flush lock was = (flush ≡ true) ⊎ ((lock ≡ 0) ⊎ (was.here ≡ false))

lock_own : (size access lock : ℕ) (flush : Bool) (was : Local) → LockFits flush lock was
    → turns flush access (local_after size (TakesLock lock flush) was) ≤ write_turns access was
lock_own size access lock flush was fits = by was.here flush refl fits
  where
    itself_le : (n : ℕ) → n ≤ n
    itself_le n = omega arith

    zero_named : (was lock : ℕ) → lock ≡ 0 → names (if false || lock == 8 then was else lock) true ≡ false
    zero_named was lock none = rw none refl

    by : (b f : Bool) → was.here ≡ b → LockFits f lock was
        → turns f access (if b then record was { lock = if f || lock == 8 then was.lock else lock; unlocking = false } else was) ≤ write_turns access was
    by true true here fits = flush_seen access was.here (names was.lock true) was.unlocking was.asked false
    by true false here (inl flush) = no_true flush
    by true false here (inr (inl none)) =
        granted_seen access was.here (names (if false || lock == 8 then was.lock else lock) true) (names was.lock true) was.unlocking was.asked false here
        (zero_named was.lock lock none)
    by true false here (inr (inr away)) = no_true (sym away ∙ here)
    by false true here fits = flush_seen access was.here (names was.lock true) was.unlocking was.asked was.unlocking
    by false false here fits = itself_le (write_turns access was)

lock_turns : (size access lock : ℕ) (a b k l i flush : Bool) (was : Local) → (a ≡ true → b ≡ true → l ≡ k)
    → (a ≡ true → b ≡ true → k ≡ true → i ≡ true → LockFits flush lock was)
    → turns (l && (flush && (a && (b && i)))) access
    (local_after size (if a && (b && k) then (if i then TakesLock lock flush else Elsewhere) else Elsewhere) was) ≤ write_turns access was
lock_turns size access lock true true true true true true was same fits = lock_own size access lock true was (fits refl refl refl refl)
lock_turns size access lock true true true true true false was same fits = lock_own size access lock false was (fits refl refl refl refl)
lock_turns size access lock true true true false i flush was same fits = no_true (same refl refl)
lock_turns size access lock true true true l false flush was same fits = turns_same _ access was (none l flush)
  where
    none : (l f : Bool) → (l && (f && false)) ≡ false
    none l f = grind arith
lock_turns size access lock true true false l i flush was same fits = turns_same _ access was (none l flush i (same refl refl))
  where
    none : (l f i : Bool) → l ≡ false → (l && (f && i)) ≡ false
    none l f i is = grind arith
lock_turns size access lock true false k l i flush was same fits = turns_same _ access was (none l flush)
  where
    none : (l f : Bool) → (l && (f && false)) ≡ false
    none l f = grind arith
lock_turns size access lock false b k l i flush was same fits = turns_same _ access was (none l flush)
  where
    none : (l f : Bool) → (l && (f && false)) ≡ false
    none l f = grind arith

supply_own : (size access lock : ℕ) (precious : Bool) (bytes : List ℕ) (was : Local) → (was.asked ≡ true → was.here ≡ false) → lock ≡ granted access
    → turns false access (local_after size (TakesPage lock precious bytes) was) ≤ write_turns access was
supply_own size access lock precious bytes was away is = by was.asked refl
  where
    itself_le : (n : ℕ) → n ≤ n
    itself_le n = omega arith

    named : (c : Bool) → (if names (if c then 0 else 2) true then 2 else 0) ≤ (if c then 0 else 2)
    named true = omega arith
    named false = omega arith

    seen : (a q b u : Bool) → a ≡ false → q ≡ true → (if access == 3 then 0 else 2) ≤ turns_seen false access a b u q
    seen false true b u one two = itself_le (if access == 3 then 0 else 2)
    seen true q b u one two = no_true (sym one)
    seen a false b u one two = no_true two

    by : (b : Bool) → was.asked ≡ b
        → turns false access (if b then record was {
          here = true;
          bytes = bytes;
          lock = lock;
          dirty = false;
          precious = precious;
          unlocking = false;
          asked = false;
        } else was) ≤ write_turns access was
    by true asked =
        let one = subst (λ (n : ℕ). (if names n true then 2 else 0) ≤ (if access == 3 then 0 else 2)) (sym is) (named (access == 3)) in
        let two = seen was.here was.asked (names was.lock true) was.unlocking (away asked) asked in
        omega (arith, one, two)
    by false asked = itself_le (write_turns access was)

supply_turns : (size access lock : ℕ) (precious : Bool) (bytes : List ℕ) (t i : Bool) (was : Local) → (was.asked ≡ true → was.here ≡ false)
    → (t ≡ true → i ≡ true → lock ≡ granted access)
    → turns false access (local_after size (if t then (if i then TakesPage lock precious bytes else Elsewhere) else Elsewhere) was) ≤ write_turns access was
supply_turns size access lock precious bytes true true was away is = supply_own size access lock precious bytes was away (is refl refl)
supply_turns size access lock precious bytes true false was away is = turns_same false access was refl
supply_turns size access lock precious bytes false i was away is = turns_same false access was refl

-- what isn't a supply nor a lock
other_turns : (size access : ℕ) (t : Bool) (e : LocalEffect) (was : Local) → (t ≡ true → e ≡ Elsewhere)
    → turns false access (local_after size (if t then e else Elsewhere) was) ≤ write_turns access was
other_turns size access true e was is =
    subst (λ (x : LocalEffect). turns false access (local_after size x was) ≤ write_turns access was) (sym (is refl)) (turns_same false access was refl)
other_turns size access false e was is = turns_same false access was refl

flushed_if : (h o p : ℕ) (l : Bool) (r : LockRequest) → is_flushed_page h o p (if l then Some r else None) ≡ (l && is_flushed_page h o p (Some r))
flushed_if h o p true r = refl
flushed_if h o p false r = refl

taken_here : (header : Header) (outside : Outside) (count h o : ℕ) (host : HostId) (object : ObjectId) (control : ℕ) (m : Message) (past : List Event)
    → Licensed header outside (command.Settle count) (event.Taken (Down host object control) m) past
    → (host.0 == h && (object.0 == o && is_control control (live_control h o past))) ≡ true → TakesHere header outside count h o host object control m past
taken_here header outside count h o host object control m past c is =
    let parts = three (host.0 == h) (object.0 == o) (is_control control (live_control h o past)) is in
    record { licensed = c; host_is = parts.0; object_is = parts.1; lives = parts.2 }
  where
    three : (a b c : Bool) → (a && (b && c)) ≡ true → (a ≡ true) × (b ≡ true) × (c ≡ true)
    three a b c is = grind arith

-- the lock that comes fits
lock_fits : (header : Header) (outside : Outside) (count h o p : ℕ) (host : HostId) (object : ObjectId) (control : ℕ) (page : PageNo) (range returns : ℕ)
    (flush : Bool) (lock : ℕ) (reply : Bool) (past : List Event) → Rests header outside past → is_shared header o ≡ true
    → is_wanted_to_write header h o p past ≡ true
    → TakesHere header outside count h o host object control (message.Lock page range returns flush lock reply) past → in_range p page.0 range ≡ true
    → LockFits flush lock (page_on header h o p past)
lock_fits header outside count h o p host object control page range returns true lock reply past r shared wanted t within = inl refl
lock_fits header outside count h o p host object control page range returns false lock false past r shared wanted t within =
    inr (inl (takes_server header outside count h o host object control (message.Lock page range returns false lock false) past r shared t).2)
lock_fits header outside count h o p host object control page range returns false lock true past r shared wanted t within =
    let two = (takes_server header outside count h o host object control (message.Lock page range returns false lock true) past r shared t).2 in
    inr (inr (by (page_on header h o p past).here
    (clean_none header outside count h o p host object control page range returns lock true past r shared t within two wanted)))
  where
    by : (b : Bool) → (b ≡ true → ⊥) → b ≡ false
    by true none = absurd (none refl)
    by false none = refl

asked_away : (header : Header) (outside : Outside) (past : List Event) → Rests header outside past → (h o p : ℕ) → is_shared header o ≡ true
    → (page_on header h o p past).asked ≡ true → (page_on header h o p past).here ≡ false
asked_away header outside past r h o p shared asked =
    by (page_on header h o p past).here (here_unasked header outside past r.causes r.own_bytes h o p shared)
  where
    by : (b : Bool) → (b ≡ true → (page_on header h o p past).asked ≡ false) → b ≡ false
    by false none = refl
    by true none = no_true (sym (none refl) ∙ asked)

-- what the turns are behind a taking
abbrev turns_behind : Header → ℕ → ℕ → ℕ → Channel → Message → List Event → ℕ
turns_behind header h o p channel m past =
    turns (is_flushed_page h o p (lock_taken (event.Taken channel m ∷ past))) (asked_for h o p past) (page_on header h o p (event.Taken channel m ∷ past))

down_turns : (header : Header) (outside : Outside) (count h o p : ℕ) (host : HostId) (object : ObjectId) (control : ℕ) (m : Message) (past : List Event)
    → Rests header outside past → is_shared header o ≡ true → is_wanted_to_write header h o p past ≡ true
    → Licensed header outside (command.Settle count) (event.Taken (Down host object control) m) past
    → turns_behind header h o p (Down host object control) m past ≤ write_turns (asked_for h o p past) (page_on header h o p past)
down_turns header outside count h o p host object control (message.Lock page range returns flush lock reply) past r shared wanted c =
    let q : LockRequest = record {
      host = host.0;
      object = object.0;
      control = control;
      page = page.0;
      count = range;
      returns = returns;
      flush = flush;
      lock = lock;
      reply = reply;
    } in
    subst (λ (f : Bool). turns f (asked_for h o p past)
    (page_on header h o p (event.Taken (Down host object control) (message.Lock page range returns flush lock reply) ∷ past))
    ≤ write_turns (asked_for h o p past) (page_on header h o p past))
    (sym (flushed_if h o p (is_control control (live_control host.0 object.0 past)) q))
    (lock_turns header.size (asked_for h o p past) lock (host.0 == h) (object.0 == o) (is_control control (live_control h o past))
    (is_control control (live_control host.0 object.0 past)) (in_range p page.0 range) flush (page_on header h o p past)
    (λ a b. at_third (λ g k q. is_control control (live_control host.0 object.0 past) ≡ is_control control (live_control g k past)) host.0 object.0 0 h o 0 a b
    refl refl)
    (λ a b k i. lock_fits header outside count h o p host object control page range returns flush lock reply past r shared wanted
    (record { licensed = c; host_is = a; object_is = b; lives = k }) i))
down_turns header outside count h o p host object control (message.Supply page lock precious bytes) past r shared wanted c =
    supply_turns header.size (asked_for h o p past) lock precious bytes
    (host.0 == h && (object.0 == o && is_control control (live_control h o past))) (page.0 == p) (page_on header h o p past)
    (asked_away header outside past r h o p shared)
    (λ t i. supply_fits header outside count h o p host object control page lock precious bytes past r shared
    (taken_here header outside count h o host object control (message.Supply page lock precious bytes) past c t) i)
down_turns header outside count h o p host object control (message.Unavailable page) past r shared wanted c =
    other_turns header.size (asked_for h o p past) (host.0 == h && (object.0 == o && is_control control (live_control h o past)))
    (taken_effect p (message.Unavailable page)) (page_on header h o p past)
    (λ t. absurd (takes_server header outside count h o host object control (message.Unavailable page) past r shared
    (taken_here header outside count h o host object control (message.Unavailable page) past c t)))
down_turns header outside count h o p host object control (message.Error page reason) past r shared wanted c =
    other_turns header.size (asked_for h o p past) (host.0 == h && (object.0 == o && is_control control (live_control h o past)))
    (taken_effect p (message.Error page reason)) (page_on header h o p past)
    (λ t. absurd (takes_server header outside count h o host object control (message.Error page reason) past r shared
    (taken_here header outside count h o host object control (message.Error page reason) past c t)))
down_turns header outside count h o p host object control m past r shared wanted c =
    other_turns header.size (asked_for h o p past) (host.0 == h && (object.0 == o && is_control control (live_control h o past))) Elsewhere
    (page_on header h o p past) (λ t. refl)

taken_turns : (header : Header) (outside : Outside) (count h o p : ℕ) (channel : Channel) (m : Message) (past : List Event)
    → Rests header outside past → is_shared header o ≡ true → is_wanted_to_write header h o p past ≡ true
    → Licensed header outside (command.Settle count) (event.Taken channel m) past
    → turns_behind header h o p channel m past ≤ write_turns (asked_for h o p past) (page_on header h o p past)
taken_turns header outside count h o p (Down host object control) m past r shared wanted c =
    down_turns header outside count h o p host object control m past r shared wanted c
taken_turns header outside count h o p (Up host object) m past r shared wanted c = turns_same false (asked_for h o p past) (page_on header h o p past) refl

place_shared : (header : Header) (h o p : ℕ) (past : List Event) → is_shared header o ≡ true
    → place_weight header h o p past
    ≡ (if is_wanted_to_write header h o p past then turn_weight header * write_turns (asked_for h o p past) (page_on header h o p past) else 0)
place_shared header h o p past shared = rw (shared_tame header o shared, shared) refl

-- The law of takings.
pub shared_taken : (header : Header) (outside : Outside) (count : ℕ) (channel : Channel) (m : Message) (past : List Event)
    → Licensed header outside (command.Settle count) (event.Taken channel m) past → Rests header outside past → (h o p : ℕ) → is_shared header o ≡ true
    → inner_weight header h o p (event.Taken channel m ∷ past) ≤ place_weight header h o p past
shared_taken header outside count channel m past c r h o p shared =
    let now = shared_weight header h o p (event.Taken channel m ∷ past) shared in
    let was = place_shared header h o p past shared in
    let less = by (is_wanted_to_write header h o p (event.Taken channel m ∷ past)) (is_wanted_to_write header h o p past)
    (wanted_back header h o p past (event.Taken channel m ∷ past) (λ task. same header.size task (event.Taken channel m) past refl))
    (λ wanted. taken_turns header outside count h o p channel m past r shared wanted c) in
    omega (arith, now, was, less)
  where
    by : (after before : Bool) → (after ≡ true → before ≡ true)
        → (before ≡ true → turns_behind header h o p channel m past ≤ write_turns (asked_for h o p past) (page_on header h o p past))
        → (if after then turn_weight header * turns_behind header h o p channel m past else 0)
        ≤ (if before then turn_weight header * write_turns (asked_for h o p past) (page_on header h o p past) else 0)
    by true true stays le = mul-le-mul_left (turn_weight header) (le refl)
    by true false stays le = no_true (stays refl)
    by false before stays le = omega arith

-- Behind a lock that is taken no reader's page is here, and behind a flush a writer's is locked.

no_request : {A : Type 0} (r : LockRequest) → ◌≡◌ {A = Option LockRequest} None (Some r) → A
no_request r is = absurd (cc)

lock_stays_away : (size lock : ℕ) (flush t i : Bool) (was : Local) → was.here ≡ false
    → (local_after size (if t then (if i then TakesLock lock flush else Elsewhere) else Elsewhere) was).here ≡ false
lock_stays_away size lock flush true true was away = by was.here away
  where
    by : (b : Bool) → b ≡ false → (if b then record was { lock = if flush || lock == 8 then was.lock else lock; unlocking = false } else was).here ≡ false
    by true is = no_true (sym is)
    by false is = away
lock_stays_away size lock flush true false was away = away
lock_stays_away size lock flush false i was away = away

not_come : (header : Header) (h o p : ℕ) (channel : Channel) (m : Message) (past : List Event) (request : LockRequest)
    → lock_taken (event.Taken channel m ∷ past) ≡ Some request → (page_on header h o p past).here ≡ false
    → (page_on header h o p (event.Taken channel m ∷ past)).here ≡ false
not_come header h o p (Up host object) m past request taken away = no_request request taken
not_come header h o p (Down host object control) (message.Lock page range returns flush lock reply) past request taken away =
    lock_stays_away header.size lock flush (host.0 == h && (object.0 == o && is_control control (live_control h o past))) (in_range p page.0 range)
    (page_on header h o p past) away
not_come header h o p (Down host object control) m past request taken away = no_request request taken

pub calm_taken : (header : Header) (outside : Outside) (channel : Channel) (m : Message) (past : List Event) → Rests header outside past
    → IsCalm header (event.Taken channel m ∷ past)
calm_taken header outside channel m past r request task access taken waits on_host shared reads =
    not_come header waits.at.host waits.at.entry.region.0 (page_of header task access past waits.at.entry) channel m past request taken
    (reader_away header outside past r task access
    (waits_back header task access past (event.Taken channel m ∷ past) (same header.size task (event.Taken channel m) past refl) waits) shared reads)

flush_keeps : (size lock : ℕ) (flush t i : Bool) (was : Local) → flush ≡ true
    → (local_after size (if t then (if i then TakesLock lock flush else Elsewhere) else Elsewhere) was).here ≡ true
    → (was.here ≡ true) × ((local_after size (if t then (if i then TakesLock lock flush else Elsewhere) else Elsewhere) was).lock ≡ was.lock)
flush_keeps size lock true true true was is here = by was.here refl here
  where
    by : (b : Bool) → was.here ≡ b → (if b then record was { lock = was.lock; unlocking = false } else was).here ≡ true
        → (was.here ≡ true) × ((if b then record was { lock = was.lock; unlocking = false } else was).lock ≡ was.lock)
    by true stood now = (stood, refl)
    by false stood now = (now, refl)
flush_keeps size lock false true true was is here = no_true is
flush_keeps size lock flush true false was is here = (here, refl)
flush_keeps size lock flush false i was is here = (here, refl)

its_flush : (l : Bool) (q request : LockRequest) → (if l then Some q else None) ≡ Some request → q.flush ≡ request.flush
its_flush true q request is = let one : q ≡ request = cc in ap (λ (x : LockRequest). x.flush) one
its_flush false q request is = no_request request is

-- where a flush was taken a page that is here was here, with the same lock
flush_leaves : (header : Header) (h o p : ℕ) (channel : Channel) (m : Message) (past : List Event) (request : LockRequest)
    → lock_taken (event.Taken channel m ∷ past) ≡ Some request → request.flush ≡ true → (page_on header h o p (event.Taken channel m ∷ past)).here ≡ true
    → ((page_on header h o p past).here ≡ true) × ((page_on header h o p (event.Taken channel m ∷ past)).lock ≡ (page_on header h o p past).lock)
flush_leaves header h o p (Up host object) m past request taken flush here = no_request request taken
flush_leaves header h o p (Down host object control) (message.Lock page range returns kind lock reply) past request taken flush here =
    let q : LockRequest = record {
      host = host.0;
      object = object.0;
      control = control;
      page = page.0;
      count = range;
      returns = returns;
      flush = kind;
      lock = lock;
      reply = reply;
    } in
    flush_keeps header.size lock kind (host.0 == h && (object.0 == o && is_control control (live_control h o past))) (in_range p page.0 range)
    (page_on header h o p past) (its_flush (is_control control (live_control host.0 object.0 past)) q request taken ∙ flush) here
flush_leaves header h o p (Down host object control) m past request taken flush here = no_request request taken

pub calm_to_write_taken : (header : Header) (outside : Outside) (channel : Channel) (m : Message) (past : List Event) → Rests header outside past
    → IsCalmToWrite header (event.Taken channel m ∷ past)
calm_to_write_taken header outside channel m past r request task access taken flush waits on_host shared store here =
    let was : Waits header task access past =
    waits_back header task access past (event.Taken channel m ∷ past) (same header.size task (event.Taken channel m) past refl) waits in
    let q : ℕ = page_of header task access past waits.at.entry in
    let left = flush_leaves header waits.at.host waits.at.entry.region.0 q channel m past request taken flush here in
    let held = held_here header outside past r task access
    (waits_back header task access past (event.Taken channel m ∷ past) (same header.size task (event.Taken channel m) past refl) waits) shared left.0 in
    subst (λ (k : ℕ). names k true ≡ true) (sym left.1)
    (subst (λ (b : Bool). names (page_on header waits.at.host waits.at.entry.region.0 q past).lock b ≡ true) store held.0)
