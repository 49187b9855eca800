-- What an event inside a step of a settle is to a page of shared memory on a host.
use Rattle.std.proofs.Common.{ℕ, ◌+◌, ◌<◌, ◌≤◌, ◌≡◌, ◌==◌, ◌∙◌, ◌&&◌, ◌||◌, Bool, true, false, List, [], ◌∷◌, Option, Some, None, nat_lt}
use Rattle.std.proofs.Common.{sym, refl, subst, inl, inr, arith, if◌then◌else◌}
use Rattle.std.proofs.lemmas.Bool.Decides.{nat_tests}
use Rattle.std.specs.Prelude.{◌⊎◌}
use Rattle.vm_base.specs.Pages.{little_endian_bytes}
use Rattle.vm_base.specs.declared.ids.HostId.{HostId}
use Rattle.vm_base.specs.declared.ids.ObjectId.{ObjectId}
use Rattle.vm_bound.proofs.Going.{AllHaveFrames}
use Rattle.vm_bound.proofs.Paying.{is_flushed_page}
use Rattle.vm_bound.proofs.Writing.{no_true}
use Rattle.vm_bound.specs.Accesses.{is_wanted_to_write, turn_weight}
use Rattle.vm_bound.specs.Places.{asked_for}
use Rattle.vm_legal.specs.Accesses.{names}
use Rattle.vm_legal.specs.Licences as L
use Rattle.vm_legal.specs.Licences.{HasCause, LockRequest, ReturnCause, is_answered_over, lock_taken, up}
use Rattle.vm_legal.proofs.Unshared.{shared_tame}
use Rattle.vm_legal.specs.Frames.{frames_free}
use Rattle.vm_legal.specs.Outside.{Outside, is_shared}
use Rattle.vm_legal.specs.Reclaims.{Reclaims}
use Rattle.vm_legal.specs.Steps.{completes, since}
use Rattle.vm_legal.specs.Stretches.{IsInner}
use Rattle.vm_legal.specs.Swept.{IsUnmapped}
use Rattle.vm_legal.specs.Walks.{page_on}
use Rattle.vm_model.proofs.Ports.{at_place}
use Rattle.vm_model.specs.Controls.{is_control, live_control}
use Rattle.vm_model.specs.Homes.{object_home}
use Rattle.vm_model.specs.Local.{Asks, Drops, Elsewhere, Ends, Local, LocalEffect, Moves, Place, Raises, Returns, Stores, TakesLock}
use Rattle.vm_model.specs.Local.{TakesNothing, TakesPage, Unlocks, Zeroes, effect, is_on, local, local_after, merge_effect, sent_effect}
use Rattle.vm_model.specs.Moments.{EachEvent}
use Rattle.vm_model.specs.Regions.{backing_of, object_pages}
use Rattle.vm_model.specs.Tasks.{host_of}
use Rattle.vm_model.specs.Words.{in_range}
use Rattle.vm_model.specs.declared.command.Command.TheVariants as command
use Rattle.vm_model.specs.declared.event.Event.{Event}
use Rattle.vm_model.specs.declared.event.Event.TheVariants as event
use Rattle.vm_model.specs.declared.message.Channel.TheVariants.{Up, Down}
use Rattle.vm_model.specs.declared.message.Message.{Message}
use Rattle.vm_model.specs.declared.message.Message.TheVariants as message
use Rattle.vm_model.specs.declared.script.Header.{Header}
use Rattle.vm_shared.proofs.Declared.{shared_declared}
use Rattle.vm_shared.proofs.Kept.{BringsNone, Gentle, gentle}
use Rattle.vm_shared.proofs.Servers.{IsServersLock, IsServersRequest, lock_is}

-- what an event pays at a place of shared memory, and what it opens there: by a request, and by an unlock

abbrev pub shared_pays : Header → Event → ℕ → ℕ → ℕ → ℕ
shared_pays header (event.Sent (Up host object) (message.Request control page access)) h o p =
    if host.0 == h && (object.0 == o && page.0 == p) then (if access == 3 then turn_weight header else 0) else 0
shared_pays header (event.Sent (Up host object) (message.Unlock control page access)) h o p =
    if host.0 == h && (object.0 == o && page.0 == p) then turn_weight header else 0
shared_pays header other h o p = 0

abbrev pub shared_opens : Header → Event → ℕ → ℕ → ℕ → ℕ
shared_opens header (event.Sent (Up host object) (message.Request control page access)) h o p =
    if host.0 == h && (object.0 == o && page.0 == p) then (if access == 3 then 0 else turn_weight header) else 0
shared_opens header other h o p = 0

-- the same of all that counts
pub record IsAlike (now was : Local) : Type 0 where
  pub here : now.here ≡ was.here
  pub lock : now.lock ≡ was.lock
  pub unlocking : now.unlocking ≡ was.unlocking
  pub asked : now.asked ≡ was.asked

-- why a page goes: the step's flush takes it away, or no entry of the host is on its object
abbrev pub GoneBy : Header → ℕ → ℕ → ℕ → List Event → Type 0
GoneBy header h o p past = (is_flushed_page h o p (lock_taken past) ≡ true) ⊎ IsUnmapped header h o past

-- what becomes of a page, where it was last asked for so, and what is paid and opened by that
pub data Moved (header : Header) (h o p : ℕ) (past : List Event) (now : Local) (asked pays opens : ℕ) : Type 0 where
  Stays : IsAlike now (page_on header h o p past) → asked ≡ asked_for h o p past → pays ≡ 0 → opens ≡ 0 → Moved header h o p past now asked pays opens
  IsAsked : (page_on header h o p past).here ≡ false → (page_on header h o p past).asked ≡ false → now.here ≡ false → now.asked ≡ true
      → (asked ≡ 3 → is_wanted_to_write header h o p past ≡ true) → pays ≡ (if asked == 3 then turn_weight header else 0)
      → opens ≡ (if asked == 3 then 0 else turn_weight header) → Moved header h o p past now asked pays opens
  IsUnlocked : (page_on header h o p past).here ≡ true → names (page_on header h o p past).lock true ≡ true
      → (page_on header h o p past).unlocking ≡ false → now.here ≡ true → now.lock ≡ (page_on header h o p past).lock → now.unlocking ≡ true
      → is_wanted_to_write header h o p past ≡ true → is_flushed_page h o p (lock_taken past) ≡ false → pays ≡ turn_weight header → opens ≡ 0
      → Moved header h o p past now asked pays opens
  Goes : (page_on header h o p past).here ≡ true → now.here ≡ false → now.asked ≡ false → asked ≡ asked_for h o p past → pays ≡ 0 → opens ≡ 0
      → GoneBy header h o p past → Moved header h o p past now asked pays opens

pub alike : (page : Local) → IsAlike page page
alike page = record { here = refl; lock = refl; unlocking = refl; asked = refl }

-- No page of shared memory comes inside a step.

here_back : (size : ℕ) (e : LocalEffect) (page : Local) → Gentle e → BringsNone e → (local_after size e page).here ≡ true → page.here ≡ true
here_back size Zeroes page g b here = absurd g
here_back size (Raises bytes) page g b here = absurd g
here_back size (Moves source) page g b here = absurd g
here_back size (TakesPage lock precious bytes) page g b here = absurd b
here_back size Drops page g b here = no_true here
here_back size (Returns true) page g b here = here
here_back size (Returns false) page g b here = no_true here
here_back size TakesNothing page g b here = by page.asked here
  where
    by : (b : Bool) → (if b then record page { asked = false; absent = true } else page).here ≡ true → page.here ≡ true
    by true is = is
    by false is = is
here_back size (TakesLock lock flush) page g b here = by page.here refl here
  where
    by : (b : Bool) → page.here ≡ b → (if b then record page { lock = if flush || lock == 8 then page.lock else lock; unlocking = false } else page).here ≡ true
        → page.here ≡ true
    by true now is = is
    by false now is = is
here_back size e page g b here = here

none_if : (b : Bool) (e : LocalEffect) → BringsNone e → BringsNone (if b then e else Elsewhere)
none_if true e is = is
none_if false e is = tt

none_merged : (upper lower shift upper_pages lower_pages : ℕ) (place : Place) (others : Place → Local)
    → BringsNone (merge_effect upper lower shift upper_pages lower_pages place others)
none_merged upper lower shift upper_pages lower_pages place others =
    by (place.object == upper) _ _ (none_if _ (Moves _) tt) (none_if (place.object == lower && nat_lt place.page lower_pages) Drops tt)
  where
    by : (b : Bool) (e f : LocalEffect) → BringsNone e → BringsNone f → BringsNone (if b then e else f)
    by true e f one other = one
    by false e f one other = other

none_sent : (p : ℕ) (live : Option ℕ) (m : Message) → BringsNone (sent_effect p live m)
none_sent p live (message.Init control size) = tt
none_sent p live (message.Create control size) = tt
none_sent p live (message.Terminate control) = none_if (is_control control live) Ends tt
none_sent p live (message.Request control at access) = none_if (at.0 == p && is_control control live) Asks tt
none_sent p live (message.Unlock control at access) = none_if (at.0 == p) Unlocks tt
none_sent p live (message.Return control at dirty keep bytes) = none_if (at.0 == p) (Returns keep) tt
none_sent p live m = tt

none_comes : (header : Header) (h o p : ℕ) (e : Event) (past : List Event) → IsInner e
    → BringsNone (effect header h (record { object = o; page = p }) (λ source. local header h source past) e past)
none_comes header h o p (event.Zeroed at object page) past inner = none_if (at.0 == h && (object.0 == o && page.0 == p)) Zeroes tt
none_comes header h o p (event.Raised at lower lower_page upper upper_page) past inner =
    none_if (at.0 == h && (upper.0 == o && upper_page.0 == p)) (Raises _) tt
none_comes header h o p (event.CopiedPage task page object object_page target) past inner =
    none_if (is_on h (host_of task.0 past) && (target.0 == o && page.0 == p)) (Raises _) tt
none_comes header h o p (event.Stored task object page at size value) past inner =
    none_if (is_on h (host_of task.0 past) && (object.0 == o && page.0 == p)) (Stores at (little_endian_bytes size value)) tt
none_comes header h o p (event.Dropped at object page) past inner = none_if (at.0 == h && (object.0 == o && page.0 == p)) Drops tt
none_comes header h o p (event.Merged upper lower) past inner =
    none_if (is_on h (object_home upper.0 past)) _ (none_merged upper.0 lower.0 (backing_of header upper.0 past).shift (object_pages header upper.0 past)
    (object_pages header lower.0 past) (record { object = o; page = p }) (λ source. local header h source past))
none_comes header h o p (event.Sent (Up at object) m) past inner =
    none_if (at.0 == h && object.0 == o) (sent_effect p (live_control h o past) m) (none_sent p (live_control h o past) m)
none_comes header h o p (event.Sent (Down at object control) m) past inner = tt
none_comes header h o p (event.Taken channel m) past inner = absurd inner
none_comes header h o p e past inner = tt

pub here_before : (header : Header) (outside : Outside) (e : Event) (past : List Event) → EachEvent (HasCause header outside) past
    → HasCause header outside e past → IsInner e → (h o p : ℕ) → is_shared header o ≡ true → (page_on header h o p (e ∷ past)).here ≡ true
    → (page_on header h o p past).here ≡ true
here_before header outside e past caused c inner h o p shared here =
    here_back header.size (effect header h (record { object = o; page = p }) (λ source. local header h source past) e past) (page_on header h o p past)
    (gentle header outside e past caused c h o p shared) (none_comes header h o p e past inner) here

-- Behind the completion of a flush its page isn't here.

flush_parts : (h o p : ℕ) (r : LockRequest) → is_flushed_page h o p (Some r) ≡ true → (r.flush ≡ true) × (in_range p r.page r.count ≡ true)
flush_parts h o p r is = by r.flush (r.host == h) (r.object == o) (in_range p r.page r.count) is
  where
    by : (f a b i : Bool) → (f && (a && (b && i))) ≡ true → (f ≡ true) × (i ≡ true)
    by f a b i is = grind arith

completed_gone : (header : Header) (h o p control first count : ℕ) (past : List Event) → L.Completes header h control o first count past
    → is_flushed_page h o p (lock_taken past) ≡ true → (page_on header h o p past).here ≡ false
completed_gone header h o p control first count past c flushed =
    let r : LockRequest = record {
      host = h;
      object = o;
      control = control;
      page = first;
      count = count;
      returns = c.returns;
      flush = c.flush;
      lock = c.lock;
      reply = true;
    } in
    let parts = flush_parts h o p r (subst (λ (l : Option LockRequest). is_flushed_page h o p l ≡ true) c.taken flushed) in
    by (page_on header h o p past).here refl parts.0 parts.1
  where
    from : (p first count : ℕ) → in_range p first count ≡ true → first ≤ p
    from p first count is = grind (arith, nat_tests)

    to : (p first count : ℕ) → in_range p first count ≡ true → p < first + count
    to p first count is = grind (arith, nat_tests)

    by : (b : Bool) → (page_on header h o p past).here ≡ b → c.flush ≡ true → in_range p first count ≡ true → b ≡ false
    by false here flush within = refl
    by true here flush within = no_true (sym (c.done p (from p first count within) (to p first count within) here).0 ∙ flush)

flush_next : (header : Header) (outside : Outside) (e : Event) (past : List Event) → EachEvent (HasCause header outside) past → HasCause header outside e past
    → IsInner e → (h o p : ℕ) → is_shared header o ≡ true → (page_on header h o p past).here ≡ false → (page_on header h o p (e ∷ past)).here ≡ false
flush_next header outside e past caused c inner h o p shared gone =
    by (page_on header h o p (e ∷ past)).here (here_before header outside e past caused c inner h o p shared)
  where
    by : (b : Bool) → (b ≡ true → (page_on header h o p past).here ≡ true) → b ≡ false
    by false back = refl
    by true back = no_true (sym gone ∙ back refl)

-- the step so far, by whether the last event completes
flush_by : (header : Header) (outside : Outside) (e : Event) (past : List Event) → EachEvent (HasCause header outside) past → HasCause header outside e past
    → IsInner e → (h o p : ℕ) → is_shared header o ≡ true → (completes h o e ≡ true → (page_on header h o p past).here ≡ false)
    → (since (completes h o) past ≡ true → (page_on header h o p past).here ≡ false) → (completes h o e || since (completes h o) past) ≡ true
    → (page_on header h o p (e ∷ past)).here ≡ false
flush_by header outside e past caused c inner h o p shared now before is =
    flush_next header outside e past caused c inner h o p shared (by (completes h o e) now is)
  where
    by : (b : Bool) → (b ≡ true → (page_on header h o p past).here ≡ false) → (b || since (completes h o) past) ≡ true
        → (page_on header h o p past).here ≡ false
    by true now is = now refl
    by false now is = before is

completion_gone : (header : Header) (outside : Outside) (host : HostId) (object : ObjectId) (m : Message) (past : List Event)
    → HasCause header outside (event.Sent (Up host object) m) past → (h o p : ℕ) → is_flushed_page h o p (lock_taken past) ≡ true
    → completes h o (event.Sent (Up host object) m) ≡ true → (page_on header h o p past).here ≡ false
completion_gone header outside host object (message.Completed control page count) past c h o p flushed is =
    let same = both (host.0 == h) (object.0 == o) is in
    let here : L.Completes header h control o page.0 count past =
    at_place (λ g k. L.Completes header g control k page.0 count past) host.0 object.0 h o same c.1 in
    completed_gone header h o p control page.0 count past here flushed
  where
    both : (a b : Bool) → (a && (b && true)) ≡ true → (a && b) ≡ true
    both a b is = grind arith
completion_gone header outside host object m past c h o p flushed is = no_true (sym (none (host.0 == h) (object.0 == o)) ∙ is)
  where
    none : (a b : Bool) → (a && (b && false)) ≡ false
    none a b = grind arith

flush_done : (header : Header) (outside : Outside) (past : List Event) → EachEvent (HasCause header outside) past → (h o p : ℕ) → is_shared header o ≡ true
    → is_flushed_page h o p (lock_taken past) ≡ true → since (completes h o) past ≡ true → (page_on header h o p past).here ≡ false
flush_done header outside [] caused h o p shared flushed done = no_true done
flush_done header outside (event.Line line ∷ past) caused h o p shared flushed done = no_true done
flush_done header outside (event.Taken channel m ∷ past) caused h o p shared flushed done = no_true done
flush_done header outside (event.Sent (Up host object) m ∷ past) caused h o p shared flushed done =
    flush_by header outside (event.Sent (Up host object) m) past caused.1 caused.0 tt h o p shared
    (completion_gone header outside host object m past caused.0 h o p flushed)
    (flush_done header outside past caused.1 h o p shared flushed) done
flush_done header outside (e ∷ past) caused h o p shared flushed done =
    flush_next header outside e past caused.1 caused.0 tt h o p shared (flush_done header outside past caused.1 h o p shared flushed done)

-- so no unlock is sent of a page that the step's flush is over

flush_answered : (h o p count returns lock : ℕ) (r : LockRequest) → is_flushed_page h o p (Some r) ≡ true
    → IsServersLock r.count r.returns r.flush r.lock r.reply → is_answered_over h o p (Some r) ≡ true
flush_answered h o p count returns lock r flushed is = by r.flush r.reply (r.host == h) (r.object == o) (in_range p r.page r.count) flushed is
  where
    by : (f y a b i : Bool) → (f && (a && (b && i))) ≡ true → IsServersLock r.count r.returns f r.lock y → (y && (a && (b && i))) ≡ true
    by true true a b i one is = one
    by true false a b i one is = absurd is
    by false y a b i one is = no_true one

its_object : (h o p : ℕ) (r : LockRequest) → is_flushed_page h o p (Some r) ≡ true → r.object ≡ o
its_object h o p r is = by r.flush (r.host == h) (in_range p r.page r.count) is
  where
    by : (f a i : Bool) → (f && (a && (r.object == o && i))) ≡ true → r.object ≡ o
    by f a i is = grind (arith, nat_tests)

flush_is_answered : (header : Header) (outside : Outside) (past : List Event) → EachEvent (HasCause header outside) past → (h o p : ℕ)
    → is_shared header o ≡ true → is_flushed_page h o p (lock_taken past) ≡ true → is_answered_over h o p (lock_taken past) ≡ true
flush_is_answered header outside past caused h o p shared flushed = by (lock_taken past) refl flushed
  where
    by : (x : Option LockRequest) → lock_taken past ≡ x → is_flushed_page h o p x ≡ true → is_answered_over h o p x ≡ true
    by None taken is = no_true is
    by (Some r) taken is =
        let words : IsServersRequest (Some r) header = subst (λ (l : Option LockRequest). IsServersRequest l header) taken (lock_is header outside past caused)
        in
        flush_answered h o p r.count r.returns r.lock r is
        (words (subst (λ (k : ℕ). is_shared header k ≡ true) (sym (its_object h o p r is)) shared))

pub unflushed : (header : Header) (outside : Outside) (past : List Event) → EachEvent (HasCause header outside) past → (h o p control access : ℕ)
    → is_shared header o ≡ true → L.Unlocks header h control o p access past → is_flushed_page h o p (lock_taken past) ≡ false
unflushed header outside past caused h o p control access shared c = by (is_flushed_page h o p (lock_taken past)) refl
  where
    by : (b : Bool) → is_flushed_page h o p (lock_taken past) ≡ b → b ≡ false
    by false is = refl
    by true is =
        let behind = c.behind (flush_is_answered header outside past caused h o p shared is) in
        no_true (sym (flush_done header outside past caused h o p shared is behind) ∙ c.here)

-- Why a page of shared memory goes in a step of a settle in which whoever waits has a frame.

pub no_reclaim : {A : Type 0} (header : Header) (count h o p : ℕ) (past : List Event) → AllHaveFrames header past
    → Reclaims header (command.Settle count) h o p past → A
no_reclaim header count h o p past frames c = elim c.may [
  | inl out ↦ absurd out
  | inr starves ↦
      let some = frames starves.wants.task starves.wants.access starves.wants.waits in
      let here : 0 < _ = subst (λ (k : ℕ). 0 < frames_free header k past) starves.wants.on_host some in
      absurd (omega (arith, here, starves.none))
]

flushed_here : (header : Header) (h o p returns : ℕ) (past : List Event) → L.IsLocked h o p returns true past → is_flushed_page h o p (lock_taken past) ≡ true
flushed_here header h o p returns past locked =
    subst (λ (l : Option LockRequest). is_flushed_page h o p l ≡ true) (sym locked.taken) (over h o p locked.first locked.count locked.from locked.below)
  where
    over : (h o p first count : ℕ) → first ≤ p → p < first + count → (true && (h == h && (o == o && in_range p first count))) ≡ true
    over h o p first count from to = grind (arith, nat_tests)

pub drop_why : (header : Header) (count h o p : ℕ) (past : List Event) → AllHaveFrames header past → is_shared header o ≡ true
    → L.DropCause header (command.Settle count) h o p (page_on header h o p past) past → GoneBy header h o p past
drop_why header count h o p past frames shared (L.DropCause.Reclaimed clean plain reclaims) = no_reclaim header count h o p past frames reclaims
drop_why header count h o p past frames shared (L.DropCause.Ended clean plain declared unheld) = inr unheld.unmapped
drop_why header count h o p past frames shared (L.DropCause.Discarded destroyed rising) =
    no_true (sym (shared_tame header o shared) ∙ destroyed.wild)
drop_why header count h o p past frames shared (L.DropCause.Unreached temporary unreached) =
    let less = shared_declared header o shared in absurd (omega (arith, less, temporary))
drop_why header count h o p past frames shared (L.DropCause.Flushed returns locked none) = inl (flushed_here header h o p returns past locked)

pub return_why : (header : Header) (outside : Outside) (count h o p : ℕ) (keep : Bool) (past : List Event) → EachEvent (HasCause header outside) past
    → AllHaveFrames header past → is_shared header o ≡ true → ReturnCause header (command.Settle count) h o p keep past → keep ≡ false
    → GoneBy header h o p past
return_why header outside count h o p keep past caused frames shared (ReturnCause.Reclaimed gone reclaims) is =
    no_reclaim header count h o p past frames reclaims
return_why header outside count h o p keep past caused frames shared (ReturnCause.Created control size rest front gone reclaims) is =
    let before : EachEvent (HasCause header outside) (event.Sent (up h o) (message.Create control size) ∷ rest) =
    subst (λ (l : List Event). EachEvent (HasCause header outside) l) front caused in
    let above = before.0.1.temporary in
    let less = shared_declared header o shared in
    absurd (omega (arith, less, above))
return_why header outside count h o p keep past caused frames shared (ReturnCause.Ended gone declared unheld) is = inr unheld.unmapped
return_why header outside count h o p keep past caused frames shared (ReturnCause.Wanted returns true locked gives same) is =
    inl (flushed_here header h o p returns past locked)
return_why header outside count h o p keep past caused frames shared (ReturnCause.Wanted returns false locked gives same) is =
    no_true (sym is ∙ same)

-- What each event is to the page.

-- what it is where a host asks
pub record AskedHere (header : Header) (h o p access : ℕ) (k : Bool) (past : List Event) : Type 0 where
  pub live : k ≡ true
  pub away : (page_on header h o p past).here ≡ false
  pub unasked : (page_on header h o p past).asked ≡ false
  pub writes : access ≡ 3 → is_wanted_to_write header h o p past ≡ true

pub moved_request : (header : Header) (h o p access : ℕ) (a b c k : Bool) (past : List Event)
    → (a ≡ true → b ≡ true → c ≡ true → AskedHere header h o p access k past)
    → Moved header h o p past (local_after header.size (if a && b then (if c && k then Asks else Elsewhere) else Elsewhere) (page_on header h o p past))
    (if a && (b && c) then access else asked_for h o p past) (if a && (b && c) then (if access == 3 then turn_weight header else 0) else 0)
    (if a && (b && c) then (if access == 3 then 0 else turn_weight header) else 0)
moved_request header h o p access true true true true past its =
    let it = its refl refl refl in IsAsked it.away it.unasked it.away refl it.writes refl refl
moved_request header h o p access true true true false past its = no_true (its refl refl refl).live
moved_request header h o p access true true false k past its = Stays (alike (page_on header h o p past)) refl refl refl
moved_request header h o p access true false c k past its = Stays (alike (page_on header h o p past)) refl refl refl
moved_request header h o p access false b c k past its = Stays (alike (page_on header h o p past)) refl refl refl

pub record UnlockedHere (header : Header) (h o p : ℕ) (past : List Event) : Type 0 where
  pub here : (page_on header h o p past).here ≡ true
  pub named : names (page_on header h o p past).lock true ≡ true
  pub none : (page_on header h o p past).unlocking ≡ false
  pub writes : is_wanted_to_write header h o p past ≡ true
  pub kept : is_flushed_page h o p (lock_taken past) ≡ false

pub moved_unlock : (header : Header) (h o p : ℕ) (a b c : Bool) (past : List Event) → (a ≡ true → b ≡ true → c ≡ true → UnlockedHere header h o p past)
    → Moved header h o p past (local_after header.size (if a && b then (if c then Unlocks else Elsewhere) else Elsewhere) (page_on header h o p past))
    (asked_for h o p past) (if a && (b && c) then turn_weight header else 0) 0
moved_unlock header h o p true true true past its =
    let it = its refl refl refl in IsUnlocked it.here it.named it.none it.here refl it.here it.writes it.kept refl refl
moved_unlock header h o p true true false past its = Stays (alike (page_on header h o p past)) refl refl refl
moved_unlock header h o p true false c past its = Stays (alike (page_on header h o p past)) refl refl refl
moved_unlock header h o p false b c past its = Stays (alike (page_on header h o p past)) refl refl refl

pub record GoneHere (header : Header) (h o p : ℕ) (past : List Event) : Type 0 where
  pub here : (page_on header h o p past).here ≡ true
  pub unasked : (page_on header h o p past).asked ≡ false
  pub why : GoneBy header h o p past

pub moved_drop : (header : Header) (h o p : ℕ) (b : Bool) (past : List Event) → (b ≡ true → GoneHere header h o p past)
    → Moved header h o p past (local_after header.size (if b then Drops else Elsewhere) (page_on header h o p past)) (asked_for h o p past) 0 0
moved_drop header h o p true past its = let it = its refl in Goes it.here refl it.unasked refl refl refl it.why
moved_drop header h o p false past its = Stays (alike (page_on header h o p past)) refl refl refl

pub moved_return : (header : Header) (h o p : ℕ) (a b c keep : Bool) (past : List Event)
    → (a ≡ true → b ≡ true → c ≡ true → keep ≡ false → GoneHere header h o p past)
    → Moved header h o p past (local_after header.size (if a && b then (if c then Returns keep else Elsewhere) else Elsewhere) (page_on header h o p past))
    (asked_for h o p past) 0 0
moved_return header h o p true true true true past its = Stays (record { here = refl; lock = refl; unlocking = refl; asked = refl }) refl refl refl
moved_return header h o p true true true false past its = let it = its refl refl refl refl in Goes it.here refl it.unasked refl refl refl it.why
moved_return header h o p true true false keep past its = Stays (alike (page_on header h o p past)) refl refl refl
moved_return header h o p true false c keep past its = Stays (alike (page_on header h o p past)) refl refl refl
moved_return header h o p false b c keep past its = Stays (alike (page_on header h o p past)) refl refl refl

pub moved_end : (header : Header) (h o p : ℕ) (a b k : Bool) (past : List Event) → (a ≡ true → b ≡ true → (page_on header h o p past).asked ≡ false)
    → Moved header h o p past (local_after header.size (if a && b then (if k then Ends else Elsewhere) else Elsewhere) (page_on header h o p past))
    (asked_for h o p past) 0 0
moved_end header h o p true true true past its =
    Stays (record { here = refl; lock = refl; unlocking = refl; asked = sym (its refl refl) }) refl refl refl
moved_end header h o p true true false past its = Stays (alike (page_on header h o p past)) refl refl refl
moved_end header h o p true false k past its = Stays (alike (page_on header h o p past)) refl refl refl
moved_end header h o p false b k past its = Stays (alike (page_on header h o p past)) refl refl refl

pub moved_store : (header : Header) (h o p at : ℕ) (bytes : List ℕ) (b : Bool) (past : List Event)
    → Moved header h o p past (local_after header.size (if b then Stores at bytes else Elsewhere) (page_on header h o p past)) (asked_for h o p past) 0 0
moved_store header h o p at bytes true past = Stays (record { here = refl; lock = refl; unlocking = refl; asked = refl }) refl refl refl
moved_store header h o p at bytes false past = Stays (alike (page_on header h o p past)) refl refl refl

-- what never comes to the page
pub moved_not : (header : Header) (h o p : ℕ) (b : Bool) (e : LocalEffect) (past : List Event) → (b ≡ true → ⊥)
    → Moved header h o p past (local_after header.size (if b then e else Elsewhere) (page_on header h o p past)) (asked_for h o p past) 0 0
moved_not header h o p true e past isnt = absurd (isnt refl)
moved_not header h o p false e past isnt = Stays (alike (page_on header h o p past)) refl refl refl

pub moved_none : (header : Header) (h o p : ℕ) (b : Bool) (past : List Event)
    → Moved header h o p past (local_after header.size (if b then Elsewhere else Elsewhere) (page_on header h o p past)) (asked_for h o p past) 0 0
moved_none header h o p true past = Stays (alike (page_on header h o p past)) refl refl refl
moved_none header h o p false past = Stays (alike (page_on header h o p past)) refl refl refl
