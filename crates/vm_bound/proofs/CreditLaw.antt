-- What is sent, and what a flush takes away, in a step in which some may wait is paid by what the step took, or by accesses and lines.
use Rattle.std.proofs.Common.{ℕ, ◌≤◌, ◌<◌, ◌≡◌, ◌+◌, ◌*◌, Bool, true, false, List, ◌∷◌, arith, refl, ap, sym, subst, ◌∙◌, inl, inr}
use Rattle.std.proofs.lemmas.Bool.Decides.{nat_tests}
use Rattle.std.specs.Prelude.{◌==◌, ◌&&◌, ◌⊎◌, nat_lt, not, if◌then◌else◌, Option, Some, None}
use Rattle.vm_bound.proofs.SharedMoves.{no_reclaim}
use Rattle.vm_base.specs.declared.ids.HostId.{HostId}
use Rattle.vm_base.specs.declared.ids.ObjectId.{ObjectId}
use Rattle.vm_base.specs.declared.ids.ObjectKind.{ObjectKind}
use Rattle.vm_base.specs.declared.ids.ObjectKind.TheVariants.{Temp, File, Shared, Wild}
use Rattle.vm_base.specs.declared.ids.PageNo.{PageNo}
use Rattle.vm_bound.proofs.Going.{Going}
use Rattle.vm_bound.proofs.OpenPages.{IsNoStore, Keeps, LocksDeclared, caused_keeps, end_kept, flushed_away, one_falls, pages_stay, since_now, unless_falls}
use Rattle.vm_bound.proofs.OpenPages.{wanted_back}
use Rattle.vm_bound.proofs.Owing.{Follows}
use Rattle.vm_bound.proofs.Payers.{change_letter, change_was, control_ends, credit_kept, credit_stored, end_pays, end_was, flushed_locked, lock_was}
use Rattle.vm_bound.proofs.Payers.{locked_declared, locked_paid, page_ends, paid}
use Rattle.vm_bound.proofs.Paying.{CreatesNone, credit, down_dues, dues, frees, is_flushed_page, is_locked_page, one_unless, open_end, open_page, open_pages}
use Rattle.vm_bound.proofs.Paying.{page_unit, regains}
use Rattle.vm_bound.specs.Settles.{OpensNone, AllHaveFrames}
use Rattle.vm_legal.specs.Cached.{Changes}
use Rattle.vm_legal.specs.Licences.{Completes, Created, Destroyed, EndCause, Ended, HasCause, IsLocked, LockRequest, lock_taken}
use Rattle.vm_legal.specs.Licences.{MaySendDown, MaySendUp, OwesAnswer, PagerSends, Reclaimed, ReturnCause, ServerSends}
use Rattle.vm_legal.specs.Licences.{Unheld, Unreachable, Wanted, init_strategy, owed, up}
use Rattle.vm_legal.specs.Outside.{Outside, is_shared, is_shared_kind, kind_of}
use Rattle.vm_legal.specs.Steps.{Letter, answers, changes, completes, ends_control, gives_page, readies, since, taken_letter}
use Rattle.vm_legal.specs.Swept.{IsUnheld}
use Rattle.vm_legal.specs.Walks.{page_on}
use Rattle.vm_model.specs.Controls.{live_control}
use Rattle.vm_model.specs.Local.{Drops, Elsewhere, Local, Returns, local_after}
use Rattle.vm_model.specs.Moments.{EachEvent}
use Rattle.vm_model.specs.Named.{declared_pages, named}
use Rattle.vm_model.specs.Words.{in_range}
use Rattle.vm_model.specs.declared.command.Command.TheVariants as command
use Rattle.vm_model.specs.declared.event.Event.{Event}
use Rattle.vm_model.specs.declared.event.Event.TheVariants as event
use Rattle.vm_model.specs.declared.message.Channel.TheVariants.{Up, Down}
use Rattle.vm_model.specs.declared.message.Message.{Message}
use Rattle.vm_model.specs.declared.message.Message.TheVariants as message
use Rattle.vm_model.specs.declared.script.Header.{Header}
use Rattle.vm_quiet.proofs.Letters.{never}

-- the pages that are here are those that the header declares
abbrev pub IsWithin : Header → List Event → Type 0
IsWithin header past = (h o p : ℕ) → o < named header → (page_on header h o p past).here ≡ true → p < declared_pages header o

-- An event that follows, and isn't a store, opens no page; and sums where nothing is due, or comes back.

follows_keeps : (header : Header) (outside : Outside) (n : ℕ) (e : Event) (past : List Event) → Follows header outside n e past → IsNoStore e
    → Keeps header e past
follows_keeps header outside n e past f none = caused_keeps header outside e past f.causes (command.Settle n, f.licensed.0) f.inner none

no_due : (now was due : ℕ) → due ≡ 0 → now ≤ was → now + due ≤ was
no_due now was due none le = omega (arith, none, le)

nothing_back : (now was due : ℕ) → now + due ≤ was → now + due ≤ was + 0
nothing_back now was due le = omega (arith, le)

-- A page that is given back was open, and is no more.

same : (n : ℕ) → (n == n) ≡ true
same n = grind (arith, nat_tests)

both_same : (a b : ℕ) → (a == a && (b == b && true)) ≡ true
both_same a b = rw (same a, same b) refl

all_same : (a b c : ℕ) → (a == a && (b == b && c == c)) ≡ true
all_same a b c = rw (same a, same b, same c) refl

returned_clean : (size : ℕ) (keep : Bool) (was : Local) → wanted_back (local_after size (Returns keep) was) ≡ false
returned_clean size true was = refl
returned_clean size false was = refl

return_if : (a b c keep : Bool) (size : ℕ) (was : Local) → a ≡ true → b ≡ true → c ≡ true
    → wanted_back (local_after size (if a && b then (if c then Returns keep else Elsewhere) else Elsewhere) was) ≡ false
return_if a b c keep size was one two three = rw (one, two, three) (returned_clean size keep was)

shut : (given wanted : Bool) → given ≡ true → wanted ≡ false → (given && not wanted) ≡ true
shut given wanted one two = rw (one, two) refl

opened : (given wanted : Bool) → wanted ≡ true → (given && not wanted) ≡ false
opened true wanted is = rw is refl
opened false wanted is = refl

page_falls : (header : Header) (host : HostId) (object : ObjectId) (control : ℕ) (page : PageNo) (dirty keep : Bool) (bytes : List ℕ) (past : List Event)
    → wanted_back (page_on header host.0 object.0 page.0 past) ≡ true
    → open_page header host.0 object.0 page.0 (event.Sent (Up host object) (message.Return control page dirty keep bytes) ∷ past) + 1
    ≤ open_page header host.0 object.0 page.0 past
page_falls header host object control page dirty keep bytes past due =
    let sent = event.Sent (Up host object) (message.Return control page dirty keep bytes) in
    one_falls (since (gives_page host.0 object.0 page.0) (sent ∷ past) && not (wanted_back (page_on header host.0 object.0 page.0 (sent ∷ past))))
    (since (gives_page host.0 object.0 page.0) past && not (wanted_back (page_on header host.0 object.0 page.0 past)))
    (shut (since (gives_page host.0 object.0 page.0) (sent ∷ past)) (wanted_back (page_on header host.0 object.0 page.0 (sent ∷ past)))
    (since_now (gives_page host.0 object.0 page.0) sent past tt (all_same host.0 object.0 page.0))
    (return_if (host.0 == host.0) (object.0 == object.0) (page.0 == page.0) keep header.size (page_on header host.0 object.0 page.0 past) (same host.0)
    (same object.0) (same page.0)))
    (opened (since (gives_page host.0 object.0 page.0) past) (wanted_back (page_on header host.0 object.0 page.0 past)) due)

-- What held the object on the host is gone, so the step took a message by which it may end.

freed : (header : Header) (h o control : ℕ) (past : List Event) → Going header past → o < named header → IsUnheld header h o past
    → live_control h o past ≡ Some control → frees h o (taken_letter past) ≡ true
freed header h o control past going declared unheld live = by (frees h o (taken_letter past)) refl
  where
    by : (b : Bool) → frees h o (taken_letter past) ≡ b → b ≡ true
    by true is = refl
    by false is = let bad : ◌≡◌ {A = Option ℕ} None (Some control) = sym (going.unheld h o declared unheld is) ∙ live in absurd (cc)

-- Returns: the step's lock pays for a page that it is over, and for another a message by which the object may end.

locked_at : (a b : ℕ) (in_it : Bool) → in_it ≡ true → (a == a && (b == b && in_it)) ≡ true
locked_at a b in_it is = rw (same a, same b, is) refl

covered : (h o page returns : ℕ) (flush : Bool) (past : List Event) → IsLocked h o page returns flush past → is_locked_page h o page (lock_taken past) ≡ true
covered h o page returns flush past locked =
    subst (λ (taken : Option LockRequest). is_locked_page h o page taken ≡ true) (sym locked.taken)
    (let from = locked.from in
    let below = locked.below in
    let inside : in_range page locked.first locked.count ≡ true = grind (arith, nat_tests, from, below) in
    locked_at h o (in_range page locked.first locked.count) inside)

ended_paid : (header : Header) (n : ℕ) (host : HostId) (object : ObjectId) (page : PageNo) (keep : Bool) (control : ℕ) (e : Event) (past : List Event)
    → Keeps header e past → Going header past → AllHaveFrames header past → IsWithin header past → live_control host.0 object.0 past ≡ Some control
    → (page_on header host.0 object.0 page.0 past).here ≡ true
    → open_page header host.0 object.0 page.0 (e ∷ past) + 1 ≤ open_page header host.0 object.0 page.0 past
    → is_locked_page host.0 object.0 page.0 (lock_taken past) ≡ false
    → ReturnCause header (command.Settle n) host.0 object.0 page.0 keep past → credit header (e ∷ past) + 1 ≤ credit header past
ended_paid header n host object page keep control e past keeps going frames within live here falls free (Reclaimed gone why) =
    no_reclaim header n host.0 object.0 page.0 past frames why
ended_paid header n host object page keep control e past keeps going frames within live here falls free (Created number size rest is gone why) =
    absurd (going.unowed (up host.0 object.0) (ap owed is))
ended_paid header n host object page keep control e past keeps going frames within live here falls free (Wanted returns flush locked back kept) =
    let bad : true ≡ false = sym (covered host.0 object.0 page.0 returns flush past locked) ∙ free in absurd (cc)
ended_paid header n host object page keep control e past keeps going frames within live here falls free (Ended gone declared unheld) =
    end_pays header host.0 object.0 e past keeps (freed header host.0 object.0 control past going declared unheld live)
    (page_ends header host.0 object.0 page.0 e past keeps declared (within host.0 object.0 page.0 declared here) falls)

by_lock : (locked : Bool) (now was unit : ℕ) → (locked ≡ true → now + unit ≤ was) → (locked ≡ false → now + 1 ≤ was)
    → now + (if locked then unit else 1) ≤ was
by_lock true now was unit one other = one refl
by_lock false now was unit one other = other refl

return_paid : (header : Header) (n : ℕ) (host : HostId) (object : ObjectId) (page : PageNo) (keep : Bool) (control : ℕ) (e : Event) (past : List Event)
    → Keeps header e past → Going header past → AllHaveFrames header past → IsWithin header past → live_control host.0 object.0 past ≡ Some control
    → (page_on header host.0 object.0 page.0 past).here ≡ true
    → open_page header host.0 object.0 page.0 (e ∷ past) + 1 ≤ open_page header host.0 object.0 page.0 past
    → ReturnCause header (command.Settle n) host.0 object.0 page.0 keep past
    → credit header (e ∷ past) + (if is_locked_page host.0 object.0 page.0 (lock_taken past) then page_unit (is_shared header object.0) else 1)
    ≤ credit header past
return_paid header n host object page keep control e past keeps going frames within live here falls why =
    by_lock (is_locked_page host.0 object.0 page.0 (lock_taken past)) (credit header (e ∷ past)) (credit header past) (page_unit (is_shared header object.0))
    (λ over. locked_paid header host.0 object.0 page.0 e past keeps over falls)
    (λ free. ended_paid header n host object page keep control e past keeps going frames within live here falls free why)

-- Drops: a flush pays for a page that it is over, which was open, since it was here.

flushed_open : (given wanted : Bool) → (given ≡ true → false ≡ true) → (given && not wanted) ≡ false
flushed_open true wanted none = never (none refl)
flushed_open false wanted none = refl

cleared : (b : Bool) (size : ℕ) (was : Local) → b ≡ true → wanted_back (local_after size (if b then Drops else Elsewhere) was) ≡ false
cleared b size was is = rw is refl

drop_falls : (header : Header) (host : HostId) (object : ObjectId) (page : PageNo) (past : List Event)
    → (since (gives_page host.0 object.0 page.0) past ≡ true → false ≡ true)
    → open_page header host.0 object.0 page.0 (event.Dropped host object page ∷ past) + 1 ≤ open_page header host.0 object.0 page.0 past
drop_falls header host object page past none =
    let drop = event.Dropped host object page in
    one_falls (since (gives_page host.0 object.0 page.0) (drop ∷ past) && not (wanted_back (page_on header host.0 object.0 page.0 (drop ∷ past))))
    (since (gives_page host.0 object.0 page.0) past && not (wanted_back (page_on header host.0 object.0 page.0 past)))
    (shut (since (gives_page host.0 object.0 page.0) (drop ∷ past)) (wanted_back (page_on header host.0 object.0 page.0 (drop ∷ past)))
    (since_now (gives_page host.0 object.0 page.0) drop past tt (all_same host.0 object.0 page.0))
    (cleared (host.0 == host.0 && (object.0 == object.0 && page.0 == page.0)) header.size (page_on header host.0 object.0 page.0 past)
    (all_same host.0 object.0 page.0)))
    (flushed_open (since (gives_page host.0 object.0 page.0) past) (wanted_back (page_on header host.0 object.0 page.0 past)) none)

by_flush : (flushed : Bool) (now was unit : ℕ) → (flushed ≡ true → now + unit ≤ was) → now ≤ was → now + (if flushed then unit else 0) ≤ was
by_flush true now was unit one le = one refl
by_flush false now was unit one le = omega (arith, le)

drop_paid : (header : Header) (outside : Outside) (host : HostId) (object : ObjectId) (page : PageNo) (past : List Event)
    → EachEvent (HasCause header outside) past → Keeps header (event.Dropped host object page) past
    → (page_on header host.0 object.0 page.0 past).here ≡ true
    → credit header (event.Dropped host object page ∷ past)
    + (if is_flushed_page host.0 object.0 page.0 (lock_taken past) then page_unit (is_shared header object.0) else 0)
    ≤ credit header past
drop_paid header outside host object page past causes keeps here =
    by_flush (is_flushed_page host.0 object.0 page.0 (lock_taken past)) (credit header (event.Dropped host object page ∷ past)) (credit header past)
    (page_unit (is_shared header object.0)) flushed (credit_kept header (event.Dropped host object page) past keeps)
  where
    flushed : is_flushed_page host.0 object.0 page.0 (lock_taken past) ≡ true
        → credit header (event.Dropped host object page ∷ past) + page_unit (is_shared header object.0) ≤ credit header past
    flushed is =
        let over = flushed_locked host.0 object.0 page.0 (lock_taken past) is in
        let declared = locked_declared header host.0 object.0 page.0 (event.Dropped host object page) past keeps over in
        locked_paid header host.0 object.0 page.0 (event.Dropped host object page) past keeps over
        (drop_falls header host object page past
        (λ given. sym (flushed_away header outside past causes host.0 object.0 page.0 declared is given) ∙ here))

-- Ends

end_paid : (header : Header) (host : HostId) (object : ObjectId) (control : ℕ) (e : Event) (past : List Event) → Keeps header e past
    → ends_control host.0 object.0 e ≡ true → since (ends_control host.0 object.0) past ≡ false → Going header past → object.0 < named header
    → live_control host.0 object.0 past ≡ Some control → EndCause header host.0 object.0 past → credit header (e ∷ past) + 1 ≤ credit header past
end_paid header host object control e past keeps is none going declared live (Unreachable temporary unreached unasked) =
    absurd (omega (arith, declared, temporary))
end_paid header host object control e past keeps is none going declared live (Unheld small unheld unasked) =
    end_pays header host.0 object.0 e past keeps (freed header host.0 object.0 control past going small unheld live)
    (control_ends header host.0 object.0 e past keeps is none)
end_paid header host object control e past keeps is none going declared live (Destroyed destroyed) =
    let it = end_was past _ destroyed.taken in
    paid header _ 1 e past keeps it.taken (unless_falls (ends_control host.0 object.0) e past keeps.inner is none)

-- a slow copy pays for the end of what it filled
terminate_paid : (header : Header) (host : HostId) (object : ObjectId) (control : ℕ) (e : Event) (past : List Event) → Keeps header e past
    → ends_control host.0 object.0 e ≡ true → since (ends_control host.0 object.0) past ≡ false → Going header past
    → live_control host.0 object.0 past ≡ Some control → EndCause header host.0 object.0 past
    → credit header (e ∷ past) + (if not (nat_lt object.0 (named header)) then 0 else 1) ≤ credit header past
terminate_paid header host object control e past keeps is none going live why = by (nat_lt object.0 (named header)) refl
  where
    by : (b : Bool) → nat_lt object.0 (named header) ≡ b → credit header (e ∷ past) + (if not b then 0 else 1) ≤ credit header past
    by true small = end_paid header host object control e past keeps is none going (grind (arith, nat_tests)) live why
    by false above = let le = credit_kept header e past keeps in omega (arith, le)

-- no control that lives has ended in the step
unended : (header : Header) (h o control : ℕ) (past : List Event) → Going header past → live_control h o past ≡ Some control
    → since (ends_control h o) past ≡ false
unended header h o control past going live = by (since (ends_control h o) past) refl
  where
    by : (b : Bool) → since (ends_control h o) past ≡ b → b ≡ false
    by true is = let bad : ◌≡◌ {A = Option ℕ} None (Some control) = sym (going.ended h o is) ∙ live in absurd (cc)
    by false is = refl

-- What is done

completion_sum : (shared : Bool) (pages pages_was more more_was : ℕ) → pages ≤ pages_was → more + 1 ≤ more_was
    → page_unit shared * pages + more + 1 ≤ page_unit shared * pages_was + more_was
completion_sum true pages pages_was more more_was one two = omega (arith, one, two)
completion_sum false pages pages_was more more_was one two = omega (arith, one, two)

completion_pays : (header : Header) (h o first count : ℕ) (e : Event) (past : List Event) → Keeps header e past → o < named header
    → completes h o e ≡ true → since (completes h o) past ≡ false
    → page_unit (is_shared header o) * open_pages header h o first count (e ∷ past) + one_unless (since (completes h o) (e ∷ past)) + 1
    ≤ page_unit (is_shared header o) * open_pages header h o first count past + one_unless (since (completes h o) past)
completion_pays header h o first count e past keeps declared is none =
    completion_sum (is_shared header o) (open_pages header h o first count (e ∷ past)) (open_pages header h o first count past)
    (one_unless (since (completes h o) (e ∷ past))) (one_unless (since (completes h o) past)) (pages_stay header h o first count e past keeps declared)
    (unless_falls (completes h o) e past keeps.inner is none)

completion_paid : (header : Header) (host : HostId) (object : ObjectId) (control first count : ℕ) (e : Event) (past : List Event) → Keeps header e past
    → completes host.0 object.0 e ≡ true → Completes header host.0 control object.0 first count past → credit header (e ∷ past) + 1 ≤ credit header past
completion_paid header host object control first count e past keeps is done =
    let taken = lock_was past _ done.taken in
    let declared : object.0 < named header = subst (λ (letter : Option Letter). LocksDeclared header letter) taken keeps.locks in
    paid header _ 1 e past keeps taken (completion_pays header host.0 object.0 first count e past keeps declared is done.once)

change_pays : (header : Header) (h o : ℕ) (e : Event) (past : List Event) → Keeps header e past → changes h o e ≡ true → since (changes h o) past ≡ false
    → open_end header h o (e ∷ past) + one_unless (since (changes h o) (e ∷ past)) + 1 ≤ open_end header h o past + one_unless (since (changes h o) past)
change_pays header h o e past keeps is none =
    let pages = end_kept header h o e past keeps in
    let more = unless_falls (changes h o) e past keeps.inner is none in
    omega (arith, pages, more)

change_paid : (header : Header) (host : HostId) (object : ObjectId) (control : ℕ) (cache : Bool) (strategy : ℕ) (e : Event) (past : List Event)
    → Keeps header e past → changes host.0 object.0 e ≡ true → Changes host.0 control object.0 cache strategy past
    → credit header (e ∷ past) + 1 ≤ credit header past
change_paid header host object control cache strategy e past keeps is done =
    paid header
    (change_letter (record { host = host.0; object = object.0; control = control; cache = cache; strategy = strategy; reply = true }))
    1 e past keeps (change_was past _ done.taken) (change_pays header host.0 object.0 e past keeps is done.once)

-- all that a host sends
sent_up : (header : Header) (n : ℕ) (host : HostId) (object : ObjectId) (m : Message) (past : List Event) → Keeps header (event.Sent (Up host object) m) past
    → Going header past → AllHaveFrames header past → IsWithin header past → OpensNone (event.Sent (Up host object) m)
    → CreatesNone (event.Sent (Up host object) m) → MaySendUp header (command.Settle n) host.0 object.0 m past
    → credit header (event.Sent (Up host object) m ∷ past) + dues header (event.Sent (Up host object) m) past ≤ credit header past
sent_up header n host object (message.Init control size) past keeps going frames within opens creates may = absurd opens
sent_up header n host object (message.Create control size) past keeps going frames within opens creates may = absurd creates
sent_up header n host object (message.Request control page access) past keeps going frames within opens creates may =
    no_due _ _ 0 refl (credit_kept header (event.Sent (Up host object) (message.Request control page access)) past keeps)
sent_up header n host object (message.Unlock control page access) past keeps going frames within opens creates may =
    no_due _ _ 0 refl (credit_kept header (event.Sent (Up host object) (message.Unlock control page access)) past keeps)
sent_up header n host object (message.Return control page dirty keep bytes) past keeps going frames within opens creates may =
    return_paid header n host object page keep control (event.Sent (Up host object) (message.Return control page dirty keep bytes)) past keeps going frames
    within may.live may.here (page_falls header host object control page dirty keep bytes past may.due) may.why
sent_up header n host object (message.Completed control page count) past keeps going frames within opens creates may =
    completion_paid header host object control page.0 count (event.Sent (Up host object) (message.Completed control page count)) past keeps
    (both_same host.0 object.0) may
sent_up header n host object (message.Changed control cache strategy) past keeps going frames within opens creates may =
    change_paid header host object control cache strategy (event.Sent (Up host object) (message.Changed control cache strategy)) past keeps
    (both_same host.0 object.0) may
sent_up header n host object (message.Terminate control) past keeps going frames within opens creates may =
    terminate_paid header host object control (event.Sent (Up host object) (message.Terminate control)) past keeps (both_same host.0 object.0)
    (unended header host.0 object.0 control past going may.live) going may.live may.why
sent_up header n host object other past keeps going frames within opens creates may = absurd may

-- What a pager sends: its answer to the request that the step took, or that it is ready, behind an init or a create.

answer_falls : (shared now was : Bool) → shared ≡ false → now ≡ true → was ≡ false
    → (if shared then 0 else one_unless now) + 1 ≤ (if shared then 0 else one_unless was)
answer_falls shared now was one two three = rw (one, two, three) (omega arith)

answer_paid : (header : Header) (host : HostId) (object : ObjectId) (control page : ℕ) (e : Event) (past : List Event) → Keeps header e past
    → is_shared header object.0 ≡ false → answers object.0 page e ≡ true → OwesAnswer host.0 object.0 control page past
    → credit header (e ∷ past) + 1 ≤ credit header past
answer_paid header host object control page e past keeps lone is owes =
    paid header (record { channel = up host.0 object.0; message = message.Request control (record { 0 = page }) owes.access }) 1 e past keeps owes.taken
    (answer_falls (is_shared header object.0) (since (answers object.0 page) (e ∷ past)) (since (answers object.0 page) past) lone
    (since_now (answers object.0 page) e past keeps.inner is) owes.unanswered)

ready_falls : (pages : ℕ) (now was : Bool) → now ≡ true → was ≡ false → (if now then 0 else pages + 3) + (pages + 3) ≤ (if was then 0 else pages + 3)
ready_falls pages now was one two = rw (one, two) (omega arith)

init_paid : (header : Header) (host : HostId) (object : ObjectId) (control size : ℕ) (e : Event) (past : List Event) → Keeps header e past
    → readies object.0 e ≡ true → since (readies object.0) past ≡ false
    → taken_letter past ≡ Some (record { channel = up host.0 object.0; message = message.Init control size })
    → credit header (e ∷ past) + (declared_pages header object.0 + 3) ≤ credit header past
init_paid header host object control size e past keeps is none was =
    paid header (record { channel = up host.0 object.0; message = message.Init control size }) (declared_pages header object.0 + 3) e past keeps was
    (ready_falls (declared_pages header object.0) (since (readies object.0) (e ∷ past)) (since (readies object.0) past)
    (since_now (readies object.0) e past keeps.inner is) none)

create_paid : (header : Header) (host : HostId) (object : ObjectId) (control size : ℕ) (e : Event) (past : List Event) → Keeps header e past
    → readies object.0 e ≡ true → since (readies object.0) past ≡ false
    → taken_letter past ≡ Some (record { channel = up host.0 object.0; message = message.Create control size })
    → credit header (e ∷ past) + (declared_pages header object.0 + 3) ≤ credit header past
create_paid header host object control size e past keeps is none was =
    paid header (record { channel = up host.0 object.0; message = message.Create control size }) (declared_pages header object.0 + 3) e past keeps was
    (ready_falls (declared_pages header object.0) (since (readies object.0) (e ∷ past)) (since (readies object.0) past)
    (since_now (readies object.0) e past keeps.inner is) none)

one_same : (a : ℕ) → (a == a && true) ≡ true
one_same a = rw (same a) refl

two_same : (a b : ℕ) → (a == a && b == b) ≡ true
two_same a b = rw (same a, same b) refl

-- of an object that isn't shared the supply is paid too
supply_due : (shared : Bool) (now was : ℕ) → shared ≡ false → now + 1 ≤ was → now + (if shared then 0 else 1) ≤ was
supply_due shared now was lone le = rw lone le

paged_sent : (header : Header) (outside : Outside) (n : ℕ) (host : HostId) (object : ObjectId) (control : ℕ) (m : Message) (past : List Event)
    → Keeps header (event.Sent (Down host object control) m) past → is_shared header object.0 ≡ false
    → MaySendDown header outside (command.Settle n) host.0 object.0 control m past
    → credit header (event.Sent (Down host object control) m ∷ past) + down_dues (is_shared header object.0) (declared_pages header object.0) m
    ≤ credit header past
paged_sent header outside n host object control (message.Supply page lock precious bytes) past keeps lone may =
    supply_due (is_shared header object.0) _ _ lone
    (answer_paid header host object control page.0 (event.Sent (Down host object control) (message.Supply page lock precious bytes)) past keeps lone
    (two_same object.0 page.0) may.0)
paged_sent header outside n host object control (message.Unavailable page) past keeps lone may =
    answer_paid header host object control page.0 (event.Sent (Down host object control) (message.Unavailable page)) past keeps lone
    (two_same object.0 page.0) may.0
paged_sent header outside n host object control (message.Error page reason) past keeps lone may =
    answer_paid header host object control page.0 (event.Sent (Down host object control) (message.Error page reason)) past keeps lone
    (two_same object.0 page.0) may.0
paged_sent header outside n host object control (message.Ready cache strategy) past keeps lone may = by may.3
  where
    by : ((taken_letter past ≡ Some (record { channel = up host.0 object.0; message = message.Create control may.0 })) × (strategy ≡ 3))
        ⊎ ((taken_letter past ≡ Some (record { channel = up host.0 object.0; message = message.Init control may.0 }))
        × (strategy ≡ init_strategy header object.0))
        → credit header (event.Sent (Down host object control) (message.Ready cache strategy) ∷ past) + (declared_pages header object.0 + 3)
        ≤ credit header past
    by (inl was) =
        create_paid header host object control may.0 (event.Sent (Down host object control) (message.Ready cache strategy)) past keeps (one_same object.0) may.2
        was.0
    by (inr was) =
        init_paid header host object control may.0 (event.Sent (Down host object control) (message.Ready cache strategy)) past keeps (one_same object.0) may.2
        was.0
paged_sent header outside n host object control (message.Lock page count returns flush lock reply) past keeps lone may = absurd may.5
paged_sent header outside n host object control (message.Attributes cache strategy reply) past keeps lone may = absurd may.4
paged_sent header outside n host object control other past keeps lone may = absurd may

-- what the server sends, but that it is ready, is paid by its lines
supply_free : (shared : Bool) → shared ≡ true → ◌≡◌ {A = ℕ} (if shared then 0 else 1) 0
supply_free shared is = rw is refl

server_sent : (header : Header) (host : HostId) (object : ObjectId) (control : ℕ) (m : Message) (past : List Event)
    → Keeps header (event.Sent (Down host object control) m) past → is_shared header object.0 ≡ true → ServerSends header host.0 object.0 control m past
    → credit header (event.Sent (Down host object control) m ∷ past) + down_dues (is_shared header object.0) (declared_pages header object.0) m
    ≤ credit header past
server_sent header host object control (message.Supply page lock precious bytes) past keeps is may =
    no_due _ _ _ (supply_free (is_shared header object.0) is)
    (credit_kept header (event.Sent (Down host object control) (message.Supply page lock precious bytes)) past keeps)
server_sent header host object control (message.Lock page count returns flush lock reply) past keeps is may =
    no_due _ _ 0 refl (credit_kept header (event.Sent (Down host object control) (message.Lock page count returns flush lock reply)) past keeps)
server_sent header host object control (message.Ready cache strategy) past keeps is may =
    init_paid header host object control may.0 (event.Sent (Down host object control) (message.Ready cache strategy)) past keeps (one_same object.0) may.2 may.3
server_sent header host object control other past keeps is may = absurd may

-- all that a pager sends, by the kind of the object
sent_down : (header : Header) (outside : Outside) (n : ℕ) (host : HostId) (object : ObjectId) (control : ℕ) (m : Message) (kind : ObjectKind)
    (past : List Event)
    → Keeps header (event.Sent (Down host object control) m) past → kind_of header object.0 ≡ kind
    → PagerSends kind header outside (command.Settle n) host.0 object.0 control m past
    → credit header (event.Sent (Down host object control) m ∷ past) + down_dues (is_shared header object.0) (declared_pages header object.0) m
    ≤ credit header past
sent_down header outside n host object control m Temp past keeps is may =
    paged_sent header outside n host object control m past keeps (ap is_shared_kind is) may
sent_down header outside n host object control m File past keeps is may =
    paged_sent header outside n host object control m past keeps (ap is_shared_kind is) may
sent_down header outside n host object control m Shared past keeps is may = server_sent header host object control m past keeps (ap is_shared_kind is) may
sent_down header outside n host object control m Wild past keeps is may = absurd may

-- The credit of a step pays for what follows in it, but what accesses and lines pay for; a store alone raises it.
pub credit_law : (header : Header) (outside : Outside) (n : ℕ) (e : Event) (past : List Event) → Follows header outside n e past → IsWithin header past
    → credit header (e ∷ past) + dues header e past ≤ credit header past + regains e
credit_law header outside n (event.Stored task object page at size value) past f within =
    let le = credit_stored header task object page at size value past in
    omega (arith, le)
credit_law header outside n (event.Line line) past f within = absurd f.inner
credit_law header outside n (event.Taken channel m) past f within = absurd f.inner
credit_law header outside n (event.Sent (Up host object) m) past f within =
    nothing_back _ _ _ (sent_up header n host object m past (follows_keeps header outside n (event.Sent (Up host object) m) past f tt) f.going f.frames within
    f.may.1 f.creates f.licensed.0)
credit_law header outside n (event.Sent (Down host object control) m) past f within =
    nothing_back _ _ _ (sent_down header outside n host object control m (kind_of header object.0) past
    (follows_keeps header outside n (event.Sent (Down host object control) m) past f tt) refl f.licensed.0)
credit_law header outside n (event.Dropped host object page) past f within =
    nothing_back _ _ _ (drop_paid header outside host object page past f.causes
    (follows_keeps header outside n (event.Dropped host object page) past f tt) f.licensed.0.here)
credit_law header outside n e past f within =
    nothing_back _ _ 0 (no_due _ _ 0 refl (credit_kept header e past (follows_keeps header outside n e past f tt)))
