-- What the places of shared memory cost behind each event inside a step of a settle.
use Rattle.std.proofs.Common.{ℕ, ◌+◌, ◌*◌, ◌<◌, ◌≤◌, ◌≡◌, ◌==◌, ◌∙◌, ◌&&◌, ◌||◌, Bool, true, false, List, [], ◌∷◌, Option, Some, None, nat_lt}
use Rattle.std.proofs.Common.{ap, sym, refl, subst, inl, inr, arith, if◌then◌else◌}
use Rattle.std.proofs.lemmas.Bool.Decides.{nat_tests}
use Rattle.std.proofs.lemmas.Bool.{or_left, or_right}
use Rattle.std.specs.Prelude.{nat_le}
use Rattle.vm_base.specs.Pages.{little_endian_bytes}
use Rattle.vm_base.specs.Entries.{entry_at}
use Rattle.vm_base.specs.declared.entry.Entry.{Entry}
use Rattle.vm_base.specs.declared.ids.HostId.{HostId}
use Rattle.vm_base.specs.declared.ids.ObjectId.{ObjectId}
use Rattle.vm_bound.proofs.Owing.{Follows, inner_weight, turns}
use Rattle.vm_bound.proofs.Paying.{is_flushed_page}
use Rattle.vm_bound.proofs.Readied.{here_unasked, known}
use Rattle.vm_bound.proofs.SharedMoves.{AskedHere, GoneBy, IsAlike, IsAsked, IsUnlocked, Goes, Stays, Moved, UnlockedHere, alike, drop_why, moved_drop}
use Rattle.vm_bound.proofs.SharedMoves.{moved_end, moved_none, moved_not, moved_request, moved_return, moved_store, moved_unlock, return_why}
use Rattle.vm_bound.proofs.SharedMoves.{shared_opens, shared_pays, unflushed}
use Rattle.vm_bound.proofs.Writing.{itself, no_true, number_is, wanted_stays, writer_of, writer_wants}
use Rattle.vm_bound.specs.Accesses.{is_wanted_to_write, turn_weight}
use Rattle.vm_bound.specs.Places.{asked_for}
use Rattle.vm_bound.specs.Settles.{IsOnHosts}
use Rattle.vm_legal.proofs.Unshared.{shared_tame}
use Rattle.vm_legal.specs.Accesses.{Waits, names, page_of}
use Rattle.vm_legal.specs.Licences as L
use Rattle.vm_legal.specs.Licences.{HasCause, LockRequest, desired_access, lock_taken}
use Rattle.vm_legal.specs.Outside.{Outside, is_shared}
use Rattle.vm_legal.specs.Living.{lives_on}
use Rattle.vm_legal.specs.Stretches.{IsInner}
use Rattle.vm_legal.specs.Swept.{IsUnmapped}
use Rattle.vm_legal.specs.Walks.{page_on}
use Rattle.vm_model.specs.Controls.{is_control, live_control}
use Rattle.vm_model.specs.Homes.{object_home}
use Rattle.vm_model.specs.Local.{Elsewhere, Local, LocalEffect, Place, Raises, Zeroes, is_on, local, local_after, merge_effect}
use Rattle.vm_model.specs.Moments.{EachEvent}
use Rattle.vm_model.specs.Named.{named}
use Rattle.vm_model.specs.Regions.{backing_of, object_pages}
use Rattle.vm_model.specs.Tasks.{entries_of, has_entry, host_of}
use Rattle.vm_model.specs.Waiting.{Access, is_store}
use Rattle.vm_model.specs.Words.{in_range}
use Rattle.vm_model.specs.declared.command.Command.TheVariants as command
use Rattle.vm_model.specs.declared.event.Event.{Event}
use Rattle.vm_model.specs.declared.event.Event.TheVariants as event
use Rattle.vm_model.specs.declared.message.Channel.TheVariants.{Up, Down}
use Rattle.vm_model.specs.declared.message.Message.{Message}
use Rattle.vm_model.specs.declared.message.Message.TheVariants as message
use Rattle.vm_model.specs.declared.script.Header.{Header}
use Rattle.vm_shared.proofs.Declared.{shared_declared}
use Rattle.vm_shared.proofs.Flat.{shared_no_file}
use Rattle.vm_shared.proofs.Kept.{uncopied, unraised, unzeroed}
use Rattle.vm_shared.proofs.Numbering.{ComesOwn, at_made, comes_own, numbering}
use Rattle.vm_shared.proofs.Rows.{names_store}

-- The facts of an event at its own place.

pub store_of : (access : Access) (steps wanted : ℕ) → wanted ≡ desired_access access steps → steps ≡ 0 → wanted ≡ 3 → is_store access ≡ true
store_of access steps wanted number none is =
    by (is_store access) (number ∙ ap (desired_access access) none) is
  where
    by : (b : Bool) → wanted ≡ (if b then 3 else 1) → wanted ≡ 3 → b ≡ true
    by true number is = refl
    by false number is = absurd (omega (arith, number, is))

asked_here : (header : Header) (outside : Outside) (h control o p access : ℕ) (past : List Event) → EachEvent (HasCause header outside) past
    → EachEvent (IsOnHosts header) past → is_shared header o ≡ true → L.Asks header h control o p access past
    → AskedHere header h o p access (is_control control (live_control h o past)) past
asked_here header outside h control o p access past caused hosts shared c =
    let num = numbering header outside past caused in
    let own : ComesOwn _ _ c.comes.steps o p = comes_own header past h c.waits.at.entry.region.0 (page_of header c.task c.access past c.waits.at.entry) o p num
    (shared_declared header o shared) (shared_no_file header o shared) (at_made header c.task _ past num.made c.waits.at) c.comes in
    record {
      live = ap (is_control control) c.live ∙ itself control;
      away = c.away;
      unasked = c.unasked;
      writes = λ is. subst (λ (g : ℕ). is_wanted_to_write header g o p past ≡ true) c.on_host
          (writer_wants header c.task o p c.access past hosts c.waits (store_of c.access c.comes.steps access c.number own.steps is) own.own.region
          own.own.page);
    }

unlocked_here : (header : Header) (outside : Outside) (h control o p access : ℕ) (past : List Event) → EachEvent (HasCause header outside) past
    → EachEvent (IsOnHosts header) past → is_shared header o ≡ true → L.Unlocks header h control o p access past → UnlockedHere header h o p past
unlocked_here header outside h control o p access past caused hosts shared c =
    let num = numbering header outside past caused in
    let own : ComesOwn _ _ c.comes.steps o p = comes_own header past h c.waits.at.entry.region.0 (page_of header c.task c.access past c.waits.at.entry) o p num
    (shared_declared header o shared) (shared_no_file header o shared) (at_made header c.task _ past num.made c.waits.at) c.comes in
    let store = (names_store (page_on header h o p past).lock (is_store c.access) (known header outside past caused h o p shared).shared.lock c.named).0 in
    record {
      here = c.here;
      named = subst (λ (b : Bool). names (page_on header h o p past).lock b ≡ true) store c.named;
      none = c.none;
      writes = subst (λ (g : ℕ). is_wanted_to_write header g o p past ≡ true) c.on_host
          (writer_wants header c.task o p c.access past hosts c.waits store own.own.region own.own.page);
      kept = unflushed header outside past caused h o p control access shared c;
    }

-- Each event.

-- a place by three numbers
pub at_third : (P : ℕ → ℕ → ℕ → Type 0) (a b c h o p : ℕ) → (a == h) ≡ true → (b == o) ≡ true → (c == p) ≡ true → P a b c → P h o p
at_third P a b c h o p one two three holds =
    subst (λ (x : ℕ). P h o x) (number_is c p three) (subst (λ (x : ℕ). P h x c) (number_is b o two) (subst (λ (x : ℕ). P x b c) (number_is a h one) holds))

pub shared_at : (header : Header) (b o : ℕ) → (b == o) ≡ true → is_shared header o ≡ true → is_shared header b ≡ true
shared_at header b o is shared = subst (λ (k : ℕ). is_shared header k ≡ true) (sym (number_is b o is)) shared

-- the moves of an event at a place
abbrev pub MovedBy : Header → ℕ → ℕ → ℕ → Event → List Event → Type 0
MovedBy header h o p e past =
    Moved header h o p past (page_on header h o p (e ∷ past)) (asked_for h o p (e ∷ past)) (shared_pays header e h o p) (shared_opens header e h o p)

ends_unasked : (header : Header) (h o : ℕ) (past : List Event) → is_shared header o ≡ true → L.EndCause header h o past → (page : ℕ)
    → (page_on header h o page past).asked ≡ false
ends_unasked header h o past shared (L.Unreachable temporary unreached unasked) page = unasked page
ends_unasked header h o past shared (L.Unheld declared unheld unasked) page = unasked page
ends_unasked header h o past shared (L.Destroyed destroyed) page = no_true (sym (shared_tame header o shared) ∙ destroyed.wild)

moves_up : (header : Header) (outside : Outside) (count h o p : ℕ) (host : HostId) (object : ObjectId) (m : Message) (past : List Event)
    → Follows header outside count (event.Sent (Up host object) m) past → is_shared header o ≡ true
    → MovedBy header h o p (event.Sent (Up host object) m) past
moves_up header outside count h o p host object (message.Request control page access) past f shared =
    moved_request header h o p access (host.0 == h) (object.0 == o) (page.0 == p) (is_control control (live_control h o past)) past
    (λ a b c. asked_here header outside h control o p access past f.causes f.hosts.1 shared
    (at_third (λ g k q. L.Asks header g control k q access past) host.0 object.0 page.0 h o p a b c f.licensed.0))
moves_up header outside count h o p host object (message.Unlock control page access) past f shared =
    moved_unlock header h o p (host.0 == h) (object.0 == o) (page.0 == p) past
    (λ a b c. unlocked_here header outside h control o p access past f.causes f.hosts.1 shared
    (at_third (λ g k q. L.Unlocks header g control k q access past) host.0 object.0 page.0 h o p a b c f.licensed.0))
moves_up header outside count h o p host object (message.Return control page dirty keep bytes) past f shared =
    moved_return header h o p (host.0 == h) (object.0 == o) (page.0 == p) keep past
    (λ a b c gone.
    let it : L.GivesBack header (command.Settle count) h control o p dirty keep bytes past =
    at_third (λ g k q. L.GivesBack header (command.Settle count) g control k q dirty keep bytes past) host.0 object.0 page.0 h o p a b c f.licensed.0 in
    record {
      here = it.here;
      unasked = here_unasked header outside past f.causes f.own_bytes.1 h o p shared it.here;
      why = return_why header outside count h o p keep past f.causes f.frames shared it.why gone;
    })
moves_up header outside count h o p host object (message.Terminate control) past f shared =
    moved_end header h o p (host.0 == h) (object.0 == o) (is_control control (live_control h o past)) past
    (λ a b.
    let it : L.Ends header h control o past =
    at_third (λ g k q. L.Ends header g control k past) host.0 object.0 0 h o 0 a b refl f.licensed.0 in
    ends_unasked header h o past shared it.why p)
moves_up header outside count h o p host object (message.Completed control page range) past f shared =
    moved_none header h o p (host.0 == h && object.0 == o) past
moves_up header outside count h o p host object (message.Changed control cache strategy) past f shared =
    moved_none header h o p (host.0 == h && object.0 == o) past
moves_up header outside count h o p host object (message.Init control size) past f shared = absurd f.may.1
moves_up header outside count h o p host object (message.Create control size) past f shared = absurd f.creates
moves_up header outside count h o p host object m past f shared = absurd f.licensed.0

-- the tests of a place
apart_from : (header : Header) (b o : ℕ) → is_shared header o ≡ true → (is_shared header b ≡ true → ⊥) → (b == o) ≡ true → ⊥
apart_from header b o shared apart is = apart (shared_at header b o is shared)

second_is : (a b c : Bool) → (a && (b && c)) ≡ true → b ≡ true
second_is a b c is = grind arith

middle_is : (a b c : Bool) → (a && (b && c)) ≡ true → (a ≡ true) × (b ≡ true) × (c ≡ true)
middle_is a b c is = grind arith

merge_none : (upper lower shift upper_pages lower_pages o p : ℕ) (others : Place → Local) → (o == upper) ≡ false → (o == lower) ≡ false
    → merge_effect upper lower shift upper_pages lower_pages (record { object = o; page = p }) others ≡ Elsewhere
merge_none upper lower shift upper_pages lower_pages o p others one two = rw (one, two) refl

moves_merged : (header : Header) (outside : Outside) (count h o p : ℕ) (upper lower : ObjectId) (past : List Event)
    → Follows header outside count (event.Merged upper lower) past → is_shared header o ≡ true → MovedBy header h o p (event.Merged upper lower) past
moves_merged header outside count h o p upper lower past f shared =
    let num = numbering header outside past f.causes in
    let less = shared_declared header o shared in
    let above : named header ≤ upper.0 = num.numbered.upper upper.0 f.licensed.0.pair.backed in
    let below : named header ≤ lower.0 = f.licensed.0.pair.temporary in
    let none = merge_none upper.0 lower.0 (backing_of header upper.0 past).shift (object_pages header upper.0 past) (object_pages header lower.0 past) o p
    (λ source. local header h source past) (apart o upper.0 (omega (arith, less, above))) (apart o lower.0 (omega (arith, less, below))) in
    subst (λ (e : LocalEffect). Moved header h o p past
    (local_after header.size (if is_on h (object_home upper.0 past) then e else Elsewhere) (page_on header h o p past)) (asked_for h o p past) 0 0)
    (sym none) (moved_none header h o p (is_on h (object_home upper.0 past)) past)
  where
    apart : (a b : ℕ) → a < b → (a == b) ≡ false
    apart a b less = grind (arith, nat_tests)

pub moves : (header : Header) (outside : Outside) (count h o p : ℕ) (e : Event) (past : List Event) → Follows header outside count e past
    → is_shared header o ≡ true → MovedBy header h o p e past
moves header outside count h o p (event.Sent (Up host object) m) past f shared = moves_up header outside count h o p host object m past f shared
moves header outside count h o p (event.Sent (Down host object control) m) past f shared = Stays (alike (page_on header h o p past)) refl refl refl
moves header outside count h o p (event.Dropped at object page) past f shared =
    moved_drop header h o p (at.0 == h && (object.0 == o && page.0 == p)) past
    (λ is.
    let same = middle_is (at.0 == h) (object.0 == o) (page.0 == p) is in
    let it : L.Drops header (command.Settle count) h o p past =
    at_third (λ g k q. L.Drops header (command.Settle count) g k q past) at.0 object.0 page.0 h o p same.0 same.1 same.2 f.licensed.0 in
    record {
      here = it.here;
      unasked = here_unasked header outside past f.causes f.own_bytes.1 h o p shared it.here;
      why = drop_why header count h o p past f.frames shared it.why;
    })
moves header outside count h o p (event.Zeroed at object page) past f shared =
    moved_not header h o p (at.0 == h && (object.0 == o && page.0 == p)) Zeroes past
    (λ is. apart_from header object.0 o shared (λ its. unzeroed header outside at.0 object.0 page.0 past f.causes its f.licensed.0)
    (second_is (at.0 == h) (object.0 == o) (page.0 == p) is))
moves header outside count h o p (event.Raised at lower lower_page upper upper_page) past f shared =
    moved_not header h o p (at.0 == h && (upper.0 == o && upper_page.0 == p)) (Raises _) past
    (λ is. apart_from header upper.0 o shared
    (λ its. unraised header outside at.0 lower.0 lower_page.0 upper.0 upper_page.0 past f.causes its f.licensed.0)
    (second_is (at.0 == h) (upper.0 == o) (upper_page.0 == p) is))
moves header outside count h o p (event.CopiedPage task page object object_page target) past f shared =
    moved_not header h o p (is_on h (host_of task.0 past) && (target.0 == o && page.0 == p)) (Raises _) past
    (λ is. apart_from header target.0 o shared
    (λ its. uncopied header outside task.0 page.0 object.0 object_page.0 target.0 past f.causes its f.licensed.0)
    (second_is (is_on h (host_of task.0 past)) (target.0 == o) (page.0 == p) is))
moves header outside count h o p (event.Stored task object page at size value) past f shared =
    moved_store header h o p at (little_endian_bytes size value) (is_on h (host_of task.0 past) && (object.0 == o && page.0 == p)) past
moves header outside count h o p (event.Merged upper lower) past f shared = moves_merged header outside count h o p upper lower past f shared
moves header outside count h o p (event.Taken channel m) past f shared = absurd f.inner
moves header outside count h o p (event.Line line) past f shared = absurd f.inner
moves header outside count h o p e past f shared = Stays (alike (page_on header h o p past)) refl refl refl

-- The law: what a place costs behind an event, with what the event pays there, is at most what it cost, and what the event opens.

pub shared_weight : (header : Header) (h o p : ℕ) (past : List Event) → is_shared header o ≡ true
    → inner_weight header h o p past
    ≡ (if is_wanted_to_write header h o p past
    then turn_weight header * turns (is_flushed_page h o p (lock_taken past)) (asked_for h o p past) (page_on header h o p past)
    else 0)
shared_weight header h o p past shared = rw (shared_tame header o shared, shared) refl

-- where the step took a flush, whoever on its host waits to write a page of shared memory that is here finds it locked
abbrev pub IsCalmToWrite : Header → List Event → Type 0
IsCalmToWrite header past =
    (request : LockRequest) (task : ℕ) (access : Access) → lock_taken past ≡ Some request → request.flush ≡ true → (waits : Waits header task access past)
    → waits.at.host ≡ request.host → is_shared header waits.at.entry.region.0 ≡ true → is_store access ≡ true
    → (page_on header waits.at.host waits.at.entry.region.0 (page_of header task access past waits.at.entry) past).here ≡ true
    → names (page_on header waits.at.host waits.at.entry.region.0 (page_of header task access past waits.at.entry) past).lock true ≡ true

-- what that says of a place
abbrev pub IsLockedToWrite : Header → ℕ → ℕ → ℕ → List Event → Type 0
IsLockedToWrite header h o p past =
    is_flushed_page h o p (lock_taken past) ≡ true → (page_on header h o p past).here ≡ true → is_wanted_to_write header h o p past ≡ true
    → names (page_on header h o p past).lock true ≡ true

-- no entry is on its object
pub unmapped_none : (header : Header) (h o task : ℕ) (access : Access) (past : List Event) → IsUnmapped header h o past
    → (waits : Waits header task access past) → waits.at.host ≡ h → waits.at.entry.region.0 ≡ o → ⊥
unmapped_none header h o task access past unmapped waits on_host region =
    let lives : lives_on h task past ≡ true = ap (is_on h) waits.at.lives ∙ subst (λ (g : ℕ). (g == h) ≡ true) (sym on_host) (itself h) in
    let some = has_found waits.at.entry (entries_of header.size task past) _ region waits.at.found in
    no_true (sym (unmapped task lives) ∙ some)
  where
    no_entry : {A : Type 0} (entry : Entry) → ◌≡◌ {A = Option Entry} None (Some entry) → A
    no_entry entry is = absurd (cc)

    found_if : (b : Bool) (row entry : Entry) (rest : Option Entry) (more : Bool) → entry.region.0 ≡ o → (rest ≡ Some entry → more ≡ true)
        → (if b then Some row else rest) ≡ Some entry → (row.region.0 == o || more) ≡ true
    found_if true row entry rest more region later is =
        let same : row ≡ entry = cc in
        or_left _ more (subst (λ (k : ℕ). (k == o) ≡ true) (sym (ap (λ (e : Entry). e.region.0) same ∙ region)) (itself o))
    found_if false row entry rest more region later is = or_right (row.region.0 == o) _ (later is)

    has_found : (entry : Entry) (rows : List Entry) (address : ℕ) → entry.region.0 ≡ o → entry_at address rows ≡ Some entry → has_entry o rows ≡ true
    has_found entry [] address region is = no_entry entry is
    has_found entry (row ∷ rows) address region is =
        found_if (nat_le row.address address && nat_lt address (row.address + row.bytes)) row entry (entry_at address rows) (has_entry o rows) region
        (has_found entry rows address region) is

unmapped_unwritten : (header : Header) (h o p : ℕ) (past : List Event) → IsUnmapped header h o past → is_wanted_to_write header h o p past ≡ true → ⊥
unmapped_unwritten header h o p past unmapped wanted =
    let it = writer_of header h o p past wanted in
    unmapped_none header h o it.task it.is.access past unmapped it.is.waits it.is.on_host it.is.region

pub flush_is : (h o p : ℕ) (r : LockRequest) → is_flushed_page h o p (Some r) ≡ true → (r.flush ≡ true) × (h ≡ r.host)
flush_is h o p r is = by r.flush (r.object == o) (in_range p r.page r.count) is
  where
    by : (f b i : Bool) → (f && (r.host == h && (b && i))) ≡ true → (f ≡ true) × (h ≡ r.host)
    by f b i is = (grind arith, grind (arith, nat_tests))

locked_to_write : (header : Header) (h o p : ℕ) (past : List Event) → IsCalmToWrite header past → is_shared header o ≡ true
    → IsLockedToWrite header h o p past
locked_to_write header h o p past calm shared flushed here wanted = by (lock_taken past) refl flushed
  where
    named : (r : LockRequest) → lock_taken past ≡ Some r → r.flush ≡ true → h ≡ r.host → names (page_on header h o p past).lock true ≡ true
    named r taken flush host =
        let it = writer_of header h o p past wanted in
        let w = it.is in
        let back : (P : ℕ → ℕ → ℕ → Type 0) → P h o p
        → P w.waits.at.host w.waits.at.entry.region.0 (page_of header it.task w.access past w.waits.at.entry) =
        λ P holds. subst (λ (x : ℕ). P x w.waits.at.entry.region.0 (page_of header it.task w.access past w.waits.at.entry)) (sym w.on_host)
        (subst (λ (x : ℕ). P h x (page_of header it.task w.access past w.waits.at.entry)) (sym w.region) (subst (λ (x : ℕ). P h o x) (sym w.page) holds)) in
        let is = calm r it.task w.access taken flush w.waits (w.on_host ∙ host) (subst (λ (k : ℕ). is_shared header k ≡ true) (sym w.region) shared) w.kind
        (back (λ g k q. (page_on header g k q past).here ≡ true) here) in
        subst (λ (x : ℕ). names (page_on header x o p past).lock true ≡ true) w.on_host
        (subst (λ (x : ℕ). names (page_on header w.waits.at.host x p past).lock true ≡ true) w.region
        (subst (λ (x : ℕ). names (page_on header w.waits.at.host w.waits.at.entry.region.0 x past).lock true ≡ true) w.page is))

    by : (x : Option LockRequest) → lock_taken past ≡ x → is_flushed_page h o p x ≡ true → names (page_on header h o p past).lock true ≡ true
    by None taken is = no_true is
    by (Some r) taken is = let parts = flush_is h o p r is in named r taken parts.0 parts.1

-- the turns

abbrev pub turns_seen : Bool → ℕ → Bool → Bool → Bool → Bool → ℕ
turns_seen flushed access here locked unlocking asked =
    if flushed
    then (if here then if locked then 1 else 0 else
    (if here then (if locked then (if unlocking then 1 else 2) else 0) else if asked then (if access == 3 then 0 else 2) else 1))
    else (if here then (if locked then (if unlocking then 1 else 2) else 0) else if asked then (if access == 3 then 0 else 2) else 1)

abbrev pub turns_of : Bool → ℕ → Bool → ℕ → Bool → Bool → ℕ
turns_of flushed access here lock unlocking asked = turns_seen flushed access here (names lock true) unlocking asked

turns_alike : (flushed : Bool) (access : ℕ) (now was : Local) → IsAlike now was → turns flushed access now ≡ turns flushed access was
turns_alike flushed access now was same =
    by now.here was.here now.lock was.lock now.unlocking was.unlocking now.asked was.asked same.here same.lock same.unlocking same.asked
  where
    by : (a b : Bool) (c d : ℕ) (e f g i : Bool) → a ≡ b → c ≡ d → e ≡ f → g ≡ i → turns_of flushed access a c e g ≡ turns_of flushed access b d f i
    by a b c d e f g i one two three four = rw (one, two, three, four) refl

turns_away : (flushed : Bool) (access : ℕ) (page : Local) → page.here ≡ false → page.asked ≡ false → turns flushed access page ≡ 1
turns_away flushed access page away unasked = by flushed page.here page.asked away unasked
  where
    by : (f a b : Bool) → a ≡ false → b ≡ false → turns_of f access a page.lock page.unlocking b ≡ 1
    by true false false one two = refl
    by false false false one two = refl
    by f true b one two = no_true (sym one)
    by f a true one two = no_true (sym two)

turns_asked : (flushed : Bool) (access : ℕ) (page : Local) → page.here ≡ false → page.asked ≡ true → turns flushed access page ≡ (if access == 3 then 0 else 2)
turns_asked flushed access page away asked = by flushed page.here page.asked away asked
  where
    by : (f a b : Bool) → a ≡ false → b ≡ true → turns_of f access a page.lock page.unlocking b ≡ (if access == 3 then 0 else 2)
    by true false true one two = refl
    by false false true one two = refl
    by f true b one two = no_true (sym one)
    by f a false one two = no_true two

turns_locked : (flushed : Bool) (access : ℕ) (page : Local) (u : Bool) → flushed ≡ false → page.here ≡ true → names page.lock true ≡ true
    → page.unlocking ≡ u → turns flushed access page ≡ (if u then 1 else 2)
turns_locked flushed access page u kept here named is = by flushed page.here (names page.lock true) page.unlocking kept here named is
  where
    by : (f a b c : Bool) → f ≡ false → a ≡ true → b ≡ true → c ≡ u
        → turns_seen f access a b c page.asked ≡ (if u then 1 else 2)
    by false true true c one two three four = ap (λ (x : Bool). if x then 1 else 2) four
    by true a b c one two three four = no_true (sym one)
    by f false b c one two three four = no_true two
    by f a false c one two three four = no_true three

turns_flushed : (flushed : Bool) (access : ℕ) (page : Local) → flushed ≡ true → page.here ≡ true → names page.lock true ≡ true
    → turns flushed access page ≡ 1
turns_flushed flushed access page over here named = by flushed page.here (names page.lock true) over here named
  where
    by : (f a b : Bool) → f ≡ true → a ≡ true → b ≡ true
        → turns_seen f access a b page.unlocking page.asked ≡ 1
    by true true true one two three = refl
    by false a b one two three = no_true one
    by f false b one two three = no_true two
    by f a false one two three = no_true three

-- the law of sums
balance : (wanted before : Bool) (now was pays opens : ℕ) → (wanted ≡ true → before ≡ true) → (before ≡ true → now + pays ≤ was + opens)
    → (before ≡ false → pays ≤ opens) → (if wanted then now else 0) + pays ≤ (if before then was else 0) + opens
balance true true now was pays opens stays some none = some refl
balance false true now was pays opens stays some none = let le = some refl in omega (arith, le)
balance true false now was pays opens stays some none = no_true (stays refl)
balance false false now was pays opens stays some none = let le = none refl in omega (arith, le)

law_stays : (M n k pays opens : ℕ) → n ≡ k → pays ≡ 0 → opens ≡ 0 → M * n + pays ≤ M * k + opens
law_stays M n k pays opens same one two = subst (λ (x : ℕ). M * n + pays ≤ M * x + opens) same (omega (arith, one, two))

law_asked : (M n k a pays opens : ℕ) → k ≡ 1 → n ≡ (if a == 3 then 0 else 2) → pays ≡ (if a == 3 then M else 0) → opens ≡ (if a == 3 then 0 else M)
    → M * n + pays ≤ M * k + opens
law_asked M n k a pays opens was now one two = rw (was, now, one, two) (by (a == 3))
  where
    by : (b : Bool) → M * (if b then 0 else 2) + (if b then M else 0) ≤ M * 1 + (if b then 0 else M)
    by true = omega arith
    by false = omega arith

law_asked_none : (M a pays opens : ℕ) (w : Bool) → w ≡ false → (a ≡ 3 → w ≡ true) → pays ≡ (if a == 3 then M else 0)
    → opens ≡ (if a == 3 then 0 else M) → pays ≤ opens
law_asked_none M a pays opens w none writes one two = rw (one, two) (by (a == 3) (λ is. sym none ∙ writes (number_is a 3 is)))
  where
    by : (b : Bool) → (b ≡ true → false ≡ true) → (if b then M else 0) ≤ (if b then 0 else M)
    by true bad = no_true (bad refl)
    by false bad = omega arith

law_unlocked : (M n k pays opens : ℕ) → k ≡ 2 → n ≡ 1 → pays ≡ M → opens ≡ 0 → M * n + pays ≤ M * k + opens
law_unlocked M n k pays opens was now one two = rw (was, now, one, two) (omega arith)

pub lock_stays : (e : Event) (past : List Event) → IsInner e → lock_taken (e ∷ past) ≡ lock_taken past
lock_stays (event.Line line) past inner = absurd inner
lock_stays (event.Taken channel m) past inner = absurd inner
lock_stays e past inner = refl

-- what a place costs, by the parts
abbrev weight_at : Header → Bool → ℕ → ℕ
weight_at header wanted n = if wanted then turn_weight header * n else 0

law_by : (header : Header) (h o p : ℕ) (past : List Event) (now : Local) (asked pays opens : ℕ) (wanted : Bool)
    → (wanted ≡ true → is_wanted_to_write header h o p past ≡ true) → IsLockedToWrite header h o p past → Moved header h o p past now asked pays opens
    → weight_at header wanted (turns (is_flushed_page h o p (lock_taken past)) asked now) + pays
    ≤ weight_at header (is_wanted_to_write header h o p past)
    (turns (is_flushed_page h o p (lock_taken past)) (asked_for h o p past) (page_on header h o p past)) + opens
law_by header h o p past now asked pays opens wanted stays locked (Stays same for_ none free) =
    let is = ap (λ (a : ℕ). turns (is_flushed_page h o p (lock_taken past)) a now) for_
    ∙ turns_alike (is_flushed_page h o p (lock_taken past)) (asked_for h o p past) now (page_on header h o p past) same in
    balance wanted (is_wanted_to_write header h o p past) _ _ pays opens stays (λ some. law_stays (turn_weight header) _ _ pays opens is none free)
    (λ nobody. omega (arith, none, free))
law_by header h o p past now asked pays opens wanted stays locked (IsAsked away unasked gone now_asked writes paid opened) =
    balance wanted (is_wanted_to_write header h o p past) _ _ pays opens stays
    (λ some. law_asked (turn_weight header) _ _ asked pays opens
    (turns_away (is_flushed_page h o p (lock_taken past)) (asked_for h o p past) (page_on header h o p past) away unasked)
    (turns_asked (is_flushed_page h o p (lock_taken past)) asked now gone now_asked) paid opened)
    (λ nobody. law_asked_none (turn_weight header) asked pays opens (is_wanted_to_write header h o p past) nobody writes paid opened)
law_by header h o p past now asked pays opens wanted stays locked (IsUnlocked here named none stands same out writes kept paid free) =
    balance wanted (is_wanted_to_write header h o p past) _ _ pays opens stays
    (λ some. law_unlocked (turn_weight header) _ _ pays opens
    (turns_locked (is_flushed_page h o p (lock_taken past)) (asked_for h o p past) (page_on header h o p past) false kept here named none)
    (turns_locked (is_flushed_page h o p (lock_taken past)) asked now true kept stands
    (subst (λ (k : ℕ). names k true ≡ true) (sym same) named) out) paid free)
    (λ nobody. no_true (sym nobody ∙ writes))
law_by header h o p past now asked pays opens wanted stays locked (Goes here gone unasked for_ none free why) =
    balance wanted (is_wanted_to_write header h o p past) _ _ pays opens stays
    (λ some. law_stays (turn_weight header) _ _ pays opens
    (turns_away (is_flushed_page h o p (lock_taken past)) asked now gone unasked ∙ sym (by why some)) none free)
    (λ nobody. omega (arith, none, free))
  where
    by : GoneBy header h o p past → is_wanted_to_write header h o p past ≡ true
        → turns (is_flushed_page h o p (lock_taken past)) (asked_for h o p past) (page_on header h o p past) ≡ 1
    by (inl flushed) some =
        turns_flushed (is_flushed_page h o p (lock_taken past)) (asked_for h o p past) (page_on header h o p past) flushed here (locked flushed here some)
    by (inr unmapped) some = absurd (unmapped_unwritten header h o p past unmapped some)

pub cause_of : (header : Header) (outside : Outside) (count : ℕ) (e : Event) (past : List Event) → Follows header outside count e past
    → HasCause header outside e past
cause_of header outside count e past f = (command.Settle count, f.licensed.0)

pub shared_law : (header : Header) (outside : Outside) (count : ℕ) (e : Event) (past : List Event) → Follows header outside count e past
    → IsCalmToWrite header past → (h o p : ℕ) → is_shared header o ≡ true
    → inner_weight header h o p (e ∷ past) + shared_pays header e h o p ≤ inner_weight header h o p past + shared_opens header e h o p
shared_law header outside count e past f calm h o p shared =
    let law = law_by header h o p past (page_on header h o p (e ∷ past)) (asked_for h o p (e ∷ past)) (shared_pays header e h o p)
    (shared_opens header e h o p) (is_wanted_to_write header h o p (e ∷ past))
    (wanted_stays header outside h o p e past (cause_of header outside count e past f) f.may f.inner)
    (locked_to_write header h o p past calm shared) (moves header outside count h o p e past f shared) in
    let now = shared_weight header h o p (e ∷ past) shared in
    let was = shared_weight header h o p past shared in
    let same = ap (λ (l : Option LockRequest). weight_at header (is_wanted_to_write header h o p (e ∷ past))
    (turns (is_flushed_page h o p l) (asked_for h o p (e ∷ past)) (page_on header h o p (e ∷ past)))) (lock_stays e past f.inner) in
    omega (arith, law, now, was, same)
