-- Who waits for a page has a row that says so, but in the frame queue.
use Rattle.vm_kernel.proofs.Common.{Access, AllInner, Asked, Awaits, Bool, Command, Down, EndsAll, EndsEach, Event, HasPlace, HasQueue, Header, Ids}
use Rattle.vm_kernel.proofs.Common.{IsPagerTold, LegalEvents, List, Local, Message, None, ObjectId, On, Option, Outside, PageRow, Parts, Reason}
use Rattle.vm_kernel.proofs.Common.{Rests, Some, Waiting, Waits, WaitsAt, [], absent_at, access_in, ap, append-nil, before_more, before_step, copies_to, entry}
use Rattle.vm_kernel.proofs.Common.{error_more, error_taken, false, frames_free, host_id, if◌then◌else◌, inl, inr, is_again, is_control, is_frame}
use Rattle.vm_kernel.proofs.Common.{is_some, is_store, live_control, local, local_of_row, none_again, none_queued, object_at, page_key, page_of}
use Rattle.vm_kernel.proofs.Common.{place_of, ready_in, refl, row_at, some_is, subst, sym, true, ℕ, ◌&&◌, ◌++◌, ◌∙◌, ◌∷◌, ◌≡◌}
use Rattle.vm_model.specs.declared.event.Event.TheVariants as event
use Rattle.vm_model.specs.declared.message.Message.TheVariants as message
use Rattle.vm_waits.specs.declared.waiting.On.TheVariants as on
use Rattle.vm_kernel.proofs.controls.WordTaken.{told_unready}
use Rattle.vm_kernel.proofs.steps.StepEnds.{has_row, at_home}
use Rattle.vm_kernel.proofs.memory.WalksShown.{shown_at, waiting_place}
use Rattle.vm_state.proofs.Locks.{awaits_word}
use Rattle.vm_state.proofs.Shown.{awaits_ready}
use Rattle.std.proofs.lemmas.Bool.{not-true}
use Rattle.vm_state.proofs.Filling.{copies_next}
use Rattle.vm_kernel.proofs.steps.WhoSleeps.{OwesFree, never_pushing}
use Rattle.vm_legal.specs.Accesses.{Comes}

-- nothing but this place of its page is awaited
abbrev AwaitsOnly : (header : Header) (h task : ℕ) (access : Access) (past : List Event) → Waits header task access past → ℕ → ℕ → Type 0
AwaitsOnly header h task access past waits object page =
    (other other_page : ℕ) → HasPlace header waits.at.entry.region.0 (page_of header task access past waits.at.entry) other other_page past
    → Awaits header h (is_store access) other other_page past → (other ≡ object) × (other_page ≡ page)

-- so its row says that it waits for that page
waits_there : (header : Header) (h : ℕ) (k : Parts) (ids : Ids) (past : List Event) (task object page : ℕ) (w : Waiting) (why : On) → Rests header h k ids past
    → HasQueue header h k past → entry k.waits.rows task ≡ Some w → w.on ≡ why
    → (waits : Waits header task (access_in k.maps.size (copies_to w.destination) w.want) past)
    → AwaitsOnly header h task (access_in k.maps.size (copies_to w.destination) w.want) past waits object page
    → Comes header h waits.at.entry.region.0 (page_of header task (access_in k.maps.size (copies_to w.destination) w.want) past waits.at.entry) object page past
    → OwesFree header h (access_in k.maps.size (copies_to w.destination) w.want) past object page
    → ready_in (object_at k.memory.objects object) ≡ true
    → (frames_free header h past ≡ 0 → ⊥) → why ≡ on.Page (page_key object page)
waits_there header h k ids past task object page w on.Again rests queue found is waits only comes free ready frees =
    absurd (let bad : true ≡ false = sym (ap is_again is) ∙ none_again k.waits.rows task w rests.idle found in cc)
waits_there header h k ids past task object page w (on.Ready told) rests queue found is waits only comes free ready frees =
    let m = rests.matches in
    let here = ap is_some (rests.waits.allowed task w found).lives in
    let reason : Reason k.maps k.chains k.copies k.memory.resident k.memory.objects task w.want (on.Ready told) =
    subst (λ (z : On). Reason k.maps k.chains k.copies k.memory.resident k.memory.objects task w.want z) is (rests.waits.reasons task w found refl) in
    let pager = reason.3 in
    let awaits : Awaits header h (is_store (access_in k.maps.size (copies_to w.destination) w.want)) told.0 reason.0.page.0 past = awaits_ready (shown_at m)
    told.0 pager.row pager.found pager.sent (is_store (access_in k.maps.size (copies_to w.destination) w.want)) reason.0.page.0 in
    let same = only reason.0.object.0 reason.0.page.0 (waiting_place m (copies_to w.destination) (copies_next rests.used.copies task w found) reason.1 here
    waits)
    (subst (λ (z : ObjectId). Awaits header h (is_store (access_in k.maps.size (copies_to w.destination) w.want)) z.0 reason.0.page.0 past) (sym reason.2)
    awaits) in
    let named : told.0 ≡ object = ap (λ (z : ObjectId). z.0) (sym reason.2) ∙ same.0 in
    absurd (told_unready k.memory.objects object (subst (IsPagerTold k.memory.objects) named pager) ready)
waits_there header h k ids past task object page w (on.Page key) rests queue found is waits only comes free ready frees =
    let m = rests.matches in
    let here = ap is_some (rests.waits.allowed task w found).lives in
    let reason : Reason k.maps k.chains k.copies k.memory.resident k.memory.objects task w.want (on.Page key) =
    subst (λ (z : On). Reason k.maps k.chains k.copies k.memory.resident k.memory.objects task w.want z) is (rests.waits.reasons task w found refl) in
    let same = only key.object.0 key.page.0 (waiting_place m (copies_to w.destination) (copies_next rests.used.copies task w found) reason.0 here waits)
    (awaits_word (shown_at m) k.maps.size (copies_to w.destination) key.object.0 key.page.0 w.want reason.1) in
    λ i. on.Page (page_key (same.0 i) (same.1 i))
waits_there header h k ids past task object page w (on.Push key) rests queue found is waits only comes free ready frees =
    let reason : Reason k.maps k.chains k.copies k.memory.resident k.memory.objects task w.want (on.Push key) =
    subst (λ (z : On). Reason k.maps k.chains k.copies k.memory.resident k.memory.objects task w.want z) is (rests.waits.reasons task w found refl) in
    absurd (never_pushing rests found reason waits comes free)
waits_there header h k ids past task object page w on.Frame rests (inl none) found is waits only comes free ready frees =
    absurd (let bad : true ≡ false = sym (ap is_frame is) ∙ none_queued k.waits.rows task w none found in cc)
waits_there header h k ids past task object page w on.Frame rests (inr short) found is waits only comes free ready frees = absurd (frees short)

-- the step of an error

-- an error that counts is for a page that this host has asked for
error_asked : (h : ℕ) (header : Header) (object : ObjectId) (control : ℕ) (m : Message) (past : List Event) (host o p : ℕ)
    → error_taken header (event.Taken (Down (host_id h) object control) m ∷ past) ≡ Some (record { host = host; object = o; page = p })
    → (host ≡ h) × ((local header h (place_of o p) past).asked ≡ true)
error_asked h header object control (message.Error page reason) past host o p is =
    go (is_control control (live_control h object.0 past)) (local header h (place_of object.0 page.0) past).asked refl is
  where
    go : (a b : Bool) → (local header h (place_of object.0 page.0) past).asked ≡ b
        → if◌then◌else◌ {A = Option Asked} (a && b) (Some (record { host = h; object = object.0; page = page.0 })) None ≡ Some
        (record { host = host; object = o; page = p }) → (host ≡ h) × ((local header h (place_of o p) past).asked ≡ true)
    go true true asked same =
        let it = some_is (record { host = h; object = object.0; page = page.0 }) (record { host = host; object = o; page = p }) same in
        (sym (ap (λ (z : Asked). z.host) it), subst (λ (z : Asked). (local header h (place_of z.object z.page) past).asked ≡ true) it asked)
    go true false asked none = absurd (cc)
    go false b asked none = absurd (cc)
error_asked h header object control other past host o p is = absurd (let bad : None ≡ Some (record { host = host; object = o; page = p }) = is in cc)

-- a page that is asked has a row, and its pager is ready
asked_ready : (header : Header) (h : ℕ) (k : Parts) (ids : Ids) (past : List Event) (o p : ℕ) → Rests header h k ids past
    → (local header h (place_of o p) past).asked ≡ true → ready_in (object_at k.memory.objects o) ≡ true
asked_ready header h k ids past o p rests asked =
    by (row_at k.memory.resident o p) refl (sym (ap (λ (z : Local). z.asked) (rests.matches.core.pages.shown.shown o p)) ∙ asked)
  where
    by : (x : Option PageRow) → row_at k.memory.resident o p ≡ x → (local_of_row k.memory.frames x (absent_at k.memory.objects o p)).asked ≡ true
        → ready_in (object_at k.memory.objects o) ≡ true
    by None found is = absurd (let bad : false ≡ true = is in cc)
    by (Some row) found is = rests.waits.ready o p row found (not-true row.here is)

-- each that waited has ended
pub ends_waiters : (header : Header) (h : ℕ) (outside : Outside) (doing : Command) (k : Parts) (ids : Ids) (past front : List Event) (object : ObjectId)
    (control : ℕ) (m : Message) (events : List Event) → Rests header h k ids past → HasQueue header h k past
    → front ≡ event.Taken (Down (host_id h) object control) m ∷ [] → LegalEvents header h outside doing (front ++ past) [] events
    → EndsEach header k.waits.rows (events ++ (front ++ past)) → EndsAll header (events ++ (front ++ past))
ends_waiters header h outside doing k ids past front object control m events rests queue is goes each = λ host o p error task stops frees.
    let now : events ≡ goes.more = goes.is ∙ append-nil goes.more in
    let inner : AllInner events = subst AllInner (sym now) goes.inner in
    let first : front ++ past ≡ event.Taken (Down (host_id h) object control) m ∷ past = ap (λ z. z ++ past) is in
    let before : before_step (events ++ (front ++ past)) ≡ past = before_more events (front ++ past) inner ∙ ap before_step first in
    let asked = error_asked h header object control m past host o p (sym (ap (error_taken header) first)
    ∙ (sym (error_more header events (front ++ past) inner) ∙ error)) in
    let home : host ≡ h = asked.0 in
    let ready = asked_ready header h k ids past o p rests asked.1 in
    let stops_here : WaitsAt header h task o p past = subst (λ (z : ℕ). WaitsAt header z task o p past) home
    (subst (λ (z : List Event). WaitsAt header host task o p z) before stops) in
    let frees_here : frames_free header h past ≡ 0 → ⊥ = subst (λ (z : ℕ). frames_free header z past ≡ 0 → ⊥) home
    (subst (λ (z : List Event). frames_free header host z ≡ 0 → ⊥) before frees) in
    let row = has_row header h k past task stops_here.access rests.waits (at_home header h k ids past task stops_here.access rests.matches stops_here.waits
    stops_here.on_host) stops_here.waits.waits in
    let w = row.row in
    let on_page : w.on ≡ on.Page (page_key o p) =
    subst (λ (z : Access). (waits : Waits header task z past) → AwaitsOnly header h task z past waits o p
    → Comes header h waits.at.entry.region.0 (page_of header task z past waits.at.entry) o p past → OwesFree header h z past o p
    → w.on ≡ on.Page (page_key o p)) (sym row.is)
    (λ waits only comes free. waits_there header h k ids past task o p w w.on rests queue row.found refl waits only comes free ready frees_here)
    stops_here.waits stops_here.only stops_here.comes stops_here.free in
    each host o p task w error row.found on_page
