-- The end of a wild object that a host took is done, and paid.
use Rattle.vm_legal.proofs.Unshared.{wild_named}
use Rattle.vm_kernel.proofs.Common.{Access, AllInner, Bool, Command, EachOf, Entry, Event, HasWaits, Header, Ids, IsAbsencePaid, LegalEvents, List, Matches}
use Rattle.vm_kernel.proofs.Common.{Message, None, ObjectId, Option, Outside, PageKey, Parts, Rests, RunsNoneYet, Some, Still, Waiting, Waits, Want, Works, []}
use Rattle.vm_kernel.proofs.Common.{absence_more, absence_taken, access_in, address_in, ap, append-nil, append_assoc, arith, before_more, before_step}
use Rattle.vm_kernel.proofs.Common.{copies_to, entries_of, entry, entry_at, eqb_tells, error_more, error_taken, false, if◌then◌else◌, inl, inr, is_control}
use Rattle.vm_kernel.proofs.Common.{length, live_in, named, nat_lt, next_page, no_request, none_again, not, object_at, of_both, refl, rows_in, some_is, subst}
use Rattle.vm_kernel.proofs.Common.{sym, true, ℕ, ◌&&◌, ◌++◌, ◌==◌, ◌∙◌, ◌∷◌, ◌≡◌}
use Rattle.std.proofs.lemmas.List.{length-map}
use Rattle.std.proofs.lemmas.Option.{none-some}
use Rattle.std.specs.Prelude.{map, option_map}
use Rattle.vm_base.specs.Listing.{Listed}
use Rattle.vm_frames.specs.Frames.{frame_count}
use Rattle.vm_kernel.proofs.controls.WaitersWoken.{entry_woken}
use Rattle.vm_kernel.proofs.controls.AnswerEffects.{hears, nothing_dead}
use Rattle.vm_kernel.proofs.controls.LockHeeded.{Heeds}
use Rattle.std.proofs.lemmas.Bool.Decides.{nat_tests}
use Rattle.vm_kernel.proofs.controls.WaitersFail.{since_goes}
use Rattle.vm_kernel.proofs.controls.WordHeard.{no_absence}
use Rattle.vm_kernel.proofs.controls.WordTaken.{changed_none, stays_heard, works_flagged, works_of}
use Rattle.vm_kernel.proofs.memory.PagesShown.{itself}
use Rattle.vm_kernel.proofs.memory.WalksShown.{want_address}
use Rattle.vm_kernel.proofs.space.EntriesGone.{ends_still}
use Rattle.vm_kernel.proofs.steps.EventsGrow.{goes_none}
use Rattle.vm_kernel.proofs.steps.FramesInTurn.{unrun}
use Rattle.vm_kernel.proofs.steps.StepEnds.{at_home, has_row}
use Rattle.vm_kernel.specs.Destroying.{AllUnserved, FailsOnly, HasEmptied, HaveFallen, IsDestroyPaid, IsFailure, StandOrFell, WakesOn, is_destroy, is_on}
use Rattle.vm_kernel.specs.Destroying.{is_place_on, place_led, queue_behind, queue_but_on, unserved, unserved_at, woken_on}
use Rattle.vm_kernel.specs.Matches.{HasSlow, Undone}
use Rattle.vm_kernel.specs.Rooms.{Spends, if_copies}
use Rattle.vm_kernel.specs.Sweeping.{EndsOnly}
use Rattle.vm_kernel.specs.Turns.{RunsNone}
use Rattle.vm_legal.proofs.Paying.{destroy_more, destroyed_more, lock_more}
use Rattle.vm_legal.specs.Destroyed.{HasDestroyed, HostObject, destroy_taken}
use Rattle.vm_legal.specs.Licences.{lock_taken}
use Rattle.vm_legal.specs.Outside.{is_wild}
use Rattle.vm_legal.specs.Steps.{drops_page, ends_control}
use Rattle.vm_legal.specs.Walks.{page_on}
use Rattle.vm_maps.specs.Judge.{place_at}
use Rattle.vm_maps.specs.Maps.{Mapped}
use Rattle.vm_maps.specs.declared.place.Place.{Place}
use Rattle.vm_model.specs.Controls.{live_control}
use Rattle.vm_model.specs.Waiting.{Target, copy_target}
use Rattle.vm_model.specs.declared.event.Event.TheVariants as event
use Rattle.vm_model.specs.declared.message.Message.TheVariants as message
use Rattle.vm_resident.specs.Resident.{ResidentTable}
use Rattle.vm_shadow.specs.Chains.{ChainTable}
use Rattle.vm_state.proofs.Filling.{copies_next}
use Rattle.vm_state.specs.Filling.{FitsCopy}
use Rattle.vm_state.specs.References.{is_live_in}
use Rattle.vm_supply.specs.declared.woken.Woken.TheVariants as woken
use Rattle.vm_waits.proofs.Entries.{entry_task}
use Rattle.vm_waits.specs.Waits.{count_copies, is_again, one, with_on}
use Rattle.vm_waits.specs.Wants.{IsSizedWant, is_copying}
use Rattle.vm_waits.specs.declared.waiting.Destination.{Destination}
use Rattle.vm_waits.specs.declared.waiting.On.TheVariants as on
use Rattle.vm_waits.specs.declared.waiting.Want.TheVariants as want

-- it was for another control
dead_heeds : (header : Header) (h : ℕ) (outside : Outside) (doing : Command) (k : Parts) (ids : Ids) (past : List Event) (object : ObjectId)
    (control reason : ℕ) → Rests header h k ids past → is_control control (live_in (object_at k.memory.objects object.0)) ≡ false
    → Heeds header h outside doing k k ids (hears h object control (message.Destroy reason) ∷ past) []
    × (destroy_taken (hears h object control (message.Destroy reason) ∷ past) ≡ None)
dead_heeds header h outside doing k ids past object control reason rests dead =
    let m = message.Destroy reason in
    let now = hears h object control m ∷ past in
    let dead_now : is_control control (live_control h object.0 past) ≡ false = ap (is_control control) (rests.matches.core.controls.live object.0) ∙ dead in
    let none : destroy_taken now ≡ None = ap (λ (b : Bool). if b then Some (record { host = h; object = object.0 }) else None) dead_now in
    let taken : lock_taken now ≡ None = refl in (
      record {
        works =
            works_flagged
            (works_of header h k ids woken.Nobody k.memory past now rests (stays_heard header h k ids past object control m rests (taken, none))
            rests.matches.core.fits.parts
            refl (changed_none header h k ids past object control m rests (nothing_dead header h object control m past dead_now))) (λ o less. refl);
        fails = refl;
        goes = goes_none header h outside doing now [];
        early = unrun [] tt;
        zeroed = no_absence header now refl;
        locked = λ request is. no_request request now taken is;
        plays = Still;
      },
      none,
    )

none_paid : (header : Header) (past : List Event) → destroy_taken past ≡ None → IsDestroyPaid header past
none_paid header past none = λ host object wild is.
    absurd (let bad : None ≡ Some (record { host = host; object = object }) = sym none ∙ is in cc)

-- nothing is done then
pub record Unmoved (header : Header) (h : ℕ) (outside : Outside) (doing : Command) (k : Parts) (ids : Ids) (past after : List Event) : Type 0 where
  pub heeds : Heeds header h outside doing k k ids past after
  pub paid : IsDestroyPaid header (after ++ past)

pub unmoved : (header : Header) (h : ℕ) (outside : Outside) (doing : Command) (k : Parts) (ids : Ids) (past front after : List Event) (object : ObjectId)
    (control reason : ℕ) → Rests header h k ids past → front ≡ hears h object control (message.Destroy reason) ∷ [] → after ≡ []
    → is_control control (live_in (object_at k.memory.objects object.0)) ≡ false → Unmoved header h outside doing k ids (front ++ past) after
unmoved header h outside doing k ids past front after object control reason rests told nothing dead =
    let done = dead_heeds header h outside doing k ids past object control reason rests dead in
    subst (λ (z : List Event). Unmoved header h outside doing k ids (front ++ past) z) (sym nothing)
    (subst (λ (z : List Event). Unmoved header h outside doing k ids (z ++ past) []) (sym told)
    (record { heeds = done.0; paid = none_paid header (hears h object control (message.Destroy reason) ∷ past) done.1 }))

-- or it was taken
module _ (h : ℕ) (past front : List Event) (object : ObjectId) (control reason : ℕ)
    (told : front ≡ hears h object control (message.Destroy reason) ∷ []) where
  pub takes_now : {header : Header} {k : Parts} {ids : Ids} → Rests header h k ids past
      → is_control control (live_in (object_at k.memory.objects object.0)) ≡ true
      → destroy_taken (front ++ past) ≡ Some (record { host = h; object = object.0 })
  takes_now {k = k} rests lives =
      let live_now : is_control control (live_control h object.0 past) ≡ true = ap (is_control control) (rests.matches.core.controls.live object.0) ∙ lives in
      ap (λ (z : List Event). destroy_taken (z ++ past)) told ∙ ap (λ (b : Bool). if b then Some (record { host = h; object = object.0 }) else None) live_now

  pub locks_none : lock_taken (front ++ past) ≡ None
  locks_none = ap (λ (z : List Event). lock_taken (z ++ past)) told

  pub stood_before : before_step (front ++ past) ≡ past
  stood_before = ap (λ (z : List Event). before_step (z ++ past)) told

-- whoever waited on the object has a row
pub record WaitedHere (k : Parts) (task object : ℕ) : Type 0 where
  pub row : Waiting
  pub is : entry k.waits.rows task ≡ Some row
  pub over : is_on k.maps object row ≡ true

place_over : (maps : Mapped) (object address : ℕ) (rows : List Entry) (e : Entry) → entry_at address rows ≡ Some e → e.region.0 ≡ object
    → is_place_on object (option_map (place_at maps.size address) (entry_at address rows)) ≡ true
place_over maps object address rows e found region =
    ap (λ (z : Option Entry). is_place_on object (option_map (place_at maps.size address) z)) found
    ∙ (ap (λ (n : ℕ). n == object) region ∙ itself object)

-- a slow copy isn't on a wild object
leads_over : (header : Header) (maps : Mapped) (chains : ChainTable) (resident : ResidentTable) (destination : Option Destination) (next : ℕ)
    (target : Option Target) (task object : ℕ) (e : Entry) (what : Want) → FitsCopy header maps chains resident task what destination next target
    → IsSizedWant maps.size what → entry_at (address_in maps.size what) (rows_in task maps) ≡ Some e → e.region.0 ≡ object → is_wild header object ≡ true
    → is_place_on object (place_led maps task what) ≡ true
leads_over header maps chains resident destination next target task object e (want.Load address bytes) fits sized found region wild =
    place_over maps object address (rows_in task maps) e found region
leads_over header maps chains resident destination next target task object e (want.Store address bytes value) fits sized found region wild =
    place_over maps object address (rows_in task maps) e found region
leads_over header maps chains resident destination next target task object e (want.CopyTo address pages into first) fits sized found region wild =
    let same : fits.range.entry ≡ e = some_is fits.range.entry e (sym (fits.range.whole first sized.1) ∙ found) in
    absurd (let bad : false ≡ true = sym fits.range.supplied
    ∙ (ap (λ (z : Entry). is_wild header z.region.0) same ∙ (ap (is_wild header) region ∙ wild)) in cc)

pub waited_here : (header : Header) (h : ℕ) (k : Parts) (ids : Ids) (past : List Event) (object task : ℕ) (access : Access)
    → Matches header h k ids [] past → HasWaits header h k woken.Nobody past → HasSlow header k past → is_wild header object ≡ true
    → (waits : Waits header task access past) → waits.at.host ≡ h → waits.at.entry.region.0 ≡ object → WaitedHere k task object
waited_here header h k ids past object task access m has copies wild waits home region =
    let here = at_home header h k ids past task access m waits home in
    let row = has_row header h k past task access has here waits.waits in
    let w = row.row in
    let over : (z : Waits header task (access_in k.maps.size (copies_to w.destination) w.want) past) → z.at.entry.region.0 ≡ object
    → is_on k.maps object w ≡ true = λ z its.
    let found : entry_at (address_in k.maps.size w.want) (rows_in task k.maps) ≡ Some z.at.entry =
    ap (entry_at (address_in k.maps.size w.want)) (sym (m.core.spaces.tasks.rows task here))
    ∙ (ap (λ (n : ℕ). entry_at n (entries_of header.size task past)) (sym (want_address k.maps.size header.size (next_page task past) (copies_to w.destination)
    w.want m.core.spaces.tasks.sized (copies_next copies task w row.found)))
    ∙ z.at.found) in
    ap (λ (t : ℕ). is_place_on object (place_led k.maps t w.want)) (entry_task k.waits.rows task w row.found)
    ∙ leads_over header k.maps k.chains k.memory.resident w.destination (next_page task past) (copy_target task past) task object z.at.entry w.want
    (copies.each task w row.found) (has.sized task w row.found) found its wild in
    record {
      row = w;
      is = row.found;
      over =
          subst (λ (z : Access). (it : Waits header task z past) → it.at.entry.region.0 ≡ object → is_on k.maps object w ≡ true) (sym row.is) over waits region;
    }

-- what the step took, still behind its first events
pub record TookIt (header : Header) (h object : ℕ) (past now : List Event) : Type 0 where
  pub before : before_step now ≡ past
  pub taken : destroy_taken now ≡ Some (record { host = h; object = object })
  pub locks : lock_taken now ≡ None

pub took_it : (header : Header) (h : ℕ) (outside : Outside) (doing : Command) (past front after : List Event) (object : ObjectId)
    (control reason : ℕ) (k : Parts) (ids : Ids) → Rests header h k ids past → front ≡ hears h object control (message.Destroy reason) ∷ []
    → is_control control (live_in (object_at k.memory.objects object.0)) ≡ true → LegalEvents header h outside doing (front ++ past) [] after
    → TookIt header h object.0 past (after ++ (front ++ past))
took_it header h outside doing past front after object control reason k ids rests told lives goes =
    let inner : AllInner after = subst AllInner (sym (goes.is ∙ append-nil goes.more)) goes.inner in
    record {
      before = before_more after (front ++ past) inner ∙ stood_before h past front object control reason told;
      taken = destroy_more after (front ++ past) inner ∙ takes_now h past front object control reason told rests lives;
      locks = lock_more after (front ++ past) inner ∙ locks_none h past front object control reason told;
    }

-- behind the end those are to be run again who are on the object
pub record WokenOn (k : Parts) (object : ℕ) (new : Parts) : Type 0 where
  pub maps : new.maps ≡ k.maps
  pub declared : new.declared ≡ k.declared
  pub rows : new.waits.rows ≡ map (woken_on k.maps object) k.waits.rows

pub woken_on_it : (k mid new : Parts) (object : ℕ) → mid ≡ record k { memory = mid.memory } → new ≡ record mid { waits = new.waits }
    → WakesOn mid.maps object mid.waits new.waits → WokenOn k object new
woken_on_it k mid new object one two wakes =
    let same : new ≡ record k { memory = mid.memory; waits = new.waits } = two ∙ ap (λ (z : Parts). record z { waits = new.waits }) one in
    record {
      maps = ap (λ (z : Parts). z.maps) same;
      declared = ap (λ (z : Parts). z.declared) same;
      rows = wakes.rows ∙ ap (λ (z : Parts). map (woken_on z.maps object) z.waits.rows) one;
    }

woken_row : (maps : Mapped) (object task : ℕ) (old new : List Waiting) → new ≡ map (woken_on maps object) old
    → entry new task ≡ option_map (woken_on maps object) (entry old task)
woken_row maps object task old new is = ap (λ (z : List Waiting). entry z task) is ∙ entry_woken maps object old task

pub standing_woken : (header : Header) (h : ℕ) (k new : Parts) (ids : Ids) (past now : List Event) (object : ℕ) → Rests header h k ids past
    → is_wild header object ≡ true → TookIt header h object past now → WokenOn k object new → StandOrFell header new now
standing_woken header h k new ids past now object rests wild took woke = λ host o task access waits is home region.
    let same : record { host = h; object = object } ≡ record { host = host; object = o } = host_is (record { host = h; object = object })
    (record { host = host; object = o }) (sym took.taken ∙ is) in
    let its : object ≡ o = ap (λ (z : HostObject). z.object) same in
    let was = subst (λ (z : List Event). (it : Waits header task access z) × ((it.at.host ≡ host) × (it.at.entry.region.0 ≡ o))) took.before
    (waits, (home, region)) in
    let row = waited_here header h k ids past object task access rests.matches rests.waits rests.used.copies wild was.0
    (was.1.0 ∙ ap (λ (z : HostObject). z.host) (sym same)) (was.1.1 ∙ sym its) in
    inl (record {
      row = with_on row.row on.Again;
      is =
          woken_row k.maps object task k.waits.rows new.waits.rows woke.rows
          ∙ (ap (option_map (woken_on k.maps object)) row.is ∙ ap (λ (b : Bool). Some (if b then with_on row.row on.Again else row.row)) row.over);
      over = ap (λ (z : Mapped). is_on z o row.row) woke.maps ∙ (ap (λ (n : ℕ). is_on k.maps n row.row) (sym its) ∙ row.over);
      again = refl;
    })
  where
    host_is : (x y : HostObject) → Some x ≡ Some y → x ≡ y
    host_is x y is = some_is x y is

pub unserved_over : (k : Parts) (object : ℕ) (x : Option Place) → is_place_on object x ≡ true → nat_lt object (length k.declared.items) ≡ true
    → is_live_in (object_at k.memory.objects object) ≡ false → (key : PageKey) × (unserved_at k x ≡ Some key)
unserved_over k object None over less ended = absurd (let bad : false ≡ true = over in cc)
unserved_over k object (Some place) over less ended = elim (eqb_tells place.region.0 object) [
  | inl same ↦
      let key : PageKey = record { object = record { 0 = place.region.0 }; page = place.page } in
      let test : (nat_lt object (length k.declared.items) && not (is_live_in (object_at k.memory.objects object))) ≡ true =
      ap (λ (b : Bool). b && not (is_live_in (object_at k.memory.objects object))) less ∙ ap not ended in
      let now = subst (λ (n : ℕ). (nat_lt n (length k.declared.items) && not (is_live_in (object_at k.memory.objects n))) ≡ true) (sym same.1) test in
      (key, ap (λ (b : Bool). if b then Some key else None) now)
  | inr apart ↦ absurd (let bad : false ≡ true = sym apart.0 ∙ over in cc)
]

pub unserved_woken : (header : Header) (h : ℕ) (k new : Parts) (ids : Ids) (past : List Event) (object : ℕ) → Rests header h k ids past
    → is_wild header object ≡ true → WokenOn k object new → is_live_in (object_at new.memory.objects object) ≡ false → AllUnserved new
unserved_woken header h k new ids past object rests wild woke ended = λ t w is again.
    by (entry k.waits.rows t) t w refl (sym (woken_row k.maps object t k.waits.rows new.waits.rows woke.rows) ∙ is) again
  where
    below : nat_lt object (named header) ≡ true
    below = let low = wild_named header object wild in grind (arith, nat_tests)

    less : nat_lt object (length new.declared.items) ≡ true
    less = ap (λ z. nat_lt object (length z.items)) woke.declared
        ∙ (ap (λ z. nat_lt object (length z)) rests.matches.core.setting.objects ∙ below)

    over : (w : Waiting) → is_on k.maps object w ≡ true → (key : PageKey) × (unserved new w ≡ Some key)
    over w is = unserved_over new object (place_led new.maps w.task.0 w.want) (ap (λ (z : Mapped). is_on z object w) woke.maps ∙ is) less ended

    row : (v w : Waiting) (t : ℕ) (b : Bool) → is_on k.maps object v ≡ b → entry k.waits.rows t ≡ Some v → Some (if b then with_on v on.Again else v) ≡ Some w
        → is_again w.on ≡ true → (key : PageKey) × (unserved new w ≡ Some key)
    row v w t true on_it found is again =
        subst (λ (z : Waiting). (key : PageKey) × (unserved new z ≡ Some key)) (some_is (with_on v on.Again) w is) (over (with_on v on.Again) on_it)
    row v w t false off found is again =
        absurd (let bad : false ≡ true = sym (none_again k.waits.rows t v rests.idle found)
        ∙ (ap (λ (z : Waiting). is_again z.on) (some_is v w is) ∙ again) in cc)

    by : (x : Option Waiting) (t : ℕ) (w : Waiting) → entry k.waits.rows t ≡ x → option_map (woken_on k.maps object) x ≡ Some w → is_again w.on ≡ true
        → (key : PageKey) × (unserved new w ≡ Some key)
    by None t w found is again = absurd (none-some w is)
    by (Some v) t w found is again = row v w t (is_on k.maps object v) refl found is again

-- when all have failed the end is done
pub works_done : {header : Header} {h : ℕ} {k : Parts} {ids : Ids} {now : List Event} → Undone header h k ids now → HaveFallen header now
    → lock_taken now ≡ None → Works header h k ids woken.Nobody now
works_done undone fallen none = record {
  matches = record {
    core = undone.core;
    settled = undone.settled;
    replied = record { at = λ request is wants. absurd (let bad : None ≡ Some request = sym none ∙ is in cc); fallen = fallen };
  };
  used = undone.used;
  referred = undone.referred;
  thin = undone.thin;
  waits = undone.waits;
  order = undone.order;
}

pub paid_done : (header : Header) (h : ℕ) (outside : Outside) (doing : Command) (object : ℕ) (past start mid after : List Event)
    → TookIt header h object past (after ++ start) → HasEmptied header h object past (mid ++ start) → LegalEvents header h outside doing start mid after
    → HaveFallen header (after ++ start) → IsDestroyPaid header (after ++ start)
paid_done header h outside doing object past start mid after took emptied goes fallen = λ host o wild is.
    subst (λ (z : HostObject). HasDestroyed header z.host z.object (after ++ start))
    (host_is (record { host = h; object = object }) (record { host = host; object = o }) (sym took.taken ∙ is))
    (record {
      pages = λ page here.
          since_goes (drops_page h object page) header h outside doing start mid after goes
          (emptied.pages page (subst (λ (z : List Event). (page_on header h object page z).here ≡ true) took.before here));
      ended = since_goes (ends_control h object) header h outside doing start mid after goes emptied.ended;
      failed = λ task access waits home region. fallen h object task access waits took.taken home region;
    })
  where
    host_is : (x y : HostObject) → Some x ≡ Some y → x ≡ y
    host_is x y is = some_is x y is

-- no access is run by it
failures_quiet : (events : List Event) → EachOf IsFailure events → EachOf RunsNone events
failures_quiet [] all = tt
failures_quiet (event.Failed task object page ∷ events) all = (tt, failures_quiet events all.1)
failures_quiet (other ∷ events) all = absurd all.0

pub quiet_end : (k : Parts) (mid after : List Event) → EndsOnly [] mid → FailsOnly mid after → RunsNoneYet after
quiet_end k mid after ends fails =
    let still = (ends_still k.waits k.waits [] mid refl ends).none tt in
    unrun after (subst (EachOf RunsNone) (sym fails.is) (of_both RunsNone fails.more mid (failures_quiet fails.more fails.each) still))

-- those that are woken wait in as many rows
woken_copies : (maps : Mapped) (object : ℕ) (rows : List Waiting) → count_copies (map (woken_on maps object) rows) ≡ count_copies rows
woken_copies maps object [] = refl
woken_copies maps object (w ∷ ws) = omega (arith, same (is_on maps object w), woken_copies maps object ws)
  where
    same : (b : Bool) → one (is_copying (if b then with_on w on.Again else w).want) ≡ one (is_copying w.want)
    same true = refl
    same false = refl

pub woken_on_spends : (k new : Parts) (object : ℕ) (log : Listed Event) → new ≡ record k { waits = new.waits }
    → new.waits.rows ≡ map (woken_on k.maps object) k.waits.rows → Spends 0 0 0 k log new log
woken_on_spends k new object log same rows =
    let one = ap length rows ∙ length-map k.waits.rows (woken_on k.maps object) in
    let two = ap (λ c. if_copies c (frame_count k.memory.frames)) (ap count_copies rows ∙ woken_copies k.maps object k.waits.rows) in
    subst (λ (z : Parts). Spends 0 0 0 k log z log) (sym same)
    (record {
      told = omega (arith, one, two);
      room = omega (arith, one, two);
      rows = omega (arith, one, two);
      shadows = omega arith;
      objects = omega arith;
      copies = omega arith;
    })

-- what was paid stays paid
pub destroyed_goes : (header : Header) (h : ℕ) (outside : Outside) (doing : Command) (past old new : List Event)
    → LegalEvents header h outside doing past old new → IsDestroyPaid header (old ++ past) → IsDestroyPaid header (new ++ past)
destroyed_goes header h outside doing past old new goes paid = λ host object wild is.
    subst (λ (z : List Event). HasDestroyed header host object z) (sym told) (destroyed_more header host object goes.more (old ++ past) goes.inner
    (paid host object wild (sym (destroy_more goes.more (old ++ past) goes.inner) ∙ (sym (ap destroy_taken told) ∙ is))))
  where
    told : new ++ past ≡ goes.more ++ (old ++ past)
    told = ap (λ (z : List Event). z ++ past) goes.is ∙ append_assoc goes.more old past

-- another word ends no object
pub other_end : (m : Message) → ((reason : ℕ) → m ≡ message.Destroy reason → ⊥) → is_destroy m ≡ false
other_end (message.Destroy reason) other = absurd (other reason refl)
other_end said other = refl

pub none_ended : (header : Header) (h : ℕ) (outside : Outside) (doing : Command) (past front after : List Event) (object : ObjectId) (control : ℕ)
    (m : Message) → front ≡ hears h object control m ∷ [] → is_destroy m ≡ false → LegalEvents header h outside doing (front ++ past) [] after
    → IsDestroyPaid header (after ++ (front ++ past))
none_ended header h outside doing past front after object control m told other goes =
    destroyed_goes header h outside doing (front ++ past) [] after goes
    (none_paid header (front ++ past) (ap (λ (z : List Event). destroy_taken (z ++ past)) told ∙ by m other))
  where
    by : (x : Message) → is_destroy x ≡ false → destroy_taken (hears h object control x ∷ past) ≡ None
    by (message.Destroy reason) none = absurd (let bad : true ≡ false = none in cc)
    by said none = refl

-- and leaves the queue
pub queue_other : (object control : ℕ) (m : Message) (k : Parts) → is_destroy m ≡ false → queue_behind object control m k ≡ k.waits.queue
queue_other object control m k other =
    ap (λ (b : Bool). if b && is_control control (live_in (object_at k.memory.objects object)) then queue_but_on k.maps object k.waits.rows k.waits.queue
    else k.waits.queue) other

-- an end is no error and no absence
pub end_unfailed : (header : Header) (h : ℕ) (outside : Outside) (doing : Command) (past front after : List Event) (object : ObjectId) (control reason : ℕ)
    (m : Message) → front ≡ hears h object control m ∷ [] → m ≡ message.Destroy reason → LegalEvents header h outside doing (front ++ past) [] after
    → (error_taken header (after ++ (front ++ past)) ≡ None) × IsAbsencePaid header (after ++ (front ++ past))
end_unfailed header h outside doing past front after object control reason m told is goes =
    let inner : AllInner after = subst AllInner (sym (goes.is ∙ append-nil goes.more)) goes.inner in
    let first = told ∙ ap (λ (z : Message). hears h object control z ∷ []) is in (
      error_more header after (front ++ past) inner ∙ ap (λ (z : List Event). error_taken header (z ++ past)) first,
      no_absence header (after ++ (front ++ past))
          (absence_more header after (front ++ past) inner ∙ ap (λ (z : List Event). absence_taken header (z ++ past)) first),
    )
