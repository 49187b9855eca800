-- An object to which nothing refers can end, and what its end leaves: its pages, its control and what stood under it are gone, and so on down.
use Rattle.vm_kernel.proofs.Common.{Bool, ChainTable, Changes, Command, EndsObject, EndsOnly, Entry, Event, Fit, FrameNo, HasRegions, Header, HostId, HostParts}
use Rattle.vm_kernel.proofs.Common.{Ids, IsEnding, IsPlaceOf, IsUnder, IsWhole, LaundryList, LeadsTo, LegalEvents, List, Mapped, Matches, None, ObjectId}
use Rattle.vm_kernel.proofs.Common.{ObjectRow, ObjectTable, OnlyLoses, Option, Outside, PageKey, PageNo, PageRow, Parts, Plays, PutsRow, Queues, ResidentTable}
use Rattle.vm_kernel.proofs.Common.{ShadowRow, Some, Still, Want, Woken, [], ap, append_assoc, arith, eqb_tells, false, host_id, inl, inr, named, nat_lt}
use Rattle.vm_kernel.proofs.Common.{nat_tests, object_at, of_both, page_in, page_key, paging, refl, returns_out, row_at, row_cases, row_put, some_is, subst}
use Rattle.vm_kernel.proofs.Common.{suc, sym, true, zero, ℕ, ◌++◌, ◌<◌, ◌||◌, ◌∙◌, ◌∷◌, ◌≡◌}
use Rattle.vm_kernel.proofs.steps.EventsGrow.{goes_both, goes_none}
use Rattle.vm_kernel.proofs.abroad.OwnHost.{named_host}
use Rattle.vm_kernel.proofs.lists.ListsAsTold.{plays_both, plays_told}
use Rattle.vm_kernel.proofs.memory.FramesHeld.{room_once}
use Rattle.vm_queues.specs.Queues.{EachOnce}
use Rattle.vm_copies.specs.Copies.{CopyTable, LeavesCopies}
use Rattle.vm_kernel.proofs.space.CopiesEnd.{ended_no_newest}
use Rattle.vm_state.proofs.CopyFits.{IsNoNewest}
use Rattle.vm_kernel.proofs.space.ObjectEnds.{GoesToPager, LeavesOne, departs_unheld, ends_copy, ends_dropped, ends_lost, ends_returned, ends_told, going_back}
use Rattle.vm_kernel.proofs.space.ObjectEnds.{lost_plays}
use Rattle.vm_kernel.proofs.space.ObjectEnds.{quiet_row, whole_dropped}
use Rattle.vm_abroad.proofs.Regions.{kind_cases}
use Rattle.vm_state.proofs.Knowing.{known_put}
use Rattle.vm_model.specs.Regions.{Backing, Region}
use Rattle.vm_model.specs.declared.event.Event.TheVariants as event
use Rattle.vm_model.specs.declared.message.Channel.TheVariants.{Up}
use Rattle.vm_model.specs.declared.message.Message.TheVariants as message
use Rattle.vm_parts.specs.Changes.{Discards}
use Rattle.vm_state.proofs.Places.{place_apart}
use Rattle.vm_state.proofs.Referred.{all_ended}
use Rattle.vm_state.proofs.Referring.{refers_shadow, sole_region, sole_shadow, unreferred_region, unreferred_shadow}
use Rattle.vm_state.specs.Waiters.{Asker}
use Rattle.vm_terminate.specs.Finishes.{Alone, CanFinish, ControlEnds, Downward, EndsWith, FinishState, Finishes, Further, GoesBack, IsDropped, IsTold, Itself}
use Rattle.vm_terminate.specs.Finishes.{LosesUnder, Next, NoControl, NoMore, OverOne, PageLeaves, PagesLeave}
use Rattle.vm_kernel.proofs.abroad.OtherLists.{matches_with}
use Rattle.vm_state.proofs.Waiting.{away_awaited}
use Rattle.vm_kernel.proofs.controls.DeclaredKinds.{declared_kind, declared_serves}
use Rattle.vm_kernel.proofs.memory.PageChanges.{changes_among}

-- no place of an access is in an object that ends with one to which nothing refers

-- the place in front of the last one down a chain
pub last_step : (cs : ChainTable) (n : ℕ) (from to : PageKey) → LeadsTo cs (suc n) from to → (mid : PageKey) × LeadsTo cs n from mid × IsUnder cs mid to
last_step cs zero from to leads = (from, refl, subst (λ (z : PageKey). IsUnder cs from z) leads.2 leads.1)
last_step cs (suc n) from to leads = let last = last_step cs n leads.0 to leads.2 in (last.0, (leads.0, leads.1, last.1), last.2)

place_ends : (maps : Mapped) (cs : ChainTable) (os : ObjectTable) (ids : Ids) (region_from : ℕ → Region) (backing_from : ℕ → Backing) (rm om marked : ℕ)
    (object : ℕ) (first : ObjectRow) → HasRegions cs os ids region_from backing_from rm om marked
    → object_at os object ≡ Some first → first.references ≡ 0 → (o : ℕ) → EndsWith cs os object o → (task : ℕ) (what : Want) (key : PageKey)
    → IsPlaceOf maps cs task what key → key.object.0 ≡ o → ⊥
place_ends maps cs os ids region_from backing_from rm om marked object first has known none _ Itself task what key place same =
    place_apart maps cs task what key object (unreferred_region has object first known none) (unreferred_shadow has object first known none) place same
place_ends maps cs os ids region_from backing_from rm om marked object first has known none _ (Further o row under over shadow is one) task what key place
    same =
    by_steps (place_ends maps cs os ids region_from backing_from rm om marked object first has known none o over) place.steps place.leads
  where
    by_steps : ((task : ℕ) (what : Want) (key : PageKey) → IsPlaceOf maps cs task what key → key.object.0 ≡ o → ⊥) → (n : ℕ) → LeadsTo cs n place.top key → ⊥
    by_steps above zero leads =
        let at = place.at in
        sole_region has row.under.0 under is one o row shadow refl at.entry.region.0 at.row at.region
        (sym (ap (λ (z : PageKey). z.object.0) at.is) ∙ (ap (λ (z : PageKey). z.object.0) leads ∙ same))
    by_steps above (suc n) leads =
        let last = last_step cs n place.top key leads in
        let link : IsUnder cs last.0 key = last.2 in
        let its : last.0.object.0 ≡ o = sole_shadow has row.under.0 under is one o row shadow refl last.0.object.0 link.row link.found
        (sym (ap (λ (z : PageKey). z.object.0) link.is) ∙ same) in
        above task what last.0 (record { top = place.top; at = place.at; steps = n; leads = last.1 }) its

-- a kernel's parts as one state
abbrev pub state_of : HostParts → ChainTable → CopyTable → LaundryList → List Event → FinishState
state_of memory chains copies laundry events =
    record { parts = memory; chains = chains; copies = copies; held = laundry.held; room = laundry.room; events = events }

-- an object to which nothing refers can end
pub can_finish : (header : Header) (h : ℕ) (past : List Event) (who : Woken) (k : Parts) (ids : Ids) (rest : List Entry) (object : ℕ) (events : List Event)
    → EndsObject header h who k ids rest object (events ++ past)
    → EachOnce (k.memory.queues.inactive ++ k.memory.queues.active)
    → CanFinish (state_of k.memory k.chains k.copies k.laundry events) object
can_finish header h past who k ids rest object events e once =
    record {
      fit = e.runs.matches.core.fits.parts;
      row = e.row;
      known = e.known;
      none = e.none;
      under = λ o shadow ends found. refers_shadow e.runs.matches.core.objects.regions o shadow found;
      here = λ o p page ends found. by_test o p page ends found page.here refl;
      room =
          room_once k.memory k.laundry (returns_out h (events ++ past)) m.core.fits.parts m.core.pages.washed
          (let fits = m.core.pages.counted.fits in omega (arith, fits)) once;
    }
  where
    m : Matches header h k ids rest (events ++ past)
    m = e.runs.matches

    by_test : (o p : ℕ) (page : PageRow) → EndsWith k.chains k.memory.objects object o → row_at k.memory.resident o p ≡ Some page → (b : Bool) → page.here ≡ b
        → b ≡ true
    by_test o p page ends found true here = refl
    by_test o p page ends found false away =
        let asker : Asker k.waits.rows o p = e.runs.waits.askers o p page found (away_awaited page away) in
        absurd (place_ends k.maps k.chains k.memory.objects ids _ _ _ _ _ object e.row e.runs.matches.core.objects.regions e.known e.none o ends asker.task
        asker.row.want
        (page_key o p) (e.runs.waits.aims asker.task asker.row (page_key o p) asker.is asker.waits) refl)

-- the kernel with this state; what buffers it has stands aside
abbrev pub of_state : Parts → FinishState → Parts
of_state k s =
    record k {
      memory = record s.parts { buffers = k.memory.buffers };
      chains = s.chains;
      copies = s.copies;
      laundry = record { held = s.held; room = s.room };
    }

-- nothing was added
pub only_none : (events : List Event) → EndsOnly events events
only_none events = record { more = []; is = refl; each = tt }

-- one state led to another: events follow that only end, the lists are as they say, and no page has come
pub record Led (header : Header) (h : ℕ) (outside : Outside) (doing : Command) (past : List Event) (k : Parts) (old new : FinishState) : Type 0 where
  pub goes : LegalEvents header h outside doing past old.events new.events
  pub plays : Plays header past old.events (paging (of_state k old)) new.events (paging (of_state k new))
  pub only : EndsOnly old.events new.events
  pub pages : OnlyLoses old.parts.resident new.parts.resident

pub led_none : (header : Header) (h : ℕ) (outside : Outside) (doing : Command) (past : List Event) (k : Parts) (s : FinishState)
    → Led header h outside doing past k s s
led_none header h outside doing past k s =
    record { goes = goes_none header h outside doing past s.events; plays = Still; only = only_none s.events; pages = λ o p row found. found }

pub led_both : (header : Header) (h : ℕ) (outside : Outside) (doing : Command) (past : List Event) (k : Parts) (old mid new : FinishState)
    → Led header h outside doing past k old mid → Led header h outside doing past k mid new → Led header h outside doing past k old new
led_both header h outside doing past k old mid new one two =
    record {
      goes = goes_both header h outside doing past old.events mid.events new.events one.goes two.goes;
      plays = plays_both one.plays two.plays;
      only = record {
        more = two.only.more ++ one.only.more;
        is = two.only.is ∙ (ap (λ z. two.only.more ++ z) one.only.is ∙ sym (append_assoc two.only.more one.only.more old.events));
        each = of_both IsEnding two.only.more one.only.more two.only.each one.only.each;
      };
      pages = λ o p row found. one.pages o p row (two.pages o p row found);
    }

-- one event ends something
pub only_one : (e : Event) (before after : List Event) → after ≡ e ∷ before → IsEnding e → EndsOnly before after
only_one e before after told ends = record { more = e ∷ []; is = told; each = (ends, tt) }

-- a page has gone, and each other is where it was
pub lost_one : (o p : ℕ) (old new : ResidentTable) → PutsRow o p None old new → OnlyLoses old new
lost_one o p old new put o2 p2 row found = elim (row_cases o p None old new put o2 p2) [
  | inl this ↦ absurd (let bad : None ≡ Some row = sym this.is ∙ found in cc)
  | inr other ↦ sym other.is ∙ found
]

-- the change of a page, whatever the buffers are
pub changes_beside : {key : PageKey} {frame : FrameNo} {was now : Option PageRow} {held : Bool} {bytes : List ℕ} {lists : Queues} (old new : HostParts)
    (k : Parts) → Changes key frame was now held bytes lists old new
    → Changes key frame was now held bytes lists (record old { buffers = k.memory.buffers }) (record new { buffers = k.memory.buffers })
changes_beside old new k c = changes_among (record old { buffers = k.memory.buffers }) (record new { buffers = k.memory.buffers }) c

-- a page of the object has gone
record IsLess (header : Header) (h : ℕ) (outside : Outside) (doing : Command) (past : List Event) (who : Woken) (k : Parts) (ids : Ids) (rest : List Entry)
    (object : ObjectId) (page : ℕ) (old new : FinishState) : Type 0 where
  ends : EndsObject header h who (of_state k new) ids rest object.0 (new.events ++ past)
  led : Led header h outside doing past k old new
  found : object_at new.parts.objects object.0 ≡ object_at old.parts.objects object.0
  gone : row_at new.parts.resident object.0 page ≡ None
  before : (q : ℕ) → row_at old.parts.resident object.0 q ≡ None → row_at new.parts.resident object.0 q ≡ None

page_leaves : (header : Header) (h : ℕ) (outside : Outside) (doing : Command) (past : List Event) (who : Woken) (k : Parts) (ids : Ids) (rest : List Entry)
    (object : ObjectId) (known : ObjectRow) (page : PageNo) (row : PageRow) (old new : FinishState)
    → EndsObject header h who (of_state k old) ids rest object.0 (old.events ++ past) → object_at old.parts.objects object.0 ≡ Some known
    → ((q : ℕ) → q < page.0 → row_at old.parts.resident object.0 q ≡ None) → row.here ≡ true → new.chains ≡ old.chains → new.copies ≡ old.copies
    → PageLeaves (host_id h) (record { object = object; page = page }) known row old new
    → IsLess header h outside doing past who k ids rest object page.0 old new
page_leaves header h outside doing past who k ids rest object known page row old new e found first here chains copies
    (GoesBack other wanted c objects absent held room events) =
    record {
      ends = subst (λ (z : List Event). EndsObject header h who (of_state k new) ids rest object.0 (z ++ past)) (sym events)
          (subst (λ (z : Parts). EndsObject header h who z ids rest object.0 ((going_back h key known row (page_in old.parts.frames row.frame.0) ∷ old.events)
          ++ past)) (sym same)
          returned.0);
      led = record {
        goes = subst (λ (z : List Event). LegalEvents header h outside doing past old.events z) (sym events) returned.1;
        plays =
            plays_told events (inr (inl (departs_unheld header h past who base ids rest key row _ _ memory old.events e declared here
            (changes_beside old.parts new.parts k c))));
        only = only_one _ old.events new.events events tt;
        pages = lost_one object.0 page.0 old.parts.resident new.parts.resident c.row;
      };
      found = objects.at object.0;
      gone = row_put old.parts.resident new.parts.resident object.0 page.0 None c.row;
      before =
          λ q none. elim (row_cases object.0 page.0 None old.parts.resident new.parts.resident c.row object.0 q)
          [ inl put ↦ put.is | inr apart ↦ apart.is ∙ none ];
    }
  where
    key : PageKey
    key = record { object = object; page = page }

    base : Parts
    base = of_state k old

    memory : HostParts
    memory = record (new.parts) { buffers = k.memory.buffers }

    laundry : LaundryList
    laundry = record { held = new.held; room = new.room }

    declared : object.0 < named header
    declared = elim (kind_cases header object.0) [
      | inl less ↦ less
      | inr temporary ↦ absurd (other ((e.runs.matches.core.objects.kinds.kinds object.0 known found).temporary temporary).kind)
    ]

    m : Matches header h base ids rest (old.events ++ past)
    m = e.runs.matches

    goes : GoesToPager header base key known row memory laundry
    goes = record {
      declared = declared;
      first = first;
      found = found;
      live = declared_serves header old.parts.objects object.0 known row m.core.setting.ranged found (m.core.objects.kinds.kinds object.0 known found) declared
          (e.referred.locks object.0 page.0 row c.found);
      here = here;
      wanted = wanted;
      removes = changes_beside old.parts new.parts k c;
      objects = objects;
      absent = absent;
      buffers = refl;
      held = held;
      room = room;
    }

    returned : EndsObject header h who (record base { memory = memory; laundry = laundry }) ids rest object.0
        ((going_back h key known row (page_in old.parts.frames row.frame.0) ∷ old.events) ++ past)
        × LegalEvents header h outside doing past old.events (going_back h key known row (page_in old.parts.frames row.frame.0) ∷ old.events)
    returned = ends_returned header h outside doing past who base ids rest key known row memory laundry old.events e goes

    same : of_state k new ≡ record base { memory = memory; laundry = laundry }
    same = λ i. record k { memory = memory; chains = chains i; copies = copies i; laundry = laundry }
page_leaves header h outside doing past who k ids rest object known page row old new e found first here chains copies
    (IsDropped why c objects held room events) =
    record {
      ends = subst (λ (z : List Event). EndsObject header h who (of_state k new) ids rest object.0 (z ++ past)) (sym events)
          (subst (λ (z : Parts). EndsObject header h who z ids rest object.0 ((event.Dropped (host_id h) object page ∷ old.events) ++ past)) (sym same)
          dropped.0);
      led = record {
        goes = subst (λ (z : List Event). LegalEvents header h outside doing past old.events z) (sym events) dropped.1;
        plays = plays_told events (lost_plays header h past who base ids rest key row memory old.events e here beside);
        only = only_one _ old.events new.events events tt;
        pages = lost_one object.0 page.0 old.parts.resident new.parts.resident c.row;
      };
      found = ap (λ z. object_at z object.0) objects;
      gone = row_put old.parts.resident new.parts.resident object.0 page.0 None c.row;
      before =
          λ q none. elim (row_cases object.0 page.0 None old.parts.resident new.parts.resident c.row object.0 q)
          [ inl put ↦ put.is | inr apart ↦ apart.is ∙ none ];
    }
  where
    key : PageKey
    key = record { object = object; page = page }

    base : Parts
    base = of_state k old

    memory : HostParts
    memory = record (new.parts) { buffers = k.memory.buffers }

    beside : Discards key row base.memory memory
    beside = changes_beside old.parts new.parts k c

    same : of_state k new ≡ record base { memory = memory }
    same = λ i. record k { memory = memory; chains = chains i; copies = copies i; laundry = record { held = held i; room = room i } }

    m : Matches header h base ids rest (old.events ++ past)
    m = e.runs.matches

    clean : object.0 < named header → (row.dirty || row.precious) ≡ false
    clean less = elim why [
      | inl temporary ↦ absurd (declared_kind header object.0 m.core.setting.ranged less
          (sym ((m.core.objects.kinds.kinds object.0 known found).declared less).kind ∙ temporary))
      | inr is ↦ is
    ]

    dropped : EndsObject header h who (record base { memory = memory }) ids rest object.0 ((event.Dropped (host_id h) object page ∷ old.events) ++ past)
        × LegalEvents header h outside doing past old.events (event.Dropped (host_id h) object page ∷ old.events)
    dropped = ends_lost header h outside doing past who base ids rest key row memory old.events e first here clean beside objects refl

-- all its pages have gone
record IsBare (header : Header) (h : ℕ) (outside : Outside) (doing : Command) (past : List Event) (who : Woken) (k : Parts) (ids : Ids) (rest : List Entry)
    (object : ObjectId) (known : ObjectRow) (old new : FinishState) : Type 0 where
  ends : EndsObject header h who (of_state k new) ids rest object.0 (new.events ++ past)
  led : Led header h outside doing past k old new
  found : object_at new.parts.objects object.0 ≡ Some known
  none : (p : ℕ) → row_at new.parts.resident object.0 p ≡ None

pages_leave : (header : Header) (h : ℕ) (outside : Outside) (doing : Command) (past : List Event) (who : Woken) (k : Parts) (ids : Ids) (rest : List Entry)
    (object : ObjectId) (known : ObjectRow) (from : ℕ) (old new : FinishState)
    → EndsObject header h who (of_state k old) ids rest object.0 (old.events ++ past) → object_at old.parts.objects object.0 ≡ Some known
    → ((q : ℕ) → q < from → row_at old.parts.resident object.0 q ≡ None) → PagesLeave (host_id h) object known from old new
    → IsBare header h outside doing past who k ids rest object known old new
pages_leave header h outside doing past who k ids rest object known _ _ _ e found low (NoMore from s none) =
    record { ends = e; led = led_none header h outside doing past k s; found = found; none = λ p. by_test p (nat_lt p from) refl }
  where
    by_test : (p : ℕ) (b : Bool) → nat_lt p from ≡ b → row_at s.parts.resident object.0 p ≡ None
    by_test p true less = low p (grind (arith, nat_tests))
    by_test p false less = none p (grind (arith, nat_tests))
pages_leave header h outside doing past who k ids rest object known _ _ _ e found low
    (Next from page row old mid new le none there here chains copies leaves more) =
    let less = page_leaves header h outside doing past who k ids rest object known page row old mid e found (λ q below. first q below (nat_lt q from) refl)
    here chains copies leaves in
    let all = pages_leave header h outside doing past who k ids rest object known (suc page.0) mid new less.ends (less.found ∙ found)
    (λ q below. next less q below) more in
    record { ends = all.ends; led = led_both header h outside doing past k old mid new less.led all.led; found = all.found; none = all.none }
  where
    first : (q : ℕ) → q < page.0 → (b : Bool) → nat_lt q from ≡ b → row_at old.parts.resident object.0 q ≡ None
    first q below true is = low q (grind (arith, nat_tests))
    first q below false is = none q (grind (arith, nat_tests)) below

    next : IsLess header h outside doing past who k ids rest object page.0 old mid → (q : ℕ) → q < suc page.0 → row_at mid.parts.resident object.0 q ≡ None
    next less q below = elim (eqb_tells q page.0) [
      | inl same ↦ subst (λ (z : ℕ). row_at mid.parts.resident object.0 z ≡ None) (sym same.1) less.gone
      | inr apart ↦ less.before q (first q (let other = apart.1 in grind arith) (nat_lt q from) refl)
    ]

-- its control has ended too
record IsQuiet (header : Header) (h : ℕ) (outside : Outside) (doing : Command) (past : List Event) (who : Woken) (k : Parts) (ids : Ids) (rest : List Entry)
    (object : ObjectId) (old new : FinishState) : Type 0 where
  ends : EndsObject header h who (of_state k new) ids rest object.0 (new.events ++ past)
  led : Led header h outside doing past k old new
  none : (p : ℕ) → row_at new.parts.resident object.0 p ≡ None
  dead : (known : ObjectRow) → object_at new.parts.objects object.0 ≡ Some known → known.live ≡ false

control_ends : (header : Header) (h : ℕ) (outside : Outside) (doing : Command) (past : List Event) (who : Woken) (k : Parts) (ids : Ids) (rest : List Entry)
    (object : ObjectId) (known : ObjectRow) (start old new : FinishState) → IsBare header h outside doing past who k ids rest object known start old
    → ControlEnds (host_id h) object known old new
    → IsQuiet header h outside doing past who k ids rest object start new
control_ends header h outside doing past who k ids rest object known start old new bare (NoControl dead same) =
    subst (λ (z : FinishState). IsQuiet header h outside doing past who k ids rest object start z) (sym same)
    (record { ends = bare.ends; led = bare.led; none = bare.none; dead = λ row found. ap (λ z. z.live) (some_is row known (sym found ∙ bare.found)) ∙ dead })
control_ends header h outside doing past who k ids rest object known start old new bare (IsTold live keeps put events) =
    subst (λ (z : FinishState). IsQuiet header h outside doing past who k ids rest object start z) (sym keeps.is)
    (record {
      ends = subst (λ (z : List Event). EndsObject header h who (of_state k state) ids rest object.0 (z ++ past)) (sym events)
          told.0;
      led = led_both header h outside doing past k start old state bare.led (record {
        goes = subst (λ (z : List Event). LegalEvents header h outside doing past old.events z) (sym events) told.1;
        plays = plays_told events refl;
        only = only_one _ old.events new.events events tt;
        pages = λ o p row found. found;
      });
      none = bare.none;
      dead =
          λ row found. ap (λ z. z.live) (some_is row (quiet_row known) (sym found
          ∙ known_put object.0 (quiet_row known) old.parts.objects new.parts.objects put));
    })
  where
    state : FinishState
    state = record old { parts = record (old.parts) { objects = new.parts.objects }; events = new.events }

    told : EndsObject header h who (of_state k (record old { parts = record (old.parts) { objects = new.parts.objects } })) ids rest object.0
        ((event.Sent (Up (host_id h) object) (message.Terminate known.control) ∷ old.events) ++ past)
        × LegalEvents header h outside doing past old.events (event.Sent (Up (host_id h) object) (message.Terminate known.control) ∷ old.events)
    told =
        ends_told header h outside doing past who (of_state k old) ids rest object old.events known new.parts.objects bare.ends bare.none bare.found live put
        keeps.marks

-- and it is no copy object any more
record IsSilent (header : Header) (h : ℕ) (outside : Outside) (doing : Command) (past : List Event) (who : Woken) (k : Parts) (ids : Ids) (rest : List Entry)
    (object : ObjectId) (old new : FinishState) : Type 0 where
  quiet : IsQuiet header h outside doing past who k ids rest object old new
  none : IsNoNewest new.copies object.0

copy_ends : (header : Header) (h : ℕ) (outside : Outside) (doing : Command) (past : List Event) (who : Woken) (k : Parts) (ids : Ids) (rest : List Entry)
    (object : ObjectId) (start old new : FinishState) → IsQuiet header h outside doing past who k ids rest object start old
    → LeavesCopies object.0 old.copies new.copies → new ≡ record old { copies = new.copies }
    → IsSilent header h outside doing past who k ids rest object start new
copy_ends header h outside doing past who k ids rest object start old new quiet leaves same =
    subst (λ (z : FinishState). IsSilent header h outside doing past who k ids rest object start z) (sym same)
    (record {
      quiet = record {
        ends = ends_copy object.0 quiet.ends leaves quiet.none;
        led = record { goes = quiet.led.goes; plays = quiet.led.plays; only = quiet.led.only; pages = quiet.led.pages };
        none = quiet.none;
        dead = quiet.dead;
      };
      none = ended_no_newest object.0 leaves quiet.ends.runs.matches.core.copied;
    })

-- nothing is left of an object that ends but what stands under it
ends_above : (header : Header) (h : ℕ) (outside : Outside) (doing : Command) (past : List Event) (who : Woken) (k : Parts) (ids : Ids) (rest : List Entry)
    (object : ObjectId) (known : ObjectRow) (old bare quiet silent : FinishState)
    → EndsObject header h who (of_state k old) ids rest object.0 (old.events ++ past) → object_at old.parts.objects object.0 ≡ Some known
    → PagesLeave (host_id h) object known 0 old bare → ControlEnds (host_id h) object known bare quiet
    → LeavesCopies object.0 quiet.copies silent.copies → silent ≡ record quiet { copies = silent.copies }
    → IsSilent header h outside doing past who k ids rest object old silent
ends_above header h outside doing past who k ids rest object known old bare quiet silent e found pages control copies same =
    copy_ends header h outside doing past who k ids rest object old quiet silent
    (control_ends header h outside doing past who k ids rest object known old bare quiet
    (pages_leave header h outside doing past who k ids rest object known 0 old bare e found (λ q below. absurd (omega arith)) pages) control) copies same

leaves_one : (header : Header) (h : ℕ) (outside : Outside) (doing : Command) (past : List Event) (who : Woken) (k : Parts) (ids : Ids) (rest : List Entry)
    (object : ObjectId) (row : ShadowRow) (known : ObjectRow) (left : ℕ) (start old new : FinishState)
    → IsSilent header h outside doing past who k ids rest object start old → LosesUnder object row known left old new
    → LeavesOne (of_state k old) object.0 left row known new.chains new.parts.objects
leaves_one header h outside doing past who k ids rest object row known left start old new silent loses =
    record {
      bare = silent.quiet.none;
      quiet = silent.quiet.dead;
      found = loses.found;
      drops = loses.chains;
      under = loses.under;
      less = loses.less;
      put = loses.objects;
      marks = loses.marks;
      none = silent.none;
    }

-- what stood under it ends next
record IsNext (header : Header) (h : ℕ) (outside : Outside) (doing : Command) (past : List Event) (who : Woken) (k : Parts) (ids : Ids) (rest : List Entry)
    (o : ℕ) (old new : FinishState) : Type 0 where
  ends : EndsObject header h who (of_state k new) ids rest o (new.events ++ past)
  led : Led header h outside doing past k old new

-- an object has ended, and what ended with it
pub record Swept (header : Header) (h : ℕ) (outside : Outside) (doing : Command) (past : List Event) (who : Woken) (k : Parts) (ids : Ids) (rest : List Entry)
    (old new : FinishState) : Type 0 where
  pub whole : IsWhole header h who (of_state k new) ids rest (new.events ++ past)
  pub led : Led header h outside doing past k old new

pub finished : (header : Header) (h : ℕ) (outside : Outside) (doing : Command) (past : List Event) (who : Woken) (k : Parts) (ids : Ids) (rest : List Entry)
    (object : ObjectId) (old new : FinishState) → EndsObject header h who (of_state k old) ids rest object.0 (old.events ++ past)
    → Finishes (host_id h) object old new → Swept header h outside doing past who k ids rest old new
finished header h outside doing past who k ids rest _ _ _ e (Alone object known old bare quiet new found pages control copies same alone) =
    let silent = (ends_above header h outside doing past who k ids rest object known old bare quiet new e found pages control copies same).quiet in
    record {
      whole =
          record {
            runs = silent.ends.runs;
            used = silent.ends.used;
            referred = all_ended object.0 new.chains new.parts.objects new.parts.resident silent.ends.referred silent.dead silent.none alone;
          };
      led = silent.led;
    }
finished header h outside doing past who k ids rest _ _ _ e
    (OverOne object known under row left old bare quiet silent new found pages control copies same loses some) =
    let above = ends_above header h outside doing past who k ids rest object known old bare quiet silent e found pages control copies same in
    let leaves = leaves_one header h outside doing past who k ids rest object row under left old silent new above loses in
    let led = above.quiet.led in
    subst (λ (z : FinishState). Swept header h outside doing past who k ids rest old z) (sym loses.rest)
    (record {
      whole =
          whole_dropped header h past who (of_state k silent) ids rest object.0 left row under silent.events new.chains new.parts.objects above.quiet.ends
          leaves some;
      led = record { goes = led.goes; plays = led.plays; only = led.only; pages = led.pages };
    })
finished header h outside doing past who k ids rest _ _ _ e
    (Downward object known under row old bare quiet silent next new found pages control copies same loses more) =
    let above = ends_above header h outside doing past who k ids rest object known old bare quiet silent e found pages control copies same in
    let leaves = leaves_one header h outside doing past who k ids rest object row under 0 old silent next above loses in
    let led = above.quiet.led in
    let down : IsNext header h outside doing past who k ids rest row.under.0 old next =
    subst (λ (z : FinishState). IsNext header h outside doing past who k ids rest row.under.0 old z) (sym loses.rest)
    (record {
      ends =
          ends_dropped header h past who (of_state k silent) ids rest object.0 row under silent.events next.chains next.parts.objects above.quiet.ends leaves;
      led = record { goes = led.goes; plays = led.plays; only = led.only; pages = led.pages };
    }) in
    let all = finished header h outside doing past who k ids rest row.under next new down.ends more in
    record { whole = all.whole; led = led_both header h outside doing past k old next new down.led all.led }

-- buffers of the same size do as well
whole_beside : (header : Header) (h : ℕ) (past : List Event) (who : Woken) (k : Parts) (ids : Ids) (rest : List Entry) (memory : HostParts)
    (events : List Event) → IsWhole header h who (record k { memory = record memory { buffers = k.memory.buffers } }) ids rest (events ++ past) → Fit memory
    → memory.buffers.size ≡ k.memory.buffers.size
    → IsWhole header h who (record k { memory = memory }) ids rest (events ++ past)
whole_beside header h past who k ids rest memory events s fit size =
    record {
      runs = record {
        matches = matches_with memory.queues memory.buffers k.waits (λ t r. refl) fit size s.runs.matches;
        waits = s.runs.waits;
        order = s.runs.order;
      };
      used = s.used;
      referred = s.referred;
    }

swept_led : (header : Header) (h : ℕ) (outside : Outside) (doing : Command) (past : List Event) (who : Woken) (k : Parts) (ids : Ids) (rest : List Entry)
    (object : ObjectId) (events after : List Event) (memory : HostParts) (chains : ChainTable) (copies : CopyTable) (laundry : LaundryList)
    → EndsObject header h who k ids rest object.0 (events ++ past)
    → Finishes k.host object (state_of k.memory k.chains k.copies k.laundry events)
    (state_of memory chains copies laundry after) → Swept header h outside doing past who k ids rest (state_of k.memory k.chains k.copies k.laundry events)
    (state_of memory chains copies laundry after)
swept_led header h outside doing past who k ids rest object events after memory chains copies laundry e is =
    finished header h outside doing past who k ids rest object (state_of k.memory k.chains k.copies k.laundry events)
    (state_of memory chains copies laundry after) e
    (subst (λ (z : HostId). Finishes z object (state_of k.memory k.chains k.copies k.laundry events) (state_of memory chains copies laundry after))
    (named_host k.host h e.runs.matches.core.setting.numbered) is)

-- an object has ended: what is left, the events, the lists of pages, and the pages
pub record ObjectEnded (header : Header) (h : ℕ) (outside : Outside) (doing : Command) (past : List Event) (who : Woken) (k : Parts) (ids : Ids)
    (rest : List Entry) (memory : HostParts) (chains : ChainTable) (copies : CopyTable) (laundry : LaundryList) (events after : List Event) : Type 0 where
  pub whole : Fit memory → memory.buffers.size ≡ k.memory.buffers.size
      → IsWhole header h who (record k { memory = memory; chains = chains; copies = copies; laundry = laundry }) ids rest (after ++ past)
  pub goes : LegalEvents header h outside doing past events after
  pub plays : Plays header past events (paging k) after (paging (record k { memory = memory; chains = chains; copies = copies; laundry = laundry }))
  pub only : EndsOnly events after
  pub pages : OnlyLoses k.memory.resident memory.resident

pub object_ended : (header : Header) (h : ℕ) (outside : Outside) (doing : Command) (past : List Event) (who : Woken) (k : Parts) (ids : Ids) (rest : List Entry)
    (object : ObjectId) (events after : List Event) (memory : HostParts) (chains : ChainTable) (copies : CopyTable) (laundry : LaundryList)
    → EndsObject header h who k ids rest object.0 (events ++ past)
    → Finishes k.host object (state_of k.memory k.chains k.copies k.laundry events)
    (state_of memory chains copies laundry after) → ObjectEnded header h outside doing past who k ids rest memory chains copies laundry events after
object_ended header h outside doing past who k ids rest object events after memory chains copies laundry e is =
    let swept = swept_led header h outside doing past who k ids rest object events after memory chains copies laundry e is in
    let led = swept.led in
    record {
      whole =
          λ fit size. whole_beside header h past who (record k { chains = chains; copies = copies; laundry = laundry }) ids rest memory after swept.whole fit
          size;
      goes = led.goes;
      plays = led.plays;
      only = led.only;
      pages = led.pages;
    }
