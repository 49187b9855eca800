-- An access is run: what holds after each thing that it may come to.
use Rattle.vm_kernel.proofs.Common.{Bool, Command, Event, Header, HostId, HostParts, Ids, IfSome, IsAt, IsOfNumber, LegalEvents, List, None, ObjectId}
use Rattle.vm_kernel.proofs.Common.{Option, Outside, PageKey, PageRow, Parts, RegionRow, Some, Up, WaitTable, Waiting, Want, Wants, WantsFrame, Works, []}
use Rattle.vm_kernel.proofs.Common.{access_in, address_in, ap, entry, entry_at, false, free, host_id, if◌then◌else◌, inl, inr}
use Rattle.vm_kernel.proofs.Common.{live_control, page_at, page_of, refl, region_at, rows_in, some_is, subst, suc, sym, true}
use Rattle.vm_kernel.proofs.Common.{with_on, ℕ, ◌%◌, ◌&&◌, ◌++◌, ◌∙◌, ◌∷◌, ◌≡◌, ◌⊎◌}
use Rattle.vm_kernel.proofs.space.RegionsFilled.{entry_some}
use Rattle.vm_state.proofs.Places.{on_its_region}
use Rattle.vm_base.specs.declared.entry.Entry.{Entry}
use Rattle.vm_copies.specs.Copies.{CopyTable}
use Rattle.vm_fault.specs.Faults.{AwaitsPush}
use Rattle.vm_kernel.proofs.memory.PagesPushed.{due_told, page_unpushing, push_pushing}
use Rattle.vm_kernel.specs.Destroying.{place_led}
use Rattle.vm_state.proofs.Pushing.{push_awaited}
use Rattle.vm_state.proofs.Waiting.{IsAwaitedBy}
use Rattle.vm_kernel.proofs.Common.{length, ◌||◌}
use Rattle.vm_fault.specs.Faults.{AsksUnlock, AwaitsPage, Ended, FaultState, Faulted, Needs, NothingChanges, Nowhere}
use Rattle.vm_fault.specs.Faults.{Prepares}
use Rattle.vm_fault.specs.Faults.{RequestsPage, ToAsk, ToCopy, ToPush, ToRaise}
use Rattle.vm_fault.specs.Walks.{Finds, StopsAsked, WalksTo, is_copying, is_storing, keeps_out, top_place, wanted_number, writes_at}
use Rattle.vm_fault.specs.declared.step.FaultStep.{FaultStep}
use Rattle.vm_fault.specs.declared.step.FaultStep.TheVariants as step
use Rattle.vm_kernel.proofs.controls.PageAsked.{works_asked, works_joined, works_turned}
use Rattle.vm_kernel.proofs.steps.AccessCauses.{comes_at, request_follows, shadow_caused}
use Rattle.vm_kernel.proofs.steps.AccessCauses.{shadowed_follows, unmark_caused, unmarked_follows}
use Rattle.vm_kernel.proofs.steps.EventsGrow.{goes_both, goes_none, goes_one, suffices}
use Rattle.vm_kernel.proofs.steps.WhereAccessLeads.{IsServed, Leads, it_waits, leads_of, top_at}
use Rattle.vm_kernel.proofs.steps.RowsInOrder.{PutsInOrder}
use Rattle.vm_kernel.proofs.abroad.OwnHost.{named_host, own_host}
use Rattle.vm_kernel.proofs.memory.MarkGone.{works_unmarked}
use Rattle.vm_kernel.proofs.memory.ShadowMade.{works_shadowed}
pub use Rattle.vm_kernel.proofs.steps.FaultStates.{state_of, with_state}
use Rattle.vm_kernel.proofs.memory.SourceIsTold.{needs_it}
use Rattle.vm_kernel.specs.Plays.{IsToCopyPage, SparesSource}
use Rattle.vm_kernel.specs.Serving.{IsHere, IsTheSource, IsToCopy, is_pushing, runs_now, waits_at}
use Rattle.vm_legal.specs.Accesses as legal
use Rattle.vm_model.specs.declared.event.Event.TheVariants as event
use Rattle.vm_model.specs.declared.message.Message.TheVariants as message
use Rattle.vm_shadow.specs.Chains.{ChainTable}
use Rattle.vm_state.proofs.Shown.{may_ask, shows_row}
use Rattle.vm_state.proofs.Walks.{referred_down, sinks_of, walks_lead, walks_of}
use Rattle.vm_kernel.proofs.memory.PlacesPassed.{over_walk, unmet_at}
use Rattle.vm_state.proofs.Passing.{behind_place}
use Rattle.vm_state.specs.Passed.{IsPlaceBehind, StaysAway}
use Rattle.vm_state.specs.Waiters.{IsPagerTold}
use Rattle.vm_supply.specs.declared.woken.Woken.TheVariants as woken
use Rattle.vm_waits.specs.declared.waiting.On.TheVariants as on
use Rattle.vm_kernel.proofs.memory.WalksShown.{shown_at}
use Rattle.vm_state.proofs.Locks.{kept_anywhere, storing_is}
use Rattle.vm_kernel.proofs.controls.UnlockAsked.{unlock_follows, unlocking, works_unlocked}
use Rattle.std.proofs.lemmas.Bool.{and_parts, or_right}
use Rattle.std.specs.Prelude.{nat_lt}
use Rattle.vm_kernel.proofs.memory.SourceOfCopy.{copies_source, only_copies, pushes_now, wants_copy}
use Rattle.vm_base.specs.declared.ids.RegionId.{RegionId}
use Rattle.vm_kernel.proofs.steps.AccessEnds.{Reaches, Tries, ended, leads_there, store_of}

-- a place to which its walk leads is one of its places, and it has passed over those above
place_of_walk : (header : Header) (h : ℕ) (past : List Event) (k : Parts) (ids : Ids) (w : Waiting) (top key : PageKey) (steps : ℕ)
    → (t : Tries header h past k ids w top) → WalksTo k.memory k.chains steps top key
    → IsPlaceBehind (StaysAway header h past) k.maps k.chains w.task.0 w.want key
place_of_walk header h past k ids w top key steps t walks =
    record {
      top = top;
      at = t.at;
      steps = steps;
      leads = over_walk header h k ids past t.works.matches steps top key
          (leads_there header h past k ids w top t).referred walks;
    }

-- its page is asked for
asked : (header : Header) (h : ℕ) (outside : Outside) (doing : Command) (past : List Event) (k : Parts) (ids : Ids) (w : Waiting) (top key : PageKey)
    (events : List Event) (m2 : HostParts) (after : List Event) (waits2 : WaitTable)
    → Tries header h (events ++ past) k ids w top → RequestsPage (host_id h) w.want top key k.memory m2 k.chains events after
    → PutsInOrder w.task.0 (Some (with_on w (on.Page key))) k.waits.rows waits2.rows
    → Reaches header h outside doing past events (record k { memory = m2; waits = waits2 }) ids after
asked header h outside doing past k ids w top key events m2 after waits2 t a put =
    let moment = events ++ past in
    let number = wanted_number w.want a.steps in
    let request : Event = event.Sent (Up (host_id h) key.object) (message.Request a.object.control key.page number) in
    let to = leads_there header h moment k ids w top t in
    let s = shown_at t.works.matches in
    let place = place_of_walk header h moment k ids w top key a.steps t a.comes.walks in
    let may = may_ask s a.steps top key a.object a.comes a.ready in
    let works = works_asked header h moment k ids w key a.object number a.frame m2 waits2 t.works t.is t.now
    (referred_down s a.steps top key to.referred (walks_lead k.memory k.chains a.steps top key a.comes.walks)) place may.known a.comes.known a.ready
    may.live a.page a.plan put in
    subst (λ (z : List Event). Reaches header h outside doing past events (record k { memory = m2; waits = waits2 }) ids z) (sym a.told)
    (record {
      works = works;
      goes = goes_one header h outside doing past events request t.works.matches.settled
          (request_follows header h outside doing moment k w.task.0 w.want top t.at a.steps key a.object to s t.clear a.comes a.ready
          (suffices header h m2.frames (request ∷ moment) works.matches.core.pages.counted));
    })

-- an unlock of its page is asked for
unlocked_by : (header : Header) (h : ℕ) (outside : Outside) (doing : Command) (past : List Event) (k : Parts) (ids : Ids) (w : Waiting) (top key : PageKey)
    (events : List Event) (m2 : HostParts) (after : List Event) (waits2 : WaitTable)
    → Tries header h (events ++ past) k ids w top → AsksUnlock (host_id h) w.want top key k.memory m2 k.chains events after
    → PutsInOrder w.task.0 (Some (with_on w (on.Page key))) k.waits.rows waits2.rows
    → Reaches header h outside doing past events (record k { memory = m2; waits = waits2 }) ids after
unlocked_by header h outside doing past k ids w top key events m2 after waits2 t a put =
    let moment = events ++ past in
    let number = wanted_number w.want a.steps in
    let unlock : Event = unlocking h key a.object.control number in
    let to = leads_there header h moment k ids w top t in
    let s = shown_at t.works.matches in
    let place = place_of_walk header h moment k ids w top key a.steps t a.finds.walks in
    let works = works_unlocked header h moment k ids w key a.row a.object number m2 waits2 t.works t.is t.now place a.finds.here
    (kept_anywhere a.row.lock w.want a.steps a.locked) a.none a.page a.plan put in
    subst (λ (z : List Event). Reaches header h outside doing past events (record k { memory = m2; waits = waits2 }) ids z) (sym a.told)
    (record {
      works = works;
      goes = goes_one header h outside doing past events unlock t.works.matches.settled
          (unlock_follows header h outside doing moment k w.task.0 w.want top t.at a.steps key a.row a.object to s t.works.matches.replied t.works.referred
          t.works.matches.core.controls a.finds a.known (kept_anywhere a.row.lock w.want a.steps a.locked) a.none
          (suffices header h m2.frames (unlock ∷ moment) works.matches.core.pages.counted));
    })

-- making ready ends no control
prepared_served : (header : Header) (h : ℕ) (past : List Event) (b : Bool) (region : RegionId) (row : RegionRow) (k : Parts) (ids : Ids) (events : List Event)
    (mid : FaultState) (task : ℕ) (what : Want) → Prepares b region row (state_of k ids events) mid → IsServed header h k task what (events ++ past)
    → IsServed header h (with_state k mid) task what (mid.events ++ past)
prepared_served header h past b region row k ids events mid task what ready served e found declared none =
    served e found declared (sym (by b ready) ∙ none)
  where
    by : (b : Bool) → Prepares b region row (state_of k ids events) mid
        → live_control h e.region.0 (mid.events ++ past) ≡ live_control h e.region.0 (events ++ past)
    by false same = ap (λ (z : FaultState). live_control h e.region.0 (z.events ++ past)) same
    by true (inl made) = ap (λ z. live_control h e.region.0 (z ++ past)) made.told
    by true (inr loses) = ap (λ z. live_control h e.region.0 (z ++ past)) loses.told

-- the region of a store has an object of its own first, or loses its mark

pub record Prepared (header : Header) (h : ℕ) (outside : Outside) (doing : Command) (past : List Event) (k : Parts) (ids : Ids) (w : Waiting)
    (events : List Event) (mid : FaultState) (top : PageKey) : Type 0 where
  pub tries : Tries header h (mid.events ++ past) (with_state k mid) mid.ids w top
  pub goes : LegalEvents header h outside doing past events mid.events

not_both : (a b : Bool) → (a && b) ≡ false → a ≡ true → b ≡ false
not_both true b is one = is
not_both false b is one = absurd (let bad : false ≡ true = one in cc)

-- the row of the region of an access
its_mark : (k : Parts) (chains : ChainTable) (w : Waiting) (top : PageKey) (row2 : RegionRow) (found_entry : Entry)
    (at : IsAt k.maps chains w.task.0 w.want top) → entry_at (address_in k.maps.size w.want) (rows_in w.task.0 k.maps) ≡ Some found_entry
    → region_at chains found_entry.region.0 ≡ Some row2 → row2.marked ≡ false → at.row.marked ≡ false
its_mark k chains w top row2 found_entry at found region clear =
    let same : at.entry ≡ found_entry = some_is at.entry found_entry (sym at.found ∙ found) in
    let rows : at.row ≡ row2 = some_is at.row row2 (sym at.region ∙ ap (λ (z : Entry). region_at chains z.region.0) same ∙ region) in
    ap (λ (z : RegionRow). z.marked) rows ∙ clear

pub prepared : (header : Header) (h : ℕ) (outside : Outside) (doing : Command) (past : List Event) (k : Parts) (ids : Ids) (w : Waiting) (may : Bool)
    (answer : FaultStep) (events : List Event) (new : FaultState)
    → Works header h k ids woken.Nobody (events ++ past) → entry k.waits.rows w.task.0 ≡ Some w → runs_now w.on ≡ true
    → (f : Faulted k.maps k.host w.task w.want may answer (state_of k ids events) new)
    → Prepared header h outside doing past k ids w events f.mid f.top
prepared header h outside doing past k ids w may answer events new works is now f =
    by (is_storing w.want && f.row.marked) refl f.prepares
  where
    moment : List Event
    moment = events ++ past

    bare : (mid : FaultState) → state_of k ids events ≡ mid → (at : IsAt k.maps mid.chains w.task.0 w.want f.top)
        → (is_storing w.want ≡ true → at.row.marked ≡ false) → Prepared header h outside doing past k ids w events mid f.top
    bare mid same at clear =
        subst (λ (z : FaultState). (at2 : IsAt k.maps z.chains w.task.0 w.want f.top) → (is_storing w.want ≡ true → at2.row.marked ≡ false)
        → Prepared header h outside doing past k ids w events z f.top) same
        (λ at2 clear2. record {
          tries = record { works = works; is = is; now = now; at = at2; clear = clear2 };
          goes = goes_none header h outside doing past events;
        }) at clear

    recopied : (mid : FaultState) (past2 : List Event) → mid.copies ≡ k.copies
        → Works header h (record k { memory = mid.parts; chains = mid.chains }) mid.ids woken.Nobody past2
        → Works header h (with_state k mid) mid.ids woken.Nobody past2
    recopied mid past2 same has =
        subst (λ (z : CopyTable). Works header h (record k { memory = mid.parts; chains = mid.chains; copies = z }) mid.ids woken.Nobody past2) (sym same) has

    by : (b : Bool) → (is_storing w.want && f.row.marked) ≡ b → Prepares b f.entry.region f.row (state_of k ids events) f.mid
        → Prepared header h outside doing past k ids w events f.mid f.top
    by false test same =
        bare f.mid (sym same) f.at
        (λ stores. its_mark k f.mid.chains w f.top f.row f.entry f.at f.found (ap (λ (z : FaultState). region_at z.chains f.entry.region.0) same ∙ f.region)
        (not_both (is_storing w.want) f.row.marked test stores))
    by true test (inl made) =
        let both = and_parts (is_storing w.want) f.row.marked test in
        let store = store_of w.want both.0 in
        let before : PageKey = top_place f.row (page_at k.maps.size (address_in k.maps.size w.want) f.entry) in
        let at : IsAt k.maps k.chains w.task.0 w.want before = record { entry = f.entry; found = f.found; row = f.row; region = f.region; is = refl } in
        let shadow : Event = event.Shadowed f.entry.region made.object f.row.top in
        let to = leads_of header h k ids moment woken.Nobody w.task.0 w before works.matches works.waits works.used.copies is at in
        let cause = shadow_caused header h moment k ids w.task w.want before at made.object store.address store.size store.value works to store.is
        both.1 made.shared made.next in
        let works1 = works_shadowed header h outside doing moment k ids f.entry.region f.row (state_of k ids events) f.mid works refl refl refl f.region
        (entry_some header.size f.entry.region.0 w.task.0 k.maps k.chains [] f.row works.matches.core.spaces.entries f.region
        (on_its_region (address_in k.maps.size w.want) (rows_in w.task.0 k.maps) f.entry f.found)) both.1 made cause in
        let follows = shadowed_follows header h outside doing moment k ids f.entry.region made.object f.row works.matches f.region both.1 cause
        (suffices header h f.mid.parts.frames (shadow ∷ moment) works1.matches.core.pages.counted) in
        let row2 : RegionRow = record f.row { top = made.object; shift = 0; marked = false } in
        let region : region_at f.mid.chains f.entry.region.0 ≡ Some row2 =
        made.chains.at f.entry.region.0 ∙ ap (λ b. if b then Some row2 else region_at k.chains f.entry.region.0) (own_host f.entry.region.0) in
        record {
          tries = record {
            works = subst (λ (z : List Event). Works header h (with_state k f.mid) f.mid.ids woken.Nobody (z ++ past)) (sym made.told)
                (recopied f.mid (shadow ∷ moment) made.copies works1);
            is = is;
            now = now;
            at = f.at;
            clear = λ stores. its_mark k f.mid.chains w f.top row2 f.entry f.at f.found region refl;
          };
          goes =
              subst (λ (z : List Event). LegalEvents header h outside doing past events z) (sym made.told)
              (goes_one header h outside doing past events shadow works.matches.settled follows);
        }
    by true test (inr loses) =
        let both = and_parts (is_storing w.want) f.row.marked test in
        let store = store_of w.want both.0 in
        let before : PageKey = top_place f.row (page_at k.maps.size (address_in k.maps.size w.want) f.entry) in
        let at : IsAt k.maps k.chains w.task.0 w.want before = record { entry = f.entry; found = f.found; row = f.row; region = f.region; is = refl } in
        let mark : Event = event.Unmarked f.entry.region in
        let to = leads_of header h k ids moment woken.Nobody w.task.0 w before works.matches works.waits works.used.copies is at in
        let cause = unmark_caused header h moment k ids w.task w.want before at store.address store.size store.value works to store.is both.1 loses.sole in
        let works1 = works_unmarked header h outside doing moment k ids f.entry.region f.row (state_of k ids events) f.mid works refl refl refl f.region
        (entry_some header.size f.entry.region.0 w.task.0 k.maps k.chains [] f.row works.matches.core.spaces.entries f.region
        (on_its_region (address_in k.maps.size w.want) (rows_in w.task.0 k.maps) f.entry f.found)) both.1 loses cause in
        let follows = unmarked_follows header h outside doing moment k ids f.entry.region f.row works.matches f.region both.1 cause
        (suffices header h f.mid.parts.frames (mark ∷ moment) works1.matches.core.pages.counted) in
        let row2 : RegionRow = record f.row { marked = false } in
        let region : region_at f.mid.chains f.entry.region.0 ≡ Some row2 =
        loses.chains.at f.entry.region.0 ∙ ap (λ b. if b then Some row2 else region_at k.chains f.entry.region.0) (own_host f.entry.region.0) in
        record {
          tries = record {
            works = subst (λ (z : List Event). Works header h (with_state k f.mid) f.mid.ids woken.Nobody (z ++ past)) (sym loses.told)
                (recopied f.mid (mark ∷ moment) loses.copies works1);
            is = is;
            now = now;
            at = f.at;
            clear = λ stores. its_mark k f.mid.chains w f.top row2 f.entry f.at f.found region refl;
          };
          goes =
              subst (λ (z : List Event). LegalEvents header h outside doing past events z) (sym loses.told)
              (goes_one header h outside doing past events mark works.matches.settled follows);
        }

-- the chains, the copy objects and the next numbers are those behind what the mark brought
settle_noted : (header : Header) (h : ℕ) (outside : Outside) (doing : Command) (past : List Event) (k : Parts) (events : List Event) (mid new : FaultState)
    (waits2 : WaitTable) → LegalEvents header h outside doing past events mid.events
    → Reaches header h outside doing past mid.events (record (with_state k mid) { memory = new.parts; copies = new.copies; waits = waits2 }) mid.ids new.events
    → new.chains ≡ mid.chains → new.ids ≡ mid.ids
    → Reaches header h outside doing past events (record (with_state k new) { waits = waits2 }) new.ids new.events
settle_noted header h outside doing past k events mid new waits2 first r chains ids =
    record {
      works = subst (λ (z : Ids). Works header h (record (with_state k new) { waits = waits2 }) z woken.Nobody (new.events ++ past)) (sym ids)
          (subst (λ (z : ChainTable). Works header h (record k { memory = new.parts; chains = z; copies = new.copies; waits = waits2 }) mid.ids woken.Nobody
          (new.events ++ past)) (sym chains) r.works);
      goes = goes_both header h outside doing past events mid.events new.events first r.goes;
    }

settle : (header : Header) (h : ℕ) (outside : Outside) (doing : Command) (past : List Event) (k : Parts) (events : List Event) (mid new : FaultState)
    (waits2 : WaitTable) → LegalEvents header h outside doing past events mid.events
    → Reaches header h outside doing past mid.events (record (with_state k mid) { memory = new.parts; waits = waits2 }) mid.ids new.events
    → new.chains ≡ mid.chains → new.ids ≡ mid.ids → new.copies ≡ mid.copies
    → Reaches header h outside doing past events (record (with_state k new) { waits = waits2 }) new.ids new.events
settle header h outside doing past k events mid new waits2 first r chains ids copies =
    settle_noted header h outside doing past k events mid new waits2 first
    (subst (λ (z : CopyTable). Reaches header h outside doing past mid.events (record (with_state k mid) { memory = new.parts; copies = z; waits = waits2 })
    mid.ids new.events) (sym copies) r) chains ids

-- nothing changes but what it waits for
stays : (header : Header) (h : ℕ) (outside : Outside) (doing : Command) (past : List Event) (k : Parts) (mid new : FaultState) (waits2 : WaitTable)
    → NothingChanges mid new
    → Works header h (record (with_state k mid) { waits = waits2 }) mid.ids woken.Nobody (mid.events ++ past)
    → Reaches header h outside doing past mid.events (record (with_state k mid) { memory = new.parts; waits = waits2 }) mid.ids new.events
stays header h outside doing past k mid new waits2 same works =
    record {
      works =
          subst (λ (z : List Event). Works header h (record (with_state k mid) { memory = new.parts; waits = waits2 }) mid.ids woken.Nobody (z ++ past))
          (sym same.told)
          (subst (λ (z : HostParts). Works header h (record (with_state k mid) { memory = z; waits = waits2 }) mid.ids woken.Nobody (mid.events ++ past))
          (sym same.parts) works);
      goes =
          subst (λ (z : List Event). LegalEvents header h outside doing past mid.events z) (sym same.told) (goes_none header h outside doing past mid.events);
    }

-- what a fault's answer says

-- it has ended
pub done_reaches : (header : Header) (h : ℕ) (outside : Outside) (doing : Command) (past : List Event) (k : Parts) (ids : Ids) (w : Waiting) (may : Bool)
    (value : ℕ) (events : List Event) (new : FaultState) (waits2 : WaitTable)
    → IsOfNumber w.want → Works header h k ids woken.Nobody (events ++ past) → entry k.waits.rows w.task.0 ≡ Some w → runs_now w.on ≡ true
    → IsServed header h k w.task.0 w.want (events ++ past) → Faulted k.maps k.host w.task w.want may (step.Done value) (state_of k ids events) new
    → PutsInOrder w.task.0 None k.waits.rows waits2.rows
    → Reaches header h outside doing past events (record (with_state k new) { waits = waits2 }) new.ids new.events
done_reaches header h outside doing past k ids w may value events new waits2 number works is now served f put =
    let p = prepared header h outside doing past k ids w may (step.Done value) events new works is now f in
    let address = address_in k.maps.size w.want in
    let named = subst (λ (z : HostId). Ended z w.task w.want f.top (address % k.memory.buffers.size) value f.mid.parts new.parts f.mid.chains f.mid.copies
    new.copies f.mid.events new.events) (named_host k.host h works.matches.core.setting.numbered) f.comes in
    let sized = subst (λ (z : ℕ). Ended (host_id h) w.task w.want f.top (address % z) value f.mid.parts new.parts f.mid.chains f.mid.copies
    new.copies f.mid.events new.events) (works.matches.core.fits.buffers ∙ works.matches.core.setting.sized) named in
    settle_noted header h outside doing past k events f.mid new waits2 p.goes (ended header h outside doing past (with_state k f.mid) f.mid.ids w f.top
    f.mid.events value new.parts new.copies new.events waits2 number p.tries
    (prepared_served header h past (is_storing w.want && f.row.marked) f.entry.region f.row k ids events f.mid w.task.0 w.want f.prepares served)
    sized put) f.chains f.ids

-- it waits for its object's pager
pub ready_reaches : (header : Header) (h : ℕ) (outside : Outside) (doing : Command) (past : List Event) (k : Parts) (ids : Ids) (w : Waiting) (may : Bool)
    (object : ObjectId) (events : List Event) (new : FaultState) (waits2 : WaitTable)
    → Works header h k ids woken.Nobody (events ++ past) → entry k.waits.rows w.task.0 ≡ Some w → runs_now w.on ≡ true
    → Faulted k.maps k.host w.task w.want may (step.WaitReady object) (state_of k ids events) new
    → PutsInOrder w.task.0 (Some (with_on w (on.Ready object))) k.waits.rows waits2.rows
    → Reaches header h outside doing past events (record (with_state k new) { waits = waits2 }) new.ids new.events
ready_reaches header h outside doing past k ids w may object events new waits2 works is now f put =
    let p = prepared header h outside doing past k ids w may (step.WaitReady object) events new works is now f in
    let why = f.comes.0 in
    let steps = why.0 in
    let key = why.1 in
    let comes = why.3 in
    let same : key.object ≡ object = why.5 in
    let moment = f.mid.events ++ past in
    let place = place_of_walk header h moment (with_state k f.mid) f.mid.ids w f.top key steps p.tries comes.walks in
    let unmet = unmet_at header h (with_state k f.mid) f.mid.ids moment p.tries.works.matches steps f.top key why.2 comes in
    let told = subst (λ (z : ObjectId). IsPagerTold f.mid.parts.objects z.0) same (record { row = why.2; found = comes.known; sent = why.4 }) in
    settle header h outside doing past k events f.mid new waits2 p.goes
    (stays header h outside doing past k f.mid new waits2 f.comes.1
    (works_turned header h (f.mid.events ++ past) (with_state k f.mid) f.mid.ids w (on.Ready object) waits2 p.tries.works is now
    (key, behind_place place, same, told) (key, behind_place place, same, λ none. (place, unmet)) put)) f.chains f.ids f.comes.1.copies

-- its page is asked, or an unlock of it is outstanding, which was asked for now
pub page_reaches : (header : Header) (h : ℕ) (outside : Outside) (doing : Command) (past : List Event) (k : Parts) (ids : Ids) (w : Waiting) (may : Bool)
    (answer : FaultStep) (key : PageKey) (events : List Event) (new : FaultState) (waits2 : WaitTable)
    → Works header h k ids woken.Nobody (events ++ past) → entry k.waits.rows w.task.0 ≡ Some w → runs_now w.on ≡ true
    → Faulted k.maps k.host w.task w.want may answer (state_of k ids events) new
    → (answer ≡ step.Ask key) ⊎ (answer ≡ step.Unlock key)
    → PutsInOrder w.task.0 (Some (with_on w (on.Page key))) k.waits.rows waits2.rows
    → Reaches header h outside doing past events (record (with_state k new) { waits = waits2 }) new.ids new.events
page_reaches header h outside doing past k ids w may answer key events new waits2 works is now faulted (inl asks) put =
    let f : Faulted k.maps k.host w.task w.want may (step.Ask key) (state_of k ids events) new = subst
    (λ (z : FaultStep). Faulted k.maps k.host w.task w.want may z (state_of k ids events) new) asks faulted in
    let p = prepared header h outside doing past k ids w may (step.Ask key) events new works is now f in
    let named = subst (λ (z : HostId). RequestsPage z w.want f.top key f.mid.parts new.parts f.mid.chains f.mid.events new.events)
    (named_host k.host h works.matches.core.setting.numbered) f.comes.0 in
    settle header h outside doing past k events f.mid new waits2 p.goes (asked header h outside doing past (with_state k f.mid) f.mid.ids w f.top key
    f.mid.events new.parts new.events waits2 p.tries named put) f.chains f.ids f.comes.1
page_reaches header h outside doing past k ids w may answer key events new waits2 works is now faulted (inr unlocks) put =
    let f : Faulted k.maps k.host w.task w.want may (step.Unlock key) (state_of k ids events) new = subst
    (λ (z : FaultStep). Faulted k.maps k.host w.task w.want may z (state_of k ids events) new) unlocks faulted in
    let p = prepared header h outside doing past k ids w may (step.Unlock key) events new works is now f in
    let named = subst (λ (z : HostId). AsksUnlock z w.want f.top key f.mid.parts new.parts f.mid.chains f.mid.events new.events)
    (named_host k.host h works.matches.core.setting.numbered) f.comes.0 in
    settle header h outside doing past k events f.mid new waits2 p.goes (unlocked_by header h outside doing past (with_state k f.mid) f.mid.ids w f.top key
    f.mid.events new.parts new.events waits2 p.tries named put) f.chains f.ids f.comes.1

-- or before; or a store owes its page to a place that is asked
pub word_reaches : (header : Header) (h : ℕ) (outside : Outside) (doing : Command) (past : List Event) (k : Parts) (ids : Ids) (w : Waiting) (may : Bool)
    (key : PageKey) (events : List Event) (new : FaultState) (waits2 : WaitTable)
    → Works header h k ids woken.Nobody (events ++ past) → entry k.waits.rows w.task.0 ≡ Some w → runs_now w.on ≡ true
    → Faulted k.maps k.host w.task w.want may (step.WaitAnswer key) (state_of k ids events) new
    → PutsInOrder w.task.0 (Some (with_on w (waits_at k w key))) k.waits.rows waits2.rows
    → Reaches header h outside doing past events (record (with_state k new) { waits = waits2 }) new.ids new.events
word_reaches header h outside doing past k ids w may key events new waits2 works is now f put =
    settle header h outside doing past k events f.mid new waits2 p.goes (stays header h outside doing past k f.mid new waits2 f.comes.1
    (elim f.comes.0 [ inl page ↦ joins page | inr push ↦ pushes push ])) f.chains f.ids f.comes.1.copies
  where
    mid : Parts
    mid = with_state k f.mid

    p : Prepared header h outside doing past k ids w events f.mid f.top
    p = prepared header h outside doing past k ids w may (step.WaitAnswer key) events new works is now f

    turns : (b : Bool) → is_pushing (length k.declared.items) key (place_led k.maps w.task.0 w.want) ≡ b
        → PutsInOrder w.task.0 (Some (with_on w (if b then on.Push key else on.Page key))) k.waits.rows waits2.rows
    turns b same = subst (λ (z : Bool). PutsInOrder w.task.0 (Some (with_on w (if z then on.Push key else on.Page key))) k.waits.rows waits2.rows) same put

    joins : AwaitsPage w.want f.top key f.mid.parts f.mid.chains
        → Works header h (record mid { waits = waits2 }) f.mid.ids woken.Nobody (f.mid.events ++ past)
    joins awaits = by awaits.why
      where
        there : (steps : ℕ) → WalksTo f.mid.parts f.mid.chains steps f.top key → IsAwaitedBy f.mid.parts.resident w.want key.object.0 key.page.0
            → Works header h (record mid { waits = waits2 }) f.mid.ids woken.Nobody (f.mid.events ++ past)
        there steps walks word =
            works_joined header h (f.mid.events ++ past) mid f.mid.ids w key waits2 p.tries.works is now
            (place_of_walk header h (f.mid.events ++ past) mid f.mid.ids w f.top key steps p.tries walks) word
            (turns false (page_unpushing w.want steps key p.tries.works.matches p.tries.at walks))

        by : (Finds f.mid.parts f.mid.chains awaits.steps f.top key awaits.row × (keeps_out awaits.row.lock (writes_at w.want awaits.steps) ≡ true)
            × (awaits.row.unlock_sent ≡ true)) ⊎ StopsAsked f.mid.parts f.mid.chains awaits.steps f.top key awaits.row
            → Works header h (record mid { waits = waits2 }) f.mid.ids woken.Nobody (f.mid.events ++ past)
        by (inl locked) = there awaits.steps locked.0.walks (inr (record {
          row = awaits.row;
          found = locked.0.found;
          here = locked.0.here;
          locked = kept_anywhere awaits.row.lock w.want awaits.steps locked.1;
          sent = locked.2;
        }))
        by (inr stops) = there awaits.steps stops.walks (inl (record { row = awaits.row; found = stops.found; away = stops.away }))

    pushes : AwaitsPush w.want f.top key f.mid.parts f.mid.chains f.mid.copies
        → Works header h (record mid { waits = waits2 }) f.mid.ids woken.Nobody (f.mid.events ++ past)
    pushes push =
        works_turned header h (f.mid.events ++ past) mid f.mid.ids w (on.Push key) waits2 p.tries.works is now
        (push_awaited k.maps f.mid.chains f.mid.copies f.mid.parts w.task.0 w.want f.top key p.tries.at push) tt
        (turns true (push_pushing w.want key p.tries.works.matches p.tries.works.used p.tries.works.referred p.tries.at push.stores push.owed))

-- it wants a frame: it joins the queue
pub queued_reaches : (header : Header) (h : ℕ) (outside : Outside) (doing : Command) (past : List Event) (k : Parts) (ids : Ids) (w : Waiting) (may : Bool)
    (source : Option PageKey) (events : List Event) (new : FaultState) (waits2 : WaitTable)
    → Works header h k ids woken.Nobody (events ++ past) → entry k.waits.rows w.task.0 ≡ Some w → runs_now w.on ≡ true
    → Faulted k.maps k.host w.task w.want may (step.NeedFrame source) (state_of k ids events) new
    → PutsInOrder w.task.0 (Some (with_on w on.Frame)) k.waits.rows waits2.rows
    → Reaches header h outside doing past events (record (with_state k new) { waits = waits2 }) new.ids new.events
queued_reaches header h outside doing past k ids w may source events new waits2 works is now f put =
    let p = prepared header h outside doing past k ids w may (step.NeedFrame source) events new works is now f in
    settle header h outside doing past k events f.mid new waits2 p.goes
    (stays header h outside doing past k f.mid new waits2 f.comes.2
    (works_turned header h (f.mid.events ++ past) (with_state k f.mid) f.mid.ids w on.Frame waits2 p.tries.works is now tt tt put)) f.chains f.ids
    f.comes.2.copies

-- or stands in it, and stays there
pub still_reaches : (header : Header) (h : ℕ) (outside : Outside) (doing : Command) (past : List Event) (k : Parts) (ids : Ids) (w : Waiting) (may : Bool)
    (source : Option PageKey) (events : List Event) (new : FaultState)
    → Works header h k ids woken.Nobody (events ++ past) → entry k.waits.rows w.task.0 ≡ Some w → runs_now w.on ≡ true
    → Faulted k.maps k.host w.task w.want may (step.NeedFrame source) (state_of k ids events) new
    → Reaches header h outside doing past events (with_state k new) new.ids new.events
still_reaches header h outside doing past k ids w may source events new works is now f =
    let p = prepared header h outside doing past k ids w may (step.NeedFrame source) events new works is now f in
    settle header h outside doing past k events f.mid new k.waits p.goes (stays header h outside doing past k f.mid new k.waits f.comes.2 p.tries.works)
    f.chains f.ids f.comes.2.copies

-- the access wants a frame

-- why
frame_why : (header : Header) (h : ℕ) (past : List Event) (k : Parts) (ids : Ids) (w : Waiting) (top : PageKey) {source : Option PageKey}
    → (t : Tries header h past k ids w top) → IsServed header h k w.task.0 w.want past → (to : Leads header h past k w.task.0 w.want top t.at)
    → Needs w.want top k.memory k.chains k.copies source
    → WantsFrame header h w.task.0 (access_in k.maps.size to.destination w.want) t.at.entry.region.0
    (page_of header w.task.0 (access_in k.maps.size to.destination w.want) past t.at.entry) past
frame_why header h past k ids w top t served to (Nowhere sinks) =
    legal.Nowhere (served t.at.entry t.at.found) top.object.0 top.page.0 sinks.steps (top_at header h past k w.task.0 w.want top t.at to)
    (sinks_of (shown_at t.works.matches) top to.referred sinks)
frame_why header h past k ids w top t served to (ToCopy steps key row finds copying out) =
    let s = shown_at t.works.matches in
    wants_copy header h k.maps.size w.task.0 to.destination t.at.entry.region.0 (page_of header w.task.0 (access_in k.maps.size to.destination w.want) past
    t.at.entry) past w.want false steps top.object.0 top.page.0 key.object.0 key.page.0
    (or_right (is_storing w.want && (nat_lt 0 steps || false)) (is_copying w.want) copying)
    (λ bad. absurd (let no : false ≡ true = bad in cc)) (top_at header h past k w.task.0 w.want top t.at to)
    (walks_of s steps top key finds.walks) (shows_row s key.object.0 key.page.0 row finds.found finds.here).here
frame_why header h past k ids w top t served to (ToAsk steps key object comes ready) =
    let s = shown_at t.works.matches in
    let may = may_ask s steps top key object comes ready in
    legal.Elsewhere key.object.0 key.page.0 (comes_at header h past k w.task.0 w.want top t.at to s steps key comes.walks) may.away may.unasked may.may_have
    may.ready
frame_why header h past k ids w top t served to (ToPush row finds stores out place owed none) =
    let now = pushes_now t.works.matches t.works.used t.works.referred top place owed none in
    legal.Pushes top.object.0 top.page.0 now.copy (top_at header h past k w.task.0 w.want top t.at to)
    (shows_row (shown_at t.works.matches) top.object.0 top.page.0 row finds.found finds.here).here (storing_is k.maps.size to.destination w.want ∙ stores)
    now.owes now.unasked
frame_why header h past k ids w top t served to (ToRaise steps key row finds stores out) =
    let s = shown_at t.works.matches in
    legal.Raises top.object.0 top.page.0 steps key.object.0 key.page.0 (top_at header h past k w.task.0 w.want top t.at to)
    (walks_of s (suc steps) top key finds.walks) (shows_row s key.object.0 key.page.0 row finds.found finds.here).here
    (storing_is k.maps.size to.destination w.want ∙ stores)

-- and what it is to copy

found_source : (header : Header) (h : ℕ) (past : List Event) (k : Parts) (ids : Ids) (w : Waiting) (top : PageKey) → Tries header h past k ids w top
    → IsServed header h k w.task.0 w.want past → (steps : ℕ) (key : PageKey) (row : PageRow) → Finds k.memory k.chains steps top key row
    → Needs w.want top k.memory k.chains k.copies (Some key)
    → IsToCopyPage header h w.task key.object.0 key.page.0 past × IsHere k key
found_source header h past k ids w top t served steps key row finds needs =
    let to = leads_there header h past k ids w top t in
    let s = shown_at t.works.matches in (
      record {
        source = record {
          task = w.task.0;
          access = access_in k.maps.size to.destination w.want;
          waits = it_waits header h past k w.task.0 w.want top t.at to;
          on_host = refl;
          comes = comes_at header h past k w.task.0 w.want top t.at to s steps key finds.walks;
          wants = frame_why header h past k ids w top t served to needs;
        };
        of = refl;
        here = (shows_row s key.object.0 key.page.0 row finds.found finds.here).here;
      },
      (row, finds.found, finds.here),
    )

frame_source : (header : Header) (h : ℕ) (past : List Event) (k : Parts) (ids : Ids) (w : Waiting) (top : PageKey) {source : Option PageKey}
    → Tries header h past k ids w top → IsServed header h k w.task.0 w.want past → Needs w.want top k.memory k.chains k.copies source
    → IfSome source (λ key. IsToCopyPage header h w.task key.object.0 key.page.0 past × IsHere k key)
frame_source header h past k ids w top t served (Nowhere sinks) = tt
frame_source header h past k ids w top t served (ToAsk steps key object comes ready) = tt
frame_source header h past k ids w top t served (ToCopy steps key row finds copying out) =
    found_source header h past k ids w top t served steps key row finds (ToCopy steps key row finds copying out)
frame_source header h past k ids w top t served (ToPush row finds stores out place owed none) =
    found_source header h past k ids w top t served 0 top row finds (ToPush row finds stores out place owed none)
frame_source header h past k ids w top t served (ToRaise steps key row finds stores out) =
    found_source header h past k ids w top t served (suc steps) key row finds (ToRaise steps key row finds stores out)

-- and so it wants one
pub record Wanting (header : Header) (h : ℕ) (w : Waiting) (may : Bool) (source : Option PageKey) (k : Parts) (after : List Event) : Type 0 where
  pub wants : Wants header h after
  pub mine : wants.task ≡ w.task.0
  pub to_copy : IsToCopy header h k source after
  pub exact : IsTheSource header h (SparesSource (Some w.task)) source after
  pub none : may ≡ true → free k.memory.frames ≡ 0

pub wanting_of : (header : Header) (h : ℕ) (outside : Outside) (doing : Command) (past : List Event) (k : Parts) (ids : Ids) (w : Waiting) (may : Bool)
    (source : Option PageKey) (events : List Event) (new : FaultState) (waits2 : WaitTable)
    → Works header h k ids woken.Nobody (events ++ past) → entry k.waits.rows w.task.0 ≡ Some w → runs_now w.on ≡ true
    → IsServed header h k w.task.0 w.want (events ++ past)
    → Faulted k.maps k.host w.task w.want may (step.NeedFrame source) (state_of k ids events) new
    → Wanting header h w may source (record (with_state k new) { waits = waits2 }) (new.events ++ past)
wanting_of header h outside doing past k ids w may source events new waits2 works is now served f =
    let p = prepared header h outside doing past k ids w may (step.NeedFrame source) events new works is now f in
    let moment = f.mid.events ++ past in
    let mid = with_state k f.mid in
    let t = p.tries in
    let same = f.comes.2 in
    let still : IsServed header h mid w.task.0 w.want moment = prepared_served header h past (is_storing w.want && f.row.marked) f.entry.region f.row k ids
    events f.mid w.task.0 w.want f.prepares served in
    let to = leads_there header h moment mid f.mid.ids w f.top t in
    let wants : (wants : Wants header h moment) × (wants.task ≡ w.task.0) = (
      record {
        task = w.task.0;
        access = access_in k.maps.size to.destination w.want;
        waits = it_waits header h moment mid w.task.0 w.want f.top t.at to;
        on_host = refl;
        frame = frame_why header h moment mid f.mid.ids w f.top t still to f.comes.0;
      },
      refl,
    ) in
    let later = subst (λ (z : List Event). (wants : Wants header h (z ++ past)) × (wants.task ≡ w.task.0)) (sym same.told) wants in
    let found = frame_source header h moment mid f.mid.ids w f.top t still f.comes.0 in
    let copies = copies_source header h moment mid w.task source found in
    let told : IsTheSource header h (SparesSource (Some w.task)) source moment =
    record {
      is = only_copies header h moment mid w.task source found;
      only = needs_it header h moment mid w.task w.want f.top t.at source to (due_told t.works.matches t.works.used.copies) (shown_at t.works.matches)
          f.comes.0;
    } in
    let here = subst (λ (z : HostParts). IsToCopy header h (record mid { memory = z }) source moment) (sym same.parts) copies in
    record {
      wants = later.0;
      mine = later.1;
      to_copy = to_copy_same source (subst (λ (z : List Event). IsToCopy header h (record mid { memory = new.parts }) source (z ++ past)) (sym same.told) here);
      exact = subst (λ (z : List Event). IsTheSource header h (SparesSource (Some w.task)) source (z ++ past)) (sym same.told) told;
      none = λ so. ap (λ (z : HostParts). free z.frames) same.parts ∙ f.comes.1 so;
    }
  where
    to_copy_same : (source2 : Option PageKey) → IsToCopy header h (record (with_state k f.mid) { memory = new.parts }) source2 (new.events ++ past)
        → IsToCopy header h (record (with_state k new) { waits = waits2 }) source2 (new.events ++ past)
    to_copy_same None copies = tt
    to_copy_same (Some key) copies = copies

-- what is said of the row of the access that was run
pub its_row : (k : Parts) (w : Waiting) (P : Waiting → Type 0) → entry k.waits.rows w.task.0 ≡ Some w → IfSome (entry k.waits.rows w.task.0) P → P w
its_row k w P is holds = subst (λ z. IfSome z P) is holds
