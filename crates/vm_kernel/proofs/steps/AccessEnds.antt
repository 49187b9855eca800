-- An access that is run ends: with a page that is here, or behind a copy of it that comes, or zeros.
use Rattle.vm_kernel.proofs.Common.{Bool, Command, Event, Header, HostParts, Ids, IsAt, IsOfNumber, LegalEvents, List, Matches, None}
use Rattle.vm_kernel.proofs.Common.{Outside, PageKey, PageRow, Parts, Some, WaitTable, Waiting, Want, Works, []}
use Rattle.vm_kernel.proofs.Common.{address_in, ap, clean_row, entry, false, has_pager, host_id, if◌then◌else◌, inl, inr}
use Rattle.vm_kernel.proofs.Common.{live_control, live_in, named, refl, row_put, subst, sym, true, unlocked}
use Rattle.vm_kernel.proofs.Common.{ℕ, ◌%◌, ◌&&◌, ◌++◌, ◌∙◌, ◌∷◌, ◌≡◌, ◌≤◌}
use Rattle.vm_kernel.proofs.space.RegionsFilled.{at_unfilled}
use Rattle.vm_copies.specs.Copies.{CopyTable}
use Rattle.vm_copies.specs.Copies.{newest_at}
use Rattle.vm_fault.specs.Pushes.{owed_at, owed_of}
use Rattle.vm_fault.specs.Walks.{IsUnder}
use Rattle.vm_kernel.proofs.memory.PagesPushed.{noted_same, owes_here, paid_here, paid_noted, same_page}
use Rattle.vm_kernel.proofs.memory.PagesPushed.{passes_top, sinks_plain, sinks_temporary}
use Rattle.vm_kernel.proofs.memory.PagesShown.{row_elsewhere}
use Rattle.vm_state.proofs.CopyObjects.{temporary_uncopied}
use Rattle.vm_state.proofs.Declared.{shadow_temporary}
use Rattle.vm_kernel.proofs.Common.{row_at}
use Rattle.vm_fault.specs.Faults.{AfterZeros, AtOnce, Copied, Ended, Hits}
use Rattle.vm_fault.specs.Faults.{Raised}
use Rattle.vm_fault.specs.Faults.{Pushed}
use Rattle.vm_fault.specs.Walks.{Finds, PassesOver, Sinks, is_storing, keeps_out, writes_at}
use Rattle.vm_kernel.proofs.memory.ComesForAccess.{works_loaded, works_pushed, works_raised, works_stored, works_touched, works_zeroed}
use Rattle.vm_kernel.proofs.steps.AccessCauses.{loaded_follows, pushed_follows, raised_follows}
use Rattle.vm_kernel.proofs.steps.AccessCauses.{stored_follows, zeroed_follows}
use Rattle.vm_kernel.proofs.steps.EventsGrow.{goes_both, goes_one, suffices}
use Rattle.vm_kernel.proofs.steps.WhereAccessLeads.{IsServed, Leads, leads_of}
use Rattle.vm_kernel.proofs.steps.RowsInOrder.{PutsInOrder}
use Rattle.vm_kernel.specs.Serving.{runs_now}
use Rattle.vm_model.specs.declared.event.Event.TheVariants as event
use Rattle.vm_supply.specs.declared.woken.Woken.TheVariants as woken
use Rattle.vm_waits.specs.declared.waiting.Want.TheVariants as want
use Rattle.vm_kernel.proofs.memory.WalksShown.{shown_at}
use Rattle.vm_state.proofs.Locks.{plain_open}
use Rattle.vm_objects.specs.declared.row.PagerState.TheVariants as state
use Rattle.vm_state.proofs.Declared.{over_declared}
use Rattle.std.proofs.Common.{arith}
use Rattle.vm_abroad.proofs.Regions.{kind_cases}
use Rattle.std.specs.Prelude.{◌<◌, ◌==◌}

-- the kernel behind some more events, which follow from what stood there
pub record Reaches (header : Header) (h : ℕ) (outside : Outside) (doing : Command) (past events : List Event) (k : Parts) (ids : Ids) (after : List Event) :
    Type 0 where
  pub works : Works header h k ids woken.Nobody (after ++ past)
  pub goes : LegalEvents header h outside doing past events after

-- an access that is run, and the top place of its page; the region of a store has no mark
pub record Tries (header : Header) (h : ℕ) (past : List Event) (k : Parts) (ids : Ids) (w : Waiting) (top : PageKey) : Type 0 where
  pub works : Works header h k ids woken.Nobody past
  pub is : entry k.waits.rows w.task.0 ≡ Some w
  pub now : runs_now w.on ≡ true
  pub at : IsAt k.maps k.chains w.task.0 w.want top
  pub clear : is_storing w.want ≡ true → at.row.marked ≡ false

pub leads_there : (header : Header) (h : ℕ) (past : List Event) (k : Parts) (ids : Ids) (w : Waiting) (top : PageKey) → (t : Tries header h past k ids w top)
    → Leads header h past k w.task.0 w.want top t.at
leads_there header h past k ids w top t = leads_of header h k ids past woken.Nobody w.task.0 w top t.works.matches t.works.waits t.works.used.copies t.is t.at

-- a want that stores
pub record IsStore (what : Want) : Type 0 where
  pub address : ℕ
  pub size : ℕ
  pub value : ℕ
  pub is : what ≡ want.Store address size value

pub store_of : (what : Want) → is_storing what ≡ true → IsStore what
store_of (want.Load address size) stores = absurd (let bad : false ≡ true = stores in cc)
store_of (want.CopyTo address pages target next) stores = absurd (let bad : false ≡ true = stores in cc)
store_of (want.Store address size value) stores = record { address = address; size = size; value = value; is = refl }

-- it ends with a page that is here

hit_load : (header : Header) (h : ℕ) (outside : Outside) (doing : Command) (past : List Event) (k : Parts) (ids : Ids) (w : Waiting) (top : PageKey)
    (events : List Event) (steps : ℕ) (key : PageKey) (row : PageRow) (address size value : ℕ) (e : Event) (m2 : HostParts) (waits2 : WaitTable)
    → Tries header h (events ++ past) k ids w top → w.want ≡ want.Load address size → Finds k.memory k.chains steps top key row
    → keeps_out row.lock false ≡ false → Hits w.task (want.Load address size) key row.frame (address % header.size) value e k.memory m2
    → PutsInOrder w.task.0 None k.waits.rows waits2.rows
    → Reaches header h outside doing past events (record k { memory = m2; waits = waits2 }) ids (e ∷ events)
hit_load header h outside doing past k ids w top events steps key row address size value e m2 waits2 t is finds out hits put =
    let moment = events ++ past in
    let loaded : Event = event.Loaded w.task key.object key.page value in
    let works = works_loaded header h moment k ids w key value waits2 (subst IsOfNumber (sym is) tt) t.works t.is t.now put in
    let to = leads_there header h moment k ids w top t in
    let s = shown_at t.works.matches in
    let enough = suffices header h k.memory.frames (loaded ∷ moment) works.matches.core.pages.counted in
    subst (λ (z : Event). Reaches header h outside doing past events (record k { memory = m2; waits = waits2 }) ids (z ∷ events)) (sym hits.2)
    (record {
      works = works_touched header h (loaded ∷ moment) (record k { waits = waits2 }) ids woken.Nobody row.frame m2 hits.1 works;
      goes = goes_one header h outside doing past events loaded t.works.matches.settled
          (loaded_follows header h outside doing moment k w.task w.want top t.at address size value steps key row to s is finds out hits.0 enough);
    })

hit_store : (header : Header) (h : ℕ) (outside : Outside) (doing : Command) (past : List Event) (k : Parts) (ids : Ids) (w : Waiting) (top : PageKey)
    (events : List Event) (row : PageRow) (address size number value : ℕ) (e : Event) (m2 : HostParts) (waits2 : WaitTable)
    → Tries header h (events ++ past) k ids w top → w.want ≡ want.Store address size number → Finds k.memory k.chains 0 top top row
    → keeps_out row.lock true ≡ false → owed_at k.copies top ≡ None
    → Hits w.task (want.Store address size number) top row.frame (address % header.size) value e k.memory m2
    → PutsInOrder w.task.0 None k.waits.rows waits2.rows
    → Reaches header h outside doing past events (record k { memory = m2; waits = waits2 }) ids (e ∷ events)
hit_store header h outside doing past k ids w top events row address size number value e m2 waits2 t is finds out unowed hits put =
    let moment = events ++ past in
    let mid : HostParts = hits.1.0 in
    let stored : Event = event.Stored w.task top.object top.page (address % header.size) size number in
    let works = works_stored header h moment k ids w top row.frame (address % header.size) size number row mid waits2 (subst IsOfNumber (sym is) tt) t.works
    t.is t.now put hits.1.1 finds.found finds.here out in
    let to = leads_there header h moment k ids w top t in
    let s = shown_at t.works.matches in
    let enough = suffices header h mid.frames (stored ∷ moment) works.matches.core.pages.counted in
    subst (λ (z : Event). Reaches header h outside doing past events (record k { memory = m2; waits = waits2 }) ids (z ∷ events)) (sym hits.2)
    (record {
      works = works_touched header h (stored ∷ moment) (record k { memory = mid; waits = waits2 }) ids woken.Nobody row.frame m2 hits.1.2 works;
      goes = goes_one header h outside doing past events stored t.works.matches.settled
          (stored_follows header h outside doing moment k w.task w.want top t.at address size number row to s is (t.clear (ap is_storing is)) finds out
          (paid_here t.works.matches t.works.used.copies top unowed) enough);
    })

hit : (header : Header) (h : ℕ) (outside : Outside) (doing : Command) (past : List Event) (k : Parts) (ids : Ids) (w : Waiting) (top : PageKey)
    (events : List Event) (steps : ℕ) (key : PageKey) (row : PageRow) (value : ℕ) (e : Event) (m2 : HostParts) (waits2 : WaitTable)
    → Tries header h (events ++ past) k ids w top → Finds k.memory k.chains steps top key row → (is_storing w.want ≡ true → steps ≡ 0)
    → keeps_out row.lock (writes_at w.want steps) ≡ false → (is_storing w.want ≡ true → owed_at k.copies key ≡ None)
    → Hits w.task w.want key row.frame (address_in k.maps.size w.want % header.size) value e k.memory m2
    → PutsInOrder w.task.0 None k.waits.rows waits2.rows
    → Reaches header h outside doing past events (record k { memory = m2; waits = waits2 }) ids (e ∷ events)
hit header h outside doing past k ids w top events steps key row value e m2 waits2 t finds none out unowed hits put =
    by w.want refl hits
  where
    by : (what : Want) → w.want ≡ what → Hits w.task what key row.frame (address_in k.maps.size what % header.size) value e k.memory m2
        → Reaches header h outside doing past events (record k { memory = m2; waits = waits2 }) ids (e ∷ events)
    by (want.CopyTo address pages target next) is hits2 = absurd hits2
    by (want.Load address size) is hits2 =
        hit_load header h outside doing past k ids w top events steps key row address size value e m2 waits2 t is finds
        (subst (λ (z : Want). keeps_out row.lock (writes_at z steps) ≡ false) is out) hits2 put
    by (want.Store address size number) is hits2 =
        let there : Finds k.memory k.chains 0 top key row = subst (λ (z : ℕ). Finds k.memory k.chains z top key row) (none (ap is_storing is)) finds in
        let same : key ≡ top = sym there.walks in
        hit_store header h outside doing past k ids w top events row address size number value e m2 waits2 t is
        (subst (λ (z : PageKey). Finds k.memory k.chains 0 top z row) same there)
        (subst (λ (z : ℕ). keeps_out row.lock (z == 0) ≡ false) (none (ap is_storing is))
        (subst (λ (z : Want). keeps_out row.lock (writes_at z steps) ≡ false) is out))
        (subst (λ (z : PageKey). owed_at k.copies z ≡ None) same (unowed (ap is_storing is)))
        (subst (λ (z : PageKey). Hits w.task (want.Store address size number) z row.frame (address % header.size) value e k.memory m2) same hits2) put

-- it goes on with other pages
tries_on : (header : Header) (h : ℕ) (past past2 : List Event) (k : Parts) (ids : Ids) (w : Waiting) (top : PageKey) (m2 : HostParts) (copies : CopyTable)
    → Tries header h past k ids w top → Works header h (record k { memory = m2; copies = copies }) ids woken.Nobody past2
    → Tries header h past2 (record k { memory = m2; copies = copies }) ids w top
tries_on header h past past2 k ids w top m2 copies t works = record { works = works; is = t.is; now = t.now; at = t.at; clear = t.clear }

-- the top place of a walk that finds its page nowhere is one of a temporary object: a declared one has a pager here, which may have each of its pages
top_temporary : (header : Header) (h : ℕ) (past : List Event) (k : Parts) (ids : Ids) (w : Waiting) (top : PageKey) → Tries header h past k ids w top
    → IsServed header h k w.task.0 w.want past → Sinks k.memory k.chains top → named header ≤ top.object.0
top_temporary header h past k ids w top t served sinks = elim (kind_cases header top.object.0) [
  | inl declared ↦ elim (over.none) [
    | inl without ↦
        let own = same declared in
        absurd (served t.at.entry t.at.found (omega (arith, declared, own)) (ended own without))
    | inr lacked ↦ absurd (let bad : false ≡ true = sym (m.core.objects.kinds.present top.object.0 top.page.0 declared) ∙ lacked in cc)
  ]
  | inr temporary ↦ temporary
]
  where
    m : Matches header h k ids [] past
    m = t.works.matches

    over : PassesOver k.memory top
    over = passes_top k.memory k.chains top sinks

    at_top : top.object.0 ≡ t.at.row.top.0
    at_top = ap (λ (z : PageKey). z.object.0) t.at.is

    same : top.object.0 < named header → t.at.entry.region.0 ≡ top.object.0
    same declared =
        over_declared m.core.objects.regions m.core.objects.kinds m.core.spaces.homes.1 t.at.entry.region.0 t.at.row t.at.region
        (omega (arith, declared, at_top)) ∙ sym at_top

    ended : t.at.entry.region.0 ≡ top.object.0 → over.row.state ≡ state.Without → live_control h t.at.entry.region.0 past ≡ None
    ended own without =
        let none : over.row.live ≡ false = (m.core.objects.kinds.kinds top.object.0 over.row over.known).lives ∙ ap has_pager without in
        ap (λ z. live_control h z past) own
        ∙ (m.core.controls.live top.object.0 ∙ (ap live_in over.known ∙ ap (λ b. if b then Some over.row.control else None) none))

-- its page isn't owed where it has no copy
bare_unowed : (copies : CopyTable) (key : PageKey) → newest_at copies key.object.0 ≡ None → owed_at copies key ≡ None
bare_unowed copies key none = ap (owed_of copies key.page) none

-- it ends with its page, after a copy or zeros came, or at once
pub ended : (header : Header) (h : ℕ) (outside : Outside) (doing : Command) (past : List Event) (k : Parts) (ids : Ids) (w : Waiting) (top : PageKey)
    (events : List Event) (value : ℕ) (m2 : HostParts) (have : CopyTable) (after : List Event) (waits2 : WaitTable)
    → IsOfNumber w.want → Tries header h (events ++ past) k ids w top → IsServed header h k w.task.0 w.want (events ++ past)
    → Ended (host_id h) w.task w.want top (address_in k.maps.size w.want % header.size) value k.memory m2 k.chains k.copies have
    events after
    → PutsInOrder w.task.0 None k.waits.rows waits2.rows
    → Reaches header h outside doing past events (record k { memory = m2; copies = have; waits = waits2 }) ids after
ended header h outside doing past k ids w top events value m2 have after waits2 number t served (AtOnce steps key row finds none out owes e hits same told)
    put =
    subst (λ (z : CopyTable). Reaches header h outside doing past events (record k { memory = m2; copies = z; waits = waits2 }) ids after) (sym same)
    (subst (λ (z : List Event). Reaches header h outside doing past events (record k { memory = m2; waits = waits2 }) ids z) (sym told)
    (hit header h outside doing past k ids w top events steps key row value e m2 waits2 t finds none out owes hits put))
ended header h outside doing past k ids w top events value m2 have after waits2 number t served
    (Raised steps key row finds stores out frame copied with_hit raises keeps e hits touched notes told) put =
    let moment = events ++ past in
    let m = t.works.matches in
    let raised : Event = event.Raised (host_id h) key.object key.page top.object top.page in
    let to = leads_there header h moment k ids w top t in
    let s = shown_at m in
    let store = store_of w.want stores in
    let works1 = works_raised header h moment k ids steps key top row frame copied have t.works finds.walks
    (at_unfilled header.size w.task.0 w.want top k.maps k.chains [] m.core.spaces.entries t.at) to.referred finds.found finds.here raises keeps notes in
    let mid = record k { memory = copied; copies = have } in
    let above : IsUnder k.chains top finds.walks.1.0 = finds.walks.1.1 in
    let temporary = shadow_temporary m.core.objects.regions m.core.spaces.homes.1 top.object.0 above.row above.found in
    let bare = temporary_uncopied header h (raised ∷ moment) top.object.0 works1.matches.core.copied.known works1.matches.core.spaces.homes.1 temporary in
    let t1 = tries_on header h moment (raised ∷ moment) k ids w top copied have t works1 in
    let one = goes_one header h outside doing past events raised m.settled
    (raised_follows header h outside doing moment k w.task.0 w.want top t.at store.address store.size store.value steps key row to s store.is (t.clear stores)
    finds out
    (suffices header h copied.frames (raised ∷ moment) works1.matches.core.pages.counted)) in
    let row2 : PageRow = record (clean_row frame unlocked false) { dirty = true } in
    let there : Finds copied k.chains 0 top top row2 = record {
      walks = refl;
      found = row_put k.memory.resident copied.resident top.object.0 top.page.0 (Some row2) raises.row;
      here = refl;
    } in
    let two = hit header h outside doing past mid ids w top (raised ∷ events) 0 top row2 value e with_hit waits2 t1 there
    (λ is. refl) (plain_open row2.lock (writes_at w.want 0) refl) (λ is. bare_unowed have top bare) hits put in
    subst (λ (z : List Event). Reaches header h outside doing past events (record k { memory = m2; copies = have; waits = waits2 }) ids z) (sym told)
    (record {
      works = works_touched header h (e ∷ raised ∷ moment) (record mid { memory = with_hit; waits = waits2 }) ids woken.Nobody row.frame m2 touched two.works;
      goes = goes_both header h outside doing past events (raised ∷ events) (e ∷ raised ∷ events) one two.goes;
    })
ended header h outside doing past k ids w top events value m2 have after waits2 number t served
    (Pushed row finds stores out place owed none frame copied raises keeps e hits notes told) put =
    let moment = events ++ past in
    let m = t.works.matches in
    let raised : Event = event.Raised (host_id h) top.object top.page place.object place.page in
    let to = leads_there header h moment k ids w top t in
    let s = shown_at m in
    let store = store_of w.want stores in
    let out_of : keeps_out row.lock true ≡ false = subst (λ (b : Bool). keeps_out row.lock (b && (0 == 0)) ≡ false) stores out in
    let works1 = works_pushed header h moment k ids top place row frame copied have t.works owed finds.found finds.here out_of raises keeps notes in
    let mid = record k { memory = copied; copies = have } in
    let t1 = tries_on header h moment (raised ∷ moment) k ids w top copied have t works1 in
    let one = goes_one header h outside doing past events raised m.settled
    (pushed_follows header h outside doing moment k w.task.0 w.want top t.at store.address store.size store.value place row to s store.is (t.clear stores)
    finds out_of (owes_here m t.works.used t.works.referred top place owed) (same_page k.copies top place owed) none
    (suffices header h copied.frames (raised ∷ moment) works1.matches.core.pages.counted)) in
    let there : Finds copied k.chains 0 top top row = record {
      walks = refl;
      found = row_elsewhere raises.row top.object.0 top.page.0 (λ object page. let bad : None ≡ Some row = sym none
          ∙ (ap (λ z. row_at k.memory.resident z place.page.0) object ∙ (ap (row_at k.memory.resident top.object.0) page ∙ finds.found)) in cc) ∙ finds.found;
      here = finds.here;
    } in
    let two = hit header h outside doing past mid ids w top (raised ∷ events) 0 top row value e m2 waits2 t1 there
    (λ is. refl) out (λ is. paid_noted top place m.core.copied.fits owed notes) hits put in
    subst (λ (z : List Event). Reaches header h outside doing past events (record k { memory = m2; copies = have; waits = waits2 }) ids z) (sym told)
    (record { works = two.works; goes = goes_both header h outside doing past events (raised ∷ events) (e ∷ raised ∷ events) one two.goes })
ended header h outside doing past k ids w top events value m2 have after waits2 number t served
    (AfterZeros sinks frame brought brings keeps e hits notes told) put =
    let moment = events ++ past in
    let m = t.works.matches in
    let zeros : Event = event.Zeroed (host_id h) top.object top.page in
    let to = leads_there header h moment k ids w top t in
    let s = shown_at m in
    let temporary = top_temporary header h moment k ids w top t served sinks in
    let plain = sinks_plain m top sinks to.referred in
    let same : have ≡ k.copies = noted_same top notes plain in
    let works1 = works_zeroed header h moment k ids top frame brought t.works sinks temporary
    (at_unfilled header.size w.task.0 w.want top k.maps k.chains [] m.core.spaces.entries t.at) to.referred brings keeps plain in
    let bare = temporary_uncopied header h moment top.object.0 m.core.copied.known m.core.spaces.homes.1 temporary in
    let t1 = tries_on header h moment (zeros ∷ moment) k ids w top brought k.copies t works1 in
    let one = goes_one header h outside doing past events zeros m.settled
    (zeroed_follows header h outside doing moment k w.task.0 w.want top t.at temporary to s t.clear sinks
    (sinks_temporary m top sinks to.referred (inl temporary))
    (suffices header h brought.frames (zeros ∷ moment) works1.matches.core.pages.counted)) in
    let row2 : PageRow = clean_row frame unlocked false in
    let there : Finds brought k.chains 0 top top row2 = record {
      walks = refl;
      found = row_put k.memory.resident brought.resident top.object.0 top.page.0 (Some row2) brings.row;
      here = refl;
    } in
    let two = hit header h outside doing past (record k { memory = brought }) ids w top (zeros ∷ events) 0 top row2 value e m2 waits2 t1 there (λ is. refl)
    (plain_open row2.lock (writes_at w.want 0) refl) (λ is. bare_unowed k.copies top bare) hits put in
    subst (λ (z : CopyTable). Reaches header h outside doing past events (record k { memory = m2; copies = z; waits = waits2 }) ids after) (sym same)
    (subst (λ (z : List Event). Reaches header h outside doing past events (record k { memory = m2; waits = waits2 }) ids z) (sym told)
    (record { works = two.works; goes = goes_both header h outside doing past events (zeros ∷ events) (e ∷ zeros ∷ events) one two.goes }))
ended header h outside doing past k ids w top events value m2 have after waits2 number t served
    (Copied address pages next target is steps key row finds out is_none copies same) put =
    absurd (subst IsOfNumber is number)
