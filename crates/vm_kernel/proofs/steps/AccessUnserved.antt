-- An access on a declared object without a control fails.
use Rattle.std.proofs.Common.{arith}
use Rattle.std.specs.Option.{option_map}
use Rattle.vm_base.specs.declared.entry.Entry.{Entry}
use Rattle.vm_kernel.proofs.Common.{AllReferred, Asker, Bool, Command, Event, FindsPage, HasWaits, Header, Ids, IsAt, IsInside, IsOfNumber, IsPlaceOf}
use Rattle.vm_kernel.proofs.Common.{IsReferred, LeadsTo, LegalEvents, List, Matches, None, ObjectRow, Option, Outside, PageKey, PageRow, Parts, RegionRow, Some}
use Rattle.vm_kernel.proofs.Common.{WaitTable, Waiting, Want, Works, [], access_in, address_in, ap, copies_to, entry, entry_at, false, found_row, if◌then◌else◌}
use Rattle.vm_kernel.proofs.Common.{length, live_control, live_in, named, nat_lt, nat_tests, next_page, not, object_at, page_at, page_key, page_on, refl}
use Rattle.vm_kernel.proofs.Common.{region_at, row_at, rows_in, some_is, suc, sym, true, zero, ℕ, ◌&&◌, ◌++◌, ◌<◌, ◌∙◌, ◌∷◌, ◌≡◌}
use Rattle.vm_fault.specs.Walks.{top_place}
use Rattle.vm_kernel.proofs.controls.DeclaredKinds.{declared_serves}
use Rattle.vm_kernel.proofs.controls.WaitersFail.{Standing, StandsFailed, stands_failed, stays, waits_here}
use Rattle.vm_kernel.proofs.memory.WalksShown.{shown_at, want_address}
use Rattle.vm_kernel.proofs.space.RegionRows.{region_row}
use Rattle.vm_kernel.proofs.steps.EventsGrow.{goes_one}
use Rattle.vm_kernel.proofs.steps.FoundPageEnds.{FindsFirst, finds_first, walk_ends}
use Rattle.vm_kernel.proofs.steps.RowsInOrder.{PutsInOrder}
use Rattle.vm_kernel.proofs.steps.WhereAccessLeads.{declared_lives, leads_of}
use Rattle.vm_kernel.specs.Destroying.{place_led, unserved, unserved_at}
use Rattle.vm_kernel.specs.Matches.{HasSlow, Undone}
use Rattle.vm_legal.specs.Destroyed.{FailsUnserved}
use Rattle.vm_legal.specs.InTurn.{FallsInTurn}
use Rattle.vm_legal.specs.Licences.{Unserved}
use Rattle.vm_legal.specs.Outside.{is_wild}
use Rattle.vm_maps.specs.Judge.{place_at}
use Rattle.vm_model.specs.Regions.{Backing, backing_of}
use Rattle.vm_model.specs.declared.event.Event.TheVariants as event
use Rattle.vm_shadow.specs.Chains.{shadow_at}
use Rattle.vm_shadow.specs.declared.shadow_row.ShadowRow.{ShadowRow}
use Rattle.vm_state.proofs.Declared.{whole_row}
use Rattle.vm_state.proofs.Filling.{copies_next, number_fills, used_over}
use Rattle.vm_state.proofs.Shown.{misses}
use Rattle.vm_state.specs.References.{is_live_in}
use Rattle.vm_state.specs.Waiters.{is_awaited}
use Rattle.vm_supply.specs.declared.woken.Woken.TheVariants as woken
use Rattle.vm_waits.specs.declared.waiting.On.TheVariants as on
use Rattle.vm_waits.specs.declared.waiting.Want.TheVariants as want

-- the page of an access: of a declared object of which no control lives
pub record IsUnserved (header : Header) (k : Parts) (task : ℕ) (what : Want) (key : PageKey) : Type 0 where
  pub entry : Entry
  pub found : entry_at (address_in k.maps.size what) (rows_in task k.maps) ≡ Some entry
  pub declared : entry.region.0 < named header
  pub dead : is_live_in (object_at k.memory.objects entry.region.0) ≡ false
  pub object : key.object.0 ≡ entry.region.0
  pub page : key.page.0 ≡ page_at k.maps.size (address_in k.maps.size what) entry
  pub number : IsOfNumber what

pub unserved_of : (header : Header) (k : Parts) (w : Waiting) (key : PageKey) → k.declared.items ≡ header.objects.items → unserved k w ≡ Some key
    → IsUnserved header k w.task.0 w.want key
unserved_of header k w key declared is = by w.want is
  where
    all : length k.declared.items ≡ named header
    all = ap length declared

    plain : (what : Want) → IsOfNumber what → (x : Option Entry) → entry_at (address_in k.maps.size what) (rows_in w.task.0 k.maps) ≡ x
        → unserved_at k (option_map (place_at k.maps.size (address_in k.maps.size what)) x) ≡ Some key → IsUnserved header k w.task.0 what key
    plain what number None found some = absurd (let bad : None ≡ Some key = some in cc)
    plain what number (Some e) found some = go (nat_lt e.region.0 (length k.declared.items)) (is_live_in (object_at k.memory.objects e.region.0)) refl refl some
      where
        its : PageKey
        its = record { object = record { 0 = e.region.0 }; page = record { 0 = page_at k.maps.size (address_in k.maps.size what) e } }

        go : (a b : Bool) → nat_lt e.region.0 (length k.declared.items) ≡ a → is_live_in (object_at k.memory.objects e.region.0) ≡ b
            → (if a && not b then Some its else None) ≡ Some key → IsUnserved header k w.task.0 what key
        go true false low dead same =
            let key_is : its ≡ key = some_is its key same in
            record {
              entry = e;
              found = found;
              declared = grind (arith, nat_tests, all, low);
              dead = dead;
              object = ap (λ (z : PageKey). z.object.0) (sym key_is);
              page = ap (λ (z : PageKey). z.page.0) (sym key_is);
              number = number;
            }
        go true true low lives same = absurd (let bad : None ≡ Some key = same in cc)
        go false b low lives same = absurd (let bad : None ≡ Some key = same in cc)

    by : (what : Want) → unserved_at k (place_led k.maps w.task.0 what) ≡ Some key → IsUnserved header k w.task.0 what key
    by (want.Load address bytes) some = plain (want.Load address bytes) tt (entry_at address (rows_in w.task.0 k.maps)) refl some
    by (want.Store address bytes value) some = plain (want.Store address bytes value) tt (entry_at address (rows_in w.task.0 k.maps)) refl some
    by (want.CopyTo address pages target next) some = absurd (let bad : None ≡ Some key = some in cc)

dead_none : (known : Option ObjectRow) → is_live_in known ≡ false → live_in known ≡ None
dead_none None dead = refl
dead_none (Some row) dead = ap (λ b. if b then Some row.control else None) dead

-- no page of the object has a row
no_page : (header : Header) (h : ℕ) (k : Parts) (ids : Ids) (past : List Event) (o p : ℕ) (row : PageRow) → Standing header h k ids past
    → AllReferred k.chains k.memory.objects k.memory.resident → o < named header → is_live_in (object_at k.memory.objects o) ≡ false
    → row_at k.memory.resident o p ≡ Some row → ⊥
no_page header h k ids past o p row core referred declared dead found =
    let is : IsReferred k.memory.objects o = referred.pages o p row found in
    let lives = declared_serves header k.memory.objects o is.row row core.setting.ranged is.known (core.objects.kinds.kinds o is.row is.known) declared
    (referred.locks o p row found) in
    let bad : true ≡ false = sym lives ∙ (ap is_live_in (sym is.known) ∙ dead) in
    cc

-- a place of an access on a declared object is one in that object
place_alone : (header : Header) (h : ℕ) (k : Parts) (ids : Ids) (past : List Event) (task : ℕ) (what : Want) (e : Entry) (key : PageKey)
    → Standing header h k ids past → entry_at (address_in k.maps.size what) (rows_in task k.maps) ≡ Some e → e.region.0 < named header
    → IsPlaceOf k.maps k.chains task what key → key.object.0 ≡ e.region.0
place_alone header h k ids past task what e key core found declared place = by place.steps place.leads
  where
    same : place.at.entry ≡ e
    same = some_is place.at.entry e (sym place.at.found ∙ found)

    region : region_at k.chains e.region.0 ≡ Some place.at.row
    region = ap (λ (z : Entry). region_at k.chains z.region.0) (sym same) ∙ place.at.region

    top : place.top.object.0 ≡ e.region.0
    top = ap (λ (z : PageKey). z.object.0) place.at.is
        ∙ (whole_row core.objects.regions core.spaces.homes.1 e.region.0 place.at.row declared region).top

    bare : (row : ShadowRow) → shadow_at k.chains place.top.object.0 ≡ Some row → ⊥
    bare row under =
        let bad : false ≡ true = sym (core.spaces.homes.1.bare place.top.object.0 (omega (arith, top, declared)))
        ∙ ap (λ (z : Backing). z.backed) (core.objects.regions.shadows place.top.object.0 row under) in
        cc

    by : (steps : ℕ) → LeadsTo k.chains steps place.top key → key.object.0 ≡ e.region.0
    by zero leads = ap (λ (z : PageKey). z.object.0) (sym leads) ∙ top
    by (suc n) leads = absurd (bare leads.1.row leads.1.found)

-- why it fails
unserved_cause : (header : Header) (h : ℕ) (k : Parts) (ids : Ids) (past : List Event) (key : PageKey) (w : Waiting) → Standing header h k ids past
    → HasWaits header h k woken.Nobody past → HasSlow header k past → entry k.waits.rows w.task.0 ≡ Some w → IsUnserved header k w.task.0 w.want key
    → FailsUnserved header w.task.0 key.object.0 key.page.0 past
unserved_cause header h k ids past key w core has copies found u =
    record {
      access = access_in k.maps.size (copies_to w.destination) w.want;
      waits = waits_here header h k ids past woken.Nobody w u.entry core has copies found u.found;
      region_is = sym u.object;
      wild = ap (is_wild header) u.object ∙ wild (is_wild header u.entry.region.0) refl;
      none = ap (λ z. live_control h z past) u.object ∙ none;
      page_is =
          u.page
          ∙ (ap (λ z. page_at z (address_in k.maps.size w.want) u.entry) core.spaces.tasks.sized
          ∙ ap (λ z. page_at header.size z u.entry)
          (sym (want_address k.maps.size header.size (next_page w.task.0 past) (copies_to w.destination) w.want core.spaces.tasks.sized
          (copies_next copies w.task.0 w found))));
    }
  where
    none : live_control h u.entry.region.0 past ≡ None
    none = core.controls.live u.entry.region.0 ∙ dead_none (object_at k.memory.objects u.entry.region.0) u.dead

    wild : (b : Bool) → is_wild header u.entry.region.0 ≡ b → is_wild header u.entry.region.0 ≡ true
    wild true is = is
    wild false tame =
        let there = found_row (IsInside header.size k.chains) (address_in k.maps.size w.want) (rows_in w.task.0 k.maps) u.entry
        (core.spaces.entries.inside w.task.0) u.found in
        let region = region_row k.chains u.entry.region.0 there.is.region in
        absurd (declared_lives header h past k ids core u.entry.region.0 region.0 region.1 u.declared tame none)

-- the kernel behind its end
pub record EndsUnserved (header : Header) (h : ℕ) (outside : Outside) (doing : Command) (past events : List Event) (k : Parts) (ids : Ids)
    (after : List Event) : Type 0 where
  pub undone : Undone header h k ids (after ++ past)
  pub goes : LegalEvents header h outside doing past events after

pub ends_unserved : (header : Header) (h : ℕ) (outside : Outside) (doing : Command) (past events : List Event) (k : Parts) (ids : Ids) (w : Waiting)
    (key : PageKey) (waits : WaitTable) → Undone header h k ids (events ++ past) → FallsInTurn header w.task.0 key.object.0 (events ++ past)
    → entry k.waits.rows w.task.0 ≡ Some w → unserved k w ≡ Some key → PutsInOrder w.task.0 None k.waits.rows waits.rows
    → EndsUnserved header h outside doing past events (record k { waits = waits }) ids (event.Failed w.task key.object key.page ∷ events)
ends_unserved header h outside doing past events k ids w key waits undone turn found is both =
    record {
      undone =
          record {
            core = stands.core;
            settled = record { none_owed = refl; shut = λ region. refl };
            used =
                used_over w.task.0 w k.waits.rows waits.rows undone.used found
                (number_fills header k.maps k.chains k.memory.resident w.task.0 w.want w.destination _ _ u.number (undone.used.copies.each w.task.0 w found))
                both.entry;
            referred = undone.referred;
            thin = undone.thin;
            waits = stands.waits;
            order = stands.order;
          };
      goes = goes_one header h outside doing past events (event.Failed w.task key.object key.page) undone.settled stands.follows;
    }
  where
    u : IsUnserved header k w.task.0 w.want key
    u = unserved_of header k w key undone.core.setting.objects is

    not_its : (o p : ℕ) (row : PageRow) → row_at k.memory.resident o p ≡ Some row → w.on ≡ on.Page (page_key o p) → ⊥
    not_its o p row there waits_on =
        let alone : o ≡ u.entry.region.0 = place_alone header h k ids (events ++ past) w.task.0 w.want u.entry (page_key o p) undone.core u.found u.declared
        (undone.waits.aims w.task.0 w (page_key o p) found waits_on) in
        no_page header h k ids (events ++ past) u.entry.region.0 p row undone.core undone.referred u.declared u.dead
        (ap (λ z. row_at k.memory.resident z p) (sym alone) ∙ there)

    askers : (o p : ℕ) (row : PageRow) → row_at k.memory.resident o p ≡ Some row → is_awaited row ≡ true → Asker waits.rows o p
    askers o p row there away =
        let was = undone.waits.askers o p row there away in
        record {
          task = was.task;
          row = was.row;
          is = stays w.task.0 was.task k.waits.rows waits.rows was.row both.entry (λ same.
              let rows : w ≡ was.row = some_is w was.row (sym found ∙ (ap (entry k.waits.rows) same ∙ was.is)) in
              not_its o p row there (ap (λ (z : Waiting). z.on) rows ∙ was.waits)) was.is;
          waits = was.waits;
        }

    stands : StandsFailed header h outside doing k ids woken.Nobody (event.Failed w.task key.object key.page) waits (events ++ past)
    stands =
        stands_failed header h outside doing (events ++ past) key k ids woken.Nobody w waits undone.core undone.waits undone.used.copies undone.order
        (Unserved (unserved_cause header h k ids (events ++ past) key w undone.core undone.waits undone.used.copies found u), turn) found both askers

-- it doesn't find its page
pub finds_none : (header : Header) (h : ℕ) (past : List Event) (k : Parts) (ids : Ids) (w : Waiting) (key : PageKey) → Works header h k ids woken.Nobody past
    → entry k.waits.rows w.task.0 ≡ Some w → unserved k w ≡ Some key → FindsPage header w.task.0 past → ⊥
finds_none header h past k ids w key works found is finds = by (row_at k.memory.resident u.entry.region.0 first.finds.page) refl
  where
    m : Matches header h k ids [] past
    m = works.matches

    u : IsUnserved header k w.task.0 w.want key
    u = unserved_of header k w key m.core.setting.objects is

    region : (row : RegionRow) × (region_at k.chains u.entry.region.0 ≡ Some row)
    region = region_row k.chains u.entry.region.0 (found_row (IsInside header.size k.chains) (address_in k.maps.size w.want) (rows_in w.task.0 k.maps) u.entry
        (m.core.spaces.entries.inside w.task.0) u.found).is.region

    top : PageKey
    top = top_place region.0 (page_at k.maps.size (address_in k.maps.size w.want) u.entry)

    at : IsAt k.maps k.chains w.task.0 w.want top
    at = record { entry = u.entry; found = u.found; row = region.0; region = region.1; is = refl }

    first : FindsFirst header h past w.want top region.0
    first = finds_first header h past k w.task.0 w.want top at
        (leads_of header h k ids past woken.Nobody w.task.0 w top m works.waits works.used.copies found at) finds

    own : top.object.0 ≡ u.entry.region.0
    own = (whole_row m.core.objects.regions m.core.spaces.homes.1 u.entry.region.0 region.0 u.declared region.1).top

    ends : top.object.0 ≡ first.finds.object
    ends =
        (walk_ends _ (λ o. backing_of header o past) first.finds.steps top.object.0 top.page.0 first.finds.object first.finds.page
        (m.core.spaces.homes.1.bare top.object.0 (let less = u.declared in omega (arith, own, less))) first.finds.walks).0

    here : (page_on header h u.entry.region.0 first.finds.page past).here ≡ true
    here = ap (λ z. (page_on header h z first.finds.page past).here) (sym own ∙ ends) ∙ first.finds.here

    by : (x : Option PageRow) → row_at k.memory.resident u.entry.region.0 first.finds.page ≡ x → ⊥
    by None none = let bad : false ≡ true = sym (misses (shown_at m) u.entry.region.0 first.finds.page none).away ∙ here in cc
    by (Some row) there = no_page header h k ids past u.entry.region.0 first.finds.page row m.core works.referred u.declared u.dead there
