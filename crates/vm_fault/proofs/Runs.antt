-- An access is run: its region has an object of its own where it needs one, and then its walk begins at the top.
use Rattle.std.proofs.Math.Nat.{mul-add-mod_self_left}
use Rattle.std.proofs.lemmas.Option.{MatchOption-at_some, same_Some}
use Rattle.std.proofs.Common.{◌≡◌, ℕ, ◌+◌, ◌*◌, ◌%◌, ◌<◌, ◌≤◌, ◌&&◌, Bool, true, false, List, Some, refl, ap, sym, ◌∙◌, subst, arith, inl, inr, Result, Ok, Err}
use Rattle.std.specs.Prelude.{IfOk, IfSome, IsSome, OnOk, is_some}
use Rattle.vm_base.specs.Entries.{entry_at, page_at}
use Rattle.vm_base.specs.Pages.{IsPageSize, access_fits}
use Rattle.vm_base.specs.declared.entry.Entry.{Entry}
use Rattle.vm_base.specs.declared.failure.NoMemory.{NoMemory}
use Rattle.vm_base.specs.declared.ids.PageKey.{PageKey}
use Rattle.vm_base.specs.declared.ids.RegionId.{RegionId}
use Rattle.vm_copies.specs.Copies.{CopyTable}
use Rattle.vm_fault.specs.Faults.{CanCopy, CanFault, FaultState, Faulted, KeepsPlan, LiesWithin, Prepares}
use Rattle.vm_fault.specs.Pushes.{CopiesFit, IsFresh}
use Rattle.vm_fault.specs.Stops.{CanGo, CopiesFrom, CopiesNext, Goes, Stands}
use Rattle.vm_fault.specs.Walks.{ChainsFit, is_storing, top_place}
use Rattle.vm_fault.specs.declared.running.Running.{Running}
use Rattle.vm_fault.specs.declared.step.FaultStep.{FaultStep}
use Rattle.vm_fault.specs.declared.walking.Spot.{Spot}
use Rattle.vm_fault.proofs.Copied.{comes_copied, prepared_copied}
use Rattle.vm_fault.proofs.States.{state_of}
use Rattle.vm_maps.specs.Judge.{place_at}
use Rattle.vm_maps.specs.Maps.{Mapped, rows_in}
use Rattle.vm_maps.specs.declared.place.Place.{Place}
use Rattle.vm_model.specs.declared.event.Event.{Event}
use Rattle.vm_objects.specs.Objects.{ObjectTable}
use Rattle.vm_parts.specs.Fits.{Fit, object_pages, pages_of_row}
use Rattle.vm_parts.specs.declared.parts.HostParts.{HostParts}
use Rattle.vm_parts.proofs.Rows.{if_true}
use Rattle.vm_shadow.specs.Chains.{ChainTable, region_at}
use Rattle.vm_shadow.specs.declared.region_row.RegionRow.{RegionRow}
use Rattle.vm_waits.specs.Wants.{IsSizedWant, address_in, want_size}
use Rattle.vm_waits.specs.declared.waiting.Want.{Want}
use Rattle.vm_waits.specs.declared.waiting.Want.TheVariants as want

-- whole pages behind an address at a page's begin there is another
page_later : (size address n : ℕ) → address % size ≡ 0 → (address + n * size) % size ≡ 0
page_later size address n whole =
    let turned : address + n * size ≡ size * n + address = omega arith in
    ap (λ a. a % size) turned ∙ (mul-add-mod_self_left size n address ∙ whole)

-- the bytes of an access lie in one page
pub access_inside : (size : ℕ) (what : Want) → IsPageSize size → IsSizedWant size what → address_in size what % size + want_size size what ≤ size
access_inside size (want.Load address n) page sized = access_fits size n address page sized.0 sized.1
access_inside size (want.Store address n value) page sized = access_fits size n address page sized.0 sized.1
access_inside size (want.CopyTo address pages target next) page sized = let first = page_later size address next sized.0 in omega (arith, first)

-- from the top place of its region it can copy its next page
pub copies_from : (what : Want) (row : RegionRow) (page : ℕ) (parts : HostParts) (chains : ChainTable) (size : ℕ) → IsSizedWant size what
    → CanCopy what row parts chains → CopiesFrom what (top_place row page) parts
copies_from (want.Load address n) row page parts chains size sized can = tt
copies_from (want.Store address n value) row page parts chains size sized can = tt
copies_from (want.CopyTo address pages target next) row page parts chains size sized can =
    record { told = can.told; present = can.present (row.shift + page); inside = omega (arith, can.inside, sized.1); unmade = can.unmade next (omega arith) }

-- a store takes the region's mark and other accesses leave all as it was, so a slow copy can still
pub copies_prepared : (what : Want) (region : RegionId) (row : RegionRow) (page : ℕ) (s mid : FaultState) (size : ℕ) → IsSizedWant size what
    → CanCopy what row s.parts s.chains → Prepares (is_storing what && row.marked) region row s mid
    → (now : RegionRow) → region_at s.chains region.0 ≡ Some row → region_at mid.chains region.0 ≡ Some now → CopiesFrom what (top_place now page) mid.parts
copies_prepared (want.Load address n) region row page s mid size sized can made now was is = tt
copies_prepared (want.Store address n value) region row page s mid size sized can made now was is = tt
copies_prepared (want.CopyTo address pages target next) region row page s mid size sized can same now was is =
    let first = copies_from (want.CopyTo address pages target next) row page s.parts s.chains size sized can in
    let rows : Some row ≡ Some now = sym was ∙ (sym (ap (λ (z : FaultState). region_at z.chains region.0) same) ∙ is) in
    subst (λ (z : RegionRow). CopiesNext (top_place z page) target next mid.parts) (same_Some row now rows)
    (subst (λ (z : FaultState). CopiesNext (top_place row page) target next z.parts) (sym same) first)

-- what is known behind what a mark brings
pub record IsPrepared (region : RegionId) (was : RegionRow) (s mid : FaultState) : Type 0 where
  pub fit : Fit mid.parts
  pub fits : ChainsFit mid.chains mid.parts.objects
  pub buffers : mid.parts.buffers ≡ s.parts.buffers
  pub frames : mid.parts.frames ≡ s.parts.frames
  pub resident : mid.parts.resident ≡ s.parts.resident
  pub row : RegionRow
  pub found : region_at mid.chains region.0 ≡ Some row
  pub pages : row.pages ≡ was.pages

pub prepared : (is : Bool) (region : RegionId) (row : RegionRow) (s mid : FaultState) → Fit s.parts → ChainsFit s.chains s.parts.objects
    → region_at s.chains region.0 ≡ Some row → Prepares is region row s mid → IsPrepared region row s mid
prepared true region row s mid fit fits found (inl made) =
    record {
      fit = made.fit;
      fits = made.fits;
      buffers = ap (λ (z : HostParts). z.buffers) made.parts;
      frames = ap (λ (z : HostParts). z.frames) made.parts;
      resident = ap (λ (z : HostParts). z.resident) made.parts;
      pages = refl;
      row = record row { top = made.object; shift = 0; marked = false };
      found = if_true region.0 _ _ _ (made.chains.at region.0);
    }
prepared true region row s mid fit fits found (inr loses) =
    record {
      fit = subst (λ (z : HostParts). Fit z) (sym loses.parts) fit;
      fits = loses.fits;
      buffers = ap (λ (z : HostParts). z.buffers) loses.parts;
      frames = ap (λ (z : HostParts). z.frames) loses.parts;
      resident = ap (λ (z : HostParts). z.resident) loses.parts;
      pages = refl;
      row = record row { marked = false };
      found = if_true region.0 _ _ _ (loses.chains.at region.0);
    }
prepared false region row s mid fit fits found same =
    record {
      fit = subst (λ (z : FaultState). Fit z.parts) (sym same) fit;
      fits = subst (λ (z : FaultState). ChainsFit z.chains z.parts.objects) (sym same) fits;
      buffers = ap (λ (z : FaultState). z.parts.buffers) same;
      frames = ap (λ (z : FaultState). z.parts.frames) same;
      resident = ap (λ (z : FaultState). z.parts.resident) same;
      pages = refl;
      row = row;
      found = ap (λ (z : FaultState). region_at z.chains region.0) same ∙ found;
    }

-- what a mark brings notes nothing
copies_same : (is : Bool) (region : RegionId) (row : RegionRow) (s mid : FaultState) → Prepares is region row s mid → mid.copies ≡ s.copies
copies_same true region row s mid (inl made) = made.copies
copies_same true region row s mid (inr loses) = loses.copies
copies_same false region row s mid same = ap (λ (z : FaultState). z.copies) same

-- copy objects fit then, and the target of a slow copy is none of them
pub copies_ready : (maps : Mapped) (task : ℕ) (what : Want) (is : Bool) (s mid : FaultState) → (can : CanFault maps s task what)
    → Prepares is can.entry.region can.row s mid → CopiesFit mid.copies mid.parts mid.chains × IsFresh what mid.copies
copies_ready maps task what is s mid can prepares = (
  prepared_copied is can.entry.region can.row s mid can.copied can.named can.unmade prepares,
  subst (IsFresh what) (sym (copies_same is can.entry.region can.row s mid prepares)) can.fresh,
)

pub can_go : (run : Running) (region : RegionId) (room : ℕ) (s mid : FaultState) (top : Spot) (was : RegionRow)
    → IsPrepared region was s mid → Stands mid.parts.objects top → top.key ≡ run.top → IsPageSize mid.parts.buffers.size
    → run.at ≡ address_in mid.parts.buffers.size run.want % mid.parts.buffers.size → IsSizedWant mid.parts.buffers.size run.want
    → CopiesFrom run.want run.top mid.parts → 2 ≤ room → CanGo run mid.parts room
can_go run region room s mid top was is stands same size at sized copies some =
    record {
      fit = is.fit;
      top =
          subst (λ (z : PageKey). z.page.0 < object_pages mid.parts.objects z.object.0) same
          (subst (λ (n : ℕ). top.key.page.0 < n) (sym (ap pages_of_row stands.known)) stands.inside);
      inside =
          subst (λ (n : ℕ). n + want_size mid.parts.buffers.size run.want ≤ mid.parts.buffers.size) (sym at)
          (access_inside mid.parts.buffers.size run.want size sized);
      sized = sized;
      copies = copies;
      log = some;
    }

-- an access leads where its entry says
pub leads : (maps : Mapped) (s : FaultState) (task address : ℕ) (what : Want) (place : Place) → (can : CanFault maps s task what)
    → address ≡ address_in maps.size what
    → ((entry : Entry) → entry_at address (rows_in task maps) ≡ Some entry → place ≡ place_at maps.size address entry)
    → place ≡ place_at maps.size (address_in maps.size what) can.entry
leads maps s task address what place can is led =
    led can.entry (ap (λ a. entry_at a (rows_in task maps)) is ∙ can.found) ∙ ap (λ a. place_at maps.size a can.entry) is

-- and lies so far behind its page's begin
pub offset_is : (offset address size now bytes : ℕ) (what : Want) → offset ≡ address % now → address ≡ address_in size what → size ≡ bytes → now ≡ bytes
    → offset ≡ address_in bytes what % bytes
offset_is offset address size now bytes what is its first then =
    is ∙ (ap (λ a. a % now) its ∙ (ap (λ n. address_in n what % now) first ∙ ap (λ n. address_in bytes what % n) then))

-- the row of a region is that of the access's entry
abbrev pub WasPrepared : Want → Place → FaultState → FaultState → Type 0
WasPrepared what place s mid = IfSome (region_at s.chains place.region.0) (λ row. Prepares (is_storing what && row.marked) place.region row s mid)

pub place_prepared : (maps : Mapped) (task : ℕ) (what : Want) (place : Place) (s mid : FaultState) → (can : CanFault maps s task what)
    → place ≡ place_at maps.size (address_in maps.size what) can.entry → WasPrepared what place s mid
    → Prepares (is_storing what && can.row.marked) can.entry.region can.row s mid
place_prepared maps task what place s mid can is was =
    MatchOption-at_some _ (λ row. Prepares (is_storing what && row.marked) can.entry.region row s mid) can.row can.region
    (subst (λ (z : Place). WasPrepared what z s mid) is was)

-- an access is about a page of its region
lies_inside : (size : ℕ) (what : Want) (entries : List Entry) (entry : Entry) (row : RegionRow) → IsSizedWant size what
    → LiesWithin size what entries entry row → page_at size (address_in size what) entry < row.pages
lies_inside size (want.Load address n) entries entry row sized within = within
lies_inside size (want.Store address n value) entries entry row sized within = within
lies_inside size (want.CopyTo address pages target next) entries entry row sized within = (within next sized.1).1

-- what is known then of the region to which an access leads, and of the parts
pub record IsReady (place : Place) (s mid : FaultState) : Type 0 where
  pub there : IsSome (region_at mid.chains place.region.0)
  pub inside : IfSome (region_at mid.chains place.region.0) (λ row. place.page.0 < row.pages)
  pub fits : ChainsFit mid.chains mid.parts.objects
  pub copied : CopiesFit mid.copies mid.parts mid.chains
  pub frames : mid.parts.frames ≡ s.parts.frames
  pub resident : mid.parts.resident ≡ s.parts.resident

pub ready_place : (maps : Mapped) (task size address : ℕ) (what : Want) (place : Place) (s mid : FaultState) (told : List Event)
    → CanFault maps s task what → address ≡ address_in size what → size ≡ s.parts.buffers.size
    → ((entry : Entry) → entry_at address (rows_in task maps) ≡ Some entry → place ≡ place_at maps.size address entry) → told ≡ s.events
    → WasPrepared what place (record s { events = told }) mid → IsReady place s mid
ready_place maps task size address what place s mid told can its bytes led same was =
    let is = leads maps s task address what place can (its ∙ ap (λ n. address_in n what) (bytes ∙ sym can.size)) led in
    let first = subst (λ (z : List Event). WasPrepared what place (record s { events = z }) mid) same was in
    let prepares = place_prepared maps task what place s mid can is first in
    let ready = prepared (is_storing what && can.row.marked) can.entry.region can.row s mid can.fit can.chains can.region prepares in
    let within = lies_inside maps.size what (rows_in task maps) can.entry can.row can.sized can.inside in
    let inside : page_at maps.size (address_in maps.size what) can.entry < ready.row.pages = omega (arith, within, ready.pages) in
    record {
      there = subst (λ (z : Place). IsSome (region_at mid.chains z.region.0)) (sym is) (ap is_some ready.found);
      inside = subst (λ (z : Place). IfSome (region_at mid.chains z.region.0) (λ row. z.page.0 < row.pages)) (sym is)
          (subst (λ z. IfSome z (λ row. page_at maps.size (address_in maps.size what) can.entry < row.pages)) (sym ready.found) inside);
      fits = ready.fits;
      copied = (copies_ready maps task what (is_storing what && can.row.marked) s mid can prepares).0;
      frames = ready.frames;
      resident = ready.resident;
    }

-- the top place, in the region as it is then
abbrev pub IsTop : Place → FaultState → PageKey → Type 0
IsTop place mid top = IfSome (region_at mid.chains place.region.0) (λ row. top ≡ record { object = row.top; page = record { 0 = row.shift + place.page.0 } })

pub faulted : (maps : Mapped) (run : Running) (place : Place) (answer : FaultStep) (s mid : FaultState) (new : HostParts)
    (have : CopyTable) (after : List Event) → (can : CanFault maps s run.task.0 run.want)
    → place ≡ place_at maps.size (address_in maps.size run.want) can.entry → WasPrepared run.want place s mid → IsTop place mid run.top
    → run.at ≡ address_in mid.parts.buffers.size run.want % mid.parts.buffers.size
    → Goes run answer mid.chains mid.copies have mid.parts new mid.events after → KeepsPlan mid.parts new
    → Faulted maps run.host run.task run.want run.may_claim answer s (state_of new mid.chains have mid.ids after)
faulted maps run place answer s mid new have after can is was top at goes plan =
    let prepares = place_prepared maps run.task.0 run.want place s mid can is was in
    let ready = prepared (is_storing run.want && can.row.marked) can.entry.region can.row s mid can.fit can.chains can.region prepares in
    let copied = copies_ready maps run.task.0 run.want (is_storing run.want && can.row.marked) s mid can prepares in
    let offset : run.at ≡ address_in maps.size run.want % s.parts.buffers.size = at
    ∙ (ap (λ z. address_in z.size run.want % z.size) ready.buffers ∙ ap (λ n. address_in n run.want % s.parts.buffers.size) (sym can.size)) in
    let comes = subst (λ (n : ℕ). Goes (record run { at = n }) answer mid.chains mid.copies have mid.parts new mid.events after) offset goes mid.ids in
    record {
      entry = can.entry;
      found = can.found;
      row = can.row;
      region = can.region;
      mid = mid;
      prepares = prepares;
      top = run.top;
      at = record {
        entry = can.entry;
        found = can.found;
        row = ready.row;
        region = ready.found;
        is = MatchOption-at_some _ _ ready.row ready.found (subst (λ (z : Place). IsTop z mid run.top) is top);
      };
      comes = comes;
      chains = refl;
      ids = refl;
      fit = plan.fit;
      fits = subst (λ (z : ObjectTable). ChainsFit mid.chains z) (sym plan.objects) ready.fits;
      copied = comes_copied run.host run.task run.want run.may_claim run.top _ answer mid _ copied.0 copied.1 comes;
    }

pub all_faulted : (maps : Mapped) (run : Running) (place : Place) (result : Result FaultStep NoMemory) (s mid : FaultState) (new : HostParts)
    (have : CopyTable) (after : List Event) → (can : CanFault maps s run.task.0 run.want)
    → place ≡ place_at maps.size (address_in maps.size run.want) can.entry → WasPrepared run.want place s mid → IsTop place mid run.top
    → run.at ≡ address_in mid.parts.buffers.size run.want % mid.parts.buffers.size
    → IfOk result (λ answer. Goes run answer mid.chains mid.copies have mid.parts new mid.events after) → OnOk result (KeepsPlan mid.parts new)
    → IfOk result (λ answer. Faulted maps run.host run.task run.want run.may_claim answer s
    (state_of new mid.chains have mid.ids after))
all_faulted maps run place (Ok answer) s mid new have after can is was top at goes plan =
    faulted maps run place answer s mid new have after can is was top at goes plan
all_faulted maps run place (Err e) s mid new have after can is was top at goes plan = tt
