-- Where a waiting access leads: its entry, its region, and the top place of its page; and that it can be run.
use Rattle.vm_kernel.proofs.Common.{Bool, ChainTable, Entry, Event, HasWaits, Header, Ids, IsAt, IsInside, IsTop, List, Matches, None, ObjectRow, Option}
use Rattle.vm_kernel.proofs.Common.{PageKey, Parts, RegionRow, Some, Waiting, Waits, Want, Woken, Works, [], absent_at, access_in, address_in, ap, arith}
use Rattle.vm_kernel.proofs.Common.{copies_to, copy_target, entries_of, entry, entry_at, false, found_row, has_pager, has_region, host_of, if◌then◌else◌}
use Rattle.vm_kernel.proofs.Common.{is_some, length, live_control, live_in, named, nat_lt, nat_tests, next_page, not, object_at, page_at, page_of, pages_in}
use Rattle.vm_kernel.proofs.Common.{refl, region_at, region_of, region_pages, rows_in, some_is, subst, sym, true, waiting, waiting_in, ℕ, ◌&&◌, ◌*◌, ◌+◌, ◌<◌}
use Rattle.vm_kernel.proofs.Common.{◌^◌, ◌∙◌, ◌≡◌, ◌≢◌, ◌≤◌}
use Rattle.std.specs.Prelude.{◌-◌}
use Rattle.vm_fault.specs.Pushes.{IsFresh}
use Rattle.vm_state.proofs.CopyObjects.{plain_row}
use Rattle.vm_fault.specs.Faults.{CanCopy, CanFault, LiesWithin}
use Rattle.vm_fault.specs.Walks.{is_copying, top_place}
use Rattle.vm_kernel.proofs.abroad.OwnHost.{lives_here, rows_here}
use Rattle.vm_kernel.proofs.memory.SourceOfCopy.{walks_down}
use Rattle.vm_model.specs.Regions.{Backing, Region, is_copy}
use Rattle.vm_model.specs.Waiting.{Target}
use Rattle.vm_shadow.specs.Chains.{ObjectsBelow, shadow_at}
use Rattle.vm_state.proofs.Marks.{marked_some}
use Rattle.vm_state.proofs.Referring.{objects_below, refers_region, small_region, top_counted}
use Rattle.vm_state.proofs.Walks.{top_of}
use Rattle.vm_terminate.specs.Finishes.{IsReferred}
use Rattle.vm_kernel.proofs.memory.WalksShown.{page_left, shown_at, want_address}
use Rattle.vm_waits.specs.declared.waiting.Want.TheVariants as want
use Rattle.vm_state.proofs.Filling.{AgreesNext, copies_next}
use Rattle.vm_base.specs.Pages.{page_positive}
use Rattle.vm_kernel.specs.Matches.{Core, HasSlow, control_facts, memory_facts, space_facts}
use Rattle.vm_waits.specs.Wants.{IsSizedWant}
use Rattle.vm_legal.specs.Outside.{is_wild}
use Rattle.vm_objects.specs.declared.row.PagerState.TheVariants as state
use Rattle.vm_shadow.specs.declared.shadow_row.ShadowRow.{ShadowRow}
use Rattle.vm_state.specs.Filling.{FitsCopy, filled_row}
use Rattle.vm_state.proofs.Declared.{whole_row}
use Rattle.std.specs.Option.{option_map}
use Rattle.vm_kernel.proofs.space.RegionRows.{region_row}
use Rattle.vm_kernel.specs.Destroying.{place_led, unserved, unserved_at}
use Rattle.vm_maps.specs.Judge.{place_at}
use Rattle.vm_maps.specs.declared.place.Place.{Place}
use Rattle.vm_state.specs.References.{is_live_in}

pub region_is : (cs : ChainTable) (r : ℕ) (row : RegionRow) → region_at cs r ≡ Some row → has_region cs r ≡ true
region_is cs r row is = ap is_some is

-- a declared object is over no other, and its region is over it; its pager was told of it where something refers to it, but that one may have ended it whose
-- pager the script drives
pub record IsBottom (header : Header) (r : ℕ) (k : Parts) (row : RegionRow) : Type 0 where
  pub bottom : shadow_at k.chains row.top.0 ≡ None
  pub told : is_wild header r ≡ false → (known : ObjectRow) → object_at k.memory.objects row.top.0 ≡ Some known → known.state ≢ state.Without
  pub present : (p : ℕ) → absent_at k.memory.objects row.top.0 p ≡ false

pub declared_bottom : {header : Header} {h : ℕ} {k : Parts} {ids : Ids} {lost : List Entry} {past : List Event} (r : ℕ) (row : RegionRow)
    → Matches header h k ids lost past → r < named header → region_at k.chains r ≡ Some row → IsBottom header r k row
declared_bottom {header = header} {k = k} {past = past} r row m declared found =
    record {
      bottom = by (shadow_at k.chains row.top.0) refl;
      told =
          λ tame known there without. let is = m.core.objects.kinds.kinds row.top.0 known there in
          let refers = refers_region m.core.objects.regions r row found in
          let some = subst (λ (z : ObjectRow). 0 < z.references) (some_is refers.row known (sym refers.known ∙ there)) refers.some in
          let bad : true ≡ false = sym ((is.declared low).told (ap (is_wild header) top ∙ tame) some) ∙ (is.lives ∙ ap has_pager without) in
          absurd (cc);
      present = λ p. m.core.objects.kinds.present row.top.0 p low;
    }
  where
    top : row.top.0 ≡ r
    top = ap (λ (z : Region). z.top) (sym (m.core.objects.regions.rows r row found) ∙ m.core.spaces.homes.1.whole r declared)

    low : row.top.0 < named header
    low = omega (arith, top, declared)

    by : (x : Option ShadowRow) → shadow_at k.chains row.top.0 ≡ x → x ≡ None
    by None is = refl
    by (Some under) is =
        let bad : false ≡ true = sym (m.core.spaces.homes.1.bare row.top.0 low)
        ∙ ap (λ (z : Backing). z.backed) (m.core.objects.regions.shadows row.top.0 under is) in
        absurd (cc)

-- the page of an entry lies in its region
page_inside : {header : Header} {h : ℕ} {k : Parts} {ids : Ids} {lost : List Entry} {past : List Event} (task address : ℕ) (e : Entry) (row : RegionRow)
    → Matches header h k ids lost past → entry_at address (rows_in task k.maps) ≡ Some e → region_at k.chains e.region.0 ≡ Some row
    → page_at k.maps.size address e < row.pages
page_inside {header = header} {k = k} task address e row m found region =
    let there = found_row (IsInside header.size k.chains) address (rows_in task k.maps) e (m.core.spaces.entries.inside task) found in
    let below : page_at header.size address e < region_pages k.chains e.region.0 = there.is.inside.each address there.from there.below in
    let pages : region_pages k.chains e.region.0 ≡ row.pages = ap pages_in region in
    let sized : page_at k.maps.size address e ≡ page_at header.size address e = ap (λ z. page_at z address e) m.core.spaces.tasks.sized in
    omega (arith, below, pages, sized)

-- an access lies within its region, a slow copy with each of its pages
lies_within : {header : Header} {h : ℕ} {k : Parts} {ids : Ids} {past : List Event} (w : Waiting) (what : Want) (e : Entry) (row : RegionRow)
    → Matches header h k ids [] past → FitsCopy header k.maps k.chains k.memory.resident w.task.0 what w.destination (next_page w.task.0 past)
    (copy_target w.task.0 past)
    → IsSizedWant k.maps.size what → entry_at (address_in k.maps.size what) (rows_in w.task.0 k.maps) ≡ Some e → region_at k.chains e.region.0 ≡ Some row
    → LiesWithin k.maps.size what (rows_in w.task.0 k.maps) e row
lies_within w (want.Load address n) e row m fits sized found region = page_inside w.task.0 address e row m found region
lies_within w (want.Store address n value) e row m fits sized found region = page_inside w.task.0 address e row m found region
lies_within {k = k} w (want.CopyTo address pages target next) e row m fits sized found region = λ p less.
    let same : fits.range.entry ≡ e = some_is fits.range.entry e (sym (fits.range.whole next sized.1) ∙ found) in
    let there : entry_at (address + p * k.maps.size) (rows_in w.task.0 k.maps) ≡ Some e = fits.range.whole p less ∙ ap Some same in
    (there, page_inside w.task.0 (address + p * k.maps.size) e row m there region)

-- a slow copy can make its next pages
can_copy : {header : Header} {h : ℕ} {k : Parts} {ids : Ids} {past : List Event} (w : Waiting) (what : Want) (e : Entry) (row : RegionRow)
    → Matches header h k ids [] past → FitsCopy header k.maps k.chains k.memory.resident w.task.0 what w.destination (next_page w.task.0 past)
    (copy_target w.task.0 past)
    → IsSizedWant k.maps.size what → entry_at (address_in k.maps.size what) (rows_in w.task.0 k.maps) ≡ Some e → region_at k.chains e.region.0 ≡ Some row
    → CanCopy what row k.memory k.chains
can_copy w (want.Load address n) e row m fits sized found region = tt
can_copy w (want.Store address n value) e row m fits sized found region = tt
can_copy {header = header} {k = k} w (want.CopyTo address pages target next) e row m fits sized found region =
    let same : fits.range.entry ≡ e = some_is fits.range.entry e (sym (fits.range.whole next sized.1) ∙ found) in
    let declared : e.region.0 < named header = subst (λ (z : Entry). z.region.0 < named header) same fits.range.declared in
    let is = declared_bottom e.region.0 row m declared region in
    record {
      bottom = is.bottom;
      told = is.told (ap (λ (z : Entry). is_wild header z.region.0) (sym same) ∙ fits.range.supplied);
      present = is.present;
      inside = (let within = m.core.objects.regions.fits.tops fits.to.region.0 (filled_row target pages) fits.region in omega (arith, within));
      unmade = fits.unmade;
    }

-- what a slow copy fills was made as no copy of a file
target_plain : {header : Header} {h : ℕ} {k : Parts} {ids : Ids} {past : List Event} → Matches header h k ids [] past → (task : ℕ) (target : Target)
    → copy_target task past ≡ Some target → is_copy target.object past ≡ false
target_plain {past = past} m task target is = by (is_copy target.object past) refl
  where
    by : (b : Bool) → is_copy target.object past ≡ b → b ≡ false
    by false plain = refl
    by true copy =
        let homes = m.core.spaces.homes.1 in
        let bad : false ≡ true = sym (homes.target_bare task target is) ∙ (homes.lined target.object copy).backed in
        absurd cc

-- the target of a slow copy is no copy object
pub is_fresh : {header : Header} {h : ℕ} {k : Parts} {ids : Ids} {past : List Event} (w : Waiting) (what : Want) → Matches header h k ids [] past
    → FitsCopy header k.maps k.chains k.memory.resident w.task.0 what w.destination (next_page w.task.0 past) (copy_target w.task.0 past)
    → IsFresh what k.copies
is_fresh w (want.Load address n) m fits = tt
is_fresh w (want.Store address n value) m fits = tt
is_fresh w (want.CopyTo address pages target next) m fits =
    plain_row target.0 m.core.copied.known (target_plain m w.task.0 (record { region = fits.to.region.0; object = target.0 }) fits.made)

-- what waits can be run
pub can_fault : (header : Header) (h : ℕ) (past : List Event) (k : Parts) (ids : Ids) (who : Woken) (w : Waiting) (events : List Event)
    → Works header h k ids who past → entry k.waits.rows w.task.0 ≡ Some w
    → CanFault k.maps (record { parts = k.memory; chains = k.chains; copies = k.copies; ids = ids; events = events }) w.task.0 w.want
can_fault header h past k ids who w events works is =
    let m = works.matches in
    let walk = walks_down header h k ids past [] w.task.0 w.want m (works.waits.allowed w.task.0 w is) (works.waits.sized w.task.0 w is) in
    let fits = works.used.copies.each w.task.0 w is in
    let sized = works.waits.sized w.task.0 w is in
    let object = m.core.objects.regions.object in
    let few = m.core.objects.regions.few in
    record {
      fit = m.core.fits.parts;
      chains = m.core.objects.regions.fits;
      size = walk.size;
      allowed = walk.allowed;
      sized = walk.sized;
      entry = walk.entry;
      found = walk.found;
      row = walk.row;
      region = walk.region;
      inside = lies_within w w.want walk.entry walk.row m fits sized walk.found walk.region;
      copies = can_copy w w.want walk.entry walk.row m fits sized walk.found walk.region;
      copied = m.core.copied.fits;
      fresh = is_fresh w w.want m fits;
      counted = λ marked.
          (let some = marked_some header past walk.entry.region.0 (small_region m.core.objects.regions walk.entry.region.0 walk.row walk.region)
          (ap (λ (z : Region). z.mark) (m.core.objects.regions.rows walk.entry.region.0 walk.row walk.region) ∙ marked) in
          let marks = m.core.objects.regions.marks in
          omega (arith, some, marks));
      referred = λ marked. top_counted m.core.objects.regions walk.entry.region.0 walk.row walk.region;
      named = subst (λ (z : ℕ). ObjectsBelow z k.chains) (sym object) (objects_below m.core.objects.regions);
      unmade = λ o less. m.core.objects.regions.unknown o (omega (arith, object, less));
      few = below_last ids.next_object (omega (arith, object, few));
    }
  where
    below_last : (n : ℕ) → n ≤ 8192 → n < 2 ^ 32 - 1
    below_last n less = omega arith

-- where the access of a task leads, after a history
pub record Leads (header : Header) (h : ℕ) (past : List Event) (k : Parts) (task : ℕ) (what : Want) (top : PageKey) (at : IsAt k.maps k.chains task what top) :
    Type 0 where
  pub lives : host_of task past ≡ Some h
  pub agrees : AgreesNext what (next_page task past)
  pub sized : k.maps.size ≡ header.size
  pub some : 0 < header.size
  pub shape : IsSizedWant k.maps.size what
  pub destination : ℕ
  pub found : entry_at (address_in k.maps.size what) (entries_of header.size task past) ≡ Some at.entry
  pub waits : waiting task past ≡ Some (access_in k.maps.size destination what)
  pub is_top : IsTop (region_of header at.entry.region.0 past) (page_at header.size (address_in k.maps.size what) at.entry) top.object.0 top.page.0
  pub marks : (region_of header at.entry.region.0 past).mark ≡ at.row.marked
  pub referred : IsReferred k.memory.objects top.object.0

pub leads_of : (header : Header) (h : ℕ) (k : Parts) (ids : Ids) (past : List Event) (who : Woken) (task : ℕ) (w : Waiting) (top : PageKey)
    → Matches header h k ids [] past → HasWaits header h k who past → HasSlow header k past → entry k.waits.rows task ≡ Some w
    → (at : IsAt k.maps k.chains task w.want top) → Leads header h past k task w.want top at
leads_of header h k ids past who task w top m waits copies is at =
    let r = at.entry.region.0 in
    let address = address_in k.maps.size w.want in
    let s = shown_at m in
    let sized : top ≡ top_place at.row (page_at header.size address at.entry) = at.is
    ∙ ap (λ z. top_place at.row (page_at z address at.entry)) m.core.spaces.tasks.sized in
    record {
      lives = lives_here m.core.spaces.tasks (waits.allowed task w is).lives;
      agrees = copies_next copies task w is;
      sized = m.core.spaces.tasks.sized;
      some = page_positive header.size m.core.setting.ranged.size;
      shape = waits.sized task w is;
      destination = copies_to w.destination;
      found = ap (entry_at address) (rows_here m.core.spaces.tasks (waits.allowed task w is).lives) ∙ at.found;
      waits = waits.is task (ap is_some (waits.allowed task w is).lives) ∙ ap (waiting_in k.maps.size) is;
      is_top =
          subst (λ (z : PageKey). IsTop (region_of header r past) (page_at header.size address at.entry) z.object.0 z.page.0) (sym sized)
          (top_of s r at.row at.region (page_at header.size address at.entry));
      marks = ap (λ (z : Region). z.mark) (m.core.objects.regions.rows r at.row at.region);
      referred = subst (λ (z : PageKey). IsReferred k.memory.objects z.object.0) (sym sized) (refers_region m.core.objects.regions r at.row at.region);
    }

-- the waiting access, as licences want it
abbrev pub it_waits : (header : Header) (h : ℕ) (past : List Event) (k : Parts) (task : ℕ) (what : Want) (top : PageKey)
    (at : IsAt k.maps k.chains task what top) → (to : Leads header h past k task what top at)
    → Waits header task (access_in k.maps.size to.destination what) past
it_waits header h past k task what top at to =
    record {
      waits = to.waits;
      at = record {
        host = h;
        entry = at.entry;
        lives = to.lives;
        found =
            ap (λ z. entry_at z (entries_of header.size task past)) (want_address k.maps.size header.size (next_page task past) to.destination what to.sized
            to.agrees) ∙ to.found;
      };
      left = page_left k.maps.size header.size (next_page task past) to.destination what to.sized to.some to.shape to.agrees;
    }

pub top_at : (header : Header) (h : ℕ) (past : List Event) (k : Parts) (task : ℕ) (what : Want) (top : PageKey) (at : IsAt k.maps k.chains task what top)
    → (to : Leads header h past k task what top at)
    → IsTop (region_of header at.entry.region.0 past) (page_of header task (access_in k.maps.size to.destination what) past at.entry) top.object.0 top.page.0
top_at header h past k task what top at to =
    subst (λ (z : ℕ). IsTop (region_of header at.entry.region.0 past) (page_at header.size z at.entry) top.object.0 top.page.0)
    (sym (want_address k.maps.size header.size (next_page task past) to.destination what to.sized to.agrees)) to.is_top

-- while a region of a declared object is here that isn't wild, its control lives
pub declared_lives : (header : Header) (h : ℕ) (past : List Event) (k : Parts) (ids : Ids)
    → Core header h k ids [] (space_facts header past) (control_facts h past) (memory_facts header h past) → (r : ℕ) (row : RegionRow)
    → region_at k.chains r ≡ Some row → r < named header → is_wild header r ≡ false → live_control h r past ≡ None → ⊥
declared_lives header h past k ids core r row found declared tame none =
    let whole = whole_row core.objects.regions core.spaces.homes.1 r row declared found in
    let refers : IsReferred k.memory.objects r = subst (λ (z : ℕ). IsReferred k.memory.objects z) whole.top
    (refers_region core.objects.regions r row found) in
    let lives : refers.row.live ≡ true = ((core.objects.kinds.kinds r refers.row refers.known).declared declared).told tame refers.some in
    let alive : live_control h r past ≡ Some refers.row.control = core.controls.live r
    ∙ (ap live_in refers.known ∙ ap (λ b. if b then Some refers.row.control else None) lives) in
    absurd (let bad : None ≡ Some refers.row.control = sym none ∙ alive in cc)

live_none : (known : Option ObjectRow) → live_in known ≡ None → is_live_in known ≡ false
live_none None none = refl
live_none (Some row) none = by row.live refl
  where
    by : (b : Bool) → row.live ≡ b → row.live ≡ false
    by true lives = let bad : Some row.control ≡ None = sym (ap (λ b. if b then Some row.control else None) lives) ∙ none in absurd (cc)
    by false ended = ended

-- the object of an access is no declared one without a control
abbrev pub IsServed : Header → ℕ → Parts → ℕ → Want → List Event → Type 0
IsServed header h k task what past =
    (e : Entry) → entry_at (address_in k.maps.size what) (rows_in task k.maps) ≡ Some e → e.region.0 < named header → live_control h e.region.0 past ≡ None → ⊥

-- that of a slow copy never is one
pub copy_served : {header : Header} {h : ℕ} {k : Parts} {ids : Ids} {past : List Event} {who : Woken} (w : Waiting) → Works header h k ids who past
    → entry k.waits.rows w.task.0 ≡ Some w → is_copying w.want ≡ true → IsServed header h k w.task.0 w.want past
copy_served {header = header} {h = h} {k = k} {past = past} w works is copying =
    by w.want (works.used.copies.each w.task.0 w is) (works.waits.sized w.task.0 w is) copying
  where
    by : (what : Want) → FitsCopy header k.maps k.chains k.memory.resident w.task.0 what w.destination (next_page w.task.0 past) (copy_target w.task.0 past)
        → IsSizedWant k.maps.size what → is_copying what ≡ true → IsServed header h k w.task.0 what past
    by (want.Load address n) fits sized none e found declared = absurd (let bad : false ≡ true = none in cc)
    by (want.Store address n value) fits sized none e found declared = absurd (let bad : false ≡ true = none in cc)
    by (want.CopyTo address pages target next) fits sized copying2 e found declared =
        let same : fits.range.entry ≡ e = some_is fits.range.entry e (sym (fits.range.whole next sized.1) ∙ found) in
        let there = found_row (IsInside header.size k.chains) (address + next * k.maps.size) (rows_in w.task.0 k.maps) e
        (works.matches.core.spaces.entries.inside w.task.0) found in
        let region = region_row k.chains e.region.0 there.is.region in
        declared_lives header h past k _ works.matches.core e.region.0 region.0 region.1 declared
        (ap (λ (z : Entry). is_wild header z.region.0) (sym same) ∙ fits.range.supplied)

-- nor is that of a load or a store where the kernel says so
pub access_served : {header : Header} {h : ℕ} {k : Parts} {ids : Ids} {past : List Event} {who : Woken} (w : Waiting) → Works header h k ids who past
    → entry k.waits.rows w.task.0 ≡ Some w → unserved k w ≡ None → IsServed header h k w.task.0 w.want past
access_served {header = header} {h = h} {k = k} {past = past} w works is none = by w.want refl none
  where
    dead : (e : Entry) → live_control h e.region.0 past ≡ None → is_live_in (object_at k.memory.objects e.region.0) ≡ false
    dead e ended = live_none (object_at k.memory.objects e.region.0) (sym (works.matches.core.controls.live e.region.0) ∙ ended)

    all : length k.declared.items ≡ named header
    all = ap length works.matches.core.setting.objects

    plain : (place : Option Place) (address : ℕ) (e : Entry) → place ≡ option_map (place_at k.maps.size address) (entry_at address (rows_in w.task.0 k.maps))
        → unserved_at k place ≡ None → entry_at address (rows_in w.task.0 k.maps) ≡ Some e → e.region.0 < named header
        → live_control h e.region.0 past ≡ None → ⊥
    plain place address e led out found declared ended =
        let low : nat_lt e.region.0 (length k.declared.items) ≡ true = grind (arith, nat_tests, all, declared) in
        let key : PageKey = record { object = record { 0 = e.region.0 }; page = (place_at k.maps.size address e).page } in
        let there : unserved_at k place ≡ Some key =
        ap (unserved_at k) (led ∙ ap (option_map (place_at k.maps.size address)) found)
        ∙ (ap (λ b. if b && not (is_live_in (object_at k.memory.objects e.region.0)) then Some key else None) low
        ∙ ap (λ b. if not b then Some key else None) (dead e ended)) in
        absurd (let bad : None ≡ Some key = sym out ∙ there in cc)

    by : (what : Want) → w.want ≡ what → unserved_at k (place_led k.maps w.task.0 what) ≡ None → IsServed header h k w.task.0 what past
    by (want.Load address n) same out = λ e. plain (place_led k.maps w.task.0 (want.Load address n)) address e refl out
    by (want.Store address n value) same out = λ e. plain (place_led k.maps w.task.0 (want.Store address n value)) address e refl out
    by (want.CopyTo address pages target next) same out =
        subst (λ (z : Want). IsServed header h k w.task.0 z past) same (copy_served w works is (ap is_copying same))
