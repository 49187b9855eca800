-- No entry leads to a region any more: it goes, and its top has one reference less.
use Rattle.vm_kernel.proofs.memory.PageChanges.{fits_known}
use Rattle.vm_kernel.proofs.memory.CoreChanges.{pages_known_so}
use Rattle.vm_model.specs.Named.{named}
use Rattle.vm_model.specs.Regions.{object_pages}
use Rattle.vm_state.proofs.KnownPages.{sizes_put}
use Rattle.vm_kernel.proofs.space.CopiesEnd.{copied_referred, copied_regions}
use Rattle.vm_kernel.proofs.Common.{AllEntriesInside, AllRows, Bool, ChainTable, EndsObject, EndsRegion, Entry, Event, HasControls, HasEntries, Header, Ids}
use Rattle.vm_kernel.proofs.Common.{IfSome, Inside, IsAmid, IsReferred, IsWhole, List, Mapped, Matches, None, ObjectId, ObjectRow, ObjectTable, Option, Parts}
use Rattle.vm_kernel.proofs.Common.{PutsObject, PutsRegion, Region, RegionRow, SameMarks, Some, UsesAll, Woken, [], all_tasks, ap, arith, backing_of, count_by}
use Rattle.vm_kernel.proofs.Common.{count_on, entries_in_row, eqb_tells, false, has_entry, has_region, home_of, if◌then◌else◌, inl, inr, is_some, is_woken}
use Rattle.vm_kernel.proofs.Common.{last_in, live_in, marks_of, nat_lt, nat_tests, next_object, next_region, object_at, one_case, pages_in, ready_in, refl}
use Rattle.vm_kernel.proofs.Common.{region_at, region_entries, region_of, rows_in, some_is, subst, sym, true, unwrap_or, waiting, ℕ, ◌++◌, ◌+◌, ◌-◌, ◌<◌, ◌^◌}
use Rattle.vm_kernel.proofs.Common.{◌∙◌, ◌∷◌, ◌≡◌, ◌≢◌, ◌≤◌}
use Rattle.vm_kernel.proofs.space.RegionsFilled.{copies_gone}
use Rattle.vm_kernel.proofs.space.EntriesCounted.{by_zero, on_zero}
use Rattle.vm_kernel.proofs.space.RegionRows.{region_row}
use Rattle.vm_kernel.proofs.space.RegionCases.{region_cases}
use Rattle.vm_state.proofs.Declared.{kind_referred, kinds_gone, kinds_put}
use Rattle.vm_state.proofs.Files.{files_put}
use Rattle.vm_state.proofs.Going.{regions_gone}
use Rattle.vm_state.proofs.Knowing.{known_put}
use Rattle.vm_state.proofs.Places.{waits_without}
use Rattle.vm_state.proofs.Referred.{all_with, but_ended, stays_served}
use Rattle.vm_state.proofs.Referring.{refers_region}
use Rattle.vm_state.proofs.Told.{waits_referred}
use Rattle.vm_kernel.proofs.controls.FlagsKept.{flags_put}
use Rattle.vm_state.specs.Pagers.{is_ready_state, cached_in}

-- no entry leads to a region that counts none

pub none_left : (size : ℕ) (maps : Mapped) (cs : ChainTable) (rest : List Entry) (r : ℕ) → HasEntries size maps cs rest → has_region cs r ≡ true
    → region_entries cs r ≡ 0 → (count_by all_tasks r maps ≡ 0) × (count_on r rest ≡ 0)
none_left size maps cs rest r has there none =
    let row = region_row cs r there in
    let counts = has.counts r row.0 row.1 in
    let is = ap entries_in_row row.1 in
    (omega arith, omega arith)

pub no_entry : (size : ℕ) (maps : Mapped) (cs : ChainTable) (rest : List Entry) (r : ℕ) → HasEntries size maps cs rest → has_region cs r ≡ true
    → region_entries cs r ≡ 0 → (task : ℕ) → has_entry r (rows_in task maps) ≡ false
no_entry size maps cs rest r has there none task = by_test (nat_lt task all_tasks) refl
  where
    by_test : (b : Bool) → nat_lt task all_tasks ≡ b → has_entry r (rows_in task maps) ≡ false
    by_test true less =
        on_zero r (rows_in task maps) (by_zero all_tasks r task maps (grind (arith, nat_tests)) (none_left size maps cs rest r has there none).0)
    by_test false less =
        let le : all_tasks ≤ task = grind (arith, nat_tests) in
        ap (λ z. has_entry r (unwrap_or z [])) (has.most task le)

-- the region goes

inside_without : (size r : ℕ) (cs cs2 : ChainTable) → PutsRegion r None cs cs2 → (rows : List Entry) → AllEntriesInside size cs rows → has_entry r rows ≡ false
    → AllEntriesInside size cs2 rows
inside_without size r cs cs2 put [] all none = tt
inside_without size r cs cs2 put (row ∷ rows) all none = elim (eqb_tells row.region.0 r) [
  | inl same ↦ absurd (let bad : true ≡ false = rw same.0 at none in cc)
  | inr apart ↦ elim (region_cases r None cs cs2 put row.region.0) [
    | inl now ↦ absurd (apart.1 (sym now.0))
    | inr other ↦ (
      record {
        region = ap is_some other.1 ∙ all.0.region;
        some = all.0.some;
        below = all.0.below;
        inside = subst (λ (z : ℕ). Inside size z row) (sym (ap pages_in other.1)) all.0.inside;
      },
      inside_without size r cs cs2 put rows all.1 (rw apart.0 at none),
    )
  ]
]

known_without : (r : ℕ) (cs cs2 : ChainTable) → PutsRegion r None cs cs2 → (rows : List Entry) → AllRows (λ row. has_region cs row.region.0 ≡ true) rows
    → has_entry r rows ≡ false → AllRows (λ row. has_region cs2 row.region.0 ≡ true) rows
known_without r cs cs2 put [] all none = tt
known_without r cs cs2 put (row ∷ rows) all none = elim (eqb_tells row.region.0 r) [
  | inl same ↦ absurd (let bad : true ≡ false = rw same.0 at none in cc)
  | inr apart ↦ elim (region_cases r None cs cs2 put row.region.0) [
    | inl now ↦ absurd (apart.1 (sym now.0))
    | inr other ↦ (ap is_some other.1 ∙ all.0, known_without r cs cs2 put rows all.1 (rw apart.0 at none))
  ]
]

-- a row that is there still
other_row : (r : ℕ) (cs cs2 : ChainTable) → PutsRegion r None cs cs2 → (r2 : ℕ) (row : RegionRow) → region_at cs2 r2 ≡ Some row → (r ≢ r2)
    × (region_at cs r2 ≡ Some row)
other_row r cs cs2 put r2 row found = elim (region_cases r None cs cs2 put r2) [
  | inl now ↦ absurd (let bad : None ≡ Some row = sym now.1 ∙ found in cc)
  | inr other ↦ (other.0, sym other.1 ∙ found)
]

entries_without : (size r : ℕ) (maps : Mapped) (cs cs2 : ChainTable) (rest : List Entry) → PutsRegion r None cs cs2 → HasEntries size maps cs rest
    → has_region cs r ≡ true → region_entries cs r ≡ 0 → HasEntries size maps cs2 rest
entries_without size r maps cs cs2 rest put has there none =
    record {
      inside = λ task. inside_without size r cs cs2 put (rows_in task maps) (has.inside task) (no_entry size maps cs rest r has there none task);
      known = known_without r cs cs2 put rest has.known (on_zero r rest (none_left size maps cs rest r has there none).1);
      most = has.most;
      few = has.few;
      counts = λ r2 row found. has.counts r2 row (other_row r cs cs2 put r2 row found).1;
    }

-- the row that an object had, with the same control
record Controlled (row : ObjectRow) (x : Option ObjectRow) : Type 0 where
  was : ObjectRow
  found : x ≡ Some was
  control : row.control ≡ was.control
  live : row.live ≡ was.live
  state : row.state ≡ was.state

-- the row of an object is another, with the same control
pub controls_put : {d h : ℕ} {home_at : ℕ → Option ℕ} (r : ℕ) (was now : ObjectRow) (os os2 : ObjectTable) (last_at : ℕ → ℕ) (live_at : ℕ → Option ℕ)
    (ready_at : ℕ → Bool) → object_at os r ≡ Some was → PutsObject r (Some now) os os2 → now.control ≡ was.control → now.live ≡ was.live
    → now.state ≡ was.state → HasControls d h os last_at live_at ready_at home_at → HasControls d h os2 last_at live_at ready_at home_at
controls_put r was now os os2 last_at live_at ready_at found put control live state has =
    record {
      last = λ o. has.last o ∙ same last_in (sym control) o;
      live = λ o. has.live o ∙ same live_in (ap (λ b. if b then Some was.control else None) (sym live)
          ∙ ap (λ n. if now.live then Some n else None) (sym control)) o;
      ready = λ o number is. has.ready o number is ∙ same ready_in (ap is_ready_state (sym state)) o;
      all_live =
          record {
            at = λ o row is told. let b = before o row is in b.live ∙ has.all_live.at o b.was b.found (λ none. told (b.state ∙ none));
          };
      numbers =
          record { at = λ o row is. let b = before o row is in subst (λ (z : ℕ). z < 2 ^ 32 - 1) (sym b.control) (has.numbers.at o b.was b.found) };
      home = λ o row least is. let b = before o row is in has.home o b.was least b.found;
      ended = λ o row is lives none. let b = before o row is in has.ended o b.was b.found (sym b.live ∙ lives) (sym b.state ∙ none);
    }
  where
    same : {A : Type 0} (f : Option ObjectRow → A) → f (Some was) ≡ f (Some now) → (o : ℕ) → f (object_at os o) ≡ f (object_at os2 o)
    same f is o = elim (one_case r o (Some now) (object_at os o) (object_at os2 o) (put.at o)) [
      | inl this ↦ ap f (subst (λ (z : ℕ). object_at os z ≡ Some was) this.0 found) ∙ (is ∙ sym (ap f this.1))
      | inr other ↦ sym (ap f other.1)
    ]

    before : (o : ℕ) (row : ObjectRow) → object_at os2 o ≡ Some row → Controlled row (object_at os o)
    before o row is = elim (one_case r o (Some now) (object_at os o) (object_at os2 o) (put.at o)) [
      | inl this ↦
          let own = some_is row now (sym is ∙ this.1) in
          record {
            was = was;
            found = subst (λ (z : ℕ). object_at os z ≡ Some was) this.0 found;
            control = ap (λ z. z.control) own ∙ control;
            live = ap (λ z. z.live) own ∙ live;
            state = ap (λ z. z.state) own ∙ state;
          }
      | inr other ↦ record { was = row; found = sym other.1 ∙ is; control = refl; live = refl; state = refl }
    ]

-- or has another number of references
pub controls_referred : {d h : ℕ} {home_at : ℕ → Option ℕ} (r left : ℕ) (was : ObjectRow) (os os2 : ObjectTable) (last_at : ℕ → ℕ) (live_at : ℕ → Option ℕ)
    (ready_at : ℕ → Bool) → object_at os r ≡ Some was → PutsObject r (Some (record was { references = left })) os os2
    → HasControls d h os last_at live_at ready_at home_at → HasControls d h os2 last_at live_at ready_at home_at
controls_referred r left was os os2 last_at live_at ready_at found put has =
    controls_put r was (record was { references = left }) os os2 last_at live_at ready_at found put refl refl refl has

-- A region goes with which its top loses a reference: so many are left.
pub record LosesRegion (k : Parts) (r left : ℕ) (object : ObjectId) (chains : ChainTable) (objects : ObjectTable) : Type 0 where
  pub row : RegionRow
  pub found : region_at k.chains r ≡ Some row
  pub top : object ≡ row.top
  pub was : ObjectRow
  pub known : object_at k.memory.objects row.top.0 ≡ Some was
  pub less : left + 1 ≡ was.references
  pub region : PutsRegion r None k.chains chains
  pub put : PutsObject row.top.0 (Some (record was { references = left })) k.memory.objects objects
  pub marks : SameMarks k.memory.objects objects

pub if_some : {A : Type 0} (x : Option A) (P : A → Type 0) (v : A) → x ≡ Some v → IfSome x P → P v
if_some x P v is holds = subst (λ z. IfSome z P) is holds

-- the top of a region is known, and is referred to
pub top_referred : (header : Header) (h : ℕ) (past : List Event) (who : Woken) (k : Parts) (ids : Ids) (rest : List Entry) (r : ℕ) (events : List Event)
    (object : ObjectId)
    → EndsRegion header h who k ids rest r (events ++ past) → IfSome (region_at k.chains r) (λ row. object ≡ row.top) → IsReferred k.memory.objects object.0
top_referred header h past who k ids rest r events object e top =
    let row = region_row k.chains r e.there in
    let is : object ≡ row.0.top = if_some (region_at k.chains r) (λ row. object ≡ row.top) row.0 row.1 top in
    subst (λ (z : ObjectId). IsReferred k.memory.objects z.0) (sym is) (refers_region e.runs.matches.core.objects.regions r row.0 row.1)

-- it is that in the history, too
pub top_told : (header : Header) (h : ℕ) (past : List Event) (who : Woken) (k : Parts) (ids : Ids) (rest : List Entry) (r : ℕ) (events : List Event)
    (object : ObjectId)
    → EndsRegion header h who k ids rest r (events ++ past) → IfSome (region_at k.chains r) (λ row. object ≡ row.top)
    → object.0 ≡ (region_of header r (events ++ past)).top
top_told header h past who k ids rest r events object e top =
    let row = region_row k.chains r e.there in
    let is : object ≡ row.0.top = if_some (region_at k.chains r) (λ row. object ≡ row.top) row.0 row.1 top in
    ap (λ (z : ObjectId). z.0) is ∙ sym (ap (λ (z : Region). z.top) (e.runs.matches.core.objects.regions.rows r row.0 row.1))

pub loses_region : (header : Header) (h : ℕ) (past : List Event) (who : Woken) (k : Parts) (ids : Ids) (rest : List Entry) (r left : ℕ) (events : List Event)
    (object : ObjectId) (chains : ChainTable) (objects : ObjectTable)
    → EndsRegion header h who k ids rest r (events ++ past) → IfSome (region_at k.chains r) (λ row. object ≡ row.top) → PutsRegion r None k.chains chains
    → IfSome (object_at k.memory.objects object.0) (λ row. left + 1 ≡ row.references)
    → IfSome (object_at k.memory.objects object.0) (λ row. PutsObject object.0 (Some (record row { references = left })) k.memory.objects objects)
    → SameMarks k.memory.objects objects → LosesRegion k r left object chains objects
loses_region header h past who k ids rest r left events object chains objects e top region less put marks =
    let row = region_row k.chains r e.there in
    let is : object ≡ row.0.top = if_some (region_at k.chains r) (λ row. object ≡ row.top) row.0 row.1 top in
    let referred = top_referred header h past who k ids rest r events object e top in
    let now = if_some (object_at k.memory.objects object.0) (λ row. PutsObject object.0 (Some (record row { references = left })) k.memory.objects objects)
    referred.row referred.known put in
    record {
      row = row.0;
      found = row.1;
      top = is;
      was = referred.row;
      known = subst (λ (z : ObjectId). object_at k.memory.objects z.0 ≡ Some referred.row) is referred.known;
      less = if_some (object_at k.memory.objects object.0) (λ row. left + 1 ≡ row.references) referred.row referred.known less;
      region = region;
      put = subst (λ (z : ObjectId). PutsObject z.0 (Some (record referred.row { references = left })) k.memory.objects objects) is now;
      marks = marks;
    }

runs_gone : (header : Header) (h : ℕ) (past : List Event) (who : Woken) (k : Parts) (ids : Ids) (rest : List Entry) (r left : ℕ) (events : List Event)
    (object : ObjectId) (chains : ChainTable) (objects : ObjectTable)
    → EndsRegion header h who k ids rest r (events ++ past) → LosesRegion k r left object chains objects
    → IsAmid header h who (record k { chains = chains; memory = record k.memory { objects = objects } }) ids rest (events ++ past)
runs_gone header h past who k ids rest r left events object chains objects e loses =
    let moment = events ++ past in
    let m : Matches header h k ids rest moment = e.runs.matches in
    let top = loses.row.top.0 in
    let was = loses.was in
    record {
      matches = record {
        core = record {
          setting = m.core.setting;
          calm = m.core.calm;
          fits = fits_known loses.known loses.put refl m.core.fits;
          spaces = record {
            tasks = m.core.spaces.tasks;
            entries = entries_without header.size r k.maps k.chains chains rest loses.region m.core.spaces.entries e.there e.none;
            shared = m.core.spaces.shared;
            uses = m.core.spaces.uses;
            homes = (λ r2 row paged found. m.core.spaces.homes.0 r2 row paged (other_row r k.chains chains loses.region r2 row found).1, m.core.spaces.homes.1);
          };
          objects = record {
            regions =
                regions_gone r left loses.row was k.chains chains k.memory.objects objects ids (λ r. region_of header r moment)
                (λ o. backing_of header o moment)
                (next_region header moment) (next_object header moment) (marks_of header moment) loses.found loses.region loses.known loses.less loses.put
                m.core.objects.regions;
            kinds =
                kinds_gone header r objects k.chains chains loses.region (kinds_put header top (record was { references = left }) k.memory.objects objects
                k.chains
                loses.put loses.marks (kind_referred header top was left (let less = loses.less in omega (arith, less))
                (m.core.objects.kinds.kinds top was loses.known))
                m.core.objects.kinds);
            files =
                files_put header h top was (record was { references = left }) k.memory.objects objects (λ o. home_of o moment) loses.known loses.put
                m.core.objects.files;
            sizes =
                sizes_put (named header) top was (record was { references = left }) k.memory.objects objects (λ o. object_pages header o moment) loses.known
                refl
                loses.put m.core.objects.sizes;
            undelayed = m.core.objects.undelayed;
          };
          copied = copied_regions loses.region.shadows (copied_referred top left was objects loses.known loses.put
              (λ some. let less = loses.less in omega (arith, less)) m.core.copied);
          controls = controls_referred top left was k.memory.objects objects _ _ _ loses.known loses.put m.core.controls;
          flags = flags_put top (record was { references = left }) loses.put (ap cached_in loses.known) m.core.flags;
          pages = pages_known_so loses.marks m.core.pages;
        };
        settled = m.settled;
        replied = m.replied;
      };
      waits = waits_referred k.maps chains k.memory.resident k.memory.objects objects k.waits.rows (is_woken who) (λ t. waiting t moment) top left was
          (waits_without k.maps k.chains chains k.memory.resident k.memory.objects k.waits.rows (is_woken who) (λ t. waiting t moment) r e.runs.waits
          loses.region (no_entry header.size k.maps k.chains rest r m.core.spaces.entries e.there e.none)) loses.known loses.put;
      order = e.runs.order;
    }

used_gone : (header : Header) (h : ℕ) (past : List Event) (who : Woken) (k : Parts) (ids : Ids) (rest : List Entry) (r : ℕ) (events : List Event)
    (chains : ChainTable) → EndsRegion header h who k ids rest r (events ++ past)
    → PutsRegion r None k.chains chains → UsesAll header (record k { chains = chains }) (events ++ past)
used_gone header h past who k ids rest r events chains e put =
    record {
      regions = λ r2 row found. let before = other_row r k.chains chains put r2 row found in e.others r2 row (λ same. before.0 (sym same)) before.1;
      copies = copies_gone r k.chains chains k.maps k.memory.resident e.copies put e.unfilled;
    }

-- something refers to its top still
pub whole_region : (header : Header) (h : ℕ) (past : List Event) (who : Woken) (k : Parts) (ids : Ids) (rest : List Entry) (r left : ℕ) (events : List Event)
    (object : ObjectId) (chains : ChainTable) (objects : ObjectTable)
    → EndsRegion header h who k ids rest r (events ++ past) → LosesRegion k r left object chains objects → 0 < left
    → IsWhole header h who (record k { chains = chains; memory = record k.memory { objects = objects } }) ids rest (events ++ past)
whole_region header h past who k ids rest r left events object chains objects e loses some =
    let top = loses.row.top.0 in
    let now : ObjectRow = record (loses.was) { references = left } in
    record {
      runs = runs_gone header h past who k ids rest r left events object chains objects e loses;
      used = used_gone header h past who k ids rest r events chains e loses.region;
      referred =
          all_with top chains objects k.memory.resident (but_ended r None top now k.chains chains k.memory.objects objects k.memory.resident loses.region
          loses.put (stays_served loses.known refl refl) e.referred)
          (record { row = now; known = known_put top now k.memory.objects objects loses.put; some = some });
    }

-- nothing refers to its top any more
pub ends_top : (header : Header) (h : ℕ) (past : List Event) (who : Woken) (k : Parts) (ids : Ids) (rest : List Entry) (r left : ℕ) (events : List Event)
    (object : ObjectId) (chains : ChainTable) (objects : ObjectTable)
    → EndsRegion header h who k ids rest r (events ++ past) → LosesRegion k r left object chains objects → left ≡ 0
    → EndsObject header h who (record k { chains = chains; memory = record k.memory { objects = objects } }) ids rest object.0 (events ++ past)
ends_top header h past who k ids rest r left events object chains objects e loses none =
    let top = loses.row.top.0 in
    let now : ObjectRow = record (loses.was) { references = left } in
    subst (λ (z : ObjectId). EndsObject header h who (record k { chains = chains; memory = record k.memory { objects = objects } }) ids rest z.0
    (events ++ past)) (sym loses.top)
    (record {
      runs = runs_gone header h past who k ids rest r left events object chains objects e loses;
      used = used_gone header h past who k ids rest r events chains e loses.region;
      row = now;
      known = known_put top now k.memory.objects objects loses.put;
      none = none;
      referred =
          but_ended r None top now k.chains chains k.memory.objects objects k.memory.resident loses.region loses.put
          (stays_served loses.known refl refl) e.referred;
    })
