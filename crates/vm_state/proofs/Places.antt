-- Who waits, while chains change: the places of a page stay places of it, and none is in an object to which nothing leads.
use Rattle.std.proofs.Common.{Bool, List, None, Option, Some, [], ap, arith, false, inl, inr, refl, subst, suc, sym, true, zero, ℕ, ◌&&◌, ◌+◌, ◌<◌, ◌==◌, ◌||◌}
use Rattle.std.proofs.Common.{◌∙◌, ◌∷◌, ◌≡◌}
use Rattle.std.proofs.lemmas.Bool.{or_right}
use Rattle.std.specs.Prelude.{if◌then◌else◌, nat_le, nat_lt, ◌≢◌}
use Rattle.vm_abroad.proofs.Own.{itself}
use Rattle.vm_base.specs.Entries.{entry_at, page_at}
use Rattle.vm_base.specs.declared.entry.Entry.{Entry}
use Rattle.vm_base.specs.declared.ids.ObjectId.{ObjectId}
use Rattle.vm_base.specs.declared.ids.PageKey.{PageKey}
use Rattle.vm_copies.specs.Copies.{CopyTable, newest_at}
use Rattle.vm_fault.specs.Pushes.{owed_at}
use Rattle.vm_fault.specs.Walks.{IsAt, IsUnder, top_place}
use Rattle.vm_maps.specs.Maps.{Mapped, rows_in}
use Rattle.vm_model.specs.Tasks.{has_entry}
use Rattle.vm_model.specs.Waiting.{Access}
use Rattle.vm_objects.specs.Objects.{ObjectTable, PutsObject, object_at}
use Rattle.vm_objects.specs.declared.row.ObjectRow.{ObjectRow}
use Rattle.vm_parts.proofs.Rows.{if_true, one_case, some_is}
use Rattle.vm_resident.specs.Resident.{ResidentTable, page_key, row_at}
use Rattle.vm_resident.specs.declared.page_row.PageRow.{PageRow}
use Rattle.vm_shadow.specs.Chains.{ChainTable, CopiesRegion, DropsShadow, ObjectsBelow, PutsRegion, ShadowsRegion, copy_of, region_at, shadow_at}
use Rattle.vm_shadow.specs.declared.region_row.RegionRow.{RegionRow}
use Rattle.vm_shadow.specs.declared.shadow_row.ShadowRow.{ShadowRow}
use Rattle.vm_state.proofs.Passing.{over_kept, passed_placed}
use Rattle.vm_state.proofs.Pushing.{owes_nothing, push_same}
use Rattle.vm_state.specs.Passed.{IsPlaceBehind, LeadsOver, Unmet}
use Rattle.vm_state.specs.Waiters.{Asker, HasWaiters, IsPlaceOf, LeadsTo, Reason, is_awaited}
use Rattle.vm_waits.specs.Wants.{address_in}
use Rattle.vm_waits.specs.declared.waiting.On.{On}
use Rattle.vm_waits.specs.declared.waiting.On.TheVariants as on
use Rattle.vm_waits.specs.declared.waiting.Waiting.{Waiting}
use Rattle.vm_waits.specs.declared.waiting.Want.{Want}
use Rattle.vm_state.proofs.Told.{KnowsMore, StillTold, waits_known, waits_referred}
use Rattle.vm_state.proofs.Waited.{KeepsPlaces, SameTop, leads_kept}
use Rattle.vm_state.proofs.Waiting.{unawaited_here}

-- where all places stay, and each top place stays one that owes its page

-- what owes its page is the top place of a page of an access still
abbrev pub KeepsTops : CopyTable → Mapped → ChainTable → ChainTable → ℕ → Want → Type 0
KeepsTops copies maps cs cs2 task what = (top key : PageKey) → owed_at copies top ≡ Some key → IsAt maps cs task what top → IsAt maps cs2 task what top

reason_placed : (maps : Mapped) (cs cs2 : ChainTable) (copies : CopyTable) (rs : ResidentTable) (os : ObjectTable) (task : ℕ) (what : Want) (why : On)
    → ((key : PageKey) → IsPlaceOf maps cs task what key → IsPlaceOf maps cs2 task what key) → KeepsTops copies maps cs cs2 task what
    → Reason maps cs copies rs os task what why → Reason maps cs2 copies rs os task what why
reason_placed maps cs cs2 copies rs os task what on.Again placed tops reason = reason
reason_placed maps cs cs2 copies rs os task what (on.Ready object) placed tops reason = (reason.0, placed reason.0 reason.1, reason.2, reason.3)
reason_placed maps cs cs2 copies rs os task what (on.Page key) placed tops reason = (placed key reason.0, reason.1)
reason_placed maps cs cs2 copies rs os task what (on.Push key) placed tops reason = push_same reason (tops reason.top key reason.owed reason.at) reason.owed
reason_placed maps cs cs2 copies rs os task what on.Frame placed tops reason = reason

pub waits_placed : {copies : CopyTable} {stays : PageKey → Type 0} {unmet : PageKey → Unmet} (maps : Mapped) (cs cs2 : ChainTable) (rs : ResidentTable)
    (os : ObjectTable)
    (rows : List Waiting) (who : On → Bool) (waiting_at : ℕ → Option Access)
    → HasWaiters maps cs copies rs os rows who waiting_at stays unmet
    → ((task : ℕ) (what : Want) (key : PageKey) → IsPlaceOf maps cs task what key → IsPlaceOf maps cs2 task what key)
    → ((task : ℕ) (what : Want) (key : PageKey) → IsPlaceBehind stays maps cs task what key → IsPlaceBehind stays maps cs2 task what key)
    → ((task : ℕ) (what : Want) → KeepsTops copies maps cs cs2 task what)
    → HasWaiters maps cs2 copies rs os rows who waiting_at stays unmet
waits_placed {copies = copies} {stays = stays} {unmet = unmet} maps cs cs2 rs os rows who waiting_at has placed behind tops =
    record {
      is = has.is;
      allowed = has.allowed;
      sized = has.sized;
      reasons = λ t w found apart. reason_placed maps cs cs2 copies rs os t w.want w.on (placed t w.want) (tops t w.want) (has.reasons t w found apart);
      passed = λ t w found apart. passed_placed stays unmet maps maps cs cs2 t w.want w.on (placed t w.want) (behind t w.want) (has.passed t w found apart);
      aims = λ t w key found is. placed t w.want key (has.aims t w key found is);
      askers = has.askers;
      ready = has.ready;
    }

-- a marked region gets an object of its own: each place is one still, one step further down

shadows_shadowed : (old new : ChainTable) (region : ℕ) (object : ObjectId) (row : RegionRow) → ShadowsRegion region object row old new
    → ObjectsBelow object.0 old → (o : ℕ) (under : ShadowRow) → shadow_at old o ≡ Some under → shadow_at new o ≡ Some under
shadows_shadowed old new region object row made below o under found =
    elim (one_case object.0 o (Some (record { under = row.top; shift = row.shift })) (shadow_at old o) (shadow_at new o) (made.under o)) [
      | inl this ↦ let less : o < object.0 = below.shadows o under found in absurd (omega (arith, less, this.0))
      | inr other ↦ other.1 ∙ found
    ]

abbrev spot : ObjectId → ℕ → PageKey
spot object page = record { object = object; page = record { 0 = page } }

-- what was the region's top place is under the new object's
under_shadowed : (old new : ChainTable) (region : ℕ) (object : ObjectId) (row : RegionRow) (page : ℕ) (was : PageKey) → ShadowsRegion region object row old new
    → was ≡ top_place row page
    → IsUnder new (top_place (record row { top = object; shift = 0; marked = false }) page) was
under_shadowed old new region object row page was made is =
    record {
      row = record { under = row.top; shift = row.shift };
      found = if_true object.0 _ _ _ (made.under object.0);
      is = is ∙ ap (spot row.top) (further page);
    }
  where
    further : (n : ℕ) → row.shift + n ≡ 0 + n + row.shift
    further n = omega arith

pub place_shadowed : (maps : Mapped) (old new : ChainTable) (region : ℕ) (object : ObjectId) (row : RegionRow) (task : ℕ) (what : Want) (key : PageKey)
    → region_at old region ≡ Some row → ShadowsRegion region object row old new → ObjectsBelow object.0 old → IsPlaceOf maps old task what key
    → IsPlaceOf maps new task what key
place_shadowed maps old new region object row task what key there made below place =
    elim (one_case region at.entry.region.0 (Some now) (region_at old at.entry.region.0) (region_at new at.entry.region.0) (made.at at.entry.region.0)) [
      | inl this ↦ record {
        top = top_place now page;
        at = record { entry = at.entry; found = at.found; row = now; region = this.1; is = refl };
        steps = suc place.steps;
        leads = (place.top, over (same_row this.0), leads);
      }
      | inr other ↦ record {
        top = place.top;
        at = record { entry = at.entry; found = at.found; row = at.row; region = other.1 ∙ at.region; is = at.is };
        steps = place.steps;
        leads = leads;
      }
    ]
  where
    at : IsAt maps old task what place.top
    at = place.at

    now : RegionRow
    now = record row { top = object; shift = 0; marked = false }

    page : ℕ
    page = page_at maps.size (address_in maps.size what) at.entry

    leads : LeadsTo new place.steps place.top key
    leads = leads_kept old new (shadows_shadowed old new region object row made below) place.steps place.top key place.leads

    same_row : region ≡ at.entry.region.0 → row ≡ at.row
    same_row same = some_is row at.row (sym there ∙ (ap (region_at old) same ∙ at.region))

    over : row ≡ at.row → IsUnder new (top_place now page) place.top
    over same = under_shadowed old new region object row page place.top made (at.is ∙ ap (λ (z : RegionRow). top_place z page) (sym same))

-- with what is passed over on the way there, and the new object's page
behind_shadowed : {stays : PageKey → Type 0} (maps : Mapped) (old new : ChainTable) (region : ℕ) (object : ObjectId) (row : RegionRow) (task : ℕ) (what : Want)
    (key : PageKey)
    → region_at old region ≡ Some row → ShadowsRegion region object row old new → ObjectsBelow object.0 old → ((page : ℕ) → stays (spot object page))
    → IsPlaceBehind stays maps old task what key → IsPlaceBehind stays maps new task what key
behind_shadowed {stays = stays} maps old new region object row task what key there made below bare place =
    elim (one_case region at.entry.region.0 (Some now) (region_at old at.entry.region.0) (region_at new at.entry.region.0) (made.at at.entry.region.0)) [
      | inl this ↦ record {
        top = top_place now page;
        at = record { entry = at.entry; found = at.found; row = now; region = this.1; is = refl };
        steps = suc place.steps;
        leads = (bare (0 + page), (place.top, over (same_row this.0), leads));
      }
      | inr other ↦ record {
        top = place.top;
        at = record { entry = at.entry; found = at.found; row = at.row; region = other.1 ∙ at.region; is = at.is };
        steps = place.steps;
        leads = leads;
      }
    ]
  where
    at : IsAt maps old task what place.top
    at = place.at

    now : RegionRow
    now = record row { top = object; shift = 0; marked = false }

    page : ℕ
    page = page_at maps.size (address_in maps.size what) at.entry

    leads : LeadsOver stays new place.steps place.top key
    leads = over_kept stays old new (shadows_shadowed old new region object row made below) place.steps place.top key place.leads

    same_row : region ≡ at.entry.region.0 → row ≡ at.row
    same_row same = some_is row at.row (sym there ∙ (ap (region_at old) same ∙ at.region))

    over : row ≡ at.row → IsUnder new (top_place now page) place.top
    over same = under_shadowed old new region object row page place.top made (at.is ∙ ap (λ (z : RegionRow). top_place z page) (sym same))

-- the top places that owe their pages are those of other regions
tops_shadowed : (copies : CopyTable) (maps : Mapped) (old new : ChainTable) (region : ℕ) (object : ObjectId) (row : RegionRow) (task : ℕ) (what : Want)
    → region_at old region ≡ Some row → ShadowsRegion region object row old new → newest_at copies row.top.0 ≡ None
    → KeepsTops copies maps old new task what
tops_shadowed copies maps old new region object row task what there made none top key owed at =
    elim (one_case region at.entry.region.0 (Some (record row { top = object; shift = 0; marked = false })) (region_at old at.entry.region.0)
    (region_at new at.entry.region.0) (made.at at.entry.region.0)) [
      | inl this ↦ absurd (owes_nothing copies top key (ap (newest_at copies) (over this.0) ∙ none) owed)
      | inr other ↦ record { entry = at.entry; found = at.found; row = at.row; region = other.1 ∙ at.region; is = at.is }
    ]
  where
    over : region ≡ at.entry.region.0 → top.object.0 ≡ row.top.0
    over same =
        ap (λ (z : PageKey). z.object.0) at.is
        ∙ ap (λ (z : RegionRow). z.top.0) (some_is at.row row (sym at.region ∙ (sym (ap (region_at old) same) ∙ there)))

pub waits_shadowed : {copies : CopyTable} {stays : PageKey → Type 0} {unmet : PageKey → Unmet} (maps : Mapped) (old new : ChainTable) (rs : ResidentTable)
    (os os2 : ObjectTable)
    (rows : List Waiting) (who : On → Bool) (waiting_at : ℕ → Option Access) (region : ℕ) (object : ObjectId) (row : RegionRow)
    → HasWaiters maps old copies rs os rows who waiting_at stays unmet → region_at old region ≡ Some row → ShadowsRegion region object row old new
    → ObjectsBelow object.0 old → ((page : ℕ) → stays (spot object page)) → KnowsMore os os2 → newest_at copies row.top.0 ≡ None
    → HasWaiters maps new copies rs os2 rows who waiting_at stays unmet
waits_shadowed {copies = copies} maps old new rs os os2 rows who waiting_at region object row has there made below bare more none =
    waits_known maps new rs os os2 rows who waiting_at
    (waits_placed maps old new rs os rows who waiting_at has (λ task what key place. place_shadowed maps old new region object row task what key there made
    below place)
    (λ task what key place. behind_shadowed maps old new region object row task what key there made below bare place)
    (λ task what. tops_shadowed copies maps old new region object row task what there made none))
    more

-- a region goes to which no entry leads

-- what holds an address is an entry on its region
pub on_its_region : (address : ℕ) (rows : List Entry) (found : Entry) → entry_at address rows ≡ Some found → has_entry found.region.0 rows ≡ true
on_its_region address [] found is = absurd (let bad : None ≡ Some found = is in cc)
on_its_region address (row ∷ rows) found is =
    by_test (λ e. on_its_region address rows found e) (nat_le row.address address && nat_lt address (row.address + row.bytes)) is
  where
    by_test : (entry_at address rows ≡ Some found → has_entry found.region.0 rows ≡ true) → (b : Bool)
        → (if b then Some row else entry_at address rows) ≡ Some found → (row.region.0 == found.region.0 || has_entry found.region.0 rows) ≡ true
    by_test later true is =
        let same : row ≡ found = some_is row found is in subst (λ (z : Entry). (z.region.0 == found.region.0 || has_entry found.region.0 rows) ≡ true)
        (sym same) (rw (itself found.region.0) refl)
    by_test later false is = or_right (row.region.0 == found.region.0) (has_entry found.region.0 rows) (later is)

-- an access is about a page of another region
pub apart_at : (maps : Mapped) (cs : ChainTable) (task : ℕ) (what : Want) (key : PageKey) (r : ℕ) → has_entry r (rows_in task maps) ≡ false
    → (at : IsAt maps cs task what key) → r ≢ at.entry.region.0
apart_at maps cs task what key r none at same =
    let has = on_its_region (address_in maps.size what) (rows_in task maps) at.entry at.found in
    let bad : false ≡ true = sym none ∙ (ap (λ z. has_entry z (rows_in task maps)) same ∙ has) in
    cc

pub place_without : (maps : Mapped) (cs cs2 : ChainTable) (task : ℕ) (what : Want) (key : PageKey) (r : ℕ) → PutsRegion r None cs cs2
    → has_entry r (rows_in task maps) ≡ false → IsPlaceOf maps cs task what key → IsPlaceOf maps cs2 task what key
place_without maps cs cs2 task what key r put none place =
    elim (one_case r at.entry.region.0 None (region_at cs at.entry.region.0) (region_at cs2 at.entry.region.0) (put.at at.entry.region.0)) [
      | inl this ↦ absurd (apart_at maps cs task what place.top r none at this.0)
      | inr other ↦ record {
        top = place.top;
        at = record { entry = at.entry; found = at.found; row = at.row; region = other.1 ∙ at.region; is = at.is };
        steps = place.steps;
        leads = leads_kept cs cs2 (λ o row found. ap (λ f. f o) put.shadows ∙ found) place.steps place.top key place.leads;
      }
    ]
  where
    at : IsAt maps cs task what place.top
    at = place.at

behind_without : {stays : PageKey → Type 0} (maps : Mapped) (cs cs2 : ChainTable) (task : ℕ) (what : Want) (key : PageKey) (r : ℕ) → PutsRegion r None cs cs2
    → has_entry r (rows_in task maps) ≡ false → IsPlaceBehind stays maps cs task what key → IsPlaceBehind stays maps cs2 task what key
behind_without {stays = stays} maps cs cs2 task what key r put none place =
    elim (one_case r at.entry.region.0 None (region_at cs at.entry.region.0) (region_at cs2 at.entry.region.0) (put.at at.entry.region.0)) [
      | inl this ↦ absurd (apart_at maps cs task what place.top r none at this.0)
      | inr other ↦ record {
        top = place.top;
        at = record { entry = at.entry; found = at.found; row = at.row; region = other.1 ∙ at.region; is = at.is };
        steps = place.steps;
        leads = over_kept stays cs cs2 (λ o row found. ap (λ f. f o) put.shadows ∙ found) place.steps place.top key place.leads;
      }
    ]
  where
    at : IsAt maps cs task what place.top
    at = place.at

at_without : (maps : Mapped) (cs cs2 : ChainTable) (task : ℕ) (what : Want) (key : PageKey) (r : ℕ) → PutsRegion r None cs cs2
    → has_entry r (rows_in task maps) ≡ false → IsAt maps cs task what key → IsAt maps cs2 task what key
at_without maps cs cs2 task what key r put none at =
    elim (one_case r at.entry.region.0 None (region_at cs at.entry.region.0) (region_at cs2 at.entry.region.0) (put.at at.entry.region.0)) [
      | inl this ↦ absurd (apart_at maps cs task what key r none at this.0)
      | inr other ↦ record { entry = at.entry; found = at.found; row = at.row; region = other.1 ∙ at.region; is = at.is }
    ]

-- who waits has entries on other regions
pub waits_without : {copies : CopyTable} {stays : PageKey → Type 0} {unmet : PageKey → Unmet} (maps : Mapped) (cs cs2 : ChainTable) (rs : ResidentTable)
    (os : ObjectTable)
    (rows : List Waiting) (who : On → Bool) (waiting_at : ℕ → Option Access) (r : ℕ)
    → HasWaiters maps cs copies rs os rows who waiting_at stays unmet → PutsRegion r None cs cs2 → ((task : ℕ) → has_entry r (rows_in task maps) ≡ false)
    → HasWaiters maps cs2 copies rs os rows who waiting_at stays unmet
waits_without maps cs cs2 rs os rows who waiting_at r has put none =
    waits_placed maps cs cs2 rs os rows who waiting_at has (λ task what key place. place_without maps cs cs2 task what key r put (none task) place)
    (λ task what key place. behind_without maps cs cs2 task what key r put (none task) place)
    (λ task what top key owed at. at_without maps cs cs2 task what top r put (none task) at)

-- an object to which nothing leads: no region is over it, and no shadow

top_apart : (maps : Mapped) (cs : ChainTable) (task : ℕ) (what : Want) (key : PageKey) (o : ℕ)
    → ((r : ℕ) (row : RegionRow) → region_at cs r ≡ Some row → row.top.0 ≡ o → ⊥) → IsAt maps cs task what key → key.object.0 ≡ o → ⊥
top_apart maps cs task what key o tops at same = tops at.entry.region.0 at.row at.region (sym (ap (λ (z : PageKey). z.object.0) at.is) ∙ same)

next_apart : (cs : ChainTable) (o : ℕ) → ((s : ℕ) (row : ShadowRow) → shadow_at cs s ≡ Some row → row.under.0 ≡ o → ⊥) → (from next : PageKey)
    → IsUnder cs from next → next.object.0 ≡ o → ⊥
next_apart cs o unders from next under same = unders from.object.0 under.row under.found (sym (ap (λ (z : PageKey). z.object.0) under.is) ∙ same)

leads_apart : (cs : ChainTable) (o : ℕ) → ((s : ℕ) (row : ShadowRow) → shadow_at cs s ≡ Some row → row.under.0 ≡ o → ⊥) → (n : ℕ) (from to : PageKey)
    → (from.object.0 ≡ o → ⊥) → LeadsTo cs n from to → to.object.0 ≡ o → ⊥
leads_apart cs o unders zero from to apart leads same = apart (ap (λ (z : PageKey). z.object.0) leads ∙ same)
leads_apart cs o unders (suc n) from to apart leads same = leads_apart cs o unders n leads.0 to (next_apart cs o unders from leads.0 leads.1) leads.2 same

-- no place is in it
pub place_apart : (maps : Mapped) (cs : ChainTable) (task : ℕ) (what : Want) (key : PageKey) (o : ℕ)
    → ((r : ℕ) (row : RegionRow) → region_at cs r ≡ Some row → row.top.0 ≡ o → ⊥)
    → ((s : ℕ) (row : ShadowRow) → shadow_at cs s ≡ Some row → row.under.0 ≡ o → ⊥) → IsPlaceOf maps cs task what key → key.object.0 ≡ o → ⊥
place_apart maps cs task what key o tops unders place =
    leads_apart cs o unders place.steps place.top key (top_apart maps cs task what place.top o tops place.at) place.leads

-- its pages that have rows are here, and no unlock of them is outstanding
pub unawaited_apart : {copies : CopyTable} {stays : PageKey → Type 0} {unmet : PageKey → Unmet} (maps : Mapped) (cs : ChainTable) (rs : ResidentTable)
    (os : ObjectTable)
    (rows : List Waiting) (who : On → Bool) (waiting_at : ℕ → Option Access) (o p : ℕ) (row : PageRow)
    → HasWaiters maps cs copies rs os rows who waiting_at stays unmet
    → ((r : ℕ) (row : RegionRow) → region_at cs r ≡ Some row → row.top.0 ≡ o → ⊥)
    → ((s : ℕ) (row : ShadowRow) → shadow_at cs s ≡ Some row → row.under.0 ≡ o → ⊥) → row_at rs o p ≡ Some row → is_awaited row ≡ false
unawaited_apart maps cs rs os rows who waiting_at o p row has tops unders found = by_test (is_awaited row) refl
  where
    by_test : (b : Bool) → is_awaited row ≡ b → b ≡ false
    by_test false none = refl
    by_test true awaits =
        let asker : Asker rows o p = has.askers o p row found awaits in
        absurd (place_apart maps cs asker.task asker.row.want (page_key o p) o tops unders (has.aims asker.task asker.row (page_key o p) asker.is asker.waits)
        refl)

pub here_apart : {copies : CopyTable} {stays : PageKey → Type 0} {unmet : PageKey → Unmet} (maps : Mapped) (cs : ChainTable) (rs : ResidentTable)
    (os : ObjectTable)
    (rows : List Waiting) (who : On → Bool) (waiting_at : ℕ → Option Access) (o p : ℕ) (row : PageRow)
    → HasWaiters maps cs copies rs os rows who waiting_at stays unmet
    → ((r : ℕ) (row : RegionRow) → region_at cs r ≡ Some row → row.top.0 ≡ o → ⊥)
    → ((s : ℕ) (row : ShadowRow) → shadow_at cs s ≡ Some row → row.under.0 ≡ o → ⊥) → row_at rs o p ≡ Some row → row.here ≡ true
here_apart maps cs rs os rows who waiting_at o p row has tops unders found =
    (unawaited_here row (unawaited_apart maps cs rs os rows who waiting_at o p row has tops unders found)).0

pub unsent_apart : {copies : CopyTable} {stays : PageKey → Type 0} {unmet : PageKey → Unmet} (maps : Mapped) (cs : ChainTable) (rs : ResidentTable)
    (os : ObjectTable)
    (rows : List Waiting) (who : On → Bool) (waiting_at : ℕ → Option Access) (o p : ℕ) (row : PageRow)
    → HasWaiters maps cs copies rs os rows who waiting_at stays unmet
    → ((r : ℕ) (row : RegionRow) → region_at cs r ≡ Some row → row.top.0 ≡ o → ⊥)
    → ((s : ℕ) (row : ShadowRow) → shadow_at cs s ≡ Some row → row.under.0 ≡ o → ⊥) → row_at rs o p ≡ Some row → row.unlock_sent ≡ false
unsent_apart maps cs rs os rows who waiting_at o p row has tops unders found =
    (unawaited_here row (unawaited_apart maps cs rs os rows who waiting_at o p row has tops unders found)).1

-- what is known of it may change
pub told_apart : (maps : Mapped) (cs : ChainTable) (os os2 : ObjectTable) (o : ℕ) (known : Option ObjectRow) → PutsObject o known os os2
    → ((r : ℕ) (row : RegionRow) → region_at cs r ≡ Some row → row.top.0 ≡ o → ⊥)
    → ((s : ℕ) (row : ShadowRow) → shadow_at cs s ≡ Some row → row.under.0 ≡ o → ⊥) → StillTold maps cs os os2
told_apart maps cs os os2 o known put tops unders =
    record {
      at = λ task what key place told. elim (one_case o key.object.0 known (object_at os key.object.0) (object_at os2 key.object.0) (put.at key.object.0)) [
        | inl this ↦ absurd (place_apart maps cs task what key o tops unders place (sym this.0))
        | inr other ↦ record { row = told.row; found = other.1 ∙ told.found; sent = told.sent }
      ];
    }

-- what stood under it goes

leads_dropped : (cs cs2 : ChainTable) (o : ℕ) → DropsShadow o cs cs2 → ((s : ℕ) (row : ShadowRow) → shadow_at cs s ≡ Some row → row.under.0 ≡ o → ⊥)
    → (n : ℕ) (from to : PageKey) → (from.object.0 ≡ o → ⊥) → LeadsTo cs n from to → LeadsTo cs2 n from to
leads_dropped cs cs2 o drops unders zero from to apart leads = leads
leads_dropped cs cs2 o drops unders (suc n) from to apart leads =
    elim (one_case o from.object.0 None (shadow_at cs from.object.0) (shadow_at cs2 from.object.0) (drops.at from.object.0)) [
      | inl this ↦ absurd (apart (sym this.0))
      | inr other ↦
          let under : IsUnder cs from leads.0 = leads.1 in (
            leads.0,
            record { row = under.row; found = other.1 ∙ under.found; is = under.is },
            leads_dropped cs cs2 o drops unders n leads.0 to (next_apart cs o unders from leads.0 under) leads.2,
          )
    ]

pub place_dropped : (maps : Mapped) (cs cs2 : ChainTable) (task : ℕ) (what : Want) (key : PageKey) (o : ℕ) → DropsShadow o cs cs2
    → ((r : ℕ) (row : RegionRow) → region_at cs r ≡ Some row → row.top.0 ≡ o → ⊥)
    → ((s : ℕ) (row : ShadowRow) → shadow_at cs s ≡ Some row → row.under.0 ≡ o → ⊥) → IsPlaceOf maps cs task what key → (key.object.0 ≡ o → ⊥)
    × IsPlaceOf maps cs2 task what key
place_dropped maps cs cs2 task what key o drops tops unders place =
    let at = place.at in (
      place_apart maps cs task what key o tops unders place,
      record {
        top = place.top;
        at = record { entry = at.entry; found = at.found; row = at.row; region = ap (λ f. f at.entry.region.0) drops.regions ∙ at.region; is = at.is };
        steps = place.steps;
        leads = leads_dropped cs cs2 o drops unders place.steps place.top key (top_apart maps cs task what place.top o tops at) place.leads;
      },
    )

over_dropped : (stays : PageKey → Type 0) (cs cs2 : ChainTable) (o : ℕ) → DropsShadow o cs cs2
    → ((s : ℕ) (row : ShadowRow) → shadow_at cs s ≡ Some row → row.under.0 ≡ o → ⊥) → (n : ℕ) (from to : PageKey) → (from.object.0 ≡ o → ⊥)
    → LeadsOver stays cs n from to → LeadsOver stays cs2 n from to
over_dropped stays cs cs2 o drops unders zero from to apart leads = leads
over_dropped stays cs cs2 o drops unders (suc n) from to apart leads =
    elim (one_case o from.object.0 None (shadow_at cs from.object.0) (shadow_at cs2 from.object.0) (drops.at from.object.0)) [
      | inl this ↦ absurd (apart (sym this.0))
      | inr other ↦
          let under : IsUnder cs from leads.1.0 = leads.1.1 in (
            leads.0,
            (
              leads.1.0,
              record { row = under.row; found = other.1 ∙ under.found; is = under.is },
              over_dropped stays cs cs2 o drops unders n leads.1.0 to (next_apart cs o unders from leads.1.0 under) leads.1.2,
            ),
          )
    ]

behind_dropped : {stays : PageKey → Type 0} (maps : Mapped) (cs cs2 : ChainTable) (task : ℕ) (what : Want) (key : PageKey) (o : ℕ) → DropsShadow o cs cs2
    → ((r : ℕ) (row : RegionRow) → region_at cs r ≡ Some row → row.top.0 ≡ o → ⊥)
    → ((s : ℕ) (row : ShadowRow) → shadow_at cs s ≡ Some row → row.under.0 ≡ o → ⊥) → IsPlaceBehind stays maps cs task what key
    → IsPlaceBehind stays maps cs2 task what key
behind_dropped {stays = stays} maps cs cs2 task what key o drops tops unders place =
    let at = place.at in
    record {
      top = place.top;
      at = record { entry = at.entry; found = at.found; row = at.row; region = ap (λ f. f at.entry.region.0) drops.regions ∙ at.region; is = at.is };
      steps = place.steps;
      leads = over_dropped stays cs cs2 o drops unders place.steps place.top key (top_apart maps cs task what place.top o tops at) place.leads;
    }

-- and has another number of references
pub waits_dropped : {copies : CopyTable} {stays : PageKey → Type 0} {unmet : PageKey → Unmet} (maps : Mapped) (cs cs2 : ChainTable) (rs : ResidentTable)
    (os os2 : ObjectTable)
    (rows : List Waiting) (who : On → Bool) (waiting_at : ℕ → Option Access) (o under left : ℕ) (was : ObjectRow)
    → HasWaiters maps cs copies rs os rows who waiting_at stays unmet → DropsShadow o cs cs2
    → ((r : ℕ) (row : RegionRow) → region_at cs r ≡ Some row → row.top.0 ≡ o → ⊥)
    → ((s : ℕ) (row : ShadowRow) → shadow_at cs s ≡ Some row → row.under.0 ≡ o → ⊥)
    → object_at os under ≡ Some was → PutsObject under (Some (record was { references = left })) os os2
    → HasWaiters maps cs2 copies rs os2 rows who waiting_at stays unmet
waits_dropped maps cs cs2 rs os os2 rows who waiting_at o under left was has drops tops unders found put =
    waits_referred maps cs2 rs os os2 rows who waiting_at under left was
    (waits_placed maps cs cs2 rs os rows who waiting_at has (λ task what key place. (place_dropped maps cs cs2 task what key o drops tops unders place).1)
    (λ task what key place. behind_dropped maps cs cs2 task what key o drops tops unders place)
    (λ task what top key owed at. record {
      entry = at.entry;
      found = at.found;
      row = at.row;
      region = ap (λ f. f at.entry.region.0) drops.regions ∙ at.region;
      is = at.is;
    }))
    found put

-- regions whose entries are counted anew, or that are made, or copied

same_top : (row now : RegionRow) (found : Option RegionRow) → found ≡ Some now → now.top ≡ row.top → now.shift ≡ row.shift → SameTop row found
same_top row now found is top shift = record { row_now = now; found = is; top = top; shift = shift }

pub keeps_put : (old new : ChainTable) (r : ℕ) (row row2 : RegionRow) → region_at old r ≡ Some row → row2.top ≡ row.top → row2.shift ≡ row.shift
    → PutsRegion r (Some row2) old new → KeepsPlaces old new
keeps_put old new r row row2 there top shift put =
    record {
      tops = λ q was found. elim (one_case r q (Some row2) (region_at old q) (region_at new q) (put.at q)) [
        | inl this ↦
            let same : row ≡ was = some_is row was (sym there ∙ (ap (region_at old) this.0 ∙ found)) in
            same_top was row2 (region_at new q) this.1 (top ∙ ap (λ z. z.top) same) (shift ∙ ap (λ z. z.shift) same)
        | inr other ↦ same_top was was (region_at new q) (other.1 ∙ found) refl refl
      ];
      shadows = λ o under found. ap (λ f. f o) put.shadows ∙ found;
    }

pub keeps_made : (old new : ChainTable) (r : ℕ) (row : RegionRow) → region_at old r ≡ None → PutsRegion r (Some row) old new → KeepsPlaces old new
keeps_made old new r row none put =
    record {
      tops = λ q was found. elim (one_case r q (Some row) (region_at old q) (region_at new q) (put.at q)) [
        | inl this ↦ absurd (let bad : None ≡ Some was = sym none ∙ (ap (region_at old) this.0 ∙ found) in cc)
        | inr other ↦ same_top was was (region_at new q) (other.1 ∙ found) refl refl
      ];
      shadows = λ o under found. ap (λ f. f o) put.shadows ∙ found;
    }

pub keeps_copied : (old new : ChainTable) (source copy offset pages : ℕ) (row : RegionRow) → region_at old copy ≡ None → region_at old source ≡ Some row
    → CopiesRegion source copy offset pages row old new → KeepsPlaces old new
keeps_copied old new source copy offset pages row none there copies =
    record {
      tops =
          λ q was found. elim (one_case copy q (Some (copy_of row offset pages)) (if source == q then Some (record row { marked = true }) else region_at old q)
          (region_at new q) (copies.at q)) [
            | inl this ↦ absurd (let bad : None ≡ Some was = sym none ∙ (ap (region_at old) this.0 ∙ found) in cc)
            | inr other ↦ elim (one_case source q (Some (record row { marked = true })) (region_at old q) (region_at new q) other.1) [
              | inl this ↦
                  let same : row ≡ was = some_is row was (sym there ∙ (ap (region_at old) this.0 ∙ found)) in
                  same_top was (record row { marked = true }) (region_at new q) this.1 (ap (λ z. z.top) same) (ap (λ z. z.shift) same)
              | inr still ↦ same_top was was (region_at new q) (still.1 ∙ found) refl refl
            ]
          ];
      shadows = λ o under found. ap (λ f. f o) copies.shadows ∙ found;
    }
