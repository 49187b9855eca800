-- Accesses on an object that its pager has ended are to be run again: who waits for what then.
use Rattle.vm_legal.proofs.Unshared.{wild_named}
use Rattle.vm_waits.proofs.Entries.{entry_task}
use Rattle.vm_waits.proofs.Rows.{entry_map}
use Rattle.vm_kernel.proofs.Common.{Access, AllUsed, Asker, BeganInOrder, Bool, ChainTable, HasCopies, HasWaiters, Header, Ids, IsPagerTold, LeadsTo, List}
use Rattle.vm_kernel.proofs.Common.{Mapped, None, ObjectRow, ObjectTable, On, Option, PageKey, Parts, PutsObject, Reason, ResidentTable, ShadowRow, Some}
use Rattle.vm_kernel.proofs.Common.{Target, Waiting, Want, [], ap, arith, entry, eqb_tells, false, if◌then◌else◌, inl, inr, is_woken, map, named, object_at}
use Rattle.vm_kernel.proofs.Common.{one_case, page_key, ready_in, refl, row_at, shadow_at, some_is, subst, suc, sym, true, zero, ℕ, ◌<◌, ◌==◌, ◌∙◌, ◌≡◌}
use Rattle.std.specs.Option.{option_map}
use Rattle.vm_base.specs.declared.ids.ObjectId.{ObjectId}
use Rattle.vm_copies.specs.Copies.{newest_at}
use Rattle.vm_fault.specs.Walks.{IsAt, IsUnder}
use Rattle.vm_kernel.proofs.memory.PagesShown.{KeepsOthers, itself}
use Rattle.vm_kernel.proofs.space.ObjectsEnd.{last_step}
use Rattle.vm_kernel.proofs.steps.RowsInOrder.{map_order}
use Rattle.vm_kernel.specs.Destroying.{is_on, is_place_on, place_led, woken_on}
use Rattle.vm_kernel.specs.Matches.{ControlFacts, Core, MemoryFacts, SpaceFacts}
use Rattle.vm_legal.specs.Outside.{is_wild}
use Rattle.vm_maps.specs.Judge.{place_at}
use Rattle.vm_state.proofs.Files.{under_tame}
use Rattle.vm_state.proofs.CopyFits.{newest_row}
use Rattle.vm_state.proofs.CopyObjects.{owed_some}
use Rattle.vm_state.proofs.Declared.{over_declared, shadow_undeclared, whole_row}
use Rattle.vm_state.proofs.Filling.{SameFills, regions_filled}
use Rattle.vm_state.proofs.Passing.{same_of}
use Rattle.vm_state.proofs.Pushing.{asked_same, push_stays}
use Rattle.vm_state.specs.Filling.{FitsCopy, fills_in}
use Rattle.vm_state.specs.Passed.{Passed, Unmet}
use Rattle.vm_state.specs.Waiters.{IsPlaceOf, waiting_in}
use Rattle.vm_supply.specs.declared.woken.Woken.TheVariants as woken
use Rattle.vm_waits.specs.Waits.{is_again, with_on}
use Rattle.vm_waits.specs.Wants.{IsSizedWant}
use Rattle.vm_waits.specs.declared.waiting.Destination.{Destination}
use Rattle.vm_waits.specs.declared.waiting.On.TheVariants as on
use Rattle.vm_waits.specs.declared.waiting.Want.TheVariants as want

woken_task : (maps : Mapped) (o : ℕ) (w : Waiting) → (woken_on maps o w).task ≡ w.task
woken_task maps o w = by (is_on maps o w)
  where
    by : (b : Bool) → (if b then with_on w on.Again else w).task ≡ w.task
    by true = refl
    by false = refl

-- the rows of tasks, once they are woken
pub entry_woken : (maps : Mapped) (o : ℕ) (rows : List Waiting) (t : ℕ)
    → entry (map (woken_on maps o) rows) t ≡ option_map (woken_on maps o) (entry rows t)
entry_woken maps o rows t = entry_map (woken_on maps o) rows t (λ w. ap (λ z. z.0) (woken_task maps o w))

again_page : (key : PageKey) → on.Again ≡ on.Page key → ⊥
again_page key bad = let no : true ≡ false = ap is_again bad in cc

same_access : (maps : Mapped) (o : ℕ) (x : Option Waiting) → waiting_in maps.size (option_map (woken_on maps o) x) ≡ waiting_in maps.size x
same_access maps o None = refl
same_access maps o (Some w) = by (is_on maps o w)
  where
    by : (b : Bool) → waiting_in maps.size (Some (if b then with_on w on.Again else w)) ≡ waiting_in maps.size (Some w)
    by true = refl
    by false = refl

-- a row that was woken, or wasn't
data Wakened (maps : Mapped) (o : ℕ) (w : Waiting) : Waiting → Type 0 where
  Woke : is_on maps o w ≡ true → Wakened maps o w (with_on w on.Again)
  Slept : is_on maps o w ≡ false → Wakened maps o w w

wakened : (maps : Mapped) (o : ℕ) (w : Waiting) → Wakened maps o w (woken_on maps o w)
wakened maps o w = by (is_on maps o w) refl
  where
    by : (b : Bool) → is_on maps o w ≡ b → Wakened maps o w (if b then with_on w on.Again else w)
    by true is = Woke is
    by false is = Slept is

-- the row of a task before
record WasRow (maps : Mapped) (o t : ℕ) (rows : List Waiting) (w : Waiting) : Type 0 where
  was : Waiting
  found : entry rows t ≡ Some was
  wakes : Wakened maps o was w

was_row : (maps : Mapped) (o t : ℕ) (rows : List Waiting) (w : Waiting) → entry (map (woken_on maps o) rows) t ≡ Some w → WasRow maps o t rows w
was_row maps o t rows w found = by (entry rows t) refl (sym (entry_woken maps o rows t) ∙ found)
  where
    by : (x : Option Waiting) → entry rows t ≡ x → option_map (woken_on maps o) x ≡ Some w → WasRow maps o t rows w
    by None is bad = absurd (let no : None ≡ Some w = bad in cc)
    by (Some v) is now =
        record { was = v; found = is; wakes = subst (λ (z : Waiting). Wakened maps o v z) (some_is (woken_on maps o v) w now) (wakened maps o v) }

-- An object has no page any more, and is known otherwise; each other object is as it was.
pub record IsEmptied (k : Parts) (o : ℕ) (resident : ResidentTable) (objects : ObjectTable) (now : ObjectRow) : Type 0 where
  pub none : (p : ℕ) → row_at resident o p ≡ None
  pub others : KeepsOthers o k.memory.resident resident
  pub put : PutsObject o (Some now) k.memory.objects objects

module _ {header : Header} {h : ℕ} {k : Parts} {ids : Ids} {s : SpaceFacts} {c : ControlFacts} {m : MemoryFacts} (o : ℕ)
    (core : Core header h k ids [] s c m) (wild : is_wild header o ≡ true) where
  declared : o < named header
  declared = wild_named header o wild

  -- a shadow is none of a declared object, nor is one under it
  no_shadow : (x : ℕ) (row : ShadowRow) → shadow_at k.chains x ≡ Some row → x ≡ o → ⊥
  no_shadow x row found same =
      let least = shadow_undeclared header core.objects.regions core.spaces.homes.1.bare x row found in
      let low = declared in
      omega (arith, least, low, same)

  no_under : (x : ℕ) (row : ShadowRow) → shadow_at k.chains x ≡ Some row → row.under.0 ≡ o → ⊥
  no_under x row found same =
      let tame = under_tame header row.under.0 (core.objects.kinds.unders x row found) in
      let bad : true ≡ false = sym wild ∙ (ap (λ z. is_wild header z) (sym same) ∙ tame) in
      cc

  -- where an access on the object leads
  on_entry : (task : ℕ) (what : Want) (top : PageKey) (at : IsAt k.maps k.chains task what top) → is_place_on o (place_led k.maps task what) ≡ true
      → at.entry.region.0 ≡ o
  on_entry task (want.Load address bytes) top at is =
      same_of at.entry.region.0 o (sym (ap (λ z. is_place_on o (option_map (place_at k.maps.size address) z)) at.found) ∙ is)
  on_entry task (want.Store address bytes value) top at is =
      same_of at.entry.region.0 o (sym (ap (λ z. is_place_on o (option_map (place_at k.maps.size address) z)) at.found) ∙ is)
  on_entry task (want.CopyTo address pages target next) top at is = absurd (let bad : false ≡ true = is in cc)

  -- a place of an access on the object is in it
  on_place : (w : Waiting) (key : PageKey) → is_on k.maps o w ≡ true → IsPlaceOf k.maps k.chains w.task.0 w.want key → key.object.0 ≡ o
  on_place w key is place = by place.steps place.leads
    where
      at : IsAt k.maps k.chains w.task.0 w.want place.top
      at = place.at

      region : at.entry.region.0 ≡ o
      region = on_entry w.task.0 w.want place.top at is

      top : place.top.object.0 ≡ o
      top = ap (λ (z : PageKey). z.object.0) at.is
          ∙ ((whole_row core.objects.regions core.spaces.homes.1 at.entry.region.0 at.row (subst (λ (z : ℕ). z < named header) (sym region) declared)
          at.region).top ∙ region)

      by : (n : ℕ) → LeadsTo k.chains n place.top key → key.object.0 ≡ o
      by zero leads = sym (ap (λ (z : PageKey). z.object.0) leads) ∙ top
      by (suc n) leads = let link : IsUnder k.chains place.top leads.0 = leads.1 in absurd (no_shadow place.top.object.0 link.row link.found top)

  -- an access that leads to the object's region is on it: no slow copy does
  entry_on : (t : ℕ) (what : Want) (destination : Option Destination) (next_now : ℕ) (target_now : Option Target) (top : PageKey)
      (at : IsAt k.maps k.chains t what top) → IsSizedWant k.maps.size what
      → FitsCopy header k.maps k.chains k.memory.resident t what destination next_now target_now → at.entry.region.0 ≡ o
      → is_place_on o (place_led k.maps t what) ≡ true
  entry_on t (want.Load address bytes) destination next_now target_now top at sized fits same =
      ap (λ z. is_place_on o (option_map (place_at k.maps.size address) z)) at.found ∙ (ap (λ z. z == o) same ∙ itself o)
  entry_on t (want.Store address bytes value) destination next_now target_now top at sized fits same =
      ap (λ z. is_place_on o (option_map (place_at k.maps.size address) z)) at.found ∙ (ap (λ z. z == o) same ∙ itself o)
  entry_on t (want.CopyTo address pages target next) destination next_now target_now top at sized fits same =
      let its : fits.range.entry ≡ at.entry = some_is fits.range.entry at.entry (sym (fits.range.whole next sized.1) ∙ at.found) in
      let tame : is_wild header o ≡ false = subst (λ (z : ℕ). is_wild header z ≡ false) (ap (λ z. z.region.0) its ∙ same) fits.range.supplied in
      absurd (let bad : false ≡ true = sym tame ∙ wild in cc)

  -- and so is one with a place in the object
  place_on : (t : ℕ) (what : Want) (destination : Option Destination) (next_now : ℕ) (target_now : Option Target) (key : PageKey) → IsSizedWant k.maps.size what
      → FitsCopy header k.maps k.chains k.memory.resident t what destination next_now target_now → IsPlaceOf k.maps k.chains t what key → key.object.0 ≡ o
      → is_place_on o (place_led k.maps t what) ≡ true
  place_on t what destination next_now target_now key sized fits place same = by place.steps place.leads
    where
      at : IsAt k.maps k.chains t what place.top
      at = place.at

      top : place.top.object.0 ≡ o → at.entry.region.0 ≡ o
      top its =
          let over : at.row.top.0 ≡ o = sym (ap (λ (z : PageKey). z.object.0) at.is) ∙ its in
          over_declared core.objects.regions core.objects.kinds core.spaces.homes.1 at.entry.region.0 at.row at.region
          (subst (λ (z : ℕ). z < named header) (sym over) declared) ∙ over

      by : (n : ℕ) → LeadsTo k.chains n place.top key → is_place_on o (place_led k.maps t what) ≡ true
      by zero leads =
          entry_on t what destination next_now target_now place.top at sized fits (top (ap (λ (z : PageKey). z.object.0) leads ∙ same))
      by (suc n) leads =
          let last = last_step k.chains n place.top key leads in
          let link : IsUnder k.chains last.0 key = last.2 in
          absurd (no_under last.0.object.0 link.row link.found (sym (ap (λ (z : PageKey). z.object.0) link.is) ∙ same))

  -- a file's newest copy is another object
  pushes_elsewhere : (source : ℕ) (copy : ObjectId) → newest_at k.copies source ≡ Some copy → o ≡ copy.0 → ⊥
  pushes_elsewhere source copy newest same =
      let its = newest_row core.copied.fits.living source copy newest in
      let plain : s.objects.copy copy.0 ≡ false = subst (λ (z : ℕ). s.objects.copy z ≡ false) same (core.objects.undelayed o declared).copy in
      let bad : false ≡ true = sym plain ∙ core.copied.known.copy copy.0 its.0 its.1 in
      cc

  -- who waits, once the object has no page any more, and no control
  module _ {stays : PageKey → Type 0} {unmet : PageKey → Unmet} {rs2 : ResidentTable} {os2 : ObjectTable} {waiting_at : ℕ → Option Access} {next_at : ℕ → ℕ}
      {target_at : ℕ → Option Target} {now : ObjectRow}
      (has : HasWaiters k.maps k.chains k.copies k.memory.resident k.memory.objects k.waits.rows (is_woken woken.Nobody) waiting_at stays unmet)
      (copies : HasCopies header k.maps k.chains k.memory.resident k.waits.rows next_at target_at)
      (emptied : IsEmptied k o rs2 os2 now) where
    -- another object is known as before
    known : (x : ℕ) → (o ≡ x → ⊥) → object_at os2 x ≡ object_at k.memory.objects x
    known x apart = elim (one_case o x (Some now) (object_at k.memory.objects x) (object_at os2 x) (emptied.put.at x)) [
      | inl this ↦ absurd (apart this.0)
      | inr other ↦ other.1
    ]

    -- no place of an access that wasn't woken is in the object
    beside : (t : ℕ) (w : Waiting) (key : PageKey) → entry k.waits.rows t ≡ Some w → is_on k.maps o w ≡ false → IsPlaceOf k.maps k.chains t w.want key
        → o ≡ key.object.0 → ⊥
    beside t w key found off place same =
        let on_it : is_on k.maps o w ≡ true = subst (λ (z : ℕ). is_place_on o (place_led k.maps z w.want) ≡ true) (sym (entry_task k.waits.rows t w found))
        (place_on t w.want w.destination (next_at t) (target_at t) key (has.sized t w found) (copies.each t w found) place (sym same)) in
        let bad : false ≡ true = sym off ∙ on_it in cc

    reason_beside : (t : ℕ) (w : Waiting) (reason : On) → entry k.waits.rows t ≡ Some w → is_on k.maps o w ≡ false
        → Reason k.maps k.chains k.copies k.memory.resident k.memory.objects t w.want reason → Reason k.maps k.chains k.copies rs2 os2 t w.want reason
    reason_beside t w on.Again found off why = tt
    reason_beside t w (on.Ready object) found off why =
        let apart : o ≡ object.0 → ⊥ = λ same. beside t w why.0 found off why.1 (same ∙ sym (ap (λ z. z.0) why.2)) in
        let told : IsPagerTold k.memory.objects object.0 = why.3 in
        (why.0, why.1, why.2, record { row = told.row; found = known object.0 apart ∙ told.found; sent = told.sent })
    reason_beside t w (on.Page key) found off why =
        let same : row_at rs2 key.object.0 key.page.0 ≡ row_at k.memory.resident key.object.0 key.page.0 = emptied.others key.object.0 key.page.0
        (beside t w key found off why.0) in (
          why.0,
          elim why.1 [
            | inl asked ↦ inl (record { row = asked.row; found = same ∙ asked.found; away = asked.away })
            | inr locked ↦ inr (record { row = locked.row; found = same ∙ locked.found; here = locked.here; locked = locked.locked; sent = locked.sent })
          ],
        )
    reason_beside t w (on.Push key) found off why =
        push_stays why why.at why.owed (asked_same k.memory.resident rs2 key.object.0 key.page.0
        (emptied.others key.object.0 key.page.0 (pushes_elsewhere why.top.object.0 key.object (owed_some k.copies why.top key why.owed).0)) why.asked)
    reason_beside t w on.Frame found off why = tt

    reason_now : (t : ℕ) (v w : Waiting) → entry k.waits.rows t ≡ Some v → Wakened k.maps o v w → Reason k.maps k.chains k.copies rs2 os2 t w.want w.on
    reason_now t v _ found (Woke is) = tt
    reason_now t v _ found (Slept off) = reason_beside t v v.on found off (has.reasons t v found refl)

    passed_now : (t : ℕ) (v w : Waiting) → entry k.waits.rows t ≡ Some v → Wakened k.maps o v w → Passed stays unmet k.maps k.chains t w.want w.on
    passed_now t v _ found (Woke is) = tt
    passed_now t v _ found (Slept off) = has.passed t v found refl

    aims_now : (t : ℕ) (v w : Waiting) (key : PageKey) → entry k.waits.rows t ≡ Some v → Wakened k.maps o v w → w.on ≡ on.Page key
        → IsPlaceOf k.maps k.chains t w.want key
    aims_now t v _ key found (Woke is) for = absurd (again_page key for)
    aims_now t v _ key found (Slept off) for = has.aims t v key found for

    want_now : (v w : Waiting) → Wakened k.maps o v w → (w.want ≡ v.want) × (w.destination ≡ v.destination)
    want_now v _ (Woke is) = (refl, refl)
    want_now v _ (Slept off) = (refl, refl)

    -- somebody waits for a page of another object
    asker_now : (x p : ℕ) → (o ≡ x → ⊥) → Asker k.waits.rows x p → Asker (map (woken_on k.maps o) k.waits.rows) x p
    asker_now x p apart asker = by (is_on k.maps o asker.row) refl
      where
        w : Waiting
        w = asker.row

        place : IsPlaceOf k.maps k.chains w.task.0 w.want (page_key x p)
        place = subst (λ (z : ℕ). IsPlaceOf k.maps k.chains z w.want (page_key x p)) (sym (entry_task k.waits.rows asker.task w asker.is))
            (has.aims asker.task w (page_key x p) asker.is asker.waits)

        by : (b : Bool) → is_on k.maps o w ≡ b → Asker (map (woken_on k.maps o) k.waits.rows) x p
        by true is = absurd (apart (sym (on_place w (page_key x p) is place)))
        by false off = record {
          task = asker.task;
          row = w;
          is = entry_woken k.maps o k.waits.rows asker.task
              ∙ (ap (option_map (woken_on k.maps o)) asker.is ∙ ap (λ b. Some (if b then with_on w on.Again else w)) off);
          waits = asker.waits;
        }

    pub waits_emptied : HasWaiters k.maps k.chains k.copies rs2 os2 (map (woken_on k.maps o) k.waits.rows) (is_woken woken.Nobody) waiting_at stays unmet
    waits_emptied = record {
      is = λ t lives. has.is t lives ∙ sym (ap (waiting_in k.maps.size) (entry_woken k.maps o k.waits.rows t)
          ∙ same_access k.maps o (entry k.waits.rows t));
      allowed = λ t w found. let was = was_row k.maps o t k.waits.rows w found in
          rw ((want_now was.was w was.wakes).0) (has.allowed t was.was was.found);
      sized = λ t w found. let was = was_row k.maps o t k.waits.rows w found in
          rw ((want_now was.was w was.wakes).0) (has.sized t was.was was.found);
      reasons = λ t w found still. let was = was_row k.maps o t k.waits.rows w found in reason_now t was.was w was.found was.wakes;
      passed = λ t w found still. let was = was_row k.maps o t k.waits.rows w found in passed_now t was.was w was.found was.wakes;
      aims = λ t w key found for. let was = was_row k.maps o t k.waits.rows w found in aims_now t was.was w key was.found was.wakes for;
      askers = λ x p row found awaits. elim (eqb_tells o x) [
        | inl same ↦ absurd (let bad : None ≡ Some row = sym (subst (λ (z : ℕ). row_at rs2 z p ≡ None) same.1 (emptied.none p)) ∙ found in cc)
        | inr apart ↦ asker_now x p apart.1 (has.askers x p row (sym (emptied.others x p apart.1) ∙ found) awaits)
      ];
      ready = λ x p row found away. elim (eqb_tells o x) [
        | inl same ↦ absurd (let bad : None ≡ Some row = sym (subst (λ (z : ℕ). row_at rs2 z p ≡ None) same.1 (emptied.none p)) ∙ found in cc)
        | inr apart ↦ ap ready_in (known x apart.1) ∙ has.ready x p row (sym (emptied.others x p apart.1) ∙ found) away
      ];
    }

-- who fills what, and in which order they began, is as before

fills_one : (maps : Mapped) (o r : ℕ) (x : Option Waiting) → fills_in r (option_map (woken_on maps o) x) ≡ fills_in r x
fills_one maps o r None = refl
fills_one maps o r (Some w) = by (is_on maps o w)
  where
    by : (b : Bool) → fills_in r (Some (if b then with_on w on.Again else w)) ≡ fills_in r (Some w)
    by true = refl
    by false = refl

pub fills_emptied : (maps : Mapped) (o : ℕ) (rows : List Waiting) → SameFills rows (map (woken_on maps o) rows)
fills_emptied maps o rows t r = ap (fills_in r) (entry_woken maps o rows t) ∙ fills_one maps o r (entry rows t)

pub order_emptied : (maps : Mapped) (o : ℕ) (begun : ℕ → ℕ) (rows : List Waiting) → BeganInOrder begun 0 rows
    → BeganInOrder begun 0 (map (woken_on maps o) rows)
order_emptied maps o begun rows order = map_order (woken_on maps o) begun 0 rows (λ w. woken_task maps o w) order

fits_woken : (header : Header) (maps : Mapped) (cs : ChainTable) (rs : ResidentTable) (t o : ℕ) (v w : Waiting) (next_now : ℕ) (target_now : Option Target)
    → Wakened maps o v w → FitsCopy header maps cs rs t v.want v.destination next_now target_now
    → FitsCopy header maps cs rs t w.want w.destination next_now target_now
fits_woken header maps cs rs t o v _ next_now target_now (Woke is) fits = fits
fits_woken header maps cs rs t o v _ next_now target_now (Slept off) fits = fits

pub used_emptied : {header : Header} {maps : Mapped} {cs : ChainTable} {rs : ResidentTable} {next_at : ℕ → ℕ} {target_at : ℕ → Option Target} (o : ℕ)
    (rows : List Waiting) → AllUsed header maps cs rs rows next_at target_at → AllUsed header maps cs rs (map (woken_on maps o) rows) next_at target_at
used_emptied {header = header} {maps = maps} {cs = cs} {rs = rs} {next_at = next_at} {target_at = target_at} o rows used =
    let fills = fills_emptied maps o rows in
    record {
      regions = regions_filled cs rows (map (woken_on maps o) rows) fills used.regions;
      copies = record {
        each = λ t w found.
            let was = was_row maps o t rows w found in
            fits_woken header maps cs rs t o was.was w (next_at t) (target_at t) was.wakes (used.copies.each t was.was was.found);
        apart = λ t u r one two. used.copies.apart t u r (sym (fills t r) ∙ one) (sym (fills u r) ∙ two);
      };
    }
