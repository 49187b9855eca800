-- The regions that accesses fill, over each change of the chains.
use Rattle.vm_kernel.proofs.Common.{AllUsed, Bool, ChainTable, ChangesOnly, Entry, HasEntries, HasKinds, Header, IsAt, IsFilledIn, IsInUse}
use Rattle.vm_kernel.proofs.Common.{IsPlaceOf, IsSome, List, Mapped, None, ObjectTable, Option, PageKey, PutsRegion, RegionRow, ResidentTable, Some, Waiting}
use Rattle.vm_kernel.proofs.Common.{Want, [], ap, arith, entries_in_row, entry, false, fills_in, has_entry, has_region, inl, inr, is_some, named}
use Rattle.vm_kernel.proofs.Common.{object_at, one_case, refl, region_at, region_entries, rows_in, shadow_at, some_is, subst, sym, true, with_entries, ℕ, ◌<◌}
use Rattle.vm_kernel.proofs.Common.{◌∙◌, ◌≡◌, ◌≢◌, ◌≤◌, ◌⊎◌}
use Rattle.vm_base.specs.declared.ids.ObjectId.{ObjectId}
use Rattle.vm_abroad.specs.Home.{AreHomes}
use Rattle.vm_model.specs.Regions.{Backing, Region}
use Rattle.vm_model.specs.Waiting.{Target}
use Rattle.vm_objects.specs.declared.row.ObjectRow.{ObjectRow}
use Rattle.vm_shadow.specs.Chains.{DropsShadow, ShadowsRegion}
use Rattle.vm_state.proofs.Filling.{IsUnfilled, KeepsFilled, copies_kept_where, filled_there, leads_unfilled, rows_unmade, top_unfilled}
use Rattle.vm_state.proofs.Places.{on_its_region}
use Rattle.vm_state.proofs.Waited.{SameOf}
use Rattle.vm_state.specs.Filling.{HasCopies, IsAlone, filled_row}
use Rattle.vm_state.proofs.Changing.{Recounts, row_before}
use Rattle.vm_kernel.proofs.space.RegionsInUse.{entry_counts}

-- regions count their entries anew, but for those that had none
pub recount_filled : (count : ℕ → ℕ) (cs cs2 : ChainTable) → Recounts count cs cs2 → ((r : ℕ) → has_region cs r ≡ true → region_entries cs r ≡ 0 → count r ≡ 0)
    → KeepsFilled cs cs2
recount_filled count cs cs2 is none r object pages region alone = (
  is.at r ∙ (ap (with_entries (count r)) region ∙ ap (λ z. Some (record (filled_row object pages) { entries = z }))
      (none r (ap is_some region) (ap entries_in_row region))),
  record {
    tops = λ q row found top. let b = row_before count cs cs2 is q row found in alone.tops q b.was b.found (sym (ap (λ z. z.top.0) b.is) ∙ top);
    unders = λ s row found under. alone.unders s row (sym (is.shadows s) ∙ found) under;
  },
)

region_put : (n q : ℕ) (new : Option RegionRow) (cs cs2 : ChainTable) → PutsRegion n new cs cs2 → ((n ≡ q) × (region_at cs2 q ≡ new))
    ⊎ ((n ≡ q → ⊥) × (region_at cs2 q ≡ region_at cs q))
region_put n q new cs cs2 put = one_case n q new (region_at cs q) (region_at cs2 q) (put.at q)

-- a region is new, over an object of which no filled region is
pub put_filled : (n : ℕ) (new : RegionRow) (cs cs2 : ChainTable) → region_at cs n ≡ None → PutsRegion n (Some new) cs cs2 → IsUnfilled cs new.top.0
    → KeepsFilled cs cs2
put_filled n new cs cs2 free put apart r object pages region alone = (
  elim (region_put n r (Some new) cs cs2 put) [
    | inl this ↦ absurd (let bad : None ≡ Some (filled_row object pages) = sym free ∙ (ap (region_at cs) this.0 ∙ region) in cc)
    | inr other ↦ other.1 ∙ region
  ],
  record {
    tops = λ q row found top. elim (region_put n q (Some new) cs cs2 put) [
      | inl this ↦ absurd (apart r object pages region alone (ap (λ z. z.top.0) (some_is new row (sym this.1 ∙ found)) ∙ top))
      | inr other ↦ alone.tops q row (sym other.1 ∙ found) top
    ];
    unders = λ s row found under. alone.unders s row (sym (ap (λ f. f s) put.shadows) ∙ found) under;
  },
)

-- a region that is filled by no access goes, with its row
pub gone_filled : (n : ℕ) (cs cs2 : ChainTable) → PutsRegion n None cs cs2 → (r : ℕ) (object : ObjectId) (pages : ℕ) → n ≢ r
    → region_at cs r ≡ Some (filled_row object pages) → IsAlone cs r object.0 → (region_at cs2 r ≡ Some (filled_row object pages)) × IsAlone cs2 r object.0
gone_filled n cs cs2 put r object pages other region alone = (
  elim (region_put n r None cs cs2 put) [ inl this ↦ absurd (other this.0) | inr apart ↦ apart.1 ∙ region ],
  record {
    tops = λ q row found top. elim (region_put n q None cs cs2 put) [
      | inl this ↦ absurd (let bad : None ≡ Some row = sym this.1 ∙ found in cc)
      | inr apart ↦ alone.tops q row (sym apart.1 ∙ found) top
    ];
    unders = λ s row found under. alone.unders s row (sym (ap (λ f. f s) put.shadows) ∙ found) under;
  },
)

-- what stood under an object goes
pub dropped_filled : (o : ℕ) (cs cs2 : ChainTable) → DropsShadow o cs cs2 → KeepsFilled cs cs2
dropped_filled o cs cs2 drop r object pages region alone = (
  ap (λ f. f r) drop.regions ∙ region,
  record {
    tops = λ q row found top. alone.tops q row (sym (ap (λ f. f q) drop.regions) ∙ found) top;
    unders = λ s row found under. elim (one_case o s None (shadow_at cs s) (shadow_at cs2 s) (drop.at s)) [
      | inl this ↦ absurd (let bad : None ≡ Some row = sym this.1 ∙ found in cc)
      | inr other ↦ alone.unders s row (sym other.1 ∙ found) under
    ];
  },
)

-- a region with entries gets an object of its own, a new one
pub shadowed_filled : (n : ℕ) (new : ObjectId) (row : RegionRow) (cs cs2 : ChainTable) → region_at cs n ≡ Some row → 0 < row.entries
    → ShadowsRegion n new row cs cs2 → IsUnfilled cs new.0 → KeepsFilled cs cs2
shadowed_filled n new row cs cs2 there some made fresh r object pages region alone = (
  elim (one_case n r _ (region_at cs r) (region_at cs2 r) (made.at r)) [
    | inl this ↦
        let none : row.entries ≡ 0 = ap (λ z. z.entries) (some_is row (filled_row object pages) (sym there ∙ (ap (region_at cs) this.0 ∙ region))) in
        absurd (omega (arith, some, none))
    | inr other ↦ other.1 ∙ region
  ],
  record {
    tops = λ q now found top. elim (one_case n q _ (region_at cs q) (region_at cs2 q) (made.at q)) [
      | inl this ↦ absurd (fresh r object pages region alone (ap (λ z. z.top.0) (some_is (record row { top = new; shift = 0; marked = false }) now
          (sym this.1 ∙ found)) ∙ top))
      | inr other ↦ alone.tops q now (sym other.1 ∙ found) top
    ];
    unders = λ s now found under. elim (one_case new.0 s _ (shadow_at cs s) (shadow_at cs2 s) (made.under s)) [
      | inl this ↦
          absurd (top_unfilled cs n row there some r object pages region alone (ap (λ z. z.under.0)
          (some_is (record { under = row.top; shift = row.shift }) now (sym this.1 ∙ found)) ∙ under))
      | inr other ↦ alone.unders s now (sym other.1 ∙ found) under
    ];
  },
)

-- a region with entries loses its mark
pub unmarked_filled : (n : ℕ) (row : RegionRow) (cs cs2 : ChainTable) → region_at cs n ≡ Some row → 0 < row.entries
    → PutsRegion n (Some (record row { marked = false })) cs cs2 → KeepsFilled cs cs2
unmarked_filled n row cs cs2 there some put r object pages region alone = (
  elim (region_put n r (Some (record row { marked = false })) cs cs2 put) [
    | inl this ↦
        let none : row.entries ≡ 0 = ap (λ z. z.entries) (some_is row (filled_row object pages) (sym there ∙ (ap (region_at cs) this.0 ∙ region))) in
        absurd (omega (arith, some, none))
    | inr other ↦ other.1 ∙ region
  ],
  record {
    tops = λ q now found top. elim (region_put n q (Some (record row { marked = false })) cs cs2 put) [
      | inl this ↦ alone.tops q row (ap (region_at cs) (sym this.0) ∙ there)
          (ap (λ z. z.top.0) (some_is (record row { marked = false }) now (sym this.1 ∙ found)) ∙ top)
      | inr other ↦ alone.tops q now (sym other.1 ∙ found) top
    ];
    unders = λ s now found under. alone.unders s now (sym (ap (λ f. f s) put.shadows) ∙ found) under;
  },
)

-- no region is over an object that isn't known
pub unknown_unfilled : (cs : ChainTable) (os : ObjectTable) (o : ℕ) → ((r : ℕ) (row : RegionRow) → region_at cs r ≡ Some row → IsSome (object_at os row.top.0))
    → object_at os o ≡ None → IsUnfilled cs o
unknown_unfilled cs os o tops none r object pages region alone same =
    known (object_at os object.0) (sym (ap (object_at os) same) ∙ none) (tops r (filled_row object pages) region)
  where
    known : (x : Option ObjectRow) → x ≡ None → IsSome x → ⊥
    known None is some = let bad : false ≡ true = some in cc
    known (Some row) is some = let bad : Some row ≡ None = is in cc

-- an access fills temporary regions alone
pub filled_temporary : {header : Header} {maps : Mapped} {cs : ChainTable} {rs : ResidentTable} {list : List Waiting} {next_at : ℕ → ℕ} {n m : ℕ}
    {home_from made_for : ℕ → Option ℕ} {used_at : ℕ → ℕ → Bool} {region_from : ℕ → Region} {backing_from : ℕ → Backing} {target_from : ℕ → Option Target}
    {newest_from : ℕ → Option ℕ} {copy_from : ℕ → Bool}
    (r : ℕ) → HasCopies header maps cs rs list next_at target_from
    → AreHomes header n m home_from made_for used_at region_from backing_from target_from newest_from copy_from
    → IsFilledIn list r → named header ≤ r
filled_temporary r copies homes filled =
    let is = filled_there copies filled.task r filled.fills in homes.fills filled.task (record { region = r; object = is.object.0 }) is.made

-- a declared object is none of theirs
pub declared_unfilled : {header : Header} {maps : Mapped} {cs : ChainTable} {rs : ResidentTable} {list : List Waiting} {next_at : ℕ → ℕ} {os : ObjectTable}
    {n m : ℕ} {home_from made_for : ℕ → Option ℕ} {used_at : ℕ → ℕ → Bool} {region_from : ℕ → Region} {backing_from : ℕ → Backing}
    {target_from : ℕ → Option Target} {newest_from : ℕ → Option ℕ} {copy_from : ℕ → Bool} (o : ℕ) → AllUsed header maps cs rs list next_at target_from
    → AreHomes header n m home_from made_for used_at region_from backing_from target_from newest_from copy_from → HasKinds header os cs
    → o < named header
    → IsUnfilled cs o
declared_unfilled o used homes kinds declared r object pages region alone same = elim (used.regions r (filled_row object pages) region) [
  | inl some ↦ let none : 0 < 0 = some in omega (arith, none)
  | inr filled ↦
      let least = kinds.tops r (filled_row object pages) (filled_temporary r used.copies homes filled) region in
      omega (arith, least, same, declared)
]

-- a region on which a task has an entry counts it
pub entry_some : (size r task : ℕ) (maps : Mapped) (cs : ChainTable) (lost : List Entry) (row : RegionRow) → HasEntries size maps cs lost
    → region_at cs r ≡ Some row → has_entry r (rows_in task maps) ≡ true → 0 < row.entries
entry_some size r task maps cs lost row has found leads =
    let counts = has.counts r row found in let some = entry_counts r task maps has.most leads in omega (arith, counts, some)

-- the page of an access, in any object of its chain, is in none of them
pub at_unfilled : (size task : ℕ) (what : Want) (key : PageKey) (maps : Mapped) (cs : ChainTable) (lost : List Entry) → HasEntries size maps cs lost
    → IsAt maps cs task what key → IsUnfilled cs key.object.0
at_unfilled size task what key maps cs lost has at =
    subst (λ (z : ObjectId). IsUnfilled cs z.0) (sym (ap (λ (z : PageKey). z.object) at.is))
    (top_unfilled cs at.entry.region.0 at.row at.region (entry_some size at.entry.region.0 task maps cs lost at.row has at.region
    (on_its_region _ (rows_in task maps) at.entry at.found)))

pub place_unfilled : (size task : ℕ) (what : Want) (key : PageKey) (maps : Mapped) (cs : ChainTable) (lost : List Entry) → HasEntries size maps cs lost
    → IsPlaceOf maps cs task what key → IsUnfilled cs key.object.0
place_unfilled size task what key maps cs lost has place =
    leads_unfilled cs place.steps place.top key place.leads (at_unfilled size task what place.top maps cs lost has place.at)

-- no access that waits fills a region that isn't a filled one
unfilled_if : {header : Header} {maps : Mapped} {cs : ChainTable} {rs : ResidentTable} {list : List Waiting} {next_at : ℕ → ℕ}
    {target_at : ℕ → Option Target} (r : ℕ) → HasCopies header maps cs rs list next_at target_at
    → ((object : ObjectId) (pages : ℕ) → region_at cs r ≡ Some (filled_row object pages) → ⊥) → (task : ℕ) → fills_in r (entry list task) ≡ false
unfilled_if {list = list} r copies other task = by (fills_in r (entry list task)) refl
  where
    by : (b : Bool) → fills_in r (entry list task) ≡ b → b ≡ false
    by false is = refl
    by true is = let there = filled_there copies task r is in absurd (other there.object there.pages there.region)

-- as one on which there are entries
pub counted_unfilled : {header : Header} {maps : Mapped} {cs : ChainTable} {rs : ResidentTable} {list : List Waiting} {next_at : ℕ → ℕ}
    {target_at : ℕ → Option Target} (r : ℕ) (row : RegionRow) → HasCopies header maps cs rs list next_at target_at → region_at cs r ≡ Some row → 0 < row.entries
    → (task : ℕ) → fills_in r (entry list task) ≡ false
counted_unfilled r row copies found some = unfilled_if r copies (λ object pages there.
    let none : row.entries ≡ 0 = ap (λ z. z.entries) (some_is row (filled_row object pages) (sym found ∙ there)) in omega (arith, some, none))

-- nor one that isn't there
pub free_unfilled : {header : Header} {maps : Mapped} {cs : ChainTable} {rs : ResidentTable} {list : List Waiting} {next_at : ℕ → ℕ}
    {target_at : ℕ → Option Target} (r : ℕ) → HasCopies header maps cs rs list next_at target_at → region_at cs r ≡ None → (task : ℕ)
    → fills_in r (entry list task) ≡ false
free_unfilled r copies none = unfilled_if r copies (λ object pages there. let bad : None ≡ Some (filled_row object pages) = sym none ∙ there in cc)

-- who waits has the entries that it had, where a task's change that doesn't wait
pub same_waiting : (maps maps2 : Mapped) (task : ℕ) (made : Option (List Entry)) (list : List Waiting) → ChangesOnly maps maps2 task made
    → entry list task ≡ None → (t : ℕ) (w : Waiting) → entry list t ≡ Some w → SameOf t maps maps2
same_waiting maps maps2 task made list changes none t w found =
    record { size = changes.size; entries = changes.others t (λ same. let bad : None ≡ Some w = sym none ∙ (ap (entry list) (sym same) ∙ found) in cc) }

-- a region that is there is in use
pub row_use : {header : Header} {size : ℕ} {maps : Mapped} {cs : ChainTable} {rs : ResidentTable} {list : List Waiting} {next_at : ℕ → ℕ}
    {target_at : ℕ → Option Target} (r : ℕ) (row : RegionRow) → HasEntries size maps cs [] → region_at cs r ≡ Some row
    → AllUsed header maps cs rs list next_at target_at → IsInUse maps list r
row_use r row entries found used = elim (used.regions r row found) [
  | inl some ↦ let counts = entries.counts r row found in inl (omega (arith, counts, some))
  | inr filled ↦ inr filled
]

-- a region goes that no access fills
pub copies_gone : {header : Header} {list : List Waiting} {next_at : ℕ → ℕ} {target_at : ℕ → Option Target} (n : ℕ) (cs cs2 : ChainTable) (maps : Mapped)
    (rs : ResidentTable) → HasCopies header maps cs rs list next_at target_at → PutsRegion n None cs cs2 → ((task : ℕ) → fills_in n (entry list task) ≡ false)
    → HasCopies header maps cs2 rs list next_at target_at
copies_gone {list = list} n cs cs2 maps rs copies put unfilled =
    copies_kept_where maps maps cs cs2 rs rs copies (λ t w found. record { size = refl; entries = refl })
    (λ t r object pages fills_it region alone. gone_filled n cs cs2 put r object pages
    (λ same. let bad : false ≡ true = sym (unfilled t) ∙ (ap (λ z. fills_in z (entry list t)) same ∙ fills_it) in cc) region alone)
    (rows_unmade cs rs)
