-- A task's entries are cut, changed or taken away, and regions count what is left.
use Rattle.vm_kernel.specs.Matches.{ObjectFacts, Objects}
use Rattle.vm_kernel.proofs.space.SharedEntries.{kinds_recounted}
use Rattle.vm_kernel.proofs.Common.{AllEntriesInside, AllReferred, AllRows, Backing, Bool, ChainTable, ChangesOnly, Entry, HasEntries, HasRegions, KnowsHomes}
use Rattle.vm_kernel.proofs.Common.{Event, HasTasks, Header, Ids, Inside, IsFilledIn, IsInside, List, Mapped, None, ObjectTable, Option, Region, RegionRow}
use Rattle.vm_kernel.proofs.Common.{ResidentTable, Some, Waiting, [], all_tasks, ap, arith, count_on, cut, cut_at, cut_at_ends, entries_in, entries_in_row}
use Rattle.vm_kernel.proofs.Common.{eqb_tells, false, flat_map, has_entry, has_region, if◌then◌else◌, inl, inr, is_on, is_some, length, max, min, most_entries}
use Rattle.vm_kernel.proofs.Common.{nat_lt, nat_tests, part, parts_in, refl, region_at, region_entries, removed, rewritten, rows_in, rows_map, subst, suc, sym}
use Rattle.vm_kernel.proofs.Common.{true, unwrap_or, zero, ℕ, ◌&&◌, ◌++◌, ◌+◌, ◌<◌, ◌==◌, ◌^◌, ◌∙◌, ◌∷◌, ◌≡◌, ◌≢◌, ◌≤◌, ◌⊎◌}
use Rattle.vm_kernel.proofs.space.EntriesAtBoundary.{on_cut_at}
use Rattle.vm_kernel.proofs.space.EntriesCounted.{by_changed, on_append, on_zero}
use Rattle.std.proofs.lemmas.Grind.{flat_map-append}
use Rattle.vm_kernel.proofs.space.CountsChanged.{has_same, pages_same, recounts_but}
use Rattle.vm_state.proofs.Changing.{Recounts, regions_recounted, row_before}
use Rattle.vm_state.proofs.Referred.{referred_recounted}
use Rattle.vm_kernel.proofs.abroad.OwnHost.{rows_here}

-- regions that count anew are as they were else

pub recount_regions : (count : ℕ → ℕ) (cs cs2 : ChainTable) (os : ObjectTable) (ids : Ids) (region_from : ℕ → Region) (backing_from : ℕ → Backing)
    (regions_made objects_made marked : ℕ) → Recounts count cs cs2
    → HasRegions cs os ids region_from backing_from regions_made objects_made marked
    → HasRegions cs2 os ids region_from backing_from regions_made objects_made marked
recount_regions count cs cs2 os ids region_from backing_from regions_made objects_made marked is has =
    regions_recounted cs cs2 os ids region_from backing_from regions_made objects_made marked (recounts_but count cs cs2 is) has

pub objects_recounted : {header : Header} {h : ℕ} {cs cs2 : ChainTable} {os : ObjectTable} {ids : Ids} {s : ObjectFacts} (count : ℕ → ℕ)
    → Recounts count cs cs2 → Objects header h cs os ids s → Objects header h cs2 os ids s
objects_recounted {header = header} {cs = cs} {cs2 = cs2} {os = os} {ids = ids} count is objects =
    record {
      regions = recount_regions count cs cs2 os ids _ _ _ _ _ is objects.regions;
      kinds = kinds_recounted header count os cs cs2 is objects.kinds;
      files = objects.files;
      sizes = objects.sizes;
      undelayed = objects.undelayed;
    }

pub recount_homes : (count : ℕ → ℕ) (header : Header) (h : ℕ) (cs cs2 : ChainTable) (past : List Event) → Recounts count cs cs2
    → KnowsHomes header h cs past → KnowsHomes header h cs2 past
recount_homes count header h cs cs2 past is homes =
    (λ r row paged found. let b = row_before count cs cs2 is r row found in homes.0 r b.was paged b.found, homes.1)

pub recount_referred : (count : ℕ → ℕ) (cs cs2 : ChainTable) (os : ObjectTable) (rs : ResidentTable) → Recounts count cs cs2 → AllReferred cs os rs
    → AllReferred cs2 os rs
recount_referred count cs cs2 os rs is all = referred_recounted cs cs2 os rs (recounts_but count cs cs2 is) all

pub recount_used : (count : ℕ → ℕ) (cs cs2 : ChainTable) → Recounts count cs cs2 → ((r : ℕ) → has_region cs r ≡ true → 0 < region_entries cs r → 0 < count r)
    → (list : List Waiting) → ((r : ℕ) (row : RegionRow) → region_at cs r ≡ Some row → (0 < row.entries) ⊎ IsFilledIn list r)
    → (r : ℕ) (row : RegionRow) → region_at cs2 r ≡ Some row → (0 < row.entries) ⊎ IsFilledIn list r
recount_used count cs cs2 is more list used r row found =
    let b = row_before count cs cs2 is r row found in
    let there : has_region cs r ≡ true = ap is_some b.found in
    let were = ap entries_in_row b.found in
    let now = ap (λ z. z.entries) b.is in
    elim (used r b.was b.found) [
      | inl had ↦ let some = more r there (omega arith) in inl (omega arith)
      | inr filled ↦ inr filled
    ]

pub recount_inside : (count : ℕ → ℕ) (size : ℕ) (cs cs2 : ChainTable) → Recounts count cs cs2 → (rows : List Entry) → AllEntriesInside size cs rows
    → AllEntriesInside size cs2 rows
recount_inside count size cs cs2 is rows all =
    rows_map (IsInside size cs) (IsInside size cs2)
    (λ row has. record {
      region = has_same count cs cs2 is row.region.0 ∙ has.region;
      some = has.some;
      below = has.below;
      inside = subst (λ (z : ℕ). Inside size z row) (sym (pages_same count cs cs2 is row.region.0)) has.inside;
    })
    rows all

pub recount_known : (count : ℕ → ℕ) (cs cs2 : ChainTable) → Recounts count cs cs2 → (rows : List Entry)
    → AllRows (λ row. has_region cs row.region.0 ≡ true) rows → AllRows (λ row. has_region cs2 row.region.0 ≡ true) rows
recount_known count cs cs2 is rows all =
    rows_map (λ row. has_region cs row.region.0 ≡ true) (λ row. has_region cs2 row.region.0 ≡ true) (λ row there. has_same count cs cs2 is row.region.0 ∙ there)
    rows all

-- one task's entries change

pub lives_below : (size task : ℕ) (maps : Mapped) (cs : ChainTable) (lost : List Entry) → HasEntries size maps cs lost
    → entries_in task maps ≡ Some (rows_in task maps) → task < all_tasks
lives_below size task maps cs lost has lives = by_test (nat_lt task all_tasks) refl
  where
    by_test : (b : Bool) → nat_lt task all_tasks ≡ b → task < all_tasks
    by_test true less = grind (arith, nat_tests)
    by_test false less =
        let le : all_tasks ≤ task = grind (arith, nat_tests) in
        absurd (let bad : None ≡ Some (rows_in task maps) = sym (has.most task le) ∙ lives in cc)

pub entries_changed : (size task : ℕ) (maps new : Mapped) (cs cs2 : ChainTable) (count : ℕ → ℕ) (rows : Option (List Entry)) (lost : List Entry)
    → HasEntries size maps cs [] → ChangesOnly maps new task rows
    → entries_in task maps ≡ Some (rows_in task maps) → Recounts count cs cs2
    → ((r : ℕ) → has_region cs r ≡ true → count r + count_on r (rows_in task maps) ≡ region_entries cs r + (count_on r (unwrap_or rows []) + count_on r lost))
    → AllEntriesInside size cs (unwrap_or rows []) → AllRows (λ row. has_region cs row.region.0 ≡ true) lost → length (unwrap_or rows []) ≤ most_entries
    → HasEntries size new cs2 lost
entries_changed size task maps new cs cs2 count rows lost has changes lives is counted all known few =
    record {
      inside = λ t. elim (eqb_tells task t) [
        | inl same ↦ subst (λ (z : ℕ). AllEntriesInside size cs2 (rows_in z new)) same.1
            (subst (AllEntriesInside size cs2) (sym now) (recount_inside count size cs cs2 is (unwrap_or rows []) all))
        | inr apart ↦ subst (AllEntriesInside size cs2) (sym (other t (λ e. apart.1 (sym e))))
            (recount_inside count size cs cs2 is (rows_in t maps) (has.inside t))
      ];
      known = recount_known count cs cs2 is lost known;
      most = λ t le. changes.others t (λ e. let below = lives_below size task maps cs [] has lives in omega (arith, e)) ∙ has.most t le;
      few = λ t. elim (eqb_tells task t) [
        | inl same ↦ subst (λ (z : ℕ). length (rows_in z new) ≤ most_entries) same.1 (subst (λ (z : List Entry). length z ≤ most_entries) (sym now) few)
        | inr apart ↦ subst (λ (z : List Entry). length z ≤ most_entries) (sym (other t (λ e. apart.1 (sym e)))) (has.few t)
      ];
      counts = λ r row found.
          let b = row_before count cs cs2 is r row found in
          let there : has_region cs r ≡ true = ap is_some b.found in
          let were = ap entries_in_row b.found in
          let now = ap (λ z. z.entries) b.is in
          let old = has.counts r b.was b.found in
          let sum = counted r there in
          let moved = by_changed all_tasks r task maps new rows (lives_below size task maps cs [] has lives) changes in
          omega arith;
    }
  where
    now : rows_in task new ≡ unwrap_or rows []
    now = ap (λ z. unwrap_or z []) changes.changed

    other : (t : ℕ) → t ≢ task → rows_in t new ≡ rows_in t maps
    other t apart = ap (λ z. unwrap_or z []) (changes.others t apart)

pub tasks_changed : (h : ℕ) (size task : ℕ) (maps new : Mapped) (host_at : ℕ → Option ℕ) (rows_at : ℕ → List Entry) (f : List Entry → List Entry)
    → HasTasks h size maps host_at rows_at
    → ChangesOnly maps new task (Some (f (rows_in task maps))) → entries_in task maps ≡ Some (rows_in task maps)
    → HasTasks h size new host_at (λ t. if task == t then f (rows_at t) else rows_at t)
tasks_changed h size task maps new host_at rows_at f has changes lives =
    record {
      sized = changes.size ∙ has.sized;
      hosts = λ t. elim (eqb_tells task t) [
        | inl same ↦ subst (λ (z : ℕ). is_on h (host_at z) ≡ is_some (entries_in z new)) same.1
            (has.hosts task ∙ (ap is_some lives ∙ sym (ap is_some changes.changed)))
        | inr apart ↦ has.hosts t ∙ sym (ap is_some (changes.others t (λ e. apart.1 (sym e))))
      ];
      rows = λ t here. elim (eqb_tells task t) [
        | inl same ↦ ap (λ b. if b then f (rows_at t) else rows_at t) same.0
            ∙ subst (λ (z : ℕ). f (rows_at z) ≡ rows_in z new) same.1 (ap f (rows_here has lives) ∙ sym (ap (λ z. unwrap_or z []) changes.changed))
        | inr apart ↦ ap (λ b. if b then f (rows_at t) else rows_at t) apart.0
            ∙ (has.rows t (ap is_some (sym (changes.others t (λ e. apart.1 (sym e)))) ∙ here)
            ∙ sym (ap (λ z. unwrap_or z []) (changes.others t (λ e. apart.1 (sym e)))))
      ];
    }

-- entries are cut

on_cut : (r size from to : ℕ) (row : Entry) → count_on r (cut size from to row) ≡ (if nat_lt (max from row.address) (min to (row.address + row.bytes)) then
    count_on r (row ∷ []) else 0)
on_cut r size from to row = by_test (nat_lt (max from row.address) (min to (row.address + row.bytes)))
  where
    by_test : (b : Bool) → count_on r (if b then part size row (max from row.address) (min to (row.address + row.bytes)) ∷ [] else []) ≡ (if b then count_on r
        (row ∷ []) else 0)
    by_test true = refl
    by_test false = refl

-- an entry isn't empty, and its addresses are below 2^32
pub record IsSpan (row : Entry) : Type 0 where
  pub some : 0 < row.bytes
  pub below : row.address + row.bytes ≤ 2 ^ 32

-- a range cuts it into one part, and one more for each of its ends inside
three_parts : (n low high start end top : ℕ) → low < high → start < end → end ≤ top → high ≤ top
    → (if nat_lt (max 0 low) (min start high) then n else 0) + ((if nat_lt (max start low) (min end high) then n else 0) + (if nat_lt (max end low)
    (min top high) then n else 0))
    ≡ n + ((if nat_lt low start && nat_lt start high then n else 0) + (if nat_lt low end && nat_lt end high then n else 0))
three_parts n low high start end top some range below inside = grind (arith, nat_tests)

one_cut : (r size address bytes : ℕ) (row : Entry) → IsSpan row → 0 < bytes → address + bytes ≤ 2 ^ 32
    → count_on r (cut size 0 address row) + (count_on r (cut size address (address + bytes) row) + count_on r
    (cut size (address + bytes) (2 ^ 32) row)) ≡ count_on r (row ∷ []) + count_on r (cut_at_ends address bytes (row ∷ []))
one_cut r size address bytes row span some below =
    let three = three_parts (count_on r (row ∷ [])) row.address (row.address + row.bytes) address (address + bytes) (2 ^ 32)
    (let filled = span.some in omega arith) (omega arith) below span.below in
    omega (
      arith,
      three,
      on_cut r size 0 address row,
      on_cut r size address (address + bytes) row,
      on_cut r size (address + bytes) (2 ^ 32) row,
      on_append r (cut_at address (row ∷ [])) (cut_at (address + bytes) (row ∷ [])),
      on_cut_at r address row [],
      on_cut_at r (address + bytes) row [],
    )

on_flat : (r : ℕ) (becomes : Entry → List Entry) → ((row : Entry) → count_on r (becomes row) ≡ count_on r (row ∷ [])) → (rows : List Entry)
    → count_on r (flat_map becomes rows) ≡ count_on r rows
on_flat r becomes same [] = refl
on_flat r becomes same (row ∷ rows) = omega (arith, on_append r (becomes row) (flat_map becomes rows), same row, on_flat r becomes same rows)

flat_nothing : (rows : List Entry) → ◌≡◌ {A = List Entry} (flat_map (λ (row : Entry). []) rows) []
flat_nothing [] = refl
flat_nothing (row ∷ rows) = flat_nothing rows

-- the parts in the range, and what they become, each counted
on_rewritten : (r size address bytes : ℕ) (becomes : Entry → List Entry) (rows : List Entry) → 0 < bytes → address + bytes ≤ 2 ^ 32 → AllRows IsSpan rows
    → count_on r (rewritten becomes size address bytes rows) + count_on r (parts_in size address bytes rows) ≡ count_on r
    rows + (count_on r (cut_at_ends address bytes rows) + count_on r (flat_map becomes (parts_in size address bytes rows)))
on_rewritten r size address bytes becomes [] some below all = refl
on_rewritten r size address bytes becomes (row ∷ rows) some below all =
    let end = address + bytes in
    let front = cut size 0 address row in
    let inside = cut size address end row in
    let middle = flat_map becomes inside in
    let back = cut size end (2 ^ 32) row in
    let later = rewritten becomes size address bytes rows in
    let parts = parts_in size address bytes rows in
    let one : count_on r (row ∷ rows) ≡ count_on r (row ∷ []) + count_on r rows = omega arith in
    omega (
      arith,
      one,
      on_append r front (middle ++ (back ++ later)),
      on_append r middle (back ++ later),
      on_append r back later,
      on_append r inside parts,
      ap (count_on r) (flat_map-append becomes inside parts),
      on_append r middle (flat_map becomes parts),
      on_append r (cut_at address (row ∷ [])) (cut_at end (row ∷ [])),
      on_append r (cut_at address (row ∷ rows)) (cut_at end (row ∷ rows)),
      on_append r (cut_at address rows) (cut_at end rows),
      on_cut_at r address row [],
      on_cut_at r address row rows,
      on_cut_at r end row [],
      on_cut_at r end row rows,
      one_cut r size address bytes row all.0 some below,
      on_rewritten r size address bytes becomes rows some below all.1,
    )

pub on_kept : (r size address bytes : ℕ) (becomes : Entry → List Entry) (rows : List Entry) → 0 < bytes → address + bytes ≤ 2 ^ 32
    → ((row : Entry) → count_on r (becomes row) ≡ count_on r (row ∷ [])) → AllRows IsSpan rows
    → count_on r (rewritten becomes size address bytes rows) ≡ count_on r rows + count_on r (cut_at_ends address bytes rows)
on_kept r size address bytes becomes rows some below same all =
    omega (arith, on_rewritten r size address bytes becomes rows some below all, on_flat r becomes same (parts_in size address bytes rows))

-- what is left, and what is taken out
pub on_removed : (r size address bytes : ℕ) (rows : List Entry) → 0 < bytes → address + bytes ≤ 2 ^ 32 → AllRows IsSpan rows
    → count_on r (removed size address bytes rows) + count_on r (parts_in size address bytes rows) ≡ count_on r rows + count_on r
    (cut_at_ends address bytes rows)
on_removed r size address bytes rows some below all =
    omega (arith, on_rewritten r size address bytes (λ row. []) rows some below all, ap (count_on r) (flat_nothing (parts_in size address bytes rows)))

-- what leads to a region led to it before
pub on_among : (r : ℕ) (rows made : List Entry) → AllRows (λ row. has_entry row.region.0 rows ≡ true) made → 0 < count_on r made → 0 < count_on r rows
on_among r rows made all some = by_count (count_on r rows) refl
  where
    none_made : (made : List Entry) → AllRows (λ row. has_entry row.region.0 rows ≡ true) made → has_entry r rows ≡ false → count_on r made ≡ 0
    none_made [] all none = refl
    none_made (row ∷ made) all none = elim (eqb_tells row.region.0 r) [
      | inl same ↦ absurd (let bad : false ≡ true = sym none ∙ (ap (λ z. has_entry z rows) (sym same.1) ∙ all.0) in cc)
      | inr apart ↦ let later = none_made made all.1 none in rw apart.0 (omega arith)
    ]

    by_count : (n : ℕ) → count_on r rows ≡ n → 0 < count_on r rows
    by_count zero is = absurd (let none = none_made made all (on_zero r rows is) in omega arith)
    by_count (suc n) is = omega arith
