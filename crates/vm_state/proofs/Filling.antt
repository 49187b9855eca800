-- What waiting slow copies fill, and what is kept of them, over each change.
use Rattle.std.proofs.Common.{Bool, List, None, Option, Some, ap, arith, false, inl, inr, refl, subst, suc, sym, true, zero, ℕ, ◌==◌, ◌∙◌, ◌≡◌, ◌<◌}
use Rattle.std.proofs.lemmas.Bool.Decides.{eqb_tells}
use Rattle.std.specs.Prelude.{if◌then◌else◌, ◌⊎◌}
use Rattle.vm_base.specs.declared.ids.ObjectId.{ObjectId}
use Rattle.vm_base.specs.declared.ids.PageKey.{PageKey}
use Rattle.vm_fault.specs.Walks.{IsUnder}
use Rattle.vm_maps.specs.Maps.{Mapped}
use Rattle.vm_model.specs.declared.script.Header.{Header}
use Rattle.vm_model.specs.Waiting.{Target, fills}
use Rattle.vm_parts.proofs.Rows.{row_cases, some_is}
use Rattle.vm_resident.specs.Resident.{PutsRow, ResidentTable, row_at}
use Rattle.vm_resident.specs.declared.page_row.PageRow.{PageRow}
use Rattle.vm_shadow.specs.Chains.{ChainTable, region_at}
use Rattle.vm_shadow.specs.declared.region_row.RegionRow.{RegionRow}
use Rattle.vm_state.proofs.Waited.{SameOf, rows_same}
use Rattle.vm_state.specs.Filling.{AllUsed, FitsCopy, HasCopies, IsAlone, IsFilledIn, IsInUse, filled_row, fills_in, is_destination}
use Rattle.vm_state.specs.Stands.{HasUse}
use Rattle.vm_state.specs.Waiters.{LeadsTo, access_in, copies_to, waiting_in}
use Rattle.vm_waits.specs.Wants.{IsOfNumber}
use Rattle.vm_waits.specs.Waits.{PutsEntry, Waked, entry, with_on}
use Rattle.vm_waits.specs.Wants.{IsOfNumber}
use Rattle.vm_waits.specs.Waits as waits
use Rattle.vm_waits.specs.declared.waiting.Destination.{Destination}
use Rattle.vm_waits.specs.declared.waiting.On.{On}
use Rattle.vm_waits.specs.declared.waiting.On.TheVariants as on
use Rattle.vm_waits.specs.declared.waiting.Waiting.{Waiting}
use Rattle.vm_waits.specs.declared.waiting.Want.{Want}
use Rattle.vm_waits.specs.declared.waiting.Want.TheVariants as want

-- each task's access fills what it filled
abbrev pub SameFills : List Waiting → List Waiting → Type 0
SameFills rows rows2 = (t r : ℕ) → fills_in r (entry rows2 t) ≡ fills_in r (entry rows t)

pub filled_kept : {rows rows2 : List Waiting} {r : ℕ} → SameFills rows rows2 → IsFilledIn rows r → IsFilledIn rows2 r
filled_kept {r = r} same filled = record { task = filled.task; fills = same filled.task r ∙ filled.fills }

pub filled_before : {rows rows2 : List Waiting} {r : ℕ} → SameFills rows rows2 → IsFilledIn rows2 r → IsFilledIn rows r
filled_before {r = r} same filled = record { task = filled.task; fills = sym (same filled.task r) ∙ filled.fills }

-- one access changes, which fills what it filled
pub fills_put : (t : ℕ) (x : Option Waiting) (rows rows2 : List Waiting) → PutsEntry t x rows rows2 → ((r : ℕ) → fills_in r x ≡ fills_in r (entry rows t))
    → SameFills rows rows2
fills_put t x rows rows2 puts same u r = ap (fills_in r) (puts.at u) ∙ elim (eqb_tells t u) [
  | inl this ↦ ap (λ b. fills_in r (if b then x else entry rows u)) this.0 ∙ (same r ∙ ap (λ z. fills_in r (entry rows z)) this.1)
  | inr other ↦ ap (λ b. fills_in r (if b then x else entry rows u)) other.0
]

-- an access waits for something else
pub fills_turned : (t : ℕ) (w : Waiting) (reason : On) (rows rows2 : List Waiting) → entry rows t ≡ Some w → PutsEntry t (Some (with_on w reason)) rows rows2
    → SameFills rows rows2
fills_turned t w reason rows rows2 is puts = fills_put t (Some (with_on w reason)) rows rows2 puts (λ r. sym (ap (fills_in r) is))

-- what has no destination fills nothing
pub unfilled_without : (r : ℕ) (destination : Option Destination) → destination ≡ None → is_destination r destination ≡ false
unfilled_without r destination none = ap (is_destination r) none

-- an access is over that filled nothing
pub fills_over : (t : ℕ) (w : Waiting) (rows rows2 : List Waiting) → entry rows t ≡ Some w → w.destination ≡ None → PutsEntry t None rows rows2
    → SameFills rows rows2
fills_over t w rows rows2 is none puts = fills_put t None rows rows2 puts (λ r. sym (ap (fills_in r) is ∙ unfilled_without r w.destination none))

waked_fills : (test : On → Bool) (r : ℕ) (old new : Option Waiting) → Waked test old new → fills_in r new ≡ fills_in r old
waked_fills test r None new wakes = ap (fills_in r) wakes
waked_fills test r (Some w) new wakes = ap (fills_in r) wakes ∙ by (test w.on)
  where
    by : (b : Bool) → fills_in r (Some (if b then with_on w on.Again else w)) ≡ is_destination r w.destination
    by true = refl
    by false = refl

pub fills_waked : (test : On → Bool) (rows rows2 : List Waiting) → ((t : ℕ) → Waked test (entry rows t) (entry rows2 t)) → SameFills rows rows2
fills_waked test rows rows2 wakes t r = waked_fills test r (entry rows t) (entry rows2 t) (wakes t)

-- what an access fills in the history it fills by its row
pub fills_shown : (header : Header) (maps : Mapped) (cs : ChainTable) (rs : ResidentTable) (task size to r : ℕ) (what : Want) (destination : Option Destination)
    (next : ℕ) (target : Option Target)
    → FitsCopy header maps cs rs task what destination next target → fills r (Some (access_in size to what)) target ≡ is_destination r destination
fills_shown header maps cs rs task size to r (want.Load address bytes) destination next target none = sym (unfilled_without r destination none)
fills_shown header maps cs rs task size to r (want.Store address bytes value) destination next target none = sym (unfilled_without r destination none)
fills_shown header maps cs rs task size to r (want.CopyTo address pages object left) destination next target slow =
    ap (fills r (Some (access_in size to (want.CopyTo address pages object left)))) slow.made ∙ sym (ap (is_destination r) slow.goes)

pub fills_of_row : {header : Header} {maps : Mapped} {cs : ChainTable} {rs : ResidentTable} {rows : List Waiting} {next_at : ℕ → ℕ}
    {target_at : ℕ → Option Target} → HasCopies header maps cs rs rows next_at target_at → (size task r : ℕ)
    → fills r (waiting_in size (entry rows task)) (target_at task) ≡ fills_in r (entry rows task)
fills_of_row {header = header} {maps = maps} {cs = cs} {rs = rs} {rows = rows} {next_at = next_at} {target_at = target_at} copies size task r =
    by (entry rows task) refl
  where
    by : (x : Option Waiting) → entry rows task ≡ x → fills r (waiting_in size x) (target_at task) ≡ fills_in r x
    by None is = refl
    by (Some w) is =
        fills_shown header maps cs rs task size (copies_to w.destination) r w.want w.destination (next_at task) (target_at task) (copies.each task w is)

-- the region that an access fills is there, without entries, and the history says so too
pub record Filled (chains : ChainTable) (target : Option Target) (r : ℕ) : Type 0 where
  pub object : ObjectId
  pub pages : ℕ
  pub region : region_at chains r ≡ Some (filled_row object pages)
  pub alone : IsAlone chains r object.0
  pub made : target ≡ Some (record { region = r; object = object.0 })

filled_by : (header : Header) (maps : Mapped) (cs : ChainTable) (rs : ResidentTable) (task r : ℕ) (what : Want) (destination : Option Destination) (next : ℕ)
    (target : Option Target) → FitsCopy header maps cs rs task what destination next target → is_destination r destination ≡ true → Filled cs target r
filled_by header maps cs rs task r (want.Load address bytes) destination next target none is =
    absurd (let bad : false ≡ true = sym (unfilled_without r destination none) ∙ is in cc)
filled_by header maps cs rs task r (want.Store address bytes value) destination next target none is =
    absurd (let bad : false ≡ true = sym (unfilled_without r destination none) ∙ is in cc)
filled_by header maps cs rs task r (want.CopyTo address pages object left) destination next target slow is = elim (eqb_tells slow.to.region.0 r) [
  | inl same ↦
      record {
        object = object;
        pages = pages;
        region = subst (λ (z : ℕ). region_at cs z ≡ Some (filled_row object pages)) same.1 slow.region;
        alone = subst (λ (z : ℕ). IsAlone cs z object.0) same.1 slow.alone;
        made = subst (λ (z : ℕ). target ≡ Some (record { region = z; object = object.0 })) same.1 slow.made;
      }
  | inr apart ↦ absurd (let bad : false ≡ true = sym (ap (is_destination r) slow.goes ∙ apart.0) ∙ is in cc)
]

pub filled_there : {header : Header} {maps : Mapped} {cs : ChainTable} {rs : ResidentTable} {rows : List Waiting} {next_at : ℕ → ℕ}
    {target_at : ℕ → Option Target} → HasCopies header maps cs rs rows next_at target_at → (task r : ℕ)
    → fills_in r (entry rows task) ≡ true → Filled cs (target_at task) r
filled_there {header = header} {maps = maps} {cs = cs} {rs = rs} {rows = rows} {next_at = next_at} {target_at = target_at} copies task r is =
    by (entry rows task) refl is
  where
    by : (x : Option Waiting) → entry rows task ≡ x → fills_in r x ≡ true → Filled cs (target_at task) r
    by None found bad = absurd (let no : false ≡ true = bad in cc)
    by (Some w) found fills_it = filled_by header maps cs rs task r w.want w.destination (next_at task) (target_at task) (copies.each task w found) fills_it

-- the history says the same of their next pages and targets
pub copies_told : {header : Header} {maps : Mapped} {cs : ChainTable} {rs : ResidentTable} {rows : List Waiting} {next_at next2 : ℕ → ℕ}
    {target_at target2 : ℕ → Option Target} → HasCopies header maps cs rs rows next_at target_at
    → ((t : ℕ) (w : Waiting) → entry rows t ≡ Some w → (next2 t ≡ next_at t) × (target2 t ≡ target_at t)) → HasCopies header maps cs rs rows next2 target2
copies_told {header = header} {maps = maps} {cs = cs} {rs = rs} {next_at = next_at} {target2 = target2} copies same =
    record {
      each = λ t w found.
          subst (λ (z : ℕ). FitsCopy header maps cs rs t w.want w.destination z (target2 t)) (sym (same t w found).0)
          (subst (λ (z : Option Target). FitsCopy header maps cs rs t w.want w.destination (next_at t) z) (sym (same t w found).1) (copies.each t w found));
      apart = copies.apart;
    }

-- one access changes, which fills what it filled
pub copies_put : {header : Header} {maps : Mapped} {cs : ChainTable} {rs : ResidentTable} {next_at : ℕ → ℕ} {target_at : ℕ → Option Target} (t : ℕ)
    (x : Option Waiting) (rows rows2 : List Waiting) → HasCopies header maps cs rs rows next_at target_at → PutsEntry t x rows rows2
    → ((r : ℕ) → fills_in r x ≡ fills_in r (entry rows t))
    → ((w : Waiting) → x ≡ Some w → FitsCopy header maps cs rs t w.want w.destination (next_at t) (target_at t))
    → HasCopies header maps cs rs rows2 next_at target_at
copies_put {header = header} {maps = maps} {cs = cs} {rs = rs} {next_at = next_at} {target_at = target_at} t x rows rows2 copies puts same fits =
    record {
      each = λ u w found. elim (eqb_tells t u) [
        | inl this ↦
            subst (λ (z : ℕ). FitsCopy header maps cs rs z w.want w.destination (next_at z) (target_at z)) this.1
            (fits w (sym (puts.at u ∙ ap (λ b. if b then x else entry rows u) this.0) ∙ found))
        | inr other ↦ copies.each u w (sym (puts.at u ∙ ap (λ b. if b then x else entry rows u) other.0) ∙ found)
      ];
      apart = λ u v r one two. let kept = fills_put t x rows rows2 puts same in copies.apart u v r (sym (kept u r) ∙ one) (sym (kept v r) ∙ two);
    }

-- an access waits for something else
pub copies_turned : {header : Header} {maps : Mapped} {cs : ChainTable} {rs : ResidentTable} {next_at : ℕ → ℕ} {target_at : ℕ → Option Target} (t : ℕ)
    (w : Waiting) (reason : On) (rows rows2 : List Waiting) → HasCopies header maps cs rs rows next_at target_at → entry rows t ≡ Some w
    → PutsEntry t (Some (with_on w reason)) rows rows2 → HasCopies header maps cs rs rows2 next_at target_at
copies_turned {header = header} {maps = maps} {cs = cs} {rs = rs} {next_at = next_at} {target_at = target_at} t w reason rows rows2 copies is puts =
    copies_put t (Some (with_on w reason)) rows rows2 copies puts (λ r. sym (ap (fills_in r) is))
    (λ v same. subst (λ (z : Waiting). FitsCopy header maps cs rs t z.want z.destination (next_at t) (target_at t)) (some_is (with_on w reason) v same)
    (copies.each t w is))

-- an access is over that filled nothing
pub copies_over : {header : Header} {maps : Mapped} {cs : ChainTable} {rs : ResidentTable} {next_at : ℕ → ℕ} {target_at : ℕ → Option Target} (t : ℕ)
    (w : Waiting) (rows rows2 : List Waiting) → HasCopies header maps cs rs rows next_at target_at → entry rows t ≡ Some w → w.destination ≡ None
    → PutsEntry t None rows rows2 → HasCopies header maps cs rs rows2 next_at target_at
copies_over t w rows rows2 copies is none puts =
    copies_put t None rows rows2 copies puts (λ r. sym (ap (fills_in r) is ∙ unfilled_without r w.destination none))
    (λ v same. absurd (let bad : None ≡ Some v = same in cc))

-- accesses are to be run again
pub copies_waked : {header : Header} {maps : Mapped} {cs : ChainTable} {rs : ResidentTable} {next_at : ℕ → ℕ} {target_at : ℕ → Option Target} (test : On → Bool)
    (rows rows2 : List Waiting) → HasCopies header maps cs rs rows next_at target_at → ((t : ℕ) → Waked test (entry rows t) (entry rows2 t))
    → HasCopies header maps cs rs rows2 next_at target_at
copies_waked {header = header} {maps = maps} {cs = cs} {rs = rs} {next_at = next_at} {target_at = target_at} test rows rows2 copies wakes =
    record {
      each = λ t v found. by t v (entry rows t) refl (subst (λ (z : Option Waiting). Waked test (entry rows t) z) found (wakes t));
      apart = λ u v r one two. let kept = fills_waked test rows rows2 wakes in copies.apart u v r (sym (kept u r) ∙ one) (sym (kept v r) ∙ two);
    }
  where
    turned_if : (t : ℕ) (w : Waiting) (b : Bool) → FitsCopy header maps cs rs t w.want w.destination (next_at t) (target_at t)
        → FitsCopy header maps cs rs t (if b then with_on w on.Again else w).want (if b then with_on w on.Again else w).destination (next_at t) (target_at t)
    turned_if t w true fits = fits
    turned_if t w false fits = fits

    by : (t : ℕ) (v : Waiting) (x : Option Waiting) → entry rows t ≡ x → Waked test x (Some v)
        → FitsCopy header maps cs rs t v.want v.destination (next_at t) (target_at t)
    by t v None is waked = absurd (let bad : Some v ≡ None = waked in cc)
    by t v (Some w) is waked =
        subst (λ (z : Waiting). FitsCopy header maps cs rs t z.want z.destination (next_at t) (target_at t)) (some_is (waits.woken test w) v (sym waked))
        (turned_if t w (test w.on) (copies.each t w is))

-- a region that an access fills is as it was, over an object of its own
abbrev pub KeepsFilled : ChainTable → ChainTable → Type 0
KeepsFilled old new =
    (r : ℕ) (object : ObjectId) (pages : ℕ) → region_at old r ≡ Some (filled_row object pages) → IsAlone old r object.0
    → (region_at new r ≡ Some (filled_row object pages)) × IsAlone new r object.0

-- and no page of its object is new
abbrev pub KeepsUnmade : ChainTable → ResidentTable → ResidentTable → Type 0
KeepsUnmade chains old new =
    (r : ℕ) (object : ObjectId) (pages p : ℕ) → region_at chains r ≡ Some (filled_row object pages) → IsAlone chains r object.0 → row_at old object.0 p ≡ None
    → row_at new object.0 p ≡ None

pub chains_filled : (chains : ChainTable) → KeepsFilled chains chains
chains_filled chains r object pages region alone = (region, alone)

pub rows_unmade : (chains : ChainTable) (rs : ResidentTable) → KeepsUnmade chains rs rs
rows_unmade chains rs r object pages p region alone none = none

-- the region of one access is
abbrev pub KeepsRegionOf : ChainTable → ChainTable → Option Waiting → Type 0
KeepsRegionOf old new w =
    (r : ℕ) (object : ObjectId) (pages : ℕ) → fills_in r w ≡ true → region_at old r ≡ Some (filled_row object pages) → IsAlone old r object.0
    → (region_at new r ≡ Some (filled_row object pages)) × IsAlone new r object.0

fits_kept : (header : Header) (maps maps2 : Mapped) (cs cs2 : ChainTable) (rs rs2 : ResidentTable) (task : ℕ) (what : Want) (destination : Option Destination)
    (next : ℕ) (target : Option Target) → SameOf task maps maps2
    → ((r : ℕ) (object : ObjectId) (pages : ℕ) → is_destination r destination ≡ true → region_at cs r ≡ Some (filled_row object pages) → IsAlone cs r object.0
    → (region_at cs2 r ≡ Some (filled_row object pages)) × IsAlone cs2 r object.0)
    → KeepsUnmade cs rs rs2 → FitsCopy header maps cs rs task what destination next target → FitsCopy header maps2 cs2 rs2 task what destination next target
fits_kept header maps maps2 cs cs2 rs rs2 task (want.Load address bytes) destination next target same filled unmade fits = fits
fits_kept header maps maps2 cs cs2 rs rs2 task (want.Store address bytes value) destination next target same filled unmade fits = fits
fits_kept header maps maps2 cs cs2 rs rs2 task (want.CopyTo address pages object left) destination next target same filled unmade slow =
    let now = filled slow.to.region.0 object pages (ap (is_destination slow.to.region.0) slow.goes ∙ itself slow.to.region.0) slow.region slow.alone in
    record {
      to = slow.to;
      goes = slow.goes;
      next = slow.next;
      made = slow.made;
      region = now.0;
      alone = now.1;
      range =
          record {
            entry = slow.range.entry;
            declared = slow.range.declared;
            supplied = slow.range.supplied;
            whole = λ p less. rw (rows_same task maps maps2 same, same.size) (slow.range.whole p less);
          };
      place =
          record {
            range = rw same.size slow.place.range;
            free = rw (rows_same task maps maps2 same, same.size) slow.place.free;
            room = rw (rows_same task maps maps2 same) slow.place.room;
          };
      unmade = λ p le. unmade slow.to.region.0 object pages p slow.region slow.alone (slow.unmade p le);
    }
  where
    itself : (n : ℕ) → (n == n) ≡ true
    itself n = elim (eqb_tells n n) [ inl same_n ↦ same_n.0 | inr apart ↦ absurd (apart.1 refl) ]

-- entries of other tasks, regions that no access fills and pages of other objects change
pub copies_kept_where : {header : Header} {rows : List Waiting} {next_at : ℕ → ℕ} {target_at : ℕ → Option Target} (maps maps2 : Mapped) (cs cs2 : ChainTable)
    (rs rs2 : ResidentTable) → HasCopies header maps cs rs rows next_at target_at
    → ((t : ℕ) (w : Waiting) → entry rows t ≡ Some w → SameOf t maps maps2) → ((t : ℕ) → KeepsRegionOf cs cs2 (entry rows t)) → KeepsUnmade cs rs rs2
    → HasCopies header maps2 cs2 rs2 rows next_at target_at
copies_kept_where {header = header} {next_at = next_at} {target_at = target_at} maps maps2 cs cs2 rs rs2 copies same filled unmade =
    record {
      each =
          λ t w found. fits_kept header maps maps2 cs cs2 rs rs2 t w.want w.destination (next_at t) (target_at t) (same t w found)
          (λ r object pages fills_it region alone. filled t r object pages (ap (fills_in r) found ∙ fills_it) region alone) unmade (copies.each t w found);
      apart = copies.apart;
    }

pub copies_kept : {header : Header} {rows : List Waiting} {next_at : ℕ → ℕ} {target_at : ℕ → Option Target} (maps maps2 : Mapped) (cs cs2 : ChainTable)
    (rs rs2 : ResidentTable) → HasCopies header maps cs rs rows next_at target_at
    → ((t : ℕ) (w : Waiting) → entry rows t ≡ Some w → SameOf t maps maps2) → KeepsFilled cs cs2 → KeepsUnmade cs rs rs2
    → HasCopies header maps2 cs2 rs2 rows next_at target_at
copies_kept maps maps2 cs cs2 rs rs2 copies same filled unmade =
    copies_kept_where maps maps2 cs cs2 rs rs2 copies same (λ t r object pages fills_it region alone. filled r object pages region alone) unmade

-- a page of an object of another region, or below another object, has a row
pub page_unmade : (o p : ℕ) (x : Option PageRow) (chains : ChainTable) (rs rs2 : ResidentTable)
    → ((r : ℕ) (object : ObjectId) (pages : ℕ) → region_at chains r ≡ Some (filled_row object pages) → IsAlone chains r object.0 → o ≡ object.0 → ⊥)
    → PutsRow o p x rs rs2 → KeepsUnmade chains rs rs2
page_unmade o p x chains rs rs2 apart put r object pages q region alone none = elim (row_cases o p x rs rs2 put object.0 q) [
  | inl this ↦ absurd (apart r object pages region alone this.object)
  | inr other ↦ other.is ∙ none
]

-- all that had no row has none
abbrev pub KeepsAway : ResidentTable → ResidentTable → Type 0
KeepsAway old new = (o p : ℕ) → row_at old o p ≡ None → row_at new o p ≡ None

pub away_put : (o p : ℕ) (x : Option PageRow) (was : PageRow) (rs rs2 : ResidentTable) → row_at rs o p ≡ Some was → PutsRow o p x rs rs2 → KeepsAway rs rs2
away_put o p x was rs rs2 found put o2 q none = elim (row_cases o p x rs rs2 put o2 q) [
  | inl this ↦ absurd (let bad : None ≡ Some was = sym none ∙ (ap (λ z. row_at rs z q) (sym this.object) ∙ (ap (row_at rs o) (sym this.page) ∙ found)) in cc)
  | inr other ↦ other.is ∙ none
]

pub away_back : (rs rs2 : ResidentTable) → ((o p : ℕ) (row : PageRow) → row_at rs2 o p ≡ Some row → (was : PageRow) × (row_at rs o p ≡ Some was))
    → KeepsAway rs rs2
away_back rs rs2 back o p none = by (row_at rs2 o p) refl
  where
    by : (x : Option PageRow) → row_at rs2 o p ≡ x → x ≡ None
    by None is = refl
    by (Some row) is = let was = back o p row is in absurd (let bad : None ≡ Some was.0 = sym none ∙ was.1 in cc)

-- no access that waits fills a region over the object
abbrev pub IsUnfilled : ChainTable → ℕ → Type 0
IsUnfilled chains o =
    (r : ℕ) (object : ObjectId) (pages : ℕ) → region_at chains r ≡ Some (filled_row object pages) → IsAlone chains r object.0 → o ≡ object.0 → ⊥

-- the top object of a region with entries is none of these
pub top_unfilled : (chains : ChainTable) (q : ℕ) (row : RegionRow) → region_at chains q ≡ Some row → 0 < row.entries → IsUnfilled chains row.top.0
top_unfilled chains q row found some r object pages region alone same =
    let is : q ≡ r = alone.tops q row found same in
    let none : row.entries ≡ 0 = ap (λ z. z.entries) (some_is row (filled_row object pages) (sym found ∙ (ap (region_at chains) is ∙ region))) in
    omega (arith, some, none)

-- nor is one below another
pub under_unfilled : (chains : ChainTable) (key next : PageKey) → IsUnder chains key next → IsUnfilled chains next.object.0
under_unfilled chains key next under r object pages region alone same =
    alone.unders key.object.0 under.row under.found (sym (ap (λ (z : PageKey). z.object.0) under.is) ∙ same)

pub leads_unfilled : (chains : ChainTable) (n : ℕ) (from to : PageKey) → LeadsTo chains n from to → IsUnfilled chains from.object.0
    → IsUnfilled chains to.object.0
leads_unfilled chains zero from to leads top = subst (λ (z : PageKey). IsUnfilled chains z.object.0) leads top
leads_unfilled chains (suc n) from to leads top = leads_unfilled chains n leads.0 to leads.2 (under_unfilled chains from leads.0 leads.1)

-- each region has an entry or is filled still

pub used_away : {header : Header} {maps : Mapped} {cs : ChainTable} {rows : List Waiting} {next_at : ℕ → ℕ} {target_at : ℕ → Option Target}
    (rs rs2 : ResidentTable) → AllUsed header maps cs rs rows next_at target_at → KeepsAway rs rs2 → AllUsed header maps cs rs2 rows next_at target_at
used_away {maps = maps} {cs = cs} rs rs2 used away =
    record {
      regions = used.regions;
      copies =
          copies_kept maps maps cs cs rs rs2 used.copies (λ t w found. record { size = refl; entries = refl }) (chains_filled cs)
          (λ r object pages p region alone none. away object.0 p none);
    }

pub used_page : {header : Header} {maps : Mapped} {cs : ChainTable} {rows : List Waiting} {next_at : ℕ → ℕ} {target_at : ℕ → Option Target} (o p : ℕ)
    (x : Option PageRow) (rs rs2 : ResidentTable) → AllUsed header maps cs rs rows next_at target_at → IsUnfilled cs o → PutsRow o p x rs rs2
    → AllUsed header maps cs rs2 rows next_at target_at
used_page {maps = maps} {cs = cs} o p x rs rs2 used apart put =
    record {
      regions = used.regions;
      copies =
          copies_kept maps maps cs cs rs rs2 used.copies (λ t w found. record { size = refl; entries = refl }) (chains_filled cs)
          (page_unmade o p x cs rs rs2 apart put);
    }

pub used_told : {header : Header} {maps : Mapped} {cs : ChainTable} {rs : ResidentTable} {rows : List Waiting} {next_at next2 : ℕ → ℕ}
    {target_at target2 : ℕ → Option Target} → AllUsed header maps cs rs rows next_at target_at
    → ((t : ℕ) (w : Waiting) → entry rows t ≡ Some w → (next2 t ≡ next_at t) × (target2 t ≡ target_at t)) → AllUsed header maps cs rs rows next2 target2
used_told used same = record { regions = used.regions; copies = copies_told used.copies same }

-- each filled region is one still
pub regions_filled : (cs : ChainTable) (rows rows2 : List Waiting) → SameFills rows rows2
    → ((r : ℕ) (row : RegionRow) → region_at cs r ≡ Some row → (0 < row.entries) ⊎ IsFilledIn rows r) → (r : ℕ) (row : RegionRow) → region_at cs r ≡ Some row
    → (0 < row.entries) ⊎ IsFilledIn rows2 r
regions_filled cs rows rows2 same all r row found = elim (all r row found) [
  | inl some ↦ inl some
  | inr filled ↦ inr (filled_kept {rows = rows} {rows2 = rows2} same filled)
]

pub used_turned : {header : Header} {maps : Mapped} {cs : ChainTable} {rs : ResidentTable} {next_at : ℕ → ℕ} {target_at : ℕ → Option Target} (t : ℕ)
    (w : Waiting) (reason : On) (rows rows2 : List Waiting) → AllUsed header maps cs rs rows next_at target_at → entry rows t ≡ Some w
    → PutsEntry t (Some (with_on w reason)) rows rows2 → AllUsed header maps cs rs rows2 next_at target_at
used_turned {cs = cs} t w reason rows rows2 used is puts =
    record {
      regions = regions_filled cs rows rows2 (fills_turned t w reason rows rows2 is puts) used.regions;
      copies = copies_turned t w reason rows rows2 used.copies is puts;
    }

pub used_over : {header : Header} {maps : Mapped} {cs : ChainTable} {rs : ResidentTable} {next_at : ℕ → ℕ} {target_at : ℕ → Option Target} (t : ℕ) (w : Waiting)
    (rows rows2 : List Waiting) → AllUsed header maps cs rs rows next_at target_at → entry rows t ≡ Some w → w.destination ≡ None
    → PutsEntry t None rows rows2 → AllUsed header maps cs rs rows2 next_at target_at
used_over {cs = cs} t w rows rows2 used is none puts =
    record {
      regions = regions_filled cs rows rows2 (fills_over t w rows rows2 is none puts) used.regions;
      copies = copies_over t w rows rows2 used.copies is none puts;
    }

pub used_waked : {header : Header} {maps : Mapped} {cs : ChainTable} {rs : ResidentTable} {next_at : ℕ → ℕ} {target_at : ℕ → Option Target} (test : On → Bool)
    (rows rows2 : List Waiting) → AllUsed header maps cs rs rows next_at target_at → ((t : ℕ) → Waked test (entry rows t) (entry rows2 t))
    → AllUsed header maps cs rs rows2 next_at target_at
used_waked {cs = cs} test rows rows2 used wakes =
    record { regions = regions_filled cs rows rows2 (fills_waked test rows rows2 wakes) used.regions; copies = copies_waked test rows rows2 used.copies wakes }

-- a load or a store fills nothing
pub number_fills : (header : Header) (maps : Mapped) (cs : ChainTable) (rs : ResidentTable) (task : ℕ) (what : Want) (destination : Option Destination)
    (next : ℕ) (target : Option Target) → IsOfNumber what → FitsCopy header maps cs rs task what destination next target → destination ≡ None
number_fills header maps cs rs task (want.Load address bytes) destination next target number fits = fits
number_fills header maps cs rs task (want.Store address bytes value) destination next target number fits = fits
number_fills header maps cs rs task (want.CopyTo address pages object left) destination next target number fits = absurd number

-- the history has the next page of a slow copy as the copy has it
abbrev pub AgreesNext : Want → ℕ → Type 0
AgreesNext (want.Load address bytes) next = Unit {0}
AgreesNext (want.Store address bytes value) next = Unit {0}
AgreesNext (want.CopyTo address pages object left) next = next ≡ left

fits_next : (header : Header) (maps : Mapped) (cs : ChainTable) (rs : ResidentTable) (task : ℕ) (what : Want) (destination : Option Destination) (next : ℕ)
    (target : Option Target) → FitsCopy header maps cs rs task what destination next target → AgreesNext what next
fits_next header maps cs rs task (want.Load address bytes) destination next target fits = tt
fits_next header maps cs rs task (want.Store address bytes value) destination next target fits = tt
fits_next header maps cs rs task (want.CopyTo address pages object left) destination next target fits = fits.next

pub copies_next : {header : Header} {maps : Mapped} {cs : ChainTable} {rs : ResidentTable} {list : List Waiting} {next_at : ℕ → ℕ}
    {target_at : ℕ → Option Target} → HasCopies header maps cs rs list next_at target_at → (t : ℕ) (w : Waiting) → entry list t ≡ Some w
    → AgreesNext w.want (next_at t)
copies_next {header = header} {maps = maps} {cs = cs} {rs = rs} {next_at = next_at} {target_at = target_at} copies t w found =
    fits_next header maps cs rs t w.want w.destination (next_at t) (target_at t) (copies.each t w found)

-- no region is in use that wasn't
pub use_refilled : (maps : Mapped) {rows rows2 : List Waiting} {r : ℕ} → SameFills rows rows2 → IsInUse maps rows r → IsInUse maps rows2 r
use_refilled maps {rows = rows} {rows2 = rows2} same needed =
    elim needed [ inl some ↦ inl some | inr filled ↦ inr (filled_kept {rows = rows} {rows2 = rows2} same filled) ]

pub fills_back : (rows rows2 : List Waiting) → SameFills rows rows2 → SameFills rows2 rows
fills_back rows rows2 same t r = sym (same t r)

pub uses_refilled : {header : Header} {maps : Mapped} {used_at : ℕ → Bool} {made : List ℕ} {held_at : ℕ → ℕ → Bool} {n : ℕ} (rows rows2 : List Waiting)
    → SameFills rows rows2 → HasUse header maps rows used_at made held_at n → HasUse header maps rows2 used_at made held_at n
uses_refilled {maps = maps} rows rows2 same has =
    record {
      used = λ r temporary.
          let is = has.used r temporary in
          record {
            why = λ used. use_refilled maps {rows = rows} {rows2 = rows2} same (is.why used);
            is = λ needed. is.is (use_refilled maps {rows = rows2} {rows2 = rows} (fills_back rows rows2 same) needed);
          };
      files = has.files;
      among = has.among;
      apart = has.apart;
    }
