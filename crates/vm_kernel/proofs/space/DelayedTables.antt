-- A file gets a copy object, and a region is made over that: what the tables of regions, objects and shadows stand for then.
use Rattle.vm_kernel.proofs.Common.{Bool, ChainTable, Event, HasRegions, Header, Ids, IsReferred, IsSome, List, None, ObjectId, ObjectRow, ObjectTable, Option}
use Rattle.vm_kernel.proofs.Common.{PutsObject, PutsRegion, RegionId, RegionRow, ShadowRow, Some, ap, arith, backing_of, false, if_true, if◌then◌else◌, inl}
use Rattle.vm_kernel.proofs.Common.{inr, is_some, object_at, object_pages, one_case, pages_of_row, refl, region_at, region_of, same_pages, shadow_at, some_is}
use Rattle.vm_kernel.proofs.Common.{subst, sym, true, ℕ, ◌+◌, ◌<◌, ◌==◌, ◌∙◌, ◌∷◌, ◌≡◌, ◌≤◌, ◌⊎◌}
use Rattle.vm_kernel.proofs.space.CopyObjectMade.{stands_regions}
use Rattle.vm_base.specs.Limits.{most_objects}
use Rattle.vm_kernel.specs.Delaying.{OnFile, Stands, Under, copy_row, delayed_row}
use Rattle.vm_parts.specs.Changes.{one}
use Rattle.vm_shadow.proofs.Ranks.{ranked_over, ranked_rebased, ranked_same}
use Rattle.vm_shadow.specs.Chains.{IsRanked, Rebases}
use Rattle.vm_state.proofs.Counting.{elsewhere, references_over, references_rebased, references_stood}
use Rattle.vm_state.proofs.Fresh.{other_test, pages_known, pages_put, same_test, seen, some_apart, unreferenced}
use Rattle.vm_state.proofs.Going.{one_other, one_own}
use Rattle.vm_state.proofs.Knowing.{counts_still, known_apart, known_put, known_still, referred_before, referred_other, referred_still, unknown_still}
use Rattle.vm_state.proofs.Referring.{small_shadow}
use Rattle.vm_state.specs.References.{AreShadowsReferred, references_to}
use Rattle.vm_model.specs.Regions as R
use Rattle.vm_model.specs.declared.event.Event.TheVariants as event

-- the objects, once the copy object is one of them, to which the new region alone refers
abbrev pub with_copy : ObjectId → ObjectRow → ObjectTable → ObjectTable
with_copy copy file objects = record objects { entries = (copy, copy_row file 1) ∷ objects.entries }

pub put_copy : (copy : ObjectId) (file : ObjectRow) (objects : ObjectTable) → PutsObject copy.0 (Some (copy_row file 1)) objects (with_copy copy file objects)
put_copy copy file objects = record { at = λ o. refl }

-- one of them has another reference then: the file where no copy object of it lived, else the new one
abbrev pub refers_to : ObjectId → ObjectId → Option ObjectId → ℕ
refers_to file copy None = file.0
refers_to file copy (Some older) = copy.0

pub record RefersMore (object : ℕ) (copy : ObjectId) (file : ObjectRow) (old new : ObjectTable) : Type 0 where
  pub row : ObjectRow
  pub known : object_at (with_copy copy file old) object ≡ Some row
  pub some : 0 < row.references
  pub put : PutsObject object (Some (record row { references = row.references + 1 })) (with_copy copy file old) new

pub refers_more : {file copy : ObjectId} {row : ObjectRow} {cs cs2 : ChainTable} {os os2 : ObjectTable} {older : Option ObjectId}
    → Stands file copy row cs cs2 os os2 older → object_at os file.0 ≡ Some row → (copy.0 ≡ file.0 → ⊥) → 0 < row.references
    → RefersMore (refers_to file copy older) copy row os os2
refers_more {file = file} {copy = copy} {row = row} {os = os} (OnFile stands mid put refers) known apart some =
    record {
      row = row;
      known = ap (λ b. if b then Some (copy_row row 1) else object_at os file.0) (other_test copy.0 file.0 apart) ∙ known;
      some = some;
      put = record {
        at = λ o. refers.at o ∙ ap (λ (z : Option ObjectRow). if file.0 == o then Some (record row { references = row.references + 1 }) else z) (put.at o);
      };
    }
refers_more {copy = copy} {row = row} {os = os} (Under older mid stands rebases put) known apart some =
    record {
      row = copy_row row 1;
      known = ap (λ b. if b then Some (copy_row row 1) else object_at os copy.0) (same_test copy.0 copy.0 refl);
      some = omega arith;
      put = record { at = λ o. put.at o ∙ twice (copy.0 == o) (object_at os o) };
    }
  where
    twice : (b : Bool) (x : Option ObjectRow) → (if b then Some (copy_row row 2) else x) ≡ (if b then Some (copy_row row 2) else
        (if b then Some (copy_row row 1) else x))
    twice true x = refl
    twice false x = refl

-- what stands under an object then
pub data UnderNow (file copy : ObjectId) (older : Option ObjectId) (old new : ChainTable) (o : ℕ) : Type 0 where
  OfCopy : copy.0 ≡ o → shadow_at new o ≡ Some (record { under = file; shift = 0 }) → UnderNow file copy older old new o
  OfOlder : (was : ObjectId) → older ≡ Some was → was.0 ≡ o → shadow_at new o ≡ Some (record { under = copy; shift = 0 }) → UnderNow file copy older old new o
  OfOther : (copy.0 ≡ o → ⊥) → ((was : ObjectId) → older ≡ Some was → was.0 ≡ o → ⊥) → shadow_at new o ≡ shadow_at old o → UnderNow file copy older old new o

pub under_now : {file copy : ObjectId} {row : ObjectRow} {cs cs2 : ChainTable} {os os2 : ObjectTable} {older : Option ObjectId}
    → Stands file copy row cs cs2 os os2 older → (o : ℕ) → UnderNow file copy older cs cs2 o
under_now {file = file} {copy = copy} {cs = cs} {cs2 = cs2} (OnFile stands mid put refers) o =
    elim (one_case copy.0 o (Some (record { under = file; shift = 0 })) (shadow_at cs o) (shadow_at cs2 o) (stands.at o)) [
      | inl this ↦ OfCopy this.0 this.1
      | inr other ↦ OfOther other.0 (λ was is same. let bad : ◌≡◌ {A = Option ObjectId} None (Some was) = is in cc) other.1
    ]
under_now {file = file} {copy = copy} {cs = cs} {cs2 = cs2} (Under older mid stands rebases put) o =
    elim (one_case older.0 o (Some (record { under = copy; shift = 0 })) (shadow_at mid o) (shadow_at cs2 o) (rebases.at o)) [
      | inl this ↦ OfOlder older refl this.0 this.1
      | inr away ↦ elim (one_case copy.0 o (Some (record { under = file; shift = 0 })) (shadow_at cs o) (shadow_at mid o) (stands.at o)) [
        | inl this ↦ OfCopy this.0 (away.1 ∙ this.1)
        | inr other ↦ OfOther other.0 (λ was is same. away.0 (ap (λ (z : ObjectId). z.0) (some_is older was is) ∙ same)) (away.1 ∙ other.1)
      ]
    ]

-- A file is known, and something refers to it. Its newest copy object is the newest of the history, if something refers to that, and stands on the file. The
-- new one isn't known.
pub record DelaysFile (file copy : ObjectId) (row : ObjectRow) (older : Option ObjectId) (newest : Option ℕ) (chains : ChainTable) (objects : ObjectTable) :
    Type 0 where
  pub known : object_at objects file.0 ≡ Some row
  pub some : 0 < row.references
  pub unknown : object_at objects copy.0 ≡ None
  pub last : (was : ObjectId) → older ≡ Some was → newest ≡ Some was.0
  pub told : (c : ℕ) → newest ≡ Some c → IsReferred objects c → older ≡ Some (record { 0 = c })
  pub stood : (was : ObjectId) → older ≡ Some was → shadow_at chains was.0 ≡ Some (record { under = file; shift = 0 })
  pub shadows : AreShadowsReferred chains objects

module _ {file copy : ObjectId} {row : ObjectRow} {older : Option ObjectId} {newest : Option ℕ} {cs cs2 : ChainTable} {os os2 : ObjectTable}
    (d : DelaysFile file copy row older newest cs os) (s : Stands file copy row cs cs2 os os2 older) where
  pub copy_apart : copy.0 ≡ file.0 → ⊥
  copy_apart same = known_apart file.0 copy.0 row os d.known d.unknown (sym same)

  pub refers_again : RefersMore (refers_to file copy older) copy row os os2
  refers_again = refers_more s d.known copy_apart d.some

  -- each object that was known is so still, with as many pages, and has references where it had some
  pub known_behind : (x : ℕ) → IsSome (object_at os x) → IsSome (object_at os2 x)
  known_behind x is =
      known_still (refers_to file copy older) _ (with_copy copy row os) os2 refers_again.put x
      (known_still copy.0 (copy_row row 1) os (with_copy copy row os) (put_copy copy row os) x is)

  pub referred_behind : (x : ℕ) → IsReferred os x → IsReferred os2 x
  referred_behind x is =
      referred_still (refers_to file copy older) _ (with_copy copy row os) os2 refers_again.put x (λ same. omega arith)
      (referred_still copy.0 (copy_row row 1) os (with_copy copy row os) (put_copy copy row os) x (λ same. omega arith) is)

  pub pages_behind : (x : ℕ) → IsSome (object_at os x) → object_pages os2 x ≡ object_pages os x
  pages_behind x is =
      same_pages (with_copy copy row os) os2 (refers_to file copy older) refers_again.row _ refers_again.known refl refers_again.put x
      ∙ pages_known copy.0 (copy_row row 1) os (with_copy copy row os) (put_copy copy row os) d.unknown x is

  -- so is the copy object, which has the pages of the file
  pub copy_known : IsSome (object_at os2 copy.0)
  copy_known =
      known_still (refers_to file copy older) _ (with_copy copy row os) os2 refers_again.put copy.0
      (ap is_some (known_put copy.0 (copy_row row 1) os (with_copy copy row os) (put_copy copy row os)))

  pub copy_referred : IsReferred os2 copy.0
  copy_referred =
      referred_still (refers_to file copy older) _ (with_copy copy row os) os2 refers_again.put copy.0 (λ same. omega arith)
      (record {
        row = copy_row row 1;
        known = known_put copy.0 (copy_row row 1) os (with_copy copy row os) (put_copy copy row os);
        some = omega arith;
      })

  pub copy_pages : object_pages os2 copy.0 ≡ row.pages
  copy_pages =
      same_pages (with_copy copy row os) os2 (refers_to file copy older) refers_again.row _ refers_again.known refl refers_again.put copy.0
      ∙ pages_put copy.0 (copy_row row 1) os (with_copy copy row os) (put_copy copy row os)

  -- and no other
  pub unknown_behind : (x : ℕ) → (copy.0 ≡ x → ⊥) → object_at os x ≡ None → object_at os2 x ≡ None
  unknown_behind x apart none =
      let none_too = unknown_still copy.0 (copy_row row 1) os (with_copy copy row os) (put_copy copy row os) x apart none in
      unknown_still (refers_to file copy older) _ (with_copy copy row os) os2 refers_again.put x
      (known_apart (refers_to file copy older) x refers_again.row (with_copy copy row os) refers_again.known none_too) none_too

  pub referred_ahead : (x : ℕ) → (copy.0 ≡ x → ⊥) → IsReferred os2 x → IsReferred os x
  referred_ahead x apart is =
      referred_other copy.0 (copy_row row 1) os (with_copy copy row os) (put_copy copy row os) x apart
      (referred_before (refers_to file copy older) _ (with_copy copy row os) os2 refers_again.put
      (λ more. record { row = refers_again.row; known = refers_again.known; some = refers_again.some }) x is)

  -- another object that stands on something, or to which something refers, is not the newest copy of the history either
  pub none_newest : (x : ℕ) → IsReferred os x → ((was : ObjectId) → older ≡ Some was → was.0 ≡ x → ⊥) → R.is_newest x newest ≡ false
  none_newest x referred apart = by newest refl
    where
      by : (n : Option ℕ) → newest ≡ n → R.is_newest x n ≡ false
      by None is = refl
      by (Some c) is =
          other_test x c (λ same. apart (record { 0 = c }) (d.told c is (subst (λ (z : ℕ). IsReferred os z) same referred)) (sym same))

  pub older_apart : (was : ObjectId) → older ≡ Some was → was.0 ≡ copy.0 → ⊥
  older_apart was is =
      some_apart os was.0 copy.0 (ap is_some (d.shadows was.0 (record { under = file; shift = 0 }) (d.stood was is)).known) d.unknown

  pub older_newest : (was : ObjectId) → older ≡ Some was → R.is_newest was.0 newest ≡ true
  older_newest was is = ap (R.is_newest was.0) (d.last was is) ∙ same_test was.0 was.0 refl

-- so many references has each object

count_behind : {file copy : ObjectId} {row : ObjectRow} {older : Option ObjectId} {newest : Option ℕ} {cs mid cs2 : ChainTable} {os os2 : ObjectTable}
    (rm om offset pages : ℕ) (d : DelaysFile file copy row older newest cs os) (s : Stands file copy row cs mid os os2 older) → copy.0 ≡ om
    → PutsRegion rm (Some (delayed_row copy offset pages)) mid cs2 → ((o : ℕ) (shadow : ShadowRow) → shadow_at cs o ≡ Some shadow → o < om) → (x : ℕ)
    → references_to cs2 (rm + 1) (om + 1) x ≡ references_to cs rm om x + one (copy.0 == x) + one (refers_to file copy older == x)
count_behind {file = file} {copy = copy} {cs = cs} {mid = mid} {cs2 = cs2} rm om offset pages d (OnFile stands objects put refers) next made small x =
    let stood = references_stood cs mid rm om file (subst (λ (z : ℕ). Rebases z file cs mid) next stands) x in
    let over = references_over mid cs2 rm (om + 1) (delayed_row copy offset pages) made x in
    omega (arith, stood, over)
count_behind {file = file} {copy = copy} {cs = cs} {mid = mid} {cs2 = cs2} rm om offset pages d (Under was first stands rebases put) next made small x =
    let stood = references_stood cs first rm om file (subst (λ (z : ℕ). Rebases z file cs first) next stands) x in
    let found = d.stood was refl in
    let less = small was.0 (record { under = file; shift = 0 }) found in
    let still : shadow_at first was.0 ≡ Some (record { under = file; shift = 0 }) =
    elsewhere copy.0 was.0 (Some (record { under = file; shift = 0 })) (shadow_at cs was.0) (shadow_at first was.0) (stands.at was.0)
    (λ e. omega (arith, e, next, less)) ∙ found in
    let rebased = references_rebased first mid rm (om + 1) was.0 (record { under = file; shift = 0 }) copy still (omega (arith, less)) rebases x in
    let over = references_over mid cs2 rm (om + 1) (delayed_row copy offset pages) made x in
    omega (arith, stood, rebased, over)

-- a rank falls along each chain still
ranked_behind : {file copy : ObjectId} {row : ObjectRow} {older : Option ObjectId} {newest : Option ℕ} {cs mid : ChainTable} {os os2 : ObjectTable}
    → DelaysFile file copy row older newest cs os → Stands file copy row cs mid os os2 older
    → ((o : ℕ) (shadow : ShadowRow) → shadow_at cs o ≡ Some shadow → IsSome (object_at os shadow.under.0)) → IsRanked cs → IsRanked mid
ranked_behind {file = file} {copy = copy} {row = row} {cs = cs} {mid = mid} {os = os} d (OnFile stands objects put refers) unders ranked =
    ranked_over cs mid copy.0 (record { under = file; shift = 0 }) stands.at (some_apart os file.0 copy.0 (ap is_some d.known) d.unknown)
    (λ o shadow found. some_apart os shadow.under.0 copy.0 (unders o shadow found) d.unknown) ranked
ranked_behind {file = file} {copy = copy} {row = row} {cs = cs} {mid = mid} {os = os} d (Under was first stands rebases put) unders ranked =
    ranked_rebased first mid was.0 copy.0 (record { under = file; shift = 0 }) (record { under = copy; shift = 0 })
    (elsewhere copy.0 was.0 (Some (record { under = file; shift = 0 })) (shadow_at cs was.0) (shadow_at first was.0) (stands.at was.0)
    (λ same. apart (sym same)) ∙ d.stood was refl)
    (if_true copy.0 (Some (record { under = file; shift = 0 })) (shadow_at cs copy.0) (shadow_at first copy.0) (stands.at copy.0)) refl apart bare rebases.at
    (ranked_over cs first copy.0 (record { under = file; shift = 0 }) stands.at file_apart
    (λ o shadow found. some_apart os shadow.under.0 copy.0 (unders o shadow found) d.unknown) ranked)
  where
    file_apart : file.0 ≡ copy.0 → ⊥
    file_apart = some_apart os file.0 copy.0 (ap is_some d.known) d.unknown

    apart : was.0 ≡ copy.0 → ⊥
    apart same =
        let known = d.shadows was.0 (record { under = file; shift = 0 }) (d.stood was refl) in
        some_apart os was.0 copy.0 (ap is_some known.known) d.unknown same

    bare : (o : ℕ) (shadow : ShadowRow) → shadow_at first o ≡ Some shadow → shadow.under.0 ≡ copy.0 → ⊥
    bare o shadow found = elim (one_case copy.0 o (Some (record { under = file; shift = 0 })) (shadow_at cs o) (shadow_at first o) (stands.at o)) [
      | inl this ↦ λ same. file_apart (ap (λ (z : ShadowRow). z.under.0) (some_is _ shadow (sym this.1 ∙ found)) ∙ same)
      | inr other ↦ some_apart os shadow.under.0 copy.0 (unders o shadow (sym other.1 ∙ found)) d.unknown
    ]

-- the regions and objects go on
pub regions_delayed : (header : Header) (past : List Event) (region source : RegionId) (copy : ObjectId) (offset pages : ℕ) (row : ObjectRow)
    (older : Option ObjectId) (cs mid cs2 : ChainTable) (os os2 : ObjectTable) (ids ids2 : Ids) (rm om marked : ℕ)
    → DelaysFile (record { 0 = source.0 }) copy row older (R.newest_copy source.0 past) cs os
    → Stands (record { 0 = source.0 }) copy row cs mid os os2 older → PutsRegion region.0 (Some (delayed_row copy offset pages)) mid cs2
    → region.0 ≡ rm → copy.0 ≡ om → offset + pages ≤ row.pages
    → ids2 ≡ record { next_object = ids.next_object + 1; next_region = ids.next_region + 1; marks = ids.marks + 1 }
    → om + 1 + (marked + 1) ≤ most_objects
    → HasRegions cs os ids (λ q. region_of header q past) (λ q. backing_of header q past) rm om marked
    → HasRegions cs2 os2 ids2 (λ q. region_of header q (event.Delayed region source offset pages copy ∷ past))
    (λ q. backing_of header q (event.Delayed region source offset pages copy ∷ past)) (rm + 1) (om + 1) (marked + 1)
regions_delayed header past region source copy offset pages row older cs mid cs2 os os2 ids ids2 rm om marked d s made next next_too within ids_are room has =
    record {
      region = ap (λ (z : Ids). z.next_region) ids_are ∙ ap (λ z. z + 1) has.region;
      object = ap (λ (z : Ids). z.next_object) ids_are ∙ ap (λ z. z + 1) has.object;
      marks = ap (λ (z : Ids). z.marks) ids_are ∙ ap (λ z. z + 1) has.marks;
      few = room;
      rows = λ q found_row found. elim (region_cases q) [
        | inl this ↦
            let its : found_row ≡ now = some_is found_row now (sym found ∙ this.1) in
            ap (λ b. R.delayed b copy.0 offset pages (region_of header q past)) (same_test q region.0 (sym this.0)) ∙ sym (ap seen its)
        | inr other ↦
            ap (λ b. R.delayed b copy.0 offset pages (region_of header q past)) (other_test q region.0 (λ e. other.0 (sym e)))
            ∙ has.rows q found_row (sym other.1 ∙ found)
      ];
      shadows = λ q shadow found. shadow_by q shadow (sym (ap (λ f. f q) made.shadows) ∙ found) (under_now s q);
      bottoms = λ q referred none. bottom_by q referred (sym (ap (λ f. f q) made.shadows) ∙ none) (under_now s q);
      unmade = λ q le. elim (region_cases q) [
        | inl this ↦ absurd (let a = this.0 in omega (arith, a, next, le))
        | inr other ↦ other.1 ∙ has.unmade q (omega (arith, le))
      ];
      unknown = λ q le. unknown_behind d s q (λ e. omega (arith, e, next_too, le)) (has.unknown q (omega (arith, le)));
      tops = λ q found_row found. elim (region_cases q) [
        | inl this ↦
            subst (λ (z : RegionRow). IsSome (object_at os2 z.top.0)) (some_is now found_row (sym this.1 ∙ found)) (copy_known d s)
        | inr other ↦ known_behind d s found_row.top.0 (has.tops q found_row (sym other.1 ∙ found))
      ];
      unders = λ q shadow found. under_by q shadow (sym (ap (λ f. f q) made.shadows) ∙ found) (under_now s q);
      ranked = ranked_same mid cs2 (λ q. ap (λ f. f q) made.shadows) (ranked_behind d s (λ o shadow found. (has.unders o shadow found).1) has.ranked);
      fits = record {
        tops = λ q found_row found. elim (region_cases q) [
          | inl this ↦
              subst (λ (z : RegionRow). z.shift + z.pages ≤ object_pages os2 z.top.0) (some_is now found_row (sym this.1 ∙ found))
              (subst (λ (z : ℕ). offset + pages ≤ z) (sym (copy_pages d s)) within)
          | inr other ↦
              let before : region_at cs q ≡ Some found_row = sym other.1 ∙ found in
              subst (λ (z : ℕ). found_row.shift + found_row.pages ≤ z) (sym (pages_behind d s found_row.top.0 (has.tops q found_row before)))
              (has.fits.tops q found_row before)
        ];
        unders = λ q shadow found. fit_by q shadow (sym (ap (λ f. f q) made.shadows) ∙ found) (under_now s q);
      };
      counts =
          counts_still (refers_to file copy older) (record again.row { references = again.row.references + 1 }) (with_copy copy row os) os2 after
          (references_to cs2 (rm + 1) (om + 1)) again.put its rest first;
    }
  where
    now : RegionRow
    now = delayed_row copy offset pages

    file : ObjectId
    file = record { 0 = source.0 }

    again : RefersMore (refers_to file copy older) copy row os os2
    again = refers_again d s

    e : Event
    e = event.Delayed region source offset pages copy

    region_cases : (q : ℕ) → ((region.0 ≡ q) × (region_at cs2 q ≡ Some now)) ⊎ ((region.0 ≡ q → ⊥) × (region_at cs2 q ≡ region_at cs q))
    region_cases q = elim (one_case region.0 q (Some now) (region_at mid q) (region_at cs2 q) (made.at q)) [
      | inl this ↦ inl this
      | inr other ↦ inr (other.0, other.1 ∙ ap (λ f. f q) (stands_regions s))
    ]

    backing_behind : (q : ℕ) (a b : Bool) → (q == copy.0) ≡ a → R.is_newest q (R.newest_copy source.0 past) ≡ b
        → backing_of header q (e ∷ past) ≡ R.pushed a b source.0 copy.0 (backing_of header q past)
    backing_behind q a b one_is two_is =
        ap (λ z. R.pushed z (R.is_newest q (R.newest_copy source.0 past)) source.0 copy.0 (backing_of header q past)) one_is
        ∙ ap (λ z. R.pushed a z source.0 copy.0 (backing_of header q past)) two_is

    backing_other : (q : ℕ) → (copy.0 ≡ q → ⊥) → ((was : ObjectId) → older ≡ Some was → was.0 ≡ q → ⊥) → IsReferred os q
        → backing_of header q (e ∷ past) ≡ backing_of header q past
    backing_other q apart other referred =
        backing_behind q false false (other_test q copy.0 (λ same. apart (sym same))) (none_newest d s q referred other)

    as_backing : ShadowRow → R.Backing
    as_backing shadow = record { backed = true; under = shadow.under.0; shift = shadow.shift }

    shadow_by : (q : ℕ) (shadow : ShadowRow) → shadow_at mid q ≡ Some shadow → UnderNow file copy older cs mid q
        → backing_of header q (e ∷ past) ≡ record { backed = true; under = shadow.under.0; shift = shadow.shift }
    shadow_by q shadow found (OfCopy same is) =
        ap (λ z. R.pushed z (R.is_newest q (R.newest_copy source.0 past)) source.0 copy.0 (backing_of header q past)) (same_test q copy.0 (sym same))
        ∙ ap as_backing (some_is (record { under = file; shift = 0 }) shadow (sym is ∙ found))
    shadow_by q shadow found (OfOlder was its same is) =
        backing_behind q false true (other_test q copy.0 (λ also. older_apart d s was its (same ∙ also)))
        (subst (λ (z : ℕ). R.is_newest z (R.newest_copy source.0 past) ≡ true) same (older_newest d s was its))
        ∙ ap as_backing (some_is (record { under = copy; shift = 0 }) shadow (sym is ∙ found))
    shadow_by q shadow found (OfOther apart other is) =
        let was : shadow_at cs q ≡ Some shadow = sym is ∙ found in
        backing_other q apart other (d.shadows q shadow was) ∙ has.shadows q shadow was

    bottom_by : (q : ℕ) → IsReferred os2 q → shadow_at mid q ≡ None → UnderNow file copy older cs mid q → (backing_of header q (e ∷ past)).backed ≡ false
    bottom_by q referred none (OfCopy same is) = absurd (let bad : ◌≡◌ {A = Option ShadowRow} None (Some (record { under = file; shift = 0 })) = sym none ∙ is
        in cc)
    bottom_by q referred none (OfOlder was its same is) =
        absurd (let bad : ◌≡◌ {A = Option ShadowRow} None (Some (record { under = copy; shift = 0 })) = sym none ∙ is in cc)
    bottom_by q referred none (OfOther apart other is) =
        let before = referred_ahead d s q apart referred in
        ap (λ (z : R.Backing). z.backed) (backing_other q apart other before) ∙ has.bottoms q before (sym is ∙ none)

    under_by : (q : ℕ) (shadow : ShadowRow) → shadow_at mid q ≡ Some shadow → UnderNow file copy older cs mid q
        → IsSome (object_at os2 q) × IsSome (object_at os2 shadow.under.0)
    under_by q shadow found (OfCopy same is) = (
      subst (λ (z : ℕ). IsSome (object_at os2 z)) same (copy_known d s),
      subst (λ (z : ShadowRow). IsSome (object_at os2 z.under.0)) (some_is (record { under = file; shift = 0 }) shadow (sym is ∙ found))
          (known_behind d s file.0 (ap is_some d.known)),
    )
    under_by q shadow found (OfOlder was its same is) = (
      subst (λ (z : ℕ). IsSome (object_at os2 z)) same
          (known_behind d s was.0 (ap is_some (d.shadows was.0 (record { under = file; shift = 0 }) (d.stood was its)).known)),
      subst (λ (z : ShadowRow). IsSome (object_at os2 z.under.0)) (some_is (record { under = copy; shift = 0 }) shadow (sym is ∙ found)) (copy_known d s),
    )
    under_by q shadow found (OfOther apart other is) =
        let both = has.unders q shadow (sym is ∙ found) in
        (known_behind d s q both.0, known_behind d s shadow.under.0 both.1)

    fit_by : (q : ℕ) (shadow : ShadowRow) → shadow_at mid q ≡ Some shadow → UnderNow file copy older cs mid q
        → shadow.shift + object_pages os2 q ≤ object_pages os2 shadow.under.0
    fit_by q shadow found (OfCopy same is) =
        let a : object_pages os2 q ≡ row.pages = ap (object_pages os2) (sym same) ∙ copy_pages d s in
        let b : object_pages os2 file.0 ≡ row.pages = pages_behind d s file.0 (ap is_some d.known) ∙ ap pages_of_row d.known in
        subst (λ (z : ShadowRow). z.shift + object_pages os2 q ≤ object_pages os2 z.under.0)
        (some_is (record { under = file; shift = 0 }) shadow (sym is ∙ found)) (omega (arith, a, b))
    fit_by q shadow found (OfOlder was its same is) =
        let stood = d.stood was its in
        let known = (d.shadows was.0 (record { under = file; shift = 0 }) stood).known in
        let a : object_pages os2 q ≡ object_pages os was.0 = ap (object_pages os2) (sym same) ∙ pages_behind d s was.0 (ap is_some known) in
        let b : object_pages os file.0 ≡ row.pages = ap pages_of_row d.known in
        let c = copy_pages d s in
        let le = has.fits.unders was.0 (record { under = file; shift = 0 }) stood in
        subst (λ (z : ShadowRow). z.shift + object_pages os2 q ≤ object_pages os2 z.under.0)
        (some_is (record { under = copy; shift = 0 }) shadow (sym is ∙ found)) (omega (arith, a, b, c, le))
    fit_by q shadow found (OfOther apart other is) =
        let before : shadow_at cs q ≡ Some shadow = sym is ∙ found in
        let both = has.unders q shadow before in
        let le = has.fits.unders q shadow before in
        let a = pages_behind d s q both.0 in
        let b = pages_behind d s shadow.under.0 both.1 in
        omega (arith, le, a, b)

    -- the references, once the new region is over the copy object
    after : ℕ → ℕ
    after x = references_to cs rm om x + one (copy.0 == x)

    first : (x : ℕ) (known : ObjectRow) → object_at (with_copy copy row os) x ≡ Some known → known.references ≡ after x + one known.cache
    first =
        counts_still copy.0 (copy_row row 1) os (with_copy copy row os) (references_to cs rm om) after (put_copy copy row os)
        (let none = unreferenced cs os ids _ _ rm om marked copy.0 has d.unknown in let own = one_own copy.0 in omega (arith, none, own))
        (λ x apart. let no = one_other copy.0 x apart in omega (arith, no)) has.counts

    count : (x : ℕ) → references_to cs2 (rm + 1) (om + 1) x ≡ after x + one (refers_to file copy older == x)
    count x =
        count_behind rm om offset pages d s next_too (subst (λ (z : ℕ). PutsRegion z (Some now) mid cs2) next made)
        (λ o shadow found. small_shadow has o shadow found) x

    its : again.row.references + 1 ≡ references_to cs2 (rm + 1) (om + 1) (refers_to file copy older) + one again.row.cache
    its =
        let before = first (refers_to file copy older) again.row again.known in
        let more = count (refers_to file copy older) in
        let own = one_own (refers_to file copy older) in
        omega (arith, before, more, own)

    rest : (x : ℕ) → (refers_to file copy older ≡ x → ⊥) → references_to cs2 (rm + 1) (om + 1) x ≡ after x
    rest x apart = let more = count x in let no = one_other (refers_to file copy older) x apart in omega (arith, more, no)
