-- What a merge leaves to the merges behind it.
use Rattle.std.proofs.Common.{◌≡◌, ◌∙◌, ℕ, ◌+◌, ◌≤◌, ◌==◌, ◌⊎◌, List, Contains, Option, Some, None, inl, inr, refl, sym, ap, subst}
use Rattle.std.proofs.Common.{arith}
use Rattle.std.specs.Prelude.{◌≢◌, if◌then◌else◌}
use Rattle.vm_base.specs.declared.ids.ObjectId.{ObjectId}
use Rattle.vm_copies.specs.Copies.{CopyTable, copy_at}
use Rattle.vm_merge.proofs.Moving.{pages_here}
use Rattle.vm_merge.specs.Merges.{CanMerge, IsThinBut, MergeState, MergesInto}
use Rattle.vm_merge.specs.Standing.{CountsFit, MayMerge, ShadowsFit}
use Rattle.vm_objects.specs.Objects.{ObjectTable, object_at}
use Rattle.vm_objects.specs.declared.row.ObjectRow.{ObjectRow}
use Rattle.vm_parts.proofs.Fitting.{same_pages}
use Rattle.vm_parts.proofs.Rows.{one_case}
use Rattle.vm_parts.specs.Fits.{Fit, object_pages}
use Rattle.vm_parts.specs.Merging.{NoneAsked}
use Rattle.vm_resident.specs.Resident.{row_at}
use Rattle.vm_shadow.specs.Chains.{ChainTable, IsOnlyShadow, MergesShadow, joined, shadow_at}
use Rattle.vm_shadow.specs.declared.region_row.RegionRow.{RegionRow}
use Rattle.vm_shadow.specs.declared.shadow_row.ShadowRow.{ShadowRow}

-- where a shadow's row comes from: the upper has the lower's, by the sum of both shifts, and each other its own
data ComesFrom (upper lower : ℕ) (link : ShadowRow) (old : ChainTable) (o : ℕ) (row : ShadowRow) : Type 0 where
  Joins : (low : ShadowRow) → o ≡ upper → shadow_at old lower ≡ Some low → row ≡ record { under = low.under; shift = link.shift + low.shift }
      → ComesFrom upper lower link old o row
  Stays : o ≢ upper → o ≢ lower → shadow_at old o ≡ Some row → ComesFrom upper lower link old o row

joins : (upper lower : ℕ) (link : ShadowRow) (old : ChainTable) (o : ℕ) (row : ShadowRow) → o ≡ upper
    → (was : Option ShadowRow) → shadow_at old lower ≡ was → joined link was ≡ Some row → ComesFrom upper lower link old o row
joins upper lower link old o row is None was bad = absurd (let none : None ≡ Some row = bad in cc)
joins upper lower link old o row is (Some low) was sum =
    let same : Some (record { under = low.under; shift = link.shift + low.shift }) ≡ Some row = sum in
    Joins low is was (cc)

comes_from : (upper lower : ℕ) (link : ShadowRow) (old new : ChainTable) → MergesShadow upper lower link old new → (o : ℕ) (row : ShadowRow)
    → shadow_at new o ≡ Some row → ComesFrom upper lower link old o row
comes_from upper lower link old new merges o row is =
    elim (one_case upper o (joined link (shadow_at old lower)) (if lower == o then None else shadow_at old o) (shadow_at new o) (merges.at o)) [
      | inl up ↦ joins upper lower link old o row (sym up.0) (shadow_at old lower) refl (sym up.1 ∙ is)
      | inr not_up ↦ elim (one_case lower o None (shadow_at old o) (shadow_at new o) not_up.1) [
        | inl low ↦ absurd (let none : None ≡ Some row = sym low.1 ∙ is in cc)
        | inr other ↦ Stays (λ e. not_up.0 (sym e)) (λ e. other.0 (sym e)) (sym other.1 ∙ is)
      ]
    ]

-- each other object than the lower has the row that it had, and the lower has no references
data KnownFrom (lower : ℕ) (low : ObjectRow) (old : ObjectTable) (o : ℕ) (row : ObjectRow) : Type 0 where
  IsLower : o ≡ lower → row ≡ record low { references = 0 } → KnownFrom lower low old o row
  IsOther : o ≢ lower → object_at old o ≡ Some row → KnownFrom lower low old o row

known_from : (upper lower : ObjectId) (old new : MergeState) (merges : MergesInto upper lower old new) (o : ℕ) (row : ObjectRow)
    → object_at new.parts.objects o ≡ Some row → KnownFrom lower.0 merges.can.lower_row old.parts.objects o row
known_from upper lower old new merges o row is =
    elim (one_case lower.0 o (Some (record merges.can.lower_row { references = 0 })) (object_at old.parts.objects o) (object_at new.parts.objects o)
    (merges.object.at o)) [
      | inl low ↦
          let both : Some (record merges.can.lower_row { references = 0 }) ≡ Some row = sym low.1 ∙ is in
          IsLower (sym low.0) (cc)
      | inr other ↦ IsOther (λ e. other.0 (sym e)) (sym other.1 ∙ is)
    ]

-- a row with references is that of another object than the lower, as it was
referred : (lower : ℕ) (low : ObjectRow) (old : ObjectTable) (o : ℕ) (row : ObjectRow) → KnownFrom lower low old o row → row.references ≡ 1
    → (o ≢ lower) × (object_at old o ≡ Some row)
referred lower low old o row (IsLower is same) one = absurd (let none : 0 ≡ 1 = ap (λ z. z.references) (sym same) ∙ one in omega (arith, none))
referred lower low old o row (IsOther other was) one = (other, was)

-- so is that of another object
another : (lower : ℕ) (low : ObjectRow) (old : ObjectTable) (o : ℕ) (row : ObjectRow) → KnownFrom lower low old o row → o ≢ lower
    → object_at old o ≡ Some row
another lower low old o row (IsLower is same) other = absurd (other is)
another lower low old o row (IsOther apart was) other = was

-- the shadow that stood where one stands: the lower stood where the upper does
data StoodAs (upper lower : ℕ) (u : ℕ) (was : ℕ) : Type 0 where
  AsLower : u ≡ upper → was ≡ lower → StoodAs upper lower u was
  AsItself : u ≢ lower → was ≡ u → StoodAs upper lower u was

-- an object that can be merged behind a merge could be in front of it, and isn't the one that was
record CouldMerge (upper lower : ObjectId) (old : MergeState) (u l : ℕ) : Type 0 where
  other : l ≢ lower.0
  was : ℕ
  stood : StoodAs upper.0 lower.0 u was
  pair : CanMerge old.copies old.chains old.parts.objects was l

could_merge : (upper lower : ObjectId) (old new : MergeState) → MergesInto upper lower old new → (u l : ℕ)
    → CanMerge new.copies new.chains new.parts.objects u l → CouldMerge upper lower old u l
could_merge upper lower old new merges u l can =
    by (comes_from upper.0 lower.0 merges.can.link old.chains new.chains merges.chain u can.link can.over)
  where
    low : (l ≢ lower.0) × (object_at old.parts.objects l ≡ Some can.lower_row)
    low =
        referred lower.0 merges.can.lower_row old.parts.objects l can.lower_row
        (known_from upper lower old new merges l can.lower_row can.lower_known) can.sole

    plain : copy_at old.copies l ≡ None
    plain = ap (λ (z : CopyTable). copy_at z l) (sym merges.copied) ∙ can.plain

    by : ComesFrom upper.0 lower.0 merges.can.link old.chains u can.link → CouldMerge upper lower old u l
    by (Joins link is over sum) =
        record {
          other = low.0;
          was = lower.0;
          stood = AsLower is refl;
          pair = record {
            link = link;
            over = over;
            under = ap (λ (z : ShadowRow). z.under.0) (sym sum) ∙ can.under;
            upper_row = merges.can.lower_row;
            upper_known = merges.can.lower_known;
            lower_row = can.lower_row;
            lower_known = low.1;
            sole = can.sole;
            upper_never = merges.can.lower_never;
            lower_never = can.lower_never;
            plain = plain;
          };
        }
    by (Stays not_upper not_lower over) =
        record {
          other = low.0;
          was = u;
          stood = AsItself not_lower refl;
          pair = record {
            link = can.link;
            over = over;
            under = can.under;
            upper_row = can.upper_row;
            upper_known =
                another lower.0 merges.can.lower_row old.parts.objects u can.upper_row (known_from upper lower old new merges u can.upper_row can.upper_known)
                not_lower;
            lower_row = can.lower_row;
            lower_known = low.1;
            sole = can.sole;
            upper_never = can.upper_never;
            lower_never = can.lower_never;
            plain = plain;
          };
        }

-- the shadow over an object that can be merged is the one still
stands_there : (upper lower : ℕ) (link : ShadowRow) (old : ChainTable) (u was l : ℕ) → StoodAs upper lower u was → IsOnlyShadow was l old
    → (o : ℕ) (row : ShadowRow) → ComesFrom upper lower link old o row → row.under.0 ≡ l → o ≡ u
stands_there upper lower link old u was l (AsLower is_upper is_lower) only o row (Joins low is over sum) under = is ∙ sym is_upper
stands_there upper lower link old u was l (AsLower is_upper is_lower) only o row (Stays not_upper not_lower over) under =
    absurd (not_lower (only.shadows o row over under ∙ is_lower))
stands_there upper lower link old u was l (AsItself other same) only o row (Joins low is over sum) under =
    absurd (other (sym (only.shadows lower low over (ap (λ (z : ShadowRow). z.under.0) (sym sum) ∙ under) ∙ same)))
stands_there upper lower link old u was l (AsItself other same) only o row (Stays not_upper not_lower over) under = only.shadows o row over under ∙ same

counts_behind : (upper lower : ObjectId) (old new : MergeState) → MergesInto upper lower old new → CountsFit old.copies old.chains old.parts.objects
    → CountsFit new.copies new.chains new.parts.objects
counts_behind upper lower old new merges counts u l can =
    let could = could_merge upper lower old new merges u l can in
    let only = counts could.was l could.pair in
    record {
      bare = λ r row is. only.bare r row (ap (λ (f : ℕ → Option RegionRow). f r) (sym merges.chain.regions) ∙ is);
      shadows =
          λ o row is. stands_there upper.0 lower.0 merges.can.link old.chains u could.was l could.stood only o row
          (comes_from upper.0 lower.0 merges.can.link old.chains new.chains merges.chain o row is);
    }

-- what could be merged but the lower can be at most
pub thin_behind : (upper lower : ObjectId) (old new : MergeState) → MergesInto upper lower old new → (items left : List ObjectId)
    → IsThinBut old.copies items old.chains old.parts.objects → ((o : ObjectId) → Contains items o → (o ≡ lower) ⊎ Contains left o)
    → IsThinBut new.copies left new.chains new.parts.objects
thin_behind upper lower old new merges items left thin rest u l can =
    let could = could_merge upper lower old new merges u l can in
    elim (rest (record { 0 = l }) (thin could.was l could.pair)) [
      | inl same ↦ absurd (could.other (ap (λ (z : ObjectId). z.0) same))
      | inr more ↦ more
    ]

-- where the object can't be merged, the others alone can be
pub thin_past : {copies : CopyTable} (lower : ObjectId) (chains : ChainTable) (objects : ObjectTable) (items left : List ObjectId)
    → IsThinBut copies items chains objects → ((upper : ℕ) → CanMerge copies chains objects upper lower.0 → ⊥)
    → ((o : ObjectId) → Contains items o → (o ≡ lower) ⊎ Contains left o) → IsThinBut copies left chains objects
thin_past {copies = copies} lower chains objects items left thin none rest u l can =
    elim (rest (record { 0 = l }) (thin u l can)) [
      | inl same ↦ absurd (none u (subst (λ (n : ℕ). CanMerge copies chains objects u n) (ap (λ (z : ObjectId). z.0) same) can))
      | inr more ↦ more
    ]

pages_behind : (upper lower : ObjectId) (old new : MergeState) → MergesInto upper lower old new → (o : ℕ)
    → object_pages new.parts.objects o ≡ object_pages old.parts.objects o
pages_behind upper lower old new merges =
    same_pages old.parts.objects new.parts.objects lower.0 merges.can.lower_row (record merges.can.lower_row { references = 0 }) merges.can.lower_known refl
    merges.object

shadows_behind : (upper lower : ObjectId) (old new : MergeState) → MergesInto upper lower old new → ShadowsFit old.chains old.parts.objects
    → ShadowsFit new.chains new.parts.objects
shadows_behind upper lower old new merges fit o row is =
    by (comes_from upper.0 lower.0 merges.can.link old.chains new.chains merges.chain o row is)
  where
    by : ComesFrom upper.0 lower.0 merges.can.link old.chains o row → row.shift + object_pages new.parts.objects o ≤ object_pages new.parts.objects row.under.0
    by (Joins low is_upper over sum) =
        let up = fit upper.0 merges.can.link merges.can.over in
        let down = fit lower.0 low over in
        let here = pages_behind upper lower old new merges o ∙ ap (object_pages old.parts.objects) is_upper in
        let there = ap (object_pages old.parts.objects) merges.can.under in
        let below = pages_behind upper lower old new merges row.under.0 ∙ ap (λ (z : ShadowRow). object_pages old.parts.objects z.under.0) sum in
        let shift = ap (λ (z : ShadowRow). z.shift) sum in
        omega (arith, up, down, here, there, below, shift)
    by (Stays not_upper not_lower over) =
        let was = fit o row over in
        let here = pages_behind upper lower old new merges o in
        let below = pages_behind upper lower old new merges row.under.0 in
        omega (arith, was, here, below)

-- an object that is known never had a control
record Never (objects : ObjectTable) (o : ℕ) : Type 0 where
  row : ObjectRow
  known : object_at objects o ≡ Some row
  never : row.control ≡ 0

never_from : (lower : ℕ) (low : ObjectRow) (old : ObjectTable) (o : ℕ) (row : ObjectRow) → KnownFrom lower low old o row → object_at old lower ≡ Some low
    → row.control ≡ 0 → Never old o
never_from lower low old o row (IsLower is same) known never =
    record { row = low; known = ap (object_at old) is ∙ known; never = ap (λ (z : ObjectRow). z.control) (sym same) ∙ never }
never_from lower low old o row (IsOther other was) known never = record { row = row; known = was; never = never }

here_behind : (upper lower : ObjectId) (old new : MergeState) → MergesInto upper lower old new
    → ((o : ℕ) (known : ObjectRow) → object_at old.parts.objects o ≡ Some known → known.control ≡ 0 → NoneAsked old.parts o)
    → (o : ℕ) (known : ObjectRow) → object_at new.parts.objects o ≡ Some known → known.control ≡ 0 → NoneAsked new.parts o
here_behind upper lower old new merges here o known is never p row found =
    let can = merges.can in
    let low : Never old.parts.objects lower.0 = record { row = can.lower_row; known = can.lower_known; never = can.lower_never } in
    let none = pages_here (Never old.parts.objects) upper lower can.link.shift can.upper_row.pages 0 old.parts merges.moved merges.pages low
    (λ o no_control. here o no_control.row no_control.known no_control.never) in
    let was = never_from lower.0 can.lower_row old.parts.objects o known (known_from upper lower old new merges o known is) can.lower_known never in
    none o was p row (ap (λ z. row_at z.resident o p) (sym merges.rest) ∙ found)

-- the next merge may stand on what the last one left
pub may_go_on : (pages : ℕ) (upper lower : ObjectId) (old new : MergeState) → MergesInto upper lower old new → MayMerge pages old.parts old.chains old.copies
    → Fit new.parts → MayMerge pages new.parts new.chains new.copies
may_go_on pages upper lower old new merges may fit =
    record {
      fit = fit;
      here = here_behind upper lower old new merges may.here;
      most = λ o. let same = pages_behind upper lower old new merges o in let was = may.most o in omega (arith, same, was);
      few = may.few;
      shadows = shadows_behind upper lower old new merges may.shadows;
      counts = counts_behind upper lower old new merges may.counts;
    }
