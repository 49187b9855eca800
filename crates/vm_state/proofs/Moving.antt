-- The pages that are here, where those of an object move up to the shadow over it: which row each has, and what that is to what a host knows of its pages.
use Rattle.std.proofs.Common.{◌≡◌, ◌∙◌, ℕ, ◌+◌, ◌<◌, ◌≤◌, ◌==◌, Bool, true, false, List, Option, Some, None, ap, arith, refl, sym, subst, inl, inr}
use Rattle.std.proofs.lemmas.Bool.Decides.{nat_tests}
use Rattle.std.specs.Prelude.{if◌then◌else◌, nat_lt, ◌⊎◌}
use Rattle.vm_abroad.proofs.Regions.{kind_cases}
use Rattle.vm_copies.specs.Copies.{CopyTable}
use Rattle.vm_maps.specs.Maps.{Mapped}
use Rattle.vm_model.specs.declared.script.Header.{Header}
use Rattle.vm_model.specs.Named.{named}
use Rattle.vm_model.specs.Waiting.{Target}
use Rattle.vm_objects.specs.Objects.{ObjectTable, object_at}
use Rattle.vm_objects.specs.declared.row.ObjectRow.{ObjectRow}
use Rattle.vm_parts.proofs.Rows.{one_case, some_is}
use Rattle.vm_resident.specs.Resident.{ResidentTable, row_at}
use Rattle.vm_resident.specs.declared.page_row.PageRow.{PageRow}
use Rattle.vm_shadow.specs.Chains.{ChainTable, IsRanked, shadow_at}
use Rattle.vm_shadow.specs.declared.region_row.RegionRow.{RegionRow}
use Rattle.vm_shadow.specs.declared.shadow_row.ShadowRow.{ShadowRow}
use Rattle.vm_state.proofs.Filling.{Filled, IsUnfilled, KeepsFilled, KeepsUnmade, copies_kept, filled_there}
use Rattle.vm_state.proofs.Knowing.{known_cases, referred_still}
use Rattle.vm_state.proofs.Merging.{IsLower, IsOther, IsUpper, StandsNow, joined_some, lower_quiet, merged_apart, stands_now}
use Rattle.vm_state.specs.Filling.{AllUsed, HasCopies, filled_row, fills_in}
use Rattle.vm_state.specs.Merging.{MergesObjects, MergesRows, its_own_or}
use Rattle.vm_state.specs.References.{AllReferred, MayLock, is_live_in, is_temporary_in, is_temporary_kind}
use Rattle.vm_state.specs.Stands.{HasKinds, IsOfKind}
use Rattle.vm_terminate.specs.Finishes.{IsReferred}
use Rattle.vm_waits.specs.Waits.{entry}
use Rattle.vm_waits.specs.declared.waiting.Waiting.{Waiting}

-- the row of a page behind the merge
pub data RowNow (upper lower shift pages : ℕ) (rs rs2 : ResidentTable) (o p : ℕ) : Type 0 where
  IsOwn : (row : PageRow) → upper ≡ o → row_at rs o p ≡ Some row → row_at rs2 o p ≡ Some row → RowNow upper lower shift pages rs rs2 o p
  IsMoved : upper ≡ o → row_at rs o p ≡ None → p < pages → row_at rs2 o p ≡ row_at rs lower (shift + p) → RowNow upper lower shift pages rs rs2 o p
  IsBeyond : upper ≡ o → row_at rs o p ≡ None → pages ≤ p → row_at rs2 o p ≡ None → RowNow upper lower shift pages rs rs2 o p
  IsGone : (upper ≡ o → ⊥) → lower ≡ o → row_at rs2 o p ≡ None → RowNow upper lower shift pages rs rs2 o p
  IsSame : (upper ≡ o → ⊥) → (lower ≡ o → ⊥) → row_at rs2 o p ≡ row_at rs o p → RowNow upper lower shift pages rs rs2 o p

-- the row that a page of the upper gets where it has none
abbrev gets : ℕ → ℕ → ℕ → ResidentTable → ℕ → Option PageRow
gets lower shift pages rs p = if nat_lt p pages then row_at rs lower (shift + p) else None

pub row_now : {upper lower shift pages : ℕ} {rs rs2 : ResidentTable} → MergesRows upper lower shift pages rs rs2 → (o p : ℕ)
    → RowNow upper lower shift pages rs rs2 o p
row_now {upper = upper} {lower = lower} {shift = shift} {pages = pages} {rs = rs} {rs2 = rs2} merges o p =
    elim (one_case upper o (its_own_or (row_at rs upper p) (gets lower shift pages rs p)) (if lower == o then None else row_at rs o p) (row_at rs2 o p)
    (merges.at o p)) [
      | inl this ↦ of_upper this.0 (row_at rs o p) refl (this.1 ∙ ap (λ z. its_own_or (row_at rs z p) (gets lower shift pages rs p)) this.0)
      | inr apart ↦ elim (one_case lower o None (row_at rs o p) (row_at rs2 o p) apart.1) [
        | inl this ↦ IsGone apart.0 this.0 this.1
        | inr other ↦ IsSame apart.0 other.0 other.1
      ]
    ]
  where
    of_upper : upper ≡ o → (x : Option PageRow) → row_at rs o p ≡ x
        → row_at rs2 o p ≡ its_own_or (row_at rs o p) (gets lower shift pages rs p)
        → RowNow upper lower shift pages rs rs2 o p
    of_upper same (Some row) found is = IsOwn row same found (is ∙ ap (λ z. its_own_or z (gets lower shift pages rs p)) found)
    of_upper same None none is = inside (nat_lt p pages) refl
      where
        gotten : row_at rs2 o p ≡ gets lower shift pages rs p
        gotten = is ∙ ap (λ z. its_own_or z (gets lower shift pages rs p)) none

        inside : (b : Bool) → nat_lt p pages ≡ b → RowNow upper lower shift pages rs rs2 o p
        inside true test =
            IsMoved same none (grind (arith, nat_tests)) (gotten ∙ ap (λ b. if b then row_at rs lower (shift + p) else None) test)
        inside false test =
            IsBeyond same none (grind (arith, nat_tests)) (gotten ∙ ap (λ b. if b then row_at rs lower (shift + p) else None) test)

-- where a row was in front of it
pub data RowWas (upper lower shift pages : ℕ) (rs : ResidentTable) (o p : ℕ) (row : PageRow) : Type 0 where
  Stayed : (lower ≡ o → ⊥) → row_at rs o p ≡ Some row → RowWas upper lower shift pages rs o p row
  Rose : upper ≡ o → row_at rs o p ≡ None → p < pages → row_at rs lower (shift + p) ≡ Some row → RowWas upper lower shift pages rs o p row

pub row_was : {upper lower shift pages : ℕ} {rs rs2 : ResidentTable} → (upper ≡ lower → ⊥) → MergesRows upper lower shift pages rs rs2 → (o p : ℕ)
    (row : PageRow)
    → row_at rs2 o p ≡ Some row → RowWas upper lower shift pages rs o p row
row_was {upper = upper} {lower = lower} {shift = shift} {pages = pages} {rs = rs} {rs2 = rs2} apart merges o p row found = by (row_now merges o p)
  where
    by : RowNow upper lower shift pages rs rs2 o p → RowWas upper lower shift pages rs o p row
    by (IsOwn own same was is) = Stayed (λ low. apart (same ∙ sym low)) (was ∙ (sym is ∙ found))
    by (IsMoved same none less is) = Rose same none less (sym is ∙ found)
    by (IsBeyond same none le is) = absurd (let bad : None ≡ Some row = sym is ∙ found in cc)
    by (IsGone above same is) = absurd (let bad : None ≡ Some row = sym is ∙ found in cc)
    by (IsSame above below is) = Stayed below (sym is ∙ found)

-- something refers to each object that is in use still
pub referred_merged : {copies : CopyTable} (header : Header) (upper lower shift pages : ℕ) (cs cs2 : ChainTable) (os os2 : ObjectTable)
    (rs rs2 : ResidentTable)
    → MergesObjects upper lower cs cs2 copies os os2 → MergesRows upper lower shift pages rs rs2 → IsRanked cs → HasKinds header os cs → AllReferred cs os rs
    → AllReferred cs2 os2 rs2
referred_merged header upper lower shift pages cs cs2 os os2 rs rs2 merges moves ranked kinds all =
    record {
      live = λ x known found lives. elim (known_cases lower (record merges.can.lower_row { references = 0 }) os os2 merges.object x) [
        | inl this ↦
            let its : record merges.can.lower_row { references = 0 } ≡ known = some_is _ known (sym this.1 ∙ found) in
            absurd (quiet (ap (λ (z : ObjectRow). z.live) its ∙ lives))
        | inr other ↦ all.live x known (sym other.1 ∙ found) lives
      ];
      pages = λ o p row found. pages_now o p row (row_was apart moves o p row found);
      locks = λ o p row found. locks_now o p row (row_was apart moves o p row found);
      shadows = λ o row found. shadows_now o row found (stands_now merges.chain o);
    }
  where
    apart : upper ≡ lower → ⊥
    apart = merged_apart ranked merges.can

    quiet : merges.can.lower_row.live ≡ true → ⊥
    quiet lives =
        let kind = kinds.kinds lower merges.can.lower_row merges.can.lower_known in
        let bad : false ≡ true = sym (lower_quiet kinds merges.can) ∙ (sym kind.lives ∙ lives) in
        cc

    upper_kind : IsOfKind header upper merges.can.upper_row
    upper_kind = kinds.kinds upper merges.can.upper_row merges.can.upper_known

    undeclared : (upper < named header) ⊎ (named header ≤ upper) → named header ≤ upper
    undeclared (inl less) = absurd (let number = (upper_kind.declared less).number in let never = merges.can.upper_never in omega (arith, number, never))
    undeclared (inr least) = least

    keeps : (o : ℕ) → (lower ≡ o → ⊥) → IsReferred os o → IsReferred os2 o
    keeps o other referred =
        referred_still lower (record merges.can.lower_row { references = 0 }) os os2 merges.object o (λ same. absurd (other same)) referred

    known_elsewhere : (o : ℕ) → (lower ≡ o → ⊥) → object_at os2 o ≡ object_at os o
    known_elsewhere o other = elim (known_cases lower (record merges.can.lower_row { references = 0 }) os os2 merges.object o) [
      | inl this ↦ absurd (other this.0)
      | inr apart_from ↦ apart_from.1
    ]

    temporary : is_temporary_in (object_at os2 upper) ≡ true
    temporary =
        let least : named header ≤ upper = undeclared (kind_cases header upper) in
        ap is_temporary_in (known_elsewhere upper (λ e. apart (sym e)) ∙ merges.can.upper_known)
        ∙ ap is_temporary_kind ((upper_kind.temporary least).kind)

    upper_referred : (o : ℕ) → upper ≡ o → IsReferred os2 o
    upper_referred o same =
        subst (λ (z : ℕ). IsReferred os2 z) same (keeps upper (λ e. apart (sym e)) (all.shadows upper merges.can.link merges.can.over))

    pages_now : (o p : ℕ) (row : PageRow) → RowWas upper lower shift pages rs o p row → IsReferred os2 o
    pages_now o p row (Stayed other was) = keeps o other (all.pages o p row was)
    pages_now o p row (Rose same none less was) = upper_referred o same

    locks_now : (o p : ℕ) (row : PageRow) → RowWas upper lower shift pages rs o p row → MayLock os2 o row
    locks_now o p row (Stayed other was) =
        let known : object_at os2 o ≡ object_at os o = known_elsewhere o other in
        elim (all.locks o p row was) [ inl free ↦ inl (free.0, ap is_temporary_in known ∙ free.1) | inr lives ↦ inr (ap is_live_in known ∙ lives) ]
    locks_now o p row (Rose same none less was) = elim (all.locks lower (shift + p) row was) [
      | inl free ↦ inl (free.0, subst (λ (z : ℕ). is_temporary_in (object_at os2 z) ≡ true) same temporary)
      | inr lives ↦ absurd (quiet (sym (ap is_live_in merges.can.lower_known) ∙ lives))
    ]

    shadows_now : (o : ℕ) (row : ShadowRow) → shadow_at cs2 o ≡ Some row → StandsNow upper lower merges.can.link cs cs2 o → IsReferred os2 o
    shadows_now o row found (IsUpper same is) = upper_referred o same
    shadows_now o row found (IsLower above same is) = absurd (let bad : None ≡ Some row = sym is ∙ found in cc)
    shadows_now o row found (IsOther above below is) = keeps o below (all.shadows o row (sym is ∙ found))

-- a region that an access fills is as it was, over an object of its own
filled_merged : {copies : CopyTable} (upper lower : ℕ) (cs cs2 : ChainTable) (os os2 : ObjectTable) → MergesObjects upper lower cs cs2 copies os os2
    → KeepsFilled cs cs2
filled_merged upper lower cs cs2 os os2 merges r object pages region alone = (
  ap (λ f. f r) merges.chain.regions ∙ region,
  record {
    tops = λ q row found top. alone.tops q row (sym (ap (λ f. f q) merges.chain.regions) ∙ found) top;
    unders = λ o row found under. by o row found under (stands_now merges.chain o);
  },
)
  where
    by : (o : ℕ) (row : ShadowRow) → shadow_at cs2 o ≡ Some row → row.under.0 ≡ object.0 → StandsNow upper lower merges.can.link cs cs2 o → ⊥
    by o row found under (IsUpper same is) =
        let join = joined_some merges.can.link row (shadow_at cs lower) (sym is ∙ found) in
        alone.unders lower join.low join.below (sym (ap (λ (z : ShadowRow). z.under.0) join.is) ∙ under)
    by o row found under (IsLower above same is) = let bad : None ≡ Some row = sym is ∙ found in cc
    by o row found under (IsOther above below is) = alone.unders o row (sym is ∙ found) under

-- and no page of that object is new
unmade_merged : (upper lower shift pages : ℕ) (cs : ChainTable) (rs rs2 : ResidentTable) → (upper ≡ lower → ⊥) → MergesRows upper lower shift pages rs rs2
    → IsUnfilled cs upper → KeepsUnmade cs rs rs2
unmade_merged upper lower shift pages cs rs rs2 apart moves unfilled r object count p region alone none = by (row_at rs2 object.0 p) refl
  where
    was : (row : PageRow) → RowWas upper lower shift pages rs object.0 p row → ⊥
    was row (Stayed other found) = let bad : None ≡ Some row = sym none ∙ found in cc
    was row (Rose same away less found) = unfilled r object count region alone same

    by : (x : Option PageRow) → row_at rs2 object.0 p ≡ x → x ≡ None
    by None is = refl
    by (Some row) is = absurd (was row (row_was apart moves object.0 p row is))

-- no access fills a region over the upper object, where none has a shadow as its target
pub upper_unfilled : {header : Header} {maps : Mapped} {cs : ChainTable} {rs : ResidentTable} {rows : List Waiting} {next_at : ℕ → ℕ}
    {target_at : ℕ → Option Target} (upper : ℕ) (link : ShadowRow) → shadow_at cs upper ≡ Some link
    → ((t : ℕ) (w : Waiting) (target : Target) → entry rows t ≡ Some w → target_at t ≡ Some target → shadow_at cs target.object ≡ None)
    → AllUsed header maps cs rs rows next_at target_at → IsUnfilled cs upper
upper_unfilled {cs = cs} {rows = rows} {target_at = target_at} upper link over bare used r object pages region alone same =
    elim (used.regions r (filled_row object pages) region) [
      | inl some ↦ let bad : 0 < 0 = some in omega (arith, bad)
      | inr filled ↦ by filled.task (entry rows filled.task) refl (filled_there used.copies filled.task r filled.fills) filled.fills
    ]
  where
    by : (t : ℕ) (x : Option Waiting) → entry rows t ≡ x → Filled cs (target_at t) r → fills_in r (entry rows t) ≡ true → ⊥
    by t None none filled fills = let bad : false ≡ true = sym (ap (fills_in r) none) ∙ fills in cc
    by t (Some w) found filled fills =
        let row = some_is (filled_row object pages) (filled_row filled.object filled.pages) (sym region ∙ filled.region) in
        let top : object.0 ≡ filled.object.0 = ap (λ (z : RegionRow). z.top.0) row in
        let none = bare t w (record { region = r; object = filled.object.0 }) found filled.made in
        let bad : None ≡ Some link = sym none ∙ (ap (shadow_at cs) (sym (same ∙ top)) ∙ over) in
        cc

-- the slow copies that wait are as the history and the tables have them
pub copies_merged : {copies : CopyTable} {header : Header} {maps : Mapped} {rows : List Waiting} {next_at : ℕ → ℕ} {target_at : ℕ → Option Target}
    (upper lower shift pages : ℕ) (cs cs2 : ChainTable) (os os2 : ObjectTable) (rs rs2 : ResidentTable)
    → MergesObjects upper lower cs cs2 copies os os2 → MergesRows upper lower shift pages rs rs2 → IsRanked cs → IsUnfilled cs upper
    → HasCopies header maps cs rs rows next_at target_at → HasCopies header maps cs2 rs2 rows next_at target_at
copies_merged {maps = maps} upper lower shift pages cs cs2 os os2 rs rs2 merges moves ranked unfilled copies =
    copies_kept maps maps cs cs2 rs rs2 copies (λ t w found. record { size = refl; entries = refl }) (filled_merged upper lower cs cs2 os os2 merges)
    (unmade_merged upper lower shift pages cs rs rs2 (merged_apart ranked merges.can) moves unfilled)

-- and each region has an entry or is filled
pub used_merged : {copies : CopyTable} {header : Header} {maps : Mapped} {rows : List Waiting} {next_at : ℕ → ℕ} {target_at : ℕ → Option Target}
    (upper lower shift pages : ℕ) (cs cs2 : ChainTable) (os os2 : ObjectTable) (rs rs2 : ResidentTable)
    → MergesObjects upper lower cs cs2 copies os os2 → MergesRows upper lower shift pages rs rs2 → IsRanked cs → IsUnfilled cs upper
    → AllUsed header maps cs rs rows next_at target_at → AllUsed header maps cs2 rs2 rows next_at target_at
used_merged upper lower shift pages cs cs2 os os2 rs rs2 merges moves ranked unfilled used =
    record {
      regions = λ r row found. used.regions r row (sym (ap (λ f. f r) merges.chain.regions) ∙ found);
      copies = copies_merged upper lower shift pages cs cs2 os os2 rs rs2 merges moves ranked unfilled used.copies;
    }
