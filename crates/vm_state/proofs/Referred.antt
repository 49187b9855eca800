-- Something refers to each object that is in use, still, where regions, shadows, objects and pages change; and while one object ends, to each other.
use Rattle.std.proofs.Common.{◌≡◌, ℕ, ◌<◌, true, false, refl, ap, sym, ◌∙◌, subst, Some, None, Option, inl, inr}
use Rattle.std.proofs.lemmas.Bool.Decides.{eqb_tells}
use Rattle.std.specs.Prelude.{◌⊎◌}
use Rattle.vm_base.specs.declared.ids.ObjectId.{ObjectId}
use Rattle.vm_objects.specs.Objects.{ObjectTable, PutsObject, object_at}
use Rattle.vm_objects.specs.declared.row.ObjectRow.{ObjectRow}
use Rattle.vm_parts.proofs.Rows.{one_case, row_cases, some_is}
use Rattle.vm_resident.specs.Resident.{PutsRow, ResidentTable, row_at}
use Rattle.vm_resident.specs.declared.page_row.PageRow.{PageRow}
use Rattle.vm_shadow.specs.Chains.{ChainTable, CopiesRegion, DropsShadow, PutsRegion, ShadowsRegion, shadow_at}
use Rattle.vm_shadow.specs.declared.region_row.RegionRow.{RegionRow}
use Rattle.vm_shadow.specs.declared.shadow_row.ShadowRow.{ShadowRow}
use Rattle.vm_state.proofs.Changing.{SameButEntries}
use Rattle.vm_state.proofs.Knowing.{known_cases, known_put, referred_still}
use Rattle.vm_state.specs.References.{AllReferred, AllReferredBut, MayLock, is_live_in, is_temporary_in, is_temporary_kind}
use Rattle.vm_terminate.specs.Finishes.{IsReferred}

pub all_but : (o : ℕ) (cs : ChainTable) (os : ObjectTable) (rs : ResidentTable) → AllReferred cs os rs → AllReferredBut o cs os rs
all_but o cs os rs all =
    record {
      live = λ x known apart found live. all.live x known found live;
      pages = λ x p row apart found. all.pages x p row found;
      locks = all.locks;
      shadows = λ x row apart found. all.shadows x row found;
    }

-- an object that is not in use any more need not be referred to
pub all_ended : (o : ℕ) (cs : ChainTable) (os : ObjectTable) (rs : ResidentTable) → AllReferredBut o cs os rs
    → ((known : ObjectRow) → object_at os o ≡ Some known → known.live ≡ false) → ((p : ℕ) → row_at rs o p ≡ None)
    → shadow_at cs o ≡ None → AllReferred cs os rs
all_ended o cs os rs but quiet bare bottom =
    record {
      live = λ x known found live. elim (eqb_tells o x) [
        | inl same ↦ absurd (let bad : true ≡ false = sym live ∙ quiet known (ap (object_at os) same.1 ∙ found) in cc)
        | inr apart ↦ but.live x known apart.1 found live
      ];
      pages = λ x p row found. elim (eqb_tells o x) [
        | inl same ↦ absurd (let bad : None ≡ Some row = sym (subst (λ (z : ℕ). row_at rs z p ≡ None) same.1 (bare p)) ∙ found in cc)
        | inr apart ↦ but.pages x p row apart.1 found
      ];
      locks = but.locks;
      shadows = λ x row found. elim (eqb_tells o x) [
        | inl same ↦ absurd (let bad : None ≡ Some row = sym bottom ∙ (ap (shadow_at cs) same.1 ∙ found) in cc)
        | inr apart ↦ but.shadows x row apart.1 found
      ];
    }

-- the one is referred to as well
pub all_with : (o : ℕ) (cs : ChainTable) (os : ObjectTable) (rs : ResidentTable) → AllReferredBut o cs os rs → IsReferred os o → AllReferred cs os rs
all_with o cs os rs but is =
    record {
      live = λ x known found live. elim (eqb_tells o x) [
        | inl same ↦ subst (λ (z : ObjectRow). 0 < z.references) (some_is is.row known (sym is.known ∙ (ap (object_at os) same.1 ∙ found))) is.some
        | inr apart ↦ but.live x known apart.1 found live
      ];
      pages = λ x p row found. elim (eqb_tells o x) [
        | inl same ↦ subst (λ (z : ℕ). IsReferred os z) same.1 is
        | inr apart ↦ but.pages x p row apart.1 found
      ];
      locks = but.locks;
      shadows = λ x row found. elim (eqb_tells o x) [
        | inl same ↦ subst (λ (z : ℕ). IsReferred os z) same.1 is
        | inr apart ↦ but.shadows x row apart.1 found
      ];
    }

-- what is a shadow now was so before, or is referred to
pub referred_chains : (cs cs2 : ChainTable) (os : ObjectTable) (rs : ResidentTable)
    → ((x : ℕ) (row : ShadowRow) → shadow_at cs2 x ≡ Some row → (shadow_at cs x ≡ Some row) ⊎ IsReferred os x) → AllReferred cs os rs → AllReferred cs2 os rs
referred_chains cs cs2 os rs before all =
    record {
      live = all.live;
      pages = all.pages;
      locks = all.locks;
      shadows = λ x row found. elim (before x row found) [ inl was ↦ all.shadows x row was | inr is ↦ is ];
    }

-- an object that is known otherwise has a control where one lived, and is temporary memory still
pub record StaysServed (os : ObjectTable) (o : ℕ) (new : ObjectRow) : Type 0 where
  pub live : is_live_in (object_at os o) ≡ true → new.live ≡ true
  pub kind : is_temporary_in (object_at os o) ≡ true → is_temporary_kind new.kind ≡ true

pub stays_served : {os : ObjectTable} {o : ℕ} {row new : ObjectRow} → object_at os o ≡ Some row → new.live ≡ row.live → new.kind ≡ row.kind
    → StaysServed os o new
stays_served found live kind =
    record {
      live = λ lives. live ∙ (sym (ap is_live_in found) ∙ lives);
      kind = λ temporary. ap is_temporary_kind kind ∙ (sym (ap is_temporary_in found) ∙ temporary);
    }

-- so does one that was not known
pub comes_served : {os : ObjectTable} {o : ℕ} {new : ObjectRow} → object_at os o ≡ None → StaysServed os o new
comes_served none =
    record {
      live = λ lives. absurd (let bad : false ≡ true = sym (ap is_live_in none) ∙ lives in cc);
      kind = λ temporary. absurd (let bad : false ≡ true = sym (ap is_temporary_in none) ∙ temporary in cc);
    }

-- one object is known otherwise: its pages may be locked still
pub locks_known : (o : ℕ) (new : ObjectRow) (os os2 : ObjectTable) (rs : ResidentTable) → PutsObject o (Some new) os os2
    → ((p : ℕ) (row : PageRow) → row_at rs o p ≡ Some row → StaysServed os o new)
    → ((x p : ℕ) (row : PageRow) → row_at rs x p ≡ Some row → MayLock os x row) → (x p : ℕ) (row : PageRow) → row_at rs x p ≡ Some row → MayLock os2 x row
locks_known o new os os2 rs put stays locks x p row found = elim (known_cases o new os os2 put x) [
  | inl this ↦ this_one this.0 this.1 (locks x p row found)
  | inr other ↦ elim (locks x p row found) [ inl free ↦ inl (free.0, ap is_temporary_in other.1 ∙ free.1) | inr lives ↦ inr (ap is_live_in other.1 ∙ lives) ]
]
  where
    serves : o ≡ x → StaysServed os o new
    serves same = stays p row (subst (λ (z : ℕ). row_at rs z p ≡ Some row) (sym same) found)

    this_one : o ≡ x → object_at os2 x ≡ Some new → MayLock os x row → MayLock os2 x row
    this_one same now (inl free) =
        inl (free.0, ap is_temporary_in now ∙ (serves same).kind (subst (λ (z : ℕ). is_temporary_in (object_at os z) ≡ true) (sym same) free.1))
    this_one same now (inr lives) =
        inr (ap is_live_in now ∙ (serves same).live (subst (λ (z : ℕ). is_live_in (object_at os z) ≡ true) (sym same) lives))

-- one object is known otherwise, and has references still where it had some, and a control where one lived
pub referred_known : (o : ℕ) (new : ObjectRow) (cs : ChainTable) (os os2 : ObjectTable) (rs : ResidentTable) → PutsObject o (Some new) os os2
    → (IsReferred os o → 0 < new.references) → (new.live ≡ true → 0 < new.references) → StaysServed os o new → AllReferred cs os rs → AllReferred cs os2 rs
referred_known o new cs os os2 rs put still lives stays all =
    record {
      live = λ x known found live. elim (known_cases o new os os2 put x) [
        | inl this ↦
            let its : new ≡ known = some_is new known (sym this.1 ∙ found) in
            subst (λ (z : ObjectRow). 0 < z.references) its (lives (ap (λ z. z.live) its ∙ live))
        | inr other ↦ all.live x known (sym other.1 ∙ found) live
      ];
      pages = λ x p row found. keeps x (all.pages x p row found);
      locks = locks_known o new os os2 rs put (λ p row found. stays) all.locks;
      shadows = λ x row found. keeps x (all.shadows x row found);
    }
  where
    keeps : (x : ℕ) → IsReferred os x → IsReferred os2 x
    keeps x is = referred_still o new os os2 put x (λ e. still (subst (λ (z : ℕ). IsReferred os z) (sym e) is)) is

-- one page has another row, or none
locks_put : (o p : ℕ) (x : Option PageRow) (os : ObjectTable) (rs rs2 : ResidentTable) → PutsRow o p x rs rs2
    → ((row : PageRow) → x ≡ Some row → MayLock os o row) → ((o2 p2 : ℕ) (row : PageRow) → row_at rs o2 p2 ≡ Some row → MayLock os o2 row)
    → (o2 p2 : ℕ) (row : PageRow) → row_at rs2 o2 p2 ≡ Some row → MayLock os o2 row
locks_put o p x os rs rs2 put may locks o2 p2 row found = elim (row_cases o p x rs rs2 put o2 p2) [
  | inl this ↦ subst (λ (z : ℕ). MayLock os z row) this.object (may row (sym this.is ∙ found))
  | inr other ↦ locks o2 p2 row (sym other.is ∙ found)
]

-- a page comes, goes or changes: its object is referred to, and lives where the page is locked, or the page goes
pub referred_row : (o p : ℕ) (x : Option PageRow) (cs : ChainTable) (os : ObjectTable) (rs rs2 : ResidentTable) → PutsRow o p x rs rs2
    → ((row : PageRow) → x ≡ Some row → IsReferred os o × MayLock os o row) → AllReferred cs os rs → AllReferred cs os rs2
referred_row o p x cs os rs rs2 put is all =
    record {
      live = all.live;
      pages = λ o2 p2 row found. elim (row_cases o p x rs rs2 put o2 p2) [
        | inl this ↦ subst (λ (z : ℕ). IsReferred os z) this.object (is row (sym this.is ∙ found)).0
        | inr other ↦ all.pages o2 p2 row (sym other.is ∙ found)
      ];
      locks = locks_put o p x os rs rs2 put (λ row same. (is row same).1) all.locks;
      shadows = all.shadows;
    }

-- the same, while one object ends
pub but_row : (one o p : ℕ) (x : Option PageRow) (cs : ChainTable) (os : ObjectTable) (rs rs2 : ResidentTable) → PutsRow o p x rs rs2
    → ((row : PageRow) → (one ≡ o → ⊥) → x ≡ Some row → IsReferred os o) → ((row : PageRow) → x ≡ Some row → MayLock os o row) → AllReferredBut one cs os rs
    → AllReferredBut one cs os rs2
but_row one o p x cs os rs rs2 put is may but =
    record {
      live = but.live;
      pages = λ o2 p2 row apart found. elim (row_cases o p x rs rs2 put o2 p2) [
        | inl this ↦ subst (λ (z : ℕ). IsReferred os z) this.object (is row (λ e. apart (e ∙ this.object)) (sym this.is ∙ found))
        | inr other ↦ but.pages o2 p2 row apart (sym other.is ∙ found)
      ];
      locks = locks_put o p x os rs rs2 put may but.locks;
      shadows = but.shadows;
    }

-- a page goes
pub referred_gone : (o p : ℕ) (cs : ChainTable) (os : ObjectTable) (rs rs2 : ResidentTable) → PutsRow o p None rs rs2 → AllReferred cs os rs
    → AllReferred cs os rs2
referred_gone o p cs os rs rs2 put all = referred_row o p None cs os rs rs2 put (λ row is. absurd (let bad : None ≡ Some row = is in cc)) all

pub but_gone : (one o p : ℕ) (cs : ChainTable) (os : ObjectTable) (rs rs2 : ResidentTable) → PutsRow o p None rs rs2 → AllReferredBut one cs os rs
    → AllReferredBut one cs os rs2
but_gone one o p cs os rs rs2 put but =
    but_row one o p None cs os rs rs2 put (λ row apart is. absurd (let bad : None ≡ Some row = is in cc))
    (λ row is. absurd (let bad : None ≡ Some row = is in cc)) but

-- the one that ends is known otherwise
pub but_known : (o : ℕ) (new : ObjectRow) (cs : ChainTable) (os os2 : ObjectTable) (rs : ResidentTable) → PutsObject o (Some new) os os2
    → ((p : ℕ) (row : PageRow) → row_at rs o p ≡ Some row → StaysServed os o new) → AllReferredBut o cs os rs → AllReferredBut o cs os2 rs
but_known o new cs os os2 rs put stays but =
    record {
      live = λ x known apart found live. elim (known_cases o new os os2 put x) [
        | inl this ↦ absurd (apart this.0)
        | inr other ↦ but.live x known apart (sym other.1 ∙ found) live
      ];
      pages = λ x p row apart found. referred_still o new os os2 put x (λ e. absurd (apart e)) (but.pages x p row apart found);
      locks = locks_known o new os os2 rs put stays but.locks;
      shadows = λ x row apart found. referred_still o new os os2 put x (λ e. absurd (apart e)) (but.shadows x row apart found);
    }

-- regions count other entries
pub referred_recounted : (old new : ChainTable) (os : ObjectTable) (rs : ResidentTable) → SameButEntries old new → AllReferred old os rs → AllReferred new os rs
referred_recounted old new os rs same all = referred_chains old new os rs (λ x row found. inl (sym (same.recounts.shadows x) ∙ found)) all

-- an object has another control
pub referred_controlled : (o : ℕ) (row row2 : ObjectRow) (cs : ChainTable) (os os2 : ObjectTable) (rs : ResidentTable) → object_at os o ≡ Some row
    → PutsObject o (Some row2) os os2 → row2.references ≡ row.references
    → (row2.live ≡ true → 0 < row2.references) → (row.live ≡ true → row2.live ≡ true) → row2.kind ≡ row.kind → AllReferred cs os rs → AllReferred cs os2 rs
referred_controlled o row row2 cs os os2 rs found put same lives stays kind all =
    referred_known o row2 cs os os2 rs put (λ is. subst (λ (z : ℕ). 0 < z) (ap (λ z. z.references) (some_is is.row row (sym is.known ∙ found)) ∙ sym same)
    is.some) lives (record {
      live = λ live. stays (sym (ap is_live_in found) ∙ live);
      kind = λ temporary. ap is_temporary_kind kind ∙ (sym (ap is_temporary_in found) ∙ temporary);
    }) all

-- a region is made over a new object, or is over one that has references
pub referred_put : (o : ℕ) (new : ObjectRow) (r : ℕ) (row : Option RegionRow) (cs cs2 : ChainTable) (os os2 : ObjectTable) (rs : ResidentTable)
    → PutsRegion r row cs cs2 → PutsObject o (Some new) os os2 → 0 < new.references
    → StaysServed os o new → AllReferred cs os rs → AllReferred cs2 os2 rs
referred_put o new r row cs cs2 os os2 rs put putting some stays all =
    referred_chains cs cs2 os2 rs (λ x shadow found. inl (sym (ap (λ f. f x) put.shadows) ∙ found))
    (referred_known o new cs os os2 rs putting (λ is. some) (λ live. some) stays all)

-- a region is copied, and its top has more references
pub referred_copied : (o : ℕ) (new : ObjectRow) (source copy offset pages : ℕ) (row : RegionRow) (cs cs2 : ChainTable) (os os2 : ObjectTable)
    (rs : ResidentTable) → CopiesRegion source copy offset pages row cs cs2
    → PutsObject o (Some new) os os2 → 0 < new.references → StaysServed os o new → AllReferred cs os rs → AllReferred cs2 os2 rs
referred_copied o new source copy offset pages row cs cs2 os os2 rs copies putting some stays all =
    referred_chains cs cs2 os2 rs (λ x shadow found. inl (sym (ap (λ f. f x) copies.shadows) ∙ found))
    (referred_known o new cs os os2 rs putting (λ is. some) (λ live. some) stays all)

-- a region gets an object of its own
pub referred_shadowed : (region : ℕ) (object : ObjectId) (row : RegionRow) (new : ObjectRow) (cs cs2 : ChainTable) (os os2 : ObjectTable) (rs : ResidentTable)
    → ShadowsRegion region object row cs cs2
    → PutsObject object.0 (Some new) os os2 → 0 < new.references → StaysServed os object.0 new → AllReferred cs os rs → AllReferred cs2 os2 rs
referred_shadowed region object row new cs cs2 os os2 rs shadows putting some stays all =
    referred_chains cs cs2 os2 rs before (referred_known object.0 new cs os os2 rs putting (λ is. some) (λ live. some) stays all)
  where
    before : (x : ℕ) (shadow : ShadowRow) → shadow_at cs2 x ≡ Some shadow → (shadow_at cs x ≡ Some shadow) ⊎ IsReferred os2 x
    before x shadow found =
        elim (one_case object.0 x (Some (record { under = row.top; shift = row.shift })) (shadow_at cs x) (shadow_at cs2 x) (shadows.under x)) [
          | inl this ↦ inr (subst (λ (z : ℕ). IsReferred os2 z) this.0 (record { row = new; known = known_put object.0 new os os2 putting; some = some }))
          | inr other ↦ inl (sym other.1 ∙ found)
        ]

-- a region goes, and its top may end
pub but_ended : (r : ℕ) (x : Option RegionRow) (o : ℕ) (new : ObjectRow) (cs cs2 : ChainTable) (os os2 : ObjectTable) (rs : ResidentTable)
    → PutsRegion r x cs cs2 → PutsObject o (Some new) os os2
    → StaysServed os o new → AllReferred cs os rs → AllReferredBut o cs2 os2 rs
but_ended r x o new cs cs2 os os2 rs put putting stays all =
    but_known o new cs2 os os2 rs putting (λ p row found. stays) (all_but o cs2 os rs
    (referred_chains cs cs2 os rs (λ y shadow found. inl (sym (ap (λ f. f y) put.shadows) ∙ found)) all))

-- what stood under an object that ends goes, and may end then
pub but_dropped : (o under : ℕ) (new : ObjectRow) (cs cs2 : ChainTable) (os os2 : ObjectTable) (rs : ResidentTable) → DropsShadow o cs cs2
    → PutsObject under (Some new) os os2 → StaysServed os under new → ((known : ObjectRow) → object_at os o ≡ Some known → known.live ≡ false)
    → ((p : ℕ) → row_at rs o p ≡ None) → AllReferredBut o cs os rs → AllReferredBut under cs2 os2 rs
but_dropped o under new cs cs2 os os2 rs drop putting stays quiet bare but =
    but_known under new cs2 os os2 rs putting (λ p row found. stays) (all_but under cs2 os rs (all_ended o cs2 os rs dropped quiet bare gone))
  where
    gone : shadow_at cs2 o ≡ None
    gone = elim (one_case o o None (shadow_at cs o) (shadow_at cs2 o) (drop.at o)) [ inl this ↦ this.1 | inr other ↦ absurd (other.0 refl) ]

    dropped : AllReferredBut o cs2 os rs
    dropped = record {
      live = but.live;
      pages = but.pages;
      locks = but.locks;
      shadows = λ x row apart found. elim (one_case o x None (shadow_at cs x) (shadow_at cs2 x) (drop.at x)) [
        | inl this ↦ absurd (apart this.0)
        | inr other ↦ but.shadows x row apart (sym other.1 ∙ found)
      ];
    }

-- the same, where something else refers to that still
pub referred_dropped : (o under : ℕ) (new : ObjectRow) (cs cs2 : ChainTable) (os os2 : ObjectTable) (rs : ResidentTable) → DropsShadow o cs cs2
    → PutsObject under (Some new) os os2 → 0 < new.references → StaysServed os under new
    → ((known : ObjectRow) → object_at os o ≡ Some known → known.live ≡ false) → ((p : ℕ) → row_at rs o p ≡ None) → AllReferredBut o cs os rs
    → AllReferred cs2 os2 rs
referred_dropped o under new cs cs2 os os2 rs drop putting some stays quiet bare but =
    all_with under cs2 os2 rs (but_dropped o under new cs cs2 os os2 rs drop putting stays quiet bare but)
    (record { row = new; known = known_put under new os os2 putting; some = some })
