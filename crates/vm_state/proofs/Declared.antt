-- The kinds of objects, where objects, regions and shadows come, go and change.
use Rattle.std.proofs.Common.{Bool, None, Option, Some, ap, arith, false, inl, inr, refl, subst, sym, true, ℕ, ◌<◌, ◌≤◌, ◌∙◌, ◌≡◌}
use Rattle.std.proofs.lemmas.Bool.Decides.{nat_tests}
use Rattle.std.specs.Prelude.{◌==◌, ◌&&◌, if◌then◌else◌}
use Rattle.vm_abroad.proofs.Regions.{kind_cases}
use Rattle.vm_abroad.specs.Home.{AreHomes}
use Rattle.vm_base.specs.declared.ids.ObjectId.{ObjectId}
use Rattle.vm_base.specs.declared.ids.ObjectKind.TheVariants.{Temp}
use Rattle.vm_model.specs.declared.script.Header.{Header}
use Rattle.vm_model.specs.Named.{declared_pages, named}
use Rattle.vm_model.specs.Regions.{Backing, Region}
use Rattle.vm_model.specs.Waiting.{Target}
use Rattle.vm_objects.specs.Objects.{ObjectTable, PutsAbsent, PutsObject, SameMarks, SameObjects, absent_at, object_at}
use Rattle.vm_objects.specs.declared.row.ObjectRow.{ObjectRow}
use Rattle.vm_objects.specs.declared.row.PagerState.TheVariants.{Without}
use Rattle.vm_parts.proofs.Rows.{one_case, some_is}
use Rattle.vm_shadow.specs.Chains.{ChainTable, DropsShadow, PutsRegion, Rebases, ShadowsRegion, region_at, shadow_at}
use Rattle.vm_shadow.specs.declared.ids.Ids.{Ids}
use Rattle.vm_shadow.specs.declared.region_row.RegionRow.{RegionRow}
use Rattle.vm_shadow.specs.declared.shadow_row.ShadowRow.{ShadowRow}
use Rattle.vm_state.proofs.Knowing.{known_cases}
use Rattle.vm_state.specs.Stands.{HasKinds, HasRegions, IsOfKind, IsUnderKind}

-- one object is known otherwise
pub kinds_put : (header : Header) (o : ℕ) (new : ObjectRow) (os os2 : ObjectTable) (cs : ChainTable) → PutsObject o (Some new) os os2 → SameMarks os os2
    → IsOfKind header o new → HasKinds header os cs → HasKinds header os2 cs
kinds_put header o new os os2 cs put marks its has =
    record {
      kinds = λ x known found. elim (known_cases o new os os2 put x) [
        | inl this ↦ subst (λ (z : ℕ). IsOfKind header z known) this.0 (subst (λ (z : ObjectRow). IsOfKind header o z) (some_is new known (sym this.1 ∙ found))
            its)
        | inr other ↦ has.kinds x known (sym other.1 ∙ found)
      ];
      present = λ x p declared. marks.at x p ∙ has.present x p declared;
      tops = has.tops;
      unders = has.unders;
    }

-- all objects are known as they were, and so are the pages that are missing
pub kinds_same : (header : Header) (os os2 : ObjectTable) (cs : ChainTable) → SameObjects os os2 → SameMarks os os2 → HasKinds header os cs
    → HasKinds header os2 cs
kinds_same header os os2 cs same marks has =
    record {
      kinds = λ x known found. has.kinds x known (sym (same.at x) ∙ found);
      present = λ x p declared. marks.at x p ∙ has.present x p declared;
      tops = has.tops;
      unders = has.unders;
    }

-- a page is known to be missing, or not any more: of a declared object it isn't
pub kinds_marked : (header : Header) (o p : ℕ) (b : Bool) (os os2 : ObjectTable) (cs : ChainTable) → SameObjects os os2 → PutsAbsent o p b os os2
    → (o < named header → b ≡ false) → HasKinds header os cs → HasKinds header os2 cs
kinds_marked header o p b os os2 cs same put its has =
    record {
      kinds = λ x known found. has.kinds x known (sym (same.at x) ∙ found);
      present = λ x q declared. put.at x q ∙ by_test x q (o == x) refl declared;
      tops = has.tops;
      unders = has.unders;
    }
  where
    if_same : (c : Bool) (x y : Bool) → x ≡ false → y ≡ false → (if c then x else y) ≡ false
    if_same true x y first second = first
    if_same false x y first second = second

    by_test : (x q : ℕ) (c : Bool) → (o == x) ≡ c → x < named header → (if c && (p == q) then b else absent_at os x q) ≡ false
    by_test x q true same declared =
        let is : o ≡ x = grind (arith, nat_tests) in if_same (p == q) b (absent_at os x q) (its (omega (arith, is, declared))) (has.present x q declared)
    by_test x q false other declared = has.present x q declared

-- a region comes, or is otherwise: what isn't declared is over nothing that is
pub kinds_region : (header : Header) (r : ℕ) (row : RegionRow) (os : ObjectTable) (cs cs2 : ChainTable) → PutsRegion r (Some row) cs cs2
    → (named header ≤ r → named header ≤ row.top.0) → HasKinds header os cs → HasKinds header os cs2
kinds_region header r row os cs cs2 put its has =
    record {
      kinds = has.kinds;
      present = has.present;
      tops = λ q region temporary found. elim (one_case r q (Some row) (region_at cs q) (region_at cs2 q) (put.at q)) [
        | inl this ↦ subst (λ (z : RegionRow). named header ≤ z.top.0) (some_is row region (sym this.1 ∙ found))
            (its (let same = this.0 in omega (arith, same, temporary)))
        | inr other ↦ has.tops q region temporary (sym other.1 ∙ found)
      ];
      unders = λ o shadow found. has.unders o shadow (sym (ap (λ f. f o) put.shadows) ∙ found);
    }

-- a region goes
pub kinds_gone : (header : Header) (r : ℕ) (os : ObjectTable) (cs cs2 : ChainTable) → PutsRegion r None cs cs2 → HasKinds header os cs → HasKinds header os cs2
kinds_gone header r os cs cs2 put has =
    record {
      kinds = has.kinds;
      present = has.present;
      tops = λ q region temporary found. elim (one_case r q None (region_at cs q) (region_at cs2 q) (put.at q)) [
        | inl this ↦ absurd (let bad : None ≡ Some region = sym this.1 ∙ found in cc)
        | inr other ↦ has.tops q region temporary (sym other.1 ∙ found)
      ];
      unders = λ o shadow found. has.unders o shadow (sym (ap (λ f. f o) put.shadows) ∙ found);
    }

-- a shadow goes
pub kinds_dropped : (header : Header) (o : ℕ) (os : ObjectTable) (cs cs2 : ChainTable) → DropsShadow o cs cs2 → HasKinds header os cs → HasKinds header os cs2
kinds_dropped header o os cs cs2 drop has =
    record {
      kinds = has.kinds;
      present = has.present;
      tops = λ q region temporary found. has.tops q region temporary (sym (ap (λ f. f q) drop.regions) ∙ found);
      unders = λ x shadow found. elim (one_case o x None (shadow_at cs x) (shadow_at cs2 x) (drop.at x)) [
        | inl this ↦ absurd (let bad : None ≡ Some shadow = sym this.1 ∙ found in cc)
        | inr other ↦ has.unders x shadow (sym other.1 ∙ found)
      ];
    }

-- a temporary region gets a shadow
pub kinds_shadowed : (header : Header) (r : ℕ) (object : ObjectId) (row : RegionRow) (os : ObjectTable) (cs cs2 : ChainTable)
    → ShadowsRegion r object row cs cs2 → region_at cs r ≡ Some row → named header ≤ r → named header ≤ object.0
    → HasKinds header os cs → HasKinds header os cs2
kinds_shadowed header r object row os cs cs2 over there temporary new has =
    record {
      kinds = has.kinds;
      present = has.present;
      tops =
          λ q region least found. elim (one_case r q (Some (record row { top = object; shift = 0; marked = false })) (region_at cs q) (region_at cs2 q)
          (over.at q)) [
            | inl this ↦ subst (λ (z : RegionRow). named header ≤ z.top.0) (some_is _ region (sym this.1 ∙ found)) new
            | inr other ↦ has.tops q region least (sym other.1 ∙ found)
          ];
      unders = λ o shadow found.
          elim (one_case object.0 o (Some (record { under = row.top; shift = row.shift })) (shadow_at cs o) (shadow_at cs2 o) (over.under o)) [
            | inl this ↦ subst (λ (z : ShadowRow). IsUnderKind header z.under.0) (some_is _ shadow (sym this.1 ∙ found)) (inl (has.tops r row temporary there))
            | inr other ↦ has.unders o shadow (sym other.1 ∙ found)
          ];
    }

-- an object stands on another, which is temporary or a file's
pub kinds_rebased : (header : Header) (o : ℕ) (under : ObjectId) (os : ObjectTable) (cs cs2 : ChainTable) → Rebases o under cs cs2
    → IsUnderKind header under.0 → HasKinds header os cs → HasKinds header os cs2
kinds_rebased header o under os cs cs2 stands its has =
    record {
      kinds = has.kinds;
      present = has.present;
      tops = λ q region temporary found. has.tops q region temporary (sym (ap (λ f. f q) stands.regions) ∙ found);
      unders = λ x shadow found. elim (one_case o x (Some (record { under = under; shift = 0 })) (shadow_at cs x) (shadow_at cs2 x) (stands.at x)) [
        | inl this ↦ subst (λ (z : ShadowRow). IsUnderKind header z.under.0) (some_is _ shadow (sym this.1 ∙ found)) its
        | inr other ↦ has.unders x shadow (sym other.1 ∙ found)
      ];
    }

-- another number of references leaves an object that is referred to as it is
pub kind_referred : (header : Header) (o : ℕ) (known : ObjectRow) (n : ℕ) → 0 < known.references → IsOfKind header o known
    → IsOfKind header o (record known { references = n })
kind_referred header o known n some is =
    record {
      lives = is.lives;
      temporary = λ least. let its = is.temporary least in record { kind = its.kind; uncached = its.uncached; number = λ more. its.number some };
      declared =
          λ less. let its = is.declared less in record {
            kind = its.kind;
            pages = its.pages;
            told = λ tame more. its.told tame some;
            number = its.number;
          };
    }

-- a new object of temporary memory
pub kind_new : (header : Header) (o : ℕ) (row : ObjectRow) (pages : ℕ) → named header ≤ o
    → row ≡ record { kind = Temp; pages = pages; state = Without; control = 0; live = false; cache = false; references = 1 } → IsOfKind header o row
kind_new header o row pages least is =
    subst (IsOfKind header o) (sym is) (record {
      lives = refl;
      temporary = λ more. record { kind = refl; uncached = refl; number = λ some. refl };
      declared = λ less. absurd (omega (arith, less, least));
    })

-- a declared region is whole, over its own object, and has no copy mark
pub record IsWhole (header : Header) (r : ℕ) (row : RegionRow) : Type 0 where
  pub top : row.top.0 ≡ r
  pub shift : row.shift ≡ 0
  pub marked : row.marked ≡ false
  pub pages : row.pages ≡ declared_pages header r

pub whole_row : {header : Header} {chains : ChainTable} {objects : ObjectTable} {ids : Ids} {region_from : ℕ → Region}
    {backing_from : ℕ → Backing} {n m : ℕ} {home_from made_for : ℕ → Option ℕ} {used_at : ℕ → ℕ → Bool} {target_from : ℕ → Option Target}
    {newest_from : ℕ → Option ℕ} {copy_from : ℕ → Bool}
    {regions_made objects_made marked : ℕ}
    → HasRegions chains objects ids region_from backing_from regions_made objects_made marked
    → AreHomes header n m home_from made_for used_at region_from backing_from target_from newest_from copy_from
    → (r : ℕ) (row : RegionRow) → r < named header → region_at chains r ≡ Some row → IsWhole header r row
whole_row {header = header} has homes r row declared found =
    let is : record { mark = row.marked; top = row.top.0; shift = row.shift; pages = row.pages } ≡ record {
      mark = false;
      top = r;
      shift = 0;
      pages = declared_pages header r;
    } = sym (has.rows r row found) ∙ homes.whole r declared in
    record {
      top = ap (λ (z : Region). z.top) is;
      shift = ap (λ (z : Region). z.shift) is;
      marked = ap (λ (z : Region). z.mark) is;
      pages = ap (λ (z : Region). z.pages) is;
    }

-- a marked region is a temporary one
pub marked_temporary : {header : Header} {chains : ChainTable} {objects : ObjectTable} {ids : Ids} {region_from : ℕ → Region}
    {backing_from : ℕ → Backing} {n m : ℕ} {home_from made_for : ℕ → Option ℕ} {used_at : ℕ → ℕ → Bool} {target_from : ℕ → Option Target}
    {newest_from : ℕ → Option ℕ} {copy_from : ℕ → Bool}
    {regions_made objects_made marked : ℕ}
    → HasRegions chains objects ids region_from backing_from regions_made objects_made marked
    → AreHomes header n m home_from made_for used_at region_from backing_from target_from newest_from copy_from
    → (r : ℕ) (row : RegionRow) → region_at chains r ≡ Some row → row.marked ≡ true → named header ≤ r
marked_temporary {header = header} has homes r row found mark = elim (kind_cases header r) [
  | inl declared ↦ absurd (let whole = whole_row has homes r row declared found in let bad : false ≡ true = sym whole.marked ∙ mark in cc)
  | inr temporary ↦ temporary
]

-- a temporary object never stays without a reference
pub uncached_temporary : {header : Header} {chains : ChainTable} {objects : ObjectTable} → HasKinds header objects chains → (o : ℕ) (known : ObjectRow)
    → named header ≤ o → object_at objects o ≡ Some known → known.cache ≡ false
uncached_temporary kinds o known least found = ((kinds.kinds o known found).temporary least).uncached

-- a shadow is a temporary object, where nothing that is declared stands on anything
pub shadow_undeclared : (header : Header) {chains : ChainTable} {objects : ObjectTable} {ids : Ids} {region_from : ℕ → Region}
    {backing_from : ℕ → Backing} {regions_made objects_made marked : ℕ}
    → HasRegions chains objects ids region_from backing_from regions_made objects_made marked
    → ((o : ℕ) → o < named header → (backing_from o).backed ≡ false) → (o : ℕ) (row : ShadowRow) → shadow_at chains o ≡ Some row → named header ≤ o
shadow_undeclared header has bare o row found = elim (kind_cases header o) [
  | inl declared ↦ absurd (let bad : true ≡ false = sym (ap (λ (z : Backing). z.backed) (has.shadows o row found)) ∙ bare o declared in cc)
  | inr temporary ↦ temporary
]

pub shadow_temporary : {header : Header} {chains : ChainTable} {objects : ObjectTable} {ids : Ids} {region_from : ℕ → Region}
    {backing_from : ℕ → Backing} {n m : ℕ} {home_from made_for : ℕ → Option ℕ} {used_at : ℕ → ℕ → Bool} {target_from : ℕ → Option Target}
    {newest_from : ℕ → Option ℕ} {copy_from : ℕ → Bool}
    {regions_made objects_made marked : ℕ}
    → HasRegions chains objects ids region_from backing_from regions_made objects_made marked
    → AreHomes header n m home_from made_for used_at region_from backing_from target_from newest_from copy_from
    → (o : ℕ) (row : ShadowRow) → shadow_at chains o ≡ Some row → named header ≤ o
shadow_temporary {header = header} has homes o row found = shadow_undeclared header has homes.bare o row found

-- a declared object is at the bottom of each chain
pub declared_bottom : {header : Header} {chains : ChainTable} {objects : ObjectTable} {ids : Ids} {region_from : ℕ → Region}
    {backing_from : ℕ → Backing} {n m : ℕ} {home_from made_for : ℕ → Option ℕ} {used_at : ℕ → ℕ → Bool} {target_from : ℕ → Option Target}
    {newest_from : ℕ → Option ℕ} {copy_from : ℕ → Bool}
    {regions_made objects_made marked : ℕ}
    → HasRegions chains objects ids region_from backing_from regions_made objects_made marked
    → AreHomes header n m home_from made_for used_at region_from backing_from target_from newest_from copy_from
    → (o : ℕ) → o < named header → shadow_at chains o ≡ None
declared_bottom {chains = chains} has homes o declared = by (shadow_at chains o) refl
  where
    by : (x : Option ShadowRow) → shadow_at chains o ≡ x → x ≡ None
    by None is = refl
    by (Some row) is = absurd (let least = shadow_temporary has homes o row is in omega (arith, least, declared))

-- a region over a declared object is that object's own
pub over_declared : {header : Header} {chains : ChainTable} {objects : ObjectTable} {ids : Ids} {region_from : ℕ → Region}
    {backing_from : ℕ → Backing} {n m : ℕ} {home_from made_for : ℕ → Option ℕ} {used_at : ℕ → ℕ → Bool} {target_from : ℕ → Option Target}
    {newest_from : ℕ → Option ℕ} {copy_from : ℕ → Bool}
    {regions_made objects_made marked : ℕ}
    → HasRegions chains objects ids region_from backing_from regions_made objects_made marked → HasKinds header objects chains
    → AreHomes header n m home_from made_for used_at region_from backing_from target_from newest_from copy_from → (r : ℕ) (row : RegionRow)
    → region_at chains r ≡ Some row → row.top.0 < named header
    → r ≡ row.top.0
over_declared {header = header} has kinds homes r row found declared = elim (kind_cases header r) [
  | inl less ↦ sym (whole_row has homes r row less found).top
  | inr least ↦ absurd (let top = kinds.tops r row least found in omega (arith, top, declared))
]
