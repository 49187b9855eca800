-- How the regions and objects of a host go on, where a region gets an object of its own over its old top.
use Rattle.std.proofs.Common.{◌≡◌, ℕ, ◌+◌, ◌<◌, ◌≤◌, ◌==◌, true, false, ap, sym, ◌∙◌, arith, Some, None, List, ◌∷◌, inl, inr}
use Rattle.std.specs.Prelude.{◌⊎◌, is_some}
use Rattle.vm_base.specs.declared.ids.ObjectId.{ObjectId}
use Rattle.vm_base.specs.declared.ids.ObjectKind.TheVariants.{Temp}
use Rattle.vm_base.specs.declared.ids.RegionId.{RegionId}
use Rattle.vm_base.specs.Limits.{most_objects}
use Rattle.vm_fault.specs.Walks.{ChainsFit}
use Rattle.vm_model.specs.Regions.{backing_of, over, region_of, shadowed}
use Rattle.vm_model.specs.declared.event.Event.{Event}
use Rattle.vm_model.specs.declared.event.Event.TheVariants as event
use Rattle.vm_model.specs.declared.script.Header.{Header}
use Rattle.vm_objects.specs.Objects.{ObjectTable, PutsObject, object_at}
use Rattle.vm_objects.specs.declared.row.ObjectRow.{ObjectRow}
use Rattle.vm_objects.specs.declared.row.PagerState.TheVariants.{Without}
use Rattle.vm_parts.proofs.Rows.{one_case, some_is}
use Rattle.vm_parts.specs.Changes.{one}
use Rattle.vm_shadow.proofs.Ranks.{ranked_over}
use Rattle.vm_shadow.specs.Chains.{ChainTable, ShadowsRegion, region_at, shadow_at}
use Rattle.vm_shadow.specs.declared.ids.Ids.{Ids}
use Rattle.vm_shadow.specs.declared.region_row.RegionRow.{RegionRow}
use Rattle.vm_state.proofs.Referring.{below_all, objects_below, small_under}
use Rattle.vm_state.proofs.Fresh.{other_test, same_test, seen, unreferenced}
use Rattle.vm_state.proofs.Going.{one_other, one_own}
use Rattle.vm_state.proofs.Knowing.{counts_still, known_put, known_still, referred_other, unknown_still}
use Rattle.vm_state.proofs.Counting.{references_shadowed}
use Rattle.vm_state.specs.References.{references_to}
use Rattle.vm_state.specs.Stands.{HasRegions}

-- a region gets an object of its own: the old top loses the region and gains the shadow
pub regions_shadowed : (header : Header) (past : List Event) (region : RegionId) (object : ObjectId) (row : RegionRow) (new : ObjectRow) (cs cs2 : ChainTable)
    (os os2 : ObjectTable) (ids ids2 : Ids) (rm om marked marked2 : ℕ)
    → ShadowsRegion region.0 object row cs cs2 → region_at cs region.0 ≡ Some row → object.0 ≡ om
    → new ≡ record { kind = Temp; pages = row.pages; state = Without; control = 0; live = false; cache = false; references = 1 }
    → PutsObject object.0 (Some new) os os2 → ChainsFit cs2 os2
    → ids2.next_region ≡ ids.next_region → ids2.next_object ≡ ids.next_object + 1 → ids2.marks ≡ marked2 → om + 1 + marked2 ≤ most_objects
    → HasRegions cs os ids (λ q. region_of header q past) (λ q. backing_of header q past) rm om marked
    → HasRegions cs2 os2 ids2 (λ q. region_of header q (event.Shadowed region object row.top ∷ past))
    (λ q. backing_of header q (event.Shadowed region object row.top ∷ past)) rm (om + 1) marked2
regions_shadowed header past region object row new cs cs2 os os2 ids ids2 rm om marked marked2 shadowing there next is_new putting fits same2 next2 marks2 few2
    has =
    record {
      region = same2 ∙ has.region;
      object = next2 ∙ ap (λ z. z + 1) has.object;
      marks = marks2;
      few = few2;
      rows = λ q other is. elim (region_cases q) [
        | inl this ↦
            let test : (q == region.0) ≡ true = same_test q region.0 (sym this.0) in
            let its : other ≡ record row { top = object; shift = 0; marked = false } = some_is other (record row { top = object; shift = 0; marked = false })
            (sym is ∙ this.1) in
            let was = has.rows q row (ap (region_at cs) (sym this.0) ∙ there) in
            ap (λ b. shadowed b object.0 (region_of header q past)) test
            ∙ (ap (λ z. record { mark = false; top = object.0; shift = 0; pages = z.pages }) was ∙ sym (ap seen its))
        | inr apart ↦
            let test : (q == region.0) ≡ false = other_test q region.0 (λ e. apart.0 (sym e)) in
            ap (λ b. shadowed b object.0 (region_of header q past)) test ∙ has.rows q other (sym apart.1 ∙ is)
      ];
      shadows = λ q shadow is. elim (shadow_cases q) [
        | inl this ↦
            let test : (q == object.0) ≡ true = same_test q object.0 (sym this.0) in
            let its : shadow ≡ record { under = row.top; shift = row.shift } = some_is shadow (record { under = row.top; shift = row.shift })
            (sym is ∙ this.1) in
            let was = has.rows region.0 row there in
            ap (λ b. over b (region_of header region.0 past) (backing_of header q past)) test
            ∙ (ap (λ z. record { backed = true; under = z.top; shift = z.shift }) was
            ∙ sym (ap (λ z. record { backed = true; under = z.under.0; shift = z.shift }) its))
        | inr apart ↦
            let test : (q == object.0) ≡ false = other_test q object.0 (λ e. apart.0 (sym e)) in
            ap (λ b. over b (region_of header region.0 past) (backing_of header q past)) test ∙ has.shadows q shadow (sym apart.1 ∙ is)
      ];
      bottoms = λ q referred bare. elim (shadow_cases q) [
        | inl this ↦ absurd (let bad : None ≡ Some (record { under = row.top; shift = row.shift }) = sym bare ∙ this.1 in cc)
        | inr apart ↦
            let test : (q == object.0) ≡ false = other_test q object.0 (λ e. apart.0 (sym e)) in
            ap (λ b. (over b (region_of header region.0 past) (backing_of header q past)).backed) test
            ∙ has.bottoms q (referred_other object.0 new os os2 putting q apart.0 referred) (sym apart.1 ∙ bare)
      ];
      unmade = λ q le. elim (region_cases q) [
        | inl this ↦ absurd (let a = this.0 in omega (arith, a, below, le))
        | inr apart ↦ apart.1 ∙ has.unmade q le
      ];
      unknown = λ q le. unknown_still object.0 new os os2 putting q (λ e. omega (arith, e, next, le)) (has.unknown q (omega (arith, le)));
      tops = λ q other is. elim (region_cases q) [
        | inl this ↦
            let its : other.top ≡ object = ap (λ z. z.top) (some_is other (record row { top = object; shift = 0; marked = false }) (sym is ∙ this.1)) in
            ap (λ z. is_some (object_at os2 z.0)) its ∙ known_now
        | inr apart ↦ known_still object.0 new os os2 putting other.top.0 (has.tops q other (sym apart.1 ∙ is))
      ];
      unders = λ q shadow is. elim (shadow_cases q) [
        | inl this ↦
            let its : shadow.under ≡ row.top = ap (λ z. z.under) (some_is shadow (record { under = row.top; shift = row.shift }) (sym is ∙ this.1)) in (
              ap (λ z. is_some (object_at os2 z)) (sym this.0) ∙ known_now,
              ap (λ z. is_some (object_at os2 z.0)) its
                  ∙ known_still object.0 new os os2 putting row.top.0 (has.tops region.0 row there),
            )
        | inr apart ↦ let both =
            has.unders q shadow (sym apart.1 ∙ is) in (
              known_still object.0 new os os2 putting q both.0,
              known_still object.0 new os os2 putting shadow.under.0 both.1,
            )
      ];
      ranked =
          let low : row.top.0 < om = small_top in
          ranked_over cs cs2 object.0 (record { under = row.top; shift = row.shift }) shadowing.under (λ e. omega (arith, low, e, next))
          (λ q shadow is e. let small = small_under has q shadow is in omega (arith, small, e, next)) has.ranked;
      fits = fits;
      counts = counts_still object.0 new os os2 (references_to cs rm om) (references_to cs2 rm (om + 1)) putting its_own others has.counts;
    }
  where
    region_cases : (q : ℕ) → ((region.0 ≡ q) × (region_at cs2 q ≡ Some (record row { top = object; shift = 0; marked = false })))
        ⊎ ((region.0 ≡ q → ⊥) × (region_at cs2 q ≡ region_at cs q))
    region_cases q = one_case region.0 q (Some (record row { top = object; shift = 0; marked = false })) (region_at cs q) (region_at cs2 q) (shadowing.at q)

    shadow_cases : (q : ℕ) → ((object.0 ≡ q) × (shadow_at cs2 q ≡ Some (record { under = row.top; shift = row.shift })))
        ⊎ ((object.0 ≡ q → ⊥) × (shadow_at cs2 q ≡ shadow_at cs q))
    shadow_cases q = one_case object.0 q (Some (record { under = row.top; shift = row.shift })) (shadow_at cs q) (shadow_at cs2 q) (shadowing.under q)

    below : region.0 < rm
    below = below_all (region_at cs) rm region.0 row has.unmade there

    known_now : is_some (object_at os2 object.0) ≡ true
    known_now = ap is_some (known_put object.0 new os os2 putting)

    none : object_at os object.0 ≡ None
    none = ap (object_at os) next ∙ has.unknown om (omega arith)

    more : (x : ℕ) → references_to cs2 rm (om + 1) x ≡ references_to cs rm om x + one (om == x)
    more x = references_shadowed cs cs2 rm om region.0 object row there below next shadowing x

    its_own : new.references ≡ references_to cs2 rm (om + 1) object.0 + one new.cache
    its_own =
        let now = more object.0 in
        let was = unreferenced cs os ids _ _ rm om marked object.0 has none in
        let own : one (om == object.0) ≡ 1 = ap (λ z. one (z == object.0)) (sym next) ∙ one_own object.0 in
        let count : new.references ≡ 1 = ap (λ z. z.references) is_new in
        let none_more : one new.cache ≡ 0 = ap (λ z. one z.cache) is_new in
        omega (arith, now, was, own, count, none_more)

    others : (x : ℕ) → (object.0 ≡ x → ⊥) → references_to cs2 rm (om + 1) x ≡ references_to cs rm om x
    others x apart = let now = more x in let no : one (om == x) ≡ 0 = ap (λ z. one (z == x)) (sym next) ∙ one_other object.0 x apart in omega (arith, now, no)

    small_top : row.top.0 < om
    small_top = (objects_below has).tops region.0 row there
