-- What is made has the next number, so that what the chains name stays below.
use Rattle.std.proofs.Common.{◌≡◌, ℕ, ◌+◌, ◌<◌, ◌≤◌, Option, Some, None, ap, arith}
use Rattle.std.proofs.lemmas.Bool.Decides.{nat_tests}
use Rattle.part_tests.specs.Numbering.{AreNumbered}
use Rattle.vm_base.specs.declared.ids.ObjectId.{ObjectId}
use Rattle.vm_shadow.specs.Chains.{ChainTable, CopiesRegion, PutsRegion, ShadowsRegion, region_at, shadow_at}
use Rattle.vm_shadow.specs.declared.ids.Ids.{Ids}
use Rattle.vm_shadow.specs.declared.region_row.RegionRow.{RegionRow}
use Rattle.vm_shadow.specs.declared.shadow_row.ShadowRow.{ShadowRow}

region_below : (n r : ℕ) (row : RegionRow) → (table : ChainTable) → ((s : ℕ) → n ≤ s → region_at table s ≡ None) → region_at table r ≡ Some row → r < n
region_below n r row table below is = let none : n ≤ r → region_at table r ≡ None = below r in grind (arith, none, is)

pub numbered_first : (ids : Ids) (old new : ChainTable) (region : ℕ) (row : RegionRow) → ((r : ℕ) → region_at old r ≡ None) → ((o : ℕ) → shadow_at old o ≡ None)
    → region < ids.next_region → row.top.0 < ids.next_object → PutsRegion region (Some row) old new → AreNumbered ids new
numbered_first ids old new region row none bare low less put =
    record {
      regions = λ r high. grind (arith, nat_tests, put.at r, none r);
      objects = record {
        tops = λ r found is. grind (arith, nat_tests, put.at r, none r, is);
        shadows = λ o found is. grind (arith, ap (λ (f : ℕ → Option ShadowRow). f o) put.shadows, bare o, is);
        unders = λ o found is. grind (arith, ap (λ (f : ℕ → Option ShadowRow). f o) put.shadows, bare o, is);
      };
    }

pub numbered_copy : (ids later : Ids) (old new : ChainTable) (source offset pages : ℕ) (row : RegionRow) → AreNumbered ids old → region_at old source ≡ Some row
    → CopiesRegion source ids.next_region offset pages row old new → later.next_region ≡ ids.next_region + 1 → later.next_object ≡ ids.next_object
    → AreNumbered later new
numbered_copy ids later old new source offset pages row numbered is copies more kept =
    let below = region_below ids.next_region source row old numbered.regions is in
    let top = numbered.objects.tops source row is in
    record {
      regions = λ r high. let none : region_at old r ≡ None = numbered.regions r (omega arith) in grind (arith, nat_tests, copies.at r, none);
      objects = record {
        tops = λ r found here. let was = numbered.objects.tops r found in grind (arith, nat_tests, copies.at r, was, here);
        shadows = λ o found here. let was = numbered.objects.shadows o found in grind (arith, ap (λ (f : ℕ → Option ShadowRow). f o) copies.shadows, was, here);
        unders = λ o found here. let was = numbered.objects.unders o found in grind (arith, ap (λ (f : ℕ → Option ShadowRow). f o) copies.shadows, was, here);
      };
    }

pub numbered_shadow : (ids later : Ids) (old new : ChainTable) (region : ℕ) (object : ObjectId) (row : RegionRow) → AreNumbered ids old
    → region_at old region ≡ Some row
    → object.0 ≡ ids.next_object → ShadowsRegion region object row old new → later.next_region ≡ ids.next_region → later.next_object ≡ ids.next_object + 1
    → AreNumbered later new
numbered_shadow ids later old new region object row numbered is named shadows kept more =
    let below = region_below ids.next_region region row old numbered.regions is in
    let top = numbered.objects.tops region row is in
    record {
      regions = λ r high. let none : region_at old r ≡ None = numbered.regions r (omega arith) in grind (arith, nat_tests, shadows.at r, none);
      objects = record {
        tops = λ r found here. let was = numbered.objects.tops r found in grind (arith, nat_tests, shadows.at r, was, here);
        shadows = λ o found here. let was = numbered.objects.shadows o found in grind (arith, nat_tests, shadows.under o, was, here);
        unders = λ o found here. let was = numbered.objects.unders o found in grind (arith, nat_tests, top, more, shadows.under o, was, here);
      };
    }
