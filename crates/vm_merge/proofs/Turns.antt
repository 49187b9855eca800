-- What a turn of the merges asks and leaves.
use Rattle.std.proofs.Common.{◌≡◌, ◌∙◌, ℕ, ◌+◌, ◌*◌, ◌<◌, ◌^◌, List, [], Contains, Option, Some, None, IfSome, refl, sym, ap, subst, arith}
use Rattle.vm_base.specs.declared.ids.ObjectId.{ObjectId}
use Rattle.vm_copies.specs.Copies.{CopyTable}
use Rattle.vm_merge.proofs.Heaps.{in_none}
use Rattle.vm_merge.specs.Merges.{CanMerge, IsThin, IsThinBut}
use Rattle.vm_merge.specs.Standing.{MayMerge}
use Rattle.vm_objects.specs.Objects.{ObjectTable}
use Rattle.vm_parts.specs.Fits.{object_pages}
use Rattle.vm_parts.specs.declared.parts.HostParts.{HostParts}
use Rattle.vm_shadow.specs.Chains.{ChainTable, shadow_at}
use Rattle.vm_shadow.specs.declared.shadow_row.ShadowRow.{ShadowRow}

-- the sum of both shifts is counted by 32 bits
pub shift_fits : {copies : CopyTable} (pages : ℕ) (parts : HostParts) (chains : ChainTable) (upper lower : ℕ) → MayMerge pages parts chains copies
    → CanMerge copies chains parts.objects upper lower
    → IfSome (shadow_at chains upper) (λ up. IfSome (shadow_at chains lower) (λ low. up.shift + low.shift < 2 ^ 32))
shift_fits pages parts chains upper lower may can = by (shadow_at chains upper) refl
  where
    within : (up : ShadowRow) → shadow_at chains upper ≡ Some up → (x : Option ShadowRow) → shadow_at chains lower ≡ x
        → IfSome x (λ low. up.shift + low.shift < 2 ^ 32)
    within up over None none = tt
    within up over (Some low) below =
        let both : Some up ≡ Some can.link = sym over ∙ can.over in
        let same : up ≡ can.link = cc in
        let one = may.shadows upper up over in
        let under : up.under.0 ≡ lower = ap (λ z. z.under.0) same ∙ can.under in
        let there = ap (object_pages parts.objects) under in
        let two = may.shadows lower low below in
        let three = may.most low.under.0 in
        let few = may.few in
        omega (arith, one, there, two, three, few)

    by : (x : Option ShadowRow) → shadow_at chains upper ≡ x → IfSome x (λ up. IfSome (shadow_at chains lower) (λ low. up.shift + low.shift < 2 ^ 32))
    by None none = tt
    by (Some up) over = within up over (shadow_at chains lower) refl

-- the room of one of several
pub one_of : (left all pages : ℕ) → left + 1 ≡ all → left * pages + pages ≡ all * pages
one_of left all pages is = let same = ap (λ (n : ℕ). n * pages) is in omega (arith, same)

pub none_of_none : {copies : CopyTable} (items : List ObjectId) (chains : ChainTable) (objects : ObjectTable) → items ≡ []
    → IsThinBut copies items chains objects → IsThin copies chains objects
none_of_none items chains objects empty thin u l can =
    in_none (record { 0 = l }) (subst (λ (xs : List ObjectId). Contains xs (record { 0 = l })) empty (thin u l can))
