-- What the calls of one merge make together.
use Rattle.std.proofs.Common.{◌≡◌, ◌∙◌, ℕ, ◌+◌, ◌≤◌, List, ◌∷◌, Some, IfSome, refl, ap, subst, arith}
use Rattle.std.proofs.lemmas.Option.{MatchOption-at_some}
use Rattle.vm_base.specs.declared.ids.ObjectId.{ObjectId}
use Rattle.vm_copies.specs.Copies.{CopyTable}
use Rattle.vm_merge.specs.Merges.{CanMerge, MergesInto}
use Rattle.vm_merge.specs.Standing.{merge_state}
use Rattle.vm_model.specs.declared.event.Event.{Event}
use Rattle.vm_model.specs.declared.event.Event.TheVariants as event
use Rattle.vm_objects.specs.Objects.{ObjectTable, PutsObject, SameMarks, object_at}
use Rattle.vm_parts.specs.Fits.{object_pages, pages_of_row}
use Rattle.vm_parts.specs.Merging.{PagesMerge}
use Rattle.vm_parts.specs.declared.parts.HostParts.{HostParts}
use Rattle.vm_shadow.specs.Chains.{ChainTable, MergesShadow, shadow_at}
use Rattle.vm_shadow.specs.declared.shadow_row.ShadowRow.{ShadowRow}

-- what the calls say, in turn
pub record Calls (upper lower : ObjectId) (link : ShadowRow) (left : ℕ) (parts moved : HostParts) (objects : ObjectTable) (old new : ChainTable) : Type 0 where
  pub found : Some link ≡ shadow_at old upper.0
  pub pages : PagesMerge upper lower link.shift (object_pages parts.objects upper.0) 0 parts moved
  pub same : moved.objects ≡ parts.objects
  pub chain : IfSome (shadow_at old upper.0) (λ up. MergesShadow upper.0 lower.0 up old new)
  pub left_is : IfSome (object_at moved.objects lower.0) (λ row. left + 1 ≡ row.references)
  pub put : IfSome (object_at moved.objects lower.0) (λ row. PutsObject lower.0 (Some (record row { references = left })) moved.objects objects)
  pub marks : SameMarks moved.objects objects

none_left : {copies : CopyTable} (upper lower : ObjectId) (link : ShadowRow) (left : ℕ) (parts moved : HostParts) (objects : ObjectTable)
    (old new : ChainTable) → (can : CanMerge copies old parts.objects upper.0 lower.0) → Calls upper lower link left parts moved objects old new
    → PutsObject lower.0 (Some (record can.lower_row { references = 0 })) parts.objects objects
none_left upper lower link left parts moved objects old new can calls =
    let known : object_at moved.objects lower.0 ≡ Some can.lower_row = ap (λ z. object_at z lower.0) calls.same ∙ can.lower_known in
    let one = MatchOption-at_some _ (λ row. left + 1 ≡ row.references) can.lower_row known calls.left_is in
    let sole = can.sole in
    let none : left ≡ 0 = omega (arith, one, sole) in
    let put = MatchOption-at_some _ (λ row. PutsObject lower.0 (Some (record row { references = left })) moved.objects objects)
    can.lower_row known calls.put in
    subst (λ (z : ObjectTable). PutsObject lower.0 (Some (record can.lower_row { references = 0 })) z objects) calls.same
    (subst (λ (n : ℕ). PutsObject lower.0 (Some (record can.lower_row { references = n })) moved.objects objects) none put)

pub merges_into : {copies : CopyTable} (upper lower : ObjectId) (link : ShadowRow) (left : ℕ) (parts moved : HostParts) (objects : ObjectTable)
    (old new : ChainTable) (before after : List Event)
    → CanMerge copies old parts.objects upper.0 lower.0 → Calls upper lower link left parts moved objects old new
    → after ≡ event.Merged upper lower ∷ before → ((u l : ℕ) → CanMerge copies old parts.objects u l → lower.0 ≤ l)
    → MergesInto upper lower (merge_state parts old copies before)
    (merge_state (record moved { objects = objects }) new copies after)
merges_into upper lower link left parts moved objects old new before after can calls told least =
    let both : Some link ≡ Some can.link = calls.found ∙ can.over in
    let same_link : link ≡ can.link = cc in
    let shift = ap (λ z. z.shift) same_link in
    let pages = ap pages_of_row can.upper_known in
    record {
      can = can;
      least = least;
      moved = moved;
      pages =
          subst (λ (n : ℕ). PagesMerge upper lower n can.upper_row.pages 0 parts moved) shift
          (subst (λ (n : ℕ). PagesMerge upper lower link.shift n 0 parts moved) pages calls.pages);
      same = calls.same;
      chain = MatchOption-at_some _ (λ up. MergesShadow upper.0 lower.0 up old new) can.link can.over calls.chain;
      copied = refl;
      object = none_left upper lower link left parts moved objects old new can calls;
      marks = subst (λ (z : ObjectTable). SameMarks z objects) calls.same calls.marks;
      rest = refl;
      told = told;
    }
