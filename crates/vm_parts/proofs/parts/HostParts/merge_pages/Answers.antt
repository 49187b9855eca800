use Rattle.std.proofs.Common.{◌≡◌, ◌∙◌, None, Some, arith, ap, refl, subst}
use Rattle.std.proofs.lemmas.Option.{MatchOption-at_some}
use Rattle.std.specs.Prelude.{ℕ, ◌≤◌}
use Rattle.vm_parts.proofs.Merging.{none_asked}
use Rattle.vm_parts.proofs.Rows.{row_there}
use Rattle.vm_parts.specs.Fits.{Fit, object_pages}
use Rattle.vm_parts.specs.Merging.{Next, NoMore, PageMerges, PagesMerge}
use Rattle.vm_parts.specs.declared.parts.HostParts.{HostParts}
use Rattle.vm_resident.specs.Resident.{row_at}
use Rattle.vm_parts.proofs.parts.HostParts.merge_pages.Goals as goal

-- an object has no page behind its last one
none_behind : (parts : HostParts) (o from : ℕ) → Fit parts → object_pages parts.objects o ≤ from → (p : ℕ) → from ≤ p → row_at parts.resident o p ≡ None
none_behind parts o from fit above p high = by (row_at parts.resident o p) refl
  where
    by : (x : _) → row_at parts.resident o p ≡ x → x ≡ None
    by None is = refl
    by (Some row) is = let inside = fit.inside o p row is in absurd (omega (arith, inside, above, high))

pub returns-in_default-next_page-clause-merge : goal.returns-in_default-next_page-clause-merge
returns-in_default-next_page-clause-merge c =
    subst (λ (z : ℕ). PagesMerge c.args.upper c.args.lower c.args.shift z 0 c.args.self.now c.pages.self) c.pages.invariant.top
    (c.pages.invariant.merge c.pages.self (NoMore c.pages.from.0 c.pages.self c.in_default-next_page.ensures))

pub returns-clause-merge : goal.returns-clause-merge
returns-clause-merge c =
    let kept = c.pages.invariant in
    subst (λ (z : ℕ). PagesMerge c.args.upper c.args.lower c.args.shift z 0 c.args.self.now c.pages.self) kept.top
    (kept.merge c.pages.self (NoMore c.pages.from.0 c.pages.self (none_behind c.pages.self c.args.lower.0 c.pages.from.0 kept.fit
    (let bound = kept.bound in let same = ap (λ z. object_pages z c.args.lower.0) kept.objects in omega (arith, bound, same, c.pages-test.false)))))

pub pages-preserved : goal.pages-preserved
pages-preserved c =
    let kept = c.pages.invariant in
    let row = row_there _ c.in-Some-next_page.ensures.there in
    let merges : PageMerges c.args.upper c.args.shift c.in-Some.top.pages (record { object = c.args.lower; page = c.in-Some-next_page.page }) row.0 c.pages.self
    c.merge_page.new.self = MatchOption-at_some _ _ row.0 row.1 c.merge_page.ensures.merges in
    let inside = kept.fit.inside c.args.lower.0 c.in-Some-next_page.page.0 row.0 row.1 in
    let same = ap (λ z. object_pages z c.args.lower.0) kept.objects in
    record {
      fit = c.merge_page.ensures.fit;
      here = none_asked c.args.upper c.args.lower c.args.shift c.in-Some.top.pages c.in-Some-next_page.page row.0 c.pages.self c.merge_page.new.self
          c.requires.apart merges kept.here;
      bound = kept.bound;
      top = kept.top;
      objects = c.merge_page.ensures.objects ∙ kept.objects;
      buffers = c.merge_page.ensures.buffers ∙ kept.buffers;
      low = omega (arith, inside, same);
      room = omega (arith, kept.room, c.merge_page.ensures.room, c.in-Some-next_page.ensures.low);
      spent = omega (arith, kept.spent, c.merge_page.ensures.room, c.in-Some-next_page.ensures.low);
      merge = λ end more. kept.merge end (Next c.pages.from.0 c.in-Some-next_page.page row.0 c.pages.self c.merge_page.new.self end
          c.in-Some-next_page.ensures.low c.in-Some-next_page.ensures.first row.1 c.merge_page.ensures.objects merges more);
    }
