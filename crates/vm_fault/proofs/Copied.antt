-- Copy objects fit still behind whatever an access comes to, and behind what a mark brings.
use Rattle.std.proofs.Common.{◌≡◌, ℕ, ◌≤◌, Bool, true, false, List, Option, None, ap, sym, ◌∙◌, subst, inl, inr, arith}
use Rattle.std.proofs.lemmas.Bool.{false≢true}
use Rattle.std.specs.Prelude.{IsSome, is_some}
use Rattle.vm_base.specs.declared.ids.HostId.{HostId}
use Rattle.vm_base.specs.declared.ids.PageKey.{PageKey}
use Rattle.vm_base.specs.declared.ids.RegionId.{RegionId}
use Rattle.vm_base.specs.declared.ids.TaskId.{TaskId}
use Rattle.vm_copies.specs.Copies.{CopyTable, copy_at}
use Rattle.vm_fault.specs.Faults.{AfterZeros, AtOnce, Comes, Copied, Ended, FaultState, NothingChanges, Prepares, Pushed, Raised, copied_key}
use Rattle.vm_fault.specs.Pushes.{CopiesFit, IsFresh, OfOther}
use Rattle.vm_fault.specs.declared.step.FaultStep.{FaultStep}
use Rattle.vm_fault.specs.declared.step.FaultStep.TheVariants as step
use Rattle.vm_fault.proofs.Coming.{fit_kept, fit_noted, none_comes, none_hit, none_referenced, none_then, one_comes, one_then}
use Rattle.vm_fault.proofs.Shadows.{same_pages_else}
use Rattle.vm_model.specs.declared.event.Event.{Event}
use Rattle.vm_objects.specs.Objects.{ObjectTable, object_at}
use Rattle.vm_parts.specs.declared.parts.HostParts.{HostParts}
use Rattle.vm_parts.proofs.Rows.{one_case}
use Rattle.vm_resident.specs.Resident.{row_at}
use Rattle.vm_shadow.specs.Chains.{ChainTable, ObjectsBelow, shadow_at}
use Rattle.vm_shadow.specs.declared.region_row.RegionRow.{RegionRow}
use Rattle.vm_shadow.specs.declared.shadow_row.ShadowRow.{ShadowRow}
use Rattle.vm_waits.specs.declared.waiting.Want.{Want}

ended_copied : (host : HostId) (task : TaskId) (what : Want) (top : PageKey) (at value : ℕ) (old new : HostParts) (chains : ChainTable) (had have : CopyTable)
    (before after : List Event) → CopiesFit had old chains → IsFresh what had → Ended host task what top at value old new chains had have before after
    → CopiesFit have new chains
ended_copied host task what top at value old new chains had have before after fit fresh (AtOnce steps key row finds alone out owed e hits same told) =
    subst (λ (z : CopyTable). CopiesFit z new chains) (sym same)
    (fit_kept had old new chains fit (none_hit task what key row.frame at value e old new hits))
ended_copied host task what top at value old new chains had have before after fit fresh
    (Raised steps key row finds stores out frame copied hit raises plan e hits source notes told) =
    let comes = one_comes top frame _ _ _ _ _ old copied raises plan.objects in
    let referenced = none_then copied hit new (none_hit task what top frame at value e copied hit hits) (none_referenced row.frame hit new source) in
    fit_noted top had have old new chains fit (one_then top old copied new comes referenced) notes
ended_copied host task what top at value old new chains had have before after fit fresh
    (Pushed row finds stores out place owed absent frame copied raises plan e hits notes told) =
    let comes = one_comes place frame _ _ _ _ _ old copied raises plan.objects in
    fit_noted place had have old new chains fit (one_then place old copied new comes (none_hit task what top row.frame at value e copied new hits)) notes
ended_copied host task what top at value old new chains had have before after fit fresh (AfterZeros sinks frame brought brings plan e hits notes told) =
    let comes = one_comes top frame _ _ _ _ _ old brought brings plan.objects in
    fit_noted top had have old new chains fit (one_then top old brought new comes (none_hit task what top frame at value e brought new hits)) notes
ended_copied host task what top at value old new chains had have before after fit fresh (Copied a p n t is steps key row finds out zero made same) =
    let place = copied_key t n in
    let comes = one_comes place made.frame _ _ _ _ _ old made.copied made.page made.plan.objects in
    let referenced = none_then made.copied made.hit new (none_referenced made.frame made.copied made.hit made.marks)
    (none_referenced row.frame made.hit new made.source) in
    let none : copy_at had t.0 ≡ None = subst (λ (z : Want). IsFresh z had) is fresh in
    fit_noted place had have old new chains fit (one_then place old made.copied new comes referenced) (OfOther none same)

nothing_copied : (old new : FaultState) → CopiesFit old.copies old.parts old.chains → NothingChanges old new → CopiesFit new.copies new.parts old.chains
nothing_copied old new fit same =
    subst (λ (z : CopyTable). CopiesFit z new.parts old.chains) (sym same.copies)
    (subst (λ (z : HostParts). CopiesFit old.copies z old.chains) (sym same.parts) fit)

pub comes_copied : (host : HostId) (task : TaskId) (what : Want) (may_claim : Bool) (top : PageKey) (at : ℕ) (answer : FaultStep) (old new : FaultState)
    → CopiesFit old.copies old.parts old.chains → IsFresh what old.copies → Comes host task what may_claim top at answer old new
    → CopiesFit new.copies new.parts old.chains
comes_copied host task what may_claim top at (step.Done value) old new fit fresh comes =
    ended_copied host task what top at value old.parts new.parts old.chains old.copies new.copies old.events new.events fit fresh comes
comes_copied host task what may_claim top at (step.Ask key) old new fit fresh comes =
    subst (λ (z : CopyTable). CopiesFit z new.parts old.chains) (sym comes.1)
    (fit_kept old.copies old.parts new.parts old.chains fit
    (none_comes key comes.0.frame _ _ _ _ _ old.parts new.parts comes.0.page comes.0.plan.objects (λ here. absurd (false≢true here))))
comes_copied host task what may_claim top at (step.Unlock key) old new fit fresh comes =
    subst (λ (z : CopyTable). CopiesFit z new.parts old.chains) (sym comes.1)
    (fit_kept old.copies old.parts new.parts old.chains fit
    (none_comes key comes.0.row.frame _ _ _ _ _ old.parts new.parts comes.0.page comes.0.plan.objects (λ here. here)))
comes_copied host task what may_claim top at (step.WaitReady object) old new fit fresh comes = nothing_copied old new fit comes.1
comes_copied host task what may_claim top at (step.WaitAnswer key) old new fit fresh comes = nothing_copied old new fit comes.1
comes_copied host task what may_claim top at (step.NeedFrame source) old new fit fresh comes = nothing_copied old new fit comes.2

-- an object that is known isn't the one that is made
known_apart : (os : ObjectTable) (made o : ℕ) → object_at os made ≡ None → IsSome (object_at os o) → made ≡ o → ⊥
known_apart os made o none known same =
    false≢true (sym (ap is_some none) ∙ (ap (λ z. is_some (object_at os z)) same ∙ known))

-- what a region's mark brings leaves the copy objects: the new object is none of them, and none of their sources
pub prepared_copied : (is : Bool) (region : RegionId) (row : RegionRow) (s mid : FaultState) → CopiesFit s.copies s.parts s.chains
    → ObjectsBelow s.ids.next_object s.chains → ((o : ℕ) → s.ids.next_object ≤ o → object_at s.parts.objects o ≡ None) → Prepares is region row s mid
    → CopiesFit mid.copies mid.parts mid.chains
prepared_copied true region row s mid fit below unmade (inl made) =
    subst (λ (z : CopyTable). CopiesFit z mid.parts mid.chains) (sym made.copies)
    (record {
      living = fit.living;
      fits = λ c copy is.
          let fits = fit.fits c copy is in
          let apart = known_apart s.parts.objects made.object.0 c none fits.known in
          record {
            known = ap is_some (kept c apart) ∙ fits.known;
            pages = same_pages_else s.parts.objects mid.parts.objects made.object.0 _ made.objects c apart ∙ fits.pages;
            had = λ p page found here. fits.had p page (sym (ap (λ (z : HostParts). row_at z.resident c p) made.parts) ∙ found) here;
          };
      stands = λ from c is.
          let stands = fit.stands from c is in
          let upper : made.object.0 ≡ c.0 → ⊥ = λ same. omega (arith, made.next, same, below.shadows c.0 stands.row stands.found) in
          let lower : made.object.0 ≡ from → ⊥ = λ same. omega (arith, made.next, same, stands.under, below.unders c.0 stands.row stands.found) in
          record {
            row = stands.row;
            found = shadowed c.0 upper ∙ stands.found;
            under = stands.under;
            shift = stands.shift;
            pages =
                same_pages_else s.parts.objects mid.parts.objects made.object.0 _ made.objects c.0 upper
                ∙ (stands.pages ∙ sym (same_pages_else s.parts.objects mid.parts.objects made.object.0 _ made.objects from lower));
          };
    })
  where
    none : object_at s.parts.objects made.object.0 ≡ None
    none = unmade made.object.0 (omega (arith, made.next))

    kept : (o : ℕ) → (made.object.0 ≡ o → ⊥) → object_at mid.parts.objects o ≡ object_at s.parts.objects o
    kept o apart = elim (one_case made.object.0 o _ (object_at s.parts.objects o) (object_at mid.parts.objects o) (made.objects.at o)) [
      | inl same ↦ absurd (apart same.0)
      | inr other ↦ other.1
    ]

    shadowed : (o : ℕ) → (made.object.0 ≡ o → ⊥) → shadow_at mid.chains o ≡ shadow_at s.chains o
    shadowed o apart = elim (one_case made.object.0 o _ (shadow_at s.chains o) (shadow_at mid.chains o) (made.chains.under o)) [
      | inl same ↦ absurd (apart same.0)
      | inr other ↦ other.1
    ]
prepared_copied true region row s mid fit below unmade (inr loses) =
    subst (λ (z : CopyTable). CopiesFit z mid.parts mid.chains) (sym loses.copies)
    (subst (λ (z : HostParts). CopiesFit s.copies z mid.chains) (sym loses.parts)
    (record {
      living = fit.living;
      fits = fit.fits;
      stands = λ from c is.
          let stands = fit.stands from c is in
          record {
            row = stands.row;
            found = ap (λ (z : ℕ → Option ShadowRow). z c.0) loses.chains.shadows ∙ stands.found;
            under = stands.under;
            shift = stands.shift;
            pages = stands.pages;
          };
    }))
prepared_copied false region row s mid fit below unmade same =
    subst (λ (z : FaultState). CopiesFit z.copies z.parts z.chains) (sym same) fit
