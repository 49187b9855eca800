-- The places that are summed: a new object has none that costs anything.
use Rattle.std.proofs.Common.{ℕ, zero, suc, ◌≡◌, ◌≤◌, ◌<◌, ◌+◌, List, ◌∷◌, Bool, true, false, refl, sym, subst, arith, if◌then◌else◌}
use Rattle.std.proofs.lemmas.Bool.Decides.{nat_tests}
use Rattle.std.specs.Prelude.{◌==◌}
use Rattle.vm_base.specs.declared.ids.ObjectId.{ObjectId}
use Rattle.vm_base.specs.declared.ids.RegionId.{RegionId}
use Rattle.vm_bound.proofs.Distinct.{places_sum, sum_lower, sum_none}
use Rattle.vm_bound.specs.Lines.{sum_below}
use Rattle.vm_model.specs.Regions.{next_object, object_pages, region_of}
use Rattle.vm_model.specs.declared.event.Event.{Event}
use Rattle.vm_model.specs.declared.event.Event.TheVariants as event
use Rattle.vm_model.specs.declared.script.Header.{Header}

-- sums over fewer, where those below agree
sums_agree : (n : ℕ) (f g : ℕ → ℕ) → ((i : ℕ) → i < n → f i ≤ g i) → sum_below n f ≤ sum_below n g
sums_agree zero f g each = omega arith
sums_agree (suc n) f g each =
    let one = each n (omega arith) in
    let rest = sums_agree n f g (λ i below. each i (omega (arith, below))) in
    omega (arith, one, rest)

one_more : (n : ℕ) (f : ℕ → ℕ) → f n ≤ 0 → sum_below (n + 1) f ≤ sum_below n f
one_more n f none =
    let next : n + 1 ≡ suc n = omega arith in subst (λ (k : ℕ). sum_below k f ≤ sum_below n f) (sym next) (omega (arith, none))

-- behind a shadow the new object is summed too
pub shadowed_range : (header : Header) (region : RegionId) (new old : ObjectId) (past : List Event) (hosts : ℕ) (f : ℕ → ℕ → ℕ → ℕ)
    → new.0 ≡ next_object header past → ((h p : ℕ) → f h (next_object header past) p ≤ 0)
    → places_sum hosts (next_object header (event.Shadowed region new old ∷ past)) (λ o. object_pages header o (event.Shadowed region new old ∷ past)) f
    ≤ places_sum hosts (next_object header past) (λ o. object_pages header o past) f
shadowed_range header region new old past hosts f fresh none = sum_lower hosts _ _ row
  where
    now : ℕ → ℕ
    now o = if o == new.0 then (region_of header region.0 past).pages else object_pages header o past

    older : (h i : ℕ) → i < next_object header past → sum_below (now i) (f h i) ≤ sum_below (object_pages header i past) (f h i)
    older h i below = by (i == new.0) refl
      where
        by : (b : Bool) → (i == new.0) ≡ b
            → sum_below (if b then (region_of header region.0 past).pages else object_pages header i past) (f h i) ≤ sum_below (object_pages header i past) (f h i)
        by true is = absurd (let same : i ≡ new.0 = grind (arith, nat_tests) in omega (arith, below, fresh, same))
        by false is = omega arith

    row : (h : ℕ) → sum_below (next_object header past + 1) (λ o. sum_below (now o) (f h o))
        ≤ sum_below (next_object header past) (λ o. sum_below (object_pages header o past) (f h o))
    row h =
        let more = one_more (next_object header past) (λ o. sum_below (now o) (f h o))
        (sum_none (now (next_object header past)) (f h (next_object header past)) (λ p. none h p)) in
        let same = sums_agree (next_object header past) (λ o. sum_below (now o) (f h o)) (λ o. sum_below (object_pages header o past) (f h o)) (older h) in
        omega (arith, more, same)
