-- A step makes the history longer, and begins where it may.
use Rattle.vm_system.proofs.Common.{AllInner, Bool, Device, Event, GrowsWithinLimit, IsBelowLimit, IsInner, List, MayBegin, None, Option, Some, Step, TakesStep}
use Rattle.vm_system.proofs.Common.{[], ap, append_assoc, arith, before_last_line, before_more, before_step, devices, false, if◌then◌else◌, inl, inr, is_device}
use Rattle.vm_system.proofs.Common.{length, lined, most_events, refl, steps_whole, subst, sym, takings, takings_more, true, ℕ, ◌++◌, ◌+◌, ◌<◌, ◌∙◌, ◌∷◌, ◌≡◌}
use Rattle.vm_system.proofs.Common.{◌≤◌}
use Rattle.vm_model.specs.declared.event.Event.TheVariants as event

-- what stands in front of a line, or of a step, is the same behind events inside it

line_same : (e : Event) (past : List Event) → IsInner e → before_last_line (e ∷ past) ≡ before_last_line past
line_same (event.Line line) past inner = absurd inner
line_same other past inner = refl

line_all : (events past : List Event) → AllInner events → before_last_line (events ++ past) ≡ before_last_line past
line_all [] past inner = refl
line_all (e ∷ events) past inner = line_same e (events ++ past) inner.0 ∙ line_all events past inner.1

-- nothing was told
pub grew_none : (old new : List Event) → new ≡ old → GrowsWithinLimit old new
grew_none old new same = record { more = []; is = same; limit = λ below before. subst IsBelowLimit (sym same) before }

-- a line, and what stands behind it in its step
pub grew_begun : (line : ℕ) (events old new : List Event) → new ≡ events ++ event.Line line ∷ old → AllInner events → GrowsWithinLimit old new
grew_begun line events old new is inner =
    record {
      more = events ++ event.Line line ∷ [];
      is = is ∙ sym (append_assoc events (event.Line line ∷ []) old);
      limit = λ below before. subst IsBelowLimit (sym is) (steps_whole MayBegin events (event.Line line ∷ old) inner (inl below, before));
    }

pub front_begun : (line : ℕ) (events old new : List Event) → new ≡ events ++ event.Line line ∷ old → AllInner events → before_last_line new ≡ old
front_begun line events old new is inner = ap before_last_line is ∙ line_all events (event.Line line ∷ old) inner

-- a taking, behind a line or not

lined_more : (line : Option ℕ) (old : List Event) → (more : List Event) × (lined line old ≡ more ++ old)
lined_more None old = ([], refl)
lined_more (Some line) old = (event.Line line ∷ [], refl)

lined_may : (line : Option ℕ) (old : List Event) → length old < most_events → IsBelowLimit old → MayBegin (lined line old) × IsBelowLimit (lined line old)
lined_may None old below before = (inl below, before)
lined_may (Some line) old below before = (inr (line, old, refl, below), (inl below, before))

pub grew_taken : (given : Step) (line : Option ℕ) (old new : List Event) → TakesStep given new → given.past ≡ lined line old → GrowsWithinLimit old new
grew_taken given line old new step past =
    let taken = event.Taken step.channel step.m in
    let whole : new ≡ step.more ++ taken ∷ lined line old = step.is ∙ ap (λ z. step.more ++ taken ∷ z) past in
    let front = lined_more line old in
    record {
      more = step.more ++ taken ∷ front.0;
      is = whole ∙ (ap (λ z. step.more ++ taken ∷ z) front.1 ∙ sym (append_assoc step.more (taken ∷ front.0) old));
      limit =
          λ below before. subst IsBelowLimit (sym whole) (steps_whole MayBegin step.more (taken ∷ lined line old) step.inner (lined_may line old below before));
    }

pub step_taken : (given : Step) (new : List Event) → TakesStep given new → before_step new ≡ given.past
step_taken given new step = ap before_step step.is ∙ before_more step.more (event.Taken step.channel step.m ∷ given.past) step.inner

pub line_taken : (given : Step) (line : ℕ) (old new : List Event) → TakesStep given new → given.past ≡ lined (Some line) old → before_last_line new ≡ old
line_taken given line old new step past =
    ap before_last_line step.is ∙ (line_all step.more (event.Taken step.channel step.m ∷ given.past) step.inner ∙ ap before_last_line past)

pub takings_taken : (given : Step) (new : List Event) → TakesStep given new → takings new ≡ takings given.past + 1
takings_taken given new step = ap takings step.is ∙ takings_more step.more (event.Taken step.channel step.m ∷ given.past) step.inner

-- it grows further
pub grew_more : (first old new : List Event) → GrowsWithinLimit first old → GrowsWithinLimit old new → length old < most_events → GrowsWithinLimit first new
grew_more first old new one two below = record {
  more = two.more ++ one.more;
  is = two.is ∙ (ap (λ z. two.more ++ z) one.is ∙ sym (append_assoc two.more one.more first));
  limit = λ few before. two.limit below (one.limit few before);
}

-- it tells of no fewer failures

devices_behind : (who : Device) (more old : List Event) → devices who old ≤ devices who (more ++ old)
devices_behind who [] old = omega arith
devices_behind who (event.DeviceFailed by way object page ∷ more) old = one (is_device who by) (devices_behind who more old)
  where
    one : (b : Bool) → devices who old ≤ devices who (more ++ old) → devices who old ≤ (if b then devices who (more ++ old) + 1 else devices who (more ++ old))
    one true rest = omega (arith, rest)
    one false rest = rest
devices_behind who (e ∷ more) old = devices_behind who more old

pub devices_grow : (who : Device) (old new : List Event) → GrowsWithinLimit old new → devices who old ≤ devices who new
devices_grow who old new grew = subst (λ z. devices who old ≤ devices who z) (sym grew.is) (devices_behind who grew.more old)
