-- Events inside a step: what the step took, what stands in front of it, and what has happened in it.
use Rattle.std.proofs.Common.{◌≡◌, ◌||◌, Bool, true, false, List, [], ◌∷◌, ◌++◌, refl, ◌∙◌}
use Rattle.vm_model.specs.declared.event.Event.{Event}
use Rattle.vm_model.specs.declared.event.Event.TheVariants as event
use Rattle.vm_model.specs.declared.script.Header.{Header}
use Rattle.vm_legal.specs.Steps.{absence_taken, before_step, error_taken, since, taken_letter, takings}
use Rattle.vm_legal.specs.Stretches.{AllInner, IsInner}

taken_inner : (e : Event) (past : List Event) → IsInner e → taken_letter (e ∷ past) ≡ taken_letter past
taken_inner (event.Line line) past inner = absurd inner
taken_inner (event.Taken channel m) past inner = absurd inner
taken_inner other past inner = refl

pub taken_more : (events past : List Event) → AllInner events → taken_letter (events ++ past) ≡ taken_letter past
taken_more [] past inner = refl
taken_more (e ∷ events) past inner = taken_inner e (events ++ past) inner.0 ∙ taken_more events past inner.1

error_inner : (header : Header) (e : Event) (past : List Event) → IsInner e → error_taken header (e ∷ past) ≡ error_taken header past
error_inner header (event.Line line) past inner = absurd inner
error_inner header (event.Taken channel m) past inner = absurd inner
error_inner header other past inner = refl

pub error_more : (header : Header) (events past : List Event) → AllInner events → error_taken header (events ++ past) ≡ error_taken header past
error_more header [] past inner = refl
error_more header (e ∷ events) past inner = error_inner header e (events ++ past) inner.0 ∙ error_more header events past inner.1

absence_inner : (header : Header) (e : Event) (past : List Event) → IsInner e → absence_taken header (e ∷ past) ≡ absence_taken header past
absence_inner header (event.Line line) past inner = absurd inner
absence_inner header (event.Taken channel m) past inner = absurd inner
absence_inner header other past inner = refl

pub absence_more : (header : Header) (events past : List Event) → AllInner events → absence_taken header (events ++ past) ≡ absence_taken header past
absence_more header [] past inner = refl
absence_more header (e ∷ events) past inner = absence_inner header e (events ++ past) inner.0 ∙ absence_more header events past inner.1

before_inner : (e : Event) (past : List Event) → IsInner e → before_step (e ∷ past) ≡ before_step past
before_inner (event.Line line) past inner = absurd inner
before_inner (event.Taken channel m) past inner = absurd inner
before_inner other past inner = refl

pub before_more : (events past : List Event) → AllInner events → before_step (events ++ past) ≡ before_step past
before_more [] past inner = refl
before_more (e ∷ events) past inner = before_inner e (events ++ past) inner.0 ∙ before_more events past inner.1

pub or_true : (a b : Bool) → b ≡ true → (a || b) ≡ true
or_true true b is = refl
or_true false b is = is

since_inner : (test : Event → Bool) (e : Event) (past : List Event) → IsInner e → since test past ≡ true → since test (e ∷ past) ≡ true
since_inner test (event.Line line) past inner is = absurd inner
since_inner test (event.Taken channel m) past inner is = absurd inner
since_inner test other past inner is = or_true (test other) (since test past) is

pub since_more : (test : Event → Bool) (events past : List Event) → AllInner events → since test past ≡ true → since test (events ++ past) ≡ true
since_more test [] past inner is = is
since_more test (e ∷ events) past inner is = since_inner test e (events ++ past) inner.0 (since_more test events past inner.1 is)

takings_inner : (e : Event) (past : List Event) → IsInner e → takings (e ∷ past) ≡ takings past
takings_inner (event.Line line) past inner = absurd inner
takings_inner (event.Taken channel m) past inner = absurd inner
takings_inner other past inner = refl

pub takings_more : (events past : List Event) → AllInner events → takings (events ++ past) ≡ takings past
takings_more [] past inner = refl
takings_more (e ∷ events) past inner = takings_inner e (events ++ past) inner.0 ∙ takings_more events past inner.1
