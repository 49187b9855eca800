-- A stretch of events behind another.
use Rattle.std.proofs.Common.{append_assoc, List, [], ◌∷◌, ◌++◌, sym, subst}
use Rattle.vm_model.specs.declared.command.Command.{Command}
use Rattle.vm_model.specs.declared.event.Event.{Event}
use Rattle.vm_model.specs.declared.event.Event.TheVariants as event
use Rattle.vm_model.specs.declared.script.Header.{Header}
use Rattle.vm_model.specs.Moments.{BeforeSteps, EachEvent, EachMoment}
use Rattle.vm_legal.specs.InTurn.{AllInTurn, LicensedInTurn}
use Rattle.vm_legal.specs.Outside.{Outside}
use Rattle.vm_legal.specs.Stretches.{AllInner, EachIn, EachOf, IsInner, MomentsIn}

pub each_both : (P : Event → List Event → Type 0) (later front past : List Event) → EachIn P later (front ++ past) → EachIn P front past
    → EachIn P (later ++ front) past
each_both P [] front past all before = before
each_both P (e ∷ later) front past all before =
    (subst (λ (z : List Event). P e z) (sym (append_assoc later front past)) all.0, each_both P later front past all.1 before)

pub moments_both : (P : List Event → Type 0) (later front past : List Event) → MomentsIn P later (front ++ past) → MomentsIn P front past
    → MomentsIn P (later ++ front) past
moments_both P [] front past all before = before
moments_both P (e ∷ later) front past all before =
    (subst (λ (z : List Event). P (e ∷ z)) (sym (append_assoc later front past)) all.0, moments_both P later front past all.1 before)

pub of_both : (P : Event → Type 0) (later front : List Event) → EachOf P later → EachOf P front → EachOf P (later ++ front)
of_both P [] front all before = before
of_both P (e ∷ later) front all before = (all.0, of_both P later front all.1 before)

pub licensed_both : (header : Header) (outside : Outside) (doing : Command) (later front past : List Event)
    → AllInTurn header outside doing later (front ++ past) → AllInTurn header outside doing front past → AllInTurn header outside doing (later ++ front) past
licensed_both header outside doing [] front past all before = before
licensed_both header outside doing (e ∷ later) front past all before = (
  subst (λ (z : List Event). LicensedInTurn header outside doing e z) (sym (append_assoc later front past)) all.0,
  licensed_both header outside doing later front past all.1 before,
)

pub inner_both : (later front : List Event) → AllInner later → AllInner front → AllInner (later ++ front)
inner_both [] front all before = before
inner_both (e ∷ later) front all before = (all.0, inner_both later front all.1 before)

-- the oldest event of a stretch has its cause
pub licensed_front : (header : Header) (outside : Outside) (doing : Command) (more : List Event) (e : Event) (past : List Event)
    → AllInTurn header outside doing (more ++ e ∷ []) past → LicensedInTurn header outside doing e past
licensed_front header outside doing [] e past all = all.0
licensed_front header outside doing (later ∷ more) e past all = licensed_front header outside doing more e past all.1

-- what holds of the events that were added, and of those in front, holds of all

pub each_whole : (P : Event → List Event → Type 0) (events past : List Event) → EachIn P events past → EachEvent P past → EachEvent P (events ++ past)
each_whole P [] past some rest = rest
each_whole P (e ∷ events) past some rest = (some.0, each_whole P events past some.1 rest)

pub moments_whole : (P : List Event → Type 0) (events past : List Event) → MomentsIn P events past → EachMoment P past → EachMoment P (events ++ past)
moments_whole P [] past some rest = rest
moments_whole P (e ∷ events) past some rest = (some.0, moments_whole P events past some.1 rest)

pub moment_last : (P : List Event → Type 0) (past : List Event) → EachMoment P past → P past
moment_last P [] each = each
moment_last P (e ∷ past) each = each.0

-- events inside a step begin none

inner_steps : (P : List Event → Type 0) (e : Event) (past : List Event) → IsInner e → BeforeSteps P past → BeforeSteps P (e ∷ past)
inner_steps P (event.Line line) past inner rest = absurd inner
inner_steps P (event.Taken channel message) past inner rest = absurd inner
inner_steps P other past inner rest = rest

pub steps_whole : (P : List Event → Type 0) (events past : List Event) → AllInner events → BeforeSteps P past → BeforeSteps P (events ++ past)
steps_whole P [] past inner rest = rest
steps_whole P (e ∷ events) past inner rest = inner_steps P e (events ++ past) inner.0 (steps_whole P events past inner.1 rest)
