-- How many pages the slow copies that wait have left, where a row goes, waits for something else or is to do something else.
use Rattle.std.specs.Prelude.{ℕ, suc, ◌≡◌, ◌+◌, ◌<◌, ◌≤◌, ◌==◌, Bool, true, false, List, [], ◌∷◌, map, Option, Some, None, if◌then◌else◌}
use Rattle.std.proofs.Common.{◌∙◌, ap, arith, inl, inr, refl, subst, sym}
use Rattle.std.proofs.lemmas.Bool.Decides.{eqb_tells}
use Rattle.vm_base.specs.declared.ids.HostId.{HostId}
use Rattle.vm_base.specs.declared.ids.PageKey.{PageKey}
use Rattle.vm_base.specs.declared.ids.TaskId.{TaskId}
use Rattle.vm_fault.specs.Faults.{FaultState, Runs}
use Rattle.vm_fault.specs.Rooms.{pages_left}
use Rattle.vm_fault.specs.declared.step.FaultStep.TheVariants as step
use Rattle.vm_frames.specs.Frames.{claimed}
use Rattle.vm_maps.specs.Maps.{Mapped}
use Rattle.vm_parts.proofs.Rows.{some_is}
use Rattle.vm_state.specs.Waiters.{BeganInOrder}
use Rattle.vm_waits.specs.Waits.{EachOnce, entry, rewanted, rows_without, turned, with_on}
use Rattle.vm_waits.specs.declared.waiting.On.{On}
use Rattle.vm_waits.specs.declared.waiting.Waiting.{Waiting}
use Rattle.vm_waits.specs.declared.waiting.Want.{Want}
use Rattle.vm_kernel.proofs.steps.PageByPage.{claims_and_left, pagewise}
use Rattle.vm_kernel.specs.Serving.{pages_to_copy}

-- rows in the order in which they began are each of a task of its own

not_before : (begun : ℕ → ℕ) (from t : ℕ) (rows : List Waiting) → BeganInOrder begun from rows → begun t < from → entry rows t ≡ None
not_before begun from t [] order less = refl
not_before begun from t (w ∷ ws) order less = elim (eqb_tells w.task.0 t) [
  | inl same ↦
      let low : from ≤ begun w.task.0 = order.0 in
      let even : begun w.task.0 ≡ begun t = ap begun same.1 in
      absurd (omega (arith, low, even, less))
  | inr apart ↦
      let low : from ≤ begun w.task.0 = order.0 in
      rw apart.0 (not_before begun (suc (begun w.task.0)) t ws order.1 (omega (arith, low, less)))
]

pub once_of : (begun : ℕ → ℕ) (from : ℕ) (rows : List Waiting) → BeganInOrder begun from rows → EachOnce rows
once_of begun from [] order = tt
once_of begun from (w ∷ ws) order = (not_before begun (suc (begun w.task.0)) w.task.0 ws order.1 (omega arith), once_of begun (suc (begun w.task.0)) ws order.1)

-- it waits for something else

on_left : (b : Bool) (reason : On) (w : Waiting) → pages_left (if b then with_on w reason else w).want ≡ pages_left w.want
on_left true reason w = refl
on_left false reason w = refl

pub left_turned : (t : ℕ) (reason : On) (rows : List Waiting) → pages_to_copy (map (turned t reason) rows) ≡ pages_to_copy rows
left_turned t reason [] = refl
left_turned t reason (w ∷ ws) =
    let first = on_left (w.task.0 == t) reason w in
    let rest = left_turned t reason ws in
    omega (arith, first, rest)

-- it is to do something else

left_other : (t : ℕ) (what : Want) (rows : List Waiting) → entry rows t ≡ None → pages_to_copy (map (rewanted t what) rows) ≡ pages_to_copy rows
left_other t what [] none = refl
left_other t what (w ∷ ws) none = elim (eqb_tells w.task.0 t) [
  | inl same ↦ absurd (let bad : Some w ≡ None = rw same.0 at none in cc)
  | inr apart ↦
      let rest : entry ws t ≡ None = rw apart.0 at none in
      let later = left_other t what ws rest in
      rw apart.0 (omega (arith, later))
]

pub left_rewanted : (t : ℕ) (what : Want) (rows : List Waiting) (was : Waiting) → EachOnce rows → entry rows t ≡ Some was
    → pages_to_copy (map (rewanted t what) rows) + pages_left was.want ≡ pages_to_copy rows + pages_left what
left_rewanted t what [] was once is = absurd (let bad : None ≡ Some was = is in cc)
left_rewanted t what (w ∷ ws) was once is = elim (eqb_tells w.task.0 t) [
  | inl same ↦
      let it : w ≡ was = some_is w was (rw same.0 at is) in
      let its : pages_left w.want ≡ pages_left was.want = ap (λ (z : Waiting). pages_left z.want) it in
      let none : entry ws t ≡ None = ap (entry ws) (sym same.1) ∙ once.0 in
      let rest = left_other t what ws none in
      rw same.0 (omega (arith, its, rest))
  | inr apart ↦
      let rest : entry ws t ≡ Some was = rw apart.0 at is in
      let later = left_rewanted t what ws was once.1 rest in
      rw apart.0 (omega (arith, later))
]

-- it goes

pub without_less : (t : ℕ) (rows : List Waiting) → pages_to_copy (rows_without t rows) ≤ pages_to_copy rows
without_less t [] = omega arith
without_less t (w ∷ ws) =
    let later = without_less t ws in
    elim (eqb_tells w.task.0 t) [ inl same ↦ rw same.0 (omega (arith, later)) | inr apart ↦ rw apart.0 (omega (arith, later)) ]

-- as the calls say it: a row gets what is left to do, and waits for something else, or goes

pub left_goes_on : (t : ℕ) (what : Want) (old new : List Waiting) (was : Waiting) → EachOnce old → entry old t ≡ Some was → new ≡ map (rewanted t what) old
    → pages_to_copy new + pages_left was.want ≡ pages_to_copy old + pages_left what
left_goes_on t what old new was once is rows =
    subst (λ (z : List Waiting). pages_to_copy z + pages_left was.want ≡ pages_to_copy old + pages_left what) (sym rows) (left_rewanted t what old was once is)

pub left_turns : (t : ℕ) (what : Want) (reason : On) (old mid new : List Waiting) (was : Waiting) → EachOnce old → entry old t ≡ Some was
    → mid ≡ map (rewanted t what) old → new ≡ map (turned t reason) mid
    → pages_to_copy new + pages_left was.want ≡ pages_to_copy old + pages_left what
left_turns t what reason old mid new was once is rows turns =
    let first = left_goes_on t what old mid was once is rows in
    let same : pages_to_copy new ≡ pages_to_copy mid = ap pages_to_copy turns ∙ left_turned t reason mid in
    omega (arith, first, same)

pub left_turns_less : (t : ℕ) (what : Want) (reason : On) (old mid new : List Waiting) (was : Waiting) → EachOnce old → entry old t ≡ Some was
    → mid ≡ map (rewanted t what) old → new ≡ map (turned t reason) mid → pages_left what ≤ pages_left was.want
    → pages_to_copy new ≤ pages_to_copy old
left_turns_less t what reason old mid new was once is rows turns less =
    let even = left_turns t what reason old mid new was once is rows turns in
    omega (arith, even, less)

pub left_gone : (t : ℕ) (what : Want) (old mid new : List Waiting) (was : Waiting) → EachOnce old → entry old t ≡ Some was → mid ≡ map (rewanted t what) old
    → new ≡ rows_without t mid → pages_left what ≤ pages_left was.want → pages_to_copy new ≤ pages_to_copy old
left_gone t what old mid new was once is rows goes less =
    let first = left_goes_on t what old mid was once is rows in
    let rest : pages_to_copy new ≤ pages_to_copy mid = subst (λ (z : List Waiting). pages_to_copy z ≤ pages_to_copy mid) (sym goes) (without_less t mid) in
    omega (arith, first, rest, less)

-- one who wants a frame still has claimed one for each page that it made
pub joins_claimed : {maps : Mapped} {host : HostId} {task : TaskId} {may : Bool} {source : Option PageKey} {what last : Want} {s new : FaultState}
    (rows rows2 : List Waiting) → Runs maps host task may (step.NeedFrame source) what last s new
    → pages_to_copy rows2 + pages_left what ≡ pages_to_copy rows + pages_left last
    → claimed new.parts.frames + pages_to_copy rows2 ≡ claimed s.parts.frames + pages_to_copy rows
joins_claimed rows rows2 runs even =
    let made = claims_and_left (pagewise runs) in
    omega (arith, made, even)
