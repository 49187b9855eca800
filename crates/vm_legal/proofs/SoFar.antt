-- Where a history is legal so far its last pageout is whole.
use Rattle.std.proofs.Common.{◌≡◌, ◌⊎◌, ℕ, ◌<◌, List, [], ◌∷◌, ◌++◌, Option, Some, None, MatchOption, append-nil, sym, ◌∙◌, subst, arith, inl, inr}
use Rattle.std.specs.Prelude.{IfNone}
use Rattle.vm_base.specs.declared.code.Code.{Code}
use Rattle.vm_base.specs.declared.ids.HostId.{HostId}
use Rattle.vm_model.specs.declared.command.Command.TheVariants as command
use Rattle.vm_model.specs.declared.command.Numbered.{Numbered}
use Rattle.vm_model.specs.declared.event.Event.{Event}
use Rattle.vm_model.specs.declared.event.Event.TheVariants as event
use Rattle.vm_model.specs.declared.script.Header.{Header}
use Rattle.vm_legal.specs.Follows.{FollowsSoFar, HasPagedOut, IsDoneSoFar, IsConsequence, IsRun, IsWholeSoFar}
use Rattle.vm_legal.specs.Outside.{Outside}
use Rattle.vm_legal.specs.Prompt.{IsExhausted}
use Rattle.vm_legal.specs.Refusal.{refusal}
use Rattle.vm_legal.specs.Steps.{departures}
use Rattle.vm_legal.specs.Stretches.{EachIn}

-- no line stands in the group of a pageout
no_line : (header : Header) (outside : Outside) (past : List Event) (numbered : Numbered) (line : ℕ) (more : List Event) (refused : Option Code)
    → MatchOption refused (IsRun header outside past numbered [] (event.Line line ∷ more)) (λ code. event.Line line ∷ more ≡ event.Refused code ∷ []) → ⊥
no_line header outside past numbered line more None run =
    let same : event.Line line ∷ more ≡ run.more = run.is ∙ append-nil run.more in
    let each : EachIn IsConsequence (event.Line line ∷ more) (event.Line numbered.line ∷ past) = subst
    (λ (z : List Event). EachIn IsConsequence z (event.Line numbered.line ∷ past)) (sym same) run.follows in each.0
no_line header outside past numbered line more (Some code) is = absurd (cc)

-- it wants a page, and has reclaimed none
none_gone : (header : Header) (host line count : ℕ) (past : List Event) → 0 < count
    → (IsExhausted header host (event.Line line ∷ past) (event.Line line ∷ past) → ⊥) → HasPagedOut header host count [] (event.Line line ∷ past) → ⊥
none_gone header host line count past some left done = by_front done.later done.front done.is done.enough
  where
    by_front : (later front : List Event) → [] ≡ later ++ front → (departures host (front ++ event.Line line ∷ past) ≡ count)
        ⊎ IsExhausted header host (event.Line line ∷ past) (front ++ event.Line line ∷ past) → ⊥
    by_front [] [] is (inl all) = absurd (omega (arith, all, some))
    by_front [] [] is (inr empty) = left empty
    by_front [] (e ∷ front) is enough = absurd (cc)
    by_front (e ∷ later) front is enough = absurd (cc)

pub unfinished : (header : Header) (outside : Outside) (line count : ℕ) (at : HostId) (run : List Numbered) (past : List Event) → 0 < count
    → refusal header past (command.Pageout at count) ≡ None
    → (IsExhausted header at.0 (event.Line line ∷ past) (event.Line line ∷ past) → ⊥)
    → FollowsSoFar header outside (record { line = line; command = command.Pageout at count } ∷ run) (event.Line line ∷ past) → ⊥
unfinished header outside line count at run past some fine left (front, [], is, made, whole, follows) =
    let numbered : Numbered = record { line = line; command = command.Pageout at count } in
    let same : front ≡ past = cc in
    let here : IsWholeSoFar header past numbered [] = subst (λ (z : List Event). IsWholeSoFar header z numbered []) same whole in
    let done : HasPagedOut header at.0 count [] (event.Line line ∷ past) = subst (λ r. IfNone r
    (IsDoneSoFar header (command.Pageout at count) [] (event.Line line ∷ past))) fine here in
    none_gone header at.0 line count past some left done
unfinished header outside line count at run past some fine left (front, e ∷ more, is, made, whole, follows) =
    let numbered : Numbered = record { line = line; command = command.Pageout at count } in
    let first : e ≡ event.Line line = cc in
    no_line header outside front numbered line more (refusal header front (command.Pageout at count))
    (subst (λ (z : Event). MatchOption (refusal header front (command.Pageout at count)) (IsRun header outside front numbered [] (z ∷ more))
    (λ code. z ∷ more ≡ event.Refused code ∷ [])) first made)
