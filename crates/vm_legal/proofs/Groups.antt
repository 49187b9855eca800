-- Each event of a history that the commands made has its cause.
use Rattle.std.proofs.Common.{◌≡◌, List, [], ◌∷◌, ◌++◌, Option, Some, None, MatchOption, sym, subst, inl, inr, ◌⊎◌}
use Rattle.std.specs.Prelude.{IfNone}
use Rattle.vm_base.specs.declared.code.Code.{Code}
use Rattle.vm_model.specs.declared.command.Command.{Command}
use Rattle.vm_model.specs.declared.command.Command.TheVariants as command
use Rattle.vm_model.specs.declared.command.Numbered.{Numbered}
use Rattle.vm_model.specs.declared.event.Event.{Event}
use Rattle.vm_model.specs.declared.event.Event.TheVariants as event
use Rattle.vm_model.specs.declared.script.Header.{Header}
use Rattle.vm_model.specs.Moments.{EachEvent}
use Rattle.vm_legal.specs.Follows.{Follows, FollowsAnyCut, FollowsBy, FollowsSoFar, FollowsSoFarBy, IsBegun, IsDone, IsGroup, IsRun, SoFarBy, head}
use Rattle.vm_legal.specs.Licences.{AllLicensed, HasCause}
use Rattle.vm_legal.specs.Outside.{Outside}
use Rattle.vm_legal.specs.Refusal.{refusal}

stretch : (header : Header) (outside : Outside) (why : Command) (group past : List Event) → AllLicensed header outside why group past
    → EachEvent (HasCause header outside) past → EachEvent (HasCause header outside) (group ++ past)
stretch header outside why [] past licensed caused = caused
stretch header outside why (e ∷ more) past licensed caused = ((why, licensed.0.0), stretch header outside why more past licensed.1 caused)

-- behind its line: what a command makes, or its refusal
group_caused : (header : Header) (outside : Outside) (past : List Event) (numbered : Numbered) (group : List Event) (refused : Option Code)
    (first : Option (List Event))
    → MatchOption refused (MatchOption first ⊥ (λ events. IsRun header outside past numbered events group)) (λ code. group ≡ event.Refused code ∷ [])
    → EachEvent (HasCause header outside) past → EachEvent (HasCause header outside) (group ++ event.Line numbered.line ∷ past)
group_caused header outside past numbered group None None is caused = absurd is
group_caused header outside past numbered group None (Some events) run caused =
    stretch header outside numbered.command group (event.Line numbered.line ∷ past) run.licensed ((numbered.command, tt), caused)
group_caused header outside past numbered group (Some code) first is caused =
    subst (λ (g : List Event). EachEvent (HasCause header outside) (g ++ event.Line numbered.line ∷ past)) (sym is)
    ((numbered.command, tt), ((numbered.command, tt), caused))

with_group : (header : Header) (outside : Outside) (past : List Event) (numbered : Numbered) (group history : List Event)
    → history ≡ group ++ event.Line numbered.line ∷ past → IsGroup header outside past numbered group
    → EachEvent (HasCause header outside) past → EachEvent (HasCause header outside) history
with_group header outside past numbered group history is made caused =
    subst (λ (h : List Event). EachEvent (HasCause header outside) h) (sym is) (group_caused header outside past numbered group
    (refusal header past numbered.command) (head header past numbered.command) made caused)

pub whole : (header : Header) (outside : Outside) (commands : List Numbered) (history : List Event) → Follows header outside commands history
    → EachEvent (HasCause header outside) history
whole header outside [] history is = subst (λ (h : List Event). EachEvent (HasCause header outside) h) (sym is) tt
whole header outside (numbered ∷ before) history (past, group, is, made, done, follows) =
    with_group header outside past numbered group history is made (whole header outside before past follows)

pub so_far : (header : Header) (outside : Outside) (commands : List Numbered) (history : List Event) → FollowsSoFar header outside commands history
    → EachEvent (HasCause header outside) history
so_far header outside [] history is = subst (λ (h : List Event). EachEvent (HasCause header outside) h) (sym is) tt
so_far header outside (numbered ∷ before) history (past, group, is, made, done, follows) =
    with_group header outside past numbered group history is made (whole header outside before past follows)

-- and what follows them whole does so as far as it goes

done_so_far : (done : Command → List Event → List Event → Type 0) (doing : Command) (group past : List Event) → done doing group past
    → SoFarBy done doing group past
done_so_far done (command.Settle count) group past is = tt
done_so_far done other group past is = is

whole_so_far : (done : Command → List Event → List Event → Type 0) (refused : Option Code) (doing : Command) (group past : List Event)
    → IfNone refused (done doing group past) → IfNone refused (SoFarBy done doing group past)
whole_so_far done None doing group past is = done_so_far done doing group past is
whole_so_far done (Some code) doing group past is = tt

pub open_by : (header : Header) (all done : Command → List Event → List Event → Type 0) (commands : List Numbered) (history : List Event)
    → FollowsBy all done header commands history → FollowsSoFarBy all done header commands history
open_by header all done [] history is = is
open_by header all done (numbered ∷ before) history (past, group, is, made, whole, follows) =
    (past, group, is, made, whole_so_far done (refusal header past numbered.command) numbered.command group (event.Line numbered.line ∷ past) whole, follows)

pub open_of : (header : Header) (outside : Outside) (commands : List Numbered) (history : List Event) → Follows header outside commands history
    → FollowsSoFar header outside commands history
open_of header outside commands history follows = open_by header (AllLicensed header outside) (IsDone header) commands history follows

-- wherever the history ends

begun_caused : (header : Header) (outside : Outside) (past : List Event) (numbered : Numbered) (group : List Event) (refused : Option Code)
    (first : Option (List Event))
    → MatchOption refused
    (MatchOption first ⊥ (λ events. IsRun header outside past numbered events group
    ⊎ (IsBegun events group × AllLicensed header outside numbered.command group (event.Line numbered.line ∷ past))))
    (λ code. (group ≡ []) ⊎ (group ≡ event.Refused code ∷ []))
    → EachEvent (HasCause header outside) past → EachEvent (HasCause header outside) (group ++ event.Line numbered.line ∷ past)
begun_caused header outside past numbered group None None is caused = absurd is
begun_caused header outside past numbered group None (Some events) (inl run) caused =
    group_caused header outside past numbered group None (Some events) run caused
begun_caused header outside past numbered group None (Some events) (inr begun) caused =
    stretch header outside numbered.command group (event.Line numbered.line ∷ past) begun.1 ((numbered.command, tt), caused)
begun_caused header outside past numbered group (Some code) first (inl none) caused =
    subst (λ (g : List Event). EachEvent (HasCause header outside) (g ++ event.Line numbered.line ∷ past)) (sym none) ((numbered.command, tt), caused)
begun_caused header outside past numbered group (Some code) first (inr is) caused = group_caused header outside past numbered group (Some code) first is caused

pub any_cut_caused : (header : Header) (outside : Outside) (commands : List Numbered) (history : List Event) → FollowsAnyCut header outside commands history
    → EachEvent (HasCause header outside) history
any_cut_caused header outside [] history is = subst (λ (h : List Event). EachEvent (HasCause header outside) h) (sym is) tt
any_cut_caused header outside (numbered ∷ before) history (past, group, is, made, follows) =
    subst (λ (h : List Event). EachEvent (HasCause header outside) h) (sym is)
    (begun_caused header outside past numbered group (refusal header past numbered.command) (head header past numbered.command) made
    (whole header outside before past follows))
