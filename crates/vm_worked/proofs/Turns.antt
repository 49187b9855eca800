-- Each event of a canonical history comes in its turn.
use Rattle.std.proofs.Common.{◌≡◌, List, [], ◌∷◌, ◌++◌, Option, Some, None, MatchOption, sym, subst}
use Rattle.vm_base.specs.declared.code.Code.{Code}
use Rattle.vm_model.specs.declared.command.Command.{Command}
use Rattle.vm_model.specs.declared.command.Numbered.{Numbered}
use Rattle.vm_model.specs.declared.event.Event.{Event}
use Rattle.vm_model.specs.declared.event.Event.TheVariants as event
use Rattle.vm_model.specs.declared.script.Header.{Header}
use Rattle.vm_model.specs.Moments.{EachEvent}
use Rattle.vm_legal.specs.Follows.{head}
use Rattle.vm_legal.specs.InTurn.{AllInTurn, CausedInTurn, FollowsInTurn, IsRunInTurn}
use Rattle.vm_legal.specs.Outside.{Outside}
use Rattle.vm_legal.specs.Refusal.{refusal}

-- the event has its cause, and comes in its turn, whatever the command is in whose step it stands
abbrev pub HasTurn : Header → Outside → Event → List Event → Type 0
HasTurn header outside e past = (doing : Command) × CausedInTurn header outside doing e past

stretch : (header : Header) (outside : Outside) (why : Command) (group past : List Event) → AllInTurn header outside why group past
    → EachEvent (HasTurn header outside) past → EachEvent (HasTurn header outside) (group ++ past)
stretch header outside why [] past all turns = turns
stretch header outside why (e ∷ more) past all turns = ((why, all.0.0), stretch header outside why more past all.1 turns)

-- behind its line: what a command makes, or its refusal
group_turns : (header : Header) (outside : Outside) (past : List Event) (numbered : Numbered) (group : List Event) (refused : Option Code)
    (first : Option (List Event))
    → MatchOption refused (MatchOption first ⊥ (λ events. IsRunInTurn header outside past numbered events group)) (λ code. group ≡ event.Refused code ∷ [])
    → EachEvent (HasTurn header outside) past → EachEvent (HasTurn header outside) (group ++ event.Line numbered.line ∷ past)
group_turns header outside past numbered group None None is turns = absurd is
group_turns header outside past numbered group None (Some events) run turns =
    stretch header outside numbered.command group (event.Line numbered.line ∷ past) run.licensed ((numbered.command, tt), turns)
group_turns header outside past numbered group (Some code) first is turns =
    subst (λ (g : List Event). EachEvent (HasTurn header outside) (g ++ event.Line numbered.line ∷ past)) (sym is)
    ((numbered.command, tt), ((numbered.command, tt), turns))

pub each_in_turn : (header : Header) (outside : Outside) (commands : List Numbered) (history : List Event) → FollowsInTurn header outside commands history
    → EachEvent (HasTurn header outside) history
each_in_turn header outside [] history is = subst (λ (h : List Event). EachEvent (HasTurn header outside) h) (sym is) tt
each_in_turn header outside (numbered ∷ before) history (past, group, is, made, done, follows) =
    subst (λ (h : List Event). EachEvent (HasTurn header outside) h) (sym is)
    (group_turns header outside past numbered group (refusal header past numbered.command) (head header past numbered.command) made
    (each_in_turn header outside before past follows))
