-- What a settle adds keeps to what each event of a history keeps to.
use Rattle.std.proofs.Common.{ℕ, ◌≡◌, ◌++◌, ◌∙◌, true, false, List, [], ◌∷◌, MatchOption, Option, Some, None, inl, inr, refl, subst, sym}
use Rattle.vm_base.specs.declared.code.Code.{Code}
use Rattle.vm_bound.proofs.Grown.{Grown, IsNew}
use Rattle.vm_bound.specs.Settles.{HasEnded, IsOnHosts, IsSettle, MayCome}
use Rattle.vm_flat.proofs.Heads.{Orderly, copier, orderly, owed_entry}
use Rattle.vm_abroad.proofs.Heads.{entered, none_open}
use Rattle.vm_legal.proofs.Groups.{open_of, whole}
use Rattle.vm_legal.proofs.Owing.{behind_none}
use Rattle.vm_legal.proofs.Turns.{any_cut}
use Rattle.vm_legal.specs.Bytes.{CopiesCurrent}
use Rattle.vm_legal.specs.Debts.{IsPaid}
use Rattle.vm_legal.specs.Follows.{Follows, FollowsAnyCut, FollowsSoFar, IsGroup, IsRun, head}
use Rattle.vm_legal.specs.Homes.{EntersNext}
use Rattle.vm_legal.specs.Licences.{AllLicensed, IsBehind, Licensed, owed}
use Rattle.vm_legal.specs.Outside.{Outside}
use Rattle.vm_legal.specs.Refusal.{refusal}
use Rattle.vm_legal.specs.Stretches.{EachIn}
use Rattle.vm_model.specs.Moments.{BeforeSteps, EachEvent}
use Rattle.vm_model.specs.declared.command.Command.{Command}
use Rattle.vm_model.specs.declared.command.Command.TheVariants as command
use Rattle.vm_model.specs.declared.command.Numbered.{Numbered}
use Rattle.vm_model.specs.declared.event.Event.{Event}
use Rattle.vm_model.specs.declared.event.Event.TheVariants as event
use Rattle.vm_model.specs.declared.script.Header.{Header}

-- no region waits for its entry
abbrev pub AreShut : List Event → Type 0
AreShut past = (r : ℕ) → IsNew r past → ⊥

pub shut_next : (e : Event) (past : List Event) → MayCome e past → AreShut (e ∷ past)
shut_next (event.RegionMade region object pages) past may r new = may.0
shut_next (event.RegionCopied region source offset pages) past may r new = may.0
shut_next (event.Delayed region source offset pages copy) past may r new = may.0
shut_next e past may r (inl is) = let bad : false ≡ true = is in cc
shut_next e past may r (inr is) = let bad : false ≡ true = is in cc

order_next : (e : Event) (past : List Event) → MayCome e past → EachEvent Orderly past → AreShut past → Orderly e past
order_next (event.TaskMade task host) past may each shut = absurd may.0
order_next (event.BegunCopy task address bytes to) past may each shut = absurd may.0
order_next (event.Entered task address bytes region offset prot inherit) past may each shut =
    let c = owed_entry task address bytes region offset prot inherit past may.0 in
    let front : EachEvent Orderly (event.CopyEnded c.owner ∷ c.before) = subst (EachEvent Orderly) c.is each in (
      λ r is. absurd (shut r (inr is)),
      (copier c.owner.0 c.from bytes address c.before front.1 c.waits).1,
    )
order_next e past may each shut = (λ r is. absurd (shut r (inr is)), tt)

pub grown_next : (header : Header) (outside : Outside) (n : ℕ) (e : Event) (past : List Event) → Licensed header outside (command.Settle n) e past
    → MayCome e past → IsOnHosts header e past → CopiesCurrent header outside e past → AreShut past → Grown header outside past
    → Grown header outside (e ∷ past)
grown_next header outside n e past licensed may host current shut grown =
    record {
      causes = ((command.Settle n, licensed.0), grown.causes);
      current = (current, grown.current);
      hosts = (host, grown.hosts);
      orderly = (order_next e past may grown.orderly shut, grown.orderly);
      enters = (λ r is. absurd (shut r (inl is)), grown.enters);
      behind = (licensed.1, grown.behind);
    }

-- behind the line of a command
pub grown_line : (header : Header) (outside : Outside) (line : ℕ) (past : List Event) → owed past ≡ None → AreShut past → Grown header outside past
    → Grown header outside (event.Line line ∷ past)
grown_line header outside line past none shut grown =
    record {
      causes = ((command.Settle 0, tt), grown.causes);
      current = (tt, grown.current);
      hosts = (tt, grown.hosts);
      orderly = ((λ r is. absurd (shut r (inr is)), tt), grown.orderly);
      enters = (λ r is. absurd (shut r (inl is)), grown.enters);
      behind = (behind_none (event.Line line) past none, grown.behind);
    }

pub shut_line : (line : ℕ) (past : List Event) → AreShut (event.Line line ∷ past)
shut_line line past r (inl is) = let bad : false ≡ true = is in cc
shut_line line past r (inr is) = let bad : false ≡ true = is in cc

pub shut_all : (events past : List Event) → EachIn MayCome events past → AreShut past → AreShut (events ++ past)
shut_all [] past may shut = shut
shut_all (e ∷ events) past may shut = shut_next e (events ++ past) may.0

pub grown_all : (header : Header) (outside : Outside) (n : ℕ) (events past : List Event) → AllLicensed header outside (command.Settle n) events past
    → EachIn MayCome events past → EachEvent (IsOnHosts header) (events ++ past) → EachEvent (CopiesCurrent header outside) (events ++ past) → AreShut past
    → Grown header outside past → Grown header outside (events ++ past)
grown_all header outside n [] past licensed may hosts current shut grown = grown
grown_all header outside n (e ∷ events) past licensed may hosts current shut grown =
    grown_next header outside n e (events ++ past) licensed.0 may.0 hosts.0 current.0 (shut_all events past may.1 shut)
    (grown_all header outside n events past licensed.1 may.1 hosts.1 current.1 shut grown)

-- a whole settle
pub grown_settle : (header : Header) (outside : Outside) (count line : ℕ) (group past : List Event) → HasEnded header outside past
    → IsSettle header outside count line group past → EachEvent (CopiesCurrent header outside) (group ++ event.Line line ∷ past) → AreShut past
    → Grown header outside past → Grown header outside (group ++ event.Line line ∷ past)
grown_settle header outside count line group past over settle current shut grown =
    grown_all header outside count group (event.Line line ∷ past) settle.licensed settle.follows settle.hosts current (shut_line line past)
    (grown_line header outside line past over.paid.none_owed shut grown)

-- where a line may stand no region waits for its entry
pub shut_of : (line : ℕ) (past : List Event) → Orderly (event.Line line) past → EntersNext (event.Line line) past → AreShut past
shut_of line past order next r (inl is) = let bad : false ≡ true = next r is in cc
shut_of line past order next r (inr is) = let bad : false ≡ true = order.0 r is in cc

-- each event of a history that commands made stands behind what it may

pub steps_behind : (P : List Event → Type 0) (events past : List Event) → BeforeSteps P (events ++ past) → BeforeSteps P past
steps_behind P [] past steps = steps
steps_behind P (event.Line line ∷ events) past steps = steps_behind P events past steps.1
steps_behind P (event.Taken channel m ∷ events) past steps = steps_behind P events past steps.1
steps_behind P (e ∷ events) past steps = steps_behind P events past steps

licensed_behind : (header : Header) (outside : Outside) (why : Command) (group past : List Event) → AllLicensed header outside why group past
    → EachEvent IsBehind past → EachEvent IsBehind (group ++ past)
licensed_behind header outside why [] past licensed each = each
licensed_behind header outside why (e ∷ group) past licensed each = (licensed.0.1, licensed_behind header outside why group past licensed.1 each)

group_behind : (header : Header) (outside : Outside) (past : List Event) (numbered : Numbered) (group : List Event) (refused : Option Code)
    (first : Option (List Event))
    → MatchOption refused (MatchOption first ⊥ (λ events. IsRun header outside past numbered events group)) (λ code. group ≡ event.Refused code ∷ [])
    → EachEvent IsBehind (event.Line numbered.line ∷ past) → EachEvent IsBehind (group ++ event.Line numbered.line ∷ past)
group_behind header outside past numbered group None None is each = absurd is
group_behind header outside past numbered group None (Some events) run each =
    licensed_behind header outside numbered.command group (event.Line numbered.line ∷ past) run.licensed each
group_behind header outside past numbered group (Some code) first is each =
    subst (λ (g : List Event). EachEvent IsBehind (g ++ event.Line numbered.line ∷ past)) (sym is) (tt, each)

with_group : (header : Header) (outside : Outside) (past : List Event) (numbered : Numbered) (group history : List Event)
    → history ≡ group ++ event.Line numbered.line ∷ past → IsGroup header outside past numbered group → BeforeSteps (IsPaid header) history
    → (BeforeSteps (IsPaid header) past → EachEvent IsBehind past) → EachEvent IsBehind history
with_group header outside past numbered group history is made paid earlier =
    let steps : IsPaid header past × BeforeSteps (IsPaid header) past = steps_behind (IsPaid header) group (event.Line numbered.line ∷ past)
    (subst (BeforeSteps (IsPaid header)) is paid) in
    subst (EachEvent IsBehind) (sym is) (group_behind header outside past numbered group (refusal header past numbered.command)
    (head header past numbered.command) made (behind_none (event.Line numbered.line) past steps.0.none_owed, earlier steps.1))

behind_whole : (header : Header) (outside : Outside) (commands : List Numbered) (history : List Event) → Follows header outside commands history
    → BeforeSteps (IsPaid header) history → EachEvent IsBehind history
behind_whole header outside [] history is paid = subst (EachEvent IsBehind) (sym is) tt
behind_whole header outside (numbered ∷ before) history (past, group, is, made, done, follows) paid =
    with_group header outside past numbered group history is made paid (behind_whole header outside before past follows)

pub each_behind : (header : Header) (outside : Outside) (commands : List Numbered) (history : List Event) → FollowsSoFar header outside commands history
    → BeforeSteps (IsPaid header) history → EachEvent IsBehind history
each_behind header outside [] history is paid = subst (EachEvent IsBehind) (sym is) tt
each_behind header outside (numbered ∷ before) history (past, group, is, made, done, follows) paid =
    with_group header outside past numbered group history is made paid (behind_whole header outside before past follows)

-- so does what whole commands made

-- a settle may come next
settle_next : (header : Header) (outside : Outside) (commands : List Numbered) (history : List Event) → Follows header outside commands history
    → FollowsAnyCut header outside (record { line = 1; command = command.Settle 0 } ∷ commands) (event.Line 1 ∷ history)
settle_next header outside commands history follows = (
  history,
  [],
  refl,
  inl (record { more = []; is = refl; follows = tt; licensed = tt }),
  follows,
)

pub whole_shut : (header : Header) (outside : Outside) (commands : List Numbered) (history : List Event) → Follows header outside commands history
    → AreShut history
whole_shut header outside commands history follows r (inl is) =
    let bad : false ≡ true = sym (none_open header outside commands history (open_of header outside commands history follows) r) ∙ is in cc
whole_shut header outside commands history follows r (inr is) =
    let each = orderly header outside (record { line = 1; command = command.Settle 0 } ∷ commands) (event.Line 1 ∷ history)
    (settle_next header outside commands history follows) in
    let bad : false ≡ true = each.0.0 r is in cc

pub whole_grown : (header : Header) (outside : Outside) (commands : List Numbered) (history : List Event) → Follows header outside commands history
    → BeforeSteps (IsPaid header) history → EachEvent (IsOnHosts header) history → EachEvent (CopiesCurrent header outside) history
    → Grown header outside history
whole_grown header outside commands history follows paid hosts current =
    let open_history = open_of header outside commands history follows in
    record {
      causes = whole header outside commands history follows;
      current = current;
      hosts = hosts;
      orderly = orderly header outside commands history (any_cut header outside commands history open_history);
      enters = entered header outside commands history open_history;
      behind = each_behind header outside commands history open_history paid;
    }
