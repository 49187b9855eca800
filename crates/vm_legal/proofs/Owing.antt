-- What is owed behind an event, and what stands behind the end of a slow copy.
use Rattle.std.proofs.Common.{◌≡◌, ℕ, List, [], ◌∷◌, ◌++◌, Option, Some, None, MatchOption, ap, sym, ◌∙◌, subst, true, reverse}
use Rattle.std.proofs.lemmas.List.{append_cancel_right}
use Rattle.std.proofs.lemmas.Option.{none-some}
use Rattle.vm_base.specs.declared.ids.Inherit.{Inherit}
use Rattle.vm_base.specs.declared.ids.Inherit.TheVariants.{Copy}
use Rattle.vm_base.specs.declared.ids.Prot.{Prot}
use Rattle.vm_base.specs.declared.ids.RegionId.{RegionId}
use Rattle.vm_base.specs.declared.ids.TaskId.{TaskId}
use Rattle.vm_model.specs.declared.command.Command.{Command}
use Rattle.vm_model.specs.declared.command.Numbered.{Numbered}
use Rattle.vm_model.specs.declared.event.Event.{Event}
use Rattle.vm_model.specs.declared.event.Event.TheVariants as event
use Rattle.vm_model.specs.declared.script.Header.{Header}
use Rattle.vm_model.specs.Waiting.{Access, Copying, Target, copy_target, waiting}
use Rattle.vm_legal.specs.Debts.{IsPaid}
use Rattle.vm_legal.specs.Follows.{IsConsequence, IsRun}
use Rattle.vm_legal.specs.Licences.{EntryOf, IsBehind, IsOwed, Licensed, Owed, Pays, entry_of, owed}
use Rattle.vm_legal.specs.Outside.{Outside}
use Rattle.vm_legal.specs.Stretches.{EachIn}

-- where nothing is owed any event may stand
pub behind_none : (e : Event) (past : List Event) → owed past ≡ None → IsBehind e past
behind_none e past none = subst (λ (x : Option Owed). MatchOption x (Unit {0}) (λ due. Pays due e)) (sym none) tt

-- the end of a slow copy owes its entry
pub owes_entry : (task : TaskId) (address bytes to : ℕ) (target : Target) (past : List Event) → waiting task.0 past ≡ Some (Copying address bytes to)
    → copy_target task.0 past ≡ Some target
    → owed (event.CopyEnded task ∷ past) ≡ Some (EntryOf (record { task = task; address = to; bytes = bytes; region = target.region }))
owes_entry task address bytes to target past waits filled =
    ap (λ (x : Option Access). entry_of task x (copy_target task.0 past)) waits
    ∙ ap (λ (x : Option Target). entry_of task (Some (Copying address bytes to)) x) filled

pub behind : (header : Header) (outside : Outside) (doing : Command) (task : TaskId) (address bytes to : ℕ) (target : Target) (e : Event) (past : List Event)
    → waiting task.0 past ≡ Some (Copying address bytes to) → copy_target task.0 past ≡ Some target
    → Licensed header outside doing e (event.CopyEnded task ∷ past)
    → e ≡ event.Entered task to bytes (record { 0 = target.region }) 0 (record { read = true; write = true }) Copy
behind header outside doing task address bytes to target e past waits filled licensed =
    subst (λ (x : Option Owed). MatchOption x (Unit {0}) (λ due. Pays due e)) (owes_entry task address bytes to target past waits filled) licensed.1

pub unpaid : (header : Header) (task : TaskId) (address bytes to : ℕ) (target : Target) (past : List Event)
    → waiting task.0 past ≡ Some (Copying address bytes to) → copy_target task.0 past ≡ Some target
    → IsPaid header (event.CopyEnded task ∷ past) → ⊥
unpaid header task address bytes to target past waits filled paid = none-some _ (sym paid.none_owed ∙ owes_entry task address bytes to target past waits filled)

-- an event inside a stretch is such
in_middle : (P : Event → List Event → Type 0) (more before past : List Event) (e : Event) → EachIn P (more ++ e ∷ before) past → P e (before ++ past)
in_middle P [] before past e each = each.0
in_middle P (x ∷ more) before past e each = in_middle P more before past e each.1

unowed : (e : Event) (past : List Event) → owed past ≡ None → IsOwed e past → ⊥
unowed e past none is = subst (λ (x : Option Owed). MatchOption x ⊥ (λ due. Pays due e)) none is

pub alone : (header : Header) (outside : Outside) (past : List Event) (numbered : Numbered) (first more before : List Event) (task : TaskId) (address bytes : ℕ)
    (region : RegionId) (offset : ℕ) (prot : Prot) (inherit : Inherit)
    → owed (before ++ (reverse first ++ event.Line numbered.line ∷ past)) ≡ None
    → IsRun header outside past numbered first ((more ++ event.Entered task address bytes region offset prot inherit ∷ before) ++ reverse first) → ⊥
alone header outside past numbered first more before task address bytes region offset prot inherit none run =
    let e : Event = event.Entered task address bytes region offset prot inherit in
    let same : more ++ e ∷ before ≡ run.more = append_cancel_right (more ++ e ∷ before) run.more (reverse first) run.is in
    unowed e (before ++ (reverse first ++ event.Line numbered.line ∷ past)) none
    (in_middle IsConsequence more before (reverse first ++ event.Line numbered.line ∷ past) e
    (subst (λ (z : List Event). EachIn IsConsequence z (reverse first ++ event.Line numbered.line ∷ past)) (sym same) run.follows))
