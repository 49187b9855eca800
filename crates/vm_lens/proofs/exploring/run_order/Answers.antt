use Rattle.std.proofs.Common.{List, length, subst, sym, ℕ, ◌∙◌}
use Rattle.std.specs.Prelude.{IfSome, Option}
use Rattle.std.specs.Global.{Vec}
use Rattle.std.specs.List.{All}
use Rattle.std.proofs.lemmas.Bool.{both_ways}
use Rattle.vm_seen.specs.Behind.{later_of}
use Rattle.vm_litmus.specs.Parts.{loads_of, tasks_of}
use Rattle.vm_litmus.specs.declared.parts.FreeAccess.{FreeAccess}
use Rattle.vm_lens.specs.Exploring.{AreLoaded, IsOnShared}
use Rattle.vm_lens.proofs.Runs.{legal_run, shown_by}
use Rattle.vm_lens.proofs.exploring.run_order.Goals as goal
use Rattle.vm_lens.proofs.exploring.run_order.Goals.{then-in_order, else-in_order}

pub returns-in-Some : goal.returns-in-Some
returns-in-Some c =
    let script = c.args.script.now in
    let start = c.args.start.now.items in
    let history = c.in_ok-ran.ran.history.items in
    let later = later_of (length start) history in
    let values = c.in-Some.values in
    let P : Option (Vec ℕ) → Type 0 = λ z. IfSome z (λ values. AreLoaded (tasks_of (loads_of c.args.accesses.now)) later values.items) in
    let Q : List FreeAccess → Type 0 = λ z. AreLoaded (tasks_of (loads_of z)) later values.items in
    let R : ℕ → Type 0 = λ n. All (IsOnShared script.header) (later_of n history) in
    elim c.if-in_order.branch [
      | then-in_order w ↦
          let ordered = w.if-in_order.true in
          let same = sym w.is_run-is ∙ c.if-is_run.true in
          shown_by script c.args.setup start history c.args.order.now values.items 1 c.ended_on_shared.result
          (legal_run script.header c.in_ok-ran.ran.script history c.in_ok-ran.ensures (λ run held. w.has_header-is_run.ensures run held same))
          (c.in_ok-in_order.ensures.begins ordered)
          (c.in_ok-in_order.ensures.goes ordered)
          (c.in_ok-in_order.ensures.ended ordered)
          (subst Q c.requires.accesses (subst P c.in-Some.is c.in_ok-values.ensures))
          (λ is. subst R c.len.ensures (c.ended_on_shared.ensures is))
      | else-in_order w ↦ absurd (both_ways c.if-in_order.is_run (w.is_run-is ∙ w.if-in_order.false) c.if-is_run.true)
    ]
