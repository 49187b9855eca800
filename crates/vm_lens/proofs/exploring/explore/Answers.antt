use Rattle.std.proofs.Common.{Any, List, ap, arith, length, subst, sym, ℕ, ◌∙◌, ◌≡◌}
use Rattle.std.specs.Global.{Vec}
use Rattle.std.specs.List.{All}
use Rattle.std.proofs.lemmas.Bool.{both_ways, not-true}
use Rattle.vm_explore.specs.Levels.{IsOrderOf}
use Rattle.vm_litmus.specs.Parts.{tasks_of}
use Rattle.vm_litmus.specs.declared.parts.FreeAccess.{FreeAccess}
use Rattle.vm_lens.specs.Exploring.{Gives}
use Rattle.vm_lens.proofs.Explored.{explored}
use Rattle.vm_lens.proofs.exploring.explore.Goals as goal
use Rattle.vm_lens.proofs.exploring.explore.Goals.{then-shared, else-shared}

pub returns : goal.returns
returns c =
    let script = c.args.script.now in
    let lines = c.explore_orders.new.table in
    let all = c.in_ok-all.all.items in
    let P : List FreeAccess → Type 0 = λ z. (order : List ℕ) → IsOrderOf (tasks_of z) order → Any (λ it. it.items ≡ order) all in
    let Q : List (Vec ℕ) → Type 0 = λ z. All (λ it. Any (Gives script c.setup_of-setup.result c.in_ok-start.start.items it.items) lines) z in
    explored script _ lines all c.in_ok-shared.shared c.requires
    c.into_rows.ensures
    c.setup_of-setup.ensures.ends
    c.in_ok-start.ensures
    c.in_ok-accesses.ensures
    c.in_ok-shared.ensures.shown
    (subst P c.deref.ensures.value c.in_ok-all.ensures.all)
    (subst Q c.deref-3.ensures.value c.in_ok-shared.ensures.given)
    (c.in_ok-shared.ensures.times ∙ ap length c.deref-3.ensures.value)
    (omega (arith, c.len.ensures, c.deref-3.ensures.len, ap length c.deref-3.ensures.value))
    (λ is. elim c.if-shared.branch [
      | then-shared w ↦ w.if-shared.true
      | else-shared w ↦ absurd (both_ways c.if-shared.result (w.result-is ∙ w.if-shared.false) is)
    ])
    (λ is. elim c.if-shared.branch [
      | then-shared w ↦ w.has_wild.ensures.none (not-true w.has_wild.result (sym w.result-is ∙ is))
      | else-shared w ↦ absurd (both_ways c.if-shared.result (w.result-is ∙ w.if-shared.false) is)
    ])
