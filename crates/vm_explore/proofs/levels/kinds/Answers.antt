use Rattle.std.proofs.Common.{ℕ, ◌≡◌, ◌++◌, [], ◌∷◌, ◌∙◌, ap, get_or, sym, take}
use Rattle.std.specs.Global.{Vec}
use Rattle.std.proofs.lemmas.List.{take_more}
use Rattle.vm_free.specs.Orders.{occurrences}
use Rattle.vm_explore.proofs.Occurrences.{kind_added, kind_there}
use Rattle.vm_explore.proofs.levels.kinds.Goals.{then-occurrences-eq0+in_ok-push, else-occurrences-eq0}
use Rattle.vm_explore.proofs.levels.kinds.Goals as goal

pub loop-task-preserved : goal.loop-task-preserved
loop-task-preserved c =
    let tasks = c.args.tasks.now in
    let kinds = c.loop-task.kinds.items in
    let older = take c.loop-task.task-index tasks in
    let task = get_or tasks c.loop-task.task-index 0 in
    let longer = take_more tasks c.loop-task.task-index 0 c.loop-task-test.true in
    let counted : c.occurrences.result ≡ occurrences task kinds = c.occurrences.ensures ∙ ap (occurrences task) c.deref.ensures.value in
    λ t. rw longer (elim c.if-occurrences-eq0.branch [
      | then-occurrences-eq0+in_ok-push w ↦
          let is : c.if-occurrences-eq0.kinds.items ≡ kinds ++ task ∷ [] = ap (λ (v : Vec ℕ). v.items) w.kinds-is ∙ w.in_ok-push.ensures.items in
          rw is (kind_added kinds older task t (sym counted ∙ w.if-occurrences-eq0.true) (c.loop-task.invariant t))
      | else-occurrences-eq0 w ↦
          let is : c.if-occurrences-eq0.kinds.items ≡ kinds = ap (λ (v : Vec ℕ). v.items) w.kinds-is in
          rw is (kind_there kinds older task t (λ none. w.if-occurrences-eq0.false (counted ∙ none)) (c.loop-task.invariant t))
    ])
