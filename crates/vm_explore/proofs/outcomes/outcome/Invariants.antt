use Rattle.std.proofs.Common.{ℕ, ◌≡◌, ◌++◌, length, take}
use Rattle.vm_explore.specs.Outcomes.{loaded_by, values_of}
use Rattle.vm_explore.proofs.outcomes.outcome.Given as goal

abbrev pub invariant-loop-task : goal.invariant-loop-task
invariant-loop-task l = record {
  long : length l.values.items ≡ l.task-index;
  gave : (t : ℕ) → values_of t (take l.task-index l.loads) l.values.items ++ loaded_by t l.left.items ≡ loaded_by t l.loaded;
}
