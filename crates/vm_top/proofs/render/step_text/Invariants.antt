use Rattle.std.proofs.Common.{◌≡◌, ◌≤◌, ◌++◌, length}
use Rattle.vm_model.specs.Text.{text}
use Rattle.vm_top.specs.Writing.{oldest_items}
use Rattle.vm_top.proofs.render.step_text.Given as goal

abbrev pub invariant-loop-i : goal.invariant-loop-i
invariant-loop-i l = record {
  inside : l.i ≤ length l.history.items;
  goes_on : text (oldest_items l.from l.history.items) ++ l.lines ≡ text (oldest_items l.i l.history.items);
}
