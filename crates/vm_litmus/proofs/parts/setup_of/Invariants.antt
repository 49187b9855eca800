use Rattle.std.proofs.Common.{◌≡◌, ◌≤◌, length, false}
use Rattle.std.specs.List.{All}
use Rattle.vm_seen.specs.Behind.{later_of, oldest_items}
use Rattle.vm_litmus.specs.Parts.{IsSettled, is_settle}
use Rattle.vm_litmus.proofs.parts.setup_of.Given as goal

abbrev pub invariant-loop-i : goal.invariant-loop-i
invariant-loop-i l = record {
  reached : l.setup ≤ l.i;
  inside : l.i ≤ length l.commands.items;
  last : IsSettled (oldest_items l.setup l.commands.items);
  none : All (λ numbered. is_settle numbered.command ≡ false) (later_of l.setup (oldest_items l.i l.commands.items));
}
