use Rattle.std.proofs.Common.{◌≡◌, true, false}
use Rattle.std.specs.List.{All}
use Rattle.vm_seen.specs.Behind.{later_of, oldest_items}
use Rattle.vm_litmus.specs.Parts.{is_access, makes_fail}
use Rattle.vm_litmus.proofs.parts.first_other.Given as goal

abbrev pub invariant-loop-i : goal.invariant-loop-i
invariant-loop-i l = record {
  set_up : All (λ numbered. makes_fail numbered.command ≡ false) (oldest_items l.i l.commands.items);
  free : All (λ numbered. is_access numbered ≡ true) (later_of l.setup (oldest_items l.i l.commands.items));
}
