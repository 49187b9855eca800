use Rattle.std.specs.List.{All}
use Rattle.vm_seen.specs.Behind.{later_of, oldest_items}
use Rattle.vm_lens.specs.Exploring.{IsOnShared}
use Rattle.vm_lens.proofs.exploring.ended_on_shared.Given as goal

abbrev pub invariant-loop-i : goal.invariant-loop-i
invariant-loop-i l = All (IsOnShared l.header) (later_of l.from (oldest_items l.i l.history.items))
