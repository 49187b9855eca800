use Rattle.std.proofs.Common.{◌≡◌}
use Rattle.vm_gen.specs.Drawn.{drawn_line, words_at}
use Rattle.vm_gen.specs.Made.{add_lines}
use Rattle.vm_gen.proofs.made.add_drawn_lines.Given as goal

abbrev pub invariant-loop-i : goal.invariant-loop-i
invariant-loop-i l = record {
  words : l.words ≡ words_at l.number l.i;
  commands : l.commands.items ≡ add_lines (drawn_line l.number) 23 l.i l.fn.commands.items;
}
