use Rattle.std.proofs.Common.{◌≡◌, ◌≤◌, ◌<◌, length}
use Rattle.vm_text.specs.Script.{nothing_read, lines_read}
use Rattle.vm_text.specs.Words.{lines_of}
use Rattle.vm_text.proofs.reader.read_script.Given as goal

abbrev pub invariant-loop-line : goal.invariant-loop-line
invariant-loop-line l = record {
  first : 0 < l.number;
  few : l.number ≤ 20001;
  same : lines_read l.number l.reading (lines_of l.rest) ≡ lines_read 1 nothing_read (lines_of l.bytes);
}

abbrev pub decreases-loop-line : goal.decreases-loop-line
decreases-loop-line l = length l.rest
