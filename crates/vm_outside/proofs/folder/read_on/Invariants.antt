use Rattle.std.proofs.Common.{◌≤◌, length, take}
use Rattle.std.specs.Io.KnownBytes.{Consumes}
use Rattle.vm_outside.proofs.folder.read_on.Given as goal

abbrev pub invariant-pieces : goal.invariant-pieces
invariant-pieces g l = record {
  within : l.got ≤ length l.buf;
  consumed : Consumes (g.F.Read.remaining l.fn.file) (g.F.Read.remaining l.file) (take l.got l.buf);
}
