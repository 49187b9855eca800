use Rattle.std.proofs.Common.{◌≡◌, drop}
use Rattle.vm_queues.specs.Queues.{is_skipped}
use Rattle.vm_queues.proofs.sparing.is_skipped.Given as goal

abbrev pub invariant-all : goal.invariant-all
invariant-all l = is_skipped (drop l.other-index l.skip) l.f.0 ≡ is_skipped l.skip l.f.0
