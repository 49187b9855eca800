use Rattle.std.proofs.Common.{◌-◌, length}
use Rattle.sms_pages.specs.Desk.{AllLong}
use Rattle.sms_proto.proofs.serve.make_pages.Given as goal

abbrev pub invariant-loop-alloc : goal.invariant-loop-alloc
invariant-loop-alloc l = AllLong l.size l.fn.pages.items → AllLong l.size l.pages.items

abbrev pub decreases-loop-alloc : goal.decreases-loop-alloc
decreases-loop-alloc l = l.count - length l.pages.items
