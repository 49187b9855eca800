use Rattle.std.proofs.Common.{◌-◌, ◌≤◌, length}
use Rattle.sms_pages.specs.Desk.{AllLong}
use Rattle.sms_pages.proofs.desk.make_pages.Given as goal

abbrev pub invariant-loop-pages : goal.invariant-loop-pages
invariant-loop-pages l = (AllLong (length l.like) l.fn.pages.items → AllLong (length l.like) l.pages.items) × (length l.fn.pages.items ≤ length l.pages.items)

abbrev pub decreases-loop-pages : goal.decreases-loop-pages
decreases-loop-pages l = l.count - length l.pages.items
