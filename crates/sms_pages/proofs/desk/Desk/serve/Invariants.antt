use Rattle.std.proofs.Common.{◌≡◌, length, true}
use Rattle.sms_pages.specs.Desk.{AllLong, DeskServes, HasRoom}
use Rattle.sms_pages.proofs.desk.Desk.serve.Given as goal

abbrev pub invariant-line : goal.invariant-line
invariant-line l =
    DeskServes true l.fn.self l.fn.replies.items l.self l.replies.items
    × (l.self.bytes ≡ l.fn.self.bytes)
    × AllLong (length l.self.bytes) l.self.spare.items
    × (HasRoom l.fn.self l.fn.replies.room → HasRoom l.self l.replies.room)

abbrev pub decreases-line : goal.decreases-line
decreases-line l = length l.self.line.items
