use Rattle.std.proofs.Common.{◌≡◌, ◌+◌, ◌≤◌, ◌++◌}
use Rattle.sms_pages.specs.Directory.{recalls, recalled}
use Rattle.sms_pages.specs.Desk.{IsElsewhereSame}
use Rattle.sms_pages.proofs.desk.Desk.recall.Given as goal

abbrev pub invariant-loop-host : goal.invariant-loop-host
invariant-loop-host l =
    (l.self.awaits ≡ recalled l.front l.fn.self.holds l.fn.self.awaits l.host)
    × (l.replies.items ≡ recalls l.front l.fn.self.holds l.fn.self.awaits l.host ++ l.fn.replies.items)
    × IsElsewhereSame l.fn.self l.self
    × (l.fn.replies.room ≤ l.replies.room + l.host)
