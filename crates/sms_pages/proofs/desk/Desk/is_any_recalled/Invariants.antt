use Rattle.std.proofs.Common.{◌≡◌}
use Rattle.sms_pages.specs.Directory.{any_recalled}
use Rattle.sms_pages.proofs.desk.Desk.is_any_recalled.Given as goal

abbrev pub invariant-loop-host : goal.invariant-loop-host
invariant-loop-host l = l.any ≡ any_recalled l.front l.self.holds l.self.awaits l.host
