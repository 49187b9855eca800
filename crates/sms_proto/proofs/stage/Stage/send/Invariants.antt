use Rattle.std.proofs.Common.{◌≡◌, ◌≤◌, length}
use Rattle.sms_pages.specs.Desk.{AllLong}
use Rattle.sms_proto.specs.Adds.{Adds, ServerDoes}
use Rattle.sms_proto.specs.Worlds.{Answering, HasPlaces}
use Rattle.sms_proto.proofs.stage.Stage.send.Given as goal

abbrev pub invariant-each : goal.invariant-each
invariant-each l =
    record {
      answering : Answering l.self.size l.self.kernels.items l.self.directory l.replies.items l.self.events.items;
      spare : AllLong l.self.size l.self.spare.items;
      pages : length l.replies.items ≤ length l.self.spare.items;
      events : length l.replies.items ≤ l.self.events.room;
      places : HasPlaces (length l.replies.items) l.self.kernels.items;
      adds : Adds ServerDoes l.fn.self.events.items l.self.events.items;
      same_size : l.self.size ≡ l.fn.self.size;
      same_hosts : length l.self.kernels.items ≡ length l.fn.self.kernels.items;
    }

abbrev pub decreases-each : goal.decreases-each
decreases-each l = length l.replies.items
