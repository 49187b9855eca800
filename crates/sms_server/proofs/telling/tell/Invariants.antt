use Rattle.std.proofs.Common.{◌≡◌, ◌≤◌, ◌+◌, ◌++◌, length}
use Rattle.std.specs.Prelude.{slice_index}
use Rattle.sms_server.specs.Answers.{reply_events}
use Rattle.sms_server.proofs.telling.tell.Given as goal

abbrev pub decreases-each : goal.decreases-each
decreases-each l = length l.replies.items

abbrev pub invariant-each : goal.invariant-each
invariant-each l =
    record {
      told : reply_events l.key.object l.key.page (slice_index l.heard) l.replies.items ++ l.events.items ≡ reply_events l.key.object l.key.page
          (slice_index l.heard) l.fn.replies.items ++ l.fn.events.items;
      fits : length l.replies.items ≤ l.events.room;
      count : length l.events.items + length l.replies.items ≡ length l.fn.events.items + length l.fn.replies.items;
      room : l.fn.events.room + length l.replies.items ≤ l.events.room + length l.fn.replies.items;
    }
