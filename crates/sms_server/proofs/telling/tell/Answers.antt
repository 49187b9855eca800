use Rattle.std.proofs.Common.{◌∙◌, arith}
use Rattle.std.specs.Prelude.{slice_index}
use Rattle.sms_server.proofs.Replying.{one_fewer, one_sent}
use Rattle.sms_server.proofs.telling.tell.Goals as goal

pub each-preserved : goal.each-preserved
each-preserved c =
    let fewer = one_fewer c.each.replies.items c.take_first.new.self.items c.in-Some.reply c.in-Some.ensures.taken in
    record {
      told =
          rw (c.in_ok-push.ensures.ok, c.event_of.ensures) (one_sent c.args.key.object c.args.key.page (slice_index c.args.heard.now) c.each.replies.items
          c.take_first.new.self.items c.in-Some.reply c.each.events.items c.in-Some.ensures.taken ∙ c.each.invariant.told);
      fits = omega (arith, fewer, c.each.invariant.fits, c.push.ensures.room);
      count = rw c.in_ok-push.ensures.ok (omega (arith, fewer, c.each.invariant.count));
      room = omega (arith, fewer, c.each.invariant.room, c.push.ensures.room);
    }
