use Rattle.std.proofs.Common.{◌∙◌, arith}
use Rattle.vm_frames.proofs.Spares.{frames_more}
use Rattle.vm_frames.proofs.Tables.{reverse_push}
use Rattle.vm_frames.proofs.frames.all_spare.Goals as goal

pub all-preserved : goal.all-preserved
all-preserved c =
    let old = c.all.spare.items in
    record {
      items =
          reverse_push old c.push.new.self.items _ c.in_ok-push.ensures.items
          ∙ frames_more _ c.all.next c.args.n _ (omega (arith, c.all-test.true)) c.all.invariant.within c.all.invariant.items;
      within = omega (arith, c.all.invariant.within);
      room = omega (arith, c.all.invariant.room, c.in_ok-push.ensures.capacity);
    }
