use Rattle.vm_base.proofs.Lists.{oldest_step}
use Rattle.vm_seen.proofs.Counts.{count_more, few_more}
use Rattle.vm_model.specs.Summary.{is_sent, is_taken_event}
use Rattle.vm_seen.proofs.waits.is_quiet.Goals as goal

pub loop-i-preserved : goal.loop-i-preserved
loop-i-preserved c =
    let h = c.args.history.now.items in
    let e = c.at-event.result.now in
    let step = oldest_step h c.loop-i.i e c.at-event.ensures in
    record {
      few_sent = few_more _ _ _ _ c.counted-sent.ensures c.loop-i.invariant.few_sent;
      few_taken = few_more _ _ _ _ c.counted-taken.ensures c.loop-i.invariant.few_taken;
      sent = count_more is_sent h c.loop-i.i e _ _ _ step c.loop-i.invariant.sent c.is_sent.ensures c.counted-sent.ensures;
      taken = count_more is_taken_event h c.loop-i.i e _ _ _ step c.loop-i.invariant.taken c.is_taken.ensures c.counted-taken.ensures;
    }
