use Rattle.vm_model.specs.Summary.{is_line, is_refused, is_begun, is_loaded, is_stored, is_copy_ended, is_failed, is_sent, is_taken_event, is_dropped}
use Rattle.vm_top.proofs.Sums.{below, one_more, sum_more}
use Rattle.vm_top.proofs.summary.Summary.add.Goals as goal

pub counted-self-requires : goal.counted-self-requires
counted-self-requires c = below is_line c.requires.few.0 _ c.requires.few.1.lines c.requires.few.2

pub counted-self-requires-2 : goal.counted-self-requires-2
counted-self-requires-2 c = below is_refused c.requires.few.0 _ c.requires.few.1.refused c.requires.few.2

pub counted-self-requires-3 : goal.counted-self-requires-3
counted-self-requires-3 c = below is_begun c.requires.few.0 _ c.requires.few.1.begun c.requires.few.2

pub counted-self-requires-4 : goal.counted-self-requires-4
counted-self-requires-4 c = below is_loaded c.requires.few.0 _ c.requires.few.1.loads c.requires.few.2

pub counted-self-requires-5 : goal.counted-self-requires-5
counted-self-requires-5 c = below is_stored c.requires.few.0 _ c.requires.few.1.stores c.requires.few.2

pub counted-self-requires-6 : goal.counted-self-requires-6
counted-self-requires-6 c = below is_copy_ended c.requires.few.0 _ c.requires.few.1.copies c.requires.few.2

pub counted-self-requires-7 : goal.counted-self-requires-7
counted-self-requires-7 c = below is_failed c.requires.few.0 _ c.requires.few.1.failed c.requires.few.2

pub counted-self-requires-8 : goal.counted-self-requires-8
counted-self-requires-8 c = below is_sent c.requires.few.0 _ c.requires.few.1.sent c.requires.few.2

pub counted-self-requires-9 : goal.counted-self-requires-9
counted-self-requires-9 c = below is_taken_event c.requires.few.0 _ c.requires.few.1.taken c.requires.few.2

pub counted-self-requires-10 : goal.counted-self-requires-10
counted-self-requires-10 c = below is_dropped c.requires.few.0 _ c.requires.few.1.dropped c.requires.few.2

pub returns : goal.returns
returns c = λ past is. record {
  lines = one_more is_line c.args.event.now past _ _ _ is.lines c.is_line.ensures c.counted-self.ensures;
  refused = one_more is_refused c.args.event.now past _ _ _ is.refused c.is_refused.ensures c.counted-self-2.ensures;
  begun = one_more is_begun c.args.event.now past _ _ _ is.begun c.is_begun.ensures c.counted-self-3.ensures;
  loads = one_more is_loaded c.args.event.now past _ _ _ is.loads c.is_loaded.ensures c.counted-self-4.ensures;
  stores = one_more is_stored c.args.event.now past _ _ _ is.stores c.is_stored.ensures c.counted-self-5.ensures;
  copies = one_more is_copy_ended c.args.event.now past _ _ _ is.copies c.is_copy_ended.ensures c.counted-self-6.ensures;
  failed = one_more is_failed c.args.event.now past _ _ _ is.failed c.is_failed.ensures c.counted-self-7.ensures;
  sent = one_more is_sent c.args.event.now past _ _ _ is.sent c.is_sent.ensures c.counted-self-8.ensures;
  taken = one_more is_taken_event c.args.event.now past _ _ _ is.taken c.is_taken.ensures c.counted-self-9.ensures;
  dropped = one_more is_dropped c.args.event.now past _ _ _ is.dropped c.is_dropped.ensures c.counted-self-10.ensures;
  sum = sum_more c.args.event.now past _ _ is.sum c.value_of.ensures;
}
