use Rattle.vm_model.specs.declared.event.Device.TheVariants as device
use Rattle.vm_top.proofs.Flattened.{files_flat}
use Rattle.vm_top.proofs.Losses.{loses_unslotted, untold}
use Rattle.vm_top.proofs.Memory.{one_memory}
use Rattle.vm_top.proofs.Resting.{carries_all, waits_for_frames}
use Rattle.vm_top.proofs.top.run_read.Goals as goal

pub returns-clause-always : goal.returns-clause-always
returns-clause-always g c =
    let ran = c.run_script-ran.ensures in
    let status = c.finish-status.result in
    let ends = c.finish-status.ensures.ends c.args.script _ _ ran.ran in
    record {
      limit = ran.limit;
      quiet = waits_for_frames c.args.report c.args.script _ _ _ _ status c.requires.run ends;
      carried = carries_all c.args.report c.args.script _ _ _ _ status c.requires.run ends;
      kept = ran.kept;
      files_kept = ran.carried;
      files_flat =
          files_flat c.args.report c.args.script _ (g.P.Backing.area c.args.paging.now.inner) _ _ (g.K.Sink.written c.args.out.now)
          (g.K.Sink.written c.finish-status.new.out) status c.requires.run ends ran.carried;
      linear = one_memory c.args.report c.args.script _ c.run_script-ran.result.history.items _ _ status ends;
    }

pub returns-clause-losses : goal.returns-clause-losses
returns-clause-losses g c = λ files paging.
    let ran = c.run_script-ran.ensures in
    let h = c.run_script-ran.result.history.items in
    loses_unslotted c.args.report c.args.script _ h _ _ c.finish-status.result (c.finish-status.ensures.ends c.args.script _ _ ran.ran)
    (untold device.Files _ _ _ _ h ran.files.bounded files) (untold device.Paging _ _ _ _ h ran.paging.bounded paging)
