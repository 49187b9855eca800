use Rattle.std.proofs.Common.{◌∙◌, ap, ◌++◌}
use Rattle.vm_model.specs.Text.{text}
use Rattle.vm_top.specs.Writing.{oldest_items}
use Rattle.vm_top.proofs.Writings.{failed_of}
use Rattle.vm_top.proofs.render.write_step.Goals as goal

pub returns-clause-failed : goal.returns-clause-failed
returns-clause-failed g c = λ start one failed.
    let front = text (oldest_items c.args.from c.args.history.now.items) in
    failed_of start (g.K.Sink.written c.args.out.now) (g.K.Sink.written c.write.new.self) front c.as_slice.result.now _ c.write.result
    (ap (λ z. front ++ z) c.as_slice.ensures ∙ c.in-Ok.ensures) one c.write.ensures.bytes failed
