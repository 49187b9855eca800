use Rattle.std.proofs.Common.{subst, sym}
use Rattle.vm_top.specs.Ending.{EndsAs}
use Rattle.vm_top.specs.Run.{RanAs}
use Rattle.vm_top.proofs.Ends.{done_ends, full_ends}
use Rattle.vm_top.proofs.top.finish.Goals as goal

pub returns-in-Done-clause-ends : goal.returns-in-Done-clause-ends
returns-in-Done-clause-ends g c = λ run outside start ran.
    let h = c.args.ran.now.history.items in
    let whole = subst (λ z. RanAs c.args.report run outside h z start (g.K.Sink.written c.args.out.now)) c.in-Done.is ran in
    let wrote = c.write_report.ensures in
    subst (λ z. EndsAs c.args.report run outside h start (g.K.Sink.written c.write_report.new.out) z) (sym c.status_after.ensures)
    (done_ends c.args.report run outside h start (g.K.Sink.written c.write_report.new.out) c.write_report.result whole.0 (wrote.written start whole.1)
    (wrote.failed start whole.1) (wrote.memory start whole.1))

pub returns-in-EventLimit-clause-ends : goal.returns-in-EventLimit-clause-ends
returns-in-EventLimit-clause-ends g c = λ run outside start ran.
    let h = c.args.ran.now.history.items in
    let full = subst (λ z. RanAs c.args.report run outside h z start (g.K.Sink.written c.args.out.now)) c.in-EventLimit.is ran in
    let wrote = c.write_report-in-EventLimit.ensures in
    subst (λ z. EndsAs c.args.report run outside h start (g.K.Sink.written c.write_report-in-EventLimit.new.out) z) (sym c.status_after-in-EventLimit.ensures)
    (full_ends c.args.report run outside h start (g.K.Sink.written c.write_report-in-EventLimit.new.out) c.write_report-in-EventLimit.result full.0
    (wrote.written start full.1) (wrote.failed start full.1) (wrote.memory start full.1))
