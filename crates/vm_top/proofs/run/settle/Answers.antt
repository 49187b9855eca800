use Rattle.std.proofs.Common.{◌≡◌, ◌∙◌, arith, inl, inr, sym, ap, Err}
use Rattle.vm_legal.specs.Steps.{takings}
use Rattle.vm_outside.specs.Causes.{sum_count}
use Rattle.vm_top.proofs.Settling.{settle_runs}
use Rattle.vm_top.proofs.run.settle.Goals as goal

pub returns-in_err-take_one-clause-stops : goal.returns-in_err-take_one-clause-stops
returns-in_err-take_one-clause-stops g c = λ end is.
    let same : end ≡ c.in_err-take_one.field-0.0 = rw is at c.from_residual.ensures.1 in
    c.take_one.ensures.stops end (c.in_err-take_one.was ∙ ap Err (sym same))

pub returns-then-not-branch-clause-runs : goal.returns-then-not-branch-clause-runs
returns-then-not-branch-clause-runs g c =
    let done = c.in_ok-take_one.ensures in
    settle_runs c.args.report g.given c.args.count c.take_one.new.system.history.items (g.K.Sink.written c.take_one.new.out) c.take_one.new.files
    c.take_one.new.paging
    (record {
      files = sum_count (g.F.Backing.faults c.take_one.new.files.inner) c.take_one.new.files.reached;
      paging = sum_count (g.P.Backing.faults c.take_one.new.paging.inner) c.take_one.new.paging.reached;
    }) c.requires.1.1.1.1.1.1.0 done.settles
    (inr (done.quiet c.if-not-branch.true))

pub returns-clause-runs : goal.returns-clause-runs
returns-clause-runs g c =
    let all : takings c.all.system.history.items ≡ c.args.count = omega (arith, c.all.invariant.taken, c.all-test.false, c.all.auto._taken-end) in
    settle_runs c.args.report g.given c.args.count c.all.system.history.items (g.K.Sink.written c.all.out) c.all.files c.all.paging
    (record {
      files = sum_count (g.F.Backing.faults c.all.files.inner) c.all.files.reached;
      paging = sum_count (g.P.Backing.faults c.all.paging.inner) c.all.paging.reached;
    }) c.requires.1.1.1.1.1.1.0 c.all.invariant.settles (inl all)
