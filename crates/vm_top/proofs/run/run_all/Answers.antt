use Rattle.std.proofs.Common.{◌≤◌, arith, ap, length}
use Rattle.vm_model.specs.Summary.{count_of, is_line}
use Rattle.vm_outside.specs.Causes.{sum_count}
use Rattle.vm_top.proofs.Turns.{all_stops, next_at, range_of}
use Rattle.vm_top.proofs.run.run_all.Goals as goal

pub run_one-requires : goal.run_one-requires
run_one-requires g c = λ lifetimes held.
    let range = range_of g.given.script c.args.script.now c.commands.i c.at-numbered.result.now c.requires.1.1.1.0 c.requires.1.1.1.1.0 c.at-numbered.ensures in
    let next = next_at g.given.script c.args.script.now c.commands.i c.at-numbered.result.now c.commands.system.history.items c.requires.1.1.1.0
    c.at-numbered.ensures c.commands.invariant.lines in
    (held.0, (held.1.0, (held.1.1, (c.commands.invariant.stands, (c.commands.invariant.backings, (range, (c.commands.invariant.runs, next)))))))

pub returns-in-Err-clause-stops : goal.returns-in-Err-clause-stops
returns-in-Err-clause-stops g c = c.run_one.ensures.stops c.in-Err.end c.in-Err.is

pub returns-clause-stops : goal.returns-clause-stops
returns-clause-stops g c =
    let script = ap (λ z. length z.commands.items) c.requires.1.1.1.0 in
    let all : length g.given.script.commands.items ≤ count_of is_line c.commands.system.history.items = omega
    (arith, c.commands-test.false, c.commands.invariant.lines, c.len-i-end.ensures, script) in
    all_stops c.args.report g.given c.commands.system.history.items (g.K.Sink.written c.commands.out) c.commands.files c.commands.paging
    (record {
      files = sum_count (g.F.Backing.faults c.commands.files.inner) c.commands.files.reached;
      paging = sum_count (g.P.Backing.faults c.commands.paging.inner) c.commands.paging.reached;
    }) c.commands.invariant.runs all
