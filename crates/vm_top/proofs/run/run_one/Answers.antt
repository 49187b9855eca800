use Rattle.std.proofs.Common.{◌≡◌, ◌<◌, ◌≤◌, ◌∙◌, arith, length, refl, subst, sym, ap, Err}
use Rattle.vm_outside.specs.Causes.{sum_count}
use Rattle.vm_model.specs.Limits.{most_events}
use Rattle.vm_top.specs.Running.{FaultCounts, RunStops}
use Rattle.vm_top.specs.declared.run.RunEnd.TheVariants as ends
use Rattle.vm_top.proofs.Settling.{turned_none, turned_settles}
use Rattle.vm_top.proofs.Turns.{full_stops, same_end, settles_none, turned_runs}
use Rattle.vm_top.proofs.run.run_one.Goals as goal

pub returns-then-len-ge-MOST_EVENTS-clause-stops : goal.returns-then-len-ge-MOST_EVENTS-clause-stops
returns-then-len-ge-MOST_EVENTS-clause-stops g c = λ end is.
    let faults : FaultCounts = record {
      files = sum_count (g.F.Backing.faults c.args.files.now.inner) c.args.files.now.reached;
      paging = sum_count (g.P.Backing.faults c.args.paging.now.inner) c.args.paging.now.reached;
    } in
    let same : ends.EventLimit ≡ end = same_end is in
    let size : c.len.result ≡ length c.args.system.now.history.items = c.len.ensures ∙ ap (λ z. length z.items) c.history.ensures in
    let full : most_events ≤ length c.args.system.now.history.items = subst (λ z. most_events ≤ z) size c.if-len-ge-MOST_EVENTS.true in
    subst (RunStops c.args.report g.given c.args.system.now.history.items (g.K.Sink.written c.args.out.now) c.args.files.now c.args.paging.now faults) same
    (full_stops c.args.report g.given c.args.numbered.now c.args.system.now.history.items (g.K.Sink.written c.args.out.now) c.args.files.now c.args.paging.now
    faults c.requires.1.1.1.1.1.1.0 c.requires.1.1.1.1.1.1.1 full)

pub turn-requires : goal.turn-requires
turn-requires g c = λ lifetimes held.
    let h = c.args.system.now.history.items in
    let size : c.len.result ≡ length h = c.len.ensures ∙ ap (λ z. length z.items) c.history.ensures in
    let below : length h < most_events = omega (arith, size, c.if-len-ge-MOST_EVENTS.false) in (
      held.0,
      (
        held.1.0,
        (
          held.1.1,
          (
            c.requires.1.1.1.0,
            (c.requires.1.1.1.1.0, (c.requires.1.1.1.1.1.0, (below, (c.requires.1.1.1.1.1.1.0, c.requires.1.1.1.1.1.1.1)))),
          ),
        ),
      ),
    )

pub returns-in_err-turn-clause-stops : goal.returns-in_err-turn-clause-stops
returns-in_err-turn-clause-stops g c = λ end is.
    let same : end ≡ c.in_err-turn.field-0.0 = rw is at c.from_residual.ensures.1 in
    c.turn.ensures.stops end (c.in_err-turn.was ∙ ap Err (sym same))

pub returns-in_err-settle-in-Settle-clause-stops : goal.returns-in_err-settle-in-Settle-clause-stops
returns-in_err-settle-in-Settle-clause-stops g c = λ end is.
    let same : end ≡ c.in_err-settle-in-Settle.field-0.0 = rw is at c.from_residual-in_err-settle-in-Settle.ensures.1 in
    c.settle.ensures.stops end (c.in_err-settle-in-Settle.was ∙ ap Err (sym same))

pub returns-in_default-clause-runs : goal.returns-in_default-clause-runs
returns-in_default-clause-runs g c =
    turned_runs c.args.report g.given c.args.numbered.now c.turn.new.system.history.items (g.K.Sink.written c.turn.new.out) c.turn.new.files c.turn.new.paging
    (record {
      files = sum_count (g.F.Backing.faults c.turn.new.files.inner) c.turn.new.files.reached;
      paging = sum_count (g.P.Backing.faults c.turn.new.paging.inner) c.turn.new.paging.reached;
    }) c.in_ok-turn.ensures.turned
    (settles_none c.args.numbered.now.command c.in_default.not-Settle)

pub settle-requires : goal.settle-requires
settle-requires g c = λ lifetimes held.
    let turn = c.in_ok-turn.ensures in
    let settles =
    turned_settles c.args.report g.given c.args.numbered.now c.in-Settle.count c.turn.new.system.history.items (g.K.Sink.written c.turn.new.out)
    c.turn.new.files c.turn.new.paging
    (record {
      files = sum_count (g.F.Backing.faults c.turn.new.files.inner) c.turn.new.files.reached;
      paging = sum_count (g.P.Backing.faults c.turn.new.paging.inner) c.turn.new.paging.reached;
    }) c.in-Settle.is turn.turned in
    let none =
    turned_none c.args.report g.given c.args.numbered.now c.in-Settle.count c.turn.new.system.history.items (g.K.Sink.written c.turn.new.out) c.turn.new.files
    c.turn.new.paging
    (record {
      files = sum_count (g.F.Backing.faults c.turn.new.files.inner) c.turn.new.files.reached;
      paging = sum_count (g.P.Backing.faults c.turn.new.paging.inner) c.turn.new.paging.reached;
    }) c.in-Settle.is turn.turned in
    (held.0, (held.1.0, (held.1.1, (turn.stands, (c.turn.ensures.backings, (settles, (refl, none)))))))
