use Rattle.std.proofs.Common.{◌≡◌, ◌<◌, ◌≤◌, ◌∙◌, arith, inl, inr, subst, sym, ap, length, Err}
use Rattle.std.specs.Io.KnownBytes.{Appends}
use Rattle.vm_model.specs.Limits.{most_events}
use Rattle.vm_model.specs.Text.{text}
use Rattle.vm_outside.specs.Causes.{sum_count}
use Rattle.vm_top.specs.Run.{text_so_far}
use Rattle.vm_system.specs.Steps.{DevicesHaveCause}
use Rattle.vm_top.specs.Running.{FaultCounts, RunStops, counted}
use Rattle.vm_top.specs.Writing.{WroteBeyond, oldest_items}
use Rattle.vm_top.proofs.Arms.{of_both}
use Rattle.vm_top.proofs.Turns.{Stepped, made, same_end, shown_stops, step_ends, step_stops, step_wrote, turned}
use Rattle.vm_top.proofs.Writings.{oldest_before}
use Rattle.vm_top.proofs.run.turn.Goals as goal

pub returns-in-Err-clause-stops : goal.returns-in-Err-clause-stops
returns-in-Err-clause-stops g c = λ end is.
    let old = c.args.system.now.history.items in
    let new = c.step.new.self.history.items in
    let e0 : FaultCounts = record {
      files = sum_count (g.F.Backing.faults c.args.files.now.inner) c.args.files.now.reached;
      paging = sum_count (g.P.Backing.faults c.args.paging.now.inner) c.args.paging.now.reached;
    } in
    let e1 : FaultCounts = record {
      files = sum_count (g.F.Backing.faults c.step.new.files.inner) c.step.new.files.reached;
      paging = sum_count (g.P.Backing.faults c.step.new.paging.inner) c.step.new.paging.reached;
    } in
    let step = c.step.ensures in
    let below : length old < most_events = c.requires.1.1.1.1.1.1.0 in
    let same : c.end_of.result ≡ end = same_end is in
    let stop : RunStops c.args.report g.given new (g.K.Sink.written c.args.out.now) c.step.new.files c.step.new.paging e1 end = elim
    (step_ends c.in-Err.stop c.end_of.result end c.end_of.ensures.full c.end_of.ensures.none same) [
      | inl full ↦ let over : most_events ≤ length old = step.full.0 (c.in-Err.is ∙ ap Err full.0) in absurd (omega arith)
      | inr none ↦
          subst (RunStops c.args.report g.given new (g.K.Sink.written c.args.out.now) c.step.new.files c.step.new.paging e1) (sym none.1)
          (let refused = step.refused (c.in-Err.is ∙ ap Err none.0) in
          step_stops c.args.report g.given old new (g.K.Sink.written c.args.out.now) c.args.files.now c.step.new.files c.args.paging.now c.step.new.paging e0 e1
          c.requires.1.1.1.1.1.1.1.0 step.grew refused.1.0 refused.1.1.0 refused.1.1.1
          (of_both (λ who. DevicesHaveCause who (counted who e0) (counted who e1) old new) step.files_go.devices step.paging_goes.devices))
    ] in
    stop

pub returns-in_err-show-clause-stops : goal.returns-in_err-show-clause-stops
returns-in_err-show-clause-stops g c = λ end is.
    let old = c.args.system.now.history.items in
    let new = c.step.new.self.history.items in
    let e0 : FaultCounts = record {
      files = sum_count (g.F.Backing.faults c.args.files.now.inner) c.args.files.now.reached;
      paging = sum_count (g.P.Backing.faults c.args.paging.now.inner) c.args.paging.now.reached;
    } in
    let e1 : FaultCounts = record {
      files = sum_count (g.F.Backing.faults c.step.new.files.inner) c.step.new.files.reached;
      paging = sum_count (g.P.Backing.faults c.step.new.paging.inner) c.step.new.paging.reached;
    } in
    let step = c.in_default.ensures in
    let runs = c.requires.1.1.1.1.1.1.1.0 in
    let stepped : Stepped g.given.script.header g.given.outside c.args.numbered.now old new c.args.files.now c.step.new.files c.args.paging.now
    c.step.new.paging e0 e1 = record {
      legal = step.legal;
      grew = step.grew;
      front = step.front;
      files = record { leaves = step.files; later = λ none. (step.files_go.later none).1 };
      paging = record { leaves = step.paging; later = λ none. (step.paging_goes.later none).1 };
      devices = of_both (λ who. DevicesHaveCause who (counted who e0) (counted who e1) old new) step.files_go.devices step.paging_goes.devices;
    } in
    let done = made c.args.report g.given c.args.numbered.now old new (g.K.Sink.written c.args.out.now) c.args.files.now c.step.new.files c.args.paging.now
    c.step.new.paging e0 e1
    runs c.requires.1.1.1.1.1.1.1.1 c.requires.1.1.1.1.1.0 c.requires.1.1.1.1.1.1.0 stepped in
    let from : oldest_items c.len-from.result new ≡ old = oldest_before new step.grew.more old c.len-from.result
    (c.len-from.ensures ∙ ap (λ z. length z.items) c.history.ensures) step.grew.is in
    let wrote : Appends g.given.start (g.K.Sink.written c.args.out.now) (text_so_far c.args.report (oldest_items c.len-from.result new)) = subst
    (λ z. Appends g.given.start (g.K.Sink.written c.args.out.now) (text_so_far c.args.report z)) (sym from) runs.keeps.written in
    let same : end ≡ c.in_err-show.field-0.0 = rw is at c.from_residual.ensures.1 in
    let show : c.show.result ≡ Err end = c.in_err-show.was ∙ ap Err (sym same) in
    shown_stops c.args.report g.given c.args.numbered.now old new (g.K.Sink.written c.show.new.out) c.step.new.files c.step.new.paging e1 end
    c.requires.1.1.1.1.1.1.1.1 step.front step.grew done
    (λ failed. let told = c.show.ensures.failed g.given.start wrote (show ∙ ap Err failed) in (
      told.0,
      subst (λ z. WroteBeyond g.given.start (g.K.Sink.written c.show.new.out) (text z) (text new)) from told.1,
    ))
    (λ none. subst (λ z. Appends g.given.start (g.K.Sink.written c.show.new.out) (text_so_far c.args.report z)) from
    (c.show.ensures.memory g.given.start wrote (show ∙ ap Err none)))
    (c.show.ensures.ends end show)

pub returns-clause-turned : goal.returns-clause-turned
returns-clause-turned g c =
    let old = c.args.system.now.history.items in
    let new = c.step.new.self.history.items in
    let e0 : FaultCounts = record {
      files = sum_count (g.F.Backing.faults c.args.files.now.inner) c.args.files.now.reached;
      paging = sum_count (g.P.Backing.faults c.args.paging.now.inner) c.args.paging.now.reached;
    } in
    let e1 : FaultCounts = record {
      files = sum_count (g.F.Backing.faults c.step.new.files.inner) c.step.new.files.reached;
      paging = sum_count (g.P.Backing.faults c.step.new.paging.inner) c.step.new.paging.reached;
    } in
    let step = c.in_default.ensures in
    let runs = c.requires.1.1.1.1.1.1.1.0 in
    let stepped : Stepped g.given.script.header g.given.outside c.args.numbered.now old new c.args.files.now c.step.new.files c.args.paging.now
    c.step.new.paging e0 e1 = record {
      legal = step.legal;
      grew = step.grew;
      front = step.front;
      files = record { leaves = step.files; later = λ none. (step.files_go.later none).1 };
      paging = record { leaves = step.paging; later = λ none. (step.paging_goes.later none).1 };
      devices = of_both (λ who. DevicesHaveCause who (counted who e0) (counted who e1) old new) step.files_go.devices step.paging_goes.devices;
    } in
    let done = made c.args.report g.given c.args.numbered.now old new (g.K.Sink.written c.args.out.now) c.args.files.now c.step.new.files c.args.paging.now
    c.step.new.paging e0 e1
    runs c.requires.1.1.1.1.1.1.1.1 c.requires.1.1.1.1.1.0 c.requires.1.1.1.1.1.1.0 stepped in
    let from : oldest_items c.len-from.result new ≡ old = oldest_before new step.grew.more old c.len-from.result
    (c.len-from.ensures ∙ ap (λ z. length z.items) c.history.ensures) step.grew.is in
    let wrote : Appends g.given.start (g.K.Sink.written c.args.out.now) (text_so_far c.args.report (oldest_items c.len-from.result new)) = subst
    (λ z. Appends g.given.start (g.K.Sink.written c.args.out.now) (text_so_far c.args.report z)) (sym from) runs.keeps.written in
    turned c.args.report g.given c.args.numbered.now old new (g.K.Sink.written c.show.new.out) c.step.new.files c.step.new.paging e1 done
    (c.in_ok-show.ensures.written g.given.start wrote)

pub returns-clause-lines : goal.returns-clause-lines
returns-clause-lines g c =
    let old = c.args.system.now.history.items in
    let new = c.step.new.self.history.items in
    let e0 : FaultCounts = record {
      files = sum_count (g.F.Backing.faults c.args.files.now.inner) c.args.files.now.reached;
      paging = sum_count (g.P.Backing.faults c.args.paging.now.inner) c.args.paging.now.reached;
    } in
    let e1 : FaultCounts = record {
      files = sum_count (g.F.Backing.faults c.step.new.files.inner) c.step.new.files.reached;
      paging = sum_count (g.P.Backing.faults c.step.new.paging.inner) c.step.new.paging.reached;
    } in
    let step = c.in_default.ensures in
    let runs = c.requires.1.1.1.1.1.1.1.0 in
    let stepped : Stepped g.given.script.header g.given.outside c.args.numbered.now old new c.args.files.now c.step.new.files c.args.paging.now
    c.step.new.paging e0 e1 = record {
      legal = step.legal;
      grew = step.grew;
      front = step.front;
      files = record { leaves = step.files; later = λ none. (step.files_go.later none).1 };
      paging = record { leaves = step.paging; later = λ none. (step.paging_goes.later none).1 };
      devices = of_both (λ who. DevicesHaveCause who (counted who e0) (counted who e1) old new) step.files_go.devices step.paging_goes.devices;
    } in
    let done = made c.args.report g.given c.args.numbered.now old new (g.K.Sink.written c.args.out.now) c.args.files.now c.step.new.files c.args.paging.now
    c.step.new.paging e0 e1
    runs c.requires.1.1.1.1.1.1.1.1 c.requires.1.1.1.1.1.0 c.requires.1.1.1.1.1.1.0 stepped in
    done.lines

pub returns-in-Err-clause-cause : goal.returns-in-Err-clause-cause
returns-in-Err-clause-cause g c = λ is. absurd (step_wrote c.in-Err.stop c.end_of.result c.end_of.ensures.full c.end_of.ensures.none (same_end is))
