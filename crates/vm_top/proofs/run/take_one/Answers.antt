use Rattle.std.proofs.Common.{◌≡◌, ◌∙◌, inl, inr, true, refl, subst, sym, ap, length, Ok, Err}
use Rattle.std.specs.Io.KnownBytes.{Appends}
use Rattle.vm_model.specs.Text.{text}
use Rattle.vm_outside.specs.Causes.{sum_count}
use Rattle.vm_top.specs.Run.{text_so_far}
use Rattle.vm_system.specs.Steps.{DevicesHaveCause}
use Rattle.vm_top.specs.Running.{FaultCounts, RunStops, counted}
use Rattle.vm_top.specs.Writing.{WroteBeyond, oldest_items}
use Rattle.vm_top.specs.declared.run.RunEnd.TheVariants as ends
use Rattle.vm_top.proofs.Arms.{of_both}
use Rattle.vm_top.proofs.Settling.{Took, counts_same, held, held_stops, settles_on, stops_same, take_full, take_stops}
use Rattle.vm_top.proofs.Turns.{same_end, step_ends, step_wrote}
use Rattle.vm_top.proofs.Writings.{oldest_before}
use Rattle.vm_top.proofs.run.take_one.Goals as goal

pub returns-in_err-show-in-Ok-true-clause-stops : goal.returns-in_err-show-in-Ok-true-clause-stops
returns-in_err-show-in-Ok-true-clause-stops g c = λ end is.
    let old = c.args.system.now.history.items in
    let new = c.take_oldest.new.self.history.items in
    let e0 : FaultCounts = record {
      files = sum_count (g.F.Backing.faults c.args.files.now.inner) c.args.files.now.reached;
      paging = sum_count (g.P.Backing.faults c.args.paging.now.inner) c.args.paging.now.reached;
    } in
    let e1 : FaultCounts = record {
      files = sum_count (g.F.Backing.faults c.take_oldest.new.files.inner) c.take_oldest.new.files.reached;
      paging = sum_count (g.P.Backing.faults c.take_oldest.new.paging.inner) c.take_oldest.new.paging.reached;
    } in
    let settles = c.requires.1.1.1.1.1.0 in
    let all = c.take_oldest.ensures in
    let is_true : c.take_oldest.result ≡ Ok true = c.in-Ok-true.is ∙ ap Ok c.in-Ok-true.field-0-test in
    let took : Took g.given old new c.args.files.now c.take_oldest.new.files c.args.paging.now c.take_oldest.new.paging e0 e1 = record {
      legal = (rw is_true at all.legal) refl;
      grew = all.grew;
      front = (rw is_true at all.front) refl;
      below = (rw is_true at all.below) refl;
      files = record { later = all.files_go.later.1; unasked = (rw is_true at all.files_unasked) refl };
      paging = record { later = all.paging_goes.later.1; unasked = (rw is_true at all.unasked) refl };
      devices = of_both (λ who. DevicesHaveCause who (counted who e0) (counted who e1) old new) all.files_go.devices all.paging_goes.devices;
    } in
    let done = held c.args.report g.given old new (g.K.Sink.written c.args.out.now) c.args.files.now c.take_oldest.new.files c.args.paging.now
    c.take_oldest.new.paging e0 e1 settles took in
    let from : oldest_items c.len-from.result new ≡ old = oldest_before new all.grew.more old c.len-from.result
    (c.len-from.ensures ∙ ap (λ z. length z.items) c.history.ensures) all.grew.is in
    let wrote : Appends g.given.running.start (g.K.Sink.written c.args.out.now) (text_so_far c.args.report (oldest_items c.len-from.result new)) =
    subst (λ z. Appends g.given.running.start (g.K.Sink.written c.args.out.now) (text_so_far c.args.report z)) (sym from) settles.keeps.written in
    let same : end ≡ c.in_err-show-in-Ok-true.field-0.0 = rw is at c.from_residual.ensures.1 in
    let show : c.show.result ≡ Err end = c.in_err-show-in-Ok-true.was ∙ ap Err (sym same) in
    held_stops c.args.report g.given settles.line settles.run old new (g.K.Sink.written c.show.new.out) c.take_oldest.new.files c.take_oldest.new.paging e1 end
    c.requires.1.1.1.1.1.1 took.front took.grew done
    (λ failed. let told = c.show.ensures.failed g.given.running.start wrote (show ∙ ap Err failed) in (
      told.0,
      subst (λ z. WroteBeyond g.given.running.start (g.K.Sink.written c.show.new.out) (text z) (text new)) from told.1,
    ))
    (λ none. subst (λ z. Appends g.given.running.start (g.K.Sink.written c.show.new.out) (text_so_far c.args.report z)) from
    (c.show.ensures.memory g.given.running.start wrote (show ∙ ap Err none)))
    (c.show.ensures.ends end show)

pub returns-in_ok-show-in-Ok-true-clause-settles : goal.returns-in_ok-show-in-Ok-true-clause-settles
returns-in_ok-show-in-Ok-true-clause-settles g c =
    let old = c.args.system.now.history.items in
    let new = c.take_oldest.new.self.history.items in
    let e0 : FaultCounts = record {
      files = sum_count (g.F.Backing.faults c.args.files.now.inner) c.args.files.now.reached;
      paging = sum_count (g.P.Backing.faults c.args.paging.now.inner) c.args.paging.now.reached;
    } in
    let e1 : FaultCounts = record {
      files = sum_count (g.F.Backing.faults c.take_oldest.new.files.inner) c.take_oldest.new.files.reached;
      paging = sum_count (g.P.Backing.faults c.take_oldest.new.paging.inner) c.take_oldest.new.paging.reached;
    } in
    let settles = c.requires.1.1.1.1.1.0 in
    let all = c.take_oldest.ensures in
    let is_true : c.take_oldest.result ≡ Ok true = c.in-Ok-true.is ∙ ap Ok c.in-Ok-true.field-0-test in
    let took : Took g.given old new c.args.files.now c.take_oldest.new.files c.args.paging.now c.take_oldest.new.paging e0 e1 = record {
      legal = (rw is_true at all.legal) refl;
      grew = all.grew;
      front = (rw is_true at all.front) refl;
      below = (rw is_true at all.below) refl;
      files = record { later = all.files_go.later.1; unasked = (rw is_true at all.files_unasked) refl };
      paging = record { later = all.paging_goes.later.1; unasked = (rw is_true at all.unasked) refl };
      devices = of_both (λ who. DevicesHaveCause who (counted who e0) (counted who e1) old new) all.files_go.devices all.paging_goes.devices;
    } in
    let done = held c.args.report g.given old new (g.K.Sink.written c.args.out.now) c.args.files.now c.take_oldest.new.files c.args.paging.now
    c.take_oldest.new.paging e0 e1 settles took in
    let from : oldest_items c.len-from.result new ≡ old = oldest_before new all.grew.more old c.len-from.result
    (c.len-from.ensures ∙ ap (λ z. length z.items) c.history.ensures) all.grew.is in
    let wrote : Appends g.given.running.start (g.K.Sink.written c.args.out.now) (text_so_far c.args.report (oldest_items c.len-from.result new)) =
    subst (λ z. Appends g.given.running.start (g.K.Sink.written c.args.out.now) (text_so_far c.args.report z)) (sym from) settles.keeps.written in
    settles_on c.args.report g.given settles.line settles.run old new (g.K.Sink.written c.show.new.out) c.take_oldest.new.files c.take_oldest.new.paging e1 done
    (c.in_ok-show-in-Ok-true.ensures.written g.given.running.start wrote)

pub returns-in_ok-show-in-Ok-true-clause-more : goal.returns-in_ok-show-in-Ok-true-clause-more
returns-in_ok-show-in-Ok-true-clause-more g c = λ yes.
    let old = c.args.system.now.history.items in
    let new = c.take_oldest.new.self.history.items in
    let e0 : FaultCounts = record {
      files = sum_count (g.F.Backing.faults c.args.files.now.inner) c.args.files.now.reached;
      paging = sum_count (g.P.Backing.faults c.args.paging.now.inner) c.args.paging.now.reached;
    } in
    let e1 : FaultCounts = record {
      files = sum_count (g.F.Backing.faults c.take_oldest.new.files.inner) c.take_oldest.new.files.reached;
      paging = sum_count (g.P.Backing.faults c.take_oldest.new.paging.inner) c.take_oldest.new.paging.reached;
    } in
    let settles = c.requires.1.1.1.1.1.0 in
    let all = c.take_oldest.ensures in
    let is_true : c.take_oldest.result ≡ Ok true = c.in-Ok-true.is ∙ ap Ok c.in-Ok-true.field-0-test in
    let took : Took g.given old new c.args.files.now c.take_oldest.new.files c.args.paging.now c.take_oldest.new.paging e0 e1 = record {
      legal = (rw is_true at all.legal) refl;
      grew = all.grew;
      front = (rw is_true at all.front) refl;
      below = (rw is_true at all.below) refl;
      files = record { later = all.files_go.later.1; unasked = (rw is_true at all.files_unasked) refl };
      paging = record { later = all.paging_goes.later.1; unasked = (rw is_true at all.unasked) refl };
      devices = of_both (λ who. DevicesHaveCause who (counted who e0) (counted who e1) old new) all.files_go.devices all.paging_goes.devices;
    } in
    let done = held c.args.report g.given old new (g.K.Sink.written c.args.out.now) c.args.files.now c.take_oldest.new.files c.args.paging.now
    c.take_oldest.new.paging e0 e1 settles took in
    done.legal.more

pub returns-in_ok-show-in-Ok-true-clause-lines : goal.returns-in_ok-show-in-Ok-true-clause-lines
returns-in_ok-show-in-Ok-true-clause-lines g c =
    let old = c.args.system.now.history.items in
    let new = c.take_oldest.new.self.history.items in
    let e0 : FaultCounts = record {
      files = sum_count (g.F.Backing.faults c.args.files.now.inner) c.args.files.now.reached;
      paging = sum_count (g.P.Backing.faults c.args.paging.now.inner) c.args.paging.now.reached;
    } in
    let e1 : FaultCounts = record {
      files = sum_count (g.F.Backing.faults c.take_oldest.new.files.inner) c.take_oldest.new.files.reached;
      paging = sum_count (g.P.Backing.faults c.take_oldest.new.paging.inner) c.take_oldest.new.paging.reached;
    } in
    let settles = c.requires.1.1.1.1.1.0 in
    let all = c.take_oldest.ensures in
    let is_true : c.take_oldest.result ≡ Ok true = c.in-Ok-true.is ∙ ap Ok c.in-Ok-true.field-0-test in
    let took : Took g.given old new c.args.files.now c.take_oldest.new.files c.args.paging.now c.take_oldest.new.paging e0 e1 = record {
      legal = (rw is_true at all.legal) refl;
      grew = all.grew;
      front = (rw is_true at all.front) refl;
      below = (rw is_true at all.below) refl;
      files = record { later = all.files_go.later.1; unasked = (rw is_true at all.files_unasked) refl };
      paging = record { later = all.paging_goes.later.1; unasked = (rw is_true at all.unasked) refl };
      devices = of_both (λ who. DevicesHaveCause who (counted who e0) (counted who e1) old new) all.files_go.devices all.paging_goes.devices;
    } in
    let done = held c.args.report g.given old new (g.K.Sink.written c.args.out.now) c.args.files.now c.take_oldest.new.files c.args.paging.now
    c.take_oldest.new.paging e0 e1 settles took in
    done.lines

pub returns-in-Ok-false-clause-settles : goal.returns-in-Ok-false-clause-settles
returns-in-Ok-false-clause-settles g c = let same = c.in-Ok-false.ensures.quiet c.in-Ok-false.field-0-test in rw (same.1, same.2, same.3) c.requires.1.1.1.1.1.0

pub returns-in-Err-clause-stops : goal.returns-in-Err-clause-stops
returns-in-Err-clause-stops g c = λ end is.
    let old = c.args.system.now.history.items in
    let new = c.take_oldest.new.self.history.items in
    let e0 : FaultCounts = record {
      files = sum_count (g.F.Backing.faults c.args.files.now.inner) c.args.files.now.reached;
      paging = sum_count (g.P.Backing.faults c.args.paging.now.inner) c.args.paging.now.reached;
    } in
    let e1 : FaultCounts = record {
      files = sum_count (g.F.Backing.faults c.take_oldest.new.files.inner) c.take_oldest.new.files.reached;
      paging = sum_count (g.P.Backing.faults c.take_oldest.new.paging.inner) c.take_oldest.new.paging.reached;
    } in
    let all = c.take_oldest.ensures in
    let written = g.K.Sink.written c.args.out.now in
    let same : c.end_of.result ≡ end = same_end is in
    let stop : RunStops c.args.report g.given.running new written c.take_oldest.new.files c.take_oldest.new.paging e1 end = elim
    (step_ends c.in-Err.stop c.end_of.result end c.end_of.ensures.full c.end_of.ensures.none same) [
      | inl full ↦
          let err : c.take_oldest.result ≡ Err c.in-Err.stop = c.in-Err.is in
          let both = all.full.0 (err ∙ ap Err full.0) in
          let kept = all.unchanged (err ∙ ap Err full.0) in
          let was = take_full c.args.report g.given old written c.args.files.now c.args.paging.now e0 c.requires.1.1.1.1.1.0 c.requires.1.1.1.1.1.1 both.0
          both.1 in
          stops_same c.args.report g.given old new written c.args.files.now c.take_oldest.new.files c.args.paging.now c.take_oldest.new.paging e0 e1
          ends.EventLimit end
          (ap (λ z. z.history.items) kept.0) kept.1 kept.2
          (counts_same _ _ _ _ (ap (λ z. sum_count (g.F.Backing.faults z.inner) z.reached) kept.1)
          (ap (λ z. sum_count (g.P.Backing.faults z.inner) z.reached) kept.2)) full.1 was
      | inr none ↦
          let err : c.take_oldest.result ≡ Err c.in-Err.stop = c.in-Err.is in
          subst (RunStops c.args.report g.given.running new written c.take_oldest.new.files c.take_oldest.new.paging e1) (sym none.1)
          (let refused = all.refused (err ∙ ap Err none.0) in
          take_stops c.args.report g.given old new written c.args.files.now c.take_oldest.new.files c.args.paging.now c.take_oldest.new.paging e0 e1
          c.requires.1.1.1.1.1.0 all.grew refused.1.0 refused.1.1.0 refused.1.1.1
          (of_both (λ who. DevicesHaveCause who (counted who e0) (counted who e1) old new) all.files_go.devices all.paging_goes.devices))
    ] in
    stop

pub returns-in-Err-clause-cause : goal.returns-in-Err-clause-cause
returns-in-Err-clause-cause g c = λ is. absurd (step_wrote c.in-Err.stop c.end_of.result c.end_of.ensures.full c.end_of.ensures.none (same_end is))
