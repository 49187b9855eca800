use Rattle.vm_kernel.proofs.Common.{Parts, ap, arith, false, inr, length, queued, refl, true, ◌∙◌, ◌≡◌}
use Rattle.std.specs.Prelude.{◌+◌, ◌++◌}
use Rattle.vm_kernel.proofs.room.RoomForRun.{few_both, front_runs, served_room, serve_spare}
use Rattle.vm_kernel.proofs.steps.EventsGrow.{goes_both}
use Rattle.vm_kernel.proofs.steps.QueueServed.{attempts_idle, rests_of, served_less}
use Rattle.vm_kernel.proofs.steps.FramesInTurn.{leaves_gone, leaves_of, leaves_ran, others_gone, others_ran}
use Rattle.vm_kernel.specs.Serving.{wants_frame}
use Rattle.vm_kernel.proofs.parts.Parts.serve.Goals as goal

pub returns-then-branch-clause-goes : goal.returns-then-branch-clause-goes
returns-then-branch-clause-goes g c =
    goes_both g.given.header g.given.host g.given.outside g.given.command g.given.past c.args.log.now.items c.attempt.new.log.items c.stops.new.log.items
    (goes_both g.given.header g.given.host g.given.outside g.given.command g.given.past c.args.log.now.items c.serve.log.items c.attempt.new.log.items
    c.serve.invariant.goes c.in_ok-source.ensures.goes)
    c.in_ok-stops.ensures.goes

pub returns-then-branch-clause-leaves : goal.returns-then-branch-clause-leaves
returns-then-branch-clause-leaves g c =
    let was = leaves_of g.given.header g.given.past c.args.self.now c.serve.self c.args.log.now.items c.serve.log.items c.serve.invariant.serving
    c.front.ensures.line in
    let leaves =
    leaves_ran g.given.header g.given.past c.args.self.now c.serve.self c.attempt.new.self c.in-Some.waiting true (wants_frame c.in_ok-source.field-0)
    c.args.log.now.items c.serve.log.items c.attempt.new.log.items was c.front.ensures.line c.in-Some.ensures.first
    c.in-Some.ensures.row.1 c.in_ok-source.ensures.once c.in_ok-source.ensures.plays in
    leaves_gone g.given.header g.given.host g.given.past c.args.self.now c.attempt.new.self c.stops.new.self c.args.log.now.items c.attempt.new.log.items
    c.stops.new.log.items leaves c.in_ok-stops.ensures.waits c.in_ok-stops.ensures.reclaims
    c.in_ok-stops.ensures.plays

pub returns-then-branch-clause-others : goal.returns-then-branch-clause-others
returns-then-branch-clause-others g c =
    let was = leaves_of g.given.header g.given.past c.args.self.now c.serve.self c.args.log.now.items c.serve.log.items c.serve.invariant.serving
    c.front.ensures.line in
    others_gone c.args.self.now.waits.queue c.args.self.now.waits.rows c.attempt.new.self.waits c.stops.new.self.waits c.in_ok-stops.ensures.waits
    (others_ran g.given.header g.given.past c.args.self.now c.serve.self c.attempt.new.self c.in-Some.waiting true (wants_frame c.in_ok-source.field-0)
    c.args.self.now.waits.rows c.args.log.now.items c.serve.log.items c.attempt.new.log.items was c.in-Some.ensures.first
    c.in_ok-source.ensures.once c.serve.invariant.others)

pub serve-preserved-else-branch : goal.serve-preserved-else-branch
serve-preserved-else-branch g c =
    let was = leaves_of g.given.header g.given.past c.args.self.now c.serve.self c.args.log.now.items c.serve.log.items c.serve.invariant.serving
    c.front.ensures.line in
    let leaves =
    leaves_ran g.given.header g.given.past c.args.self.now c.serve.self c.attempt.new.self c.in-Some.waiting true (wants_frame c.in_ok-source.field-0)
    c.args.log.now.items c.serve.log.items c.attempt.new.log.items was c.front.ensures.line c.in-Some.ensures.first
    c.in-Some.ensures.row.1 c.in_ok-source.ensures.once c.in_ok-source.ensures.plays in
    let others =
    others_ran g.given.header g.given.past c.args.self.now c.serve.self c.attempt.new.self c.in-Some.waiting true (wants_frame c.in_ok-source.field-0)
    c.args.self.now.waits.rows c.args.log.now.items c.serve.log.items c.attempt.new.log.items was c.in-Some.ensures.first
    c.in_ok-source.ensures.once c.serve.invariant.others in
    record {
      few =
          few_both (length c.args.log.now.items) (length c.attempt.new.log.items) (length c.stops.new.log.items) _ _ _
          (few_both (length c.args.log.now.items) (length c.serve.log.items) (length c.attempt.new.log.items) _ _ _ c.serve.invariant.few
          c.in_ok-source.ensures.few) (c.in_ok-stops.ensures.few c.if-branch.false);
      room =
          λ more had. ((c.in_ok-stops.ensures.room more (serve_spare (c.serve.invariant.room more had) c.in_ok-source.ensures.spare
          (c.in_ok-source.ensures.room (more + 2) (c.serve.invariant.room more had).has).1)).1).on c.if-branch.false;
      idle =
          λ none. absurd (front_runs c.serve.self.waits.rows c.in-Some.waiting (ap (λ (z : Parts). queued z.waits.rows) (c.serve.invariant.idle none).0 ∙ none)
          c.in-Some.ensures.row.0 c.in-Some.ensures.row.1);
      rests = c.in_ok-stops.ensures.rests;
      goes =
          goes_both g.given.header g.given.host g.given.outside g.given.command g.given.past c.args.log.now.items c.attempt.new.log.items c.stops.new.log.items
          (goes_both g.given.header g.given.host g.given.outside g.given.command g.given.past c.args.log.now.items c.serve.log.items c.attempt.new.log.items
          c.serve.invariant.goes c.in_ok-source.ensures.goes)
          c.in_ok-stops.ensures.goes;
      others =
          others_gone c.args.self.now.waits.queue c.args.self.now.waits.rows c.attempt.new.self.waits c.stops.new.self.waits c.in_ok-stops.ensures.waits others;
      serving =
          inr
          (leaves_gone g.given.header g.given.host g.given.past c.args.self.now c.attempt.new.self c.stops.new.self c.args.log.now.items c.attempt.new.log.items
          c.stops.new.log.items leaves c.in_ok-stops.ensures.waits c.in_ok-stops.ensures.reclaims
          c.in_ok-stops.ensures.plays);
    }

pub serve-preserved : goal.serve-preserved
serve-preserved g c =
    let was = leaves_of g.given.header g.given.past c.args.self.now c.serve.self c.args.log.now.items c.serve.log.items c.serve.invariant.serving
    c.front.ensures.line in
    record {
      few =
          few_both (length c.args.log.now.items) (length c.serve.log.items) (length c.attempt.new.log.items) _ _ _ c.serve.invariant.few
          c.in_ok-source.ensures.few;
      room =
          λ more had. let was_room = c.serve.invariant.room more had in serve_spare was_room c.in_ok-source.ensures.spare
          (c.in_ok-source.ensures.room (more + 2) was_room.has).1;
      idle =
          λ none. absurd (front_runs c.serve.self.waits.rows c.in-Some.waiting (ap (λ (z : Parts). queued z.waits.rows) (c.serve.invariant.idle none).0 ∙ none)
          c.in-Some.ensures.row.0 c.in-Some.ensures.row.1);
      rests =
          rests_of _ g.given.host _ _ _ c.in_ok-source.ensures.works (attempts_idle _ g.given.host _ _ _ _ _ _ _ c.in_ok-source.ensures.attempts
          c.serve.invariant.rests.idle);
      goes =
          goes_both g.given.header g.given.host g.given.outside g.given.command g.given.past c.args.log.now.items c.serve.log.items c.attempt.new.log.items
          c.serve.invariant.goes c.in_ok-source.ensures.goes;
      others =
          others_ran g.given.header g.given.past c.args.self.now c.serve.self c.attempt.new.self c.in-Some.waiting true (wants_frame c.in_ok-source.field-0)
          c.args.self.now.waits.rows c.args.log.now.items c.serve.log.items c.attempt.new.log.items was
          c.in-Some.ensures.first c.in_ok-source.ensures.once c.serve.invariant.others;
      serving =
          inr
          (leaves_ran g.given.header g.given.past c.args.self.now c.serve.self c.attempt.new.self c.in-Some.waiting true (wants_frame c.in_ok-source.field-0)
          c.args.log.now.items c.serve.log.items c.attempt.new.log.items was c.front.ensures.line
          c.in-Some.ensures.first c.in-Some.ensures.row.1 c.in_ok-source.ensures.once c.in_ok-source.ensures.plays);
    }

pub returns-clause-leaves : goal.returns-clause-leaves
returns-clause-leaves g c =
    leaves_of g.given.header g.given.past c.args.self.now c.serve.self c.args.log.now.items c.serve.log.items c.serve.invariant.serving c.front.ensures.line

pub returns-in_err-stops-clause-idle : goal.returns-in_err-stops-clause-idle
returns-in_err-stops-clause-idle g c =
    λ none. absurd (front_runs c.serve.self.waits.rows c.in-Some.waiting (ap (λ (z : Parts). queued z.waits.rows) (c.serve.invariant.idle none).0 ∙ none)
    c.in-Some.ensures.row.0 c.in-Some.ensures.row.1)

pub returns-then-branch-clause-idle : goal.returns-then-branch-clause-idle
returns-then-branch-clause-idle g c =
    λ none. absurd (front_runs c.serve.self.waits.rows c.in-Some.waiting (ap (λ (z : Parts). queued z.waits.rows) (c.serve.invariant.idle none).0 ∙ none)
    c.in-Some.ensures.row.0 c.in-Some.ensures.row.1)

pub returns-in_err-stops-clause-room : goal.returns-in_err-stops-clause-room
returns-in_err-stops-clause-room g c = λ more has some.
    let was = c.serve.invariant.room more (record { has = has; buffers = some }) in
    let next = serve_spare was c.in_ok-source.ensures.spare (c.in_ok-source.ensures.room (more + 2) was.has).1 in
    absurd (let bad : false ≡ true = (c.in_err-stops.ensures.room more next).0 in cc)

pub returns-then-branch-clause-room : goal.returns-then-branch-clause-room
returns-then-branch-clause-room g c = λ more has some.
    let was = c.serve.invariant.room more (record { has = has; buffers = some }) in
    let next = serve_spare was c.in_ok-source.ensures.spare (c.in_ok-source.ensures.room (more + 2) was.has).1 in
    (refl, (c.in_ok-stops.ensures.room more next).1.off c.if-branch.true)

pub returns-clause-room : goal.returns-clause-room
returns-clause-room g c = λ more has some. (refl, served_room (c.serve.invariant.room more (record { has = has; buffers = some })))

pub returns-then-branch-clause-few : goal.returns-then-branch-clause-few
returns-then-branch-clause-few g c =
    let was = c.serve.invariant.few in
    let run = c.in_ok-source.ensures.few in
    let two = c.in_ok-stops.ensures.two in
    omega (arith, was, run, two)

pub returns-then-branch-clause-served : goal.returns-then-branch-clause-served
returns-then-branch-clause-served g c = inr (c.in_ok-stops.ensures.full c.if-branch.true)

pub serve-smaller : goal.serve-smaller
serve-smaller g c =
    served_less g.given.header g.given.host c.in-Some.waiting c.in_ok-source.field-0 c.serve.self c.attempt.new.self c.serve.ids c.attempt.new.ids
    (c.serve.log.items ++ g.given.past) (c.attempt.new.log.items ++ g.given.past) c.serve.invariant.rests c.in_ok-source.ensures.works
    c.in-Some.ensures.row.1 c.in_ok-source.ensures.attempts c.in_default-2.not-Wants
