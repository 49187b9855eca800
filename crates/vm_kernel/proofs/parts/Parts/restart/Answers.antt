use Rattle.vm_kernel.proofs.Common.{Still, ap, arith, false, inr, length, not, refl, sym, true, ◌++◌, ◌≡◌}
use Rattle.vm_kernel.proofs.room.RoomForRun.{few_both, keeps_both, keeps_none}
use Rattle.vm_kernel.proofs.steps.FoundPageEnds.{first_done, first_more}
use Rattle.vm_kernel.proofs.steps.EventsGrow.{goes_both, goes_none}
use Rattle.vm_kernel.proofs.lists.ListsAsTold.{plays_both}
use Rattle.vm_kernel.proofs.steps.FramesInTurn.{restarts_more, restarts_none, wanting_of}
use Rattle.vm_kernel.specs.Serving.{wants_frame}
use Rattle.vm_kernel.proofs.parts.Parts.restart.Goals as goal

pub again-init : goal.again-init
again-init g c =
    record {
      works = c.requires;
      goes = goes_none g.given.header g.given.host g.given.outside g.given.command g.given.past c.args.log.now.items;
      plays = Still;
      first = λ task next. inr (refl, refl);
      room = λ more has. has;
      spare = keeps_none c.args.self.now;
      few = omega arith;
      restarts = restarts_none g.given.header g.given.host g.given.past c.args.self.now.waits c.args.log.now.items;
    }

pub again-preserved : goal.again-preserved
again-preserved g c =
    let was = c.again.invariant in
    let run = c.in_ok-attempt.ensures in
    record {
      works = run.works;
      goes =
          goes_both g.given.header g.given.host g.given.outside g.given.command g.given.past c.args.log.now.items c.again.log.items c.attempt.new.log.items
          was.goes run.goes;
      plays = plays_both was.plays run.plays;
      restarts = λ none.
          restarts_more g.given.header g.given.host g.given.past c.args.self.now.waits.queue c.in-Some.waiting _ (wants_frame c.in_ok-attempt.field-0)
          c.again.self.waits c.attempt.new.self.waits c.again.log.items c.attempt.new.log.items (was.restarts none)
          (record {
            order = was.works.order;
            oldest = sym c.in-Some.ensures.oldest;
            line = c.next_again.ensures.line;
            row = c.in-Some.ensures.row.0;
            again = c.in-Some.ensures.row.1;
            may = ap not c.has_queue-may_claim.ensures.queued;
          }) run.once
          (wanting_of g.given.header g.given.host c.in-Some.waiting _ c.in_ok-attempt.field-0 c.again.self c.attempt.new.self c.attempt.new.ids
          (c.again.log.items ++ g.given.past) (c.attempt.new.log.items ++ g.given.past) run.works run.attempts);
      room = λ more has. (run.room more (was.room more has)).1;
      spare = keeps_both was.spare run.spare;
      few = few_both (length c.args.log.now.items) (length c.again.log.items) (length c.attempt.new.log.items) _ _ _ was.few run.few;
      first = λ task next.
          first_more g.given.header g.given.host g.given.outside g.given.command g.given.past task c.args.self.now.waits.rows c.again.self.waits.rows
          c.attempt.new.self.waits.rows c.in-Some.waiting c.args.log.now.items c.again.log.items c.attempt.new.log.items
          (was.first task next) next c.in-Some.ensures.row.0 c.in-Some.ensures.row.1 run.goes
          (record { finds = run.ends; meets = run.fails });
    }

pub returns-clause-first : goal.returns-clause-first
returns-clause-first g c =
    λ task next. first_done g.given.header task g.given.past c.args.self.now.waits.rows c.again.self.waits.rows c.args.log.now.items c.again.log.items
    (c.again.invariant.first task next) next (rw c.in_default.is at c.next_again.ensures.row)

pub returns-clause-restarts : goal.returns-clause-restarts
returns-clause-restarts g c = λ none. let now = c.again.invariant.restarts none in (now.from, now.runs)

pub returns-in_err-attempt-clause-room : goal.returns-in_err-attempt-clause-room
returns-in_err-attempt-clause-room g c =
    λ more has. absurd (let bad : false ≡ true = (c.in_err-attempt.ensures.room more (c.again.invariant.room more has)).0 in cc)

pub returns-clause-room : goal.returns-clause-room
returns-clause-room g c = λ more has. (refl, c.again.invariant.room more has)
