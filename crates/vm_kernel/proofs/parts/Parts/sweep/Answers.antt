use Rattle.vm_kernel.proofs.Common.{Still, arith, by_address, drop, false, true, ◌+◌, ◌≡◌}
use Rattle.vm_kernel.proofs.space.EntriesLeave.{next_out, none_so_far}
use Rattle.vm_kernel.proofs.lists.ListsAsTold.{plays_both}
use Rattle.vm_kernel.proofs.steps.FramesInTurn.{quiet_both, quiet_none}
use Rattle.vm_kernel.proofs.room.EndsSpend.{roomy_on}
use Rattle.vm_kernel.proofs.room.CallsSpend.{spends_both, spends_none}
use Rattle.vm_kernel.proofs.parts.Parts.sweep.Goals as goal

pub all-init : goal.all-init
all-init g c =
    record {
      sweeps = c.requires.0;
      thin = c.requires.1.0;
      count = omega arith;
      room = omega arith;
      plays = Still;
      quiet = quiet_none c.args.self.now.waits.queue c.args.log.now.items;
      ends = none_so_far g.given.header _ (by_address c.args.gone.now) c.args.log.now.items;
      spends = spends_none c.args.self.now c.args.log.now _;
      buffers = λ has. has;
    }

pub all-preserved : goal.all-preserved
all-preserved g c =
    record {
      sweeps = c.in_ok-release.ensures.sweeps;
      thin = c.in_ok-release.ensures.thin;
      count = omega (arith, c.all.invariant.count, c.in_ok-release.ensures.count);
      room = omega (arith, c.all.invariant.room, c.in_ok-release.ensures.room);
      plays = plays_both c.all.invariant.plays c.in_ok-release.ensures.plays;
      quiet =
          quiet_both c.args.self.now.waits.queue c.all.self.waits.queue c.release.new.self.waits.queue c.args.log.now.items c.all.log.items
          c.release.new.log.items c.all.invariant.quiet c.in_ok-release.ensures.quiet;
      ends =
          next_out g.given.header g.given.past (by_address c.args.gone.now) (drop c.all.i (by_address c.args.gone.now))
          (drop (c.all.i + 1) (by_address c.args.gone.now)) c.args.log.now.items c.all.log.items c.release.new.log.items c.all.invariant.ends
          c.in_ok-release.ensures.ends;
      spends =
          spends_both c.args.self.now c.all.self c.release.new.self c.args.log.now c.all.log c.release.new.log _ _ _ c.all.invariant.spends
          c.in_ok-release.ensures.spends;
      buffers = λ has. c.in_ok-release.ensures.buffers (c.all.invariant.buffers has);
    }

pub returns-clause-quiet : goal.returns-clause-quiet
returns-clause-quiet g c = c.all.invariant.quiet

pub returns-in_err-release-clause-succeeds : goal.returns-in_err-release-clause-succeeds
returns-in_err-release-clause-succeeds g c = λ room has.
    let bad : false ≡ true = c.in_err-release.ensures.succeeds (roomy_on c.args.self.now c.all.self c.args.log.now c.all.log _ _ c.all.invariant.spends room)
    (c.all.invariant.buffers has) in
    absurd (cc)
