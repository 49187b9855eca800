use Rattle.vm_kernel.proofs.Common.{ap, arith, false, length, true, ◌≡◌, ◌≤◌}
use Rattle.vm_kernel.proofs.lists.ListsAsTold.{plays_both}
use Rattle.vm_kernel.proofs.room.EndsSpend.{spends_less}
use Rattle.vm_kernel.proofs.room.MergesSpend.{merge_log, merge_rows, ok_all, rows_small, sweep_roomy, sweep_spends}
use Rattle.vm_kernel.proofs.steps.EventsGrow.{on_ok}
use Rattle.vm_kernel.proofs.steps.FramesInTurn.{quiet_both}
use Rattle.vm_kernel.specs.Rooms.{Spends, leaving}
use Rattle.vm_kernel.proofs.parts.Parts.sweep_and_merge.Given.{Over}
use Rattle.vm_kernel.proofs.parts.Parts.sweep_and_merge.Goals as goal
use Rattle.vm_kernel.proofs.parts.Parts.sweep_and_merge.Goals.{After-merge}

pub sweep-requires : goal.sweep-requires
sweep-requires g c = (c.requires.0, (λ u l can. absurd (c.requires.1.0 u l can), c.requires.1.1.1))

pub merge-requires : goal.merge-requires
merge-requires g c = (c.in_ok-sweep.ensures.sweeps, c.in_ok-sweep.ensures.thin)

-- no more losers than entries
few : (g : Over) (c : After-merge g) → length c.sweep.new.losers.items ≤ length c.args.gone.now.items
few g c = let none = ap length c.requires.1.1.0 in omega (arith, none, c.in_ok-sweep.ensures.count)

swept : (g : Over) (c : After-merge g) → Spends (leaving c.args.self.now c.args.ids.now) 0 0 c.args.self.now c.args.log.now c.sweep.new.self c.sweep.new.log
swept g c = spends_less c.args.self.now c.sweep.new.self c.args.log.now c.sweep.new.log _ _ 0 c.in_ok-sweep.ensures.spends (omega arith)

pub returns-clause-plays : goal.returns-clause-plays
returns-clause-plays g c = on_ok c.merge.result _ _ (λ more. plays_both c.in_ok-sweep.ensures.plays more) c.merge.ensures.plays

pub returns-clause-quiet : goal.returns-clause-quiet
returns-clause-quiet g c =
    on_ok c.merge.result _ _ (λ more. quiet_both c.args.self.now.waits.queue c.sweep.new.self.waits.queue c.merge.new.self.waits.queue c.args.log.now.items
    c.sweep.new.log.items c.merge.new.log.items c.in_ok-sweep.ensures.quiet more) c.merge.ensures.quiet

pub returns-clause-ends : goal.returns-clause-ends
returns-clause-ends g c =
    on_ok c.merge.result _ _ (λ only. record { mid = c.sweep.new.log.items; ends = c.in_ok-sweep.ensures.ends; merges = only }) c.merge.ensures.only

pub returns-clause-spends : goal.returns-clause-spends
returns-clause-spends g c = λ n has.
    ok_all c.merge.result _ _ _ _
    (λ rows next. sweep_spends c.args.self.now c.sweep.new.self c.merge.new.self c.args.log.now c.sweep.new.log c.merge.new.log _ n _ _ (swept g c) has
    (few g c)
    rows next) c.merge.ensures.rows c.merge.ensures.spends

pub returns-clause-succeeds : goal.returns-clause-succeeds
returns-clause-succeeds g c = λ n has small roomy buffers.
    c.merge.ensures.succeeds
    (merge_rows c.args.self.now c.sweep.new.self c.merge.new.self c.args.log.now c.sweep.new.log c.merge.new.log _ n _ _ (swept g c) has (few g c) roomy)
    (rows_small _ _ small (few g c))
    (merge_log c.args.self.now c.sweep.new.self c.merge.new.self c.args.log.now c.sweep.new.log c.merge.new.log _ n _ _ (swept g c) (few g c) roomy)

pub returns-in_err-sweep-clause-succeeds : goal.returns-in_err-sweep-clause-succeeds
returns-in_err-sweep-clause-succeeds g c = λ n has small roomy buffers.
    let bad : false ≡ true = c.in_err-sweep.ensures.succeeds (sweep_roomy _ n _ c.args.self.now _ has roomy) buffers in absurd (cc)

pub returns-clause-buffers : goal.returns-clause-buffers
returns-clause-buffers g c = on_ok c.merge.result _ _ (λ more has. more (c.in_ok-sweep.ensures.buffers has)) c.merge.ensures.buffers
