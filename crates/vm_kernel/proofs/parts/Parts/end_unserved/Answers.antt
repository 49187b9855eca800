use Rattle.vm_kernel.proofs.Common.{Event, LegalEvents, List, subst, sym, ◌++◌}
use Rattle.vm_kernel.proofs.steps.AccessUnserved.{ends_unserved}
use Rattle.vm_kernel.proofs.steps.RowsInOrder.{without_keeps}
use Rattle.vm_kernel.specs.Matches.{Undone}
use Rattle.vm_kernel.proofs.parts.Parts.end_unserved.Goals as goal

pub returns-clause-undone : goal.returns-clause-undone
returns-clause-undone g c =
    let w = c.args.waiting in
    subst (λ (z : List Event). Undone g.given.header g.given.host (record c.args.self.now { waits = c.remove.new.self }) c.args.ids.now (z ++ g.given.past))
    (sym c.in_ok-push.ensures.ok)
    (ends_unserved g.given.header g.given.host g.given.outside g.given.command g.given.past c.args.log.now.items c.args.self.now c.args.ids.now w c.args.key
    c.remove.new.self c.requires.0 c.requires.1.0 c.requires.1.1.0 c.requires.1.1.1
    (record { entry = c.remove.ensures.entry; order = without_keeps w.task.0 c.args.self.now.waits.rows c.remove.new.self.rows c.remove.ensures.rows })).undone

pub returns-clause-goes : goal.returns-clause-goes
returns-clause-goes g c =
    let w = c.args.waiting in
    subst (λ (z : List Event). LegalEvents g.given.header g.given.host g.given.outside g.given.command g.given.past c.args.log.now.items z)
    (sym c.in_ok-push.ensures.ok)
    (ends_unserved g.given.header g.given.host g.given.outside g.given.command g.given.past c.args.log.now.items c.args.self.now c.args.ids.now w c.args.key
    c.remove.new.self c.requires.0 c.requires.1.0 c.requires.1.1.0 c.requires.1.1.1
    (record { entry = c.remove.ensures.entry; order = without_keeps w.task.0 c.args.self.now.waits.rows c.remove.new.self.rows c.remove.ensures.rows })).goes
