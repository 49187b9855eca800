use Rattle.vm_kernel.proofs.Common.{ap, queued, refl}
use Rattle.vm_kernel.proofs.steps.BeforeAll.{first_rests}
use Rattle.vm_kernel.proofs.kernel.Kernel.new.Goals as goal

pub returns-clause-rests : goal.returns-clause-rests
returns-clause-rests c =
    first_rests c.args.header.now c.args.host.0 _ c.at-count.result.now c.requires.ranged c.requires.host refl refl c.in_ok-declared.ensures c.at-count.ensures
    c.in_ok-memory.ensures c.new-3.ensures c.new-4.ensures.regions c.new-4.ensures.shadows c.new-5.ensures c.in_ok-laundry.ensures.held
    c.in_ok-laundry.ensures.room
    (ap (λ z. z.rows) c.new-6.ensures)

pub returns-clause-queue : goal.returns-clause-queue
returns-clause-queue c = ap (λ z. queued z.rows) c.new-6.ensures

pub returns-clause-lists : goal.returns-clause-lists
returns-clause-lists c = (ap (λ z. z.active) c.in_ok-memory.ensures.queues, ap (λ z. z.inactive) c.in_ok-memory.ensures.queues)
