use Rattle.vm_kernel.proofs.Common.{Parts, ap, paging, subst, ◌++◌, ◌∙◌, ◌≡◌}
use Rattle.vm_kernel.proofs.steps.EventsGrow.{goes_none}
use Rattle.vm_kernel.proofs.room.KernelReady.{most_washed, ready_washed}
use Rattle.vm_kernel.specs.Rooms.{IsReady, most}
use Rattle.vm_kernel.proofs.kernel.Kernel.laundered.Goals as goal

pub returns-clause-passed : goal.returns-clause-passed
returns-clause-passed g c =
    record { rests = c.launder.ensures.rests; goes = goes_none g.given.header g.given.host g.given.outside g.given.command (g.given.front ++ g.given.past) _ }

pub returns-clause-pages : goal.returns-clause-pages
returns-clause-pages g c = c.launder.ensures.same ∙ ap paging c.self.view_is

pub returns-clause-waits : goal.returns-clause-waits
returns-clause-waits g c = c.launder.ensures.waits ∙ ap (λ (z : Parts). z.waits) c.self.view_is

pub returns-clause-ready : goal.returns-clause-ready
returns-clause-ready g c breadth =
    subst (λ (z : Parts). IsReady breadth z → IsReady breadth c.launder.new.self) c.self.view_is
    (ready_washed breadth c.self.inside.parts c.launder.new.self c.launder.ensures.rest c.launder.ensures.frames)

pub returns-clause-most : goal.returns-clause-most
returns-clause-most g c breadth =
    subst (λ (z : Parts). most breadth c.launder.new.self ≡ most breadth z) c.self.view_is
    (most_washed breadth c.self.inside.parts c.launder.new.self c.launder.ensures.rest c.launder.ensures.frames)
