use Rattle.vm_kernel.proofs.Common.{Event, Parts, ap, length, subst, sym, ◌+◌, ◌≤◌}
use Rattle.vm_base.specs.Listing.{Listed}
use Rattle.vm_kernel.proofs.room.QueueRoom.{serves_few, serves_on}
use Rattle.vm_kernel.specs.Rooms.{MayServe, own_dues}
use Rattle.vm_kernel.proofs.kernel.Kernel.serve.Goals as goal

pub returns-clause-left : goal.returns-clause-left
returns-clause-left g c more room =
    let go = c.in-Ok.ensures in
    (serves_on more c.self.inside.parts c.args.log.now.room c.go_on.new.log.room
    (subst (λ (z : Parts). MayServe more z c.args.log.now.room) (sym c.self.view_is) room) (go.room more)
    (λ idle. let it = go.idle idle in (it.0, ap (λ (z : Listed Event). z.room) it.1.1.1))).1

pub returns-clause-few : goal.returns-clause-few
returns-clause-few g c =
    let go = c.in-Ok.ensures in
    subst (λ (z : Parts). length c.go_on.new.log.items ≤ length c.args.log.now.items + own_dues z) c.self.view_is
    (serves_few c.self.inside.parts (length c.args.log.now.items) (length c.go_on.new.log.items) go.few
    (λ idle. ap (λ (z : Listed Event). length z.items) (go.idle idle).1.1.1))
