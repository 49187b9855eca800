use Rattle.vm_hosts.proofs.Common.{HostTable, IsReady, arith, subst, sym, ℕ, ◌≤◌}
use Rattle.vm_hosts.proofs.Rooms.{ready_whole}
use Rattle.vm_hosts.proofs.hosts.Hosts.reserve.Goals as goal

pub returns-clause-ready : goal.returns-clause-ready
returns-clause-ready c =
    let hosts : HostTable = record { kernels = c.self.inside.kernels.items; ids = c.self.inside.ids } in
    let asked = c.room_to_ask-asked.ensures in
    let got = c.in_ok-reserve.ensures.room in
    let most = c.in_ok-most.most in
    let ready = subst (λ (z : HostTable). (space : ℕ) → most ≤ space → IsReady c.args.acting c.args.breadth most z space) (sym c.self.view_is)
    c.in_ok-most.ensures.ready in
    ready_whole c.args.acting c.args.breadth most c.in-Ok.events c.args.more c.in-Some.room c.reserve.new.self.room hosts c.in-Ok.ensures.1 c.in-Some.ensures.1
    (omega (arith, asked, got)) ready
