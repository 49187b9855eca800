use Rattle.vm_hosts.proofs.Common.{HostTable, Parts, arith, length, length-set, refl, subst, ◌<◌, ◌∙◌, ◌≡◌}
use Rattle.vm_hosts.proofs.Rooms.{Reserving, reserving_done, reserving_next, reserving_start, reserving_tried}
use Rattle.vm_hosts.proofs.Tables.{kernel_read}
use Rattle.vm_hosts.proofs.hosts.Hosts.reserve_tables.Goals as goal

pub rooms-init : goal.rooms-init
rooms-init c =
    let hosts : HostTable = record { kernels = c.self.inside.kernels.items; ids = c.self.inside.ids } in
    record {
      reserving = subst (λ (z : HostTable). Reserving c.args.acting c.args.breadth z 0 0 hosts) c.self.view_is
          (reserving_start c.args.acting c.args.breadth hosts);
      same = refl;
    }

pub returns-in_err-told-clause-rests : goal.returns-in_err-told-clause-rests
returns-in_err-told-clause-rests c =
    let hosts : HostTable = record { kernels = c.rooms.self-inside.kernels.items; ids = c.rooms.self-inside.ids } in
    let was = c.rooms.invariant in
    let same = was.same in
    let count = c.len-host-end.ensures in
    let test = c.rooms-test.true in
    let within : c.rooms.host < length hosts.kernels = omega (arith, same, count, test) in
    let k = c.index_mut.result.now in
    let at = kernel_read hosts.kernels c.rooms.host k within c.index_mut.ensures.value in
    (reserving_tried c.args.acting c.args.breadth c.args.self.now hosts c.rooms.host c.rooms.most c.reserve_on.new.kernel k at c.reserve_on.ensures.is
    was.reserving).0

pub returns-in_err-told-clause-queues : goal.returns-in_err-told-clause-queues
returns-in_err-told-clause-queues c =
    let hosts : HostTable = record { kernels = c.rooms.self-inside.kernels.items; ids = c.rooms.self-inside.ids } in
    let was = c.rooms.invariant in
    let same = was.same in
    let count = c.len-host-end.ensures in
    let test = c.rooms-test.true in
    let within : c.rooms.host < length hosts.kernels = omega (arith, same, count, test) in
    let k = c.index_mut.result.now in
    let at = kernel_read hosts.kernels c.rooms.host k within c.index_mut.ensures.value in
    (reserving_tried c.args.acting c.args.breadth c.args.self.now hosts c.rooms.host c.rooms.most c.reserve_on.new.kernel k at c.reserve_on.ensures.is
    was.reserving).1

pub returns-in_default-clause-rests : goal.returns-in_default-clause-rests
returns-in_default-clause-rests c =
    let hosts : HostTable = record { kernels = c.rooms.self-inside.kernels.items; ids = c.rooms.self-inside.ids } in
    let was = c.rooms.invariant in
    let same = was.same in
    let count = c.len-host-end.ensures in
    let test = c.rooms-test.true in
    let within : c.rooms.host < length hosts.kernels = omega (arith, same, count, test) in
    let k = c.index_mut.result.now in
    let at = kernel_read hosts.kernels c.rooms.host k within c.index_mut.ensures.value in
    (reserving_tried c.args.acting c.args.breadth c.args.self.now hosts c.rooms.host c.rooms.most c.reserve_on.new.kernel k at c.reserve_on.ensures.is
    was.reserving).0

pub returns-in_default-clause-queues : goal.returns-in_default-clause-queues
returns-in_default-clause-queues c =
    let hosts : HostTable = record { kernels = c.rooms.self-inside.kernels.items; ids = c.rooms.self-inside.ids } in
    let was = c.rooms.invariant in
    let same = was.same in
    let count = c.len-host-end.ensures in
    let test = c.rooms-test.true in
    let within : c.rooms.host < length hosts.kernels = omega (arith, same, count, test) in
    let k = c.index_mut.result.now in
    let at = kernel_read hosts.kernels c.rooms.host k within c.index_mut.ensures.value in
    (reserving_tried c.args.acting c.args.breadth c.args.self.now hosts c.rooms.host c.rooms.most c.reserve_on.new.kernel k at c.reserve_on.ensures.is
    was.reserving).1

pub rooms-preserved : goal.rooms-preserved
rooms-preserved c =
    let hosts : HostTable = record { kernels = c.rooms.self-inside.kernels.items; ids = c.rooms.self-inside.ids } in
    let was = c.rooms.invariant in
    let same = was.same in
    let count = c.len-host-end.ensures in
    let test = c.rooms-test.true in
    let within : c.rooms.host < length hosts.kernels = omega (arith, same, count, test) in
    let k = c.index_mut.result.now in
    let at = kernel_read hosts.kernels c.rooms.host k within c.index_mut.ensures.value in
    record {
      reserving =
          reserving_next c.args.acting c.args.breadth c.args.self.now hosts c.rooms.host c.rooms.most c.in_ok-told.told c.in-Some.sum c.reserve_on.new.kernel k
          at c.reserve_on.ensures.is
          c.in_ok-told.ensures.ready c.in_ok-told.ensures.most c.in-Some.ensures.1 was.reserving;
      same = length-set {A = Parts} hosts.kernels c.rooms.host c.reserve_on.new.kernel ∙ same;
    }

pub returns-clause-ready : goal.returns-clause-ready
returns-clause-ready c = λ space room.
    let hosts : HostTable = record { kernels = c.rooms.self-inside.kernels.items; ids = c.rooms.self-inside.ids } in
    let was = c.rooms.invariant in
    let same = was.same in
    let count = c.len-host-end.ensures in
    let test = c.rooms-test.false in
    let below = c.rooms.auto.host-end in
    let all : length hosts.kernels ≡ c.rooms.host = omega (arith, same, count, test, below) in
    reserving_done c.args.acting c.args.breadth c.args.self.now hosts c.rooms.host c.rooms.most space all room was.reserving
