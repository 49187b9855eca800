use Rattle.vm_hosts.proofs.Common.{AllRest, CanServe, HostTable, Parts, arith, length, length-set, refl, subst, sum_of_dues, sym, ◌++◌, ◌+◌, ◌<◌, ◌∙◌, ◌≡◌, ◌≤◌}
use Rattle.vm_hosts.proofs.Dues.{dues_from, serves_done, serves_next, serves_room, serves_start}
use Rattle.vm_hosts.proofs.Serving.{serving_done, serving_more, serving_start}
use Rattle.vm_hosts.proofs.Tables.{found}
use Rattle.vm_hosts.proofs.hosts.Hosts.serve_all.Goals as goal

pub hosts-init : goal.hosts-init
hosts-init g c =
    let given = g.given in
    let hosts : HostTable = record { kernels = c.self.inside.kernels.items; ids = c.self.inside.ids } in
    let all : AllRest given.header hosts (c.args.log.now.items ++ given.past) = subst
    (λ (z : HostTable). AllRest given.header z (c.args.log.now.items ++ given.past)) (sym c.self.view_is) c.requires.0 in
    let can : CanServe hosts c.args.log.now.room = subst (λ (z : HostTable). CanServe z c.args.log.now.room) (sym c.self.view_is) c.requires.1 in
    record {
      serving = serving_start given.header given.outside given.command given.past c.args.log.now.items hosts all;
      same = refl;
      serves = serves_start hosts (length c.args.log.now.items) c.args.log.now.room can;
    }

pub serve-requires : goal.serve-requires
serve-requires g c =
    let was = c.hosts.invariant.serving in
    let hosts : HostTable = record { kernels = c.hosts.self-inside.kernels.items; ids = c.hosts.self-inside.ids } in
    let count = was.rests.count in
    let same = c.hosts.invariant.same in
    let known : c.hosts.host < length g.given.header.frames.items = omega (arith, count, same) in
    let k = c.index_mut.result.now in
    let at = found g.given.header hosts (c.hosts.log.items ++ g.given.past) c.hosts.host k was.rests known c.index_mut.ensures.value in
    let total = length c.args.log.now.items + sum_of_dues c.self.inside.kernels.items in (
      at.rests,
      (
        dues_from (c.hosts.host + 1) hosts.kernels,
        serves_room total c.hosts.host hosts k (length c.hosts.log.items) c.hosts.log.room at.at c.hosts.invariant.serves,
      ),
    )

pub hosts-preserved : goal.hosts-preserved
hosts-preserved g c =
    let given = g.given in
    let was = c.hosts.invariant.serving in
    let hosts : HostTable = record { kernels = c.hosts.self-inside.kernels.items; ids = c.hosts.self-inside.ids } in
    let count = was.rests.count in
    let same = c.hosts.invariant.same in
    let known : c.hosts.host < length given.header.frames.items = omega (arith, count, same) in
    let k = c.index_mut.result.now in
    let at = found given.header hosts (c.hosts.log.items ++ given.past) c.hosts.host k was.rests known c.index_mut.ensures.value in
    let total = length c.args.log.now.items + sum_of_dues c.self.inside.kernels.items in
    let serves = c.hosts.invariant.serves in
    let room = serves_room total c.hosts.host hosts k (length c.hosts.log.items) c.hosts.log.room at.at serves in
    record {
      serving =
          serving_more given.header given.outside given.command given.past c.args.log.now.items c.hosts.log.items c.serve.new.log.items c.hosts.host k.host.0
          hosts c.serve.new.self c.serve.new.ids at.number at.within was
          c.serve.ensures.served;
      same = length-set {A = Parts} c.hosts.self-inside.kernels.items c.hosts.host c.serve.new.self ∙ same;
      serves =
          serves_next total c.hosts.host hosts k (length c.hosts.log.items) c.hosts.log.room at.at serves c.serve.new.self c.serve.new.ids
          (length c.serve.new.log.items) c.serve.new.log.room c.serve.ensures.few
          (c.serve.ensures.left (dues_from (c.hosts.host + 1) hosts.kernels) room);
    }

pub returns : goal.returns
returns g c =
    let given = g.given in
    let first : HostTable = record { kernels = c.self.inside.kernels.items; ids = c.self.inside.ids } in
    let hosts : HostTable = record { kernels = c.hosts.self-inside.kernels.items; ids = c.hosts.self-inside.ids } in
    let same = c.hosts.invariant.same in
    let all : length c.hosts.self-inside.kernels.items ≡ c.hosts.host = omega (arith, same) in
    let total = length c.args.log.now.items + sum_of_dues first.kernels in
    record {
      went =
          serving_done given.header given.outside given.command given.past c.args.log.now.items c.hosts.log.items c.hosts.host hosts all
          c.hosts.invariant.serving;
      few =
          subst (λ (z : HostTable). length c.hosts.log.items ≤ length c.args.log.now.items + sum_of_dues z.kernels) c.self.view_is
          (serves_done total c.hosts.host hosts (length c.hosts.log.items) c.hosts.log.room c.hosts.invariant.serves);
    }
