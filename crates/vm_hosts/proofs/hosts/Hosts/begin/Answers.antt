use Rattle.vm_hosts.proofs.Common.{AllQueued, AllRest, Command, HostTable, IsReady, Some, Went, breadth_of, length, subst, sym}
use Rattle.vm_hosts.proofs.Dues.{acted_few, acted_room, acting_ready, front_fits, front_room, other_dues}
use Rattle.vm_hosts.proofs.Rooms.{all_rooms, on_err, queued_rooms}
use Rattle.vm_hosts.proofs.Starting.{began, rests_ran, starts_of}
use Rattle.vm_hosts.proofs.Tables.{found}
use Rattle.vm_hosts.proofs.hosts.Hosts.begin.Goals as goal

pub begin-requires : goal.begin-requires
begin-requires g c =
    let given = g.given in
    let hosts : HostTable = record { kernels = c.self.inside.kernels.items; ids = c.self.inside.ids } in
    let all : AllRest given.header hosts given.past = subst (λ (z : HostTable). AllRest given.header z given.past) (sym c.self.view_is) c.requires.0 in
    let at = found given.header hosts given.past c.args.host.0 c.index_mut.result.now all c.requires.1.1.1.1.1.1.1.0.known c.index_mut.ensures.value in
    let r = c.requires.1.1 in (
      starts_of given.header c.args.command.now given.past c.args.log.now.items hosts c.args.host.0 c.index_mut.result.now at c.requires.1.1.1.1.1.1.1.0.acts
          r.0
          r.1.1.0 r.1.1.1.0 r.1.1.1.1.0,
      r.1.0,
    )

pub serve_all-requires : goal.serve_all-requires
serve_all-requires g c =
    let given = g.given in
    let hosts : HostTable = record { kernels = c.self.inside.kernels.items; ids = c.self.inside.ids } in
    let all : AllRest given.header hosts given.past = subst (λ (z : HostTable). AllRest given.header z given.past) (sym c.self.view_is) c.requires.0 in
    let h = c.args.host.0 in
    let k = c.index_mut.result.now in
    let at = found given.header hosts given.past h k all c.requires.1.1.1.1.1.1.1.0.known c.index_mut.ensures.value in
    let some = c.requires.1.1.1.1.1.1.1.1 in
    let ready : IsReady (Some c.args.host) (breadth_of c.args.command.now) some.0 hosts c.args.log.now.room = subst
    (λ (z : HostTable). IsReady (Some c.args.host) (breadth_of c.args.command.now) some.0 z c.args.log.now.room) (sym c.self.view_is) some.1 in
    let room = c.in_ok-begin.ensures.room (other_dues h hosts.kernels) (acting_ready c.args.host hosts c.begin.new.self k c.begin.new.ids at.at
    (breadth_of c.args.command.now) some.0 c.args.log.now.room ready)
    (front_room c.args.host hosts c.begin.new.self k c.begin.new.ids at.at (breadth_of c.args.command.now) some.0 c.args.log.now.room ready) in (
      rests_ran given.header given.outside c.args.command.now given.past c.begin.new.log.items hosts h k.host.0 c.begin.new.self c.begin.new.ids at.number
          c.requires.1.1.1.1.1.1.1.0.known all c.in_ok-begin.ensures.ran,
      acted_room c.args.host hosts c.begin.new.self k c.begin.new.ids at.at (breadth_of c.args.command.now) some.0 c.args.log.now.room c.begin.new.log.room
          ready room,
    )

pub returns-clause-began : goal.returns-clause-began
returns-clause-began g c =
    let given = g.given in
    let hosts : HostTable = record { kernels = c.self.inside.kernels.items; ids = c.self.inside.ids } in
    let all : AllRest given.header hosts given.past = subst (λ (z : HostTable). AllRest given.header z given.past) (sym c.self.view_is) c.requires.0 in
    let at = found given.header hosts given.past c.args.host.0 c.index_mut.result.now all c.requires.1.1.1.1.1.1.1.0.known c.index_mut.ensures.value in
    began given.header given.outside c.args.command.now given.past c.begin.new.log.items hosts c.args.host.0 c.index_mut.result.now.host.0 c.begin.new.self
    c.begin.new.ids c.serve_all.new.self c.serve_all.new.log.items at.number c.requires.1.1.1.1.1.1.1.0
    all c.in_ok-begin.ensures.ran c.requires.1.1.1.0 c.requires.1.1.1.1.1.0
    (subst (λ (z : Command). Went given.header given.outside z given.past c.begin.new.log.items c.serve_all.new.self c.serve_all.new.log.items) c.requires.1.0
    c.serve_all.ensures.went)

pub returns-clause-few : goal.returns-clause-few
returns-clause-few g c = λ events able.
    let given = g.given in
    let hosts : HostTable = record { kernels = c.self.inside.kernels.items; ids = c.self.inside.ids } in
    let all : AllRest given.header hosts given.past = subst (λ (z : HostTable). AllRest given.header z given.past) (sym c.self.view_is) c.requires.0 in
    let h = c.args.host.0 in
    let k = c.index_mut.result.now in
    let at = found given.header hosts given.past h k all c.requires.1.1.1.1.1.1.1.0.known c.index_mut.ensures.value in
    let ready : IsReady (Some c.args.host) (breadth_of c.args.command.now) events hosts c.args.log.now.room = subst
    (λ (z : HostTable). IsReady (Some c.args.host) (breadth_of c.args.command.now) events z c.args.log.now.room) (sym c.self.view_is) able in
    acted_few c.args.host hosts c.begin.new.self k c.begin.new.ids at.at (breadth_of c.args.command.now) events c.args.log.now.room
    (length c.begin.new.log.items)
    (length c.serve_all.new.log.items) ready c.in_ok-begin.ensures.few c.serve_all.ensures.few

pub returns-in_err-begin-clause-err : goal.returns-in_err-begin-clause-err
returns-in_err-begin-clause-err g c =
    let given = g.given in
    let hosts : HostTable = record { kernels = c.self.inside.kernels.items; ids = c.self.inside.ids } in
    let all : AllRest given.header hosts given.past = subst (λ (z : HostTable). AllRest given.header z given.past) (sym c.self.view_is) c.requires.0 in
    let h = c.args.host.0 in
    let k = c.index_mut.result.now in
    let at = found given.header hosts given.past h k all c.requires.1.1.1.1.1.1.1.0.known c.index_mut.ensures.value in
    let some = c.requires.1.1.1.1.1.1.1.1 in
    let ready : IsReady (Some c.args.host) (breadth_of c.args.command.now) some.0 hosts c.args.log.now.room = subst
    (λ (z : HostTable). IsReady (Some c.args.host) (breadth_of c.args.command.now) some.0 z c.args.log.now.room) (sym c.self.view_is) some.1 in
    let failed = c.in_err-begin.ensures.err (acting_ready c.args.host hosts c.begin.new.self k c.begin.new.ids at.at (breadth_of c.args.command.now) some.0
    c.args.log.now.room ready) (front_fits c.args.host hosts c.begin.new.self k c.begin.new.ids at.at (breadth_of c.args.command.now)
    some.0 c.args.log.now.room ready) in
    on_err c.from_residual.result (
      all_rooms hosts h c.begin.new.self k c.begin.new.ids at.at failed.0 failed.1.0 given.header given.past all,
      (
        λ was. queued_rooms hosts h c.begin.new.self k c.begin.new.ids at.at failed.0 failed.1.0 given.header given.past
            (subst (λ (z : HostTable). AllQueued given.header z given.past) (sym c.self.view_is) was),
        failed.1.1,
      ),
    )
