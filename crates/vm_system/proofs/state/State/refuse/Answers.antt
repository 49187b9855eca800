use Rattle.vm_system.proofs.Beginning.{logged, makes_refused, one_more, same_hosts, spares_told, told_code}
use Rattle.vm_system.proofs.Roomed.{on_err, only_reserved, spares_roomed, still_reserved}
use Rattle.vm_system.proofs.state.State.refuse.Goals as goal

pub tell-requires-2-clause-room : goal.tell-requires-2-clause-room
tell-requires-2-clause-room g c = c.tell.ensures.room 1 c.in_ok-reserve.ensures.room

pub returns-clause-made : goal.returns-clause-made
returns-clause-made g c =
    let hosts = same_hosts _ _ _ (same_hosts _ _ _ c.in_ok-reserve.ensures.hosts c.tell.ensures.hosts) c.tell-2.ensures.hosts in
    makes_refused g.given.header g.given.outside (record { line = c.args.line; command = c.args.command.now }) c.args.code c.args.self.now c.tell-2.new.self
    c.requires.0 c.requires.1 hosts c.tell-2.ensures.posts
    (one_more _ _ _ _ (one_more _ _ _ _ c.in_ok-reserve.ensures.history c.tell.ensures.history) c.tell-2.ensures.history)

pub returns-clause-spares : goal.returns-clause-spares
returns-clause-spares g c =
    let hosts = same_hosts _ _ _ (same_hosts _ _ _ c.in_ok-reserve.ensures.hosts c.tell.ensures.hosts) c.tell-2.ensures.hosts in
    let s = c.args.self.now in
    spares_told g.given.header g.given.outside c.args.line _ s.hosts s c.tell-2.new.self
    (told_code g.given.header g.given.outside c.args.command.now c.args.code c.args.line s c.requires.0) (logged _ _ hosts)
    (one_more _ _ _ _ (one_more _ _ _ _ c.in_ok-reserve.ensures.history c.tell.ensures.history) c.tell-2.ensures.history)

pub returns-in_err-reserve-clause-spares : goal.returns-in_err-reserve-clause-spares
returns-in_err-reserve-clause-spares g c =
    let e = c.reserve.ensures in
    spares_roomed g.given.header g.given.outside c.args.self.now c.reserve.new.self
    (only_reserved c.args.self.now c.reserve.new.self e.hosts e.history e.made e.numbers e.letters e.buffers)

pub returns-in_err-reserve-clause-err : goal.returns-in_err-reserve-clause-err
returns-in_err-reserve-clause-err g c =
    on_err _
    (let e = c.reserve.ensures in
    still_reserved g.given.header g.given.outside c.args.self.now c.reserve.new.self e.hosts e.history e.made e.numbers e.letters e.buffers c.requires.0)
