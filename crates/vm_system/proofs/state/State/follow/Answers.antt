use Rattle.vm_system.proofs.Common.{HostsPart, None, length, ◌++◌}
use Rattle.vm_system.proofs.Following.{can_follow, followed, kept_followed, same_declared, same_files, same_pagers}
use Rattle.vm_system.proofs.Roomed.{fewer_room}
use Rattle.vm_kernel.specs.declared.breadth.Breadth.TheVariants as wide
use Rattle.vm_system.proofs.state.State.follow.Goals as goal

pub follow-requires : goal.follow-requires
follow-requires g c = (c.requires.1.0.rests, (c.requires.1.0.answers, (c.requires.1.0.log, (None, (wide.Few, (c.requires.1.1.0, c.requires.1.1.1.0))))))

pub commit_log-requires-clause-can : goal.commit_log-requires-clause-can
commit_log-requires-clause-can g c =
    can_follow g.given c.args.host c.args.washed c.args.self.now c.follow.new.self c.follow.new.log.items c.requires.1.0 c.follow.ensures.passed

pub commit_log-requires-clause-room : goal.commit_log-requires-clause-room
commit_log-requires-clause-room g c =
    let room = c.requires.1.1 in
    let r = room.1.1 in
    fewer_room (length c.follow.new.log.items) room.0 _ (c.follow.ensures.few None wide.Few room.0 room.1.0)
    (record { history = r.history; channels = r.channels; numbers = r.numbers; letters = r.letters })

pub returns-clause-followed : goal.returns-clause-followed
returns-clause-followed g c =
    let given = g.given in
    let both = c.commit_log.ensures.hosts in
    let events = c.follow.new.log.items in
    let new = c.commit_log.new.self in
    let passed : HostsPart given.header given.outside given.command (given.front ++ given.past) new.hosts events = rw both.hosts c.follow.ensures.passed in
    followed given c.args.host c.args.washed c.args.self.now new events c.requires.1.0 passed both.size (same_pagers _ _ both) (same_files _ _ both)
    (same_declared _ _ both) both.server
    c.commit_log.ensures.history c.commit_log.ensures.posts c.commit_log.ensures.log

pub returns-clause-spares : goal.returns-clause-spares
returns-clause-spares g c =
    let both = c.commit_log.ensures.hosts in
    kept_followed g.given c.args.host c.args.washed c.args.self.now c.commit_log.new.self c.follow.new.self c.follow.new.log.items c.requires.1.0
    c.follow.ensures.passed (same_pagers _ _ both) (same_files _ _ both)
    c.commit_log.ensures.history
