use Rattle.vm_hosts.proofs.Common.{AllQueued, AllRest, Down, HasQueue, HostTable, IsReady, Some, [], ap, host_id, length, subst, sym, ◌++◌, ◌∙◌, ◌∷◌}
use Rattle.vm_model.specs.declared.event.Event.TheVariants as event
use Rattle.vm_kernel.specs.Begun as begun
use Rattle.vm_hosts.proofs.Dues.{acted_few, acted_room, acting_ready, front_fits, front_room, other_dues}
use Rattle.vm_hosts.proofs.Rooms.{all_rooms, on_err, queued_rooms}
use Rattle.vm_hosts.proofs.Tables.{found}
use Rattle.vm_hosts.proofs.Taking.{changed_went, destroyed_went, ends_went, locked_went, paid_went, passed_on, taken_follows, taken_rests, taken_turns}
use Rattle.vm_hosts.proofs.Taking.{zeroed_went}
use Rattle.std.specs.Prelude.{true, ℕ, ◌≡◌}
use Rattle.vm_kernel.specs.Destroying.{MayDestroy, is_destroy}
use Rattle.vm_kernel.specs.Rooms.{word_breadth}
use Rattle.vm_kernel.specs.Taking.{IsOfPushed}
use Rattle.vm_hosts.proofs.hosts.Hosts.hear.Goals as goal

pub take-requires : goal.take-requires
take-requires g c =
    let given = g.given in
    let hosts : HostTable = record { kernels = c.self.inside.kernels.items; ids = c.self.inside.ids } in
    let all : AllRest given.header hosts given.past = subst (λ (z : HostTable). AllRest given.header z given.past) (sym c.self.view_is) c.requires.0 in
    let h = c.args.host.0 in
    let k = c.index_mut.result.now in
    let at = found given.header hosts given.past h k all c.requires.1.1.0 c.index_mut.ensures.value in (
      at.rests,
      (
        c.requires.1.1.1.0 ∙ ap (λ z. event.Taken (Down (host_id z) c.args.object c.args.control) c.args.message.now ∷ []) (sym at.number),
        (
          c.requires.1.1.1.1.0,
          (
            subst (λ (z : ℕ). is_destroy c.args.message.now ≡ true → MayDestroy given.header z c.args.object.0 given.past) (sym at.number)
                c.requires.1.1.1.1.1.1.1.1.0,
            (
              c.requires.1.1.1.1.1.1.0,
              subst (λ (z : ℕ). IsOfPushed z c.args.object.0 c.args.message.now given.past) (sym at.number) c.requires.1.1.1.1.1.1.1.1.1,
            ),
          ),
        ),
      ),
    )

pub serve_all-requires : goal.serve_all-requires
serve_all-requires g c =
    let given = g.given in
    let hosts : HostTable = record { kernels = c.self.inside.kernels.items; ids = c.self.inside.ids } in
    let all : AllRest given.header hosts given.past = subst (λ (z : HostTable). AllRest given.header z given.past) (sym c.self.view_is) c.requires.0 in
    let h = c.args.host.0 in
    let k = c.index_mut.result.now in
    let at = found given.header hosts given.past h k all c.requires.1.1.0 c.index_mut.ensures.value in
    let some = c.requires.1.1.1.1.1.1.1.0 in
    let ready : IsReady (Some c.args.host) (word_breadth c.args.message.now) some.0 hosts c.args.log.now.room = subst
    (λ (z : HostTable). IsReady (Some c.args.host) (word_breadth c.args.message.now) some.0 z c.args.log.now.room) (sym c.self.view_is) some.1 in
    let passed = subst (λ z. begun.Passed given.header z given.outside given.command (given.front ++ given.past) c.take.new.self c.take.new.ids
    c.take.new.log.items) at.number c.in_ok-take.ensures.passed in
    let room = c.in_ok-take.ensures.room (other_dues h hosts.kernels) (acting_ready c.args.host hosts c.take.new.self k c.take.new.ids at.at
    (word_breadth c.args.message.now) some.0 c.args.log.now.room ready)
    (front_room c.args.host hosts c.take.new.self k c.take.new.ids at.at (word_breadth c.args.message.now) some.0 c.args.log.now.room ready) in (
      taken_rests given.header given.outside given.command given.past given.front c.take.new.log.items hosts c.args.host c.args.object c.args.control
          c.args.message.now c.take.new.self c.take.new.ids c.requires.1.1.0 all c.requires.1.1.1.1.1.0 c.requires.1.1.1.0 passed,
      acted_room c.args.host hosts c.take.new.self k c.take.new.ids at.at (word_breadth c.args.message.now) some.0 c.args.log.now.room c.take.new.log.room ready
          room,
    )

pub returns-clause-passed : goal.returns-clause-passed
returns-clause-passed g c =
    let given = g.given in
    let hosts : HostTable = record { kernels = c.self.inside.kernels.items; ids = c.self.inside.ids } in
    let all : AllRest given.header hosts given.past = subst (λ (z : HostTable). AllRest given.header z given.past) (sym c.self.view_is) c.requires.0 in
    let h = c.args.host.0 in
    let k = c.index_mut.result.now in
    let at = found given.header hosts given.past h k all c.requires.1.1.0 c.index_mut.ensures.value in
    let passed = subst (λ z. begun.Passed given.header z given.outside given.command (given.front ++ given.past) c.take.new.self c.take.new.ids
    c.take.new.log.items) at.number c.in_ok-take.ensures.passed in
    passed_on given.header given.outside given.command (given.front ++ given.past) c.take.new.log.items c.serve_all.new.self c.serve_all.new.log.items
    (taken_follows given.header given.outside given.command given.past given.front c.take.new.log.items hosts c.args.host c.args.object c.args.control
    c.args.message.now c.take.new.self c.take.new.ids c.requires.1.1.0 all c.requires.1.1.1.1.1.0 c.requires.1.1.1.0 passed)
    (taken_turns given.header given.outside given.command given.past given.front c.take.new.log.items hosts c.args.host c.args.object c.args.control
    c.args.message.now c.take.new.self c.take.new.ids c.requires.1.1.0 all c.requires.1.1.1.1.1.0 c.requires.1.1.1.0 passed
    c.serve_all.new.self c.serve_all.new.log.items c.serve_all.ensures.went)
    c.serve_all.ensures.went

pub returns-clause-failed : goal.returns-clause-failed
returns-clause-failed g c =
    paid_went g.given.header g.given.outside g.given.command (g.given.front ++ g.given.past) c.take.new.log.items c.serve_all.new.log.items c.serve_all.new.self
    c.serve_all.ensures.went c.in_ok-take.ensures.failed

pub returns-clause-zeroed : goal.returns-clause-zeroed
returns-clause-zeroed g c =
    zeroed_went g.given.header g.given.outside g.given.command (g.given.front ++ g.given.past) c.take.new.log.items c.serve_all.new.log.items
    c.serve_all.new.self c.serve_all.ensures.went c.in_ok-take.ensures.zeroed

pub returns-clause-locked : goal.returns-clause-locked
returns-clause-locked g c =
    locked_went g.given.header g.given.outside g.given.command (g.given.front ++ g.given.past) c.take.new.log.items c.serve_all.new.log.items
    c.serve_all.new.self c.serve_all.ensures.went c.in_ok-take.ensures.locked

pub returns-clause-changed : goal.returns-clause-changed
returns-clause-changed g c =
    changed_went g.given.header g.given.outside g.given.command (g.given.front ++ g.given.past) c.take.new.log.items c.serve_all.new.log.items
    c.serve_all.new.self c.serve_all.ensures.went c.in_ok-take.ensures.changed

pub returns-clause-destroyed : goal.returns-clause-destroyed
returns-clause-destroyed g c =
    destroyed_went g.given.header g.given.outside g.given.command (g.given.front ++ g.given.past) c.take.new.log.items c.serve_all.new.log.items
    c.serve_all.new.self c.serve_all.ensures.went c.in_ok-take.ensures.destroyed

pub returns-clause-ended : goal.returns-clause-ended
returns-clause-ended g c =
    let given = g.given in
    let hosts : HostTable = record { kernels = c.self.inside.kernels.items; ids = c.self.inside.ids } in
    let all : AllRest given.header hosts given.past = subst (λ (z : HostTable). AllRest given.header z given.past) (sym c.self.view_is) c.requires.0 in
    let queues : AllQueued given.header hosts given.past = subst (λ (z : HostTable). AllQueued given.header z given.past) (sym c.self.view_is) c.requires.1.0 in
    let h = c.args.host.0 in
    let k = c.index_mut.result.now in
    let at = found given.header hosts given.past h k all c.requires.1.1.0 c.index_mut.ensures.value in
    ends_went given.header given.outside given.command (given.front ++ given.past) c.take.new.log.items c.serve_all.new.log.items c.serve_all.new.self
    c.serve_all.ensures.went
    (c.in_ok-take.ensures.ended (subst (λ z. HasQueue given.header z k given.past) (sym at.number) (queues h k at.at)))

pub returns-clause-few : goal.returns-clause-few
returns-clause-few g c = λ events able.
    let given = g.given in
    let hosts : HostTable = record { kernels = c.self.inside.kernels.items; ids = c.self.inside.ids } in
    let all : AllRest given.header hosts given.past = subst (λ (z : HostTable). AllRest given.header z given.past) (sym c.self.view_is) c.requires.0 in
    let h = c.args.host.0 in
    let k = c.index_mut.result.now in
    let at = found given.header hosts given.past h k all c.requires.1.1.0 c.index_mut.ensures.value in
    let ready : IsReady (Some c.args.host) (word_breadth c.args.message.now) events hosts c.args.log.now.room = subst
    (λ (z : HostTable). IsReady (Some c.args.host) (word_breadth c.args.message.now) events z c.args.log.now.room) (sym c.self.view_is) able in
    acted_few c.args.host hosts c.take.new.self k c.take.new.ids at.at (word_breadth c.args.message.now) events c.args.log.now.room
    (length c.take.new.log.items)
    (length c.serve_all.new.log.items) ready c.in_ok-take.ensures.few c.serve_all.ensures.few

pub returns-in_err-take-clause-err : goal.returns-in_err-take-clause-err
returns-in_err-take-clause-err g c =
    let given = g.given in
    let hosts : HostTable = record { kernels = c.self.inside.kernels.items; ids = c.self.inside.ids } in
    let all : AllRest given.header hosts given.past = subst (λ (z : HostTable). AllRest given.header z given.past) (sym c.self.view_is) c.requires.0 in
    let queues : AllQueued given.header hosts given.past = subst (λ (z : HostTable). AllQueued given.header z given.past) (sym c.self.view_is) c.requires.1.0 in
    let h = c.args.host.0 in
    let k = c.index_mut.result.now in
    let at = found given.header hosts given.past h k all c.requires.1.1.0 c.index_mut.ensures.value in
    let some = c.requires.1.1.1.1.1.1.1.0 in
    let ready : IsReady (Some c.args.host) (word_breadth c.args.message.now) some.0 hosts c.args.log.now.room = subst
    (λ (z : HostTable). IsReady (Some c.args.host) (word_breadth c.args.message.now) some.0 z c.args.log.now.room) (sym c.self.view_is) some.1 in
    let failed = c.in_err-take.ensures.err (acting_ready c.args.host hosts c.take.new.self k c.take.new.ids at.at (word_breadth c.args.message.now) some.0
    c.args.log.now.room ready) (front_fits c.args.host hosts c.take.new.self k c.take.new.ids at.at (word_breadth c.args.message.now)
    some.0 c.args.log.now.room ready) in
    on_err c.from_residual.result (
      all_rooms hosts h c.take.new.self k c.take.new.ids at.at failed.0 failed.1.0 given.header given.past all,
      (queued_rooms hosts h c.take.new.self k c.take.new.ids at.at failed.0 failed.1.0 given.header given.past queues, failed.1.1),
    )
