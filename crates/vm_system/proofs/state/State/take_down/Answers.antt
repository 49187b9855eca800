use Rattle.std.specs.Prelude.{slice_get}
use Rattle.vm_ports.specs.Ports.{queue as queue_on}
use Rattle.vm_kernel.specs.Rooms.{word_breadth}
use Rattle.vm_system.proofs.Sending.{sent_one}
use Rattle.vm_system.proofs.Common.{Breadth, Channel, Down, Event, HasRoom, HostsPart, IsReady, IsSent, List, Listed, Some, ap, arith, length, queue, refl}
use Rattle.vm_system.proofs.Common.{subst, sym, ◌++◌, ◌∙◌, ◌∷◌, ◌≡◌}
use Rattle.vm_model.specs.declared.event.Event.TheVariants as event
use Rattle.vm_system.proofs.Following.{both_spares, same_all}
use Rattle.vm_system.proofs.Roomed.{behind_all, fewer_room, may_roomed, on_err, room_for, roomed_files, roomed_pagers, spares_roomed, still_of, still_roomed}
use Rattle.vm_system.proofs.Roomed.{still_taken}
use Rattle.vm_system.proofs.Taken.{first_told, front_of, may_head, may_only, may_port, may_read, may_some, may_there}
use Rattle.vm_system.proofs.TakenDown.{can_down, down_destroys, down_letter, down_licensed, down_pushed, spares_down, took_down}
use Rattle.vm_system.proofs.state.State.take_down.Goals as goal

pub head-requires : goal.head-requires
head-requires g c = may_port g.given c.args.line c.args.number (Down c.args.host c.args.object c.args.control) c.args.self.now c.requires

pub unreachable-requires : goal.unreachable-requires
unreachable-requires g c =
    may_some g.given c.args.line c.args.number (Down c.args.host c.args.object c.args.control) c.args.self.now c.requires c.in_default.ensures

pub sent-requires : goal.sent-requires
sent-requires g c =
    may_read g.given c.args.line c.args.number (Down c.args.host c.args.object c.args.control) c.in-Some.index.now c.args.self.now c.requires c.in-Some.ensures

pub sent-message-requires : goal.sent-message-requires
sent-message-requires g c =
    let given = g.given in
    let s = c.args.self.now in
    let t = c.prepare.new.self in
    let r = c.prepare.ensures.same in
    let channel = Down c.args.host c.args.object c.args.control in
    let may = may_roomed given c.args.line c.args.number channel s t c.requires r in
    may_read given c.args.line c.args.number channel c.in-Some.index.now t may (subst (λ z. slice_get (queue_on c.args.number.0 z) 0 ≡ Some c.in-Some.index.now)
    (sym r.letters) c.in-Some.ensures)

pub take-requires : goal.take-requires
take-requires g c =
    let given = g.given in
    let s = c.args.self.now in
    let t = c.prepare.new.self in
    let r = c.prepare.ensures.same in
    let channel = Down c.args.host c.args.object c.args.control in
    let may = may_roomed given c.args.line c.args.number channel s t c.requires r in
    let m = c.sent-message.result.now in
    let head = may_head given c.args.line c.args.number channel c.in-Some.index.now m t may
    (subst (λ z. slice_get (queue_on c.args.number.0 z) 0 ≡ Some c.in-Some.index.now) (sym r.letters) c.in-Some.ensures) c.sent-message.ensures in
    let front = front_of given c.args.line c.args.number channel t may in
    let letter = down_letter given c.args.line c.args.number c.args.host c.args.object c.args.control m t may head in
    let ready = c.in_ok-prepare.ensures.ready in
    let read = c.sent-message.ensures in
    let same = sent_one s.history.items c.in-Some.index.now read.0 c.sent.ensures.0 m c.sent.result.now
    (subst (λ (z : List Event). IsSent z c.in-Some.index.now read.0 m) r.history read.1) c.sent.ensures.1 in
    let able = subst (λ (z : Breadth). IsReady (Some c.args.host) z ready.0 t.hosts t.log.room) (c.of_word-breadth.ensures ∙ ap word_breadth same)
    ready.1.hosts in (
      front.rests,
      (
        front.queues,
        (
          letter.0,
          (
            letter.1,
            (
              down_licensed given c.args.line c.args.number c.args.host c.args.object c.args.control m t may head,
              (
                may.stands.log,
                (
                  (ready.0, able),
                  (
                    down_destroys given c.args.line c.args.number c.args.host c.args.object c.args.control m t may head,
                    down_pushed given c.args.line c.args.number c.args.host c.args.object c.args.control m t may head,
                  ),
                ),
              ),
            ),
          ),
        ),
      ),
    )

pub take_first-requires-clause-there : goal.take_first-requires-clause-there
take_first-requires-clause-there g c =
    let given = g.given in
    let s = c.args.self.now in
    let t = c.prepare.new.self in
    let r = c.prepare.ensures.same in
    let channel = Down c.args.host c.args.object c.args.control in
    let may = may_roomed given c.args.line c.args.number channel s t c.requires r in
    may_there given c.args.line c.args.number channel t may

pub take_first-requires-clause-some : goal.take_first-requires-clause-some
take_first-requires-clause-some g c =
    let given = g.given in
    let s = c.args.self.now in
    let t = c.prepare.new.self in
    let r = c.prepare.ensures.same in
    let channel = Down c.args.host c.args.object c.args.control in
    let may = may_roomed given c.args.line c.args.number channel s t c.requires r in
    λ other is none. may.some (ap (λ (z : Channel). queue z t.history.items) (sym (may_only given c.args.line c.args.number channel other t may is)) ∙ none)

pub take_first-requires-clause-room : goal.take_first-requires-clause-room
take_first-requires-clause-room g c =
    let ready = c.in_ok-prepare.ensures.ready in let room = room_for ready.0 2 2 c.prepare.new.self (omega arith)
    ready.1.room in record { history = room.history; channels = room.channels; numbers = room.numbers; letters = room.letters }

pub take_first-requires-clause-buffer : goal.take_first-requires-clause-buffer
take_first-requires-clause-buffer g c = c.in_ok-prepare.ensures.ready.1.buffer

pub commit_log-requires-clause-can : goal.commit_log-requires-clause-can
commit_log-requires-clause-can g c =
    let given = g.given in
    let s = c.args.self.now in
    let t = c.prepare.new.self in
    let r = c.prepare.ensures.same in
    let channel = Down c.args.host c.args.object c.args.control in
    let may = may_roomed given c.args.line c.args.number channel s t c.requires r in
    let m = c.sent-message.result.now in
    let head = may_head given c.args.line c.args.number channel c.in-Some.index.now m t may
    (subst (λ z. slice_get (queue_on c.args.number.0 z) 0 ≡ Some c.in-Some.index.now) (sym r.letters) c.in-Some.ensures) c.sent-message.ensures in
    let events = c.take.new.log.items in
    let told = first_told given c.args.line c.args.number channel m t t c.take_first.new.self may head refl refl c.take_first.ensures.history in
    let logged : c.take_first.new.self.log.items ≡ events = ap (λ (z : Listed Event). z.items) c.take_first.ensures.hosts.log in
    rw (c.take_first.ensures.hosts.size, may.stands.agrees.size, logged, told)
    (can_down given c.args.host c.args.object c.args.control m t c.take.new.self events (front_of given c.args.line c.args.number channel t may) head
    c.in_ok-take.ensures.passed)

pub commit_log-requires-clause-room : goal.commit_log-requires-clause-room
commit_log-requires-clause-room g c =
    let s = c.args.self.now in
    let t = c.prepare.new.self in
    let r = c.prepare.ensures.same in
    let m = c.sent-message.result.now in
    let ready = c.in_ok-prepare.ensures.ready in
    let read = c.sent-message.ensures in
    let same = sent_one s.history.items c.in-Some.index.now read.0 c.sent.ensures.0 m c.sent.result.now
    (subst (λ (z : List Event). IsSent z c.in-Some.index.now read.0 m) r.history read.1) c.sent.ensures.1 in
    let able = subst (λ (z : Breadth). IsReady (Some c.args.host) z ready.0 t.hosts t.log.room) (c.of_word-breadth.ensures ∙ ap word_breadth same)
    ready.1.hosts in
    let room = ready.1.room in
    let few = c.in_ok-take.ensures.few ready.0 able in
    let left = behind_all ready.0 t c.take_first.new.self room (λ n h d s l. c.take_first.ensures.room n
    (record { history = h; channels = d; numbers = s; letters = l })) in
    subst (λ (z : Listed Event). HasRoom (length z.items) c.take_first.new.self) (sym c.take_first.ensures.hosts.log)
    (fewer_room (length c.take.new.log.items) ready.0 c.take_first.new.self few left)

pub returns-clause-took : goal.returns-clause-took
returns-clause-took g c =
    let given = g.given in
    let s = c.args.self.now in
    let t = c.prepare.new.self in
    let r = c.prepare.ensures.same in
    let channel = Down c.args.host c.args.object c.args.control in
    let may = may_roomed given c.args.line c.args.number channel s t c.requires r in
    let m = c.sent-message.result.now in
    let head = may_head given c.args.line c.args.number channel c.in-Some.index.now m t may
    (subst (λ z. slice_get (queue_on c.args.number.0 z) 0 ≡ Some c.in-Some.index.now) (sym r.letters) c.in-Some.ensures) c.sent-message.ensures in
    let events = c.take.new.log.items in
    let told = first_told given c.args.line c.args.number channel m t t c.take_first.new.self may head refl refl c.take_first.ensures.history in
    let new = c.commit_log.new.self in
    let logged : c.take_first.new.self.log.items ≡ events = ap (λ (z : Listed Event). z.items) c.take_first.ensures.hosts.log in
    let items : new.history.items ≡ events ++ event.Taken channel m ∷ given.past = rw (c.commit_log.ensures.history, logged, told) refl in
    let one = c.take_first.ensures.hosts in
    let two = c.commit_log.ensures.hosts in
    let e = c.in_ok-take.ensures in
    let passed : HostsPart given.header given.outside given.command (event.Taken channel m ∷ given.past) new.hosts events = rw (two.hosts, one.hosts)
    e.passed in
    took_down given c.args.line c.args.number c.args.host c.args.object c.args.control m t new events may head passed e.failed e.zeroed e.locked e.changed
    e.destroyed e.ended
    (two.size ∙ one.size) (rw (two.pagers, one.pagers) refl) (rw (two.files, one.files) refl)
    (rw (two.declared, one.declared) refl) (two.server ∙ one.server) items c.commit_log.ensures.posts c.commit_log.ensures.log

pub returns-clause-spares : goal.returns-clause-spares
returns-clause-spares g c =
    let given = g.given in
    let s = c.args.self.now in
    let t = c.prepare.new.self in
    let r = c.prepare.ensures.same in
    let channel = Down c.args.host c.args.object c.args.control in
    let may = may_roomed given c.args.line c.args.number channel s t c.requires r in
    let m = c.sent-message.result.now in
    let head = may_head given c.args.line c.args.number channel c.in-Some.index.now m t may
    (subst (λ z. slice_get (queue_on c.args.number.0 z) 0 ≡ Some c.in-Some.index.now) (sym r.letters) c.in-Some.ensures) c.sent-message.ensures in
    let events = c.take.new.log.items in
    let told = first_told given c.args.line c.args.number channel m t t c.take_first.new.self may head refl refl c.take_first.ensures.history in
    let new = c.commit_log.new.self in
    let logged : c.take_first.new.self.log.items ≡ events = ap (λ (z : Listed Event). z.items) c.take_first.ensures.hosts.log in
    let items : new.history.items ≡ events ++ event.Taken channel m ∷ given.past = rw (c.commit_log.ensures.history, logged, told) refl in
    let one = c.take_first.ensures.hosts in
    let two = c.commit_log.ensures.hosts in
    both_spares given.header given.outside s t new (spares_roomed given.header given.outside s t r)
    (spares_down given c.args.line c.args.number c.args.host c.args.object c.args.control m t new c.take.new.self events may c.in_ok-take.ensures.passed
    (rw (two.pagers, one.pagers) refl) (rw (two.files, one.files) refl) items)

pub returns-in_err-prepare-clause-err : goal.returns-in_err-prepare-clause-err
returns-in_err-prepare-clause-err g c =
    on_err _
    (still_roomed g.given.header g.given.outside c.args.self.now c.prepare.new.self c.prepare.ensures.same c.requires.stands)

pub returns-in_err-prepare-clause-spares : goal.returns-in_err-prepare-clause-spares
returns-in_err-prepare-clause-spares g c = spares_roomed g.given.header g.given.outside c.args.self.now c.prepare.new.self c.prepare.ensures.same

pub returns-in_err-take-clause-err : goal.returns-in_err-take-clause-err
returns-in_err-take-clause-err g c =
    on_err _
    (let given = g.given in
    let s = c.args.self.now in
    let t = c.prepare.new.self in
    let r = c.prepare.ensures.same in
    let channel = Down c.args.host c.args.object c.args.control in
    let may = may_roomed given c.args.line c.args.number channel s t c.requires r in
    let e = c.in_err-take.ensures.err in
    still_of given.header given.outside s _ (still_taken given c.args.line c.args.number channel t c.take.new.self c.take.new.log may e.0 e.1.0 e.1.1)
    r.history)

pub returns-in_err-take-clause-spares : goal.returns-in_err-take-clause-spares
returns-in_err-take-clause-spares g c =
    let r = c.prepare.ensures.same in
    same_all g.given.header g.given.outside c.args.self.now _ (roomed_pagers _ _ r) (roomed_files _ _ r) r.history
