use Rattle.vm_system.proofs.Common.{Channel, Event, Followed, Going, List, None, PagerHasAnswered, State, Up, [], ap, arith, length, HasRoom, queue}
use Rattle.vm_system.proofs.Common.{refl}
use Rattle.vm_system.proofs.Common.{subst, sym, take, ℕ, ◌++◌, ◌+◌, ◌∙◌, ◌∷◌, ◌≡◌}
use Rattle.vm_model.specs.declared.event.Event.TheVariants as event
use Rattle.vm_system.proofs.Beginning.{same_hosts}
use Rattle.vm_system.proofs.Following.{both_spares, same_all, same_files, same_pagers}
use Rattle.vm_system.proofs.Roomed.{behind_answers, behind_first, head_still, may_roomed, may_server, on_err, ready_still, room_for, shared_few, spares_roomed}
use Rattle.vm_system.proofs.Roomed.{spares_server, stands_server, still_of, still_server}
use Rattle.vm_system.proofs.Taken.{first_told, may_head, may_only, may_port, may_read, may_some, may_there}
use Rattle.vm_system.proofs.TakenShared.{answered_shared, can_reply_shared, shared_reply, spares_shared, took_shared, up_shared}
use Rattle.vm_system.proofs.TakenUp.{front_is, front_length}
use Rattle.vm_kernel.specs.declared.breadth.Breadth.TheVariants as wide
use Rattle.vm_system.proofs.Replied.{answer_keeps}
use Rattle.vm_system.proofs.state.State.take_shared.Goals as goal

pub head-requires : goal.head-requires
head-requires g c = may_port g.given c.args.line c.args.number (Up c.args.host c.args.object) c.args.self.now c.requires.0

pub unreachable-requires : goal.unreachable-requires
unreachable-requires g c =
    may_some g.given c.args.line c.args.number (Up c.args.host c.args.object) c.args.self.now c.requires.0 c.in_default.ensures

pub sent-message-requires : goal.sent-message-requires
sent-message-requires g c =
    let given = g.given in
    let s = c.args.self.now in
    let channel = Up c.args.host c.args.object in
    let u = c.expect.new.self in
    let front_any = may_server given c.args.line c.args.number channel s u u.server c.expect.ensures.same c.requires.0 c.expect.ensures.table in
    let r = c.prepare.ensures.same in
    let t = c.prepare.new.self in
    let any = may_roomed given c.args.line c.args.number channel u t front_any r in
    may_read given c.args.line c.args.number channel c.in-Some.index.now t any
    (head_still c.args.number c.in-Some.index.now s u t c.expect.ensures.same r.letters c.in-Some.ensures)

pub answer-requires-clause-host : goal.answer-requires-clause-host
answer-requires-clause-host g c =
    let given = g.given in
    let s = c.args.self.now in
    let channel = Up c.args.host c.args.object in
    let u = c.expect.new.self in
    let front_any = may_server given c.args.line c.args.number channel s u u.server c.expect.ensures.same c.requires.0 c.expect.ensures.table in
    let r = c.prepare.ensures.same in
    let t = c.prepare.new.self in
    let any = may_roomed given c.args.line c.args.number channel u t front_any r in
    let m = c.sent-message.result.now in
    let at = may_head given c.args.line c.args.number channel c.in-Some.index.now m t any
    (head_still c.args.number c.in-Some.index.now s u t c.expect.ensures.same r.letters c.in-Some.ensures) c.sent-message.ensures in
    let word = up_shared given c.args.line c.args.number c.args.host c.args.object m t any c.requires.1 at in
    word.0

pub answer-requires-clause-to_server : goal.answer-requires-clause-to_server
answer-requires-clause-to_server g c =
    let given = g.given in
    let s = c.args.self.now in
    let channel = Up c.args.host c.args.object in
    let u = c.expect.new.self in
    let front_any = may_server given c.args.line c.args.number channel s u u.server c.expect.ensures.same c.requires.0 c.expect.ensures.table in
    let r = c.prepare.ensures.same in
    let t = c.prepare.new.self in
    let any = may_roomed given c.args.line c.args.number channel u t front_any r in
    let m = c.sent-message.result.now in
    let at = may_head given c.args.line c.args.number channel c.in-Some.index.now m t any
    (head_still c.args.number c.in-Some.index.now s u t c.expect.ensures.same r.letters c.in-Some.ensures) c.sent-message.ensures in
    let word = up_shared given c.args.line c.args.number c.args.host c.args.object m t any c.requires.1 at in
    word.1

pub answer-requires-clause-whole : goal.answer-requires-clause-whole
answer-requires-clause-whole g c =
    let given = g.given in
    let s = c.args.self.now in
    let channel = Up c.args.host c.args.object in
    let u = c.expect.new.self in
    let front_any = may_server given c.args.line c.args.number channel s u u.server c.expect.ensures.same c.requires.0 c.expect.ensures.table in
    let r = c.prepare.ensures.same in
    let t = c.prepare.new.self in
    let any = may_roomed given c.args.line c.args.number channel u t front_any r in
    let m = c.sent-message.result.now in
    let at = may_head given c.args.line c.args.number channel c.in-Some.index.now m t any
    (head_still c.args.number c.in-Some.index.now s u t c.expect.ensures.same r.letters c.in-Some.ensures) c.sent-message.ensures in
    let word = up_shared given c.args.line c.args.number c.args.host c.args.object m t any c.requires.1 at in
    rw any.stands.agrees.server.size word.2

pub take_first-requires-clause-there : goal.take_first-requires-clause-there
take_first-requires-clause-there g c =
    let given = g.given in
    let s = c.args.self.now in
    let channel = Up c.args.host c.args.object in
    let u = c.expect.new.self in
    let front_any = may_server given c.args.line c.args.number channel s u u.server c.expect.ensures.same c.requires.0 c.expect.ensures.table in
    let r = c.prepare.ensures.same in
    let t = c.prepare.new.self in
    let any = may_roomed given c.args.line c.args.number channel u t front_any r in
    may_there given c.args.line c.args.number channel t any

pub take_first-requires-clause-some : goal.take_first-requires-clause-some
take_first-requires-clause-some g c =
    let given = g.given in
    let s = c.args.self.now in
    let channel = Up c.args.host c.args.object in
    let u = c.expect.new.self in
    let front_any = may_server given c.args.line c.args.number channel s u u.server c.expect.ensures.same c.requires.0 c.expect.ensures.table in
    let r = c.prepare.ensures.same in
    let t = c.prepare.new.self in
    let any = may_roomed given c.args.line c.args.number channel u t front_any r in
    λ other is none. any.some (ap (λ (z : Channel). queue z t.history.items) (sym (may_only given c.args.line c.args.number channel other t any is)) ∙ none)

pub commit-requires-clause-can : goal.commit-requires-clause-can
commit-requires-clause-can g c =
    let given = g.given in
    let s = c.args.self.now in
    let channel = Up c.args.host c.args.object in
    let u = c.expect.new.self in
    let front_any = may_server given c.args.line c.args.number channel s u u.server c.expect.ensures.same c.requires.0 c.expect.ensures.table in
    let r = c.prepare.ensures.same in
    let t = c.prepare.new.self in
    let any = may_roomed given c.args.line c.args.number channel u t front_any r in
    let m = c.sent-message.result.now in
    let at = may_head given c.args.line c.args.number channel c.in-Some.index.now m t any
    (head_still c.args.number c.in-Some.index.now s u t c.expect.ensures.same r.letters c.in-Some.ensures) c.sent-message.ensures in
    let e = c.in_ok-words.ensures in
    let events = c.in_ok-words.words.items in
    let table = c.answer.new.self in
    let reply = shared_reply given c.args.line c.args.number c.args.host c.args.object m t table events any c.requires.1 at e.answered e.words in
    let told = first_told given c.args.line c.args.number channel m t t c.take_first.new.self any at refl refl c.take_first.ensures.history in
    rw (c.take_first.ensures.hosts.size, any.stands.agrees.size, told) (can_reply_shared given c.args.host c.args.object m t t.server table events reply)

pub follow-requires : goal.follow-requires
follow-requires g c =
    let given = g.given in
    let s = c.args.self.now in
    let channel = Up c.args.host c.args.object in
    let u = c.expect.new.self in
    let front_any = may_server given c.args.line c.args.number channel s u u.server c.expect.ensures.same c.requires.0 c.expect.ensures.table in
    let r = c.prepare.ensures.same in
    let t = c.prepare.new.self in
    let any = may_roomed given c.args.line c.args.number channel u t front_any r in
    let m = c.sent-message.result.now in
    let at = may_head given c.args.line c.args.number channel c.in-Some.index.now m t any
    (head_still c.args.number c.in-Some.index.now s u t c.expect.ensures.same r.letters c.in-Some.ensures) c.sent-message.ensures in
    let e = c.in_ok-words.ensures in
    let events = c.in_ok-words.words.items in
    let table = c.answer.new.self in
    let reply = shared_reply given c.args.line c.args.number c.args.host c.args.object m t table events any c.requires.1 at e.answered e.words in
    let told = first_told given c.args.line c.args.number channel m t t c.take_first.new.self any at refl refl c.take_first.ensures.history in
    let both = same_hosts _ _ _ c.take_first.ensures.hosts c.commit.ensures.hosts in
    let now = c.commit.new.self in
    let items : now.history.items ≡ events ++ event.Taken channel m ∷ given.past = c.commit.ensures.history ∙ ap (λ (z : List Event). events ++ z) told in
    let n = c.len-fresh.result + 1 in
    let count : n ≡ length events + 1 = ap (λ (z : ℕ). z + 1) c.len-fresh.ensures in
    let front : take n now.history.items ≡ events ++ event.Taken channel m ∷ [] = front_is n events (event.Taken channel m) given.past now.history.items count
    items in
    let going : List Event → Going = λ z. record { header = given.header; outside = given.outside; command = given.command; past = given.past; front = z } in
    let done : PagerHasAnswered (going (take n now.history.items)) c.args.host c.gives_frame-washed.result now =
    rw (front, c.gives_frame-washed.ensures)
    (answered_shared given c.args.host c.args.object m t now t.server table events reply (same_pagers _ _ both) (same_files _ _ both) both.server
    (answer_keeps given c.args.line c.args.number channel t _ now _ any refl refl refl refl both items c.commit.ensures.posts)) in
    let ready = c.in_ok-prepare.ensures.ready in
    let more = c.in_ok-most.most in
    let few = shared_few given c.args.line c.args.number channel c.args.object c.in-Some.index.now c.sent-message.result.now c.in_ok-most.most
    (length c.in_ok-words.words.items) s u t c.requires.0 any c.expect.ensures.same r.history r.server
    c.sent-message.ensures c.in_ok-most.ensures.most c.in_ok-words.ensures.few_told in
    let room_all = subst (λ (z : ℕ). HasRoom (ready.0 + z) t) (omega (arith, c.in-Some-checked_add.ensures)) ready.1.room in
    let room = behind_answers ready.0 more (length events) c.take_first.new.self now few
    (behind_first ready.0 more t c.take_first.new.self room_all (λ n h d s l. c.take_first.ensures.room n
    (record { history = h; channels = d; numbers = s; letters = l }))) c.commit.ensures.room in (
      front_length n now.history.items events (event.Taken channel m) front count,
      (done, (ready.0, (ready_still None wide.Few ready.0 t now both.hosts both.log ready.1.hosts, room))),
    )

pub returns-clause-took : goal.returns-clause-took
returns-clause-took g c =
    let given = g.given in
    let s = c.args.self.now in
    let channel = Up c.args.host c.args.object in
    let u = c.expect.new.self in
    let front_any = may_server given c.args.line c.args.number channel s u u.server c.expect.ensures.same c.requires.0 c.expect.ensures.table in
    let r = c.prepare.ensures.same in
    let t = c.prepare.new.self in
    let any = may_roomed given c.args.line c.args.number channel u t front_any r in
    let m = c.sent-message.result.now in
    let at = may_head given c.args.line c.args.number channel c.in-Some.index.now m t any
    (head_still c.args.number c.in-Some.index.now s u t c.expect.ensures.same r.letters c.in-Some.ensures) c.sent-message.ensures in
    let e = c.in_ok-words.ensures in
    let events = c.in_ok-words.words.items in
    let table = c.answer.new.self in
    let reply = shared_reply given c.args.line c.args.number c.args.host c.args.object m t table events any c.requires.1 at e.answered e.words in
    let told = first_told given c.args.line c.args.number channel m t t c.take_first.new.self any at refl refl c.take_first.ensures.history in
    let both = same_hosts _ _ _ c.take_first.ensures.hosts c.commit.ensures.hosts in
    let now = c.commit.new.self in
    let items : now.history.items ≡ events ++ event.Taken channel m ∷ given.past = c.commit.ensures.history ∙ ap (λ (z : List Event). events ++ z) told in
    let n = c.len-fresh.result + 1 in
    let count : n ≡ length events + 1 = ap (λ (z : ℕ). z + 1) c.len-fresh.ensures in
    let front : take n now.history.items ≡ events ++ event.Taken channel m ∷ [] = front_is n events (event.Taken channel m) given.past now.history.items count
    items in
    let going : List Event → Going = λ z. record { header = given.header; outside = given.outside; command = given.command; past = given.past; front = z } in
    took_shared given c.args.host c.args.object m t c.follow.new.self t.server table events reply
    (subst (λ (z : List Event). Followed (going z) c.follow.new.self) front c.follow.ensures.followed)

pub returns-clause-spares : goal.returns-clause-spares
returns-clause-spares g c =
    let given = g.given in
    let s = c.args.self.now in
    let channel = Up c.args.host c.args.object in
    let u = c.expect.new.self in
    let front_any = may_server given c.args.line c.args.number channel s u u.server c.expect.ensures.same c.requires.0 c.expect.ensures.table in
    let r = c.prepare.ensures.same in
    let t = c.prepare.new.self in
    let any = may_roomed given c.args.line c.args.number channel u t front_any r in
    let m = c.sent-message.result.now in
    let at = may_head given c.args.line c.args.number channel c.in-Some.index.now m t any
    (head_still c.args.number c.in-Some.index.now s u t c.expect.ensures.same r.letters c.in-Some.ensures) c.sent-message.ensures in
    let e = c.in_ok-words.ensures in
    let events = c.in_ok-words.words.items in
    let table = c.answer.new.self in
    let reply = shared_reply given c.args.line c.args.number c.args.host c.args.object m t table events any c.requires.1 at e.answered e.words in
    let told = first_told given c.args.line c.args.number channel m t t c.take_first.new.self any at refl refl c.take_first.ensures.history in
    let both = same_hosts _ _ _ c.take_first.ensures.hosts c.commit.ensures.hosts in
    let now = c.commit.new.self in
    let items : now.history.items ≡ events ++ event.Taken channel m ∷ given.past = c.commit.ensures.history ∙ ap (λ (z : List Event). events ++ z) told in
    let shared = spares_shared given c.args.line c.args.number c.args.host c.args.object m t now t.server table events any reply (same_pagers _ _ both)
    (same_files _ _ both) items in
    let new = c.follow.new.self in
    let front = both_spares given.header given.outside s u t (spares_server given.header given.outside s u c.expect.ensures.same)
    (spares_roomed given.header given.outside u t r) in
    both_spares given.header given.outside s t new front (both_spares given.header given.outside t now new shared c.follow.ensures.spares)

pub overflow_add-fresh : goal.overflow_add-fresh
overflow_add-fresh g c =
    let given = g.given in
    let s = c.args.self.now in
    let channel = Up c.args.host c.args.object in
    let u = c.expect.new.self in
    let front_any = may_server given c.args.line c.args.number channel s u u.server c.expect.ensures.same c.requires.0 c.expect.ensures.table in
    let r = c.prepare.ensures.same in
    let t = c.prepare.new.self in
    let any = may_roomed given c.args.line c.args.number channel u t front_any r in
    let few = shared_few given c.args.line c.args.number channel c.args.object c.in-Some.index.now c.sent-message.result.now c.in_ok-most.most
    (length c.in_ok-words.words.items) s u t c.requires.0 any c.expect.ensures.same r.history r.server
    c.sent-message.ensures c.in_ok-most.ensures.most c.in_ok-words.ensures.few_told in
    omega (arith, few, c.len-fresh.ensures, c.in-Some-checked_add.ensures)

pub commit-requires-clause-room : goal.commit-requires-clause-room
commit-requires-clause-room g c =
    let given = g.given in
    let s = c.args.self.now in
    let channel = Up c.args.host c.args.object in
    let u = c.expect.new.self in
    let front_any = may_server given c.args.line c.args.number channel s u u.server c.expect.ensures.same c.requires.0 c.expect.ensures.table in
    let r = c.prepare.ensures.same in
    let t = c.prepare.new.self in
    let any = may_roomed given c.args.line c.args.number channel u t front_any r in
    let ready = c.in_ok-prepare.ensures.ready in
    let more = c.in_ok-most.most in
    let few = shared_few given c.args.line c.args.number channel c.args.object c.in-Some.index.now c.sent-message.result.now c.in_ok-most.most
    (length c.in_ok-words.words.items) s u t c.requires.0 any c.expect.ensures.same r.history r.server
    c.sent-message.ensures c.in_ok-most.ensures.most c.in_ok-words.ensures.few_told in
    let room_all = subst (λ (z : ℕ). HasRoom (ready.0 + z) t) (omega (arith, c.in-Some-checked_add.ensures)) ready.1.room in
    room_for ready.0 more (length c.in_ok-words.words.items) c.take_first.new.self few
    (behind_first ready.0 more t c.take_first.new.self room_all (λ n h d s l. c.take_first.ensures.room n
    (record { history = h; channels = d; numbers = s; letters = l })))

pub take_first-requires-clause-room : goal.take_first-requires-clause-room
take_first-requires-clause-room g c =
    let ready = c.in_ok-prepare.ensures.ready in
    let room = room_for ready.0 _ 2 c.prepare.new.self (omega (arith, c.in-Some-checked_add.ensures)) ready.1.room in
    record { history = room.history; channels = room.channels; numbers = room.numbers; letters = room.letters }

pub take_first-requires-clause-buffer : goal.take_first-requires-clause-buffer
take_first-requires-clause-buffer g c = c.in_ok-prepare.ensures.ready.1.buffer

pub expect-requires : goal.expect-requires
expect-requires g c =
    let given = g.given in
    let s = c.args.self.now in
    let channel = Up c.args.host c.args.object in
    let index = c.in-Some.index.now in
    let head = c.in-Some.ensures in
    let read = may_read given c.args.line c.args.number channel index s c.requires.0 head in
    let at = may_head given c.args.line c.args.number channel index read.1 s c.requires.0 head (read.0, read.2) in
    record {
      sent = (read.0, read.1, (read.2, (up_shared given c.args.line c.args.number c.args.host c.args.object read.1 s c.requires.0 c.requires.1 at).1));
    }

pub returns-in_err-most-clause-err : goal.returns-in_err-most-clause-err
returns-in_err-most-clause-err g c =
    on_err _
    (still_server g.given.header g.given.outside c.args.self.now c.expect.new.self c.expect.ensures.same c.requires.0.stands c.expect.ensures.table)

pub returns-in_err-most-clause-spares : goal.returns-in_err-most-clause-spares
returns-in_err-most-clause-spares g c = spares_server g.given.header g.given.outside c.args.self.now c.expect.new.self c.expect.ensures.same

pub returns-in_err-prepare-clause-err : goal.returns-in_err-prepare-clause-err
returns-in_err-prepare-clause-err g c =
    on_err _
    (let given = g.given in
    let s = c.args.self.now in
    let channel = Up c.args.host c.args.object in
    let u = c.expect.new.self in
    let front_any = may_server given c.args.line c.args.number channel s u u.server c.expect.ensures.same c.requires.0 c.expect.ensures.table in
    let r = c.prepare.ensures.same in
    let t = c.prepare.new.self in
    let any = may_roomed given c.args.line c.args.number channel u t front_any r in
    still_of given.header given.outside s t any.stands (r.history ∙ ap (λ (z : State). z.history.items) c.expect.ensures.same))

pub returns-in_err-prepare-clause-spares : goal.returns-in_err-prepare-clause-spares
returns-in_err-prepare-clause-spares g c =
    let s = c.args.self.now in
    let u = c.expect.new.self in
    both_spares g.given.header g.given.outside s u c.prepare.new.self (spares_server g.given.header g.given.outside s u c.expect.ensures.same)
    (spares_roomed g.given.header g.given.outside u c.prepare.new.self c.prepare.ensures.same)

pub returns-in_err-words-clause-err : goal.returns-in_err-words-clause-err
returns-in_err-words-clause-err g c =
    on_err _
    (let given = g.given in
    let s = c.args.self.now in
    let channel = Up c.args.host c.args.object in
    let u = c.expect.new.self in
    let front_any = may_server given c.args.line c.args.number channel s u u.server c.expect.ensures.same c.requires.0 c.expect.ensures.table in
    let r = c.prepare.ensures.same in
    let t = c.prepare.new.self in
    let any = may_roomed given c.args.line c.args.number channel u t front_any r in
    still_of given.header given.outside s _ (stands_server given.header given.outside t _ c.answer.new.self refl c.in_err-words.ensures.err any.stands)
    (r.history ∙ ap (λ (z : State). z.history.items) c.expect.ensures.same))

pub returns-in_err-words-clause-spares : goal.returns-in_err-words-clause-spares
returns-in_err-words-clause-spares g c =
    let s = c.args.self.now in
    let u = c.expect.new.self in
    let t = c.prepare.new.self in
    both_spares g.given.header g.given.outside s t _ (both_spares g.given.header g.given.outside s u t
    (spares_server g.given.header g.given.outside s u c.expect.ensures.same) (spares_roomed g.given.header g.given.outside u t c.prepare.ensures.same))
    (same_all g.given.header g.given.outside t _ refl refl refl)

pub returns-in_default-checked_add-clause-spares : goal.returns-in_default-checked_add-clause-spares
returns-in_default-checked_add-clause-spares g c = spares_server g.given.header g.given.outside c.args.self.now c.expect.new.self c.expect.ensures.same

pub returns-in_default-checked_add-clause-err : goal.returns-in_default-checked_add-clause-err
returns-in_default-checked_add-clause-err g c =
    still_server g.given.header g.given.outside c.args.self.now c.expect.new.self c.expect.ensures.same c.requires.0.stands c.expect.ensures.table
