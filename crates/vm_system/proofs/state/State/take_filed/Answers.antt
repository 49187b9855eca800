use Rattle.vm_system.proofs.Common.{Channel, Event, Followed, Going, List, None, PagerHasAnswered, Up, [], ap, arith, devices, length, queue, refl, set}
use Rattle.vm_system.proofs.Common.{subst, sym, take, ℕ, ◌++◌, ◌+◌, ◌∙◌, ◌∷◌, ◌≡◌}
use Rattle.pg_file.specs.Files.{FileTable}
use Rattle.vm_model.specs.declared.event.Device.TheVariants.{Files}
use Rattle.vm_model.specs.declared.event.Event.TheVariants as event
use Rattle.vm_system.proofs.Beginning.{same_hosts}
use Rattle.vm_system.proofs.Following.{both_paging, filed_same, same_files, same_paging, same_pagers}
use Rattle.vm_system.proofs.Replied.{answer_keeps}
use Rattle.vm_system.proofs.Roomed.{arming_kept, behind_answers, behind_first, may_roomed, on_err, ready_still, room_for, roomed_files, roomed_pagers}
use Rattle.vm_system.proofs.Roomed.{still_alike, still_roomed}
use Rattle.vm_system.proofs.Taken.{first_told, may_head, may_only, may_port, may_read, may_some, may_there}
use Rattle.vm_system.proofs.TakenFiled.{answered_filed, can_reply_filed, carried_failed, carried_filed, devices_filed, filed_failed, filed_known, filed_reply}
use Rattle.vm_system.proofs.TakenFiled.{kept_filed, spares_filed, stands_filed, took_filed}
use Rattle.vm_system.proofs.TakenUp.{front_is, front_length, pager_read, set_same, up_word}
use Rattle.vm_kernel.specs.declared.breadth.Breadth.TheVariants as wide
use Rattle.vm_system.proofs.state.State.take_filed.Goals as goal

pub head-requires : goal.head-requires
head-requires g c =
    let given = g.given in
    let r = c.prepare.ensures.same in
    let t = c.prepare.new.self in
    let channel = Up c.args.host c.args.object in
    let any = may_roomed given c.args.line c.args.number channel c.args.self.now t c.requires.1.0 r in
    may_port given c.args.line c.args.number channel t any

pub unreachable-requires : goal.unreachable-requires
unreachable-requires g c =
    let given = g.given in
    let r = c.prepare.ensures.same in
    let t = c.prepare.new.self in
    let channel = Up c.args.host c.args.object in
    let any = may_roomed given c.args.line c.args.number channel c.args.self.now t c.requires.1.0 r in
    may_some given c.args.line c.args.number channel t any c.in_default.ensures

pub sent-message-requires : goal.sent-message-requires
sent-message-requires g c =
    let given = g.given in
    let r = c.prepare.ensures.same in
    let t = c.prepare.new.self in
    let channel = Up c.args.host c.args.object in
    let any = may_roomed given c.args.line c.args.number channel c.args.self.now t c.requires.1.0 r in
    may_read given c.args.line c.args.number channel c.in-Some.index.now t any c.in-Some.ensures

pub index_mut-requires : goal.index_mut-requires
index_mut-requires g c =
    let given = g.given in
    let r = c.prepare.ensures.same in
    let t = c.prepare.new.self in
    let channel = Up c.args.host c.args.object in
    let any = may_roomed given c.args.line c.args.number channel c.args.self.now t c.requires.1.0 r in
    let known = filed_known given c.args.line c.args.number c.args.host c.args.object t any c.requires.1.1.0 in
    omega (arith, known, c.prepare.new.self.files.ok)

pub answer-requires-clause-to_pager : goal.answer-requires-clause-to_pager
answer-requires-clause-to_pager g c =
    let given = g.given in
    let r = c.prepare.ensures.same in
    let t = c.prepare.new.self in
    let channel = Up c.args.host c.args.object in
    let any = may_roomed given c.args.line c.args.number channel c.args.self.now t c.requires.1.0 r in
    let m = c.sent-message.result.now in
    let at = may_head given c.args.line c.args.number channel c.in-Some.index.now m t any c.in-Some.ensures c.sent-message.ensures in
    let word = up_word given c.args.line c.args.number c.args.host c.args.object m t any at in
    word.0

pub answer-requires-clause-whole : goal.answer-requires-clause-whole
answer-requires-clause-whole g c =
    let given = g.given in
    let r = c.prepare.ensures.same in
    let t = c.prepare.new.self in
    let channel = Up c.args.host c.args.object in
    let any = may_roomed given c.args.line c.args.number channel c.args.self.now t c.requires.1.0 r in
    let m = c.sent-message.result.now in
    let at = may_head given c.args.line c.args.number channel c.in-Some.index.now m t any c.in-Some.ensures c.sent-message.ensures in
    let old = c.index_mut.result.now in
    let found = pager_read t.files.items c.args.object.0 old (filed_known given c.args.line c.args.number c.args.host c.args.object t any c.requires.1.1.0)
    c.index_mut.ensures.value in
    let word = up_word given c.args.line c.args.number c.args.host c.args.object m t any at in
    rw (stands_filed given c.args.line c.args.number c.args.host c.args.object t old any c.requires.1.1.0 found).size_is word.1

pub returns-in_err-replies-clause-files_kept : goal.returns-in_err-replies-clause-files_kept
returns-in_err-replies-clause-files_kept g c =
    let given = g.given in
    let r = c.prepare.ensures.same in
    let t = c.prepare.new.self in
    let channel = Up c.args.host c.args.object in
    let any = may_roomed given c.args.line c.args.number channel c.args.self.now t c.requires.1.0 r in
    let m = c.sent-message.result.now in
    let at = may_head given c.args.line c.args.number channel c.in-Some.index.now m t any c.in-Some.ensures c.sent-message.ensures in
    let old = c.index_mut.result.now in
    let found = pager_read t.files.items c.args.object.0 old (filed_known given c.args.line c.args.number c.args.host c.args.object t any c.requires.1.1.0)
    c.index_mut.ensures.value in
    let had = filed_same given.header given.outside _ c.args.self.now t (roomed_files _ _ r) r.history c.requires.1.1.1 in
    let e = c.in_err-replies.ensures in
    let same = ap (λ (z : FileTable). set t.files.items c.args.object.0 z) e.err ∙ set_same t.files.items c.args.object.0 old found in
    filed_failed given.header given.outside m old t _ _ _ c.in_err-replies.field-0.0 same e.told refl had

pub returns-in_err-replies-clause-carried : goal.returns-in_err-replies-clause-carried
returns-in_err-replies-clause-carried g c =
    let given = g.given in
    let r = c.prepare.ensures.same in
    let t = c.prepare.new.self in
    let channel = Up c.args.host c.args.object in
    let any = may_roomed given c.args.line c.args.number channel c.args.self.now t c.requires.1.0 r in
    let m = c.sent-message.result.now in
    let old = c.index_mut.result.now in
    λ start carry. carried_failed given.header m old start _ _ c.in_err-replies.field-0.0 t.history.items c.in_err-replies.ensures.told (rw r.history carry)

pub take_first-requires-clause-there : goal.take_first-requires-clause-there
take_first-requires-clause-there g c =
    let given = g.given in
    let r = c.prepare.ensures.same in
    let t = c.prepare.new.self in
    let channel = Up c.args.host c.args.object in
    let any = may_roomed given c.args.line c.args.number channel c.args.self.now t c.requires.1.0 r in
    may_there given c.args.line c.args.number channel t any

pub take_first-requires-clause-some : goal.take_first-requires-clause-some
take_first-requires-clause-some g c =
    let given = g.given in
    let r = c.prepare.ensures.same in
    let t = c.prepare.new.self in
    let channel = Up c.args.host c.args.object in
    let any = may_roomed given c.args.line c.args.number channel c.args.self.now t c.requires.1.0 r in
    λ other is none. any.some (ap (λ (z : Channel). queue z t.history.items) (sym (may_only given c.args.line c.args.number channel other t any is)) ∙ none)

pub commit-requires-clause-can : goal.commit-requires-clause-can
commit-requires-clause-can g c =
    let given = g.given in
    let r = c.prepare.ensures.same in
    let t = c.prepare.new.self in
    let channel = Up c.args.host c.args.object in
    let any = may_roomed given c.args.line c.args.number channel c.args.self.now t c.requires.1.0 r in
    let m = c.sent-message.result.now in
    let at = may_head given c.args.line c.args.number channel c.in-Some.index.now m t any c.in-Some.ensures c.sent-message.ensures in
    let old = c.index_mut.result.now in
    let found = pager_read t.files.items c.args.object.0 old (filed_known given c.args.line c.args.number c.args.host c.args.object t any c.requires.1.1.0)
    c.index_mut.ensures.value in
    let had = filed_same given.header given.outside _ c.args.self.now t (roomed_files _ _ r) r.history c.requires.1.1.1 in
    let e = c.in_ok-replies.ensures in
    let events = c.in_ok-replies.replies.items in
    let table = c.answer.new.self in
    let reply = filed_reply given c.args.line c.args.number c.args.host c.args.object m _ t old table events any c.requires.1.1.0 at found e.answered had
    e.bytes in
    let told = first_told given c.args.line c.args.number channel m t t c.take_first.new.self any at refl refl c.take_first.ensures.history in
    rw (c.take_first.ensures.hosts.size, any.stands.agrees.size, told) (can_reply_filed given c.args.host c.args.object m t old table events reply)

pub take_first-requires-clause-room : goal.take_first-requires-clause-room
take_first-requires-clause-room g c =
    let ready = c.in_ok-prepare.ensures.ready in
    let room = room_for ready.0 4 2 c.prepare.new.self (omega arith) ready.1.room in
    record { history = room.history; channels = room.channels; numbers = room.numbers; letters = room.letters }

pub take_first-requires-clause-buffer : goal.take_first-requires-clause-buffer
take_first-requires-clause-buffer g c = c.in_ok-prepare.ensures.ready.1.buffer

pub commit-requires-clause-room : goal.commit-requires-clause-room
commit-requires-clause-room g c =
    let ready = c.in_ok-prepare.ensures.ready in
    room_for ready.0 2 (length c.in_ok-replies.replies.items) c.take_first.new.self c.in_ok-replies.ensures.few
    (behind_first ready.0 2 c.prepare.new.self c.take_first.new.self ready.1.room
    (λ n h d s l. c.take_first.ensures.room n (record { history = h; channels = d; numbers = s; letters = l })))

pub follow-requires : goal.follow-requires
follow-requires g c =
    let given = g.given in
    let r = c.prepare.ensures.same in
    let t = c.prepare.new.self in
    let channel = Up c.args.host c.args.object in
    let any = may_roomed given c.args.line c.args.number channel c.args.self.now t c.requires.1.0 r in
    let m = c.sent-message.result.now in
    let at = may_head given c.args.line c.args.number channel c.in-Some.index.now m t any c.in-Some.ensures c.sent-message.ensures in
    let old = c.index_mut.result.now in
    let found = pager_read t.files.items c.args.object.0 old (filed_known given c.args.line c.args.number c.args.host c.args.object t any c.requires.1.1.0)
    c.index_mut.ensures.value in
    let had = filed_same given.header given.outside _ c.args.self.now t (roomed_files _ _ r) r.history c.requires.1.1.1 in
    let e = c.in_ok-replies.ensures in
    let events = c.in_ok-replies.replies.items in
    let table = c.answer.new.self in
    let reply = filed_reply given c.args.line c.args.number c.args.host c.args.object m _ t old table events any c.requires.1.1.0 at found e.answered had
    e.bytes in
    let told = first_told given c.args.line c.args.number channel m t t c.take_first.new.self any at refl refl c.take_first.ensures.history in
    let both = same_hosts _ _ _ c.take_first.ensures.hosts c.commit.ensures.hosts in
    let now = c.commit.new.self in
    let files : now.files.items ≡ set t.files.items c.args.object.0 table = same_files _ _ both in
    let items : now.history.items ≡ events ++ event.Taken channel m ∷ given.past = c.commit.ensures.history ∙ ap (λ (z : List Event). events ++ z) told in
    let n = c.len-fresh.result + 1 in
    let count : n ≡ length events + 1 = ap (λ (z : ℕ). z + 1) c.len-fresh.ensures in
    let front : take n now.history.items ≡ events ++ event.Taken channel m ∷ [] = front_is n events (event.Taken channel m) given.past now.history.items count
    items in
    let going : List Event → Going = λ z. record { header = given.header; outside = given.outside; command = given.command; past = given.past; front = z } in
    let done : PagerHasAnswered (going (take n now.history.items)) c.args.host c.gives_frame-washed.result now =
    rw (front, c.gives_frame-washed.ensures)
    (answered_filed given c.args.host c.args.object m t now old table events reply (same_pagers _ _ both) files both.server
    (answer_keeps given c.args.line c.args.number channel t _ now _ any refl refl refl refl both items c.commit.ensures.posts)) in
    let ready = c.in_ok-prepare.ensures.ready in
    let room = behind_answers ready.0 2 (length events) c.take_first.new.self now c.in_ok-replies.ensures.few
    (behind_first ready.0 2 t c.take_first.new.self ready.1.room (λ n h d s l. c.take_first.ensures.room n
    (record { history = h; channels = d; numbers = s; letters = l }))) c.commit.ensures.room in (
      front_length n now.history.items events (event.Taken channel m) front count,
      (done, (ready.0, (ready_still None wide.Few ready.0 t now both.hosts both.log ready.1.hosts, room))),
    )

pub returns-clause-files_kept : goal.returns-clause-files_kept
returns-clause-files_kept g c =
    let given = g.given in
    let r = c.prepare.ensures.same in
    let t = c.prepare.new.self in
    let channel = Up c.args.host c.args.object in
    let any = may_roomed given c.args.line c.args.number channel c.args.self.now t c.requires.1.0 r in
    let m = c.sent-message.result.now in
    let at = may_head given c.args.line c.args.number channel c.in-Some.index.now m t any c.in-Some.ensures c.sent-message.ensures in
    let old = c.index_mut.result.now in
    let found = pager_read t.files.items c.args.object.0 old (filed_known given c.args.line c.args.number c.args.host c.args.object t any c.requires.1.1.0)
    c.index_mut.ensures.value in
    let had = filed_same given.header given.outside _ c.args.self.now t (roomed_files _ _ r) r.history c.requires.1.1.1 in
    let e = c.in_ok-replies.ensures in
    let events = c.in_ok-replies.replies.items in
    let table = c.answer.new.self in
    let reply = filed_reply given c.args.line c.args.number c.args.host c.args.object m _ t old table events any c.requires.1.1.0 at found e.answered had
    e.bytes in
    let told = first_told given c.args.line c.args.number channel m t t c.take_first.new.self any at refl refl c.take_first.ensures.history in
    let both = same_hosts _ _ _ c.take_first.ensures.hosts c.commit.ensures.hosts in
    let now = c.commit.new.self in
    let files : now.files.items ≡ set t.files.items c.args.object.0 table = same_files _ _ both in
    let items : now.history.items ≡ events ++ event.Taken channel m ∷ given.past = c.commit.ensures.history ∙ ap (λ (z : List Event). events ++ z) told in
    c.follow.ensures.spares.files.kept _ (kept_filed given c.args.line c.args.number c.args.host c.args.object m t now old table c.in_ok-replies.replies _ _ any
    reply e.told had files items)

pub returns-clause-carried : goal.returns-clause-carried
returns-clause-carried g c =
    let given = g.given in
    let r = c.prepare.ensures.same in
    let t = c.prepare.new.self in
    let channel = Up c.args.host c.args.object in
    let any = may_roomed given c.args.line c.args.number channel c.args.self.now t c.requires.1.0 r in
    let m = c.sent-message.result.now in
    let at = may_head given c.args.line c.args.number channel c.in-Some.index.now m t any c.in-Some.ensures c.sent-message.ensures in
    let old = c.index_mut.result.now in
    let found = pager_read t.files.items c.args.object.0 old (filed_known given c.args.line c.args.number c.args.host c.args.object t any c.requires.1.1.0)
    c.index_mut.ensures.value in
    let had = filed_same given.header given.outside _ c.args.self.now t (roomed_files _ _ r) r.history c.requires.1.1.1 in
    let e = c.in_ok-replies.ensures in
    let events = c.in_ok-replies.replies.items in
    let table = c.answer.new.self in
    let reply = filed_reply given c.args.line c.args.number c.args.host c.args.object m _ t old table events any c.requires.1.1.0 at found e.answered had
    e.bytes in
    let told = first_told given c.args.line c.args.number channel m t t c.take_first.new.self any at refl refl c.take_first.ensures.history in
    let now = c.commit.new.self in
    let items : now.history.items ≡ events ++ event.Taken channel m ∷ given.past = c.commit.ensures.history ∙ ap (λ (z : List Event). events ++ z) told in
    λ start carry.
    c.follow.ensures.spares.files.carried start _
    (carried_filed given c.args.line c.args.number c.args.host c.args.object m t now old table c.in_ok-replies.replies start _ _ any reply e.told items
    (rw r.history carry))

pub returns-clause-files_go : goal.returns-clause-files_go
returns-clause-files_go g c =
    let given = g.given in
    let r = c.prepare.ensures.same in
    let t = c.prepare.new.self in
    let channel = Up c.args.host c.args.object in
    let any = may_roomed given c.args.line c.args.number channel c.args.self.now t c.requires.1.0 r in
    let m = c.sent-message.result.now in
    let at = may_head given c.args.line c.args.number channel c.in-Some.index.now m t any c.in-Some.ensures c.sent-message.ensures in
    let old = c.index_mut.result.now in
    let found = pager_read t.files.items c.args.object.0 old (filed_known given c.args.line c.args.number c.args.host c.args.object t any c.requires.1.1.0)
    c.index_mut.ensures.value in
    let had = filed_same given.header given.outside _ c.args.self.now t (roomed_files _ _ r) r.history c.requires.1.1.1 in
    let e = c.in_ok-replies.ensures in
    let events = c.in_ok-replies.replies.items in
    let table = c.answer.new.self in
    let reply = filed_reply given c.args.line c.args.number c.args.host c.args.object m _ t old table events any c.requires.1.1.0 at found e.answered had
    e.bytes in
    let told = first_told given c.args.line c.args.number channel m t t c.take_first.new.self any at refl refl c.take_first.ensures.history in
    let now = c.commit.new.self in
    let items : now.history.items ≡ events ++ event.Taken channel m ∷ given.past = c.commit.ensures.history ∙ ap (λ (z : List Event). events ++ z) told in
    record {
      later = e.later;
      devices = rw (sym r.history) (devices_filed given c.args.line c.args.number c.args.host c.args.object m t old table
          c.in_ok-replies.replies _ _ c.follow.new.self.history.items any reply e.cause (c.follow.ensures.spares.files.devices ∙ ap (devices Files) items));
    }

pub returns-clause-spares : goal.returns-clause-spares
returns-clause-spares g c =
    let given = g.given in
    let r = c.prepare.ensures.same in
    let t = c.prepare.new.self in
    let channel = Up c.args.host c.args.object in
    let any = may_roomed given c.args.line c.args.number channel c.args.self.now t c.requires.1.0 r in
    let m = c.sent-message.result.now in
    let at = may_head given c.args.line c.args.number channel c.in-Some.index.now m t any c.in-Some.ensures c.sent-message.ensures in
    let old = c.index_mut.result.now in
    let found = pager_read t.files.items c.args.object.0 old (filed_known given c.args.line c.args.number c.args.host c.args.object t any c.requires.1.1.0)
    c.index_mut.ensures.value in
    let had = filed_same given.header given.outside _ c.args.self.now t (roomed_files _ _ r) r.history c.requires.1.1.1 in
    let e = c.in_ok-replies.ensures in
    let events = c.in_ok-replies.replies.items in
    let table = c.answer.new.self in
    let reply = filed_reply given c.args.line c.args.number c.args.host c.args.object m _ t old table events any c.requires.1.1.0 at found e.answered had
    e.bytes in
    let told = first_told given c.args.line c.args.number channel m t t c.take_first.new.self any at refl refl c.take_first.ensures.history in
    let both = same_hosts _ _ _ c.take_first.ensures.hosts c.commit.ensures.hosts in
    let now = c.commit.new.self in
    let items : now.history.items ≡ events ++ event.Taken channel m ∷ given.past = c.commit.ensures.history ∙ ap (λ (z : List Event). events ++ z) told in
    let header = given.header in
    let outside = given.outside in
    both_paging header outside c.args.self.now t c.follow.new.self (same_paging header outside c.args.self.now t (roomed_pagers _ _ r) r.history)
    (both_paging header outside t now c.follow.new.self (spares_filed given c.args.line c.args.number c.args.host c.args.object m t now old table events any
    reply (same_pagers _ _ both) items) c.follow.ensures.spares.paging)

pub returns-clause-took : goal.returns-clause-took
returns-clause-took g c =
    let given = g.given in
    let r = c.prepare.ensures.same in
    let t = c.prepare.new.self in
    let channel = Up c.args.host c.args.object in
    let any = may_roomed given c.args.line c.args.number channel c.args.self.now t c.requires.1.0 r in
    let m = c.sent-message.result.now in
    let at = may_head given c.args.line c.args.number channel c.in-Some.index.now m t any c.in-Some.ensures c.sent-message.ensures in
    let old = c.index_mut.result.now in
    let found = pager_read t.files.items c.args.object.0 old (filed_known given c.args.line c.args.number c.args.host c.args.object t any c.requires.1.1.0)
    c.index_mut.ensures.value in
    let had = filed_same given.header given.outside _ c.args.self.now t (roomed_files _ _ r) r.history c.requires.1.1.1 in
    let e = c.in_ok-replies.ensures in
    let events = c.in_ok-replies.replies.items in
    let table = c.answer.new.self in
    let reply = filed_reply given c.args.line c.args.number c.args.host c.args.object m _ t old table events any c.requires.1.1.0 at found e.answered had
    e.bytes in
    let told = first_told given c.args.line c.args.number channel m t t c.take_first.new.self any at refl refl c.take_first.ensures.history in
    let now = c.commit.new.self in
    let items : now.history.items ≡ events ++ event.Taken channel m ∷ given.past = c.commit.ensures.history ∙ ap (λ (z : List Event). events ++ z) told in
    let n = c.len-fresh.result + 1 in
    let count : n ≡ length events + 1 = ap (λ (z : ℕ). z + 1) c.len-fresh.ensures in
    let front : take n now.history.items ≡ events ++ event.Taken channel m ∷ [] = front_is n events (event.Taken channel m) given.past now.history.items count
    items in
    let new = c.follow.new.self in
    let going : List Event → Going = λ z. record { header = given.header; outside = given.outside; command = given.command; past = given.past; front = z } in
    took_filed given c.args.host c.args.object m t new old table events reply (subst (λ (z : List Event). Followed (going z) new) front
    c.follow.ensures.followed)

pub returns-in_err-prepare-clause-files_kept : goal.returns-in_err-prepare-clause-files_kept
returns-in_err-prepare-clause-files_kept g c =
    filed_same g.given.header g.given.outside _ c.args.self.now c.prepare.new.self (roomed_files _ _ c.prepare.ensures.same) c.prepare.ensures.same.history
    c.requires.1.1.1

pub returns-in_err-prepare-clause-spares : goal.returns-in_err-prepare-clause-spares
returns-in_err-prepare-clause-spares g c =
    same_paging g.given.header g.given.outside c.args.self.now c.prepare.new.self (roomed_pagers _ _ c.prepare.ensures.same) c.prepare.ensures.same.history

pub returns-in_err-prepare-clause-err : goal.returns-in_err-prepare-clause-err
returns-in_err-prepare-clause-err g c =
    on_err _
    (still_roomed g.given.header g.given.outside c.args.self.now c.prepare.new.self c.prepare.ensures.same c.requires.1.0.stands)

pub returns-in_err-replies-clause-spares : goal.returns-in_err-replies-clause-spares
returns-in_err-replies-clause-spares g c =
    same_paging g.given.header g.given.outside c.args.self.now _ (roomed_pagers _ _ c.prepare.ensures.same) c.prepare.ensures.same.history

pub returns-in_err-replies-clause-err : goal.returns-in_err-replies-clause-err
returns-in_err-replies-clause-err g c =
    on_err _
    (let given = g.given in
    let r = c.prepare.ensures.same in
    let t = c.prepare.new.self in
    let channel = Up c.args.host c.args.object in
    let any = may_roomed given c.args.line c.args.number channel c.args.self.now t c.requires.1.0 r in
    let m = c.sent-message.result.now in
    let at = may_head given c.args.line c.args.number channel c.in-Some.index.now m t any c.in-Some.ensures c.sent-message.ensures in
    let old = c.index_mut.result.now in
    let found = pager_read t.files.items c.args.object.0 old (filed_known given c.args.line c.args.number c.args.host c.args.object t any c.requires.1.1.0)
    c.index_mut.ensures.value in
    let e = c.in_err-replies.ensures in
    let same = ap (λ (z : FileTable). set t.files.items c.args.object.0 z) e.err ∙ set_same t.files.items c.args.object.0 old found in
    let still = still_roomed given.header given.outside c.args.self.now t r c.requires.1.0.stands in
    still_alike given.header given.outside c.args.self.now t _ still refl refl refl refl same refl refl refl refl refl refl)

pub returns-in_err-replies-clause-unmoved : goal.returns-in_err-replies-clause-unmoved
returns-in_err-replies-clause-unmoved g c =
    on_err _
    (let e = c.in_err-replies.ensures in
    arming_kept c.args.files.now c.answer.new.files e.later.1 e.unmoved)
