use Rattle.vm_system.proofs.Common.{Channel, Event, Followed, Going, List, None, PagerHasAnswered, Up, [], ap, arith, queue, refl, subst, sym, take}
use Rattle.vm_system.proofs.Common.{◌∙◌, ◌∷◌}
use Rattle.vm_system.proofs.Common.{◌≡◌}
use Rattle.vm_model.specs.declared.event.Event.TheVariants as event
use Rattle.vm_system.proofs.Following.{both_spares, same_all, same_files, same_pagers}
use Rattle.vm_system.proofs.Replied.{answer_keeps}
use Rattle.vm_system.proofs.Roomed.{behind_all, may_roomed, on_err, ready_still, room_for, roomed_files, roomed_pagers, spares_roomed, still_roomed}
use Rattle.vm_system.proofs.Taken.{first_told, may_head, may_only, may_port, may_read, may_some, may_there}
use Rattle.vm_system.proofs.TakenUp.{front_is, front_length}
use Rattle.vm_system.proofs.TakenWild.{answered_wild, heard_of, spares_wild, took_wild}
use Rattle.vm_kernel.specs.declared.breadth.Breadth.TheVariants as wide
use Rattle.vm_system.proofs.state.State.take_wild.Goals as goal

pub head-requires : goal.head-requires
head-requires g c =
    let given = g.given in
    let s = c.args.self.now in
    let channel = Up c.args.host c.args.object in
    let r = c.prepare.ensures.same in
    let t = c.prepare.new.self in
    let any = may_roomed given c.args.line c.args.number channel s t c.requires.0 r in
    may_port given c.args.line c.args.number channel t any

pub unreachable-requires : goal.unreachable-requires
unreachable-requires g c =
    let given = g.given in
    let s = c.args.self.now in
    let channel = Up c.args.host c.args.object in
    let r = c.prepare.ensures.same in
    let t = c.prepare.new.self in
    let any = may_roomed given c.args.line c.args.number channel s t c.requires.0 r in
    may_some given c.args.line c.args.number channel t any c.in_default.ensures

pub sent-message-requires : goal.sent-message-requires
sent-message-requires g c =
    let given = g.given in
    let s = c.args.self.now in
    let channel = Up c.args.host c.args.object in
    let r = c.prepare.ensures.same in
    let t = c.prepare.new.self in
    let any = may_roomed given c.args.line c.args.number channel s t c.requires.0 r in
    may_read given c.args.line c.args.number channel c.in-Some.index.now t any c.in-Some.ensures

pub take_first-requires-clause-there : goal.take_first-requires-clause-there
take_first-requires-clause-there g c =
    let given = g.given in
    let s = c.args.self.now in
    let channel = Up c.args.host c.args.object in
    let r = c.prepare.ensures.same in
    let t = c.prepare.new.self in
    let any = may_roomed given c.args.line c.args.number channel s t c.requires.0 r in
    may_there given c.args.line c.args.number channel t any

pub take_first-requires-clause-some : goal.take_first-requires-clause-some
take_first-requires-clause-some g c =
    let given = g.given in
    let s = c.args.self.now in
    let channel = Up c.args.host c.args.object in
    let r = c.prepare.ensures.same in
    let t = c.prepare.new.self in
    let any = may_roomed given c.args.line c.args.number channel s t c.requires.0 r in
    λ other is none. any.some (ap (λ (z : Channel). queue z t.history.items) (sym (may_only given c.args.line c.args.number channel other t any is)) ∙ none)

pub follow-requires : goal.follow-requires
follow-requires g c =
    let given = g.given in
    let s = c.args.self.now in
    let channel = Up c.args.host c.args.object in
    let r = c.prepare.ensures.same in
    let t = c.prepare.new.self in
    let any = may_roomed given c.args.line c.args.number channel s t c.requires.0 r in
    let m = c.sent-message.result.now in
    let at = may_head given c.args.line c.args.number channel c.in-Some.index.now m t any c.in-Some.ensures c.sent-message.ensures in
    let heard = heard_of given c.args.line c.args.number c.args.host c.args.object m t any c.requires.1 at in
    let now = c.take_first.new.self in
    let items = first_told given c.args.line c.args.number channel m t t now any at refl refl c.take_first.ensures.history in
    let f = c.take_first.ensures.hosts in
    let front : take 1 now.history.items ≡ event.Taken channel m ∷ [] = front_is 1 [] (event.Taken channel m) given.past now.history.items refl items in
    let with_front : List Event → Going = λ z. record {
      header = given.header;
      outside = given.outside;
      command = given.command;
      past = given.past;
      front = z;
    } in
    let done : PagerHasAnswered (with_front (take 1 now.history.items)) c.args.host c.gives_frame-washed.result now =
    rw (front, c.gives_frame-washed.ensures)
    (answered_wild given c.args.host c.args.object m t now heard (same_pagers _ _ f) (same_files _ _ f) f.server
    (answer_keeps given c.args.line c.args.number channel t _ now _ any refl refl refl refl f items c.take_first.ensures.posts)) in
    let ready = c.in_ok-prepare.ensures.ready in (
      front_length 1 now.history.items [] (event.Taken channel m) front refl,
      (
        done,
        (
          ready.0,
          (
            ready_still None wide.Few ready.0 t now f.hosts f.log ready.1.hosts,
            behind_all ready.0 t now ready.1.room (λ n h d s l. c.take_first.ensures.room n (record { history = h; channels = d; numbers = s; letters = l })),
          ),
        ),
      ),
    )

pub returns-clause-took : goal.returns-clause-took
returns-clause-took g c =
    let given = g.given in
    let s = c.args.self.now in
    let channel = Up c.args.host c.args.object in
    let r = c.prepare.ensures.same in
    let t = c.prepare.new.self in
    let any = may_roomed given c.args.line c.args.number channel s t c.requires.0 r in
    let m = c.sent-message.result.now in
    let at = may_head given c.args.line c.args.number channel c.in-Some.index.now m t any c.in-Some.ensures c.sent-message.ensures in
    let heard = heard_of given c.args.line c.args.number c.args.host c.args.object m t any c.requires.1 at in
    let now = c.take_first.new.self in
    let items = first_told given c.args.line c.args.number channel m t t now any at refl refl c.take_first.ensures.history in
    let front : take 1 now.history.items ≡ event.Taken channel m ∷ [] = front_is 1 [] (event.Taken channel m) given.past now.history.items refl items in
    let with_front : List Event → Going = λ z. record {
      header = given.header;
      outside = given.outside;
      command = given.command;
      past = given.past;
      front = z;
    } in
    let new = c.follow.new.self in
    took_wild given c.args.host c.args.object m t new heard (subst (λ (z : List Event). Followed (with_front z) new) front c.follow.ensures.followed)

pub returns-clause-spares : goal.returns-clause-spares
returns-clause-spares g c =
    let given = g.given in
    let s = c.args.self.now in
    let channel = Up c.args.host c.args.object in
    let r = c.prepare.ensures.same in
    let t = c.prepare.new.self in
    let any = may_roomed given c.args.line c.args.number channel s t c.requires.0 r in
    let m = c.sent-message.result.now in
    let at = may_head given c.args.line c.args.number channel c.in-Some.index.now m t any c.in-Some.ensures c.sent-message.ensures in
    let heard = heard_of given c.args.line c.args.number c.args.host c.args.object m t any c.requires.1 at in
    let now = c.take_first.new.self in
    let items = first_told given c.args.line c.args.number channel m t t now any at refl refl c.take_first.ensures.history in
    let f = c.take_first.ensures.hosts in
    let mine = spares_wild given c.args.line c.args.number c.args.host c.args.object m t now any heard (same_pagers _ _ f) (same_files _ _ f) items in
    let first = same_all given.header given.outside s t (roomed_pagers _ _ r) (roomed_files _ _ r) r.history in
    both_spares given.header given.outside s t c.follow.new.self first (both_spares given.header given.outside t now c.follow.new.self mine
    c.follow.ensures.spares)

pub returns-in_err-prepare-clause-spares : goal.returns-in_err-prepare-clause-spares
returns-in_err-prepare-clause-spares g c = spares_roomed g.given.header g.given.outside c.args.self.now c.prepare.new.self c.prepare.ensures.same

pub returns-in_err-prepare-clause-err : goal.returns-in_err-prepare-clause-err
returns-in_err-prepare-clause-err g c =
    on_err _
    (still_roomed g.given.header g.given.outside c.args.self.now c.prepare.new.self c.prepare.ensures.same c.requires.0.stands)

pub take_first-requires-clause-room : goal.take_first-requires-clause-room
take_first-requires-clause-room g c = let ready = c.in_ok-prepare.ensures.ready in room_for ready.0 2 2 c.prepare.new.self (omega arith) ready.1.room

pub take_first-requires-clause-buffer : goal.take_first-requires-clause-buffer
take_first-requires-clause-buffer g c = c.in_ok-prepare.ensures.ready.1.buffer
