use Rattle.vm_system.proofs.Common.{AllRest, Event, HasRoom, List, Listed, None, Step, Went, ap, arith, length, refusal, subst, sym, ◌++◌, ◌∷◌, ◌≡◌}
use Rattle.vm_model.specs.declared.event.Event.TheVariants as event
use Rattle.vm_system.proofs.Beginning.{asked_of, asked_rests, can_ask, head_of, makes_told, spares_told, told_asked}
use Rattle.vm_system.proofs.Following.{both_spares}
use Rattle.vm_system.proofs.Legal.{legal_passed}
use Rattle.vm_system.proofs.Roomed.{line_and_log, line_then_log, makes_roomed, on_err, ready_put, room_for, spares_roomed, stands_roomed, still_roomed}
use Rattle.vm_system.proofs.Roomed.{tells_asked}
use Rattle.vm_kernel.specs.declared.breadth.Breadth.TheVariants as wide
use Rattle.vm_system.proofs.state.State.pass.Goals as goal
use Rattle.vm_system.proofs.Sharing.{none_temporary}

pub asked-requires : goal.asked-requires
asked-requires g c =
    let given = g.given in
    let s = c.args.self.now in
    let t = c.prepare.new.self in
    let r = c.prepare.ensures.same in
    let doing = c.args.command.now in
    let stands = stands_roomed given.header given.outside s t r c.requires.1.0 in
    let is : given ≡ record { header = given.header; outside = given.outside; command = doing; past = event.Line c.args.line ∷ t.history.items } =
    rw r.history c.requires.0 in
    (stands, ((c.args.line, ap (λ (z : Step). z.past) is), (c.requires.1.1.0, (c.requires.1.1.1.0, rw r.history c.requires.1.1.1.1))))

pub put-requires-clause-empty : goal.put-requires-clause-empty
put-requires-clause-empty g c =
    let given = g.given in
    let s = c.args.self.now in
    let t = c.prepare.new.self in
    let r = c.prepare.ensures.same in
    let doing = c.args.command.now in
    let stands = stands_roomed given.header given.outside s t r c.requires.1.0 in
    let is : given ≡ record { header = given.header; outside = given.outside; command = doing; past = event.Line c.args.line ∷ t.history.items } =
    rw r.history c.requires.0 in
    stands.log

pub put-requires-clause-room : goal.put-requires-clause-room
put-requires-clause-room g c = let ready = c.in_ok-prepare.ensures.ready in let log = ready.1.log in omega (arith, log)

pub serve-requires : goal.serve-requires
serve-requires g c =
    let given = g.given in
    let s = c.args.self.now in
    let t = c.prepare.new.self in
    let r = c.prepare.ensures.same in
    let doing = c.args.command.now in
    let stands = stands_roomed given.header given.outside s t r c.requires.1.0 in
    let is : given ≡ record { header = given.header; outside = given.outside; command = doing; past = event.Line c.args.line ∷ t.history.items } =
    rw r.history c.requires.0 in
    let past = ap (λ (z : Step). z.past) is in
    let asked = c.in_ok-asked.asked.items in
    let accepted : refusal given.header t.history.items doing ≡ None = rw r.history c.requires.1.1.1.1 in
    let says = asked_of given.header given.outside doing c.args.line t given.past asked stands c.requires.1.1.0 accepted c.requires.1.1.1.0 past
    c.in_ok-asked.ensures.head in
    let ready = c.in_ok-prepare.ensures.ready in
    let held = ready_put None wide.Few ready.0 t.hosts t.log.room c.put.new.log.room ready.1.hosts ready.1.log c.put.ensures.room in
    let rests : AllRest given.header t.hosts (asked ++ given.past) = subst (λ (z : List Event). AllRest given.header t.hosts (asked ++ z)) (sym past)
    (asked_rests given.header given.outside doing c.args.line asked t stands says) in
    (rw c.put.ensures.items rests, (None, (wide.Few, (ready.0, held))))

pub tell-requires-clause-room : goal.tell-requires-clause-room
tell-requires-clause-room g c =
    let ready = c.in_ok-prepare.ensures.ready in
    let room = room_for ready.0 2 1 c.prepare.new.self (omega arith) ready.1.room in
    record { history = room.history; channels = room.channels; numbers = room.numbers; letters = room.letters }

pub commit_log-requires-clause-can : goal.commit_log-requires-clause-can
commit_log-requires-clause-can g c =
    let given = g.given in
    let s = c.args.self.now in
    let t = c.prepare.new.self in
    let r = c.prepare.ensures.same in
    let doing = c.args.command.now in
    let stands = stands_roomed given.header given.outside s t r c.requires.1.0 in
    let is : given ≡ record { header = given.header; outside = given.outside; command = doing; past = event.Line c.args.line ∷ t.history.items } =
    rw r.history c.requires.0 in
    let past = ap (λ (z : Step). z.past) is in
    let asked = c.in_ok-asked.asked.items in
    let accepted : refusal given.header t.history.items doing ≡ None = rw r.history c.requires.1.1.1.1 in
    let says = asked_of given.header given.outside doing c.args.line t given.past asked stands c.requires.1.1.0 accepted c.requires.1.1.1.0 past
    c.in_ok-asked.ensures.head in
    let hosts = c.serve.new.self in
    let events = c.serve.new.log.items in
    let went = subst (λ (z : Step). Went z.header z.outside z.command z.past asked hosts events) is (rw (sym c.put.ensures.items) c.serve.ensures.went) in
    rw (c.tell.ensures.hosts.size, c.tell.ensures.hosts.log, c.tell.ensures.history)
    (can_ask given.header given.outside doing c.args.line asked events hosts t stands says went)

pub commit_log-requires-clause-room : goal.commit_log-requires-clause-room
commit_log-requires-clause-room g c =
    let t = c.prepare.new.self in
    let ready = c.in_ok-prepare.ensures.ready in
    let held = ready_put None wide.Few ready.0 t.hosts t.log.room c.put.new.log.room ready.1.hosts ready.1.log c.put.ensures.room in
    let few = c.serve.ensures.few None wide.Few ready.0 held in
    let one = c.in_ok-asked.ensures.few in
    let put = ap (λ (z : List Event). length z) c.put.ensures.items in
    subst (λ (z : Listed Event). HasRoom (length z.items) c.tell.new.self) (sym c.tell.ensures.hosts.log)
    (tells_asked ready.0 (length c.serve.new.log.items) t c.tell.new.self (omega (arith, few, one, put)) ready.1.room
    (λ n h d s l. c.tell.ensures.room n (record { history = h; channels = d; numbers = s; letters = l })))

pub returns-clause-made : goal.returns-clause-made
returns-clause-made g c =
    let given = g.given in
    let s = c.args.self.now in
    let t = c.prepare.new.self in
    let r = c.prepare.ensures.same in
    let doing = c.args.command.now in
    let stands = stands_roomed given.header given.outside s t r c.requires.1.0 in
    let is : given ≡ record { header = given.header; outside = given.outside; command = doing; past = event.Line c.args.line ∷ t.history.items } =
    rw r.history c.requires.0 in
    let past = ap (λ (z : Step). z.past) is in
    let asked = c.in_ok-asked.asked.items in
    let accepted : refusal given.header t.history.items doing ≡ None = rw r.history c.requires.1.1.1.1 in
    let says = asked_of given.header given.outside doing c.args.line t given.past asked stands c.requires.1.1.0 accepted c.requires.1.1.1.0 past
    c.in_ok-asked.ensures.head in
    let hosts = c.serve.new.self in
    let events = c.serve.new.log.items in
    let went = subst (λ (z : Step). Went z.header z.outside z.command z.past asked hosts events) is (rw (sym c.put.ensures.items) c.serve.ensures.went) in
    let new = c.commit_log.new.self in
    let same = line_and_log t hosts c.serve.new.log c.tell.new.self new c.tell.ensures.hosts c.commit_log.ensures.hosts in
    let grown = line_then_log c.args.line events t c.tell.new.self new c.tell.ensures.history (ap (λ (z : Listed Event). z.items) c.tell.ensures.hosts.log)
    c.commit_log.ensures.history in
    let head = head_of given.header doing c.args.line t.history.items given.past asked past c.in_ok-asked.ensures.head in
    let legal = legal_passed given.header given.outside (record { line = c.args.line; command = doing }) t.history.items asked events hosts
    (none_temporary given.header stands.built.ranged) c.requires.1.1.1.0 accepted head says went in
    let told = told_asked given.header given.outside doing c.args.line asked events hosts t stands says went in
    makes_roomed given.header given.outside (record { line = c.args.line; command = doing }) s t new r.history
    (makes_told given.header given.outside (record { line = c.args.line; command = doing }) events hosts t new stands told legal (λ prompt. went.ended.prompt)
    same c.commit_log.ensures.posts grown c.commit_log.ensures.log)

pub returns-clause-spares : goal.returns-clause-spares
returns-clause-spares g c =
    let given = g.given in
    let s = c.args.self.now in
    let t = c.prepare.new.self in
    let r = c.prepare.ensures.same in
    let doing = c.args.command.now in
    let stands = stands_roomed given.header given.outside s t r c.requires.1.0 in
    let is : given ≡ record { header = given.header; outside = given.outside; command = doing; past = event.Line c.args.line ∷ t.history.items } =
    rw r.history c.requires.0 in
    let past = ap (λ (z : Step). z.past) is in
    let asked = c.in_ok-asked.asked.items in
    let accepted : refusal given.header t.history.items doing ≡ None = rw r.history c.requires.1.1.1.1 in
    let says = asked_of given.header given.outside doing c.args.line t given.past asked stands c.requires.1.1.0 accepted c.requires.1.1.1.0 past
    c.in_ok-asked.ensures.head in
    let hosts = c.serve.new.self in
    let events = c.serve.new.log.items in
    let went = subst (λ (z : Step). Went z.header z.outside z.command z.past asked hosts events) is (rw (sym c.put.ensures.items) c.serve.ensures.went) in
    let new = c.commit_log.new.self in
    let same = line_and_log t hosts c.serve.new.log c.tell.new.self new c.tell.ensures.hosts c.commit_log.ensures.hosts in
    let grown = line_then_log c.args.line events t c.tell.new.self new c.tell.ensures.history (ap (λ (z : Listed Event). z.items) c.tell.ensures.hosts.log)
    c.commit_log.ensures.history in
    let told = told_asked given.header given.outside doing c.args.line asked events hosts t stands says went in
    both_spares given.header given.outside s t new (spares_roomed given.header given.outside s t r)
    (spares_told given.header given.outside c.args.line events hosts t new told same grown)

pub returns-in_err-prepare-clause-err : goal.returns-in_err-prepare-clause-err
returns-in_err-prepare-clause-err g c =
    on_err _
    (still_roomed g.given.header g.given.outside c.args.self.now c.prepare.new.self c.prepare.ensures.same c.requires.1.0)

pub returns-in_err-prepare-clause-spares : goal.returns-in_err-prepare-clause-spares
returns-in_err-prepare-clause-spares g c = spares_roomed g.given.header g.given.outside c.args.self.now c.prepare.new.self c.prepare.ensures.same

pub returns-in_err-asked-clause-err : goal.returns-in_err-asked-clause-err
returns-in_err-asked-clause-err g c =
    on_err _
    (still_roomed g.given.header g.given.outside c.args.self.now c.prepare.new.self c.prepare.ensures.same c.requires.1.0)

pub returns-in_err-asked-clause-spares : goal.returns-in_err-asked-clause-spares
returns-in_err-asked-clause-spares g c = spares_roomed g.given.header g.given.outside c.args.self.now c.prepare.new.self c.prepare.ensures.same
