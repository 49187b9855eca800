use Rattle.vm_system.proofs.Common.{AllQueued, AllRest, Began, Breadth, Event, HasRoom, IsLined, IsReady, Listed, None, Some, Step, all_lined, ap, arith}
use Rattle.vm_system.proofs.Common.{length}
use Rattle.vm_system.proofs.Common.{queued_lined, refl, refusal, subst, sym, ◌∙◌, ◌∷◌, ◌≡◌}
use Rattle.vm_base.specs.declared.code.Code.TheVariants as code
use Rattle.vm_model.specs.declared.event.Event.TheVariants as event
use Rattle.vm_hosts.specs.Steps.{ActsOn, IsFoundOn}
use Rattle.vm_system.proofs.Beginning.{can_tell, makes_told, spares_told, told_said}
use Rattle.vm_system.proofs.Following.{both_spares, same_all}
use Rattle.vm_system.proofs.Legal.{acts_line, legal_began, refusal_line}
use Rattle.vm_system.proofs.Roomed.{all_unlined, line_and_log, line_then_log, makes_roomed, on_err, queued_unlined, room_for, roomed_files, roomed_pagers}
use Rattle.vm_system.proofs.Roomed.{spares_roomed, stands_kept, stands_roomed, still_of, still_roomed, tells_line}
use Rattle.vm_system.proofs.state.State.begin.Goals as goal
use Rattle.vm_system.proofs.Sharing.{none_temporary}

pub unreachable-requires : goal.unreachable-requires
unreachable-requires g c =
    let none : refusal g.given.header c.args.self.now.history.items c.args.command.now ≡ Some code.NoSuchName = subst
    (IsFoundOn g.given.header c.args.command.now c.args.self.now.history.items) c.in_default.is c.requires.1.1.1.1.1 in
    let bad : None ≡ Some code.NoSuchName = sym c.requires.1.1.1.1.0 ∙ none in
    absurd cc

pub begin-requires : goal.begin-requires
begin-requires g c =
    let given = g.given in
    let s = c.args.self.now in
    let t = c.prepare.new.self in
    let r = c.prepare.ensures.same in
    let doing = c.args.command.now in
    let stands = stands_roomed given.header given.outside s t r c.requires.1.0 in
    let is : given ≡ record { header = given.header; outside = given.outside; command = doing; past = event.Line c.args.line ∷ t.history.items } =
    rw r.history c.requires.0 in
    let h = t.history.items in
    let found : ActsOn given.header c.in-Some.host.0 doing s.history.items = subst (IsFoundOn given.header doing s.history.items) c.in-Some.is
    c.requires.1.1.1.1.1 in
    let acts = subst (λ (z : Step). ActsOn z.header c.in-Some.host.0 doing z.past) (sym c.requires.0)
    (acts_line given.header c.in-Some.host.0 c.args.line doing s.history.items found) in
    let to = sym is in (
      subst (λ (z : Step). AllRest z.header t.hosts z.past) to (all_lined given.header given.outside doing t.hosts c.args.line h stands.rests),
      (
        ap (λ (z : Step). z.command) c.requires.0,
        (
          c.requires.1.1.0,
          (
            c.requires.1.1.1.0,
            (
              subst (λ (z : Step). refusal z.header z.past doing ≡ None) to (refusal_line given.header c.args.line h doing ∙ rw r.history c.requires.1.1.1.1.0),
              (
                subst (λ (z : Step). IsLined z.past) to (record { line = c.args.line; before = h; is = refl }),
                (
                  stands.log,
                  (
                    acts,
                    (
                      c.in_ok-prepare.ensures.ready.0,
                      subst (λ (z : Breadth). IsReady (Some c.in-Some.host) z c.in_ok-prepare.ensures.ready.0 t.hosts t.log.room) c.of.ensures
                          c.in_ok-prepare.ensures.ready.1.hosts,
                    ),
                  ),
                ),
              ),
            ),
          ),
        ),
      ),
    )

pub tell-requires-clause-room : goal.tell-requires-clause-room
tell-requires-clause-room g c =
    let ready = c.in_ok-prepare.ensures.ready in
    let room = room_for ready.0 1 1 c.prepare.new.self (omega arith) ready.1.room in
    record { history = room.history; channels = room.channels; numbers = room.numbers; letters = room.letters }

pub commit_log-requires-clause-can : goal.commit_log-requires-clause-can
commit_log-requires-clause-can g c =
    let given = g.given in
    let s = c.args.self.now in
    let t = c.prepare.new.self in
    let r = c.prepare.ensures.same in
    let doing = c.args.command.now in
    let stands = stands_roomed given.header given.outside s t r c.requires.1.0 in
    let is : given ≡ record { header = given.header; outside = given.outside; command = doing; past = event.Line c.args.line ∷ t.history.items } =
    rw r.history c.requires.0 in
    let events = c.begin.new.log.items in
    let began = subst (λ (z : Step). Began z.header z.outside doing z.past c.begin.new.self events) is c.in_ok-begin.ensures.began in
    rw (c.tell.ensures.hosts.size, c.tell.ensures.hosts.log, c.tell.ensures.history)
    (can_tell given.header given.outside doing c.args.line events t stands began.heads.stretch)

pub commit_log-requires-clause-room : goal.commit_log-requires-clause-room
commit_log-requires-clause-room g c =
    let ready = c.in_ok-prepare.ensures.ready in
    let t = c.prepare.new.self in
    let few = c.in_ok-begin.ensures.few ready.0 (subst (λ (z : Breadth). IsReady (Some c.in-Some.host) z ready.0 t.hosts t.log.room) c.of.ensures
    ready.1.hosts) in
    subst (λ (z : Listed Event). HasRoom (length z.items) c.tell.new.self) (sym c.tell.ensures.hosts.log)
    (tells_line ready.0 (length c.begin.new.log.items) t c.tell.new.self few ready.1.room
    (λ n h d s l. c.tell.ensures.room n (record { history = h; channels = d; numbers = s; letters = l })))

pub returns-clause-made : goal.returns-clause-made
returns-clause-made g c =
    let given = g.given in
    let s = c.args.self.now in
    let t = c.prepare.new.self in
    let r = c.prepare.ensures.same in
    let doing = c.args.command.now in
    let stands = stands_roomed given.header given.outside s t r c.requires.1.0 in
    let is : given ≡ record { header = given.header; outside = given.outside; command = doing; past = event.Line c.args.line ∷ t.history.items } =
    rw r.history c.requires.0 in
    let hosts = c.begin.new.self in
    let events = c.begin.new.log.items in
    let new = c.commit_log.new.self in
    let began = subst (λ (z : Step). Began z.header z.outside doing z.past hosts events) is c.in_ok-begin.ensures.began in
    let legal = legal_began given.header given.outside (record { line = c.args.line; command = doing }) t.history.items events hosts
    (none_temporary given.header stands.built.ranged) (rw r.history c.requires.1.1.1.1.0) began in
    let told = told_said given.header given.outside doing c.args.line events hosts t stands began.heads.stretch began.ended.rests began.ended.queues in
    let same = line_and_log t hosts c.begin.new.log c.tell.new.self new c.tell.ensures.hosts c.commit_log.ensures.hosts in
    let grown = line_then_log c.args.line events t c.tell.new.self new c.tell.ensures.history (ap (λ (z : Listed Event). z.items) c.tell.ensures.hosts.log)
    c.commit_log.ensures.history in
    makes_roomed given.header given.outside (record { line = c.args.line; command = doing }) s t new r.history
    (makes_told given.header given.outside (record { line = c.args.line; command = doing }) events hosts t new stands told legal (λ prompt. began.ended.prompt)
    same c.commit_log.ensures.posts grown c.commit_log.ensures.log)

pub returns-clause-spares : goal.returns-clause-spares
returns-clause-spares g c =
    let given = g.given in
    let s = c.args.self.now in
    let t = c.prepare.new.self in
    let r = c.prepare.ensures.same in
    let doing = c.args.command.now in
    let stands = stands_roomed given.header given.outside s t r c.requires.1.0 in
    let is : given ≡ record { header = given.header; outside = given.outside; command = doing; past = event.Line c.args.line ∷ t.history.items } =
    rw r.history c.requires.0 in
    let hosts = c.begin.new.self in
    let events = c.begin.new.log.items in
    let new = c.commit_log.new.self in
    let began = subst (λ (z : Step). Began z.header z.outside doing z.past hosts events) is c.in_ok-begin.ensures.began in
    let told = told_said given.header given.outside doing c.args.line events hosts t stands began.heads.stretch began.ended.rests began.ended.queues in
    let same = line_and_log t hosts c.begin.new.log c.tell.new.self new c.tell.ensures.hosts c.commit_log.ensures.hosts in
    let grown = line_then_log c.args.line events t c.tell.new.self new c.tell.ensures.history (ap (λ (z : Listed Event). z.items) c.tell.ensures.hosts.log)
    c.commit_log.ensures.history in
    both_spares given.header given.outside s t new (spares_roomed given.header given.outside s t r)
    (spares_told given.header given.outside c.args.line events hosts t new told same grown)

pub returns-in_err-prepare-clause-err : goal.returns-in_err-prepare-clause-err
returns-in_err-prepare-clause-err g c =
    on_err _
    (still_roomed g.given.header g.given.outside c.args.self.now c.prepare.new.self c.prepare.ensures.same c.requires.1.0)

pub returns-in_err-prepare-clause-spares : goal.returns-in_err-prepare-clause-spares
returns-in_err-prepare-clause-spares g c = spares_roomed g.given.header g.given.outside c.args.self.now c.prepare.new.self c.prepare.ensures.same

pub returns-in_err-begin-clause-err : goal.returns-in_err-begin-clause-err
returns-in_err-begin-clause-err g c =
    on_err _
    (let given = g.given in
    let s = c.args.self.now in
    let t = c.prepare.new.self in
    let r = c.prepare.ensures.same in
    let doing = c.args.command.now in
    let stands = stands_roomed given.header given.outside s t r c.requires.1.0 in
    let is : given ≡ record { header = given.header; outside = given.outside; command = doing; past = event.Line c.args.line ∷ t.history.items } =
    rw r.history c.requires.0 in
    let hosts = c.begin.new.self in
    let h = t.history.items in
    let e = c.in_err-begin.ensures.err in
    let lined : AllRest given.header hosts (event.Line c.args.line ∷ h) = subst (λ (z : Step). AllRest z.header hosts z.past) is e.0 in
    let was : AllQueued given.header t.hosts given.past = subst (λ (z : Step). AllQueued z.header t.hosts z.past) (sym is)
    (queued_lined given.header given.outside doing t.hosts c.args.line h stands.rests stands.queues) in
    let queued : AllQueued given.header hosts (event.Line c.args.line ∷ h) = subst (λ (z : Step). AllQueued z.header hosts z.past) is (e.1.0 was) in
    still_of given.header given.outside s _ (stands_kept given.header given.outside t hosts c.begin.new.log stands
    (all_unlined given.header t.hosts hosts c.args.line h stands.rests lined)
    (queued_unlined given.header t.hosts hosts c.args.line h stands.rests lined queued) e.1.1) r.history)

pub returns-in_err-begin-clause-spares : goal.returns-in_err-begin-clause-spares
returns-in_err-begin-clause-spares g c =
    let r = c.prepare.ensures.same in
    same_all g.given.header g.given.outside c.args.self.now _ (roomed_pagers _ _ r) (roomed_files _ _ r) r.history
