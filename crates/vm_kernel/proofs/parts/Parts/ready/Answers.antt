use Rattle.vm_kernel.proofs.Common.{ap, arith, false, refl, subst, sym, true, ◌++◌, ◌≡◌, Woken, ◌+◌, inr}
use Rattle.vm_kernel.specs.Rooms.{Spends, leaving}
use Rattle.vm_kernel.specs.Caching.{SaysStay}
use Rattle.vm_kernel.proofs.controls.StaySaid.{ReadyHeard, buffers_kept, ready_heard, ready_spends, ready_whom, said_done, said_still}
use Rattle.vm_kernel.proofs.room.CallsSpend.{spends_both}
use Rattle.vm_kernel.proofs.room.EndsSpend.{roomy_on, spends_less}
use Rattle.vm_kernel.proofs.parts.Parts.ready.Given as given
use Rattle.vm_kernel.proofs.parts.Parts.ready.Goals as goal
use Rattle.vm_kernel.proofs.parts.Parts.ready.Goals.{In-Ready}
use Rattle.vm_parts.specs.Listed.{listed_pages}

-- the word was heard
all_heard : (g : given.Over) (c : In-Ready g) → ReadyHeard g.given.header g.given.host g.given.outside g.given.command c.args.self.now c.args.ids.now
    c.args.object c.in-Ready.cache c.in_ok-woken.woken c.answer.new.parts (g.given.front ++ g.given.past) c.args.log.now.items c.answer.new.log.items
all_heard g c =
    ready_heard g.given.header g.given.host g.given.outside g.given.command c.args.self.now c.args.ids.now c.args.log.now.items c.answer.new.log.items
    g.given.past g.given.front c.args.object c.args.control c.in-Ready.cache c.in-Ready.strategy c.args.message.now c.in_ok-woken.woken c.answer.new.parts
    c.requires.0 c.requires.1.0 c.in-Ready.is c.requires.1.1.1 c.in_ok-woken.ensures.fit c.in_ok-woken.ensures.buffers c.in_ok-woken.ensures.answered

pub returns-in_err-woken-clause-succeeds : goal.returns-in_err-woken-clause-succeeds
returns-in_err-woken-clause-succeeds g c = λ room marks buffers.
    let bad : false ≡ true = c.in_err-woken.ensures.succeeds (omega (arith, room.log)) marks in absurd (cc)

pub keep-requires : goal.keep-requires
keep-requires g c = (all_heard g (goal.at.keep-requires g c).In-Ready).keep _ c.in-ReadyOf.is

-- what is spent before the object ends
first_spends : (g : given.Over) (c : In-Ready g) → Spends (1 + leaving c.args.self.now c.args.ids.now) 0
    (leaving (record c.args.self.now { memory = c.answer.new.parts }) c.args.ids.now) c.args.self.now c.args.log.now
    (record c.args.self.now { memory = c.answer.new.parts }) c.answer.new.log
first_spends g c =
    let all = all_heard g c in
    ready_spends c.args.ids.now c.args.log.now c.answer.new.log all.keeps all.told c.in_ok-woken.ensures.rooms.1 c.in_ok-woken.ensures.spare

pub returns-in_err-keep-clause-succeeds : goal.returns-in_err-keep-clause-succeeds
returns-in_err-keep-clause-succeeds g c = λ room marks buffers.
    let turn = (goal.at.returns-in_err-keep-clause-succeeds g c).In-Ready in
    let had = ap (λ z. z.count) c.in_ok-woken.ensures.buffers in
    let listed = ap (λ z. listed_pages z.queues) (all_heard g turn).keeps.rest in
    let bad : false ≡ true = c.in_err-keep.ensures.succeeds
    (roomy_on c.args.self.now (record c.args.self.now { memory = c.answer.new.parts }) c.args.log.now c.answer.new.log _ _ (first_spends g turn) room)
    (buffers_kept c.args.self.now c.answer.new.parts listed had buffers) in
    absurd (cc)

pub returns-in_ok-keep-clause-says : goal.returns-in_ok-keep-clause-says
returns-in_ok-keep-clause-says g c =
    let all = all_heard g (goal.at.returns-in_ok-keep-clause-says g c).In-Ready in
    let ends = c.in_ok-keep.ensures in
    let whom = ready_whom c.in_ok-woken.woken _ c.args.object c.in-ReadyOf.is all.wakes in
    subst (λ (z : Woken). SaysStay g.given.header g.given.host g.given.outside g.given.command c.args.object z c.args.self.now c.keep.new.self c.args.ids.now
    (g.given.front ++ g.given.past) c.keep.new.log.items) (sym whom)
    (said_done c.args.self.now (record c.args.self.now { memory = c.answer.new.parts }) c.keep.new.self (inr refl) all.took all.goes all.quiet all.plays refl
    ends.works ends.goes ends.waits ends.plays ends.only)

pub returns-in_ok-keep-clause-spends : goal.returns-in_ok-keep-clause-spends
returns-in_ok-keep-clause-spends g c =
    let turn = (goal.at.returns-in_ok-keep-clause-spends g c).In-Ready in
    spends_less c.args.self.now c.keep.new.self c.args.log.now c.keep.new.log _ _ 0
    (spends_both c.args.self.now (record c.args.self.now { memory = c.answer.new.parts }) c.keep.new.self c.args.log.now c.answer.new.log c.keep.new.log
    _ _ _ (first_spends g turn) c.in_ok-keep.ensures.spends) (omega arith)

pub returns-in_default-woken : goal.returns-in_default-woken
returns-in_default-woken g c =
    let turn = (goal.at.returns-in_default-woken g c).In-Ready in
    let all = all_heard g turn in
    let listed = ap (λ z. listed_pages z.queues) all.keeps.rest in
    let had = ap (λ z. z.count) c.in_ok-woken.ensures.buffers in
    record {
      says =
          said_still c.args.self.now (record c.args.self.now { memory = c.answer.new.parts }) all.wakes all.took all.goes all.quiet all.plays refl
          (all.still c.in_default-woken.not-ReadyOf);
      spends = spends_less c.args.self.now (record c.args.self.now { memory = c.answer.new.parts }) c.args.log.now c.answer.new.log _ _ 0 (first_spends g turn)
          (omega arith);
      succeeds = λ room marks buffers. refl;
      buffers = λ buffers. buffers_kept c.args.self.now c.answer.new.parts listed had buffers;
    }
