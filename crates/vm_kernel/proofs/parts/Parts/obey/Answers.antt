use Rattle.vm_kernel.proofs.Common.{OnOk, arith, sym, ◌++◌, ◌∙◌}
use Rattle.vm_kernel.proofs.steps.EventsGrow.{on_ok}
use Rattle.vm_kernel.proofs.controls.LockHeeded.{Heeds, can_lock, heeds_done, heeds_none}
use Rattle.vm_kernel.proofs.steps.QueueServed.{three_ok}
use Rattle.vm_kernel.proofs.room.EndsSpend.{obeyed_spends, spends_hand}
use Rattle.vm_kernel.proofs.room.CallsSpend.{spends_none}
use Rattle.vm_kernel.proofs.parts.Parts.obey.Given as given
use Rattle.vm_kernel.proofs.parts.Parts.obey.Goals as goal

-- the request is for another control
all_none : (g : given.Over) (c : goal.Then-not-is_live g)
    → Heeds g.given.header g.given.host g.given.outside g.given.command c.args.self.now c.args.self.now c.args.ids.now (g.given.front ++ g.given.past)
    c.args.log.now.items
all_none g c =
    heeds_none g.given.header g.given.host g.given.outside g.given.command c.args.self.now c.args.ids.now g.given.past g.given.front c.args.log.now.items
    c.args.object c.args.control c.args.message.now
    c.requires.0 c.requires.1.0 c.requires.1.1.0 c.requires.1.1.1.0 c.requires.1.1.1.1 (sym c.is_live.ensures ∙ c.if-not-is_live.true)

pub returns-then-not-is_live-clause-works : goal.returns-then-not-is_live-clause-works
returns-then-not-is_live-clause-works g c = (all_none g c).works

pub returns-then-not-is_live-clause-plays : goal.returns-then-not-is_live-clause-plays
returns-then-not-is_live-clause-plays g c = (all_none g c).plays

pub lock-requires : goal.lock-requires
lock-requires g c =
    can_lock g.given.header g.given.host c.args.self.now c.args.ids.now g.given.past c.args.object c.args.control c.args.message.now c.args.log.now.items
    c.requires.0 c.requires.1.1.0 c.requires.1.1.1.0 (sym c.is_live.ensures ∙ c.if-not-is_live.false) c.stand_once.ensures

-- or it was done
all_done : (g : given.Over) (c : goal.After-lock g) → OnOk c.lock.result (Heeds g.given.header g.given.host g.given.outside g.given.command c.args.self.now
    (record c.args.self.now { memory = c.lock.new.parts; laundry = c.lock.new.laundry; waits = c.wake_unlocked.new.waits }) c.args.ids.now
    (g.given.front ++ g.given.past) c.lock.new.log.items)
all_done g c =
    three_ok c.lock.result _ _ _ _
    (λ obeyed fit size. heeds_done g.given.header g.given.host g.given.outside g.given.command c.args.self.now c.args.ids.now g.given.past g.given.front
    c.args.log.now.items c.lock.new.log.items c.args.object c.args.control c.args.message.now c.in-Lock.page c.in-Lock.count c.lock.new.parts
    c.lock.new.laundry c.wake_unlocked.new.waits
    c.requires.0 c.requires.1.0 c.requires.1.1.0 (record {
      returns = c.in-Lock.returns;
      flush = c.in-Lock.flush;
      lock = c.in-Lock.lock;
      reply = c.in-Lock.reply;
      is = c.in-Lock.is;
    }) c.requires.1.1.1.1 (sym c.is_live.ensures ∙ c.if-not-is_live.false) c.wake_unlocked.ensures.rows obeyed fit size)
    c.lock.ensures.obeyed c.lock.ensures.fit c.lock.ensures.size

pub returns-clause-works : goal.returns-clause-works
returns-clause-works g c = on_ok c.lock.result _ _ (λ all. all.works) (all_done g c)

pub returns-clause-fails : goal.returns-clause-fails
returns-clause-fails g c = on_ok c.lock.result _ _ (λ all. all.fails) (all_done g c)

pub returns-clause-goes : goal.returns-clause-goes
returns-clause-goes g c = on_ok c.lock.result _ _ (λ all. all.goes) (all_done g c)

pub returns-clause-early : goal.returns-clause-early
returns-clause-early g c = on_ok c.lock.result _ _ (λ all. all.early) (all_done g c)

pub returns-clause-zeroed : goal.returns-clause-zeroed
returns-clause-zeroed g c = on_ok c.lock.result _ _ (λ all. all.zeroed) (all_done g c)

pub returns-clause-locked : goal.returns-clause-locked
returns-clause-locked g c = on_ok c.lock.result _ _ (λ all. all.locked) (all_done g c)

pub returns-clause-plays : goal.returns-clause-plays
returns-clause-plays g c = on_ok c.lock.result _ _ (λ all. all.plays) (all_done g c)

pub returns-then-not-is_live-clause-spends : goal.returns-then-not-is_live-clause-spends
returns-then-not-is_live-clause-spends g c =
    spends_hand c.args.self.now c.args.self.now c.args.log.now c.args.log.now 0 0 _ (spends_none c.args.self.now c.args.log.now 0) (omega arith)

pub returns-then-not-is_live-clause-buffers : goal.returns-then-not-is_live-clause-buffers
returns-then-not-is_live-clause-buffers g c = λ has. omega (arith, has)

pub returns-clause-spends : goal.returns-clause-spends
returns-clause-spends g c =
    three_ok c.lock.result _ _ _ _
    (λ all rooms told. obeyed_spends g.given.header g.given.host g.given.past (c.lock.new.log.items ++ (g.given.front ++ g.given.past)) c.args.self.now
    c.args.ids.now c.lock.new.parts c.lock.new.laundry c.wake_unlocked.new.waits c.args.log.now c.lock.new.log
    c.requires.0.matches all.works.matches rooms told _ c.wake_unlocked.ensures.rows)
    (all_done g c) c.lock.ensures.rooms c.lock.ensures.told

pub returns-clause-succeeds : goal.returns-clause-succeeds
returns-clause-succeeds g c = λ room has. c.lock.ensures.succeeds (omega (arith, room.log)) (omega (arith, has))

pub returns-clause-buffers : goal.returns-clause-buffers
returns-clause-buffers g c = on_ok c.lock.result _ _ (λ rooms has. omega (arith, rooms.buffers, has)) c.lock.ensures.rooms
