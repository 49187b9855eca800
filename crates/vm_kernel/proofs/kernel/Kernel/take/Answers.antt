use Rattle.vm_kernel.proofs.Common.{EndsEach, OnOk, Parts, Restarted, Rests, ap, arith, length, paging, subst, sym, ◌++◌, ℕ, ◌+◌, ◌∙◌, ◌≡◌, ◌≤◌}
use Rattle.vm_kernel.proofs.steps.EventsGrow.{on_ok}
use Rattle.vm_kernel.proofs.room.KernelReady.{always, front_buffers, most_buffers, ready_buffers, ready_more, rests_buffers}
use Rattle.vm_kernel.proofs.steps.QueueServed.{both_ok}
use Rattle.vm_kernel.proofs.room.CallsSpend.{never_err}
use Rattle.vm_kernel.proofs.steps.WhyWaiting.{ends_waiters}
use Rattle.vm_kernel.specs.Destroying.{queue_behind}
use Rattle.vm_kernel.specs.Plays.{PlaysAnswer}
use Rattle.vm_kernel.specs.Rooms.{HasMore, IsReady, dues, front, full_dues, making, most, with_buffers, word_breadth}
use Rattle.vm_kernel.specs.Taking.{IsWord}
use Rattle.vm_objects.specs.Objects.{object_at}
use Rattle.vm_resident.specs.Resident.{row_at}
use Rattle.vm_supply.specs.Answers.{outcome_of}
use Rattle.vm_kernel.proofs.kernel.Kernel.take.Given.{Over}
use Rattle.vm_kernel.proofs.kernel.Kernel.take.Goals as goal

-- what holds of the kernel with more buffers, and doesn't look at them, held of it as it was
of_old : (g : Over) (c : goal.After-take g) (P : Parts → Type 0) → P c.reserve_for_word.new.self
    → ((z : Parts) → P (with_buffers c.reserve_for_word.new.self.memory.buffers.count z) → P z) → P c.args.self.now
of_old g c P now back = subst P c.self.view_is (back c.self.inside.parts (subst P c.in_ok-reserve_for_word.ensures.is now))

pub take-requires : goal.take-requires
take-requires g c =
    let count = c.reserve_for_word.new.self.memory.buffers.count in
    let rests = subst (λ (z : Parts). Rests g.given.header g.given.host z c.args.ids.now g.given.past) (sym c.self.view_is) c.requires.0 in
    let now = subst (λ (z : Parts). Rests g.given.header g.given.host z c.args.ids.now g.given.past) (sym c.in_ok-reserve_for_word.ensures.is)
    (rests_buffers c.self.inside.parts count g.given.header g.given.host c.args.ids.now g.given.past rests) in
    (now, (c.requires.1.0, (subst (λ (n : ℕ). IsWord n c.args.message.now) (sym now.matches.core.setting.sized) c.requires.1.1.0, c.requires.1.1.1)))

pub returns-clause-ended : goal.returns-clause-ended
returns-clause-ended g c queue =
    let each = of_old g c (λ z. OnOk c.take.result (EndsEach g.given.header z.waits.rows (c.take.new.log.items ++ (g.given.front ++ g.given.past))))
    c.take.ensures.ended (λ z was. was) in
    both_ok c.take.result _ _ _
    (λ goes ended. ends_waiters g.given.header g.given.host g.given.outside g.given.command c.args.self.now c.args.ids.now g.given.past g.given.front
    c.args.object c.args.control c.args.message.now c.take.new.log.items c.requires.0 queue c.requires.1.0 goes ended)
    c.take.ensures.goes each

pub returns-clause-plays : goal.returns-clause-plays
returns-clause-plays g c =
    of_old g c
    (λ z.
    OnOk c.take.result
    (PlaysAnswer g.given.header (g.given.front ++ g.given.past) c.args.object (outcome_of (object_at z.memory.objects c.args.object.0) c.args.control
    (row_at z.memory.resident c.args.object.0) c.args.message.now) (paging z) c.take.new.log.items (paging c.take.new.self)))
    c.take.ensures.plays (λ z was. was)

pub returns-clause-restarts : goal.returns-clause-restarts
returns-clause-restarts g c =
    of_old g c (λ z. OnOk c.take.result (Restarted g.given.header g.given.host c.take.new.self.waits.rows (g.given.front ++ g.given.past)
    (queue_behind c.args.object.0 c.args.control c.args.message.now z) c.take.new.self.waits.queue c.take.new.log.items)) c.take.ensures.restarts
    (λ z was. was)

pub returns-clause-few : goal.returns-clause-few
returns-clause-few g c =
    let told = ap length c.requires.1.1.1.1.0 in
    on_ok c.take.result _ _ (λ few. omega (arith, few, told))
    (of_old g c (λ z. OnOk c.take.result (length c.take.new.log.items + dues c.take.new.self ≤ length
    c.args.log.now.items + (full_dues z + front (word_breadth c.args.message.now) z))) c.take.ensures.few
    (λ z was. subst (λ (n : ℕ). OnOk c.take.result (length c.take.new.log.items + dues c.take.new.self ≤ length c.args.log.now.items + (full_dues z + n)))
    (front_buffers z c.reserve_for_word.new.self.memory.buffers.count (word_breadth c.args.message.now)) was))

-- behind `reserve` there is room for what the call does
ready_now : (g : Over) (c : goal.After-take g) → IsReady (word_breadth c.args.message.now) c.args.self.now
    → IsReady (word_breadth c.args.message.now) c.reserve_for_word.new.self
ready_now g c ready =
    let inside = subst (λ (z : Parts). IsReady (word_breadth c.args.message.now) z) (sym c.self.view_is) ready in
    subst (λ (z : Parts). IsReady (word_breadth c.args.message.now) z) (sym c.in_ok-reserve_for_word.ensures.is)
    (ready_buffers c.self.inside.parts c.reserve_for_word.new.self.memory.buffers.count (word_breadth c.args.message.now)
    c.in_ok-reserve_for_word.ensures.kept inside)

more_now : (g : Over) (c : goal.After-take g) (more : ℕ) → IsReady (word_breadth c.args.message.now) c.args.self.now
    → most (word_breadth c.args.message.now) c.args.self.now + more ≤ c.args.log.now.room
    → HasMore (front (word_breadth c.args.message.now) c.reserve_for_word.new.self) (making (word_breadth c.args.message.now) c.reserve_for_word.new.self)
    (more + 2) c.reserve_for_word.new.self c.args.log.now.room
more_now g c more ready log =
    let same : most (word_breadth c.args.message.now) c.reserve_for_word.new.self ≡ most (word_breadth c.args.message.now) c.args.self.now = ap
    (λ (z : Parts). most (word_breadth c.args.message.now) z) c.in_ok-reserve_for_word.ensures.is
    ∙ (most_buffers c.self.inside.parts c.reserve_for_word.new.self.memory.buffers.count (word_breadth c.args.message.now)
    ∙ ap (λ (z : Parts). most (word_breadth c.args.message.now) z) c.self.view_is) in
    ready_more (word_breadth c.args.message.now) c.reserve_for_word.new.self c.args.log.now.room more (ready_now g c ready) (omega (arith, same, log))

pub returns-clause-room : goal.returns-clause-room
returns-clause-room g c more ready log =
    let now = ready_now g c ready in
    let all = c.take.ensures.room (more + 2) (more_now g c more ready log) now.mark now.buffers
    c.in_ok-reserve_for_word.ensures.enough in
    always c.take.result _ (record { has = all.1.0; buffers = all.1.1 })

pub returns-clause-err : goal.returns-clause-err
returns-clause-err g c ready log =
    let now = ready_now g c ready in
    let all = c.take.ensures.room 2 (more_now g c 0 ready (omega (arith, log))) now.mark now.buffers
    c.in_ok-reserve_for_word.ensures.enough in
    never_err c.take.result _ all.0
