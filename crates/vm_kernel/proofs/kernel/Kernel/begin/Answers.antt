use Rattle.vm_kernel.proofs.Common.{Event, List, OnOk, Parts, Restarted, Starts, ap, arith, length, paging, subst, sym, ℕ, ◌+◌, ◌∙◌, ◌≡◌, ◌≤◌}
use Rattle.vm_kernel.proofs.steps.EventsGrow.{on_ok}
use Rattle.vm_kernel.proofs.room.PartsOfStep.{on_err}
use Rattle.vm_kernel.proofs.room.KernelReady.{buffers_rooms, front_buffers, most_buffers, ready_buffers, ready_more, starts_buffers}
use Rattle.vm_kernel.specs.Plays.{PlaysBy, may_reclaim}
use Rattle.vm_kernel.specs.Rooms.{IsReady, breadth_of, dues, front, full_dues, most, with_buffers, with_rooms_of}
use Rattle.vm_kernel.proofs.kernel.Kernel.begin.Given.{Over}
use Rattle.vm_kernel.proofs.kernel.Kernel.begin.Goals as goal

-- what holds of the kernel with more buffers, and doesn't look at them, held of it as it was
of_old : (g : Over) (c : goal.After-run g) (P : Parts → Type 0) → P c.reserve_for.new.self
    → ((z : Parts) → P (with_buffers c.reserve_for.new.self.memory.buffers.count z) → P z) → P c.args.self.now
of_old g c P now back = subst P c.self.view_is (back c.self.inside.parts (subst P c.in_ok-reserve_for.ensures.is now))

pub run-requires : goal.run-requires
run-requires g c =
    let count = c.reserve_for.new.self.memory.buffers.count in
    let starts = subst (λ (z : Parts). Starts g.given.header g.given.host c.args.command.now g.given.past z c.args.ids.now c.args.log.now.items)
    (sym c.self.view_is) c.requires.0 in (
      subst (λ (z : Parts). Starts g.given.header g.given.host c.args.command.now g.given.past z c.args.ids.now c.args.log.now.items)
          (sym c.in_ok-reserve_for.ensures.is)
          (starts_buffers c.self.inside.parts count g.given.header g.given.host c.args.command.now g.given.past c.args.ids.now c.args.log.now.items starts),
      c.requires.1,
    )

pub returns-clause-plays : goal.returns-clause-plays
returns-clause-plays g c =
    let of = λ (z : Parts) (items : List Event). OnOk c.run.result (PlaysBy g.given.header (may_reclaim c.args.command.now z.waits.queue g.given.past)
    g.given.past items (paging z) c.run.new.log.items (paging c.run.new.self)) in
    subst (λ (items : List Event). of c.args.self.now items) c.requires.0.nothing
    (of_old g c (λ z. of z c.args.log.now.items) c.run.ensures.plays (λ z was. was))

pub returns-clause-restarts : goal.returns-clause-restarts
returns-clause-restarts g c =
    of_old g c (λ z. OnOk c.run.result (Restarted g.given.header g.given.host c.run.new.self.waits.rows g.given.past z.waits.queue c.run.new.self.waits.queue
    c.run.new.log.items)) c.run.ensures.restarts (λ z was. was)

pub returns-clause-few : goal.returns-clause-few
returns-clause-few g c =
    let told = ap length c.requires.0.nothing in
    on_ok c.run.result _ _ (λ few. omega (arith, few, told))
    (of_old g c (λ z. OnOk c.run.result (length c.run.new.log.items + dues c.run.new.self ≤ length
    c.args.log.now.items + (full_dues z + front (breadth_of c.args.command.now) z))) c.run.ensures.few
    (λ z was. subst (λ (n : ℕ). OnOk c.run.result (length c.run.new.log.items + dues c.run.new.self ≤ length c.args.log.now.items + (full_dues z + n)))
    (front_buffers z c.reserve_for.new.self.memory.buffers.count (breadth_of c.args.command.now)) was))

pub returns-clause-room : goal.returns-clause-room
returns-clause-room g c more ready log =
    let inside = subst (λ (z : Parts). IsReady (breadth_of c.args.command.now) z) (sym c.self.view_is) ready in
    let now = subst (λ (z : Parts). IsReady (breadth_of c.args.command.now) z) (sym c.in_ok-reserve_for.ensures.is)
    (ready_buffers c.self.inside.parts c.reserve_for.new.self.memory.buffers.count (breadth_of c.args.command.now) c.in_ok-reserve_for.ensures.kept
    inside) in
    let same : most (breadth_of c.args.command.now) c.reserve_for.new.self ≡ most (breadth_of c.args.command.now) c.args.self.now = ap
    (λ (z : Parts). most (breadth_of c.args.command.now) z) c.in_ok-reserve_for.ensures.is
    ∙ (most_buffers c.self.inside.parts c.reserve_for.new.self.memory.buffers.count (breadth_of c.args.command.now)
    ∙ ap (λ (z : Parts). most (breadth_of c.args.command.now) z) c.self.view_is) in
    let enough : most (breadth_of c.args.command.now) c.reserve_for.new.self + more ≤ c.args.log.now.room = omega (arith, same, log) in
    on_ok c.run.result _ _ (λ room. record { has = room.0; buffers = room.1 })
    (c.run.ensures.room (more + 2) (ready_more (breadth_of c.args.command.now) c.reserve_for.new.self c.args.log.now.room more now enough) now.access
    now.buffers c.in_ok-reserve_for.ensures.enough)

pub returns-clause-err : goal.returns-clause-err
returns-clause-err g c ready log =
    let inside = subst (λ (z : Parts). IsReady (breadth_of c.args.command.now) z) (sym c.self.view_is) ready in
    let now = subst (λ (z : Parts). IsReady (breadth_of c.args.command.now) z) (sym c.in_ok-reserve_for.ensures.is)
    (ready_buffers c.self.inside.parts c.reserve_for.new.self.memory.buffers.count (breadth_of c.args.command.now) c.in_ok-reserve_for.ensures.kept
    inside) in
    let same : most (breadth_of c.args.command.now) c.reserve_for.new.self ≡ most (breadth_of c.args.command.now) c.args.self.now = ap
    (λ (z : Parts). most (breadth_of c.args.command.now) z) c.in_ok-reserve_for.ensures.is
    ∙ (most_buffers c.self.inside.parts c.reserve_for.new.self.memory.buffers.count (breadth_of c.args.command.now)
    ∙ ap (λ (z : Parts). most (breadth_of c.args.command.now) z) c.self.view_is) in
    let enough : most (breadth_of c.args.command.now) c.reserve_for.new.self + 0 ≤ c.args.log.now.room = omega (arith, same, log) in
    let more = ready_more (breadth_of c.args.command.now) c.reserve_for.new.self c.args.log.now.room 0 now enough in
    on_err c.run.result _ _
    (λ err. (
      subst (λ (z : Parts). c.run.new.self ≡ with_rooms_of c.run.new.self z) c.self.view_is
          (buffers_rooms c.self.inside.parts c.run.new.self c.reserve_for.new.self.memory.buffers.count (err.0 ∙ c.in_ok-reserve_for.ensures.is)),
      (err.1.0, err.1.1 ∙ c.requires.0.nothing),
    ))
    (c.run.ensures.err (record { tables = more.tables; log = omega (arith, more.log) }) now.access now.buffers c.in_ok-reserve_for.ensures.enough)
