use Rattle.vm_kernel.proofs.Common.{HostParts, WaitTable, ap, arith, entering, false, frame_count, got, length, refl, true, whole_entry, ◌/◌, ◌∙◌, ◌∷◌, ◌≡◌}
use Rattle.vm_copies.specs.Copies.{CopyTable}
use Rattle.vm_kernel.proofs.lists.ListsAsTold.{lists_same, plays_both, plays_told}
use Rattle.vm_kernel.proofs.room.EndsSpend.{framed}
use Rattle.vm_kernel.proofs.steps.EventsGrow.{on_ok}
use Rattle.vm_kernel.proofs.space.RangeAllocated.{ran_range, changes_entered}
use Rattle.vm_kernel.specs.Rooms.{if_copies}
use Rattle.vm_waits.specs.Waits.{count_copies}
use Rattle.vm_kernel.proofs.parts.Parts.allocate.Goals as goal

pub returns-clause-ran : goal.returns-clause-ran
returns-clause-ran g c =
    let entry = c.whole_entry-entry.ensures in
    let changes = changes_entered c.make_range.new.self.maps c.enter.new.self c.args.task.0 c.entering.result _ (c.entering.ensures ∙ ap entering entry)
    c.in_ok-enter.ensures.changes in
    on_ok c.push-2.result _ _
    (λ told.
    ran_range g.given.header g.given.host g.given.outside c.args.task c.args.address c.args.bytes _ g.given.past c.args.self.now c.make_range.new.self
    c.args.ids.now c.args.log.now.items _ c.enter.new.self c.requires
    (ap (λ z. c.args.bytes / z) (c.from.ensures ∙ c.bytes.ensures.value)) c.in_ok-make_range.ensures.made changes
    (told ∙ (ap (λ z. z ∷ c.push.new.self.items) (c.entered.ensures ∙ ap (got c.args.task) entry)
    ∙ ap (λ z. got c.args.task (whole_entry c.args.address c.args.bytes (record { 0 = c.args.ids.now.next_region })) ∷ z) c.in_ok-push.ensures.ok)))
    c.push-2.ensures.ok

pub returns-clause-plays : goal.returns-clause-plays
returns-clause-plays g c =
    let made = c.in_ok-make_range.ensures.made in
    on_ok c.push-2.result _ _
    (λ told. plays_both (plays_told c.in_ok-push.ensures.ok refl) (plays_told (told ∙ ap (λ z. z ∷ c.push.new.self.items) c.entered.ensures)
    (lists_same c.args.self.now c.make_range.new.self (ap (λ z. z.resident) made.memory) (ap (λ z. z.queues) made.memory))))
    c.push-2.ensures.ok

pub returns-clause-spends : goal.returns-clause-spends
returns-clause-spends g c =
    let made = c.in_ok-make_range.ensures.made in
    let waits = ap (λ (z : WaitTable). length z.rows) made.waits in
    let frames = ap (λ (z : WaitTable). if_copies (count_copies z.rows) (frame_count c.make_range.new.self.memory.frames)) made.waits
    ∙ framed c.args.self.now (ap (λ (z : HostParts). frame_count z.frames) made.memory) in
    let marked = c.make_range.ensures.marked in
    let copies = ap (λ (z : CopyTable). z.room) made.copied in
    let rows = ap (λ (z : HostParts). z.resident.spare) made.memory in
    let first = ap length c.in_ok-push.ensures.ok in
    on_ok c.push-2.result _ _
    (λ told. let second = ap length told in record {
      told = omega (arith, first, second, waits, frames, marked);
      room = omega (arith, c.push.ensures.room, c.push-2.ensures.room, waits, frames, marked);
      rows = omega (arith, rows, waits, frames, marked);
      shadows = omega (arith, c.make_range.ensures.shadows, marked);
      objects = omega (arith, c.make_range.ensures.objects, marked);
      copies = omega (arith, copies);
    })
    c.push-2.ensures.ok

pub returns-in_err-make_range-clause-succeeds : goal.returns-in_err-make_range-clause-succeeds
returns-in_err-make_range-clause-succeeds g c =
    λ roomy. absurd (let bad : false ≡ true = c.in_err-make_range.ensures.succeeds (omega (arith, roomy.objects)) (omega (arith, roomy.shadows)) in cc)

pub returns-in_err-push-clause-succeeds : goal.returns-in_err-push-clause-succeeds
returns-in_err-push-clause-succeeds g c = λ roomy. absurd (let bad : false ≡ true = c.in_err-push.ensures.succeeds (omega (arith, roomy.log)) in cc)

pub returns-clause-succeeds : goal.returns-clause-succeeds
returns-clause-succeeds g c = λ roomy. c.push-2.ensures.succeeds (omega (arith, roomy.log, c.push.ensures.room))
