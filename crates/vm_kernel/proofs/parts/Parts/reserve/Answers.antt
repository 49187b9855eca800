use Rattle.vm_kernel.proofs.Common.{Parts, ResidentTable, ap, arith, frame_count, length, ◌∙◌}
use Rattle.vm_kernel.proofs.steps.EventsGrow.{on_ok}
use Rattle.vm_kernel.proofs.room.KernelReady.{making_same}
use Rattle.vm_kernel.specs.Rooms.{if_copies, returning}
use Rattle.vm_waits.specs.Waits.{count_copies}
use Rattle.vm_kernel.proofs.parts.Parts.reserve.Goals as goal
use Rattle.std.proofs.Math.Nat.{min-eq_left}

pub returns-clause-ready : goal.returns-clause-ready
returns-clause-ready c =
    on_ok c.reserve_buffers.result _ _
    (λ enough.
    let is = c.reserve_buffers.ensures.is in
    let same = ap length c.in_ok-reserve-5.ensures.rows in
    let rows = ap (λ (z : Parts). length z.waits.rows) is in
    let frames = ap (λ (z : Parts). frame_count z.memory.frames) is in
    let copied = ap (λ (z : Parts). if_copies (count_copies z.waits.rows) (frame_count z.memory.frames)) is
    ∙ ap (λ z. if_copies (count_copies z) (frame_count c.args.self.now.memory.frames)) c.in_ok-reserve-5.ensures.rows in
    let marked = ap (λ (z : Parts). z.chains.marked) is ∙ c.in_ok-reserve-3.ensures.marked in
    let maps = ap (λ (z : Parts). z.maps) is in
    let first = making_same c.args.breadth c.args.self.now c.reserve_buffers.new.self maps frames in
    let kept = ap (λ (z : ResidentTable). z.spare) c.keep.ensures ∙ min-eq_left c.in_ok-reserve.ensures.room in
    let spare = ap (λ (z : Parts). z.memory.resident.spare) is in
    let shadows = ap (λ (z : Parts). z.chains.spare) is in
    let objects = ap (λ (z : Parts). z.memory.objects.rows) is in
    let room = ap (λ (z : Parts). z.copies.room) is in
    let marks = ap (λ (z : Parts). z.memory.objects.marks) is in
    let access = ap (λ (z : Parts). z.waits.room) is in
    let here = ap returning is in
    let count = c.from.ensures ∙ c.marked.ensures in
    let sum = c.in-Ok.ensures in
    let pages = c.in-Ok-try_from.ensures in
    let behind = c.most_behind.ensures.dues in
    let made = c.made-made.ensures.made in
    let told = c.returning.ensures in
    record {
      rows = omega (arith, same, rows, copied, marked, spare, kept, pages, behind, made, first);
      shadows = omega (arith, shadows, marked, count, sum, made, first, c.in_ok-reserve-3.ensures.room);
      objects = omega (arith, objects, marked, count, sum, made, first, c.in_ok-reserve-2.ensures.rows);
      copies = omega (arith, room, count, sum, made, first, c.in_ok-reserve-4.ensures.room);
      mark = omega (arith, marks, c.in_ok-reserve-2.ensures.marks);
      access = omega (arith, access, c.in_ok-reserve-5.ensures.room);
      buffers = omega (arith, here, told, enough);
    })
    c.reserve_buffers.ensures.enough
