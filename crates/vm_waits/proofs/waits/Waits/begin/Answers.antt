use Rattle.std.proofs.Common.{◌≡◌, ◌<◌, ◌++◌, None, refl, arith, length-append, [], ◌∷◌}
use Rattle.std.specs.Map.{values_of}
use Rattle.vm_waits.proofs.ByTask.{pushed}
use Rattle.vm_waits.proofs.Copies.{copies_begun, copies_few}
use Rattle.vm_waits.proofs.Rows.{counted_push, entry_push}
use Rattle.vm_waits.proofs.Tables.{lined_begun}
use Rattle.vm_waits.specs.Waits.{entry, is_again, is_frame}
use Rattle.vm_waits.specs.declared.waiting.On.TheVariants as on
use Rattle.vm_waits.specs.declared.waiting.Waiting.{Waiting}
use Rattle.vm_waits.proofs.waits.Waits.begin.Goals as goal

pub overflow_add-self : goal.overflow_add-self
overflow_add-self c =
    let rows = values_of c.self.inside.rows.entries in
    let w : Waiting = record { task = c.args.task; want = c.args.want; on = on.Again; destination = c.args.destination } in
    let room : 0 < c.self.inside.room = rw (← c.self.view_is) at c.requires.room in
    omega (
      arith,
      room,
      c.self.invariant.3.few,
      c.self.invariant.4,
      c.copy_count.ensures,
      copies_few (rows ++ w ∷ []),
      copies_begun rows w,
      length-append rows (w ∷ []),
    )

pub invariant_of-self : goal.invariant_of-self
invariant_of-self c =
    let old = c.self.inside in
    let w : Waiting = record { task = c.args.task; want = c.args.want; on = on.Again; destination = c.args.destination } in
    let absent : entry (values_of old.rows.entries) c.args.task.0 ≡ None = rw (← c.self.view_is) at c.requires.absent in
    let room : 0 < old.room = rw (← c.self.view_is) at c.requires.room in
    let now = pushed old.rows.entries c.insert.new.self.entries w c.self.invariant.0 absent (rw c.unwrap.ensures at c.insert.ensures.entries) in
    let long = length-append (values_of old.rows.entries) (w ∷ []) in
    let fits = c.self.invariant.3 in
    rw now.rows (
      now.kept,
      c.self.invariant.1,
      lined_begun (values_of old.rows.entries) old.queue.items w c.self.invariant.2 absent refl,
      record {
        rows = omega (arith, room, fits.rows, c.insert.ensures.spare);
        second = omega (arith, room, fits.second, long);
        queue = omega (arith, room, fits.queue, long);
        few = omega (arith, room, fits.few, long);
      },
      omega (arith, c.self.invariant.4, c.copy_count.ensures, copies_begun (values_of old.rows.entries) w),
    )

pub returns : goal.returns
returns c =
    let old = c.self.inside in
    let w : Waiting = record { task = c.args.task; want = c.args.want; on = on.Again; destination = c.args.destination } in
    let absent : entry (values_of old.rows.entries) c.args.task.0 ≡ None = rw (← c.self.view_is) at c.requires.absent in
    let room : 0 < old.room = rw (← c.self.view_is) at c.requires.room in
    let now = pushed old.rows.entries c.insert.new.self.entries w c.self.invariant.0 absent (rw c.unwrap.ensures at c.insert.ensures.entries) in
    rw (now.rows, ← c.self.view_is) record {
      rows = refl;
      entry = record { at = λ t. entry_push (values_of old.rows.entries) w t absent };
      again = counted_push is_again (values_of old.rows.entries) w;
      queued = omega (arith, counted_push is_frame (values_of old.rows.entries) w);
      queue = refl;
      room = omega (arith, room);
    }
