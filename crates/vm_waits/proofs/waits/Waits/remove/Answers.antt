use Rattle.std.proofs.Common.{refl, arith}
use Rattle.std.specs.Map.{values_of}
use Rattle.vm_waits.proofs.ByTask.{holds}
use Rattle.vm_waits.proofs.Copies.{copies_without}
use Rattle.vm_waits.proofs.Rows.{counted_without, entry_without, length_without, once_without}
use Rattle.vm_waits.proofs.Tables.{lined_without, there}
use Rattle.vm_waits.specs.Waits.{entry, is_again, is_frame, rows_without}
use Rattle.vm_waits.proofs.waits.Waits.remove.Goals as goal

pub overflow_sub-self : goal.overflow_sub-self
overflow_sub-self c =
    let rows = values_of c.self.inside.rows.entries in
    let was = there (entry rows c.args.task.0) (rw (← c.self.view_is) at c.requires) in
    let one = rw (← c.self.view_is, was.is) at c.copies_of.ensures in
    omega (arith, c.self.invariant.4, one, copies_without c.args.task.0 rows was.it c.self.invariant.0.once was.is)

pub invariant_of-self : goal.invariant_of-self
invariant_of-self c =
    let old = c.self.inside in
    let rows = values_of old.rows.entries in
    let was = there (entry rows c.args.task.0) (rw (← c.self.view_is) at c.requires) in
    let now = holds c.take_out.new.rows.entries (rows_without c.args.task.0 rows) c.take_out.ensures.rows
    (once_without c.args.task.0 rows c.self.invariant.0.once) in
    let fewer = length_without c.args.task.0 rows was.it c.self.invariant.0.once was.is in
    let one = rw (← c.self.view_is, was.is) at c.copies_of.ensures in
    let fits = c.self.invariant.3 in
    rw (now.rows, c.take_off.ensures.tasks) (
      now.kept,
      c.take_out.ensures.empty,
      lined_without c.args.task.0 rows old.queue.items was.it c.self.invariant.2 c.self.invariant.0.once was.is,
      record {
        rows = c.take_out.ensures.room;
        second = omega (arith, fewer, c.take_out.ensures.second);
        queue = omega (arith, fewer, fits.queue, c.take_off.ensures.capacity);
        few = omega (arith, fewer, fits.few);
      },
      omega (arith, c.self.invariant.4, one, copies_without c.args.task.0 rows was.it c.self.invariant.0.once was.is),
    )

pub returns : goal.returns
returns c =
    let old = c.self.inside in
    let rows = values_of old.rows.entries in
    let was = there (entry rows c.args.task.0) (rw (← c.self.view_is) at c.requires) in
    let now = holds c.take_out.new.rows.entries (rows_without c.args.task.0 rows) c.take_out.ensures.rows
    (once_without c.args.task.0 rows c.self.invariant.0.once) in
    rw (now.rows, ← c.self.view_is, was.is) record {
      rows = refl;
      entry = record { at = entry_without c.args.task.0 rows };
      again = counted_without is_again c.args.task.0 rows was.it c.self.invariant.0.once was.is;
      queued = counted_without is_frame c.args.task.0 rows was.it c.self.invariant.0.once was.is;
      length = length_without c.args.task.0 rows was.it c.self.invariant.0.once was.is;
      queue = c.take_off.ensures.tasks;
      room = refl;
    }
