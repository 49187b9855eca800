use Rattle.std.proofs.Common.{◌∙◌, false, refl, sym, true, arith}
use Rattle.std.proofs.lemmas.List.{length-map}
use Rattle.std.specs.Map.{values_of}
use Rattle.vm_waits.proofs.ByTask.{mapped}
use Rattle.vm_waits.proofs.Copies.{copies_woken}
use Rattle.vm_waits.proofs.Rows.{counted_woken, woken_keeps}
use Rattle.vm_waits.proofs.Tables.{lined_woken, ready_again, ready_frame, waked}
use Rattle.vm_waits.specs.Waits.{is_again, is_frame, woken, woken_ready}
use Rattle.vm_waits.proofs.waits.Waits.wake_ready.Goals as goal

pub invariant_of-self : goal.invariant_of-self
invariant_of-self c =
    let old = c.self.inside in
    let rows = values_of old.rows.entries in
    let now = mapped (woken (woken_ready c.args.object.0)) old.rows.entries c.wake_for_ready.new.rows.entries (woken_keeps (woken_ready c.args.object.0))
    c.self.invariant.0 c.wake_for_ready.ensures.entries in
    let long = length-map rows (woken (woken_ready c.args.object.0)) in
    let fits = c.self.invariant.3 in
    rw now.rows (
      now.kept,
      c.self.invariant.1,
      lined_woken (woken_ready c.args.object.0) rows old.queue.items (ready_frame c.args.object.0) c.self.invariant.2,
      record {
        rows = omega (arith, fits.rows, c.wake_for_ready.ensures.spare);
        second = omega (arith, fits.second, long);
        queue = omega (arith, fits.queue, long);
        few = omega (arith, fits.few, long);
      },
      c.self.invariant.4 ∙ sym (copies_woken (woken_ready c.args.object.0) rows),
    )

pub returns : goal.returns
returns c =
    let old = c.self.inside in
    let rows = values_of old.rows.entries in
    let now = mapped (woken (woken_ready c.args.object.0)) old.rows.entries c.wake_for_ready.new.rows.entries (woken_keeps (woken_ready c.args.object.0))
    c.self.invariant.0 c.wake_for_ready.ensures.entries in
    rw (now.rows, ← c.self.view_is) record {
      rows = refl;
      entry = waked (woken_ready c.args.object.0) rows;
      again = counted_woken (woken_ready c.args.object.0) is_again true rows (ready_again c.args.object.0) refl;
      queued = omega (arith, counted_woken (woken_ready c.args.object.0) is_frame false rows (ready_frame c.args.object.0) refl);
      queue = refl;
      room = refl;
    }
