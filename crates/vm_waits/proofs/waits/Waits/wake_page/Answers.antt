use Rattle.std.proofs.Common.{◌∙◌, false, refl, sym, true, arith}
use Rattle.std.proofs.lemmas.List.{length-map}
use Rattle.std.specs.Map.{values_of}
use Rattle.vm_waits.proofs.ByTask.{mapped}
use Rattle.vm_waits.proofs.Copies.{copies_woken}
use Rattle.vm_waits.proofs.Rows.{counted_woken, woken_keeps}
use Rattle.vm_waits.proofs.Tables.{lined_woken, page_again, page_frame, waked}
use Rattle.vm_waits.specs.Waits.{is_again, is_frame, woken, woken_page}
use Rattle.vm_waits.proofs.waits.Waits.wake_page.Goals as goal

pub invariant_of-self : goal.invariant_of-self
invariant_of-self c =
    let old = c.self.inside in
    let rows = values_of old.rows.entries in
    let now = mapped (woken (woken_page c.args.key)) old.rows.entries c.wake_for_page.new.rows.entries (woken_keeps (woken_page c.args.key)) c.self.invariant.0
    c.wake_for_page.ensures.entries in
    let long = length-map rows (woken (woken_page c.args.key)) in
    let fits = c.self.invariant.3 in
    rw now.rows (
      now.kept,
      c.self.invariant.1,
      lined_woken (woken_page c.args.key) rows old.queue.items (page_frame c.args.key) c.self.invariant.2,
      record {
        rows = omega (arith, fits.rows, c.wake_for_page.ensures.spare);
        second = omega (arith, fits.second, long);
        queue = omega (arith, fits.queue, long);
        few = omega (arith, fits.few, long);
      },
      c.self.invariant.4 ∙ sym (copies_woken (woken_page c.args.key) rows),
    )

pub returns : goal.returns
returns c =
    let old = c.self.inside in
    let rows = values_of old.rows.entries in
    let now = mapped (woken (woken_page c.args.key)) old.rows.entries c.wake_for_page.new.rows.entries (woken_keeps (woken_page c.args.key)) c.self.invariant.0
    c.wake_for_page.ensures.entries in
    rw (now.rows, ← c.self.view_is) record {
      rows = refl;
      entry = waked (woken_page c.args.key) rows;
      again = counted_woken (woken_page c.args.key) is_again true rows (page_again c.args.key) refl;
      queued = omega (arith, counted_woken (woken_page c.args.key) is_frame false rows (page_frame c.args.key) refl);
      queue = refl;
      room = refl;
    }
