use Rattle.std.proofs.Common.{◌≡◌, ◌∙◌, Some, ap, map, refl, sym, arith}
use Rattle.std.proofs.lemmas.List.{length-map}
use Rattle.std.specs.Map.{values_of}
use Rattle.std.specs.Option.{option_copied_mut}
use Rattle.vm_waits.proofs.ByTask.{lendable, looked_up, written}
use Rattle.vm_waits.proofs.Copies.{copies_few, copies_rewanted, copies_without}
use Rattle.vm_waits.proofs.Rows.{counted_rewanted}
use Rattle.vm_waits.proofs.Tables.{lined_rewanted, puts_rewanted}
use Rattle.vm_waits.specs.Waits.{entry, is_again, is_frame, rewanted, with_want}
use Rattle.vm_waits.proofs.waits.Waits.set_want.Goals as goal

pub unwrap-row-requires : goal.unwrap-row-requires
unwrap-row-requires c =
    lendable c.args.task.0 c.self.inside.rows.entries c.get_mut.result c.self.invariant.0 c.get_mut.ensures.value (rw (← c.self.view_is) at c.requires)

pub overflow_sub-self : goal.overflow_sub-self
overflow_sub-self c =
    let old = c.self.inside in
    let rows = values_of old.rows.entries in
    let was = c.unwrap-row.result.now in
    let found : entry rows c.args.task.0 ≡ Some was = sym (looked_up c.args.task.0 old.rows.entries c.self.invariant.0) ∙ sym c.get_mut.ensures.value
    ∙ ap option_copied_mut c.unwrap-row.ensures in
    omega (arith, c.self.invariant.4, c.copy_count.ensures, copies_without c.args.task.0 rows was c.self.invariant.0.once found)

pub overflow_add-self : goal.overflow_add-self
overflow_add-self c =
    let old = c.self.inside in
    let rows = values_of old.rows.entries in
    let was = c.unwrap-row.result.now in
    let found : entry rows c.args.task.0 ≡ Some was = sym (looked_up c.args.task.0 old.rows.entries c.self.invariant.0) ∙ sym c.get_mut.ensures.value
    ∙ ap option_copied_mut c.unwrap-row.ensures in
    let long = length-map rows (rewanted c.args.task.0 c.args.want) in
    let few = copies_few (map (rewanted c.args.task.0 c.args.want) rows) in
    let even = copies_rewanted c.args.task.0 c.args.want rows was c.self.invariant.0.once found in
    omega (arith, few, long, even, c.self.invariant.3.few, c.self.invariant.4, c.copy_count.ensures, c.copy_count-2.ensures)

pub invariant_of-self : goal.invariant_of-self
invariant_of-self c =
    let old = c.self.inside in
    let rows = values_of old.rows.entries in
    let was = c.unwrap-row.result.now in
    let found : entry rows c.args.task.0 ≡ Some was = sym (looked_up c.args.task.0 old.rows.entries c.self.invariant.0) ∙ sym c.get_mut.ensures.value
    ∙ ap option_copied_mut c.unwrap-row.ensures in
    let wrote = c.get_mut.follows.holds (with_want was c.args.want) in
    let now = written c.args.task.0 (λ w. with_want w c.args.want) old.rows.entries (c.get_mut.follows.lender (with_want was c.args.want)).entries was
    (λ w. refl) c.self.invariant.0 found wrote.0 in
    let long = length-map rows (rewanted c.args.task.0 c.args.want) in
    let gone = copies_without c.args.task.0 rows was c.self.invariant.0.once found in
    let even = copies_rewanted c.args.task.0 c.args.want rows was c.self.invariant.0.once found in
    let fits = c.self.invariant.3 in
    rw now.rows (
      now.kept,
      c.self.invariant.1,
      lined_rewanted c.args.task.0 c.args.want rows old.queue.items c.self.invariant.2,
      record {
        rows = omega (arith, fits.rows, wrote.6);
        second = omega (arith, fits.second, long);
        queue = omega (arith, fits.queue, long);
        few = omega (arith, fits.few, long);
      },
      omega (arith, c.self.invariant.4, c.copy_count.ensures, c.copy_count-2.ensures, gone, even),
    )

pub returns : goal.returns
returns c =
    let old = c.self.inside in
    let rows = values_of old.rows.entries in
    let was = c.unwrap-row.result.now in
    let found : entry rows c.args.task.0 ≡ Some was = sym (looked_up c.args.task.0 old.rows.entries c.self.invariant.0) ∙ sym c.get_mut.ensures.value
    ∙ ap option_copied_mut c.unwrap-row.ensures in
    let wrote = c.get_mut.follows.holds (with_want was c.args.want) in
    let now = written c.args.task.0 (λ w. with_want w c.args.want) old.rows.entries (c.get_mut.follows.lender (with_want was c.args.want)).entries was
    (λ w. refl) c.self.invariant.0 found wrote.0 in
    rw (now.rows, ← c.self.view_is, found) record {
      rows = refl;
      entry = puts_rewanted c.args.task.0 c.args.want rows was found;
      again = counted_rewanted is_again c.args.task.0 c.args.want rows;
      queued = counted_rewanted is_frame c.args.task.0 c.args.want rows;
      queue = refl;
      room = refl;
    }
