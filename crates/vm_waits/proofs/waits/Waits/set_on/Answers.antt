use Rattle.std.proofs.Common.{◌≡◌, ◌∙◌, Some, ap, refl, sym, arith}
use Rattle.std.proofs.lemmas.List.{length-map}
use Rattle.std.specs.Map.{values_of}
use Rattle.std.specs.Option.{option_copied_mut}
use Rattle.vm_waits.proofs.ByTask.{lendable, looked_up, written}
use Rattle.vm_waits.proofs.Copies.{copies_turned}
use Rattle.vm_waits.proofs.Rows.{counted_turned}
use Rattle.vm_waits.proofs.Tables.{lined_off, puts_turned}
use Rattle.vm_waits.specs.Waits.{entry, is_again, is_frame, one, turned, with_on}
use Rattle.vm_waits.proofs.waits.Waits.set_on.Goals as goal

pub unwrap-requires : goal.unwrap-requires
unwrap-requires c =
    lendable c.args.task.0 c.self.inside.rows.entries c.get_mut.result c.self.invariant.0 c.get_mut.ensures.value (rw (← c.self.view_is) at c.requires.there)

pub invariant_of-self : goal.invariant_of-self
invariant_of-self c =
    let old = c.self.inside in
    let rows = values_of old.rows.entries in
    let was = c.unwrap.result.now in
    let found : entry rows c.args.task.0 ≡ Some was = sym (looked_up c.args.task.0 old.rows.entries c.self.invariant.0) ∙ sym c.get_mut.ensures.value
    ∙ ap option_copied_mut c.unwrap.ensures in
    let wrote = c.get_mut.follows.holds (with_on was c.args.on) in
    let now = written c.args.task.0 (λ w. with_on w c.args.on) old.rows.entries (c.get_mut.follows.lender (with_on was c.args.on)).entries was (λ w. refl)
    c.self.invariant.0 found wrote.0 in
    let long = length-map rows (turned c.args.task.0 c.args.on) in
    let fits = c.self.invariant.3 in
    rw (now.rows, c.take_off.ensures.tasks) (
      now.kept,
      c.self.invariant.1,
      lined_off c.args.task.0 c.args.on rows old.queue.items was c.self.invariant.2 c.self.invariant.0.once found c.requires.other,
      record {
        rows = omega (arith, fits.rows, wrote.6);
        second = omega (arith, fits.second, long);
        queue = omega (arith, fits.queue, long, c.take_off.ensures.capacity);
        few = omega (arith, fits.few, long);
      },
      c.self.invariant.4 ∙ sym (copies_turned c.args.task.0 c.args.on rows),
    )

pub returns : goal.returns
returns c =
    let old = c.self.inside in
    let rows = values_of old.rows.entries in
    let was = c.unwrap.result.now in
    let found : entry rows c.args.task.0 ≡ Some was = sym (looked_up c.args.task.0 old.rows.entries c.self.invariant.0) ∙ sym c.get_mut.ensures.value
    ∙ ap option_copied_mut c.unwrap.ensures in
    let wrote = c.get_mut.follows.holds (with_on was c.args.on) in
    let now = written c.args.task.0 (λ w. with_on w c.args.on) old.rows.entries (c.get_mut.follows.lender (with_on was c.args.on)).entries was (λ w. refl)
    c.self.invariant.0 found wrote.0 in
    rw (now.rows, ← c.self.view_is, found) record {
      rows = refl;
      entry = puts_turned c.args.task.0 c.args.on rows was found;
      again = counted_turned is_again c.args.task.0 c.args.on rows was c.self.invariant.0.once found;
      queued =
          let none = ap one c.requires.other in omega (arith, none, counted_turned is_frame c.args.task.0 c.args.on rows was c.self.invariant.0.once found);
      queue = c.take_off.ensures.tasks;
      room = refl;
    }
