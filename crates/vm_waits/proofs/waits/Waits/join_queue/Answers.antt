use Rattle.std.proofs.Common.{◌≡◌, ◌++◌, ◌∷◌, [], ◌∙◌, Some, false, ap, refl, subst, sym, map, arith}
use Rattle.std.proofs.lemmas.List.{length-map}
use Rattle.std.specs.Map.{values_of}
use Rattle.std.specs.Option.{option_copied_mut}
use Rattle.std.specs.Prelude.{IsSome, IsSomeAnd}
use Rattle.vm_waits.proofs.ByTask.{lendable, looked_up, written}
use Rattle.vm_waits.proofs.Copies.{copies_turned}
use Rattle.vm_waits.proofs.Rows.{counted_turned, counted_within}
use Rattle.vm_waits.proofs.Tables.{is_there, lined_on, puts_turned}
use Rattle.vm_waits.specs.Waits.{entry, is_again, is_frame, one, turned, with_on}
use Rattle.vm_waits.specs.declared.waiting.On.TheVariants as on
use Rattle.vm_waits.proofs.waits.Waits.join_queue.Goals as goal

pub unwrap-requires : goal.unwrap-requires
unwrap-requires c =
    let some : IsSome (entry c.args.self.now.rows c.args.task.0) = is_there (entry c.args.self.now.rows c.args.task.0) (λ w. is_frame w.on ≡ false)
    c.requires in
    lendable c.args.task.0 c.self.inside.rows.entries c.get_mut.result c.self.invariant.0 c.get_mut.ensures.value (rw (← c.self.view_is) at some)

pub invariant_of-self : goal.invariant_of-self
invariant_of-self c =
    let old = c.self.inside in
    let rows = values_of old.rows.entries in
    let was = c.unwrap.result.now in
    let found : entry rows c.args.task.0 ≡ Some was = sym (looked_up c.args.task.0 old.rows.entries c.self.invariant.0) ∙ sym c.get_mut.ensures.value
    ∙ ap option_copied_mut c.unwrap.ensures in
    let other : is_frame was.on ≡ false = subst (λ x. IsSomeAnd x (λ w. is_frame w.on ≡ false)) found (rw (← c.self.view_is) at c.requires) in
    let wrote = c.get_mut.follows.holds (with_on was on.Frame) in
    let now = written c.args.task.0 (λ w. with_on w on.Frame) old.rows.entries (c.get_mut.follows.lender (with_on was on.Frame)).entries was (λ w. refl)
    c.self.invariant.0 found wrote.0 in
    let long = length-map rows (turned c.args.task.0 on.Frame) in
    let count = counted_turned is_frame c.args.task.0 on.Frame rows was c.self.invariant.0.once found in
    let most = counted_within is_frame (map (turned c.args.task.0 on.Frame) rows) in
    let none = ap one other in
    let fits = c.self.invariant.3 in
    let queue : c.push.new.self.items ≡ old.queue.items ++ c.args.task ∷ [] = rw (c.push.ensures.succeeds
    (omega (arith, fits.queue, long, count, most, none, c.self.invariant.2.even, old.queue.ok.0))) at c.push.ensures.items in
    rw (now.rows, queue) (
      now.kept,
      c.self.invariant.1,
      lined_on c.args.task rows old.queue.items was c.self.invariant.2 c.self.invariant.0.once found other,
      record {
        rows = omega (arith, fits.rows, wrote.6);
        second = omega (arith, fits.second, long);
        queue = omega (arith, fits.queue, long, c.push.ensures.capacity);
        few = omega (arith, fits.few, long);
      },
      c.self.invariant.4 ∙ sym (copies_turned c.args.task.0 on.Frame rows),
    )

pub returns : goal.returns
returns c =
    let old = c.self.inside in
    let rows = values_of old.rows.entries in
    let was = c.unwrap.result.now in
    let found : entry rows c.args.task.0 ≡ Some was = sym (looked_up c.args.task.0 old.rows.entries c.self.invariant.0) ∙ sym c.get_mut.ensures.value
    ∙ ap option_copied_mut c.unwrap.ensures in
    let other : is_frame was.on ≡ false = subst (λ x. IsSomeAnd x (λ w. is_frame w.on ≡ false)) found (rw (← c.self.view_is) at c.requires) in
    let wrote = c.get_mut.follows.holds (with_on was on.Frame) in
    let now = written c.args.task.0 (λ w. with_on w on.Frame) old.rows.entries (c.get_mut.follows.lender (with_on was on.Frame)).entries was (λ w. refl)
    c.self.invariant.0 found wrote.0 in
    let long = length-map rows (turned c.args.task.0 on.Frame) in
    let count = counted_turned is_frame c.args.task.0 on.Frame rows was c.self.invariant.0.once found in
    let most = counted_within is_frame (map (turned c.args.task.0 on.Frame) rows) in
    let none = ap one other in
    let queue : c.push.new.self.items ≡ old.queue.items ++ c.args.task ∷ [] = rw (c.push.ensures.succeeds
    (omega (arith, c.self.invariant.3.queue, long, count, most, none, c.self.invariant.2.even, old.queue.ok.0))) at c.push.ensures.items in
    rw (now.rows, ← c.self.view_is, found) record {
      rows = refl;
      entry = puts_turned c.args.task.0 on.Frame rows was found;
      again = omega (arith, counted_turned is_again c.args.task.0 on.Frame rows was c.self.invariant.0.once found);
      queued = omega (arith, none, count);
      queue = queue;
      room = refl;
    }
