use Rattle.vm_kernel.proofs.Common.{List, None, On, Option, Some, Waiting, ap, false, refl, subst, sym, true, waits_for_frame, ◌<◌, ◌∙◌, ◌≡◌}
use Rattle.std.specs.Prelude.{is_some, map}
use Rattle.vm_kernel.proofs.steps.PushersFreed.{map_turned, none_turns, oldest_alone, oldest_entry, turned_fewer}
use Rattle.vm_base.specs.declared.ids.ObjectId.{ObjectId}
use Rattle.vm_kernel.specs.Freeing.{pushes_into}
use Rattle.vm_waits.proofs.Lines.{same_others}
use Rattle.vm_waits.specs.Waits.{count_rows, is_frame, woken}
use Rattle.vm_waits.specs.declared.waiting.On.TheVariants as on
use Rattle.vm_kernel.proofs.freeing.free_each.Goals as goal

-- whoever is freed waits for no frame
freed_not_queued : (copy : Option ObjectId) (reason : On) → pushes_into copy reason ≡ true → is_frame reason ≡ false
freed_not_queued copy on.Again is = refl
freed_not_queued copy (on.Ready object) is = refl
freed_not_queued copy (on.Page key) is = refl
freed_not_queued copy (on.Push key) is = refl
freed_not_queued None on.Frame is = absurd (let bad : false ≡ true = is in cc)
freed_not_queued (Some copy) on.Frame is = absurd (let bad : false ≡ true = is in cc)

again_asleep : (copy : Option ObjectId) → pushes_into copy on.Again ≡ false
again_asleep None = refl
again_asleep (Some copy) = refl

pub set_on-requires-clause-there : goal.set_on-requires-clause-there
set_on-requires-clause-there c =
    let test = pushes_into c.args.copy in
    ap is_some (oldest_entry test c.all.waits.rows c.in-Some.waiting c.in-Some.ensures.once (sym c.in-Some.ensures.oldest)).0

pub all-smaller : goal.all-smaller
all-smaller c =
    let test = pushes_into c.args.copy in
    subst (λ (z : List Waiting). count_rows test z < count_rows test c.all.waits.rows) (sym c.set_on.ensures.rows)
    (turned_fewer test c.all.waits.rows c.in-Some.waiting (again_asleep c.args.copy) (sym c.in-Some.ensures.oldest))

pub all-preserved : goal.all-preserved
all-preserved c =
    let test = pushes_into c.args.copy in
    let w = c.in-Some.waiting in
    let its = oldest_entry test c.all.waits.rows w c.in-Some.ensures.once (sym c.in-Some.ensures.oldest) in
    let all = oldest_alone test c.all.waits.rows w c.in-Some.ensures.once (sym c.in-Some.ensures.oldest) in
    record {
      rows = ap (map (woken test)) c.set_on.ensures.rows ∙ (map_turned test w.task.0 c.all.waits.rows (again_asleep c.args.copy) all ∙ c.all.invariant.rows);
      queue = c.set_on.ensures.queue
          ∙ (same_others w.task.0 c.all.waits.queue (c.in-Some.ensures.queue w.task.0 ∙ (ap waits_for_frame its.0
          ∙ freed_not_queued c.args.copy w.on its.1)) ∙ c.all.invariant.queue);
      room = c.set_on.ensures.room ∙ c.all.invariant.room;
    }

pub returns-clause-rows : goal.returns-clause-rows
returns-clause-rows c =
    let test = pushes_into c.args.copy in
    sym (none_turns test c.all.waits.rows (sym c.in_default.ensures.oldest)) ∙ c.all.invariant.rows
