use Rattle.std.proofs.Common.{List, ap, map, subst, sym, ◌<◌, ◌∙◌}
use Rattle.vm_kernel.proofs.controls.UnlockWaiters.{IsOldest, count_less, map_twice, none_passes, oldest_is}
use Rattle.vm_kernel.specs.Taking.{is_unlocked}
use Rattle.vm_waits.specs.Waits.{count_rows, woken}
use Rattle.vm_waits.specs.declared.waiting.Waiting.{Waiting}
use Rattle.vm_kernel.proofs.obeying.wake_unlocked.Goals as goal

-- the oldest that waits
oldest : (c : goal.After-wake_page) → IsOldest c.args.resident.now c.args.object.0 c.args.page.0 c.args.count c.all.waits.rows c.in-Some.key
oldest c = oldest_is c.args.resident.now c.args.object.0 c.args.page.0 c.args.count c.all.waits.rows c.in-Some.key c.in-Some.ensures

pub all-smaller : goal.all-smaller
all-smaller c =
    let test = is_unlocked c.args.resident.now c.args.object.0 c.args.page.0 c.args.count in
    let it = oldest c in
    subst (λ (z : List Waiting). count_rows test z < count_rows test c.all.waits.rows) (sym c.wake_page.ensures.rows)
    (count_less test c.in-Some.key it.of c.all.waits.rows it.row it.is it.waits)

pub all-preserved : goal.all-preserved
all-preserved c =
    let test = is_unlocked c.args.resident.now c.args.object.0 c.args.page.0 c.args.count in (
      ap (map (woken test)) c.wake_page.ensures.rows ∙ (map_twice test c.in-Some.key (oldest c).of c.all.waits.rows ∙ c.all.invariant.0),
      c.wake_page.ensures.queue ∙ c.all.invariant.1,
    )

pub returns-clause-rows : goal.returns-clause-rows
returns-clause-rows c =
    sym (none_passes c.args.resident.now c.args.object.0 c.args.page.0 c.args.count c.all.waits.rows c.in_default.ensures) ∙ c.all.invariant.0
