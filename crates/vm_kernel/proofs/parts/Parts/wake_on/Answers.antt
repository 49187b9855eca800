use Rattle.std.proofs.Common.{ap, refl, subst, sym}
use Rattle.std.specs.Prelude.{IsSome, ◌+◌, ◌≡◌}
use Rattle.vm_kernel.proofs.controls.AccessesWoken.{Stands, oldest_stands, wakes_all, wakes_fewer, wakes_more}
use Rattle.vm_kernel.proofs.space.RegionEnds.{if_some}
use Rattle.vm_kernel.specs.Destroying.{WakesOn}
use Rattle.vm_kernel.specs.declared.parts.Parts.{Parts}
use Rattle.vm_maps.specs.Maps.{Mapped}
use Rattle.vm_waits.specs.Waits.{count_again, entry, one_again}
use Rattle.vm_kernel.proofs.parts.Parts.wake_on.Goals as goal
use Rattle.vm_kernel.proofs.parts.Parts.wake_on.Goals.at
use Rattle.vm_kernel.proofs.parts.Parts.wake_on.Goals.{In-Some}

-- the oldest that stands there
stands : (c : In-Some) → Stands c.all.self.maps c.args.object.0 c.all.self.waits.rows c.in-Some.waiting
stands c =
    oldest_stands c.all.self.maps c.args.object.0 c.all.self.waits.rows c.in-Some.waiting c.in-Some.ensures.once (sym c.in-Some.ensures.oldest)

pub set_on-requires-clause-there : goal.set_on-requires-clause-there
set_on-requires-clause-there c = subst IsSome (sym (stands (at.set_on-requires-clause-there c).In-Some).is) refl

pub all-smaller : goal.all-smaller
all-smaller c =
    let it = stands (at.all-smaller c).In-Some in
    wakes_fewer c.all.self.waits.rows c.in-Some.waiting c.set_on.new.self.rows it.waits c.set_on.ensures.rows
    (if_some (entry c.all.self.waits.rows c.in-Some.waiting.task.0)
    (λ was. count_again c.set_on.new.self.rows + one_again was.on ≡ count_again c.all.self.waits.rows + 1) c.in-Some.waiting it.is c.set_on.ensures.again)

pub all-preserved : goal.all-preserved
all-preserved c =
    record {
      some =
          wakes_more c.all.self.maps c.args.object.0 c.args.self.now.waits c.all.self.waits c.set_on.new.self c.in-Some.waiting c.all.invariant.some
          c.in-Some.ensures.once (sym c.in-Some.ensures.oldest) c.set_on.ensures.rows c.set_on.ensures.queue c.set_on.ensures.room;
      same = ap (λ (z : Parts). record z { waits = c.set_on.new.self }) c.all.invariant.same;
    }

pub returns-clause-wakes : goal.returns-clause-wakes
returns-clause-wakes c =
    subst (λ (z : Mapped). WakesOn z c.args.object.0 c.args.self.now.waits c.all.self.waits) (ap (λ (z : Parts). z.maps) c.all.invariant.same)
    (wakes_all c.all.self.maps c.args.object.0 c.args.self.now.waits c.all.self.waits c.all.invariant.some (sym c.in_default.ensures.oldest)
    c.in_default.ensures.line)
