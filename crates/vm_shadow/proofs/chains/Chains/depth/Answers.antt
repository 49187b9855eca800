use Rattle.std.proofs.Common.{◌≡◌, ◌+◌, sym, refl, Some, arith}
use Rattle.vm_shadow.proofs.Tables.{deep_over, row_told}
use Rattle.vm_shadow.specs.Chains.{Last, region_at}
use Rattle.vm_shadow.proofs.chains.Chains.depth.Goals as goal

pub overflow_add-depth : goal.overflow_add-depth
overflow_add-depth c =
    let few = c.in-Some.ensures.few c.index.result.now.top.0 in
    omega (arith, few, c.down.invariant.0, c.in-Some.ensures.falls)

pub down-preserved : goal.down-preserved
down-preserved c = (
  omega (arith, c.down.invariant.0, c.in-Some.ensures.falls),
  λ n whole deep count. c.down.invariant.1 (n + 1) whole (deep_over _ _ _ n (sym c.in-Some.ensures.value) deep) (omega (arith, count)),
)

pub returns : goal.returns
returns c =
    let is : region_at c.args.self.now c.args.region.0 ≡ Some c.index.result.now = rw (← c.self.view_is) c.index.ensures in
    row_told _ _ _ is (c.down.invariant.1 1 c.down.depth (Last c.down.object.0 (sym c.in_default.ensures.value)) refl)
