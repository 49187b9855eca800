use Rattle.std.proofs.Common.{◌<◌, ◌∙◌, ap, arith}
use Rattle.std.proofs.lemmas.List.{length-map}
use Rattle.vm_queues.specs.Kept.{frame_lists, page_lists, queued_page}
use Rattle.vm_queues.specs.Queues.{balanced, shortage}
use Rattle.vm_queues.proofs.Balance.{balanced_one}
use Rattle.vm_queues.proofs.Moves.{all_fit}
use Rattle.vm_queues.proofs.lists.balance.Goals as goal

pub overflow_mul-lists : goal.overflow_mul-lists
overflow_mul-lists c =
    let kept = c.balance.invariant.kept in
    omega (arith, all_fit (frame_lists c.balance.lists) kept.apart, kept.few, kept.active.count, kept.inactive.count)

pub overflow_add-lists : goal.overflow_add-lists
overflow_add-lists c =
    let kept = c.balance.invariant.kept in
    omega (arith, all_fit (frame_lists c.balance.lists) kept.apart, kept.few, kept.active.count, kept.inactive.count)

pub balance-preserved : goal.balance-preserved
balance-preserved c =
    let kept = c.balance.invariant.kept in
    let frames = frame_lists c.balance.lists in
    let active = length-map frames.active (queued_page frames.marks) in
    let inactive = length-map frames.inactive (queued_page frames.marks) in
    let some : 0 < shortage (page_lists c.balance.lists) = omega (arith, active, inactive, c.balance-test.true, kept.active.count, kept.inactive.count) in
    record {
      kept = c.age.ensures.kept;
      balanced = ap balanced c.age.ensures.moved ∙ balanced_one (page_lists c.balance.lists) some ∙ c.balance.invariant.balanced;
    }
