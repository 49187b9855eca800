use Rattle.std.proofs.Common.{arith, length-append}
use Rattle.vm_queues.proofs.Apart.{apart_fits}
use Rattle.vm_queues.specs.Kept.{all_frames, frame_lists}
use Rattle.vm_queues.proofs.queues.PageQueues.count.Goals as goal

pub overflow_add-result : goal.overflow_add-result
overflow_add-result c =
    let lists = frame_lists c.self.inside.lists in
    let few = apart_fits _ (all_frames lists) c.self.invariant.apart in
    omega (arith, few, length-append lists.inactive lists.active, c.self.invariant.active.count, c.self.invariant.inactive.count, c.self.invariant.few)
