use Rattle.std.proofs.Common.{◌++◌, subst}
use Rattle.std.proofs.lemmas.List.{map-append}
use Rattle.vm_queues.specs.Kept.{all_frames, frame_lists, queued_page}
use Rattle.vm_queues.specs.Queues.{EachOnce, Queues}
use Rattle.vm_queues.proofs.Apart.{pages_once}
use Rattle.vm_queues.proofs.queues.PageQueues.stand_once.Goals as goal

pub returns : goal.returns
returns c =
    let frames = frame_lists c.self.inside.lists in
    subst (λ (q : Queues). EachOnce (q.inactive ++ q.active)) c.self.view_is
    (subst EachOnce (map-append (queued_page frames.marks) frames.inactive frames.active)
    (pages_once _ frames.marks (all_frames frames) c.self.invariant.apart))
