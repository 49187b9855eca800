use Rattle.std.proofs.Common.{◌∙◌, ap, sym}
use Rattle.vm_queues.specs.Kept.{frame_lists, page_lists, pages_of}
use Rattle.vm_queues.specs.Queues.{Queues, is_queued, queues_except}
use Rattle.vm_queues.proofs.Moves.{dropped_seen, queued_is}
use Rattle.vm_queues.proofs.Queued.{queued_removed}
use Rattle.vm_queues.proofs.queues.PageQueues.remove.Goals as goal

pub take_off-requires-clause-there : goal.take_off-requires-clause-there
take_off-requires-clause-there c =
    sym (queued_is (frame_lists c.self.inside.lists) c.args.f.0) ∙ ap (λ (q : Queues). is_queued q c.args.f.0) c.self.view_is ∙ c.requires

pub returns : goal.returns
returns c =
    let lists = c.self.inside.lists in
    let is = ap pages_of c.take_off.ensures.frames ∙ dropped_seen c.args.f.0 (frame_lists lists) ∙ ap (queues_except c.args.f.0) c.self.view_is in
    record { queues = is; pages = queued_removed c.args.f.0 c.args.self.now (page_lists c.take_off.new.lists) is }
