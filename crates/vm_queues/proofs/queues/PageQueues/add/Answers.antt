use Rattle.std.proofs.Common.{◌≡◌, ◌∙◌, ◌<◌, false, length, sym, ap}
use Rattle.vm_queues.specs.Kept.{all_frames, frame_lists, page_lists, pages_of}
use Rattle.vm_queues.specs.Queues.{Queues, added, is_queued, is_skipped}
use Rattle.vm_queues.proofs.Moves.{added_seen, queued_is}
use Rattle.vm_queues.proofs.Queued.{queued_added}
use Rattle.vm_queues.proofs.queues.PageQueues.add.Goals as goal

pub put_active-requires-clause-inside : goal.put_active-requires-clause-inside
put_active-requires-clause-inside c = rw (ap (λ (q : Queues). q.frames) c.self.view_is) c.requires.inside

pub put_active-requires-clause-absent : goal.put_active-requires-clause-absent
put_active-requires-clause-absent c =
    sym (queued_is (frame_lists c.self.inside.lists) c.args.f.0) ∙ ap (λ (q : Queues). is_queued q c.args.f.0) c.self.view_is ∙ c.requires.absent

pub returns : goal.returns
returns c =
    let lists = c.self.inside.lists in
    let inside : c.args.f.0 < length lists.marks.items = rw (ap (λ (q : Queues). q.frames) c.self.view_is) c.requires.inside in
    let none : is_skipped (all_frames (frame_lists lists)) c.args.f.0 ≡ false = sym (queued_is (frame_lists lists) c.args.f.0)
    ∙ ap (λ (q : Queues). is_queued q c.args.f.0) c.self.view_is ∙ c.requires.absent in
    let is = ap pages_of c.put_active.ensures.frames ∙ added_seen c.args.f (frame_lists lists) inside none ∙ ap (added c.args.f.0) c.self.view_is in
    record { queues = is; pages = queued_added c.args.f.0 c.args.self.now (page_lists c.put_active.new.lists) is }
