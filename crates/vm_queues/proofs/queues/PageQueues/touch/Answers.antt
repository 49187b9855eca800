use Rattle.std.proofs.Common.{◌≡◌, ◌∙◌, true, refl, sym, ap, arith}
use Rattle.std.specs.Vec.{with_item}
use Rattle.vm_queues.specs.Kept.{all_frames, frame_lists, page_lists}
use Rattle.vm_queues.specs.Queues.{Queues, is_queued, is_skipped, with_reference}
use Rattle.vm_queues.specs.declared.lists.Lists.{Lists}
use Rattle.vm_queues.proofs.Linking.{are_lists, marked_lists}
use Rattle.vm_queues.proofs.Moves.{frame_inside, queued_is, touched_seen}
use Rattle.vm_queues.proofs.Queued.{queued_touched}
use Rattle.vm_queues.proofs.queues.PageQueues.touch.Goals as goal

pub index_mut-requires : goal.index_mut-requires
index_mut-requires c =
    let lists : Lists = c.self.inside.lists in
    let there : is_skipped (all_frames (frame_lists lists)) c.args.f.0 ≡ true = sym (queued_is (frame_lists lists) c.args.f.0)
    ∙ ap (λ (q : Queues). is_queued q c.args.f.0) c.self.view_is ∙ c.requires in
    omega (arith, frame_inside (frame_lists lists) c.args.f.0 c.self.invariant.apart there, lists.marks.ok.0)

pub invariant_of-self : goal.invariant_of-self
invariant_of-self c =
    let lists : Lists = c.self.inside.lists in
    let new : Lists = record { links = lists.links; marks = with_item lists.marks c.args.f.0 true; active = lists.active; inactive = lists.inactive } in
    are_lists new _ (marked_lists c.args.f.0 true lists new (frame_lists lists) c.self.invariant refl refl refl refl)

pub returns : goal.returns
returns c =
    let lists : Lists = c.self.inside.lists in
    let new : Lists = record { links = lists.links; marks = with_item lists.marks c.args.f.0 true; active = lists.active; inactive = lists.inactive } in
    let there : is_skipped (all_frames (frame_lists lists)) c.args.f.0 ≡ true = sym (queued_is (frame_lists lists) c.args.f.0)
    ∙ ap (λ (q : Queues). is_queued q c.args.f.0) c.self.view_is ∙ c.requires in
    let is = touched_seen c.args.f.0 (frame_lists lists) (frame_inside (frame_lists lists) c.args.f.0 c.self.invariant.apart there)
    ∙ ap (with_reference c.args.f.0) c.self.view_is in
    record { queues = is; pages = queued_touched c.args.f.0 c.args.self.now (page_lists new) is }
