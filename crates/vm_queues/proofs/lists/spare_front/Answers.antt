use Rattle.std.proofs.Common.{◌∙◌, length, sym, ap, arith}
use Rattle.vm_queues.specs.Kept.{FrameLists, all_frames, frame_lists, front_referenced_of, pages, pages_of, with_active}
use Rattle.vm_queues.specs.Queues.{is_skipped}
use Rattle.vm_queues.proofs.Moves.{none_first, frame_inside, inactive_first, none_except, spared_seen}
use Rattle.vm_queues.proofs.lists.spare_front.Goals as goal

pub take_off-requires-clause-there : goal.take_off-requires-clause-there
take_off-requires-clause-there c =
    inactive_first (frame_lists c.args.lists.now) c.in-Some.frame (sym c.requires.kept.inactive.first ∙ c.in-Some.is)

pub put_active-requires-clause-inside : goal.put_active-requires-clause-inside
put_active-requires-clause-inside c =
    let old = frame_lists c.args.lists.now in
    let there = inactive_first old c.in-Some.frame (sym c.requires.kept.inactive.first ∙ c.in-Some.is) in
    let marks = ap (λ (l : FrameLists). length l.marks) c.take_off.ensures.frames in
    omega (arith, marks, frame_inside old c.in-Some.frame.0 c.requires.kept.apart there)

pub put_active-requires-clause-absent : goal.put_active-requires-clause-absent
put_active-requires-clause-absent c =
    ap (λ (l : FrameLists). is_skipped (all_frames l) c.in-Some.frame.0) c.take_off.ensures.frames
    ∙ none_except (frame_lists c.args.lists.now) c.in-Some.frame.0

pub returns-in-Some-clause-spared : goal.returns-in-Some-clause-spared
returns-in-Some-clause-spared c =
    let old = frame_lists c.args.lists.now in
    ap pages_of (c.put_active.ensures.frames ∙ ap (with_active c.in-Some.frame) c.take_off.ensures.frames)
    ∙ spared_seen c.in-Some.frame old (sym c.requires.kept.inactive.first ∙ c.in-Some.is) c.requires.kept.apart

pub returns-in_default-clause-spared : goal.returns-in_default-clause-spared
returns-in_default-clause-spared c =
    let old = frame_lists c.args.lists.now in
    let none = none_first old.inactive (sym c.requires.kept.inactive.first ∙ c.in_default.is) in
    let wrong = sym (ap (λ z. front_referenced_of (pages old.marks z)) none) ∙ c.requires.some in
    absurd (cc)
