use Rattle.std.proofs.Common.{◌∙◌, length, sym, ap, arith}
use Rattle.vm_queues.specs.Kept.{FrameLists, all_frames, frame_lists, pages_of, with_inactive}
use Rattle.vm_queues.specs.Queues.{is_skipped}
use Rattle.vm_queues.proofs.Moves.{active_first, aged_seen, none_first, frame_inside, none_except}
use Rattle.vm_queues.proofs.lists.age.Goals as goal

pub take_off-requires-clause-there : goal.take_off-requires-clause-there
take_off-requires-clause-there c =
    active_first (frame_lists c.args.lists.now) c.in-Some.frame (sym c.requires.kept.active.first ∙ c.in-Some.is)

pub put_inactive-requires-clause-inside : goal.put_inactive-requires-clause-inside
put_inactive-requires-clause-inside c =
    let old = frame_lists c.args.lists.now in
    let there = active_first old c.in-Some.frame (sym c.requires.kept.active.first ∙ c.in-Some.is) in
    let marks = ap (λ (l : FrameLists). length l.marks) c.take_off.ensures.frames in
    omega (arith, marks, frame_inside old c.in-Some.frame.0 c.requires.kept.apart there)

pub put_inactive-requires-clause-absent : goal.put_inactive-requires-clause-absent
put_inactive-requires-clause-absent c =
    ap (λ (l : FrameLists). is_skipped (all_frames l) c.in-Some.frame.0) c.take_off.ensures.frames
    ∙ none_except (frame_lists c.args.lists.now) c.in-Some.frame.0

pub returns-in-Some-clause-moved : goal.returns-in-Some-clause-moved
returns-in-Some-clause-moved c =
    let old = frame_lists c.args.lists.now in
    ap pages_of (c.put_inactive.ensures.frames ∙ ap (with_inactive c.in-Some.frame) c.take_off.ensures.frames)
    ∙ aged_seen c.in-Some.frame old (sym c.requires.kept.active.first ∙ c.in-Some.is) c.requires.kept.apart

pub returns-in_default-clause-moved : goal.returns-in_default-clause-moved
returns-in_default-clause-moved c =
    let none = none_first (frame_lists c.args.lists.now).active (sym c.requires.kept.active.first ∙ c.in_default.is) in
    absurd (omega (arith, c.requires.some, c.requires.kept.active.count, ap length none))
