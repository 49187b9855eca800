use Rattle.std.proofs.Common.{sym, ap, ◌∙◌, arith}
use Rattle.vm_queues.specs.Kept.{frame_lists, front_referenced_of, pages}
use Rattle.vm_queues.specs.declared.lists.Lists.{Lists}
use Rattle.vm_queues.proofs.Moves.{none_first, frame_inside, front_read, inactive_first}
use Rattle.vm_queues.proofs.lists.is_front_referenced.Goals as goal

pub index-requires : goal.index-requires
index-requires c =
    let lists : Lists = c.args.lists.now in
    let frames = frame_lists lists in
    omega (
      arith,
      frame_inside frames c.in-Some.frame.0 c.requires.apart (inactive_first frames c.in-Some.frame (sym c.requires.inactive.first ∙ c.in-Some.is)),
      lists.marks.ok.0,
    )

pub returns-in-Some : goal.returns-in-Some
returns-in-Some c =
    let lists : Lists = c.args.lists.now in
    let frames = frame_lists lists in
    let first = sym c.requires.inactive.first ∙ c.in-Some.is in
    front_read frames.marks frames.inactive c.in-Some.frame c.index.result.now first
    (frame_inside frames c.in-Some.frame.0 c.requires.apart (inactive_first frames c.in-Some.frame first)) c.index.ensures

pub returns-in-None : goal.returns-in-None
returns-in-None c =
    let frames = frame_lists c.args.lists.now in
    ap (λ z. front_referenced_of (pages frames.marks z)) (sym (none_first frames.inactive (sym c.requires.inactive.first ∙ c.in-None.is)))
