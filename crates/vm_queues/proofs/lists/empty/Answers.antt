use Rattle.std.proofs.Common.{◌≡◌, [], false, replicate, ◌∙◌, ap}
use Rattle.std.proofs.lemmas.List.{length-replicate}
use Rattle.vm_queues.specs.Kept.{FrameLists, pages_of}
use Rattle.vm_queues.specs.Links.{neither_link}
use Rattle.vm_queues.specs.declared.link.Link.{Link}
use Rattle.vm_queues.specs.declared.lists.Lists.{Lists}
use Rattle.vm_queues.proofs.Linking.{are_lists, empty_lists, lists_are}
use Rattle.vm_queues.proofs.lists.empty.Goals as goal

pub returns : goal.returns
returns c =
    let new : Lists = record { links = c.in_ok-links.links; marks = c.in_ok-marks.marks; active = c.no_ends.result; inactive = c.no_ends-2.result } in
    let n = c.args.frames in
    let links : new.links.items ≡ replicate n neither_link = c.in_ok-links.ensures.items_if_clones_equal (λ y same. same)
    ∙ ap (λ (l : Link). replicate n l) c.neither.ensures in
    let marks : new.marks.items ≡ replicate n false = c.in_ok-marks.ensures.items_if_clones_equal (λ y same. same) in
    let frames : FrameLists = record { active = []; inactive = []; marks = replicate n false } in
    let are = empty_lists n new c.ranges.frames.fits links marks c.no_ends.ensures c.no_ends-2.ensures in
    let many : pages_of frames ≡ record { active = []; inactive = []; frames = n } = ap (λ m. record { active = []; inactive = []; frames = m })
    (length-replicate n false) in
    record { kept = are_lists new frames are; seen = ap pages_of (lists_are new frames are) ∙ many }
