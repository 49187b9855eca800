use Rattle.std.proofs.Common.{◌≡◌, ◌∙◌, List, length, sym, ap, subst, refl}
use Rattle.vm_queues.specs.Kept.{frame_lists, pages_of}
use Rattle.vm_queues.specs.Links.{along, first_frame, frames_of, link_among, link_in, link_of}
use Rattle.vm_queues.specs.Queues.{Queues}
use Rattle.vm_queues.specs.declared.link.Link.{Link}
use Rattle.vm_queues.specs.declared.lists.Lists.{Lists}
use Rattle.vm_queues.proofs.Linking.{frames_back, walked_back}
use Rattle.vm_queues.proofs.queues.PageQueues.links.Goals as goal

pub returns-clause-links : goal.returns-clause-links
returns-clause-links c = λ f.
    let lists : Lists = c.self.inside.lists in
    let frames = frame_lists lists in
    ap (λ (z : List Link). link_of z f) c.deref.ensures.value
    ∙ c.self.invariant.links f
    ∙ ap (λ z. link_among z frames.active f) (sym (frames_back frames.marks frames.inactive))
    ∙ ap (λ z. link_among (frames_of (pages_of frames).inactive) z f) (sym (frames_back frames.marks frames.active))
    ∙ ap (λ (q : Queues). link_in q f) c.self.view_is

pub returns-clause-active : goal.returns-clause-active
returns-clause-active c =
    let lists : Lists = c.self.inside.lists in
    let walk = walked_back lists.links.items c.deref.result.now lists.active (frame_lists lists).marks (frame_lists lists).active c.deref.ensures.value
    c.self.invariant.active refl in
    subst (λ (q : Queues). along (link_of c.deref.result.now) (length q.active) (first_frame (frames_of q.active)) ≡ frames_of q.active) c.self.view_is walk

pub returns-clause-inactive : goal.returns-clause-inactive
returns-clause-inactive c =
    let lists : Lists = c.self.inside.lists in
    let walk = walked_back lists.links.items c.deref.result.now lists.inactive (frame_lists lists).marks (frame_lists lists).inactive c.deref.ensures.value
    c.self.invariant.inactive refl in
    subst (λ (q : Queues). along (link_of c.deref.result.now) (length q.inactive) (first_frame (frames_of q.inactive)) ≡ frames_of q.inactive) c.self.view_is
    walk
