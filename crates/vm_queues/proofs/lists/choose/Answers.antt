use Rattle.std.proofs.Common.{◌∙◌, List, length, sym, ap, subst}
use Rattle.vm_queues.specs.Kept.{FramesAreApart, frame_lists, frames_on, pages}
use Rattle.vm_queues.specs.Queues.{first_left}
use Rattle.vm_queues.specs.declared.link.Link.{Link}
use Rattle.vm_queues.specs.declared.lists.Lists.{Lists}
use Rattle.vm_queues.proofs.Apart.{apart_left, apart_right}
use Rattle.vm_queues.proofs.Balance.{first_none, first_some}
use Rattle.vm_queues.proofs.lists.choose.Goals as goal

pub first_left-requires : goal.first_left-requires
first_left-requires g c =
    let lists : Lists = c.args.lists.now in
    let frames = frame_lists lists in
    subst (λ (z : List Link). FramesAreApart (length z) (frames_on z lists.inactive)) (sym c.deref.ensures.value)
    (subst (λ n. FramesAreApart n frames.inactive) (sym c.requires.count) (apart_left _ frames.inactive frames.active c.requires.apart))

pub first_left-requires-in-None : goal.first_left-requires-in-None
first_left-requires-in-None g c =
    let lists : Lists = c.args.lists.now in
    let frames = frame_lists lists in
    subst (λ (z : List Link). FramesAreApart (length z) (frames_on z lists.active)) (sym c.deref-in-None.ensures.value)
    (subst (λ n. FramesAreApart n frames.active) (sym c.requires.count) (apart_right _ frames.inactive frames.active c.requires.apart))

pub returns-in-Some : goal.returns-in-Some
returns-in-Some g c =
    let lists : Lists = c.args.lists.now in
    let marks = lists.marks.items in
    let seen = ap (λ (z : List Link). first_left (g.S.Spares.spares c.args.spared.now) (pages marks (frames_on z lists.inactive))) c.deref.ensures.value in
    sym (first_some (g.S.Spares.spares c.args.spared.now) (pages marks (frame_lists lists).inactive) (pages marks (frame_lists lists).active) c.in-Some.frame
    (sym seen ∙ sym (c.first_left.ensures marks) ∙ c.in-Some.is))

pub returns-in-None : goal.returns-in-None
returns-in-None g c =
    let lists : Lists = c.args.lists.now in
    let marks = lists.marks.items in
    let front = ap (λ (z : List Link). first_left (g.S.Spares.spares c.args.spared.now) (pages marks (frames_on z lists.inactive))) c.deref.ensures.value in
    let seen = ap (λ (z : List Link). first_left (g.S.Spares.spares c.args.spared.now) (pages marks (frames_on z lists.active))) c.deref-in-None.ensures.value in
    c.first_left-in-None.ensures marks ∙ seen
    ∙ sym (first_none (g.S.Spares.spares c.args.spared.now) (pages marks (frame_lists lists).inactive) (pages marks (frame_lists lists).active)
    (sym front ∙ sym (c.first_left.ensures marks) ∙ c.in-None.is))
