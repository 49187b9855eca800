use Rattle.std.proofs.Common.{false, true, ap, sym, ◌∙◌, refl}
use Rattle.vm_frames.specs.Frames.{page_in}
use Rattle.vm_frames.specs.Lending.{with_page}
use Rattle.vm_parts.specs.Changes.{clean_row, unlocked}
use Rattle.vm_parts.proofs.Changing.{claimed_for, holds}
use Rattle.vm_parts.proofs.Fitting.{fit_changed}
use Rattle.vm_parts.proofs.parts.HostParts.raise.Goals as goal

pub returns-clause-fit : goal.returns-clause-fit
returns-clause-fit c =
    let k = c.args.self.now in
    let fit = c.requires.fit in
    let source = c.in-Some.source in
    let frame = c.in-Some-claim.frame in
    let claims = c.in-Some-claim.ensures in
    let has = holds k _ _ source fit (sym c.get.ensures ∙ c.in-Some.is) in
    let frames = c.copy.ensures ∙ ap (λ z. with_page c.claim.new.self frame.0 (page_in z source.frame.0)) claims.is in
    fit_changed c.args.key frame _ _ _ _ _ k _ fit
    (claimed_for c.args.key frame (record (clean_row frame unlocked false) { dirty = true }) (page_in k.frames source.frame.0) c.add.new.self k _
    c.claim.new.self fit c.requires.absent refl claims frames c.insert.ensures.rows (c.insert.ensures.frames (fit.unowned frame.0 claims.fresh)) refl
    c.add.ensures.pages)
    (λ some. refl) (λ some. c.requires.inside) has.sized (ap (λ z. z.frames) c.add.ensures.queues) refl refl
