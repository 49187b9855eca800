use Rattle.std.proofs.Common.{ℕ, ◌-◌, false, ap, ◌∙◌, refl, arith, length}
use Rattle.std.proofs.lemmas.List.{length-replicate}
use Rattle.vm_frames.specs.Frames.{page_in}
use Rattle.vm_parts.specs.Changes.{clean_row, unlocked}
use Rattle.vm_parts.proofs.Changing.{claimed_for}
use Rattle.vm_parts.proofs.Fitting.{fit_changed}
use Rattle.vm_parts.proofs.parts.HostParts.bring.Goals as goal

pub returns-clause-fit : goal.returns-clause-fit
returns-clause-fit c =
    let fit = c.requires.fit in
    let claims = c.in-Some.ensures in
    let none = fit.unowned c.in-Some.frame.0 claims.fresh in
    let size = c.bytes_mut.ensures.value ∙ ap (λ z. page_in z c.in-Some.frame.0) claims.is in
    let long = ap length size ∙ fit.all_sized c.in-Some.frame.0 claims.inside in
    let whole = ap length c.fill.ensures ∙ (length-replicate {A = ℕ} (length c.bytes_mut.result.now - 0) 0) in
    fit_changed c.args.key c.in-Some.frame _ _ _ _ _ c.args.self.now _ fit
    (claimed_for c.args.key c.in-Some.frame (clean_row c.in-Some.frame unlocked false) c.fill.new.self c.add.new.self c.args.self.now _ c.claim.new.self fit
    c.requires.absent refl claims refl c.insert.ensures.rows (c.insert.ensures.frames none) refl c.add.ensures.pages)
    (λ some. refl) (λ some. c.requires.inside) (omega (arith, long, whole)) (ap (λ z. z.frames) c.add.ensures.queues) refl refl
