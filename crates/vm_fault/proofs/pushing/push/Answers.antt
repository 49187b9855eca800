use Rattle.std.proofs.Common.{◌≡◌, ◌∷◌, ◌∙◌, ◌<◌, None, refl, ap, rules, sym, subst}
use Rattle.std.specs.Prelude.{IfSome}
use Rattle.vm_copies.specs.Copies.{CopyRow}
use Rattle.vm_fault.specs.Faults.{Pushed, ToPush}
use Rattle.vm_fault.proofs.Ends.{plan_roomier, raises_roomier}
use Rattle.vm_fault.proofs.Owed.{here_still, noted_owed, owes}
use Rattle.vm_frames.specs.Frames.{page_in}
use Rattle.vm_model.specs.declared.event.Event.TheVariants as event
use Rattle.vm_parts.specs.Changes.{RaisesPage}
use Rattle.vm_parts.specs.Fits.{object_pages}
use Rattle.vm_parts.specs.declared.parts.HostParts.{HostParts}
use Rattle.vm_parts.proofs.Rows.{of_found}
use Rattle.vm_resident.specs.Resident.{row_among, row_at}
use Rattle.vm_fault.proofs.pushing.push.Goals as goal

pub returns-then-not-has_frame-clause-goes : goal.returns-then-not-has_frame-clause-goes
returns-then-not-has_frame-clause-goes c =
    let place = c.args.place in
    let absent : row_at c.args.parts.now.resident place.object.0 place.page.0 ≡ None = search rules in
    λ chains finds ids. (
      ToPush c.args.row finds c.requires.stores c.requires.unlocked place c.requires.owed absent,
      c.if-not-has_frame.ensures.none refl,
      record { parts = refl; copies = refl; told = refl },
    )

pub raise-requires-clause-inside : goal.raise-requires-clause-inside
raise-requires-clause-inside c =
    let is = owes c.args.copies.now c.args.parts.now c.requires.fits.0 c.args.run.top c.args.place c.requires.fits.1 c.requires.owed c.requires.can.top in
    subst (λ (z : HostParts). c.args.place.page.0 < object_pages z.objects c.args.place.object.0) (sym c.in_ok-reserve.ensures.is) is.inside

pub note-requires-clause-inside : goal.note-requires-clause-inside
note-requires-clause-inside c =
    let is = owes c.args.copies.now c.args.parts.now c.requires.fits.0 c.args.run.top c.args.place c.requires.fits.1 c.requires.owed c.requires.can.top in
    subst (λ z. IfSome z (λ (row : CopyRow). c.args.place.page.0 < row.pages)) (sym is.found) is.within

pub hit-value-requires-clause-here : goal.hit-value-requires-clause-here
hit-value-requires-clause-here c =
    let top = c.args.run.top in
    let row = c.args.row in
    let mid = c.reserve.new.self in
    let copied = c.raise.new.self in
    let found = ap (row_among top.object.0 top.page.0) c.in_ok-reserve.ensures.rows ∙ c.requires.fits.2.found in
    let raised = of_found _ row (λ r. RaisesPage c.args.place c.raise.result (page_in mid.frames r.frame.0) mid copied) found c.raise.ensures.raises in
    here_still c.args.place top c.raise.result (page_in mid.frames row.frame.0) row mid copied raised found c.requires.fits.2.here

pub returns-clause-goes : goal.returns-clause-goes
returns-clause-goes c =
    let top = c.args.run.top in
    let place = c.args.place in
    let row = c.args.row in
    let same = c.in_ok-reserve.ensures in
    let raises = c.raise.ensures in
    let frame = c.raise.result in
    let k = c.args.parts.now in
    let mid = c.reserve.new.self in
    let copied = c.raise.new.self in
    let hits = c.hit-value.ensures.hits in
    let absent : row_at k.resident place.object.0 place.page.0 ≡ None = search rules in
    let found = ap (row_among top.object.0 top.page.0) same.rows ∙ c.requires.fits.2.found in
    let raised = of_found _ row (λ r. RaisesPage place frame (page_in mid.frames r.frame.0) mid copied) found raises.raises in
    let told : c.push.new.self.items ≡ event.Raised c.args.run.host top.object top.page place.object place.page ∷ c.args.log.now.items = search rules in
    let is = owes c.args.copies.now k c.requires.fits.0 top place c.requires.fits.1 c.requires.owed c.requires.can.top in
    let notes = noted_owed c.args.copies.now c.note.new.self k place is c.note.ensures.copy c.note.ensures.had c.note.ensures.newest c.note.ensures.room in
    λ chains finds ids. Pushed row finds c.requires.stores c.requires.unlocked place c.requires.owed absent frame copied
    (raises_roomier place frame row k mid copied same.is same.rows raised) (plan_roomier k mid copied same.is raises.fit raises.objects raises.buffers)
    hits.0 hits.1 notes (hits.2 ∙ ap (λ z. hits.0 ∷ z) told)
