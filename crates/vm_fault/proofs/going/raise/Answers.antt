use Rattle.std.proofs.Common.{◌≡◌, ℕ, ◌∷◌, refl, ap, ◌∙◌, subst, rules}
use Rattle.vm_fault.specs.Faults.{Raised, ToRaise}
use Rattle.vm_fault.specs.Walks.{Finds}
use Rattle.vm_fault.proofs.Ends.{plan_roomier, positive, raises_roomier, references}
use Rattle.vm_frames.specs.Frames.{page_in}
use Rattle.vm_model.specs.declared.event.Event.TheVariants as event
use Rattle.vm_parts.specs.Changes.{RaisesPage}
use Rattle.vm_parts.proofs.Rows.{of_found}
use Rattle.vm_fault.proofs.Descents.{found_below}
use Rattle.vm_resident.specs.Resident.{row_among}
use Rattle.vm_fault.proofs.going.raise.Goals as goal

pub returns-then-not-has_frame-clause-goes : goal.returns-then-not-has_frame-clause-goes
returns-then-not-has_frame-clause-goes c =
    let k = c.args.parts.now in
    let less = positive c.args.steps c.requires.below in
    λ chains finds ids. (
      ToRaise less.0 c.args.key c.args.row (subst (λ (n : ℕ). Finds k chains n c.args.run.top c.args.key c.args.row) less.1 finds) c.requires.stores
          c.requires.unlocked,
      c.if-not-has_frame.ensures.none refl,
      record { parts = refl; copies = refl; told = refl },
    )

pub raise-frame-requires-clause-absent : goal.raise-frame-requires-clause-absent
raise-frame-requires-clause-absent c =
    let top = c.args.run.top in
    ap (row_among top.object.0 top.page.0) c.in_ok-reserve.ensures.rows
    ∙ found_below c.args.parts.now c.requires.finds.0 c.args.steps top c.args.key c.args.row c.requires.finds.2 c.requires.below

pub returns-clause-goes : goal.returns-clause-goes
returns-clause-goes c =
    let top = c.args.run.top in
    let key = c.args.key in
    let row = c.args.row in
    let same = c.in_ok-reserve.ensures in
    let raises = c.raise-frame.ensures in
    let frame = c.raise-frame.result in
    let k = c.args.parts.now in
    let mid = c.reserve.new.self in
    let copied = c.raise-frame.new.self in
    let less = positive c.args.steps c.requires.below in
    let hits = c.hit-value.ensures.hits in
    let hit = c.hit-value.new.parts in
    let found = ap (row_among key.object.0 key.page.0) same.rows ∙ c.requires.finds.2.found in
    let raised = of_found _ row (λ r. RaisesPage top frame (page_in mid.frames r.frame.0) mid copied) found raises.raises in
    let told : c.push.new.self.items ≡ event.Raised c.args.run.host key.object key.page top.object top.page ∷ c.args.log.now.items = search rules in
    λ chains finds ids. Raised less.0 key row (subst (λ (n : ℕ). Finds k chains n top key row) less.1 finds) c.requires.stores c.requires.unlocked frame copied
    hit
    (raises_roomier top frame row k mid copied same.is same.rows raised) (plan_roomier k mid copied same.is raises.fit raises.objects raises.buffers)
    hits.0 hits.1 (references row.frame hit c.touch.new.self c.hit-value.ensures.plan.fit c.touch.ensures.queues c.touch.ensures.pages) c.note.ensures
    (hits.2 ∙ ap (λ z. hits.0 ∷ z) told)
