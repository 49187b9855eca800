use Rattle.std.proofs.Common.{◌≡◌, ◌∷◌, ◌∙◌, refl, ap, rules}
use Rattle.vm_base.specs.declared.ids.PageKey.{PageKey}
use Rattle.vm_fault.specs.Faults.{Copied, ToCopy, copied_key}
use Rattle.vm_fault.proofs.Ends.{plan_roomier, raises_roomier, references}
use Rattle.vm_frames.specs.Frames.{page_in}
use Rattle.vm_model.specs.declared.event.Event.TheVariants as event
use Rattle.vm_parts.specs.Changes.{RaisesPage}
use Rattle.vm_parts.specs.declared.parts.HostParts.{HostParts}
use Rattle.vm_parts.proofs.Rows.{of_found}
use Rattle.vm_resident.specs.Resident.{row_among}
use Rattle.vm_fault.proofs.going.copy.Goals as goal

pub returns-then-not-has_frame-clause-goes : goal.returns-then-not-has_frame-clause-goes
returns-then-not-has_frame-clause-goes c =
    λ chains copies steps finds ids. (
      ToCopy steps c.args.key c.args.row finds c.requires.copies c.requires.unlocked,
      c.if-not-has_frame.ensures.none refl,
      record { parts = refl; copies = refl; told = refl },
    )

pub returns-clause-goes : goal.returns-clause-goes
returns-clause-goes c =
    let key = c.args.key in
    let row = c.args.row in
    let target = c.in-CopyTo.target in
    let next = c.in-CopyTo.next in
    let page : PageKey = copied_key target next in
    let same = c.in_ok-reserve.ensures in
    let raises = c.raise-frame.ensures in
    let frame = c.raise-frame.result in
    let k = c.args.parts.now in
    let mid = c.reserve.new.self in
    let copied = c.raise-frame.new.self in
    let found = ap (row_among key.object.0 key.page.0) same.rows ∙ c.requires.finds.2.found in
    let raised = of_found _ row (λ r. RaisesPage page frame (page_in mid.frames r.frame.0) mid copied) found raises.raises in
    let told : c.push.new.self.items ≡ event.CopiedPage c.args.run.task (record { 0 = next }) key.object key.page target ∷ c.args.log.now.items = search
    rules in
    let marks = references frame copied c.touch.new.self raises.fit c.touch.ensures.queues c.touch.ensures.pages in
    let hit : HostParts = record copied { queues = c.touch.new.self } in
    let source = references row.frame hit c.touch-2.new.self marks.fit c.touch-2.ensures.queues c.touch-2.ensures.pages in
    λ chains copies steps finds ids. Copied c.in-CopyTo.address c.in-CopyTo.pages next target c.in-CopyTo.is steps key row finds c.requires.unlocked refl
    (record {
      frame = frame;
      copied = copied;
      page = raises_roomier page frame row k mid copied same.is same.rows raised;
      plan = plan_roomier k mid copied same.is raises.fit raises.objects raises.buffers;
      hit = hit;
      marks = marks;
      source = source;
      told = told;
    })
    refl

pub returns-clause-plan : goal.returns-clause-plan
returns-clause-plan c =
    let raises = c.raise-frame.ensures in
    let copied = c.raise-frame.new.self in
    let hit : HostParts = record copied { queues = c.touch.new.self } in
    let marks = references c.raise-frame.result copied c.touch.new.self raises.fit c.touch.ensures.queues c.touch.ensures.pages in
    let source = references c.args.row.frame hit c.touch-2.new.self marks.fit c.touch-2.ensures.queues c.touch-2.ensures.pages in
    plan_roomier c.args.parts.now c.reserve.new.self (record hit { queues = c.touch-2.new.self }) c.in_ok-reserve.ensures.is source.fit raises.objects
    raises.buffers
