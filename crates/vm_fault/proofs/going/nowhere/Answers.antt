use Rattle.std.proofs.Common.{◌≡◌, ◌∷◌, ◌∙◌, ap, refl, rules}
use Rattle.vm_fault.specs.Faults.{AfterZeros, Nowhere}
use Rattle.vm_fault.proofs.Ends.{brings_roomier, plan_roomier}
use Rattle.vm_model.specs.declared.event.Event.TheVariants as event
use Rattle.vm_fault.proofs.going.nowhere.Goals as goal

pub returns-then-not-has_frame-clause-goes : goal.returns-then-not-has_frame-clause-goes
returns-then-not-has_frame-clause-goes c =
    λ chains sinks ids. (Nowhere sinks, c.if-not-has_frame.ensures.none refl, record { parts = refl; copies = refl; told = refl })

pub returns-clause-goes : goal.returns-clause-goes
returns-clause-goes c =
    let top = c.args.run.top in
    let same = c.in_ok-reserve.ensures in
    let brings = c.bring-frame.ensures in
    let frame = c.bring-frame.result in
    let k = c.args.parts.now in
    let mid = c.reserve.new.self in
    let brought = c.bring-frame.new.self in
    let hits = c.hit-value.ensures.hits in
    let told : c.push.new.self.items ≡ event.Zeroed c.args.run.host top.object top.page ∷ c.args.log.now.items = search rules in
    λ chains sinks ids. AfterZeros sinks frame brought (brings_roomier top frame k mid brought same.is same.rows brings.brings)
    (plan_roomier k mid brought same.is brings.fit brings.objects brings.buffers) hits.0 hits.1 c.note.ensures (hits.2 ∙ ap (λ z. hits.0 ∷ z) told)
