use Rattle.std.proofs.Common.{◌≡◌, ap, sym, ◌∙◌, [], ◌∷◌, ◌++◌, refl, reverse}
use Rattle.vm_free.specs.Orders.{order_of}
use Rattle.vm_seen.specs.Behind.{later_of, oldest_items}
use Rattle.vm_seen.proofs.Behind.{later_step}
use Rattle.vm_seen.proofs.Loads.{reverse_push}
use Rattle.vm_seen.proofs.ends.order_behind.Goals as goal
use Rattle.vm_seen.proofs.ends.order_behind.Goals.{in-Some+in_ok-push, in_default}

pub loop-i-preserved : goal.loop-i-preserved
loop-i-preserved c =
    let h = c.args.history.now.items in
    let past = later_of c.args.from (oldest_items c.loop-i.i h) in
    let step = later_step h c.args.from c.loop-i.i c.at.result.now c.loop-i.auto.i c.at.ensures in
    elim c.match-ended.branch [
      | in-Some+in_ok-push w ↦
          let is : c.match-ended.order.items ≡ c.loop-i.order.items ++ w.in-Some.task ∷ [] = rw w.order-is w.in_ok-push.ensures.items in
          ap reverse is ∙ (reverse_push c.loop-i.order.items w.in-Some.task ∙ (ap (λ z. w.in-Some.task ∷ z) c.loop-i.invariant
          ∙ (sym (w.in-Some.ensures past) ∙ ap order_of (sym step))))
      | in_default w ↦
          let is : c.match-ended.order.items ≡ c.loop-i.order.items = rw w.order-is refl in
          ap reverse is ∙ (c.loop-i.invariant ∙ (sym (w.in_default.ensures past) ∙ ap order_of (sym step)))
    ]
