use Rattle.std.proofs.Common.{◌≡◌, ◌<◌, ◌∙◌, true, ap, length, subst, sym}
use Rattle.vm_queues.specs.Kept.{front_referenced, page_lists}
use Rattle.vm_queues.specs.Queues.{Queues, balanced, one_spared, referenced_front, spared}
use Rattle.vm_queues.proofs.Balance.{spared_fewer, spared_step}
use Rattle.vm_queues.proofs.lists.spare.Goals as goal

pub spare-smaller : goal.spare-smaller
spare-smaller c =
    let old = page_lists c.spare.lists in
    let front : front_referenced old ≡ true = sym c.is_front_referenced.ensures ∙ c.spare-test.true in
    let is : page_lists c.balance.new.lists ≡ balanced (one_spared old) = c.balance.ensures.balanced ∙ ap balanced c.spare_front.ensures.spared in
    subst (λ (q : Queues). length (referenced_front q.inactive) < length (referenced_front old.inactive)) (sym is) (spared_fewer old front)

pub spare-preserved : goal.spare-preserved
spare-preserved c =
    let old = page_lists c.spare.lists in
    let front : front_referenced old ≡ true = sym c.is_front_referenced.ensures ∙ c.spare-test.true in
    let is : page_lists c.balance.new.lists ≡ balanced (one_spared old) = c.balance.ensures.balanced ∙ ap balanced c.spare_front.ensures.spared in
    record {
      kept = c.balance.ensures.kept;
      balanced = c.balance.ensures.done;
      spared = ap spared is ∙ spared_step old front ∙ c.spare.invariant.spared;
    }
