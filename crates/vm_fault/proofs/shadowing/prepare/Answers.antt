use Rattle.std.proofs.Common.{◌≡◌, ◌∙◌, true, rules, sym, inl, inr}
use Rattle.vm_fault.specs.Walks.{is_storing}
use Rattle.vm_fault.proofs.Shadows.{prepares_marked}
use Rattle.vm_fault.proofs.shadowing.prepare.Goals as goal

pub returns-then-is_alone-clause-ok : goal.returns-then-is_alone-clause-ok
returns-then-is_alone-clause-ok c copies =
    let stores : is_storing c.args.want ≡ true = search rules in
    let marked : c.in-Some.row.marked ≡ true = search rules in
    prepares_marked c.unmark.result c.args.want c.args.region c.in-Some.row _ _ _ _ (λ loses. inr loses) (sym c.region.ensures.row ∙ c.in-Some.is) stores marked
    (c.unmark.ensures.ok copies)

pub returns-clause-ok : goal.returns-clause-ok
returns-clause-ok c copies =
    let stores : is_storing c.args.want ≡ true = search rules in
    let marked : c.in-Some.row.marked ≡ true = search rules in
    prepares_marked c.shadow.result c.args.want c.args.region c.in-Some.row _ _ _ _ (λ makes. inl makes) (sym c.region.ensures.row ∙ c.in-Some.is) stores marked
    (c.shadow.ensures.ok copies)
