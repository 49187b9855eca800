use Rattle.std.proofs.Common.{◌≡◌, ◌∙◌, None, ap, sym, true, false}
use Rattle.vm_copies.proofs.Tables.{among_is, is_this, other_of_another, other_of_this, put, stays}
use Rattle.vm_copies.specs.Copies.{among}
use Rattle.vm_copies.proofs.copies.leave_newest.Goals as goal

pub returns-then-eq-clause-entries : goal.returns-then-eq-clause-entries
returns-then-eq-clause-entries c =
    let found = c.copied.ensures ∙ c.get.ensures.value ∙ sym (among_is c.args.source.0 c.args.newest.now.entries) in
    let is : is_this (among c.args.source.0 c.args.newest.now.entries) c.args.copy ≡ true =
    ap (λ z. is_this z c.args.copy) (sym found) ∙ sym c.eq.ensures ∙ c.if-eq.true in
    rw (other_of_this _ c.args.copy is) (put c.args.source.0 None _ _ c.swap_remove.ensures.updates.0)

pub returns-else-eq-clause-entries : goal.returns-else-eq-clause-entries
returns-else-eq-clause-entries c =
    let found = c.copied.ensures ∙ c.get.ensures.value ∙ sym (among_is c.args.source.0 c.args.newest.now.entries) in
    let is : is_this (among c.args.source.0 c.args.newest.now.entries) c.args.copy ≡ false =
    ap (λ z. is_this z c.args.copy) (sym found) ∙ sym c.eq.ensures ∙ c.if-eq.false in
    rw (other_of_another _ c.args.copy is) (stays c.args.source.0 c.args.newest.now.entries)
