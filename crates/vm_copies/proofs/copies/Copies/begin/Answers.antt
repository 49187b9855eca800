use Rattle.std.proofs.Common.{◌-◌, ◌==◌, ◌∙◌, ◌≡◌, Some, ap, arith, false, refl, replicate, subst, sym}
use Rattle.std.specs.Prelude.{if◌then◌else◌}
use Rattle.vm_copies.proofs.Tables.{Puts, among_is, begun, cleared, entry_of, put, table_of}
use Rattle.vm_copies.proofs.Words.{all_same}
use Rattle.vm_copies.specs.Copies.{ClearsHad, CopyRow, CopyTable, PutsCopy, PutsNewest, copy_at, newest_at}
use Rattle.vm_copies.proofs.copies.Copies.begin.Goals.{In_ok-insert-2}
use Rattle.vm_copies.proofs.copies.Copies.begin.Goals as goal

abbrev first : In_ok-insert-2 → CopyRow
first c = record { source = c.args.source; pages = c.args.pages; had = replicate c.args.pages false }

-- making room left both maps as they were
was : (c : In_ok-insert-2) → table_of c.self.inside.newest.entries c.self.inside.copies.entries c.args.self.now.room ≡ c.args.self.now
was c = ap (λ (t : CopyTable). record t { room = c.args.self.now.room }) (c.self.view_is ∙ c.in_ok-reserve.ensures.same)

copies : (c : In_ok-insert-2) → Puts c.args.copy.0 (Some (first c)) c.self.inside.copies.entries c.insert.new.self.entries
copies c =
    put c.args.copy.0 _ _ _
    (λ o. c.in_ok-insert.ensures.updates.0 o
    ∙ ap (λ z. if c.args.copy.0 == o.0 then Some z else entry_of c.self.inside.copies.entries o.0) c.new.ensures)

newest : (c : In_ok-insert-2) → Puts c.args.source.0 (Some c.args.copy) c.self.inside.newest.entries c.insert-2.new.self.entries
newest c = put c.args.source.0 _ _ _ c.in_ok-insert-2.ensures.updates.0

abbrev after : In_ok-insert-2 → CopyTable
after c = table_of c.insert-2.new.self.entries c.insert.new.self.entries (c.self.inside.promised - 1)

pub invariant_of-self-2 : goal.invariant_of-self-2
invariant_of-self-2 c =
    record {
      living =
          begun c.self.inside.newest.entries _ c.self.inside.copies.entries _ c.self.inside.promised _ c.args.source c.args.copy (first c) (copies c) (newest c)
          (ap (λ (t : CopyTable). copy_at t c.args.copy.0) (was c) ∙ c.requires.absent) refl c.self.invariant.living;
      newest = let was = c.self.invariant.newest in let uses = c.in_ok-insert-2.ensures.spare in omega (arith, was, uses);
      copies = let was = c.self.invariant.copies in let uses = c.in_ok-insert.ensures.spare in omega (arith, was, uses);
    }

pub returns-clause-before : goal.returns-clause-before
returns-clause-before c =
    c.in_ok-insert-2.ensures.old ∙ sym (among_is c.args.source.0 c.self.inside.newest.entries)
    ∙ ap (λ (t : CopyTable). newest_at t c.args.source.0) (was c)

pub returns-clause-copy : goal.returns-clause-copy
returns-clause-copy c = subst (λ (t : CopyTable). PutsCopy c.args.copy.0 (Some (first c)) t (after c)) (was c) (record { at = copies c })

pub returns-clause-had : goal.returns-clause-had
returns-clause-had c =
    subst (λ (t : CopyTable). ClearsHad c.args.copy.0 t (after c)) (was c)
    (cleared c.self.inside.newest.entries _ c.self.inside.copies.entries _ _ _ c.args.copy.0 _ (copies c) (all_same false c.args.pages))

pub returns-clause-newest : goal.returns-clause-newest
returns-clause-newest c = subst (λ (t : CopyTable). PutsNewest c.args.source.0 (Some c.args.copy) t (after c)) (was c) (record { at = newest c })

pub returns-clause-living : goal.returns-clause-living
returns-clause-living c = (invariant_of-self-2 c).living
