use Rattle.std.proofs.Common.{ℕ, ◌<◌, Option, None, Some, ap, arith, true}
use Rattle.indexmap.specs.IndexSet.{spare}
use Rattle.std.specs.Prelude.{IfSome, IsSome, IsSomeAnd}
use Rattle.vm_objects.proofs.Kept.{WritesMark, marked, marks_put, ok_has}
use Rattle.vm_objects.specs.Objects.{ObjectTable}
use Rattle.vm_objects.specs.declared.row.ObjectRow.{ObjectRow}
use Rattle.vm_objects.proofs.objects.Objects.note_absent.Goals as goal

there_and : (row : Option ObjectRow) (p : ℕ) → IsSome row → IfSome row (λ row. p < row.pages) → IsSomeAnd row (λ row. p < row.pages)
there_and None p some inside = absurd (cc)
there_and (Some row) p some inside = inside

writes : (c : goal.After-self-1) → WritesMark c.args.key true c.self.inside.absent.keys c.insert.new.self.keys
writes c =
    let promised = ap (λ (z : ObjectTable). z.marks) c.self.view_is in
    let room : 0 < spare c.self.inside.absent = omega (arith, promised, c.requires.room, c.self.invariant.room) in
    (ok_has c.insert.result (c.insert.ensures.succeeds room) c.insert.ensures.updates).0

pub invariant_of-self : goal.invariant_of-self
invariant_of-self c =
    let promised = ap (λ (z : ObjectTable). z.marks) c.self.view_is in
    let inside = there_and _ c.args.key.page.0 (rw (← c.self.view_is) at c.requires.there) (rw (← c.self.view_is) at c.requires.inside) in
    marks_put c.self.inside.rows.entries _ _ _ _ _ _ c.args.key true c.self.invariant (writes c) (λ is. inside)
    (omega (arith, promised, c.requires.room, c.self.invariant.room, c.insert.ensures.spare))

pub returns-clause-mark : goal.returns-clause-mark
returns-clause-mark c = rw (← c.self.view_is) (marked _ _ _ _ _ _ _ _ c.args.key true (writes c))
