use Rattle.std.proofs.Common.{ℕ, ◌==◌, ◌∙◌, Some, List, ap, false}
use Rattle.indexmap.specs.IndexSet.{spare}
use Rattle.std.specs.Prelude.{if◌then◌else◌}
use Rattle.vm_base.specs.declared.ids.ObjectId.{ObjectId}
use Rattle.vm_objects.proofs.Kept.{Changed, made, table_of}
use Rattle.vm_objects.specs.Marks.{row_of}
use Rattle.vm_objects.specs.declared.row.ObjectRow.{ObjectRow}
use Rattle.vm_objects.specs.declared.row.PagerState.TheVariants as state
use Rattle.vm_objects.proofs.objects.Objects.make.Goals.{In_ok-insert}
use Rattle.vm_objects.proofs.objects.Objects.make.Goals as goal

abbrev first : In_ok-insert → ObjectRow
first c = record { kind = c.args.kind; pages = c.args.pages; state = state.Without; control = 0; live = false; cache = false; references = 0 }

is_made : (c : In_ok-insert) (rows marks rows2 marks2 : ℕ)
    → Changed c.insert.new.self.entries c.self.inside.absent.keys (spare c.self.inside.absent) c.self.inside.promised c.args.id.0 (first c)
    (table_of c.self.inside.rows.entries c.self.inside.absent.keys rows marks) (table_of c.insert.new.self.entries c.self.inside.absent.keys rows2 marks2)
is_made c rows marks rows2 marks2 =
    made c.self.inside.rows.entries c.insert.new.self.entries c.self.inside.absent.keys _ c.self.inside.promised rows marks rows2 marks2 c.args.id.0 (first c)
    c.self.invariant (rw (← c.self.view_is) at c.requires)
    (λ o. c.in_ok-insert.ensures.updates.0 o ∙ ap (λ (es : List (ObjectId × ObjectRow)). if c.args.id.0 == o.0 then Some (first c) else row_of es o.0)
    c.reserve.ensures.entries)

pub invariant_of-self-2 : goal.invariant_of-self-2
invariant_of-self-2 c = (is_made c 0 0 0 0).kept

pub returns-clause-ok : goal.returns-clause-ok
returns-clause-ok c = rw (← c.self.view_is) (is_made c _ _ _ _).object
