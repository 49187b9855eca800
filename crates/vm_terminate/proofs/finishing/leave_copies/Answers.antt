use Rattle.std.proofs.Common.{◌≡◌, ◌∙◌, true, false, Option, Some, None, refl, sym}
use Rattle.std.proofs.lemmas.Option.{MatchOption-at_some}
use Rattle.std.specs.Prelude.{is_some}
use Rattle.vm_copies.specs.Copies.{CopyRow, WasCopy, WasNone, copy_at}
use Rattle.vm_terminate.proofs.finishing.leave_copies.Goals as goal

copy_there : (x : Option CopyRow) → is_some x ≡ true → (row : CopyRow) × (x ≡ Some row)
copy_there None some = absurd (cc)
copy_there (Some row) some = (row, refl)

copy_absent : (x : Option CopyRow) → is_some x ≡ false → x ≡ None
copy_absent None none = refl
copy_absent (Some row) none = absurd (cc)

pub returns-then-is_copy-clause-leaves : goal.returns-then-is_copy-clause-leaves
returns-then-is_copy-clause-leaves c =
    let row = copy_there (copy_at c.args.copies.now c.args.object.0) (sym c.is_copy.ensures ∙ c.if-is_copy.true) in
    WasCopy row.0 (record {
      found = row.1;
      gone = c.end.ensures.copy;
      had = c.end.ensures.had;
      newest = MatchOption-at_some _ _ row.0 row.1 c.end.ensures.newest;
    }) c.end.ensures.living

pub returns-else-is_copy-clause-leaves : goal.returns-else-is_copy-clause-leaves
returns-else-is_copy-clause-leaves c = WasNone (copy_absent (copy_at c.args.copies.now c.args.object.0) (sym c.is_copy.ensures ∙ c.if-is_copy.false)) refl
