-- The shipped table has each case once, and each row is as the words have it.
use Rattle.std.proofs.Common.{ℕ, zero, suc, ◌≡◌, List, [], ◌∷◌, refl, ap, subst, ◌∙◌}
use Rattle.std.proofs.lemmas.Option.{none-some, same_Some}
use Rattle.std.specs.Prelude.{slice_get, Some}
use Rattle.vm_tables.proofs.Once.{once_covers}
use Rattle.vm_tables.specs.Cases.{Covers, act_of}
use Rattle.vm_tables.specs.declared.cases.LockAct.{LockAct}
use Rattle.vm_tables.specs.declared.cases.LockCase.{LockCase}
use Rattle.vm_tables.specs.declared.cases.LockRow.{LockRow}
use Rattle.vm_tables.specs.declared.rows.TheConstants.{LOCK_ROWS}

pub shipped_covers : Covers LOCK_ROWS
shipped_covers = once_covers LOCK_ROWS refl

abbrev EachRight : List LockRow → Type 0
EachRight [] = Unit {0}
EachRight (row ∷ rows) = (row.act ≡ act_of row.case) × EachRight rows

row_right : (rows : List LockRow) → EachRight rows → (i : ℕ) (row : LockRow) → slice_get rows i ≡ Some row → row.act ≡ act_of row.case
row_right [] right i row found = absurd (none-some row found)
row_right (head ∷ rows) right zero row found = subst (λ (r : LockRow). r.act ≡ act_of r.case) (same_Some head row found) right.0
row_right (head ∷ rows) right (suc i) row found = row_right rows right.1 i row found

shipped_right : EachRight LOCK_ROWS
shipped_right = (
  refl,
  (
    refl,
    (
      refl,
      (
        refl,
        (
          refl,
          (
            refl,
            (
              refl,
              (
                refl,
                (refl, (refl, (refl, (refl, (refl, (refl, (refl, (refl, (refl, (refl, (refl, (refl, (refl, (refl, (refl, (refl, tt)))))))))))))))),
              ),
            ),
          ),
        ),
      ),
    ),
  ),
)

-- what a pick from the shipped table gives
pub shipped_act : (case : LockCase) (act : LockAct) → ((i : ℕ) (row : LockRow) → slice_get LOCK_ROWS i ≡ Some row → row.case ≡ case → act ≡ row.act)
    → act ≡ act_of case
shipped_act case act picked =
    let once = shipped_covers case in
    picked once.place once.row once.found once.is ∙ row_right LOCK_ROWS shipped_right once.place once.row once.found ∙ ap act_of once.is
