-- The rows that have a case, by a walk along the table.
use Rattle.std.specs.Prelude.{ℕ, ◌+◌, ◌&&◌, ◌==◌, Bool, true, false, List, [], ◌∷◌, Option, Some, None, if◌then◌else◌}
use mathlib.Core.Bool.{beq}
use Rattle.vm_tables.specs.declared.cases.LockAct.{LockAct}
use Rattle.vm_tables.specs.declared.cases.LockCase.{LockCase}
use Rattle.vm_tables.specs.declared.cases.LockRow.{LockRow}
use Rattle.vm_tables.specs.declared.cases.Returns.{Returns}
use Rattle.vm_tables.specs.declared.cases.Returns.TheVariants as returns

abbrev pub both_return : Returns → Returns → Bool
both_return returns.Nothing returns.Nothing = true
both_return returns.Dirty returns.Dirty = true
both_return returns.All returns.All = true
both_return one other = false

abbrev pub is_case : LockCase → LockCase → Bool
is_case one other = both_return one.returns other.returns && (beq one.flush other.flush && (beq one.dirty other.dirty && beq one.precious other.precious))

abbrev pub count_of : LockCase → List LockRow → ℕ
count_of case [] = 0
count_of case (row ∷ rows) = (if is_case row.case case then 1 else 0) + count_of case rows

-- what the first row of the case says
abbrev pub act_in : LockCase → List LockRow → Option LockAct
act_in case [] = None
act_in case (row ∷ rows) = if is_case row.case case then Some row.act else act_in case rows

abbrev pub is_once : List LockRow → LockCase → Bool
is_once rows case = count_of case rows == 1

-- the tests of the cases, precious or not
abbrev pub once_marked : List LockRow → Returns → Bool → Bool → Bool
once_marked rows returns flush dirty =
    is_once rows (record { returns = returns; flush = flush; dirty = dirty; precious = false }) && is_once rows
    (record { returns = returns; flush = flush; dirty = dirty; precious = true })

-- the tests of the cases of a return kind
abbrev pub once_kind : List LockRow → Returns → Bool
once_kind rows returns =
    (once_marked rows returns false false && once_marked rows returns false true) && (once_marked rows returns true false && once_marked rows returns true true)

-- the tests of all cases
abbrev pub once_each : List LockRow → Bool
once_each rows = once_kind rows returns.Nothing && once_kind rows returns.Dirty && once_kind rows returns.All
