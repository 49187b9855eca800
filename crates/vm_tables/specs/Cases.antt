-- The cases of a lock request at a page: what it is for a table to have them all, and what becomes of the page in each.
use Rattle.std.specs.Prelude.{ℕ, ◌≡◌, ◌||◌, Bool, false, List, Some, slice_get}
use Rattle.vm_tables.specs.declared.cases.LockAct.{LockAct}
use Rattle.vm_tables.specs.declared.cases.LockCase.{LockCase}
use Rattle.vm_tables.specs.declared.cases.LockRow.{LockRow}
use Rattle.vm_tables.specs.declared.cases.Returns.{Returns}
use Rattle.vm_tables.specs.declared.cases.Returns.TheVariants as returns

-- the case stands in one row of the table, and in no other
pub record StandsOnce (rows : List LockRow) (case : LockCase) : Type 0 where
  pub place : ℕ
  pub row : LockRow
  pub found : slice_get rows place ≡ Some row
  pub is : row.case ≡ case
  pub alone : (other : ℕ) (another : LockRow) → slice_get rows other ≡ Some another → another.case ≡ case → other ≡ place

-- each case stands in one row, and in no other
abbrev pub Covers : List LockRow → Type 0
Covers rows = (case : LockCase) → StandsOnce rows case

-- the bytes go to the pager never, where the page is dirty, or where it is dirty or precious
abbrev pub gives_back : Returns → Bool → Bool → Bool
gives_back returns.Nothing dirty precious = false
gives_back returns.Dirty dirty precious = dirty
gives_back returns.All dirty precious = dirty || precious

-- the page goes where that is asked
abbrev pub act_of : LockCase → LockAct
act_of case = record { give_back = gives_back case.returns case.dirty case.precious; remove = case.flush }
