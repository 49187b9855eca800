-- How the marks are kept: in a set of the pages that are known absent.
use Rattle.std.specs.Map.{lookup}
use Rattle.std.specs.Prelude.{ℕ, ◌≡◌, ◌<◌, ◌≤◌, ◌==◌, true, List, Option, IsSomeAnd}
use Rattle.vm_base.specs.declared.ids.ObjectId.{ObjectId}
use Rattle.vm_base.specs.declared.ids.PageKey.{PageKey}
use Rattle.vm_objects.specs.Objects.{absent_among, object_among}
use Rattle.vm_objects.specs.declared.row.ObjectRow.{ObjectRow}

-- the row of an object in the map
abbrev pub row_of : List (ObjectId × ObjectRow) → ℕ → Option ObjectRow
row_of entries o = lookup (λ id. o == id.0) entries

-- each mark is of a page of an object that is there, and the set has the room that is promised
pub record AreMarks (entries : List (ObjectId × ObjectRow)) (absent : List PageKey) (spare promised : ℕ) : Type 0 where
  pub inside : (o p : ℕ) → absent_among o p absent ≡ true → IsSomeAnd (object_among o entries) (λ row. p < row.pages)
  pub room : promised ≤ spare
