-- The memory objects of a host, as contracts see them.
use Rattle.std.specs.Prelude.{ℕ, ◌≡◌, ◌≤◌, ◌==◌, ◌&&◌, ◌||◌, Bool, false, List, [], ◌∷◌, Option, Some, None, if◌then◌else◌}
use Rattle.vm_base.specs.Keys.{is_page}
use Rattle.vm_base.specs.declared.ids.ObjectId.{ObjectId}
use Rattle.vm_base.specs.declared.ids.PageKey.{PageKey}
use Rattle.vm_objects.specs.declared.row.ObjectRow.{ObjectRow}

-- the objects, the pages that are known absent, and for how many further objects and marks there is room
pub record ObjectTable : Type 0 where
  pub entries : List (ObjectId × ObjectRow)
  pub absent : List PageKey
  pub rows : ℕ
  pub marks : ℕ

abbrev pub object_among : ℕ → List (ObjectId × ObjectRow) → Option ObjectRow
object_among o [] = None
object_among o (entry ∷ entries) = if entry.0.0 == o then Some entry.1 else object_among o entries

-- what is known of an object, None where it is not there
abbrev pub object_at : ObjectTable → ℕ → Option ObjectRow
object_at table o = object_among o table.entries

abbrev pub absent_among : ℕ → ℕ → List PageKey → Bool
absent_among o p [] = false
absent_among o p (key ∷ keys) = is_page key o p || absent_among o p keys

-- the pager of an object is known not to have a page; false where there is no such object or page
abbrev pub absent_at : ObjectTable → ℕ → ℕ → Bool
absent_at table o p = absent_among o p table.absent

-- this is known of one object now, and of each other what was
pub record PutsObject (id : ℕ) (row : Option ObjectRow) (old new : ObjectTable) : Type 0 where
  pub at : (o : ℕ) → object_at new o ≡ (if id == o then row else object_at old o)

-- one page of one object is known absent or not now, and each other as it was
pub record PutsAbsent (o p : ℕ) (b : Bool) (old new : ObjectTable) : Type 0 where
  pub at : (other q : ℕ) → absent_at new other q ≡ (if (o == other) && (p == q) then b else absent_at old other q)

-- the same is known of each object
pub record SameObjects (old new : ObjectTable) : Type 0 where
  pub at : (o : ℕ) → object_at new o ≡ object_at old o

-- the same pages are known absent
pub record SameMarks (old new : ObjectTable) : Type 0 where
  pub at : (o p : ℕ) → absent_at new o p ≡ absent_at old o p

-- there is room for as many objects, and as many marks
pub record SameRooms (old new : ObjectTable) : Type 0 where
  pub rows : new.rows ≡ old.rows
  pub marks : new.marks ≡ old.marks

-- all is as it was, and there is no less room
pub record SameOrRoomier (old new : ObjectTable) : Type 0 where
  pub entries : new.entries ≡ old.entries
  pub absent : new.absent ≡ old.absent
  pub rows : old.rows ≤ new.rows
  pub marks : old.marks ≤ new.marks
