-- The copy objects of a host, as contracts see them.
use Rattle.std.specs.Prelude.{ℕ, ◌≡◌, ◌≤◌, ◌==◌, ◌&&◌, Bool, false, List, [], ◌∷◌, Option, Some, None, if◌then◌else◌, slice_index_or, IfSome, IsSomeAnd}
use Rattle.vm_base.specs.declared.ids.ObjectId.{ObjectId}

-- a copy object: whose copy it is, of how many pages, and which of them it has had of its own
pub record CopyRow : Type 0 where
  pub source : ObjectId
  pub pages : ℕ
  pub had : List Bool

-- the newest copy object of each source, the copy objects that live, and how many further ones begin without memory
pub record CopyTable : Type 0 where
  pub newest : List (ObjectId × ObjectId)
  pub copies : List (ObjectId × CopyRow)
  pub room : ℕ

-- what is kept of an object, None where nothing is
abbrev pub among : {X : Type 0} → ℕ → List (ObjectId × X) → Option X
among o [] = None
among o (entry ∷ entries) = if entry.0.0 == o then Some entry.1 else among o entries

-- the newest copy object of a source, None where none lives
abbrev pub newest_at : CopyTable → ℕ → Option ObjectId
newest_at table s = among s table.newest

-- the row of a copy object, None where it doesn't live
abbrev pub copy_at : CopyTable → ℕ → Option CopyRow
copy_at table c = among c table.copies

abbrev pub had_in : Option CopyRow → ℕ → Bool
had_in None p = false
had_in (Some row) p = slice_index_or row.had p false

-- a copy object has had a page; false where there is no such copy object or page
abbrev pub had_at : CopyTable → ℕ → ℕ → Bool
had_at table c p = had_in (copy_at table c) p

-- the same, but none where it is this copy object
abbrev pub other_than : ℕ → Option ObjectId → Option ObjectId
other_than c None = None
other_than c (Some newest) = if newest.0 == c then None else Some newest

-- it lives, and is a copy of this source
abbrev pub IsCopyOf : ℕ → Option CopyRow → Type 0
IsCopyOf s row = IsSomeAnd row (λ row. row.source.0 ≡ s)

-- each source's newest lives, and is a copy of that source
pub record AreNewest (table : CopyTable) : Type 0 where
  pub at : (s : ℕ) → IfSome (newest_at table s) (λ c. IsCopyOf s (copy_at table c.0))

-- the newest ones live, and both maps have the room that is promised
pub record AreKept (table : CopyTable) (of_newest of_copies : ℕ) : Type 0 where
  pub living : AreNewest table
  pub newest : table.room ≤ of_newest
  pub copies : table.room ≤ of_copies

-- this is the row of one copy object now, or it doesn't live, and each other is as it was
pub record PutsCopy (copy : ℕ) (row : Option CopyRow) (old new : CopyTable) : Type 0 where
  pub at : (c : ℕ) → copy_at new c ≡ (if copy == c then row else copy_at old c)

-- this is the newest of one source now, or it has none, and each other source has what it had
pub record PutsNewest (source : ℕ) (newest : Option ObjectId) (old new : CopyTable) : Type 0 where
  pub at : (s : ℕ) → newest_at new s ≡ (if source == s then newest else newest_at old s)

-- one copy object has had one page or not now, and all else is as it was
pub record PutsHad (copy page : ℕ) (b : Bool) (old new : CopyTable) : Type 0 where
  pub at : (c p : ℕ) → had_at new c p ≡ (if (copy == c) && (page == p) then b else had_at old c p)

-- one copy object has had no page, and each other those that it had
pub record ClearsHad (copy : ℕ) (old new : CopyTable) : Type 0 where
  pub at : (c p : ℕ) → had_at new c p ≡ (if copy == c then false else had_at old c p)

-- a copy object ends; where it was its source's newest, that has none any more
pub record EndsCopy (copy : ℕ) (row : CopyRow) (old new : CopyTable) : Type 0 where
  pub found : copy_at old copy ≡ Some row
  pub gone : PutsCopy copy None old new
  pub had : ClearsHad copy old new
  pub newest : PutsNewest row.source.0 (other_than copy (newest_at old row.source.0)) old new

-- an object ends: where it is a copy object, its row goes
pub data LeavesCopies (object : ℕ) (old new : CopyTable) : Type 0 where
  WasCopy : (row : CopyRow) → EndsCopy object row old new → AreNewest new → LeavesCopies object old new
  WasNone : copy_at old object ≡ None → new ≡ old → LeavesCopies object old new
