-- The copy objects of a host, as its kernel keeps them, and the pages that were copied up into them.
use Rattle.std.specs.Prelude.{ℕ, ◌≡◌, Bool, true, false, Option, Some, None, is_some}
use Rattle.vm_base.specs.declared.ids.ObjectId.{ObjectId}
use Rattle.vm_copies.specs.Copies.{CopyRow, CopyTable, copy_at, had_at, newest_at}
use Rattle.vm_objects.specs.Objects.{ObjectTable, object_at}
use Rattle.vm_terminate.specs.Finishes.{IsReferred}

-- Of the objects to which something refers the copies of files are the copy objects, and each copy object is such a copy. A file's newest is that of its last
-- delayed copy, where something refers to that; and each has had the pages that were copied up into it. Into an object that isn't known none was.
pub record HasCopyObjects (copies : CopyTable) (objects : ObjectTable) (is_copy_of : ℕ → Bool) (newest_of : ℕ → Option ℕ) (pushed_at : ℕ → ℕ → Bool) : Type 0
  where
    pub are : (o : ℕ) → IsReferred objects o → is_copy_of o ≡ is_some (copy_at copies o)
    pub copy : (c : ℕ) (row : CopyRow) → copy_at copies c ≡ Some row → is_copy_of c ≡ true
    pub newest : (f c : ℕ) → newest_of f ≡ Some c → IsReferred objects c → newest_at copies f ≡ Some (record { 0 = c })
    pub last : (f : ℕ) (c : ObjectId) → newest_at copies f ≡ Some c → newest_of f ≡ Some c.0
    pub had : (c : ℕ) (row : CopyRow) → copy_at copies c ≡ Some row → (p : ℕ) → had_at copies c p ≡ pushed_at c p
    pub unpushed : (o p : ℕ) → object_at objects o ≡ None → pushed_at o p ≡ false
