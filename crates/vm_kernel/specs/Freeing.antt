-- Stores that wait to push a page of a file are to be run again, where the file gets a newer copy object.
use Rattle.std.specs.Prelude.{ℕ, ◌≡◌, ◌==◌, Bool, false, map, Option, Some, None}
use Rattle.vm_base.specs.declared.ids.ObjectId.{ObjectId}
use Rattle.vm_copies.specs.Copies.{CopyTable, newest_at}
use Rattle.vm_waits.specs.Waits.{WaitTable, woken}
use Rattle.vm_waits.specs.declared.waiting.On.{On}
use Rattle.vm_waits.specs.declared.waiting.On.TheVariants as on

-- a store waits to push a page into this copy object, if there is one
abbrev pub pushes_into : Option ObjectId → On → Bool
pushes_into None why = false
pushes_into (Some copy) (on.Push key) = key.object.0 == copy.0
pushes_into (Some copy) on.Again = false
pushes_into (Some copy) (on.Ready object) = false
pushes_into (Some copy) (on.Page key) = false
pushes_into (Some copy) on.Frame = false

-- the stores that waited to push into the file's newest copy object are to be run again
pub record FreesPushers (file : ℕ) (copies : CopyTable) (old new : WaitTable) : Type 0 where
  pub rows : new.rows ≡ map (woken (pushes_into (newest_at copies file))) old.rows
  pub queue : new.queue ≡ old.queue
  pub room : new.room ≡ old.room
