-- In which order regions end whose entries have gone: as their last entries stand, by rising address.
use Rattle.std.specs.Prelude.{ℕ, All, ◌≡◌, ◌≢◌, ◌⊎◌, List, [], ◌∷◌, ◌++◌}
use Rattle.vm_base.specs.Entries.{parts_in}
use Rattle.vm_base.specs.declared.entry.Entry.{Entry}
use Rattle.vm_model.specs.declared.command.Command.{Command}
use Rattle.vm_model.specs.declared.command.Command.TheVariants as command
use Rattle.vm_model.specs.declared.event.Event.{Event}
use Rattle.vm_model.specs.declared.event.Event.TheVariants as event
use Rattle.vm_model.specs.declared.message.Channel.TheVariants.{Up}
use Rattle.vm_model.specs.declared.message.Message.TheVariants as message
use Rattle.vm_model.specs.declared.script.Header.{Header}
use Rattle.vm_model.specs.Regions.{backing_of, region_of}
use Rattle.vm_model.specs.Tasks.{entries_of}
use Rattle.vm_legal.specs.Stretches.{EachOf}
use Rattle.vm_legal.specs.Walks.{Below}

-- one object is another, or stands somewhere under it
abbrev pub IsUnderneath : Header → List Event → ℕ → ℕ → Type 0
IsUnderneath header past top object = (n : ℕ) × Below (λ o. backing_of header o past) n top object

-- the event takes a page of an object from its host that is this one or stands under it, or ends a control of such an object
abbrev pub EndsUnder : Header → List Event → ℕ → Event → Type 0
EndsUnder header past top (event.Dropped host object page) = IsUnderneath header past top object.0
EndsUnder header past top (event.Sent (Up host object) (message.Return control page dirty keep bytes)) = IsUnderneath header past top object.0
EndsUnder header past top (event.Sent (Up host object) (message.Terminate control)) = IsUnderneath header past top object.0
EndsUnder header past top other = ⊥

-- all events that were added are such
pub record EndsBelow (header : Header) (past : List Event) (top : ℕ) (old new : List Event) : Type 0 where
  pub more : List Event
  pub is : new ≡ more ++ old
  pub each : EachOf (EndsUnder header past top) more

-- of an object in the chain of a region
abbrev pub EndsInRegion : Header → List Event → ℕ → Event → Type 0
EndsInRegion header past region e = EndsUnder header past (region_of header region past).top e

-- Entries have gone, and go out of the counts one after another: those that are left, and what has happened by then, behind a history.
pub data EndInTurn (header : Header) (past : List Event) (gone : List Entry) : List Entry → List Event → Type 0 where
  NoneCounted : EndInTurn header past gone gone []
  -- one is counted out, and nothing ends with it
  RegionStays : (row : Entry) (left : List Entry) (events : List Event) → EndInTurn header past gone (row ∷ left) events
      → EndInTurn header past gone left events
  -- its last entry is counted out: what ends then is in its chain
  RegionEnds : (row : Entry) (left : List Entry) (more events : List Event) → EndInTurn header past gone (row ∷ left) events
      → All (λ (other : Entry). other.region ≢ row.region) left
      → EachOf (EndsInRegion header past row.region.0) more → EndInTurn header past gone left (more ++ events)

-- no entry that is left leads to the region of one, and what ended is in its chain
pub record EndsLast (header : Header) (past : List Event) (row : Entry) (left : List Entry) (old new : List Event) : Type 0 where
  pub alone : All (λ (other : Entry). other.region ≢ row.region) left
  pub below : EndsBelow header past (region_of header row.region.0 past).top old new

-- the first of some entries is counted out: nothing happens, or its region ends, as it was the last
pub record CountsOut (header : Header) (past : List Event) (rows left : List Entry) (old new : List Event) : Type 0 where
  pub row : Entry
  pub is : rows ≡ row ∷ left
  pub ends : (new ≡ old) ⊎ EndsLast header past row left old new

-- events were added by which the regions of entries that are counted out end in turn
pub record EndsSoFar (header : Header) (past : List Event) (gone left : List Entry) (old new : List Event) : Type 0 where
  pub more : List Event
  pub is : new ≡ more ++ old
  pub turns : EndInTurn header past gone left more

-- the event says that objects are merged
abbrev pub IsMerge : Event → Type 0
IsMerge (event.Merged upper lower) = Unit {0}
IsMerge other = ⊥

-- all events that were added are such
pub record MergesOnly (old new : List Event) : Type 0 where
  pub more : List Event
  pub is : new ≡ more ++ old
  pub each : EachOf IsMerge more

-- entries are counted out and their regions end in turn, and then objects are merged
pub record EndsAndMerges (header : Header) (past : List Event) (gone : List Entry) (old new : List Event) : Type 0 where
  pub mid : List Event
  pub ends : EndsSoFar header past gone [] old mid
  pub merges : MergesOnly mid new

-- behind the event by which entries go their regions end in turn, and then objects are merged
pub record EndBehind (header : Header) (past : List Event) (first : Event) (gone : List Entry) (events : List Event) : Type 0 where
  pub ended : List Event
  pub merged : List Event
  pub is : events ≡ merged ++ (ended ++ first ∷ [])
  pub turns : EndInTurn header past gone [] ended
  pub merges : EachOf IsMerge merged

-- what a command says of that: a task that ends loses its entries, and a range that is unmapped the parts in it
abbrev pub EndsByAddress : Header → List Event → Command → List Event → Type 0
EndsByAddress header past (command.Exit task) events = EndBehind header past (event.TaskEnded task) (entries_of header.size task.0 past) events
EndsByAddress header past (command.Deallocate task address bytes) events =
    EndBehind header past (event.Removed task address bytes) (parts_in header.size address bytes (entries_of header.size task.0 past)) events
EndsByAddress header past other events = Unit {0}
