-- The counts of entries go up and down, and what no entry leads to goes.
use Rattle.std.specs.Prelude.{ℕ, ◌≡◌, ◌≢◌, ◌&&◌, ◌+◌, ◌<◌, ◌≤◌, ◌⊎◌, ◌++◌, false, nat_lt, true, Contains, List, [], ◌∷◌, length, Option, Some, None}
use Rattle.std.specs.List.{filter}
use Rattle.vm_base.specs.declared.entry.Entry.{Entry}
use Rattle.vm_base.specs.declared.ids.ObjectId.{ObjectId}
use Rattle.vm_base.specs.declared.ids.RegionId.{RegionId}
use Rattle.vm_merge.specs.Merges.{IsThinBut}
use Rattle.vm_model.specs.declared.event.Event.{Event}
use Rattle.vm_model.specs.declared.event.Event.TheVariants as event
use Rattle.vm_model.specs.declared.message.Channel.TheVariants.{Up}
use Rattle.vm_model.specs.declared.message.Message.TheVariants as message
use Rattle.vm_model.specs.declared.command.Command.{Command}
use Rattle.vm_model.specs.declared.script.Header.{Header}
use Rattle.vm_legal.specs.Outside.{Outside}
use Rattle.vm_legal.specs.Stretches.{EachOf}
use Rattle.vm_objects.specs.Objects.{object_at}
use Rattle.vm_objects.specs.declared.row.ObjectRow.{ObjectRow}
use Rattle.vm_shadow.specs.Chains.{ChainTable, PutsRegion, region_at, shadow_at}
use Rattle.vm_shadow.specs.declared.ids.Ids.{Ids}
use Rattle.vm_shadow.specs.declared.region_row.RegionRow.{RegionRow}
use Rattle.vm_kernel.specs.Begun.{IsInStep}
use Rattle.vm_state.specs.Counts.{count_on}
use Rattle.vm_state.specs.References.{AllReferred, AllReferredBut}
use Rattle.vm_state.specs.Filling.{IsFilledIn, fills_in}
use Rattle.vm_waits.specs.Waits.{entry}
use Rattle.vm_kernel.specs.Matches.{HasOrder, HasSlow, HasWaits, Matches, UsesAll}
use Rattle.vm_resident.specs.Resident.{ResidentTable, row_at}
use Rattle.vm_resident.specs.declared.page_row.PageRow.{PageRow}
use Rattle.vm_supply.specs.declared.woken.Woken.{Woken}
use Rattle.vm_state.specs.Places.{has_region, region_entries, with_entries}
use Rattle.vm_kernel.specs.declared.parts.Parts.{Parts}

-- a region has this number of entries now
abbrev pub PutsEntries : ℕ → ℕ → ChainTable → ChainTable → Type 0
PutsEntries region count old new = PutsRegion region (with_entries count (region_at old region)) old new

-- each region counts these entries too
pub record Raised (rows : List Entry) (old new : ChainTable) : Type 0 where
  pub shadows : (o : ℕ) → shadow_at new o ≡ shadow_at old o
  pub at : (r : ℕ) → region_at new r ≡ with_entries (region_entries old r + count_on r rows) (region_at old r)

-- the entries with addresses on both sides of a boundary
abbrev pub cut_at : ℕ → List Entry → List Entry
cut_at boundary rows = filter (λ row. nat_lt row.address boundary && nat_lt boundary (row.address + row.bytes)) rows

-- the entries that are cut at the ends of a range, one that is cut at both twice
abbrev pub cut_at_ends : ℕ → ℕ → List Entry → List Entry
cut_at_ends address bytes rows = cut_at address rows ++ cut_at (address + bytes) rows

-- the region of the first of some entries
abbrev pub first_region : List Entry → Option RegionId
first_region [] = None
first_region (row ∷ rows) = Some row.region

-- one entry on this region, or none
pub record IsCutOn (region : Option RegionId) (rows : List Entry) : Type 0 where
  pub is : region ≡ first_region rows
  pub few : length rows ≤ 1

-- what is given to calls that take entries out of the counts: those that are left, too
pub record Releasing : Type 0 where
  pub header : Header
  pub host : ℕ
  pub outside : Outside
  pub past : List Event
  pub command : Command
  pub rest : List Entry

-- some entries have gone, but are still among the counts
pub record Sweeps (header : Header) (h : ℕ) (outside : Outside) (doing : Command) (past : List Event) (k : Parts) (ids : Ids) (gone : List Entry)
    (events : List Event) : Type 0 where
  pub runs : IsInStep header h outside doing past k ids gone events
  pub used : UsesAll header k (events ++ past)
  pub referred : AllReferred k.chains k.memory.objects k.memory.resident

-- what is given to calls that end regions and objects: whom an answer has woken, and the entries that have gone but are still among the counts
pub record Ending : Type 0 where
  pub header : Header
  pub host : ℕ
  pub outside : Outside
  pub past : List Event
  pub command : Command
  pub who : Woken
  pub rest : List Entry

-- inside any step, with some who were woken, and some entries that have just gone among the counts
pub record IsAmid (header : Header) (h : ℕ) (who : Woken) (k : Parts) (ids : Ids) (gone : List Entry) (past : List Event) : Type 0 where
  pub matches : Matches header h k ids gone past
  pub waits : HasWaits header h k who past
  pub order : HasOrder k past

-- each region has an entry or is filled, and something refers to each object
pub record IsWhole (header : Header) (h : ℕ) (who : Woken) (k : Parts) (ids : Ids) (gone : List Entry) (past : List Event) : Type 0 where
  pub runs : IsAmid header h who k ids gone past
  pub used : UsesAll header k past
  pub referred : AllReferred k.chains k.memory.objects k.memory.resident

-- pages may have gone, and nothing else has
abbrev pub OnlyLoses : ResidentTable → ResidentTable → Type 0
OnlyLoses old new = (o p : ℕ) (row : PageRow) → row_at new o p ≡ Some row → row_at old o p ≡ Some row

-- the event takes a page from the host, or ends a control
abbrev pub IsEnding : Event → Type 0
IsEnding (event.Dropped host object page) = Unit {0}
IsEnding (event.Sent (Up host object) (message.Return control page dirty keep bytes)) = Unit {0}
IsEnding (event.Sent (Up host object) (message.Terminate control)) = Unit {0}
IsEnding other = ⊥

-- all events that were added are such
pub record EndsOnly (old new : List Event) : Type 0 where
  pub more : List Event
  pub is : new ≡ more ++ old
  pub each : EachOf IsEnding more

-- a region has no entries left, and each other one has some, or is filled by an access that waits
pub record EndsRegion (header : Header) (h : ℕ) (who : Woken) (k : Parts) (ids : Ids) (gone : List Entry) (region : ℕ) (past : List Event) : Type 0 where
  pub runs : IsAmid header h who k ids gone past
  pub there : has_region k.chains region ≡ true
  pub none : region_entries k.chains region ≡ 0
  pub others : (r : ℕ) (row : RegionRow) → r ≢ region → region_at k.chains r ≡ Some row → (0 < row.entries) ⊎ IsFilledIn k.waits.rows r
  pub copies : HasSlow header k past
  pub unfilled : (task : ℕ) → fills_in region (entry k.waits.rows task) ≡ false
  pub referred : AllReferred k.chains k.memory.objects k.memory.resident

-- nothing refers to an object any more, and something to each other one that lives, has pages or is a shadow
pub record EndsObject (header : Header) (h : ℕ) (who : Woken) (k : Parts) (ids : Ids) (gone : List Entry) (object : ℕ) (past : List Event) : Type 0 where
  pub runs : IsAmid header h who k ids gone past
  pub used : UsesAll header k past
  pub row : ObjectRow
  pub known : object_at k.memory.objects object ≡ Some row
  pub none : row.references ≡ 0
  pub referred : AllReferredBut object k.chains k.memory.objects k.memory.resident

-- the top of a region is no shadow, and the region is all that refers to it
pub record IsBareTop (region : ℕ) (k : Parts) : Type 0 where
  pub row : RegionRow
  pub found : region_at k.chains region ≡ Some row
  pub known : ObjectRow
  pub top : object_at k.memory.objects row.top.0 ≡ Some known
  pub one : known.references ≡ 1
  pub bare : shadow_at k.chains row.top.0 ≡ None

-- what could be merged but for some can be but for them, and for this one
abbrev pub LeavesLoser : Option ObjectId → Parts → Parts → Type 0
LeavesLoser left old new =
    (losers more : List ObjectId) → ((x : ObjectId) → Contains losers x → Contains more x) → ((o : ObjectId) → left ≡ Some o → Contains more o)
    → IsThinBut old.copies losers old.chains old.memory.objects → IsThinBut new.copies more new.chains new.memory.objects
