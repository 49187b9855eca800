-- One memory: what was done to it, one thing after another, and what stands in it then.
use Rattle.std.specs.Prelude.{ℕ, ◌+◌, ◌%◌, ◌==◌, ◌&&◌, ◌++◌, Bool, true, List, [], ◌∷◌, if◌then◌else◌, Option, Some, None}
use Rattle.vm_base.specs.Entries.{entry_at, page_at}
use Rattle.vm_base.specs.Pages.{little_endian_bytes, with_bytes}
use Rattle.vm_base.specs.declared.entry.Entry.{Entry}
use Rattle.vm_model.specs.Tasks.{entries_of}
use Rattle.vm_model.specs.Waiting.{Access, Loading, Storing, waiting}
use Rattle.vm_model.specs.declared.event.Event.{Event}
use Rattle.vm_model.specs.declared.event.Event.TheVariants as event
use Rattle.vm_model.specs.declared.message.Channel.TheVariants.{Down}
use Rattle.vm_model.specs.declared.message.Message.{Message}
use Rattle.vm_model.specs.declared.message.Message.TheVariants as message
use Rattle.vm_model.specs.declared.script.Header.{Header}
use Rattle.vm_legal.specs.Flat.{made_over}
use Rattle.vm_legal.specs.Outside.{Outside, is_file, is_said, start_page, zeros}

-- what is done to the pages of regions, each of which has its number in its region
pub data Operation : Type 0 where
  -- a task's load has ended with a number, which it found at an address in a page
  Load : (task region page address bytes value : ℕ) → Operation
  -- a task's store has ended: its number stands at an address in a page
  Store : (task region page address bytes value : ℕ) → Operation
  -- a region was made, of zeros
  Make : (region : ℕ) → Operation
  -- a region was made, of the pages of another, from one on
  Copy : (region source offset : ℕ) → Operation
  -- a page has become a copy of another region's page
  CopyPage : (region page source source_page : ℕ) → Operation
  -- a pager said what a page of a file is which nobody told
  Say : (region page : ℕ) → (bytes : List ℕ) → Operation

-- a load that ends at an entry
abbrev pub loaded_at : ℕ → ℕ → ℕ → ℕ → ℕ → Option Entry → List Operation
loaded_at size task address bytes value None = []
loaded_at size task address bytes value (Some row) = Load task row.region.0 (page_at size address row) address bytes value ∷ []

-- a store that ends at an entry
abbrev pub stored_at : ℕ → ℕ → ℕ → ℕ → ℕ → Option Entry → List Operation
stored_at size task address bytes value None = []
stored_at size task address bytes value (Some row) = Store task row.region.0 (page_at size address row) address bytes value ∷ []

-- the load with which a task waits ends with a value
abbrev pub load_ends : ℕ → ℕ → ℕ → List Entry → Option Access → List Operation
load_ends size task value entries (Some (Loading address bytes)) = loaded_at size task address bytes value (entry_at address entries)
load_ends size task value entries other = []

-- the store with which a task waits ends
abbrev pub store_ends : ℕ → ℕ → List Entry → Option Access → List Operation
store_ends size task entries (Some (Storing address bytes value)) = stored_at size task address bytes value (entry_at address entries)
store_ends size task entries other = []

-- a slow copy has copied a page to the region that was made over its target, if one was
abbrev pub page_copied : Option ℕ → ℕ → ℕ → ℕ → List Operation
page_copied None page source source_page = []
page_copied (Some region) page source source_page = CopyPage region page source source_page ∷ []

-- where a file isn't told, an answer of its pager says what a page of it is
abbrev pub said : Header → Bool → ℕ → Message → List Operation
said header true file (message.Supply page lock precious bytes) = Say file page.0 bytes ∷ []
said header true file (message.Unavailable page) = Say file page.0 (zeros header) ∷ []
said header says file other = []

-- What a history did to memory, each thing where it ended, the newest first.
abbrev pub operations : Header → Outside → List Event → List Operation
operations header outside [] = []
operations header outside (event.Loaded task object page value ∷ past) =
    load_ends header.size task.0 value (entries_of header.size task.0 past) (waiting task.0 past) ++ operations header outside past
operations header outside (event.Stored task object page at size value ∷ past) =
    store_ends header.size task.0 (entries_of header.size task.0 past) (waiting task.0 past) ++ operations header outside past
operations header outside (event.RegionMade region object pages ∷ past) = Make region.0 ∷ operations header outside past
operations header outside (event.RegionCopied region source offset pages ∷ past) = Copy region.0 source.0 offset ∷ operations header outside past
operations header outside (event.Delayed region source offset pages copy ∷ past) = Copy region.0 source.0 offset ∷ operations header outside past
operations header outside (event.CopiedPage task page object object_page target ∷ past) =
    page_copied (made_over target.0 past) page.0 object.0 object_page.0 ++ operations header outside past
operations header outside (event.Sent (Down host object control) m ∷ past) =
    said header (is_said header outside object.0) object.0 m ++ operations header outside past
operations header outside (e ∷ past) = operations header outside past

-- The page of a region in a memory to which this was done.
abbrev pub memory : Header → Outside → List Operation → ℕ → ℕ → List ℕ
memory header outside [] region page = if is_file header region then start_page header outside region page else zeros header
memory header outside (Load task r p address bytes value ∷ past) region page = memory header outside past region page
memory header outside (Store task r p address bytes value ∷ past) region page =
    if region == r && page == p then with_bytes (address % header.size) (little_endian_bytes bytes value) (memory header outside past region page) else memory
    header outside past region page
memory header outside (Make r ∷ past) region page = if region == r then zeros header else memory header outside past region page
memory header outside (Copy r source offset ∷ past) region page =
    if region == r then memory header outside past source (offset + page) else memory header outside past region page
memory header outside (CopyPage r p source source_page ∷ past) region page =
    if region == r && page == p then memory header outside past source source_page else memory header outside past region page
memory header outside (Say r p bytes ∷ past) region page = if region == r && page == p then bytes else memory header outside past region page

-- the file of which a region was copied, at once or by way of other copies
abbrev pub copied_from : Header → ℕ → List Operation → Option ℕ
copied_from header region [] = None
copied_from header region (Copy new source offset ∷ past) =
    if region == new then (if is_file header source then Some source else copied_from header source past) else copied_from header region past
copied_from header region (other ∷ past) = copied_from header region past
