-- The flat map: the bytes of each region, with each copy made at once.
use Rattle.std.specs.Prelude.{ℕ, ◌+◌, ◌%◌, List, [], ◌∷◌, if◌then◌else◌, ◌==◌, ◌&&◌, Bool, false, Option, Some, None}
use Rattle.vm_base.specs.declared.entry.Entry.{Entry}
use Rattle.vm_base.specs.Entries.{entry_at, page_at}
use Rattle.vm_base.specs.Pages.{little_endian_bytes, with_bytes}
use Rattle.vm_model.specs.declared.event.Event.{Event}
use Rattle.vm_model.specs.declared.event.Event.TheVariants as event
use Rattle.vm_model.specs.declared.message.Channel.TheVariants.{Down}
use Rattle.vm_model.specs.declared.message.Message.{Message}
use Rattle.vm_model.specs.declared.message.Message.TheVariants as message
use Rattle.vm_model.specs.declared.script.Header.{Header}
use Rattle.vm_legal.specs.Outside.{Outside, is_file, is_said, start_page, zeros}
use Rattle.vm_model.specs.Tasks.{entries_of}
use Rattle.vm_model.specs.Waiting.{Access, Storing, waiting}

-- what a store changes: these bytes stand at this place of the region's page
pub record StoreChange : Type 0 where
  pub region : ℕ
  pub page : ℕ
  pub at : ℕ
  pub bytes : List ℕ

abbrev pub change_in : ℕ → ℕ → ℕ → ℕ → Option Entry → Option StoreChange
change_in size address bytes value None = None
change_in size address bytes value (Some entry) =
    Some (record { region = entry.region.0; page = page_at size address entry; at = address % size; bytes = little_endian_bytes bytes value })

abbrev pub change_by : ℕ → List Entry → Option Access → Option StoreChange
change_by size entries (Some (Storing address bytes value)) = change_in size address bytes value (entry_at address entries)
change_by size entries other = None

-- what a task's store changes: its value stands at the address with which it began
abbrev pub change_of : ℕ → ℕ → List Event → Option StoreChange
change_of size task past = change_by size (entries_of size task past) (waiting task past)

abbrev pub bytes_after_store : ℕ → ℕ → Option StoreChange → List ℕ → List ℕ
bytes_after_store region page None was = was
bytes_after_store region page (Some change) was = if region == change.region && page == change.page then with_bytes change.at change.bytes was else was

-- the region that was made over an object
abbrev pub made_over : ℕ → List Event → Option ℕ
made_over object [] = None
made_over object (event.RegionMade region over pages ∷ past) = if object == over.0 then Some region.0 else made_over object past
made_over object (e ∷ past) = made_over object past

abbrev pub is_number : ℕ → Option ℕ → Bool
is_number n None = false
is_number n (Some m) = n == m

-- where files are not told, an answer about an object's page gives that page of the object's region its bytes
abbrev pub bytes_after_answer : Header → Bool → ℕ → ℕ → ℕ → Message → List ℕ → List ℕ
bytes_after_answer header says region page object (message.Supply at lock precious bytes) was =
    if says && (region == object && page == at.0) then bytes else was
bytes_after_answer header says region page object (message.Unavailable at) was = if says && (region == object && page == at.0) then zeros header else was
bytes_after_answer header says region page object other was = was

-- the bytes of a page of a region
abbrev pub flat_page : Header → Outside → ℕ → ℕ → List Event → List ℕ
flat_page header outside region page [] = if is_file header region then start_page header outside region page else zeros header
flat_page header outside region page (event.RegionMade made object pages ∷ past) =
    if region == made.0 then zeros header else flat_page header outside region page past
flat_page header outside region page (event.RegionCopied made source offset pages ∷ past) =
    if region == made.0 then flat_page header outside source.0 (offset + page) past else flat_page header outside region page past
flat_page header outside region page (event.Delayed made source offset pages copy ∷ past) =
    if region == made.0 then flat_page header outside source.0 (offset + page) past else flat_page header outside region page past
flat_page header outside region page (event.Stored task object in_object at size value ∷ past) =
    bytes_after_store region page (change_of header.size task.0 past) (flat_page header outside region page past)
flat_page header outside region page (event.CopiedPage task index object object_page target ∷ past) =
    if is_number region (made_over target.0 past) && page == index.0 then flat_page header outside object.0 object_page.0 past else flat_page header outside
    region page past
flat_page header outside region page (event.Sent (Down host object control) m ∷ past) =
    bytes_after_answer header (is_said header outside object.0) region page object.0 m (flat_page header outside region page past)
flat_page header outside region page (e ∷ past) = flat_page header outside region page past
