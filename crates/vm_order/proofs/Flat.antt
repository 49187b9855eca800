-- Memory to which a history's operations were done is the flat map.
use Rattle.std.proofs.Common.{Bool, List, None, Option, Some, [], ap, false, refl, true, ℕ, ◌&&◌, ◌++◌, ◌+◌, ◌==◌, ◌∙◌, ◌∷◌, ◌≡◌}
use Rattle.std.specs.Prelude.{if◌then◌else◌}
use Rattle.vm_base.specs.Entries.{entry_at}
use Rattle.vm_base.specs.declared.entry.Entry.{Entry}
use Rattle.vm_model.specs.Tasks.{entries_of}
use Rattle.vm_model.specs.Waiting.{Access, Copying, Loading, Storing, waiting}
use Rattle.vm_model.specs.declared.event.Event.{Event}
use Rattle.vm_model.specs.declared.event.Event.TheVariants as event
use Rattle.vm_model.specs.declared.message.Channel.TheVariants.{Down, Up}
use Rattle.vm_model.specs.declared.message.Message.{Message}
use Rattle.vm_model.specs.declared.message.Message.TheVariants as message
use Rattle.vm_model.specs.declared.script.Header.{Header}
use Rattle.vm_legal.specs.Flat.{bytes_after_answer, bytes_after_store, change_by, change_in, flat_page, is_number, made_over}
use Rattle.vm_legal.specs.Outside.{Outside, is_said, zeros}
use Rattle.vm_order.specs.Operations.{Operation, load_ends, loaded_at, memory, operations, page_copied, said, store_ends, stored_at}

-- a load changes nothing
load_found : (header : Header) (outside : Outside) (task address bytes value : ℕ) (x : Option Entry) (ops : List Operation) (region page : ℕ)
    → memory header outside (loaded_at header.size task address bytes value x ++ ops) region page ≡ memory header outside ops region page
load_found header outside task address bytes value None ops region page = refl
load_found header outside task address bytes value (Some row) ops region page = refl

load_is : (header : Header) (outside : Outside) (task value : ℕ) (entries : List Entry) (access : Option Access) (ops : List Operation) (region page : ℕ)
    → memory header outside (load_ends header.size task value entries access ++ ops) region page ≡ memory header outside ops region page
load_is header outside task value entries None ops region page = refl
load_is header outside task value entries (Some (Loading address bytes)) ops region page =
    load_found header outside task address bytes value (entry_at address entries) ops region page
load_is header outside task value entries (Some (Storing address bytes put)) ops region page = refl
load_is header outside task value entries (Some (Copying address bytes to)) ops region page = refl

-- a store changes one page
store_found : (header : Header) (outside : Outside) (task address bytes value : ℕ) (x : Option Entry) (ops : List Operation) (region page : ℕ)
    → memory header outside (stored_at header.size task address bytes value x ++ ops) region page ≡ bytes_after_store region page
    (change_in header.size address bytes value x) (memory header outside ops region page)
store_found header outside task address bytes value None ops region page = refl
store_found header outside task address bytes value (Some row) ops region page = refl

store_is : (header : Header) (outside : Outside) (task : ℕ) (entries : List Entry) (access : Option Access) (ops : List Operation) (region page : ℕ)
    → memory header outside (store_ends header.size task entries access ++ ops) region page ≡ bytes_after_store region page
    (change_by header.size entries access) (memory header outside ops region page)
store_is header outside task entries None ops region page = refl
store_is header outside task entries (Some (Loading address bytes)) ops region page = refl
store_is header outside task entries (Some (Storing address bytes value)) ops region page =
    store_found header outside task address bytes value (entry_at address entries) ops region page
store_is header outside task entries (Some (Copying address bytes to)) ops region page = refl

-- so does a slow copy
copy_is : (header : Header) (outside : Outside) (made : Option ℕ) (index source source_page : ℕ) (ops : List Operation) (region page : ℕ)
    → memory header outside (page_copied made index source source_page ++ ops) region page
    ≡ (if is_number region made && page == index then memory header outside ops source source_page else memory header outside ops region page)
copy_is header outside None index source source_page ops region page = refl
copy_is header outside (Some r) index source source_page ops region page = refl

-- and what a pager says
say_is : (header : Header) (outside : Outside) (says : Bool) (file : ℕ) (m : Message) (ops : List Operation) (region page : ℕ)
    → memory header outside (said header says file m ++ ops) region page ≡ bytes_after_answer header says region page file m
    (memory header outside ops region page)
say_is header outside true file (message.Supply at lock precious bytes) ops region page = refl
say_is header outside false file (message.Supply at lock precious bytes) ops region page = refl
say_is header outside true file (message.Unavailable at) ops region page = refl
say_is header outside false file (message.Unavailable at) ops region page = refl
say_is header outside true file other ops region page = refl
say_is header outside false file other ops region page = refl

pub memory_is_flat : (header : Header) (outside : Outside) (history : List Event) (region page : ℕ)
    → memory header outside (operations header outside history) region page ≡ flat_page header outside region page history
memory_is_flat header outside [] region page = refl
memory_is_flat header outside (event.Loaded task object in_object value ∷ past) region page =
    load_is header outside task.0 value (entries_of header.size task.0 past) (waiting task.0 past) (operations header outside past) region page
    ∙ memory_is_flat header outside past region page
memory_is_flat header outside (event.Stored task object in_object at size value ∷ past) region page =
    store_is header outside task.0 (entries_of header.size task.0 past) (waiting task.0 past) (operations header outside past) region page
    ∙ ap (bytes_after_store region page (change_by header.size (entries_of header.size task.0 past) (waiting task.0 past)))
    (memory_is_flat header outside past region page)
memory_is_flat header outside (event.RegionMade made object pages ∷ past) region page =
    ap (λ z. if region == made.0 then zeros header else z) (memory_is_flat header outside past region page)
memory_is_flat header outside (event.RegionCopied made source offset pages ∷ past) region page =
    ap (λ z. if region == made.0 then z else memory header outside (operations header outside past) region page)
    (memory_is_flat header outside past source.0 (offset + page))
    ∙ ap (λ z. if region == made.0 then flat_page header outside source.0 (offset + page) past else z) (memory_is_flat header outside past region page)
memory_is_flat header outside (event.Delayed made source offset pages copy ∷ past) region page =
    ap (λ z. if region == made.0 then z else memory header outside (operations header outside past) region page)
    (memory_is_flat header outside past source.0 (offset + page))
    ∙ ap (λ z. if region == made.0 then flat_page header outside source.0 (offset + page) past else z) (memory_is_flat header outside past region page)
memory_is_flat header outside (event.CopiedPage task index object object_page target ∷ past) region page =
    copy_is header outside (made_over target.0 past) index.0 object.0 object_page.0 (operations header outside past) region page
    ∙ (ap (λ z. if is_number region (made_over target.0 past) && page == index.0 then z else memory header outside (operations header outside past) region page)
    (memory_is_flat header outside past object.0 object_page.0)
    ∙ ap (λ z. if is_number region (made_over target.0 past) && page == index.0 then flat_page header outside object.0 object_page.0 past else z)
    (memory_is_flat header outside past region page))
memory_is_flat header outside (event.Sent (Down host object control) m ∷ past) region page =
    say_is header outside (is_said header outside object.0) object.0 m (operations header outside past) region page
    ∙ ap (bytes_after_answer header (is_said header outside object.0) region page object.0 m) (memory_is_flat header outside past region page)
memory_is_flat header outside (event.Sent (Up host object) m ∷ past) region page = memory_is_flat header outside past region page
memory_is_flat header outside (e ∷ past) region page = memory_is_flat header outside past region page
