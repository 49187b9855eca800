-- What was done to memory says of which file a region was copied.
use Rattle.std.proofs.Common.{Bool, List, None, Option, Some, false, [], ap, refl, true, ℕ, ◌++◌, ◌==◌, ◌∙◌, ◌∷◌, ◌≡◌}
use Rattle.std.specs.Prelude.{if◌then◌else◌}
use Rattle.vm_base.specs.Entries.{entry_at}
use Rattle.vm_base.specs.declared.entry.Entry.{Entry}
use Rattle.vm_model.specs.Moments.{EachEvent}
use Rattle.vm_model.specs.Regions.{comes_from}
use Rattle.vm_model.specs.Tasks.{entries_of}
use Rattle.vm_model.specs.Waiting.{Access, Copying, Loading, Storing, waiting}
use Rattle.vm_model.specs.declared.event.Event.{Event}
use Rattle.vm_model.specs.declared.event.Event.TheVariants as event
use Rattle.vm_model.specs.declared.message.Channel.TheVariants.{Down, Up}
use Rattle.vm_model.specs.declared.message.Message.{Message}
use Rattle.vm_model.specs.declared.message.Message.TheVariants as message
use Rattle.vm_model.specs.declared.script.Header.{Header}
use Rattle.vm_legal.specs.Flat.{made_over}
use Rattle.vm_legal.specs.Licences.{HasCause}
use Rattle.vm_legal.specs.Outside.{Outside, is_said}
use Rattle.vm_legal.proofs.Files.{not_file}
use Rattle.vm_order.specs.Operations.{Operation, copied_from, load_ends, loaded_at, operations, page_copied, said, store_ends, stored_at}

-- loads, stores, slow copies and answers copy no region

by_load : (header : Header) (task value region : ℕ) (entries : List Entry) (access : Option Access) (ops : List Operation)
    → copied_from header region (load_ends header.size task value entries access ++ ops) ≡ copied_from header region ops
by_load header task value region entries None ops = refl
by_load header task value region entries (Some (Storing address bytes put)) ops = refl
by_load header task value region entries (Some (Copying address bytes to)) ops = refl
by_load header task value region entries (Some (Loading address bytes)) ops = by (entry_at address entries)
  where
    by : (x : Option Entry) → copied_from header region (loaded_at header.size task address bytes value x ++ ops) ≡ copied_from header region ops
    by None = refl
    by (Some row) = refl

by_store : (header : Header) (task region : ℕ) (entries : List Entry) (access : Option Access) (ops : List Operation)
    → copied_from header region (store_ends header.size task entries access ++ ops) ≡ copied_from header region ops
by_store header task region entries None ops = refl
by_store header task region entries (Some (Loading address bytes)) ops = refl
by_store header task region entries (Some (Copying address bytes to)) ops = refl
by_store header task region entries (Some (Storing address bytes value)) ops = by (entry_at address entries)
  where
    by : (x : Option Entry) → copied_from header region (stored_at header.size task address bytes value x ++ ops) ≡ copied_from header region ops
    by None = refl
    by (Some row) = refl

by_copy : (header : Header) (made : Option ℕ) (index source source_page region : ℕ) (ops : List Operation)
    → copied_from header region (page_copied made index source source_page ++ ops) ≡ copied_from header region ops
by_copy header None index source source_page region ops = refl
by_copy header (Some r) index source source_page region ops = refl

by_answer : (header : Header) (says : Bool) (file : ℕ) (m : Message) (region : ℕ) (ops : List Operation)
    → copied_from header region (said header says file m ++ ops) ≡ copied_from header region ops
by_answer header true file (message.Supply at lock precious bytes) region ops = refl
by_answer header false file (message.Supply at lock precious bytes) region ops = refl
by_answer header true file (message.Unavailable at) region ops = refl
by_answer header false file (message.Unavailable at) region ops = refl
by_answer header true file other region ops = refl
by_answer header false file other region ops = refl

-- a file is copied to a delayed copy, and temporary memory to any other
pub from_is : (header : Header) (outside : Outside) (history : List Event) → EachEvent (HasCause header outside) history → (region : ℕ)
    → copied_from header region (operations header outside history) ≡ comes_from region history
from_is header outside [] causes region = refl
from_is header outside (event.Loaded task object page value ∷ past) causes region =
    by_load header task.0 value region (entries_of header.size task.0 past) (waiting task.0 past) (operations header outside past)
    ∙ from_is header outside past causes.1 region
from_is header outside (event.Stored task object page at size value ∷ past) causes region =
    by_store header task.0 region (entries_of header.size task.0 past) (waiting task.0 past) (operations header outside past)
    ∙ from_is header outside past causes.1 region
from_is header outside (event.RegionCopied new source offset pages ∷ past) causes region =
    let ops = operations header outside past in
    ap (λ b. if region == new.0 then (if b then Some source.0 else copied_from header source.0 ops) else copied_from header region ops)
    (not_file header source.0 causes.0.1.temporary)
    ∙ (ap (λ z. if region == new.0 then z else copied_from header region ops) (from_is header outside past causes.1 source.0)
    ∙ ap (λ z. if region == new.0 then comes_from source.0 past else z) (from_is header outside past causes.1 region))
from_is header outside (event.Delayed new source offset pages copy ∷ past) causes region =
    let ops = operations header outside past in
    ap (λ b. if region == new.0 then (if b then Some source.0 else copied_from header source.0 ops) else copied_from header region ops) causes.0.1.file
    ∙ ap (λ z. if region == new.0 then Some source.0 else z) (from_is header outside past causes.1 region)
from_is header outside (event.CopiedPage task index object object_page target ∷ past) causes region =
    by_copy header (made_over target.0 past) index.0 object.0 object_page.0 region (operations header outside past)
    ∙ from_is header outside past causes.1 region
from_is header outside (event.Sent (Down host object control) m ∷ past) causes region =
    by_answer header (is_said header outside object.0) object.0 m region (operations header outside past) ∙ from_is header outside past causes.1 region
from_is header outside (event.Sent (Up host object) m ∷ past) causes region = from_is header outside past causes.1 region
from_is header outside (event.RegionMade new object pages ∷ past) causes region = from_is header outside past causes.1 region
from_is header outside (e ∷ past) causes region = from_is header outside past causes.1 region
