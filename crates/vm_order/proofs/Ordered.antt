-- Each load reads what was stored there last.
use Rattle.std.proofs.Common.{Bool, List, None, Option, Some, false, [], ap, subst, sym, true, ℕ, ◌||◌, ◌++◌, ◌∙◌, ◌∷◌, ◌≡◌}
use Rattle.vm_base.specs.Entries.{entry_at, page_at}
use Rattle.vm_base.specs.declared.entry.Entry.{Entry}
use Rattle.vm_model.specs.Bytes.{number_at}
use Rattle.vm_model.specs.Moments.{EachEvent}
use Rattle.vm_model.specs.Tasks.{entries_of}
use Rattle.vm_model.specs.Waiting.{Access, Copying, Loading, Storing, waiting}
use Rattle.vm_model.specs.declared.event.Event.{Event}
use Rattle.vm_model.specs.declared.event.Event.TheVariants as event
use Rattle.vm_model.specs.declared.message.Channel.TheVariants.{Down, Up}
use Rattle.vm_model.specs.declared.message.Message.{Message}
use Rattle.vm_model.specs.declared.message.Message.TheVariants as message
use Rattle.vm_model.specs.declared.script.Header.{Header}
use Rattle.vm_legal.specs.Bytes.{AnswersFlat, FlatBytes, OwnBytes}
use Rattle.vm_legal.specs.Flat.{made_over}
use Rattle.vm_legal.specs.Licences.{HasCause}
use Rattle.vm_legal.specs.Outside.{Outside, is_private_from, is_said, is_shared}
use Rattle.vm_order.specs.OneMemory.{IsOneAtATime, IsOneMemory, LoadsRead}
use Rattle.vm_order.specs.Operations.{Operation, load_ends, loaded_at, operations, page_copied, said, store_ends, stored_at}
use Rattle.vm_order.proofs.Flat.{memory_is_flat}
use Rattle.vm_order.proofs.From.{from_is}

-- what isn't a load reads nothing

stores_read : (header : Header) (outside : Outside) (task : ℕ) (entries : List Entry) (access : Option Access) (ops : List Operation)
    → LoadsRead header outside ops → LoadsRead header outside (store_ends header.size task entries access ++ ops)
stores_read header outside task entries None ops reads = reads
stores_read header outside task entries (Some (Loading address bytes)) ops reads = reads
stores_read header outside task entries (Some (Copying address bytes to)) ops reads = reads
stores_read header outside task entries (Some (Storing address bytes value)) ops reads = by (entry_at address entries)
  where
    by : (x : Option Entry) → LoadsRead header outside (stored_at header.size task address bytes value x ++ ops)
    by None = reads
    by (Some row) = reads

copies_read : (header : Header) (outside : Outside) (made : Option ℕ) (index source source_page : ℕ) (ops : List Operation) → LoadsRead header outside ops
    → LoadsRead header outside (page_copied made index source source_page ++ ops)
copies_read header outside None index source source_page ops reads = reads
copies_read header outside (Some region) index source source_page ops reads = reads

says_read : (header : Header) (outside : Outside) (says : Bool) (file : ℕ) (m : Message) (ops : List Operation) → LoadsRead header outside ops
    → LoadsRead header outside (said header says file m ++ ops)
says_read header outside true file (message.Supply at lock precious bytes) ops reads = reads
says_read header outside false file (message.Supply at lock precious bytes) ops reads = reads
says_read header outside true file (message.Unavailable at) ops reads = reads
says_read header outside false file (message.Unavailable at) ops reads = reads
says_read header outside true file other ops reads = reads
says_read header outside false file other ops reads = reads

-- a load reads what stands in the flat map's page
load_reads : (header : Header) (outside : Outside) (task value : ℕ) (past : List Event) → EachEvent (HasCause header outside) past
    → AnswersFlat header outside task value past
    → LoadsRead header outside (operations header outside past)
    → LoadsRead header outside (load_ends header.size task value (entries_of header.size task past) (waiting task past) ++ operations header outside past)
load_reads header outside task value past causes answers reads =
    let ops = operations header outside past in
    let entries = entries_of header.size task past in
    let address = answers.address in
    let bytes = answers.bytes in
    let row = answers.waits.at.entry in
    let found : entry_at address entries ≡ Some row = answers.waits.at.found in
    subst (λ (z : Option Access). LoadsRead header outside (load_ends header.size task value entries z ++ ops)) (sym answers.waits.waits)
    (subst (λ (z : Option Entry). LoadsRead header outside (loaded_at header.size task address bytes value z ++ ops)) (sym found) (
      (λ flat. answers.number (ap (λ z. is_private_from header outside row.region.0 z || is_shared header row.region.0)
          (sym (from_is header outside past causes row.region.0)) ∙ flat)
          ∙ ap (λ z. number_at z header.size address bytes)
          (sym (memory_is_flat header outside past row.region.0 (page_at header.size address row)))),
      reads,
    ))

all_read : (header : Header) (outside : Outside) (history : List Event) → EachEvent (HasCause header outside) history
    → EachEvent (FlatBytes header outside) history
    → LoadsRead header outside (operations header outside history)
all_read header outside [] causes flat = tt
all_read header outside (event.Loaded task object page value ∷ past) causes flat =
    load_reads header outside task.0 value past causes.1 flat.0 (all_read header outside past causes.1 flat.1)
all_read header outside (event.Stored task object page at size value ∷ past) causes flat =
    stores_read header outside task.0 (entries_of header.size task.0 past) (waiting task.0 past) (operations header outside past)
    (all_read header outside past causes.1 flat.1)
all_read header outside (event.RegionMade region object pages ∷ past) causes flat = all_read header outside past causes.1 flat.1
all_read header outside (event.RegionCopied region source offset pages ∷ past) causes flat = all_read header outside past causes.1 flat.1
all_read header outside (event.Delayed region source offset pages copy ∷ past) causes flat = all_read header outside past causes.1 flat.1
all_read header outside (event.CopiedPage task index object object_page target ∷ past) causes flat =
    copies_read header outside (made_over target.0 past) index.0 object.0 object_page.0 (operations header outside past)
    (all_read header outside past causes.1 flat.1)
all_read header outside (event.Sent (Down host object control) m ∷ past) causes flat =
    says_read header outside (is_said header outside object.0) object.0 m (operations header outside past) (all_read header outside past causes.1 flat.1)
all_read header outside (event.Sent (Up host object) m ∷ past) causes flat = all_read header outside past causes.1 flat.1
all_read header outside (e ∷ past) causes flat = all_read header outside past causes.1 flat.1

-- a task has one access at a time

one_at_a_time : (header : Header) (outside : Outside) (e : Event) (past : List Event) → HasCause header outside e past → OwnBytes header e past
    → IsOneAtATime header e past
one_at_a_time header outside (event.BegunLoad task address bytes) past cause own = cause.1
one_at_a_time header outside (event.BegunStore task address bytes value) past cause own = cause.1
one_at_a_time header outside (event.BegunCopy task address bytes to) past cause own = cause.1
one_at_a_time header outside (event.Loaded task object page value) past cause own =
    (own.address, own.bytes, record { waits = own.waits.waits; entry = own.waits.at.entry; found = own.waits.at.found })
one_at_a_time header outside (event.Stored task object page at bytes value) past cause own =
    (own.address, record { waits = own.waits.waits; entry = own.waits.at.entry; found = own.waits.at.found })
one_at_a_time header outside other past cause own = tt

each_at_a_time : (header : Header) (outside : Outside) (history : List Event) → EachEvent (HasCause header outside) history
    → EachEvent (OwnBytes header) history → EachEvent (IsOneAtATime header) history
each_at_a_time header outside [] causes own = tt
each_at_a_time header outside (e ∷ past) causes own = (one_at_a_time header outside e past causes.0 own.0, each_at_a_time header outside past causes.1 own.1)

pub memory_is_one : (header : Header) (outside : Outside) (history : List Event) → EachEvent (HasCause header outside) history
    → EachEvent (OwnBytes header) history → EachEvent (FlatBytes header outside) history → IsOneMemory header outside history
memory_is_one header outside history causes own flat =
    record { reads = all_read header outside history causes flat; tasks = each_at_a_time header outside history causes own }
