-- What a free part did to memory, and what its loads gave, is what its order says.
use Rattle.std.proofs.Common.{Bool, List, None, Option, Some, [], ap, append_assoc, false, refl, subst, sym, true, ℕ, ◌++◌, ◌==◌, ◌∙◌, ◌∷◌, ◌≡◌}
use Rattle.std.specs.Prelude.{◌&&◌, ◌||◌, if◌then◌else◌, nat_lt, not}
use Rattle.vm_base.specs.Entries.{entry_at}
use Rattle.vm_base.specs.declared.ids.ObjectId.{ObjectId}
use Rattle.vm_base.specs.declared.ids.PageNo.{PageNo}
use Rattle.vm_base.specs.declared.ids.TaskId.{TaskId}
use Rattle.vm_model.specs.Moments.{EachEvent}
use Rattle.vm_model.specs.Named.{declared, named}
use Rattle.vm_model.specs.Regions.{comes_from}
use Rattle.vm_model.specs.Tasks.{entries_of}
use Rattle.vm_model.specs.Waiting.{Access, Loading, Storing, waiting}
use Rattle.vm_model.specs.declared.event.Event.{Event}
use Rattle.vm_model.specs.declared.event.Event.TheVariants as event
use Rattle.vm_model.specs.declared.message.Channel.TheVariants.{Down, Up}
use Rattle.vm_model.specs.declared.message.Message.{Message}
use Rattle.vm_model.specs.declared.message.Message.TheVariants as message
use Rattle.vm_model.specs.declared.script.Header.{Header}
use Rattle.vm_legal.specs.Outside.{Outside, is_file_kept, is_flat, is_private_from, is_said, is_shared}
use Rattle.vm_order.specs.OneMemory.{EndsAccess, IsOneAtATime, LoadsRead, is_read}
use Rattle.vm_order.specs.Operations.{Load, Operation, copied_from, load_ends, loaded_at, said, store_ends, stored_at}
use Rattle.vm_free.specs.Free.{AreOldest, NobodyWaits, accesses_of, begins, begun}
use Rattle.vm_free.specs.Orders.{occurrences, order_of}
use Rattle.vm_free.specs.Outcomes.{AllFlat, NothingIsSaid, loaded}
use Rattle.vm_free.proofs.Played.{FreePart, done, load, load_does, mapped, next_of, played, store, store_does, value_in, values_in}
use Rattle.vm_free.proofs.Stands.{ArePlain, entries_stay, is_next, never_plain, stands}

-- what is known of the set-up
pub record IsSetUp (part : FreePart) : Type 0 where
  pub idle : NobodyWaits part.start
  pub told : NothingIsSaid part.header part.outside
  pub flat : AllFlat part.header part.outside part.start

-- what is known of the events behind it
pub record Goes (part : FreePart) (later : List Event) : Type 0 where
  pub tasks : EachEvent (IsOneAtATime part.header) (later ++ part.start)
  pub reads : LoadsRead part.header part.outside (done part later)
  pub plain : ArePlain later
  pub in_order : (t : ℕ) → AreOldest (begun t later) (accesses_of t part.free)

-- what they did, and what their loads gave, is what their order says
abbrev pub Follows : FreePart → List Event → Type 0
Follows part later =
    (done part later ≡ played part (order_of later) ++ done part []) × ((t : ℕ) → loaded t later ≡ values_in t (played part (order_of later)))

-- the events before one
goes_before : (part : FreePart) (e : Event) (past : List Event) → LoadsRead part.header part.outside (done part past) → Goes part (e ∷ past) → Goes part past
goes_before part e past reads goes = record {
  tasks = goes.tasks.1;
  reads = reads;
  plain = goes.plain.1;
  in_order = λ t. record {
    newer = (goes.in_order t).newer ++ begins t e;
    is = (goes.in_order t).is ∙ sym (append_assoc (goes.in_order t).newer (begins t e) (begun t past));
  };
}

reads_before : (part : FreePart) (newer past : List Operation) → LoadsRead part.header part.outside (newer ++ past) → LoadsRead part.header part.outside past
reads_before part [] past reads = reads
reads_before part (Load task region page address bytes value ∷ newer) past reads = reads_before part newer past reads.1
reads_before part (other ∷ newer) past reads = reads_before part newer past reads

-- the access for which a task waits is that which the order says
due : (part : FreePart) (past : List Event) → IsSetUp part → Goes part past → (t : ℕ) (access : Access) → waiting t (past ++ part.start) ≡ Some access
    → next_of part t (order_of past) ≡ Some access
due part past set_up goes t access waits =
    let now = stands part.header t part.start (set_up.idle t) past goes.tasks goes.plain in
    is_next (waiting t (past ++ part.start)) (begun t past) (accesses_of t part.free) (occurrences t (order_of past)) access now (goes.in_order t) waits

-- its entry is the set-up's
found_at : (part : FreePart) (past : List Event) → Goes part past → (t address : ℕ) (access : Access)
    (ends : EndsAccess part.header t address access (past ++ part.start))
    → entry_at address (mapped part t) ≡ Some ends.entry
found_at part past goes t address access ends =
    subst (λ z. entry_at address z ≡ Some ends.entry) (entries_stay part.header.size t part.start past goes.plain) ends.found

-- what happens to memory where a load ends, and where a store does

abbrev load_end : FreePart → List Event → (task value : ℕ) → List Operation
load_end part past task value =
    load_ends part.header.size task value (entries_of part.header.size task (past ++ part.start)) (waiting task (past ++ part.start))

load_is : (part : FreePart) (past : List Event) (task value address bytes : ℕ)
    (ends : EndsAccess part.header task address (Loading address bytes) (past ++ part.start))
    → load_end part past task value ≡ load part task address bytes ends.entry value ∷ []
load_is part past task value address bytes ends =
    ap (load_ends part.header.size task value (entries_of part.header.size task (past ++ part.start))) ends.waits
    ∙ ap (loaded_at part.header.size task address bytes value) ends.found

abbrev store_end : FreePart → List Event → (task : ℕ) → List Operation
store_end part past task = store_ends part.header.size task (entries_of part.header.size task (past ++ part.start)) (waiting task (past ++ part.start))

store_is : (part : FreePart) (past : List Event) (task address bytes value : ℕ)
    (ends : EndsAccess part.header task address (Storing address bytes value) (past ++ part.start))
    → store_end part past task ≡ store part task address bytes value ends.entry ∷ []
store_is part past task address bytes value ends =
    ap (store_ends part.header.size task (entries_of part.header.size task (past ++ part.start))) ends.waits
    ∙ ap (stored_at part.header.size task address bytes value) ends.found

-- where nothing is said, it doesn't matter of which file a region was copied
from_any : (header : Header) (outside : Outside) → NothingIsSaid header outside → (region : ℕ) (from : Option ℕ)
    → is_private_from header outside region from ≡ is_private_from header outside region None
from_any header outside told region None = refl
from_any header outside told region (Some file) =
    ap (λ b. (not (nat_lt region (named header)) && (outside.paging && not b)) || (nat_lt region (named header) && is_file_kept (declared header region)))
    (told file)

is_read_now : (part : FreePart) → IsSetUp part → (region : ℕ) (ops : List Operation) → is_flat part.header part.outside region part.start ≡ true
    → is_read part.header part.outside region ops ≡ true
is_read_now part set_up region ops flat =
    ap (λ b. b || is_shared part.header region) (from_any part.header part.outside set_up.told region (copied_from part.header region ops)
    ∙ sym (from_any part.header part.outside set_up.told region (comes_from region part.start)))
    ∙ flat

-- a load that ends reads what the order says
load_follows : (part : FreePart) (past : List Event) → IsSetUp part → (task : TaskId) (object : ObjectId) (page : PageNo) (value : ℕ)
    → Goes part (event.Loaded task object page value ∷ past) → Goes part past → Follows part past → Follows part (event.Loaded task object page value ∷ past)
load_follows part past set_up task object page value goes before follows =
    let address = goes.tasks.0.0 in
    let bytes = goes.tasks.0.1 in
    let ends = goes.tasks.0.2 in
    let row = ends.entry in
    let order = order_of past in
    let behind = played part order ++ done part [] in
    let found = found_at part past before task.0 address (Loading address bytes) ends in
    let ended = load_is part past task.0 value address bytes ends in
    let read = subst (λ z. LoadsRead part.header part.outside (z ++ done part past)) ended goes.reads in
    let right : value ≡ value_in part address bytes row behind =
    read.0 (is_read_now part set_up row.region.0 (done part past) (set_up.flat task.0 address row found)) ∙ ap (value_in part address bytes row) follows.0 in
    let now = due part past set_up before task.0 (Loading address bytes) ends.waits in
    let does_load = load_does part task.0 behind (next_of part task.0 order) address bytes row now found in
    let memory =
    ap (λ z. z ++ done part past) ended
    ∙ (ap (λ z. load part task.0 address bytes row z ∷ done part past) right
    ∙ (ap (λ z. load part task.0 address bytes row (value_in part address bytes row behind) ∷ z) follows.0
    ∙ ap (λ z. (z ++ played part order) ++ done part []) (sym does_load))) in
    let gave = λ (t : ℕ).
    ap (λ z. if task.0 == t then value ∷ z else z) (follows.1 t)
    ∙ (ap (λ z. if task.0 == t then z ∷ values_in t (played part order) else values_in t (played part order)) right
    ∙ ap (λ z. values_in t (z ++ played part order)) (sym does_load)) in
    (memory, gave)

-- and a store does what the order says
store_follows : (part : FreePart) (past : List Event) → IsSetUp part → (task : TaskId) (object : ObjectId) (page : PageNo) (at bytes value : ℕ)
    → Goes part (event.Stored task object page at bytes value ∷ past) → Goes part past → Follows part past
    → Follows part (event.Stored task object page at bytes value ∷ past)
store_follows part past set_up task object page at bytes value goes before follows =
    let address = goes.tasks.0.0 in
    let ends = goes.tasks.0.1 in
    let row = ends.entry in
    let order = order_of past in
    let behind = played part order ++ done part [] in
    let found = found_at part past before task.0 address (Storing address bytes value) ends in
    let ended = store_is part past task.0 address bytes value ends in
    let now = due part past set_up before task.0 (Storing address bytes value) ends.waits in
    let does_store = store_does part task.0 behind (next_of part task.0 order) address bytes value row now found in
    let memory =
    ap (λ z. z ++ done part past) ended
    ∙ (ap (λ z. store part task.0 address bytes value row ∷ z) follows.0
    ∙ ap (λ z. (z ++ played part order) ++ done part []) (sym does_store)) in
    (memory, λ t. follows.1 t ∙ ap (λ z. values_in t (z ++ played part order)) (sym does_store))

nothing_said : (header : Header) (file : ℕ) (m : Message) → said header false file m ≡ []
nothing_said header file (message.Supply page lock precious bytes) = refl
nothing_said header file (message.Unavailable page) = refl
nothing_said header file other = refl

-- a message does nothing where no pager says what a file has
pub unsaid : (header : Header) (says : Bool) (file : ℕ) (m : Message) (past : List Operation) → says ≡ false → said header says file m ++ past ≡ past
unsaid header says file m past told = ap (λ z. said header z file m ++ past) told ∙ ap (λ z. z ++ past) (nothing_said header file m)

-- every other event does nothing
pub follows : (part : FreePart) (later : List Event) → IsSetUp part → Goes part later → Follows part later
follows part [] set_up goes = (refl, λ t. refl)
follows part (event.Loaded task object page value ∷ past) set_up goes =
    let e = event.Loaded task object page value in
    let before = goes_before part e past (reads_before part (load_end part past task.0 value) (done part past) goes.reads) goes in
    load_follows part past set_up task object page value goes before (follows part past set_up before)
follows part (event.Stored task object page at bytes value ∷ past) set_up goes =
    let e = event.Stored task object page at bytes value in
    let before = goes_before part e past (reads_before part (store_end part past task.0) (done part past) goes.reads) goes in
    store_follows part past set_up task object page at bytes value goes before (follows part past set_up before)
follows part (event.Sent (Down host object control) m ∷ past) set_up goes =
    let e = event.Sent (Down host object control) m in
    let quiet = unsaid part.header (is_said part.header part.outside object.0) object.0 m (done part past) (set_up.told object.0) in
    let before = goes_before part e past (subst (LoadsRead part.header part.outside) quiet goes.reads) goes in
    let follow = follows part past set_up before in
    (quiet ∙ follow.0, follow.1)
follows part (event.Sent (Up host object) m ∷ past) set_up goes =
    follows part past set_up (goes_before part (event.Sent (Up host object) m) past goes.reads goes)
follows part (event.RegionMade region object pages ∷ past) set_up goes = never_plain goes.plain.0
follows part (event.RegionCopied region source offset pages ∷ past) set_up goes = never_plain goes.plain.0
follows part (event.Delayed region source offset pages copy ∷ past) set_up goes = never_plain goes.plain.0
follows part (event.CopiedPage task page object object_page target ∷ past) set_up goes = never_plain goes.plain.0
follows part (e ∷ past) set_up goes = follows part past set_up (goes_before part e past goes.reads goes)
