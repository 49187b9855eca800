-- The accesses that wait: where they lead, how far their walks get, and what they want.
use Rattle.std.specs.Prelude.{ℕ, zero, suc, ◌/◌, ◌<◌, ◌≡◌, Bool, true, false, List, [], ◌∷◌, length, if◌then◌else◌, ◌==◌, ◌&&◌, ◌||◌, Some, None}
use Rattle.vm_base.specs.declared.entry.Entry.{Entry}
use Rattle.vm_base.specs.Entries.{entry_at, page_at}
use Rattle.vm_model.specs.declared.event.Event.{Event}
use Rattle.vm_model.specs.declared.event.Event.TheVariants as event
use Rattle.vm_model.specs.declared.message.Channel.TheVariants.{Up, Down}
use Rattle.vm_model.specs.declared.message.Message.TheVariants as message
use Rattle.vm_model.specs.declared.script.Header.{Header}
use Rattle.vm_model.specs.Controls.{is_control, live_control}
use Rattle.vm_model.specs.Named.{named}
use Rattle.vm_model.specs.Regions.{region_of, backing_of}
use Rattle.vm_model.specs.Tasks.{host_of, entries_of}
use Rattle.vm_model.specs.Waiting.{Access, Loading, Storing, Copying, waiting, next_page, address_of, is_store}
use Rattle.vm_legal.specs.Pushes.{OwesPush}
use Rattle.vm_legal.specs.Walks.{Leads, Sinks, IsTop, Walks, page_on, sight}

-- where an address of a living task leads
pub record At (header : Header) (task address : ℕ) (past : List Event) : Type 0 where
  pub host : ℕ
  pub entry : Entry
  pub lives : host_of task past ≡ Some host
  pub found : entry_at address (entries_of header.size task past) ≡ Some entry

-- a slow copy has a page left to copy
abbrev pub HasPageLeft : ℕ → Access → ℕ → Type 0
HasPageLeft size (Copying address bytes to) next = next < bytes / size
HasPageLeft size (Loading address bytes) next = Unit {0}
HasPageLeft size (Storing address bytes value) next = Unit {0}

-- a task waits with an access that has a page left, and where that leads
pub record Waits (header : Header) (task : ℕ) (access : Access) (past : List Event) : Type 0 where
  pub waits : waiting task past ≡ Some access
  pub at : At header task (address_of header.size (next_page task past) access) past
  pub left : HasPageLeft header.size access (next_page task past)

-- when a task's last access began: how many events stood in front of that
abbrev pub begun_at : ℕ → List Event → ℕ
begun_at task [] = 0
begun_at task (event.BegunLoad owner address bytes ∷ past) = if owner.0 == task then length past else begun_at task past
begun_at task (event.BegunStore owner address bytes value ∷ past) = if owner.0 == task then length past else begun_at task past
begun_at task (event.BegunCopy owner address bytes to ∷ past) = if owner.0 == task then length past else begun_at task past
begun_at task (e ∷ past) = begun_at task past

-- the page of its region that an access is about now
abbrev pub page_of : (header : Header) (task : ℕ) (access : Access) (past : List Event) → Entry → ℕ
page_of header task access past entry = page_at header.size (address_of header.size (next_page task past) access) entry

-- a place is one of those of a page of a region
pub record HasPlace (header : Header) (region page object object_page : ℕ) (past : List Event) : Type 0 where
  pub top : ℕ
  pub top_page : ℕ
  pub steps : ℕ
  pub is_top : IsTop (region_of header region past) page top top_page
  pub leads : Leads (λ k. backing_of header k past) steps top top_page object object_page

-- the walk of a page of a region gets as far as a place, in so many steps
pub record Comes (header : Header) (host region page object object_page : ℕ) (past : List Event) : Type 0 where
  pub top : ℕ
  pub top_page : ℕ
  pub steps : ℕ
  pub is_top : IsTop (region_of header region past) page top top_page
  pub walks : Walks (λ k q. sight header host k q past) (λ k. backing_of header k past) steps top top_page object object_page

-- a lock (1 prohibits reading, 2 writing, 3 both) names a store, or another access
abbrev pub names : ℕ → Bool → Bool
names lock true = not_zero lock
  where
    not_zero : ℕ → Bool
    not_zero zero = false
    not_zero (suc n) = true
names lock false = lock == 1 || lock == 3

-- the control of an object that lives on the host took its ready
abbrev pub is_ready : ℕ → ℕ → List Event → Bool
is_ready h o [] = false
is_ready h o (event.Sent (Up host object) (message.Init control size) ∷ past) = if host.0 == h && object.0 == o then false else is_ready h o past
is_ready h o (event.Sent (Up host object) (message.Create control size) ∷ past) = if host.0 == h && object.0 == o then false else is_ready h o past
is_ready h o (event.Taken (Down host object control) (message.Ready cache strategy) ∷ past) =
    if host.0 == h && (object.0 == o && is_control control (live_control h o past)) then true else is_ready h o past
is_ready h o (e ∷ past) = is_ready h o past

-- a task of the host waits for a page that is here: the lock names its access, and an unlock is outstanding
pub record WaitsUnlocked (header : Header) (host object page : ℕ) (past : List Event) : Type 0 where
  pub task : ℕ
  pub access : Access
  pub waits : Waits header task access past
  pub on_host : waits.at.host ≡ host
  pub place : HasPlace header waits.at.entry.region.0 (page_of header task access past waits.at.entry) object page past
  pub here : (page_on header host object page past).here ≡ true
  pub named : names (page_on header host object page past).lock (is_store access) ≡ true
  pub unlocking : (page_on header host object page past).unlocking ≡ true

-- why an access wants a frame
pub data WantsFrame (header : Header) (host task : ℕ) (access : Access) (region page : ℕ) (past : List Event) : Type 0 where
  -- its walk finds the page nowhere, and a declared object has a control
  Nowhere : (region < named header → live_control host region past ≡ None → ⊥) → (top top_page steps : ℕ)
      → IsTop (region_of header region past) page top top_page
      → Sinks (λ k q. sight header host k q past) (λ k. backing_of header k past) steps top top_page → WantsFrame header host task access region page past
  -- its walk stops at a page that isn't asked yet, and whose pager is ready
  Elsewhere : (object object_page : ℕ) → Comes header host region page object object_page past → (page_on header host object object_page past).here ≡ false
      → (page_on header host object object_page past).asked ≡ false → (sight header host object object_page past).may_have ≡ true
      → is_ready host object past ≡ true
      → WantsFrame header host task access region page past
  -- it is a slow copy, whose page is here
  Copies : (object object_page : ℕ) → Comes header host region page object object_page past → (page_on header host object object_page past).here ≡ true
      → (address bytes to : ℕ) → access ≡ Copying address bytes to → WantsFrame header host task access region page past
  -- it is a store, whose page is here below the top
  Raises : (top top_page steps object object_page : ℕ) → IsTop (region_of header region past) page top top_page
      → Walks (λ k q. sight header host k q past) (λ k. backing_of header k past) (suc steps) top top_page object object_page
      → (page_on header host object object_page past).here ≡ true → is_store access ≡ true → WantsFrame header host task access region page past
  -- it is a store on a file's page that is here, and that it owes to a copy for which it isn't asked
  Pushes : (object object_page copy : ℕ) → IsTop (region_of header region past) page object object_page
      → (page_on header host object object_page past).here ≡ true → is_store access ≡ true → OwesPush header host object object_page copy past
      → (page_on header host copy object_page past).asked ≡ false → WantsFrame header host task access region page past

-- a task of the host waits, and wants a frame
pub record Wants (header : Header) (host : ℕ) (past : List Event) : Type 0 where
  pub task : ℕ
  pub access : Access
  pub waits : Waits header task access past
  pub on_host : waits.at.host ≡ host
  pub frame : WantsFrame header host task access waits.at.entry.region.0 (page_of header task access past waits.at.entry) past

-- an access that waits finds its page: a load's walk ends at a page that the host can read; a store's top place is one that it can write, and
-- that it owes to no copy, and its region has no copy mark
pub data FindsPage (header : Header) (task : ℕ) (past : List Event) : Type 0 where
  ToRead : (address bytes object page : ℕ) → (waits : Waits header task (Loading address bytes) past)
      → Comes header waits.at.host waits.at.entry.region.0 (page_at header.size address waits.at.entry) object page past
      → (page_on header waits.at.host object page past).here ≡ true
      → names (page_on header waits.at.host object page past).lock false ≡ false → FindsPage header task past
  ToWrite : (address bytes value object page : ℕ) → (waits : Waits header task (Storing address bytes value) past)
      → IsTop (region_of header waits.at.entry.region.0 past) (page_at header.size address waits.at.entry) object page
      → (region_of header waits.at.entry.region.0 past).mark ≡ false
      → (page_on header waits.at.host object page past).here ≡ true → names (page_on header waits.at.host object page past).lock true ≡ false
      → ((copy : ℕ) → OwesPush header waits.at.host object page copy past → ⊥)
      → FindsPage header task past
