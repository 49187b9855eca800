-- What the proof needs of the cause of an event: the premise that it keeps, in its own terms.
use Rattle.std.specs.Prelude.{ℕ, ◌+◌, ◌/◌, ◌%◌, ◌<◌, ◌≤◌, ◌≡◌, ◌⊎◌, List, [], ◌∷◌, Bool, true, false, Option, Some, None, if◌then◌else◌, ◌==◌, ◌&&◌}
use Rattle.vm_model.specs.declared.event.Event.{Event}
use Rattle.vm_model.specs.declared.event.Event.TheVariants as event
use Rattle.vm_model.specs.declared.message.Channel.TheVariants.{Up, Down}
use Rattle.vm_model.specs.declared.message.Message.{Message}
use Rattle.vm_model.specs.declared.message.Message.TheVariants as message
use Rattle.vm_model.specs.declared.script.Header.{Header}
use Rattle.vm_model.specs.Channels.{queue}
use Rattle.vm_model.specs.Controls.{is_control, live_control}
use Rattle.vm_model.specs.Homes.{object_home}
use Rattle.vm_model.specs.Local.{Local}
use Rattle.vm_model.specs.Named.{named}
use Rattle.vm_model.specs.Regions.{next_region, next_object, region_of, backing_of}
use Rattle.vm_model.specs.Server.{first}
use Rattle.vm_model.specs.Tasks.{host_of}
use Rattle.vm_legal.specs.Accesses.{At}
use Rattle.vm_legal.specs.Licences as L
use Rattle.vm_legal.specs.Living.{tasks}
use Rattle.vm_legal.specs.Merges as M
use Rattle.vm_legal.specs.Outside.{Outside, is_file, is_private, is_said, zeros}
use Rattle.vm_legal.specs.Used.{is_filled}
use Rattle.vm_legal.specs.Walks.{Reaches, page_on}
use Rattle.vm_flat.specs.Places.{spot}
use Rattle.vm_flat.specs.Spot.{Spot}
use Rattle.vm_flat.proofs.Covers.{is_covered}
use Rattle.vm_flat.proofs.Uses.{in_use}

-- in the chain of a region of which the law speaks, and that is in use on the host
abbrev pub Reach : Header → Outside → ℕ → ℕ → List Event → Type 0
Reach header outside host object past = Reaches (λ r. in_use header outside host r past) (λ r. region_of header r past) (λ o. backing_of header o past) object

-- the host's control of an object: 0 none, 1 live, 2 ended for ever
abbrev pub control : Header → ℕ → ℕ → List Event → ℕ
control header host object [] = 0
control header host object (event.Sent (Up at to) (message.Init number size) ∷ past) =
    if at.0 == host && to.0 == object then 1 else control header host object past
control header host object (event.Sent (Up at to) (message.Create number size) ∷ past) =
    if at.0 == host && to.0 == object then 1 else control header host object past
control header host object (event.Sent (Up at to) (message.Terminate number) ∷ past) =
    if (at.0 == host && is_control number (live_control host to.0 past)) && to.0 == object then (if is_file header object then 0 else 2) else control header
    host object past
control header host object (e ∷ past) = control header host object past

-- the step took the pager's word that there is no such page, and the page was asked
pub record Fills (s : Spot) (page : Local) : Type 0 where
  pub void : s.void ≡ true
  pub away : page.here ≡ false
  pub unasked : page.asked ≡ false

-- a dirty page goes back to its pager, as it is
pub record GivesBack (header : Header) (outside : Outside) (host control_of object page : ℕ) (changed : Bool) (bytes : List ℕ) (past : List Event) : Type 0
  where
    pub live : live_control host object past ≡ Some control_of
    pub here : (page_on header host object page past).here ≡ true
    pub dirty : (page_on header host object page past).dirty ≡ true
    pub same : bytes ≡ (page_on header host object page past).bytes
    pub flag : changed ≡ (page_on header host object page past).dirty

-- an object ends on a host: it is a declared one, or no region leads to it, and nothing of it is here or asked
pub record Ends (header : Header) (outside : Outside) (host control_of object : ℕ) (past : List Event) : Type 0 where
  pub live : live_control host object past ≡ Some control_of
  pub unreached : named header ≤ object → Reach header outside host object past → ⊥
  pub away : (page : ℕ) → (page_on header host object page past).here ≡ false
  pub unasked : (page : ℕ) → (page_on header host object page past).asked ≡ false

-- a declared object is mapped on a host that has no live control of it
pub record Opens (header : Header) (host object : ℕ) (past : List Event) : Type 0 where
  pub declared : object < named header
  pub none : control header host object past ≡ 0
  pub task : ℕ
  pub address : ℕ
  pub at : At header task address past
  pub on_host : at.host ≡ host
  pub region : at.entry.region.0 ≡ object

-- what an answer may say of a page: the last return that was taken, or for a file that is told the page at the start
abbrev pub MaySupply : Spot → List ℕ → Type 0
MaySupply s bytes = s.kept ≡ Some bytes

-- nothing was returned; or the file has zeros there
abbrev pub MayLack : List ℕ → Spot → Type 0
MayLack none s = s.kept ≡ (if s.file then Some none else None)

-- a request for a page
pub record Request : Type 0 where
  pub host : ℕ
  pub object : ℕ
  pub control_of : ℕ
  pub page : ℕ

-- what the present step took, if that was a request
abbrev pub request_taken : List Event → Option Request
request_taken [] = None
request_taken (event.Line line ∷ past) = None
request_taken (event.Taken (Up host object) (message.Request control page access) ∷ past) =
    Some (record { host = host.0; object = object.0; control_of = control; page = page.0 })
request_taken (event.Taken channel other ∷ past) = None
request_taken (e ∷ past) = request_taken past

-- the step took a request for the page from this control, and has not answered it
pub record Answers (header : Header) (outside : Outside) (host object control_of page : ℕ) (past : List Event) : Type 0 where
  pub taken : request_taken past ≡ Some (record { host = host; object = object; control_of = control_of; page = page })
  pub unanswered : (spot header outside host object page past).step ≡ true

-- what a host sends up about a temporary object or a file
abbrev pub MaySendUp : Header → Outside → ℕ → ℕ → Message → List Event → Type 0
MaySendUp header outside host object (message.Init number size) past = Opens header host object past
MaySendUp header outside host object (message.Create number size) past =
    (number ≡ 1) × (named header ≤ object) × (control header host object past ≡ 0) × (page : ℕ) × ((page_on header host object page past).here ≡ true)
MaySendUp header outside host object (message.Request number page access) past = L.Asks header host number object page.0 access past
MaySendUp header outside host object (message.Return number page dirty keep bytes) past = GivesBack header outside host number object page.0 dirty bytes past
MaySendUp header outside host object (message.Terminate number) past = Ends header outside host number object past
MaySendUp header outside host object other past = Unit {0}

-- what its pager sends down
abbrev pub MaySendDown : Header → Outside → ℕ → ℕ → ℕ → Message → List Event → Type 0
MaySendDown header outside host object number (message.Supply page lock precious bytes) past =
    Answers header outside host object number page.0 past
    × (is_said header outside object ≡ false → MaySupply (spot header outside host object page.0 past) bytes)
MaySendDown header outside host object number (message.Unavailable page) past =
    Answers header outside host object number page.0 past
    × (is_said header outside object ≡ false → MayLack (zeros header) (spot header outside host object page.0 past))
MaySendDown header outside host object number (message.Error page reason) past = Answers header outside host object number page.0 past
-- the file pager's clean wants all changed pages back
MaySendDown header outside host object number (message.Lock page count returns flush lock reply) past = returns ≡ 2
MaySendDown header outside host object number other past = Unit {0}

-- two objects are merged, and neither ever had a control on their host
pub record Merges (header : Header) (upper lower : ℕ) (past : List Event) : Type 0 where
  pub host : ℕ
  pub home : object_home upper past ≡ Some host
  pub pair : M.IsPair header host upper lower past
  pub upper_none : control header host upper past ≡ 0
  pub lower_none : control header host lower past ≡ 0

-- an entry is of whole pages that its region has, on the host where the region is in use
pub record Enters (header : Header) (outside : Outside) (task bytes region offset : ℕ) (past : List Event) : Type 0 where
  pub host : ℕ
  pub lives : host_of task past ≡ Some host
  pub whole : bytes % header.size ≡ 0
  pub inside : offset + bytes / header.size ≤ (region_of header region past).pages
  pub made : region < next_region header past
  pub used : is_private header outside region past ≡ true → in_use header outside host region past ≡ true
  pub unfilled : is_filled region (tasks past) past ≡ false

-- why a page goes away without a word
pub data Leaves (header : Header) (outside : Outside) (host object page : ℕ) (dirty : Bool) (past : List Event) : Type 0 where
  -- it is clean
  Clean : dirty ≡ false → Leaves header outside host object page dirty past
  -- no region leads to its temporary object
  Unreached : named header ≤ object → (Reach header outside host object past → ⊥) → Leaves header outside host object page dirty past
  -- its pager flushes it, and doesn't want it back
  Flushed : (returns : ℕ) (precious : Bool) → L.IsLocked host object page returns true past → L.gives_back returns dirty precious ≡ false
      → Leaves header outside host object page dirty past

pub record Drops (header : Header) (outside : Outside) (host object page : ℕ) (past : List Event) : Type 0 where
  pub here : (page_on header host object page past).here ≡ true
  pub why : Leaves header outside host object page (page_on header host object page past).dirty past

abbrev pub Sustained : Header → Outside → Event → List Event → Type 0
Sustained header outside (event.RegionMade region object pages) past = (region.0 ≡ next_region header past) × (object.0 ≡ next_object header past)
Sustained header outside (event.RegionCopied region source offset pages) past = L.CopiesRegion header region.0 source.0 offset pages past
Sustained header outside (event.Delayed region source offset pages copy) past =
    L.CopiesFile header region.0 source.0 offset pages copy.0 past
Sustained header outside (event.Entered task address bytes region offset prot inherit) past = Enters header outside task.0 bytes region.0 offset past
Sustained header outside (event.Shadowed region new old) past = L.Shadows header region.0 new.0 old.0 past
Sustained header outside (event.Unmarked region) past = L.Unmarks header region.0 past
Sustained header outside (event.Merged upper lower) past = Merges header upper.0 lower.0 past
Sustained header outside (event.Loaded task object page value) past = L.Loads header task.0 object.0 page.0 past
Sustained header outside (event.Stored task object page at bytes value) past = L.Stores header task.0 object.0 page.0 at bytes value past
Sustained header outside (event.CopiedPage task page object object_page target) past = L.CopiesPage header task.0 page.0 object.0 object_page.0 target.0 past
Sustained header outside (event.Zeroed host object page) past =
    is_covered header outside object.0 past ≡ true → ((object.0 < named header)
    × Fills (spot header outside host.0 object.0 page.0 past) (page_on header host.0 object.0 page.0 past)) ⊎ L.Bottoms header host.0 object.0 page.0 past
Sustained header outside (event.Raised host lower lower_page upper upper_page) past = L.Raises header host.0 lower.0 lower_page.0 upper.0 upper_page.0 past
Sustained header outside (event.Dropped host object page) past = is_covered header outside object.0 past ≡ true
    → Drops header outside host.0 object.0 page.0 past
Sustained header outside (event.Sent (Up host object) m) past = is_covered header outside object.0 past ≡ true
    → MaySendUp header outside host.0 object.0 m past
Sustained header outside (event.Sent (Down host object number) m) past =
    is_covered header outside object.0 past ≡ true → MaySendDown header outside host.0 object.0 number m past
-- each channel is first in, first out
Sustained header outside (event.Taken channel m) past = first (queue channel past) ≡ Some m
Sustained header outside other past = Unit {0}

abbrev pub AllSustained : Header → Outside → List Event → Type 0
AllSustained header outside [] = Unit {0}
AllSustained header outside (e ∷ past) = Sustained header outside e past × AllSustained header outside past
