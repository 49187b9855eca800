-- Why an event stands where it does: its cause, in the events in front of it.
use Rattle.std.specs.Prelude.{Bool, List, MatchOption, None, Option, Some, [], false, if◌then◌else◌, nat_lt, not, suc, true, zero, ℕ, ◌%◌, ◌&&◌, ◌*◌, ◌++◌, ◌+◌}
use Rattle.std.specs.Prelude.{◌/◌, ◌<◌, ◌==◌, ◌||◌, ◌∷◌, ◌≡◌, ◌≤◌, ◌⊎◌}
use Rattle.vm_base.specs.Entries.{page_at}
use Rattle.vm_base.specs.declared.ids.Inherit.TheVariants.{Copy}
use Rattle.vm_base.specs.declared.ids.TaskId.{TaskId}
use Rattle.vm_base.specs.declared.ids.ObjectKind.{ObjectKind}
use Rattle.vm_base.specs.declared.ids.ObjectKind.TheVariants.{Temp, File, Shared, Wild}
use Rattle.vm_model.specs.declared.event.Event.{Event}
use Rattle.vm_model.specs.declared.event.Event.TheVariants as event
use Rattle.vm_model.specs.declared.event.Device.TheVariants as device
use Rattle.vm_model.specs.declared.event.Device.{Device}
use Rattle.vm_model.specs.declared.event.Way.{Way}
use Rattle.vm_model.specs.declared.event.Way.TheVariants as way
use Rattle.vm_model.specs.declared.command.Command.{Command}
use Rattle.vm_model.specs.declared.command.Command.TheVariants as command
use Rattle.vm_model.specs.declared.message.Channel.{Channel}
use Rattle.vm_model.specs.declared.message.Channel.TheVariants.{Up, Down}
use Rattle.vm_model.specs.declared.message.Message.{Message}
use Rattle.vm_model.specs.declared.message.Message.TheVariants as message
use Rattle.vm_model.specs.declared.script.Header.{Header}
use Rattle.vm_model.specs.Channels.{queue}
use Rattle.vm_model.specs.Controls.{is_control, last_control, live_control}
use Rattle.vm_model.specs.Local.{Local, is_known_absent}
use Rattle.vm_model.specs.Named.{named}
use Rattle.vm_model.specs.PageLicences as server
use Rattle.vm_model.specs.PagePart.{page_part}
use Rattle.vm_model.specs.Regions.{next_region, next_object, region_of, backing_of}
use Rattle.vm_model.specs.Server.{first}
use Rattle.vm_model.specs.Tasks.{host_of}
use Rattle.vm_model.specs.Words.{Supplying, Locking, in_range}
use Rattle.vm_model.specs.Waiting.{Access, Loading, Storing, Copying, Target, waiting, next_page, copy_target, is_store}
use Rattle.vm_legal.specs.Accesses.{At, Waits, Comes, HasPlace, is_ready, names, page_of}
use Rattle.vm_legal.specs.Cached.{Changes}
use Rattle.vm_legal.specs.Destroyed.{FailsUnserved, IsDestroyed}
use Rattle.vm_legal.specs.Living.{tasks}
use Rattle.vm_legal.specs.Merges.{Merges}
use Rattle.vm_legal.specs.Outside.{Outside, is_file, is_said, is_wild, kind_of, start_page, zeros}
use Rattle.vm_legal.specs.Pagers.{LacksSlot, is_lost, known_control, last_return, newer, slot_at}
use Rattle.vm_legal.specs.Pushes.{OwesPush}
use Rattle.vm_legal.specs.Reclaims.{Reclaims}
use Rattle.vm_legal.specs.Steps.{Letter, absence_taken, answers, completes, error_taken, fails_reading, gives_page, just_begun, readies, since, taken_letter}
use Rattle.vm_legal.specs.Steps.{takings}
use Rattle.vm_legal.specs.Swept.{IsUnheld}
use Rattle.vm_legal.specs.Undelivered.{oldest_channel}
use Rattle.vm_legal.specs.Used.{in_use, is_filled}
use Rattle.vm_legal.specs.Walks.{Below, IsTop, Reach, Sinks, Walks, page_on, sight}

abbrev pub up : ℕ → ℕ → Channel
up host object = Up (record { 0 = host }) (record { 0 = object })

-- a load ends with the page where its walk found it
pub record Loads (header : Header) (task object page : ℕ) (past : List Event) : Type 0 where
  pub address : ℕ
  pub bytes : ℕ
  pub waits : Waits header task (Loading address bytes) past
  pub comes : Comes header waits.at.host waits.at.entry.region.0 (page_at header.size address waits.at.entry) object page past
  pub here : (page_on header waits.at.host object page past).here ≡ true

-- a store ends in the top place of its page, which is here, and its region has no copy mark; it owes that page to no copy
pub record Stores (header : Header) (task object page at bytes value : ℕ) (past : List Event) : Type 0 where
  pub address : ℕ
  pub waits : Waits header task (Storing address bytes value) past
  pub is_top : IsTop (region_of header waits.at.entry.region.0 past) (page_at header.size address waits.at.entry) object page
  pub unmarked : (region_of header waits.at.entry.region.0 past).mark ≡ false
  pub here : (page_on header waits.at.host object page past).here ≡ true
  pub place : at ≡ address % header.size
  pub paid : (copy : ℕ) → OwesPush header waits.at.host object page copy past → ⊥

-- a page is copied up to the top place of a waiting store that found it below
pub record RaisesUp (header : Header) (host lower lower_page upper upper_page : ℕ) (past : List Event) : Type 0 where
  pub task : ℕ
  pub address : ℕ
  pub bytes : ℕ
  pub value : ℕ
  pub waits : Waits header task (Storing address bytes value) past
  pub on_host : waits.at.host ≡ host
  pub unmarked : (region_of header waits.at.entry.region.0 past).mark ≡ false
  pub is_top : IsTop (region_of header waits.at.entry.region.0 past) (page_at header.size address waits.at.entry) upper upper_page
  pub steps : ℕ
  pub walks : Walks (λ k q. sight header host k q past) (λ k. backing_of header k past) (suc steps) upper upper_page lower lower_page
  pub here : (page_on header host lower lower_page past).here ≡ true

-- a file's page, which is the top place of a waiting store and is here, is copied up into the copy of the file to which the store owes it
pub record PushesUp (header : Header) (host lower lower_page upper upper_page : ℕ) (past : List Event) : Type 0 where
  pub task : ℕ
  pub address : ℕ
  pub bytes : ℕ
  pub value : ℕ
  pub waits : Waits header task (Storing address bytes value) past
  pub on_host : waits.at.host ≡ host
  pub unmarked : (region_of header waits.at.entry.region.0 past).mark ≡ false
  pub is_top : IsTop (region_of header waits.at.entry.region.0 past) (page_at header.size address waits.at.entry) lower lower_page
  pub here : (page_on header host lower lower_page past).here ≡ true
  pub owes : OwesPush header host lower lower_page upper past
  pub same_page : upper_page ≡ lower_page
  pub away : (page_on header host upper upper_page past).here ≡ false
  pub unasked : (page_on header host upper upper_page past).asked ≡ false

-- why a page is copied up
pub data Raises (header : Header) (host lower lower_page upper upper_page : ℕ) (past : List Event) : Type 0 where
  -- a store wants to change what it found below
  Finding : RaisesUp header host lower lower_page upper upper_page past → Raises header host lower lower_page upper upper_page past
  -- a store is about to change what a copy still shares
  Pushing : PushesUp header host lower lower_page upper upper_page past → Raises header host lower lower_page upper upper_page past

-- zeros come to the top place of a waiting access that finds its page nowhere
pub record Bottoms (header : Header) (host object page : ℕ) (past : List Event) : Type 0 where
  pub task : ℕ
  pub access : Access
  pub waits : Waits header task access past
  pub on_host : waits.at.host ≡ host
  pub temporary : named header ≤ object
  pub unmarked : is_store access ≡ true → (region_of header waits.at.entry.region.0 past).mark ≡ false
  pub is_top : IsTop (region_of header waits.at.entry.region.0 past) (page_of header task access past waits.at.entry) object page
  pub steps : ℕ
  pub sinks : Sinks (λ k q. sight header host k q past) (λ k. backing_of header k past) steps object page
  -- no file is below
  pub plain : (depth below : ℕ) → Below (λ k. backing_of header k past) depth object below → named header ≤ below

-- the event puts zeros into the page of the object
abbrev pub zeroes : ℕ → ℕ → Event → Bool
zeroes o p (event.Zeroed host object page) = object.0 == o && page.0 == p
zeroes o p other = false

-- zeros come, once, to an asked page of a declared object of which the step took its pager's word that there is none
pub record Fills (header : Header) (host object page : ℕ) (past : List Event) : Type 0 where
  pub declared : object < named header
  pub void : absence_taken header past ≡ Some (record { host = host; object = object; page = page })
  pub once : since (zeroes object page) past ≡ false
  pub away : (page_on header host object page past).here ≡ false
  pub unasked : (page_on header host object page past).asked ≡ false

-- a slow copy makes its next page, of the page of a declared object that is here and isn't wild, a page of the region that it fills
pub record CopiesPage (header : Header) (task index object page target : ℕ) (past : List Event) : Type 0 where
  pub address : ℕ
  pub bytes : ℕ
  pub to : ℕ
  pub waits : Waits header task (Copying address bytes to) past
  pub next : index ≡ next_page task past
  pub declared : waits.at.entry.region.0 < named header
  pub supplied : is_wild header waits.at.entry.region.0 ≡ false
  pub is_top : IsTop (region_of header waits.at.entry.region.0 past) (page_at header.size (address + next_page task past * header.size) waits.at.entry) object
      page
  pub here : (page_on header waits.at.host object page past).here ≡ true
  pub region : ℕ
  pub filled : copy_target task past ≡ Some (record { region = region; object = target })
  pub inside : index < (region_of header region past).pages
  pub away : (page_on header waits.at.host target index past).here ≡ false
  pub unasked : (page_on header waits.at.host target index past).asked ≡ false

-- all pages of a slow copy are copied
pub record EndsCopy (header : Header) (task : ℕ) (past : List Event) : Type 0 where
  pub address : ℕ
  pub bytes : ℕ
  pub to : ℕ
  pub waits : waiting task past ≡ Some (Copying address bytes to)
  pub all : next_page task past * header.size ≡ bytes

-- an access ends by the error that the step took, for a page of its chain that was asked
pub record FailsByError (header : Header) (task object page : ℕ) (past : List Event) : Type 0 where
  pub access : Access
  pub waits : Waits header task access past
  pub error : error_taken header past ≡ Some (record { host = waits.at.host; object = object; page = page })
  pub place : HasPlace header waits.at.entry.region.0 (page_of header task access past waits.at.entry) object page past

-- why an access fails
pub data Fails (header : Header) (task object page : ℕ) (past : List Event) : Type 0 where
  ByError : FailsByError header task object page past → Fails header task object page past
  Unserved : FailsUnserved header task object page past → Fails header task object page past

-- 3 for a store on its top place, and 1 for everything else
abbrev pub desired_access : Access → ℕ → ℕ
desired_access access zero = if is_store access then 3 else 1
desired_access access (suc steps) = 1

-- the walk of a waiting access stops at a page that its pager, which is ready, may have, and nobody asked
pub record Asks (header : Header) (host control object page wanted : ℕ) (past : List Event) : Type 0 where
  pub task : ℕ
  pub access : Access
  pub waits : Waits header task access past
  pub on_host : waits.at.host ≡ host
  pub unmarked : is_store access ≡ true → (region_of header waits.at.entry.region.0 past).mark ≡ false
  pub comes : Comes header host waits.at.entry.region.0 (page_of header task access past waits.at.entry) object page past
  pub number : wanted ≡ desired_access access comes.steps
  pub live : live_control host object past ≡ Some control
  pub ready : is_ready host object past ≡ true
  pub away : (page_on header host object page past).here ≡ false
  pub unasked : (page_on header host object page past).asked ≡ false
  pub known : is_known_absent header (record { object = object; page = page }) (page_on header host object page past) ≡ false

-- a lock_request to a control, for so many pages of its object
pub record LockRequest : Type 0 where
  pub host : ℕ
  pub object : ℕ
  pub control : ℕ
  pub page : ℕ
  pub count : ℕ
  pub returns : ℕ
  pub flush : Bool
  pub lock : ℕ
  pub reply : Bool

-- what the present step took, if that was a lock_request, of a control that lived
abbrev pub lock_taken : List Event → Option LockRequest
lock_taken [] = None
lock_taken (event.Line line ∷ past) = None
lock_taken (event.Taken (Down host object control) (message.Lock page count returns flush lock reply) ∷ past) =
    if is_control control (live_control host.0 object.0 past)
    then Some (record {
      host = host.0;
      object = object.0;
      control = control;
      page = page.0;
      count = count;
      returns = returns;
      flush = flush;
      lock = lock;
      reply = reply;
    })
    else None
lock_taken (event.Taken channel other ∷ past) = None
lock_taken (e ∷ past) = lock_taken past

-- a lock_request of this kind gives such a page back: kind 1 the changed ones, kind 2 the changed and the precious ones
abbrev pub gives_back : ℕ → Bool → Bool → Bool
gives_back returns dirty precious = (returns == 1 && dirty) || (returns == 2 && (dirty || precious))

-- the step took a lock_request over the page, of this kind; it isn't done yet, and goes through its range by rising page
pub record IsLocked (host object page returns : ℕ) (flush : Bool) (past : List Event) : Type 0 where
  pub control : ℕ
  pub first : ℕ
  pub count : ℕ
  pub lock : ℕ
  pub reply : Bool
  pub taken : lock_taken past ≡ Some (record {
    host = host;
    object = object;
    control = control;
    page = first;
    count = count;
    returns = returns;
    flush = flush;
    lock = lock;
    reply = reply;
  })
  pub from : first ≤ page
  pub below : page < first + count
  pub undone : since (completes host object) past ≡ false
  pub rising : (later : ℕ) → page < later → since (gives_page host object later) past ≡ false

-- the lock_request has a reply, and is over the page
abbrev pub is_answered_over : ℕ → ℕ → ℕ → Option LockRequest → Bool
is_answered_over host object page None = false
is_answered_over host object page (Some request) =
    request.reply && (request.host == host && (request.object == object && in_range page request.page request.count))

-- what a lock_request of this kind leaves of a page that is here: a flush none, and others none that it gives back
abbrev pub IsDoneAt : ℕ → Bool → Local → Type 0
IsDoneAt returns flush page = page.here ≡ true → (flush ≡ false) × (gives_back returns page.dirty page.precious ≡ false)

-- a lock_request that wants a reply is done at each page of its range, and the host says so once
pub record Completes (header : Header) (host control object first count : ℕ) (past : List Event) : Type 0 where
  pub live : live_control host object past ≡ Some control
  pub returns : ℕ
  pub flush : Bool
  pub lock : ℕ
  pub taken : lock_taken past ≡ Some (record {
    host = host;
    object = object;
    control = control;
    page = first;
    count = count;
    returns = returns;
    flush = flush;
    lock = lock;
    reply = true;
  })
  pub once : since (completes host object) past ≡ false
  pub done : (page : ℕ) → first ≤ page → page < first + count → IsDoneAt returns flush (page_on header host object page past)

-- the walk of a waiting access stops at a page that is here and that its lock names, and no unlock is outstanding
pub record Unlocks (header : Header) (host control object page wanted : ℕ) (past : List Event) : Type 0 where
  pub task : ℕ
  pub access : Access
  pub waits : Waits header task access past
  pub on_host : waits.at.host ≡ host
  pub comes : Comes header host waits.at.entry.region.0 (page_of header task access past waits.at.entry) object page past
  pub number : wanted ≡ desired_access access comes.steps
  pub live : live_control host object past ≡ Some control
  pub here : (page_on header host object page past).here ≡ true
  pub named : names (page_on header host object page past).lock (is_store access) ≡ true
  pub none : (page_on header host object page past).unlocking ≡ false
  -- behind the completion, where the step took a lock_request over the page that has one
  pub behind : is_answered_over host object page (lock_taken past) ≡ true → since (completes host object) past ≡ true

-- why a page goes back to its pager
pub data ReturnCause (header : Header) (doing : Command) (host object page : ℕ) (keep : Bool) (past : List Event) : Type 0 where
  -- it is reclaimed
  Reclaimed : keep ≡ false → Reclaims header doing host object page past → ReturnCause header doing host object page keep past
  -- it is reclaimed, and its object's first control was made for that
  Created : (control size : ℕ) (rest : List Event) → past ≡ event.Sent (up host object) (message.Create control size) ∷ rest
      → keep ≡ false → Reclaims header doing host object page rest → ReturnCause header doing host object page keep past
  -- its pager wants it
  Wanted : (returns : ℕ) (flush : Bool) → IsLocked host object page returns flush past
      → gives_back returns (page_on header host object page past).dirty (page_on header host object page past).precious ≡ true
      → keep ≡ not flush → ReturnCause header doing host object page keep past
  -- its object ends on the host
  Ended : keep ≡ false → object < named header → IsUnheld header host object past → ReturnCause header doing host object page keep past

-- a changed or precious page goes back to its pager, as it is
pub record GivesBack (header : Header) (doing : Command) (host control object page : ℕ) (changed keep : Bool) (bytes : List ℕ) (past : List Event) : Type 0
  where
    pub live : live_control host object past ≡ Some control
    pub here : (page_on header host object page past).here ≡ true
    pub due : ((page_on header host object page past).dirty || (page_on header host object page past).precious) ≡ true
    pub same : bytes ≡ (page_on header host object page past).bytes
    pub flag : changed ≡ (page_on header host object page past).dirty
    pub why : ReturnCause header doing host object page keep past

-- an object's first control is made: a page of it, which is here, goes to the default pager next
pub record Creates (header : Header) (host control object size : ℕ) (past : List Event) : Type 0 where
  pub number : control ≡ 1
  pub sized : size ≡ header.size
  pub temporary : named header ≤ object
  pub never : last_control host object past ≡ 0
  pub page : ℕ
  pub here : (page_on header host object page past).here ≡ true

-- a declared object is mapped on a host that has no live control of it
pub record Opens (header : Header) (host control object size : ℕ) (past : List Event) : Type 0 where
  pub number : control ≡ suc (last_control host object past)
  pub sized : size ≡ header.size
  pub declared : object < named header
  pub none : live_control host object past ≡ None
  pub task : ℕ
  pub address : ℕ
  pub at : At header task address past
  pub on_host : at.host ≡ host
  pub region : at.entry.region.0 ≡ object

-- why an object ends on a host
pub data EndCause (header : Header) (host object : ℕ) (past : List Event) : Type 0 where
  -- no region leads to it, and nothing of it is asked
  Unreachable : named header ≤ object → (Reach header host object past → ⊥) → ((page : ℕ) → (page_on header host object page past).asked ≡ false)
      → EndCause header host object past
  -- nothing holds it there, and nothing of it is asked
  Unheld : object < named header → IsUnheld header host object past → ((page : ℕ) → (page_on header host object page past).asked ≡ false)
      → EndCause header host object past
  -- its pager ends it, with what is asked
  Destroyed : IsDestroyed header host object past → EndCause header host object past

-- an object ends on a host, where nothing of it is here
pub record Ends (header : Header) (host control object : ℕ) (past : List Event) : Type 0 where
  pub live : live_control host object past ≡ Some control
  pub away : (page : ℕ) → (page_on header host object page past).here ≡ false
  pub why : EndCause header host object past

-- what a host sends up
abbrev pub MaySendUp : Header → Command → ℕ → ℕ → Message → List Event → Type 0
MaySendUp header why host object (message.Init control size) past = Opens header host control object size past
MaySendUp header why host object (message.Create control size) past = Creates header host control object size past
MaySendUp header why host object (message.Request control page access) past = Asks header host control object page.0 access past
MaySendUp header why host object (message.Return control page dirty keep bytes) past = GivesBack header why host control object page.0 dirty keep bytes past
MaySendUp header why host object (message.Unlock control page access) past = Unlocks header host control object page.0 access past
MaySendUp header why host object (message.Completed control page count) past = Completes header host control object page.0 count past
MaySendUp header why host object (message.Terminate control) past = Ends header host control object past
MaySendUp header why host object (message.Changed control cache strategy) past = Changes host control object cache strategy past
MaySendUp header why host object other past = ⊥

-- the step took a request for the page from this control, and it is not answered yet
pub record OwesAnswer (host object control page : ℕ) (past : List Event) : Type 0 where
  pub access : ℕ
  pub taken : taken_letter past ≡ Some (record { channel = up host object; message = message.Request control (record { 0 = page }) access })
  pub unanswered : since (answers object page) past ≡ false

-- the pager can give the page: its last return is not lost, and reading it did not fail in this step
pub record Reads (object page : ℕ) (past : List Event) : Type 0 where
  pub kept : is_lost object page past ≡ false
  pub read : since (fails_reading object page) past ≡ false

-- the page was lost, or reading it failed in this step
abbrev pub IsFault : ℕ → ℕ → List Event → Type 0
IsFault object page past = (is_lost object page past ≡ true) ⊎ (since (fails_reading object page) past ≡ true)

-- what the pager of a page has: the last return that it took; of a file's page at first what the file has; of a temporary object's nothing
abbrev pub pager_has : Header → Outside → ℕ → ℕ → ℕ → List Event → Option (List ℕ)
pager_has header outside host object page past =
    newer (last_return host object page past) (if is_file header object then Some (start_page header outside object page) else None)

-- what that counts for a supply: what is told of files and of the paging area
abbrev pub tells : Header → Outside → ℕ → Bool
tells header outside object = if is_file header object then not (is_said header outside object) else outside.paging

-- the pager says that it has no such page: nothing was returned, and of a file that tells, there are zeros
abbrev pub MayLack : Header → Outside → ℕ → ℕ → ℕ → List Event → Type 0
MayLack header outside host object page past =
    (is_file header object ≡ false → last_return host object page past ≡ None)
    × (tells header outside object ≡ true → is_file header object ≡ true → pager_has header outside host object page past ≡ Some (zeros header))

-- the command is a clean of so many pages
abbrev pub IsClean : Command → ℕ → ℕ → ℕ → Bool → Type 0
IsClean (command.Clean file from number flushes) object page count flush = (file.0 ≡ object) × (from.0 ≡ page) × (number ≡ count) × (flushes ≡ flush)
IsClean other object page count flush = ⊥

-- the command says whether the file stays
abbrev pub IsCache : Command → ℕ → Bool → Type 0
IsCache (command.Cache file flag) object cache = (file.0 ≡ object) × (flag ≡ cache)
IsCache other object cache = ⊥

-- the copy strategy of an object whose pager is told of a control: copies of a file are delayed
abbrev pub init_strategy : Header → ℕ → ℕ
init_strategy header object = if is_file header object then 2 else 0

-- what the pager of a temporary object or a file sends down
abbrev pub MaySendDown : Header → Outside → Command → ℕ → ℕ → ℕ → Message → List Event → Type 0
MaySendDown header outside why host object control (message.Supply page lock precious bytes) past =
    OwesAnswer host object control page.0 past × Reads object page.0 past × (lock ≡ 0) × (precious ≡ false)
    × (is_file header object ≡ false → (was : List ℕ) × (last_return host object page.0 past ≡ Some was))
    × (tells header outside object ≡ true → pager_has header outside host object page.0 past ≡ Some bytes)
MaySendDown header outside why host object control (message.Unavailable page) past =
    OwesAnswer host object control page.0 past × Reads object page.0 past × MayLack header outside host object page.0 past
MaySendDown header outside why host object control (message.Error page reason) past =
    OwesAnswer host object control page.0 past × (reason ≡ 10) × IsFault object page.0 past
MaySendDown header outside why host object control (message.Ready cache strategy) past =
    (size : ℕ) × (cache ≡ false) × (since (readies object) past ≡ false)
    × (((taken_letter past ≡ Some (record { channel = up host object; message = message.Create control size })) × (strategy ≡ 3))
    ⊎ ((taken_letter past ≡ Some (record { channel = up host object; message = message.Init control size })) × (strategy ≡ init_strategy header object)))
-- a clean wants all changed pages of a file back, from the control that its pager knows
MaySendDown header outside why host object control (message.Lock page count returns flush lock reply) past =
    (is_file header object ≡ true) × (returns ≡ 2) × (lock ≡ 8) × (reply ≡ true)
    × (known_control host object past ≡ Some control) × IsClean why object page.0 count flush × (just_begun past ≡ true)
-- the pager of a file says whether the file stays, to the control that it knows
MaySendDown header outside why host object control (message.Attributes cache strategy reply) past =
    (is_file header object ≡ true) × (strategy ≡ 2) × (reply ≡ true)
    × (known_control host object past ≡ Some control) × IsCache why object cache × (just_begun past ≡ true)
MaySendDown header outside why host object control other past = ⊥

-- what the server of shared memory sends down: what its directory of the page allows, and one ready for an init
abbrev pub ServerSends : Header → ℕ → ℕ → ℕ → Message → List Event → Type 0
ServerSends header host object control (message.Supply page lock precious bytes) past =
    server.ReplyCause header.size host control (Supplying lock precious bytes) (page_part header.size object page.0 past)
ServerSends header host object control (message.Lock page count returns flush lock reply) past =
    server.ReplyCause header.size host control (Locking count returns flush lock reply) (page_part header.size object page.0 past)
ServerSends header host object control (message.Ready cache strategy) past =
    (size : ℕ) × (cache ≡ false) × (since (readies object) past ≡ false)
    × (taken_letter past ≡ Some (record { channel = up host object; message = message.Init control size })) × (strategy ≡ 0)
ServerSends header host object control other past = ⊥

-- the script says it, to the live control: the one message of its command
abbrev pub Says : Command → ℕ → ℕ → ℕ → Message → List Event → Type 0
Says (command.Say at wild said) host object control m past =
    (at.0 ≡ host) × (wild.0 ≡ object) × (said ≡ m) × (live_control host object past ≡ Some control) × (just_begun past ≡ true)
Says other host object control m past = ⊥

-- what is sent down, by the kind of the object
abbrev pub PagerSends : ObjectKind → Header → Outside → Command → ℕ → ℕ → ℕ → Message → List Event → Type 0
PagerSends Temp header outside why host object control m past = MaySendDown header outside why host object control m past
PagerSends File header outside why host object control m past = MaySendDown header outside why host object control m past
PagerSends Shared header outside why host object control m past = ServerSends header host object control m past
PagerSends Wild header outside why host object control m past = Says why host object control m past

-- a symmetric copy is of pages of an entry on a temporary region
pub record CopiesRegion (header : Header) (region source offset pages : ℕ) (past : List Event) : Type 0 where
  pub next : region ≡ next_region header past
  pub temporary : named header ≤ source
  pub task : ℕ
  pub address : ℕ
  pub at : At header task address past
  pub source_is : source ≡ at.entry.region.0
  pub inside : offset + pages ≤ at.entry.offset + at.entry.bytes / header.size

-- a copy of a file's pages stands over a new copy object, and is of pages of an entry on the file
pub record CopiesFile (header : Header) (region source offset pages copy : ℕ) (past : List Event) : Type 0 where
  pub next : region ≡ next_region header past
  pub new : copy ≡ next_object header past
  pub file : is_file header source ≡ true
  pub task : ℕ
  pub address : ℕ
  pub at : At header task address past
  pub source_is : source ≡ at.entry.region.0
  pub inside : offset + pages ≤ at.entry.offset + at.entry.bytes / header.size

-- an entry is of whole pages that its region has, on the host where the region is in use; its task doesn't wait
pub record Enters (header : Header) (task bytes region offset : ℕ) (past : List Event) : Type 0 where
  pub idle : waiting task past ≡ None
  pub host : ℕ
  pub lives : host_of task past ≡ Some host
  pub whole : bytes % header.size ≡ 0
  pub inside : offset + bytes / header.size ≤ (region_of header region past).pages
  pub made : region < next_region header past
  pub used : named header ≤ region → in_use header host region past ≡ true
  pub file : is_file header region ≡ true → in_use header host region past ≡ true
  pub unfilled : is_filled region (tasks past) past ≡ false

-- The region is the one reference of the temporary object: no other region in use has it as its top, and no object that is reached stands on it.
pub record IsTopAlone (header : Header) (host region object : ℕ) (past : List Event) : Type 0 where
  pub tops : (other : ℕ) → named header ≤ other → in_use header host other past ≡ true → (region_of header other past).top ≡ object → other ≡ region
  pub bare : (upper : ℕ) → Reach header host upper past → (backing_of header upper past).backed ≡ true → (backing_of header upper past).under ≡ object → ⊥

-- the top object of a marked region of a waiting store, which has another reference, gets a shadow
pub record Shadows (header : Header) (region new old : ℕ) (past : List Event) : Type 0 where
  pub next : new ≡ next_object header past
  pub is_top : (region_of header region past).top ≡ old
  pub marked : (region_of header region past).mark ≡ true
  pub task : ℕ
  pub address : ℕ
  pub bytes : ℕ
  pub value : ℕ
  pub waits : Waits header task (Storing address bytes value) past
  pub region_is : region ≡ waits.at.entry.region.0
  pub shared : IsTopAlone header waits.at.host region old past → ⊥

-- a marked region of a waiting store loses its mark, since it is the one reference of its top object
pub record Unmarks (header : Header) (region : ℕ) (past : List Event) : Type 0 where
  pub marked : (region_of header region past).mark ≡ true
  pub task : ℕ
  pub address : ℕ
  pub bytes : ℕ
  pub value : ℕ
  pub waits : Waits header task (Storing address bytes value) past
  pub region_is : region ≡ waits.at.entry.region.0
  pub sole : IsTopAlone header waits.at.host region (region_of header region past).top past

-- why a page goes away without a word
pub data DropCause (header : Header) (doing : Command) (host object page : ℕ) (seen : Local) (past : List Event) : Type 0 where
  -- it is clean, and is reclaimed
  Reclaimed : seen.dirty ≡ false → seen.precious ≡ false → Reclaims header doing host object page past → DropCause header doing host object page seen past
  -- no region leads to its temporary object
  Unreached : named header ≤ object → (Reach header host object past → ⊥) → DropCause header doing host object page seen past
  -- its pager flushes it, and doesn't want it back
  Flushed : (returns : ℕ) → IsLocked host object page returns true past → gives_back returns seen.dirty seen.precious ≡ false
      → DropCause header doing host object page seen past
  -- its pager ends the object, which goes by rising page
  Discarded : IsDestroyed header host object past → ((q : ℕ) → q < page → (page_on header host object q past).here ≡ false)
      → DropCause header doing host object page seen past
  -- it is clean, and its object ends on the host
  Ended : seen.dirty ≡ false → seen.precious ≡ false → object < named header → IsUnheld header host object past
      → DropCause header doing host object page seen past

pub record Drops (header : Header) (doing : Command) (host object page : ℕ) (past : List Event) : Type 0 where
  pub here : (page_on header host object page past).here ≡ true
  pub why : DropCause header doing host object page (page_on header host object page past) past

-- a message is taken for the command: `take` takes one of its channel, `settle` the oldest of all, up to its number
abbrev pub MayTake : Command → Channel → List Event → Type 0
MayTake (command.Take of) channel past = (channel ≡ of) × (takings past ≡ 0)
MayTake (command.Settle count) channel past = (oldest_channel past ≡ Some channel) × (takings past < count)
MayTake other channel past = ⊥

-- the message that the step just took: nothing came behind it yet
abbrev pub just_taken : List Event → Option Letter
just_taken (event.Taken channel m ∷ past) = Some (record { channel = channel; message = m })
just_taken other = None

abbrev pub before_taking : List Event → List Event
before_taking [] = []
before_taking (e ∷ past) = past

-- the step just took the return of the page
pub record TakesReturn (host object page : ℕ) (past : List Event) : Type 0 where
  pub control : ℕ
  pub dirty : Bool
  pub keep : Bool
  pub bytes : List ℕ
  pub is : just_taken past ≡ Some (record { channel = up host object; message = message.Return control (record { 0 = page }) dirty keep bytes })

-- the step just took a request for the page
pub record TakesRequest (host object page : ℕ) (past : List Event) : Type 0 where
  pub control : ℕ
  pub access : ℕ
  pub is : just_taken past ≡ Some (record { channel = up host object; message = message.Request control (record { 0 = page }) access })

-- which backing keeps the pages of the object
abbrev pub IsBackingOf : Header → Device → ℕ → Type 0
IsBackingOf header device.Paging object = named header ≤ object
IsBackingOf header device.Files object = is_file header object ≡ true

-- reading is tried only where there is a slot
abbrev pub HasSlot : Header → Device → ℕ → ℕ → ℕ → List Event → Type 0
HasSlot header device.Paging host object page past = (slot : ℕ) × (slot_at header host object page past ≡ Some slot)
HasSlot header device.Files host object page past = Unit {0}

-- a backing fails right behind the request, or the return, for which it was called
abbrev pub DeviceFails : Header → Device → Way → ℕ → ℕ → List Event → Type 0
DeviceFails header who way.Read object page past =
    IsBackingOf header who object × ((host : ℕ) × TakesRequest host object page past × HasSlot header who host object page past)
DeviceFails header who way.Write object page past = IsBackingOf header who object × ((host : ℕ) × TakesReturn host object page past)

-- there was no slot for a page whose return the step just took
pub record NoSlotFor (header : Header) (object page : ℕ) (past : List Event) : Type 0 where
  pub temporary : named header ≤ object
  pub host : ℕ
  pub takes : TakesReturn host object page past
  pub lacks : LacksSlot header host object page (before_taking past)

-- the object is temporary, or a file
abbrev pub is_paged : Header → ℕ → Bool
is_paged header object = not (nat_lt object (named header)) || is_file header object

-- the range of a task that a slow copy fills, and the region that it made for it
pub record Filled : Type 0 where
  pub task : TaskId
  pub address : ℕ
  pub bytes : ℕ
  pub region : ℕ

-- what has to stand right behind an event
pub data Owed : Type 0 where
  -- behind the create of an object the return for which it was made
  ReturnOn : Channel → Owed
  -- behind the end of a slow copy the entry of what it filled
  EntryOf : Filled → Owed

-- of a slow copy with this access, and this target, that ends now
abbrev pub entry_of : TaskId → Option Access → Option Target → Option Owed
entry_of task (Some (Copying address bytes to)) (Some target) = Some (EntryOf (record { task = task; address = to; bytes = bytes; region = target.region }))
entry_of task other target = None

abbrev pub owed : List Event → Option Owed
owed (event.Sent channel (message.Create control size) ∷ past) = Some (ReturnOn channel)
owed (event.CopyEnded task ∷ past) = entry_of task (waiting task.0 past) (copy_target task.0 past)
owed other = None

abbrev pub ReturnsOn : Channel → Event → Type 0
ReturnsOn channel (event.Sent on (message.Return control page dirty keep bytes)) = on ≡ channel
ReturnsOn channel other = ⊥

abbrev pub Pays : Owed → Event → Type 0
Pays (ReturnOn channel) e = ReturnsOn channel e
Pays (EntryOf filled) e = e ≡ event.Entered filled.task filled.address filled.bytes (record { 0 = filled.region }) 0 (record { read = true; write = true }) Copy

abbrev pub IsBehind : Event → List Event → Type 0
IsBehind e past = MatchOption (owed past) (Unit {0}) (λ due. Pays due e)

-- the event is owed
abbrev pub IsOwed : Event → List Event → Type 0
IsOwed e past = MatchOption (owed past) ⊥ (λ due. Pays due e)

-- the cause of an event in the step of a command; heads of groups have theirs in the command, and premises here
abbrev pub Caused : Header → Outside → Command → Event → List Event → Type 0
Caused header outside why (event.RegionMade region object pages) past = (region.0 ≡ next_region header past) × (object.0 ≡ next_object header past)
Caused header outside why (event.RegionCopied region source offset pages) past = CopiesRegion header region.0 source.0 offset pages past
Caused header outside why (event.Delayed region source offset pages copy) past = CopiesFile header region.0 source.0 offset pages copy.0 past
Caused header outside why (event.Entered task address bytes region offset prot inherit) past = Enters header task.0 bytes region.0 offset past
Caused header outside why (event.Shadowed region new old) past = Shadows header region.0 new.0 old.0 past
Caused header outside why (event.Unmarked region) past = Unmarks header region.0 past
Caused header outside why (event.Merged upper lower) past = Merges header upper.0 lower.0 past
Caused header outside why (event.Loaded task object page value) past = Loads header task.0 object.0 page.0 past
Caused header outside why (event.Stored task object page at bytes value) past = Stores header task.0 object.0 page.0 at bytes value past
Caused header outside why (event.CopiedPage task page object object_page target) past = CopiesPage header task.0 page.0 object.0 object_page.0 target.0 past
Caused header outside why (event.CopyEnded task) past = EndsCopy header task.0 past
Caused header outside why (event.Failed task object page) past = Fails header task.0 object.0 page.0 past
Caused header outside why (event.Zeroed host object page) past = Fills header host.0 object.0 page.0 past ⊎ Bottoms header host.0 object.0 page.0 past
Caused header outside why (event.Raised host lower lower_page upper upper_page) past = Raises header host.0 lower.0 lower_page.0 upper.0 upper_page.0 past
Caused header outside why (event.Dropped host object page) past = Drops header why host.0 object.0 page.0 past
Caused header outside why (event.Sent (Up host object) m) past = MaySendUp header why host.0 object.0 m past
Caused header outside why (event.Sent (Down host object control) m) past =
    PagerSends (kind_of header object.0) header outside why host.0 object.0 control m past
Caused header outside why (event.Taken channel m) past = (first (queue channel past) ≡ Some m) × MayTake why channel past
Caused header outside why (event.DeviceFailed who way object page) past = DeviceFails header who way object.0 page.0 past
Caused header outside why (event.NoSlot object page) past = NoSlotFor header object.0 page.0 past
-- whoever changes its entries, ends, or begins an access has none that waits
Caused header outside why (event.TaskEnded task) past = waiting task.0 past ≡ None
Caused header outside why (event.Removed task address bytes) past = waiting task.0 past ≡ None
Caused header outside why (event.Protected task address bytes prot) past = waiting task.0 past ≡ None
Caused header outside why (event.Inherited task address bytes inherit) past = waiting task.0 past ≡ None
Caused header outside why (event.BegunLoad task address size) past = waiting task.0 past ≡ None
Caused header outside why (event.BegunStore task address size value) past = waiting task.0 past ≡ None
Caused header outside why (event.BegunCopy task address bytes to) past = waiting task.0 past ≡ None
-- these stand in the head of a group alone
Caused header outside why (event.Line line) past = Unit {0}
Caused header outside why (event.Refused code) past = Unit {0}
Caused header outside why (event.TaskMade task host) past = Unit {0}
Caused header outside why (event.Wired host count) past = Unit {0}

-- the event has its cause, whatever the command is in whose step it stands
abbrev pub HasCause : Header → Outside → Event → List Event → Type 0
HasCause header outside e past = (doing : Command) × Caused header outside doing e past

abbrev pub Licensed : Header → Outside → Command → Event → List Event → Type 0
Licensed header outside why e past = Caused header outside why e past × IsBehind e past

-- each of these events, on top of a past, has its cause
abbrev pub AllLicensed : Header → Outside → Command → List Event → List Event → Type 0
AllLicensed header outside why [] past = Unit {0}
AllLicensed header outside why (e ∷ more) past = Licensed header outside why e (more ++ past) × AllLicensed header outside why more past
