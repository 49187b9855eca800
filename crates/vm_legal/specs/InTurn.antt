-- What the rules fix beyond what makes a history legal: in which turn things are done that have their cause, and that nobody is passed over.
use Rattle.std.specs.Prelude.{ℕ, ◌<◌, ◌≡◌, Bool, List, [], ◌∷◌, ◌++◌, length, true, false, None, Some, ◌==◌, ◌&&◌, nat_lt, not, if◌then◌else◌}
use Rattle.vm_model.specs.declared.command.Command.{Command}
use Rattle.vm_model.specs.declared.command.Command.TheVariants as command
use Rattle.vm_model.specs.declared.command.Numbered.{Numbered}
use Rattle.vm_model.specs.declared.event.Device.{Device}
use Rattle.vm_model.specs.declared.event.Event.{Event}
use Rattle.vm_model.specs.declared.event.Event.TheVariants as event
use Rattle.vm_model.specs.declared.event.Way.{Way}
use Rattle.vm_model.specs.declared.event.Way.TheVariants as way
use Rattle.vm_model.specs.declared.message.Channel.TheVariants.{Up}
use Rattle.vm_model.specs.declared.message.Message.{Message}
use Rattle.vm_model.specs.declared.message.Message.TheVariants as message
use Rattle.vm_model.specs.declared.script.Header.{Header}
use Rattle.vm_model.specs.Controls.{live_control}
use Rattle.vm_model.specs.Local.{Local}
use Rattle.vm_model.specs.PagePart.{page_part}
use Rattle.vm_model.specs.Regions.{is_copy}
use Rattle.vm_model.specs.Server.{Wanting, first, line, wants_write}
use Rattle.vm_model.specs.Side.{side}
use Rattle.vm_model.specs.Waiting.{Access, is_store}
use Rattle.vm_legal.specs.Accesses.{Comes, FindsPage, HasPlace, Waits, begun_at, is_ready, names, page_of}
use Rattle.vm_legal.specs.Destroyed.{destroy_taken}
use Rattle.vm_legal.specs.Follows.{FollowsBy, FollowsSoFarBy, IsDone, IsGroupBy, IsRunBy, IsWholeBy, SoFarBy}
use Rattle.vm_legal.specs.Frames.{frames_free}
use Rattle.vm_legal.specs.Licences.{ByError, Caused, DeviceFails, DropCause, Drops, Ended, Fails, GivesBack, HasSlot, IsBackingOf, IsBehind, MaySendUp}
use Rattle.vm_legal.specs.Licences.{ReturnCause, TakesReturn, Unreached, Unserved}
use Rattle.vm_legal.specs.Outside.{Outside, is_shared, is_wild}
use Rattle.vm_legal.specs.Prompt.{Awaits}
use Rattle.vm_legal.specs.Pushes.{OwesPush, is_pushed}
use Rattle.vm_legal.specs.Serving.{HostsServed}
use Rattle.vm_legal.specs.Steps.{before_step, error_taken, fails_of, fails_task, since}
use Rattle.vm_legal.specs.Walks.{page_on}

-- those whom the error that the step took has ended before began earlier
abbrev pub FailsInTurn : ℕ → ℕ → ℕ → List Event → Type 0
FailsInTurn task object page past = (other : ℕ) → since (fails_task other object page) past ≡ true → begun_at other past < begun_at task past

-- those who waited on the object when the step took its end, and began earlier, have failed in front
abbrev pub FallsInTurn : Header → ℕ → ℕ → List Event → Type 0
FallsInTurn header task object past =
    (host other : ℕ) (access : Access) (waits : Waits header other access (before_step past))
    → destroy_taken past ≡ Some (record { host = host; object = object })
    → waits.at.host ≡ host → waits.at.entry.region.0 ≡ object → begun_at other past < begun_at task past → since (fails_of other object) past ≡ true

-- who fails does so by rising beginning
abbrev pub FailureInTurn : (header : Header) (task object page : ℕ) (past : List Event) → Fails header task object page past → Type 0
FailureInTurn header task object page past (ByError fails) = FailsInTurn task object page past
FailureInTurn header task object page past (Unserved fails) = FallsInTurn header task object past

-- no page of the object with a smaller number is here
abbrev pub IsFirstHere : Header → ℕ → ℕ → ℕ → List Event → Type 0
IsFirstHere header host object page past = (q : ℕ) → q < page → (page_on header host object q past).here ≡ false

-- of an object that ends the pages go by rising number
abbrev pub DropsInTurn : (header : Header) (doing : Command) (host object page : ℕ) (seen : Local) (past : List Event)
    → DropCause header doing host object page seen past → Type 0
DropsInTurn header doing host object page seen past (Unreached temporary unreached) = IsFirstHere header host object page past
DropsInTurn header doing host object page seen past (Ended clean plain declared unheld) = IsFirstHere header host object page past
DropsInTurn header doing host object page seen past other = Unit {0}

abbrev pub ReturnsInTurn : (header : Header) (doing : Command) (host object page : ℕ) (keep : Bool) (past : List Event)
    → ReturnCause header doing host object page keep past → Type 0
ReturnsInTurn header doing host object page keep past (Ended gone declared unheld) = IsFirstHere header host object page past
ReturnsInTurn header doing host object page keep past other = Unit {0}

-- the paging area is written only where the page has a slot
abbrev pub DeviceFailsInTurn : Header → Device → Way → ℕ → ℕ → List Event → Type 0
DeviceFailsInTurn header who way.Read object page past = DeviceFails header who way.Read object page past
DeviceFailsInTurn header who way.Write object page past =
    IsBackingOf header who object × ((host : ℕ) × TakesReturn host object page past × HasSlot header who host object page past)

abbrev pub SendsInTurn : Header → Command → ℕ → ℕ → Message → List Event → Type 0
SendsInTurn header why host object (message.Return control page dirty keep bytes) past =
    (gives : GivesBack header why host control object page.0 dirty keep bytes past) × ReturnsInTurn header why host object page.0 keep past gives.why
SendsInTurn header why host object other past = MaySendUp header why host object other past

-- the event has its cause, and comes in its turn
abbrev pub CausedInTurn : Header → Outside → Command → Event → List Event → Type 0
CausedInTurn header outside why (event.Failed task object page) past =
    (fails : Fails header task.0 object.0 page.0 past) × FailureInTurn header task.0 object.0 page.0 past fails
CausedInTurn header outside why (event.Dropped host object page) past =
    (drops : Drops header why host.0 object.0 page.0 past)
    × DropsInTurn header why host.0 object.0 page.0 (page_on header host.0 object.0 page.0 past) past drops.why
CausedInTurn header outside why (event.Sent (Up host object) m) past = SendsInTurn header why host.0 object.0 m past
CausedInTurn header outside why (event.DeviceFailed who way object page) past = DeviceFailsInTurn header who way object.0 page.0 past
CausedInTurn header outside why other past = Caused header outside why other past

abbrev pub LicensedInTurn : Header → Outside → Command → Event → List Event → Type 0
LicensedInTurn header outside why e past = CausedInTurn header outside why e past × IsBehind e past

-- so does each of these events, on top of a past
abbrev pub AllInTurn : Header → Outside → Command → List Event → List Event → Type 0
AllInTurn header outside why [] past = Unit {0}
AllInTurn header outside why (e ∷ more) past = LicensedInTurn header outside why e (more ++ past) × AllInTurn header outside why more past

-- a task of the host waits with an access whose walk stops at the place, and which awaits nothing at another place of its page, nor at that of a copy to which
-- it owes the page
pub record WaitsAt (header : Header) (host task object page : ℕ) (past : List Event) : Type 0 where
  pub access : Access
  pub waits : Waits header task access past
  pub on_host : waits.at.host ≡ host
  pub comes : Comes header host waits.at.entry.region.0 (page_of header task access past waits.at.entry) object page past
  pub only : (other other_page : ℕ) → HasPlace header waits.at.entry.region.0 (page_of header task access past waits.at.entry) other other_page past
      → Awaits header host (is_store access) other other_page past → (other ≡ object) × (other_page ≡ page)
  pub free : is_store access ≡ true → (copy : ℕ) → OwesPush header host object page copy past → (page_on header host copy page past).asked ≡ false

-- an error has ended each access that waited for its page when the step began; on a host without a free frame some may have waited for a frame
abbrev pub EndsWaiters : Header → ℕ → ℕ → ℕ → List Event → Type 0
EndsWaiters header host object page past =
    (task : ℕ) → WaitsAt header host task object page (before_step past) → (frames_free header host (before_step past) ≡ 0 → ⊥)
    → since (fails_task task object page) past ≡ true

-- whichever error the step took
abbrev pub EndsAll : Header → List Event → Type 0
EndsAll header past =
    (host object page : ℕ) → error_taken header past ≡ Some (record { host = host; object = object; page = page })
    → EndsWaiters header host object page past

-- A task of the host waits whose walk comes to a page that is here, and whose lock lets it in; where it owes that page to a copy, it isn't asked for that.
-- Where something was copied up into a copy object's place of its page, that object has no pager, or one that is ready: an access may wait for the ready there
-- while somebody pushes its page.
pub record ComesToPage (header : Header) (host task : ℕ) (past : List Event) : Type 0 where
  pub access : Access
  pub waits : Waits header task access past
  pub on_host : waits.at.host ≡ host
  pub object : ℕ
  pub page : ℕ
  pub comes : Comes header host waits.at.entry.region.0 (page_of header task access past waits.at.entry) object page past
  pub here : (page_on header host object page past).here ≡ true
  pub let_in : names (page_on header host object page past).lock (is_store access) ≡ false
  pub free : is_store access ≡ true → (copy : ℕ) → OwesPush header host object page copy past → (page_on header host copy page past).asked ≡ false
  pub told : (other other_page : ℕ) → HasPlace header waits.at.entry.region.0 (page_of header task access past waits.at.entry) other other_page past
      → is_copy other past ≡ true → is_pushed host other other_page past ≡ true → (control : ℕ) → live_control host other past ≡ Some control
      → is_ready host other past ≡ true

-- whoever waits beside its page wants a frame for it, and none is free
abbrev pub NoneSleepsOn : Header → ℕ → List Event → Type 0
NoneSleepsOn header host past = (task : ℕ) → ComesToPage header host task past → frames_free header host past ≡ 0

abbrev pub NoneSleeps : Header → List Event → Type 0
NoneSleeps header past = (host : ℕ) → host < length header.frames.items → NoneSleepsOn header host past

-- a step that has ended has ended each access that waited for the page of its error, its hosts have served by rising number, and nobody sleeps beside its page
-- while a frame is free
pub record StepIsInTurn (header : Header) (past : List Event) : Type 0 where
  pub ended : EndsAll header past
  pub served : HostsServed header past
  pub awake : NoneSleeps header past

-- the event ends the access of a task that did what it was to do
abbrev pub IsEnd : ℕ → Event → Type 0
IsEnd t (event.Loaded task object page value) = task.0 ≡ t
IsEnd t (event.Stored task object page at bytes value) = task.0 ≡ t
IsEnd t other = ⊥

-- the event ends the access of a task in memory failure
abbrev pub IsFailureOf : ℕ → Event → Type 0
IsFailureOf t (event.Failed task object page) = task.0 ≡ t
IsFailureOf t other = ⊥

-- on top of some events the next one ends something so
pub record IsNext (Ends : Event → Type 0) (before after : List Event) : Type 0 where
  pub later : List Event
  pub end : Event
  pub is : after ≡ later ++ end ∷ before
  pub ends : Ends end

-- the access of a task ends next
abbrev pub EndsNext : ℕ → List Event → List Event → Type 0
EndsNext task before after = IsNext (IsEnd task) before after

-- or it fails next
abbrev pub FailsNext : ℕ → List Event → List Event → Type 0
FailsNext task before after = IsNext (IsFailureOf task) before after

-- an access that waits is one on a wild object of which no control lives on its host: its pager has ended it
pub record MeetsNoControl (header : Header) (task : ℕ) (past : List Event) : Type 0 where
  pub access : Access
  pub waits : Waits header task access past
  pub wild : is_wild header waits.at.entry.region.0 ≡ true
  pub none : live_control waits.at.host waits.at.entry.region.0 past ≡ None

-- an access ends next where it finds its page, and fails next where it meets no control
pub record GoesNext (header : Header) (task : ℕ) (past before after : List Event) : Type 0 where
  pub finds : FindsPage header task (before ++ past) → EndsNext task before after
  pub meets : MeetsNoControl header task (before ++ past) → FailsNext task before after

-- a host stands in the way of one that wants a page: it has the page too, or, of one that wants to read, can write it
abbrev pub is_in_way : Wanting → ℕ → ℕ → Bool
is_in_way w host holds = not (host == w.host) && (if wants_write w then nat_lt 0 holds else holds == 2)

-- of each page of shared memory each host is awaited that stands in the way of the first in line: all are recalled at once
abbrev pub AllRecalled : Header → List Event → Type 0
AllRecalled header past =
    (object page host : ℕ) (w : Wanting) → is_shared header object ≡ true → first (line (page_part header.size object page past)) ≡ Some w
    → is_in_way w host (side host (page_part header.size object page past)).holds ≡ true → 0 < (side host (page_part header.size object page past)).awaits

-- a command is done, and an access that when it begins finds its page, or meets no control, ends next
abbrev pub IsDoneInTurn : Header → Command → List Event → List Event → Type 0
IsDoneInTurn header (command.Load task address size) group past = GoesNext header task.0 past (event.BegunLoad task address size ∷ []) group
IsDoneInTurn header (command.Store task address size value) group past =
    GoesNext header task.0 past (event.BegunStore task address size value ∷ []) group
IsDoneInTurn header other group past = IsDone header other group past

-- what stands behind the line of a command, with each event in its turn
abbrev pub IsRunInTurn : Header → Outside → List Event → Numbered → List Event → List Event → Type 0
IsRunInTurn header outside past numbered first group = IsRunBy (AllInTurn header outside) header past numbered first group

abbrev pub IsGroupInTurn : Header → Outside → List Event → Numbered → List Event → Type 0
IsGroupInTurn header outside past numbered group = IsGroupBy (AllInTurn header outside) header past numbered group

abbrev pub IsWholeInTurn : Header → List Event → Numbered → List Event → Type 0
IsWholeInTurn header past numbered group = IsWholeBy (IsDoneInTurn header) header past numbered group

abbrev pub IsWholeSoFarInTurn : Header → List Event → Numbered → List Event → Type 0
IsWholeSoFarInTurn header past numbered group = IsWholeBy (SoFarBy (IsDoneInTurn header)) header past numbered group

-- the groups are those of the commands, with everything in its turn
abbrev pub FollowsInTurn : Header → Outside → List Numbered → List Event → Type 0
FollowsInTurn header outside commands history = FollowsBy (AllInTurn header outside) (IsDoneInTurn header) header commands history

abbrev pub FollowsSoFarInTurn : Header → Outside → List Numbered → List Event → Type 0
FollowsSoFarInTurn header outside commands history = FollowsSoFarBy (AllInTurn header outside) (IsDoneInTurn header) header commands history
