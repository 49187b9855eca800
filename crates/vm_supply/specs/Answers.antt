-- What the answers of a pager come to, and what each does to a host.
use Rattle.std.specs.Prelude.{ℕ, ◌<◌, ◌≡◌, ◌==◌, ◌&&◌, Bool, true, false, List, ◌∷◌, Option, Some, None, if◌then◌else◌, is_some, length, replicate}
use Rattle.vm_base.specs.declared.ids.HostId.{HostId}
use Rattle.vm_base.specs.declared.ids.ObjectId.{ObjectId}
use Rattle.vm_base.specs.declared.ids.ObjectKind.{ObjectKind}
use Rattle.vm_base.specs.declared.ids.ObjectKind.TheVariants as kind
use Rattle.vm_base.specs.declared.ids.PageKey.{PageKey}
use Rattle.vm_base.specs.declared.ids.PageNo.{PageNo}
use Rattle.vm_model.specs.declared.event.Event.{Event}
use Rattle.vm_model.specs.declared.event.Event.TheVariants as event
use Rattle.vm_model.specs.declared.message.Message.{Message}
use Rattle.vm_model.specs.declared.message.Message.TheVariants as message
use Rattle.vm_objects.specs.Objects.{PutsAbsent, PutsObject, SameMarks, SameObjects, SameRooms, object_at}
use Rattle.vm_objects.specs.declared.row.ObjectRow.{ObjectRow}
use Rattle.vm_objects.specs.declared.row.PagerState.{PagerState}
use Rattle.vm_objects.specs.declared.row.PagerState.TheVariants as state
use Rattle.vm_resident.specs.Resident.{row_at}
use Rattle.vm_resident.specs.declared.page_row.PageRow.{PageRow}
use Rattle.vm_parts.specs.Changes.{Cancels, FillsPage, asked_row, unlocked}
use Rattle.vm_parts.specs.Locks.{lock_numbered}
use Rattle.vm_parts.specs.declared.parts.HostParts.{HostParts}
use Rattle.vm_supply.specs.declared.woken.Woken.{Woken}
use Rattle.vm_supply.specs.declared.woken.Woken.TheVariants as woken

-- an answer of a pager, where a page has so many bytes
abbrev pub IsAnswer : ℕ → Message → Type 0
IsAnswer size (message.Ready cache strategy) = Unit {0}
IsAnswer size (message.Supply page lock precious bytes) = (lock < 4) × (length bytes ≡ size)
IsAnswer size (message.Unavailable page) = Unit {0}
IsAnswer size (message.Error page reason) = Unit {0}
IsAnswer size other = ⊥

-- what an answer comes to
pub data AnswerOutcome : Type 0 where
  -- nothing
  Discarded : AnswerOutcome
  -- the pager is ready
  Readied : AnswerOutcome
  -- a page has come with these bytes
  Supplied : (page : PageNo) → (lock : ℕ) → (precious : Bool) → (bytes : List ℕ) → AnswerOutcome
  -- a page has come as zeros
  Zeroed : (page : PageNo) → AnswerOutcome
  -- the pager is known not to have a page
  Lacked : (page : PageNo) → AnswerOutcome
  -- the pager can't give a page
  Failed : (page : PageNo) → AnswerOutcome

-- a second ready comes to nothing
abbrev pub ready_outcome : PagerState → AnswerOutcome
ready_outcome state.Without = Readied
ready_outcome state.Sent = Readied
ready_outcome state.Ready = Discarded

-- what the default pager doesn't have is noted; what another pager doesn't have is zeros
abbrev pub unavailable_outcome : ObjectKind → PageNo → AnswerOutcome
unavailable_outcome kind.Temp page = Lacked page
unavailable_outcome kind.File page = Zeroed page
unavailable_outcome kind.Shared page = Zeroed page
unavailable_outcome kind.Wild page = Zeroed page

-- an answer of a page counts only where the page is asked
abbrev pub where_asked : Option PageRow → AnswerOutcome → AnswerOutcome
where_asked row outcome = if is_some (asked_row row) then outcome else Discarded

-- what an answer of a live control comes to, where the object's pages have these rows
abbrev pub live_outcome : ObjectRow → (ℕ → Option PageRow) → Message → AnswerOutcome
live_outcome known rows (message.Ready cache strategy) = ready_outcome known.state
live_outcome known rows (message.Supply page lock precious bytes) = where_asked (rows page.0) (Supplied page lock precious bytes)
live_outcome known rows (message.Unavailable page) = where_asked (rows page.0) (unavailable_outcome known.kind page)
live_outcome known rows (message.Error page reason) = where_asked (rows page.0) (Failed page)
live_outcome known rows other = Discarded

-- a control is live where it is the latest of an object that the host knows, and in use
abbrev pub outcome_of : Option ObjectRow → ℕ → (ℕ → Option PageRow) → Message → AnswerOutcome
outcome_of None control rows message = Discarded
outcome_of (Some known) control rows message = if known.live && known.control == control then live_outcome known rows message else Discarded

-- what an answer for a control comes to on a host
abbrev pub outcome_on : HostParts → ObjectId → ℕ → Message → AnswerOutcome
outcome_on parts object control message = outcome_of (object_at parts.objects object.0) control (row_at parts.resident object.0) message

-- a page is asked, and this is its row
abbrev pub HasAsked : PageKey → PageRow → HostParts → Type 0
HasAsked key was parts = asked_row (row_at parts.resident key.object.0 key.page.0) ≡ Some was

-- the pager of an object is ready now
pub record Readies (object : ObjectId) (who : Woken) (old new : HostParts) (before after : List Event) : Type 0 where
  pub woken : who ≡ woken.ReadyOf object
  pub known : ObjectRow
  pub found : object_at old.objects object.0 ≡ Some known
  pub ready : PutsObject object.0 (Some (record known { state = state.Ready })) old.objects new.objects
  pub marks : SameMarks old.objects new.objects
  pub rooms : SameRooms old.objects new.objects
  pub rest : new ≡ record old { objects = new.objects }
  pub events : after ≡ before

-- a page has come, as its pager supplied it
pub record Supplies (key : PageKey) (lock : ℕ) (precious : Bool) (bytes : List ℕ) (who : Woken) (old new : HostParts) (before after : List Event) : Type 0 where
  pub woken : who ≡ woken.Page key
  pub was : PageRow
  pub asked : HasAsked key was old
  pub page : FillsPage key was (lock_numbered lock) precious bytes old new
  pub objects : new.objects ≡ old.objects
  pub events : after ≡ before

-- a page that its pager doesn't have has come as zeros, and that was told
pub record Zeroes (host : HostId) (key : PageKey) (who : Woken) (old new : HostParts) (before after : List Event) : Type 0 where
  pub woken : who ≡ woken.Page key
  pub was : PageRow
  pub asked : HasAsked key was old
  pub page : FillsPage key was unlocked false (replicate old.buffers.size 0) old new
  pub objects : new.objects ≡ old.objects
  pub events : after ≡ event.Zeroed host key.object key.page ∷ before

-- a page of temporary memory is known not to be with its pager
pub record Lacks (key : PageKey) (who : Woken) (old new : HostParts) (before after : List Event) : Type 0 where
  pub woken : who ≡ woken.Page key
  pub was : PageRow
  pub asked : HasAsked key was old
  pub page : Cancels key was old new
  pub absent : PutsAbsent key.object.0 key.page.0 true old.objects new.objects
  pub objects : SameObjects old.objects new.objects
  pub rows : new.objects.rows ≡ old.objects.rows
  pub events : after ≡ before

-- a page couldn't be given
pub record FailsPage (key : PageKey) (who : Woken) (old new : HostParts) (before after : List Event) : Type 0 where
  pub woken : who ≡ woken.Fails key
  pub was : PageRow
  pub asked : HasAsked key was old
  pub page : Cancels key was old new
  pub objects : new.objects ≡ old.objects
  pub events : after ≡ before

abbrev pub key_of : ObjectId → PageNo → PageKey
key_of object page = record { object = object; page = page }

-- whom an answer wakes, what it changes, and what it tells
abbrev pub AnswerEffects : HostId → ObjectId → AnswerOutcome → Woken → HostParts → HostParts → List Event → List Event → Type 0
AnswerEffects host object Discarded who old new before after = (who ≡ woken.Nobody) × (new ≡ old) × (after ≡ before)
AnswerEffects host object Readied who old new before after = Readies object who old new before after
AnswerEffects host object (Supplied page lock precious bytes) who old new before after =
    Supplies (key_of object page) lock precious bytes who old new before after
AnswerEffects host object (Zeroed page) who old new before after = Zeroes host (key_of object page) who old new before after
AnswerEffects host object (Lacked page) who old new before after = Lacks (key_of object page) who old new before after
AnswerEffects host object (Failed page) who old new before after = FailsPage (key_of object page) who old new before after
