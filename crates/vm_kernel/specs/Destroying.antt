-- Wild objects whose pager ends them: their pages go, their controls end, and accesses on them fail.
use Rattle.std.specs.List.{filter}
use Rattle.std.specs.Option.{option_map}
use Rattle.std.specs.Prelude.{ℕ, ◌+◌, ◌≡◌, ◌==◌, ◌&&◌, ◌⊎◌, ◌++◌, nat_lt, not, Bool, true, false, List, [], ◌∷◌, length, map, Option, Some, None, if◌then◌else◌}
use Rattle.vm_base.specs.declared.ids.ObjectId.{ObjectId}
use Rattle.vm_base.specs.declared.ids.PageKey.{PageKey}
use Rattle.vm_base.specs.declared.ids.TaskId.{TaskId}
use Rattle.vm_base.specs.Entries.{entry_at}
use Rattle.vm_legal.specs.Accesses.{Waits}
use Rattle.vm_legal.specs.Destroyed.{HasDestroyed, destroy_taken}
use Rattle.vm_legal.specs.Frames.{asked_pages}
use Rattle.vm_legal.specs.Outside.{is_wild}
use Rattle.vm_legal.specs.Steps.{before_step, drops_page, ends_control, fails_of, since}
use Rattle.vm_legal.specs.Stretches.{EachOf}
use Rattle.vm_legal.specs.Walks.{page_on}
use Rattle.vm_maps.specs.Judge.{place_at}
use Rattle.vm_maps.specs.Maps.{Mapped, rows_in}
use Rattle.vm_maps.specs.declared.place.Place.{Place}
use Rattle.vm_model.specs.Controls.{is_control}
use Rattle.vm_model.specs.Waiting.{Access}
use Rattle.vm_model.specs.declared.event.Event.{Event}
use Rattle.vm_model.specs.declared.event.Event.TheVariants as event
use Rattle.vm_model.specs.declared.message.Channel.TheVariants.{Down}
use Rattle.vm_model.specs.declared.message.Message.{Message}
use Rattle.vm_model.specs.declared.message.Message.TheVariants as message
use Rattle.vm_model.specs.declared.script.Header.{Header}
use Rattle.vm_objects.specs.Objects.{object_at}
use Rattle.vm_parts.specs.Changes.{one}
use Rattle.vm_state.specs.Pagers.{live_in}
use Rattle.vm_state.specs.References.{is_live_in}
use Rattle.vm_waits.specs.Waits.{WaitTable, entry, is_again, with_on}
use Rattle.vm_waits.specs.declared.waiting.On.TheVariants.{Again}
use Rattle.vm_waits.specs.declared.waiting.Waiting.{Waiting}
use Rattle.vm_waits.specs.declared.waiting.Want.{Want}
use Rattle.vm_waits.specs.declared.waiting.Want.TheVariants as want
use Rattle.vm_kernel.specs.declared.parts.Parts.{Parts}

-- the message ends an object
abbrev pub is_destroy : Message → Bool
is_destroy (message.Destroy reason) = true
is_destroy other = false

-- where a load or a store leads; a slow copy is never of a wild object
abbrev pub place_led : Mapped → ℕ → Want → Option Place
place_led maps task (want.Load address bytes) = option_map (place_at maps.size address) (entry_at address (rows_in task maps))
place_led maps task (want.Store address bytes value) = option_map (place_at maps.size address) (entry_at address (rows_in task maps))
place_led maps task (want.CopyTo address pages target next) = None

-- the page of a declared object of which no control lives
abbrev pub unserved_at : Parts → Option Place → Option PageKey
unserved_at k None = None
unserved_at k (Some place) =
    if nat_lt place.region.0 (length k.declared.items) && not (is_live_in (object_at k.memory.objects place.region.0))
    then Some (record { object = record { 0 = place.region.0 }; page = place.page })
    else None

-- the page of such an object that an access is about
abbrev pub unserved : Parts → Waiting → Option PageKey
unserved k w = unserved_at k (place_led k.maps w.task.0 w.want)

-- the place is in the region of a declared object
abbrev pub is_place_on : ℕ → Option Place → Bool
is_place_on object None = false
is_place_on object (Some place) = place.region.0 == object

-- an access is on the object
abbrev pub is_on : Mapped → ℕ → Waiting → Bool
is_on maps object w = is_place_on object (place_led maps w.task.0 w.want)

-- and isn't to be run again yet
abbrev pub stands_on : Mapped → ℕ → Waiting → Bool
stands_on maps object w = not (is_again w.on) && is_on maps object w

-- the oldest of these
abbrev pub oldest_on : Mapped → ℕ → List Waiting → Option Waiting
oldest_on maps object [] = None
oldest_on maps object (w ∷ ws) = if stands_on maps object w then Some w else oldest_on maps object ws

abbrev pub waits_on : Mapped → ℕ → Option Waiting → Bool
waits_on maps object None = false
waits_on maps object (Some w) = is_on maps object w

-- an access on the object is to be run again
abbrev pub woken_on : Mapped → ℕ → Waiting → Waiting
woken_on maps object w = if is_on maps object w then with_on w Again else w

-- the queue without those who are on the object
abbrev pub queue_but_on : Mapped → ℕ → List Waiting → List TaskId → List TaskId
queue_but_on maps object rows queue = filter (λ task. not (waits_on maps object (entry rows task.0))) queue

-- each access on the object is to be run again, and none of them queues
pub record WakesOn (maps : Mapped) (object : ℕ) (old new : WaitTable) : Type 0 where
  pub rows : new.rows ≡ map (woken_on maps object) old.rows
  pub queue : new.queue ≡ queue_but_on maps object old.rows old.queue
  pub room : new.room ≡ old.room

-- each access that is to be run again is on an object without a control
abbrev pub AllUnserved : Parts → Type 0
AllUnserved k = (t : ℕ) (w : Waiting) → entry k.waits.rows t ≡ Some w → is_again w.on ≡ true → (key : PageKey) × (unserved k w ≡ Some key)

-- whoever waited on an object which its pager ended in the step has failed
abbrev pub HaveFallen : Header → List Event → Type 0
HaveFallen header past =
    (host object task : ℕ) (access : Access) (waits : Waits header task access (before_step past))
    → destroy_taken past ≡ Some (record { host = host; object = object }) → waits.at.host ≡ host → waits.at.entry.region.0 ≡ object
    → since (fails_of task object) past ≡ true

-- a task's access is on the object, and is to be run again
pub record StandsAgain (k : Parts) (task object : ℕ) : Type 0 where
  pub row : Waiting
  pub is : entry k.waits.rows task ≡ Some row
  pub over : is_on k.maps object row ≡ true
  pub again : is_again row.on ≡ true

-- or its access is to be run again
abbrev pub StandOrFell : Header → Parts → List Event → Type 0
StandOrFell header k past =
    (host object task : ℕ) (access : Access) (waits : Waits header task access (before_step past))
    → destroy_taken past ≡ Some (record { host = host; object = object }) → waits.at.host ≡ host → waits.at.entry.region.0 ≡ object
    → StandsAgain k task object ⊎ (since (fails_of task object) past ≡ true)

-- an access fails
abbrev pub IsFailure : Event → Type 0
IsFailure (event.Failed task object page) = Unit {0}
IsFailure other = ⊥

-- all events that were added are such
pub record FailsOnly (old new : List Event) : Type 0 where
  pub more : List Event
  pub is : new ≡ more ++ old
  pub each : EachOf IsFailure more

-- how often a number stands in a list
abbrev pub occurrences : ℕ → List ℕ → ℕ
occurrences n [] = 0
occurrences n (m ∷ more) = one (m == n) + occurrences n more

-- These are the pages of an object that are asked on a host, each once, and as many as are counted: so it is behind any events that have their causes.
pub record AreAsked (header : Header) (h o : ℕ) (past : List Event) : Type 0 where
  pub pages : List ℕ
  pub each : (p : ℕ) → occurrences p pages ≡ one (page_on header h o p past).asked
  pub count : length pages ≡ asked_pages header h o past

-- an object may be ended by its pager: the script is its pager
pub record MayDestroy (header : Header) (h o : ℕ) (past : List Event) : Type 0 where
  pub wild : is_wild header o ≡ true
  pub asked : AreAsked header h o past

-- the end of an object was taken
pub record TakesDestroy (h : ℕ) (object : ObjectId) (control : ℕ) (front : List Event) : Type 0 where
  pub reason : ℕ
  pub is : front ≡ event.Taken (Down (record { 0 = h }) object control) (message.Destroy reason) ∷ []

-- an object's pages that were here have been dropped, and its control has ended
pub record HasEmptied (header : Header) (h o : ℕ) (before past : List Event) : Type 0 where
  pub pages : (page : ℕ) → (page_on header h o page before).here ≡ true → since (drops_page h o page) past ≡ true
  pub ended : since (ends_control h o) past ≡ true

-- the end of a wild object that the step took is done
abbrev pub IsDestroyPaid : Header → List Event → Type 0
IsDestroyPaid header past =
    (host object : ℕ) → is_wild header object ≡ true → destroy_taken past ≡ Some (record { host = host; object = object })
    → HasDestroyed header host object past

-- the frame queue once a pager's word is done, in front of what is run again: those are no more in it whose object has ended
abbrev pub queue_behind : ℕ → ℕ → Message → Parts → List TaskId
queue_behind object control m k =
    if is_destroy m && is_control control (live_in (object_at k.memory.objects object)) then queue_but_on k.maps object k.waits.rows k.waits.queue
    else k.waits.queue
