-- A message of a pager is taken.
use Rattle.std.specs.Prelude.{ℕ, ◌<◌, ◌≡◌, ◌==◌, ◌&&◌, ◌++◌, Bool, true, false, not, List, Option, Some, None}
use Rattle.vm_base.specs.declared.ids.PageKey.{PageKey}
use Rattle.vm_model.specs.declared.command.Command.{Command}
use Rattle.vm_model.specs.declared.event.Event.{Event}
use Rattle.vm_model.specs.declared.message.Message.{Message}
use Rattle.vm_model.specs.declared.message.Message.TheVariants as message
use Rattle.vm_model.specs.declared.script.Header.{Header}
use Rattle.vm_model.specs.Named.{named}
use Rattle.vm_model.specs.Regions.{is_copy}
use Rattle.vm_legal.specs.Pushes.{is_pushed}
use Rattle.vm_legal.specs.Debts.{HasLocked}
use Rattle.vm_legal.specs.Outside.{Outside}
use Rattle.vm_legal.specs.Licences.{LockRequest, lock_taken, zeroes}
use Rattle.vm_legal.specs.Cached.{Attributes, attributes_taken}
use Rattle.vm_legal.specs.Steps.{absence_taken, changes, error_taken, fails_access, fails_task, since}
use Rattle.vm_legal.specs.Stretches.{EachOf}
use Rattle.vm_legal.specs.Reclaims.{IsReclaim}
use Rattle.vm_resident.specs.Resident.{ResidentTable, page_key, row_at}
use Rattle.vm_resident.specs.declared.page_row.PageRow.{PageRow}
use Rattle.vm_locks.specs.Requests.{IsLockRequest}
use Rattle.vm_model.specs.Words.{in_range}
use Rattle.vm_supply.specs.Answers.{IsAnswer}
use Rattle.vm_supply.specs.declared.woken.Woken.{Woken}
use Rattle.vm_supply.specs.declared.woken.Woken.TheVariants as woken
use Rattle.vm_waits.specs.Waits.{entry}
use Rattle.vm_waits.specs.declared.waiting.On.{On}
use Rattle.vm_waits.specs.declared.waiting.On.TheVariants as on
use Rattle.vm_waits.specs.declared.waiting.Waiting.{Waiting}
use Rattle.vm_state.specs.Waiters.{Asker, is_awaited, is_woken}

-- what a pager may say, where a page has so many bytes: it answers, asks for locks, says whether its object stays without an entry, or ends it
abbrev pub IsWord : ℕ → Message → Type 0
IsWord size (message.Lock page count returns flush lock reply) = IsLockRequest (message.Lock page count returns flush lock reply)
IsWord size (message.Ready cache strategy) = IsAnswer size (message.Ready cache strategy)
IsWord size (message.Supply page lock precious bytes) = IsAnswer size (message.Supply page lock precious bytes)
IsWord size (message.Unavailable page) = IsAnswer size (message.Unavailable page)
IsWord size (message.Error page reason) = IsAnswer size (message.Error page reason)
IsWord size (message.Attributes cache strategy reply) = Unit {0}
IsWord size (message.Destroy reason) = Unit {0}
IsWord size other = ⊥

-- of a copy object a pager gives, or can't give, what was copied up into it
abbrev pub IsOfPushed : ℕ → ℕ → Message → List Event → Type 0
IsOfPushed h object (message.Supply page lock precious bytes) past = is_copy object past ≡ true → is_pushed h object page.0 past ≡ true
IsOfPushed h object (message.Error page reason) past = is_copy object past ≡ true → is_pushed h object page.0 past ≡ true
IsOfPushed h object other past = Unit {0}

-- the message is a lock request
abbrev pub is_lock_request : Message → Bool
is_lock_request (message.Lock page count returns flush lock reply) = true
is_lock_request other = false

-- the message changes attributes
abbrev pub is_attributes : Message → Bool
is_attributes (message.Attributes cache strategy reply) = true
is_attributes other = false

-- the page is asked: it has a row, and isn't here
abbrev pub is_away : Option PageRow → Bool
is_away None = false
is_away (Some row) = not row.here

-- the step took the error that ends those who wait for a page; or it took none that counts
abbrev pub FailsNow : Header → ℕ → Woken → List Event → Type 0
FailsNow header h (woken.Fails key) past = error_taken header past ≡ Some (record { host = h; object = key.object.0; page = key.page.0 })
FailsNow header h other past = error_taken header past ≡ None

-- what is told of a step whose error ends those who wait for a page
pub record Erring : Type 0 where
  pub header : Header
  pub host : ℕ
  pub outside : Outside
  pub past : List Event
  pub command : Command
  pub page : PageKey

-- and it has ended nobody yet
abbrev pub EndsNobody : Woken → List Event → Type 0
EndsNobody (woken.Fails key) past = (t : ℕ) → since (fails_task t key.object.0 key.page.0) past ≡ false
EndsNobody woken.Nobody past = Unit {0}
EndsNobody (woken.ReadyOf object) past = Unit {0}
EndsNobody (woken.Page key) past = Unit {0}

-- some access waits for the page that failed
abbrev pub HasAsker : Woken → List Waiting → Type 0
HasAsker (woken.Fails key) rows = Asker rows key.object.0 key.page.0
HasAsker woken.Nobody rows = Unit {0}
HasAsker (woken.ReadyOf object) rows = Unit {0}
HasAsker (woken.Page key) rows = Unit {0}

-- whom an answer wakes or ends waits for a page of which no word is outstanding any more, or for a pager
pub record IsAnswered (who : Woken) (resident : ResidentTable) : Type 0 where
  pub at : (o p : ℕ) (row : PageRow) → row_at resident o p ≡ Some row → is_awaited row ≡ true → is_woken who (on.Page (page_key o p)) ≡ false

-- and some access was ended by it
abbrev pub HasFailed : Woken → List Event → Type 0
HasFailed (woken.Fails key) past = since (fails_access key.object.0 key.page.0) past ≡ true
HasFailed woken.Nobody past = Unit {0}
HasFailed (woken.ReadyOf object) past = Unit {0}
HasFailed (woken.Page key) past = Unit {0}

-- and each access that waited for the page, in a table as it was, was ended by it
abbrev pub HasEnded : Woken → List Waiting → List Event → Type 0
HasEnded (woken.Fails key) rows past =
    (t : ℕ) (w : Waiting) → entry rows t ≡ Some w → w.on ≡ on.Page key → since (fails_task t key.object.0 key.page.0) past ≡ true
HasEnded woken.Nobody rows past = Unit {0}
HasEnded (woken.ReadyOf object) rows past = Unit {0}
HasEnded (woken.Page key) rows past = Unit {0}

-- whoever is to be ended waits still
abbrev pub KeepsAskers : Woken → List Waiting → List Waiting → Type 0
KeepsAskers (woken.Fails key) old new = new ≡ old
KeepsAskers woken.Nobody old new = Unit {0}
KeepsAskers (woken.ReadyOf object) old new = Unit {0}
KeepsAskers (woken.Page key) old new = Unit {0}

-- an error that the step took has ended each access that waited for its page
abbrev pub EndsEach : Header → List Waiting → List Event → Type 0
EndsEach header rows past =
    (host object page t : ℕ) (w : Waiting) → error_taken header past ≡ Some (record { host = host; object = object; page = page }) → entry rows t ≡ Some w
    → w.on ≡ on.Page (page_key object page)
    → since (fails_task t object page) past ≡ true

-- an error that the step took has ended some access
abbrev pub IsErrorPaid : Header → List Event → Type 0
IsErrorPaid header past =
    (host object page : ℕ) → error_taken header past ≡ Some (record { host = host; object = object; page = page })
    → since (fails_access object page) past ≡ true

-- zeros have come where the step took the word of a declared object's pager that it has no such page
abbrev pub IsAbsencePaid : Header → List Event → Type 0
IsAbsencePaid header past =
    (host object page : ℕ) → object < named header → absence_taken header past ≡ Some (record { host = host; object = object; page = page })
    → since (zeroes object page) past ≡ true

-- a lock request that the step took is obeyed
abbrev pub IsLockPaid : Header → List Event → Type 0
IsLockPaid header past = (request : LockRequest) → lock_taken past ≡ Some request → HasLocked header request past

-- a change of attributes that the step took is told, where its pager wants that
abbrev pub IsChangePaid : List Event → Type 0
IsChangePaid past =
    (request : Attributes) → attributes_taken past ≡ Some request → request.reply ≡ true → since (changes request.host request.object) past ≡ true

-- the access waits for the word of a page of the range that isn't asked, so for its unlock
abbrev pub is_unlocked : ResidentTable → ℕ → ℕ → ℕ → On → Bool
is_unlocked resident object page count (on.Page key) =
    key.object.0 == object && (in_range key.page.0 page count && not (is_away (row_at resident key.object.0 key.page.0)))
is_unlocked resident object page count on.Again = false
is_unlocked resident object page count (on.Ready other) = false
is_unlocked resident object page count (on.Push key) =
    key.object.0 == object && (in_range key.page.0 page count && not (is_away (row_at resident key.object.0 key.page.0)))
is_unlocked resident object page count on.Frame = false

-- the page for which an access waits
abbrev pub page_waited : On → Option PageKey
page_waited (on.Page key) = Some key
page_waited on.Again = None
page_waited (on.Ready object) = None
page_waited (on.Push key) = None
page_waited on.Frame = None

-- the page for whose word an access waits: that page, or one into whose place it is to push another
abbrev pub page_awaited : On → Option PageKey
page_awaited (on.Page key) = Some key
page_awaited (on.Push key) = Some key
page_awaited on.Again = None
page_awaited (on.Ready object) = None
page_awaited on.Frame = None

-- the page for whose word the access of a row waits, if there is a row
abbrev pub PageWaitedFor : Option PageKey → Option Waiting → Type 0
PageWaitedFor key None = key ≡ None
PageWaitedFor key (Some w) = key ≡ page_awaited w.on

-- all events that were added take pages from the host
pub record EachGone (h : ℕ) (old new : List Event) : Type 0 where
  pub more : List Event
  pub is : new ≡ more ++ old
  pub each : EachOf (IsReclaim h) more
