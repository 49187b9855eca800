-- What a settle with waiting accesses may still cause, inside a step.
use Rattle.std.specs.Prelude.{ℕ, ◌+◌, ◌*◌, ◌≡◌, ◌&&◌, ◌==◌, nat_lt, not, Bool, true, false, List, ◌∷◌, Option, Some, None, if◌then◌else◌}
use Rattle.vm_bound.proofs.Going.{Going, is_left}
use Rattle.vm_bound.proofs.Paying.{CreatesNone, credit, is_flushed_page, one_unless}
use Rattle.vm_bound.specs.Accesses.{accesses, is_wanted, is_wanted_to_write, turn_weight}
use Rattle.vm_bound.specs.Letters.{host_count, letters}
use Rattle.vm_bound.specs.Lines.{lines, sum_below}
use Rattle.vm_bound.specs.Places.{asked_for, is_open, write_turns}
use Rattle.vm_bound.specs.Settles.{IsOnHosts, MayCome, AllHaveFrames}
use Rattle.vm_legal.specs.Accesses.{Waits, names, page_of}
use Rattle.vm_legal.specs.Bytes.{OwnBytes}
use Rattle.vm_legal.specs.Licences.{HasCause, Licensed, LockRequest, lock_taken, zeroes}
use Rattle.vm_legal.specs.Outside.{Outside, is_shared, is_wild}
use Rattle.vm_legal.specs.Steps.{Asked, absence_taken, ends_control, error_taken, fails_access, since}
use Rattle.vm_legal.specs.Stretches.{IsInner}
use Rattle.vm_legal.specs.Walks.{page_on, sight}
use Rattle.vm_model.specs.Local.{Local}
use Rattle.vm_model.specs.Moments.{EachEvent}
use Rattle.vm_model.specs.Named.{named}
use Rattle.vm_model.specs.Regions.{next_object, object_pages}
use Rattle.vm_model.specs.Waiting.{Access, is_store}
use Rattle.vm_model.specs.declared.command.Command.TheVariants as command
use Rattle.vm_model.specs.declared.event.Event.{Event}
use Rattle.vm_model.specs.declared.event.Event.TheVariants as event
use Rattle.vm_model.specs.declared.message.Channel.TheVariants.{Up}
use Rattle.vm_model.specs.declared.message.Message.TheVariants as message
use Rattle.vm_model.specs.declared.script.Header.{Header}

-- the objects that failed slow copies left, and that may still end
abbrev pub left_one : Header → ℕ → ℕ → List Event → ℕ
left_one header h o past = if not (nat_lt o (named header)) && is_left h o past then one_unless (since (ends_control h o) past) else 0

abbrev pub left_ends : Header → List Event → ℕ
left_ends header past = sum_below (host_count header) (λ h. sum_below (next_object header past) (λ o. left_one header h o past))

-- The places, inside a step.

-- the step took the word that there is no such page, of a declared object: zeros will come there
abbrev pub is_due : Header → ℕ → ℕ → ℕ → Option Asked → List Event → Bool
is_due header h o p None past = false
is_due header h o p (Some asked) past =
    (asked.host == h && (asked.object == o && asked.page == p)) && (nat_lt o (named header) && not (since (zeroes o p) past))

-- a page that the step's flush is about to take away: its unlock is answered by that
abbrev pub flushed_turns : ℕ → Local → ℕ
flushed_turns access page = if page.here then if names page.lock true then 1 else 0 else write_turns access page

abbrev pub turns : Bool → ℕ → Local → ℕ
turns flushed access page = if flushed then flushed_turns access page else write_turns access page

abbrev pub inner_weight : Header → ℕ → ℕ → ℕ → List Event → ℕ
inner_weight header h o p past =
    if is_wild header o then 0
    else if is_shared header o
    then if is_wanted_to_write header h o p past
    then turn_weight header * turns (is_flushed_page h o p (lock_taken past)) (asked_for h o p past) (page_on header h o p past)
    else 0
    else if not (is_due header h o p (absence_taken header past) past) && (is_open (sight header h o p past) && is_wanted header h o p past) then 2
    else 0

abbrev pub inner_places : Header → List Event → ℕ
inner_places header past =
    sum_below (host_count header) (λ h. sum_below (next_object header past) (λ o. sum_below (object_pages header o past) (λ p. inner_weight header h o p past)))

-- A debt: an error opened a place that may be asked for anew; some access ends by it before the step ends.
abbrev pub error_debt_of : Option Asked → List Event → ℕ
error_debt_of None past = 0
error_debt_of (Some asked) past = if since (fails_access asked.object asked.page) past then 0 else 3

abbrev pub debt : Header → List Event → ℕ
debt header past = error_debt_of (error_taken header past) past

-- what may still be caused
abbrev pub potential : Header → List Event → ℕ
potential header past =
    letters header past + lines header past + (credit header past + left_ends header past) + (accesses header past + inner_places header past)

-- What the events pay, and open.

-- what an access pays that ends, goes on, or asks to read
abbrev pub access_relief : Header → Event → ℕ
access_relief header (event.Loaded task object page value) = 4
access_relief header (event.Stored task object page at bytes value) = 4
access_relief header (event.Failed task object page) = 4
access_relief header (event.CopiedPage task page object object_page target) = if is_shared header object.0 then 0 else 2
access_relief header (event.Sent (Up host object) (message.Request control page access)) =
    if is_shared header object.0 && not (access == 3) then 2 * turn_weight header else 0
access_relief header other = 0

-- what a place pays that is asked for, or to be unlocked
abbrev pub place_relief : Header → Event → ℕ
place_relief header (event.Sent (Up host object) (message.Request control page access)) =
    if is_shared header object.0 then if access == 3 then turn_weight header else 0 else 2
place_relief header (event.Sent (Up host object) (message.Unlock control page access)) = turn_weight header
place_relief header other = 0

-- what a place costs anew that comes to be read alone, that a flush takes away, or that a slow copy goes on to
abbrev pub place_gain : Header → Event → List Event → ℕ
place_gain header (event.Sent (Up host object) (message.Request control page access)) past =
    if is_shared header object.0 && not (access == 3) then turn_weight header else 0
place_gain header (event.Sent (Up host object) (message.Return control page dirty keep bytes)) past =
    if not (is_shared header object.0) && is_flushed_page host.0 object.0 page.0 (lock_taken past) then 2 else 0
place_gain header (event.Dropped host object page) past =
    if not (is_shared header object.0) && is_flushed_page host.0 object.0 page.0 (lock_taken past) then 2 else 0
place_gain header (event.CopiedPage task page object object_page target) past = if is_shared header object.0 then 0 else 2
place_gain header other past = 0

-- where the step took a lock, nobody on its host waits to read a page of shared memory that is here
abbrev pub IsCalm : Header → List Event → Type 0
IsCalm header past =
    (request : LockRequest) (task : ℕ) (access : Access) → lock_taken past ≡ Some request → (waits : Waits header task access past)
    → waits.at.host ≡ request.host → is_shared header waits.at.entry.region.0 ≡ true → is_store access ≡ false
    → (page_on header waits.at.host waits.at.entry.region.0 (page_of header task access past waits.at.entry) past).here ≡ false

-- an event inside a step of a settle, and what is known of the moment before
pub record Follows (header : Header) (outside : Outside) (count : ℕ) (e : Event) (past : List Event) : Type 0 where
  pub causes : EachEvent (HasCause header outside) past
  pub own_bytes : EachEvent (OwnBytes header) (e ∷ past)
  pub hosts : EachEvent (IsOnHosts header) (e ∷ past)
  pub licensed : Licensed header outside (command.Settle count) e past
  pub may : MayCome e past
  pub creates : CreatesNone e
  pub inner : IsInner e
  pub going : Going header past
  pub frames : AllHaveFrames header past
  pub calm : IsCalm header past
