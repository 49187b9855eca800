-- What each event of a taking adds, and what pays for it.
use Rattle.std.specs.Prelude.{ℕ, ◌+◌, ◌*◌, ◌&&◌, ◌||◌, ◌==◌, nat_lt, not, Bool, true, false, List, Option, Some, None, if◌then◌else◌}
use Rattle.vm_bound.specs.Letters.{host_count, wish_weight}
use Rattle.vm_legal.specs.Licences.{LockRequest, lock_taken}
use Rattle.vm_legal.specs.Outside.{is_shared}
use Rattle.vm_legal.specs.Steps.{Letter, answers, changes, completes, ends_control, gives_page, readies, since, taken_letter}
use Rattle.vm_legal.specs.Walks.{page_on}
use Rattle.vm_model.specs.Named.{declared_pages, named}
use Rattle.vm_model.specs.Words.{in_range}
use Rattle.vm_model.specs.declared.event.Event.{Event}
use Rattle.vm_model.specs.declared.event.Event.TheVariants as event
use Rattle.vm_model.specs.declared.message.Channel.{Channel}
use Rattle.vm_model.specs.declared.message.Channel.TheVariants.{Up, Down}
use Rattle.vm_model.specs.declared.message.Message.{Message}
use Rattle.vm_model.specs.declared.message.Message.TheVariants as message
use Rattle.vm_model.specs.declared.script.Header.{Header}
use Rattle.vm_bound.specs.Lines.{sum_below}

-- what a message of a shared object adds to the lines of its pages when the server takes it
abbrev pub wished : Bool → ℕ → Message → ℕ
wished shared hosts (message.Request control page access) = if shared then wish_weight hosts else 0
wished shared hosts (message.Unlock control page access) = if shared then wish_weight hosts else 0
wished shared hosts other = 0

-- what an event may add to the lines
abbrev pub joins : Header → Event → ℕ
joins header (event.Taken (Up host object) m) = wished (is_shared header object.0) (host_count header) m
joins header other = 0

abbrev pub served : Bool → Message → ℕ
served shared (message.Supply page lock precious bytes) = if shared then 1 else 0
served shared (message.Lock page count returns flush lock reply) = if shared then count + 2 else 0
served shared other = 0

-- what an event takes from the lines: what the server sends of a page weighs that
abbrev pub replies : Header → Event → ℕ
replies header (event.Sent (Down host object control) m) = served (is_shared header object.0) m
replies header other = 0

-- The credit: what the step may still send, since it took what it took.

abbrev pub one_unless : Bool → ℕ
one_unless b = if b then 0 else 1

-- the page may still be given back: it wasn't since the step began, or it was changed since
abbrev pub open_page : Header → ℕ → ℕ → ℕ → List Event → ℕ
open_page header h o q past =
    one_unless (since (gives_page h o q) past && not ((page_on header h o q past).dirty || (page_on header h o q past).precious))

abbrev pub open_pages : Header → ℕ → ℕ → ℕ → ℕ → List Event → ℕ
open_pages header h o first count past = sum_below count (λ i. open_page header h o (first + i) past)

-- the object may still end, with all its pages
abbrev pub open_end : Header → ℕ → ℕ → List Event → ℕ
open_end header h o past = open_pages header h o 0 (declared_pages header o) past + one_unless (since (ends_control h o) past)

-- what the pager of an object may still send, behind this message
abbrev pub up_credit : Header → ℕ → Message → List Event → ℕ
up_credit header o (message.Init control size) past = if since (readies o) past then 0 else declared_pages header o + 3
up_credit header o (message.Create control size) past = if since (readies o) past then 0 else declared_pages header o + 3
up_credit header o (message.Request control page access) past = if is_shared header o then 0 else one_unless (since (answers o page.0) past)
up_credit header o other past = 0

-- what a page that a lock is over may cost: that it goes back, and of memory that isn't shared that it is asked for once more
abbrev pub page_unit : Bool → ℕ
page_unit shared = if shared then 1 else 3

-- what a host may still send, behind this message
abbrev pub down_credit : Header → ℕ → ℕ → Message → List Event → ℕ
down_credit header h o (message.Lock page count returns flush lock reply) past =
    page_unit (is_shared header o) * open_pages header h o page.0 count past + (if reply then one_unless (since (completes h o) past) else 0)
down_credit header h o (message.Ready cache strategy) past = open_end header h o past
down_credit header h o (message.Attributes cache strategy reply) past = open_end header h o past + one_unless (since (changes h o) past)
down_credit header h o (message.Destroy reason) past = one_unless (since (ends_control h o) past)
down_credit header h o other past = 0

abbrev pub credit_on : Header → Channel → Message → List Event → ℕ
credit_on header (Up host object) m past = up_credit header object.0 m past
credit_on header (Down host object control) m past = down_credit header host.0 object.0 m past

abbrev pub letter_credit : Header → Option Letter → List Event → ℕ
letter_credit header None past = 0
letter_credit header (Some letter) past = credit_on header letter.channel letter.message past

abbrev pub credit : Header → List Event → ℕ
credit header past = letter_credit header (taken_letter past) past

-- the step's lock is over the page
abbrev pub is_locked_page : ℕ → ℕ → ℕ → Option LockRequest → Bool
is_locked_page h o p None = false
is_locked_page h o p (Some request) = request.host == h && (request.object == o && in_range p request.page request.count)

-- and takes it away
abbrev pub is_flushed_page : ℕ → ℕ → ℕ → Option LockRequest → Bool
is_flushed_page h o p None = false
is_flushed_page h o p (Some request) = request.flush && is_locked_page h o p (Some request)

-- What a message that a host sends costs, where no access pays for it. A page that goes back by a lock may be asked for once more.
abbrev pub up_dues : Bool → ℕ → ℕ → Message → List Event → ℕ
up_dues shared h o (message.Return control page dirty keep bytes) past = if is_locked_page h o page.0 (lock_taken past) then page_unit shared else 1
up_dues shared h o (message.Completed control page count) past = 1
up_dues shared h o (message.Changed control cache strategy) past = 1
up_dues shared h o (message.Terminate control) past = 1
up_dues shared h o other past = 0

-- what one that a pager sends costs, where no line pays for it
abbrev pub down_dues : Bool → ℕ → Message → ℕ
down_dues shared pages (message.Ready cache strategy) = pages + 3
down_dues shared pages (message.Supply page lock precious bytes) = if shared then 0 else 1
down_dues shared pages (message.Unavailable page) = 1
down_dues shared pages (message.Error page reason) = 1
down_dues shared pages other = 0

-- The object's end is one of what a slow copy left, which that pays for.
abbrev pub ends_left : Header → ℕ → Message → Bool
ends_left header o (message.Terminate control) = not (nat_lt o (named header))
ends_left header o other = false

-- what the credit pays
abbrev pub dues : Header → Event → List Event → ℕ
dues header (event.Sent (Up host object) m) past =
    if ends_left header object.0 m then 0 else up_dues (is_shared header object.0) host.0 object.0 m past
dues header (event.Sent (Down host object control) m) past = down_dues (is_shared header object.0) (declared_pages header object.0) m
dues header (event.Dropped host object page) past =
    if is_flushed_page host.0 object.0 page.0 (lock_taken past) then page_unit (is_shared header object.0) else 0
dues header other past = 0

-- what an event may give back to it: a store changes a page that was given back
abbrev pub regains : Event → ℕ
regains (event.Stored task object page at bytes value) = 3
regains other = 0

abbrev pub may_free : Message → Bool
may_free (message.Ready cache strategy) = true
may_free (message.Attributes cache strategy reply) = true
may_free other = false

abbrev pub frees_on : ℕ → ℕ → Channel → Message → Bool
frees_on h o (Down host object control) m = host.0 == h && (object.0 == o && may_free m)
frees_on h o other m = false

-- the step took a message by which the object may end on the host
abbrev pub frees : ℕ → ℕ → Option Letter → Bool
frees h o None = false
frees h o (Some letter) = frees_on h o letter.channel letter.message

-- no first control of a temporary object is made
abbrev pub CreatesNone : Event → Type 0
CreatesNone (event.Sent (Up host object) (message.Create control size)) = ⊥
CreatesNone other = Unit {0}
