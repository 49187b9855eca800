-- What a host has of a page of an object: each event is classified once, and moves one record.
use Rattle.std.specs.Prelude.{ℕ, ◌+◌, ◌-◌, ◌≡◌, ◌⊎◌, Bool, true, false, ◌&&◌, ◌||◌, List, [], ◌∷◌, replicate, if◌then◌else◌, ◌==◌, not, nat_lt, Option, Some}
use Rattle.std.specs.Prelude.{None}
use Rattle.vm_base.specs.Pages.{little_endian_bytes, with_bytes}
use Rattle.vm_model.specs.declared.message.Channel.TheVariants.{Up, Down}
use Rattle.vm_model.specs.declared.message.Message.{Message}
use Rattle.vm_model.specs.declared.message.Message.TheVariants as message
use Rattle.vm_model.specs.declared.event.Event.{Event}
use Rattle.vm_model.specs.declared.event.Event.TheVariants.{Stored, CopiedPage, Sent}
use Rattle.vm_model.specs.declared.event.Event.TheVariants.{Taken, Dropped, Zeroed, Raised, Merged}
use Rattle.vm_model.specs.declared.script.Header.{Header}
use Rattle.vm_model.specs.Controls.{is_control, live_control}
use Rattle.vm_model.specs.Homes.{object_home}
use Rattle.vm_model.specs.Named.{named}
use Rattle.vm_model.specs.Regions.{backing_of, object_pages}
use Rattle.vm_model.specs.Tasks.{host_of}
use Rattle.vm_model.specs.Words.{in_range}

-- an object and a page of it
pub record Place : Type 0 where
  pub object : ℕ
  pub page : ℕ

pub record Local : Type 0 where
  -- the page on the host: whether it is here, its bytes, its lock (1 prohibits reading, 2 writing, 3 both), whether
  -- it was changed, and whether its pager wants it back even clean
  pub here : Bool
  pub bytes : List ℕ
  pub lock : ℕ
  pub dirty : Bool
  pub precious : Bool
  -- the live control asked for the page, and has taken no answer since
  pub asked : Bool
  -- an unlock was sent since the page came, and no lock over it was taken since
  pub unlocking : Bool
  -- the pager answered that it has no such page, and none was returned since
  pub absent : Bool

-- what an event is to a place of a host
pub data LocalEffect : Type 0 where
  -- a page of zeros is put there
  Zeroes : LocalEffect
  -- another page is copied there
  Raises : (bytes : List ℕ) → LocalEffect
  -- bytes are put into the page
  Stores : (at : ℕ) → (bytes : List ℕ) → LocalEffect
  -- it goes
  Drops : LocalEffect
  -- a page of the object below comes up to it
  Moves : (page : Local) → LocalEffect
  -- it is returned to the pager, and stays or goes
  Returns : (keep : Bool) → LocalEffect
  -- the live control asks for it
  Asks : LocalEffect
  Unlocks : LocalEffect
  -- the live control takes what the pager answers: the page, that it has none, or that it can't
  TakesPage : (lock : ℕ) → (precious : Bool) → (bytes : List ℕ) → LocalEffect
  TakesNothing : LocalEffect
  TakesError : LocalEffect
  -- it takes a lock over the page
  TakesLock : (lock : ℕ) → (flush : Bool) → LocalEffect
  -- a control of the object begins
  Begins : LocalEffect
  -- the live one ends
  Ends : LocalEffect
  -- it is about something else
  Elsewhere : LocalEffect

abbrev pub is_place : Place → ℕ → ℕ → Bool
is_place place object page = object == place.object && page == place.page

-- a task that lives on this host
abbrev pub is_on : ℕ → Option ℕ → Bool
is_on host None = false
is_on host (Some own) = own == host

-- what the host sends about the object is to a page of it
abbrev pub sent_effect : ℕ → Option ℕ → Message → LocalEffect
sent_effect page live (message.Init control size) = Begins
sent_effect page live (message.Create control size) = Begins
sent_effect page live (message.Terminate control) = if is_control control live then Ends else Elsewhere
sent_effect page live (message.Request control at access) =
    if at.0 == page && is_control control live then Asks else Elsewhere
sent_effect page live (message.Unlock control at access) = if at.0 == page then Unlocks else Elsewhere
sent_effect page live (message.Return control at dirty keep bytes) = if at.0 == page then Returns keep else Elsewhere
sent_effect page live (message.Completed control at count) = Elsewhere
sent_effect page live (message.Ready cache strategy) = Elsewhere
sent_effect page live (message.Supply at lock precious bytes) = Elsewhere
sent_effect page live (message.Unavailable at) = Elsewhere
sent_effect page live (message.Error at reason) = Elsewhere
sent_effect page live (message.Lock at count returns flush lock reply) = Elsewhere
sent_effect page live (message.Attributes cache strategy reply) = Elsewhere
sent_effect page live (message.Destroy reason) = Elsewhere
sent_effect page live (message.Changed control cache strategy) = Elsewhere

-- what the live control takes is to a page
abbrev pub taken_effect : ℕ → Message → LocalEffect
taken_effect page (message.Supply at lock precious bytes) =
    if at.0 == page then TakesPage lock precious bytes else Elsewhere
taken_effect page (message.Unavailable at) = if at.0 == page then TakesNothing else Elsewhere
taken_effect page (message.Error at reason) = if at.0 == page then TakesError else Elsewhere
taken_effect page (message.Lock at count returns flush lock reply) =
    if in_range page at.0 count then TakesLock lock flush else Elsewhere
taken_effect page (message.Init control size) = Elsewhere
taken_effect page (message.Create control size) = Elsewhere
taken_effect page (message.Request control at access) = Elsewhere
taken_effect page (message.Unlock control at access) = Elsewhere
taken_effect page (message.Return control at dirty keep bytes) = Elsewhere
taken_effect page (message.Completed control at count) = Elsewhere
taken_effect page (message.Terminate control) = Elsewhere
taken_effect page (message.Ready cache strategy) = Elsewhere
taken_effect page (message.Attributes cache strategy reply) = Elsewhere
taken_effect page (message.Destroy reason) = Elsewhere
taken_effect page (message.Changed control cache strategy) = Elsewhere

-- The page of the lower of two objects that are merged moves up: the upper can have it, and hasn't. The upper's page 0 is over the
-- lower's page `shift`. Which pages are here comes in as a function.
abbrev pub moves_up : (ℕ → ℕ → Bool) → ℕ → ℕ → ℕ → ℕ → Bool
moves_up here upper shift upper_pages page =
    not (nat_lt page shift) && (nat_lt (page - shift) upper_pages && not (here upper (page - shift)))

-- What a merge of two objects is to a place on their host: a page of the lower that moves up comes to the upper's place, and the lower has none.
abbrev pub merge_effect : ℕ → ℕ → ℕ → ℕ → ℕ → Place → (Place → Local) → LocalEffect
merge_effect upper lower shift upper_pages lower_pages place others =
    if place.object == upper
    then
    if nat_lt place.page upper_pages && (nat_lt (shift + place.page) lower_pages
    && ((others (record { object = lower; page = shift + place.page })).here && not (others place).here))
    then Moves (others (record { object = lower; page = shift + place.page }))
    else Elsewhere
    else if place.object == lower && nat_lt place.page lower_pages then Drops else Elsewhere

-- What an event is to the place on the host. What the host has of the other places comes in as a function.
abbrev pub effect : Header → ℕ → Place → (Place → Local) → Event → List Event → LocalEffect
effect header host place others (Zeroed at object page) past =
    if at.0 == host && is_place place object.0 page.0 then Zeroes else Elsewhere
effect header host place others (Raised at lower lower_page upper upper_page) past =
    if at.0 == host && is_place place upper.0 upper_page.0 then Raises (others (record { object = lower.0; page = lower_page.0 })).bytes else Elsewhere
effect header host place others (CopiedPage task page object object_page target) past =
    if is_on host (host_of task.0 past) && is_place place target.0 page.0 then Raises (others (record { object = object.0; page = object_page.0 })).bytes else
    Elsewhere
effect header host place others (Stored task object page at size value) past =
    if is_on host (host_of task.0 past) && is_place place object.0 page.0 then Stores at (little_endian_bytes size value) else Elsewhere
effect header host place others (Dropped at object page) past =
    if at.0 == host && is_place place object.0 page.0 then Drops else Elsewhere
effect header host place others (Merged upper lower) past =
    if is_on host (object_home upper.0 past)
    then merge_effect upper.0 lower.0 (backing_of header upper.0 past).shift (object_pages header upper.0 past) (object_pages header lower.0 past) place others
    else Elsewhere
effect header host place others (Sent (Up at object) m) past =
    if at.0 == host && object.0 == place.object then sent_effect place.page (live_control host place.object past) m
    else Elsewhere
effect header host place others (Taken (Down at object control) m) past =
    if at.0 == host && (object.0 == place.object && is_control control (live_control host place.object past)) then taken_effect place.page m else Elsewhere
effect header host place others other past = Elsewhere

abbrev pub local_with_page : List ℕ → ℕ → Bool → Bool → Local → Local
local_with_page bytes lock dirty precious was =
    record was { here = true; bytes = bytes; lock = lock; dirty = dirty; precious = precious; unlocking = false }

abbrev pub local_without_page : Local → Local
local_without_page was = record was { here = false; bytes = []; lock = 0; dirty = false; precious = false; unlocking = false }

-- an answer counts only where the page is asked; 8 leaves the lock as it is
abbrev pub local_after : ℕ → LocalEffect → Local → Local
local_after size Zeroes was = local_with_page (replicate size 0) 0 false false was
local_after size (Raises bytes) was = local_with_page bytes 0 true false was
local_after size (Stores at bytes) was = record was { bytes = with_bytes at bytes was.bytes; dirty = true }
local_after size Drops was = local_without_page was
local_after size (Moves page) was = record page { asked = was.asked; absent = was.absent }
local_after size (Returns true) was = record was { dirty = false; precious = false; absent = false }
local_after size (Returns false) was = record (local_without_page was) { absent = false }
local_after size Asks was = record was { asked = true }
local_after size Unlocks was = record was { unlocking = was.here }
local_after size (TakesPage lock precious bytes) was =
    if was.asked then record (local_with_page bytes lock false precious was) { asked = false } else was
local_after size TakesNothing was = if was.asked then record was { asked = false; absent = true } else was
local_after size TakesError was = record was { asked = false }
local_after size (TakesLock lock flush) was =
    if was.here then record was { lock = if flush || lock == 8 then was.lock else lock; unlocking = false } else was
local_after size Begins was = record was { asked = false }
local_after size Ends was = record was { asked = false }
local_after size Elsewhere was = was

-- nothing is here, nor asked
abbrev pub away : Local
away = record { here = false; bytes = []; lock = 0; dirty = false; precious = false; asked = false; unlocking = false; absent = false }

-- what a host has of a place
abbrev pub local : Header → ℕ → Place → List Event → Local
local header host place [] = away
local header host place (event ∷ past) =
    local_after header.size (effect header host place (λ source. local header host source past) event past) (local header host place past)

-- the host can read the page
pub record CanRead (page : Local) : Type 0 where
  pub here : page.here ≡ true
  pub unlocked : (page.lock ≡ 0) ⊎ (page.lock ≡ 2)

-- the host can read and write the page
pub record CanWrite (page : Local) : Type 0 where
  pub here : page.here ≡ true
  pub unlocked : page.lock ≡ 0

-- the pager of a temporary object is known to have no such page
abbrev pub is_known_absent : Header → Place → Local → Bool
is_known_absent header place page = not (nat_lt place.object (named header)) && page.absent
