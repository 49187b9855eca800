-- What pagers have: the last return of each page that was taken, the paging slots, and which pages were lost.
use Rattle.std.specs.Prelude.{ℕ, zero, suc, ◌+◌, ◌≡◌, ◌==◌, ◌&&◌, ◌||◌, not, nat_lt, Bool, false, List, [], ◌∷◌, if◌then◌else◌, Option, Some, None}
use Rattle.vm_model.specs.declared.event.Event.{Event}
use Rattle.vm_model.specs.declared.event.Event.TheVariants as event
use Rattle.vm_model.specs.declared.message.Channel.TheVariants.{Up}
use Rattle.vm_model.specs.declared.message.Message.{Message}
use Rattle.vm_model.specs.declared.message.Message.TheVariants as message
use Rattle.vm_model.specs.declared.script.Header.{Header}
use Rattle.vm_model.specs.Controls.{without_control}
use Rattle.vm_model.specs.Named.{named}
use Rattle.vm_legal.specs.Steps.{fails_writing, lacks_slot}

-- the bytes of the page in a return
abbrev pub returned_in : ℕ → Message → Option (List ℕ)
returned_in p (message.Return control page dirty keep bytes) = if page.0 == p then Some bytes else None
returned_in p other = None

abbrev pub newer : Option (List ℕ) → Option (List ℕ) → Option (List ℕ)
newer None was = was
newer (Some bytes) was = Some bytes

-- what the pager took last of a page that the host returned
abbrev pub last_return : ℕ → ℕ → ℕ → List Event → Option (List ℕ)
last_return host o p [] = None
last_return host o p (event.Taken (Up at object) m ∷ past) =
    if at.0 == host && object.0 == o then newer (returned_in p m) (last_return host o p past) else last_return host o p past
last_return host o p (e ∷ past) = last_return host o p past

-- the page's last return was not stored: its slot was lacking, or writing it failed
abbrev pub is_lost : ℕ → ℕ → List Event → Bool
is_lost o p [] = false
is_lost o p (event.Taken (Up at object) (message.Return control page dirty keep bytes) ∷ past) =
    if object.0 == o && page.0 == p then false else is_lost o p past
is_lost o p (event.DeviceFailed who way object page ∷ past) = fails_writing o p (event.DeviceFailed who way object page) || is_lost o p past
is_lost o p (event.NoSlot object page ∷ past) = lacks_slot o p (event.NoSlot object page) || is_lost o p past
is_lost o p (e ∷ past) = is_lost o p past

abbrev pub known_after : Message → Option ℕ → Option ℕ
known_after (message.Init control size) was = Some control
known_after (message.Create control size) was = Some control
known_after (message.Terminate control) was = without_control control was
known_after other was = was

-- the control of the object on the host that its pager knows: it took its init or create, and not its terminate
abbrev pub known_control : ℕ → ℕ → List Event → Option ℕ
known_control host o [] = None
known_control host o (event.Taken (Up at object) m ∷ past) =
    if at.0 == host && object.0 == o then known_after m (known_control host o past) else known_control host o past
known_control host o (e ∷ past) = known_control host o past

-- a control of an object, and its host
pub record Known : Type 0 where
  pub host : ℕ
  pub control : ℕ

abbrev pub or_known : Option Known → ℕ → Option ℕ → Option Known
or_known (Some known) host control = Some known
or_known None host None = None
or_known None host (Some control) = Some (record { host = host; control = control })

-- the control of the object that its pager knows on the first host, of so many, on which it knows one
abbrev pub known_below : ℕ → ℕ → List Event → Option Known
known_below zero o past = None
known_below (suc host) o past = or_known (known_below host o past) host (known_control host o past)

-- a page of an object in a slot of a host's paging area
pub record Slotted : Type 0 where
  pub object : ℕ
  pub page : ℕ
  pub slot : ℕ

abbrev pub slot_of : ℕ → ℕ → List Slotted → Option ℕ
slot_of o p [] = None
slot_of o p (row ∷ rows) = if row.object == o && row.page == p then Some row.slot else slot_of o p rows

abbrev pub is_taken : ℕ → List Slotted → Bool
is_taken slot [] = false
is_taken slot (row ∷ rows) = row.slot == slot || is_taken slot rows

-- the first slot from one on that no page has, among so many
abbrev pub first_free : ℕ → ℕ → List Slotted → Option ℕ
first_free zero slot rows = None
first_free (suc n) slot rows = if is_taken slot rows then first_free n (slot + 1) rows else Some slot

abbrev pub with_slot : ℕ → ℕ → Option ℕ → List Slotted → List Slotted
with_slot o p None rows = rows
with_slot o p (Some slot) rows = record { object = o; page = p; slot = slot } ∷ rows

-- a page that has no slot gets the lowest free one, where there is one
abbrev pub slotted : ℕ → ℕ → ℕ → Option ℕ → List Slotted → List Slotted
slotted count o p (Some slot) rows = rows
slotted count o p None rows = with_slot o p (first_free count 0 rows) rows

abbrev pub without_object : ℕ → List Slotted → List Slotted
without_object o [] = []
without_object o (row ∷ rows) = if row.object == o then without_object o rows else row ∷ without_object o rows

abbrev pub slots_after : ℕ → ℕ → Message → List Slotted → List Slotted
slots_after count o (message.Return control page dirty keep bytes) rows = slotted count o page.0 (slot_of o page.0 rows) rows
slots_after count o (message.Terminate control) rows = without_object o rows
slots_after count o other rows = rows

-- The pages of temporary objects that have a slot in the host's paging area: a page gets the lowest free one with the first return that its
-- pager takes while one is free, and keeps it until its object's end is taken.
abbrev pub slots : Header → ℕ → List Event → List Slotted
slots header host [] = []
slots header host (event.Taken (Up at object) m ∷ past) =
    if at.0 == host && not (nat_lt object.0 (named header)) then slots_after header.slots object.0 m (slots header host past) else slots header host past
slots header host (e ∷ past) = slots header host past

-- the slot of a page
abbrev pub slot_at : Header → ℕ → ℕ → ℕ → List Event → Option ℕ
slot_at header host o p past = slot_of o p (slots header host past)

-- the page has no slot, and each slot is another page's
pub record LacksSlot (header : Header) (host o p : ℕ) (past : List Event) : Type 0 where
  pub none : slot_at header host o p past ≡ None
  pub full : first_free header.slots 0 (slots header host past) ≡ None
