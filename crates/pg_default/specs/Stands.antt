-- When the slots of a pager stand for a history on its host, and what of each page that history has stored.
use Rattle.std.specs.Prelude.{ℕ, ◌≡◌, ◌≢◌, ◌<◌, ◌≤◌, ◌⊎◌, ◌==◌, ◌&&◌, ◌||◌, not, nat_lt, Bool, true, false, List, [], ◌∷◌, Option, Some, None, if◌then◌else◌}
use Rattle.pg_slots.specs.Contents.{AgreesWithContent, Content, IsAreaTold, Kept, Lost, SlotsFit, Stored}
use Rattle.pg_slots.specs.Slots.{SlotTable, held_at, slot_in_table}
use Rattle.pg_slots.specs.declared.slot_row.Held.{Held}
use Rattle.pg_slots.specs.declared.slot_row.Held.TheVariants as held
use Rattle.vm_base.specs.declared.ids.ObjectId.{ObjectId}
use Rattle.vm_model.specs.declared.event.Event.{Event}
use Rattle.vm_model.specs.declared.event.Event.TheVariants as event
use Rattle.vm_model.specs.declared.message.Channel.TheVariants.{Up}
use Rattle.vm_model.specs.declared.message.Message.{Message}
use Rattle.vm_model.specs.declared.message.Message.TheVariants as message
use Rattle.vm_model.specs.declared.script.Header.{Header}
use Rattle.vm_model.specs.Named.{named}
use Rattle.vm_legal.specs.Licences.{up}
use Rattle.vm_legal.specs.Pagers.{is_lost, last_return, slot_at as slot_of_page}
use Rattle.vm_outside.specs.Areas.{Told}
use Rattle.pg_default.specs.Answers.{PagerAnswer}

-- the pager of the host took the end of the object
abbrev pub is_ended : ℕ → ℕ → List Event → Bool
is_ended host o [] = false
is_ended host o (event.Taken (Up at object) (message.Terminate control) ∷ past) =
    (at.0 == host && object.0 == o) || is_ended host o past
is_ended host o (e ∷ past) = is_ended host o past

-- the pager of another host took a message about the object
abbrev pub is_heard_elsewhere : ℕ → ℕ → List Event → Bool
is_heard_elsewhere host o [] = false
is_heard_elsewhere host o (event.Taken (Up at object) m ∷ past) =
    (not (at.0 == host) && object.0 == o) || is_heard_elsewhere host o past
is_heard_elsewhere host o (e ∷ past) = is_heard_elsewhere host o past

-- what is held of a page, by its last return and whether that was lost
abbrev pub IsHeldOf : Option Held → Option (List ℕ) → Bool → Type 0
IsHeldOf None None false = Unit {0}
IsHeldOf (Some (held.Kept s)) (Some bytes) false = Unit {0}
IsHeldOf (Some (held.Torn s)) (Some bytes) true = Unit {0}
IsHeldOf (Some held.Lost) (Some bytes) true = Unit {0}
IsHeldOf has returned lost = ⊥

-- The slots of a host's pager stand for a history. Whether a page was lost goes by its object and page alone, so
-- nothing is said of the
-- returns of an object that is another host's.
pub record PagerStands (header : Header) (host : ℕ) (slots : SlotTable) (past : List Event) : Type 0 where
  pub host_is : slots.host ≡ host
  pub size : slots.size ≡ header.size
  pub count : slots.count ≡ header.slots
  pub slot : (o p : ℕ) → slot_in_table slots o p ≡ slot_of_page header host o p past
  pub declared : (o p : ℕ) → o < named header → held_at slots o p ≡ None
  pub ended : (o p : ℕ) → is_ended host o past ≡ true → held_at slots o p ≡ None
  pub returned : (o p : ℕ) → named header ≤ o → is_ended host o past ≡ false → is_heard_elsewhere host o past ≡ false
      → IsHeldOf (held_at slots o p) (last_return host o p past) (is_lost o p past)

abbrev pub stored_of : Option (List ℕ) → Bool → Option Stored
stored_of None lost = None
stored_of (Some bytes) true = Some Lost
stored_of (Some bytes) false = Some (Kept bytes)

-- what was stored of each page: of a temporary object that didn't end, what became of the page's last return
abbrev pub content_of : Header → ℕ → List Event → Content
content_of header host past = λ o p. if nat_lt o (named header) || is_ended host o past then None else stored_of (last_return host o p past) (is_lost o p past)

-- the history in which the pager of a host just took a message about an object
abbrev pub taking : ℕ → ObjectId → Message → List Event → List Event
taking host object m past = event.Taken (up host object.0) m ∷ past

-- a pager whose slots stand for a history answers a message about a temporary object of its host, of which it
-- didn't take the end before
pub record PagerServes (header : Header) (host : ℕ) (past : List Event) (object : ObjectId) (m : Message) (old new : SlotTable) (events : List Event) : Type 0
  where
    pub temporary : named header ≤ object.0
    pub unended : is_ended host object.0 past ≡ false
    pub own : is_heard_elsewhere host object.0 past ≡ false
    pub stands : PagerStands header host old past
    pub answered : PagerAnswer m object old new events

-- slots and backing fit one content, where they fitted another before
pub record CarriesOver (before after : List ℕ → Told) (old new : SlotTable) (was now : Content) : Type 0 where
  pub agrees : AgreesWithContent old was → AgreesWithContent new now
  pub fits : IsAreaTold before old → SlotsFit before old was → SlotsFit after new now

-- the object is declared, or another host's
abbrev pub IsForeign : Header → ℕ → ℕ → List Event → Type 0
IsForeign header host o past = (o < named header) ⊎ (is_heard_elsewhere host o past ≡ true)

-- an event in which the pager of the host has no part, as far as temporary objects go
abbrev pub IsOther : Header → ℕ → Event → List Event → Type 0
IsOther header host (event.Taken (Up at object) m) past = (object.0 < named header) ⊎ (at.0 ≢ host)
IsOther header host (event.DeviceFailed who way object page) past = IsForeign header host object.0 past
IsOther header host (event.NoSlot object page) past = IsForeign header host object.0 past
IsOther header host other past = Unit {0}

-- what other hosts' pagers took messages about was never returned to this one
abbrev pub IsApart : Header → ℕ → List Event → Type 0
IsApart header host past =
    (o p : ℕ) → named header ≤ o → is_heard_elsewhere host o past ≡ true → last_return host o p past ≡ None
