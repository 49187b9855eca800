-- What was stored of each page, and that slots and backing fit it.
use Rattle.std.specs.Prelude.{ℕ, ◌≡◌, ◌≢◌, ◌<◌, ◌≤◌, ◌+◌, ◌*◌, ◌==◌, ◌&&◌, List, [], ◌∷◌, ◌++◌, length, codes, Option, Some, None, IsSome, unwrap_or, Result}
use Rattle.std.specs.Prelude.{Ok, Err, OnErr, if◌then◌else◌}
use Rattle.pg_slots.specs.Slots.{SlotTable, held_at}
use Rattle.pg_slots.specs.declared.answers.Got.{Got}
use Rattle.pg_slots.specs.declared.answers.Got.TheVariants as got
use Rattle.pg_slots.specs.declared.answers.Put.{Put}
use Rattle.pg_slots.specs.declared.answers.Put.TheVariants as put
use Rattle.pg_slots.specs.declared.slot_row.Held.{Held}
use Rattle.pg_slots.specs.declared.slot_row.Held.TheVariants as held
use Rattle.vm_base.specs.declared.failure.NoMemory.{NoMemory}
use Rattle.vm_base.specs.declared.failure.WriteStop.TheVariants as stop
use Rattle.vm_outside.specs.Areas.{SameAreas, Told, WriteTold, read_at}
use Rattle.vm_outside.specs.Causes.{CountRises}

-- what was stored of a page: its bytes, or that they were lost
pub data Stored : Type 0 where
  Kept : (bytes : List ℕ) → Stored
  Lost : Stored

-- what was stored of each page of each object, None where it was never put
abbrev pub Content : Type 0
Content = ℕ → ℕ → Option Stored

-- the name of a host's area
abbrev pub area_name : ℕ → List ℕ
area_name host = codes "paging" ++ (48 + host) ∷ []

-- what is held of a page agrees with what was stored of it
abbrev pub IsHeldAs : ℕ → ℕ → Option Held → Option Stored → Type 0
IsHeldAs count size None None = Unit {0}
IsHeldAs count size (Some (held.Kept s)) (Some (Kept bytes)) = (s < count) × (length bytes ≡ size)
IsHeldAs count size (Some (held.Torn s)) (Some Lost) = Unit {0}
IsHeldAs count size (Some held.Lost) (Some Lost) = Unit {0}
IsHeldAs count size has stored = ⊥

-- of each page the slots hold what was stored: never, lost or kept
pub record AgreesWithContent (slots : SlotTable) (content : Content) : Type 0 where
  pub at : (o p : ℕ) → IsHeldAs slots.count slots.size (held_at slots o p) (content o p)

-- where the host's area is told, it has these bytes at a slot
abbrev pub HasAt : (List ℕ → Told) → SlotTable → ℕ → List ℕ → Type 0
HasAt told slots s bytes =
    (was : Option (List ℕ)) → told (area_name slots.host) ≡ Some was
    → read_at (unwrap_or was []) (s * slots.size) slots.size ≡ bytes

-- slots and backing fit a content: they agree, and each kept page has its bytes at its slot
pub record SlotsFit (told : List ℕ → Told) (slots : SlotTable) (content : Content) : Type 0 where
  pub agrees : AgreesWithContent slots content
  pub bytes : (o p s : ℕ) (bytes : List ℕ) → held_at slots o p ≡ Some (held.Kept s) → content o p ≡ Some (Kept bytes)
      → HasAt told slots s bytes

-- the host's area is told
abbrev pub IsAreaTold : (List ℕ → Told) → SlotTable → Type 0
IsAreaTold told slots = IsSome (told (area_name slots.host))

-- each content that slots and backing fit before a call they fit after it, as the call changes it; where the area
-- is not told, they agree
pub record CarriesContent (before after : List ℕ → Told) (old new : SlotTable) (change : Content → Content) : Type 0 where
  pub agrees : (content : Content) → AgreesWithContent old content → AgreesWithContent new (change content)
  pub fits : (content : Content) → IsAreaTold before old → SlotsFit before old content → SlotsFit after new (change content)

abbrev pub same_content : Content → Content
same_content content = content

-- a content with this stored of one page
abbrev pub with_stored : ℕ → ℕ → Stored → Content → Content
with_stored object page stored content = λ o p. if object == o && page == p then Some stored else content o p

-- a content after a put of bytes
abbrev pub after_put : Result Put NoMemory → ℕ → ℕ → List ℕ → Content → Content
after_put (Ok put.Kept) object page bytes = with_stored object page (Kept bytes)
after_put (Ok put.NoSlot) object page bytes = with_stored object page Lost
after_put (Ok put.Failed) object page bytes = with_stored object page Lost
after_put (Err e) object page bytes = same_content

-- a content with nothing of an object
abbrev pub content_without : ℕ → Content → Content
content_without object content = λ o p. if object == o then None else content o p

-- what a put leaves in the areas: its page's bytes at its slot, or after a fault anything there, and all else as before
abbrev pub PutTold : Result Put NoMemory → (List ℕ → Told) → (List ℕ → Told) → SlotTable → Option ℕ → List ℕ → Type 0
PutTold (Ok put.Kept) before after slots slot bytes =
    (s : ℕ) → slot ≡ Some s → WriteTold before after (area_name slots.host) (s * slots.size) bytes (Ok tt)
PutTold (Ok put.Failed) before after slots slot bytes =
    (s : ℕ) → slot ≡ Some s → WriteTold before after (area_name slots.host) (s * slots.size) bytes (Err stop.Failed)
PutTold (Ok put.NoSlot) before after slots slot bytes = SameAreas before after
PutTold (Err e) before after slots slot bytes = SameAreas before after

-- a put fails only where the count of faults rose, and any other answer leaves the count, want of memory too
pub record PutHasCause (before now : ℕ) (result : Result Put NoMemory) : Type 0 where
  pub later : before ≤ now
  pub failed : result ≡ Ok put.Failed → CountRises before now
  pub spared : result ≢ Ok put.Failed → now ≡ before
  pub same : OnErr result (now ≡ before)

-- what a get answers of a page of which this was stored
abbrev pub IsGetAnswer : Got → Option Stored → Type 0
IsGetAnswer got.Never None = Unit {0}
IsGetAnswer got.Lost (Some Lost) = Unit {0}
IsGetAnswer (got.Page bytes) (Some (Kept stored)) = Unit {0}
IsGetAnswer got.Failed (Some (Kept stored)) = Unit {0}
IsGetAnswer answer stored = ⊥

-- what a get answers of a page of which this is held
abbrev pub AnswersHeld : Got → Option Held → Type 0
AnswersHeld got.Never None = Unit {0}
AnswersHeld got.Lost (Some (held.Torn s)) = Unit {0}
AnswersHeld got.Lost (Some held.Lost) = Unit {0}
AnswersHeld (got.Page bytes) (Some (held.Kept s)) = Unit {0}
AnswersHeld got.Failed (Some (held.Kept s)) = Unit {0}
AnswersHeld answer has = ⊥

-- a page that is given has so many bytes
abbrev pub IsWholePage : ℕ → Got → Type 0
IsWholePage size (got.Page bytes) = length bytes ≡ size
IsWholePage size answer = Unit {0}

-- a page that is given has the bytes that were stored of it
abbrev pub GivesStored : Got → Option Stored → Type 0
GivesStored (got.Page bytes) stored = stored ≡ Some (Kept bytes)
GivesStored answer stored = Unit {0}

-- a get fails only where the count of faults rose, and any other answer leaves the count
pub record GetHasCause (before now : ℕ) (result : Result Got NoMemory) : Type 0 where
  pub later : before ≤ now
  pub failed : result ≡ Ok got.Failed → CountRises before now
  pub spared : result ≢ Ok got.Failed → now ≡ before
