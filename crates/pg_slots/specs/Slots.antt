-- The paging slots of a host, as contracts see them.
use Rattle.std.specs.Map.{lookup}
use Rattle.std.specs.Prelude.{ℕ, ◌≡◌, ◌<◌, ◌==◌, ◌&&◌, List, Option, Some, None, MatchOption, if◌then◌else◌}
use Rattle.pg_slots.specs.declared.answers.Put.{Put}
use Rattle.pg_slots.specs.declared.answers.Put.TheVariants as put
use Rattle.pg_slots.specs.declared.slot_row.Held.{Held}
use Rattle.pg_slots.specs.declared.slot_row.Held.TheVariants.{Kept, Torn, Lost}
use Rattle.vm_base.specs.declared.ids.ObjectId.{ObjectId}
use Rattle.vm_base.specs.declared.ids.PageNo.{PageNo}

-- each object of which a page was put, with what is held of each such page
abbrev pub HeldRows : Type 0
HeldRows = List (ObjectId × List (PageNo × Held))

-- the number of the host, the bytes of a page, the number of slots, and what is held of the pages that were put
pub record SlotTable : Type 0 where
  pub host : ℕ
  pub size : ℕ
  pub count : ℕ
  pub rows : HeldRows

-- what is held of a page, among those of its object
abbrev pub held_in : ℕ → Option (List (PageNo × Held)) → Option Held
held_in page None = None
held_in page (Some pages) = lookup (λ p. page == p.0) pages

abbrev pub held_among : ℕ → ℕ → HeldRows → Option Held
held_among object page rows = held_in page (lookup (λ o. object == o.0) rows)

-- what is held of a page, None where it was never put
abbrev pub held_at : SlotTable → ℕ → ℕ → Option Held
held_at slots object page = held_among object page slots.rows

abbrev pub held_slot : Option Held → Option ℕ
held_slot None = None
held_slot (Some (Kept slot)) = Some slot
held_slot (Some (Torn slot)) = Some slot
held_slot (Some Lost) = None

-- the slot of a page, where it has one
abbrev pub slot_in_table : SlotTable → ℕ → ℕ → Option ℕ
slot_in_table slots object page = held_slot (held_at slots object page)

-- the slot is some page's
pub record IsSlotTaken (slots : SlotTable) (s : ℕ) : Type 0 where
  pub object : ℕ
  pub page : ℕ
  pub at : slot_in_table slots object page ≡ Some s

-- each slot is some page's
abbrev pub SlotsAreFull : SlotTable → Type 0
SlotsAreFull slots = (s : ℕ) → s < slots.count → IsSlotTaken slots s

-- the lowest slot that is no page's
pub record IsLowestFree (slots : SlotTable) (s : ℕ) : Type 0 where
  pub inside : s < slots.count
  pub free : IsSlotTaken slots s → ⊥
  pub lowest : (t : ℕ) → t < s → IsSlotTaken slots t

-- the slot that a put of a page goes to: its own, or else the lowest free one
abbrev pub GoesTo : SlotTable → ℕ → ℕ → ℕ → Type 0
GoesTo slots object page s = MatchOption (slot_in_table slots object page) (IsLowestFree slots s) (λ own. s ≡ own)

-- the page has no slot, and each slot is another page's
abbrev pub HasNoSlot : SlotTable → ℕ → ℕ → Type 0
HasNoSlot slots object page = (slot_in_table slots object page ≡ None) × SlotsAreFull slots

-- the host, the page size and the number of slots are as before
pub record KeepsShape (old new : SlotTable) : Type 0 where
  pub host : new.host ≡ old.host
  pub size : new.size ≡ old.size
  pub count : new.count ≡ old.count

-- this is held of one page now, and of each other page what was held of it
pub record PutsHeld (object page : ℕ) (held : Held) (old new : SlotTable) : Type 0 where
  pub host : new.host ≡ old.host
  pub size : new.size ≡ old.size
  pub count : new.count ≡ old.count
  pub at : (o p : ℕ) → held_at new o p ≡ (if object == o && page == p then Some held else held_at old o p)

-- what a put leaves of the slots: the page is in the slot that it goes to, or lost with that slot, or lost with none
abbrev pub PutEffects : Put → ℕ → ℕ → SlotTable → SlotTable → Type 0
PutEffects put.Kept object page old new = (s : ℕ) × GoesTo old object page s × PutsHeld object page (Kept s) old new
PutEffects put.Failed object page old new = (s : ℕ) × GoesTo old object page s × PutsHeld object page (Torn s) old new
PutEffects put.NoSlot object page old new = PutsHeld object page Lost old new

-- nothing is held of the pages of one object now, and of each other page what was held of it
pub record DropsHeld (object : ℕ) (old new : SlotTable) : Type 0 where
  pub host : new.host ≡ old.host
  pub size : new.size ≡ old.size
  pub count : new.count ≡ old.count
  pub at : (o p : ℕ) → held_at new o p ≡ (if object == o then None else held_at old o p)
