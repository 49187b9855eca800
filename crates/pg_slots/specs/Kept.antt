-- How the slots are kept: what is held of the pages that were put, and which slots are taken.
use Rattle.indexmap.specs.IndexMap.{IndexMap, spare}
use Rattle.std.specs.List.{IsDistinct, list_any}
use Rattle.std.specs.Map.{lookup}
use Rattle.std.specs.Option.{option_map, unwrap_or}
use Rattle.std.specs.BinaryHeap.{IsHeap}
use Rattle.std.specs.Prelude.{ℕ, ◌≡◌, ◌≤◌, ◌<◌, ◌==◌, ◌&&◌, ◌⊎◌, Bool, true, false, not, List, map, Option, Some, None, if◌then◌else◌, nat_eq, nat_lt}
use Rattle.std.specs.Ordering.{nat_cmp}
use Rattle.std.specs.declared.cmp.Reverse.{Reverse}
use Rattle.pg_slots.specs.Slots.{HeldRows, held_among, held_in, held_slot}
use Rattle.pg_slots.specs.declared.slot_row.Held.{Held}
use Rattle.vm_base.specs.Limits.{most_hosts}
use Rattle.vm_base.specs.declared.ids.ObjectId.{ObjectId}
use Rattle.vm_base.specs.declared.ids.PageNo.{PageNo}

-- the rows, for how many further pages of each object there is room, and for how many of an object with no page yet
pub record RowTable : Type 0 where
  pub rows : HeldRows
  pub rooms : List (ObjectId × ℕ)
  pub first : ℕ

-- for how many further pages of an object there is room
abbrev pub room_of : RowTable → ℕ → ℕ
room_of table object = unwrap_or (lookup (λ o. object == o.0) table.rooms) table.first

module _ {S : Type 0} where
  -- an object with what is held of its pages
  abbrev pub object_pages : ObjectId × IndexMap PageNo Held S → ObjectId × List (PageNo × Held)
  object_pages row = (row.0, row.1.entries)

  -- an object with the room for further pages
  abbrev pub object_room : ObjectId × IndexMap PageNo Held S → ObjectId × ℕ
  object_room row = (row.0, spare row.1)

  -- the slot of a page, among those of its object
  abbrev pub slot_in_map : Option (IndexMap PageNo Held S) → ℕ → Option ℕ
  slot_in_map pages page = held_slot (held_in page (option_map (λ m. m.entries) pages))

-- one page has this row now, and each other page the row that it had
pub record PutsRow (object page : ℕ) (held : Held) (old new : HeldRows) : Type 0 where
  pub at : (o p : ℕ) → held_among o p new ≡ (if object == o && page == p then Some held else held_among o p old)

-- the pages of one object have no row now, and each other page has the row that it had
pub record DropsRows (object : ℕ) (old new : HeldRows) : Type 0 where
  pub at : (o p : ℕ) → held_among o p new ≡ (if object == o then None else held_among o p old)

-- the slot of a page, among rows
abbrev pub slot_among : ℕ → ℕ → HeldRows → Option ℕ
slot_among object page rows = held_slot (held_among object page rows)

-- how many slots there are, the lowest that was never taken, and those that were given back
pub record SlotMarks : Type 0 where
  pub count : ℕ
  pub unused : ℕ
  pub given : List ℕ

-- a slot is taken that was taken once and not given back since
abbrev pub is_taken : SlotMarks → ℕ → Bool
is_taken slots s = nat_lt s slots.unused && not (list_any (nat_eq s) slots.given)

-- some row has the slot
pub record HasRow (rows : HeldRows) (s : ℕ) : Type 0 where
  pub object : ℕ
  pub page : ℕ
  pub at : slot_among object page rows ≡ Some s

-- the slots that are taken are those that rows have, and no two rows have the same slot
pub record AreMarked (rows : HeldRows) (taken : ℕ → Bool) : Type 0 where
  pub marked : (o p s : ℕ) → slot_among o p rows ≡ Some s → taken s ≡ true
  pub owned : (s : ℕ) → taken s ≡ true → HasRow rows s
  pub apart : (o p q r s : ℕ) → slot_among o p rows ≡ Some s → slot_among q r rows ≡ Some s → (o ≡ q) × (p ≡ r)

pub record AreSlotRows (host : ℕ) (rows : HeldRows) (slots : SlotMarks) : Type 0 where
  pub host_low : host < most_hosts
  pub inside : (s : ℕ) → is_taken slots s ≡ true → s < slots.count
  pub marks : AreMarked rows (is_taken slots)

-- the lowest slot that is not taken
pub record IsUnmarked (slots : SlotMarks) (s : ℕ) : Type 0 where
  pub inside : s < slots.count
  pub free : is_taken slots s ≡ false
  pub lowest : (t : ℕ) → t < s → is_taken slots t ≡ true

-- each slot is taken
abbrev pub AllMarked : SlotMarks → Type 0
AllMarked slots = (s : ℕ) → s < slots.count → is_taken slots s ≡ true

-- a slot that a page may take: one that is taken, or else the lowest free one
abbrev pub MayTake : SlotMarks → ℕ → Type 0
MayTake slots s = (is_taken slots s ≡ true) ⊎ IsUnmarked slots s

-- the slots of pages are taken, and no two pages have the same
pub record AreGivable (slot : ℕ → Option ℕ) (slots : SlotMarks) : Type 0 where
  pub taken : (p s : ℕ) → slot p ≡ Some s → is_taken slots s ≡ true
  pub apart : (p q s : ℕ) → slot p ≡ Some s → slot q ≡ Some s → p ≡ q

-- the slots of pages were given back; all others are as they were
pub record FreesSlots (slot : ℕ → Option ℕ) (old new : SlotMarks) : Type 0 where
  pub count : new.count ≡ old.count
  pub left : (s : ℕ) → is_taken new s ≡ true → is_taken old s ≡ true
  pub freed : (p s : ℕ) → is_taken new s ≡ true → slot p ≡ Some s → ⊥
  pub kept : (s : ℕ) → is_taken old s ≡ true → ((p : ℕ) → slot p ≡ Some s → ⊥) → is_taken new s ≡ true

-- the slots that were given back were taken once, each stands there once, and there is room for each slot
pub record AreFree (slots : SlotMarks) (room : ℕ) : Type 0 where
  pub inside : slots.unused ≤ slots.count
  pub room_for : slots.count ≤ room
  pub below : (s : ℕ) → list_any (nat_eq s) slots.given ≡ true → s < slots.unused
  pub apart : IsDistinct nat_eq slots.given

-- the numbers in a heap that has the lowest on top
abbrev pub slots_of : List (Reverse ℕ) → List ℕ
slots_of given = map (λ r. r.0) given

-- the lowest is on top
abbrev pub IsLowestFirst : List (Reverse ℕ) → Type 0
IsLowestFirst = IsHeap (λ x y. nat_cmp y.0 x.0)
