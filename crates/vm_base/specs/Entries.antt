-- The entries of a task, by rising address, and what each command does to them.
use Rattle.std.specs.Prelude.{ℕ, zero, suc, ◌+◌, ◌-◌, ◌/◌, ◌%◌, ◌^◌, ◌<◌, ◌≤◌, ◌≡◌, ◌==◌, ◌&&◌, ◌||◌, Bool, true, false, List, [], ◌∷◌, ◌++◌, length, reverse}
use Rattle.std.specs.Prelude.{if◌then◌else◌, nat_lt, nat_le, max, min, Option, Some, None, is_some}
use Rattle.std.specs.List.{flat_map}
use Rattle.std.specs.Option.{option_map}
use Rattle.vm_base.specs.Listing.{Listed}
use Rattle.vm_base.specs.declared.entry.Entry.{Entry}
use Rattle.vm_base.specs.declared.ids.Access.{Access}
use Rattle.vm_base.specs.declared.ids.Access.TheVariants.{Load, Store}
use Rattle.vm_base.specs.declared.ids.Inherit.{Inherit}
use Rattle.vm_base.specs.declared.ids.Prot.{Prot}
use Rattle.vm_base.specs.declared.ids.RegionId.{RegionId}

-- the most entries that a task may have
abbrev pub most_entries : ℕ
most_entries = 256

-- the entries of a list that was made by rising address
abbrev pub by_address : Listed Entry → List Entry
by_address entries = reverse entries.items

-- a range of whole pages, not empty, with all its addresses below 2^32; the first number is the page size
abbrev pub is_range : ℕ → ℕ → ℕ → Bool
is_range size address bytes =
    address % size == 0 && (bytes % size == 0 && (nat_lt 0 bytes && nat_le (address + bytes) (2 ^ 32)))

-- the entries with one more, by rising address
abbrev pub entered : Entry → List Entry → List Entry
entered new [] = new ∷ []
entered new (row ∷ rows) = if nat_lt new.address row.address then new ∷ row ∷ rows else row ∷ entered new rows

-- the entry that holds an address
abbrev pub entry_at : ℕ → List Entry → Option Entry
entry_at address [] = None
entry_at address (row ∷ rows) =
    if nat_le row.address address && nat_lt address (row.address + row.bytes) then Some row else entry_at address rows

-- the page of its region that an entry has at an address
abbrev pub page_at : ℕ → ℕ → Entry → ℕ
page_at size address row = row.offset + (address - row.address) / size

-- what an address is mapped to
pub record Mapping : Type 0 where
  pub region : RegionId
  pub page : ℕ
  pub prot : Prot
  pub inherit : Inherit

-- what an entry maps an address to
abbrev pub mapping : ℕ → ℕ → Entry → Mapping
mapping size address row =
    record { region = row.region; page = page_at size address row; prot = row.prot; inherit = row.inherit }

-- what the entries map an address to, where they map it
abbrev pub mapping_at : ℕ → ℕ → List Entry → Option Mapping
mapping_at size address rows = option_map (mapping size address) (entry_at address rows)

-- what is allowed to an access
abbrev pub allows : Access → Prot → Bool
allows Load prot = prot.read
allows Store prot = prot.write

-- an address is in a range
abbrev pub is_within : ℕ → ℕ → ℕ → Bool
is_within start bytes address = nat_le start address && nat_lt address (start + bytes)

-- an entry has an address of the range, which is not empty
abbrev pub meets_range : ℕ → ℕ → List Entry → Bool
meets_range address bytes [] = false
meets_range address bytes (row ∷ rows) =
    (nat_lt row.address (address + bytes) && nat_lt address (row.address + row.bytes)) || meets_range address bytes rows

-- each of so many pages from an address on is in some entry
abbrev pub are_mapped : ℕ → ℕ → ℕ → List Entry → Bool
are_mapped size address zero rows = true
are_mapped size address (suc pages) rows =
    is_some (entry_at address rows) && are_mapped size (address + size) pages rows

-- each page of the range is in some entry
abbrev pub is_mapped : ℕ → ℕ → ℕ → List Entry → Bool
is_mapped size address bytes rows = are_mapped size address (bytes / size) rows

-- the part of an entry from an address on and below another, where there is one: the offset rises by the pages cut
-- off in front
abbrev pub cut : ℕ → ℕ → ℕ → Entry → List Entry
cut size from to row =
    let start = max from row.address in
    let end = min to (row.address + row.bytes) in
    if nat_lt start end
    then record row { address = start; bytes = end - start; offset = row.offset + (start - row.address) / size } ∷ []
    else []

-- the parts of entries that lie in the range
abbrev pub parts_in : ℕ → ℕ → ℕ → List Entry → List Entry
parts_in size address bytes rows = flat_map (cut size address (address + bytes)) rows

-- the entries cut at both ends of the range, with what each part in it becomes; addresses are below 2^32
abbrev pub rewritten : (Entry → List Entry) → ℕ → ℕ → ℕ → List Entry → List Entry
rewritten becomes size address bytes [] = []
rewritten becomes size address bytes (row ∷ rows) =
    cut size 0 address row
    ++ (flat_map becomes (cut size address (address + bytes) row)
    ++ (cut size (address + bytes) (2 ^ 32) row
    ++ rewritten becomes size address bytes rows))

-- the entries with the range taken out
abbrev pub removed : ℕ → ℕ → ℕ → List Entry → List Entry
removed size address bytes rows = rewritten (λ row. []) size address bytes rows

-- the entries with this protection in the range
abbrev pub protected : ℕ → ℕ → ℕ → Prot → List Entry → List Entry
protected size address bytes prot rows = rewritten (λ row. record row { prot = prot } ∷ []) size address bytes rows

-- the entries with this inheritance in the range
abbrev pub inherited : ℕ → ℕ → ℕ → Inherit → List Entry → List Entry
inherited size address bytes inherit rows = rewritten (λ row. record row { inherit = inherit } ∷ []) size address bytes rows

-- entries by rising address, none of them empty, that don't meet and lie from one address on up to another
abbrev pub InOrder : ℕ → ℕ → List Entry → Type 0
InOrder from to [] = from ≤ to
InOrder from to (row ∷ rows) = (from ≤ row.address) × ((0 < row.bytes) × InOrder (row.address + row.bytes) to rows)

-- an entry has whole pages, which its region can number
pub record HasWholePages (size : ℕ) (row : Entry) : Type 0 where
  pub address : row.address % size ≡ 0
  pub bytes : row.bytes % size ≡ 0
  pub pages : row.offset + row.bytes / size < 2 ^ 32

abbrev pub AllWholePages : ℕ → List Entry → Type 0
AllWholePages size [] = Unit {0}
AllWholePages size (row ∷ rows) = HasWholePages size row × AllWholePages size rows

-- what holds of the entries of every task
pub record AreEntries (size : ℕ) (rows : List Entry) : Type 0 where
  pub in_order : InOrder 0 (2 ^ 32) rows
  pub whole : AllWholePages size rows
  pub few : length rows ≤ most_entries
