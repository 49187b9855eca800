-- What the searches and cuts in a task's entries find.
use Rattle.std.specs.Prelude.{ℕ, suc, ◌+◌, ◌-◌, ◌^◌, Bool, ◌&&◌, ◌||◌, List, [], ◌∷◌, ◌++◌, Option, Some, None, if◌then◌else◌, nat_lt, nat_le, take, drop}
use Rattle.std.specs.List.{flat_map}
use Rattle.std.specs.Option.{option_map}
use Rattle.vm_base.specs.Entries.{Mapping, cut}
use Rattle.vm_maps.specs.Maps.{with_inherit, with_prot}
use Rattle.vm_base.specs.declared.entry.Entry.{Entry}
use Rattle.vm_maps.specs.declared.change.MapChange.{MapChange}
use Rattle.vm_maps.specs.declared.change.MapKind.{MapKind}
use Rattle.vm_maps.specs.declared.change.MapKind.TheVariants as kind

-- how many entries end at or in front of an address
abbrev pub passed : ℕ → List Entry → ℕ
passed address [] = 0
passed address (row ∷ rows) = if nat_le (row.address + row.bytes) address then suc (passed address rows) else 0

-- an entry that begins below an address
abbrev pub if_below : ℕ → Option Entry → Option Entry
if_below address None = None
if_below address (Some row) = if nat_lt row.address address then Some row else None

-- the entries, the one with addresses on both sides of a boundary cut there
abbrev pub split : ℕ → ℕ → List Entry → List Entry
split size address [] = []
split size address (row ∷ rows) = cut size 0 address row ++ (cut size address (2 ^ 32) row ++ split size address rows)

-- the entries with those from an index on and below another as they become
abbrev pub altered : (Entry → List Entry) → ℕ → ℕ → List Entry → List Entry
altered becomes from to rows = take from rows ++ (flat_map becomes (take (to - from) (drop from rows)) ++ drop to rows)

-- from an address up to another there is no gap
abbrev pub is_without_gap : ℕ → ℕ → List Entry → Bool
is_without_gap from to [] = nat_le to from
is_without_gap from to (row ∷ rows) = nat_le to from || (nat_le row.address from && is_without_gap (row.address + row.bytes) to rows)

abbrev pub becomes_by : MapKind → MapChange → Entry → List Entry
becomes_by kind.Enter change row = row ∷ []
becomes_by kind.Remove change row = []
becomes_by kind.Protect change row = record row { prot = change.prot } ∷ []
becomes_by kind.Inherit change row = record row { inherit = change.inherit } ∷ []

-- what a part of an entry in the range of a change becomes
abbrev pub becomes : MapChange → Entry → List Entry
becomes change row = becomes_by change.kind change row

-- how many entries have addresses on both sides of a boundary
abbrev pub cuts_at : ℕ → List Entry → ℕ
cuts_at address [] = 0
cuts_at address (row ∷ rows) =
    (if nat_lt row.address address && nat_lt address (row.address + row.bytes) then 1 else 0) + cuts_at address rows

-- what a change leaves of one entry
abbrev pub rewritten_one : ℕ → MapChange → Entry → List Entry
rewritten_one size change row =
    cut size 0 change.address row
    ++ (flat_map (becomes change) (cut size change.address (change.address + change.bytes) row)
    ++ cut size (change.address + change.bytes) (2 ^ 32) row)

-- what a change makes of what an address in its range is mapped to
abbrev pub changed_by : MapKind → MapChange → Option Mapping → Option Mapping
changed_by kind.Enter change old = old
changed_by kind.Remove change old = None
changed_by kind.Protect change old = option_map (with_prot change.prot) old
changed_by kind.Inherit change old = option_map (with_inherit change.inherit) old
