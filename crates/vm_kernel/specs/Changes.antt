-- What the steps of a kernel's calls do to its parts.
use Rattle.std.specs.Prelude.{ℕ, ◌≡◌, true, false, Some, None}
use Rattle.vm_base.specs.declared.entry.Entry.{Entry}
use Rattle.vm_base.specs.declared.ids.Inherit.{Inherit}
use Rattle.vm_base.specs.declared.ids.Inherit.TheVariants.{Copy, Never}
use Rattle.vm_base.specs.declared.ids.ObjectId.{ObjectId}
use Rattle.vm_base.specs.declared.ids.ObjectKind.TheVariants.{Temp}
use Rattle.vm_base.specs.declared.ids.Prot.{Prot}
use Rattle.vm_base.specs.declared.ids.RegionId.{RegionId}
use Rattle.vm_maps.specs.declared.change.MapChange.{MapChange}
use Rattle.vm_maps.specs.declared.change.MapKind.TheVariants as kind
use Rattle.vm_maps.specs.Judge.{judged}
use Rattle.vm_maps.specs.Maps.{rows_in}
use Rattle.vm_objects.specs.Objects.{PutsObject, SameMarks}
use Rattle.vm_objects.specs.declared.row.PagerState.TheVariants.{Without}
use Rattle.vm_shadow.specs.Chains.{PutsRegion}
use Rattle.vm_kernel.specs.declared.parts.Parts.{Parts}

-- a region was made over a new object, which counts so many entries
pub record MadeRange (region : RegionId) (object : ObjectId) (pages entries : ℕ) (old new : Parts) : Type 0 where
  pub host : new.host ≡ old.host
  pub size : new.size ≡ old.size
  pub declared : new.declared ≡ old.declared
  pub copied : new.copies ≡ old.copies
  pub memory : new.memory ≡ record old.memory { objects = new.memory.objects }
  pub maps : new.maps ≡ old.maps
  pub laundry : new.laundry ≡ old.laundry
  pub waits : new.waits ≡ old.waits
  pub region_row : PutsRegion region.0 (Some (record { top = object; shift = 0; pages = pages; marked = false; entries = entries })) old.chains new.chains
  pub object_row : PutsObject object.0 (Some (record { kind = Temp; pages = pages; state = Without; control = 0; live = false; cache = false; references = 1 }))
      old.memory.objects new.memory.objects
  pub marks : SameMarks old.memory.objects new.memory.objects

-- an entry on the whole of a region: readable, writable, and copied by a fork
abbrev pub whole_entry : ℕ → ℕ → RegionId → Entry
whole_entry address bytes region =
    record { address = address; bytes = bytes; region = region; offset = 0; prot = record { read = true; write = true }; inherit = Copy }

-- that an entry is entered
abbrev pub entering : Entry → MapChange
entering row = record { kind = kind.Enter; address = row.address; bytes = row.bytes; entry = Some row; prot = row.prot; inherit = row.inherit }

-- a task can enter an entry: that is a range, its addresses are free, and there may be one more
abbrev pub CanEnter : ℕ → Entry → Parts → Type 0
CanEnter task row k = judged k.maps.size (entering row) (rows_in task k.maps) ≡ None

-- the range gets some entry
abbrev pub enter : ℕ → ℕ → MapChange
enter address bytes =
    record { kind = kind.Enter; address = address; bytes = bytes; entry = None; prot = record { read = false; write = false }; inherit = Never }

-- the range is unmapped
abbrev pub removal : ℕ → ℕ → MapChange
removal address bytes =
    record { kind = kind.Remove; address = address; bytes = bytes; entry = None; prot = record { read = false; write = false }; inherit = Never }

-- the range gets a protection
abbrev pub protection : ℕ → ℕ → Prot → MapChange
protection address bytes prot = record { kind = kind.Protect; address = address; bytes = bytes; entry = None; prot = prot; inherit = Never }

-- the range gets an inheritance
abbrev pub inheritance : ℕ → ℕ → Inherit → MapChange
inheritance address bytes inherit =
    record { kind = kind.Inherit; address = address; bytes = bytes; entry = None; prot = record { read = false; write = false }; inherit = inherit }
