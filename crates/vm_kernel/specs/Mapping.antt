-- A declared object is mapped: its region counts one entry more, and its pager is told of it.
use Rattle.std.specs.Prelude.{ℕ, ◌≡◌, ◌+◌, ◌-◌, ◌<◌, ◌^◌, ◌||◌, nat_lt, Bool, true, false, List, ◌∷◌, Option, Some, None}
use Rattle.vm_base.specs.declared.entry.Entry.{Entry}
use Rattle.vm_base.specs.declared.ids.Inherit.TheVariants.{Share}
use Rattle.vm_base.specs.declared.ids.ObjectId.{ObjectId}
use Rattle.vm_model.specs.declared.event.Event.{Event}
use Rattle.vm_model.specs.declared.event.Event.TheVariants as event
use Rattle.vm_model.specs.declared.message.Channel.TheVariants.{Up}
use Rattle.vm_model.specs.declared.message.Message.TheVariants as message
use Rattle.vm_model.specs.declared.script.Declared.{Declared}
use Rattle.vm_objects.specs.Objects.{PutsObject, SameMarks, object_at}
use Rattle.vm_objects.specs.declared.row.ObjectRow.{ObjectRow}
use Rattle.vm_objects.specs.declared.row.PagerState.TheVariants.{Sent, Without}
use Rattle.vm_shadow.specs.Chains.{PutsRegion, region_at}
use Rattle.vm_shadow.specs.declared.region_row.RegionRow.{RegionRow}
use Rattle.vm_kernel.specs.declared.parts.Parts.{Parts}

-- an entry on a declared region: readable, writable, and shared by a fork
abbrev pub shared_entry : ℕ → ℕ → ObjectId → ℕ → Entry
shared_entry address bytes object offset =
    record { address = address; bytes = bytes; region = record { 0 = object.0 }; offset = offset; prot = record { read = true; write = true }; inherit = Share }

-- the region of a declared object, with one entry
abbrev pub declared_region : ObjectId → Declared → RegionRow
declared_region object declared = record { top = object; shift = 0; pages = declared.pages; marked = false; entries = 1 }

-- what the host knows of a declared object that it had known so, with one reference more
abbrev pub referred : Declared → Option ObjectRow → ObjectRow
referred declared None = record { kind = declared.kind; pages = declared.pages; state = Without; control = 0; live = false; cache = false; references = 1 }
referred declared (Some row) = record row { references = row.references + 1 }

-- one entry more leads to the region of a declared object, which is made where it isn't there
pub data Holds (object : ObjectId) (declared : Declared) (old new : Parts) : Type 0 where
  Again : (row : RegionRow) → region_at old.chains object.0 ≡ Some row
      → PutsRegion object.0 (Some (record row { entries = row.entries + 1 })) old.chains new.chains
      → new ≡ record old { chains = new.chains } → Holds object declared old new
  First : region_at old.chains object.0 ≡ None → PutsRegion object.0 (Some (declared_region object declared)) old.chains new.chains
      → PutsObject object.0 (Some (referred declared (object_at old.memory.objects object.0))) old.memory.objects new.memory.objects
      → SameMarks old.memory.objects new.memory.objects
      → new ≡ record old { memory = record old.memory { objects = new.memory.objects }; chains = new.chains } → Holds object declared old new

-- a control of an object lives, or the next one can begin
abbrev pub can_open : Option ObjectRow → Bool
can_open None = true
can_open (Some known) = known.live || nat_lt known.control (2 ^ 32 - 3)

-- where no control of an object lives the next one begins, and the object's pager is told of it
pub data Opens (object : ObjectId) (known : ObjectRow) (old new : Parts) (before after : List Event) : Type 0 where
  IsOpen : known.live ≡ true → new ≡ old → after ≡ before → Opens object known old new before after
  Begins : known.live ≡ false → PutsObject object.0 (Some (record known { control = known.control + 1; live = true; state = Sent })) old.memory.objects
      new.memory.objects
      → SameMarks old.memory.objects new.memory.objects → known.control + 1 < 2 ^ 32 - 1
      → new ≡ record old { memory = record old.memory { objects = new.memory.objects } }
      → after ≡ event.Sent (Up old.host object) (message.Init (known.control + 1) old.size) ∷ before → Opens object known old new before after
