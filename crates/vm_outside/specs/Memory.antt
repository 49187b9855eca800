-- Areas in memory.
use Rattle.std.specs.Prelude.{ℕ, List, Option}
use Rattle.std.specs.Option.{option_map}
use Rattle.std.specs.BTreeMap.{get_by_text}
use Rattle.vm_outside.specs.declared.areas.Areas.{Areas}
use Rattle.vm_outside.specs.declared.memory_backing.SureBacking.{SureBacking}
use Rattle.vm_outside.specs.declared.planned_backing.MemBacking.{MemBacking}
use Rattle.vm_outside.specs.Plans.{Planned}

-- the bytes of the area of a name, and None where there is none
abbrev pub area_in : Areas → List ℕ → Option (List ℕ)
area_in memory name = option_map (λ bytes. bytes.items) (get_by_text memory.areas name)

-- what a backing in memory has of a name
abbrev pub area_of : SureBacking → List ℕ → Option (List ℕ)
area_of backing name = area_in backing.areas name

-- what a backing in memory has of a name, where calls of it may fail
abbrev pub bytes_of : MemBacking → List ℕ → Option (List ℕ)
bytes_of backing name = area_in backing.areas name

-- which of its calls fail
abbrev pub plan_of : MemBacking → Planned
plan_of backing = backing.plan
