use Rattle.std.proofs.Common.{◌≡◌}
use Rattle.vm_resident.specs.Kept.{pages_of}
use Rattle.vm_resident.specs.Resident.{owner_among}
use Rattle.vm_resident.proofs.frame_owners.first_owner.Given as goal

abbrev pub invariant-all : goal.invariant-all
invariant-all l = owner_among l.fn.f.0 (pages_of l.key-iterator) ≡ owner_among l.fn.f.0 (pages_of l.fn.rows.entries)
