-- How many places the tallies take after a write.
use Rattle.std.proofs.Common.{◌≡◌, ℕ, ◌+◌, ◌-◌, List, Some, None}
use Rattle.std.proofs.lemmas.Map.Entries.{sum_by-set_value}
use Rattle.std.specs.Map.{lookup, set_value}
use Rattle.indexmap.specs.IndexMap.{insert_entry, swap_remove_entry}
use Rattle.vm_base.specs.declared.ids.ObjectId.{ObjectId}
use Rattle.vm_shadow.proofs.Sums.{sum_dropped, sum_made}
use Rattle.vm_shadow.proofs.Weights.{same_object}
use Rattle.vm_shadow.specs.Kept.{beside}
use Rattle.vm_shadow.specs.declared.tally.Tally.{Tally}

-- what a tally adds
abbrev pub further : Tally → ℕ
further tally = tally.count - 1

module _ (old new : List (ObjectId × Tally)) (object : ObjectId) where
  pub places_made : (row : Tally) → lookup (same_object object) old ≡ None → new ≡ insert_entry same_object old object row
      → beside new ≡ beside old + further row
  places_made row none is = sum_made same_object further old new object row none is

  pub places_set : (was row : Tally) → lookup (same_object object) old ≡ Some was → new ≡ set_value (same_object object) old row
      → beside new + further was ≡ beside old + further row
  places_set was row there is = rw is (sum_by-set_value further (same_object object) old was row there)

  pub places_dropped : (row : Tally) → lookup (same_object object) old ≡ Some row → new ≡ swap_remove_entry (same_object object) old
      → beside new + further row ≡ beside old
  places_dropped row there is = sum_dropped same_object further old new object row there is
