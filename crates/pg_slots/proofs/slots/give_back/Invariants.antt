use Rattle.std.proofs.Common.{Some}
use Rattle.indexmap.specs.IndexMap.{index_map_len}
use Rattle.pg_slots.proofs.Giving.{IsGiving}
use Rattle.pg_slots.proofs.slots.give_back.Given as goal
use Rattle.pg_slots.specs.Kept.{slot_in_map}

abbrev pub invariant-all : goal.invariant-all
invariant-all l = IsGiving (slot_in_map (Some l.fn.pages)) (slot_in_map (Some l.left)) l.fn.free l.free

abbrev pub decreases-all : goal.decreases-all
decreases-all l = index_map_len l.left
