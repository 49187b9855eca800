-- The objects that lost a reference, as contracts see them.
use Rattle.std.specs.BinaryHeap.{IsHeap}
use Rattle.std.specs.Ordering.{nat_cmp}
use Rattle.std.specs.Prelude.{ℕ, List, map}
use Rattle.std.specs.declared.cmp.Reverse.{Reverse}
use Rattle.vm_base.specs.declared.ids.ObjectId.{ObjectId}

-- the objects, in some order, and for how many further ones there is room
pub record LoserList : Type 0 where
  pub items : List ObjectId
  pub room : ℕ

-- the objects in a heap that has the least on top
abbrev pub losers_of : List (Reverse ObjectId) → List ObjectId
losers_of heap = map (λ r. r.0) heap

-- the least is on top
abbrev pub IsLeastFirst : List (Reverse ObjectId) → Type 0
IsLeastFirst = IsHeap (λ x y. nat_cmp y.0.0 x.0.0)
