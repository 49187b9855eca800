-- What the chains of a host name has numbers below those that come next.
use Rattle.vm_shadow.specs.Chains.{ChainTable, ObjectsBelow, RegionsBelow}
use Rattle.vm_shadow.specs.declared.ids.Ids.{Ids}

pub record AreNumbered (ids : Ids) (table : ChainTable) : Type 0 where
  pub regions : RegionsBelow ids.next_region table
  pub objects : ObjectsBelow ids.next_object table
