-- What a fault may change, from its parts.
use Rattle.std.proofs.Common.{List}
use Rattle.vm_copies.specs.Copies.{CopyTable}
use Rattle.vm_fault.specs.Faults.{FaultState}
use Rattle.vm_model.specs.declared.event.Event.{Event}
use Rattle.vm_parts.specs.declared.parts.HostParts.{HostParts}
use Rattle.vm_shadow.specs.Chains.{ChainTable}
use Rattle.vm_shadow.specs.declared.ids.Ids.{Ids}

abbrev pub state_of : HostParts → ChainTable → CopyTable → Ids → List Event → FaultState
state_of parts chains copies ids events = record { parts = parts; chains = chains; copies = copies; ids = ids; events = events }
