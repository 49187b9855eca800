-- Nobody sleeps beside its page when a step has ended: the kernels of all hosts see to it, since the pagers of temporary memory give only what was returned.
use Rattle.vm_system.proofs.Common.{Event, Header, List, Outside}
use Rattle.vm_hosts.proofs.Tables.{kernel_of}
use Rattle.vm_hosts.specs.Hosts.{AllQueued, AllRest, HostTable}
use Rattle.vm_kernel.proofs.steps.WhoSleeps.{none_sleeps}
use Rattle.vm_legal.specs.InTurn.{NoneSleeps}
use Rattle.vm_legal.specs.Licences.{HasCause}
use Rattle.vm_model.specs.Moments.{EachEvent}
use Rattle.vm_returned.proofs.Returned.{only_returned}

pub awake_of : (header : Header) (outside : Outside) (hosts : HostTable) (history : List Event) → AllRest header hosts history → AllQueued header hosts history
    → EachEvent (HasCause header outside) history → NoneSleeps header history
awake_of header outside hosts history rests queues causes host known =
    let k = kernel_of header hosts history rests host known in
    none_sleeps header host k.0 hosts.ids history (rests.rests host k.0 k.1) (queues host k.0 k.1) (only_returned header outside host history causes)
