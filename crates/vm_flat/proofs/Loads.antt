-- What holds of every history whose events have their causes.
use Rattle.std.specs.Prelude.{List}
use Rattle.vm_model.specs.declared.event.Event.{Event}
use Rattle.vm_model.specs.declared.script.Header.{Header}
use Rattle.vm_model.specs.Moments.{EachEvent}
use Rattle.vm_legal.specs.Bytes.{OwnBytes, CopiesCurrent, FlatBytes, LoadsCurrent}
use Rattle.vm_legal.specs.Licences.{HasCause}
use Rattle.vm_legal.specs.Outside.{Outside}
use Rattle.vm_flat.proofs.Law.{law}
use Rattle.vm_flat.proofs.Translation.{sustained}

pub answers : (header : Header) (outside : Outside) (history : List Event) → EachEvent (HasCause header outside) history → EachEvent (OwnBytes header) history
    → EachEvent (CopiesCurrent header outside) history → EachEvent (LoadsCurrent header outside) history → EachEvent (FlatBytes header outside) history
answers header outside history caused own current loads = law header outside history (sustained header outside history caused) own current loads
