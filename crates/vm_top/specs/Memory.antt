-- Memory is one, for the part of a script that was run.
use Rattle.std.specs.Prelude.{IfSome, List, Option}
use Rattle.vm_model.specs.declared.event.Event.{Event}
use Rattle.vm_model.specs.declared.script.Header.{Header}
use Rattle.vm_model.specs.declared.script.Script.{Script}
use Rattle.vm_legal.specs.Outside.{Outside}
use Rattle.vm_order.specs.OneMemory.{IsOneMemory}

-- where there is a script, with what is told of its outside
abbrev pub MemoryIsOne : (Header → Outside) → Option Script → List Event → Type 0
MemoryIsOne outside script history = IfSome script (λ run. IsOneMemory run.header (outside run.header) history)
