-- Memory is one, however a run ended.
use Rattle.std.proofs.Common.{List, Option, ℕ}
use Rattle.vm_model.specs.declared.event.Event.{Event}
use Rattle.vm_model.specs.declared.script.Script.{Script}
use Rattle.vm_legal.specs.Outside.{Outside}
use Rattle.vm_order.specs.OneMemory.{IsOneMemory}
use Rattle.vm_order.proofs.Ordered.{memory_is_one}
use Rattle.vm_top.specs.declared.top.Status.{Status}
use Rattle.vm_top.specs.declared.words.Report.{Report}
use Rattle.vm_top.specs.Ending.{EndsAs}
use Rattle.vm_top.proofs.Resting.{causes_of, ends_legal}

pub one_memory : (report : Report) (run : Script) (outside : Outside) (h : List Event) (before after : Option (List ℕ)) (s : Status)
    → EndsAs report run outside h before after s → IsOneMemory run.header outside h
one_memory report run outside h before after s ends =
    let legal = ends_legal report run outside h before after s ends in
    memory_is_one run.header outside h (causes_of run outside h legal) legal.holds.own_bytes legal.holds.flat_bytes
