use Rattle.std.proofs.Common.{◌≡◌, false}
use Rattle.vm_fault.specs.Faults.{CanFault, FaultState, Runs}
use Rattle.vm_fault.specs.Rooms.{HasRoom, TakesRoom, pages_left}
use Rattle.vm_fault.specs.declared.step.FaultStep.{FaultStep}
use Rattle.vm_fault.proofs.States.{state_of}
use Rattle.vm_frames.specs.Frames.{free}
use Rattle.vm_waits.specs.declared.waiting.Want.{Want}
use Rattle.vm_fault.proofs.faults.fault.Given as goal

abbrev pub invariant-pages : goal.invariant-pages
invariant-pages l = record {
  can : CanFault l.maps (state_of l.parts l.chains l.copies l.ids l.log.items) l.task.0 l.want;
  runs : (answer : FaultStep) (last : Want) (end : FaultState)
      → Runs l.maps l.host l.task l.may_claim answer l.want last (state_of l.parts l.chains l.copies l.ids l.log.items) end
      → Runs l.maps l.host l.task l.may_claim answer l.fn.want last (state_of l.fn.parts l.fn.chains l.fn.copies l.fn.ids l.fn.log.items) end;
  still : l.may_claim ≡ false → free l.parts.frames ≡ free l.fn.parts.frames;
  takes : TakesRoom (state_of l.fn.parts l.fn.chains l.fn.copies l.fn.ids l.fn.log.items)
      (state_of l.parts l.chains l.copies l.ids l.log.items) l.fn.log.room l.log.room;
  room : HasRoom l.fn.want l.fn.parts l.fn.chains l.fn.log.room → HasRoom l.want l.parts l.chains l.log.room;
}

abbrev pub decreases-pages : goal.decreases-pages
decreases-pages l = pages_left l.want
