-- A load or a store is no slow copy, and is run once.
use Rattle.vm_kernel.proofs.Common.{Bool, HostId, IsOfNumber, Mapped, TaskId, Want, false, true, ◌≡◌}
use Rattle.vm_fault.specs.Faults.{FaultState, Faulted, GoesOn, Runs, Stops, has_more}
use Rattle.vm_fault.specs.Walks.{is_copying}
use Rattle.vm_fault.specs.declared.step.FaultStep.{FaultStep}
use Rattle.vm_waits.specs.declared.waiting.Want.TheVariants as want

pub no_copy : (what : Want) → IsOfNumber what → is_copying what ≡ true → ⊥
no_copy (want.Load address size) number copying = let bad : false ≡ true = copying in cc
no_copy (want.Store address size value) number copying = let bad : false ≡ true = copying in cc
no_copy (want.CopyTo address pages target next) number copying = number

no_more : (what : Want) → IsOfNumber what → has_more what ≡ true → ⊥
no_more (want.Load address size) number more = let bad : false ≡ true = more in cc
no_more (want.Store address size value) number more = let bad : false ≡ true = more in cc
no_more (want.CopyTo address pages target next) number more = number

pub stops_once : {maps : Mapped} {host : HostId} {task : TaskId} {may : Bool} {answer : FaultStep} {what last : Want} {old new : FaultState} → IsOfNumber what
    → Runs maps host task may answer what last old new → Faulted maps host task what may answer old new
stops_once number (Stops what old new faulted over) = faulted
stops_once number (GoesOn what last value old mid new faulted more rest) = absurd (no_more what number more)
