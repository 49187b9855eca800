-- What a fault may change of a kernel, and a kernel with that changed.
use Rattle.vm_kernel.proofs.Common.{ChainTable, Event, Header, Ids, List, Parts, WaitTable, Works, subst, sym, ◌++◌, ◌≡◌, ℕ}
use Rattle.vm_copies.specs.Copies.{CopyTable}
use Rattle.vm_fault.specs.Faults.{FaultState}
use Rattle.vm_supply.specs.declared.woken.Woken.TheVariants as woken

abbrev pub state_of : Parts → Ids → List Event → FaultState
state_of k ids events = record { parts = k.memory; chains = k.chains; copies = k.copies; ids = ids; events = events }

abbrev pub with_state : Parts → FaultState → Parts
with_state k s = record k { memory = s.parts; chains = s.chains; copies = s.copies }

-- the chains, the copy objects, the numbers and the events are those of the state
pub at_state : (header : Header) (h : ℕ) (past : List Event) (k : Parts) (mid : FaultState) (chains : ChainTable) (copies : CopyTable) (ids : Ids)
    (events : List Event) (waits : WaitTable) → mid.chains ≡ chains → mid.copies ≡ copies → mid.ids ≡ ids → mid.events ≡ events
    → Works header h (record k { memory = mid.parts; chains = chains; copies = copies; waits = waits }) ids woken.Nobody (events ++ past)
    → Works header h (record (with_state k mid) { waits = waits }) mid.ids woken.Nobody (mid.events ++ past)
at_state header h past k mid chains copies ids events waits same_chains same_copies same_ids told works =
    subst (λ (z : List Event). Works header h (record (with_state k mid) { waits = waits }) mid.ids woken.Nobody (z ++ past)) (sym told)
    (subst (λ (z : Ids). Works header h (record (with_state k mid) { waits = waits }) z woken.Nobody (events ++ past)) (sym same_ids)
    (subst (λ (z : CopyTable). Works header h (record k { memory = mid.parts; chains = mid.chains; copies = z; waits = waits }) ids woken.Nobody
    (events ++ past)) (sym same_copies)
    (subst (λ (z : ChainTable). Works header h (record k { memory = mid.parts; chains = z; copies = copies; waits = waits }) ids woken.Nobody (events ++ past))
    (sym same_chains) works)))
