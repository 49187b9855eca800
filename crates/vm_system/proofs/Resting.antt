-- Where a system stands what is asked is on its way; and where nobody waits in vain, whoever waits once nothing is undelivered does so for frames.
use Rattle.vm_system.proofs.Common.{Event, Header, List, Outside, Prompt, State, SystemStands}
use Rattle.vm_quiet.proofs.Carried.{carried}
use Rattle.vm_shared.proofs.Answered.{nobody_waits}
use Rattle.vm_shared.proofs.Carried.{shared_are_carried}
use Rattle.vm_system.specs.Resting.{AllAreCarried, LeavesAtRest, WaitsForFrames}
use Rattle.vm_system.proofs.Sharing.{none_temporary}

all_carried : (header : Header) (outside : Outside) (s : State) → SystemStands header outside s → AllAreCarried header s.history.items
all_carried header outside s stands =
    let h = s.history.items in
    let lawful = stands.agrees.lawful in (
      carried header outside h lawful.causes stands.paid lawful.paid,
      shared_are_carried header outside h lawful.causes lawful.own_bytes lawful.paid stands.paid stands.served,
    )

waits_for_frames : (header : Header) (outside : Outside) (s : State) → SystemStands header outside s → Prompt header s.history.items
    → WaitsForFrames header s.history.items
waits_for_frames header outside s stands prompt = λ delivered.
    let lawful = stands.agrees.lawful in
    nobody_waits header outside s.history.items (none_temporary header stands.built.ranged) lawful.causes lawful.own_bytes lawful.paid stands.paid stands.served
    prompt delivered

-- behind a step, or behind several
pub left_at_rest : (header : Header) (outside : Outside) (old : List Event) (new : State) → SystemStands header outside new
    → (Prompt header old → Prompt header new.history.items) → LeavesAtRest header old new.history.items
left_at_rest header outside old new stands prompt = record {
  carried = all_carried header outside new stands;
  prompt = prompt;
  waits = λ before. waits_for_frames header outside new stands (prompt before);
}
