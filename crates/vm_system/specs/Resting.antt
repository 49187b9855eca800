-- What a step leaves to be waited for, where it has ended.
use Rattle.std.specs.Prelude.{◌≡◌, List, []}
use Rattle.vm_model.specs.declared.event.Event.{Event}
use Rattle.vm_model.specs.declared.script.Header.{Header}
use Rattle.vm_legal.specs.Prompt.{Prompt}
use Rattle.vm_legal.specs.Undelivered.{undelivered}
use Rattle.vm_quiet.specs.Carried.{IsCarried}
use Rattle.vm_quiet.specs.Quiet.{NobodyWaitsInVain}
use Rattle.vm_shared.specs.Carried.{SharedAreCarried}

-- whoever is asked has a message on its way, or it is the server of shared memory, and somebody else has for its page
abbrev pub AllAreCarried : Header → List Event → Type 0
AllAreCarried header history = IsCarried header history × SharedAreCarried header history

-- once nothing is undelivered whoever waits does so on a wild object's region, or since its host is short of frames
abbrev pub WaitsForFrames : Header → List Event → Type 0
WaitsForFrames header history = undelivered history ≡ [] → NobodyWaitsInVain header history

-- whoever is asked has a message on its way; and where nobody waited in vain in front of the step, nobody does behind it, and once nothing is
-- undelivered whoever waits does so for frames, or for a wild object's pager
pub record LeavesAtRest (header : Header) (old new : List Event) : Type 0 where
  pub carried : AllAreCarried header new
  pub prompt : Prompt header old → Prompt header new
  pub waits : Prompt header old → WaitsForFrames header new
