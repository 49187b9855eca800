-- What is true where the last step of a run has ended.
use Rattle.std.specs.Prelude.{IfSome, List, Option}
use Rattle.vm_model.specs.declared.event.Event.{Event}
use Rattle.vm_model.specs.declared.script.Script.{Script}
use Rattle.vm_system.specs.Resting.{AllAreCarried, WaitsForFrames}

-- once nothing is undelivered no access of the run waits while frames are reclaimable: whoever waits does so on a wild object's region, or since
-- its host is short of frames
abbrev pub WaitsForFramesAlone : Option Script → List Event → Type 0
WaitsForFramesAlone script history = IfSome script (λ run. WaitsForFrames run.header history)

-- whoever is asked in the run has a message on its way, or it is the server of shared memory, and somebody else has for its page
abbrev pub CarriesAll : Option Script → List Event → Type 0
CarriesAll script history = IfSome script (λ run. AllAreCarried run.header history)
