-- The history has nothing under an object that isn't made yet.
use Rattle.std.proofs.Common.{◌≡◌, false, List, arith}
use Rattle.vm_abroad.specs.Home.{HaveHomes}
use Rattle.vm_model.specs.declared.event.Event.{Event}
use Rattle.vm_model.specs.declared.script.Header.{Header}
use Rattle.vm_model.specs.Regions.{backing_of, next_object}

pub next_bare : (header : Header) (past : List Event) → HaveHomes header past → (backing_of header (next_object header past) past).backed ≡ false
next_bare header past homes = homes.unmade (next_object header past) (omega arith)
