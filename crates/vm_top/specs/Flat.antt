-- What the files hold once all is taken.
use Rattle.std.specs.Prelude.{IfSome, List, Option, ℕ}
use Rattle.vm_model.specs.declared.event.Event.{Event}
use Rattle.vm_model.specs.declared.script.Header.{Header}
use Rattle.vm_model.specs.declared.script.Script.{Script}
use Rattle.vm_legal.specs.Outside.{Outside}
use Rattle.vm_outside.specs.Areas.{Told}
use Rattle.vm_system.specs.Flat.{FilesAreFlat}

-- once nothing is undelivered and no call of the files has failed, a file that no control uses has the flat map's bytes; and past its object's
-- end nothing is touched
abbrev pub FilesFlatAt : (Header → Outside) → (List ℕ → Told) → (List ℕ → Told) → Option Script → List Event → Type 0
FilesFlatAt outside before after script history = IfSome script (λ run. FilesAreFlat run.header (outside run.header) before after history)
