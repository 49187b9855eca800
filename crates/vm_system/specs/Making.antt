-- What the step of a command leaves.
use Rattle.std.specs.Prelude.{ℕ, ◌≡◌, List}
use Rattle.vm_model.specs.declared.command.Numbered.{Numbered}
use Rattle.vm_model.specs.declared.event.Device.TheVariants.{Files, Paging}
use Rattle.vm_model.specs.declared.script.Header.{Header}
use Rattle.vm_model.specs.Moments.{before_last_line}
use Rattle.vm_legal.specs.Outside.{Outside}
use Rattle.vm_legal.specs.Prompt.{Prompt}
use Rattle.vm_outside.specs.Areas.{Told}
use Rattle.vm_system.specs.Keeping.{FilesCarry}
use Rattle.vm_system.specs.Stands.{FilesAreKept, PagingIsKept, SystemStands}
use Rattle.vm_system.specs.Steps.{GrowsWithinLimit, KeepsCanonical, devices}
use Rattle.vm_system.specs.declared.state.State.{State}

-- the system stands for the history, which is longer by the step, and legal with one command more; and nobody waits in vain where nobody did
pub record Makes (header : Header) (outside : Outside) (numbered : Numbered) (old new : State) : Type 0 where
  pub stands : SystemStands header outside new
  pub legal : KeepsCanonical header outside numbered old.history.items new.history.items
  pub prompt : Prompt header old.history.items → Prompt header new.history.items
  pub grew : GrowsWithinLimit old.history.items new.history.items
  pub front : before_last_line new.history.items ≡ old.history.items

-- no default pager has a part in it: what was returned to them is kept, and no failure of the paging area is told
pub record SparesPaging (header : Header) (outside : Outside) (old new : State) : Type 0 where
  pub kept : (areas : List ℕ → Told) → PagingIsKept header outside areas old → PagingIsKept header outside areas new
  pub devices : devices Paging new.history.items ≡ devices Paging old.history.items

-- no file's pager has a part in it: what was returned to them is kept, and no failure of the files is told
pub record SparesFiles (header : Header) (outside : Outside) (old new : State) : Type 0 where
  pub kept : (areas : List ℕ → Told) → FilesAreKept header outside areas old → FilesAreKept header outside areas new
  pub carried : (start areas : List ℕ → Told) → FilesCarry header start areas old.history.items → FilesCarry header start areas new.history.items
  pub devices : devices Files new.history.items ≡ devices Files old.history.items

-- no pager has a part in it
pub record Spares (header : Header) (outside : Outside) (old new : State) : Type 0 where
  pub paging : SparesPaging header outside old new
  pub files : SparesFiles header outside old new
