-- What other hosts do leaves what a kernel stands for.
use Rattle.std.specs.Prelude.{◌≡◌, ◌+◌, ◌≤◌, false, List}
use Rattle.vm_base.specs.Limits.{most_objects}
use Rattle.vm_model.specs.declared.event.Event.{Event}
use Rattle.vm_model.specs.declared.event.Event.TheVariants as event
use Rattle.vm_model.specs.declared.message.Channel.TheVariants.{Up, Down}
use Rattle.vm_model.specs.declared.script.Header.{Header}
use Rattle.vm_model.specs.Regions.{next_object, next_region}
use Rattle.vm_legal.specs.Homes.{gives_frame}
use Rattle.vm_abroad.specs.Home.{HaveHomes}
use Rattle.vm_shadow.specs.declared.ids.Ids.{Ids}
use Rattle.vm_kernel.specs.Matches.{IsReplied, IsSettled}
use Rattle.vm_state.specs.Counts.{marks_of}

-- what the kernels of all hosts say alike: the next numbers, how many regions are marked, that no more can be than objects are left for, and what waits for no
-- event any more
pub record IsCommon (header : Header) (ids : Ids) (past : List Event) : Type 0 where
  pub region : ids.next_region ≡ next_region header past
  pub object : ids.next_object ≡ next_object header past
  pub marks : ids.marks ≡ marks_of header past
  pub few : next_object header past + marks_of header past ≤ most_objects
  pub settled : IsSettled past
  pub replied : IsReplied header past
  pub homes : HaveHomes header past

-- an event of no host: a line, a refusal, what a pager says or its device does, and the taking of a message that gives no frame back
abbrev pub IsNobodys : Event → Type 0
IsNobodys (event.Line line) = Unit {0}
IsNobodys (event.Refused code) = Unit {0}
IsNobodys (event.Sent (Down host object control) m) = Unit {0}
IsNobodys (event.Taken (Up host object) m) = gives_frame m ≡ false
IsNobodys (event.DeviceFailed who way object page) = Unit {0}
IsNobodys (event.NoSlot object page) = Unit {0}
IsNobodys other = ⊥
