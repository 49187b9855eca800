-- An event of one host is no other's.
use Rattle.std.specs.Prelude.{ℕ, ◌≡◌, false, List, None}
use Rattle.vm_model.specs.declared.event.Event.{Event}
use Rattle.vm_model.specs.declared.event.Event.TheVariants as event
use Rattle.vm_model.specs.declared.script.Header.{Header}
use Rattle.vm_model.specs.Tasks.{host_of}
use Rattle.vm_legal.specs.Homes.{EntersNext, IsOnlyOfHost, is_open}
use Rattle.vm_legal.specs.Licences.{HasCause}
use Rattle.vm_legal.specs.Outside.{Outside}

-- a task that begins doesn't live yet
abbrev pub IsNewTask : Event → List Event → Type 0
IsNewTask (event.TaskMade task host) past = host_of task.0 past ≡ None
IsNewTask other past = Unit {0}

-- an event of a host, or nobody's
pub record IsOfHost (header : Header) (outside : Outside) (g : ℕ) (e : Event) (past : List Event) : Type 0 where
  pub cause : HasCause header outside e past
  pub enters : EntersNext e past
  pub own : IsOnlyOfHost header g e past

-- no region waits for its entry
abbrev pub IsShut : List Event → Type 0
IsShut past = (region : ℕ) → is_open region past ≡ false
