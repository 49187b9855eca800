-- What the own pager of an object ends on a host: the control, with its pages, and those who wait for it.
use Rattle.std.specs.Prelude.{ℕ, ◌≡◌, ◌==◌, ◌&&◌, List, [], ◌∷◌, Bool, true, false, Option, Some, None, if◌then◌else◌}
use Rattle.vm_model.specs.declared.event.Event.{Event}
use Rattle.vm_model.specs.declared.event.Event.TheVariants as event
use Rattle.vm_model.specs.declared.message.Channel.TheVariants.{Down}
use Rattle.vm_model.specs.declared.message.Message.TheVariants as message
use Rattle.vm_model.specs.declared.script.Header.{Header}
use Rattle.vm_model.specs.Controls.{is_control, live_control}
use Rattle.vm_model.specs.Waiting.{Access}
use Rattle.vm_legal.specs.Accesses.{Waits, page_of}
use Rattle.vm_legal.specs.Outside.{is_wild}
use Rattle.vm_legal.specs.Steps.{before_step, drops_page, ends_control, fails_of, since}
use Rattle.vm_legal.specs.Walks.{page_on}

-- an object on a host
pub record HostObject : Type 0 where
  pub host : ℕ
  pub object : ℕ

-- the object whose live control the step's message ends
abbrev pub destroy_taken : List Event → Option HostObject
destroy_taken [] = None
destroy_taken (event.Line line ∷ past) = None
destroy_taken (event.Taken (Down host object control) (message.Destroy reason) ∷ past) =
    if is_control control (live_control host.0 object.0 past) then Some (record { host = host.0; object = object.0 }) else None
destroy_taken (event.Taken channel other ∷ past) = None
destroy_taken (e ∷ past) = destroy_taken past

abbrev pub is_destroyed : ℕ → ℕ → Option HostObject → Bool
is_destroyed h o None = false
is_destroyed h o (Some it) = it.host == h && it.object == o

-- the step took the end of an object whose pager is the script
pub record IsDestroyed (header : Header) (host object : ℕ) (past : List Event) : Type 0 where
  pub wild : is_wild header object ≡ true
  pub taken : destroy_taken past ≡ Some (record { host = host; object = object })

-- an access on a wild object ends where no control of the object lives: its pager has ended it
pub record FailsUnserved (header : Header) (task object page : ℕ) (past : List Event) : Type 0 where
  pub access : Access
  pub waits : Waits header task access past
  pub region_is : waits.at.entry.region.0 ≡ object
  pub wild : is_wild header object ≡ true
  pub none : live_control waits.at.host object past ≡ None
  pub page_is : page ≡ page_of header task access past waits.at.entry

-- the end is done: each page that was here has been dropped since, the control has ended, and each access that waited on the object's region has failed
pub record HasDestroyed (header : Header) (host object : ℕ) (past : List Event) : Type 0 where
  pub pages : (page : ℕ) → (page_on header host object page (before_step past)).here ≡ true → since (drops_page host object page) past ≡ true
  pub ended : since (ends_control host object) past ≡ true
  pub failed : (task : ℕ) (access : Access) (waits : Waits header task access (before_step past)) → waits.at.host ≡ host → waits.at.entry.region.0 ≡ object
      → since (fails_of task object) past ≡ true
