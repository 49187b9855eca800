-- Whether declared objects stay on a host without an entry: what their pagers say of that is done.
use Rattle.std.specs.Prelude.{ℕ, ◌≡◌, ◌≢◌, ◌<◌, ◌⊎◌, ◌++◌, Bool, true, List, [], Some, None}
use Rattle.vm_base.specs.declared.ids.ObjectId.{ObjectId}
use Rattle.vm_legal.specs.Cached.{is_cached}
use Rattle.vm_legal.specs.Outside.{Outside}
use Rattle.vm_legal.specs.Steps.{error_taken}
use Rattle.vm_legal.specs.Stretches.{EachOf}
use Rattle.vm_model.specs.Named.{named}
use Rattle.vm_model.specs.declared.command.Command.{Command}
use Rattle.vm_model.specs.declared.event.Event.{Event}
use Rattle.vm_model.specs.declared.script.Header.{Header}
use Rattle.vm_objects.specs.Objects.{object_at}
use Rattle.vm_objects.specs.declared.row.ObjectRow.{ObjectRow}
use Rattle.vm_shadow.specs.declared.ids.Ids.{Ids}
use Rattle.vm_supply.specs.declared.woken.Woken.{Woken}
use Rattle.vm_supply.specs.declared.woken.Woken.TheVariants as woken
use Rattle.vm_kernel.specs.Begun.{LegalEvents}
use Rattle.vm_kernel.specs.Matches.{Works, WorksBut}
use Rattle.vm_kernel.specs.Plays.{Plays, paging}
use Rattle.vm_kernel.specs.Taking.{IsAbsencePaid, IsChangePaid, IsLockPaid}
use Rattle.vm_kernel.specs.Turns.{RunsNone}
use Rattle.vm_kernel.specs.declared.parts.Parts.{Parts}

-- what is given to the call that sets a flag: whom the word has woken
pub record Keeping : Type 0 where
  pub header : Header
  pub host : ℕ
  pub outside : Outside
  pub past : List Event
  pub command : Command
  pub who : Woken

-- The kernel stands for the history but for the flag of one object whose control lives, which is still another. Nobody is to fail.
pub record IsToKeep (header : Header) (h : ℕ) (k : Parts) (ids : Ids) (who : Woken) (object : ObjectId) (cache : Bool) (past : List Event) : Type 0 where
  pub flags : ℕ → Bool
  pub works : WorksBut header h k ids who flags past
  pub known : ObjectRow
  pub found : object_at k.memory.objects object.0 ≡ Some known
  pub live : known.live ≡ true
  pub others : (o : ℕ) → object.0 ≢ o → flags o ≡ is_cached h o past
  pub said : object.0 < named header → is_cached h object.0 past ≡ cache

-- a pager's word of whether its object stays is done: no access is run by that, and it fails nobody
pub record SaysStay (header : Header) (h : ℕ) (outside : Outside) (doing : Command) (object : ObjectId) (who : Woken) (old new : Parts) (ids : Ids)
    (past events : List Event) : Type 0 where
  pub wakes : (who ≡ woken.Nobody) ⊎ (who ≡ woken.ReadyOf object)
  pub works : Works header h new ids who (events ++ past)
  pub waits : new.waits ≡ old.waits
  pub goes : LegalEvents header h outside doing past [] events
  pub quiet : EachOf RunsNone events
  pub unfailed : error_taken header (events ++ past) ≡ None
  pub zeroed : IsAbsencePaid header (events ++ past)
  pub locked : IsLockPaid header (events ++ past)
  pub changed : IsChangePaid (events ++ past)
  pub plays : Plays header past [] (paging old) events (paging new)
