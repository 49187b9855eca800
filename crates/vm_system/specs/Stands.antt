-- A system stands for its history, and the paging areas and the files have what was returned.
use Rattle.std.specs.Prelude.{ℕ, ◌≡◌, true, List, [], length, reverse, Some, slice_get}
use Rattle.vm_model.specs.declared.script.Header.{Header}
use Rattle.vm_model.specs.declared.event.Event.{Event}
use Rattle.vm_model.specs.Named.{named}
use Rattle.vm_legal.specs.Debts.{IsPaid}
use Rattle.vm_legal.specs.Outside.{Outside, is_file}
use Rattle.vm_legal.specs.InTurn.{AllRecalled}
use Rattle.vm_legal.specs.Prompt.{AllServed}
use Rattle.vm_kernel.specs.Matches.{IsRanged}
use Rattle.pg_file.specs.Files.{FileTable}
use Rattle.pg_file.specs.Stands.{PagerStands as FileStands, name_of}
use Rattle.sms_server.specs.Stands.{ServerStands}
use Rattle.vm_system.specs.Keeping.{FilesAreTold, FilesCarry}
use Rattle.vm_system.specs.Lawful.{Lawful}
use Rattle.vm_outside.specs.Areas.{Told}
use Rattle.pg_slots.specs.Contents.{IsAreaTold, SlotsFit}
use Rattle.pg_slots.specs.Slots.{SlotTable}
use Rattle.pg_default.specs.Stands.{PagerStands, content_of}
use Rattle.vm_hosts.specs.Hosts.{AllQueued, AllRest}
use Rattle.vm_system.specs.Orderly.{IsOrderly}
use Rattle.vm_system.specs.Posts.{Posts}
use Rattle.vm_system.specs.declared.state.State.{State}

-- a pager for each host of the header
pub record AreNumbered (header : Header) (pagers : List SlotTable) : Type 0 where
  pub count : length pagers ≡ length header.frames.items
  pub hosts : (h : ℕ) (pager : SlotTable) → slice_get pagers h ≡ Some pager → pager.host ≡ h

-- nothing was returned to them yet
abbrev pub AreEmpty : Header → List SlotTable → Type 0
AreEmpty header pagers =
    (h : ℕ) (pager : SlotTable) → slice_get pagers h ≡ Some pager → pager ≡ record { host = h; size = header.size; count = header.slots; rows = [] }

-- they stand for the history
pub record AllServe (header : Header) (pagers : List SlotTable) (past : List Event) : Type 0 where
  pub numbered : AreNumbered header pagers
  pub stand : (h : ℕ) (pager : SlotTable) → slice_get pagers h ≡ Some pager → PagerStands header h pager past

-- a pager for each declared object; those of files stand for the history
pub record AllFilesServe (header : Header) (pagers : List FileTable) (past : List Event) : Type 0 where
  pub count : length pagers ≡ named header
  pub stand : (object : ℕ) (pager : FileTable) → is_file header object ≡ true → slice_get pagers object ≡ Some pager → FileStands header object pager past

-- the names of the declared files, each once
abbrev pub AreNamedApart : Header → Type 0
AreNamedApart header = (one other : ℕ) → is_file header one ≡ true → is_file header other ≡ true → name_of header one ≡ name_of header other → one ≡ other

-- a header that a system can run: its numbers are in their ranges, and each declared file has a name of its own
pub record IsServable (header : Header) : Type 0 where
  pub ranged : IsRanged header
  pub names : AreNamedApart header

-- their areas are told
abbrev pub AllTold : (List ℕ → Told) → List SlotTable → Type 0
AllTold areas pagers = (h : ℕ) (pager : SlotTable) → slice_get pagers h ≡ Some pager → IsAreaTold areas pager

-- pagers, server, ports and letters are those of the history, which is lawful so far, also inside a step
pub record Agrees (header : Header) (outside : Outside) (s : State) : Type 0 where
  pub size : s.size ≡ header.size
  pub declared : s.declared.items ≡ reverse header.objects.items
  pub pagers : AllServe header s.pagers.items s.history.items
  pub files : AllFilesServe header s.files.items s.history.items
  pub server : ServerStands header s.server s.history.items
  pub posts : Posts s s.history.items
  pub orderly : IsOrderly header s.history.items
  pub lawful : Lawful header outside s.history.items

-- and so are the kernels, at a step's end, which owes nothing, and where the server keeps nobody waiting in vain; the log is empty
pub record SystemStands (header : Header) (outside : Outside) (s : State) : Type 0 where
  pub built : IsServable header
  pub rests : AllRest header s.hosts s.history.items
  pub queues : AllQueued header s.hosts s.history.items
  pub agrees : Agrees header outside s
  pub paid : IsPaid header s.history.items
  pub served : AllServed header s.history.items
  pub recalled : AllRecalled header s.history.items
  pub log : s.log.items ≡ []

-- nothing was done: the system stands for the history that it had
abbrev pub StandsStill : Header → Outside → State → State → Type 0
StandsStill header outside old new = SystemStands header outside new × (new.history.items ≡ old.history.items)

-- The pagers stand for the history; and where the paging areas tell, each page that was returned and not lost stands at its slot. This holds
-- inside a step too.
pub record PagingIsKept (header : Header) (outside : Outside) (areas : List ℕ → Told) (s : State) : Type 0 where
  pub pagers : AllServe header s.pagers.items s.history.items
  pub told : outside.paging ≡ true → AllTold areas s.pagers.items
  pub fits : outside.paging ≡ true → (h : ℕ) (pager : SlotTable) → slice_get s.pagers.items h ≡ Some pager
      → SlotsFit areas pager (content_of header h s.history.items)

-- The files' pagers stand for the history; and from what the files held at the start, which is what is told of them, they have what was returned. This holds
-- inside a step too.
pub record FilesAreKept (header : Header) (outside : Outside) (areas : List ℕ → Told) (s : State) : Type 0 where
  pub files : AllFilesServe header s.files.items s.history.items
  pub start : List ℕ → Told
  pub told : FilesAreTold header outside start
  pub kept : FilesCarry header start areas s.history.items
