-- When a file's pager stands for a history, and what that history says of its file.
use Rattle.std.specs.Prelude.{ℕ, ◌≡◌, ◌≢◌, ◌≤◌, ◌*◌, true, false, List, [], ◌∷◌, drop, length, Option, Some, None, unwrap_or}
use Rattle.pg_answers.specs.Answers.{ReturnsWhole}
use Rattle.vm_model.specs.declared.event.Event.{Event}
use Rattle.vm_model.specs.declared.event.Event.TheVariants as event
use Rattle.vm_model.specs.declared.message.Channel.TheVariants.{Up}
use Rattle.vm_model.specs.declared.message.Message.{Message}
use Rattle.vm_model.specs.declared.script.Declared.{Declared}
use Rattle.vm_model.specs.declared.script.Header.{Header}
use Rattle.vm_model.specs.Named.{declared}
use Rattle.vm_legal.specs.Licences.{up}
use Rattle.vm_legal.specs.Outside.{Outside, Told as FilesTold, is_file}
use Rattle.vm_legal.specs.Pagers.{is_lost, known_control, last_return, newer}
use Rattle.vm_outside.specs.Areas.{Told, read_at}
use Rattle.pg_file.specs.declared.pager.KnownControl.{KnownControl}
use Rattle.pg_file.specs.Answers.{FileAnswer, TellsPage}
use Rattle.pg_file.specs.Files.{FileTable, has_lost}

abbrev pub name_kept : Option Declared → List ℕ
name_kept None = []
name_kept (Some object) = object.name

-- the name of a declared object
abbrev pub name_of : Header → ℕ → List ℕ
name_of header object = name_kept (declared header object)

-- the control that the pager knows is the one that the history says; where it knows none, none is known on any host
abbrev pub IsKnownAs : ℕ → Option KnownControl → List Event → Type 0
IsKnownAs object None past = (host : ℕ) → known_control host object past ≡ None
IsKnownAs object (Some known) past = known_control known.host.0 object past ≡ Some known.control

-- the pager of a declared file stands for a history
pub record PagerStands (header : Header) (object : ℕ) (table : FileTable) (past : List Event) : Type 0 where
  pub file : is_file header object ≡ true
  pub object_is : table.object ≡ object
  pub name_is : table.name ≡ name_of header object
  pub size_is : table.size ≡ header.size
  pub known_is : IsKnownAs object table.known past
  pub lost_is : (p : ℕ) → has_lost table p ≡ is_lost object p past

-- a pager of a file to which nothing came yet
abbrev pub new_table : Header → ℕ → FileTable
new_table header object = record { object = object; name = name_of header object; size = header.size; known = None; lost = [] }

-- the history in which the pager of an object just took a message from a host
abbrev pub taking : ℕ → ℕ → Message → List Event → List Event
taking host object m past = event.Taken (up host object) m ∷ past

-- a pager that stands for a history answers a message from the one host that has a control of its file
pub record PagerServes (header : Header) (host : ℕ) (past : List Event) (object : ℕ) (m : Message) (old new : FileTable) (events : List Event) : Type 0 where
  pub own : (other : ℕ) → other ≢ host → known_control other object past ≡ None
  pub whole : ReturnsWhole old.size m
  pub stands : PagerStands header object old past
  pub answered : FileAnswer m host old new events

-- What a file holds, from what it held at the start: each page that isn't lost, also past the object's end, has the bytes of
-- its last return, and else those of the start, with zeros past its end. No file gets shorter.
pub record FileKept (size host object : ℕ) (start now : Option (List ℕ)) (past : List Event) : Type 0 where
  pub page : (p : ℕ) → is_lost object p past ≡ false
      → Some (read_at (unwrap_or now []) (p * size) size) ≡ newer (last_return host object p past) (Some (read_at (unwrap_or start []) (p * size) size))
  pub least : length (unwrap_or start []) ≤ length (unwrap_or now [])
  -- no byte is touched, nor made, past the pages that were returned
  pub beyond : (n : ℕ) → ((p : ℕ) → n ≤ p → last_return host object p past ≡ None) → drop (n * size) (unwrap_or now []) ≡ drop (n * size) (unwrap_or start [])

-- what is told of the files at the start is what the object's file held
pub record IsStartTold (header : Header) (outside : Outside) (object : ℕ) (start : Option (List ℕ)) : Type 0 where
  pub pages : ℕ → ℕ → List ℕ
  pub told : outside.files ≡ FilesTold pages
  pub page : (p : ℕ) → pages object p ≡ read_at (unwrap_or start []) (p * header.size) header.size

-- an answer tells what the file has, which is what the history says
pub record AnswersKept (header : Header) (outside : Outside) (host object : ℕ) (past events : List Event) : Type 0 where
  pub start : Option (List ℕ)
  pub now : Option (List ℕ)
  pub told : IsStartTold header outside object start
  pub kept : FileKept header.size host object start now past
  pub tells : TellsPage header.size now events

-- a file that held what one history says holds what another says, and no other area is touched
pub record CarriesFile (size host object : ℕ) (name : List ℕ) (before after : List ℕ → Told) (past later : List Event) : Type 0 where
  pub kept : (start was : Option (List ℕ)) → before name ≡ Some was → FileKept size host object start was past
      → (now : Option (List ℕ)) × (after name ≡ Some now) × FileKept size host object start now later
  pub others : (other : List ℕ) (was : Option (List ℕ)) → other ≢ name → before other ≡ Some was → after other ≡ Some was

-- an event in which the pager of the object has no part
abbrev pub IsOther : ℕ → Event → Type 0
IsOther object (event.Taken (Up host about) m) = about.0 ≢ object
IsOther object (event.DeviceFailed who way about page) = about.0 ≢ object
IsOther object (event.NoSlot about page) = about.0 ≢ object
IsOther object other = Unit {0}
