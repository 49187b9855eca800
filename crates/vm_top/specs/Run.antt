-- What running a script gives.
use Rattle.std.specs.Prelude.{ℕ, zero, suc, ◌*◌, ◌≡◌, ◌≢◌, ◌⊎◌, ◌≤◌, ◌&&◌, ◌||◌, not, Bool, true, if◌then◌else◌, List, [], ◌∷◌, ◌++◌, length, Option, Some}
use Rattle.std.specs.Prelude.{None, is_some, unwrap_or}
use Rattle.std.specs.Io.KnownBytes.{Appends}
use Rattle.std.specs.List.{All}
use Rattle.vm_base.specs.Limits.{most_slots}
use Rattle.vm_model.specs.Limits.{most_events}
use Rattle.vm_model.specs.declared.event.Event.{Event}
use Rattle.vm_model.specs.declared.command.Command.{Command}
use Rattle.vm_model.specs.declared.command.Command.TheVariants as command
use Rattle.vm_model.specs.declared.command.Numbered.{Numbered}
use Rattle.vm_model.specs.declared.script.Declared.{Declared}
use Rattle.vm_model.specs.declared.script.Header.{Header}
use Rattle.vm_model.specs.declared.script.Script.{Script}
use Rattle.vm_model.specs.Moments.{before_last_line}
use Rattle.vm_model.specs.Ranges.{InRange}
use Rattle.vm_model.specs.Summary.{summary_text}
use Rattle.vm_model.specs.Text.{text}
use Rattle.vm_legal.specs.Legal.{Canonical, CanonicalFor, CanonicalSoFar, Legal}
use Rattle.vm_legal.specs.Outside.{FilesAtStart, Outside, Told as FilesTold, Untold, is_file_kind}
use Rattle.vm_legal.specs.Steps.{before_step}
use Rattle.vm_legal.specs.Undelivered.{undelivered}
use Rattle.vm_outside.specs.Areas.{Told, read_at}
use Rattle.pg_file.specs.Stands.{name_of}
use Rattle.pg_slots.specs.Contents.{area_name}
use Rattle.vm_system.specs.Stands.{IsServable}
use Rattle.vm_system.specs.Steps.{HasMore, CanonicalOpen}
use Rattle.vm_top.specs.Writing.{WroteStart, WroteBeyond}
use Rattle.vm_top.specs.declared.run.RunEnd.{RunEnd}
use Rattle.vm_top.specs.declared.run.RunEnd.TheVariants as end
use Rattle.vm_top.specs.declared.words.Report.{Report}
use Rattle.vm_top.specs.declared.words.Report.TheVariants.{History, Summary}

-- what a file holds, where that is told
abbrev pub told_of : Told → Option (List ℕ)
told_of None = None
told_of (Some was) = was

-- a file is told; of an object that is none nothing is asked
abbrev pub is_told : (List ℕ → Told) → Declared → Bool
is_told areas object = not (is_file_kind object.kind) || is_some (areas object.name)

-- each of these objects that is a file is told
abbrev pub are_told : (List ℕ → Told) → List Declared → Bool
are_told areas [] = true
are_told areas (object ∷ objects) = is_told areas object && are_told areas objects

-- what is told of the files at the start: the pages of each, with zeros past its end, where all are told
abbrev pub files_of : (List ℕ → Told) → Header → FilesAtStart
files_of areas header =
    if are_told areas header.objects.items
    then FilesTold (λ object page. read_at (unwrap_or (told_of (areas (name_of header object))) []) (page * header.size) header.size)
    else Untold

-- the paging areas of so many hosts are told
abbrev pub areas_told : (List ℕ → Told) → ℕ → Bool
areas_told areas zero = true
areas_told areas (suc host) = areas_told areas host && is_some (areas (area_name host))

-- what is told of the outside, of a script with this header
abbrev pub outside_of : (List ℕ → Told) → (List ℕ → Told) → Header → Outside
outside_of files paging header = record { files = files_of files header; paging = areas_told paging (length header.frames.items) }

-- a script whose header a system can run, and all of whose numbers are in their ranges
pub record IsRunnable (script : Script) : Type 0 where
  pub served : IsServable script.header
  pub slots : script.header.slots ≤ most_slots
  pub ranges : All (λ numbered. InRange script.header numbered.command) script.commands.items

-- the history is canonical for the commands that were run
pub record IsPart (script : Script) (outside : Outside) (later run : List Numbered) (history : List Event) : Type 0 where
  pub order : script.commands.items ≡ later ++ run
  pub legal : CanonicalFor script.header outside run history

-- the whole script was run: the history is legal, and the one that the rules give
pub record IsWholeRun (script : Script) (outside : Outside) (history : List Event) : Type 0 where
  pub legal : Legal script outside history
  pub canonical : Canonical script outside history

-- a command is left
pub record IsLeft (script : Script) (outside : Outside) (history : List Event) : Type 0 where
  pub later : List Numbered
  pub next : Numbered
  pub run : List Numbered
  pub part : IsPart script outside (later ++ next ∷ []) run history

-- a settle has more to take, and something is there to take
pub record SettlesOn (script : Script) (outside : Outside) (history : List Event) : Type 0 where
  pub later : List Numbered
  pub next : Numbered
  pub run : List Numbered
  pub order : script.commands.items ≡ later ++ next ∷ run
  pub legal : CanonicalOpen script.header outside (next ∷ run) history
  pub more : HasMore next.command history
  pub some : undelivered history ≢ []

-- a step is left, but none may begin
pub record IsOutOfEvents (script : Script) (outside : Outside) (history : List Event) : Type 0 where
  pub full : most_events ≤ length history
  pub left : IsLeft script outside history ⊎ SettlesOn script outside history

-- the events in front of the last step of a command: the taking of a `take` is one step with its line
abbrev pub front_of : Command → List Event → List Event
front_of (command.Settle count) history = before_step history
front_of other history = before_last_line history

-- a write failed: the history is canonical so far, the text of all steps but the last was written, and then a first part of the last step's
pub record FailedIn (script : Script) (outside : Outside) (history : List Event) (before after : Option (List ℕ)) : Type 0 where
  pub later : List Numbered
  pub next : Numbered
  pub run : List Numbered
  pub order : script.commands.items ≡ later ++ next ∷ run
  pub legal : CanonicalOpen script.header outside (next ∷ run) history
  pub written : WroteBeyond before after (text (front_of next.command history)) (text history)

-- what is written of a history while it grows
abbrev pub text_so_far : Report → List Event → List ℕ
text_so_far History history = text history
text_so_far Summary history = []

-- what is written of a whole history
abbrev pub report_text : Report → List Event → List ℕ
report_text History history = text history
report_text Summary history = summary_text history

-- how a run ends: the whole script ran; or a write failed, in the text of the last step; or memory ended; or the
-- history is full
abbrev pub RanAs : Report → Script → Outside → List Event → RunEnd → Option (List ℕ) → Option (List ℕ) → Type 0
RanAs report script outside history end.Done before after =
    IsWholeRun script outside history × Appends before after (text_so_far report history)
RanAs report script outside history end.Failed before after =
    (report ≡ History) × FailedIn script outside history before after
RanAs report script outside history end.NoMemory before after =
    CanonicalSoFar script outside history × WroteStart before after (text_so_far report history)
RanAs report script outside history end.EventLimit before after =
    IsOutOfEvents script outside history × Appends before after (text_so_far report history)
