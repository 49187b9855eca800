-- A whole script: its lines one after the other, and the first fault with its line.
use Rattle.std.specs.Prelude.{ℕ, ◌+◌, ◌-◌, ◌≡◌, ◌≢◌, ◌||◌, nat_lt, List, [], ◌∷◌, length, reverse, Some, None, Result, Ok, Err, if◌then◌else◌}
use Rattle.std.specs.List.{All}
use Rattle.vm_base.specs.declared.ids.ObjectKind.TheVariants.{Temp}
use Rattle.vm_model.specs.Limits.{most_script_bytes, most_script_lines}
use Rattle.vm_model.specs.declared.command.Numbered.{Numbered}
use Rattle.vm_model.specs.declared.fault.ScriptFault.{ScriptFault}
use Rattle.vm_model.specs.declared.fault.ScriptFault.TheVariants.{TooLong, UnknownWord, HeaderLate, NoHosts}
use Rattle.vm_model.specs.declared.script.Declared.{Declared}
use Rattle.vm_model.specs.declared.script.Header.{Header}
use Rattle.vm_model.specs.declared.script.Script.{Script}
use Rattle.vm_text.specs.declared.error.ScriptError.{ScriptError}
use Rattle.vm_text.specs.declared.error.ScriptError.TheVariants as errors
use Rattle.vm_text.specs.declared.error.LineStop.{LineStop}
use Rattle.vm_text.specs.declared.error.LineStop.TheVariants as stops
use Rattle.vm_text.specs.declared.meaning.HeaderWord.{HeaderWord}
use Rattle.vm_text.specs.declared.meaning.CommandWord.{CommandWord}
use Rattle.vm_text.specs.Forms.{Heading, size_of, slots_of, header_words, stands_already, header_form, command_words, command_form}
use Rattle.vm_text.specs.Words.{◌>>=◌, lines_of, words_of, is_comment, word_in}

-- what the lines have said so far, the newest command first
pub record Reading : Type 0 where
  pub heading : Heading
  pub commands : List Numbered

abbrev pub nothing_read : Reading
nothing_read = record { heading = record { size = None; slots = None; frames = []; objects = [] }; commands = [] }

abbrev pub header_line : Reading → HeaderWord → List (List ℕ) → Result Reading ScriptFault
header_line reading word line =
    if nat_lt 0 (length reading.commands) || stands_already reading.heading word then Err HeaderLate
    else (header_form reading.heading word line >>= λ heading. Ok (record reading { heading = heading }))

abbrev pub command_line : ℕ → Reading → CommandWord → List (List ℕ) → Result Reading ScriptFault
command_line number reading word line =
    if nat_lt 0 (length reading.heading.frames)
    then (command_form reading.heading word line >>= λ command. Ok (record reading
    { commands = record { line = number; command = command } ∷ reading.commands }))
    else Err NoHosts

-- a line of this number
abbrev pub line_read : ℕ → Reading → List (List ℕ) → Result Reading ScriptFault
line_read number reading [] = Ok reading
line_read number reading (word ∷ line) =
    if is_comment word then Ok reading
    else elim (word_in command_words word) [
      | Some meaning ↦ command_line number reading meaning line
      | None ↦ elim (word_in header_words word) [
        | Some meaning ↦ header_line reading meaning line
        | None ↦ Err UnknownWord
      ]
    ]

-- a script that was read: frames from host 0 on, and the newest object and command first
pub record Whole : Type 0 where
  pub size : ℕ
  pub slots : ℕ
  pub frames : List ℕ
  pub objects : List Declared
  pub commands : List Numbered
  pub lines : ℕ

abbrev pub whole_of : Reading → ℕ → Whole
whole_of reading lines = record {
  size = size_of reading.heading;
  slots = slots_of reading.heading;
  frames = reading.heading.frames;
  objects = reading.heading.objects;
  commands = reading.commands;
  lines = lines;
}

-- the lines from the one of this number on
abbrev pub lines_read : ℕ → Reading → List (List ℕ) → Result Whole (ℕ × ScriptFault)
lines_read number reading [] =
    if nat_lt 0 (length reading.heading.frames) then Ok (whole_of reading (number - 1)) else Err (number, NoHosts)
lines_read number reading (line ∷ lines) =
    if nat_lt most_script_lines number then Err (number, TooLong)
    else elim (line_read number reading (words_of line)) [
      | Ok more ↦ lines_read (number + 1) more lines
      | Err fault ↦ Err (number, fault)
    ]

-- the script that bytes spell, or their first fault with its line
abbrev pub script_of : List ℕ → Result Whole (ℕ × ScriptFault)
script_of bytes =
    if nat_lt most_script_bytes (length bytes) then Err (0, TooLong) else lines_read 1 nothing_read (lines_of bytes)

-- a script, seen as one that was read
abbrev pub whole_script : Script → Whole
whole_script script = record {
  size = script.header.size;
  slots = script.header.slots;
  frames = reverse script.header.frames.items;
  objects = script.header.objects.items;
  commands = script.commands.items;
  lines = script.lines;
}

-- each declared object is a file, or a shared or a wild one
abbrev pub DeclaresNoTemporary : Header → Type 0
DeclaresNoTemporary header = All (λ (object : Declared). object.kind ≢ Temp) header.objects.items

-- what reading returned, beside what the bytes spell, unless memory ran out
abbrev pub IsRead : Result Script ScriptError → Result Whole (ℕ × ScriptFault) → Type 0
IsRead (Ok script) read = read ≡ Ok (whole_script script)
IsRead (Err errors.NoMemory) read = Unit {0}
IsRead (Err (errors.Bad line kind)) read = read ≡ Err (line, kind)

-- the stop of a line, as a script has it
abbrev pub IsErrorOfLine : ℕ → LineStop → ScriptError → Type 0
IsErrorOfLine line (stops.Fault kind) error = error ≡ errors.Bad line kind
IsErrorOfLine line stops.NoMemory error = error ≡ errors.NoMemory
