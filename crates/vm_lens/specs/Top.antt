-- What the top call promises.
use Rattle.std.specs.Prelude.{ℕ, ◌≡◌, List, [], ◌∷◌, codes, map, Option, Some, String, string_bytes, Bool, false}
use Rattle.std.specs.Str.{bytes_eq}
use Rattle.std.specs.declared.alloc.Global.{Global}
use Rattle.std.specs.Io.KnownBytes.{Appends}
use Rattle.vm_model.specs.declared.script.Script.{Script}
use Rattle.vm_top.specs.Top.{IsReadFrom}
use Rattle.vm_lens.specs.Exploring.{IsExplored}
use Rattle.vm_litmus.specs.Text.{explored_text}
use Rattle.vm_litmus.specs.declared.explored.Explored.{Explored}
use Rattle.vm_lens.specs.declared.top.Status.{Status}
use Rattle.vm_lens.specs.declared.top.Status.TheVariants.{Done, BadScript, Usage, ReadFault, OutputFault, NoMemory, NotExplored}

abbrev pub usage_text : List ℕ
usage_text = codes "usage: lens explore\n"

-- the one word that is a command
abbrev pub is_explore : List (List ℕ) → Bool
is_explore (word ∷ []) = bytes_eq word (codes "explore")
is_explore other = false

abbrev pub asks_explore : List (String Global) → Bool
asks_explore words = is_explore (map string_bytes words)

-- the source's bytes spell a script that was explored, and that was written and nothing else
pub record IsDone (told : Option (List ℕ)) (explored : Option Explored) (before after : Option (List ℕ)) : Type 0 where
  pub script : Script
  pub read : IsReadFrom told script
  pub found : Explored
  pub held : explored ≡ Some found
  pub is : IsExplored script found
  pub written : Appends before after (explored_text found)

-- The exit status of the program.
abbrev pub status_number : Status → ℕ
status_number Done = 0
status_number (BadScript line kind) = 1
status_number Usage = 2
status_number ReadFault = 3
status_number OutputFault = 4
status_number NoMemory = 6
status_number NotExplored = 7
