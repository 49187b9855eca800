-- The text that is written of a made script.
use Rattle.std.specs.Prelude.{ℕ, Bool, true, false, List, [], ◌∷◌, ◌++◌, codes, decimal, reverse}
use Rattle.std.specs.List.{flat_map}
use Rattle.vm_model.specs.declared.command.Command.{Command}
use Rattle.vm_model.specs.declared.command.Command.TheVariants.{Task, Map, Allocate, Load, Store, Pageout, Fork, Exit, Copy, Settle}
use Rattle.vm_model.specs.declared.command.Numbered.{Numbered}
use Rattle.vm_model.specs.Text.{newline}

abbrev pub spaced : List ℕ → List ℕ
spaced word = 32 ∷ word

-- words, with a space between them
abbrev pub spelled : List (List ℕ) → List ℕ
spelled [] = []
spelled (word ∷ words) = word ++ flat_map spaced words

-- the words of a command's line, where the one object is `a`; none, where no made script has such a command
abbrev pub command_words : Command → List (List ℕ)
command_words (Task task host) = codes "task" ∷ decimal task.0 ∷ decimal host.0 ∷ []
command_words (Map task address bytes object offset) =
    codes "map" ∷ decimal task.0 ∷ decimal address ∷ decimal bytes ∷ codes "a" ∷ decimal offset ∷ []
command_words (Allocate task address bytes) = codes "allocate" ∷ decimal task.0 ∷ decimal address ∷ decimal bytes ∷ []
command_words (Load task address size) = codes "load" ∷ decimal task.0 ∷ decimal address ∷ decimal size ∷ []
command_words (Store task address size value) =
    codes "store" ∷ decimal task.0 ∷ decimal address ∷ decimal size ∷ decimal value ∷ []
command_words (Pageout host count) = codes "pageout" ∷ decimal host.0 ∷ decimal count ∷ []
command_words (Fork task child) = codes "fork" ∷ decimal task.0 ∷ decimal child.0 ∷ []
command_words (Exit task) = codes "exit" ∷ decimal task.0 ∷ []
command_words (Copy task address bytes target to) =
    codes "copy" ∷ decimal task.0 ∷ decimal address ∷ decimal bytes ∷ decimal target.0 ∷ decimal to ∷ []
command_words (Settle count) = codes "settle" ∷ decimal count ∷ []
command_words _ = []

-- it is over a range of addresses
abbrev pub is_of_range : Command → Bool
is_of_range (Map task address bytes object offset) = true
is_of_range (Allocate task address bytes) = true
is_of_range (Copy task address bytes target to) = true
is_of_range other = false

abbrev pub is_access : Command → Bool
is_access (Load task address size) = true
is_access (Store task address size value) = true
is_access other = false

-- a command's line, with its end
abbrev pub command_line : Numbered → List ℕ
command_line numbered = spelled (command_words numbered.command) ++ newline

abbrev pub header_text : List ℕ
header_text = codes "page 64\nhosts 3 8\nslots 512\nshared a 4\n"

-- the text of a made script with these commands, the newest first
abbrev pub made_text : List Numbered → List ℕ
made_text commands = header_text ++ flat_map command_line (reverse commands)
