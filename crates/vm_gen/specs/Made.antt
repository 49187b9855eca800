-- The script that is made of a number.
use Rattle.std.specs.Prelude.{ℕ, zero, suc, ◌+◌, ◌%◌, ◌≡◌, List, [], ◌∷◌, codes}
use Rattle.vm_base.specs.declared.ids.ObjectKind.TheVariants.{Shared}
use Rattle.vm_gen.specs.Drawn.{drawn_line}
use Rattle.vm_model.specs.declared.command.Command.{Command}
use Rattle.vm_model.specs.declared.command.Command.TheVariants.{Task, Map, Allocate, Settle}
use Rattle.vm_model.specs.declared.command.Numbered.{Numbered}
use Rattle.vm_model.specs.declared.script.Declared.{Declared}
use Rattle.vm_model.specs.declared.script.Header.{Header}
use Rattle.vm_model.specs.declared.script.Script.{Script}

-- the first lines behind the header: `task t h`, `map t 0 256 a 0` and `allocate t 4096 256`
abbrev pub task_line : ℕ → Command
task_line t = Task (record { 0 = t }) (record { 0 = t % 3 })

abbrev pub map_line : ℕ → Command
map_line t = Map (record { 0 = t }) 0 256 (record { 0 = 0 }) 0

abbrev pub allocate_line : ℕ → Command
allocate_line t = Allocate (record { 0 = t }) 4096 256

-- the commands of 0, 1 and so on, as many as that, on the lines from this one on: the newest first, and in front of those
-- that were there
abbrev pub add_lines : (ℕ → Command) → ℕ → ℕ → List Numbered → List Numbered
add_lines command first zero before = before
add_lines command first (suc n) before = record { line = first + n; command = command n } ∷ add_lines command first n before

-- behind the four lines of the header six tasks are made, map the shared object and allocate; then come the drawn lines, and
-- the last one takes what is left
abbrev pub opening_commands : List Numbered
opening_commands = add_lines allocate_line 17 6 (add_lines map_line 11 6 (add_lines task_line 5 6 []))

abbrev pub made_commands : ℕ → ℕ → List Numbered
made_commands number drawn =
    record { line = drawn + 23; command = Settle 1000000 } ∷ add_lines (drawn_line number) 23 drawn opening_commands

abbrev pub shared_object : Declared
shared_object = record { name = codes "a"; kind = Shared; pages = 4 }

-- `page 64`, `hosts 3 8`, `slots 512` and `shared a 4`
pub record HasMadeHeader (header : Header) : Type 0 where
  pub size : header.size ≡ 64
  pub frames : header.frames.items ≡ 8 ∷ 8 ∷ 8 ∷ []
  pub slots : header.slots ≡ 512
  pub objects : header.objects.items ≡ shared_object ∷ []

-- the script of so many drawn lines
pub record IsMade (number drawn : ℕ) (script : Script) : Type 0 where
  pub header : HasMadeHeader script.header
  pub commands : script.commands.items ≡ made_commands number drawn
  pub lines : script.lines ≡ drawn + 23
