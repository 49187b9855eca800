-- Why a taking is refused, from what a system keeps.
use Rattle.std.specs.Prelude.{ℕ, ◌+◌, ◌==◌, ◌||◌, not, nat_lt, List, [], ◌∷◌, Option, Some, None}
use Rattle.vm_base.specs.declared.code.Code.{Code}
use Rattle.vm_base.specs.declared.code.Code.TheVariants.{EmptyPort, InvalidArgument, NoSuchName}
use Rattle.vm_base.specs.declared.ids.ObjectId.{ObjectId}
use Rattle.vm_base.specs.declared.ids.PageNo.{PageNo}
use Rattle.vm_model.specs.declared.script.Header.{Header}
use Rattle.vm_model.specs.Named.{declared_pages}
use Rattle.vm_legal.specs.Outside.{is_file}
use Rattle.vm_legal.specs.Refusal.{code_where}
use Rattle.vm_model.specs.declared.message.Channel.{Channel}
use Rattle.vm_ports.specs.Ports.{queue}
use Rattle.vm_ports.specs.declared.letter.Letter.{Letter as Posted}
use Rattle.vm_system.specs.Channels.{channel_number}

-- the code of a taking from a channel with these letters
abbrev pub queue_code : List ℕ → Option Code
queue_code [] = Some EmptyPort
queue_code (index ∷ more) = None

-- the code of a taking from a channel with this number, if it was made, where the letters are these
abbrev pub code_at : Option ℕ → List (Posted ℕ) → Option Code
code_at None letters = Some NoSuchName
code_at (Some number) letters = queue_code (queue number letters)

abbrev pub channel_code : Channel → List Channel → List (Posted ℕ) → Option Code
channel_code channel made letters = code_at (channel_number channel made) letters

-- the code of a clean of pages of a declared object
abbrev pub clean_code : Header → ObjectId → PageNo → ℕ → Option Code
clean_code header object page count =
    code_where (not (is_file header object.0) || (count == 0 || nat_lt (declared_pages header object.0) (page.0 + count))) InvalidArgument None
