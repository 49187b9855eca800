-- The exit status of the program.
use Rattle.std.specs.Prelude.{ℕ}
use Rattle.vm_top.specs.declared.top.Status.{Status}
use Rattle.vm_top.specs.declared.top.Status.TheVariants.{Done, BadScript, Usage, ReadFault, OutputFault, EventLimit, NoMemory}

abbrev pub status_number : Status → ℕ
status_number Done = 0
status_number (BadScript line kind) = 1
status_number Usage = 2
status_number ReadFault = 3
status_number OutputFault = 4
status_number EventLimit = 5
status_number NoMemory = 6
