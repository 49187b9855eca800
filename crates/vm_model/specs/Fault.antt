-- The number of each fault of a script.
use Rattle.std.specs.Prelude.{ℕ}
use Rattle.vm_model.specs.declared.fault.ScriptFault.{ScriptFault}
use Rattle.vm_model.specs.declared.fault.ScriptFault.TheVariants.{TooLong, UnknownWord, BadNumber, WrongCount, OutOfRange, HeaderLate, NoHosts}

abbrev pub fault_number : ScriptFault → ℕ
fault_number TooLong = 1
fault_number UnknownWord = 2
fault_number BadNumber = 3
fault_number WrongCount = 4
fault_number OutOfRange = 5
fault_number HeaderLate = 6
fault_number NoHosts = 7
