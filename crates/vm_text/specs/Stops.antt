-- What a call returned, beside what the grammar says, unless memory ran out.
use Rattle.std.specs.Prelude.{◌≡◌, Result, Ok, Err}
use Rattle.vm_model.specs.declared.fault.ScriptFault.{ScriptFault}
use Rattle.vm_text.specs.declared.error.LineStop.{LineStop}
use Rattle.vm_text.specs.declared.error.LineStop.TheVariants.{Fault, NoMemory}

abbrev pub Stops : {Y : Type 0} → LineStop → Result Y ScriptFault → Type 0
Stops NoMemory read = Unit {0}
Stops (Fault fault) read = read ≡ Err fault

-- the value that was read
abbrev pub Gives : {X : Type 0} → Result X LineStop → Result X ScriptFault → Type 0
Gives (Ok x) read = read ≡ Ok x
Gives (Err stop) read = Stops stop read

-- the value that a call left behind
abbrev pub LeavesValue : {X : Type 0} → Result (Unit {0}) LineStop → X → Result X ScriptFault → Type 0
LeavesValue (Ok done) new read = read ≡ Ok new
LeavesValue (Err stop) new read = Stops stop read
