-- When a call may answer that the outside failed, and what it leaves.
use Rattle.std.specs.Prelude.{ℕ, ◌≡◌, ◌+◌, ◌-◌, ◌^◌, ◌≤◌, min, List, take, OnErr, OnOk, Option, Result, IsErrOf, Ok, Err}
use Rattle.std.specs.Io.KnownBytes.{Appends, Keeps}
use Rattle.vm_base.specs.declared.failure.Failed.{Failed}
use Rattle.vm_base.specs.declared.failure.WriteStop.{WriteStop}
use Rattle.vm_base.specs.declared.failure.WriteStop.TheVariants as stop

-- one more, or the last value of a counter
abbrev pub next_count : ℕ → ℕ
next_count n = min (n + 1) (2 ^ 64 - 1)

-- two counts together, or the last value of a counter
abbrev pub sum_count : ℕ → ℕ → ℕ
sum_count m n = min (m + n) (2 ^ 64 - 1)

-- a count of faults rose, or stands at its last value
abbrev pub CountRises : ℕ → ℕ → Type 0
CountRises before now = next_count before ≤ now

-- a call that only reads or asks fails only where the count of faults rose in it, and any other answer leaves the count
pub record CallHasCause {T : Type 0} (before now : ℕ) (result : Result T Failed) : Type 0 where
  pub later : before ≤ now
  pub failed : OnErr result (CountRises before now)
  pub spared : OnOk result (now ≡ before)

-- a call that writes fails only where the count rose in it, and any other answer leaves the count, want of memory too
pub record WriteHasCause (before now : ℕ) (result : Result (Unit {0}) WriteStop) : Type 0 where
  pub later : before ≤ now
  pub failed : IsErrOf result stop.Failed → CountRises before now
  pub spared : OnOk result (now ≡ before)
  pub same : IsErrOf result stop.NoMemory → now ≡ before

-- what a sink holds after a write: the piece more, a first part of it more, or the same
abbrev pub WriteEffects : Option (List ℕ) → Option (List ℕ) → Result (Unit {0}) WriteStop → List ℕ → Type 0
WriteEffects old new (Ok done) piece = Appends old new piece
WriteEffects old new (Err stop.Failed) piece = (n : ℕ) × Appends old new (take n piece)
WriteEffects old new (Err stop.NoMemory) piece = Keeps old new
