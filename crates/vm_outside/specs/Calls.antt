-- The calls of a backing, one after another.
use Rattle.std.specs.Prelude.{ℕ, ◌≡◌, ◌+◌, List, [], ◌∷◌, Option, Result, Err, IsErr, IsErrOf}
use Rattle.vm_base.specs.declared.failure.Failed.{Failed}
use Rattle.vm_base.specs.declared.failure.WriteStop.{WriteStop}
use Rattle.vm_base.specs.declared.failure.WriteStop.TheVariants as stop

-- a call of a backing, with what it was asked and what it answered
pub data Call : Type 0 where
  AsksLength : (name : List ℕ) (answer : Result (Option ℕ) Failed) → Call
  Reads : (name : List ℕ) (at n : ℕ) (answer : Result (Unit {0}) Failed) → Call
  Writes : (name : List ℕ) (at : ℕ) (bytes : List ℕ) (answer : Result (Unit {0}) WriteStop) → Call

-- the call answered that the backing failed
abbrev pub HasFailed : Call → Type 0
HasFailed (AsksLength name answer) = IsErr answer
HasFailed (Reads name at n answer) = IsErr answer
HasFailed (Writes name at bytes answer) = IsErrOf answer stop.Failed

-- 1, or 0 for a write that found no memory, which brings no armed failure nearer
abbrev pub weight : Call → ℕ
weight (Writes name at bytes (Err stop.NoMemory)) = 0
weight call = 1

-- by how many calls these bring an armed failure nearer
abbrev pub weight_of : List Call → ℕ
weight_of [] = 0
weight_of (call ∷ calls) = weight call + weight_of calls

-- these calls and no others led from the first state to the second, the first call in front
abbrev pub Made : {B : Type 0} → (Call → B → B → Type 0) → List Call → B → B → Type 0
Made called [] old new = new ≡ old
Made {B} called (call ∷ calls) old new = (mid : B) × called call old mid × Made called calls mid new
