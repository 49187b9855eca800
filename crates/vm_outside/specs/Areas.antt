-- Named areas of bytes.
use Rattle.std.specs.Prelude.{ℕ, ◌≡◌, ◌≢◌, ◌+◌, ◌-◌, ◌<◌, ◌≤◌, ◌⊎◌, max, List, [], ◌++◌, length, take, drop, replicate, slice_index, Option, Some, None}
use Rattle.std.specs.Prelude.{unwrap_or, Result, IfOk, OnOk, IsErrOf, MatchOption}
use Rattle.std.specs.Option.{option_map}
use Rattle.vm_base.specs.Pages.{with_bytes}
use Rattle.vm_base.specs.declared.failure.Failed.{Failed}
use Rattle.vm_base.specs.declared.failure.WriteStop.{WriteStop}
use Rattle.vm_base.specs.declared.failure.WriteStop.TheVariants as stop

-- the so many bytes of an area from a place on, with zeros past its end
abbrev pub read_at : List ℕ → ℕ → ℕ → List ℕ
read_at bytes at n = take n (drop at bytes ++ replicate n 0)

-- an area of at least so many bytes, with zeros where it grew
abbrev pub lengthened : List ℕ → ℕ → List ℕ
lengthened old n = old ++ replicate (n - length old) 0

-- an area with these bytes from a place on, made or lengthened to hold them
abbrev pub write_at : List ℕ → ℕ → List ℕ → List ℕ
write_at old at bytes = with_bytes at bytes (lengthened old (at + length bytes))

-- what is told of a name, None where nothing is: the bytes of its area, or that there is none
abbrev pub Told : Type 0
Told = Option (Option (List ℕ))

-- what was told of each name is told still
abbrev pub SameAreas : (List ℕ → Told) → (List ℕ → Told) → Type 0
SameAreas old new = (name : List ℕ) (was : Option (List ℕ)) → old name ≡ Some was → new name ≡ Some was

-- `length` gives the length of the area, and None where there is none
pub record LengthTold (old new : List ℕ → Told) (name : List ℕ) (result : Result (Option ℕ) Failed) : Type 0 where
  pub same : SameAreas old new
  pub found : (was : Option (List ℕ)) → old name ≡ Some was → IfOk result (λ n. n ≡ option_map length was)

-- `read` fills the buffer, with zeros past the end of the area and where there is none
pub record ReadTold (old new : List ℕ → Told) (name : List ℕ) (at : ℕ) (buf : List ℕ) (result : Result (Unit {0}) Failed) : Type 0 where
  pub same : SameAreas old new
  pub filled : (was : Option (List ℕ)) → old name ≡ Some was
      → OnOk result (buf ≡ read_at (unwrap_or was []) at (length buf))

-- an area after a write of n bytes that failed: it is no shorter, no longer than the write would leave it, and
-- outside the range as before, with zeros where it grew
pub record Torn (old : List ℕ) (at n : ℕ) (new : List ℕ) : Type 0 where
  pub least : length old ≤ length new
  pub most : length new ≤ max (length old) (at + n)
  pub outside : (i : ℕ) → (i < at) ⊎ (at + n ≤ i) → slice_index new i ≡ slice_index old i

-- what may be there after a write that failed: no area only where there was none
abbrev pub AfterFault : Option (List ℕ) → ℕ → ℕ → Option (List ℕ) → Type 0
AfterFault was at n now = MatchOption now (was ≡ None) (λ bytes. Torn (unwrap_or was []) at n bytes)

-- `write` changes one area: it leaves the bytes in it, or after a fault anything within their range, or without
-- memory nothing
pub record WriteTold (old new : List ℕ → Told) (name : List ℕ) (at : ℕ) (bytes : List ℕ) (result : Result (Unit {0}) WriteStop) : Type 0 where
  pub others : (other : List ℕ) (was : Option (List ℕ)) → other ≢ name → old other ≡ Some was → new other ≡ Some was
  pub written : (was : Option (List ℕ)) → old name ≡ Some was
      → OnOk result (new name ≡ Some (Some (write_at (unwrap_or was []) at bytes)))
  pub failed : (was : Option (List ℕ)) → old name ≡ Some was → IsErrOf result stop.Failed
      → (now : Option (List ℕ)) × (new name ≡ Some now) × AfterFault was at (length bytes) now
  pub same : IsErrOf result stop.NoMemory → SameAreas old new
