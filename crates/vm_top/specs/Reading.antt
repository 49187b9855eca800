-- What reading a source gives, and what it leaves.
use Rattle.std.specs.Prelude.{ℕ, ◌<◌, ◌≤◌, ◌≡◌, List, [], drop, length, Option, Some, None}
use Rattle.std.specs.Io.KnownBytes.{Consumes, IsAtEnd}
use Rattle.vm_model.specs.Limits.{most_script_bytes}
use Rattle.vm_model.specs.declared.script.Script.{Script}
use Rattle.vm_top.specs.Top.{OfBytes}
use Rattle.vm_top.specs.declared.top.Status.{Status}
use Rattle.vm_top.specs.declared.top.Status.TheVariants.{NoMemory, ReadFault}
use Rattle.vm_top.specs.declared.words.Job.{Job}
use Rattle.vm_top.specs.declared.words.Job.TheVariants.{Run}

-- the most bytes that are read of a source: those that a script may have, and a piece of 4,096 behind them
abbrev pub most_read : ℕ
most_read = 1052672

-- some bytes that were left were read, at most so many
pub record ReadAtMost (most : ℕ) (before after : Option (List ℕ)) : Type 0 where
  pub bytes : List ℕ
  pub consumed : Consumes before after bytes
  pub few : length bytes ≤ most

-- the bytes that were left were read: all of them, unless there are more than a script may have; and then at most
-- 4,096 more than that
pub record ReadWhole (before after : Option (List ℕ)) (bytes : List ℕ) : Type 0 where
  pub consumed : Consumes before after bytes
  pub all : length bytes ≤ most_script_bytes → IsAtEnd after
  pub few : length bytes ≤ most_read

-- what is left is what stands behind a first part, of at most so many bytes
pub record LeavesBehind (most : ℕ) (bytes : List ℕ) (left : Option (List ℕ)) : Type 0 where
  pub read : ℕ
  pub few : read ≤ most
  pub is : left ≡ Some (drop read bytes)

-- nothing is left; but of more bytes than a script may have, what stands behind some number of bytes from the
-- 1,048,577th to the 1,052,672nd
pub record LeavesNone (bytes : List ℕ) (left : Option (List ℕ)) : Type 0 where
  pub short : length bytes ≤ most_script_bytes → left ≡ Some []
  pub long : most_script_bytes < length bytes
      → (read : ℕ) × (most_script_bytes < read) × (read ≤ most_read) × (left ≡ Some (drop read bytes))

-- what a run leaves of the source's bytes: the read that failed came while more might follow; memory may have ended
-- anywhere in reading
abbrev pub LeavesBytes : Status → Option Script → List ℕ → Option (List ℕ) → Type 0
LeavesBytes ReadFault script bytes left = LeavesBehind most_script_bytes bytes left
LeavesBytes NoMemory None bytes left = LeavesBehind most_read bytes left
LeavesBytes other script bytes left = LeavesNone bytes left

-- what the call leaves of the source; words that ask for no run leave it as it was
abbrev pub LeavesSource : {S : Type 0} → (S → Option (List ℕ)) → Option Job → Status → Option Script → S → S → Type 0
LeavesSource left (Some (Run report)) status script old new = OfBytes (left old) (λ bytes. LeavesBytes status script bytes (left new))
LeavesSource left other status script old new = new ≡ old
