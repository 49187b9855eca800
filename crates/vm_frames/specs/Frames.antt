-- The frames of a host, as contracts see them.
use Rattle.std.specs.Prelude.{ℕ, suc, ◌+◌, ◌-◌, ◌<◌, ◌≡◌, ◌==◌, Bool, true, false, List, [], ◌∷◌, Option, Some, None, if◌then◌else◌, get_or, length, set}

-- the bytes of each frame, which frames are claimed, and how many are wired
pub record FrameTable : Type 0 where
  pub pages : List (List ℕ)
  pub claims : List Bool
  pub wired : ℕ

abbrev pub frame_count : FrameTable → ℕ
frame_count table = length table.claims

abbrev pub count_claims : List Bool → ℕ
count_claims [] = 0
count_claims (claim ∷ claims) = if claim then suc (count_claims claims) else count_claims claims

-- how many frames are claimed
abbrev pub claimed : FrameTable → ℕ
claimed table = count_claims table.claims

-- how many frames are neither claimed nor wired
abbrev pub free : FrameTable → ℕ
free table = frame_count table - (claimed table + table.wired)

abbrev pub is_claimed : FrameTable → ℕ → Bool
is_claimed table f = get_or table.claims f false

abbrev pub page_in : FrameTable → ℕ → List ℕ
page_in table f = get_or table.pages f []

-- the bytes that a claimed frame holds
abbrev pub held : FrameTable → ℕ → Option (List ℕ)
held table f = if is_claimed table f then Some (page_in table f) else None

-- a frame that was not claimed is claimed; all else is as it was
pub record Claims (f : ℕ) (old new : FrameTable) : Type 0 where
  pub inside : f < frame_count old
  pub fresh : is_claimed old f ≡ false
  pub is : new ≡ record old { claims = set old.claims f true }
  pub holds : (other : ℕ) → held new other ≡ (if f == other then Some (page_in old f) else held old other)
  pub count : claimed new ≡ suc (claimed old)
  pub left : free old ≡ suc (free new)

-- a claimed frame is claimed no more; all else is as it was
pub record Releases (f : ℕ) (old new : FrameTable) : Type 0 where
  pub is : new ≡ record old { claims = set old.claims f false }
  pub holds : (other : ℕ) → held new other ≡ (if f == other then None else held old other)
  pub count : claimed old ≡ suc (claimed new)
  pub left : free new ≡ suc (free old)
