-- How the frames are kept: those that are not claimed stand on a list with room for all.
use Rattle.std.specs.Prelude.{ℕ, suc, zero, ◌+◌, ◌≤◌, ◌<◌, ◌^◌, ◌≡◌, ◌==◌, ◌||◌, Bool, true, false, List, [], ◌∷◌, get_or, length}
use Rattle.vm_base.specs.declared.ids.FrameNo.{FrameNo}
use Rattle.vm_frames.specs.Frames.{FrameTable, count_claims}

abbrev pub is_listed : ℕ → List FrameNo → Bool
is_listed f [] = false
is_listed f (other ∷ others) = (other.0 == f) || is_listed f others

-- frames that are there, not claimed, each once
abbrev pub AreSpare : List Bool → List FrameNo → Type 0
AreSpare claims [] = Unit {0}
AreSpare claims (f ∷ fs) = (get_or claims f.0 true ≡ false) × (is_listed f.0 fs ≡ false) × AreSpare claims fs

pub record AreFrames (all : List (List ℕ)) (marks : List Bool) (rest : List FrameNo) (most out : ℕ) : Type 0 where
  pub pages : length all ≡ length marks
  pub spare : AreSpare marks rest
  pub counted : length rest + count_claims marks ≡ length marks
  pub wired : out ≤ length rest
  pub room : length marks ≤ most
  pub few : length marks < 2 ^ 32

-- so many frames from one on
abbrev pub frames_from : ℕ → ℕ → List FrameNo
frames_from low zero = []
frames_from low (suc n) = record { 0 = low } ∷ frames_from (suc low) n

abbrev pub frame_table : List (List ℕ) → List Bool → ℕ → FrameTable
frame_table all marks out = record { pages = all; claims = marks; wired = out }
