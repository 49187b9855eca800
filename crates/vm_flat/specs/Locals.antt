-- What is said here of a place is what its host has of the page.
use Rattle.std.specs.Prelude.{ℕ, ◌≡◌, ◌==◌, ◌&&◌, not, Bool, Option, Some, None, if◌then◌else◌}
use Rattle.vm_model.specs.Local.{Local}
use Rattle.vm_flat.specs.Spot.{Spot}

-- a place is the host's page, but that no page of a file is known absent; its control lives where the host's newest does
pub record SpotIsLocal (filed : Bool) (newest : ℕ) (live : Option ℕ) (s : Spot) (page : Local) : Type 0 where
  pub here : s.here ≡ page.here
  pub bytes : s.bytes ≡ page.bytes
  pub dirty : s.dirty ≡ page.dirty
  pub asked : s.asked ≡ page.asked
  pub absent : s.absent ≡ (not filed && page.absent)
  pub file : s.file ≡ filed
  pub control : (if s.control == 1 then Some newest else None) ≡ live
