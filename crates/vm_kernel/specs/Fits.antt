-- The parts of a kernel fit each other.
use Rattle.std.specs.Prelude.{ℕ, ◌≡◌, false, Some}
use Rattle.vm_parts.specs.Fits.{Fit}
use Rattle.vm_resident.specs.Resident.{ResidentTable, row_at}
use Rattle.vm_resident.specs.declared.page_row.PageRow.{PageRow}
use Rattle.vm_parts.specs.declared.parts.HostParts.{HostParts}
use Rattle.vm_parts.specs.Changes.{unlocked}

-- the row of a page that isn't here says nothing of locks yet
pub record IsPlainRow (row : PageRow) : Type 0 where
  pub lock : row.lock ≡ unlocked
  pub precious : row.precious ≡ false
  pub unlock_sent : row.unlock_sent ≡ false

abbrev pub ArePlain : ResidentTable → Type 0
ArePlain resident = (o p : ℕ) (row : PageRow) → row_at resident o p ≡ Some row → row.here ≡ false → IsPlainRow row

-- frames, rows, lists and objects fit, the rows of pages that are asked are plain, and pages that are sent are as long as frames
pub record PartsFit (memory : HostParts) (size : ℕ) : Type 0 where
  pub parts : Fit memory
  pub plain : ArePlain memory.resident
  pub buffers : memory.buffers.size ≡ size
