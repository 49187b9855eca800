-- The parts of a host without pages fit each other, whatever its objects are.
use Rattle.std.proofs.Common.{◌≡◌, ℕ, sym, ◌∙◌, Some, None}
use Rattle.vm_objects.specs.Objects.{ObjectTable}
use Rattle.vm_parts.specs.Fits.{Fit, IsStart}
use Rattle.vm_parts.specs.declared.parts.HostParts.{HostParts}
use Rattle.vm_parts.proofs.Fitting.{fit_within}

pub hosted : (frames size : ℕ) (parts : HostParts) (os : ObjectTable) → IsStart frames size parts → Fit (record parts { objects = os })
hosted frames size parts os start = fit_within parts os start.fit (λ o p row is. absurd (let bad : None ≡ Some row = sym (start.rows o p) ∙ is in cc))
