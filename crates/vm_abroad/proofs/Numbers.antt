-- Numbers of regions and objects rise.
use Rattle.std.proofs.Common.{◌≡◌, ℕ, ◌≤◌, ◌==◌, false, List, ◌∷◌, arith}
use Rattle.std.proofs.lemmas.Bool.Decides.{nat_tests}
use Rattle.std.specs.Prelude.{◌≢◌}
use Rattle.vm_model.specs.declared.event.Event.{Event}
use Rattle.vm_model.specs.declared.event.Event.TheVariants as event
use Rattle.vm_model.specs.declared.script.Header.{Header}
use Rattle.vm_model.specs.Regions.{next_object, next_region}

pub unlike : (a b : ℕ) → a ≢ b → (a == b) ≡ false
unlike a b other = grind (arith, nat_tests)

pub regions_rise : (header : Header) (e : Event) (past : List Event) → next_region header past ≤ next_region header (e ∷ past)
regions_rise header (event.RegionMade new object pages) past = omega arith
regions_rise header (event.RegionCopied new source offset pages) past = omega arith
regions_rise header (event.Delayed new source offset pages copy) past = omega arith
regions_rise header other past = omega arith

pub objects_rise : (header : Header) (e : Event) (past : List Event) → next_object header past ≤ next_object header (e ∷ past)
objects_rise header (event.RegionMade new object pages) past = omega arith
objects_rise header (event.Shadowed changed new old) past = omega arith
objects_rise header (event.Delayed new source offset pages copy) past = omega arith
objects_rise header other past = omega arith
