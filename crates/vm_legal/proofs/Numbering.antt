-- What is made is numbered behind what is declared.
use Rattle.std.proofs.Common.{◌≤◌, List, [], ◌∷◌, arith}
use Rattle.vm_model.specs.declared.event.Event.{Event}
use Rattle.vm_model.specs.declared.event.Event.TheVariants as event
use Rattle.vm_model.specs.declared.script.Header.{Header}
use Rattle.vm_model.specs.Named.{named}
use Rattle.vm_model.specs.Regions.{next_object, next_region}

pub named_regions : (header : Header) (past : List Event) → named header ≤ next_region header past
named_regions header [] = omega arith
named_regions header (event.RegionMade region object pages ∷ past) = omega (arith, named_regions header past)
named_regions header (event.RegionCopied region source offset pages ∷ past) = omega (arith, named_regions header past)
named_regions header (event.Delayed region source offset pages copy ∷ past) = omega (arith, named_regions header past)
named_regions header (e ∷ past) = named_regions header past

pub named_objects : (header : Header) (past : List Event) → named header ≤ next_object header past
named_objects header [] = omega arith
named_objects header (event.RegionMade region object pages ∷ past) = omega (arith, named_objects header past)
named_objects header (event.Delayed region source offset pages copy ∷ past) = omega (arith, named_objects header past)
named_objects header (event.Shadowed region new old ∷ past) = omega (arith, named_objects header past)
named_objects header (e ∷ past) = named_objects header past
