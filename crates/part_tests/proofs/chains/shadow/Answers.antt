use Rattle.std.proofs.lemmas.Option.{MatchOption-at_some}
use Rattle.std.proofs.Common.{sym, ap}
use Rattle.vm_shadow.specs.declared.ids.Ids.{Ids}
use Rattle.part_tests.proofs.Numbers.{numbered_shadow}
use Rattle.part_tests.proofs.chains.shadow.Goals as goal

pub returns : goal.returns
returns c =
    let is = sym c.in-Some.ensures.row in
    let shadows = MatchOption-at_some _ _ _ is c.in_ok-object.ensures.ok in
    let later = c.in_ok-object.ensures.ids in
    numbered_shadow _ _ _ _ _ _ _ c.requires is c.in_ok-object.ensures.object shadows (ap (λ (ids : Ids). ids.next_region) later)
    (ap (λ (ids : Ids). ids.next_object) later)
