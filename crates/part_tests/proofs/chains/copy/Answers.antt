use Rattle.std.proofs.lemmas.Option.{MatchOption-at_some}
use Rattle.std.proofs.Common.{sym, ap}
use Rattle.vm_shadow.specs.declared.ids.Ids.{Ids}
use Rattle.part_tests.proofs.Numbers.{numbered_copy}
use Rattle.part_tests.proofs.chains.copy.Goals as goal

pub returns : goal.returns
returns c =
    let is = sym c.in-Some.ensures.row in
    let copies = MatchOption-at_some _ _ _ is c.in_ok-copy.ensures.ok in
    let later = MatchOption-at_some _ _ _ is c.in_ok-copy.ensures.ids in
    numbered_copy _ _ _ _ _ _ _ _ c.requires is copies (ap (λ (ids : Ids). ids.next_region) later) (ap (λ (ids : Ids). ids.next_object) later)
