use Rattle.part_tests.proofs.Numbers.{numbered_first}
use Rattle.part_tests.proofs.chains.first.Goals as goal

pub returns : goal.returns
returns c =
    numbered_first _ _ _ _ _ c.new-chains.ensures.regions c.new-chains.ensures.shadows c.requires.region c.requires.object c.in_ok-make_region.ensures.ok
