use Rattle.vm_kernel.proofs.controls.DeclaredRegion.{holds_again}
use Rattle.vm_kernel.proofs.parts.Parts.hold.Goals as goal

pub returns-in-Some-clause-holds : goal.returns-in-Some-clause-holds
returns-in-Some-clause-holds c =
    holds_again c.args.object c.in-Some.row c.region.result c.args.self.now c.set_entries.new.self _ c.region.ensures.row c.in-Some.is c.set_entries.ensures.row
