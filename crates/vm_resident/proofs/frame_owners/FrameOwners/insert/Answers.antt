use Rattle.std.proofs.Common.{◌<◌, ap, arith}
use Rattle.indexmap.specs.IndexMap.{spare}
use Rattle.vm_sets.proofs.PageSets.{ok_has}
use Rattle.vm_resident.specs.Owners.{OwnerMap}
use Rattle.vm_resident.proofs.frame_owners.FrameOwners.insert.Goals as goal

pub returns-in-Ok-Some-clause-page : goal.returns-in-Ok-Some-clause-page
returns-in-Ok-Some-clause-page c = rw (← c.self.view_is) (λ g. c.in-Ok-Some.ensures.updates.0 (record { 0 = g }))

pub returns-clause-page : goal.returns-clause-page
returns-clause-page c =
    let room : 0 < spare c.self.inside.pages = omega (arith, ap (λ (z : OwnerMap). z.spare) c.self.view_is, c.requires) in
    let put = ok_has c.insert.result (c.insert.ensures.succeeds room) c.insert.ensures.updates in
    rw (← c.self.view_is) (λ g. put.0 (record { 0 = g }))
