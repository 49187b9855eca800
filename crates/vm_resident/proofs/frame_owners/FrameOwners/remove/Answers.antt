use Rattle.vm_resident.proofs.frame_owners.FrameOwners.remove.Goals as goal

pub returns-clause-page : goal.returns-clause-page
returns-clause-page c = rw (← c.self.view_is) (λ g. c.swap_remove.ensures.updates.0 (record { 0 = g }))
