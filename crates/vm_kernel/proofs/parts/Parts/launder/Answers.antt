use Rattle.vm_kernel.proofs.Common.{All, All-head, FrameNo, HostParts, IsWashed, List, Rests, subst, sym, ◌++◌, ◌∷◌, ◌≡◌}
use Rattle.vm_kernel.proofs.memory.ReturnTaken.{rests_laundered}
use Rattle.vm_kernel.specs.declared.parts.Parts.{Parts}
use Rattle.vm_kernel.proofs.parts.Parts.launder.Goals as goal

-- the frame of the oldest return is claimed, and no page's
first_washed : (k : Parts) (f : FrameNo) (rest : List FrameNo) → All (IsWashed k.memory.frames k.memory.resident) k.laundry.held → k.laundry.held ≡ f ∷ rest
    → IsWashed k.memory.frames k.memory.resident f
first_washed k f rest all is =
    All-head (IsWashed k.memory.frames k.memory.resident) f rest (subst (All (IsWashed k.memory.frames k.memory.resident)) is all)

pub release-requires-clause-claimed : goal.release-requires-clause-claimed
release-requires-clause-claimed g c =
    (first_washed c.args.self.now c.in-Some.frame c.first.new.self.held c.requires.0.matches.core.pages.washed.washed c.in-Some.ensures.0).claimed

pub release-requires-clause-unowned : goal.release-requires-clause-unowned
release-requires-clause-unowned g c =
    (first_washed c.args.self.now c.in-Some.frame c.first.new.self.held c.requires.0.matches.core.pages.washed.washed c.in-Some.ensures.0).unowned

pub returns-clause-rests : goal.returns-clause-rests
returns-clause-rests g c =
    subst (λ (z : HostParts). Rests g.given.header g.given.host (record c.args.self.now { memory = z; laundry = c.first.new.self }) c.args.ids.now
    (g.given.front ++ g.given.past)) (sym c.release.ensures.is)
    (rests_laundered g.given.header g.given.host c.args.self.now c.args.ids.now g.given.front g.given.past c.in-Some.frame c.release.new.self.frames
    c.first.new.self c.requires.0 c.requires.1.0 c.in-Some.ensures.0 c.in-Some.ensures.1 c.release.ensures.frames)
