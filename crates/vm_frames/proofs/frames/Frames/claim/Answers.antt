use Rattle.std.proofs.Common.{List, reverse, subst, arith}
use Rattle.vm_base.specs.declared.ids.FrameNo.{FrameNo}
use Rattle.vm_frames.specs.Kept.{AreFrames}
use Rattle.vm_frames.proofs.Tables.{claim_kept, claims, reverse_push, roomier}
use Rattle.vm_frames.proofs.frames.Frames.claim.Goals as goal

pub invariant_of-self-2 : goal.invariant_of-self-2
invariant_of-self-2 c =
    let i = c.self.inside in
    let order = reverse_push c.pop.new.self.items i.spare.items c.in_ok-frame.frame c.in_ok-frame.ensures.items in
    let kept = subst (λ (rest : List FrameNo). AreFrames i.pages.items i.claims.items rest i.spare.cap i.wired) order c.self.invariant in
    let left = claim_kept i.pages.items i.claims.items (reverse c.pop.new.self.items) i.spare.cap i.wired c.in_ok-frame.frame c.args.self.now kept
    c.self.view_is (omega (arith, c.free.ensures.value, c.if-free-eq0.false)) in
    roomier _ _ _ i.spare.cap _ _ left (omega (arith, c.in_ok-frame.ensures.capacity))

pub returns : goal.returns
returns c =
    let i = c.self.inside in
    let order = reverse_push c.pop.new.self.items i.spare.items c.in_ok-frame.frame c.in_ok-frame.ensures.items in
    let kept = subst (λ (rest : List FrameNo). AreFrames i.pages.items i.claims.items rest i.spare.cap i.wired) order c.self.invariant in
    claims i.pages.items i.claims.items (reverse c.pop.new.self.items) i.spare.cap i.wired c.in_ok-frame.frame c.args.self.now kept c.self.view_is
    (omega (arith, c.free.ensures.value, c.if-free-eq0.false))
