use Rattle.std.proofs.Common.{◌≡◌, true, false, get_or, reverse, arith}
use Rattle.std.proofs.lemmas.List.{length-reverse}
use Rattle.vm_base.proofs.Results.{pushed}
use Rattle.vm_frames.proofs.Spares.{count_released}
use Rattle.vm_frames.proofs.Tables.{release_kept, releases, reverse_push, roomier}
use Rattle.vm_frames.proofs.frames.Frames.release.Goals as goal

pub invariant_of-self : goal.invariant_of-self
invariant_of-self c =
    let i = c.self.inside in
    let is : get_or i.claims.items c.args.f.0 false ≡ true = rw (← c.self.view_is) at c.requires in
    let kept = c.self.invariant in
    let less = count_released i.claims.items c.args.f.0 is in
    let ok = c.push.ensures.succeeds (omega (arith, kept.counted, kept.room, less, i.spare.ok.0, length-reverse i.spare.items)) in
    let order = reverse_push i.spare.items c.push.new.self.items c.args.f (pushed c.push.result c.push.new.self.items _ _ c.push.ensures.items ok) in
    let left = release_kept i.pages.items i.claims.items (reverse i.spare.items) i.spare.cap i.wired c.args.f kept is in
    rw order (roomier _ _ _ i.spare.cap _ _ left (omega (arith, c.push.ensures.capacity)))

pub returns : goal.returns
returns c =
    let i = c.self.inside in
    releases i.pages.items i.claims.items (reverse i.spare.items) i.spare.cap i.wired c.args.f c.args.self.now c.self.invariant c.self.view_is c.requires
