use Rattle.std.proofs.Common.{◌≡◌, false, replicate, rules}
use Rattle.vm_frames.proofs.Tables.{new_kept}
use Rattle.vm_frames.proofs.frames.Frames.new.Goals as goal

pub invariant_of-result : goal.invariant_of-result
invariant_of-result c =
    let marks : c.in_ok-claims.claims.items ≡ replicate c.args.n false = search rules in
    rw (c.in_ok-pages.ensures, marks) (new_kept c.args.n _ (replicate c.args.size 0) _ c.in_ok-spare.ensures.items c.in_ok-spare.ensures.room c.ranges.n.fits)
