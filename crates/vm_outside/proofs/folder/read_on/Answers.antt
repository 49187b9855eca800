use Rattle.std.proofs.Common.{◌≡◌, ℕ, ◌+◌, ◌-◌, ◌≤◌, List, ◌++◌, rules, length, take, drop, sym, ap, ◌∙◌, subst, le_refl, drop_at, length-take-le}
use Rattle.std.proofs.lemmas.Slice.{take-put_mid_below}
use Rattle.std.proofs.KnownBytes.{Consumes-trans, Consumes-kept}
use Rattle.std.specs.Io.KnownBytes.{Consumes}
use borrow.Rule.Slice.PartMut.{put_mid, post_of}
use lib.Seq.{take-add, take-append-le}
use Rattle.vm_outside.proofs.folder.read_on.Goals as goal
use Rattle.vm_outside.proofs.folder.read_on.Goals.{in-Ok, in-Err}

-- what was read before, and n bytes behind it
take_longer : (a k n : ℕ) (xs ys : List ℕ) → a ≤ length xs → n ≤ length ys → take a xs ++ take n ys ≡ take (a + n) (put_mid a k xs ys)
take_longer a k n xs ys within fits =
    let after = post_of a k xs in
    let front : take a (put_mid a k xs ys) ≡ take a xs = take-put_mid_below _ _ _ _ _ (le_refl _) within in
    let behind : take n (drop a (put_mid a k xs ys)) ≡ take n ys = ap (take n) (drop_at (take a xs) (ys ++ after) a (length-take-le a xs within))
    ∙ take-append-le n ys after fits in
    sym (take-add a n (put_mid a k xs ys) ∙ ap (λ l. l ++ take n (drop a (put_mid a k xs ys))) front ∙ ap (λ l. take a xs ++ l) behind)

pub pieces-preserved : goal.pieces-preserved
pieces-preserved g c =
    let from = c.pieces.got in
    let room = length c.pieces.buf - from in
    let buf = put_mid from room c.pieces.buf c.read.new.buf in
    record {
      within = search rules;
      consumed = elim c.match-read.branch [
        | in-Ok w ↦ subst (Consumes _ _) (take_longer from room w.in-Ok.count c.pieces.buf c.read.new.buf c.pieces.invariant.within w.in-Ok.ensures.bound.0
            ∙ ap (λ n. take n buf) (sym w.got-is))
            (Consumes-trans _ _ _ _ _ c.pieces.invariant.consumed w.in-Ok.ensures.bytes.0)
        | in-Err w ↦ subst (Consumes _ _) (sym (take-put_mid_below _ _ _ _ _ (le_refl _) c.pieces.invariant.within) ∙ ap (λ n. take n buf) (sym w.got-is))
            (Consumes-kept _ _ _ _ c.pieces.invariant.consumed w.in-Err.ensures.bytes)
      ];
    }
