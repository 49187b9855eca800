-- What a claim and a release leave of the frames.
use Rattle.std.proofs.Common.{ℕ, ◌≡◌, ◌<◌, ◌≤◌, ◌^◌, Bool, true, false, List, [], ◌∷◌, ◌++◌, get_or, set, replicate, reverse, refl, arith}
use Rattle.std.proofs.lemmas.Bool.Decides.{nat_tests}
use Rattle.std.proofs.lemmas.List.{get_or-set_same, length-replicate, length-set, reverse-append}
use Rattle.vm_base.specs.declared.ids.FrameNo.{FrameNo}
use Rattle.vm_frames.specs.Frames.{Claims, FrameTable, Releases, claimed, free, is_claimed}
use Rattle.vm_frames.specs.Kept.{AreFrames, frame_table, frames_from}
use Rattle.vm_frames.proofs.Spares.{all_spare, claim_there, count_all, count_claimed, count_none, count_released, mark_set, mark_there, not_spare, spare_kept}
use Rattle.vm_frames.proofs.Spares.{unclaimed}

pub reverse_push : (old new : List FrameNo) (f : FrameNo) → new ≡ old ++ f ∷ [] → reverse new ≡ f ∷ reverse old
reverse_push old new f is = rw is (reverse-append old (f ∷ []))

pub new_kept : (n most : ℕ) (size : List ℕ) (rest : List FrameNo) → rest ≡ frames_from 0 n → n ≤ most → n < 2 ^ 32
    → AreFrames (replicate n size) (replicate n false) rest most 0
new_kept n most size rest is room few =
    let pages = length-replicate n size in
    let marks = length-replicate n false in
    let all = count_all 0 n in
    let none = count_none n in
    rw is record {
      pages = omega (arith, pages, marks);
      spare = all_spare 0 n n (omega arith);
      counted = omega (arith, all, none, marks);
      wired = omega arith;
      room = omega (arith, marks);
      few = omega (arith, marks);
    }

pub roomier : (all : List (List ℕ)) (marks : List Bool) (rest : List FrameNo) (most more out : ℕ) → AreFrames all marks rest most out → most ≤ more
    → AreFrames all marks rest more out
roomier all marks rest most more out kept le =
    record { pages = kept.pages; spare = kept.spare; counted = kept.counted; wired = kept.wired; room = omega (arith, kept.room); few = kept.few }

pub claim_kept : (all : List (List ℕ)) (marks : List Bool) (rest : List FrameNo) (most out : ℕ) (f : FrameNo) (table : FrameTable)
    → AreFrames all marks (f ∷ rest) most out → frame_table all marks out ≡ table → 0 < free table
    → AreFrames all (set marks f.0 true) rest most out
claim_kept all marks rest most out f table kept view some =
    let more = count_claimed marks f.0 kept.spare.0 in
    let long = length-set marks f.0 true in
    let some : 0 < free (frame_table all marks out) = rw (← view) at some in
    let counted = kept.counted in
    record {
      pages = omega (arith, kept.pages, long);
      spare = spare_kept marks f.0 true rest kept.spare.1 kept.spare.2;
      counted = omega (arith, counted, more, long);
      wired = omega (arith, counted, some, kept.wired);
      room = omega (arith, kept.room, long);
      few = omega (arith, kept.few, long);
    }

pub claims : (all : List (List ℕ)) (marks : List Bool) (rest : List FrameNo) (most out : ℕ) (f : FrameNo) (table : FrameTable)
    → AreFrames all marks (f ∷ rest) most out → frame_table all marks out ≡ table → 0 < free table
    → Claims f.0 table (frame_table all (set marks f.0 true) out)
claims all marks rest most out f table kept view some =
    let inside = claim_there marks f.0 kept.spare.0 in
    let more = count_claimed marks f.0 kept.spare.0 in
    let long = length-set marks f.0 true in
    let some : 0 < free (frame_table all marks out) = rw (← view) at some in
    rw (← view) record {
      inside = inside;
      fresh = unclaimed marks f.0 kept.spare.0;
      is = refl;
      holds = λ other. let set_there = mark_set marks f.0 other true inside in grind (arith, nat_tests, set_there);
      count = more;
      left = omega (arith, some, more, long);
    }

pub release_kept : (all : List (List ℕ)) (marks : List Bool) (rest : List FrameNo) (most out : ℕ) (f : FrameNo) → AreFrames all marks rest most out
    → get_or marks f.0 false ≡ true
    → AreFrames all (set marks f.0 false) (f ∷ rest) most out
release_kept all marks rest most out f kept is =
    let less = count_released marks f.0 is in
    let long = length-set marks f.0 false in
    let inside = mark_there marks f.0 is in
    let apart = not_spare marks f.0 rest is kept.spare in
    record {
      pages = omega (arith, kept.pages, long);
      spare = (get_or-set_same marks f.0 false true inside, apart, spare_kept marks f.0 false rest apart kept.spare);
      counted = omega (arith, kept.counted, less, long);
      wired = omega (arith, kept.wired);
      room = omega (arith, kept.room, long);
      few = omega (arith, kept.few, long);
    }

pub releases : (all : List (List ℕ)) (marks : List Bool) (rest : List FrameNo) (most out : ℕ) (f : FrameNo) (table : FrameTable)
    → AreFrames all marks rest most out → frame_table all marks out ≡ table → is_claimed table f.0 ≡ true
    → Releases f.0 table (frame_table all (set marks f.0 false) out)
releases all marks rest most out f table kept view claimed =
    let is : get_or marks f.0 false ≡ true = rw (← view) at claimed in
    let inside = mark_there marks f.0 is in
    let less = count_released marks f.0 is in
    let long = length-set marks f.0 false in
    rw (← view) record {
      is = refl;
      holds = λ other. let set_there = mark_set marks f.0 other false inside in grind (arith, nat_tests, set_there);
      count = less;
      left = omega (arith, kept.counted, kept.wired, less, long);
    }
