-- The frames that are not claimed: how many there are, and what a claim and a release leave of their list.
use Rattle.std.proofs.Common.{ℕ, zero, suc, ◌≡◌, ◌≢◌, ◌+◌, ◌-◌, ◌<◌, ◌≤◌, ◌==◌, Bool, true, false, List, [], ◌∷◌, length, get_or, set, replicate, refl, sym}
use Rattle.std.proofs.Common.{◌∙◌, ap, arith}
use Rattle.std.proofs.lemmas.Bool.{false≢true}
use Rattle.std.proofs.lemmas.Bool.Decides.{nat_tests}
use Rattle.std.proofs.lemmas.List.{get_or-replicate, get_or-set_other}
use Rattle.std.specs.Prelude.{if◌then◌else◌}
use Rattle.vm_base.specs.declared.ids.FrameNo.{FrameNo}
use Rattle.vm_frames.specs.Frames.{count_claims}
use Rattle.vm_frames.specs.Kept.{AreSpare, frames_from, is_listed}

pub claim_there : (marks : List Bool) (f : ℕ) → get_or marks f true ≡ false → f < length marks
claim_there [] f is = absurd (cc)
claim_there (mark ∷ marks) zero is = omega arith
claim_there (mark ∷ marks) (suc f) is = omega (arith, claim_there marks f is)

pub mark_there : (marks : List Bool) (f : ℕ) → get_or marks f false ≡ true → f < length marks
mark_there [] f is = absurd (cc)
mark_there (mark ∷ marks) zero is = omega arith
mark_there (mark ∷ marks) (suc f) is = omega (arith, mark_there marks f is)

pub unclaimed : (marks : List Bool) (f : ℕ) → get_or marks f true ≡ false → get_or marks f false ≡ false
unclaimed [] f is = refl
unclaimed (mark ∷ marks) zero is = is
unclaimed (mark ∷ marks) (suc f) is = unclaimed marks f is

pub count_claimed : (marks : List Bool) (f : ℕ) → get_or marks f true ≡ false → count_claims (set marks f true) ≡ suc (count_claims marks)
count_claimed [] f is = absurd (cc)
count_claimed (mark ∷ marks) zero is = rw is refl
count_claimed (true ∷ marks) (suc f) is = ap suc (count_claimed marks f is)
count_claimed (false ∷ marks) (suc f) is = count_claimed marks f is

pub count_released : (marks : List Bool) (f : ℕ) → get_or marks f false ≡ true → count_claims marks ≡ suc (count_claims (set marks f false))
count_released [] f is = absurd (cc)
count_released (mark ∷ marks) zero is = rw is refl
count_released (true ∷ marks) (suc f) is = ap suc (count_released marks f is)
count_released (false ∷ marks) (suc f) is = count_released marks f is

pub mark_set : (marks : List Bool) (f other : ℕ) (mark : Bool) → f < length marks
    → get_or (set marks f mark) other false ≡ (if f == other then mark else get_or marks other false)
mark_set [] f other mark inside = absurd (omega arith)
mark_set (x ∷ marks) zero zero mark inside = grind (arith, nat_tests)
mark_set (x ∷ marks) zero (suc other) mark inside = grind (arith, nat_tests)
mark_set (x ∷ marks) (suc f) zero mark inside = grind (arith, nat_tests)
mark_set (x ∷ marks) (suc f) (suc other) mark inside = let rest = mark_set marks f other mark (omega arith) in grind (arith, nat_tests)

not_both : (marks : List Bool) (f : ℕ) → get_or marks f false ≡ true → get_or marks f true ≡ false → true ≡ false
not_both [] f is not = sym is
not_both (mark ∷ marks) zero is not = sym is ∙ not
not_both (mark ∷ marks) (suc f) is not = not_both marks f is not

-- a claimed frame is not spare
pub not_spare : (marks : List Bool) (f : ℕ) (fs : List FrameNo) → get_or marks f false ≡ true → AreSpare marks fs → is_listed f fs ≡ false
not_spare marks f [] is spare = refl
not_spare marks f (g ∷ fs) is spare =
    let rest = not_spare marks f fs is spare.2 in
    let apart : g.0 ≢ f = λ same. false≢true (sym (not_both marks f is (rw same at spare.0))) in
    grind (arith, nat_tests)

-- a mark of a frame that is not spare may change
pub spare_kept : (marks : List Bool) (f : ℕ) (mark : Bool) (fs : List FrameNo) → is_listed f fs ≡ false → AreSpare marks fs → AreSpare (set marks f mark) fs
spare_kept marks f mark [] apart spare = tt
spare_kept marks f mark (g ∷ fs) apart spare =
    let other : g.0 ≢ f = grind (arith, nat_tests) in
    let others : is_listed f fs ≡ false = grind (arith, nat_tests) in
    (rw (get_or-set_other marks f g.0 mark true other) spare.0, spare.1, spare_kept marks f mark fs others spare.2)

pub lower_not_listed : (f low n : ℕ) → f < low → is_listed f (frames_from low n) ≡ false
lower_not_listed f low zero less = refl
lower_not_listed f low (suc n) less = let rest = lower_not_listed f (suc low) n (omega arith) in grind (arith, nat_tests)

pub all_spare : (low n most : ℕ) → low + n ≤ most → AreSpare (replicate most false) (frames_from low n)
all_spare low zero most within = tt
all_spare low (suc n) most within =
    (get_or-replicate most low false true (omega arith), lower_not_listed low (suc low) n (omega arith), all_spare (suc low) n most (omega arith))

pub frames_more : (low next n : ℕ) (front : List FrameNo) → next ≡ suc low → next ≤ n → front ≡ frames_from next (n - next)
    → (record { 0 = low }) ∷ front ≡ frames_from low (n - low)
frames_more low next n front after within is =
    let count : n - low ≡ suc (n - next) = omega arith in
    rw (count, is, after) refl

pub count_all : (low n : ℕ) → length (frames_from low n) ≡ n
count_all low zero = refl
count_all low (suc n) = ap suc (count_all (suc low) n)

pub count_none : (n : ℕ) → count_claims (replicate n false) ≡ 0
count_none zero = refl
count_none (suc n) = count_none n
