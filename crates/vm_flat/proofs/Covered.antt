-- Which objects are files, or temporary ones of which the outside tells what they hold.
use Rattle.std.proofs.Common.{◌≡◌, ◌<◌, ℕ, ◌≤◌, List, arith, Bool, true, false, None, refl, ◌∙◌, sym, subst, ap}
use Rattle.std.proofs.lemmas.Bool.Decides.{nat_tests}
use Rattle.std.specs.Prelude.{◌&&◌, ◌||◌, not, nat_lt}
use Rattle.vm_flat.proofs.Deeds.{Ground, Deed, is_file, told, covered, stem}

or_false : (a : Bool) → (a || false) ≡ a
or_false true = refl
or_false false = refl

-- of a temporary object the stem decides
pub covered_late : (z : Ground) (o : ℕ) (past : List Deed) → z.named ≤ o → covered z o past ≡ (z.paging && told z (stem z o past))
covered_late z o past late =
    let no : nat_lt o z.named ≡ false = grind (arith, nat_tests) in
    subst (λ (b : Bool). ((not b && (z.paging && told z (stem z o past))) || (b && z.file o)) ≡ (z.paging && told z (stem z o past))) (sym no)
    (or_false (z.paging && told z (stem z o past)))

pub covered_same : (z : Ground) (o : ℕ) (past now : List Deed) → stem z o now ≡ stem z o past → covered z o now ≡ covered z o past
covered_same z o past now same = ap (λ s. (not (nat_lt o z.named) && (z.paging && told z s)) || (nat_lt o z.named && z.file o)) same

pub covered_alike : (z : Ground) (o u : ℕ) (past now : List Deed) → z.named ≤ o → z.named ≤ u → stem z o past ≡ stem z u now
    → covered z o past ≡ covered z u now
covered_alike z o u past now late too same =
    covered_late z o past late ∙ ap (λ s. z.paging && told z s) same ∙ sym (covered_late z u now too)

pub covered_fresh : (z : Ground) (o : ℕ) (past : List Deed) → z.named ≤ o → stem z o past ≡ None → z.paging ≡ true → covered z o past ≡ true
covered_fresh z o past late none paging =
    covered_late z o past late ∙ ap (λ s. z.paging && told z s) none ∙ (let is : (z.paging && true) ≡ true = grind arith in is)

pub covered_paging : (z : Ground) (o : ℕ) (past : List Deed) → z.named ≤ o → covered z o past ≡ true → z.paging ≡ true
covered_paging z o past late ours = let is : (z.paging && told z (stem z o past)) ≡ true = sym (covered_late z o past late) ∙ ours in grind arith

pub covered_file : (z : Ground) (o : ℕ) (past : List Deed) → is_file z o ≡ true → covered z o past ≡ true
covered_file z o past file =
    let all : (a b c : Bool) → (a && b) ≡ true → ((not a && c) || (a && b)) ≡ true = λ a b c is. grind arith in
    all (nat_lt o z.named) (z.file o) (z.paging && told z (stem z o past)) file

pub file_declared : (z : Ground) (o : ℕ) → is_file z o ≡ true → o < z.named
file_declared z o file = grind (arith, nat_tests)
