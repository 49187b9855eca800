-- The lines of accesses in an order of tasks, one task after another.
use Rattle.std.proofs.Common.{◌≡◌, ℕ, ◌+◌, ◌<◌, ◌≤◌, suc, List, [], ◌∷◌, ◌++◌, length, take}
use Rattle.std.proofs.Common.{drop, get_or, reverse, refl, ap, sym, ◌∙◌, append_assoc, append-nil, arith, slice_get, Some, None}
use Rattle.std.proofs.Math.Seq.{drop-cons}
use Rattle.std.proofs.lemmas.List.{reverse-append, take_more, drop_all}
use Rattle.vm_free.specs.Orders.{occurrences}
use Rattle.vm_free.proofs.Orders.{occurrences-reverse}
use Rattle.vm_litmus.specs.Parts.{accesses_by, lines_from, lines_of, with_line}
use Rattle.vm_litmus.specs.declared.parts.FreeAccess.{FreeAccess}

-- the lines of what goes behind the first tasks of an order
pub lines_behind : List FreeAccess → List ℕ → ℕ → List ℕ
lines_behind accesses order i = lines_from accesses (reverse (take i order)) (drop i order)

pub behind_none : (accesses : List FreeAccess) (order : List ℕ) → [] ++ lines_behind accesses order 0 ≡ lines_of accesses order
unfolding lines_behind
behind_none accesses order = refl

pub behind_all : (accesses : List FreeAccess) (order found : List ℕ) (i : ℕ) → length order ≤ i
    → found ++ lines_behind accesses order i ≡ lines_of accesses order → found ≡ lines_of accesses order
unfolding lines_behind
behind_all accesses order found i end is =
    sym (append-nil found) ∙ (ap (λ z. found ++ lines_from accesses (reverse (take i order)) z) (sym (drop_all i order end)) ∙ is)

behind_step : (accesses : List FreeAccess) (order : List ℕ) (i : ℕ) → i < length order
    → lines_behind accesses order i ≡ with_line (slice_get (accesses_by (get_or order i 0) accesses) (occurrences (get_or order i 0) (take i order)))
    (lines_behind accesses order (i + 1))
unfolding lines_behind
behind_step accesses order i inside =
    let t = get_or order i 0 in
    let gone = reverse (take i order) in
    let next : suc i ≡ i + 1 = omega arith in
    let now : drop i order ≡ t ∷ drop (i + 1) order = drop-cons order i 0 inside ∙ ap (λ z. t ∷ drop z order) next in
    let went : t ∷ gone ≡ reverse (take (i + 1) order) = sym (ap reverse (take_more order i 0 inside) ∙ reverse-append (take i order) (t ∷ [])) in
    ap (λ z. lines_from accesses gone z) now
    ∙ (ap (λ z. with_line (slice_get (accesses_by t accesses) z) (lines_from accesses (t ∷ gone) (drop (i + 1) order))) (occurrences-reverse t (take i order))
    ∙ ap (λ z. with_line (slice_get (accesses_by t accesses) (occurrences t (take i order))) (lines_from accesses z (drop (i + 1) order))) went)

pub lines_more : (accesses : List FreeAccess) (order found : List ℕ) (i : ℕ) (access : FreeAccess) → i < length order
    → slice_get (accesses_by (get_or order i 0) accesses) (occurrences (get_or order i 0) (take i order)) ≡ Some access
    → found ++ lines_behind accesses order i ≡ lines_of accesses order
    → (found ++ access.line ∷ []) ++ lines_behind accesses order (i + 1) ≡ lines_of accesses order
lines_more accesses order found i access inside here is =
    let left = lines_behind accesses order (i + 1) in
    append_assoc found (access.line ∷ []) left
    ∙ (ap (λ z. found ++ z) (sym (behind_step accesses order i inside ∙ ap (λ z. with_line z left) here)) ∙ is)

pub lines_same : (accesses : List FreeAccess) (order found : List ℕ) (i : ℕ) → i < length order
    → slice_get (accesses_by (get_or order i 0) accesses) (occurrences (get_or order i 0) (take i order)) ≡ None
    → found ++ lines_behind accesses order i ≡ lines_of accesses order → found ++ lines_behind accesses order (i + 1) ≡ lines_of accesses order
lines_same accesses order found i inside here is =
    let left = lines_behind accesses order (i + 1) in
    ap (λ z. found ++ z) (sym (behind_step accesses order i inside ∙ ap (λ z. with_line z left) here)) ∙ is
