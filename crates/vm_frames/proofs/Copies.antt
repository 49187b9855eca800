-- A page is copied over another one, which stands in front of it or behind it.
use Rattle.std.proofs.Common.{ℕ, ◌≡◌, ◌-◌, ◌<◌, List, [], ◌++◌, get_or, length, replicate, set, ap, sym, ◌∙◌, arith, append-nil, length-append}
use Rattle.std.proofs.lemmas.List.{get_or-append_right, get_or_append_left, get_or_read, set-append_left, set-append_right}

-- the pages as two parts, with the page that is read and the page that is written
pub record Parted (pages front back : List (List ℕ)) (middle : ℕ) : Type 0 where
  pub whole : pages ≡ front ++ back
  pub seam : length front ≡ middle
  pub inside : middle < length pages

-- a page that is filled with as many bytes has these alone
filled_whole : (was source now : List ℕ) → now ≡ source ++ replicate (length was - length source) 0 → length source ≡ length was → now ≡ source
filled_whole was source now is long =
    let none : length was - length source ≡ 0 = omega arith in
    is ∙ (ap (λ n. source ++ replicate n 0) none ∙ append-nil source)

in_front : (pages front back : List (List ℕ)) (middle i : ℕ) (page : List ℕ) → Parted pages front back middle → i < middle → page ≡ get_or front i page
    → page ≡ get_or pages i []
in_front pages front back middle i page parted less is =
    let below : i < length front = omega (arith, parted.seam) in
    get_or_read front i page below is [] ∙ sym (ap (λ z. get_or z i []) parted.whole ∙ get_or_append_left front back [] i below)

at_seam : (pages front back : List (List ℕ)) (middle : ℕ) (page : List ℕ) → Parted pages front back middle → page ≡ get_or back 0 page
    → page ≡ get_or pages middle []
at_seam pages front back middle page parted is =
    let whole = ap length parted.whole ∙ length-append front back in
    let some : 0 < length back = omega (arith, whole, parted.seam, parted.inside) in
    let first : middle - middle ≡ 0 = omega arith in
    get_or_read back 0 page some is [] ∙ sym (ap (λ z. get_or z middle []) parted.whole
    ∙ (get_or-append_right front back middle middle [] parted.seam (omega arith) ∙ ap (λ z. get_or back z []) first))

-- the page at the seam is written
pub copied_behind : (pages front back : List (List ℕ)) (from to : ℕ) (was source now : List ℕ) → Parted pages front back to → from < to
    → was ≡ get_or back 0 was → source ≡ get_or front from source
    → length (get_or pages from []) ≡ length (get_or pages to []) → now ≡ source ++ replicate (length was - length source) 0
    → front ++ set back 0 now ≡ set pages to (get_or pages from [])
copied_behind pages front back from to was source now parted less was_is source_is sized now_is =
    let written = at_seam pages front back to was parted was_is in
    let read = in_front pages front back to from source parted less source_is in
    let same = filled_whole was source now now_is (ap length read ∙ (sized ∙ sym (ap length written))) in
    let first : to - to ≡ 0 = omega arith in
    sym (ap (λ z. set z to (get_or pages from [])) parted.whole
    ∙ (set-append_right front back to to (get_or pages from []) parted.seam (omega arith)
    ∙ (ap (λ z. front ++ set back z (get_or pages from [])) first ∙ ap (λ z. front ++ set back 0 z) (sym (same ∙ read)))))

-- the page at the seam is read
pub copied_ahead : (pages front back : List (List ℕ)) (from to : ℕ) (was source now : List ℕ) → Parted pages front back from → to < from
    → was ≡ get_or front to was → source ≡ get_or back 0 source
    → length (get_or pages from []) ≡ length (get_or pages to []) → now ≡ source ++ replicate (length was - length source) 0
    → set front to now ++ back ≡ set pages to (get_or pages from [])
copied_ahead pages front back from to was source now parted less was_is source_is sized now_is =
    let written = in_front pages front back from to was parted less was_is in
    let read = at_seam pages front back from source parted source_is in
    let same = filled_whole was source now now_is (ap length read ∙ (sized ∙ sym (ap length written))) in
    sym (ap (λ z. set z to (get_or pages from [])) parted.whole
    ∙ (set-append_left front back to (get_or pages from []) (omega (arith, parted.seam)) ∙ ap (λ z. set front to z ++ back) (sym (same ∙ read))))
