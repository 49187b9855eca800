-- Lines and words from the front on.
use Rattle.std.proofs.Common.{◌≡◌, ℕ, zero, suc, ◌+◌, ◌<◌, ◌≤◌, Bool, true, false, not, cond, List, [], ◌∷◌, length, take, drop, length-drop, ◌-◌, Option, Some}
use Rattle.std.proofs.Common.{None, MatchOption, refl, ap, sym, ◌∙◌, arith, ◌⊎◌, inl, inr, add-one, one-add}
use Rattle.std.proofs.lemmas.List.{take_all, drop_all}
use Rattle.std.proofs.lemmas.Bool.Decides.{nat_tests}
use Rattle.std.specs.List.{position, position_or_len}
use Rattle.vm_text.specs.Words.{onto, pieces, is_line_feed, is_space, without_last, lines_of, without_empty_words, words_of, HasNoSpaceInFront}

both : (t : Bool) → (t ≡ true) ⊎ (t ≡ false)
both true = inl refl
both false = inr refl

stepped : (parts : ℕ → Bool) (b : ℕ) (bs : List ℕ) (n m : ℕ) → m ≡ suc n
    → onto b (take n bs ∷ pieces parts (drop (n + 1) bs)) ≡ take m (b ∷ bs) ∷ pieces parts (drop (m + 1) (b ∷ bs))
stepped parts b bs n m is = rw (is, add-one, add-one) refl

-- the first piece, where a byte parts it from the others
pub parted : (parts : ℕ → Bool) (bytes : List ℕ) → position_or_len parts bytes < length bytes
    → pieces parts bytes ≡ take (position_or_len parts bytes) bytes ∷ pieces parts (drop (position_or_len parts bytes + 1) bytes)
parted parts [] less = absurd (omega arith)
parted parts (b ∷ bs) less = elim (both (parts b)) [
  | inl is ↦ rw is refl
  | inr isnt ↦
      let n = position_or_len parts bs in
      let here : position_or_len parts (b ∷ bs) ≡ suc n = rw isnt (omega arith) in
      let inside : n < length bs = omega (arith, here) in
      rw (isnt, parted parts bs inside) (stepped parts b bs n _ (omega arith))
]

-- the one piece
pub unparted : (parts : ℕ → Bool) (bytes : List ℕ) → length bytes ≤ position_or_len parts bytes → pieces parts bytes ≡ bytes ∷ []
unparted parts [] past = refl
unparted parts (b ∷ bs) past = elim (both (parts b)) [
  | inl is ↦ let here : position_or_len parts (b ∷ bs) ≡ 0 = rw is refl in absurd (omega (arith, here))
  | inr isnt ↦
      let here : position_or_len parts (b ∷ bs) ≡ suc (position_or_len parts bs) = rw isnt (omega arith) in
      rw (isnt, unparted parts bs (omega (arith, here))) refl
]

-- what a position says
pub placed : (parts : ℕ → Bool) (bytes : List ℕ) (r : Option ℕ) → r ≡ position parts bytes
    → MatchOption r (length bytes ≤ position_or_len parts bytes) (λ i. (i ≡ position_or_len parts bytes) × (i < length bytes))
placed parts bytes None is = grind (arith, nat_tests)
placed parts bytes (Some i) is = grind (arith, nat_tests)

from_there : (n : ℕ) (bytes : List ℕ) → take (length bytes - n) (drop n bytes) ≡ drop n bytes
from_there n bytes = take_all (length bytes - n) (drop n bytes) (omega (arith, length-drop n bytes))

pub cut_at : (parts : ℕ → Bool) (bytes : List ℕ) (r : Option ℕ) → r ≡ position parts bytes
    → MatchOption r (pieces parts bytes ≡ bytes ∷ []) (λ i. (i < length bytes)
    × (pieces parts bytes ≡ take i bytes ∷ pieces parts (take (length bytes - (i + 1)) (drop (i + 1) bytes))))
cut_at parts bytes None is = unparted parts bytes (placed parts bytes None is)
cut_at parts bytes (Some i) is =
    let place = placed parts bytes (Some i) is in
    (place.1, rw (from_there (i + 1) bytes, place.0) (parted parts bytes (omega (arith, place.1, place.0))))

skipped_on : (b : ℕ) (bs : List ℕ) (t : Bool) → is_space b ≡ t
    → (words_of (drop (position_or_len (λ b. not (is_space b)) bs) bs) ≡ words_of bs) × HasNoSpaceInFront (drop (position_or_len (λ b. not (is_space b)) bs) bs)
    → (words_of (drop (position_or_len (λ b. not (is_space b)) (b ∷ bs)) (b ∷ bs)) ≡ words_of (b ∷ bs))
    × HasNoSpaceInFront (drop (position_or_len (λ b. not (is_space b)) (b ∷ bs)) (b ∷ bs))
skipped_on b bs true is more =
    let n = position_or_len (λ b. not (is_space b)) bs in
    let here : drop (position_or_len (λ b. not (is_space b)) (b ∷ bs)) (b ∷ bs) ≡ drop n bs = rw (is, one-add) refl in
    let words : words_of (b ∷ bs) ≡ words_of bs = rw is refl in
    rw (here, words) more
skipped_on b bs false is more =
    let here : drop (position_or_len (λ b. not (is_space b)) (b ∷ bs)) (b ∷ bs) ≡ b ∷ bs = rw is refl in
    rw here (refl, is)

pub skipped : (bytes : List ℕ) → (words_of (drop (position_or_len (λ b. not (is_space b)) bytes) bytes) ≡ words_of bytes)
    × HasNoSpaceInFront (drop (position_or_len (λ b. not (is_space b)) bytes) bytes)
skipped [] = (refl, tt)
skipped (b ∷ bs) = skipped_on b bs (is_space b) refl (skipped bs)

pub word_first : (text : List ℕ) (r : Option ℕ) → HasNoSpaceInFront text → 0 < length text → r ≡ position is_space text
    → MatchOption r (words_of text ≡ text ∷ []) (λ i. (i < length text)
    × (words_of text ≡ take i text ∷ words_of (take (length text - (i + 1)) (drop (i + 1) text))))
word_first [] r leads some is = absurd (omega arith)
word_first (b ∷ bs) None leads some is = ap without_empty_words (cut_at is_space (b ∷ bs) None is)
word_first (b ∷ bs) (Some zero) leads some is =
    let place = placed is_space (b ∷ bs) (Some zero) is in
    let here : position_or_len is_space (b ∷ bs) ≡ 1 + position_or_len is_space bs = rw leads refl in
    absurd (omega (arith, place.0, here))
word_first (b ∷ bs) (Some (suc i)) leads some is =
    let both = cut_at is_space (b ∷ bs) (Some (suc i)) is in
    (both.0, ap without_empty_words both.1)

last_of : (line : List ℕ) → 0 < length line → without_last (line ∷ []) ≡ line ∷ []
last_of [] some = absurd (omega arith)
last_of (b ∷ bs) some = refl

pub only_line : (bytes : List ℕ) → 0 < length bytes → pieces is_line_feed bytes ≡ bytes ∷ [] → lines_of bytes ≡ bytes ∷ []
only_line bytes some is = rw is (last_of bytes some)

more_of : (line : List ℕ) (rest : List (List ℕ)) → 0 < length rest → without_last (line ∷ rest) ≡ line ∷ without_last rest
more_of line [] some = absurd (omega arith)
more_of [] (piece ∷ rest) some = refl
more_of (b ∷ bs) (piece ∷ rest) some = refl

some_onto : (b : ℕ) (rest : List (List ℕ)) → 0 < length (onto b rest)
some_onto b [] = omega arith
some_onto b (piece ∷ rest) = omega arith

pub some_piece : (parts : ℕ → Bool) (bytes : List ℕ) → 0 < length (pieces parts bytes)
some_piece parts [] = omega arith
some_piece parts (b ∷ bs) =
    elim (parts b) as (λ t. 0 < length (cond t ([] ∷ pieces parts bs) (onto b (pieces parts bs))))
    [ true ↦ omega arith | false ↦ some_onto b (pieces parts bs) ]

pub first_line : (bytes line rest : List ℕ) → pieces is_line_feed bytes ≡ line ∷ pieces is_line_feed rest → lines_of bytes ≡ line ∷ lines_of rest
first_line bytes line rest is = rw is (more_of line (pieces is_line_feed rest) (some_piece is_line_feed rest))

pub all_spaces : (bytes : List ℕ) → position (λ b. not (is_space b)) bytes ≡ None → words_of bytes ≡ []
all_spaces bytes is =
    let past = placed (λ b. not (is_space b)) bytes None (sym is) in
    let none : drop (position_or_len (λ b. not (is_space b)) bytes) bytes ≡ [] = drop_all (position_or_len (λ b. not (is_space b)) bytes) bytes past in
    sym (skipped bytes).0 ∙ rw none refl

-- the line from its first word on
pub from_first : (bytes : List ℕ) (i : ℕ) → position (λ b. not (is_space b)) bytes ≡ Some i
    → (words_of (take (length bytes - i) (drop i bytes)) ≡ words_of bytes) × HasNoSpaceInFront (take (length bytes - i) (drop i bytes))
from_first bytes i is =
    let place = placed (λ b. not (is_space b)) bytes (Some i) (sym is) in
    rw (from_there i bytes, place.0) (skipped bytes)
