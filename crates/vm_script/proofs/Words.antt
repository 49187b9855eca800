-- The words of a spelled line are those that it was spelled from, and the lines of a text those that were put.
use Rattle.std.proofs.Common.{◌≡◌, ℕ, ◌*◌, ◌<◌, ◌≤◌, Bool, true, false, ◌&&◌, nat_lt, List, [], ◌∷◌, ◌++◌, length, length-append, refl, ap, ◌∙◌, arith}
use Rattle.std.proofs.Common.{append_assoc}
use Rattle.std.proofs.lemmas.Bool.Decides.{nat_tests}
use Rattle.std.specs.List.{flat_map}
use Rattle.vm_script.specs.Text.{spaced, spelled}
use Rattle.vm_text.specs.Words.{pieces, is_line_feed, is_space, without_last, lines_of, without_empty_words, words_of}

-- no byte of it parts words or lines
abbrev pub IsBlack : List ℕ → Type 0
IsBlack [] = Unit {0}
IsBlack (byte ∷ bytes) = (32 < byte) × IsBlack bytes

abbrev pub is_black : List ℕ → Bool
is_black [] = true
is_black (byte ∷ bytes) = nat_lt 32 byte && is_black bytes

pub black : (bytes : List ℕ) → is_black bytes ≡ true → IsBlack bytes
black [] is = tt
black (byte ∷ bytes) is = (first byte (is_black bytes) is, black bytes (others (nat_lt 32 byte) (is_black bytes) is))
  where
    first : (byte : ℕ) (t : Bool) → (nat_lt 32 byte && t) ≡ true → 32 < byte
    first byte t is = grind (arith, nat_tests)

    others : (s t : Bool) → (s && t) ≡ true → t ≡ true
    others true t is = is
    others false t is = cc

pub black_append : (front behind : List ℕ) → IsBlack front → IsBlack behind → IsBlack (front ++ behind)
black_append [] behind one other = other
black_append (byte ∷ bytes) behind one other = (one.0, black_append bytes behind one.1 other)

-- a word, of at most ten bytes
pub record IsWord (word : List ℕ) : Type 0 where
  pub black : IsBlack word
  pub some : 0 < length word
  pub short : length word ≤ 10

abbrev pub AllWords : List (List ℕ) → Type 0
AllWords [] = Unit {0}
AllWords (word ∷ words) = IsWord word × AllWords words

-- a line's words, of which there is one at least
abbrev pub AreWords : List (List ℕ) → Type 0
AreWords [] = ⊥
AreWords (word ∷ words) = IsWord word × AllWords words

-- ---- words

no_space : (byte : ℕ) → 32 < byte → is_space byte ≡ false
no_space byte less = grind (arith, nat_tests)

cut_behind : (word rest : List ℕ) → IsBlack word → pieces is_space (word ++ 32 ∷ rest) ≡ word ∷ pieces is_space rest
cut_behind [] rest is = refl
cut_behind (byte ∷ bytes) rest is = rw (no_space byte is.0, cut_behind bytes rest is.1) refl

uncut : (word : List ℕ) → IsBlack word → pieces is_space word ≡ word ∷ []
uncut [] is = refl
uncut (byte ∷ bytes) is = rw (no_space byte is.0, uncut bytes is.1) refl

words_behind : (word rest : List ℕ) → IsWord word → words_of (word ++ 32 ∷ rest) ≡ word ∷ words_of rest
words_behind [] rest is = absurd (omega (arith, is.some))
words_behind (byte ∷ bytes) rest is = ap without_empty_words (cut_behind (byte ∷ bytes) rest is.black)

word_alone : (word : List ℕ) → IsWord word → words_of word ≡ word ∷ []
word_alone [] is = absurd (omega (arith, is.some))
word_alone (byte ∷ bytes) is = ap without_empty_words (uncut (byte ∷ bytes) is.black)

append_nil : (xs : List ℕ) → xs ++ [] ≡ xs
append_nil [] = refl
append_nil (x ∷ xs) = ap (λ z. x ∷ z) (append_nil xs)

words_of_line : (word : List ℕ) (words : List (List ℕ)) → IsWord word → AllWords words → words_of (word ++ flat_map spaced words) ≡ word ∷ words
words_of_line word [] is all = ap words_of (append_nil word) ∙ word_alone word is
words_of_line word (more ∷ words) is all =
    words_behind word (more ++ flat_map spaced words) is ∙ ap (λ z. word ∷ z) (words_of_line more words all.0 all.1)

pub words_spelled : (words : List (List ℕ)) → AreWords words → words_of (spelled words) ≡ words
words_spelled [] is = absurd is
words_spelled (word ∷ words) is = words_of_line word words is.0 is.1

-- ---- lines

abbrev IsUnbroken : List ℕ → Type 0
IsUnbroken [] = Unit {0}
IsUnbroken (byte ∷ bytes) = (is_line_feed byte ≡ false) × IsUnbroken bytes

no_feed : (byte : ℕ) → 32 ≤ byte → is_line_feed byte ≡ false
no_feed byte less = grind (arith, nat_tests)

unbroken_behind : (word rest : List ℕ) → IsBlack word → IsUnbroken rest → IsUnbroken (word ++ rest)
unbroken_behind [] rest is more = more
unbroken_behind (byte ∷ bytes) rest is more = (no_feed byte (omega (arith, is.0)), unbroken_behind bytes rest is.1 more)

unbroken_words : (words : List (List ℕ)) → AllWords words → IsUnbroken (flat_map spaced words)
unbroken_words [] all = tt
unbroken_words (word ∷ words) all =
    (no_feed 32 (omega arith), unbroken_behind word (flat_map spaced words) all.0.black (unbroken_words words all.1))

ended : (line rest : List ℕ) → IsUnbroken line → pieces is_line_feed (line ++ 10 ∷ rest) ≡ line ∷ pieces is_line_feed rest
ended [] rest is = refl
ended (byte ∷ bytes) rest is = rw (is.0, ended bytes rest is.1) refl

line_first : (line rest : List ℕ) → IsUnbroken line → 0 < length line → lines_of (line ++ 10 ∷ rest) ≡ line ∷ lines_of rest
line_first [] rest is some = absurd (omega (arith, some))
line_first (byte ∷ bytes) rest is some = ap without_last (ended (byte ∷ bytes) rest is)

pub line_spelled : (words : List (List ℕ)) (rest : List ℕ) → AreWords words
    → lines_of ((spelled words ++ 10 ∷ []) ++ rest) ≡ spelled words ∷ lines_of rest
line_spelled [] rest is = absurd is
line_spelled (word ∷ words) rest is =
    let line = word ++ flat_map spaced words in
    ap lines_of (append_assoc line (10 ∷ []) rest)
    ∙ line_first line rest (unbroken_behind word (flat_map spaced words) is.0.black (unbroken_words words is.1))
    (rw length-append (omega (arith, is.0.some)))

-- ---- lengths

length_words : (words : List (List ℕ)) → AllWords words → length (flat_map spaced words) ≤ 11 * length words
length_words [] all = omega arith
length_words (word ∷ words) all =
    let short : length word ≤ 10 = all.0.short in
    let more = length_words words all.1 in
    rw length-append (omega (arith, short, more))

pub length_spelled : (words : List (List ℕ)) → AreWords words → length (spelled words) ≤ 11 * length words
length_spelled [] is = absurd is
length_spelled (word ∷ words) is =
    let short : length word ≤ 10 = is.0.short in
    let more = length_words words is.1 in
    rw length-append (omega (arith, short, more))
