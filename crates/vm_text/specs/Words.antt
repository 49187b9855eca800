-- The lines and words of a script, and what a word can be. What is read is a value or a fault.
use Rattle.std.specs.Prelude.{ℕ, ◌≡◌, ◌+◌, ◌-◌, ◌*◌, ◌^◌, ◌==◌, ◌&&◌, ◌||◌, Bool, true, false, nat_le, nat_lt, List, [], ◌∷◌, ◌++◌, length, replicate, Option}
use Rattle.std.specs.Prelude.{Some, None, Result, Ok, Err, if◌then◌else◌}
use Rattle.std.specs.Str.{bytes_eq}
use Rattle.vm_model.specs.Name.{is_digit}
use Rattle.vm_model.specs.declared.fault.ScriptFault.{ScriptFault}
use Rattle.vm_model.specs.declared.fault.ScriptFault.TheVariants.{BadNumber, WrongCount, OutOfRange}

-- one thing, then the next; the first fault ends it
infixl 10 ◌>>=◌
abbrev pub ◌>>=◌ : {A B : Type 0} → Result A ScriptFault → (A → Result B ScriptFault) → Result B ScriptFault
(Ok x) >>= f = f x
(Err fault) >>= f = Err fault

-- what a call returned, seen as the definitions see it, is what was read
abbrev pub Sees : {X Y : Type 0} → (X → Y) → Result X ScriptFault → Result Y ScriptFault → Type 0
Sees view (Ok x) read = read ≡ Ok (view x)
Sees view (Err fault) read = read ≡ Err fault

-- ---- lines and words

-- a byte in front of the first piece
abbrev pub onto : ℕ → List (List ℕ) → List (List ℕ)
onto byte [] = (byte ∷ []) ∷ []
onto byte (piece ∷ pieces) = (byte ∷ piece) ∷ pieces

-- the pieces between the bytes that part them: always one more than these
abbrev pub pieces : (ℕ → Bool) → List ℕ → List (List ℕ)
pieces parts [] = [] ∷ []
pieces parts (byte ∷ bytes) = if parts byte then [] ∷ pieces parts bytes else onto byte (pieces parts bytes)

abbrev pub is_line_feed : ℕ → Bool
is_line_feed byte = byte == 10

-- a space, a tab or a carriage return
abbrev pub is_space : ℕ → Bool
is_space byte = byte == 32 || (byte == 9 || byte == 13)

abbrev pub is_dot : ℕ → Bool
is_dot byte = byte == 46

-- what stands behind the last line feed is a line too, unless it is empty
abbrev pub without_last : List (List ℕ) → List (List ℕ)
without_last [] = []
without_last ([] ∷ []) = []
without_last (piece ∷ pieces) = piece ∷ without_last pieces

abbrev pub lines_of : List ℕ → List (List ℕ)
lines_of bytes = without_last (pieces is_line_feed bytes)

abbrev pub without_empty_words : List (List ℕ) → List (List ℕ)
without_empty_words [] = []
without_empty_words ([] ∷ pieces) = without_empty_words pieces
without_empty_words (piece ∷ pieces) = piece ∷ without_empty_words pieces

abbrev pub words_of : List ℕ → List (List ℕ)
words_of line = without_empty_words (pieces is_space line)

-- no space stands in front
abbrev pub HasNoSpaceInFront : List ℕ → Type 0
HasNoSpaceInFront [] = Unit {0}
HasNoSpaceInFront (byte ∷ bytes) = is_space byte ≡ false

-- a line whose first word begins with # is a comment
abbrev pub is_comment : List ℕ → Bool
is_comment [] = false
is_comment (byte ∷ bytes) = byte == 35

-- the meaning of a word in a table of words
abbrev pub word_in : {A : Type 0} → List (List ℕ × A) → List ℕ → Option A
word_in [] word = None
word_in ((text, meaning) ∷ rows) word = if bytes_eq word text then Some meaning else word_in rows word

-- ---- the number of words

abbrev pub one_word : List (List ℕ) → Result (List ℕ) ScriptFault
one_word (a ∷ []) = Ok a
one_word _ = Err WrongCount

abbrev pub two_words : List (List ℕ) → Result (List ℕ × List ℕ) ScriptFault
two_words (a ∷ b ∷ []) = Ok (a, b)
two_words _ = Err WrongCount

abbrev pub three_words : List (List ℕ) → Result (List ℕ × List ℕ × List ℕ) ScriptFault
three_words (a ∷ b ∷ c ∷ []) = Ok (a, b, c)
three_words _ = Err WrongCount

abbrev pub four_words : List (List ℕ) → Result (List ℕ × List ℕ × List ℕ × List ℕ) ScriptFault
four_words (a ∷ b ∷ c ∷ d ∷ []) = Ok (a, b, c, d)
four_words _ = Err WrongCount

abbrev pub five_words : List (List ℕ) → Result (List ℕ × List ℕ × List ℕ × List ℕ × List ℕ) ScriptFault
five_words (a ∷ b ∷ c ∷ d ∷ e ∷ []) = Ok (a, b, c, d, e)
five_words _ = Err WrongCount

abbrev pub six_words : List (List ℕ) → Result (List ℕ × List ℕ × List ℕ × List ℕ × List ℕ × List ℕ) ScriptFault
six_words (a ∷ b ∷ c ∷ d ∷ e ∷ f ∷ []) = Ok (a, b, c, d, e, f)
six_words _ = Err WrongCount

-- ---- numbers

-- the digits behind a number that stands already, below 2 ^ 64 with them
abbrev pub digits_behind : ℕ → List ℕ → Result ℕ ScriptFault
digits_behind front [] = Ok front
digits_behind front (digit ∷ digits) =
    if is_digit digit && nat_lt (front * 10 + (digit - 48)) (2 ^ 64)
    then digits_behind (front * 10 + (digit - 48)) digits else Err BadNumber

abbrev pub number_of : List ℕ → Result ℕ ScriptFault
number_of [] = Err BadNumber
number_of (digit ∷ digits) = digits_behind 0 (digit ∷ digits)

abbrev pub within : ℕ → ℕ → ℕ → Result ℕ ScriptFault
within least most number = if nat_le least number && nat_le number most then Ok number else Err OutOfRange

-- a number from the least to the most
abbrev pub number_between : ℕ → ℕ → List ℕ → Result ℕ ScriptFault
number_between least most word = number_of word >>= within least most

-- a number below the limit
abbrev pub number_below : ℕ → List ℕ → Result ℕ ScriptFault
number_below limit word = number_of word >>= λ number. if nat_lt number limit then Ok number else Err OutOfRange

abbrev pub flag_of : List ℕ → Result Bool ScriptFault
flag_of word = number_between 0 1 word >>= λ number. Ok (number == 1)

-- ---- bytes

-- 0 to 9 and a to f
abbrev pub is_hex : ℕ → Bool
is_hex byte = is_digit byte || (nat_le 97 byte && nat_le byte 102)

abbrev pub hex_value : ℕ → ℕ
hex_value byte = if is_digit byte then byte - 48 else byte - 87

abbrev pub are_pairs : List ℕ → Bool
are_pairs [] = true
are_pairs (high ∷ []) = false
are_pairs (high ∷ low ∷ more) = (is_hex high && is_hex low) && are_pairs more

abbrev pub pair_bytes : List ℕ → List ℕ
pair_bytes [] = []
pair_bytes (high ∷ []) = []
pair_bytes (high ∷ low ∷ more) = (16 * hex_value high + hex_value low) ∷ pair_bytes more

-- a word of pairs spells so many bytes
pub record SpellsBytes (word : List ℕ) (count : ℕ) : Type 0 where
  pub pairs : are_pairs word ≡ true
  pub all : count ≡ length (pair_bytes word)
  pub twice : length word ≡ 2 * count

-- the page that begins with the bytes and goes on with zeros
abbrev pub page_with : ℕ → List ℕ → List ℕ
page_with size bytes = bytes ++ replicate (size - length bytes) 0

-- pairs of hexadecimal digits, or - for none
abbrev pub page_bytes_of : ℕ → List ℕ → Result (List ℕ) ScriptFault
page_bytes_of size word =
    if bytes_eq word (45 ∷ []) then Ok (page_with size [])
    else (if are_pairs word
    then (if nat_le (length (pair_bytes word)) size then Ok (page_with size (pair_bytes word)) else Err OutOfRange)
    else Err BadNumber)
