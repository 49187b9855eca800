-- Lines that each spell a command are read one after the other.
use mathlib.Core.List.{reverse_aux}
use Rattle.std.proofs.Common.{◌≡◌, ℕ, zero, suc, ◌+◌, ◌-◌, ◌*◌, ◌<◌, ◌≤◌, false, nat_lt, List, [], ◌∷◌, ◌++◌, length, length-append, Ok, reverse, map, refl, ap}
use Rattle.std.proofs.Common.{sym, subst, ◌∙◌, arith}
use Rattle.std.proofs.lemmas.Bool.Decides.{nat_tests}
use Rattle.std.proofs.lemmas.Grind.{reverse_onto}
use Rattle.std.proofs.lemmas.List.{length-reverse}
use Rattle.std.specs.List.{flat_map}
use Rattle.vm_gen.proofs.Kept.{added_count}
use Rattle.vm_gen.specs.Made.{add_lines}
use Rattle.vm_model.specs.declared.command.Command.{Command}
use Rattle.vm_model.specs.declared.command.Numbered.{Numbered}
use Rattle.vm_script.proofs.Spelt.{IsSpelt, reading_of}
use Rattle.vm_script.proofs.Words.{words_spelled, line_spelled, length_spelled}
use Rattle.vm_script.specs.Text.{spelled, command_words, command_line}
use Rattle.vm_text.specs.Script.{Reading, line_read, lines_read, whole_of}
use Rattle.vm_text.specs.Words.{lines_of, words_of}

-- commands that are spelt, the oldest first, on the lines from this one on
abbrev pub FollowOn : ℕ → List Numbered → Type 0
FollowOn first [] = Unit {0}
FollowOn first (one ∷ more) = (one.line ≡ first) × (IsSpelt one.command × FollowOn (first + 1) more)

follow_append : (first : ℕ) (front behind : List Numbered) → FollowOn first front → FollowOn (first + length front) behind
    → FollowOn first (front ++ behind)
follow_append first [] behind one other = let same : first + 0 ≡ first = omega arith in subst (λ z. FollowOn z behind) same other
follow_append first (c ∷ cs) behind one other =
    let same : first + length (c ∷ cs) ≡ first + 1 + length cs = omega arith in
    (one.0, (one.1.0, follow_append (first + 1) cs behind one.1.1 (subst (λ z. FollowOn z behind) same other)))

-- one more, the newest
pub follow_more : (first : ℕ) (one : Numbered) (before : List Numbered) → FollowOn first (reverse before) → one.line ≡ first + length before
    → IsSpelt one.command → FollowOn first (reverse (one ∷ before))
follow_more first one before rows here is =
    let there : one.line ≡ first + length (reverse before) = here ∙ ap (λ z. first + z) (sym (length-reverse before)) in
    rw (reverse_onto before one []) (follow_append first (reverse before) (one ∷ []) rows (there, (is, tt)))

pub follow_added : (start : ℕ) (command : ℕ → Command) (first n : ℕ) (before : List Numbered)
    → FollowOn start (reverse before) → first ≡ start + length before
    → ((i : ℕ) → i < n → IsSpelt (command i)) → FollowOn start (reverse (add_lines command first n before))
follow_added start command first zero before rows here each = rows
follow_added start command first (suc n) before rows here each =
    let count = added_count command first n before in
    follow_more start (record { line = first + n; command = command n }) (add_lines command first n before)
    (follow_added start command first n before rows here (λ i less. each i (omega (arith, less))))
    (omega (arith, here, count)) (each n (omega arith))

abbrev pub line_text : Numbered → List ℕ
line_text numbered = spelled (command_words numbered.command)

-- the lines of the text are those of the commands
pub lines_put : (first : ℕ) (commands : List Numbered) → FollowOn first commands → lines_of (flat_map command_line commands) ≡ map line_text commands
lines_put first [] all = refl
lines_put first (one ∷ more) all =
    line_spelled (command_words one.command) (flat_map command_line more) all.1.0.words
    ∙ ap (λ z. line_text one ∷ z) (lines_put (first + 1) more all.1.1)

one_line : (number : ℕ) (here more : Reading) (line : List ℕ) (lines : List (List ℕ))
    → nat_lt 20000 number ≡ false → line_read number here (words_of line) ≡ Ok more
    → lines_read number here (line ∷ lines) ≡ lines_read (number + 1) more lines
one_line number here more line lines few is = rw (few, is) refl

pub lines_are_read : (first : ℕ) (commands before : List Numbered) → FollowOn first commands → first + length commands ≤ 20001
    → lines_read first (reading_of before) (map line_text commands) ≡ Ok (whole_of (reading_of (reverse_aux commands before)) (first + length commands - 1))
lines_are_read first [] before all few = let same : first - 1 ≡ first + 0 - 1 = omega arith in ap (λ z. Ok (whole_of (reading_of before) z)) same
lines_are_read first (one ∷ more) before all few =
    let inside : nat_lt 20000 first ≡ false = grind (arith, nat_tests) in
    let same : record { line = first; command = one.command } ≡ one = ap (λ z. record { line = z; command = one.command }) (sym all.0) in
    let words = words_spelled (command_words one.command) all.1.0.words in
    let read = ap (line_read first (reading_of before)) words ∙ (all.1.0.read first before ∙ ap (λ z. Ok (reading_of (z ∷ before))) same) in
    let count : first + 1 + length more - 1 ≡ first + length (one ∷ more) - 1 = omega arith in
    one_line first (reading_of before) (reading_of (one ∷ before)) (line_text one) (map line_text more) inside read
    ∙ (lines_are_read (first + 1) more (one ∷ before) all.1.1 (omega (arith, few))
    ∙ ap (λ z. Ok (whole_of (reading_of (reverse_aux more (one ∷ before))) z)) count)

-- a line has a hundred bytes at most
pub length_put : (first : ℕ) (commands : List Numbered) → FollowOn first commands → length (flat_map command_line commands) ≤ 100 * length commands
length_put first [] all = omega arith
length_put first (one ∷ more) all =
    let here = length_spelled (command_words one.command) all.1.0.words in
    let few = all.1.0.few in
    let others = length_put (first + 1) more all.1.1 in
    rw (length-append, length-append) (omega (arith, here, few, others))
