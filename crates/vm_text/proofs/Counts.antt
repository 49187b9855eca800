-- A line of six words is a word and a line of five.
use Rattle.std.proofs.Common.{◌≡◌, ℕ, List, [], ◌∷◌, Result, Ok, Err, refl, ap, ◌∙◌}
use Rattle.vm_model.specs.declared.fault.ScriptFault.{ScriptFault}
use Rattle.vm_text.specs.Words.{five_words, six_words}

abbrev Five : Type 0
Five = List ℕ × List ℕ × List ℕ × List ℕ × List ℕ

abbrev with_first : List ℕ → Result Five ScriptFault → Result (List ℕ × List ℕ × List ℕ × List ℕ × List ℕ × List ℕ) ScriptFault
with_first a (Ok w) = Ok (a, w.0, w.1, w.2, w.3, w.4)
with_first a (Err fault) = Err fault

one_more : (a : List ℕ) (line : List (List ℕ)) → six_words (a ∷ line) ≡ with_first a (five_words line)
one_more a [] = refl
one_more a (b ∷ []) = refl
one_more a (b ∷ c ∷ []) = refl
one_more a (b ∷ c ∷ d ∷ []) = refl
one_more a (b ∷ c ∷ d ∷ e ∷ []) = refl
one_more a (b ∷ c ∷ d ∷ e ∷ f ∷ []) = refl
one_more a (b ∷ c ∷ d ∷ e ∷ f ∷ g ∷ more) = refl

pub six_from : (words line : List (List ℕ)) (a : List ℕ) (w : Five) → words ≡ a ∷ line → five_words line ≡ Ok w
    → six_words words ≡ Ok (a, w.0, w.1, w.2, w.3, w.4)
six_from words line a w is five = ap six_words is ∙ (one_more a line ∙ ap (with_first a) five)
