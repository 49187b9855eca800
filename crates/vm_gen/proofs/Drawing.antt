-- One more line is drawn.
use Rattle.std.proofs.Common.{◌≡◌, ℕ, suc, ◌+◌, List, ◌∷◌, refl, arith}
use Rattle.vm_gen.specs.Drawn.{drawn, words_at}
use Rattle.vm_gen.specs.Made.{add_lines}
use Rattle.vm_model.specs.declared.command.Command.{Command}
use Rattle.vm_model.specs.declared.command.Numbered.{Numbered}

pub next_words : (number line : ℕ) → words_at number (line + 1) ≡ (drawn (words_at number line)).1
next_words number line = let e : line + 1 ≡ suc line = omega arith in rw e refl

pub next_line : (command : ℕ → Command) (first n : ℕ) (before : List Numbered)
    → add_lines command first (n + 1) before ≡ record { line = first + n; command = command n } ∷ add_lines command first n before
next_line command first n before = let e : n + 1 ≡ suc n = omega arith in rw e refl
