-- What stands in a file past what was written.
use Rattle.std.proofs.Common.{ℕ, ◌≡◌, ◌+◌, ◌≤◌, inr, List, drop, sym, ◌∙◌, arith}
use Rattle.std.proofs.lemmas.Grind.{same_number_lists}
use Rattle.std.proofs.lemmas.List.{get_or-drop, length-drop}
use Rattle.vm_outside.specs.Areas.{Torn}

-- a write that failed leaves the rest of the file, and makes it no longer there
pub drop-torn : (old : List ℕ) (at n : ℕ) (new : List ℕ) → Torn old at n new → (from : ℕ) → at + n ≤ from → drop from new ≡ drop from old
drop-torn old at n new torn from past =
    same_number_lists (drop from new) (drop from old)
    (let a = length-drop from new in let b = length-drop from old in let least = torn.least in let most = torn.most in grind arith)
    (λ i less. get_or-drop from new i 0 ∙ torn.outside (from + i) (inr (omega (arith, past))) ∙ sym (get_or-drop from old i 0))
