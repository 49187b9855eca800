-- Numbers put behind a line stand behind what stood in front of its word.
use Rattle.std.proofs.Common.{List, [], ap, append_assoc, refl, ℕ, ◌++◌, ◌∙◌, ◌∷◌, ◌≡◌}
use Rattle.vm_model.specs.Text.{field}
use Rattle.vm_text.specs.Fields.{with_fields}

pub behind_front : (front word numbers : List ℕ) → with_fields (front ++ word) numbers ≡ front ++ with_fields word numbers
behind_front front word [] = refl
behind_front front word (number ∷ numbers) =
    ap (λ z. with_fields z numbers) (append_assoc front word (field number)) ∙ behind_front front (word ++ field number) numbers
