-- A word with a dot has more than one part.
use Rattle.std.proofs.Common.{◌≡◌, ℕ, ◌<◌, List, [], ◌∷◌, length, Err, refl, arith}
use Rattle.vm_model.specs.declared.fault.ScriptFault.TheVariants.{UnknownWord}
use Rattle.vm_text.specs.Words.{pieces, is_dot}
use Rattle.vm_text.specs.Forms.{one_part}
use Rattle.vm_text.proofs.Pieces.{some_piece}

longer : (part : List ℕ) (rest : List (List ℕ)) → 0 < length rest → one_part (part ∷ rest) ≡ Err UnknownWord
longer part [] some = absurd (omega arith)
longer part (piece ∷ rest) some = refl

pub not_one_part : (word part rest : List ℕ) → pieces is_dot word ≡ part ∷ pieces is_dot rest → one_part (pieces is_dot word) ≡ Err UnknownWord
not_one_part word part rest is = rw is (longer part (pieces is_dot rest) (some_piece is_dot rest))
