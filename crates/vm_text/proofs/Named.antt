-- An object that is declared is found by its name.
use Rattle.std.proofs.Common.{◌≡◌, ℕ, List, ◌∷◌, length, cond, Option, Some, refl, ◌∙◌}
use Rattle.std.specs.Str.{bytes_eq}
use Rattle.vm_model.specs.declared.script.Declared.{Declared}
use Rattle.vm_text.specs.Forms.{declared_at}

pub declared_more : (text name : List ℕ) (object : Declared) (old kept new : List Declared) (place : ℕ) (before after : Option ℕ)
    → object.name ≡ text → kept ≡ old → place ≡ length kept → new ≡ object ∷ kept → before ≡ declared_at name old
    → after ≡ cond (bytes_eq text name) (Some place) before → after ≡ declared_at name new
declared_more text name object old kept new place before after named same len grown was now =
    now ∙ (rw (grown, named, same) (rw (was, len, same) refl))
