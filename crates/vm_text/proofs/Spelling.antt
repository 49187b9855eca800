-- One item more of what a loop writes.
use Rattle.std.proofs.Common.{ℕ, ◌≡◌, suc, ◌+◌, ◌-◌, ◌<◌, ◌/◌, ◌%◌, List, [], ◌∷◌, ◌++◌, take, refl, ap, sym, ◌∙◌, append_assoc, arith, length, get_or}
use Rattle.std.proofs.lemmas.List.{take_more}
use Rattle.std.specs.List.{flat_map}
use Rattle.vm_base.specs.Pages.{little_endian_bytes}
use Rattle.vm_model.specs.Text.{field, byte_hex}
use Rattle.vm_text.specs.Fields.{with_fields}

pub with_fields_append : (line ns ms : List ℕ) → with_fields line (ns ++ ms) ≡ with_fields (with_fields line ns) ms
with_fields_append line [] ms = refl
with_fields_append line (n ∷ ns) ms = with_fields_append (line ++ field n) ns ms

pub spelled_more : (size i rest : ℕ) (line : List ℕ) → i < size
    → line ++ flat_map byte_hex (little_endian_bytes (size - i) rest)
    ≡ (line ++ byte_hex (rest % 256)) ++ flat_map byte_hex (little_endian_bytes (size - (i + 1)) (rest / 256))
spelled_more size i rest line inside =
    let left : size - i ≡ suc (size - (i + 1)) = omega arith in
    ap (λ z. line ++ flat_map byte_hex (little_endian_bytes z rest)) left
    ∙ sym (append_assoc line (byte_hex (rest % 256)) (flat_map byte_hex (little_endian_bytes (size - (i + 1)) (rest / 256))))

pub with_fields_more : (line ns : List ℕ) (i : ℕ) → i < length ns → with_fields line (take (i + 1) ns) ≡ with_fields line (take i ns) ++ field (get_or ns i 0)
with_fields_more line ns i inside = ap (with_fields line) (take_more ns i 0 inside) ∙ with_fields_append line (take i ns) (get_or ns i 0 ∷ [])
