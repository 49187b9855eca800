use Rattle.std.proofs.Common.{◌≡◌, length, slice_index, nat_lt, nat_le, true, arith, sym, ◌∙◌}
use Rattle.std.proofs.lemmas.Bool.Decides.{nat_tests}
use Rattle.vm_model.specs.Name.{is_lower}
use Rattle.vm_model.proofs.name.is_name.Goals as goal

pub returns : goal.returns
returns c =
    let text = c.args.text.now in
    let some : nat_lt 0 (length text) ≡ true = grind (arith, nat_tests) in
    let short : nat_le (length text) 32 ≡ true = grind (arith, nat_tests) in
    let lower : is_lower (slice_index text 0) ≡ true = sym c.is_lower.ensures ∙ c.if-not-is_lower.false in
    rw (some, short, lower) c.all_name_bytes.ensures
