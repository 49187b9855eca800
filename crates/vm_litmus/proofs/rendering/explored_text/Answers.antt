use Rattle.std.proofs.Common.{◌≡◌, ◌++◌, ◌<◌, codes, length, ◌∙◌, ap, get_or, arith}
use Rattle.vm_model.specs.Text.{field}
use Rattle.vm_litmus.specs.Text.{row_text}
use Rattle.vm_litmus.proofs.Outcomes.{outcome_more}
use Rattle.vm_litmus.proofs.rendering.explored_text.Goals as goal

pub loop-row-preserved : goal.loop-row-preserved
loop-row-preserved c =
    let found = c.args.explored.now in
    let accesses = found.accesses.items in
    let rows = found.rows.items in
    let row = c.row-item.result in
    let i = c.loop-row.row-index in
    let text = c.loop-row.text.items in
    let head = (codes "accesses" ++ (field (length accesses) ++ codes "\n")) ++ (codes "interleavings" ++ (field found.interleavings ++ codes "\n")) in
    let inside : i < length rows = omega (arith, ap length c.deref-row-items.ensures.value) in
    let item : row ≡ get_or rows i row = c.row-item.is ∙ ap (λ z. get_or z i row) c.deref-row-items.ensures.value in
    let put : c.put_row.new.text.items ≡ text ++ row_text accesses row = c.in_ok-put_row.ensures
    ∙ ap (λ z. text ++ row_text z row) c.deref-in-loop-row.ensures.value in
    put ∙ (ap (λ z. text ++ row_text accesses z) item ∙ outcome_more head text accesses rows i row inside c.loop-row.invariant)
