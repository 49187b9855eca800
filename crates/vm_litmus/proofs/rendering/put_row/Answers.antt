use Rattle.std.proofs.Common.{◌≡◌, ◌++◌, codes, ◌∙◌}
use Rattle.std.proofs.lemmas.Result.{on_ok_weaker}
use Rattle.vm_model.specs.Text.{field}
use Rattle.vm_litmus.specs.Parts.{lines_of, loads_of}
use Rattle.vm_litmus.specs.Text.{fields, loads_text}
use Rattle.vm_litmus.proofs.Outcomes.{row_pieces}
use Rattle.vm_litmus.proofs.rendering.put_row.Goals as goal

pub returns : goal.returns
returns c =
    let accesses = c.args.accesses.now in
    let row = c.args.row.now in
    let old = c.args.text.now.items in
    let loads = loads_text (loads_of accesses) row.values.items in
    let lines = fields (lines_of accesses row.order.items) in
    let front : c.push-2.new.self.items ≡ ((((old ++ codes "outcome times") ++ field row.times) ++ codes ":") ++ loads) ++ codes "\n"
    = cc (
      c.in_ok-extend_from_slice.ensures.items,
      c.in_ok-put_number.ensures,
      c.in_ok-push.ensures.items,
      c.in_ok-put_loads.ensures,
      c.in_ok-push-2.ensures.items,
      c.deref.ensures.value,
    ) in
    let pieces = row_pieces old (codes "outcome times") (field row.times) (codes ":") loads (codes "\n") (codes "order") lines (codes "\n") in
    on_ok_weaker c.put_order.result (λ is. is ∙ ((cc (front, c.in_ok-lines.ensures, c.deref-3.ensures.value, c.deref-2.ensures.value)) ∙ pieces))
    c.put_order.ensures
