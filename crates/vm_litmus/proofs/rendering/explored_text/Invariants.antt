use Rattle.std.proofs.Common.{◌≡◌, ◌++◌, codes, length, take}
use Rattle.vm_model.specs.Text.{field}
use Rattle.vm_litmus.specs.Text.{rows_text}
use Rattle.vm_litmus.proofs.rendering.explored_text.Given as goal

abbrev pub invariant-loop-row : goal.invariant-loop-row
invariant-loop-row l =
    l.text.items
    ≡ ((codes "accesses" ++ (field (length l.explored.accesses.items) ++ codes "\n")) ++
    (codes "interleavings" ++ (field l.explored.interleavings ++ codes "\n")))
    ++ rows_text l.explored.accesses.items (take l.row-index l.explored.rows.items)
