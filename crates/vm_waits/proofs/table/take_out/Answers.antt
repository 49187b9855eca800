use Rattle.std.proofs.Common.{◌≡◌, ◌∙◌, List, ap, arith, length, map}
use Rattle.std.proofs.lemmas.List.{length-map}
use Rattle.std.proofs.lemmas.Map.Entries.{length-values_of}
use Rattle.std.specs.Map.{values_of}
use Rattle.vm_waits.proofs.ByTask.{removed}
use Rattle.vm_waits.proofs.Rows.{length_without}
use Rattle.vm_waits.proofs.Tables.{there}
use Rattle.vm_waits.specs.Kept.{by_task}
use Rattle.vm_waits.specs.Waits.{entry, rows_without}
use Rattle.vm_waits.specs.declared.waiting.Waiting.{Waiting}
use Rattle.vm_waits.proofs.table.take_out.Goals as goal

pub returns-then-capacity-len-clause-rows : goal.returns-then-capacity-len-clause-rows
returns-then-capacity-len-clause-rows c =
    removed c.args.task.0 c.args.rows.now.entries c.shift_remove.new.self.entries c.requires.kept c.shift_remove.ensures.entries

pub returns-clause-room : goal.returns-clause-room
returns-clause-room c =
    let rows = values_of c.args.rows.now.entries in
    let was = there (entry rows c.args.task.0) c.requires.there in
    let fewer = length_without c.args.task.0 rows was.it c.requires.kept.once was.is in
    let put : length c.put_others.new.others.entries ≡ length (map by_task (rows_without c.args.task.0 rows)) = ap length c.put_others.ensures.rows
    ∙ ap (λ (z : List Waiting). length (map by_task (rows_without c.args.task.0 z))) (c.as_slice.ensures ∙ c.values.ensures.rest) in
    let long = length-map (rows_without c.args.task.0 rows) by_task in
    rw c.swap.ensures.x_after (omega (arith, c.requires.second, c.put_others.ensures.room, put, long, fewer))

pub returns-clause-second : goal.returns-clause-second
returns-clause-second c = rw c.swap.ensures.y_after (omega (arith, c.requires.room, c.clear.ensures.capacity, length-values_of c.args.rows.now.entries))
