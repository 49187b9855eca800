use Rattle.std.proofs.Common.{◌<◌, ◌-◌, ℕ, Some, ap, arith}
use Rattle.indexmap.specs.IndexMap.{spare}
use Rattle.vm_base.specs.Keys.{page_key}
use Rattle.vm_resident.proofs.Entries.{WritesEntry, pages_put, seen}
use Rattle.vm_sets.proofs.PageSets.{ok_has}
use Rattle.vm_resident.proofs.Tables.{Puts, inserted, led_inserted}
use Rattle.std.specs.Prelude.{is_some}
use Rattle.vm_sets.specs.Groups.{is_in, is_marked}
use Rattle.vm_resident.specs.Resident.{ResidentTable, has_note}
use Rattle.vm_resident.proofs.resident.Resident.insert.Goals as goal

left : (c : goal.After-self-1) (s t : ℕ) → Puts c.args.key c.args.row (seen c.self.inside.rows.entries s) (seen c.insert.new.self.entries t)
left c s t =
    let room : 0 < spare c.self.inside.rows = omega (arith, ap (λ (z : ResidentTable). z.spare) c.self.view_is, c.requires.room, c.self.invariant.rows_room) in
    let succeeds = c.insert.ensures.succeeds room in
    let put = ok_has c.insert.result succeeds c.insert.ensures.updates in
    inserted c.self.inside.rows.entries c.insert.new.self.entries s t c.args.key c.args.row (rw (← c.self.view_is) at c.requires.absent)
    (λ o p. put.0 (page_key o p)) (ok_has c.insert.result succeeds c.insert.ensures.entries)

pub invariant_of-self : goal.invariant_of-self
invariant_of-self c =
    let promised = ap (λ (z : ResidentTable). z.spare) c.self.view_is in
    let room : 0 < spare c.self.inside.rows = omega (arith, promised, c.requires.room, c.self.invariant.rows_room) in
    let put = ok_has c.insert.result (c.insert.ensures.succeeds room) c.insert.ensures.updates in
    let writes : WritesEntry c.args.key (Some c.args.row) c.self.inside.rows.entries c.insert.new.self.entries = λ o p. put.0 (page_key o p) in
    record {
      unique = c.insert.ensures.unique;
      pages =
          pages_put is_some c.self.inside.rows.entries c.insert.new.self.entries c.args.key (Some c.args.row) (is_in c.self.inside.pages)
          (is_in c.insert-2.new.self) c.self.invariant.pages writes c.insert-2.ensures.pages.at;
      noted =
          pages_put has_note c.self.inside.rows.entries c.insert.new.self.entries c.args.key (Some c.args.row) (is_marked c.self.inside.pages)
          (is_marked c.insert-2.new.self) c.self.invariant.noted writes (rw c.is_noted.ensures at c.insert-2.ensures.marks.at);
      led = λ apart.
          let led = c.self.invariant.led (c.insert-3.ensures.shared apart) in
          led_inserted c.self.inside.rows.entries c.insert.new.self.entries c.args.key c.args.row c.self.inside.owners c.insert-3.new.self
          (left c 0 0) led (c.insert-3.ensures.apart apart) c.insert-3.ensures.page;
      rows_room = omega (arith, promised, c.requires.room, c.self.invariant.rows_room, c.insert.ensures.spare);
      pages_room = omega (arith, promised, c.requires.room, c.self.invariant.pages_room, c.insert-2.ensures.room);
      owners_room = omega (arith, promised, c.requires.room, c.self.invariant.owners_room, c.insert-3.ensures.room);
    }

pub returns-clause-rows : goal.returns-clause-rows
returns-clause-rows c = let leaves = left c c.self.inside.promised (c.self.inside.promised - 1) in rw (← c.self.view_is) leaves.rows

pub returns-clause-frames : goal.returns-clause-frames
returns-clause-frames c = let leaves = left c c.self.inside.promised (c.self.inside.promised - 1) in rw (← c.self.view_is) leaves.frames

pub returns-clause-owned : goal.returns-clause-owned
returns-clause-owned c = let leaves = left c c.self.inside.promised (c.self.inside.promised - 1) in rw (← c.self.view_is) leaves.owned
