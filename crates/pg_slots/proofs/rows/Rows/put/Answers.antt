use Rattle.std.proofs.Common.{◌≡◌, ◌<◌, ◌==◌, Some, None, min, rules, arith}
use Rattle.indexmap.specs.IndexMap.{spare}
use Rattle.std.specs.Map.{lookup}
use Rattle.vm_base.proofs.Results.{on_ok}
use Rattle.pg_slots.proofs.Tables.{held_seen, puts_row, room_seen, some_of, writes_seen}
use Rattle.pg_slots.proofs.rows.Rows.put.Goals as goal

pub returns-in-Some : goal.returns-in-Some
returns-in-Some c =
    let object = c.args.key.object.0 in
    let found : lookup (λ id. object == id.0) c.self.inside.rows.entries ≡ Some c.in-Some.pages.now = search rules in
    let room : 0 < spare c.in-Some.pages.now = rw (room_seen c.self.inside.rows.entries object _, found) at (rw (← c.self.view_is) at c.requires) in
    let row = on_ok c.insert.result _ c.insert.ensures.updates (c.insert.ensures.succeeds room) in
    let there = (c.get_mut.follows.holds c.insert.new.self).3 (some_of _ _ found) in
    rw (← c.self.view_is) (puts_row object c.args.key.page.0 c.args.held _ _ c.insert.new.self.entries
    (writes_seen (λ m. m.entries) object (Some c.insert.new.self) c.self.inside.rows.entries _ (λ o. there.0 (record { 0 = o })))
    (λ p. rw (held_seen c.self.inside.rows.entries object p, found) (row.0 (record { 0 = p }))))

pub returns : goal.returns
returns c =
    let object = c.args.key.object.0 in
    let none : lookup (λ id. object == id.0) c.self.inside.rows.entries ≡ None = search rules in
    let same : c.get_mut.follows.lender-at-none ≡ c.self.inside.rows = search rules in
    let room : 0 < min (spare c.self.inside.rows) (spare c.self.inside.next) = rw (room_seen c.self.inside.rows.entries object _, none)
    at (rw (← c.self.view_is) at c.requires) in
    let row = on_ok c.insert-2.result _ c.insert-2.ensures.updates (c.insert-2.ensures.succeeds (rw c.replace-pages.ensures.value (grind (arith, room)))) in
    let there = on_ok c.insert-3.result _ c.insert-3.ensures.updates (c.insert-3.ensures.succeeds (rw same (grind (arith, room)))) in
    rw (← c.self.view_is) (puts_row object c.args.key.page.0 c.args.held _ _ c.insert-2.new.self.entries
    (writes_seen (λ m. m.entries) object (Some c.insert-2.new.self) c.self.inside.rows.entries _ (λ o. rw same at (there.0 (record { 0 = o }))))
    (λ p. rw (held_seen c.self.inside.rows.entries object p, none) (rw (c.replace-pages.ensures.value, c.self.invariant) at (row.0 (record { 0 = p })))))
