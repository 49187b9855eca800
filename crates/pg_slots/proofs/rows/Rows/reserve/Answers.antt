use Rattle.std.proofs.Common.{◌≡◌, ◌<◌, ◌==◌, Some, None, rules, arith}
use Rattle.indexmap.specs.IndexMap.{spare}
use Rattle.std.specs.Map.{lookup}
use Rattle.pg_slots.proofs.Tables.{room_seen, seen_kept, some_of}
use Rattle.pg_slots.proofs.rows.Rows.reserve.Goals as goal

pub returns-in_err-reserve-clause-rows : goal.returns-in_err-reserve-clause-rows
returns-in_err-reserve-clause-rows c =
    let found : lookup (λ id. c.args.key.object.0 == id.0) c.self.inside.rows.entries ≡ Some c.in-Some.pages.now = search rules in
    rw (← c.self.view_is, (c.get_mut.follows.holds c.reserve.new.self).0) (seen_kept (λ m. m.entries) (λ id. c.args.key.object.0 == id.0)
    c.self.inside.rows.entries c.in-Some.pages.now c.reserve.new.self found c.reserve.ensures.entries)

pub returns-in-Some-clause-rows : goal.returns-in-Some-clause-rows
returns-in-Some-clause-rows c =
    let found : lookup (λ id. c.args.key.object.0 == id.0) c.self.inside.rows.entries ≡ Some c.in-Some.pages.now = search rules in
    rw (← c.self.view_is, (c.get_mut.follows.holds c.reserve.new.self).0) (seen_kept (λ m. m.entries) (λ id. c.args.key.object.0 == id.0)
    c.self.inside.rows.entries c.in-Some.pages.now c.reserve.new.self found c.reserve.ensures.entries)

pub returns-in-Some-clause-room : goal.returns-in-Some-clause-room
returns-in-Some-clause-room c =
    let found : lookup (λ id. c.args.key.object.0 == id.0) c.self.inside.rows.entries ≡ Some c.in-Some.pages.now = search rules in
    let there = (c.get_mut.follows.holds c.reserve.new.self).3 (some_of _ _ found) in
    let now : lookup (λ id. c.args.key.object.0 == id.0) (c.get_mut.follows.lender c.reserve.new.self).entries ≡ Some c.reserve.new.self = there.1 in
    rw (room_seen (c.get_mut.follows.lender c.reserve.new.self).entries c.args.key.object.0 _, now) (search rules)

pub returns-clause-room : goal.returns-clause-room
returns-clause-room c =
    let none : lookup (λ id. c.args.key.object.0 == id.0) c.self.inside.rows.entries ≡ None = search rules in
    let same : c.get_mut.follows.lender-at-none ≡ c.self.inside.rows = search rules in
    let now : lookup (λ id. c.args.key.object.0 == id.0) c.reserve-2.new.self.entries ≡ None = rw (c.reserve-2.ensures.entries, same) none in
    let one : 0 < spare c.reserve-2.new.self = search rules in
    let two : 0 < spare c.reserve-3.new.self = search rules in
    rw (room_seen c.reserve-2.new.self.entries c.args.key.object.0 _, now) (grind (arith, one, two))
