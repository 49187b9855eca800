use Rattle.std.proofs.Common.{◌≡◌, ◌==◌, Some, None, rules}
use Rattle.std.specs.Map.{lookup}
use Rattle.pg_slots.proofs.Tables.{held_seen}
use Rattle.pg_slots.proofs.rows.Rows.held.Goals as goal

pub returns-in_err-pages : goal.returns-in_err-pages
returns-in_err-pages c =
    let none : lookup (λ id. c.args.key.object.0 == id.0) c.self.inside.rows.entries ≡ None = search rules in
    rw (← c.self.view_is) (rw (held_seen c.self.inside.rows.entries c.args.key.object.0 c.args.key.page.0, none) (search rules))

pub returns : goal.returns
returns c =
    let found : lookup (λ id. c.args.key.object.0 == id.0) c.self.inside.rows.entries ≡ Some c.in_ok-pages.pages.now = search rules in
    rw (← c.self.view_is) (rw (held_seen c.self.inside.rows.entries c.args.key.object.0 c.args.key.page.0, found) (search rules))
