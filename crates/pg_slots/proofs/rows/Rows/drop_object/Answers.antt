use Rattle.std.proofs.Common.{None, ap, sym}
use Rattle.pg_slots.proofs.Tables.{drops_rows, held_seen, writes_seen}
use Rattle.pg_slots.specs.Slots.{held_slot}
use Rattle.pg_slots.proofs.rows.Rows.drop_object.Goals as goal

pub returns-clause-slots : goal.returns-clause-slots
returns-clause-slots c = λ p. rw (← c.self.view_is, c.swap_remove.ensures.value) (ap held_slot (sym (held_seen c.self.inside.rows.entries c.args.object.0 p)))

pub returns-clause-dropped : goal.returns-clause-dropped
returns-clause-dropped c =
    rw (← c.self.view_is) (drops_rows c.args.object.0 _ _ (writes_seen (λ m. m.entries) c.args.object.0 None c.self.inside.rows.entries
    c.swap_remove.new.self.entries (λ o. c.swap_remove.ensures.updates.0 (record { 0 = o }))))
