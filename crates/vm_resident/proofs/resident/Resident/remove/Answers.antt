use Rattle.std.proofs.Common.{ℕ, ◌≡◌, ◌∙◌, None, Some, sym, arith}
use Rattle.vm_base.specs.Keys.{page_key}
use Rattle.vm_resident.proofs.Entries.{entry_at, pages_put, row_entry, row_put, seen}
use Rattle.std.specs.Prelude.{is_some}
use Rattle.vm_sets.specs.Groups.{is_in, is_marked}
use Rattle.vm_resident.specs.Resident.{has_note}
use Rattle.vm_resident.proofs.Tables.{Takes, led_taken, taken}
use Rattle.vm_resident.proofs.resident.Resident.remove.Goals as goal

pub returns-in_err-row-clause-value : goal.returns-in_err-row-clause-value
returns-in_err-row-clause-value c =
    let found = sym c.in_err-row.was ∙ c.swap_remove.ensures.value in
    rw (← c.self.view_is) (c.from_residual.ensures ∙ found ∙ sym (row_entry c.args.key.object.0 c.args.key.page.0 c.self.inside.rows.entries))

pub returns-in_err-row-clause-rows : goal.returns-in_err-row-clause-rows
returns-in_err-row-clause-rows c =
    let rows = row_put c.self.inside.rows.entries c.swap_remove.new.self.entries c.args.key None c.self.inside.promised c.self.inside.promised
    (λ o p. c.swap_remove.ensures.updates.0 (page_key o p)) in
    rw (← c.self.view_is) rows

left : (c : goal.After-remove-2) (s : ℕ) → Takes c.args.key c.in_ok-row.row (seen c.self.inside.rows.entries s) (seen c.swap_remove.new.self.entries s)
left c s =
    let found : entry_at c.args.key.object.0 c.args.key.page.0 c.self.inside.rows.entries ≡ Some c.in_ok-row.row = sym c.swap_remove.ensures.value
    ∙ c.in_ok-row.was in
    taken c.self.inside.rows.entries c.swap_remove.new.self.entries s s c.args.key c.in_ok-row.row c.self.invariant.unique c.swap_remove.ensures.unique
    (row_entry c.args.key.object.0 c.args.key.page.0 c.self.inside.rows.entries ∙ found) (λ o p. c.swap_remove.ensures.updates.0 (page_key o p))

pub invariant_of-self-2 : goal.invariant_of-self-2
invariant_of-self-2 c = record {
  unique = c.swap_remove.ensures.unique;
  pages =
      pages_put is_some c.self.inside.rows.entries c.swap_remove.new.self.entries c.args.key None (is_in c.self.inside.pages) (is_in c.remove.new.self)
      c.self.invariant.pages (λ o p. c.swap_remove.ensures.updates.0 (page_key o p)) c.remove.ensures.pages.at;
  noted =
      pages_put has_note c.self.inside.rows.entries c.swap_remove.new.self.entries c.args.key None (is_marked c.self.inside.pages) (is_marked c.remove.new.self)
      c.self.invariant.noted (λ o p. c.swap_remove.ensures.updates.0 (page_key o p)) c.remove.ensures.marks.at;
  led =
      λ apart. led_taken c.self.inside.rows.entries c.swap_remove.new.self.entries c.args.key c.in_ok-row.row c.self.inside.owners c.remove-2.new.self
      (left c 0) (c.self.invariant.led (sym c.remove-2.ensures.shared ∙ apart)) c.remove-2.ensures.page;
  rows_room = omega (arith, c.self.invariant.rows_room, c.swap_remove.ensures.room.0);
  pages_room = omega (arith, c.self.invariant.pages_room, c.remove.ensures.room);
  owners_room = omega (arith, c.self.invariant.owners_room, c.remove-2.ensures.room);
}

pub returns-clause-value : goal.returns-clause-value
returns-clause-value c =
    let found : entry_at c.args.key.object.0 c.args.key.page.0 c.self.inside.rows.entries ≡ Some c.in_ok-row.row = sym c.swap_remove.ensures.value
    ∙ c.in_ok-row.was in
    rw (← c.self.view_is) (sym found ∙ sym (row_entry c.args.key.object.0 c.args.key.page.0 c.self.inside.rows.entries))

pub returns-clause-rows : goal.returns-clause-rows
returns-clause-rows c = let leaves = left c c.self.inside.promised in rw (← c.self.view_is) leaves.rows

pub returns-clause-frames : goal.returns-clause-frames
returns-clause-frames c = let leaves = left c c.self.inside.promised in rw (← c.self.view_is) leaves.frames

pub returns-clause-owned : goal.returns-clause-owned
returns-clause-owned c = let leaves = left c c.self.inside.promised in rw (← c.self.view_is) leaves.owned
