use Rattle.std.proofs.Common.{ℕ, ◌∙◌, Some, ap, rules, sym}
use Rattle.std.specs.Option.{option_copied_mut}
use Rattle.std.specs.Prelude.{IsSome}
use Rattle.vm_base.specs.Keys.{page_key}
use Rattle.vm_resident.proofs.Entries.{entry_at, pages_kept, pages_put, row_entry, seen}
use Rattle.vm_resident.proofs.Tables.{Changes, changed, led_changed, entry_there}
use Rattle.vm_sets.specs.Groups.{is_marked}
use Rattle.vm_resident.specs.Resident.{has_note}
use Rattle.vm_resident.proofs.resident.Resident.set.Goals as goal

pub unwrap-kept-requires : goal.unwrap-kept-requires
unwrap-kept-requires c =
    let there : IsSome (entry_at c.args.key.object.0 c.args.key.page.0 c.self.inside.rows.entries) = entry_there c.self.inside.rows.entries
    c.self.inside.promised c.args.key c.args.row.frame.0 (rw (← c.self.view_is) at c.requires) in
    search rules

left : (c : goal.After-mark) (s : ℕ) → Changes c.args.key c.args.row (seen c.self.inside.rows.entries s)
    (seen (c.get_mut.follows.lender c.args.row).entries s)
left c s =
    let stood = rw (← c.self.view_is) at c.requires in
    let there = entry_there c.self.inside.rows.entries c.self.inside.promised c.args.key c.args.row.frame.0 stood in
    let wrote = c.get_mut.follows.holds c.args.row in
    changed c.self.inside.rows.entries (c.get_mut.follows.lender c.args.row).entries s s c.args.key c.args.row stood (λ o p. (wrote.3 there).0 (page_key o p))
    wrote.0

pub mark-requires-clause-was : goal.mark-requires-clause-was
mark-requires-clause-was c =
    let stood = sym c.get_mut.ensures.value ∙ ap option_copied_mut c.unwrap-kept.ensures in
    let o = c.args.key.object.0 in
    let p = c.args.key.page.0 in
    c.self.invariant.noted o p ∙ ap has_note (row_entry o p c.self.inside.rows.entries ∙ stood) ∙ sym c.is_noted-was_noted.ensures

pub invariant_of-self : goal.invariant_of-self
invariant_of-self c =
    let there = entry_there c.self.inside.rows.entries c.self.inside.promised c.args.key c.args.row.frame.0 (rw (← c.self.view_is) at c.requires) in
    let wrote = c.get_mut.follows.holds c.args.row in
    record {
      unique = wrote.4;
      pages =
          λ o p. c.mark.ensures.pages o p
          ∙ pages_kept c.self.inside.rows.entries (c.get_mut.follows.lender c.args.row).entries c.args.key c.args.row c.self.inside.pages
          c.self.invariant.pages (λ o p. (wrote.3 there).0 (page_key o p)) there o p;
      noted =
          pages_put has_note c.self.inside.rows.entries (c.get_mut.follows.lender c.args.row).entries c.args.key (Some c.args.row)
          (is_marked c.self.inside.pages) (is_marked c.mark.new.pages) c.self.invariant.noted (λ o p. (wrote.3 there).0 (page_key o p))
          (rw c.is_noted.ensures at c.mark.ensures.marks.at);
      led =
          λ apart. led_changed c.self.inside.rows.entries (c.get_mut.follows.lender c.args.row).entries c.args.key c.args.row c.self.inside.owners (left c 0)
          (c.self.invariant.led apart);
      rows_room = rw wrote.6 c.self.invariant.rows_room;
      pages_room = rw c.mark.ensures.room c.self.invariant.pages_room;
      owners_room = c.self.invariant.owners_room;
    }

pub returns-clause-rows : goal.returns-clause-rows
returns-clause-rows c = let leaves = left c c.self.inside.promised in rw (← c.self.view_is) leaves.rows

pub returns-clause-frames : goal.returns-clause-frames
returns-clause-frames c = let leaves = left c c.self.inside.promised in rw (← c.self.view_is) leaves.frames

pub returns-clause-owned : goal.returns-clause-owned
returns-clause-owned c = let leaves = left c c.self.inside.promised in rw (← c.self.view_is) leaves.owned
