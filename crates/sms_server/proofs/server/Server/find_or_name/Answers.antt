use Rattle.std.proofs.Common.{◌≡◌, ◌∙◌, List, true, ap, refl, subst, sym}
use Rattle.std.specs.Prelude.{slice_get}
use Rattle.sms_server.proofs.Naming.{has_memory}
use Rattle.sms_server.proofs.Placed.{found, not_found, stands_row}
use Rattle.sms_server.specs.Kept.{HasMemory, is_page_at}
use Rattle.sms_server.specs.Table.{ServerTable}
use Rattle.sms_server.specs.declared.page_row.PageRow.{PageRow}
use Rattle.sms_server.proofs.server.Server.find_or_name.Goals as goal

pub returns-then-stands_at-clause-memory : goal.returns-then-stands_at-clause-memory
returns-then-stands_at-clause-memory c = λ prepared.
    let table = c.args.self.now in
    let last = c.self.inside.last in
    let seen : c.deref.result.now ≡ table.rows = c.deref.ensures.value ∙ ap (λ (t : ServerTable). t.rows) c.self.view_is in
    let here : is_page_at c.args.key.object.0 c.args.key.page.0 (slice_get table.rows last) ≡ true = ap
    (λ (l : List PageRow). is_page_at c.args.key.object.0 c.args.key.page.0 (slice_get l last)) (sym seen) ∙ (sym c.stands_at.ensures ∙ c.if-stands_at.true) in
    let at = stands_row table.rows c.args.key last here in
    has_memory table table.rows c.args.key last at.row refl at.at at.key_is prepared

pub name_page-requires : goal.name_page-requires
name_page-requires c =
    let none = not_found c.self.inside.places c.self.inside.rows.items c.args.key.object.0 c.args.key.page.0 c.self.invariant.placed
    (sym c.get.ensures ∙ c.in_default.is) in
    rw (← c.self.view_is) none

pub returns-clause-at : goal.returns-clause-at
returns-clause-at c =
    found c.self.inside.places c.self.inside.rows.items c.args.key c.in-Some.at c.self.invariant.placed (sym c.get.ensures ∙ c.in-Some.is)

pub returns-clause-memory : goal.returns-clause-memory
returns-clause-memory c = λ prepared.
    let table = c.args.self.now in
    let rows = c.self.inside.rows.items in
    let seen : table.rows ≡ rows = ap (λ (t : ServerTable). t.rows) (sym c.self.view_is) in
    let at = found c.self.inside.places rows c.args.key c.in-Some.at c.self.invariant.placed (sym c.get.ensures ∙ c.in-Some.is) in
    subst (λ (t : ServerTable). HasMemory t.room (slice_get rows c.in-Some.at)) (sym c.self.view_is)
    (has_memory table rows c.args.key c.in-Some.at at.row seen at.at at.key_is prepared)
