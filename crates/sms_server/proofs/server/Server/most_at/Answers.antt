use Rattle.std.proofs.Common.{◌≡◌, sym, ap, subst}
use Rattle.vm_base.specs.declared.ids.PageKey.{PageKey}
use Rattle.sms_server.proofs.Most.{most_of_left}
use Rattle.sms_server.proofs.Naming.{found_now, kept_same, rows_set, same_table_then, table_same}
use Rattle.sms_server.proofs.Placed.{are_apart}
use Rattle.sms_server.specs.Kept.{IsRowAt}
use Rattle.sms_server.specs.Table.{ServerTable}
use Rattle.sms_server.proofs.server.Server.most_at.Goals as goal

pub invariant_of-self : goal.invariant_of-self
invariant_of-self c =
    let rows = c.self.inside.rows.items in
    let i = c.in_ok-i.i in
    let key : PageKey = record { object = c.args.object; page = c.args.page } in
    let table = c.find_or_name.new.self in
    let seen : table.rows ≡ rows = ap (λ (t : ServerTable). t.rows) (sym c.self.view_is) in
    let at = subst (IsRowAt key i) seen c.in_ok-i.ensures.at in
    let x = c.index_mut.result.now in
    let y = c.reserve.new.self in
    let stands = found_now rows key i x at c.index_mut.ensures.value in
    let alike = rows_set rows i x y stands.is c.reserve.ensures.same in
    kept_same c.self.inside.size rows c.self.inside.places c.self.inside.spare c.self.inside.events.items _ i x y c.self.invariant stands.is
    c.reserve.ensures.same (c.self.invariant.none)

pub returns-clause-same : goal.returns-clause-same
returns-clause-same c =
    let rows = c.self.inside.rows.items in
    let i = c.in_ok-i.i in
    let key : PageKey = record { object = c.args.object; page = c.args.page } in
    let table = c.find_or_name.new.self in
    let seen : table.rows ≡ rows = ap (λ (t : ServerTable). t.rows) (sym c.self.view_is) in
    let at = subst (IsRowAt key i) seen c.in_ok-i.ensures.at in
    let x = c.index_mut.result.now in
    let y = c.reserve.new.self in
    let stands = found_now rows key i x at c.index_mut.ensures.value in
    let alike = rows_set rows i x y stands.is c.reserve.ensures.same in
    same_table_then c.args.self.now table _ c.find_or_name.ensures.same (table_same table _ rows seen (ap (λ (t : ServerTable). t.size) c.self.view_is) alike)

pub returns-clause-most : goal.returns-clause-most
returns-clause-most c =
    let rows = c.self.inside.rows.items in
    let i = c.in_ok-i.i in
    let key : PageKey = record { object = c.args.object; page = c.args.page } in
    let table = c.find_or_name.new.self in
    let seen : table.rows ≡ rows = ap (λ (t : ServerTable). t.rows) (sym c.self.view_is) in
    let at = subst (IsRowAt key i) seen c.in_ok-i.ensures.at in
    let x = c.index_mut.result.now in
    let y = c.reserve.new.self in
    let stands = found_now rows key i x at c.index_mut.ensures.value in
    let alike = rows_set rows i x y stands.is c.reserve.ensures.same in
    most_of_left c.reserve.result c.args.object.0 c.args.page.0 c.args.message.now rows i x table _ c.requires.about c.requires.one
    (ap (λ (k : PageKey). k.object.0) stands.key_same) (ap (λ (k : PageKey). k.page.0) stands.key_same) seen (are_apart c.self.inside.places rows c.self.invariant.placed) stands.is
    (table_same table _ rows seen (ap (λ (t : ServerTable). t.size) c.self.view_is) alike) c.reserve.ensures.most
