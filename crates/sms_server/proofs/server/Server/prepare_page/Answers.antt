use Rattle.std.proofs.Common.{◌≡◌, List, length, Some, sym, ◌∙◌, ap, subst, arith}
use Rattle.std.proofs.lemmas.Bool.{false≢true}
use Rattle.std.specs.Prelude.{slice_get}
use Rattle.sms_server.proofs.Naming.{found_now, kept_same, rows_set, same_table_then, table_same}
use Rattle.sms_server.proofs.Placed.{get_set_same}
use Rattle.sms_server.specs.Kept.{HasMemory, IsRowAt}
use Rattle.sms_server.specs.Table.{ServerTable}
use Rattle.sms_server.specs.declared.page_row.PageRow.{PageRow}
use Rattle.sms_server.proofs.server.Server.prepare_page.Goals as goal

pub invariant_of-self : goal.invariant_of-self
invariant_of-self c =
    let rows = c.self.inside.rows.items in
    let i = c.in_ok-i.i in
    let table = c.find_or_name.new.self in
    let seen : table.rows ≡ rows = ap (λ (t : ServerTable). t.rows) (sym c.self.view_is) in
    let at = subst (IsRowAt c.args.key i) seen c.in_ok-i.ensures.at in
    let x = c.index_mut.result.now in
    let y = c.reserve.new.self in
    let stands = found_now rows c.args.key i x at c.index_mut.ensures.value in
    let same = rows_set rows i x y stands.is c.reserve.ensures.same in
    kept_same c.self.inside.size rows c.self.inside.places c.self.inside.spare c.self.inside.events.items _ i x y c.self.invariant stands.is
    c.reserve.ensures.same (c.self.invariant.none)

pub returns-in_err-most-clause-same : goal.returns-in_err-most-clause-same
returns-in_err-most-clause-same c =
    let rows = c.self.inside.rows.items in
    let i = c.in_ok-i.i in
    let table = c.find_or_name.new.self in
    let seen : table.rows ≡ rows = ap (λ (t : ServerTable). t.rows) (sym c.self.view_is) in
    let at = subst (IsRowAt c.args.key i) seen c.in_ok-i.ensures.at in
    let x = c.index_mut.result.now in
    let y = c.reserve.new.self in
    let stands = found_now rows c.args.key i x at c.index_mut.ensures.value in
    let same = rows_set rows i x y stands.is c.reserve.ensures.same in
    same_table_then c.args.self.now table _ c.find_or_name.ensures.same (table_same table _ rows seen (ap (λ (t : ServerTable). t.size) c.self.view_is) same)

pub returns-in_err-most-clause-succeeds : goal.returns-in_err-most-clause-succeeds
returns-in_err-most-clause-succeeds c = λ prepared.
    let rows = c.self.inside.rows.items in
    let i = c.in_ok-i.i in
    let table = c.find_or_name.new.self in
    let seen : table.rows ≡ rows = ap (λ (t : ServerTable). t.rows) (sym c.self.view_is) in
    let at = subst (IsRowAt c.args.key i) seen c.in_ok-i.ensures.at in
    let x = c.index_mut.result.now in
    let y = c.reserve.new.self in
    let stands = found_now rows c.args.key i x at c.index_mut.ensures.value in
    let same = rows_set rows i x y stands.is c.reserve.ensures.same in
    let memory : HasMemory table.room (Some x) = subst (HasMemory table.room) (ap (λ (l : List PageRow). slice_get l i) seen ∙ stands.is)
    (c.in_ok-i.ensures.memory prepared) in
    absurd (false≢true (c.in_err-most.ensures.succeeds memory.0))

pub invariant_of-self-in_err-reserve : goal.invariant_of-self-in_err-reserve
invariant_of-self-in_err-reserve c =
    let rows = c.self.inside.rows.items in
    let i = c.in_ok-i.i in
    let table = c.find_or_name.new.self in
    let seen : table.rows ≡ rows = ap (λ (t : ServerTable). t.rows) (sym c.self.view_is) in
    let at = subst (IsRowAt c.args.key i) seen c.in_ok-i.ensures.at in
    let x = c.index_mut.result.now in
    let y = c.reserve.new.self in
    let stands = found_now rows c.args.key i x at c.index_mut.ensures.value in
    let same = rows_set rows i x y stands.is c.reserve.ensures.same in
    kept_same c.self.inside.size rows c.self.inside.places c.self.inside.spare c.self.inside.events.items _ i x y c.self.invariant stands.is
    c.reserve.ensures.same (c.reserve-2.ensures.same ∙ c.self.invariant.none)

pub returns-in_err-reserve-clause-same : goal.returns-in_err-reserve-clause-same
returns-in_err-reserve-clause-same c =
    let rows = c.self.inside.rows.items in
    let i = c.in_ok-i.i in
    let table = c.find_or_name.new.self in
    let seen : table.rows ≡ rows = ap (λ (t : ServerTable). t.rows) (sym c.self.view_is) in
    let at = subst (IsRowAt c.args.key i) seen c.in_ok-i.ensures.at in
    let x = c.index_mut.result.now in
    let y = c.reserve.new.self in
    let stands = found_now rows c.args.key i x at c.index_mut.ensures.value in
    let same = rows_set rows i x y stands.is c.reserve.ensures.same in
    same_table_then c.args.self.now table _ c.find_or_name.ensures.same (table_same table _ rows seen (ap (λ (t : ServerTable). t.size) c.self.view_is) same)

pub returns-in_err-reserve-clause-succeeds : goal.returns-in_err-reserve-clause-succeeds
returns-in_err-reserve-clause-succeeds c = λ prepared.
    let rows = c.self.inside.rows.items in
    let i = c.in_ok-i.i in
    let table = c.find_or_name.new.self in
    let seen : table.rows ≡ rows = ap (λ (t : ServerTable). t.rows) (sym c.self.view_is) in
    let at = subst (IsRowAt c.args.key i) seen c.in_ok-i.ensures.at in
    let x = c.index_mut.result.now in
    let y = c.reserve.new.self in
    let stands = found_now rows c.args.key i x at c.index_mut.ensures.value in
    let same = rows_set rows i x y stands.is c.reserve.ensures.same in
    let memory : HasMemory table.room (Some x) = subst (HasMemory table.room) (ap (λ (l : List PageRow). slice_get l i) seen ∙ stands.is)
    (c.in_ok-i.ensures.memory prepared) in
    let room = ap (λ (t : ServerTable). t.room) c.self.view_is in
    absurd (false≢true (c.in_err-reserve.ensures.succeeds (omega (arith, memory.1, room, c.in_ok-most.ensures.most))))

pub invariant_of-self-2 : goal.invariant_of-self-2
invariant_of-self-2 c =
    let rows = c.self.inside.rows.items in
    let i = c.in_ok-i.i in
    let table = c.find_or_name.new.self in
    let seen : table.rows ≡ rows = ap (λ (t : ServerTable). t.rows) (sym c.self.view_is) in
    let at = subst (IsRowAt c.args.key i) seen c.in_ok-i.ensures.at in
    let x = c.index_mut.result.now in
    let y = c.reserve.new.self in
    let stands = found_now rows c.args.key i x at c.index_mut.ensures.value in
    let same = rows_set rows i x y stands.is c.reserve.ensures.same in
    kept_same c.self.inside.size rows c.self.inside.places c.self.inside.spare c.self.inside.events.items _ i x y c.self.invariant stands.is
    c.reserve.ensures.same (c.reserve-2.ensures.same ∙ c.self.invariant.none)

pub returns-clause-same : goal.returns-clause-same
returns-clause-same c =
    let rows = c.self.inside.rows.items in
    let i = c.in_ok-i.i in
    let table = c.find_or_name.new.self in
    let seen : table.rows ≡ rows = ap (λ (t : ServerTable). t.rows) (sym c.self.view_is) in
    let at = subst (IsRowAt c.args.key i) seen c.in_ok-i.ensures.at in
    let x = c.index_mut.result.now in
    let y = c.reserve.new.self in
    let stands = found_now rows c.args.key i x at c.index_mut.ensures.value in
    let same = rows_set rows i x y stands.is c.reserve.ensures.same in
    same_table_then c.args.self.now table _ c.find_or_name.ensures.same (table_same table _ rows seen (ap (λ (t : ServerTable). t.size) c.self.view_is) same)

pub returns-clause-at : goal.returns-clause-at
returns-clause-at c =
    let rows = c.self.inside.rows.items in
    let i = c.in_ok-i.i in
    let table = c.find_or_name.new.self in
    let seen : table.rows ≡ rows = ap (λ (t : ServerTable). t.rows) (sym c.self.view_is) in
    let at = subst (IsRowAt c.args.key i) seen c.in_ok-i.ensures.at in
    let x = c.index_mut.result.now in
    let y = c.reserve.new.self in
    let stands = found_now rows c.args.key i x at c.index_mut.ensures.value in
    let same = rows_set rows i x y stands.is c.reserve.ensures.same in
    let lines = ap length c.reserve.ensures.same.1.line in
    let most = c.in_ok-most.ensures.most in
    let room = c.in_ok-reserve.ensures.room in
    record {
      row = y;
      at = get_set_same rows i y stands.within;
      key_is = c.reserve.ensures.same.0 ∙ stands.key_same;
      prepared = c.in_ok-most.ensures.prepared;
      room = omega (arith, lines, most, room);
    }
