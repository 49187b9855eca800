use Rattle.std.proofs.Common.{◌≡◌, ◌∙◌, List, ap, subst, sym, arith}
use Rattle.std.proofs.lemmas.List.{with_items_is}
use Rattle.sms_server.proofs.Loops.{end_replies_few}
use Rattle.sms_server.proofs.Most.{enough}
use Rattle.sms_server.proofs.Walking.{sum_whole}
use Rattle.sms_server.proofs.Naming.{end_replies_same, kept_walked, table_same}
use Rattle.sms_server.specs.Kept.{IsKept, RowsAreSame, end_replies, end_replies_among}
use Rattle.sms_server.specs.Table.{ServerTable, replies_among}
use Rattle.sms_server.specs.declared.page_row.PageRow.{PageRow}
use Rattle.sms_server.proofs.server.Server.prepare_ends.Goals as goal

pub invariant_of-self : goal.invariant_of-self
invariant_of-self c =
    let rows = c.self.inside.rows.items in
    let left = c.reserve_ends.new.rows in
    let same : RowsAreSame rows left = subst (λ (l : List PageRow). RowsAreSame l left) c.deref_mut.ensures.value c.reserve_ends.ensures.same in
    let is = with_items_is c.self.inside.rows left (omega (arith, c.reserve_ends.auto.rows, c.deref_mut.ensures.len)) in
    let kept = kept_walked c.self.inside.size rows left c.self.inside.places c.reserve_ends.new.places c.self.inside.spare c.self.inside.events.items
    c.self.inside.events.items c.self.invariant c.reserve_ends.ensures.placed c.reserve_ends.ensures.kept same c.self.invariant.none in
    subst (λ (l : List PageRow). IsKept c.self.inside.size l c.reserve_ends.new.places c.self.inside.spare c.self.inside.events.items) (sym is) kept

pub returns-in_err-most-clause-same : goal.returns-in_err-most-clause-same
returns-in_err-most-clause-same c =
    let rows = c.self.inside.rows.items in
    let left = c.reserve_ends.new.rows in
    let seen : c.args.self.now.rows ≡ rows = ap (λ (t : ServerTable). t.rows) (sym c.self.view_is) in
    let sized : c.self.inside.size ≡ c.args.self.now.size = ap (λ (t : ServerTable). t.size) c.self.view_is in
    let same : RowsAreSame rows left = subst (λ (l : List PageRow). RowsAreSame l left) c.deref_mut.ensures.value c.reserve_ends.ensures.same in
    let is = with_items_is c.self.inside.rows left (omega (arith, c.reserve_ends.auto.rows, c.deref_mut.ensures.len)) in
    table_same c.args.self.now _ rows seen sized (subst (RowsAreSame rows) (sym is) same)

pub invariant_of-self-2 : goal.invariant_of-self-2
invariant_of-self-2 c =
    let rows = c.self.inside.rows.items in
    let left = c.reserve_ends.new.rows in
    let same : RowsAreSame rows left = subst (λ (l : List PageRow). RowsAreSame l left) c.deref_mut.ensures.value c.reserve_ends.ensures.same in
    let is = with_items_is c.self.inside.rows left (omega (arith, c.reserve_ends.auto.rows, c.deref_mut.ensures.len)) in
    let kept = kept_walked c.self.inside.size rows left c.self.inside.places c.reserve_ends.new.places c.self.inside.spare c.self.inside.events.items
    c.reserve.new.self.items c.self.invariant c.reserve_ends.ensures.placed c.reserve_ends.ensures.kept same
    (c.reserve.ensures.same ∙ c.self.invariant.none) in
    subst (λ (l : List PageRow). IsKept c.self.inside.size l c.reserve_ends.new.places c.self.inside.spare c.reserve.new.self.items) (sym is) kept

pub returns-clause-same : goal.returns-clause-same
returns-clause-same c =
    let rows = c.self.inside.rows.items in
    let left = c.reserve_ends.new.rows in
    let seen : c.args.self.now.rows ≡ rows = ap (λ (t : ServerTable). t.rows) (sym c.self.view_is) in
    let sized : c.self.inside.size ≡ c.args.self.now.size = ap (λ (t : ServerTable). t.size) c.self.view_is in
    let same : RowsAreSame rows left = subst (λ (l : List PageRow). RowsAreSame l left) c.deref_mut.ensures.value c.reserve_ends.ensures.same in
    let is = with_items_is c.self.inside.rows left (omega (arith, c.reserve_ends.auto.rows, c.deref_mut.ensures.len)) in
    table_same c.args.self.now _ rows seen sized (subst (RowsAreSame rows) (sym is) same)

pub returns-clause-room : goal.returns-clause-room
returns-clause-room c =
    let rows = c.self.inside.rows.items in
    let left = c.reserve_ends.new.rows in
    let same : RowsAreSame rows left = subst (λ (l : List PageRow). RowsAreSame l left) c.deref_mut.ensures.value c.reserve_ends.ensures.same in
    let is = with_items_is c.self.inside.rows left (omega (arith, c.reserve_ends.auto.rows, c.deref_mut.ensures.len)) in
    let now = ap (end_replies_among c.args.host.0 c.args.object.0) is ∙ end_replies_same c.args.host.0 c.args.object.0 rows left same in
    let was = ap (end_replies_among c.args.host.0 c.args.object.0) c.deref_mut.ensures.value in
    rw now (enough c.reserve.result _ _ c.reserve.new.self.room c.reserve.ensures.room (c.in_ok-most.ensures.most ∙ was))

pub returns-clause-succeeds : goal.returns-clause-succeeds
returns-clause-succeeds c = λ prepared.
    let h = c.args.host.0 in
    let o = c.args.object.0 in
    let rows = c.self.inside.rows.items in
    let was = c.in_ok-most.ensures.most ∙ ap (end_replies_among h o) c.deref_mut.ensures.value in
    let ready = rw (← c.self.view_is) at prepared.events in
    let few = end_replies_few h o rows in
    let whole = sum_whole (end_replies h) o rows in
    c.reserve.ensures.succeeds (omega (arith, was, ready, few, whole))

pub returns-in_err-most-clause-few : goal.returns-in_err-most-clause-few
returns-in_err-most-clause-few c =
    let h = c.args.host.0 in
    let o = c.args.object.0 in
    let rows = c.self.inside.rows.items in
    let left = c.reserve_ends.new.rows in
    let same : RowsAreSame rows left = subst (λ (l : List PageRow). RowsAreSame l left) c.deref_mut.ensures.value c.reserve_ends.ensures.same in
    let is = with_items_is c.self.inside.rows left (omega (arith, c.reserve_ends.auto.rows, c.deref_mut.ensures.len)) in
    let now = ap (end_replies_among h o) is ∙ end_replies_same h o rows left same in
    let seen = ap (λ (t : ServerTable). replies_among o t.rows) c.self.view_is in
    let whole = sum_whole (end_replies h) o rows in
    rw now (omega (arith, seen, whole, end_replies_few h o rows))

pub returns-clause-few : goal.returns-clause-few
returns-clause-few c =
    let h = c.args.host.0 in
    let o = c.args.object.0 in
    let rows = c.self.inside.rows.items in
    let left = c.reserve_ends.new.rows in
    let same : RowsAreSame rows left = subst (λ (l : List PageRow). RowsAreSame l left) c.deref_mut.ensures.value c.reserve_ends.ensures.same in
    let is = with_items_is c.self.inside.rows left (omega (arith, c.reserve_ends.auto.rows, c.deref_mut.ensures.len)) in
    let now = ap (end_replies_among h o) is ∙ end_replies_same h o rows left same in
    let seen = ap (λ (t : ServerTable). replies_among o t.rows) c.self.view_is in
    let whole = sum_whole (end_replies h) o rows in
    rw now (omega (arith, seen, whole, end_replies_few h o rows))
