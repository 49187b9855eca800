use Rattle.std.proofs.Common.{◌≡◌, List, refl, sym, ◌∙◌, ap, subst, arith}
use Rattle.std.proofs.lemmas.List.{with_items_is}
use Rattle.sms_server.proofs.Naming.{kept_walked, replies_same, table_same}
use Rattle.sms_server.proofs.Placed.{keeps}
use Rattle.sms_server.specs.Kept.{ArePlaced, IsKept, RowsAreSame}
use Rattle.sms_server.specs.Table.{ServerTable, replies_among}
use Rattle.sms_server.specs.declared.page_row.PageRow.{PageRow}
use Rattle.sms_server.proofs.server.Server.prepare_object.Goals as goal

pub invariant_of-self : goal.invariant_of-self
invariant_of-self c =
    let rows = c.self.inside.rows.items in
    let left = c.reserve_rows.new.rows in
    let seen : c.args.self.now.rows ≡ rows = ap (λ (t : ServerTable). t.rows) (sym c.self.view_is) in
    let sized : c.self.inside.size ≡ c.args.self.now.size = ap (λ (t : ServerTable). t.size) c.self.view_is in
    let same : RowsAreSame rows left = subst (λ (l : List PageRow). RowsAreSame l left) c.deref_mut.ensures.value c.reserve_rows.ensures.same in
    let is = with_items_is c.self.inside.rows left (omega (arith, c.reserve_rows.auto.rows, c.deref_mut.ensures.len)) in
    let placed : ArePlaced c.self.inside.places left = c.reserve_rows.ensures.placed in
    let kept : IsKept c.self.inside.size left c.self.inside.places c.self.inside.spare c.self.inside.events.items = kept_walked c.self.inside.size rows left
    c.self.inside.places c.self.inside.places c.self.inside.spare c.self.inside.events.items c.self.inside.events.items c.self.invariant placed
    (keeps c.self.inside.places c.self.inside.places refl) same (c.self.invariant.none) in
    subst (λ (l : List PageRow). IsKept c.self.inside.size l c.self.inside.places c.self.inside.spare c.self.inside.events.items) (sym is) kept

pub returns-in_err-most-clause-same : goal.returns-in_err-most-clause-same
returns-in_err-most-clause-same c =
    let rows = c.self.inside.rows.items in
    let left = c.reserve_rows.new.rows in
    let seen : c.args.self.now.rows ≡ rows = ap (λ (t : ServerTable). t.rows) (sym c.self.view_is) in
    let sized : c.self.inside.size ≡ c.args.self.now.size = ap (λ (t : ServerTable). t.size) c.self.view_is in
    let same : RowsAreSame rows left = subst (λ (l : List PageRow). RowsAreSame l left) c.deref_mut.ensures.value c.reserve_rows.ensures.same in
    let is = with_items_is c.self.inside.rows left (omega (arith, c.reserve_rows.auto.rows, c.deref_mut.ensures.len)) in
    table_same c.args.self.now _ rows seen sized (subst (RowsAreSame rows) (sym is) same)

pub invariant_of-self-in_default : goal.invariant_of-self-in_default
invariant_of-self-in_default c =
    let rows = c.self.inside.rows.items in
    let left = c.reserve_rows.new.rows in
    let seen : c.args.self.now.rows ≡ rows = ap (λ (t : ServerTable). t.rows) (sym c.self.view_is) in
    let sized : c.self.inside.size ≡ c.args.self.now.size = ap (λ (t : ServerTable). t.size) c.self.view_is in
    let same : RowsAreSame rows left = subst (λ (l : List PageRow). RowsAreSame l left) c.deref_mut.ensures.value c.reserve_rows.ensures.same in
    let is = with_items_is c.self.inside.rows left (omega (arith, c.reserve_rows.auto.rows, c.deref_mut.ensures.len)) in
    let placed : ArePlaced c.self.inside.places left = c.reserve_rows.ensures.placed in
    let kept : IsKept c.self.inside.size left c.self.inside.places c.self.inside.spare c.self.inside.events.items = kept_walked c.self.inside.size rows left
    c.self.inside.places c.self.inside.places c.self.inside.spare c.self.inside.events.items c.self.inside.events.items c.self.invariant placed
    (keeps c.self.inside.places c.self.inside.places refl) same (c.self.invariant.none) in
    subst (λ (l : List PageRow). IsKept c.self.inside.size l c.self.inside.places c.self.inside.spare c.self.inside.events.items) (sym is) kept

pub returns-in_default-clause-same : goal.returns-in_default-clause-same
returns-in_default-clause-same c =
    let rows = c.self.inside.rows.items in
    let left = c.reserve_rows.new.rows in
    let seen : c.args.self.now.rows ≡ rows = ap (λ (t : ServerTable). t.rows) (sym c.self.view_is) in
    let sized : c.self.inside.size ≡ c.args.self.now.size = ap (λ (t : ServerTable). t.size) c.self.view_is in
    let same : RowsAreSame rows left = subst (λ (l : List PageRow). RowsAreSame l left) c.deref_mut.ensures.value c.reserve_rows.ensures.same in
    let is = with_items_is c.self.inside.rows left (omega (arith, c.reserve_rows.auto.rows, c.deref_mut.ensures.len)) in
    table_same c.args.self.now _ rows seen sized (subst (RowsAreSame rows) (sym is) same)

pub invariant_of-self-in_err-reserve : goal.invariant_of-self-in_err-reserve
invariant_of-self-in_err-reserve c =
    let rows = c.self.inside.rows.items in
    let left = c.reserve_rows.new.rows in
    let seen : c.args.self.now.rows ≡ rows = ap (λ (t : ServerTable). t.rows) (sym c.self.view_is) in
    let sized : c.self.inside.size ≡ c.args.self.now.size = ap (λ (t : ServerTable). t.size) c.self.view_is in
    let same : RowsAreSame rows left = subst (λ (l : List PageRow). RowsAreSame l left) c.deref_mut.ensures.value c.reserve_rows.ensures.same in
    let is = with_items_is c.self.inside.rows left (omega (arith, c.reserve_rows.auto.rows, c.deref_mut.ensures.len)) in
    let placed : ArePlaced c.self.inside.places left = c.reserve_rows.ensures.placed in
    let kept : IsKept c.self.inside.size left c.self.inside.places c.self.inside.spare c.reserve.new.self.items = kept_walked c.self.inside.size rows left
    c.self.inside.places c.self.inside.places c.self.inside.spare c.self.inside.events.items c.reserve.new.self.items c.self.invariant placed
    (keeps c.self.inside.places c.self.inside.places refl) same (c.reserve.ensures.same ∙ c.self.invariant.none) in
    subst (λ (l : List PageRow). IsKept c.self.inside.size l c.self.inside.places c.self.inside.spare c.reserve.new.self.items) (sym is) kept

pub returns-in_err-reserve-clause-same : goal.returns-in_err-reserve-clause-same
returns-in_err-reserve-clause-same c =
    let rows = c.self.inside.rows.items in
    let left = c.reserve_rows.new.rows in
    let seen : c.args.self.now.rows ≡ rows = ap (λ (t : ServerTable). t.rows) (sym c.self.view_is) in
    let sized : c.self.inside.size ≡ c.args.self.now.size = ap (λ (t : ServerTable). t.size) c.self.view_is in
    let same : RowsAreSame rows left = subst (λ (l : List PageRow). RowsAreSame l left) c.deref_mut.ensures.value c.reserve_rows.ensures.same in
    let is = with_items_is c.self.inside.rows left (omega (arith, c.reserve_rows.auto.rows, c.deref_mut.ensures.len)) in
    table_same c.args.self.now _ rows seen sized (subst (RowsAreSame rows) (sym is) same)

pub invariant_of-self-2 : goal.invariant_of-self-2
invariant_of-self-2 c =
    let rows = c.self.inside.rows.items in
    let left = c.reserve_rows.new.rows in
    let seen : c.args.self.now.rows ≡ rows = ap (λ (t : ServerTable). t.rows) (sym c.self.view_is) in
    let sized : c.self.inside.size ≡ c.args.self.now.size = ap (λ (t : ServerTable). t.size) c.self.view_is in
    let same : RowsAreSame rows left = subst (λ (l : List PageRow). RowsAreSame l left) c.deref_mut.ensures.value c.reserve_rows.ensures.same in
    let is = with_items_is c.self.inside.rows left (omega (arith, c.reserve_rows.auto.rows, c.deref_mut.ensures.len)) in
    let placed : ArePlaced c.self.inside.places left = c.reserve_rows.ensures.placed in
    let kept : IsKept c.self.inside.size left c.self.inside.places c.self.inside.spare c.reserve.new.self.items = kept_walked c.self.inside.size rows left
    c.self.inside.places c.self.inside.places c.self.inside.spare c.self.inside.events.items c.reserve.new.self.items c.self.invariant placed
    (keeps c.self.inside.places c.self.inside.places refl) same (c.reserve.ensures.same ∙ c.self.invariant.none) in
    subst (λ (l : List PageRow). IsKept c.self.inside.size l c.self.inside.places c.self.inside.spare c.reserve.new.self.items) (sym is) kept

pub returns-clause-same : goal.returns-clause-same
returns-clause-same c =
    let rows = c.self.inside.rows.items in
    let left = c.reserve_rows.new.rows in
    let seen : c.args.self.now.rows ≡ rows = ap (λ (t : ServerTable). t.rows) (sym c.self.view_is) in
    let sized : c.self.inside.size ≡ c.args.self.now.size = ap (λ (t : ServerTable). t.size) c.self.view_is in
    let same : RowsAreSame rows left = subst (λ (l : List PageRow). RowsAreSame l left) c.deref_mut.ensures.value c.reserve_rows.ensures.same in
    let is = with_items_is c.self.inside.rows left (omega (arith, c.reserve_rows.auto.rows, c.deref_mut.ensures.len)) in
    table_same c.args.self.now _ rows seen sized (subst (RowsAreSame rows) (sym is) same)

pub returns-clause-most : goal.returns-clause-most
returns-clause-most c =
    let rows = c.self.inside.rows.items in
    let left = c.reserve_rows.new.rows in
    let seen : c.args.self.now.rows ≡ rows = ap (λ (t : ServerTable). t.rows) (sym c.self.view_is) in
    let sized : c.self.inside.size ≡ c.args.self.now.size = ap (λ (t : ServerTable). t.size) c.self.view_is in
    let same : RowsAreSame rows left = subst (λ (l : List PageRow). RowsAreSame l left) c.deref_mut.ensures.value c.reserve_rows.ensures.same in
    let is = with_items_is c.self.inside.rows left (omega (arith, c.reserve_rows.auto.rows, c.deref_mut.ensures.len)) in
    let now = ap (replies_among c.args.object.0) is ∙ replies_same c.args.object.0 rows left same in
    let was = ap (replies_among c.args.object.0) c.deref_mut.ensures.value in
    let most = c.in_ok-most.ensures.most in
    let sum = c.in-Some.ensures in
    rw now (omega (arith, sum.1, most, was))

pub returns-clause-least : goal.returns-clause-least
returns-clause-least c =
    let rows = c.self.inside.rows.items in
    let left = c.reserve_rows.new.rows in
    let seen : c.args.self.now.rows ≡ rows = ap (λ (t : ServerTable). t.rows) (sym c.self.view_is) in
    let sized : c.self.inside.size ≡ c.args.self.now.size = ap (λ (t : ServerTable). t.size) c.self.view_is in
    let same : RowsAreSame rows left = subst (λ (l : List PageRow). RowsAreSame l left) c.deref_mut.ensures.value c.reserve_rows.ensures.same in
    let is = with_items_is c.self.inside.rows left (omega (arith, c.reserve_rows.auto.rows, c.deref_mut.ensures.len)) in
    let now = ap (replies_among c.args.object.0) is ∙ replies_same c.args.object.0 rows left same in
    let was = ap (replies_among c.args.object.0) c.deref_mut.ensures.value in
    let most = c.in_ok-most.ensures.most in
    let sum = c.in-Some.ensures in
    rw (now, seen) refl

pub returns-clause-room : goal.returns-clause-room
returns-clause-room c =
    let rows = c.self.inside.rows.items in
    let left = c.reserve_rows.new.rows in
    let seen : c.args.self.now.rows ≡ rows = ap (λ (t : ServerTable). t.rows) (sym c.self.view_is) in
    let sized : c.self.inside.size ≡ c.args.self.now.size = ap (λ (t : ServerTable). t.size) c.self.view_is in
    let same : RowsAreSame rows left = subst (λ (l : List PageRow). RowsAreSame l left) c.deref_mut.ensures.value c.reserve_rows.ensures.same in
    let is = with_items_is c.self.inside.rows left (omega (arith, c.reserve_rows.auto.rows, c.deref_mut.ensures.len)) in
    let now = ap (replies_among c.args.object.0) is ∙ replies_same c.args.object.0 rows left same in
    let was = ap (replies_among c.args.object.0) c.deref_mut.ensures.value in
    let most = c.in_ok-most.ensures.most in
    let sum = c.in-Some.ensures in
    let room = c.in_ok-reserve.ensures.room in rw now (omega (arith, sum.1, most, was, room))

pub returns-clause-few : goal.returns-clause-few
returns-clause-few c =
    let rows = c.self.inside.rows.items in
    let left = c.reserve_rows.new.rows in
    let seen : c.args.self.now.rows ≡ rows = ap (λ (t : ServerTable). t.rows) (sym c.self.view_is) in
    let sized : c.self.inside.size ≡ c.args.self.now.size = ap (λ (t : ServerTable). t.size) c.self.view_is in
    let same : RowsAreSame rows left = subst (λ (l : List PageRow). RowsAreSame l left) c.deref_mut.ensures.value c.reserve_rows.ensures.same in
    let is = with_items_is c.self.inside.rows left (omega (arith, c.reserve_rows.auto.rows, c.deref_mut.ensures.len)) in
    let now = ap (replies_among c.args.object.0) is ∙ replies_same c.args.object.0 rows left same in
    let was = ap (replies_among c.args.object.0) c.deref_mut.ensures.value in
    let most = c.in_ok-most.ensures.most in
    let sum = c.in-Some.ensures in
    rw now (omega (arith, sum.0, sum.1, most, was))
