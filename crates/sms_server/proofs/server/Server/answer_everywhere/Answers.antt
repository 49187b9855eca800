use Rattle.std.proofs.Common.{ℕ, ◌≡◌, List, [], length, sym, ◌∙◌, ap, subst, arith}
use Rattle.std.proofs.lemmas.List.{with_items_is}
use Rattle.vm_base.specs.Listing.{Listed}
use Rattle.vm_model.specs.declared.event.Event.{Event}
use Rattle.sms_server.proofs.Answering.{after_same_keys, end_answer_of, end_returns, end_words, whole_after}
use Rattle.sms_server.proofs.Most.{told_everywhere}
use Rattle.sms_server.proofs.Naming.{counted_kept}
use Rattle.sms_server.specs.Kept.{AreWhole, EventsInTurn, IsKept, RowsAfter, end_replies_among}
use Rattle.sms_server.specs.Table.{ServerTable}
use Rattle.sms_server.specs.declared.page_row.PageRow.{PageRow}
use Rattle.sms_server.proofs.server.Server.answer_everywhere.Goals as goal

pub invariant_of-self-2 : goal.invariant_of-self-2
invariant_of-self-2 c =
    let rows = c.self.inside.rows.items in
    let left = c.end_rows.new.rows in
    let table = c.prepare_ends.new.self in
    let m = c.args.message.now in
    let h = c.args.host.0 in
    let seen : table.rows ≡ rows = ap (λ (t : ServerTable). t.rows) (sym c.self.view_is) in
    let sized : c.self.inside.size ≡ table.size = ap (λ (t : ServerTable). t.size) c.self.view_is in
    let after : RowsAfter h m c.args.object.0 rows left = subst (λ (l : List PageRow). RowsAfter h m c.args.object.0 l left) c.deref_mut.ensures.value
    c.end_rows.ensures.rows in
    let is = with_items_is c.self.inside.rows left (omega (arith, c.end_rows.auto.rows, c.deref_mut.ensures.len)) in
    let none : c.replace-events.result.items ≡ [] = ap (λ (l : Listed Event). l.items) c.replace-events.ensures.value ∙ c.self.invariant.none in
    let told : EventsInTurn h m c.args.object.0 rows [] c.end_rows.new.events.items = subst
    (λ (es : List Event). EventsInTurn h m c.args.object.0 rows es c.end_rows.new.events.items) none
    (subst (λ (l : List PageRow). EventsInTurn h m c.args.object.0 l c.replace-events.result.items c.end_rows.new.events.items) c.deref_mut.ensures.value
    c.end_rows.ensures.events) in
    let empty : c.replace-events.new.dest.items ≡ [] = ap (λ (l : Listed Event). l.items) c.replace-events.ensures.after ∙ c.new.ensures in
    let kept : IsKept c.self.inside.size left c.end_rows.new.places c.self.inside.spare c.replace-events.new.dest.items = record {
      placed = c.end_rows.ensures.placed;
      counted = counted_kept c.self.inside.places c.end_rows.new.places rows left c.end_rows.ensures.kept.objects c.self.invariant.counted
          (after_same_keys h m c.args.object.0 rows left after);
      whole = whole_after c.self.inside.size h m c.args.object.0 rows left after
          (end_returns c.self.inside.size m c.requires.end) c.self.invariant.whole;
      new = c.self.invariant.new;
      none = empty;
    } in
    subst (λ (l : List PageRow). IsKept c.self.inside.size l c.end_rows.new.places c.self.inside.spare c.replace-events.new.dest.items) (sym is) kept

pub returns-clause-answered : goal.returns-clause-answered
returns-clause-answered c =
    let rows = c.self.inside.rows.items in
    let left = c.end_rows.new.rows in
    let table = c.prepare_ends.new.self in
    let m = c.args.message.now in
    let h = c.args.host.0 in
    let seen : table.rows ≡ rows = ap (λ (t : ServerTable). t.rows) (sym c.self.view_is) in
    let sized : c.self.inside.size ≡ table.size = ap (λ (t : ServerTable). t.size) c.self.view_is in
    let after : RowsAfter h m c.args.object.0 rows left = subst (λ (l : List PageRow). RowsAfter h m c.args.object.0 l left) c.deref_mut.ensures.value
    c.end_rows.ensures.rows in
    let is = with_items_is c.self.inside.rows left (omega (arith, c.end_rows.auto.rows, c.deref_mut.ensures.len)) in
    let none : c.replace-events.result.items ≡ [] = ap (λ (l : Listed Event). l.items) c.replace-events.ensures.value ∙ c.self.invariant.none in
    let told : EventsInTurn h m c.args.object.0 rows [] c.end_rows.new.events.items = subst
    (λ (es : List Event). EventsInTurn h m c.args.object.0 rows es c.end_rows.new.events.items) none
    (subst (λ (l : List PageRow). EventsInTurn h m c.args.object.0 l c.replace-events.result.items c.end_rows.new.events.items) c.deref_mut.ensures.value
    c.end_rows.ensures.events) in
    end_answer_of h c.args.object m rows left c.args.self.now table _ c.end_rows.new.events.items c.requires.end c.prepare_ends.ensures.same seen sized is
    (subst (λ (n : ℕ). AreWhole n rows) sized c.self.invariant.whole) c.requires.host after told

pub returns-clause-words : goal.returns-clause-words
returns-clause-words c =
    let rows = c.self.inside.rows.items in
    let left = c.end_rows.new.rows in
    let table = c.prepare_ends.new.self in
    let m = c.args.message.now in
    let h = c.args.host.0 in
    let seen : table.rows ≡ rows = ap (λ (t : ServerTable). t.rows) (sym c.self.view_is) in
    let sized : c.self.inside.size ≡ table.size = ap (λ (t : ServerTable). t.size) c.self.view_is in
    let after : RowsAfter h m c.args.object.0 rows left = subst (λ (l : List PageRow). RowsAfter h m c.args.object.0 l left) c.deref_mut.ensures.value
    c.end_rows.ensures.rows in
    let is = with_items_is c.self.inside.rows left (omega (arith, c.end_rows.auto.rows, c.deref_mut.ensures.len)) in
    let none : c.replace-events.result.items ≡ [] = ap (λ (l : Listed Event). l.items) c.replace-events.ensures.value ∙ c.self.invariant.none in
    let told : EventsInTurn h m c.args.object.0 rows [] c.end_rows.new.events.items = subst
    (λ (es : List Event). EventsInTurn h m c.args.object.0 rows es c.end_rows.new.events.items) none
    (subst (λ (l : List PageRow). EventsInTurn h m c.args.object.0 l c.replace-events.result.items c.end_rows.new.events.items) c.deref_mut.ensures.value
    c.end_rows.ensures.events) in
    let size_same : c.self.inside.size ≡ c.args.self.now.size = sized ∙ c.prepare_ends.ensures.same.size in
    end_words c.args.self.now.size h c.args.object m rows c.end_rows.new.events.items (end_returns c.args.self.now.size m c.requires.end)
    (subst (λ (n : ℕ). AreWhole n rows) size_same c.self.invariant.whole) told

pub returns-clause-few : goal.returns-clause-few
returns-clause-few c =
    let h = c.args.host.0 in
    let o = c.args.object.0 in
    let none = ap (λ (l : Listed Event). length l.items) c.replace-events.ensures.value ∙ ap length c.self.invariant.none in
    let was = ap (end_replies_among h o) c.deref_mut.ensures.value ∙ ap (λ (t : ServerTable). end_replies_among h o t.rows) c.self.view_is in
    omega (arith, none, was, c.end_rows.ensures.few, c.prepare_ends.ensures.few)

pub returns-clause-few_told : goal.returns-clause-few_told
returns-clause-few_told c =
    let h = c.args.host.0 in
    let o = c.args.object.0 in
    let none = ap (λ (l : Listed Event). length l.items) c.replace-events.ensures.value ∙ ap length c.self.invariant.none in
    let was = ap (end_replies_among h o) c.deref_mut.ensures.value ∙ ap (λ (t : ServerTable). end_replies_among h o t.rows) c.self.view_is in
    rw (told_everywhere o c.args.message.now c.args.self.now c.requires.end) (omega (arith, none, was, c.end_rows.ensures.few, c.prepare_ends.ensures.few))
