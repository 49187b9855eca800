use Rattle.std.proofs.Common.{ℕ, ◌≡◌, ◌≤◌, ◌++◌, List, length, set, Some, refl, sym, ◌∙◌, ap, subst, arith}
use Rattle.std.proofs.lemmas.List.{append-nil}
use Rattle.std.proofs.lemmas.Option.{get_or_from_slice_get}
use Rattle.std.specs.Prelude.{slice_get}
use Rattle.sms_pages.specs.Directory.{most_replies}
use Rattle.vm_base.specs.Listing.{Listed}
use Rattle.vm_base.specs.declared.ids.ObjectId.{ObjectId}
use Rattle.vm_base.specs.declared.ids.PageKey.{PageKey}
use Rattle.vm_model.specs.declared.event.Event.{Event}
use Rattle.sms_server.proofs.Answering.{most_of_row, one_answer, whole_at, whole_set}
use Rattle.sms_server.proofs.Most.{told_of_row}
use Rattle.sms_server.proofs.Naming.{counted_kept, keys_set}
use Rattle.sms_server.proofs.Placed.{are_apart, placed_touched}
use Rattle.sms_server.proofs.Words.{row_whole, row_words}
use Rattle.sms_server.specs.Answers.{AreServerWords, ReturnsWhole, row_events}
use Rattle.sms_server.specs.Table.{ServerTable, most_events}
use Rattle.sms_server.specs.declared.page_row.PageRow.{PageRow}
use Rattle.sms_server.proofs.server.Server.answer_at.Goals as goal

pub answer-requires-clause-whole : goal.answer-requires-clause-whole
answer-requires-clause-whole c =
    let rows = c.self.inside.rows.items in
    let i = c.in_ok-i.i in
    let table = c.prepare_page.new.self in
    let at = c.in_ok-i.ensures.at in
    let seen : table.rows ≡ rows = ap (λ (t : ServerTable). t.rows) (sym c.self.view_is) in
    let x = c.index_mut.result.now in
    let stands : slice_get rows i ≡ Some at.row = ap (λ (l : List PageRow). slice_get l i) (sym seen) ∙ at.at in
    let same : at.row ≡ x = sym (c.index_mut.ensures.value ∙ get_or_from_slice_get rows i at.row x stands) in
    let is : slice_get rows i ≡ Some x = stands ∙ ap Some same in
    let whole = whole_at c.self.inside.size i x rows c.self.invariant.whole is in
    let sized : c.self.inside.size ≡ table.size = ap (λ (t : ServerTable). t.size) c.self.view_is in
    subst (λ (n : ℕ). ReturnsWhole n c.args.message.now) (sym (whole.0 ∙ (sized ∙ c.prepare_page.ensures.same.size))) c.requires.whole

pub answer-requires-clause-prepared : goal.answer-requires-clause-prepared
answer-requires-clause-prepared c =
    let rows = c.self.inside.rows.items in
    let i = c.in_ok-i.i in
    let table = c.prepare_page.new.self in
    let at = c.in_ok-i.ensures.at in
    let seen : table.rows ≡ rows = ap (λ (t : ServerTable). t.rows) (sym c.self.view_is) in
    let x = c.index_mut.result.now in
    let stands : slice_get rows i ≡ Some at.row = ap (λ (l : List PageRow). slice_get l i) (sym seen) ∙ at.at in
    let same : at.row ≡ x = sym (c.index_mut.ensures.value ∙ get_or_from_slice_get rows i at.row x stands) in
    let is : slice_get rows i ≡ Some x = stands ∙ ap Some same in
    let whole = whole_at c.self.inside.size i x rows c.self.invariant.whole is in
    ap (λ (z : PageRow). z.directory.prepared) (sym same) ∙ at.prepared

pub answer-requires-clause-room : goal.answer-requires-clause-room
answer-requires-clause-room c =
    let rows = c.self.inside.rows.items in
    let i = c.in_ok-i.i in
    let table = c.prepare_page.new.self in
    let at = c.in_ok-i.ensures.at in
    let seen : table.rows ≡ rows = ap (λ (t : ServerTable). t.rows) (sym c.self.view_is) in
    let x = c.index_mut.result.now in
    let stands : slice_get rows i ≡ Some at.row = ap (λ (l : List PageRow). slice_get l i) (sym seen) ∙ at.at in
    let same : at.row ≡ x = sym (c.index_mut.ensures.value ∙ get_or_from_slice_get rows i at.row x stands) in
    let is : slice_get rows i ≡ Some x = stands ∙ ap Some same in
    let whole = whole_at c.self.inside.size i x rows c.self.invariant.whole is in
    let room = ap (λ (t : ServerTable). t.room) c.self.view_is in
    let got = ap (λ (l : Listed Event). l.room) c.replace-events.ensures.value in
    let most : most_replies x.directory ≤ table.room = subst (λ (z : PageRow). most_replies z.directory ≤ table.room) same at.room in
    omega (arith, most, room, got)

pub invariant_of-self-2 : goal.invariant_of-self-2
invariant_of-self-2 c =
    let rows = c.self.inside.rows.items in
    let i = c.in_ok-i.i in
    let table = c.prepare_page.new.self in
    let at = c.in_ok-i.ensures.at in
    let seen : table.rows ≡ rows = ap (λ (t : ServerTable). t.rows) (sym c.self.view_is) in
    let x = c.index_mut.result.now in
    let stands : slice_get rows i ≡ Some at.row = ap (λ (l : List PageRow). slice_get l i) (sym seen) ∙ at.at in
    let same : at.row ≡ x = sym (c.index_mut.ensures.value ∙ get_or_from_slice_get rows i at.row x stands) in
    let is : slice_get rows i ≡ Some x = stands ∙ ap Some same in
    let whole = whole_at c.self.inside.size i x rows c.self.invariant.whole is in
    let sized : c.self.inside.size ≡ table.size = ap (λ (t : ServerTable). t.size) c.self.view_is in
    let size_same : c.args.self.now.size ≡ c.self.inside.size = sym c.prepare_page.ensures.same.size ∙ sym sized in
    let y = c.answer.new.self in
    let told : c.answer.new.events.items ≡ row_events c.args.host.0 c.args.message.now x = c.answer.ensures.events
    ∙ (ap (λ (l : Listed Event). row_events c.args.host.0 c.args.message.now x ++ l.items) c.replace-events.ensures.value
    ∙ (ap (λ (es : List Event). row_events c.args.host.0 c.args.message.now x ++ es) c.self.invariant.none
    ∙ append-nil (row_events c.args.host.0 c.args.message.now x))) in
    let key : PageKey = record { object = c.args.object; page = c.args.page } in
    let key_is : x.key ≡ key = ap (λ (z : PageRow). z.key) (sym same) ∙ at.key_is in
    let left = row_whole c.self.inside.size c.args.host.0 c.args.message.now x y c.answer.ensures.row
    (subst (λ (n : ℕ). ReturnsWhole n c.args.message.now) size_same c.requires.whole) whole.0 whole.1 in
    record {
      placed = placed_touched c.self.inside.places c.touch.new.self rows i x y key c.self.invariant.placed is c.answer.ensures.row.key
          (record { object = ap (λ (k : PageKey). k.object.0) key_is; page = ap (λ (k : PageKey). k.page.0) key_is }) c.touch.ensures;
      counted = counted_kept c.self.inside.places c.touch.new.self rows (set rows i y) c.touch.ensures.kept.objects c.self.invariant.counted
          (keys_set rows i x y is c.answer.ensures.row.key);
      whole = whole_set c.self.inside.size i y rows c.self.invariant.whole left.0 left.1;
      new = c.self.invariant.new;
      none = ap (λ (l : Listed Event). l.items) c.replace-events.ensures.after ∙ c.new.ensures;
    }

pub returns-clause-answered : goal.returns-clause-answered
returns-clause-answered c =
    let rows = c.self.inside.rows.items in
    let i = c.in_ok-i.i in
    let table = c.prepare_page.new.self in
    let at = c.in_ok-i.ensures.at in
    let seen : table.rows ≡ rows = ap (λ (t : ServerTable). t.rows) (sym c.self.view_is) in
    let x = c.index_mut.result.now in
    let stands : slice_get rows i ≡ Some at.row = ap (λ (l : List PageRow). slice_get l i) (sym seen) ∙ at.at in
    let same : at.row ≡ x = sym (c.index_mut.ensures.value ∙ get_or_from_slice_get rows i at.row x stands) in
    let is : slice_get rows i ≡ Some x = stands ∙ ap Some same in
    let whole = whole_at c.self.inside.size i x rows c.self.invariant.whole is in
    let sized : c.self.inside.size ≡ table.size = ap (λ (t : ServerTable). t.size) c.self.view_is in
    let size_same : c.args.self.now.size ≡ c.self.inside.size = sym c.prepare_page.ensures.same.size ∙ sym sized in
    let y = c.answer.new.self in
    let told : c.answer.new.events.items ≡ row_events c.args.host.0 c.args.message.now x = c.answer.ensures.events
    ∙ (ap (λ (l : Listed Event). row_events c.args.host.0 c.args.message.now x ++ l.items) c.replace-events.ensures.value
    ∙ (ap (λ (es : List Event). row_events c.args.host.0 c.args.message.now x ++ es) c.self.invariant.none
    ∙ append-nil (row_events c.args.host.0 c.args.message.now x))) in
    let key : PageKey = record { object = c.args.object; page = c.args.page } in
    let key_is : x.key ≡ key = ap (λ (z : PageRow). z.key) (sym same) ∙ at.key_is in
    one_answer c.args.host.0 c.args.object c.args.page.0 c.args.message.now rows i x y c.args.self.now table _ c.answer.new.events.items (record {
      apart = are_apart c.self.inside.places rows c.self.invariant.placed;
      is = is;
      own = ap (λ (k : PageKey). k.object) key_is;
      at_page = ap (λ (k : PageKey). k.page.0) key_is;
      about = c.requires.about;
      one = c.requires.one;
      after = c.answer.ensures.row;
      within = (let eight = whole.1 in omega (arith, eight, c.requires.host));
    }) c.prepare_page.ensures.same seen sized refl told

pub returns-clause-words : goal.returns-clause-words
returns-clause-words c =
    let rows = c.self.inside.rows.items in
    let i = c.in_ok-i.i in
    let table = c.prepare_page.new.self in
    let at = c.in_ok-i.ensures.at in
    let seen : table.rows ≡ rows = ap (λ (t : ServerTable). t.rows) (sym c.self.view_is) in
    let x = c.index_mut.result.now in
    let stands : slice_get rows i ≡ Some at.row = ap (λ (l : List PageRow). slice_get l i) (sym seen) ∙ at.at in
    let same : at.row ≡ x = sym (c.index_mut.ensures.value ∙ get_or_from_slice_get rows i at.row x stands) in
    let is : slice_get rows i ≡ Some x = stands ∙ ap Some same in
    let whole = whole_at c.self.inside.size i x rows c.self.invariant.whole is in
    let sized : c.self.inside.size ≡ table.size = ap (λ (t : ServerTable). t.size) c.self.view_is in
    let size_same : c.args.self.now.size ≡ c.self.inside.size = sym c.prepare_page.ensures.same.size ∙ sym sized in
    let y = c.answer.new.self in
    let told : c.answer.new.events.items ≡ row_events c.args.host.0 c.args.message.now x = c.answer.ensures.events
    ∙ (ap (λ (l : Listed Event). row_events c.args.host.0 c.args.message.now x ++ l.items) c.replace-events.ensures.value
    ∙ (ap (λ (es : List Event). row_events c.args.host.0 c.args.message.now x ++ es) c.self.invariant.none
    ∙ append-nil (row_events c.args.host.0 c.args.message.now x))) in
    let key : PageKey = record { object = c.args.object; page = c.args.page } in
    let key_is : x.key ≡ key = ap (λ (z : PageRow). z.key) (sym same) ∙ at.key_is in
    let words = row_words c.args.self.now.size c.args.host.0 c.args.message.now x c.requires.whole (whole.0 ∙ sym size_same) in
    subst (λ (o : ObjectId). AreServerWords c.args.self.now.size o c.answer.new.events.items) (ap (λ (k : PageKey). k.object) key_is)
    (subst (AreServerWords c.args.self.now.size x.key.object) (sym told) words)

pub returns-clause-few : goal.returns-clause-few
returns-clause-few c =
    let rows = c.self.inside.rows.items in
    let i = c.in_ok-i.i in
    let table = c.prepare_page.new.self in
    let at = c.in_ok-i.ensures.at in
    let seen : table.rows ≡ rows = ap (λ (t : ServerTable). t.rows) (sym c.self.view_is) in
    let x = c.index_mut.result.now in
    let stands : slice_get rows i ≡ Some at.row = ap (λ (l : List PageRow). slice_get l i) (sym seen) ∙ at.at in
    let same : at.row ≡ x = sym (c.index_mut.ensures.value ∙ get_or_from_slice_get rows i at.row x stands) in
    let is : slice_get rows i ≡ Some x = stands ∙ ap Some same in
    let whole = whole_at c.self.inside.size i x rows c.self.invariant.whole is in
    let sized : c.self.inside.size ≡ table.size = ap (λ (t : ServerTable). t.size) c.self.view_is in
    let size_same : c.args.self.now.size ≡ c.self.inside.size = sym c.prepare_page.ensures.same.size ∙ sym sized in
    let y = c.answer.new.self in
    let told : c.answer.new.events.items ≡ row_events c.args.host.0 c.args.message.now x = c.answer.ensures.events
    ∙ (ap (λ (l : Listed Event). row_events c.args.host.0 c.args.message.now x ++ l.items) c.replace-events.ensures.value
    ∙ (ap (λ (es : List Event). row_events c.args.host.0 c.args.message.now x ++ es) c.self.invariant.none
    ∙ append-nil (row_events c.args.host.0 c.args.message.now x))) in
    let key : PageKey = record { object = c.args.object; page = c.args.page } in
    let key_is : x.key ≡ key = ap (λ (z : PageRow). z.key) (sym same) ∙ at.key_is in
    let few = c.answer.ensures.few in
    let none = ap (λ (l : Listed Event). length l.items) c.replace-events.ensures.value ∙ ap length c.self.invariant.none in
    let most = most_of_row c.args.self.now table rows i x c.prepare_page.ensures.same seen (are_apart c.self.inside.places rows c.self.invariant.placed) is in
    let own = ap (λ (k : PageKey). k.object.0) key_is in
    subst (λ (o : ℕ). length c.answer.new.events.items ≤ most_events o c.args.self.now) own (omega (arith, few, none, most))

pub returns-clause-few_told : goal.returns-clause-few_told
returns-clause-few_told c =
    let rows = c.self.inside.rows.items in
    let i = c.in_ok-i.i in
    let table = c.prepare_page.new.self in
    let at = c.in_ok-i.ensures.at in
    let seen : table.rows ≡ rows = ap (λ (t : ServerTable). t.rows) (sym c.self.view_is) in
    let x = c.index_mut.result.now in
    let stands : slice_get rows i ≡ Some at.row = ap (λ (l : List PageRow). slice_get l i) (sym seen) ∙ at.at in
    let same : at.row ≡ x = sym (c.index_mut.ensures.value ∙ get_or_from_slice_get rows i at.row x stands) in
    let is : slice_get rows i ≡ Some x = stands ∙ ap Some same in
    let whole = whole_at c.self.inside.size i x rows c.self.invariant.whole is in
    let sized : c.self.inside.size ≡ table.size = ap (λ (t : ServerTable). t.size) c.self.view_is in
    let size_same : c.args.self.now.size ≡ c.self.inside.size = sym c.prepare_page.ensures.same.size ∙ sym sized in
    let y = c.answer.new.self in
    let told : c.answer.new.events.items ≡ row_events c.args.host.0 c.args.message.now x = c.answer.ensures.events
    ∙ (ap (λ (l : Listed Event). row_events c.args.host.0 c.args.message.now x ++ l.items) c.replace-events.ensures.value
    ∙ (ap (λ (es : List Event). row_events c.args.host.0 c.args.message.now x ++ es) c.self.invariant.none
    ∙ append-nil (row_events c.args.host.0 c.args.message.now x))) in
    let key : PageKey = record { object = c.args.object; page = c.args.page } in
    let key_is : x.key ≡ key = ap (λ (z : PageRow). z.key) (sym same) ∙ at.key_is in
    let few = c.answer.ensures.few in
    let none = ap (λ (l : Listed Event). length l.items) c.replace-events.ensures.value ∙ ap length c.self.invariant.none in
    let told_most = told_of_row c.args.object.0 c.args.page.0 c.args.message.now rows i x table c.args.self.now c.requires.about c.requires.one
    (ap (λ (k : PageKey). k.object.0) key_is) (ap (λ (k : PageKey). k.page.0) key_is) seen (are_apart c.self.inside.places rows c.self.invariant.placed) is
    (c.prepare_page.ensures.same.pages c.args.object.0 c.args.page.0).directory.line in
    omega (arith, few, none, told_most)
