use Rattle.std.proofs.Common.{ℕ, ◌≡◌, ◌≤◌, ◌<◌, ◌-◌, ◌^◌, ◌∙◌, nat_lt, length, replicate, Some, None, refl, sym, ap, subst, true, arith}
use Rattle.std.proofs.lemmas.Bool.Decides.{nat_tests}
use Rattle.std.specs.Vec.{vec_capacity}
use Rattle.sms_pages.specs.Directory.{IsNewDirectory, most_replies}
use Rattle.vm_sets.specs.Places.{PutsPlace}
use Rattle.sms_server.proofs.Naming.{at_hand, counted_pushed, named, pages_few, placed_pushed}
use Rattle.sms_server.proofs.Placed.{get_pushed_same, no_place}
use Rattle.sms_server.specs.Kept.{HasMemory, IsSpare, is_ready}
use Rattle.sms_server.specs.Table.{ServerTable, row_among}
use Rattle.sms_server.specs.declared.page_row.PageRow.{PageRow}
use Rattle.sms_server.proofs.server.Server.name_page.Goals as goal

pub put-requires-clause-absent : goal.put-requires-clause-absent
put-requires-clause-absent c =
    let rows = c.self.inside.rows.items in
    let seen : c.args.self.now.rows ≡ rows = sym c.make_spare.ensures.rows ∙ ap (λ (t : ServerTable). t.rows) (sym c.self.view_is) in
    no_place c.self.inside.places rows c.args.key.object.0 c.args.key.page.0 c.self.invariant.placed (rw seen at c.requires)

pub put-requires-clause-few : goal.put-requires-clause-few
put-requires-clause-few c =
    let rows = c.self.inside.rows.items in
    let hand = at_hand (is_ready c.self.inside.spare) (nat_lt (length rows) (vec_capacity c.self.inside.rows)) (nat_lt 0 c.self.inside.places.spare)
    (nat_lt (length rows) (2 ^ 32 - 1)) (ap (λ (t : ServerTable). t.spare) c.self.view_is ∙ c.in_ok-make_spare.ensures.spare) in
    let less : length rows < 2 ^ 32 - 1 = grind (arith, nat_tests, hand.has_number) in
    omega (arith, less, c.self.invariant.counted c.args.key.object.0, pages_few c.args.key.object.0 rows)

pub invariant_of-self-2 : goal.invariant_of-self-2
invariant_of-self-2 c =
    let rows = c.self.inside.rows.items in
    let new : PageRow = record { key = c.args.key; directory = c.in-Some.directory; heard = replicate 8 0 } in
    let seen : c.args.self.now.rows ≡ rows = sym c.make_spare.ensures.rows ∙ ap (λ (t : ServerTable). t.rows) (sym c.self.view_is) in
    let absent : row_among c.args.key.object.0 c.args.key.page.0 rows ≡ None = rw seen at c.requires in
    let stood : c.self.inside.spare ≡ Some c.in-Some.directory = sym c.take.ensures.value ∙ c.in-Some.is in
    let is_new : IsNewDirectory c.self.inside.size c.in-Some.directory = subst (IsSpare c.self.inside.size) stood c.self.invariant.new in
    let n = named c.self.inside.size rows c.push.new.self.items new c.self.invariant.whole absent c.in_ok-push.ensures.items is_new refl in
    let last : c.len-at.result ≡ length rows = omega (arith, c.len-at.ensures, c.self.inside.rows.ok.0) in
    let puts : PutsPlace c.args.key (length rows) c.self.inside.places c.put.new.self = subst (λ (n : ℕ). PutsPlace c.args.key n c.self.inside.places
    c.put.new.self) last c.put.ensures in
    rw c.in_ok-push.ensures.items (record {
      placed = placed_pushed c.self.inside.places c.put.new.self rows c.args.key new c.self.invariant.placed refl puts absent;
      counted = counted_pushed c.self.inside.places c.put.new.self rows c.args.key new c.self.invariant.counted refl puts;
      whole = rw c.in_ok-push.ensures.items at n.whole;
      new = subst (IsSpare c.self.inside.size) (sym c.take.ensures.after) tt;
      none = c.self.invariant.none;
    })

pub returns-clause-same : goal.returns-clause-same
returns-clause-same c =
    let rows = c.self.inside.rows.items in
    let new : PageRow = record { key = c.args.key; directory = c.in-Some.directory; heard = replicate 8 0 } in
    let seen : c.args.self.now.rows ≡ rows = sym c.make_spare.ensures.rows ∙ ap (λ (t : ServerTable). t.rows) (sym c.self.view_is) in
    let sized : c.args.self.now.size ≡ c.self.inside.size = sym c.make_spare.ensures.size ∙ ap (λ (t : ServerTable). t.size) (sym c.self.view_is) in
    let absent : row_among c.args.key.object.0 c.args.key.page.0 rows ≡ None = rw seen at c.requires in
    let stood : c.self.inside.spare ≡ Some c.in-Some.directory = sym c.take.ensures.value ∙ c.in-Some.is in
    let is_new : IsNewDirectory c.self.inside.size c.in-Some.directory = subst (IsSpare c.self.inside.size) stood c.self.invariant.new in
    let n = named c.self.inside.size rows c.push.new.self.items new c.self.invariant.whole absent c.in_ok-push.ensures.items is_new refl in
    n.same c.args.self.now _ sized seen refl refl

pub returns-clause-at : goal.returns-clause-at
returns-clause-at c =
    let rows = c.self.inside.rows.items in
    let new : PageRow = record { key = c.args.key; directory = c.in-Some.directory; heard = replicate 8 0 } in
    let last : c.len-at.result ≡ length rows = omega (arith, c.len-at.ensures, c.self.inside.rows.ok.0) in
    rw (c.in_ok-push.ensures.items, last) (record { row = new; at = get_pushed_same rows new; key_is = refl })

pub returns-clause-memory : goal.returns-clause-memory
returns-clause-memory c =
    let rows = c.self.inside.rows.items in
    let new : PageRow = record { key = c.args.key; directory = c.in-Some.directory; heard = replicate 8 0 } in
    let stood : c.self.inside.spare ≡ Some c.in-Some.directory = sym c.take.ensures.value ∙ c.in-Some.is in
    let is_new : IsNewDirectory c.self.inside.size c.in-Some.directory = subst (IsSpare c.self.inside.size) stood c.self.invariant.new in
    let hand = at_hand (is_ready c.self.inside.spare) (nat_lt (length rows) (vec_capacity c.self.inside.rows)) (nat_lt 0 c.self.inside.places.spare)
    (nat_lt (length rows) (2 ^ 32 - 1)) (ap (λ (t : ServerTable). t.spare) c.self.view_is ∙ c.in_ok-make_spare.ensures.spare) in
    let ready : c.in-Some.directory.prepared ≡ true = sym (ap is_ready stood) ∙ hand.has_directory in
    let few : most_replies c.in-Some.directory ≤ 9 = rw is_new.line (omega arith) in
    let last : c.len-at.result ≡ length rows = omega (arith, c.len-at.ensures, c.self.inside.rows.ok.0) in
    rw (c.in_ok-push.ensures.items, last) (subst (HasMemory 9) (sym (get_pushed_same rows new)) (ready, few))
