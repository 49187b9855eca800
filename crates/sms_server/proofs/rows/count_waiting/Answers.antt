use Rattle.std.proofs.Common.{◌≡◌, ◌==◌, ◌∙◌, length, true, ap, refl, subst, sym, arith}
use Rattle.std.proofs.lemmas.Bool.Decides.{nat_tests}
use Rattle.sms_server.proofs.Idle.{nobody_quiet, quiet_nobody}
use Rattle.sms_server.proofs.Loops.{reaches, stops, waiting_of, walks_on, walks_start, within}
use Rattle.sms_server.proofs.Placed.{placed_taken, set_itself}
use Rattle.sms_server.proofs.Walking.{sum_whole, weight_end, weight_more}
use Rattle.sms_server.specs.Kept.{ArePlaced, is_quiet}
use Rattle.sms_server.specs.declared.page_row.PageRow.{PageRow}
use Rattle.sms_server.proofs.rows.count_waiting.Goals as goal

pub pages-init : goal.pages-init
pages-init c =
    let whole = sum_whole waiting_of c.args.object.0 c.args.rows.now in
    record {
      walks = walks_start c.args.object c.args.rows.now c.args.places.now c.walk-walk.result c.requires c.walk-walk.ensures.object c.walk-walk.ensures.end;
      counted = rw c.walk-walk.ensures.from (omega (arith, whole));
    }

pub bounds-rows-place : goal.bounds-rows-place
bounds-rows-place c =
    within c.args.object c.args.rows.now c.args.places.now c.pages.places c.pages.walk 8 c.in-Some.place c.pages.invariant.walks c.in-Some.ensures.place.0

pub returns-in_default-add-clause-placed : goal.returns-in_default-add-clause-placed
returns-in_default-add-clause-placed c =
    let x = c.index-rows-place.result in
    let rows = c.args.rows.now in
    let at = reaches c.args.object rows c.args.places.now c.pages.places c.pages.walk 8 c.in-Some.place x x c.pages.invariant.walks (omega arith)
    c.in-Some.ensures.place.0 c.index-rows-place.is in
    let waits : c.waiting-waiting.result ≡ length x.directory.line = c.waiting-waiting.ensures
    ∙ ap (λ (z : PageRow). length z.directory.line) (sym c.index-rows-place.is) in
    let quiet : (c.waiting-waiting.result == 0) ≡ true → is_quiet 8 x.directory ≡ true = λ is. nobody_quiet x.directory (grind (arith, nat_tests, is, waits)) in
    let left = placed_taken c.pages.places c.unmark_if.new.places rows c.in-Some.place.at x x 8 c.in-Some.place.key (c.waiting-waiting.result == 0)
    c.pages.invariant.walks.placed at.row.at refl (λ k. refl) at.of c.unmark_if.ensures quiet in
    subst (ArePlaced c.unmark_if.new.places) (set_itself rows c.in-Some.place.at x at.row.at) left.0

pub returns-in_default-add-clause-waiting : goal.returns-in_default-add-clause-waiting
returns-in_default-add-clause-waiting c =
    let at = reaches c.args.object c.args.rows.now c.args.places.now c.pages.places c.pages.walk 8 c.in-Some.place c.index-rows-place.result
    c.index-rows-place.result c.pages.invariant.walks (omega arith) c.in-Some.ensures.place.0 c.index-rows-place.is in
    let more = weight_more waiting_of 8 c.args.object.0 _ c.args.rows.now c.in-Some.place.at c.in-Some.place.key.page.0 c.index-rows-place.result at.row
    (λ z is. quiet_nobody z.directory is) in
    let waits : c.waiting-waiting.result ≡ length c.index-rows-place.result.directory.line = c.waiting-waiting.ensures
    ∙ ap (λ (z : PageRow). length z.directory.line) (sym c.index-rows-place.is) in
    let much = c.in_default-add.ensures in
    omega (arith, more, much, waits, c.pages.invariant.counted)

pub pages-preserved : goal.pages-preserved
pages-preserved c =
    let x = c.index-rows-place.result in
    let rows = c.args.rows.now in
    let walks = c.pages.invariant.walks in
    let at = reaches c.args.object rows c.args.places.now c.pages.places c.pages.walk 8 c.in-Some.place x x walks (omega arith) c.in-Some.ensures.place.0
    c.index-rows-place.is in
    let waits : c.waiting-waiting.result ≡ length x.directory.line = c.waiting-waiting.ensures
    ∙ ap (λ (z : PageRow). length z.directory.line) (sym c.index-rows-place.is) in
    let quiet : (c.waiting-waiting.result == 0) ≡ true → is_quiet 8 x.directory ≡ true = λ is. nobody_quiet x.directory (grind (arith, nat_tests, is, waits)) in
    let left = placed_taken c.pages.places c.unmark_if.new.places rows c.in-Some.place.at x x 8 c.in-Some.place.key (c.waiting-waiting.result == 0)
    walks.placed at.row.at refl (λ k. refl) at.of c.unmark_if.ensures quiet in
    let placed = subst (ArePlaced c.unmark_if.new.places) (set_itself rows c.in-Some.place.at x at.row.at) left.0 in
    let more = weight_more waiting_of 8 c.args.object.0 _ rows c.in-Some.place.at c.in-Some.place.key.page.0 x at.row (λ z is. quiet_nobody z.directory is) in
    record {
      walks = walks_on c.args.object rows rows c.args.places.now c.pages.places c.unmark_if.new.places c.pages.walk c.next.new.walk walks placed left.1
          c.in-Some.ensures.object c.in-Some.ensures.walk;
      counted = rw c.in-Some.ensures.place.1 (omega (arith, more, c.in-Some-add.ensures, waits, c.pages.invariant.counted));
    }

pub returns-clause-waiting : goal.returns-clause-waiting
returns-clause-waiting c =
    let last = stops c.args.object c.args.rows.now c.args.places.now c.pages.places c.pages.walk 8 c.pages.invariant.walks (omega arith)
    c.in_default.ensures.place in
    let none = weight_end waiting_of 8 c.args.object.0 _ c.args.rows.now last (λ z is. quiet_nobody z.directory is) in
    omega (arith, none, c.pages.invariant.counted)
