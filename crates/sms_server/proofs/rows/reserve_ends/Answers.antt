use Rattle.std.proofs.Common.{◌≡◌, ◌==◌, ◌∙◌, get_or, refl, sym, true, arith}
use Rattle.std.proofs.lemmas.Bool.{false≢true}
use Rattle.std.proofs.lemmas.Bool.Decides.{nat_tests}
use Rattle.sms_server.proofs.Idle.{host_quiet, idle_ready, no_end_replies, no_replies_idle, same_quiet}
use Rattle.sms_server.proofs.Loops.{end_replies_few, prepared_there, reaches, ready_end, reserving_end, reserving_more, reserving_room}
use Rattle.sms_server.proofs.Loops.{stops, walks_on, within}
use Rattle.sms_server.proofs.Passing.{still_same_with}
use Rattle.sms_server.proofs.Placed.{placed_changed, placed_taken}
use Rattle.sms_server.proofs.Walking.{sum_whole}
use Rattle.sms_server.specs.Kept.{IsReadyToEnd, end_replies, is_quiet}
use Rattle.sms_server.proofs.rows.reserve_ends.Goals as goal

pub bounds-rows-place : goal.bounds-rows-place
bounds-rows-place c =
    within c.args.object c.pages.rows c.args.places.now c.pages.places c.pages.walk c.args.host.0 c.in-Some.place c.pages.invariant.walks
    c.in-Some.ensures.place.0

pub returns-in_err-more-clause-same : goal.returns-in_err-more-clause-same
returns-in_err-more-clause-same c =
    let h = c.args.host.0 in
    let x = get_or c.pages.rows c.in-Some.place.at c.index-rows-place.result in
    let at = reaches c.args.object c.pages.rows c.args.places.now c.pages.places c.pages.walk h c.in-Some.place c.index-rows-place.result x
    c.pages.invariant.walks (omega (arith, c.requires.host)) c.in-Some.ensures.place.0 refl in
    still_same_with (IsReadyToEnd h) c.args.object.0 _ c.args.rows.now c.pages.rows c.in-Some.place.at x c.reserve_end.new.self
    c.pages.invariant.reserving.passed at.row.at c.reserve_end.ensures.same

pub returns-in_err-more-clause-placed : goal.returns-in_err-more-clause-placed
returns-in_err-more-clause-placed c =
    let h = c.args.host.0 in
    let x = get_or c.pages.rows c.in-Some.place.at c.index-rows-place.result in
    let at = reaches c.args.object c.pages.rows c.args.places.now c.pages.places c.pages.walk h c.in-Some.place c.index-rows-place.result x
    c.pages.invariant.walks (omega (arith, c.requires.host)) c.in-Some.ensures.place.0 refl in
    placed_changed c.pages.places c.pages.rows c.in-Some.place.at x c.reserve_end.new.self c.pages.invariant.walks.placed at.row.at
    c.reserve_end.ensures.same.0 (λ k. same_quiet k x.directory c.reserve_end.new.self.directory c.reserve_end.ensures.same.1)

pub returns-in_err-more-clause-succeeds : goal.returns-in_err-more-clause-succeeds
returns-in_err-more-clause-succeeds c = λ prepared few.
    let h = c.args.host.0 in
    let x = get_or c.pages.rows c.in-Some.place.at c.index-rows-place.result in
    let at = reaches c.args.object c.pages.rows c.args.places.now c.pages.places c.pages.walk h c.in-Some.place c.index-rows-place.result x
    c.pages.invariant.walks (omega (arith, c.requires.host)) c.in-Some.ensures.place.0 refl in
    let ready = prepared_there (IsReadyToEnd h) h c.args.object.0 _ c.args.rows.now c.pages.rows c.in-Some.place.at c.in-Some.place.key.page.0 x
    c.pages.invariant.reserving.passed at.row prepared in
    absurd (false≢true (c.in_err-more.ensures.succeeds ready))

pub returns-in_default-checked_add-clause-same : goal.returns-in_default-checked_add-clause-same
returns-in_default-checked_add-clause-same c =
    let h = c.args.host.0 in
    let x = get_or c.pages.rows c.in-Some.place.at c.index-rows-place.result in
    let at = reaches c.args.object c.pages.rows c.args.places.now c.pages.places c.pages.walk h c.in-Some.place c.index-rows-place.result x
    c.pages.invariant.walks (omega (arith, c.requires.host)) c.in-Some.ensures.place.0 refl in
    still_same_with (IsReadyToEnd h) c.args.object.0 _ c.args.rows.now c.pages.rows c.in-Some.place.at x c.reserve_end.new.self
    c.pages.invariant.reserving.passed at.row.at c.reserve_end.ensures.same

pub returns-in_default-checked_add-clause-placed : goal.returns-in_default-checked_add-clause-placed
returns-in_default-checked_add-clause-placed c =
    let h = c.args.host.0 in
    let x = get_or c.pages.rows c.in-Some.place.at c.index-rows-place.result in
    let at = reaches c.args.object c.pages.rows c.args.places.now c.pages.places c.pages.walk h c.in-Some.place c.index-rows-place.result x
    c.pages.invariant.walks (omega (arith, c.requires.host)) c.in-Some.ensures.place.0 refl in
    let quiet : (c.in_ok-more.more == 0) ≡ true → is_quiet h x.directory ≡ true = λ is. host_quiet h x.directory c.requires.host
    (no_replies_idle h x (grind (arith, nat_tests, is, c.in_ok-more.ensures.most))) in
    (placed_taken c.pages.places c.unmark_if.new.places c.pages.rows c.in-Some.place.at x c.reserve_end.new.self h c.in-Some.place.key
    (c.in_ok-more.more == 0) c.pages.invariant.walks.placed at.row.at c.reserve_end.ensures.same.0
    (λ k. same_quiet k x.directory c.reserve_end.new.self.directory c.reserve_end.ensures.same.1) at.of c.unmark_if.ensures quiet).0

pub returns-in_default-checked_add-clause-succeeds : goal.returns-in_default-checked_add-clause-succeeds
returns-in_default-checked_add-clause-succeeds c = λ prepared few.
    let h = c.args.host.0 in
    let x = get_or c.pages.rows c.in-Some.place.at c.index-rows-place.result in
    let at = reaches c.args.object c.pages.rows c.args.places.now c.pages.places c.pages.walk h c.in-Some.place c.index-rows-place.result x
    c.pages.invariant.walks (omega (arith, c.requires.host)) c.in-Some.ensures.place.0 refl in
    let room = reserving_room (end_replies h) (IsReadyToEnd h) h c.args.object.0 _ c.args.rows.now c.pages.rows c.in-Some.place.at
    c.in-Some.place.key.page.0 x c.pages.most c.pages.invariant.reserving at.row (λ z is. no_end_replies h z c.requires.host is) in
    absurd (c.in_default-checked_add.ensures (omega (arith, few, room, end_replies_few h c.args.object.0 c.args.rows.now, c.in_ok-more.ensures.most)))

pub pages-preserved : goal.pages-preserved
pages-preserved c =
    let h = c.args.host.0 in
    let x = get_or c.pages.rows c.in-Some.place.at c.index-rows-place.result in
    let walks = c.pages.invariant.walks in
    let at = reaches c.args.object c.pages.rows c.args.places.now c.pages.places c.pages.walk h c.in-Some.place c.index-rows-place.result x walks
    (omega (arith, c.requires.host)) c.in-Some.ensures.place.0 refl in
    let quiet : (c.in_ok-more.more == 0) ≡ true → is_quiet h x.directory ≡ true = λ is. host_quiet h x.directory c.requires.host
    (no_replies_idle h x (grind (arith, nat_tests, is, c.in_ok-more.ensures.most))) in
    let left = placed_taken c.pages.places c.unmark_if.new.places c.pages.rows c.in-Some.place.at x c.reserve_end.new.self h c.in-Some.place.key
    (c.in_ok-more.more == 0) walks.placed at.row.at c.reserve_end.ensures.same.0
    (λ k. same_quiet k x.directory c.reserve_end.new.self.directory c.reserve_end.ensures.same.1) at.of c.unmark_if.ensures quiet in
    record {
      walks = walks_on c.args.object c.pages.rows _ c.args.places.now c.pages.places c.unmark_if.new.places c.pages.walk c.next.new.walk walks left.0 left.1
          c.in-Some.ensures.object c.in-Some.ensures.walk;
      reserving = reserving_more (end_replies h) (IsReadyToEnd h) h c.args.object.0 _ _ c.args.rows.now c.pages.rows c.in-Some.place.at
          c.in-Some.place.key.page.0 x c.reserve_end.new.self c.pages.most c.in-Some-checked_add.sum c.pages.invariant.reserving at.row
          (λ z is. no_end_replies h z c.requires.host is) (λ z is. idle_ready h z c.requires.host is) c.reserve_end.ensures.same
          c.in_ok-more.ensures.prepared (omega (arith, c.in-Some-checked_add.ensures.1, c.in_ok-more.ensures.most)) c.in-Some.ensures.place.1;
    }

pub returns-clause-ready : goal.returns-clause-ready
returns-clause-ready c =
    let h = c.args.host.0 in
    let last = stops c.args.object c.pages.rows c.args.places.now c.pages.places c.pages.walk h c.pages.invariant.walks (omega (arith, c.requires.host))
    c.in_default.ensures.place in
    ready_end (end_replies h) (IsReadyToEnd h) h c.args.object.0 _ c.args.rows.now c.pages.rows c.pages.most c.pages.invariant.reserving last
    (λ z is. idle_ready h z c.requires.host is)

pub returns-clause-most : goal.returns-clause-most
returns-clause-most c =
    let h = c.args.host.0 in
    let last = stops c.args.object c.pages.rows c.args.places.now c.pages.places c.pages.walk h c.pages.invariant.walks (omega (arith, c.requires.host))
    c.in_default.ensures.place in
    reserving_end (end_replies h) (IsReadyToEnd h) h c.args.object.0 _ c.args.rows.now c.pages.rows c.pages.most c.pages.invariant.reserving last
    (λ z is. no_end_replies h z c.requires.host is) ∙ sym (sum_whole (end_replies h) c.args.object.0 c.args.rows.now)
