use Rattle.std.proofs.Common.{◌∙◌, get_or, refl, sym, arith}
use Rattle.std.proofs.lemmas.Bool.{false≢true}
use Rattle.sms_server.proofs.Idle.{same_quiet}
use Rattle.sms_server.proofs.Loops.{IsReady, never, prepared_there, reaches, replies_of, replies_sum, reserving_end, reserving_more, reserving_room}
use Rattle.sms_server.proofs.Loops.{stops, walks_on, within}
use Rattle.sms_server.proofs.Passing.{still_same_with}
use Rattle.sms_server.proofs.Placed.{placed_changed}
use Rattle.sms_server.proofs.rows.reserve_rows.Goals as goal

pub bounds-rows-place : goal.bounds-rows-place
bounds-rows-place c =
    within c.args.object c.pages.rows c.args.places.now c.args.places.now c.pages.walk 9 c.in-Some.place c.pages.invariant.walks c.in-Some.ensures.place.0

pub returns-in_err-more-clause-same : goal.returns-in_err-more-clause-same
returns-in_err-more-clause-same c =
    let x = get_or c.pages.rows c.in-Some.place.at c.index-rows-place.result in
    let at = reaches c.args.object c.pages.rows c.args.places.now c.args.places.now c.pages.walk 9 c.in-Some.place c.index-rows-place.result x
    c.pages.invariant.walks (omega arith) c.in-Some.ensures.place.0 refl in
    still_same_with IsReady c.args.object.0 _ c.args.rows.now c.pages.rows c.in-Some.place.at x c.reserve.new.self c.pages.invariant.reserving.passed at.row.at
    c.reserve.ensures.same

pub returns-in_err-more-clause-placed : goal.returns-in_err-more-clause-placed
returns-in_err-more-clause-placed c =
    let x = get_or c.pages.rows c.in-Some.place.at c.index-rows-place.result in
    let at = reaches c.args.object c.pages.rows c.args.places.now c.args.places.now c.pages.walk 9 c.in-Some.place c.index-rows-place.result x
    c.pages.invariant.walks (omega arith) c.in-Some.ensures.place.0 refl in
    placed_changed c.args.places.now c.pages.rows c.in-Some.place.at x c.reserve.new.self c.pages.invariant.walks.placed at.row.at c.reserve.ensures.same.0
    (λ k. same_quiet k x.directory c.reserve.new.self.directory c.reserve.ensures.same.1)

pub returns-in_err-more-clause-succeeds : goal.returns-in_err-more-clause-succeeds
returns-in_err-more-clause-succeeds c = λ prepared few.
    let x = get_or c.pages.rows c.in-Some.place.at c.index-rows-place.result in
    let at = reaches c.args.object c.pages.rows c.args.places.now c.args.places.now c.pages.walk 9 c.in-Some.place c.index-rows-place.result x
    c.pages.invariant.walks (omega arith) c.in-Some.ensures.place.0 refl in
    let ready = prepared_there IsReady 9 c.args.object.0 _ c.args.rows.now c.pages.rows c.in-Some.place.at c.in-Some.place.key.page.0 x
    c.pages.invariant.reserving.passed at.row prepared in
    absurd (false≢true (c.in_err-more.ensures.succeeds ready))

pub returns-in_default-checked_add-clause-same : goal.returns-in_default-checked_add-clause-same
returns-in_default-checked_add-clause-same c =
    let x = get_or c.pages.rows c.in-Some.place.at c.index-rows-place.result in
    let at = reaches c.args.object c.pages.rows c.args.places.now c.args.places.now c.pages.walk 9 c.in-Some.place c.index-rows-place.result x
    c.pages.invariant.walks (omega arith) c.in-Some.ensures.place.0 refl in
    still_same_with IsReady c.args.object.0 _ c.args.rows.now c.pages.rows c.in-Some.place.at x c.reserve.new.self c.pages.invariant.reserving.passed at.row.at
    c.reserve.ensures.same

pub returns-in_default-checked_add-clause-placed : goal.returns-in_default-checked_add-clause-placed
returns-in_default-checked_add-clause-placed c =
    let x = get_or c.pages.rows c.in-Some.place.at c.index-rows-place.result in
    let at = reaches c.args.object c.pages.rows c.args.places.now c.args.places.now c.pages.walk 9 c.in-Some.place c.index-rows-place.result x
    c.pages.invariant.walks (omega arith) c.in-Some.ensures.place.0 refl in
    placed_changed c.args.places.now c.pages.rows c.in-Some.place.at x c.reserve.new.self c.pages.invariant.walks.placed at.row.at c.reserve.ensures.same.0
    (λ k. same_quiet k x.directory c.reserve.new.self.directory c.reserve.ensures.same.1)

pub returns-in_default-checked_add-clause-succeeds : goal.returns-in_default-checked_add-clause-succeeds
returns-in_default-checked_add-clause-succeeds c = λ prepared few.
    let x = get_or c.pages.rows c.in-Some.place.at c.index-rows-place.result in
    let at = reaches c.args.object c.pages.rows c.args.places.now c.args.places.now c.pages.walk 9 c.in-Some.place c.index-rows-place.result x
    c.pages.invariant.walks (omega arith) c.in-Some.ensures.place.0 refl in
    let room = reserving_room replies_of IsReady 9 c.args.object.0 _ c.args.rows.now c.pages.rows c.in-Some.place.at c.in-Some.place.key.page.0 x c.pages.most
    c.pages.invariant.reserving at.row (λ z is. never z.directory is) in
    absurd (c.in_default-checked_add.ensures (omega (arith, few, room, replies_sum c.args.object.0 c.args.rows.now, c.in_ok-more.ensures.most)))

pub pages-preserved : goal.pages-preserved
pages-preserved c =
    let x = get_or c.pages.rows c.in-Some.place.at c.index-rows-place.result in
    let walks = c.pages.invariant.walks in
    let at = reaches c.args.object c.pages.rows c.args.places.now c.args.places.now c.pages.walk 9 c.in-Some.place c.index-rows-place.result x walks
    (omega arith) c.in-Some.ensures.place.0 refl in
    let placed = placed_changed c.args.places.now c.pages.rows c.in-Some.place.at x c.reserve.new.self walks.placed at.row.at c.reserve.ensures.same.0
    (λ k. same_quiet k x.directory c.reserve.new.self.directory c.reserve.ensures.same.1) in
    record {
      walks = walks_on c.args.object c.pages.rows _ c.args.places.now c.args.places.now c.args.places.now c.pages.walk c.next.new.walk walks placed
          (record { places = λ o p. refl; objects = refl; spare = refl }) c.in-Some.ensures.object c.in-Some.ensures.walk;
      reserving = reserving_more replies_of IsReady 9 c.args.object.0 _ _ c.args.rows.now c.pages.rows c.in-Some.place.at c.in-Some.place.key.page.0 x
          c.reserve.new.self c.pages.most c.in-Some-checked_add.sum c.pages.invariant.reserving at.row (λ z is. never z.directory is)
          (λ z is. never z.directory is) c.reserve.ensures.same c.in_ok-more.ensures.prepared
          (omega (arith, c.in-Some-checked_add.ensures.1, c.in_ok-more.ensures.most)) c.in-Some.ensures.place.1;
    }

pub returns-clause-most : goal.returns-clause-most
returns-clause-most c =
    let last = stops c.args.object c.pages.rows c.args.places.now c.args.places.now c.pages.walk 9 c.pages.invariant.walks (omega arith)
    c.in_default.ensures.place in
    reserving_end replies_of IsReady 9 c.args.object.0 _ c.args.rows.now c.pages.rows c.pages.most c.pages.invariant.reserving last
    (λ z is. never z.directory is) ∙ sym (replies_sum c.args.object.0 c.args.rows.now)
