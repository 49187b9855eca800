use Rattle.std.proofs.Common.{get_or, refl, arith}
use Rattle.sms_server.proofs.Loops.{ending_end, ending_more, ending_ready, ending_room, ending_start, reaches, stops, walks_on, walks_start, within}
use Rattle.sms_server.proofs.Placed.{are_apart, placed_touched}
use Rattle.sms_server.proofs.rows.end_rows.Goals as goal

pub pages-init : goal.pages-init
pages-init c = record {
  walks = walks_start c.args.object c.args.rows.now c.args.places.now c.walk-walk.result c.requires.placed c.walk-walk.ensures.object c.walk-walk.ensures.end;
  ending = ending_start c.args.host.0 c.args.message.now c.args.object.0 _ c.args.rows.now c.args.events.now.items c.args.events.now.room
      c.walk-walk.ensures.from c.requires.room;
}

pub bounds-rows-place : goal.bounds-rows-place
bounds-rows-place c =
    within c.args.object c.pages.rows c.args.places.now c.pages.places c.pages.walk c.args.host.0 c.in-Some.place c.pages.invariant.walks
    c.in-Some.ensures.place.0

pub end-requires-clause-ready : goal.end-requires-clause-ready
end-requires-clause-ready c =
    let h = c.args.host.0 in
    let x = get_or c.pages.rows c.in-Some.place.at c.index-rows-place.result in
    let at = reaches c.args.object c.pages.rows c.args.places.now c.pages.places c.pages.walk h c.in-Some.place c.index-rows-place.result x
    c.pages.invariant.walks (omega (arith, c.requires.host)) c.in-Some.ensures.place.0 refl in
    ending_ready h c.args.message.now c.args.object.0 _ c.args.rows.now c.pages.rows c.in-Some.place.at c.in-Some.place.key.page.0 x
    c.args.events.now.items c.pages.events.items c.pages.events.room c.pages.invariant.ending at.row c.requires.ready

pub end-requires-clause-room : goal.end-requires-clause-room
end-requires-clause-room c =
    let h = c.args.host.0 in
    let x = get_or c.pages.rows c.in-Some.place.at c.index-rows-place.result in
    let at = reaches c.args.object c.pages.rows c.args.places.now c.pages.places c.pages.walk h c.in-Some.place c.index-rows-place.result x
    c.pages.invariant.walks (omega (arith, c.requires.host)) c.in-Some.ensures.place.0 refl in
    ending_room h c.args.message.now c.args.object.0 _ c.args.rows.now c.pages.rows c.in-Some.place.at c.in-Some.place.key.page.0 x
    c.args.events.now.items c.pages.events.items c.pages.events.room c.pages.invariant.ending at.row c.requires.host

pub pages-preserved : goal.pages-preserved
pages-preserved c =
    let h = c.args.host.0 in
    let x = get_or c.pages.rows c.in-Some.place.at c.index-rows-place.result in
    let walks = c.pages.invariant.walks in
    let at = reaches c.args.object c.pages.rows c.args.places.now c.pages.places c.pages.walk h c.in-Some.place c.index-rows-place.result x walks
    (omega (arith, c.requires.host)) c.in-Some.ensures.place.0 refl in
    let placed = placed_touched c.pages.places c.touch.new.self c.pages.rows c.in-Some.place.at x c.end.new.self c.in-Some.place.key walks.placed at.row.at
    c.end.ensures.row.key at.of c.touch.ensures in
    record {
      walks = walks_on c.args.object c.pages.rows _ c.args.places.now c.pages.places c.touch.new.self c.pages.walk c.next.new.walk walks placed
          c.touch.ensures.kept c.in-Some.ensures.object c.in-Some.ensures.walk;
      ending = ending_more h c.args.message.now c.args.object.0 _ _ c.args.rows.now c.pages.rows c.in-Some.place.at c.in-Some.place.key.page.0 x
          c.end.new.self c.args.events.now.items c.pages.events.items c.end.new.events.items c.pages.events.room c.end.new.events.room
          c.pages.invariant.ending at.row (are_apart c.args.places.now c.args.rows.now c.requires.placed) c.requires.end c.requires.host c.end.ensures.row
          c.end.ensures.events c.end.ensures.few c.end.ensures.room c.in-Some.ensures.place.1;
    }

pub returns-clause-rows : goal.returns-clause-rows
returns-clause-rows c =
    let h = c.args.host.0 in
    let last = stops c.args.object c.pages.rows c.args.places.now c.pages.places c.pages.walk h c.pages.invariant.walks (omega (arith, c.requires.host))
    c.in_default.ensures.place in
    let e = ending_end h c.args.message.now c.args.object.0 _ c.args.rows.now c.pages.rows c.args.events.now.items c.pages.events.items c.pages.events.room
    c.pages.invariant.ending last c.requires.end c.requires.host in
    e.rows_are

pub returns-clause-events : goal.returns-clause-events
returns-clause-events c =
    let h = c.args.host.0 in
    let last = stops c.args.object c.pages.rows c.args.places.now c.pages.places c.pages.walk h c.pages.invariant.walks (omega (arith, c.requires.host))
    c.in_default.ensures.place in
    let e = ending_end h c.args.message.now c.args.object.0 _ c.args.rows.now c.pages.rows c.args.events.now.items c.pages.events.items c.pages.events.room
    c.pages.invariant.ending last c.requires.end c.requires.host in
    e.told

pub returns-clause-few : goal.returns-clause-few
returns-clause-few c =
    let h = c.args.host.0 in
    let last = stops c.args.object c.pages.rows c.args.places.now c.pages.places c.pages.walk h c.pages.invariant.walks (omega (arith, c.requires.host))
    c.in_default.ensures.place in
    let e = ending_end h c.args.message.now c.args.object.0 _ c.args.rows.now c.pages.rows c.args.events.now.items c.pages.events.items c.pages.events.room
    c.pages.invariant.ending last c.requires.end c.requires.host in
    e.few
