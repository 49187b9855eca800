use Rattle.std.proofs.Common.{◌≡◌, ◌+◌, ◌<◌, ◌∙◌, true, false, Some, refl, sym, arith}
use Rattle.vm_resident.specs.Resident.{row_at}
use Rattle.vm_locks.proofs.Left.{left_at_first, left_behind, left_less, one_left}
use Rattle.vm_locks.proofs.Obeying.{has_obeyed, one_asked, one_more}
use Rattle.vm_locks.proofs.Passing.{next_itself, pass_rest, pass_to}
use Rattle.vm_locks.specs.Obeys.{IsNextInRange, LockState, PagesObey, lock_state}
use Rattle.vm_locks.proofs.pages.lock_pages.Goals as goal
use Rattle.vm_locks.proofs.pages.lock_pages.Goals.{then-row+in_ok-lock_page, else-row}

pub pages-init : goal.pages-init
pages-init g c =
    record {
      fit = c.requires.fit;
      known = c.requires.known;
      low = omega arith;
      size = refl;
      left = left_at_first c.args.object.0 c.args.request.page.0 c.args.parts.now c.requires.fit;
      room = c.requires.room;
      log = omega arith;
      told = omega arith;
      buffers = omega arith;
      spare = omega arith;
      rows = omega arith;
      obey = λ end more. more;
    }

pub returns-clause-obey : goal.returns-clause-obey
returns-clause-obey g c =
    let kept = c.pages.invariant in
    kept.obey _ (pass_rest c.args.host c.args.object c.args.known.control c.args.request c.pages.from.0 _ kept.fit
    c.in_default.ensures)

pub lock_page-requires-clause-room : goal.lock_page-requires-clause-room
lock_page-requires-clause-room g c =
    let kept = c.pages.invariant in
    let less = one_left c.args.object.0 c.pages.from.0 c.in-Some.page.0 c.in-Some-get.row c.pages.parts kept.left c.in-Some.ensures.low
    (sym c.get.ensures ∙ c.in-Some-get.is) c.if-row.true in
    omega (arith, kept.room, less)

pub returns-in_err-lock_page-clause-succeeds : goal.returns-in_err-lock_page-clause-succeeds
returns-in_err-lock_page-clause-succeeds g c = λ log buffers.
    let kept = c.pages.invariant in
    let less = one_left c.args.object.0 c.pages.from.0 c.in-Some.page.0 c.in-Some-get.row c.pages.parts kept.left c.in-Some.ensures.low
    (sym c.get.ensures ∙ c.in-Some-get.is) c.if-row.true in
    let bad : false ≡ true = c.in_err-lock_page.ensures.succeeds (omega (arith, kept.log, less, log)) (omega (arith, kept.buffers, less, buffers)) in
    absurd (cc)

pub pages-preserved : goal.pages-preserved
pages-preserved g c =
    let kept = c.pages.invariant in
    let from = c.pages.from.0 in
    let page = c.in-Some.page in
    let row = c.in-Some-get.row in
    let low = c.in-Some.ensures.low in
    let now = lock_state c.pages.parts (g.L.Holder.held c.pages.laundry) (g.L.Holder.room c.pages.laundry) c.pages.log.items in
    let found : row_at c.pages.parts.resident c.args.object.0 page.0 ≡ Some row = sym c.get.ensures ∙ c.in-Some-get.is in
    let inside : page.0 < c.args.request.page.0 + c.args.request.count = c.in-Some.ensures.inside in
    let next : IsNextInRange c.args.object c.args.request page.0 page row now = next_itself c.args.object c.args.request page row now inside found in
    let behind : (end : LockState) → PagesObey c.args.host c.args.object c.args.known.control c.args.request page.0 now end
    → PagesObey c.args.host c.args.object c.args.known.control c.args.request from now end
    = λ end more. pass_to c.args.host c.args.object c.args.known.control c.args.request from page.0 now end kept.fit low (omega arith) c.in-Some.ensures.left
    more in
    elim c.if-row.branch [
      | then-row+in_ok-lock_page w ↦
          let obeys = w.in_ok-lock_page.ensures.obeys in
          let mid = lock_state w.lock_page.new.parts (g.L.Holder.held w.lock_page.new.laundry) (g.L.Holder.room w.lock_page.new.laundry)
          w.lock_page.new.log.items in
          let has = has_obeyed c.args.host (record { object = c.args.object; page = page }) c.args.known.control c.args.request row now mid obeys in
          let less = one_left c.args.object.0 from page.0 row c.pages.parts kept.left low found w.if-row.true in
          rw (w.parts-is, w.laundry-is, w.log-is) record {
            fit = w.in_ok-lock_page.ensures.fit;
            known = has.objects.at c.args.object.0 ∙ kept.known;
            low = omega (arith, kept.low, low);
            size = w.in_ok-lock_page.ensures.size ∙ kept.size;
            left = left_less c.args.object.0 from page.0 row has.now c.pages.parts w.lock_page.new.parts kept.fit low found has.row kept.left;
            room = omega (arith, kept.room, less, has.room);
            log = omega (arith, kept.log, less, w.in_ok-lock_page.ensures.log);
            told = omega (arith, kept.told, less, has.told);
            buffers = omega (arith, kept.buffers, less, w.in_ok-lock_page.ensures.buffers);
            spare = omega (arith, kept.spare, w.in_ok-lock_page.ensures.spare);
            rows = omega (arith, kept.rows, w.in_ok-lock_page.ensures.rows);
            obey =
                λ end more. kept.obey end (behind end (one_more c.args.host c.args.object c.args.known.control c.args.request page.0 page row now mid end next
                w.if-row.true obeys more));
          }
      | else-row w ↦ rw (w.parts-is, w.laundry-is, w.log-is) record {
        fit = kept.fit;
        known = kept.known;
        low = omega (arith, kept.low, low);
        size = kept.size;
        left = left_behind c.args.object.0 from page.0 c.pages.parts low kept.left;
        room = kept.room;
        log = kept.log;
        told = kept.told;
        buffers = kept.buffers;
        spare = kept.spare;
        rows = kept.rows;
        obey =
            λ end more. kept.obey end (behind end (one_asked c.args.host c.args.object c.args.known.control c.args.request page.0 page row now end next
            w.if-row.false more));
      }
    ]

pub returns-clause-told : goal.returns-clause-told
returns-clause-told g c = let kept = c.pages.invariant in omega (arith, kept.told)
