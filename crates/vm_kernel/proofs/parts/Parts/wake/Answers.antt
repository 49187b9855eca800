use Rattle.vm_kernel.proofs.Common.{Still, [], ap, arith, false, refl, rules, true, woken_page, woken_ready, ◌≡◌}
use Rattle.vm_kernel.proofs.steps.RowsInOrder.{woken_keeps}
use Rattle.vm_kernel.proofs.abroad.OtherLists.{matches_with}
use Rattle.vm_state.proofs.Filling.{fills_waked, used_waked}
use Rattle.vm_state.proofs.Waking.{waits_woken}
use Rattle.vm_kernel.proofs.room.EndsSpend.{roomy_fewer, spends_hand, woken_spends}
use Rattle.vm_kernel.proofs.room.CallsSpend.{spends_both, spends_nothing}
use Rattle.vm_kernel.specs.Rooms.{leaving, waking}
use Rattle.vm_kernel.proofs.parts.Parts.wake.Goals as goal

pub returns-in-ReadyOf-clause-works : goal.returns-in-ReadyOf-clause-works
returns-in-ReadyOf-clause-works g c =
    record {
      matches =
          matches_with _ _ c.wake_ready.new.self (fills_waked _ c.args.self.now.waits.rows c.wake_ready.new.self.rows c.wake_ready.ensures.entry)
          c.requires.0.matches.core.fits.parts refl c.requires.0.matches;
      used = used_waked _ c.args.self.now.waits.rows c.wake_ready.new.self.rows c.requires.0.used c.wake_ready.ensures.entry;
      referred = search rules;
      thin = c.requires.0.thin;
      waits =
          waits_woken _ _ _ _ c.args.self.now.waits.rows c.wake_ready.new.self.rows _ _ (rw c.in-ReadyOf.is at c.requires.0).waits c.wake_ready.ensures.entry
          (λ o p row found awaits. refl);
      order =
          (woken_keeps (woken_ready c.in-ReadyOf.object.0) c.args.self.now.waits.rows c.wake_ready.new.self.rows c.wake_ready.ensures.rows).keeps _ 0
          c.requires.0.order;
    }

pub returns-in-Page-clause-works : goal.returns-in-Page-clause-works
returns-in-Page-clause-works g c =
    record {
      matches =
          matches_with _ _ c.wake_page.new.self (fills_waked _ c.args.self.now.waits.rows c.wake_page.new.self.rows c.wake_page.ensures.entry)
          c.requires.0.matches.core.fits.parts refl c.requires.0.matches;
      used = used_waked _ c.args.self.now.waits.rows c.wake_page.new.self.rows c.requires.0.used c.wake_page.ensures.entry;
      referred = search rules;
      thin = c.requires.0.thin;
      waits =
          waits_woken _ _ _ _ c.args.self.now.waits.rows c.wake_page.new.self.rows _ _ (rw c.in-Page.is at c.requires.0).waits c.wake_page.ensures.entry
          (rw c.in-Page.is at c.requires.1.1.1.1).at;
      order =
          (woken_keeps (woken_page c.in-Page.key) c.args.self.now.waits.rows c.wake_page.new.self.rows c.wake_page.ensures.rows).keeps _ 0 c.requires.0.order;
    }

pub returns-in-ReadyOf-clause-plays : goal.returns-in-ReadyOf-clause-plays
returns-in-ReadyOf-clause-plays g c = Still

pub returns-in-Page-clause-plays : goal.returns-in-Page-clause-plays
returns-in-Page-clause-plays g c = Still

pub returns-in-Nobody-clause-quiet : goal.returns-in-Nobody-clause-quiet
returns-in-Nobody-clause-quiet g c = record { queue = refl; more = []; told = refl; none = tt }

pub returns-in-ReadyOf-clause-quiet : goal.returns-in-ReadyOf-clause-quiet
returns-in-ReadyOf-clause-quiet g c = record { queue = c.wake_ready.ensures.queue; more = []; told = refl; none = tt }

pub returns-in-Page-clause-quiet : goal.returns-in-Page-clause-quiet
returns-in-Page-clause-quiet g c = record { queue = c.wake_page.ensures.queue; more = []; told = refl; none = tt }

pub returns-in-Nobody-clause-spends : goal.returns-in-Nobody-clause-spends
returns-in-Nobody-clause-spends g c = spends_nothing c.args.self.now c.args.log.now _ 0

pub returns-in-ReadyOf-clause-spends : goal.returns-in-ReadyOf-clause-spends
returns-in-ReadyOf-clause-spends g c = woken_spends _ c.args.self.now c.wake_ready.new.self c.args.log.now _ c.wake_ready.ensures.rows

pub returns-in-Page-clause-spends : goal.returns-in-Page-clause-spends
returns-in-Page-clause-spends g c = woken_spends _ c.args.self.now c.wake_page.new.self c.args.log.now _ c.wake_page.ensures.rows

pub returns-in_ok-fail-in-Fails-clause-works : goal.returns-in_ok-fail-in-Fails-clause-works
returns-in_ok-fail-in-Fails-clause-works g c =
    let ended = c.in_ok-fail-in-Fails.ensures.works in
    let rows = c.fail.new.self.waits.rows in
    record {
      matches =
          matches_with _ _ c.wake_page-in-Fails.new.self (fills_waked _ rows c.wake_page-in-Fails.new.self.rows c.wake_page-in-Fails.ensures.entry)
          ended.matches.core.fits.parts refl
          ended.matches;
      used = used_waked _ rows c.wake_page-in-Fails.new.self.rows ended.used c.wake_page-in-Fails.ensures.entry;
      referred = ended.referred;
      thin = ended.thin;
      waits =
          waits_woken _ _ _ _ rows c.wake_page-in-Fails.new.self.rows _ _ ended.waits c.wake_page-in-Fails.ensures.entry
          c.in_ok-fail-in-Fails.ensures.answered.at;
      order = (woken_keeps (woken_page c.in-Fails.key) rows c.wake_page-in-Fails.new.self.rows c.wake_page-in-Fails.ensures.rows).keeps _ 0 ended.order;
    }

pub returns-in_ok-fail-in-Fails-clause-spends : goal.returns-in_ok-fail-in-Fails-clause-spends
returns-in_ok-fail-in-Fails-clause-spends g c =
    let same : waking c.args.woken c.args.self.now c.args.ids.now ≡ leaving c.args.self.now c.args.ids.now = ap (λ z. waking z c.args.self.now c.args.ids.now)
    c.in-Fails.is in
    spends_hand c.args.self.now (record c.fail.new.self { waits = c.wake_page-in-Fails.new.self }) c.args.log.now c.fail.new.log _ 0
    (waking c.args.woken c.args.self.now c.args.ids.now)
    (spends_both c.args.self.now c.fail.new.self (record c.fail.new.self { waits = c.wake_page-in-Fails.new.self }) c.args.log.now c.fail.new.log c.fail.new.log
    _ _ 0
    c.in_ok-fail-in-Fails.ensures.spends (woken_spends _ c.fail.new.self c.wake_page-in-Fails.new.self c.fail.new.log _ c.wake_page-in-Fails.ensures.rows))
    (omega (arith, same))

pub returns-in_err-fail-in-Fails-clause-succeeds : goal.returns-in_err-fail-in-Fails-clause-succeeds
returns-in_err-fail-in-Fails-clause-succeeds g c = λ room has.
    let same : waking c.args.woken c.args.self.now c.args.ids.now ≡ leaving c.args.self.now c.args.ids.now = ap (λ z. waking z c.args.self.now c.args.ids.now)
    c.in-Fails.is in
    let bad : false ≡ true = c.in_err-fail-in-Fails.ensures.succeeds (roomy_fewer _ 0 (leaving c.args.self.now c.args.ids.now) 0 c.args.self.now _ room
    (omega (arith, same)) (omega arith)) (has c.in-Fails.key c.in-Fails.is) in
    absurd (cc)

pub returns-in_ok-fail-in-Fails-clause-enough : goal.returns-in_ok-fail-in-Fails-clause-enough
returns-in_ok-fail-in-Fails-clause-enough g c = λ has some.
    let left = c.in_ok-fail-in-Fails.ensures.buffers (has c.in-Fails.key c.in-Fails.is) in omega (arith, left)
