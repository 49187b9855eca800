use Rattle.vm_kernel.proofs.Common.{AreEntries, Entry, List, Some, ap, arith, by_address, false, length, length-reverse, refl, rows_in, slice_get, subst, true}
use Rattle.vm_kernel.proofs.Common.{◌++◌, ◌/◌, ◌∙◌, ◌∷◌, ◌≡◌}
use Rattle.vm_model.specs.declared.event.Event.TheVariants as event
use Rattle.vm_kernel.proofs.space.RegionCopied.{can_copy}
use Rattle.vm_kernel.proofs.space.RegionDelayed.{can_delay}
use Rattle.vm_kernel.proofs.space.ForkDelays.{declared_source, delayed_plays, delayed_quiet, fork_delayed, may_delay, temporary_source}
use Rattle.vm_kernel.proofs.space.ForkShares.{begun_fork, can_share, fork_copied, fork_other, fork_shared, fork_start, may_copy, may_fork, may_share, same_rows}
use Rattle.vm_kernel.proofs.lists.ListsAsTold.{lists_same, plays_both, plays_told}
use Rattle.vm_kernel.proofs.steps.FramesInTurn.{quiet_both, quiet_more}
use Rattle.vm_kernel.proofs.room.CallsSpend.{roomy_next, spends_all, spends_within, spends_next, spends_nothing}
use Rattle.vm_kernel.proofs.room.PartsOfStep.{spare_both}
use Rattle.vm_kernel.proofs.parts.Parts.fork_entries.Goals as goal
use Rattle.vm_kernel.proofs.parts.Parts.fork_entries.Goals.{in-Copy+else-entry-len+in_ok-enter_copy-in-Copy, in-Copy+then-entry-len+in_ok-enter_delayed-in-Copy}
use Rattle.vm_kernel.proofs.parts.Parts.fork_entries.Goals.{in-Never, in-Share+in_ok-share-in-Share}

pub all-init : goal.all-init
all-init g c =
    record {
      quiet = quiet_more c.args.self.now.waits.queue c.args.self.now.waits.queue c.args.log.now.items c.push.new.self.items _ refl c.in_ok-push.ensures.ok tt;
      forked =
          fork_start g.given.header g.given.host g.given.outside c.args.task c.args.child g.given.past c.args.self.now c.args.ids.now c.args.log.now.items _
          c.add_task.new.self c.requires c.in_ok-add_task.ensures.ok (by_address c.entries.result.now) c.entries.ensures.value c.entries.ensures.sound.in_order
          c.in_ok-push.ensures.ok;
      plays = plays_told c.in_ok-push.ensures.ok refl;
      spare = record { buffers = refl };
      spends =
          (let one = ap length c.in_ok-push.ensures.ok in record {
            told = omega (arith, one);
            room = omega (arith, c.push.ensures.room);
            rows = omega arith;
            shadows = omega arith;
            objects = omega arith;
            copies = omega arith;
          });
    }

pub share-requires : goal.share-requires
share-requires g c =
    let rows = rows_in c.args.task.0 c.args.self.now.maps in
    let f = c.all.invariant.forked in
    let same = same_rows _ _ _ c.entries-in-all.ensures.value f.others in
    let sound = subst (AreEntries c.all.self.maps.size) same c.entries-in-all.ensures.sound in
    let found = subst (λ (z : List Entry). slice_get z c.all.i ≡ Some c.at-entry.result.now) same c.at-entry.ensures in
    can_share g.given.header g.given.host c.args.child.0 c.at-entry.result.now (c.all.log.items ++ g.given.past) c.all.self c.all.ids f.works
    (may_share g.given.header g.given.host g.given.outside c.args.task c.args.child rows c.all.i c.at-entry.result.now g.given.past c.all.self c.all.ids
    c.all.log.items f sound found)

pub enter_copy-requires : goal.enter_copy-requires
enter_copy-requires g c =
    let row = c.at-entry.result.now in
    let rows = rows_in c.args.task.0 c.args.self.now.maps in
    let f = c.all.invariant.forked in
    let same = same_rows _ _ _ c.entries-in-all.ensures.value f.others in
    let sound = subst (AreEntries c.all.self.maps.size) same c.entries-in-all.ensures.sound in
    let found = subst (λ (z : List Entry). slice_get z c.all.i ≡ Some c.at-entry.result.now) same c.at-entry.ensures in
    can_copy g.given.header g.given.host c.args.child.0 row.region row.offset row (c.all.log.items ++ g.given.past) c.all.self c.all.ids f.works
    (may_copy g.given.header g.given.host g.given.outside c.args.task c.args.child rows c.all.i row g.given.past c.all.self c.all.ids c.all.log.items f sound
    found c.in-Copy.is (temporary_source f.works c.len.ensures c.if-entry-len.false))

pub enter_delayed-requires : goal.enter_delayed-requires
enter_delayed-requires g c =
    let row = c.at-entry.result.now in
    let rows = rows_in c.args.task.0 c.args.self.now.maps in
    let f = c.all.invariant.forked in
    let same = same_rows _ _ _ c.entries-in-all.ensures.value f.others in
    let sound = subst (AreEntries c.all.self.maps.size) same c.entries-in-all.ensures.sound in
    let found = subst (λ (z : List Entry). slice_get z c.all.i ≡ Some c.at-entry.result.now) same c.at-entry.ensures in
    can_delay g.given.header g.given.host c.args.child.0 row.region row.offset row (c.all.log.items ++ g.given.past) c.all.self c.all.ids f.works
    (may_delay g.given.header g.given.host g.given.outside c.args.task c.args.child rows c.all.i row g.given.past c.all.self c.all.ids c.all.log.items f sound
    found c.in-Copy.is (declared_source f.works c.len.ensures c.if-entry-len.true))

pub all-preserved : goal.all-preserved
all-preserved g c =
    let row = c.at-entry.result.now in
    let rows = rows_in c.args.task.0 c.args.self.now.maps in
    let f = c.all.invariant.forked in
    let same = same_rows _ _ _ c.entries-in-all.ensures.value f.others in
    let sound = subst (AreEntries c.all.self.maps.size) same c.entries-in-all.ensures.sound in
    let found = subst (λ (z : List Entry). slice_get z c.all.i ≡ Some c.at-entry.result.now) same c.at-entry.ensures in
    elim c.match-entry.branch [
      | in-Share+in_ok-share-in-Share w ↦
          let shares = w.in_ok-share-in-Share.ensures.shares in
          rw (w.self-is, w.ids-is, w.log-is)
          (record {
            spends =
                spends_next c.args.self.now c.all.self w.share.new.self c.args.log.now c.all.log w.share.new.log c.all.i c.all.invariant.spends
                (spends_within c.all.self w.share.new.self c.all.log w.share.new.log 1 1 0 3 w.in_ok-share-in-Share.ensures.spends);
            spare = spare_both c.args.self.now c.all.self w.share.new.self c.all.invariant.spare w.in_ok-share-in-Share.ensures.spare;
            quiet =
                quiet_both c.args.self.now.waits.queue c.all.self.waits.queue w.share.new.self.waits.queue c.args.log.now.items c.all.log.items
                w.share.new.log.items c.all.invariant.quiet
                (quiet_more c.all.self.waits.queue w.share.new.self.waits.queue c.all.log.items w.share.new.log.items _ (ap (λ z. z.queue) shares.waits)
                shares.told tt);
            forked =
                fork_shared g.given.header g.given.host g.given.outside c.args.task c.args.child rows c.all.i row g.given.past c.all.self w.share.new.self
                c.all.ids c.all.log.items w.share.new.log.items f sound found w.in-Share.is shares;
            plays =
                plays_both c.all.invariant.plays (plays_told shares.told (lists_same c.all.self w.share.new.self (ap (λ z. z.resident) shares.memory)
                (ap (λ z. z.queues) shares.memory)));
          })
      | in-Copy+else-entry-len+in_ok-enter_copy-in-Copy w ↦
          let enters = w.in_ok-enter_copy-in-Copy.ensures.enters in
          let mid = event.RegionCopied enters.copy row.region row.offset (row.bytes / c.all.self.size) ∷ c.all.log.items in
          rw (w.self-is, w.ids-is, w.log-is)
          (record {
            spends =
                spends_next c.args.self.now c.all.self w.enter_copy.new.self c.args.log.now c.all.log w.enter_copy.new.log c.all.i c.all.invariant.spends
                w.in_ok-enter_copy-in-Copy.ensures.spends;
            spare = spare_both c.args.self.now c.all.self w.enter_copy.new.self c.all.invariant.spare w.in_ok-enter_copy-in-Copy.ensures.spare;
            quiet =
                quiet_both c.args.self.now.waits.queue c.all.self.waits.queue w.enter_copy.new.self.waits.queue c.args.log.now.items c.all.log.items
                w.enter_copy.new.log.items c.all.invariant.quiet
                (quiet_both c.all.self.waits.queue c.all.self.waits.queue w.enter_copy.new.self.waits.queue c.all.log.items mid w.enter_copy.new.log.items
                (quiet_more c.all.self.waits.queue c.all.self.waits.queue c.all.log.items mid _ refl refl tt)
                (quiet_more c.all.self.waits.queue w.enter_copy.new.self.waits.queue mid w.enter_copy.new.log.items _ (ap (λ z. z.queue) enters.waits)
                enters.told tt));
            forked =
                fork_copied g.given.header g.given.host g.given.outside c.args.task c.args.child rows c.all.i row g.given.past c.all.self w.enter_copy.new.self
                c.all.ids w.enter_copy.new.ids c.all.log.items w.enter_copy.new.log.items f sound found w.in-Copy.is
                (temporary_source f.works w.len.ensures w.if-entry-len.false) enters;
            plays =
                plays_both c.all.invariant.plays (plays_both (plays_told refl refl)
                (plays_told enters.told (lists_same c.all.self w.enter_copy.new.self (ap (λ z. z.resident) enters.memory) (ap (λ z. z.queues) enters.memory))));
          })
      | in-Copy+then-entry-len+in_ok-enter_delayed-in-Copy w ↦
          let enters = w.in_ok-enter_delayed-in-Copy.ensures.enters in
          rw (w.self-is, w.ids-is, w.log-is)
          (record {
            spends =
                spends_next c.args.self.now c.all.self w.enter_delayed.new.self c.args.log.now c.all.log w.enter_delayed.new.log c.all.i c.all.invariant.spends
                w.in_ok-enter_delayed-in-Copy.ensures.spends;
            spare = spare_both c.args.self.now c.all.self w.enter_delayed.new.self c.all.invariant.spare w.in_ok-enter_delayed-in-Copy.ensures.spare;
            quiet =
                quiet_both c.args.self.now.waits.queue c.all.self.waits.queue w.enter_delayed.new.self.waits.queue c.args.log.now.items c.all.log.items
                w.enter_delayed.new.log.items c.all.invariant.quiet (delayed_quiet enters);
            forked =
                fork_delayed g.given.header g.given.host g.given.outside c.args.task c.args.child rows c.all.i row g.given.past c.all.self
                w.enter_delayed.new.self c.all.ids w.enter_delayed.new.ids c.all.log.items w.enter_delayed.new.log.items f sound found w.in-Copy.is
                (declared_source f.works w.len.ensures w.if-entry-len.true) enters;
            plays = plays_both c.all.invariant.plays (delayed_plays enters);
          })
      | in-Never w ↦
          rw (w.self-is, w.ids-is, w.log-is)
          (record {
            spends =
                spends_next c.args.self.now c.all.self c.all.self c.args.log.now c.all.log c.all.log c.all.i c.all.invariant.spends
                (spends_nothing c.all.self c.all.log 4 4);
            spare = c.all.invariant.spare;
            quiet = c.all.invariant.quiet;
            forked =
                fork_other g.given.header g.given.host g.given.outside c.args.task c.args.child rows c.all.i row g.given.past c.all.self c.all.ids
                c.all.log.items f sound found w.in-Never.is;
            plays = c.all.invariant.plays;
          })
    ]

pub returns-clause-begun : goal.returns-clause-begun
returns-clause-begun g c =
    let may = may_fork g.given.header g.given.host c.args.task c.args.child g.given.past c.args.self.now c.args.ids.now c.args.log.now.items c.requires in
    let same = same_rows _ _ _ c.entries.ensures.value (c.in_ok-add_task.ensures.ok.others c.args.task.0 c.all.invariant.forked.apart ∙ may.lives) in
    begun_fork g.given.header g.given.host g.given.outside c.args.task c.args.child c.all.i g.given.past c.args.self.now c.all.self c.args.ids.now c.all.ids
    c.args.log.now.items c.all.log.items c.requires c.all.invariant.forked
    (omega (arith, ap length same, length-reverse c.entries.result.now.items, c.len-i-end.ensures, c.all-test.false))

pub returns-in_err-push-clause-err : goal.returns-in_err-push-clause-err
returns-in_err-push-clause-err g c = λ roomy. absurd (let bad : false ≡ true = c.in_err-push.ensures.succeeds (omega (arith, roomy.log)) in cc)

pub returns-in_err-share-in-Share-clause-err : goal.returns-in_err-share-in-Share-clause-err
returns-in_err-share-in-Share-clause-err g c = λ roomy.
    let may = may_fork g.given.header g.given.host c.args.task c.args.child g.given.past c.args.self.now c.args.ids.now c.args.log.now.items c.requires in
    let same = same_rows _ _ _ c.entries.ensures.value (c.in_ok-add_task.ensures.ok.others c.args.task.0 c.all.invariant.forked.apart ∙ may.lives) in
    let left = roomy_next c.args.self.now c.all.self c.args.log.now c.all.log c.all.i (length (rows_in c.args.task.0 c.args.self.now.maps))
    (omega (arith, ap length same, length-reverse c.entries.result.now.items, c.len-i-end.ensures, c.all-test.true)) c.all.invariant.spends
    roomy in
    absurd (let bad : false ≡ true = c.in_err-share-in-Share.ensures.succeeds (omega (arith, left.log)) in cc)

pub returns-in_err-enter_copy-in-Copy-clause-err : goal.returns-in_err-enter_copy-in-Copy-clause-err
returns-in_err-enter_copy-in-Copy-clause-err g c = λ roomy.
    let may = may_fork g.given.header g.given.host c.args.task c.args.child g.given.past c.args.self.now c.args.ids.now c.args.log.now.items c.requires in
    let same = same_rows _ _ _ c.entries.ensures.value (c.in_ok-add_task.ensures.ok.others c.args.task.0 c.all.invariant.forked.apart ∙ may.lives) in
    let left = roomy_next c.args.self.now c.all.self c.args.log.now c.all.log c.all.i (length (rows_in c.args.task.0 c.args.self.now.maps))
    (omega (arith, ap length same, length-reverse c.entries.result.now.items, c.len-i-end.ensures, c.all-test.true)) c.all.invariant.spends
    roomy in
    absurd (let bad : false ≡ true = c.in_err-enter_copy-in-Copy.ensures.succeeds left in cc)

pub returns-in_err-enter_delayed-in-Copy-clause-err : goal.returns-in_err-enter_delayed-in-Copy-clause-err
returns-in_err-enter_delayed-in-Copy-clause-err g c = λ roomy.
    let may = may_fork g.given.header g.given.host c.args.task c.args.child g.given.past c.args.self.now c.args.ids.now c.args.log.now.items c.requires in
    let same = same_rows _ _ _ c.entries.ensures.value (c.in_ok-add_task.ensures.ok.others c.args.task.0 c.all.invariant.forked.apart ∙ may.lives) in
    let left = roomy_next c.args.self.now c.all.self c.args.log.now c.all.log c.all.i (length (rows_in c.args.task.0 c.args.self.now.maps))
    (omega (arith, ap length same, length-reverse c.entries.result.now.items, c.len-i-end.ensures, c.all-test.true)) c.all.invariant.spends
    roomy in
    absurd (let bad : false ≡ true = c.in_err-enter_delayed-in-Copy.ensures.succeeds left in cc)

pub returns-clause-spends : goal.returns-clause-spends
returns-clause-spends g c =
    let may = may_fork g.given.header g.given.host c.args.task c.args.child g.given.past c.args.self.now c.args.ids.now c.args.log.now.items c.requires in
    let same = same_rows _ _ _ c.entries.ensures.value (c.in_ok-add_task.ensures.ok.others c.args.task.0 c.all.invariant.forked.apart ∙ may.lives) in
    spends_all c.args.self.now c.all.self c.args.log.now c.all.log c.all.i (length (rows_in c.args.task.0 c.args.self.now.maps)) (omega
    (arith, ap length same, length-reverse c.entries.result.now.items, c.len-i-end.ensures, c.all.auto.i-end)) c.all.invariant.spends
