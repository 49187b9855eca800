use Rattle.vm_kernel.proofs.Common.{EndsRegion, Event, IsWhole, List, PageKey, Still, [], ap, arith, fails_access, false, inl, paging, refl, rules}
use Rattle.vm_kernel.proofs.Common.{since, subst, sym, true, ◌++◌, ◌∷◌, ◌≡◌}
use Rattle.vm_model.specs.declared.event.Event.TheVariants as event
use Rattle.vm_supply.specs.declared.woken.Woken.TheVariants as who
use Rattle.vm_kernel.proofs.space.EntriesGone.{ends_nobody, nobody_both}
use Rattle.vm_kernel.proofs.space.LosersMerge.{leaves_none}
use Rattle.vm_kernel.proofs.lists.ListsAsTold.{plays_both, plays_one}
use Rattle.vm_kernel.proofs.controls.WaitersFail.{EndsOr, FailedOne, Failing, bare_filled, before_none, ends_all, ends_filled, ends_or, failed_ended}
use Rattle.vm_kernel.proofs.controls.WaitersFail.{failed_one, page_unqueued}
use Rattle.vm_kernel.proofs.controls.WaitersFail.{failed_plain, or_ended, since_goes, since_now}
use Rattle.vm_kernel.proofs.steps.RowsInOrder.{without_keeps}
use Rattle.vm_kernel.proofs.steps.FramesInTurn.{nobody_more, quiet_unlisted}
use Rattle.vm_kernel.proofs.room.EndsSpend.{copies_dropped, failed_spends, roomy_on}
use Rattle.vm_kernel.proofs.room.CallsSpend.{spends_both, spends_none}
use Rattle.vm_kernel.proofs.parts.Parts.fail.Goals as goal

pub all-init : goal.all-init
all-init g c =
    let past = c.args.log.now.items ++ g.given.past in
    record {
      works = search rules;
      fails = search rules;
      answered = search rules;
      before = before_none c.args.key c.args.self.now.waits.rows past c.requires.1.1.1.0;
      goes = search rules;
      plays = Still;
      each = search rules;
      some = search rules;
      quiet = record { queue = refl; more = []; told = refl; none = tt };
      spends = spends_none c.args.self.now c.args.log.now _;
      buffers = λ has. has;
    }

pub end_region-requires : goal.end_region-requires
end_region-requires g c =
    let key = c.args.key in
    let w = c.in-Some.waiting in
    let was = c.all.invariant in
    let all : Failing g.given.header g.given.host g.given.outside g.given.command g.given.past c.args.log.now.items c.all.log.items key c.all.self
    c.args.ids.now = record { works = was.works; fails = was.fails; answered = was.answered; before = was.before; goes = was.goes } in
    let one =
    failed_one g.given.header g.given.host g.given.outside g.given.command g.given.past c.args.log.now.items c.all.log.items key c.all.self c.args.ids.now w
    c.remove.new.self all c.in-Some.ensures.row.0 c.in-Some.ensures.row.1 (sym c.in-Some.ensures.oldest)
    (record { entry = c.remove.ensures.entry; order = without_keeps w.task.0 c.all.self.waits.rows c.remove.new.self.rows c.remove.ensures.rows }) in
    let ends = ends_filled g.given.header g.given.host g.given.outside g.given.command g.given.past c.args.log.now.items c.all.log.items key c.all.self
    c.args.ids.now w c.in-Some-destination.destination c.remove.new.self all c.in-Some.ensures.row.0 c.in-Some-destination.is c.remove.ensures.entry one in
    let paged = subst (λ (z : PageKey). EndsRegion g.given.header g.given.host (who.Fails z) (record c.all.self { waits = c.remove.new.self }) c.args.ids.now []
    c.in-Some-destination.destination.region.0 (event.Failed w.task key.object key.page ∷ (c.all.log.items ++ g.given.past))) (sym c.requires.0) ends in
    subst (λ (z : List Event). EndsRegion g.given.header g.given.host (who.Fails g.given.page) (record c.all.self { waits = c.remove.new.self }) c.args.ids.now
    [] c.in-Some-destination.destination.region.0 (z ++ g.given.past)) (sym c.in_ok-push.ensures.ok) paged

-- one that filled nothing
pub all-preserved : goal.all-preserved
all-preserved g c =
    let key = c.args.key in
    let w = c.in-Some.waiting in
    let was = c.all.invariant in
    let all : Failing g.given.header g.given.host g.given.outside g.given.command g.given.past c.args.log.now.items c.all.log.items key c.all.self
    c.args.ids.now = record { works = was.works; fails = was.fails; answered = was.answered; before = was.before; goes = was.goes } in
    let one =
    failed_one g.given.header g.given.host g.given.outside g.given.command g.given.past c.args.log.now.items c.all.log.items key c.all.self c.args.ids.now w
    c.remove.new.self all c.in-Some.ensures.row.0 c.in-Some.ensures.row.1 (sym c.in-Some.ensures.oldest)
    (record { entry = c.remove.ensures.entry; order = without_keeps w.task.0 c.all.self.waits.rows c.remove.new.self.rows c.remove.ensures.rows }) in
    let plain = failed_plain g.given.header g.given.host g.given.outside g.given.command g.given.past c.args.log.now.items c.all.log.items key c.all.self
    c.args.ids.now w c.remove.new.self all c.in-Some.ensures.row.0 c.in_default-destination.is c.remove.ensures.entry one in
    let now = subst (λ (z : List Event). Failing g.given.header g.given.host g.given.outside g.given.command g.given.past c.args.log.now.items z key
    (record c.all.self { waits = c.remove.new.self }) c.args.ids.now) (sym c.in_ok-push.ensures.ok) plain in
    record {
      works = now.works;
      fails = now.fails;
      answered = now.answered;
      before = now.before;
      goes = now.goes;
      plays =
          plays_both was.plays (plays_one g.given.header g.given.past c.all.log.items _ (event.Failed w.task key.object key.page) (paging c.all.self)
          (paging c.all.self) c.in_ok-push.ensures.ok refl);
      each =
          (subst (λ (z : List Event). EndsOr key c.args.self.now.waits.rows c.remove.new.self.rows (z ++ g.given.past)) (sym c.in_ok-push.ensures.ok)
          (ends_or key w c.args.self.now.waits.rows c.all.self.waits.rows c.remove.new.self.rows (c.all.log.items ++ g.given.past) was.each
          c.remove.ensures.entry));
      some =
          inl
          (subst (λ (z : List Event). since (fails_access key.object.0 key.page.0) (z ++ g.given.past) ≡ true) (sym c.in_ok-push.ensures.ok)
          (since_now key w.task (c.all.log.items ++ g.given.past)));
      quiet =
          (nobody_more c.args.self.now.waits.queue c.all.self.waits.queue c.args.log.now.items c.all.log.items c.push.new.self.items _ was.quiet
          (quiet_unlisted c.all.self.waits.rows c.all.self.waits.queue c.remove.new.self.queue w c.all.log.items c.push.new.self.items _ c.next_on.ensures.line
          c.in-Some.ensures.row.0 (page_unqueued key w.on c.in-Some.ensures.row.1) c.remove.ensures.queue c.in_ok-push.ensures.ok tt).queue
          c.in_ok-push.ensures.ok tt);
      spends =
          spends_both c.args.self.now c.all.self (record c.all.self { waits = c.remove.new.self }) c.args.log.now c.all.log c.push.new.self _ _ _ was.spends
          (failed_spends c.all.self c.args.ids.now c.remove.new.self c.all.log c.push.new.self _ c.remove.ensures.length
          (copies_dropped c.in-Some.waiting.task.0 c.all.self.waits.rows c.remove.new.self.rows c.remove.ensures.rows) c.in_ok-push.ensures.ok
          c.in_ok-push.ensures.room);
      buffers = was.buffers;
    }

-- one that filled a region, which has ended too
pub all-preserved-in_ok-end_region : goal.all-preserved-in_ok-end_region
all-preserved-in_ok-end_region g c =
    let key = c.args.key in
    let w = c.in-Some.waiting in
    let was = c.all.invariant in
    let all : Failing g.given.header g.given.host g.given.outside g.given.command g.given.past c.args.log.now.items c.all.log.items key c.all.self
    c.args.ids.now = record { works = was.works; fails = was.fails; answered = was.answered; before = was.before; goes = was.goes } in
    let one =
    failed_one g.given.header g.given.host g.given.outside g.given.command g.given.past c.args.log.now.items c.all.log.items key c.all.self c.args.ids.now w
    c.remove.new.self all c.in-Some.ensures.row.0 c.in-Some.ensures.row.1 (sym c.in-Some.ensures.oldest)
    (record { entry = c.remove.ensures.entry; order = without_keeps w.task.0 c.all.self.waits.rows c.remove.new.self.rows c.remove.ensures.rows }) in
    let ends = c.in_ok-end_region.ensures in
    let whole = subst (λ (z : PageKey). IsWhole g.given.header g.given.host (who.Fails z) c.end_region.new.self c.args.ids.now []
    (c.end_region.new.log.items ++ g.given.past)) c.requires.0 ends.whole in
    let then = subst (λ (z : List Event). FailedOne g.given.header g.given.host g.given.outside g.given.command g.given.past c.args.log.now.items z key
    (record c.all.self { waits = c.remove.new.self }) c.args.ids.now) (sym c.in_ok-push.ensures.ok) one in
    let bare = bare_filled g.given.header g.given.host g.given.outside g.given.command g.given.past c.args.log.now.items c.all.log.items key c.all.self
    c.args.ids.now w c.in-Some-destination.destination c.remove.new.self all c.in-Some.ensures.row.0 c.in-Some-destination.is in
    let now = failed_ended g.given.header g.given.host g.given.outside g.given.command g.given.past c.args.log.now.items c.push.new.self.items
    c.end_region.new.log.items key (record c.all.self { waits = c.remove.new.self }) c.end_region.new.self c.args.ids.now then whole ends.goes ends.waits
    ends.pages ends.only
    (leaves_none c.in_ok-end_region.field-0 (record c.all.self { waits = c.remove.new.self }) c.end_region.new.self ends.loser (ends.bare bare) then.thin) in
    record {
      works = now.works;
      fails = now.fails;
      answered = now.answered;
      before = now.before;
      goes = now.goes;
      plays =
          plays_both (plays_both was.plays (plays_one g.given.header g.given.past c.all.log.items _ (event.Failed w.task key.object key.page)
          (paging c.all.self) (paging c.all.self) c.in_ok-push.ensures.ok refl)) ends.plays;
      each =
          or_ended key c.args.self.now.waits.rows c.remove.new.self.rows c.end_region.new.self.waits.rows g.given.past c.push.new.self.items
          c.end_region.new.log.items ends.only (ap (λ z. z.rows) ends.waits)
          (subst (λ (z : List Event). EndsOr key c.args.self.now.waits.rows c.remove.new.self.rows (z ++ g.given.past)) (sym c.in_ok-push.ensures.ok)
          (ends_or key w c.args.self.now.waits.rows c.all.self.waits.rows c.remove.new.self.rows (c.all.log.items ++ g.given.past) was.each
          c.remove.ensures.entry));
      some =
          inl
          (since_goes (fails_access key.object.0 key.page.0) g.given.header g.given.host g.given.outside g.given.command g.given.past c.push.new.self.items
          c.end_region.new.log.items ends.goes
          (subst (λ (z : List Event). since (fails_access key.object.0 key.page.0) (z ++ g.given.past) ≡ true) (sym c.in_ok-push.ensures.ok)
          (since_now key w.task (c.all.log.items ++ g.given.past))));
      quiet =
          nobody_both c.args.self.now.waits.queue c.remove.new.self.queue c.end_region.new.self.waits.queue c.args.log.now.items c.push.new.self.items
          c.end_region.new.log.items
          (nobody_more c.args.self.now.waits.queue c.all.self.waits.queue c.args.log.now.items c.all.log.items c.push.new.self.items _ was.quiet
          (quiet_unlisted c.all.self.waits.rows c.all.self.waits.queue c.remove.new.self.queue w c.all.log.items c.push.new.self.items _ c.next_on.ensures.line
          c.in-Some.ensures.row.0 (page_unqueued key w.on c.in-Some.ensures.row.1) c.remove.ensures.queue c.in_ok-push.ensures.ok tt).queue
          c.in_ok-push.ensures.ok tt)
          (ends_nobody c.remove.new.self c.end_region.new.self.waits c.push.new.self.items c.end_region.new.log.items ends.waits ends.only);
      spends =
          spends_both c.args.self.now (record c.all.self { waits = c.remove.new.self }) c.end_region.new.self c.args.log.now c.push.new.self
          c.end_region.new.log _ _ _
          (spends_both c.args.self.now c.all.self (record c.all.self { waits = c.remove.new.self }) c.args.log.now c.all.log c.push.new.self _ _ _ was.spends
          (failed_spends c.all.self c.args.ids.now c.remove.new.self c.all.log c.push.new.self _ c.remove.ensures.length
          (copies_dropped c.in-Some.waiting.task.0 c.all.self.waits.rows c.remove.new.self.rows c.remove.ensures.rows) c.in_ok-push.ensures.ok
          c.in_ok-push.ensures.room))
          ends.spends;
      buffers = λ has. ends.buffers (was.buffers has);
    }

pub returns-clause-ended : goal.returns-clause-ended
returns-clause-ended g c =
    ends_all c.args.key c.args.self.now.waits.rows c.all.self.waits.rows (c.all.log.items ++ g.given.past) c.all.invariant.each
    (rw c.in_default.is at c.next_on.ensures.row)

pub returns-clause-quiet : goal.returns-clause-quiet
returns-clause-quiet g c = c.all.invariant.quiet

pub returns-in_err-push-clause-succeeds : goal.returns-in_err-push-clause-succeeds
returns-in_err-push-clause-succeeds g c = λ room has.
    let now = roomy_on c.args.self.now c.all.self c.args.log.now c.all.log _ _ c.all.invariant.spends room in
    let bad : false ≡ true = c.in_err-push.ensures.succeeds (omega (arith, now.log)) in
    absurd (cc)

pub returns-in_err-end_region-clause-succeeds : goal.returns-in_err-end_region-clause-succeeds
returns-in_err-end_region-clause-succeeds g c = λ room has.
    let now = roomy_on c.args.self.now c.all.self c.args.log.now c.all.log _ _ c.all.invariant.spends room in
    let bad : false ≡ true = c.in_err-end_region.ensures.succeeds (roomy_on c.all.self (record c.all.self { waits = c.remove.new.self }) c.all.log
    c.push.new.self _ _
    (failed_spends c.all.self c.args.ids.now c.remove.new.self c.all.log c.push.new.self _ c.remove.ensures.length
    (copies_dropped c.in-Some.waiting.task.0 c.all.self.waits.rows c.remove.new.self.rows c.remove.ensures.rows) c.in_ok-push.ensures.ok
    c.in_ok-push.ensures.room) now) (c.all.invariant.buffers has) in
    absurd (cc)
