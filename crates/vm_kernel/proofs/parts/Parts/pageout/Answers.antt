use Rattle.vm_kernel.proofs.Common.{Still, arith, false, first_in_queue, inl, refl, rules, subst, suc, true, zero, ℕ, ◌<◌, ◌≡◌}
use Rattle.std.specs.Prelude.{◌++◌}
use Rattle.vm_kernel.proofs.lists.PageoutReclaims.{Reclaiming, first_source, paged_out, plays_first, ran_out, reclaiming_more, reclaiming_start, source_since}
use Rattle.vm_kernel.proofs.lists.PageoutReclaims.{spares_one}
use Rattle.vm_kernel.proofs.lists.ListsAsTold.{plays_both}
use Rattle.vm_kernel.proofs.lists.FramesSkipped.{Reclaimed, all_reclaimed, none_reclaimed, not_nothing, one_reclaimed, reclaimed_room}
use Rattle.vm_kernel.proofs.lists.FramesSkipped.{reclaimed_spare, reclaimed_spends, same_frames}
use Rattle.vm_parts.specs.Listed.{listed_pages}
use Rattle.vm_kernel.proofs.steps.FramesInTurn.{quiet_both, quiet_gone, quiet_none}
use Rattle.vm_kernel.proofs.parts.Parts.pageout.Goals as goal

pub pages-init : goal.pages-init
pages-init g c =
    record {
      reclaiming =
          reclaiming_start g.given.header g.given.host g.given.outside g.given.command c.args.count c.source-first.result g.given.past c.args.self.now
          c.args.ids.now c.args.log.now.items c.requires.0 c.requires.1 c.source-first.ensures.to_copy;
      plays = Still;
      reclaimed = none_reclaimed c.args.self.now c.args.log.now;
      quiet = quiet_none c.args.self.now.waits.queue c.args.log.now.items;
    }

pub reclaim-requires : goal.reclaim-requires
reclaim-requires g c =
    let was = c.pages.invariant in
    let now = c.pages.log.items ++ g.given.past in (
      was.reclaiming.rests,
      (
        inl (search rules),
        (
          (spares_one g.given.header g.given.host c.pages.self c.source-first.result c.source.result c.same_page-spared.result g.given.past now
              was.reclaiming.was c.source.ensures.to_copy c.same_page-spared.ensures.same c.same_page-spared.ensures.apart).now,
          (
            source_since g.given.header g.given.host (first_in_queue c.pages.self.waits.queue) c.source-first.result c.source.result c.same_page-spared.result
                g.given.past now
                (first_source g.given.header g.given.host c.source-first.result c.args.self.now.waits.queue c.pages.self.waits.queue c.args.log.now.items
                g.given.past was.quiet.queue c.requires.1.nothing c.source-first.ensures.source)
                c.source.ensures.source c.same_page-spared.ensures.same c.same_page-spared.ensures.apart,
            tt,
          ),
        ),
      ),
    )

pub returns-in-Nothing : goal.returns-in-Nothing
returns-in-Nothing g c =
    let was = c.pages.invariant in
    let all = c.in_ok-reclaim.ensures in
    let same = all.nothing c.in-Nothing.is in
    let frames = same_frames g.given.header g.given.host c.pages.self c.reclaim.new.self c.args.ids.now c.args.ids.now (c.pages.log.items ++ g.given.past)
    (c.reclaim.new.log.items ++ g.given.past) was.reclaiming.rests all.rests in
    let reclaimed : Reclaimed c.pages.counter c.args.self.now c.reclaim.new.self c.args.log.now c.reclaim.new.log =
    all_reclaimed c.in_ok-reclaim.field-0 c.pages.counter c.args.self.now c.pages.self c.reclaim.new.self c.args.log.now c.pages.log c.reclaim.new.log
    was.reclaimed all.leaves c.in-Nothing.is all.reclaimed.waits frames same.0 same.1 in
    record {
      spends = reclaimed_spends c.pages.counter c.args.self.now c.reclaim.new.self c.args.log.now c.reclaim.new.log reclaimed;
      succeeds = λ roomy enough. refl;
      spare = reclaimed_spare c.pages.counter c.args.count c.args.self.now c.reclaim.new.self c.args.log.now c.reclaim.new.log reclaimed (omega arith);
      ran =
          ran_out g.given.header g.given.host g.given.outside g.given.command c.args.count c.pages.counter c.source-first.result c.same_page-spared.result
          g.given.past c.pages.self c.reclaim.new.self c.args.ids.now c.in_ok-reclaim.field-0 c.pages.log.items c.reclaim.new.log.items was.reclaiming
          all.rests all.goes all.reclaims all.reclaimed c.in-Nothing.is
          (spares_one g.given.header g.given.host c.pages.self c.source-first.result c.source.result c.same_page-spared.result g.given.past
          (c.pages.log.items ++ g.given.past) was.reclaiming.was c.source.ensures.to_copy c.same_page-spared.ensures.same
          c.same_page-spared.ensures.apart).was;
      plays = plays_both was.plays (plays_first was.quiet.queue all.plays);
      quiet =
          quiet_both c.args.self.now.waits.queue c.pages.self.waits.queue c.reclaim.new.self.waits.queue c.args.log.now.items c.pages.log.items
          c.reclaim.new.log.items was.quiet
          (quiet_gone g.given.host c.pages.self.waits c.reclaim.new.self.waits c.pages.log.items c.reclaim.new.log.items all.reclaimed.waits all.reclaims);
    }

pub pages-preserved : goal.pages-preserved
pages-preserved g c =
    let was = c.pages.invariant in
    let all = c.in_ok-reclaim.ensures in
    let frames = same_frames g.given.header g.given.host c.pages.self c.reclaim.new.self c.args.ids.now c.args.ids.now (c.pages.log.items ++ g.given.past)
    (c.reclaim.new.log.items ++ g.given.past) was.reclaiming.rests all.rests in
    record {
      reclaimed =
          one_reclaimed c.in_ok-reclaim.field-0 c.pages.counter c.args.self.now c.pages.self c.reclaim.new.self c.args.log.now c.pages.log c.reclaim.new.log
          was.reclaimed all.leaves (not_nothing c.in_ok-reclaim.field-0 c.in-Freed.is) all.reclaimed.waits frames all.few;
      reclaiming =
          reclaiming_more g.given.header g.given.host g.given.outside g.given.command c.args.count c.pages.counter c.source-first.result
          c.same_page-spared.result g.given.past c.pages.self c.reclaim.new.self c.args.ids.now c.in_ok-reclaim.field-0 c.pages.log.items
          c.reclaim.new.log.items was.reclaiming all.rests all.goes all.reclaims all.reclaimed c.in-Freed.is;
      plays = plays_both was.plays (plays_first was.quiet.queue all.plays);
      quiet =
          quiet_both c.args.self.now.waits.queue c.pages.self.waits.queue c.reclaim.new.self.waits.queue c.args.log.now.items c.pages.log.items
          c.reclaim.new.log.items was.quiet
          (quiet_gone g.given.host c.pages.self.waits c.reclaim.new.self.waits c.pages.log.items c.reclaim.new.log.items all.reclaimed.waits all.reclaims);
    }

pub returns-clause-ran : goal.returns-clause-ran
returns-clause-ran g c =
    let all : c.pages.counter ≡ c.args.count = omega arith in
    paged_out g.given.header g.given.host g.given.outside g.given.command c.args.count c.source-first.result g.given.past c.pages.self c.args.ids.now
    c.pages.log.items
    (subst (λ (n : ℕ). Reclaiming g.given.header g.given.host g.given.outside g.given.command c.args.count n c.source-first.result g.given.past c.pages.self
    c.args.ids.now c.pages.log.items) all c.pages.invariant.reclaiming)

pub returns-clause-quiet : goal.returns-clause-quiet
returns-clause-quiet g c = c.pages.invariant.quiet

pub returns-clause-spends : goal.returns-clause-spends
returns-clause-spends g c = reclaimed_spends c.pages.counter c.args.self.now c.pages.self c.args.log.now c.pages.log c.pages.invariant.reclaimed

pub returns-clause-spare : goal.returns-clause-spare
returns-clause-spare g c =
    reclaimed_spare c.pages.counter c.args.count c.args.self.now c.pages.self c.args.log.now c.pages.log c.pages.invariant.reclaimed (omega arith)

-- a reclaim fails for want of room alone
pub returns-in_err-reclaim-clause-succeeds : goal.returns-in_err-reclaim-clause-succeeds
returns-in_err-reclaim-clause-succeeds g c = λ roomy enough.
    let was = c.pages.invariant.reclaimed in
    let buffers = reclaimed_spare c.pages.counter c.args.count c.args.self.now c.pages.self c.args.log.now c.pages.log was (omega arith) enough in
    absurd (may_fail (listed_pages c.pages.self.memory.queues) (λ none. c.in_err-reclaim.ensures.empty none)
    (λ some. c.in_err-reclaim.ensures.room (reclaimed_room c.pages.counter c.args.self.now c.pages.self c.args.ids.now c.args.log.now c.pages.log was roomy
    some) buffers))
  where
    may_fail : (n : ℕ) → (n ≡ 0 → false ≡ true) → (0 < n → false ≡ true) → ⊥
    may_fail zero none some = let bad : false ≡ true = none refl in cc
    may_fail (suc n) none some = let bad : false ≡ true = some (omega arith) in cc
