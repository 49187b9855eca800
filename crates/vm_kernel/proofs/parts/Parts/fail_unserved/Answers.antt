use Rattle.vm_kernel.proofs.Common.{Event, List, Parts, Still, [], ap, paging, refl, subst, sym, ◌++◌, ◌∙◌, ◌∷◌, ◌≡◌}
use Rattle.vm_kernel.proofs.controls.UnservedFail.{fails_more, falls_in_turn, have_fallen, queue_kept, spends_level, standing_left, unserved_left}
use Rattle.vm_kernel.proofs.lists.ListsAsTold.{plays_both, plays_one}
use Rattle.vm_kernel.proofs.room.CallsSpend.{spends_both, spends_none}
use Rattle.vm_kernel.proofs.room.EndsSpend.{copies_dropped, failed_spends}
use Rattle.vm_kernel.proofs.steps.EventsGrow.{goes_both, goes_none}
use Rattle.vm_kernel.specs.Destroying.{StandOrFell}
use Rattle.vm_kernel.specs.Rooms.{Spends}
use Rattle.vm_model.specs.declared.event.Event.TheVariants as event
use Rattle.vm_kernel.proofs.parts.Parts.fail_unserved.Goals as goal

pub all-init : goal.all-init
all-init g c = record {
  undone = c.requires.0;
  unserved = c.requires.1.0;
  standing = c.requires.1.1;
  goes = goes_none g.given.header g.given.host g.given.outside g.given.command g.given.past c.args.log.now.items;
  only = record { more = []; is = refl; each = tt };
  plays = Still;
  queue = refl;
  spends = spends_none c.args.self.now c.args.log.now _;
  same = refl;
}

pub end_unserved-requires : goal.end_unserved-requires
end_unserved-requires g c =
    let was = c.all.invariant in (
      was.undone,
      (
        falls_in_turn g.given.header c.all.self (c.all.log.items ++ g.given.past) c.in-Some.waiting c.in-Some-unserved.key.object.0 was.standing
            was.undone.order (sym c.in-Some.ensures.oldest),
        (c.in-Some.ensures.row.0, sym c.in-Some-unserved.ensures),
      ),
    )

pub all-preserved : goal.all-preserved
all-preserved g c =
    let was = c.all.invariant in
    let w = c.in-Some.waiting in
    let key = c.in-Some-unserved.key in
    let now = c.in_ok-end_unserved.ensures in
    let new = c.end_unserved.new.self in
    let told : c.end_unserved.new.log.items ≡ event.Failed w.task key.object key.page ∷ c.all.log.items = now.told in
    let one : Spends _ 0 _ c.all.self c.all.log (record c.all.self { waits = new.waits }) c.end_unserved.new.log = failed_spends c.all.self c.args.ids.now
    new.waits c.all.log c.end_unserved.new.log _ now.length (copies_dropped w.task.0 c.all.self.waits.rows new.waits.rows now.rows) told now.room in
    record {
      undone = now.undone;
      unserved = unserved_left c.all.self new w.task.0 was.unserved now.same now.entry;
      standing =
          subst (λ (z : List Event). StandOrFell g.given.header new (z ++ g.given.past)) (sym told)
          (standing_left g.given.header c.all.self new (c.all.log.items ++ g.given.past) w key was.standing now.same now.entry c.in-Some.ensures.row.0
          (sym c.in-Some-unserved.ensures));
      goes = goes_both g.given.header g.given.host g.given.outside g.given.command g.given.past c.args.log.now.items c.all.log.items
          c.end_unserved.new.log.items was.goes now.goes;
      only = fails_more c.args.log.now.items c.all.log.items c.end_unserved.new.log.items w.task key was.only told;
      plays =
          plays_both was.plays (plays_one g.given.header g.given.past c.all.log.items c.end_unserved.new.log.items (event.Failed w.task key.object key.page)
          (paging c.all.self) (paging new) told (ap paging now.same));
      queue =
          queue_kept c.all.self.waits.rows c.all.self.waits.queue new.waits.queue w c.next_again.ensures.line c.in-Some.ensures.row.0 c.in-Some.ensures.row.1
          now.queue
          ∙ was.queue;
      spends =
          spends_both c.args.self.now c.all.self new c.args.log.now c.all.log c.end_unserved.new.log _ _ _ was.spends
          (subst (λ (z : Parts). Spends 0 0 0 c.all.self c.all.log z c.end_unserved.new.log) (sym now.same)
          (spends_level _ c.all.self (record c.all.self { waits = new.waits }) c.all.log c.end_unserved.new.log one));
      same = now.same ∙ ap (λ (z : Parts). record z { waits = new.waits }) was.same;
    }

pub returns-clause-replied : goal.returns-clause-replied
returns-clause-replied g c =
    have_fallen g.given.header c.all.self (c.all.log.items ++ g.given.past) c.all.invariant.standing c.in_default.ensures.row
