use Rattle.vm_kernel.proofs.Common.{Event, List, Parts, Waiting, [], ap, length, paging, refl, subst, sym, true, ◌++◌, ◌+◌, ◌∙◌, ◌≡◌, ◌≤◌, false, suc}
use Rattle.vm_model.specs.declared.event.Event.TheVariants as event
use Rattle.vm_kernel.proofs.controls.ControlMissed.{served_meets}
use Rattle.vm_kernel.proofs.controls.LockReplied.{replied_behind}
use Rattle.vm_kernel.proofs.lists.ListsAsTold.{plays_one}
use Rattle.vm_kernel.proofs.room.RoomForRun.{few_failed, room_failed, room_to_fail, some_run}
use Rattle.vm_kernel.proofs.steps.AccessUnserved.{finds_none}
use Rattle.vm_kernel.proofs.steps.EventsGrow.{on_ok}
use Rattle.vm_kernel.proofs.steps.FramesClaimed.{once_unserved}
use Rattle.vm_kernel.proofs.steps.PagesLeft.{without_less}
use Rattle.vm_kernel.specs.Matches.{IsReplied}
use Rattle.vm_kernel.specs.Rooms.{HasRoom, dues}
use Rattle.vm_kernel.specs.Serving.{pages_to_copy}
use Rattle.vm_kernel.proofs.parts.Parts.attempt.Goals as goal

pub end_unserved-requires : goal.end_unserved-requires
end_unserved-requires g c =
    let works = c.requires.0 in (
      record {
        core = works.matches.core;
        settled = works.matches.settled;
        used = works.used;
        referred = works.referred;
        thin = works.thin;
        waits = works.waits;
        order = works.order;
      },
      (
        λ host other access waits taken on over less. works.matches.replied.fallen host c.in-Some.key.object.0 other access waits taken on over,
        (c.requires.1.0, sym c.unserved.ensures ∙ c.in-Some.is),
      ),
    )

pub returns-in_ok-end_unserved-in-Some-clause-works : goal.returns-in_ok-end_unserved-in-Some-clause-works
returns-in_ok-end_unserved-in-Some-clause-works g c =
    let undone = c.in_ok-end_unserved-in-Some.ensures.undone in
    record {
      matches =
          record {
            core = undone.core;
            settled = undone.settled;
            replied =
                subst (λ (z : List Event). IsReplied g.given.header (z ++ g.given.past)) (sym c.in_ok-end_unserved-in-Some.ensures.told)
                (replied_behind tt c.requires.0.matches.replied);
          };
      used = undone.used;
      referred = undone.referred;
      thin = undone.thin;
      waits = undone.waits;
      order = undone.order;
    }

pub returns-in_ok-end_unserved-in-Some-clause-ends : goal.returns-in_ok-end_unserved-in-Some-clause-ends
returns-in_ok-end_unserved-in-Some-clause-ends g c = λ finds.
    absurd (finds_none g.given.header g.given.host (c.args.log.now.items ++ g.given.past) c.args.self.now c.args.ids.now c.args.waiting c.in-Some.key
    c.requires.0 c.requires.1.0 (sym c.unserved.ensures ∙ c.in-Some.is) finds)

pub returns-in_ok-end_unserved-in-Some-clause-fails : goal.returns-in_ok-end_unserved-in-Some-clause-fails
returns-in_ok-end_unserved-in-Some-clause-fails g c = λ meets.
    let key = c.in-Some.key in
    record {
      later = [];
      end = event.Failed c.args.waiting.task key.object key.page;
      is = c.in_ok-end_unserved-in-Some.ensures.told;
      ends = refl;
    }

pub returns-in-None-clause-fails : goal.returns-in-None-clause-fails
returns-in-None-clause-fails g c =
    on_ok c.run_access.result _ _ (λ works meets.
    absurd (served_meets g.given.header g.given.host (c.args.log.now.items ++ g.given.past) c.args.self.now c.args.ids.now c.args.waiting c.requires.0
    c.requires.1.0 (sym c.unserved.ensures ∙ c.in-None.is) meets)) c.run_access.ensures.works

pub returns-in_ok-end_unserved-in-Some-clause-attempts : goal.returns-in_ok-end_unserved-in-Some-clause-attempts
returns-in_ok-end_unserved-in-Some-clause-attempts g c =
    let ended = c.in_ok-end_unserved-in-Some.ensures in
    record {
      left =
          subst (λ (z : List Waiting). pages_to_copy z ≤ pages_to_copy c.args.self.now.waits.rows) (sym ended.rows)
          (without_less c.args.waiting.task.0 c.args.self.now.waits.rows);
      again = ended.again;
      queued = ended.queued;
      laundry = ap (λ (z : Parts). z.laundry) ended.same;
    }

pub returns-in_ok-end_unserved-in-Some-clause-plays : goal.returns-in_ok-end_unserved-in-Some-clause-plays
returns-in_ok-end_unserved-in-Some-clause-plays g c =
    let ended = c.in_ok-end_unserved-in-Some.ensures in
    let key = c.in-Some.key in
    plays_one g.given.header g.given.past c.args.log.now.items c.end_unserved.new.log.items (event.Failed c.args.waiting.task key.object key.page)
    (paging c.args.self.now) (paging c.end_unserved.new.self) ended.told (ap paging ended.same)

pub returns-in_ok-end_unserved-in-Some-clause-once : goal.returns-in_ok-end_unserved-in-Some-clause-once
returns-in_ok-end_unserved-in-Some-clause-once g c =
    let ended = c.in_ok-end_unserved-in-Some.ensures in
    once_unserved c.args.waiting c.args.may_claim c.in-Some.key c.args.self.now.waits c.end_unserved.new.self.waits c.args.log.now.items
    c.end_unserved.new.log.items ended.told ended.entry ended.queue

pub returns-in_err-end_unserved-in-Some-clause-room : goal.returns-in_err-end_unserved-in-Some-clause-room
returns-in_err-end_unserved-in-Some-clause-room g c = λ more has.
    let some = some_run c.args.self.now.waits.rows c.args.waiting c.requires.1.0 c.requires.1.1 in
    absurd (let bad : false ≡ true = c.in_err-end_unserved-in-Some.ensures.succeeds (room_to_fail has some) in cc)

pub returns-in_ok-end_unserved-in-Some-clause-room : goal.returns-in_ok-end_unserved-in-Some-clause-room
returns-in_ok-end_unserved-in-Some-clause-room g c = λ more has.
    let ended = c.in_ok-end_unserved-in-Some.ensures in
    let told : length c.end_unserved.new.log.items ≡ suc (length c.args.log.now.items) = ap length ended.told in (
      refl,
      subst (λ (z : Parts). HasRoom more z c.end_unserved.new.log.room) (sym ended.same)
          (room_failed c.args.self.now c.args.waiting c.end_unserved.new.self.waits (length c.args.log.now.items) (length c.end_unserved.new.log.items)
          c.args.log.now.room c.end_unserved.new.log.room has c.requires.1.1 ended.again ended.queued ended.rows told ended.room),
    )

pub returns-in_ok-end_unserved-in-Some-clause-few : goal.returns-in_ok-end_unserved-in-Some-clause-few
returns-in_ok-end_unserved-in-Some-clause-few g c =
    let ended = c.in_ok-end_unserved-in-Some.ensures in
    let told : length c.end_unserved.new.log.items ≡ suc (length c.args.log.now.items) = ap length ended.told in
    subst (λ (z : Parts). length c.end_unserved.new.log.items + dues z ≤ length c.args.log.now.items + dues c.args.self.now) (sym ended.same)
    (few_failed c.args.self.now c.args.waiting c.end_unserved.new.self.waits (length c.args.log.now.items) (length c.end_unserved.new.log.items) c.requires.1.1
    ended.again ended.queued ended.rows told)
