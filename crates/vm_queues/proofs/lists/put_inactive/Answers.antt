use Rattle.std.proofs.Common.{false, refl, arith}
use Rattle.std.proofs.lemmas.List.{with_items_is}
use Rattle.std.specs.Vec.{with_item, with_items}
use Rattle.vm_queues.specs.Kept.{frame_lists, with_inactive}
use Rattle.vm_queues.specs.declared.lists.Lists.{Lists}
use Rattle.vm_queues.proofs.Linking.{PutsInactive, are_lists, inactive_below, lists_are, put_inactive, room_for_one}
use Rattle.vm_queues.proofs.lists.put_inactive.Goals as goal

pub push-requires-clause-inside : goal.push-requires-clause-inside
push-requires-clause-inside c = rw c.deref_mut.ensures.value (omega (arith, c.requires.inside, c.requires.kept.count))

pub push-requires-clause-last : goal.push-requires-clause-last
push-requires-clause-last c = rw c.deref_mut.ensures.value (inactive_below c.args.lists.now (frame_lists c.args.lists.now) c.requires.kept)

pub push-requires-clause-fits : goal.push-requires-clause-fits
push-requires-clause-fits c =
    rw c.deref_mut.ensures.value (omega (
      arith,
      room_for_one c.args.f c.args.lists.now (frame_lists c.args.lists.now) c.requires.kept c.requires.inside
          c.requires.absent,
    ))

pub returns : goal.returns
returns c =
    let old : Lists = c.args.lists.now in
    let seen = c.deref_mut.result.now in
    let left = c.push.new.links in
    let new : Lists = record {
      links = with_items old.links left;
      marks = with_item old.marks c.args.f.0 false;
      active = old.active;
      inactive = c.push.new.ends;
    } in
    let puts : PutsInactive c.args.f old new seen left = record {
      before = c.deref_mut.ensures.value;
      after = with_items_is old.links left (omega (arith, c.push.ensures.count, c.deref_mut.ensures.len));
      links = c.push.ensures.links;
      count = c.push.ensures.count;
      marks = refl;
      active = refl;
      inactive = c.push.ensures.ends;
    } in
    let are = put_inactive c.args.f old new seen left (frame_lists old) c.requires.kept c.requires.inside c.requires.absent puts in
    record { kept = are_lists new (with_inactive c.args.f (frame_lists old)) are; frames = lists_are new (with_inactive c.args.f (frame_lists old)) are }
