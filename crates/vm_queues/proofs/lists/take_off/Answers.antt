use Rattle.std.proofs.Common.{refl, sym, ap, ◌∙◌, arith}
use Rattle.std.proofs.lemmas.List.{with_items_is}
use Rattle.std.specs.Vec.{with_items}
use Rattle.vm_queues.specs.Kept.{frame_lists, frames_except}
use Rattle.vm_queues.specs.declared.link.Link.{Link}
use Rattle.vm_queues.specs.declared.lists.Lists.{Lists}
use Rattle.vm_queues.proofs.Linking.{TakesActive, TakesInactive, are_lists, fits_active, fits_inactive, is_neither, lists_are, read_is, take_active}
use Rattle.vm_queues.proofs.Linking.{take_inactive}
use Rattle.vm_queues.proofs.Moves.{frame_inside}
use Rattle.vm_queues.proofs.lists.take_off.Goals as goal

pub index-requires : goal.index-requires
index-requires c =
    let old : Lists = c.args.lists.now in
    omega (arith, frame_inside (frame_lists old) c.args.f.0 c.requires.kept.apart c.requires.there, c.requires.kept.count, old.links.ok.0)

pub unlink-requires : goal.unlink-requires
unlink-requires c =
    let old : Lists = c.args.lists.now in
    let inside = frame_inside (frame_lists old) c.args.f.0 c.requires.kept.apart c.requires.there in
    let here = read_is old.links.items c.args.f.0 c.index.result.now (omega (arith, inside, c.requires.kept.count)) c.index.ensures in
    let fits = fits_active old (frame_lists old) c.args.f c.requires.kept (ap (λ (l : Link). l.list) here ∙ c.in-Active.is) in
    rw c.deref_mut.ensures.value (record { inside = omega (arith, inside, c.requires.kept.count); before = fits.before; after = fits.after; some = fits.some })

pub unlink-requires-in-Inactive : goal.unlink-requires-in-Inactive
unlink-requires-in-Inactive c =
    let old : Lists = c.args.lists.now in
    let inside = frame_inside (frame_lists old) c.args.f.0 c.requires.kept.apart c.requires.there in
    let here = read_is old.links.items c.args.f.0 c.index.result.now (omega (arith, inside, c.requires.kept.count)) c.index.ensures in
    let fits = fits_inactive old (frame_lists old) c.args.f c.requires.kept (ap (λ (l : Link). l.list) here ∙ c.in-Inactive.is) in
    rw c.deref_mut-in-Inactive.ensures.value (record {
      inside = omega (arith, inside, c.requires.kept.count);
      before = fits.before;
      after = fits.after;
      some = fits.some;
    })

pub returns-in-Active : goal.returns-in-Active
returns-in-Active c =
    let old : Lists = c.args.lists.now in
    let seen = c.deref_mut.result.now in
    let left = c.unlink.new.links in
    let new : Lists = record { links = with_items old.links left; marks = old.marks; active = c.unlink.new.ends; inactive = old.inactive } in
    let inside = frame_inside (frame_lists old) c.args.f.0 c.requires.kept.apart c.requires.there in
    let here = read_is old.links.items c.args.f.0 c.index.result.now (omega (arith, inside, c.requires.kept.count)) c.index.ensures in
    let takes : TakesActive c.args.f old new seen left = record {
      before = c.deref_mut.ensures.value;
      after = with_items_is old.links left (omega (arith, c.unlink.ensures.count, c.deref_mut.ensures.len));
      links = c.unlink.ensures.links;
      count = c.unlink.ensures.count;
      marks = refl;
      active = c.unlink.ensures.ends;
      inactive = refl;
    } in
    let are = take_active c.args.f old new seen left (frame_lists old) c.requires.kept (ap (λ (l : Link). l.list) here ∙ c.in-Active.is) takes in
    record { kept = are_lists new (frames_except c.args.f.0 (frame_lists old)) are; frames = lists_are new (frames_except c.args.f.0 (frame_lists old)) are }

pub returns-in-Inactive : goal.returns-in-Inactive
returns-in-Inactive c =
    let old : Lists = c.args.lists.now in
    let seen = c.deref_mut-in-Inactive.result.now in
    let left = c.unlink-in-Inactive.new.links in
    let new : Lists = record { links = with_items old.links left; marks = old.marks; active = old.active; inactive = c.unlink-in-Inactive.new.ends } in
    let inside = frame_inside (frame_lists old) c.args.f.0 c.requires.kept.apart c.requires.there in
    let here = read_is old.links.items c.args.f.0 c.index.result.now (omega (arith, inside, c.requires.kept.count)) c.index.ensures in
    let takes : TakesInactive c.args.f old new seen left = record {
      before = c.deref_mut-in-Inactive.ensures.value;
      after = with_items_is old.links left (omega (arith, c.unlink-in-Inactive.ensures.count, c.deref_mut-in-Inactive.ensures.len));
      links = c.unlink-in-Inactive.ensures.links;
      count = c.unlink-in-Inactive.ensures.count;
      marks = refl;
      active = refl;
      inactive = c.unlink-in-Inactive.ensures.ends;
    } in
    let are = take_inactive c.args.f old new seen left (frame_lists old) c.requires.kept (ap (λ (l : Link). l.list) here ∙ c.in-Inactive.is) takes in
    record { kept = are_lists new (frames_except c.args.f.0 (frame_lists old)) are; frames = lists_are new (frames_except c.args.f.0 (frame_lists old)) are }

pub returns-in-Neither : goal.returns-in-Neither
returns-in-Neither c =
    let old : Lists = c.args.lists.now in
    let inside = frame_inside (frame_lists old) c.args.f.0 c.requires.kept.apart c.requires.there in
    let here = read_is old.links.items c.args.f.0 c.index.result.now (omega (arith, inside, c.requires.kept.count)) c.index.ensures in
    let none = is_neither old (frame_lists old) c.args.f.0 c.requires.kept (ap (λ (l : Link). l.list) here ∙ c.in-Neither.is) in
    let both = sym none ∙ c.requires.there in
    absurd (cc)
