use Rattle.std.proofs.Common.{◌≡◌, ◌∙◌, ap, refl, sym, arith}
use Rattle.std.specs.Option.{option_copied_mut}
use Rattle.vm_sets.proofs.PageSets.{some_of}
use Rattle.vm_sets.proofs.Written.{Writes, agrees_there, placed_touched, touched, within_written}
use Rattle.std.specs.Prelude.{IsSome}
use Rattle.vm_sets.specs.Places.{PlaceTable, Touches, place_in}
use Rattle.vm_sets.proofs.page_places.PagePlaces.touch.Goals as goal

wrote : (c : goal.After-self-1) → Writes c.args.key c.group_of.result c.unwrap-group.result.now c.touch.new.self c.self.inside.groups.entries
    (c.get_mut.follows.lender c.touch.new.self).entries
wrote c =
    let there = sym c.get_mut.ensures.value ∙ ap option_copied_mut c.unwrap-group.ensures in
    let put = (c.get_mut.follows.holds c.touch.new.self).3 (some_of _ _ there) in
    record {
      object = c.group_of.ensures.object;
      of = c.group_of.ensures.group;
      agrees = agrees_there c.group_of.result c.unwrap-group.result.now c.self.inside.groups.entries there;
      writes = λ o g. put.0 (record { object = record { 0 = o }; group = g });
    }

left : (c : goal.After-self-1) (old new : PlaceTable) → old.groups ≡ c.self.inside.groups.entries
    → new.groups ≡ (c.get_mut.follows.lender c.touch.new.self).entries → new.objects ≡ old.objects → new.spare ≡ old.spare
    → IsSome (place_in old c.args.key.object.0 c.args.key.page.0) → Touches c.args.key old new
left c old new one two objects spare some =
    touched c.args.key c.group_of.result c.unwrap-group.result.now c.touch.new.self old new some (rw (one, two) (wrote c)) c.touch.ensures.words
    c.touch.ensures.places objects spare

pub returns : goal.returns
returns c = left c c.args.self.now _ (rw (← c.self.view_is) refl) refl (rw (← c.self.view_is) refl)
    (let room = (c.get_mut.follows.holds c.touch.new.self).6 in rw (← c.self.view_is) (rw room refl)) c.requires

pub invariant_of-self : goal.invariant_of-self
invariant_of-self c =
    let old : PlaceTable = record { groups = c.self.inside.groups.entries; objects = c.self.inside.objects.entries; spare = 0 } in
    let new : PlaceTable = record { groups = (c.get_mut.follows.lender c.touch.new.self).entries; objects = c.self.inside.objects.entries; spare = 0 } in
    let there = sym c.get_mut.ensures.value ∙ ap option_copied_mut c.unwrap-group.ensures in
    let w = wrote c in
    record {
      low = c.self.invariant.low;
      within = within_written old.groups new.groups c.group_of.result c.touch.new.self old.objects old.objects w.writes (λ o. omega arith)
          (c.self.invariant.within c.group_of.result.object.0 c.group_of.result.group c.unwrap-group.result.now there) c.self.invariant.within;
      placed = (let t = left c old new refl refl refl refl (rw (← c.self.view_is) at c.requires) in placed_touched c.args.key old new t.marks c.self.invariant.placed);
    }
