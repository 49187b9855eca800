use Rattle.std.proofs.Common.{◌≡◌, ◌∙◌, false, ap, refl, sym, arith}
use Rattle.std.specs.Option.{option_copied_mut}
use Rattle.vm_sets.proofs.PageSets.{some_of}
use Rattle.vm_sets.proofs.Written.{Writes, agrees_there, placed_unmarked, unmarked, within_written}
use Rattle.vm_sets.specs.Places.{Marks, PlaceTable}
use Rattle.vm_sets.proofs.page_places.PagePlaces.unmark.Goals as goal

wrote : (c : goal.After-self-1) → Writes c.args.key c.group_of.result c.unwrap-group.result.now c.unmark.new.self c.self.inside.groups.entries
    (c.get_mut.follows.lender c.unmark.new.self).entries
wrote c =
    let there = sym c.get_mut.ensures.value ∙ ap option_copied_mut c.unwrap-group.ensures in
    let put = (c.get_mut.follows.holds c.unmark.new.self).3 (some_of _ _ there) in
    record {
      object = c.group_of.ensures.object;
      of = c.group_of.ensures.group;
      agrees = agrees_there c.group_of.result c.unwrap-group.result.now c.self.inside.groups.entries there;
      writes = λ o g. put.0 (record { object = record { 0 = o }; group = g });
    }

left : (c : goal.After-self-1) (old new : PlaceTable) → old.groups ≡ c.self.inside.groups.entries
    → new.groups ≡ (c.get_mut.follows.lender c.unmark.new.self).entries → new.objects ≡ old.objects → new.spare ≡ old.spare
    → Marks c.args.mark c.args.key false old new
left c old new one two objects spare =
    unmarked c.args.mark c.args.key c.group_of.result c.unwrap-group.result.now c.unmark.new.self old new c.requires.mark (rw (one, two) (wrote c))
    c.unmark.ensures.word c.unmark.ensures.others c.unmark.ensures.places objects spare

pub returns : goal.returns
returns c = left c c.args.self.now _ (rw (← c.self.view_is) refl) refl (rw (← c.self.view_is) refl)
    (let room = (c.get_mut.follows.holds c.unmark.new.self).6 in rw (← c.self.view_is) (rw room refl))

pub invariant_of-self : goal.invariant_of-self
invariant_of-self c =
    let old : PlaceTable = record { groups = c.self.inside.groups.entries; objects = c.self.inside.objects.entries; spare = 0 } in
    let new : PlaceTable = record { groups = (c.get_mut.follows.lender c.unmark.new.self).entries; objects = c.self.inside.objects.entries; spare = 0 } in
    let there = sym c.get_mut.ensures.value ∙ ap option_copied_mut c.unwrap-group.ensures in
    let w = wrote c in
    record {
      low = c.self.invariant.low;
      within = within_written old.groups new.groups c.group_of.result c.unmark.new.self old.objects old.objects w.writes (λ o. omega arith)
          (c.self.invariant.within c.group_of.result.object.0 c.group_of.result.group c.unwrap-group.result.now there) c.self.invariant.within;
      placed = placed_unmarked c.args.mark c.args.key old new c.requires.mark (left c old new refl refl refl refl) c.self.invariant.placed;
    }
