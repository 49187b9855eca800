use Rattle.std.proofs.Common.{ℕ, ◌≡◌, ◌<◌, ◌≤◌, ◌^◌, ◌+◌, ◌∙◌, true, if◌then◌else◌, ap, refl, subst, sym, arith, rules}
use Rattle.indexmap.specs.IndexMap.{spare}
use Rattle.vm_base.specs.Keys.{is_page}
use Rattle.vm_sets.proofs.PageSets.{ok_has}
use Rattle.vm_sets.proofs.Written.{Writes, WritesKnown, agrees_or_none, end_above, ends_low, ends_wider, mark_written, pages_written, placed_touched, put_there, within_written}
use Rattle.vm_base.specs.declared.ids.ObjectId.{ObjectId}
use Rattle.vm_sets.specs.Places.{PlaceTable, PutsPlace, all_marks, end_of, has_mark, pages_in}
use Rattle.vm_sets.specs.declared.page_places.ObjectPages.{ObjectPages}
use Rattle.vm_sets.proofs.page_places.PagePlaces.put.Goals as goal

wrote : (c : goal.After-insert-2) → Writes c.args.key c.group_of-group_key.result c.unwrap_or-group.result c.put.new.self c.self.inside.groups.entries
    c.insert.new.self.entries
wrote c =
    let room : 0 < spare c.self.inside.groups = omega (arith, ap (λ (z : PlaceTable). z.spare) c.self.view_is, c.requires.room) in
    let put = ok_has c.insert.result (c.insert.ensures.succeeds room) c.insert.ensures.updates in
    record {
      object = c.group_of-group_key.ensures.object;
      of = c.group_of-group_key.ensures.group;
      agrees = agrees_or_none c.group_of-group_key.result c.unwrap_or-group.result _ c.self.inside.groups.entries (search rules) refl refl;
      writes = λ o g. put.0 (record { object = record { 0 = o }; group = g });
    }

abbrev known_now : goal.After-insert-2 → ObjectPages
known_now c = record { pages = c.object-was.result.pages + 1; end = c.max.result }

knows : (c : goal.After-insert-2) → WritesKnown c.args.key.object (known_now c) c.self.inside.objects.entries c.insert-2.new.self.entries
knows c =
    let room : 0 < spare c.self.inside.objects = omega (arith, ap (λ (z : PlaceTable). z.spare) c.self.view_is, c.requires.room) in
    let put = ok_has c.insert-2.result (c.insert-2.ensures.succeeds room) c.insert-2.ensures.updates in
    λ o. put.0 (record { 0 = o })

-- the page has all marks now
marked : (c : goal.After-insert-2) (old new : PlaceTable) → old.groups ≡ c.self.inside.groups.entries → new.groups ≡ c.insert.new.self.entries
    → (k o p : ℕ) → k ≤ all_marks → has_mark new k o p ≡ (if is_page c.args.key o p then true else has_mark old k o p)
marked c old new one two k o p le =
    mark_written c.args.key c.group_of-group_key.result c.unwrap_or-group.result c.put.new.self old.groups new.groups k true (rw (one, two) (wrote c))
    (c.put.ensures.words k le) o p

left : (c : goal.After-insert-2) (old new : PlaceTable) → old.groups ≡ c.self.inside.groups.entries → new.groups ≡ c.insert.new.self.entries
    → old.objects ≡ c.self.inside.objects.entries → new.objects ≡ c.insert-2.new.self.entries → c.object-was.result.pages ≡ pages_in old c.args.key.object.0
    → PutsPlace c.args.key c.args.at old new
left c old new one two three four pages = record {
  places = put_there c.args.key c.group_of-group_key.result c.unwrap_or-group.result c.put.new.self old new c.args.at (rw (one, two) (wrote c))
      c.put.ensures.there c.put.ensures.others (λ o p. marked c old new one two all_marks o p (omega arith));
  marks = marked c old new one two;
  pages = pages_written c.args.key.object (known_now c) old new (rw (three, four) (knows c)) (ap (λ n. n + 1) pages);
}

pub returns : goal.returns
returns c =
    left c c.args.self.now _ (rw (← c.self.view_is) refl) refl (rw (← c.self.view_is) refl) refl c.object-was.ensures.pages

pub invariant_of-self : goal.invariant_of-self
invariant_of-self c =
    let was = c.self.inside.objects.entries in
    let now = c.insert-2.new.self.entries in
    let id = c.args.key.object in
    let known = knows c in
    let end : c.object-was.result.end ≡ end_of id.0 was = c.object-was.ensures.end ∙ ap (λ (z : PlaceTable). end_of id.0 z.objects) (sym c.self.view_is) in
    let low = c.self.invariant.low id.0 in
    let wider = ends_wider id (known_now c) was now known (omega (arith, end, c.max.ensures)) in
    let old : PlaceTable = record { groups = c.self.inside.groups.entries; objects = was; spare = 0 } in
    let new : PlaceTable = record { groups = c.insert.new.self.entries; objects = now; spare = 0 } in
    let w = wrote c in
    let above = end_above id (known_now c) was now c.group_of-group_key.result.group known (omega (arith, c.max.ensures)) in
    record {
      low = ends_low id (known_now c) was now (2 ^ 26) known (omega (arith, end, low, c.max.ensures, c.group_of-group_key.ensures.low)) c.self.invariant.low;
      within = within_written old.groups new.groups c.group_of-group_key.result c.put.new.self was now w.writes wider
          (subst (λ (o : ObjectId). c.group_of-group_key.result.group < end_of o.0 now) (sym c.group_of-group_key.ensures.object) above) c.self.invariant.within;
      placed = placed_touched c.args.key old new (marked c old new refl refl) c.self.invariant.placed;
    }
