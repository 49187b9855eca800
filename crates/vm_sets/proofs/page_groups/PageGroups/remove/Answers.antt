use Rattle.std.proofs.Common.{◌≡◌, ◌∙◌, Bool, None, Some, false, true, ap, refl, sym}
use Rattle.std.specs.Option.{option_copied_mut, unwrap_or}
use Rattle.std.specs.Prelude.{if◌then◌else◌}
use Rattle.indexmap.specs.IndexMap.{spare}
use Rattle.vm_sets.proofs.PageSets.{WritesGroup, below_gone, below_set, empty_is, put_among, some_of, writes_twice}
use Rattle.vm_sets.specs.Groups.{PutsAmong, no_pages}
use Rattle.vm_sets.proofs.page_groups.PageGroups.remove.Goals as goal

-- the group goes, with no page left in it
leaves : (c : goal.After-swap_remove) → WritesGroup c.group_of-at.result None c.self.inside.groups.entries c.swap_remove.new.self.entries
leaves c =
    let there = sym c.get_mut.ensures.value ∙ ap option_copied_mut c.in-Some.is in
    let stays = (c.get_mut.follows.holds c.in-Some.kept.now).3 (some_of _ _ there) in
    writes_twice c.group_of-at.result (Some c.in-Some.kept.now) None _ _ _ (λ o g. stays.0 (record { object = record { 0 = o }; group = g }))
    (λ o g. c.swap_remove.ensures.updates.0 (record { object = record { 0 = o }; group = g }))

gone : (c : goal.After-swap_remove) (marked : Bool) → (if marked then false else false) ≡ false
    → PutsAmong marked c.args.key.object.0 c.args.key.page.0 false c.args.self.now
    (record { groups = c.swap_remove.new.self.entries; spare = spare c.swap_remove.new.self })
gone c marked is =
    let there = sym c.get_mut.ensures.value ∙ ap option_copied_mut c.in-Some.is in
    put_among marked c.args.self.now _ c.args.key c.group_of-at.result c.in-Some.kept.now c.with_page-group.result None false c.group_of-at.ensures.object
    c.group_of-at.ensures.group (rw (← c.self.view_is) (ap (λ z. unwrap_or z no_pages) (sym there)))
    (empty_is c.with_page-group.result c.if-group-eq0.true c.if-group-eq0-2.true) (rw (← is) (c.with_page-group.ensures marked))
    (rw (← c.self.view_is) (leaves c))

-- the group stays, with others
writes : (c : goal.After-self-2-1)
    → WritesGroup c.group_of-at.result (Some c.with_page-group.result) c.self.inside.groups.entries (c.get_mut.follows.lender c.with_page-group.result).entries
writes c =
    let there = sym c.get_mut.ensures.value ∙ ap option_copied_mut c.in-Some.is in
    let wrote = (c.get_mut.follows.holds c.with_page-group.result).3 (some_of _ _ there) in
    λ o g. wrote.0 (record { object = record { 0 = o }; group = g })

out : (c : goal.After-self-2-1) (marked : Bool) → (if marked then false else false) ≡ false
    → PutsAmong marked c.args.key.object.0 c.args.key.page.0 false c.args.self.now
    (record { groups = (c.get_mut.follows.lender c.with_page-group.result).entries; spare = spare (c.get_mut.follows.lender c.with_page-group.result) })
out c marked is =
    let there = sym c.get_mut.ensures.value ∙ ap option_copied_mut c.in-Some.is in
    put_among marked c.args.self.now _ c.args.key c.group_of-at.result c.in-Some.kept.now c.with_page-group.result (Some _) false c.group_of-at.ensures.object
    c.group_of-at.ensures.group (rw (← c.self.view_is) (ap (λ z. unwrap_or z no_pages) (sym there))) refl (rw (← is) (c.with_page-group.ensures marked))
    (rw (← c.self.view_is) (writes c))

pub invariant_of-self-then-group-eq0-2 : goal.invariant_of-self-then-group-eq0-2
invariant_of-self-then-group-eq0-2 c =
    below_gone c.self.inside.groups.entries c.swap_remove.new.self.entries c.self.inside.end c.group_of-at.result c.self.invariant (leaves c)

pub returns-then-group-eq0-2-clause-pages : goal.returns-then-group-eq0-2-clause-pages
returns-then-group-eq0-2-clause-pages c = gone c false refl

pub returns-then-group-eq0-2-clause-marks : goal.returns-then-group-eq0-2-clause-marks
returns-then-group-eq0-2-clause-marks c = gone c true refl

pub invariant_of-self-2 : goal.invariant_of-self-2
invariant_of-self-2 c =
    let there = sym c.get_mut.ensures.value ∙ ap option_copied_mut c.in-Some.is in
    below_set c.self.inside.groups.entries _ c.self.inside.end c.group_of-at.result _ _ c.self.invariant there (writes c)

pub returns-clause-pages : goal.returns-clause-pages
returns-clause-pages c = out c false refl

pub returns-clause-marks : goal.returns-clause-marks
returns-clause-marks c = out c true refl
