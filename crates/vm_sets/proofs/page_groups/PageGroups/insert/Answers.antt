use Rattle.std.proofs.Common.{◌≡◌, ◌<◌, ◌∙◌, Bool, None, Some, false, true, ap, refl, sym, arith}
use Rattle.std.specs.Option.{option_copied_mut, unwrap_or}
use Rattle.std.specs.Prelude.{if◌then◌else◌}
use Rattle.indexmap.specs.IndexMap.{spare}
use Rattle.vm_sets.proofs.PageSets.{WritesGroup, below_set, below_wider, below_written, ok_has, put_among, some_of}
use Rattle.vm_sets.specs.Groups.{PageSet, PutsAmong, group_at, no_pages}
use Rattle.vm_sets.proofs.page_groups.PageGroups.insert.Goals as goal

-- the group of the page is kept already
writes : (c : goal.After-self-in-Some-1)
    → WritesGroup c.group_of-at.result (Some c.with_page.result) c.self.inside.groups.entries (c.get_mut.follows.lender c.with_page.result).entries
writes c =
    let there = sym c.get_mut.ensures.value ∙ ap option_copied_mut c.in-Some.is in
    let wrote = (c.get_mut.follows.holds c.with_page.result).3 (some_of _ _ there) in
    λ o g. wrote.0 (record { object = record { 0 = o }; group = g })

put : (c : goal.After-self-in-Some-1) (marked now : Bool) → (if marked then c.args.marked else true) ≡ now
    → PutsAmong marked c.args.key.object.0 c.args.key.page.0 now c.args.self.now
    (record { groups = (c.get_mut.follows.lender c.with_page.result).entries; spare = spare (c.get_mut.follows.lender c.with_page.result) })
put c marked now is =
    let there = sym c.get_mut.ensures.value ∙ ap option_copied_mut c.in-Some.is in
    put_among marked c.args.self.now _ c.args.key c.group_of-at.result c.in-Some.kept.now c.with_page.result (Some _) now c.group_of-at.ensures.object
    c.group_of-at.ensures.group (rw (← c.self.view_is) (ap (λ z. unwrap_or z no_pages) (sym there))) refl (rw (← is) (c.with_page.ensures marked))
    (rw (← c.self.view_is) (writes c))

pub invariant_of-self : goal.invariant_of-self
invariant_of-self c =
    let there = sym c.get_mut.ensures.value ∙ ap option_copied_mut c.in-Some.is in
    below_set c.self.inside.groups.entries _ c.self.inside.end c.group_of-at.result _ _ c.self.invariant there (writes c)

pub returns-in-Some-clause-pages : goal.returns-in-Some-clause-pages
returns-in-Some-clause-pages c = put c false true refl

pub returns-in-Some-clause-marks : goal.returns-in-Some-clause-marks
returns-in-Some-clause-marks c = put c true c.args.marked refl

-- the group of the page is a new one
makes : (c : goal.After-self-2-1) → WritesGroup c.group_of-at.result (Some c.with_page-group.result) c.self.inside.groups.entries c.insert.new.self.entries
makes c =
    let same = c.get_mut.follows.holds-at-none in
    let room : 0 < spare c.self.inside.groups = omega (arith, ap (λ (z : PageSet). z.spare) c.self.view_is, c.requires) in
    let wrote = ok_has c.insert.result (c.insert.ensures.succeeds (rw same room)) c.insert.ensures.updates in
    rw (← same) (λ o g. wrote.0 (record { object = record { 0 = o }; group = g }))

put_new : (c : goal.After-self-2-1) (marked now : Bool) → (if marked then c.args.marked else true) ≡ now
    → PutsAmong marked c.args.key.object.0 c.args.key.page.0 now c.args.self.now
    (record { groups = c.insert.new.self.entries; spare = spare c.insert.new.self })
put_new c marked now is =
    let none : group_at c.group_of-at.result.object.0 c.group_of-at.result.group c.self.inside.groups.entries ≡ None
    = sym c.get_mut.ensures.value ∙ ap option_copied_mut c.in_default.is in
    put_among marked c.args.self.now _ c.args.key c.group_of-at.result no_pages c.with_page-group.result (Some _) now c.group_of-at.ensures.object
    c.group_of-at.ensures.group (rw (← c.self.view_is) (ap (λ z. unwrap_or z no_pages) (sym none))) refl (rw (← is) (c.with_page-group.ensures marked))
    (rw (← c.self.view_is) (makes c))

pub invariant_of-self-2 : goal.invariant_of-self-2
invariant_of-self-2 c =
    let wide = below_wider c.self.inside.groups.entries c.self.inside.end c.max-self-inside.result c.self.invariant (omega (arith, c.max-self-inside.ensures))
    (omega (arith, c.max-self-inside.ensures, c.self.invariant.end, c.group_of-at.ensures.low)) in
    below_written c.self.inside.groups.entries c.insert.new.self.entries c.max-self-inside.result c.group_of-at.result _ wide
    (omega (arith, c.max-self-inside.ensures)) (makes c)

pub returns-clause-pages : goal.returns-clause-pages
returns-clause-pages c = put_new c false true refl

pub returns-clause-marks : goal.returns-clause-marks
returns-clause-marks c = put_new c true c.args.marked refl
