use Rattle.std.proofs.Common.{◌≡◌, ◌∙◌, Bool, Some, false, true, ap, refl, sym}
use Rattle.std.specs.Option.{option_copied_mut, unwrap_or}
use Rattle.std.specs.Prelude.{if◌then◌else◌}
use Rattle.indexmap.specs.IndexMap.{spare}
use Rattle.vm_sets.proofs.PageSets.{WritesGroup, below_set, put_among, same_among, some_of}
use Rattle.vm_sets.specs.Groups.{PutsAmong, group_at, no_pages}
use Rattle.vm_sets.proofs.page_groups.PageGroups.mark.Goals as goal

stood : (c : goal.After-self-1) → group_at c.group_of.result.object.0 c.group_of.result.group c.self.inside.groups.entries ≡ Some c.unwrap-group.result.now
stood c = sym c.get_mut.ensures.value ∙ ap option_copied_mut c.unwrap-group.ensures

writes : (c : goal.After-self-1)
    → WritesGroup c.group_of.result (Some c.with_page.result) c.self.inside.groups.entries (c.get_mut.follows.lender c.with_page.result).entries
writes c =
    let wrote = (c.get_mut.follows.holds c.with_page.result).3 (some_of _ _ (stood c)) in
    λ o g. wrote.0 (record { object = record { 0 = o }; group = g })

put : (c : goal.After-self-1) (marked now : Bool) → (if marked then c.args.marked else true) ≡ now
    → PutsAmong marked c.args.key.object.0 c.args.key.page.0 now c.args.self.now
    (record { groups = (c.get_mut.follows.lender c.with_page.result).entries; spare = spare (c.get_mut.follows.lender c.with_page.result) })
put c marked now is =
    put_among marked c.args.self.now _ c.args.key c.group_of.result c.unwrap-group.result.now c.with_page.result (Some _) now c.group_of.ensures.object
    c.group_of.ensures.group (rw (← c.self.view_is) (ap (λ z. unwrap_or z no_pages) (sym (stood c)))) refl (rw (← is) (c.with_page.ensures marked))
    (rw (← c.self.view_is) (writes c))

pub invariant_of-self : goal.invariant_of-self
invariant_of-self c = below_set c.self.inside.groups.entries _ c.self.inside.end c.group_of.result _ _ c.self.invariant (stood c) (writes c)

pub returns-clause-pages : goal.returns-clause-pages
returns-clause-pages c = same_among false c.args.self.now _ c.args.key.object.0 c.args.key.page.0 true (put c false true refl) c.requires

pub returns-clause-marks : goal.returns-clause-marks
returns-clause-marks c = put c true c.args.marked refl
