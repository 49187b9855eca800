use Rattle.std.proofs.lemmas.Option.{MatchOption-at_some}
use Rattle.std.proofs.Common.{ℕ, ◌+◌, false, refl, sym, Some, subst, arith}
use Rattle.vm_base.specs.declared.ids.ObjectKind.TheVariants.{Temp}
use Rattle.vm_fault.proofs.Shadows.{chains_shadowed, fit_made, marks_twice, put_twice, told_makes}
use Rattle.vm_objects.specs.Objects.{PutsObject}
use Rattle.vm_objects.specs.declared.row.ObjectRow.{ObjectRow}
use Rattle.vm_objects.specs.declared.row.PagerState.TheVariants as state
use Rattle.vm_parts.proofs.Rows.{if_true}
use Rattle.vm_shadow.specs.Chains.{ObjectsBelow, ShadowsRegion}
use Rattle.vm_fault.proofs.shadowing.shadow.Goals as goal

pub returns-clause-ok : goal.returns-clause-ok
returns-clause-ok c copies =
    let k = c.args.parts.now in
    let chains = c.args.chains.now in
    let row = c.args.row in
    let object = c.in_ok-object.object in
    let over = c.in_ok-object.ensures in
    let made = c.in_ok-make.ensures in
    let first : ObjectRow = record { kind = Temp; pages = row.pages; state = state.Without; control = 0; live = false; cache = false; references = 0 } in
    let its : ObjectRow = record first { references = 1 } in
    let there = if_true object.0 (Some first) _ _ (made.ok.at object.0) in
    let referred = MatchOption-at_some _ (λ r. PutsObject object.0 (Some (record r { references = r.references + 1 })) c.make.new.self c.refer.new.self) first
    there c.refer.ensures.object in
    let same = c.in_ok-reserve.ensures.same.entries in
    let put = put_twice k.objects c.reserve.new.self c.make.new.self c.refer.new.self object.0 first its same made.ok referred in
    let none = c.requires.unmade object.0 (omega (arith, over.object)) in
    let below = subst (λ (n : ℕ). ObjectsBelow n chains) (sym over.object) c.requires.named in
    let shadows = MatchOption-at_some _ (λ r. ShadowsRegion c.args.region.0 object r chains c.shadow_over.new.self) row c.requires.row over.ok in
    told_makes c.push.result _ _ _ _ _
    (λ told. record {
      shared = c.requires.shared;
      object = object;
      next = over.object;
      chains = shadows;
      fewer = over.marked;
      objects = put;
      marks = marks_twice k.objects c.reserve.new.self c.make.new.self c.refer.new.self c.in_ok-reserve.ensures.same.absent made.marks c.refer.ensures.marks;
      parts = refl;
      fit = fit_made k c.refer.new.self object.0 its c.requires.fit none put;
      fits =
          chains_shadowed chains c.shadow_over.new.self k.objects c.refer.new.self c.args.region.0 object row its c.requires.chains below none refl
          c.requires.row shadows put;
      copies = refl;
      ids = over.ids;
      told = told;
    })
    c.push.ensures.ok
