use Rattle.std.proofs.Common.{◌≡◌, ◌∙◌, ◌+◌, ◌-◌, ◌∷◌, length, sym, ap, subst, arith}
use Rattle.vm_base.specs.declared.ids.FrameNo.{FrameNo}
use Rattle.vm_queues.specs.Kept.{FramesAreApart, pages, queued_page}
use Rattle.vm_queues.specs.Links.{along, link_of}
use Rattle.vm_queues.specs.Queues.{first_left}
use Rattle.vm_queues.proofs.Balance.{first_spared, first_picked}
use Rattle.vm_queues.proofs.Chains.{along_end, along_next, along_none}
use Rattle.vm_queues.proofs.lists.first_left.Goals as goal

pub all-init : goal.all-init
all-init g c =
    let whole : c.args.ends.count - 0 ≡ c.args.ends.count = omega arith in
    record {
      apart = subst (λ n. FramesAreApart (length c.args.links.now) (along (link_of c.args.links.now) n c.args.ends.first)) (sym whole) c.requires;
      same = λ marks. ap (λ n. first_left (g.S.Spares.spares c.args.spared.now) (pages marks (along (link_of c.args.links.now) n c.args.ends.first))) whole;
    }

pub returns-in_default : goal.returns-in_default
returns-in_default g c = λ marks.
    let rest = along_end (link_of c.args.links.now) (c.args.ends.count - c.all.counter) in
    let none = ap (λ z. along (link_of c.args.links.now) (c.args.ends.count - c.all.counter) z) c.in_default.is ∙ rest in
    sym (ap (λ z. first_left (g.S.Spares.spares c.args.spared.now) (pages marks z)) none) ∙ c.all.invariant.same marks

pub returns-then-not-spares : goal.returns-then-not-spares
returns-then-not-spares g c = λ marks.
    let links = link_of c.args.links.now in
    let frame : FrameNo = c.in-Some.frame in
    let walk = ap (λ z. along links (c.args.ends.count - c.all.counter) z) c.in-Some.is
    ∙ along_next links c.args.ends.count c.all.counter frame c.all-test.true in
    let rest = pages marks (along links (c.args.ends.count - (c.all.counter + 1)) (links frame.0).after) in
    sym (first_picked (g.S.Spares.spares c.args.spared.now) (queued_page marks frame) rest (sym c.spares.ensures ∙ c.if-not-spares.true))
    ∙ ap (λ z. first_left (g.S.Spares.spares c.args.spared.now) (pages marks z)) (sym walk)
    ∙ c.all.invariant.same marks

pub bounds-links-frame : goal.bounds-links-frame
bounds-links-frame g c =
    let links = link_of c.args.links.now in
    let frame : FrameNo = c.in-Some.frame in
    let walk = ap (λ z. along links (c.args.ends.count - c.all.counter) z) c.in-Some.is
    ∙ along_next links c.args.ends.count c.all.counter frame c.all-test.true in
    let front : FramesAreApart (length c.args.links.now) (frame ∷ along links (c.args.ends.count - (c.all.counter + 1)) (links frame.0).after)
    = subst (FramesAreApart (length c.args.links.now)) walk c.all.invariant.apart in
    front.0

pub all-preserved : goal.all-preserved
all-preserved g c =
    let links = link_of c.args.links.now in
    let frame : FrameNo = c.in-Some.frame in
    let walk = ap (λ z. along links (c.args.ends.count - c.all.counter) z) c.in-Some.is
    ∙ along_next links c.args.ends.count c.all.counter frame c.all-test.true in
    let rest = along links (c.args.ends.count - (c.all.counter + 1)) (links frame.0).after in
    let front : FramesAreApart (length c.args.links.now) (frame ∷ rest) = subst (FramesAreApart (length c.args.links.now)) walk c.all.invariant.apart in
    record {
      apart = front.2;
      same = λ marks.
          sym (first_spared (g.S.Spares.spares c.args.spared.now) (queued_page marks frame) (pages marks rest) (sym c.spares.ensures ∙ c.if-not-spares.false))
          ∙ ap (λ z. first_left (g.S.Spares.spares c.args.spared.now) (pages marks z)) (sym walk)
          ∙ c.all.invariant.same marks;
    }

pub returns : goal.returns
returns g c = λ marks.
    let links = link_of c.args.links.now in
    let left : c.args.ends.count - c.all.counter ≡ 0 = omega (arith, c.all-test.false) in
    let none = ap (λ n. along links n c.all.at) left ∙ along_none links c.all.at in
    sym (ap (λ z. first_left (g.S.Spares.spares c.args.spared.now) (pages marks z)) none) ∙ c.all.invariant.same marks
