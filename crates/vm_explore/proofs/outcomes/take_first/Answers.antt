use Rattle.std.proofs.Common.{◌≡◌, ◌+◌, ◌++◌, [], ◌∷◌, ◌∙◌, List, take, drop, get_or, ap, sym, arith}
use Rattle.std.proofs.lemmas.List.{take_more}
use Rattle.vm_explore.specs.Outcomes.{loaded_by}
use Rattle.vm_seen.specs.declared.ends.Loaded.{Loaded}
use Rattle.vm_explore.proofs.Loads.{cut, first_taken, others_left, not_yet}
use Rattle.vm_explore.proofs.outcomes.take_first.Goals as goal

pub returns-then-load-task-clause-first : goal.returns-then-load-task-clause-first
returns-then-load-task-clause-first c =
    let xs = c.args.left.now.items in
    let i = c.loop-i.i in
    let load = c.index-load.result.now in
    let same = c.loop-i.invariant.same in
    let at : load ≡ get_or xs i load = c.index-load.ensures ∙ ap (λ (z : List Loaded). get_or z i load) same in
    let whole = cut xs i load load (omega (arith, c.args.left.now.ok.0)) at in
    let out = c.remove.ensures.by_index.2 ∙ ap (λ (z : List Loaded). take i z ++ drop (i + 1) z) same in
    ap (loaded_by c.args.task) whole ∙ first_taken c.args.task (take i xs) (drop (i + 1) xs) load c.if-load-task.true c.loop-i.invariant.none
    ∙ ap (λ (z : List Loaded). load.value ∷ loaded_by c.args.task z) (sym out)

pub returns-then-load-task-clause-others : goal.returns-then-load-task-clause-others
returns-then-load-task-clause-others c =
    let xs = c.args.left.now.items in
    let i = c.loop-i.i in
    let load = c.index-load.result.now in
    let same = c.loop-i.invariant.same in
    let at : load ≡ get_or xs i load = c.index-load.ensures ∙ ap (λ (z : List Loaded). get_or z i load) same in
    let whole = cut xs i load load (omega (arith, c.args.left.now.ok.0)) at in
    let out = c.remove.ensures.by_index.2 ∙ ap (λ (z : List Loaded). take i z ++ drop (i + 1) z) same in
    λ t other. ap (loaded_by t) out ∙ others_left t (take i xs) (drop (i + 1) xs) load (λ is. other (sym is ∙ c.if-load-task.true))
    ∙ ap (loaded_by t) (sym whole)

pub loop-i-preserved : goal.loop-i-preserved
loop-i-preserved c =
    let xs = c.args.left.now.items in
    let i = c.loop-i.i in
    let load = c.index-load.result.now in
    let same = c.loop-i.invariant.same in
    let at : load ≡ get_or xs i load = c.index-load.ensures ∙ ap (λ (z : List Loaded). get_or z i load) same in
    let longer = take_more xs i load (omega (arith, c.args.left.now.ok.0)) ∙ ap (λ (z : Loaded). take i xs ++ z ∷ []) (sym at) in
    record { same = same; none = ap (loaded_by c.args.task) longer ∙ not_yet c.args.task (take i xs) load c.if-load-task.false c.loop-i.invariant.none }
