use Rattle.std.proofs.Common.{ℕ, ◌≡◌, ◌+◌, [], ◌∷◌, List, length, take, drop, get_or, ap, refl, subst, sym, arith, length-append}
use Rattle.std.proofs.lemmas.Bool.Decides.{nat_tests}
use Rattle.std.proofs.lemmas.List.{length-take-le, take_all, take_more}
use Rattle.vm_explore.specs.Outcomes.{AreOther}
use Rattle.vm_explore.proofs.Loads.{cut, one_more, too_few, too_many}
use Rattle.vm_explore.proofs.outcomes.outcome.Goals as goal

pub returns-in-None : goal.returns-in-None
returns-in-None c =
    let loads = c.args.loads.now in
    let n = c.loop-task.task-index in
    let task = get_or loads n 0 in
    let whole = cut loads n task 0 c.loop-task-test.true refl in
    let short : length c.loop-task.values.items ≡ length (take n loads) = omega (arith, c.loop-task.invariant.long, length-take-le n loads (omega arith)) in
    let P : List ℕ → Type 0 = λ z. AreOther z c.args.loaded.now in
    subst P (sym whole) (too_few (take n loads) (drop (n + 1) loads) c.loop-task.values.items c.loop-task.left.items c.args.loaded.now task short
    c.loop-task.invariant.gave c.in-None.ensures.none)

pub loop-task-preserved : goal.loop-task-preserved
loop-task-preserved c =
    let loads = c.args.loads.now in
    let n = c.loop-task.task-index in
    let task = get_or loads n 0 in
    let longer = take_more loads n 0 c.loop-task-test.true in
    let pushed = c.in_ok-push-in-Some.ensures.items in
    let first = c.in-Some.ensures in
    let short : length c.loop-task.values.items ≡ length (take n loads) = omega (arith, c.loop-task.invariant.long, length-take-le n loads (omega arith)) in
    record {
      long = omega (arith, ap length pushed, length-append c.loop-task.values.items (c.in-Some.value ∷ []), c.loop-task.invariant.long);
      gave = rw (longer, pushed) (one_more (take n loads) c.loop-task.values.items c.loop-task.left.items c.take_first.new.left.items c.args.loaded.now
          task c.in-Some.value short c.loop-task.invariant.gave first.first first.others);
    }

pub returns-then-not-is_empty : goal.returns-then-not-is_empty
returns-then-not-is_empty c =
    let loads = c.args.loads.now in
    let n = c.loop-task.task-index in
    let whole = take_all n loads (omega arith) in
    let short : length c.loop-task.values.items ≡ length (take n loads) = omega (arith, c.loop-task.invariant.long, length-take-le n loads (omega arith)) in
    let P : List ℕ → Type 0 = λ z. AreOther z c.args.loaded.now in
    subst P whole (too_many (take n loads) c.loop-task.values.items c.loop-task.left.items c.args.loaded.now short c.loop-task.invariant.gave
    (λ none. let some = c.if-not-is_empty.ensures in let long = ap length none in grind (arith, nat_tests, some, long, c.loop-task.left.ok.0)))
