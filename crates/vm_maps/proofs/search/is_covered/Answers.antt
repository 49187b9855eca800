use Rattle.std.proofs.Common.{◌^◌, ◌≡◌, ◌≤◌, ◌<◌, length, reverse, sym, ◌∙◌, drop, arith}
use Rattle.std.proofs.lemmas.Bool.Decides.{nat_tests}
use Rattle.std.proofs.lemmas.List.{length-reverse}
use Rattle.vm_maps.proofs.Order.{lies_in}
use Rattle.vm_maps.proofs.Walk.{reaches_done, reaches_past, reaches_gap, reaches_one}
use Rattle.vm_maps.proofs.search.is_covered.Goals as goal
use Rattle.vm_maps.proofs.search.is_covered.Goals.{then-walk-test+else-i-len, else-walk-test}

pub returns-then-entry-reached : goal.returns-then-entry-reached
returns-then-entry-reached c =
    let rows = reverse c.args.entries.now.items in
    sym (reaches_gap c.walk.i c.walk.reached c.args.to rows c.at-entry.result.now c.at-entry.ensures c.walk-test.true c.if-entry-reached.true)
    ∙ c.walk.invariant

pub overflow_add-reached : goal.overflow_add-reached
overflow_add-reached c =
    let rows = reverse c.args.entries.now.items in
    let inside = lies_in _ 0 (2 ^ 32) rows c.at-entry.result.now c.requires c.at-entry.ensures in
    omega (arith, inside.high)

pub walk-preserved : goal.walk-preserved
walk-preserved c =
    let rows = reverse c.args.entries.now.items in
    sym (reaches_one c.walk.i c.walk.reached c.args.to rows c.at-entry.result.now c.at-entry.ensures c.walk-test.true c.if-entry-reached.false)
    ∙ c.walk.invariant

pub returns : goal.returns
returns c =
    let rows = reverse c.args.entries.now.items in
    let same : length rows ≡ length c.args.entries.now.items = length-reverse c.args.entries.now.items in
    elim c.walk-test.branch [
      | then-walk-test+else-i-len w ↦
          (let past : length rows ≤ c.walk.i = omega arith in
          let less : c.walk.reached < c.args.to = w.walk-test.true in
          let none = reaches_past c.walk.i c.walk.reached c.args.to rows less past in
          grind (arith, nat_tests, none, c.walk.invariant))
      | else-walk-test w ↦
          (let done : c.args.to ≤ c.walk.reached = w.walk-test.false in
          let all = reaches_done c.walk.reached c.args.to (drop c.walk.i rows) done in
          grind (arith, nat_tests, all, c.walk.invariant))
    ]
