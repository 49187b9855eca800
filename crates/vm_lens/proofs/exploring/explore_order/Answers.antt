use Rattle.vm_explore.specs.Tables.{Line}
use Rattle.vm_lens.proofs.Counting.{gives_still, shown_more}
use Rattle.vm_lens.proofs.exploring.explore_order.Goals as goal

pub returns-clause-shown : goal.returns-clause-shown
returns-clause-shown c = λ before all.
    let seen = c.in_ok-seen.seen in
    let line : Line = record { values = seen.values.items; times = 1; order = c.args.order.now } in
    shown_more c.args.script.now c.args.setup c.args.start.now.items before seen.shared line c.args.table.now c.count.new.self c.in_ok-seen.ensures
    c.in_ok-count.ensures.only all

pub returns-clause-kept : goal.returns-clause-kept
returns-clause-kept c = λ given some.
    gives_still c.args.script.now c.args.setup c.args.start.now.items c.args.table.now c.count.new.self c.in_ok-count.ensures.kept given some
