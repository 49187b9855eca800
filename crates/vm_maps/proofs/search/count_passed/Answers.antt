use Rattle.std.proofs.Common.{◌^◌, ◌≡◌, length, reverse, arith}
use Rattle.std.proofs.lemmas.List.{length-reverse}
use Rattle.vm_maps.proofs.Order.{lies_in, passed_within, passed_above, passed_below}
use Rattle.vm_maps.proofs.search.count_passed.Goals as goal

pub search-init : goal.search-init
search-init c =
    let rows = reverse c.args.entries.now.items in
    let same : length rows ≡ length c.args.entries.now.items = length-reverse c.args.entries.now.items in
    record { low = omega arith; high = omega (arith, passed_within c.args.address rows); within = omega arith }

pub overflow_add-entry : goal.overflow_add-entry
overflow_add-entry c =
    let rows = reverse c.args.entries.now.items in
    let inside = lies_in _ 0 (2 ^ 32) rows c.at-entry.result.now c.requires c.at-entry.ensures in
    omega (arith, inside.high)

pub search-preserved-then-entry-address : goal.search-preserved-then-entry-address
search-preserved-then-entry-address c =
    let rows = reverse c.args.entries.now.items in
    let above = passed_above _ c.args.address 0 (2 ^ 32) rows c.at-entry.result.now c.requires c.at-entry.ensures c.if-entry-address.true in
    record { low = omega (arith, above); high = c.search.invariant.high; within = c.search.invariant.within }

pub search-preserved : goal.search-preserved
search-preserved c =
    let rows = reverse c.args.entries.now.items in
    let below = passed_below _ c.args.address rows c.at-entry.result.now c.at-entry.ensures c.if-entry-address.false in
    record { low = c.search.invariant.low; high = below; within = omega arith }
