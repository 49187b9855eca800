use Rattle.std.proofs.Common.{◌≡◌, ◌<◌, true, reverse, sym, arith}
use Rattle.std.proofs.lemmas.Bool.Decides.{nat_tests}
use Rattle.vm_base.specs.Entries.{is_range}
use Rattle.vm_base.specs.Pages.{page_positive}
use Rattle.vm_maps.proofs.Covered.{covered}
use Rattle.vm_maps.proofs.Range.{range_is}
use Rattle.vm_maps.proofs.judge.judge_change.Goals as goal

pub returns-then-not-is_covered : goal.returns-then-not-is_covered
returns-then-not-is_covered c =
    let rows = reverse c.args.entries.now.items in
    let change = c.args.change.now in
    let some : 0 < c.args.size = rw (← c.bytes.ensures.value) (page_positive _ c.bytes.ensures.size) in
    let test : is_range c.args.size change.address change.bytes ≡ true = rw c.bytes.ensures.value at (sym c.if-not-is_range.ensures) in
    let range = range_is c.args.size change.address change.bytes test in
    let walk = covered c.args.size change.address change.bytes rows some c.requires range.start range.whole in
    let gap = c.if-not-is_covered.ensures in
    grind (arith, nat_tests, walk, gap, test, c.in-Protect.is)

pub returns-else-not-is_covered : goal.returns-else-not-is_covered
returns-else-not-is_covered c =
    let rows = reverse c.args.entries.now.items in
    let change = c.args.change.now in
    let some : 0 < c.args.size = rw (← c.bytes.ensures.value) (page_positive _ c.bytes.ensures.size) in
    let test : is_range c.args.size change.address change.bytes ≡ true = rw c.bytes.ensures.value at (sym c.if-not-is_range.ensures) in
    let range = range_is c.args.size change.address change.bytes test in
    let walk = covered c.args.size change.address change.bytes rows some c.requires range.start range.whole in
    let whole = c.if-not-is_covered.ensures in
    let protected = c.count_rewritten.ensures.protected c.args.size change.prot in
    let inherited = c.count_rewritten.ensures.inherited c.args.size change.inherit in
    grind (arith, nat_tests, walk, whole, test, protected, inherited, c.full-in-Protect.ensures, c.in-Protect.is)
