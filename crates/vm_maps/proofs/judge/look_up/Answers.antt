use Rattle.std.proofs.Common.{reverse, sym}
use Rattle.vm_maps.proofs.Pages.{holds, page_fits}
use Rattle.vm_maps.proofs.judge.look_up.Goals as goal

pub place_in-requires-clause-inside : goal.place_in-requires-clause-inside
place_in-requires-clause-inside c =
    let found = holds c.args.size c.args.address (reverse c.args.entries.now.items) c.in-Some.entry c.requires.whole (sym c.in-Some.ensures) in
    found.low

pub place_in-requires-clause-page : goal.place_in-requires-clause-page
place_in-requires-clause-page c =
    let found = holds c.args.size c.args.address (reverse c.args.entries.now.items) c.in-Some.entry c.requires.whole (sym c.in-Some.ensures) in
    page_fits c.args.size c.args.address c.in-Some.entry found
