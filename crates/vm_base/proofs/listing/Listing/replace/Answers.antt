use Rattle.std.proofs.Common.{◌≡◌, ◌≤◌, length, reverse, sym, ◌∙◌, ap, arith}
use Rattle.std.proofs.lemmas.List.{length-reverse, reverse-reverse}
use Rattle.vm_base.proofs.Ranges.{replaced, seen_items}
use Rattle.vm_base.proofs.listing.Listing.replace.Goals as goal

pub returns-clause-ok : goal.returns-clause-ok
returns-clause-ok g c =
    let xs = c.self.inside.items.items in
    let old : reverse c.args.self.now.items ≡ xs = ap reverse (sym c.in_ok-reserve.ensures.same) ∙ seen_items xs _ _ c.self.view_is in
    let others = seen_items c.others.inside.items.items _ _ c.others.view_is in
    let within : c.args.to ≤ length xs = omega (arith, c.requires.within, ap length old, length-reverse c.args.self.now.items) in
    reverse-reverse c.rotate_left-2.new.self.items ∙ rw (
      old,
      others,
    ) (replaced xs c.others.inside.items.items _ _ _ _ c.args.from c.args.to _ c.requires.order within
    (omega (arith, c.len-2.ensures, c.self.inside.items.ok.0)) c.rotate_left.ensures.items c.truncate.ensures.items c.in_ok-append.ensures.items
    c.rotate_left-2.ensures.items)
