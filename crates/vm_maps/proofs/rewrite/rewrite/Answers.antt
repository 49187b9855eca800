use Rattle.std.proofs.Common.{◌≡◌, ◌+◌, ◌^◌, reverse, refl, sym, ◌∙◌, arith}
use Rattle.std.proofs.lemmas.List.{length-reverse}
use Rattle.vm_maps.specs.Rows.{becomes}
use Rattle.vm_maps.proofs.Order.{lies_in}
use Rattle.vm_maps.proofs.Outside.{begun, begun_within, parts_front, parts_met, passed_grows, rewritten_met}
use Rattle.vm_maps.proofs.Pages.{whole_at}
use Rattle.vm_maps.proofs.Rewriting.{kept_more, taken_more}
use Rattle.vm_maps.proofs.rewrite.rewrite.Goals as goal

pub met-init : goal.met-init
met-init c =
    let rows = reverse c.args.entries.now.items in
    let change = c.args.change.now in
    let grows = passed_grows change.address (change.address + change.bytes) rows (omega arith) in
    record {
      from = c.count_passed.ensures.value;
      to = c.count_begun.ensures.value;
      last = c.count_begun.ensures.value;
      order = omega (arith, grows, c.count_passed.ensures.value, c.count_begun.ensures.value);
      kept = rw (c.new.ensures, c.count_passed.ensures.value) refl;
      taken = rw (c.new-2.ensures, c.count_passed.ensures.value) (sym (parts_front c.args.size change.address change.bytes rows));
    }

pub at-requires : goal.at-requires
at-requires c =
    let rows = reverse c.args.entries.now.items in
    let within = begun_within (c.args.change.now.address + c.args.change.now.bytes) 0 (2 ^ 32) rows c.requires.entries.in_order in
    omega (arith, within, c.met.invariant.last, c.met-test.true, length-reverse c.args.entries.now.items)

pub rewrite_entry-requires-clause-some : goal.rewrite_entry-requires-clause-some
rewrite_entry-requires-clause-some c =
    let inside = lies_in c.met.i 0 (2 ^ 32) (reverse c.args.entries.now.items) c.at.result.now c.requires.entries.in_order c.at.ensures in
    inside.some

pub rewrite_entry-requires-clause-high : goal.rewrite_entry-requires-clause-high
rewrite_entry-requires-clause-high c =
    let inside = lies_in c.met.i 0 (2 ^ 32) (reverse c.args.entries.now.items) c.at.result.now c.requires.entries.in_order c.at.ensures in
    inside.high

pub rewrite_entry-requires-clause-pages : goal.rewrite_entry-requires-clause-pages
rewrite_entry-requires-clause-pages c =
    let whole = whole_at c.args.size c.met.i (reverse c.args.entries.now.items) c.at.result.now c.requires.entries.whole c.at.ensures in
    whole.pages

pub met-preserved : goal.met-preserved
met-preserved c =
    let rows = reverse c.args.entries.now.items in
    let change = c.args.change.now in
    record {
      from = c.in_ok-rewrite_entry.ensures.place.0 ∙ c.met.invariant.from;
      to = c.in_ok-rewrite_entry.ensures.place.1 ∙ c.met.invariant.to;
      last = c.met.invariant.last;
      order = omega (arith, c.met-test.true);
      kept = kept_more c.args.size change rows c.met.i c.at.result.now _ _ _ c.at.ensures c.in_ok-rewrite_entry.ensures.kept c.met.invariant.kept;
      taken =
          taken_more c.args.size change.address change.bytes rows c.met.i c.at.result.now _ _ _ c.at.ensures c.in_ok-rewrite_entry.ensures.taken
          c.met.invariant.taken;
    }

pub returns-clause-within : goal.returns-clause-within
returns-clause-within c =
    let rows = reverse c.args.entries.now.items in
    let within = begun_within (c.args.change.now.address + c.args.change.now.bytes) 0 (2 ^ 32) rows c.requires.entries.in_order in
    omega (arith, within, c.met.invariant.to, length-reverse c.args.entries.now.items)

pub returns-clause-kept : goal.returns-clause-kept
returns-clause-kept c =
    let rows = reverse c.args.entries.now.items in
    let change = c.args.change.now in
    let last : c.met.i ≡ begun (change.address + change.bytes) rows = omega (arith, c.met.invariant.last, c.met.invariant.order, c.met-test.false) in
    rw (c.met.invariant.from, c.met.invariant.to) (rewritten_met (becomes change) c.args.size change.address change.bytes rows _ c.requires.entries.in_order
    c.requires.end (rw last at c.met.invariant.kept))

pub returns-clause-taken : goal.returns-clause-taken
returns-clause-taken c =
    let rows = reverse c.args.entries.now.items in
    let change = c.args.change.now in
    let last : c.met.i ≡ begun (change.address + change.bytes) rows = omega (arith, c.met.invariant.last, c.met.invariant.order, c.met-test.false) in
    parts_met c.args.size change.address change.bytes rows _ _ c.requires.entries.in_order c.requires.end (rw last at c.met.invariant.taken)
