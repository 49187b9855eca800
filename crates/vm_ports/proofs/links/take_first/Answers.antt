use Rattle.std.proofs.Common.{◌∙◌, sym, ap, refl, None}
use Rattle.vm_ports.specs.Kept.{places}
use Rattle.vm_ports.specs.declared.links.Links.{Links}
use Rattle.vm_ports.proofs.Places.{first_is, first_of}
use Rattle.vm_ports.proofs.Removed.{queue_first}
use Rattle.vm_ports.proofs.Walks.{Takes, are_linked, first_node, no_ends, places_are, taken}
use Rattle.vm_ports.proofs.links.take_first.Goals as goal

pub returns-in_err-ends-clause-places : goal.returns-in_err-ends-clause-places
returns-in_err-ends-clause-places g c = sym (no_ends (places c.args.links.now) c.args.ch.0 (sym c.in_err-ends.ensures)).same

pub returns-in_err-ends-clause-taken : goal.returns-in_err-ends-clause-taken
returns-in_err-ends-clause-taken g c = rw c.from_residual.ensures (no_ends (places c.args.links.now) c.args.ch.0 (sym c.in_err-ends.ensures)).empty

pub unlink-node-requires : goal.unlink-node-requires
unlink-node-requires g c =
    let found = first_node (places c.args.links.now) c.args.links.now c.args.ch.0 c.in_ok-ends.ends c.requires (sym c.in_ok-ends.ensures) in
    rw found.1 refl

pub returns-clause-kept : goal.returns-clause-kept
returns-clause-kept g c =
    let old : Links g.row.M.Denot = c.args.links.now in
    let new : Links g.row.M.Denot = record {
      nodes = c.unlink-node.new.links.nodes;
      first = c.unlink-node.new.links.first;
      last = c.unlink-node.new.links.last;
      ends = c.shorten.new.ends;
    } in
    let e = c.unlink-node.ensures in
    let takes : Takes (places old) c.args.ch.0 c.in_ok-ends.ends.first c.unlink-node.result old new = record {
      first_is = sym (first_is c.args.ch.0 (places old)) ∙ ap first_of (sym c.in_ok-ends.ensures);
      there = e.node;
      nodes = e.nodes;
      count = e.count;
      first = e.first;
      last = e.last;
      ends = λ o. c.shorten.ensures.ends o ∙ rw e.ends refl;
    } in
    are_linked new _ (taken (places old) c.args.ch.0 c.in_ok-ends.ends.first c.unlink-node.result old new c.requires takes)

pub returns-clause-places : goal.returns-clause-places
returns-clause-places g c =
    let old : Links g.row.M.Denot = c.args.links.now in
    let new : Links g.row.M.Denot = record {
      nodes = c.unlink-node.new.links.nodes;
      first = c.unlink-node.new.links.first;
      last = c.unlink-node.new.links.last;
      ends = c.shorten.new.ends;
    } in
    let e = c.unlink-node.ensures in
    let takes : Takes (places old) c.args.ch.0 c.in_ok-ends.ends.first c.unlink-node.result old new = record {
      first_is = sym (first_is c.args.ch.0 (places old)) ∙ ap first_of (sym c.in_ok-ends.ensures);
      there = e.node;
      nodes = e.nodes;
      count = e.count;
      first = e.first;
      last = e.last;
      ends = λ o. c.shorten.ensures.ends o ∙ rw e.ends refl;
    } in
    places_are new _ (taken (places old) c.args.ch.0 c.in_ok-ends.ends.first c.unlink-node.result old new c.requires takes)

pub returns-clause-taken : goal.returns-clause-taken
returns-clause-taken g c =
    let old : Links g.row.M.Denot = c.args.links.now in
    let new : Links g.row.M.Denot = record {
      nodes = c.unlink-node.new.links.nodes;
      first = c.unlink-node.new.links.first;
      last = c.unlink-node.new.links.last;
      ends = c.shorten.new.ends;
    } in
    let e = c.unlink-node.ensures in
    let first = sym (first_is c.args.ch.0 (places old)) ∙ ap first_of (sym c.in_ok-ends.ensures) in
    let takes : Takes (places old) c.args.ch.0 c.in_ok-ends.ends.first c.unlink-node.result old new = record {
      first_is = first;
      there = e.node;
      nodes = e.nodes;
      count = e.count;
      first = e.first;
      last = e.last;
      ends = λ o. c.shorten.ensures.ends o ∙ rw e.ends refl;
    } in
    let left = places_are new _ (taken (places old) c.args.ch.0 c.in_ok-ends.ends.first c.unlink-node.result old new c.requires takes) in
    rw left (queue_first None c.args.ch.0 (places old) c.in_ok-ends.ends.first c.unlink-node.result c.requires.apart first
    (sym (c.requires.nodes c.in_ok-ends.ends.first) ∙ e.node))
