use Rattle.std.proofs.Common.{◌∙◌, sym, ap, refl, None}
use Rattle.vm_ports.specs.Kept.{places}
use Rattle.vm_ports.proofs.Places.{first_is, first_of}
use Rattle.vm_ports.proofs.Removed.{queue_first}
use Rattle.vm_ports.proofs.Walks.{first_node, no_ends}
use Rattle.vm_ports.proofs.links.first_message.Goals as goal

pub returns-in_err-ends : goal.returns-in_err-ends
returns-in_err-ends g c = rw c.from_residual.ensures (no_ends (places c.args.links.now) c.args.ch.0 (sym c.in_err-ends.ensures)).empty

pub index-requires : goal.index-requires
index-requires g c =
    let found = first_node (places c.args.links.now) c.args.links.now c.args.ch.0 c.in_ok-ends.ends c.requires (sym c.in_ok-ends.ensures) in
    rw found.1 refl

pub returns : goal.returns
returns g c =
    let ps = places c.args.links.now in
    let first = sym (first_is c.args.ch.0 ps) ∙ ap first_of (sym c.in_ok-ends.ensures) in
    rw (queue_first None c.args.ch.0 ps c.in_ok-ends.ends.first c.index.result.now c.requires.apart first
    (sym (c.requires.nodes c.in_ok-ends.ends.first) ∙ c.index.ensures)) refl
