use Rattle.std.proofs.Common.{◌∙◌, sym, refl}
use Rattle.vm_ports.specs.Kept.{places}
use Rattle.vm_ports.proofs.Removed.{no_oldest, oldest_is}
use Rattle.vm_ports.proofs.Walks.{oldest_node}
use Rattle.vm_ports.proofs.links.first_channel.Goals as goal

pub returns-in_err-first : goal.returns-in_err-first
returns-in_err-first g c = rw (c.from_residual.ensures, no_oldest (places c.args.links.now) (sym c.requires.first ∙ c.in_err-first.was)) refl

pub index-requires : goal.index-requires
index-requires g c =
    let found = oldest_node (places c.args.links.now) c.args.links.now c.in_ok-first.first c.requires c.in_ok-first.was in rw found.1 refl

pub returns : goal.returns
returns g c =
    sym (oldest_is (places c.args.links.now) c.in_ok-first.first c.index.result.now (sym c.requires.first ∙ c.in_ok-first.was)
    (sym (c.requires.nodes c.in_ok-first.first) ∙ c.index.ensures))
