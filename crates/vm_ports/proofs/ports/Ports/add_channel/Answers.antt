use Rattle.vm_ports.specs.Kept.{places}
use Rattle.vm_ports.specs.Nodes.{letters_of}
use Rattle.vm_ports.proofs.Letters.{added_more, none_new}
use Rattle.vm_ports.proofs.ports.Ports.add_channel.Goals as goal

pub invariant_of-self : goal.invariant_of-self
invariant_of-self g c = (c.self.invariant.0, added_more c.self.inside.channels (letters_of (places c.self.inside.links)) c.self.invariant.1)

pub returns-clause-empty : goal.returns-clause-empty
returns-clause-empty g c = rw (← c.self.view_is) (none_new c.self.inside.channels (letters_of (places c.self.inside.links)) c.self.invariant.1)
