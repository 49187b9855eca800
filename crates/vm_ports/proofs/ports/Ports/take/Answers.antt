use Rattle.std.proofs.Common.{◌∙◌, ap}
use Rattle.vm_ports.specs.Kept.{places}
use Rattle.vm_ports.specs.Nodes.{letters_of}
use Rattle.vm_ports.proofs.Letters.{added_without, others_without}
use Rattle.vm_ports.proofs.Removed.{letters_without}
use Rattle.vm_ports.proofs.ports.Ports.take.Goals as goal

pub invariant_of-self : goal.invariant_of-self
invariant_of-self g c =
    let i = c.self.inside in
    let letters = ap letters_of c.take_first.ensures.places ∙ letters_without c.args.ch.0 (places i.links) in
    (c.take_first.ensures.kept, rw letters (added_without i.channels c.args.ch.0 (letters_of (places i.links)) c.self.invariant.1))

pub returns-clause-letters : goal.returns-clause-letters
returns-clause-letters g c = rw (← c.self.view_is) (ap letters_of c.take_first.ensures.places ∙ letters_without c.args.ch.0 (places c.self.inside.links))

pub returns-clause-others : goal.returns-clause-others
returns-clause-others g c =
    let letters = ap letters_of c.take_first.ensures.places ∙ letters_without c.args.ch.0 (places c.self.inside.links) in
    rw (letters, ← c.self.view_is) (others_without c.args.ch.0 (letters_of (places c.self.inside.links)))
