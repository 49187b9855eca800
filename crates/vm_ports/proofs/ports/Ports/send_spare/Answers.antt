use Rattle.std.proofs.Common.{◌<◌, ◌∙◌, ap, refl}
use Rattle.vm_ports.specs.Kept.{places}
use Rattle.vm_ports.specs.Nodes.{letters_of}
use Rattle.vm_ports.proofs.Letters.{added_push, others_push, queue_push}
use Rattle.vm_ports.proofs.Places.{push_letters}
use Rattle.vm_ports.proofs.ports.Ports.send_spare.Goals as goal

pub invariant_of-self : goal.invariant_of-self
invariant_of-self g c =
    let i = c.self.inside in
    let added : c.args.ch.0 < i.channels = rw (← c.self.view_is) at c.requires.added in
    let letters = ap letters_of c.append.ensures.places ∙ push_letters _ _ in
    (c.append.ensures.kept, rw (letters) (added_push i.channels (letters_of (places i.links)) _ c.self.invariant.1 added))

pub returns-clause-queue : goal.returns-clause-queue
returns-clause-queue g c =
    let letters = ap letters_of c.append.ensures.places ∙ push_letters _ _ in
    rw (letters, ← c.self.view_is) (queue_push c.args.ch.0 (letters_of (places c.self.inside.links)) _ refl)

pub returns-clause-others : goal.returns-clause-others
returns-clause-others g c =
    let letters = ap letters_of c.append.ensures.places ∙ push_letters _ _ in
    rw (letters, ← c.self.view_is) (others_push (letters_of (places c.self.inside.links)) _)
