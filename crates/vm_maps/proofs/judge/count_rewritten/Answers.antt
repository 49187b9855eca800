use Rattle.std.proofs.Common.{◌^◌, ◌∷◌, [], refl, reverse, arith}
use Rattle.std.proofs.lemmas.List.{length-reverse}
use Rattle.vm_maps.proofs.Counts.{length_rewritten}
use Rattle.vm_maps.proofs.judge.count_rewritten.Goals as goal

pub returns-clause-protected : goal.returns-clause-protected
returns-clause-protected c = λ size prot.
    let rows = reverse c.args.entries.now.items in
    let counted = length_rewritten (λ row. record row { prot = prot } ∷ []) (λ row. refl) size c.args.address c.args.bytes 0 (2 ^ 32) rows c.requires.some
    c.requires.end c.requires.order (omega arith) in
    omega (arith, counted, length-reverse c.args.entries.now.items)

pub returns-clause-inherited : goal.returns-clause-inherited
returns-clause-inherited c = λ size inherit.
    let rows = reverse c.args.entries.now.items in
    let counted = length_rewritten (λ row. record row { inherit = inherit } ∷ []) (λ row. refl) size c.args.address c.args.bytes 0 (2 ^ 32) rows c.requires.some
    c.requires.end c.requires.order (omega arith) in
    omega (arith, counted, length-reverse c.args.entries.now.items)
