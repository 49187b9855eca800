use Rattle.std.proofs.Common.{◌≡◌, ◌∙◌, true, false, refl, sym, rules, arith, inl, inr}
use Rattle.std.proofs.lemmas.Bool.{false≢true}
use Rattle.vm_fault.specs.Faults.{AtOnce}
use Rattle.vm_fault.specs.Walks.{is_storing, keeps_out, writes_at}
use Rattle.vm_fault.proofs.Descents.{found_top}
use Rattle.vm_fault.proofs.going.found.Goals as goal

pub returns-then-is_copy-clause-goes : goal.returns-then-is_copy-clause-goes
returns-then-is_copy-clause-goes c = λ chains finds. c.copy.ensures.goes chains c.args.copies.now c.args.steps finds

pub store_top-requires-clause-fits : goal.store_top-requires-clause-fits
store_top-requires-clause-fits c =
    let steps = c.args.steps in
    let stores : is_storing c.args.run.want ≡ true = search rules in
    let alone : steps ≡ 0 = elim c.else-is_store-2.either
    [ inl both ↦ omega (arith, both.1) | inr not ↦ absurd (cc (c.is_store-2.ensures, not, stores)) ] in
    let chains = c.requires.finds.0 in
    (chains, c.requires.finds.1, found_top c.args.parts.now chains steps c.args.run.top c.args.key c.args.row alone c.requires.finds.2)

pub store_top-requires-clause-unlocked : goal.store_top-requires-clause-unlocked
store_top-requires-clause-unlocked c =
    let steps = c.args.steps in
    let stores : is_storing c.args.run.want ≡ true = search rules in
    let alone : steps ≡ 0 = elim c.else-is_store-2.either
    [ inl both ↦ omega (arith, both.1) | inr not ↦ absurd (cc (c.is_store-2.ensures, not, stores)) ] in
    let out : keeps_out c.args.row.lock (writes_at c.args.run.want steps) ≡ false = search rules in
    rw alone at out

pub returns-then-is_store-3-clause-goes : goal.returns-then-is_store-3-clause-goes
returns-then-is_store-3-clause-goes c =
    let steps = c.args.steps in
    let stores : is_storing c.args.run.want ≡ true = search rules in
    let alone : steps ≡ 0 = elim c.else-is_store-2.either
    [ inl both ↦ omega (arith, both.1) | inr not ↦ absurd (cc (c.is_store-2.ensures, not, stores)) ] in
    λ chains finds. c.store_top.ensures.goes chains (found_top c.args.parts.now chains steps c.args.run.top c.args.key c.args.row alone finds)

pub returns-clause-goes : goal.returns-clause-goes
returns-clause-goes c =
    let steps = c.args.steps in
    let out : keeps_out c.args.row.lock (writes_at c.args.run.want steps) ≡ false = search rules in
    let loads : is_storing c.args.run.want ≡ false = search rules in
    let hits = c.hit-value.ensures.hits in
    λ chains finds ids. AtOnce steps c.args.key c.args.row finds (λ stores. absurd (false≢true (sym loads ∙ stores))) out
    (λ stores. absurd (false≢true (sym loads ∙ stores))) hits.0 hits.1 refl hits.2
