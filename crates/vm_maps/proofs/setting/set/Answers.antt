use Rattle.std.proofs.Common.{◌≡◌, ◌+◌, ◌≤◌, reverse, sym, ◌∙◌, ap, arith}
use Rattle.std.proofs.lemmas.List.{length-reverse}
use Rattle.vm_maps.specs.Rows.{altered, becomes, becomes_by}
use Rattle.vm_maps.proofs.Range.{range_is}
use Rattle.vm_maps.proofs.Splits.{are_split, keeps, splits}
use Rattle.vm_maps.proofs.setting.set.Goals as goal

pub split-from-requires-clause-few : goal.split-from-requires-clause-few
split-from-requires-clause-few c =
    let change = c.args.change.now in
    let rows = reverse c.args.entries.now.items in
    let cut = splits (becomes change) (λ row. keeps change.kind change row c.requires.kind) c.args.size change.address change.bytes rows
    (range_is c.args.size change.address change.bytes c.requires.range) c.requires.entries c.requires.few in
    cut.low_few

pub split-to-requires-clause-entries : goal.split-to-requires-clause-entries
split-to-requires-clause-entries c =
    let change = c.args.change.now in
    let rows = reverse c.args.entries.now.items in
    let cut = splits (becomes change) (λ row. keeps change.kind change row c.requires.kind) c.args.size change.address change.bytes rows
    (range_is c.args.size change.address change.bytes c.requires.range) c.requires.entries c.requires.few in
    rw c.split-from.ensures.split cut.low

pub split-to-requires-clause-few : goal.split-to-requires-clause-few
split-to-requires-clause-few c =
    let change = c.args.change.now in
    let rows = reverse c.args.entries.now.items in
    let cut = splits (becomes change) (λ row. keeps change.kind change row c.requires.kind) c.args.size change.address change.bytes rows
    (range_is c.args.size change.address change.bytes c.requires.range) c.requires.entries c.requires.few in
    rw c.split-from.ensures.split cut.high_few

pub set_prot-requires-clause-order : goal.set_prot-requires-clause-order
set_prot-requires-clause-order c =
    let change = c.args.change.now in
    let rows = reverse c.args.entries.now.items in
    let cut = splits (becomes change) (λ row. keeps change.kind change row c.requires.kind) c.args.size change.address change.bytes rows
    (range_is c.args.size change.address change.bytes c.requires.range) c.requires.entries c.requires.few in
    let are = are_split (becomes change) c.args.size change.address change.bytes rows (reverse c.split-from.new.entries.items)
    (reverse c.split-to.new.entries.items) c.split-from.result c.split-to.result cut c.split-from.ensures.split c.split-to.ensures.split
    c.split-from.ensures.value c.split-to.ensures.value in
    are.order

pub set_prot-requires-clause-within : goal.set_prot-requires-clause-within
set_prot-requires-clause-within c =
    let change = c.args.change.now in
    let rows = reverse c.args.entries.now.items in
    let cut = splits (becomes change) (λ row. keeps change.kind change row c.requires.kind) c.args.size change.address change.bytes rows
    (range_is c.args.size change.address change.bytes c.requires.range) c.requires.entries c.requires.few in
    let are = are_split (becomes change) c.args.size change.address change.bytes rows (reverse c.split-from.new.entries.items)
    (reverse c.split-to.new.entries.items) c.split-from.result c.split-to.result cut c.split-from.ensures.split c.split-to.ensures.split
    c.split-from.ensures.value c.split-to.ensures.value in
    omega (arith, are.within, length-reverse c.split-to.new.entries.items)

pub returns-in-Protect-clause-set : goal.returns-in-Protect-clause-set
returns-in-Protect-clause-set c =
    let change = c.args.change.now in
    let rows = reverse c.args.entries.now.items in
    let cut = splits (becomes change) (λ row. keeps change.kind change row c.requires.kind) c.args.size change.address change.bytes rows
    (range_is c.args.size change.address change.bytes c.requires.range) c.requires.entries c.requires.few in
    let are = are_split (becomes change) c.args.size change.address change.bytes rows (reverse c.split-from.new.entries.items)
    (reverse c.split-to.new.entries.items) c.split-from.result c.split-to.result cut c.split-from.ensures.split c.split-to.ensures.split
    c.split-from.ensures.value c.split-to.ensures.value in
    c.set_prot.ensures.set
    ∙ (sym (ap (λ z. altered (becomes_by z change) c.split-from.result c.split-to.result (reverse c.split-to.new.entries.items)) c.in-Protect.is) ∙ are.all)

pub set_inherit-requires-clause-order : goal.set_inherit-requires-clause-order
set_inherit-requires-clause-order c =
    let change = c.args.change.now in
    let rows = reverse c.args.entries.now.items in
    let cut = splits (becomes change) (λ row. keeps change.kind change row c.requires.kind) c.args.size change.address change.bytes rows
    (range_is c.args.size change.address change.bytes c.requires.range) c.requires.entries c.requires.few in
    let are = are_split (becomes change) c.args.size change.address change.bytes rows (reverse c.split-from.new.entries.items)
    (reverse c.split-to.new.entries.items) c.split-from.result c.split-to.result cut c.split-from.ensures.split c.split-to.ensures.split
    c.split-from.ensures.value c.split-to.ensures.value in
    are.order

pub set_inherit-requires-clause-within : goal.set_inherit-requires-clause-within
set_inherit-requires-clause-within c =
    let change = c.args.change.now in
    let rows = reverse c.args.entries.now.items in
    let cut = splits (becomes change) (λ row. keeps change.kind change row c.requires.kind) c.args.size change.address change.bytes rows
    (range_is c.args.size change.address change.bytes c.requires.range) c.requires.entries c.requires.few in
    let are = are_split (becomes change) c.args.size change.address change.bytes rows (reverse c.split-from.new.entries.items)
    (reverse c.split-to.new.entries.items) c.split-from.result c.split-to.result cut c.split-from.ensures.split c.split-to.ensures.split
    c.split-from.ensures.value c.split-to.ensures.value in
    omega (arith, are.within, length-reverse c.split-to.new.entries.items)

pub returns-in-Inherit-clause-set : goal.returns-in-Inherit-clause-set
returns-in-Inherit-clause-set c =
    let change = c.args.change.now in
    let rows = reverse c.args.entries.now.items in
    let cut = splits (becomes change) (λ row. keeps change.kind change row c.requires.kind) c.args.size change.address change.bytes rows
    (range_is c.args.size change.address change.bytes c.requires.range) c.requires.entries c.requires.few in
    let are = are_split (becomes change) c.args.size change.address change.bytes rows (reverse c.split-from.new.entries.items)
    (reverse c.split-to.new.entries.items) c.split-from.result c.split-to.result cut c.split-from.ensures.split c.split-to.ensures.split
    c.split-from.ensures.value c.split-to.ensures.value in
    c.set_inherit.ensures.set
    ∙ (sym (ap (λ z. altered (becomes_by z change) c.split-from.result c.split-to.result (reverse c.split-to.new.entries.items)) c.in-Inherit.is) ∙ are.all)
