use Rattle.std.proofs.Common.{◌+◌, ◌-◌, ◌^◌, subst, arith}
use Rattle.std.proofs.lemmas.Nat.{and_le_r}
use Rattle.vm_sets.proofs.Bits.{all_bits, seek_end, seek_on, seek_start}
use Rattle.vm_sets.proofs.Sought.{next_found, no_mark_behind, no_word}
use Rattle.vm_sets.specs.Places.{AreGrouped, PlaceTable, word_in}
use Rattle.vm_sets.proofs.page_places.PagePlaces.seek.Goals as goal

pub returns-then-walk-from : goal.returns-then-walk-from
returns-then-walk-from c = λ q le.
    let grouped = subst (λ (t : PlaceTable). AreGrouped t.groups t.objects) c.self.view_is c.self.invariant in
    no_mark_behind c.args.self.now c.args.mark c.args.walk.now.object.0 q grouped (omega (arith, le, c.requires.walk, c.if-walk-from.true))

pub groups-init : goal.groups-init
groups-init c =
    let grouped = subst (λ (t : PlaceTable). AreGrouped t.groups t.objects) c.self.view_is c.self.invariant in
    seek_start (word_in c.args.self.now c.args.mark c.args.walk.now.object.0) c.args.walk.now.from
    (omega (arith, grouped.low c.args.walk.now.object.0, c.requires.walk, c.if-walk-from.false))

pub returns-in-Some : goal.returns-in-Some
returns-in-Some c =
    let grouped = subst (λ (t : PlaceTable). AreGrouped t.groups t.objects) c.self.view_is c.self.invariant in
    next_found c.args.self.now c.args.mark c.args.walk.now.object c.args.walk.now.from c.groups.group _ c.in-Some.place grouped c.requires.mark
    c.groups.invariant c.in-Some.ensures

pub returns-then-group-walk : goal.returns-then-group-walk
returns-then-group-walk c =
    let grouped = subst (λ (t : PlaceTable). AreGrouped t.groups t.objects) c.self.view_is c.self.invariant in
    let seeks = rw c.in_default.ensures at c.groups.invariant in
    seek_end (word_in c.args.self.now c.args.mark c.args.walk.now.object.0) c.args.walk.now.from c.groups.group seeks
    (λ g le. no_word c.args.self.now c.args.mark c.args.walk.now.object.0 g grouped (omega (arith, le, c.requires.walk, c.if-group-walk.true)))

pub groups-preserved : goal.groups-preserved
groups-preserved c =
    let grouped = subst (λ (t : PlaceTable). AreGrouped t.groups t.objects) c.self.view_is c.self.invariant in
    let seeks = rw c.in_default.ensures at c.groups.invariant in
    let word = word_in c.args.self.now c.args.mark c.args.walk.now.object.0 in
    seek_on word c.args.walk.now.from c.groups.group _ seeks
    (omega (arith, grouped.low c.args.walk.now.object.0, c.requires.walk, c.if-group-walk.false))
    (omega (arith, and_le_r (word (c.groups.group + 1)) (2 ^ 64 - 1))) (all_bits (word (c.groups.group + 1)))
