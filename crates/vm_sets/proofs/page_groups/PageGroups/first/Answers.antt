use Rattle.std.proofs.Common.{ℕ, ap, arith, rules, subst}
use Rattle.std.specs.Int.{bit_at}
use Rattle.std.specs.Prelude.{Bool}
use Rattle.vm_sets.proofs.Bits.{seek_end, seek_fits, seek_found, seek_on, seek_start}
use Rattle.vm_sets.proofs.PageSets.{first_among, no_bits}
use Rattle.vm_sets.specs.Groups.{AreBelow, PageSet, bits_in, group_in}
use Rattle.vm_sets.proofs.page_groups.PageGroups.first.Goals as goal

-- the words of an object's marked pages, or of all that are in
abbrev words_of : Bool → PageSet → ℕ → ℕ → ℕ
words_of marked set object group = bits_in marked (group_in set object group)

pub groups-init : goal.groups-init
groups-init c = rw c.bits.ensures (seek_start (words_of c.args.marked c.args.self.now c.args.object.0) c.args.from.0 (omega arith))

pub overflow_add-group : goal.overflow_add-group
overflow_add-group c = omega (arith, c.groups.invariant.fits)

pub returns-then-group-self : goal.returns-then-group-self
returns-then-group-self c =
    let seeks = rw c.groups-test.true at c.groups.invariant in
    let below = subst (λ (z : PageSet). AreBelow c.self.inside.end z.groups) c.self.view_is c.self.invariant in
    seek_end (words_of c.args.marked c.args.self.now c.args.object.0) c.args.from.0 c.groups.group seeks
    (λ g le. no_bits c.args.marked c.args.self.now c.args.object.0 g c.self.inside.end below (omega (arith, le, c.if-group-self.true)))

pub groups-smaller : goal.groups-smaller
groups-smaller c = omega (arith, c.if-group-self.false)

pub groups-preserved : goal.groups-preserved
groups-preserved c =
    let seeks = rw c.groups-test.true at c.groups.invariant in
    seek_on (words_of c.args.marked c.args.self.now c.args.object.0) c.args.from.0 c.groups.group c.bits-bits.result seeks
    (omega (arith, c.if-group-self.false, c.self.invariant.end)) (search rules) (λ i less. ap (λ z. bit_at z i) c.bits-bits.ensures)

pub overflow_mul-result : goal.overflow_mul-result
overflow_mul-result c = omega (arith, c.groups.invariant.fits)

pub overflow_add-result : goal.overflow_add-result
overflow_add-result c =
    let fits = seek_fits (words_of c.args.marked c.args.self.now c.args.object.0) c.args.from.0 c.groups.group c.groups.bits c.groups.invariant
    (omega (arith, c.groups-test.false)) in omega (arith, fits)

pub returns : goal.returns
returns c =
    first_among c.args.marked c.args.self.now c.args.object.0 c.args.from.0 _ (seek_found (words_of c.args.marked c.args.self.now c.args.object.0)
    c.args.from.0 c.groups.group c.groups.bits c.groups.invariant (omega (arith, c.groups-test.false)))
