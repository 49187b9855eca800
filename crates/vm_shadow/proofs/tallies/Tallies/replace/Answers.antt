use Rattle.std.proofs.Common.{◌≡◌, ◌∙◌, ◌+◌, ◌-◌, ◌^◌, min, ℕ, Some, sym, ap, arith}
use Rattle.std.specs.Option.{option_copied_mut}
use Rattle.vm_shadow.proofs.Overs.{tally_found, tally_is, tally_put}
use Rattle.vm_shadow.proofs.Places.{places_set}
use Rattle.vm_shadow.proofs.Tables.{some_of}
use Rattle.vm_shadow.specs.Standing.{TallyTable, renumbered, tally_at}
use Rattle.vm_shadow.specs.declared.tally.Tally.{Tally}
use Rattle.vm_shadow.proofs.tallies.Tallies.replace.Goals as goal

pub overflow_sub-tally : goal.overflow_sub-tally
overflow_sub-tally c =
    let found = sym c.get_mut.ensures.value ∙ ap option_copied_mut c.unwrap-tally.ensures in
    let is : tally_at c.args.self.now c.args.under.0 ≡ c.unwrap-tally.result.now = tally_found c.args.self.now c.args.under.0 _ (rw (← c.self.view_is) found) in
    omega (arith, ap (λ (z : Tally). z.sum) is, c.requires.has.within, c.from.ensures)

pub overflow_add-tally : goal.overflow_add-tally
overflow_add-tally c =
    let found = sym c.get_mut.ensures.value ∙ ap option_copied_mut c.unwrap-tally.ensures in
    let is : tally_at c.args.self.now c.args.under.0 ≡ c.unwrap-tally.result.now = tally_found c.args.self.now c.args.under.0 _ (rw (← c.self.view_is) found) in
    omega (arith, ap (λ (z : Tally). z.sum) is, c.requires.small, c.from.ensures, c.from-2.ensures)

pub returns-clause-replaced : goal.returns-clause-replaced
returns-clause-replaced c =
    let was : Tally = c.unwrap-tally.result.now in
    let found = sym c.get_mut.ensures.value ∙ ap option_copied_mut c.unwrap-tally.ensures in
    let is : tally_at c.args.self.now c.args.under.0 ≡ was = tally_found c.args.self.now c.args.under.0 was (rw (← c.self.view_is) found) in
    let row : Tally = record { count = was.count; sum = was.sum - c.from.result + c.from-2.result } in
    let put = (c.get_mut.follows.holds row).3 (some_of _ _ found) in
    let left : Tally = renumbered c.args.lower.0 c.args.upper.0 (tally_at c.args.self.now c.args.under.0) in
    let new : TallyTable = record { rows = (c.get_mut.follows.lender row).entries; spare = 0 } in
    tally_put c.args.self.now new c.args.under.0 (Some row) (renumbered c.args.lower.0 c.args.upper.0)
    (sym (tally_is left _ _ (omega (arith, ap (λ (z : Tally). z.count) is))
    (omega (arith, ap (λ (z : Tally). z.sum) is, c.from.ensures, c.from-2.ensures))))
    (λ o. rw (← c.self.view_is) (put.0 (record { 0 = o })))

pub invariant_of-self : goal.invariant_of-self
invariant_of-self c =
    let was : Tally = c.unwrap-tally.result.now in
    let row : Tally = record { count = was.count; sum = was.sum - c.from.result + c.from-2.result } in
    let found = sym c.get_mut.ensures.value ∙ ap option_copied_mut c.unwrap-tally.ensures in
    let put = c.get_mut.follows.holds row in
    record {
      all = omega (arith, places_set _ _ c.args.under was row found put.0, c.self.invariant.all);
      room = omega (arith, ap (λ (n : ℕ). min n (2 ^ 32 - 1)) put.6, c.self.invariant.room);
    }
