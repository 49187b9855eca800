use Rattle.std.proofs.Common.{◌≡◌, ◌∙◌, ◌-◌, ◌≤◌, ◌^◌, min, ℕ, Some, None, sym, ap, refl, arith}
use Rattle.std.specs.Option.{option_copied_mut}
use Rattle.vm_shadow.proofs.Overs.{tally_found, tally_is, tally_put}
use Rattle.vm_shadow.proofs.Places.{places_dropped, places_set}
use Rattle.vm_shadow.proofs.Tables.{some_of}
use Rattle.vm_shadow.specs.Standing.{TallyTable, tally_at, without_shadow}
use Rattle.vm_shadow.specs.declared.tally.Tally.{Tally}
use Rattle.vm_shadow.proofs.tallies.Tallies.remove.Goals as goal

pub returns-then-was-eq1-clause-removed : goal.returns-then-was-eq1-clause-removed
returns-then-was-eq1-clause-removed c =
    let is : tally_at c.args.self.now c.args.under.0 ≡ c.index-was.result.now = tally_found c.args.self.now c.args.under.0 _
    (rw (← c.self.view_is) c.index-was.ensures) in
    let left : Tally = without_shadow c.args.upper.0 (tally_at c.args.self.now c.args.under.0) in
    let single : (tally_at c.args.self.now c.args.under.0).count ≡ 1 = grind (arith, ap (λ (z : Tally). z.count) is, c.if-was-eq1.true) in
    let last = c.requires.has.last single in
    let new : TallyTable = record { rows = c.swap_remove.new.self.entries; spare = 0 } in
    tally_put c.args.self.now new c.args.under.0 None (without_shadow c.args.upper.0)
    (sym (tally_is left 0 0 (omega (arith, single)) (omega (arith, last))))
    (λ o. rw (← c.self.view_is) (c.swap_remove.ensures.updates.0 (record { 0 = o })))

pub overflow_sub-left : goal.overflow_sub-left
overflow_sub-left c =
    let is : tally_at c.args.self.now c.args.under.0 ≡ c.index-was.result.now = tally_found c.args.self.now c.args.under.0 _
    (rw (← c.self.view_is) c.index-was.ensures) in
    omega (arith, ap (λ (z : Tally). z.count) is, c.requires.has.some)

pub overflow_sub-left-2 : goal.overflow_sub-left-2
overflow_sub-left-2 c =
    let is : tally_at c.args.self.now c.args.under.0 ≡ c.index-was.result.now = tally_found c.args.self.now c.args.under.0 _
    (rw (← c.self.view_is) c.index-was.ensures) in
    omega (arith, ap (λ (z : Tally). z.sum) is, c.requires.has.within, c.from.ensures)

pub returns-clause-removed : goal.returns-clause-removed
returns-clause-removed c =
    let is : tally_at c.args.self.now c.args.under.0 ≡ c.index-was.result.now = tally_found c.args.self.now c.args.under.0 _
    (rw (← c.self.view_is) c.index-was.ensures) in
    let row : Tally = record { count = c.index-was.result.now.count - 1; sum = c.index-was.result.now.sum - c.from.result } in
    let found = sym c.get_mut.ensures.value ∙ ap option_copied_mut c.unwrap-left.ensures in
    let put = (c.get_mut.follows.holds row).3 (some_of _ _ found) in
    let left : Tally = without_shadow c.args.upper.0 (tally_at c.args.self.now c.args.under.0) in
    let new : TallyTable = record { rows = (c.get_mut.follows.lender row).entries; spare = 0 } in
    tally_put c.args.self.now new c.args.under.0 (Some row) (without_shadow c.args.upper.0)
    (sym (tally_is left _ _ (omega (arith, ap (λ (z : Tally). z.count) is)) (omega (arith, ap (λ (z : Tally). z.sum) is, c.from.ensures))))
    (λ o. rw (← c.self.view_is) (put.0 (record { 0 = o })))

pub invariant_of-self : goal.invariant_of-self
invariant_of-self c =
    let dropped = places_dropped _ _ c.args.under c.index-was.result.now c.index-was.ensures c.swap_remove.ensures.entries in
    record {
      all = omega (arith, dropped, c.self.invariant.all);
      room = grind (arith, c.self.invariant.room, c.swap_remove.ensures.room.0);
    }

pub overflow_sub-self : goal.overflow_sub-self
overflow_sub-self c =
    let row : Tally = record { count = c.index-was.result.now.count - 1; sum = 0 } in
    let is : tally_at c.args.self.now c.args.under.0 ≡ c.index-was.result.now = tally_found c.args.self.now c.args.under.0 _
    (rw (← c.self.view_is) c.index-was.ensures) in
    let set = places_set c.self.inside.rows.entries _ c.args.under c.index-was.result.now row c.index-was.ensures refl in
    grind (arith, set, c.self.invariant.all, c.requires.has.some, ap (λ (z : Tally). z.count) is, c.if-was-eq1.false)

pub invariant_of-self-2 : goal.invariant_of-self-2
invariant_of-self-2 c =
    let row : Tally = record { count = c.index-was.result.now.count - 1; sum = c.index-was.result.now.sum - c.from.result } in
    let is : tally_at c.args.self.now c.args.under.0 ≡ c.index-was.result.now = tally_found c.args.self.now c.args.under.0 _
    (rw (← c.self.view_is) c.index-was.ensures) in
    let put = c.get_mut.follows.holds row in
    let set = places_set _ _ c.args.under c.index-was.result.now row c.index-was.ensures put.0 in
    record {
      all = grind (arith, set, c.self.invariant.all, c.requires.has.some, ap (λ (z : Tally). z.count) is, c.if-was-eq1.false);
      room = omega (arith, ap (λ (n : ℕ). min n (2 ^ 32 - 1)) put.6, c.self.invariant.room);
    }

pub returns-clause-place : goal.returns-clause-place
returns-clause-place c =
    let row : Tally = record { count = c.index-was.result.now.count - 1; sum = c.index-was.result.now.sum - c.from.result } in
    let is : tally_at c.args.self.now c.args.under.0 ≡ c.index-was.result.now = tally_found c.args.self.now c.args.under.0 _
    (rw (← c.self.view_is) c.index-was.ensures) in
    let put = c.get_mut.follows.holds row in
    let set = places_set _ _ c.args.under c.index-was.result.now row c.index-was.ensures put.0 in
    let some : 1 ≤ c.self.inside.beside = grind (arith, set, c.self.invariant.all, c.requires.has.some, ap (λ (z : Tally). z.count) is, c.if-was-eq1.false) in
    λ several. rw (← c.self.view_is) (omega (arith, ap (λ (n : ℕ). min n (2 ^ 32 - 1)) put.6, c.self.invariant.room, some))
