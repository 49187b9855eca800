use Rattle.std.proofs.Common.{rules, ◌≡◌, ◌∙◌, ◌+◌, ◌-◌, ◌<◌, ◌==◌, ◌^◌, min, ℕ, None, Some, sym, ap, arith}
use Rattle.std.specs.Map.{lookup}
use Rattle.std.specs.Option.{option_copied_mut}
use Rattle.indexmap.specs.IndexMap.{spare}
use Rattle.vm_shadow.proofs.Overs.{on_ok, tally_found, tally_is, tally_missing, tally_put}
use Rattle.vm_shadow.proofs.Places.{places_made, places_set}
use Rattle.vm_shadow.proofs.Tables.{some_of}
use Rattle.vm_shadow.specs.Standing.{TallyTable, no_tally, tally_at, with_shadow}
use Rattle.vm_shadow.specs.declared.tally.Tally.{Tally}
use Rattle.vm_shadow.proofs.tallies.Tallies.add.Goals as goal

pub invariant_of-self : goal.invariant_of-self
invariant_of-self c =
    let none = sym c.get_mut.ensures.value ∙ ap option_copied_mut c.in_default.is in
    let room : 0 < min (spare c.self.inside.rows) (2 ^ 32 - 1) - c.self.inside.beside = rw (← c.self.view_is) at c.requires.room in
    let only : Tally = record { count = 1; sum = c.from.result } in
    let same : c.get_mut.follows.lender-at-none ≡ c.self.inside.rows = search rules in
    let ok = c.insert.ensures.succeeds (rw same (grind (arith, room))) in
    let entries = rw same at (on_ok c.insert.result ok c.insert.ensures.entries) in
    record {
      all = omega (arith, places_made _ _ c.args.under only none entries, c.self.invariant.all);
      room = grind (arith, room, rw same at c.insert.ensures.spare);
    }

pub returns-in_default-clause-added : goal.returns-in_default-clause-added
returns-in_default-clause-added c =
    let room : 0 < min (spare c.self.inside.rows) (2 ^ 32 - 1) - c.self.inside.beside = rw (← c.self.view_is) at c.requires.room in
    let missing : lookup (λ id. c.args.under.0 == id.0) c.self.inside.rows.entries ≡ None
    = sym c.get_mut.ensures.value ∙ ap option_copied_mut c.in_default.is in
    let none : tally_at c.args.self.now c.args.under.0 ≡ no_tally = tally_missing c.args.self.now c.args.under.0 (rw (← c.self.view_is) missing) in
    let same : c.get_mut.follows.lender-at-none ≡ c.self.inside.rows = search rules in
    let puts = rw same at (on_ok c.insert.result (c.insert.ensures.succeeds (rw same (grind (arith, room)))) c.insert.ensures.updates) in
    let new : TallyTable = record { rows = c.insert.new.self.entries; spare = 0 } in
    let only : Tally = record { count = 1; sum = c.from.result } in
    let more : Tally = with_shadow c.args.upper.0 (tally_at c.args.self.now c.args.under.0) in
    tally_put c.args.self.now new c.args.under.0 (Some only) (with_shadow c.args.upper.0)
    (sym (tally_is more _ _ (omega (arith, ap (λ (z : Tally). z.count) none)) (omega (arith, ap (λ (z : Tally). z.sum) none, c.from.ensures))))
    (λ o. rw (← c.self.view_is) (puts.0 (record { 0 = o })))

pub overflow_add-more : goal.overflow_add-more
overflow_add-more c =
    let found = sym c.get_mut.ensures.value ∙ ap option_copied_mut c.in-Some.is in
    let is = tally_found c.args.self.now c.args.under.0 c.in-Some.more.now (rw (← c.self.view_is) found) in
    omega (arith, ap (λ (z : Tally). z.count) is, c.requires.few)

pub overflow_add-more-2 : goal.overflow_add-more-2
overflow_add-more-2 c =
    let found = sym c.get_mut.ensures.value ∙ ap option_copied_mut c.in-Some.is in
    let is = tally_found c.args.self.now c.args.under.0 c.in-Some.more.now (rw (← c.self.view_is) found) in
    omega (arith, ap (λ (z : Tally). z.sum) is, c.requires.small, c.from-2.ensures)

pub invariant_of-self-2 : goal.invariant_of-self-2
invariant_of-self-2 c =
    let was : Tally = c.in-Some.more.now in
    let row : Tally = record { count = was.count + 1; sum = was.sum + c.from-2.result } in
    let found = sym c.get_mut.ensures.value ∙ ap option_copied_mut c.in-Some.is in
    let put = c.get_mut.follows.holds row in
    let room : 0 < min (spare c.self.inside.rows) (2 ^ 32 - 1) - c.self.inside.beside = rw (← c.self.view_is) at c.requires.room in
    record {
      all = omega (arith, places_set _ _ c.args.under was row found put.0, c.self.invariant.all);
      room = omega (arith, ap (λ (n : ℕ). min n (2 ^ 32 - 1)) put.6, room);
    }

pub returns-clause-added : goal.returns-clause-added
returns-clause-added c =
    let was : Tally = c.in-Some.more.now in
    let row : Tally = record { count = was.count + 1; sum = was.sum + c.from-2.result } in
    let found = sym c.get_mut.ensures.value ∙ ap option_copied_mut c.in-Some.is in
    let is = tally_found c.args.self.now c.args.under.0 was (rw (← c.self.view_is) found) in
    let put = (c.get_mut.follows.holds row).3 (some_of _ _ found) in
    let new : TallyTable = record { rows = (c.get_mut.follows.lender row).entries; spare = 0 } in
    let more : Tally = with_shadow c.args.upper.0 (tally_at c.args.self.now c.args.under.0) in
    tally_put c.args.self.now new c.args.under.0 (Some row) (with_shadow c.args.upper.0)
    (sym (tally_is more _ _ (omega (arith, ap (λ (z : Tally). z.count) is)) (omega (arith, ap (λ (z : Tally). z.sum) is, c.from-2.ensures))))
    (λ o. rw (← c.self.view_is) (put.0 (record { 0 = o })))
