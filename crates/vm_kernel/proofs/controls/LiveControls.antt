-- No more controls live than there are objects.
use Rattle.vm_kernel.proofs.Common.{Bool, List, ObjectTable, Some, [], ap, arith, false, if◌then◌else◌, length, nat_lt, nat_tests, refl, suc, true, zero, ℕ}
use Rattle.vm_kernel.proofs.Common.{◌+◌, ◌==◌, ◌∙◌, ◌∷◌, ◌≡◌, ◌≤◌}
use Rattle.vm_base.specs.declared.ids.ObjectId.{ObjectId}
use Rattle.vm_objects.specs.Objects.{object_among, object_at}
use Rattle.vm_objects.specs.declared.row.ObjectRow.{ObjectRow}
use Rattle.vm_terminate.specs.Counts.{is_live_row, live_below}
use Rattle.vm_waits.specs.Waits.{one}

-- one of an object whose control lives, as they are counted
abbrev bit : Bool → ℕ
bit b = if b then 1 else 0

once : (b : Bool) → bit b ≤ 1
once true = omega arith
once false = omega arith

none_live : (objects : ObjectTable) → objects.entries ≡ [] → (n : ℕ) → live_below objects n ≡ 0
none_live objects none zero = refl
none_live objects none (suc o) =
    let here : bit (is_live_row (object_at objects o)) ≡ 0 = ap (λ (z : List (ObjectId × ObjectRow)). bit (is_live_row (object_among o z))) none in
    let rest = none_live objects none o in
    omega (arith, here, rest)

-- one object more is one control more at most
live_more : (objects rest : ObjectTable) (e : ObjectId × ObjectRow) → objects.entries ≡ e ∷ rest.entries → (n : ℕ)
    → live_below objects n ≤ live_below rest n + one (nat_lt e.0.0 n)
live_more objects rest e is zero = omega arith
live_more objects rest e is (suc o) = by (live_more objects rest e is o) (e.0.0 == o) refl
  where
    found : object_at objects o ≡ (if e.0.0 == o then Some e.1 else object_at rest o)
    found = ap (object_among o) is

    by : live_below objects o ≤ live_below rest o + one (nat_lt e.0.0 o) → (b : Bool) → (e.0.0 == o) ≡ b
        → live_below objects (suc o) ≤ live_below rest (suc o) + one (nat_lt e.0.0 (suc o))
    by was true same =
        let before : nat_lt e.0.0 o ≡ false = grind (arith, nat_tests) in
        let now : nat_lt e.0.0 (suc o) ≡ true = grind (arith, nat_tests) in
        let none = ap one before in
        let some = ap one now in
        let here = once (is_live_row (object_at objects o)) in
        omega (arith, was, none, some, here)
    by was false apart =
        let before : nat_lt e.0.0 (suc o) ≡ nat_lt e.0.0 o = by_order (nat_lt e.0.0 o) refl in
        let same : object_at objects o ≡ object_at rest o = found ∙ ap (λ (b : Bool). if b then Some e.1 else object_at rest o) apart in
        let here = ap (λ z. bit (is_live_row z)) same in
        let count = ap one before in
        omega (arith, was, here, count)
      where
        by_order : (b : Bool) → nat_lt e.0.0 o ≡ b → nat_lt e.0.0 (suc o) ≡ b
        by_order true less = grind (arith, nat_tests)
        by_order false more = grind (arith, nat_tests)

live_of : (entries : List (ObjectId × ObjectRow)) (objects : ObjectTable) → objects.entries ≡ entries → (n : ℕ) → live_below objects n ≤ length entries
live_of [] objects is n = let none = none_live objects is n in omega (arith, none)
live_of (e ∷ entries) objects is n =
    let rest = record objects { entries = entries } in
    let fewer = live_of entries rest refl n in
    let more = live_more objects rest e is n in
    let last = once_less (nat_lt e.0.0 n) in
    omega (arith, fewer, more, last)
  where
    once_less : (b : Bool) → one b ≤ 1
    once_less true = omega arith
    once_less false = omega arith

pub live_known : (objects : ObjectTable) (n : ℕ) → live_below objects n ≤ length objects.entries
live_known objects n = live_of objects.entries objects refl n
