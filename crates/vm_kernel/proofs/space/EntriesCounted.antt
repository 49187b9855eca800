-- How many entries lead to a region, over each change of a task's entries.
use Rattle.vm_kernel.proofs.Common.{Bool, ChangesOnly, Entry, List, Mapped, Option, [], all_tasks, ap, arith, count_by, count_on, entered, eqb_tells, false}
use Rattle.vm_kernel.proofs.Common.{has_entry, inl, inr, length, nat_lt, refl, rows_in, subst, suc, true, unwrap_or, zero, ℕ, if◌then◌else◌, ◌*◌, ◌++◌, ◌+◌}
use Rattle.vm_kernel.proofs.Common.{◌<◌, ◌==◌, ◌∷◌, ◌≡◌, ◌≢◌, ◌≤◌}

-- nothing leads to a region exactly where it has no entry

pub on_none : (r : ℕ) (rows : List Entry) → has_entry r rows ≡ false → count_on r rows ≡ 0
on_none r [] none = refl
on_none r (row ∷ rows) none = elim (eqb_tells row.region.0 r) [
  | inl same ↦ absurd (let bad : true ≡ false = rw same.0 at none in cc)
  | inr apart ↦ let later = on_none r rows (rw apart.0 at none) in rw apart.0 (omega arith)
]

pub on_zero : (r : ℕ) (rows : List Entry) → count_on r rows ≡ 0 → has_entry r rows ≡ false
on_zero r [] nothing = refl
on_zero r (row ∷ rows) nothing = elim (eqb_tells row.region.0 r) [
  | inl same ↦ absurd (let sum : 1 + count_on r rows ≡ 0 = rw same.0 at nothing in omega arith)
  | inr apart ↦ let later : 0 + count_on r rows ≡ 0 = rw apart.0 at nothing in rw apart.0 (on_zero r rows (omega arith))
]

pub on_few : (r : ℕ) (rows : List Entry) → count_on r rows ≤ length rows
on_few r [] = omega arith
on_few r (row ∷ rows) = let later = on_few r rows in one (row.region.0 == r) (omega arith)
  where
    one : (b : Bool) → count_on r rows ≤ length rows → (if b then 1 else 0) + count_on r rows ≤ suc (length rows)
    one true le = omega arith
    one false le = omega arith

pub on_append : (r : ℕ) (rows more : List Entry) → count_on r (rows ++ more) ≡ count_on r rows + count_on r more
on_append r [] more = omega arith
on_append r (row ∷ rows) more = omega (arith, on_append r rows more)

pub on_entered : (r : ℕ) (new : Entry) (rows : List Entry) → count_on r (entered new rows) ≡ count_on r (new ∷ rows)
on_entered r new [] = refl
on_entered r new (row ∷ rows) = by_test (on_entered r new rows) (nat_lt new.address row.address)
  where
    by_test : count_on r (entered new rows) ≡ count_on r (new ∷ rows) → (b : Bool)
        → count_on r (if b then new ∷ row ∷ rows else row ∷ entered new rows) ≡ count_on r (new ∷ row ∷ rows)
    by_test later true = refl
    by_test later false = omega arith

-- an entry counts where it leads to the region
pub one_on : (n r : ℕ) → n ≡ r → ◌≡◌ {A = ℕ} (if n == r then 1 else 0) 1
one_on n r same = elim (eqb_tells n r) [ inl is ↦ ap (λ b. if b then 1 else 0) is.0 | inr apart ↦ absurd (apart.1 same) ]

pub none_on : (n r : ℕ) → (n ≡ r → ⊥) → ◌≡◌ {A = ℕ} (if n == r then 1 else 0) 0
none_on n r apart = elim (eqb_tells n r) [ inl is ↦ absurd (apart is.1) | inr other ↦ ap (λ b. if b then 1 else 0) other.0 ]

-- over all tasks

pub by_none : (n r : ℕ) (maps : Mapped) → ((task : ℕ) → has_entry r (rows_in task maps) ≡ false) → count_by n r maps ≡ 0
by_none zero r maps none = refl
by_none (suc n) r maps none = omega (arith, on_none r (rows_in n maps) (none n), by_none n r maps none)

pub by_zero : (n r task : ℕ) (maps : Mapped) → task < n → count_by n r maps ≡ 0 → count_on r (rows_in task maps) ≡ 0
by_zero zero r task maps less nothing = absurd (omega arith)
by_zero (suc n) r task maps less nothing = elim (eqb_tells n task) [
  | inl same ↦ subst (λ (z : ℕ). count_on r (rows_in z maps) ≡ 0) same.1 (omega arith)
  | inr apart ↦ by_zero n r task maps (let other = apart.1 in grind arith) (omega arith)
]

pub by_few : (n r most : ℕ) (maps : Mapped) → ((task : ℕ) → length (rows_in task maps) ≤ most) → count_by n r maps ≤ n * most
by_few zero r most maps few = omega arith
by_few (suc n) r most maps few =
    let one = few n in
    let on = on_few r (rows_in n maps) in
    let rest = by_few n r most maps few in
    let step : suc n * most ≡ most + n * most = grind arith in
    omega (arith, one, on, rest, step)

-- where something leads to a region, a task has an entry on it
pub by_some : (n r : ℕ) (maps : Mapped) → 0 < count_by n r maps → (task : ℕ) × (has_entry r (rows_in task maps) ≡ true)
by_some zero r maps some = absurd (omega arith)
by_some (suc n) r maps some = by_test (λ less. by_some n r maps less) (has_entry r (rows_in n maps)) refl
  where
    by_test : (0 < count_by n r maps → (task : ℕ) × (has_entry r (rows_in task maps) ≡ true)) → (b : Bool) → has_entry r (rows_in n maps) ≡ b → (task : ℕ)
        × (has_entry r (rows_in task maps) ≡ true)
    by_test later true is = (n, is)
    by_test later false is = later (let none = on_none r (rows_in n maps) is in omega arith)

-- after a change of one task's entries

by_same : (n r : ℕ) (maps new : Mapped) → ((task : ℕ) → task < n → rows_in task new ≡ rows_in task maps) → count_by n r new ≡ count_by n r maps
by_same zero r maps new same = refl
by_same (suc n) r maps new same = omega (arith, ap (count_on r) (same n (omega arith)), by_same n r maps new (λ task less. same task (omega arith)))

by_change : (n r task : ℕ) (maps new : Mapped) → task < n → ((other : ℕ) → other ≢ task → rows_in other new ≡ rows_in other maps)
    → count_by n r new + count_on r (rows_in task maps) ≡ count_by n r maps + count_on r (rows_in task new)
by_change zero r task maps new less others = absurd (omega arith)
by_change (suc n) r task maps new less others = elim (eqb_tells n task) [
  | inl same ↦
      let rest = by_same n r maps new (λ other below. others other (λ e. omega (arith, e, same.1))) in
      subst (λ (z : ℕ). count_by (suc n) r new + count_on r (rows_in z maps) ≡ count_by (suc n) r maps + count_on r (rows_in z new)) same.1
      (omega (arith, rest))
  | inr apart ↦
      let here = ap (count_on r) (others n apart.1) in
      let rest = by_change n r task maps new (let other = apart.1 in grind arith) others in
      omega (arith, here, rest)
]

pub other_rows : (maps new : Mapped) (task : ℕ) (rows : Option (List Entry)) → ChangesOnly maps new task rows → (other : ℕ) → other ≢ task
    → rows_in other new ≡ rows_in other maps
other_rows maps new task rows changes other apart = ap (λ z. unwrap_or z []) (changes.others other apart)

pub by_changed : (n r task : ℕ) (maps new : Mapped) (rows : Option (List Entry)) → task < n → ChangesOnly maps new task rows
    → count_by n r new + count_on r (rows_in task maps) ≡ count_by n r maps + count_on r (unwrap_or rows [])
by_changed n r task maps new rows less changes =
    omega (arith, by_change n r task maps new less (other_rows maps new task rows changes), ap (λ z. count_on r (unwrap_or z [])) changes.changed)

pub most_is : all_tasks ≡ 1024
unfolding all_tasks
most_is = refl
