-- Counting the rows of a case tells whether it stands in one row, and in no other.
use Rattle.std.proofs.Common.{ℕ, zero, suc, ◌≡◌, ◌+◌, ◌&&◌, Bool, true, false, List, [], ◌∷◌, refl, arith, ⊎_elim, sym, ap, subst, ◌∙◌}
use Rattle.std.proofs.lemmas.Bool.{cases_Bool}
use Rattle.std.proofs.lemmas.Bool.Decides.{nat_tests}
use Rattle.std.proofs.lemmas.Option.{none-some, same_Some}
use Rattle.std.specs.Prelude.{slice_get, Some}
use mathlib.Core.Bool.{beq}
use Rattle.vm_tables.specs.Cases.{Covers, StandsOnce}
use Rattle.vm_tables.specs.Counting.{act_in, both_return, count_of, is_case, is_once, once_each, once_kind, once_marked}
use Rattle.vm_tables.specs.declared.cases.LockCase.{LockCase}
use Rattle.vm_tables.specs.declared.cases.LockRow.{LockRow}
use Rattle.vm_tables.specs.declared.cases.Returns.{Returns}
use Rattle.vm_tables.specs.declared.cases.Returns.TheVariants as returns

bools_same : (a b : Bool) → beq a b ≡ true → a ≡ b
bools_same true true is = refl
bools_same false false is = refl
bools_same true false is = sym is
bools_same false true is = is

bool_self : (a : Bool) → beq a a ≡ true
bool_self true = refl
bool_self false = refl

returns_same : (one other : Returns) → both_return one other ≡ true → one ≡ other
returns_same returns.Nothing returns.Nothing is = refl
returns_same returns.Dirty returns.Dirty is = refl
returns_same returns.All returns.All is = refl
returns_same one other is = grind arith

returns_self : (one : Returns) → both_return one one ≡ true
returns_self returns.Nothing = refl
returns_self returns.Dirty = refl
returns_self returns.All = refl

and_left : (a b : Bool) → a && b ≡ true → a ≡ true
and_left true b is = refl
and_left false b is = is

and_right : (a b : Bool) → a && b ≡ true → b ≡ true
and_right true b is = is
and_right false b is = grind arith

abbrev make : Returns → Bool → Bool → Bool → LockCase
make returns flush dirty precious = record { returns = returns; flush = flush; dirty = dirty; precious = precious }

cases_same : (one other : LockCase) → is_case one other ≡ true → one ≡ other
cases_same one other is =
    let rest = and_right (both_return one.returns other.returns) (beq one.flush other.flush && (beq one.dirty other.dirty && beq one.precious other.precious))
    is in
    let marks = and_right (beq one.flush other.flush) (beq one.dirty other.dirty && beq one.precious other.precious) rest in
    ap (λ r. make r one.flush one.dirty one.precious) (returns_same one.returns other.returns (and_left _ _ is))
    ∙ ap (λ f. make other.returns f one.dirty one.precious) (bools_same one.flush other.flush (and_left _ _ rest))
    ∙ ap (λ d. make other.returns other.flush d one.precious) (bools_same one.dirty other.dirty (and_left _ _ marks))
    ∙ ap (λ p. make other.returns other.flush other.dirty p) (bools_same one.precious other.precious (and_right _ _ marks))

case_self : (one : LockCase) → is_case one one ≡ true
case_self one = rw (returns_self one.returns, bool_self one.flush, bool_self one.dirty, bool_self one.precious) refl

-- a row whose case is this one passes the test
row_passes : (row : LockRow) (case : LockCase) → row.case ≡ case → is_case row.case case ≡ true
row_passes row case same = subst (λ c. is_case row.case c ≡ true) same (case_self row.case)

counts_here : (row : LockRow) (case : LockCase) (rows : List LockRow) → row.case ≡ case → count_of case (row ∷ rows) ≡ 1 + count_of case rows
counts_here row case rows same = rw (row_passes row case same) refl

counts_on : (row : LockRow) (case : LockCase) (rows : List LockRow) → (row.case ≡ case → ⊥) → count_of case (row ∷ rows) ≡ count_of case rows
counts_on row case rows apart =
    ⊎_elim
    (λ (is : is_case row.case case ≡ true). absurd (apart (cases_same row.case case is)))
    (λ (fails : is_case row.case case ≡ false). rw fails (omega arith))
    (cases_Bool (is_case row.case case))

pub nobody : (case : LockCase) (rows : List LockRow) → count_of case rows ≡ 0 → (i : ℕ) (row : LockRow) → slice_get rows i ≡ Some row → row.case ≡ case → ⊥
nobody case [] none i row found same = none-some row found
nobody case (head ∷ rows) none zero row found same =
    let more : count_of case (head ∷ rows) ≡ 1 + count_of case rows = counts_here head case rows
    (ap (λ (r : LockRow). r.case) (same_Some head row found) ∙ same) in omega arith
nobody case (head ∷ rows) none (suc i) row found same = nobody case rows (omega arith) i row found same

counts_nobody : (case : LockCase) (rows : List LockRow) → ((i : ℕ) (row : LockRow) → slice_get rows i ≡ Some row → row.case ≡ case → ⊥) → count_of case rows ≡ 0
counts_nobody case [] none = refl
counts_nobody case (head ∷ rows) none = counts_on head case rows (none 0 head refl) ∙ counts_nobody case rows (λ i row found. none (suc i) row found)

first_alone : (case : LockCase) (head : LockRow) (rows : List LockRow) → count_of case rows ≡ 0 → (other : ℕ) (another : LockRow)
    → slice_get (head ∷ rows) other ≡ Some another → another.case ≡ case → other ≡ 0
first_alone case head rows none zero another found same = refl
first_alone case head rows none (suc other) another found same = absurd (nobody case rows none other another found same)

later_alone : (case : LockCase) (head : LockRow) (rows : List LockRow) (place : ℕ) → (head.case ≡ case → ⊥)
    → ((other : ℕ) (another : LockRow) → slice_get rows other ≡ Some another → another.case ≡ case → other ≡ place)
    → (other : ℕ) (another : LockRow) → slice_get (head ∷ rows) other ≡ Some another → another.case ≡ case → other ≡ suc place
later_alone case head rows place apart alone zero another found same = absurd (apart (ap (λ (r : LockRow). r.case) (same_Some head another found) ∙ same))
later_alone case head rows place apart alone (suc other) another found same = ap suc (alone other another found same)

once_later : (case : LockCase) (head : LockRow) (rows : List LockRow) → (head.case ≡ case → ⊥) → StandsOnce rows case → StandsOnce (head ∷ rows) case
once_later case head rows apart once =
    record { place = suc once.place; row = once.row; found = once.found; is = once.is; alone = later_alone case head rows once.place apart once.alone }

row_fails : (row : LockRow) (case : LockCase) → is_case row.case case ≡ false → row.case ≡ case → ⊥
row_fails row case fails same = let yes : is_case row.case case ≡ true = row_passes row case same in grind arith

-- a case that is counted once stands in one row, and in no other
pub counted_once : (case : LockCase) (rows : List LockRow) → count_of case rows ≡ 1 → StandsOnce rows case
counted_once case [] is = absurd (omega arith)
counted_once case (head ∷ rows) is =
    ⊎_elim
    (λ (yes : is_case head.case case ≡ true).
    let same = cases_same head.case case yes in
    let more : count_of case (head ∷ rows) ≡ 1 + count_of case rows = counts_here head case rows same in
    let none : count_of case rows ≡ 0 = omega arith in
    record { place = 0; row = head; found = refl; is = same; alone = first_alone case head rows none })
    (λ (fails : is_case head.case case ≡ false).
    let apart = row_fails head case fails in
    once_later case head rows apart (counted_once case rows (sym (counts_on head case rows apart) ∙ is)))
    (cases_Bool (is_case head.case case))

-- and the other way round
pub once_counted : (case : LockCase) (rows : List LockRow) (place : ℕ) (row : LockRow) → slice_get rows place ≡ Some row → row.case ≡ case
    → ((other : ℕ) (another : LockRow) → slice_get rows other ≡ Some another → another.case ≡ case → other ≡ place) → count_of case rows ≡ 1
once_counted case [] place row found same alone = absurd (none-some row found)
once_counted case (head ∷ rows) zero row found same alone =
    counts_here head case rows (ap (λ (r : LockRow). r.case) (same_Some head row found) ∙ same)
    ∙ ap (λ n. 1 + n) (counts_nobody case rows (λ i other at also. let off : suc i ≡ 0 = alone (suc i) other at also in omega arith))
once_counted case (head ∷ rows) (suc place) row found same alone =
    counts_on head case rows (λ is. let off : 0 ≡ suc place = alone 0 head refl is in omega arith)
    ∙ once_counted case rows place row found same (λ other another at also. let next : suc other ≡ suc place = alone (suc other) another at also in omega arith)

-- the first row of a case is the one that stands at this place, where it stands at no other
pub picked : (case : LockCase) (rows : List LockRow) (place : ℕ) (row : LockRow) → slice_get rows place ≡ Some row → row.case ≡ case
    → ((other : ℕ) (another : LockRow) → slice_get rows other ≡ Some another → another.case ≡ case → other ≡ place) → act_in case rows ≡ Some row.act
picked case [] place row found same alone = absurd (none-some row found)
picked case (head ∷ rows) zero row found same alone =
    let is = same_Some head row found in
    rw (row_passes head case (ap (λ (r : LockRow). r.case) is ∙ same)) (ap (λ (r : LockRow). Some r.act) is)
picked case (head ∷ rows) (suc place) row found same alone =
    ⊎_elim
    (λ (yes : is_case head.case case ≡ true). let off : 0 ≡ suc place = alone 0 head refl (cases_same head.case case yes) in absurd (omega arith))
    (λ (fails : is_case head.case case ≡ false). rw fails (picked case rows place row found same
    (λ other another at also. let next : suc other ≡ suc place = alone (suc other) another at also in omega arith)))
    (cases_Bool (is_case head.case case))

-- in a table that has each case once the first row of a case is its row
pub picks : (case : LockCase) (rows : List LockRow) → Covers rows → (i : ℕ) (row : LockRow) → slice_get rows i ≡ Some row → row.case ≡ case
    → act_in case rows ≡ Some row.act
picks case rows covers i row found same =
    let once = covers case in
    picked case rows i row found same (λ other another at also. once.alone other another at also ∙ sym (once.alone i row found same))

tested_once : (case : LockCase) (rows : List LockRow) → is_once rows case ≡ true → StandsOnce rows case
tested_once case rows is = counted_once case rows (grind (arith, nat_tests))

once_tested : (case : LockCase) (rows : List LockRow) → StandsOnce rows case → is_once rows case ≡ true
once_tested case rows once =
    let one : count_of case rows ≡ 1 = once_counted case rows once.place once.row once.found once.is once.alone in grind (arith, nat_tests)

either : (p : Bool → Bool) → p false && p true ≡ true → (b : Bool) → p b ≡ true
either p is false = and_left (p false) (p true) is
either p is true = and_right (p false) (p true) is

or_each : (p : Bool → Bool) → ((b : Bool) → p b ≡ true) → p false && p true ≡ true
or_each p is = rw (is false, is true) refl

marked : (rows : List LockRow) (returns : Returns) (flush dirty precious : Bool) → once_marked rows returns flush dirty ≡ true
    → StandsOnce rows (make returns flush dirty precious)
marked rows returns flush dirty precious is =
    tested_once (make returns flush dirty precious) rows (either (λ p. is_once rows (make returns flush dirty p)) is precious)

kind : (rows : List LockRow) (returns : Returns) (flush dirty precious : Bool) → once_kind rows returns ≡ true
    → StandsOnce rows (make returns flush dirty precious)
kind rows returns flush dirty precious is =
    marked rows returns flush dirty precious (either (λ d. once_marked rows returns flush d)
    (either (λ f. once_marked rows returns f false && once_marked rows returns f true) is flush) dirty)

of_kind : (rows : List LockRow) (returns : Returns) → once_each rows ≡ true → once_kind rows returns ≡ true
of_kind rows returns.Nothing is =
    and_left (once_kind rows returns.Nothing) (once_kind rows returns.Dirty) (and_left (once_kind rows returns.Nothing && once_kind rows returns.Dirty)
    (once_kind rows returns.All) is)
of_kind rows returns.Dirty is =
    and_right (once_kind rows returns.Nothing) (once_kind rows returns.Dirty) (and_left (once_kind rows returns.Nothing && once_kind rows returns.Dirty)
    (once_kind rows returns.All) is)
of_kind rows returns.All is = and_right (once_kind rows returns.Nothing && once_kind rows returns.Dirty) (once_kind rows returns.All) is

-- where each test is passed, each case stands in one row, and in no other
pub once_covers : (rows : List LockRow) → once_each rows ≡ true → Covers rows
once_covers rows is case = kind rows case.returns case.flush case.dirty case.precious (of_kind rows case.returns is)

kind_covered : (rows : List LockRow) (returns : Returns) → Covers rows → once_kind rows returns ≡ true
kind_covered rows returns covers =
    or_each (λ f. once_marked rows returns f false && once_marked rows returns f true)
    (λ f. or_each (λ d. once_marked rows returns f d) (λ d. or_each (λ p. is_once rows (make returns f d p))
    (λ p. once_tested (make returns f d p) rows (covers (make returns f d p)))))

-- and the other way round
pub covers_once : (rows : List LockRow) → Covers rows → once_each rows ≡ true
covers_once rows covers = rw (kind_covered rows returns.Nothing covers, kind_covered rows returns.Dirty covers, kind_covered rows returns.All covers) refl
