-- The entries of a task that is forked, one after another, and what a child gets of them.
use Rattle.vm_kernel.proofs.Common.{AllRows, Bool, Entry, Event, InOrder, List, Some, TaskId, [], ap, append_assoc, arith}
use Rattle.vm_kernel.proofs.Common.{entry_at, false, if◌then◌else◌, meets_range, nat_le, nat_lt, nat_tests, Option, refl, reverse, reverse-append, slice_get}
use Rattle.vm_kernel.proofs.Common.{slice_get_within, subst, suc, sym, true, zero, ℕ, ◌&&◌, ◌++◌, ◌+◌, ◌||◌, ◌∙◌, ◌∷◌, ◌≡◌, ◌≤◌}
use Rattle.vm_kernel.proofs.Common.{Header}
use Rattle.vm_legal.specs.Follows.{inherits, inherits_all, next_behind, object_behind}
use Rattle.vm_parts.proofs.Rows.{some_is}

-- entries that end in front of another

abbrev pub Behind : Entry → List Entry → Type 0
Behind row rows = AllRows (λ other. other.address + other.bytes ≤ row.address) rows

pub free_behind : (row : Entry) (rows : List Entry) → Behind row rows → meets_range row.address row.bytes rows ≡ false
free_behind row [] all = refl
free_behind row (first ∷ rows) all =
    let end : first.address + first.bytes ≤ row.address = all.0 in
    let no : nat_lt row.address (first.address + first.bytes) ≡ false = grind (arith, nat_tests) in
    rw (no, free_behind row rows all.1) (neither (nat_lt first.address (row.address + row.bytes)))
  where
    neither : (b : Bool) → ((b && false) || false) ≡ false
    neither true = refl
    neither false = refl

-- an entry holds its first address
pub found_first : (from to : ℕ) (rows : List Entry) (i : ℕ) (row : Entry) → InOrder from to rows → slice_get rows i ≡ Some row → (from ≤ row.address)
    × (entry_at row.address rows ≡ Some row)
found_first from to [] i row order found = absurd (let bad = slice_get_within [] i row found in omega (arith, bad))
found_first from to (first ∷ rows) zero row order found =
    let same : first ≡ row = some_is first row found in
    let some = order.1.0 in
    let yes : nat_lt first.address (first.address + first.bytes) ≡ true = grind (arith, nat_tests) in
    let low : nat_le first.address first.address ≡ true = grind (arith, nat_tests) in
    subst (λ (z : Entry). (from ≤ z.address) × (entry_at z.address (first ∷ rows) ≡ Some z)) same (order.0, rw (low, yes) refl)
found_first from to (first ∷ rows) (suc i) row order found =
    let later = found_first (first.address + first.bytes) to rows i row order.1.1 found in
    let start : from ≤ first.address = order.0 in
    let end : first.address + first.bytes ≤ row.address = later.0 in
    let not_here : nat_lt row.address (first.address + first.bytes) ≡ false = grind (arith, nat_tests) in
    (omega (arith, start, end), rw not_here (passes (nat_le first.address row.address) (entry_at row.address rows) later.1))
  where
    passes : (b : Bool) (rest : Option Entry) → rest ≡ Some row → (if b && false then Some first else rest) ≡ Some row
    passes true rest is = is
    passes false rest is = is

-- what is left to tell, where what is told of one entry was added
pub told_next : (header : Header) (child : TaskId) (next next2 object object2 : ℕ) (row : Entry) (rest : List Entry) (first mine events after : List Event)
    → inherits row.inherit header child next object row ≡ mine → next_behind row.inherit next ≡ next2
    → object_behind row.inherit header row.region object ≡ object2
    → reverse first ≡ reverse (inherits_all header child next object (row ∷ rest)) ++ events → after ≡ reverse mine ++ events
    → reverse first ≡ reverse (inherits_all header child next2 object2 rest) ++ after
told_next header child next next2 object object2 row rest first mine events after own behind over told more =
    told
    ∙ (ap (λ (z : List Event). reverse (z ++ inherits_all header child (next_behind row.inherit next) (object_behind row.inherit header row.region object) rest)
    ++ events) own
    ∙ (ap (λ (z : ℕ). reverse (mine ++ inherits_all header child z (object_behind row.inherit header row.region object) rest) ++ events) behind
    ∙ (ap (λ (z : ℕ). reverse (mine ++ inherits_all header child next2 z rest) ++ events) over
    ∙ (ap (λ (z : List Event). z ++ events) (reverse-append mine (inherits_all header child next2 object2 rest))
    ∙ (append_assoc (reverse (inherits_all header child next2 object2 rest)) (reverse mine) events
    ∙ ap (λ (z : List Event). reverse (inherits_all header child next2 object2 rest) ++ z) (sym more))))))
