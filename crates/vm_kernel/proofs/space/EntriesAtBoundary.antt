-- Entries with addresses on both sides of a boundary.
use Rattle.vm_kernel.proofs.Common.{Bool, AllRows, ChainTable, Entry, IfSome, InOrder, List, None, Option, PutsEntries, Raised, RegionId, Some, [], ap, arith}
use Rattle.vm_kernel.proofs.Common.{count_on, cut_at, entry_at, false, has_region, if◌then◌else◌, length, nat_le, nat_lt, nat_tests, refl, region_entries}
use Rattle.vm_kernel.proofs.Common.{some_is, subst, sym, true, ℕ, ◌&&◌, ◌+◌, ◌<◌, ◌^◌, ◌∙◌, ◌∷◌, ◌≡◌, ◌≤◌}
use Rattle.vm_base.specs.declared.ids.Inherit.TheVariants.{Never}
use Rattle.vm_state.proofs.Changing.{Recounts}
use Rattle.vm_kernel.proofs.space.CountsChanged.{has_same, raised_none, raised_one}
use Rattle.vm_kernel.specs.Sweeping.{IsCutOn, first_region}

-- it is the entry that holds the boundary, if this begins in front of it

abbrev found_cut : ℕ → Option Entry → List Entry
found_cut boundary None = []
found_cut boundary (Some row) = if nat_lt row.address boundary then row ∷ [] else []

uncut : (boundary from to : ℕ) (rows : List Entry) → InOrder from to rows → boundary ≤ from → cut_at boundary rows ≡ []
uncut boundary from to [] order low = refl
uncut boundary from to (row ∷ rows) order low =
    let begins = order.0 in
    let out : (nat_lt row.address boundary && nat_lt boundary (row.address + row.bytes)) ≡ false = grind (arith, nat_tests) in
    rw out (uncut boundary (row.address + row.bytes) to rows order.1.1 (omega arith))

cut_found : (boundary from to : ℕ) (rows : List Entry) → InOrder from to rows → cut_at boundary rows ≡ found_cut boundary (entry_at boundary rows)
cut_found boundary from to [] order = refl
cut_found boundary from to (row ∷ rows) order =
    by_test (nat_le row.address boundary && nat_lt boundary (row.address + row.bytes)) refl (cut_found boundary (row.address + row.bytes) to rows order.1.1)
  where
    by_test : (b : Bool) → (nat_le row.address boundary && nat_lt boundary (row.address + row.bytes)) ≡ b
        → cut_at boundary rows ≡ found_cut boundary (entry_at boundary rows)
        → cut_at boundary (row ∷ rows) ≡ found_cut boundary (entry_at boundary (row ∷ rows))
    by_test true here later =
        let none : cut_at boundary rows ≡ [] = uncut boundary (row.address + row.bytes) to rows order.1.1 (grind (arith, nat_tests)) in
        let both : (nat_lt row.address boundary && nat_lt boundary (row.address + row.bytes)) ≡ nat_lt row.address boundary = grind (arith, nat_tests) in
        rw (here, both, none) refl
    by_test false away later =
        let out : (nat_lt row.address boundary && nat_lt boundary (row.address + row.bytes)) ≡ false = grind (arith, nat_tests) in
        rw (away, out) later

-- of one entry and a test
pub one_at_most : {A : Type 0} (entry : A) (b : Bool) → length (if b then entry ∷ [] else []) ≤ 1
one_at_most entry true = omega arith
one_at_most entry false = omega arith

pub cut_few : (boundary : ℕ) (rows : List Entry) → InOrder 0 (2 ^ 32) rows → length (cut_at boundary rows) ≤ 1
cut_few boundary rows order =
    let same = ap length (cut_found boundary 0 (2 ^ 32) rows order) in let few = found_few (entry_at boundary rows) in omega (arith, same, few)
  where
    found_few : (x : Option Entry) → length (found_cut boundary x) ≤ 1
    found_few None = omega arith
    found_few (Some row) = one_at_most row (nat_lt row.address boundary)

-- its region

pub cut_nowhere : (boundary : ℕ) (rows : List Entry) → InOrder 0 (2 ^ 32) rows → entry_at boundary rows ≡ None → IsCutOn None (cut_at boundary rows)
cut_nowhere boundary rows order found =
    let none : cut_at boundary rows ≡ [] = cut_found boundary 0 (2 ^ 32) rows order ∙ ap (found_cut boundary) found in
    record { is = sym (ap first_region none); few = cut_few boundary rows order }

pub cut_behind : (boundary : ℕ) (rows : List Entry) (row : Entry) → InOrder 0 (2 ^ 32) rows → entry_at boundary rows ≡ Some row → boundary ≤ row.address
    → IsCutOn None (cut_at boundary rows)
cut_behind boundary rows row order found behind =
    let out : nat_lt row.address boundary ≡ false = grind (arith, nat_tests) in
    let none : cut_at boundary rows ≡ [] = cut_found boundary 0 (2 ^ 32) rows order
    ∙ (ap (found_cut boundary) found ∙ ap (λ b. if b then row ∷ [] else []) out) in
    record { is = sym (ap first_region none); few = cut_few boundary rows order }

pub cut_inside : (boundary : ℕ) (rows : List Entry) (row : Entry) → InOrder 0 (2 ^ 32) rows → entry_at boundary rows ≡ Some row → row.address < boundary
    → IsCutOn (Some row.region) (cut_at boundary rows)
cut_inside boundary rows row order found inside =
    let in_front : nat_lt row.address boundary ≡ true = grind (arith, nat_tests) in
    let one : cut_at boundary rows ≡ row ∷ [] = cut_found boundary 0 (2 ^ 32) rows order
    ∙ (ap (found_cut boundary) found ∙ ap (λ b. if b then row ∷ [] else []) in_front) in
    record { is = sym (ap first_region one); few = cut_few boundary rows order }

-- it is there, where the regions of all entries are
pub cut_there : (chains : ChainTable) (boundary : ℕ) (rows : List Entry) (cut : Option RegionId) → AllRows (λ row. has_region chains row.region.0 ≡ true) rows
    → IsCutOn cut (cut_at boundary rows) → IfSome cut (λ region. has_region chains region.0 ≡ true)
cut_there chains boundary rows cut there on = first_there cut (cut_at boundary rows) (kept rows there) on.is
  where
    kept : (rows : List Entry) → AllRows (λ row. has_region chains row.region.0 ≡ true) rows
        → AllRows (λ row. has_region chains row.region.0 ≡ true) (cut_at boundary rows)
    kept [] all = tt
    kept (row ∷ rows) all = by_test (nat_lt row.address boundary && nat_lt boundary (row.address + row.bytes)) (kept rows all.1)
      where
        by_test : (b : Bool) → AllRows (λ row. has_region chains row.region.0 ≡ true) (cut_at boundary rows)
            → AllRows (λ row. has_region chains row.region.0 ≡ true) (if b then row ∷ cut_at boundary rows else cut_at boundary rows)
        by_test true later = (all.0, later)
        by_test false later = later

    first_there : (cut : Option RegionId) (some : List Entry) → AllRows (λ row. has_region chains row.region.0 ≡ true) some → cut ≡ first_region some
        → IfSome cut (λ region. has_region chains region.0 ≡ true)
    first_there None some all is = tt
    first_there (Some region) [] all is = absurd (let bad : Some region ≡ None = is in cc)
    first_there (Some region) (row ∷ some) all is = subst (λ (z : RegionId). has_region chains z.0 ≡ true) (sym (some_is region row.region is)) all.0

-- an entry on it

abbrev pub one_on : Option RegionId → List Entry
one_on None = []
one_on (Some region) = record { address = 0; bytes = 0; region = region; offset = 0; prot = record { read = false; write = false }; inherit = Never } ∷ []

pub one_is : (cut : Option RegionId) → IsCutOn cut (one_on cut)
one_is None = record { is = refl; few = omega arith }
one_is (Some region) = record { is = refl; few = omega arith }

pub cut_still : (cut : Option RegionId) (count : ℕ → ℕ) (old new : ChainTable) → Recounts count old new → IfSome cut (λ region. has_region old region.0 ≡ true)
    → IfSome cut (λ region. has_region new region.0 ≡ true)
cut_still None count old new is there = tt
cut_still (Some region) count old new is there = has_same count old new is region.0 ∙ there

-- it counts the entry once more

pub raised_uncut : (rows : List Entry) (chains : ChainTable) → IsCutOn None rows → Raised rows chains chains
raised_uncut [] chains on = raised_none chains
raised_uncut (row ∷ rows) chains on = absurd (let bad : None ≡ Some row.region = on.is in cc)

pub raised_cut : (region : RegionId) (rows : List Entry) (old new : ChainTable) → PutsEntries region.0 (region_entries old region.0 + 1) old new
    → IsCutOn (Some region) rows → Raised rows old new
raised_cut region [] old new put on = absurd (let bad : Some region ≡ None = on.is in cc)
raised_cut region (row ∷ []) old new put on =
    raised_one row old new (subst (λ (z : RegionId). PutsEntries z.0 (region_entries old z.0 + 1) old new) (some_is region row.region on.is) put)
raised_cut region (row ∷ next ∷ rows) old new put on = absurd (omega (arith, on.few))

-- how many there are on a region
pub on_cut_at : (r boundary : ℕ) (row : Entry) (rows : List Entry)
    → count_on r (cut_at boundary (row ∷ rows)) ≡ (if nat_lt row.address boundary && nat_lt boundary (row.address + row.bytes) then count_on r (row ∷ []) else
    0) + count_on r (cut_at boundary rows)
on_cut_at r boundary row rows = by_test (nat_lt row.address boundary && nat_lt boundary (row.address + row.bytes))
  where
    by_test : (b : Bool) → count_on r (if b then row ∷ cut_at boundary rows else cut_at boundary rows) ≡ (if b then count_on r (row ∷ []) else 0) + count_on r
        (cut_at boundary rows)
    by_test true = omega arith
    by_test false = omega arith
