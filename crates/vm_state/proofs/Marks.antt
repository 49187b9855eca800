-- How many regions are marked, after an event that marks one or takes a mark.
use Rattle.std.proofs.Common.{◌≡◌, ℕ, zero, suc, ◌+◌, ◌<◌, ◌==◌, Bool, true, false, List, ◌∷◌, ap, refl, sym, ◌∙◌, subst, arith}
use Rattle.std.proofs.lemmas.Bool.Decides.{nat_tests}
use Rattle.std.specs.Prelude.{if◌then◌else◌}
use Rattle.vm_base.specs.declared.ids.ObjectId.{ObjectId}
use Rattle.vm_base.specs.declared.ids.RegionId.{RegionId}
use Rattle.vm_model.specs.declared.event.Event.{Event}
use Rattle.vm_model.specs.declared.event.Event.TheVariants as event
use Rattle.vm_model.specs.declared.script.Header.{Header}
use Rattle.vm_model.specs.Regions.{Region, marked_below, marked_regions, next_region, region_of}
use Rattle.vm_parts.specs.Changes.{one}
use Rattle.vm_state.specs.Counts.{marked_in, marks_of}
use Rattle.vm_state.specs.References.{tally}
use Rattle.vm_state.proofs.Tallies.{tally_put, tally_same, tally_some}

-- the region is marked
abbrev pub is_marked : Header → List Event → ℕ → Bool
is_marked header past r = (region_of header r past).mark

-- the regions that the history counts
pub regions_marked : (header : Header) (past : List Event) → marked_regions header past ≡ marks_of header past
regions_marked header past = go (next_region header past)
  where
    go : (n : ℕ) → marked_below header n past ≡ marked_in n (λ r. region_of header r past)
    go zero = refl
    go (suc n) = ap (λ z. if (region_of header n past).mark then z + 1 else z) (go n)

-- as many are marked where each has its mark still
pub marks_still : (n : ℕ) (was now : ℕ → Region) → ((r : ℕ) → (now r).mark ≡ (was r).mark) → marked_in n now ≡ marked_in n was
marks_still zero was now same = refl
marks_still (suc n) was now same = rw (same n, marks_still n was now same) refl

one_more : (b : Bool) (n : ℕ) → (if b then n + 1 else n) ≡ one b + n
one_more true n = omega arith
one_more false n = omega arith

pub marks_counted : (header : Header) (n : ℕ) (past : List Event) → marked_in n (λ r. region_of header r past) ≡ tally (is_marked header past) n
marks_counted header zero past = refl
marks_counted header (suc n) past =
    one_more (is_marked header past n) (marked_in n (λ r. region_of header r past)) ∙ ap (λ z. one (is_marked header past n) + z) (marks_counted header n past)

-- with one number more
marks_next : (header : Header) (n : ℕ) (past : List Event)
    → marked_in (n + 1) (λ r. region_of header r past) ≡ one (is_marked header past n) + tally (is_marked header past) n
marks_next header n past =
    subst (λ (k : ℕ). marked_in k (λ r. region_of header r past) ≡ one (is_marked header past n) + tally (is_marked header past) n)
    (let same : suc n ≡ n + 1 = omega arith in same) (marks_counted header (suc n) past)

is_self : (n m : ℕ) → n ≡ m → (n == m) ≡ true
is_self n m same = grind (arith, nat_tests)

not_self : (n m : ℕ) → (n ≡ m → ⊥) → (n == m) ≡ false
not_self n m apart = grind (arith, nat_tests)

pub marked_some : (header : Header) (past : List Event) (r : ℕ) → r < next_region header past → (region_of header r past).mark ≡ true
    → 0 < marks_of header past
marked_some header past r less marked =
    let some = tally_some (is_marked header past) (next_region header past) r less marked in
    let is = marks_counted header (next_region header past) past in
    omega (arith, some, is)

-- one of the regions that are there loses its mark
one_fewer : (header : Header) (past now : List Event) (region : ℕ) → region < next_region header past → (region_of header region past).mark ≡ true
    → ((r : ℕ) → is_marked header now r ≡ (if r == region then false else is_marked header past r))
    → marked_in (next_region header past) (λ r. region_of header r now) + 1 ≡ marks_of header past
one_fewer header past now region less marked changed =
    let n = next_region header past in
    let put = tally_put (is_marked header past) (is_marked header now) n region less
    (λ m apart. changed m ∙ ap (λ b. if b then false else is_marked header past m) (not_self m region (λ eq. apart (sym eq)))) in
    let was : one (is_marked header past region) ≡ 1 = ap one marked in
    let is : one (is_marked header now region) ≡ 0 = ap one (changed region)
    ∙ ap (λ b. one (if b then false else is_marked header past region)) (is_self region region refl) in
    let before = marks_counted header n past in
    let after = marks_counted header n now in
    omega (arith, put, was, is, before, after)

-- a region that gets an object of its own loses its mark
pub marked_shadowed : (header : Header) (past : List Event) (region : RegionId) (new old : ObjectId) → region.0 < next_region header past
    → (region_of header region.0 past).mark ≡ true
    → marks_of header (event.Shadowed region new old ∷ past) + 1 ≡ marks_of header past
marked_shadowed header past region new old less marked =
    one_fewer header past (event.Shadowed region new old ∷ past) region.0 less marked (λ r. refl)

-- and so does one that keeps its object
pub marked_unmarked : (header : Header) (past : List Event) (region : RegionId) → region.0 < next_region header past
    → (region_of header region.0 past).mark ≡ true
    → marks_of header (event.Unmarked region ∷ past) + 1 ≡ marks_of header past
marked_unmarked header past region less marked = one_fewer header past (event.Unmarked region ∷ past) region.0 less marked (λ r. refl)

-- a new region has no mark
pub marked_made : (header : Header) (past : List Event) (region : RegionId) (object : ObjectId) (pages : ℕ) → region.0 ≡ next_region header past
    → marks_of header (event.RegionMade region object pages ∷ past) ≡ marks_of header past
marked_made header past region object pages new =
    let now = event.RegionMade region object pages ∷ past in
    let n = next_region header past in
    let same = tally_same (is_marked header past) (is_marked header now) n
    (λ m less. ap (λ b. if b then false else is_marked header past m) (not_self m region.0
    (λ eq. let small : m < next_region header past = less in omega (arith, eq, new, small)))) in
    let none : one (is_marked header now n) ≡ 0 = ap (λ b. one (if b then false else is_marked header past n)) (is_self n region.0 (sym new)) in
    let before = marks_counted header n past in
    let after = marks_next header n now in
    omega (arith, same, none, before, after)

-- the region of a delayed copy has one
pub marked_delayed : (header : Header) (past : List Event) (region source : RegionId) (offset pages : ℕ) (copy : ObjectId)
    → region.0 ≡ next_region header past → marks_of header (event.Delayed region source offset pages copy ∷ past) ≡ marks_of header past + 1
marked_delayed header past region source offset pages copy new =
    let now = event.Delayed region source offset pages copy ∷ past in
    let n = next_region header past in
    let same = tally_same (is_marked header past) (is_marked header now) n
    (λ m less. ap (λ b. if b then true else is_marked header past m) (not_self m region.0
    (λ eq. let small : m < next_region header past = less in omega (arith, eq, new, small)))) in
    let its : one (is_marked header now n) ≡ 1 = ap (λ b. one (if b then true else is_marked header past n)) (is_self n region.0 (sym new)) in
    let before = marks_counted header n past in
    let after = marks_next header n now in
    omega (arith, same, its, before, after)

-- the marks with that of a source
abbrev source_marked : Header → List Event → ℕ → ℕ → Bool
source_marked header past source r = if r == source then true else is_marked header past r

-- a copy has a mark, and its source has one from then on
pub marked_copied : (header : Header) (past : List Event) (region source : RegionId) (offset pages : ℕ) → region.0 ≡ next_region header past
    → source.0 < next_region header past
    → marks_of header (event.RegionCopied region source offset pages ∷ past) ≡ marks_of header
    past + (if (region_of header source.0 past).mark then 1 else 2)
marked_copied header past region source offset pages new less =
    let now = event.RegionCopied region source offset pages ∷ past in
    let n = next_region header past in
    let same = tally_same (source_marked header past source.0) (is_marked header now) n
    (λ m small. ap (λ b. if b then true else source_marked header past source.0 m)
    (not_self m region.0 (λ eq. let smaller : m < next_region header past = small in omega (arith, eq, new, smaller)))) in
    let put = tally_put (is_marked header past) (source_marked header past source.0) n source.0 less
    (λ m apart. ap (λ b. if b then true else is_marked header past m) (not_self m source.0 (λ eq. apart (sym eq)))) in
    let has : one (source_marked header past source.0 source.0) ≡ 1 = ap (λ b. one (if b then true else is_marked header past source.0))
    (is_self source.0 source.0 refl) in
    let copy : one (is_marked header now n) ≡ 1 = ap (λ b. one (if b then true else source_marked header past source.0 n)) (is_self n region.0 (sym new)) in
    let before = marks_counted header n past in
    let after = marks_next header n now in
    let added = costs (is_marked header past source.0) in
    omega (arith, same, put, has, copy, before, after, added)
  where
    costs : (b : Bool) → (if b then 1 else 2) + one b ≡ 2
    costs true = refl
    costs false = refl
