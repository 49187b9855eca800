-- What the commands on a task's entries make of them, and what they lose.
use Rattle.vm_kernel.proofs.Common.{AllEntriesInside, AllRows, ChainTable, Entry, HoldsOfParts, Inherit, IsInside, List, Prot, [], arith, count_on, cut}
use Rattle.vm_kernel.proofs.Common.{cut_at_ends, false, has_entry, has_region, inherited, inside_part, is_range, length, most_entries, nat_tests, parts_in}
use Rattle.vm_kernel.proofs.Common.{protected, refl, region_pages, removed, rewritten, rows_cut, rows_flat, rows_known, rows_map, rows_rewritten, subst, true}
use Rattle.vm_kernel.proofs.Common.{ℕ, ◌+◌, ◌<◌, ◌^◌, ◌∷◌, ◌≡◌, ◌≤◌}
use Rattle.vm_kernel.proofs.space.EntriesRewritten.{IsSpan, on_kept, on_removed}
use Rattle.vm_legal.specs.Refusal.{are_too_many}

-- what is made of a task's entries, what is lost of them, and those cut, once for each cut
pub record Cuts (size : ℕ) (chains : ChainTable) (rows made lost more : List Entry) : Type 0 where
  pub inside : AllEntriesInside size chains made
  pub own : AllRows (λ row. has_entry row.region.0 rows ≡ true) made
  pub known : AllRows (λ row. has_region chains row.region.0 ≡ true) lost
  pub gone : AllRows (λ row. has_entry row.region.0 rows ≡ true) lost
  pub few : length made ≤ most_entries
  pub sums : (r : ℕ) → count_on r made + count_on r lost ≡ count_on r rows + count_on r more

-- a range of addresses below 2^32 that leaves a task no more entries than it may have
pub record MayCut (address bytes : ℕ) (made : List Entry) : Type 0 where
  pub some : 0 < bytes
  pub below : address + bytes ≤ 2 ^ 32
  pub few : length made ≤ most_entries

pub may_cut : (size address bytes : ℕ) (made : List Entry) → is_range size address bytes ≡ true → are_too_many made ≡ false → MayCut address bytes made
may_cut size address bytes made range few = record { some = grind (arith, nat_tests); below = grind (arith, nat_tests); few = grind (arith, nat_tests) }

-- an entry of the rows, within its region
abbrev pub IsOwn : ℕ → ChainTable → List Entry → Entry → Type 0
IsOwn size chains rows row = IsInside size chains row × (has_entry row.region.0 rows ≡ true)

pub own_parts : (size : ℕ) (chains : ChainTable) (rows : List Entry) → HoldsOfParts size (IsOwn size chains rows)
own_parts size chains rows row start end is low less high = (
  record {
    region = is.0.region;
    some = omega arith;
    below = let below = is.0.below in omega arith;
    inside = inside_part size (region_pages chains row.region.0) row start end is.0.inside low less high;
  },
  is.1,
)

pub spans : (size : ℕ) (chains : ChainTable) (rows : List Entry) → AllEntriesInside size chains rows → AllRows IsSpan rows
spans size chains rows all = rows_map (IsInside size chains) IsSpan (λ row is. record { some = is.some; below = is.below }) rows all

cuts_kept : (size address bytes : ℕ) (chains : ChainTable) (becomes : Entry → List Entry) (rows : List Entry)
    → ((r : ℕ) (row : Entry) → count_on r (becomes row) ≡ count_on r (row ∷ []))
    → ((row : Entry) → IsOwn size chains rows row → AllRows (IsOwn size chains rows) (becomes row)) → AllEntriesInside size chains rows
    → MayCut address bytes (rewritten becomes size address bytes rows)
    → Cuts size chains rows (rewritten becomes size address bytes rows) [] (cut_at_ends address bytes rows)
cuts_kept size address bytes chains becomes rows same each all may =
    let made = rewritten becomes size address bytes rows in
    let both : AllRows (IsOwn size chains rows) made = rows_rewritten size (IsOwn size chains rows) becomes (own_parts size chains rows) each address bytes rows
    (rows_known (IsInside size chains) rows all) in
    record {
      inside = rows_map (IsOwn size chains rows) (IsInside size chains) (λ row is. is.0) made both;
      own = rows_map (IsOwn size chains rows) (λ row. has_entry row.region.0 rows ≡ true) (λ row is. is.1) made both;
      known = tt;
      gone = tt;
      few = may.few;
      sums = λ r. omega (arith, on_kept r size address bytes becomes rows may.some may.below (same r) (spans size chains rows all));
    }

with_prot : (size : ℕ) (chains : ChainTable) (rows : List Entry) (prot : Prot) (row : Entry) → IsOwn size chains rows row
    → AllRows (IsOwn size chains rows) (record row { prot = prot } ∷ [])
with_prot size chains rows prot row is =
    ((record { region = is.0.region; some = is.0.some; below = is.0.below; inside = record { whole = is.0.inside.whole; each = is.0.inside.each } }, is.1), tt)

with_inherit : (size : ℕ) (chains : ChainTable) (rows : List Entry) (inherit : Inherit) (row : Entry) → IsOwn size chains rows row
    → AllRows (IsOwn size chains rows) (record row { inherit = inherit } ∷ [])
with_inherit size chains rows inherit row is =
    ((record { region = is.0.region; some = is.0.some; below = is.0.below; inside = record { whole = is.0.inside.whole; each = is.0.inside.each } }, is.1), tt)

-- entries get a protection, or an inheritance

pub protect_cuts : (size address bytes : ℕ) (prot : Prot) (chains : ChainTable) (rows : List Entry) → AllEntriesInside size chains rows
    → MayCut address bytes (protected size address bytes prot rows)
    → Cuts size chains rows (protected size address bytes prot rows) [] (cut_at_ends address bytes rows)
protect_cuts size address bytes prot chains rows all may =
    cuts_kept size address bytes chains (λ row. record row { prot = prot } ∷ []) rows (λ r row. refl) (with_prot size chains rows prot) all may

pub inherit_cuts : (size address bytes : ℕ) (inherit : Inherit) (chains : ChainTable) (rows : List Entry) → AllEntriesInside size chains rows
    → MayCut address bytes (inherited size address bytes inherit rows)
    → Cuts size chains rows (inherited size address bytes inherit rows) [] (cut_at_ends address bytes rows)
inherit_cuts size address bytes inherit chains rows all may =
    cuts_kept size address bytes chains (λ row. record row { inherit = inherit } ∷ []) rows (λ r row. refl) (with_inherit size chains rows inherit) all may

-- all its entries are lost
pub ended_cuts : (size : ℕ) (chains : ChainTable) (rows gone : List Entry) → AllEntriesInside size chains rows → rows ≡ gone → Cuts size chains rows [] gone []
ended_cuts size chains rows gone all same =
    subst (λ (z : List Entry). Cuts size chains rows [] z []) same (record {
      inside = tt;
      own = tt;
      known = rows_map (IsInside size chains) (λ row. has_region chains row.region.0 ≡ true) (λ row is. is.region) rows all;
      gone = rows_map (IsOwn size chains rows) (λ row. has_entry row.region.0 rows ≡ true) (λ row is. is.1) rows (rows_known (IsInside size chains) rows all);
      few = omega arith;
      sums = λ r. omega arith;
    })

-- a range is unmapped
pub removed_cuts : (size address bytes : ℕ) (chains : ChainTable) (rows : List Entry) → AllEntriesInside size chains rows
    → MayCut address bytes (removed size address bytes rows)
    → Cuts size chains rows (removed size address bytes rows) (parts_in size address bytes rows) (cut_at_ends address bytes rows)
removed_cuts size address bytes chains rows all may =
    let own = rows_known (IsInside size chains) rows all in
    let made = removed size address bytes rows in
    let gone = parts_in size address bytes rows in
    let left : AllRows (IsOwn size chains rows) made = rows_rewritten size (IsOwn size chains rows) (λ row. []) (own_parts size chains rows) (λ row is. tt)
    address bytes rows own in
    let away : AllRows (IsOwn size chains rows) gone = rows_flat (IsOwn size chains rows) (cut size address (address + bytes))
    (λ row is. rows_cut size (IsOwn size chains rows) (own_parts size chains rows) address (address + bytes) row is) rows own in
    record {
      inside = rows_map (IsOwn size chains rows) (IsInside size chains) (λ row is. is.0) made left;
      own = rows_map (IsOwn size chains rows) (λ row. has_entry row.region.0 rows ≡ true) (λ row is. is.1) made left;
      known = rows_map (IsOwn size chains rows) (λ row. has_region chains row.region.0 ≡ true) (λ row is. is.0.region) gone away;
      gone = rows_map (IsOwn size chains rows) (λ row. has_entry row.region.0 rows ≡ true) (λ row is. is.1) gone away;
      few = may.few;
      sums = λ r. on_removed r size address bytes rows may.some may.below (spans size chains rows all);
    }
