-- Regions that count other entries, and are as they were else.
use Rattle.vm_kernel.proofs.Common.{AllRows, ChainTable, Entry, List, None, Option, PutsEntries, Raised, RegionRow, Some, [], ap, arith, count_on, drop}
use Rattle.vm_kernel.proofs.Common.{drop-cons, entries_in_row, eqb_tells, false, get_or, get_or_from_slice_get, has_region, if◌then◌else◌, inl, inr, is_some}
use Rattle.vm_kernel.proofs.Common.{length, pages_in, refl, region_at, region_entries, region_pages, slice_get_within, subst, suc, sym}
use Rattle.vm_kernel.proofs.Common.{take, take_more, true, with_entries, zero, ℕ, ◌++◌, ◌+◌, ◌==◌, ◌∙◌, ◌∷◌, ◌≡◌, ◌≤◌}
use Rattle.std.proofs.Common.{slice_get}
use Rattle.vm_state.proofs.Changing.{Recounts, SameButEntries}
use Rattle.vm_kernel.proofs.space.EntriesCounted.{on_append, on_few}

-- they are the same but for these counts
pub recounts_but : (count : ℕ → ℕ) (old new : ChainTable) → Recounts count old new → SameButEntries old new
recounts_but count old new is = record { count = count; recounts = is }

-- one row with another count
has_with : (n : ℕ) (x : Option RegionRow) → is_some (with_entries n x) ≡ is_some x
has_with n None = refl
has_with n (Some row) = refl

pages_with : (n : ℕ) (x : Option RegionRow) → pages_in (with_entries n x) ≡ pages_in x
pages_with n None = refl
pages_with n (Some row) = refl

entries_with : (n : ℕ) (x : Option RegionRow) → entries_in_row (with_entries n x) ≤ n
entries_with n None = omega arith
entries_with n (Some row) = omega arith

entries_there : (n : ℕ) (x : Option RegionRow) → is_some x ≡ true → entries_in_row (with_entries n x) ≡ n
entries_there n None there = absurd (let bad : false ≡ true = there in cc)
entries_there n (Some row) there = refl

with_own : (x : Option RegionRow) → x ≡ with_entries (entries_in_row x) x
with_own None = refl
with_own (Some row) = refl

with_twice : (n m : ℕ) (x : Option RegionRow) → with_entries n (with_entries m x) ≡ with_entries n x
with_twice n m None = refl
with_twice n m (Some row) = refl

pub has_same : (count : ℕ → ℕ) (old new : ChainTable) → Recounts count old new → (r : ℕ) → has_region new r ≡ has_region old r
has_same count old new is r = ap is_some (is.at r) ∙ has_with (count r) (region_at old r)

pub pages_same : (count : ℕ → ℕ) (old new : ChainTable) → Recounts count old new → (r : ℕ) → region_pages new r ≡ region_pages old r
pages_same count old new is r = ap pages_in (is.at r) ∙ pages_with (count r) (region_at old r)

pub entries_most : (count : ℕ → ℕ) (old new : ChainTable) → Recounts count old new → (r : ℕ) → region_entries new r ≤ count r
entries_most count old new is r = let e = ap entries_in_row (is.at r) in let le = entries_with (count r) (region_at old r) in omega arith

pub entries_are : (count : ℕ → ℕ) (old new : ChainTable) → Recounts count old new → (r : ℕ) → has_region old r ≡ true → region_entries new r ≡ count r
entries_are count old new is r there = ap entries_in_row (is.at r) ∙ entries_there (count r) (region_at old r) there

pub recounts_same : (chains : ChainTable) → Recounts (region_entries chains) chains chains
recounts_same chains = record { at = λ r. with_own (region_at chains r); shadows = λ o. refl }

pub recounts_twice : (one two : ℕ → ℕ) (old mid new : ChainTable) → Recounts one old mid → Recounts two mid new → Recounts two old new
recounts_twice one two old mid new a b =
    record { at = λ r. b.at r ∙ (ap (with_entries (two r)) (a.at r) ∙ with_twice (two r) (one r) (region_at old r)); shadows = λ o. b.shadows o ∙ a.shadows o }

pub recounts_as : (one two : ℕ → ℕ) (old new : ChainTable) → Recounts one old new → ((r : ℕ) → has_region old r ≡ true → one r ≡ two r) → Recounts two old new
recounts_as one two old new a same = record { at = λ r. a.at r ∙ go (one r) (two r) (region_at old r) (same r); shadows = a.shadows }
  where
    go : (n m : ℕ) (x : Option RegionRow) → (is_some x ≡ true → n ≡ m) → with_entries n x ≡ with_entries m x
    go n m None e = refl
    go n m (Some row) e = ap (λ z. Some (record row { entries = z })) (e refl)

-- one region counts anew
pub recounts_put : (region n : ℕ) (old new : ChainTable) → PutsEntries region n old new
    → Recounts (λ r. if region == r then n else region_entries old r) old new
recounts_put region n old new put = record {
  at = λ r. elim (eqb_tells region r) [
    | inl same ↦
        put.at r ∙ (ap (λ b. if b then with_entries n (region_at old region) else region_at old r) same.0
        ∙ (ap (λ z. with_entries n (region_at old z)) same.1 ∙ ap (λ b. with_entries (if b then n else region_entries old r) (region_at old r)) (sym same.0)))
    | inr apart ↦
        put.at r ∙ (ap (λ b. if b then with_entries n (region_at old region) else region_at old r) apart.0
        ∙ (with_own (region_at old r) ∙ ap (λ b. with_entries (if b then n else region_entries old r) (region_at old r)) (sym apart.0)))
  ];
  shadows = λ o. ap (λ f. f o) put.shadows;
}

-- lists of entries, one after another

pub next_row : (rows : List Entry) (i : ℕ) (entry : Entry) → slice_get rows i ≡ Some entry → drop i rows ≡ entry ∷ drop (i + 1) rows
next_row rows i entry found =
    let inside = slice_get_within rows i entry found in
    let here : get_or rows i entry ≡ entry = get_or_from_slice_get rows i entry entry found in
    let next : suc i ≡ i + 1 = omega arith in
    drop-cons rows i entry inside ∙ (ap (λ z. z ∷ drop (suc i) rows) here ∙ ap (λ z. entry ∷ drop z rows) next)

pub more_taken : {A : Type 0} (rows : List A) (i : ℕ) (entry : A) → slice_get rows i ≡ Some entry → take (i + 1) rows ≡ take i rows ++ entry ∷ []
more_taken rows i entry found =
    take_more rows i entry (slice_get_within rows i entry found) ∙ ap (λ z. take i rows ++ z ∷ []) (get_or_from_slice_get rows i entry entry found)

pub row_among : (P : Entry → Type 0) (rows : List Entry) (i : ℕ) (entry : Entry) → AllRows P rows → slice_get rows i ≡ Some entry → P entry
row_among P [] i entry all found = absurd (let bad = slice_get_within [] i entry found in omega arith)
row_among P (row ∷ rows) zero entry all found = subst P (let same : row ≡ entry = cc in same) all.0
row_among P (row ∷ rows) (suc i) entry all found = row_among P rows i entry all.1 found

-- counts go up

pub raised_recounts : (rows : List Entry) (old new : ChainTable) → Raised rows old new → Recounts (λ r. region_entries old r + count_on r rows) old new
raised_recounts rows old new is = record { at = is.at; shadows = is.shadows }

raised_by : (rows : List Entry) (count : ℕ → ℕ) (old new : ChainTable) → Recounts count old new
    → ((r : ℕ) → has_region old r ≡ true → count r ≡ region_entries old r + count_on r rows) → Raised rows old new
raised_by rows count old new is same =
    let all = recounts_as count (λ r. region_entries old r + count_on r rows) old new is same in record { at = all.at; shadows = all.shadows }

pub raised_none : (chains : ChainTable) → Raised [] chains chains
raised_none chains = raised_by [] (region_entries chains) chains chains (recounts_same chains) (λ r there. omega arith)

pub raised_one : (row : Entry) (old new : ChainTable) → PutsEntries row.region.0 (region_entries old row.region.0 + 1) old new → Raised (row ∷ []) old new
raised_one row old new put =
    raised_by (row ∷ []) (λ r. if row.region.0 == r then region_entries old row.region.0 + 1 else region_entries old r) old new
    (recounts_put row.region.0 (region_entries old row.region.0 + 1) old new put)
    (λ r there. elim (eqb_tells row.region.0 r) [
      | inl same ↦ rw same.0 (ap (λ z. region_entries old z + 1) same.1)
      | inr apart ↦ rw apart.0 (omega arith)
    ])

pub raised_twice : (one two : List Entry) (old mid new : ChainTable) → Raised one old mid → Raised two mid new → Raised (one ++ two) old new
raised_twice one two old mid new first second =
    let low = raised_recounts one old mid first in
    raised_by (one ++ two) (λ r. region_entries mid r + count_on r two) old new
    (recounts_twice (λ r. region_entries old r + count_on r one) (λ r. region_entries mid r + count_on r two) old mid new low
    (raised_recounts two mid new second))
    (λ r there. let was = entries_are (λ r. region_entries old r + count_on r one) old mid low r there in let sum = on_append r one two in omega arith)

-- by one entry at most
pub raised_few : (rows : List Entry) (old new : ChainTable) → Raised rows old new → length rows ≤ 1 → (r : ℕ) → region_entries new r ≤ region_entries old r + 1
raised_few rows old new up few r =
    let le = entries_most (λ r. region_entries old r + count_on r rows) old new (raised_recounts rows old new up) r in
    let on = on_few r rows in
    omega arith
