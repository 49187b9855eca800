-- The row of a region that is there, and that nothing leads to one that is not.
use Rattle.vm_kernel.proofs.Common.{AllRows, ChainTable, Entry, IsInside, List, None, Option, RegionRow, Some, [], ap, eqb_tells, false, has_entry, has_region}
use Rattle.vm_kernel.proofs.Common.{inl, inr, is_some, refl, region_at, sym, true, with_entries, ℕ, ◌∙◌, ◌≡◌, ◌∷◌}
use Rattle.vm_state.proofs.Changing.{Recounts}
use Rattle.vm_state.proofs.Waited.{KeepsPlaces}

region_some : (x : Option RegionRow) → is_some x ≡ true → (row : RegionRow) × (x ≡ Some row)
region_some None some = absurd (let bad : false ≡ true = some in cc)
region_some (Some row) some = (row, refl)

pub region_row : (cs : ChainTable) (r : ℕ) → has_region cs r ≡ true → (row : RegionRow) × (region_at cs r ≡ Some row)
region_row cs r there = region_some (region_at cs r) there

-- a region that isn't there is none that is
pub apart_there : (chains : ChainTable) (n r : ℕ) → region_at chains n ≡ None → has_region chains r ≡ true → n ≡ r → ⊥
apart_there chains n r none there same = let bad : false ≡ true = sym (ap is_some none) ∙ (ap (has_region chains) same ∙ there) in cc

-- nothing leads to a region that isn't there
pub none_leads : (size : ℕ) (chains : ChainTable) (n : ℕ) (rows : List Entry) → region_at chains n ≡ None → AllRows (IsInside size chains) rows
    → has_entry n rows ≡ false
none_leads size chains n [] none all = refl
none_leads size chains n (row ∷ rows) none all = elim (eqb_tells row.region.0 n) [
  | inl same ↦ absurd (apart_there chains n row.region.0 none all.0.region (sym same.1))
  | inr apart ↦ rw apart.0 (none_leads size chains n rows none all.1)
]

-- regions that count anew are over the same pages
pub tops_recounted : (count : ℕ → ℕ) (old new : ChainTable) → Recounts count old new → KeepsPlaces old new
tops_recounted count old new is =
    record {
      tops =
          λ r row found. record { row_now = record row { entries = count r }; found = is.at r ∙ ap (with_entries (count r)) found; top = refl; shift = refl };
      shadows = λ o row found. is.shadows o ∙ found;
    }
