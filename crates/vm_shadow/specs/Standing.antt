-- How many shadows stand on each object, as the tallies keep it.
use Rattle.std.specs.Map.{lookup}
use Rattle.std.specs.Option.{unwrap_or}
use Rattle.std.specs.Prelude.{ℕ, ◌≡◌, ◌+◌, ◌-◌, ◌<◌, ◌≤◌, ◌==◌, List}
use Rattle.vm_base.specs.declared.ids.ObjectId.{ObjectId}
use Rattle.vm_shadow.specs.declared.tally.Tally.{Tally}

-- the tally of each object under some shadow, and how many further shadows are tallied without memory
pub record TallyTable : Type 0 where
  pub rows : List (ObjectId × Tally)
  pub spare : ℕ

-- no shadow is tallied
abbrev pub no_tally : Tally
no_tally = record { count = 0; sum = 0 }

-- the tally of an object
abbrev pub tally_at : TallyTable → ℕ → Tally
tally_at table o = unwrap_or (lookup (λ id. o == id.0) table.rows) no_tally

-- a tally with a shadow of this number more
abbrev pub with_shadow : ℕ → Tally → Tally
with_shadow n tally = record { count = tally.count + 1; sum = tally.sum + n }

-- a tally without a shadow of this number
abbrev pub without_shadow : ℕ → Tally → Tally
without_shadow n tally = record { count = tally.count - 1; sum = tally.sum - n }

-- a tally with a shadow of one number in place of one of another
abbrev pub renumbered : ℕ → ℕ → Tally → Tally
renumbered from to tally = record { count = tally.count; sum = tally.sum - from + to }

-- a shadow of this number can be among those that are tallied
pub record HasNumber (n : ℕ) (tally : Tally) : Type 0 where
  pub some : 0 < tally.count
  pub within : n ≤ tally.sum
  pub last : tally.count ≡ 1 → tally.sum ≡ n
