-- A file gets a copy object: what is known of objects, and what stands on what.
use Rattle.vm_kernel.proofs.Common.{ChainTable, ObjectId, ObjectRow, ObjectTable, Option, Parts, PutsObject, Some, arith, if◌then◌else◌}
use Rattle.vm_kernel.proofs.Common.{inl, inr}
use Rattle.vm_kernel.proofs.Common.{object_at, one_case, refl, region_at, subst, sym, ℕ, ◌+◌, ◌<◌, ◌==◌, ◌∙◌, ◌≡◌}
use Rattle.std.specs.Prelude.{Bool, IfSome, true, false}
use Rattle.vm_copies.specs.Copies.{newest_at}
use Rattle.vm_kernel.specs.Delaying.{CanDelayFile, OnFile, Stands, Under}
use Rattle.vm_parts.proofs.Rows.{if_true}
use Rattle.vm_shadow.specs.Chains.{Rebases, shadow_at}

-- the newest copy of a file stands on it, page over page, and is older than the next object
pub older_stands : (file older : ObjectId) (row : ObjectRow) (k : Parts) (copy : ℕ) → CanDelayFile file.0 row k copy → newest_at k.copies file.0 ≡ Some older
    → (shadow_at k.chains older.0 ≡ Some (record { under = file; shift = 0 })) × (older.0 < copy)
older_stands file older row k copy can newest =
    let on = can.fits.stands file.0 older newest in (
      on.found ∙ (λ i. Some (record { under = record { 0 = on.under i }; shift = on.shift i })),
      can.below.shadows older.0 on.row on.found,
    )

-- behind the new copy object stands the file, and the older one stands on it still
pub stand_same : (file older copy : ObjectId) (row : ObjectRow) (k : Parts) (mid : ChainTable) → CanDelayFile file.0 row k copy.0
    → newest_at k.copies file.0 ≡ Some older → Rebases copy.0 file k.chains mid → shadow_at mid older.0 ≡ shadow_at mid copy.0
stand_same file older copy row k mid can newest stands =
    let was = older_stands file older row k copy.0 can newest in
    elim (one_case copy.0 older.0 (Some (record { under = file; shift = 0 })) (shadow_at k.chains older.0) (shadow_at mid older.0) (stands.at older.0)) [
      | inl same ↦ absurd (let is = same.0 in let less = was.1 in omega (arith, is, less))
      | inr other ↦
          other.1
          ∙ (was.0 ∙ sym (if_true copy.0 (Some (record { under = file; shift = 0 })) (shadow_at k.chains copy.0) (shadow_at mid copy.0) (stands.at copy.0)))
    ]

-- an object is known otherwise, twice
put_twice : (o : ℕ) (x y : Option ObjectRow) (a b c : ObjectTable) → PutsObject o x a b → PutsObject o y b c → PutsObject o y a c
put_twice o x y a b c first second = record { at = λ z. second.at z ∙ by (o == z) z (first.at z) }
  where
    by : (t : Bool) (z : ℕ) → object_at b z ≡ (if t then x else object_at a z) → (if t then y else object_at b z) ≡ (if t then y else object_at a z)
    by true z is = refl
    by false z is = is

-- an object that was put has one reference more
pub put_referred : (o : ℕ) (row : ObjectRow) (a b c : ObjectTable) → PutsObject o (Some row) a b
    → IfSome (object_at b o) (λ its. PutsObject o (Some (record its { references = its.references + 1 })) b c)
    → PutsObject o (Some (record row { references = row.references + 1 })) a c
put_referred o row a b c first second =
    put_twice o (Some row) (Some (record row { references = row.references + 1 })) a b c first
    (subst (λ (z : Option ObjectRow). IfSome z (λ its. PutsObject o (Some (record its { references = its.references + 1 })) b c))
    (if_true o (Some row) (object_at a o) (object_at b o) (first.at o)) second)

-- and so has another object
pub put_beside : (o other : ℕ) (x : Option ObjectRow) (row : ObjectRow) (a b c : ObjectTable) → PutsObject o x a b → (o ≡ other → ⊥)
    → object_at a other ≡ Some row
    → IfSome (object_at b other) (λ its. PutsObject other (Some (record its { references = its.references + 1 })) b c)
    → PutsObject other (Some (record row { references = row.references + 1 })) b c
put_beside o other x row a b c first apart known second =
    subst (λ (z : Option ObjectRow). IfSome z (λ its. PutsObject other (Some (record its { references = its.references + 1 })) b c)) there second
  where
    there : object_at b other ≡ Some row
    there = elim (one_case o other x (object_at a other) (object_at b other) (first.at other)) [
      | inl same ↦ absurd (apart same.0)
      | inr away ↦ away.1 ∙ known
    ]

-- each region is as it was
pub stands_regions : {file copy : ObjectId} {row : ObjectRow} {cs cs2 : ChainTable} {os os2 : ObjectTable} {older : Option ObjectId}
    → Stands file copy row cs cs2 os os2 older → region_at cs2 ≡ region_at cs
stands_regions (OnFile stands mid put refers) = stands.regions
stands_regions (Under older mid stands rebases put) = rebases.regions ∙ stands.regions
