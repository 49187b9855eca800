-- No object of a host's tables is a copy of a file, so no store owes its page to one.
use Rattle.std.proofs.Common.{[], ◌∷◌, ◌≡◌, ◌≤◌, ◌∙◌, ◌||◌, ◌==◌, ℕ, Bool, true, false, List, Option, Some, None, ap, arith, refl, sym, inl, inr}
use Rattle.std.proofs.lemmas.Bool.{or_right}
use Rattle.std.proofs.lemmas.Bool.Decides.{nat_tests}
use Rattle.std.specs.Prelude.{if◌then◌else◌}
use Rattle.vm_abroad.proofs.Home.{copy_temporary}
use Rattle.vm_abroad.specs.Home.{HaveHomes}
use Rattle.vm_legal.proofs.Homes.{same_some}
use Rattle.vm_legal.specs.Pushes.{OwesPush}
use Rattle.vm_legal.specs.Used.{in_use}
use Rattle.vm_model.specs.declared.event.Event.{Event}
use Rattle.vm_model.specs.declared.event.Event.TheVariants as event
use Rattle.vm_model.specs.declared.script.Header.{Header}
use Rattle.vm_model.specs.Homes.{first_of, region_for}
use Rattle.vm_model.specs.Named.{named}
use Rattle.vm_model.specs.Regions.{backing_of, is_copy, newest_copy, region_of}
use Rattle.vm_objects.specs.Objects.{ObjectTable, PutsObject, SameObjects, object_at}
use Rattle.vm_objects.specs.declared.row.ObjectRow.{ObjectRow}
use Rattle.vm_shadow.specs.Chains.{ChainTable, region_at}
use Rattle.vm_shadow.specs.declared.ids.Ids.{Ids}
use Rattle.vm_shadow.specs.declared.region_row.RegionRow.{RegionRow}
use Rattle.vm_parts.proofs.Rows.{one_case}
use Rattle.vm_state.proofs.Knowing.{known_cases}
use Rattle.vm_state.proofs.Reaching.{temporary_down}
use Rattle.vm_state.specs.Stands.{HasRegions}

-- no known object is a copy
abbrev pub AreNoCopies : ObjectTable → (ℕ → Bool) → Type 0
AreNoCopies objects copy_at = (o : ℕ) (row : ObjectRow) → object_at objects o ≡ Some row → copy_at o ≡ false

-- all objects are known as they were
pub plain_same : (os os2 : ObjectTable) (copy_at : ℕ → Bool) → SameObjects os os2 → AreNoCopies os copy_at → AreNoCopies os2 copy_at
plain_same os os2 copy_at same plain = λ o row found. plain o row (sym (same.at o) ∙ found)

-- one more object is known that is none
pub plain_new : (o : ℕ) (new : ObjectRow) (os os2 : ObjectTable) (copy_at : ℕ → Bool) → PutsObject o (Some new) os os2 → copy_at o ≡ false
    → AreNoCopies os copy_at → AreNoCopies os2 copy_at
plain_new o new os os2 copy_at put its plain = λ x row found. elim (known_cases o new os os2 put x) [
  | inl this ↦ ap copy_at (sym this.0) ∙ its
  | inr other ↦ plain x row (sym other.1 ∙ found)
]

-- one object is known otherwise
pub plain_put : (o : ℕ) (row new : ObjectRow) (os os2 : ObjectTable) (copy_at : ℕ → Bool) → object_at os o ≡ Some row → PutsObject o (Some new) os os2
    → AreNoCopies os copy_at → AreNoCopies os2 copy_at
plain_put o row new os os2 copy_at found put plain = plain_new o new os os2 copy_at put (plain o row found) plain

-- an object goes
pub plain_gone : (o : ℕ) (os os2 : ObjectTable) (copy_at : ℕ → Bool) → PutsObject o None os os2 → AreNoCopies os copy_at → AreNoCopies os2 copy_at
plain_gone o os os2 copy_at put plain = λ x row found. elim (one_case o x None (object_at os x) (object_at os2 x) (put.at x)) [
  | inl this ↦ absurd (let bad : None ≡ Some row = sym this.1 ∙ found in cc)
  | inr other ↦ plain x row (sym other.1 ∙ found)
]

first_none : (b : Bool) (x : Option ℕ) (n : ℕ) → (if b then first_of x (Some n) else x) ≡ None → x ≡ None
first_none true None n is = refl
first_none true (Some m) n is = is
first_none false x n is = is

-- what wasn't made is no copy
pub unmade_plain : (o : ℕ) (past : List Event) → region_for o past ≡ None → is_copy o past ≡ false
unmade_plain o [] none = refl
unmade_plain o (event.RegionMade region object pages ∷ past) none =
    unmade_plain o past (first_none (object.0 == o) (region_for o past) region.0 none)
unmade_plain o (event.Shadowed region new old ∷ past) none = unmade_plain o past (first_none (new.0 == o) (region_for o past) region.0 none)
unmade_plain o (event.Delayed region source offset pages copy ∷ past) none = by (unmade_plain o past) (copy.0 == o) refl none
  where
    made : (x : Option ℕ) → first_of x (Some source.0) ≡ None → ⊥
    made None is = let bad : ◌≡◌ {A = Option ℕ} (Some source.0) None = is in cc
    made (Some m) is = let bad : Some m ≡ None = is in cc

    by : (region_for o past ≡ None → is_copy o past ≡ false) → (b : Bool) → (copy.0 == o) ≡ b
        → (if b then first_of (region_for o past) (Some source.0) else region_for o past) ≡ None → (o == copy.0 || is_copy o past) ≡ false
    by before true same is = absurd (made (region_for o past) is)
    by before false apart is =
        let other : (o == copy.0) ≡ false = grind (arith, nat_tests) in
        ap (λ b. b || is_copy o past) other ∙ before is
unmade_plain o (e ∷ past) none = unmade_plain o past none

-- the newest copy of a file is one
pub newest_is_copy : (file copy : ℕ) (past : List Event) → newest_copy file past ≡ Some copy → is_copy copy past ≡ true
newest_is_copy file copy [] is = absurd (let bad : ◌≡◌ {A = Option ℕ} None (Some copy) = is in cc)
newest_is_copy file copy (event.Delayed region source offset pages new ∷ past) is = by (newest_is_copy file copy past) (file == source.0) is
  where
    by : (newest_copy file past ≡ Some copy → is_copy copy past ≡ true) → (b : Bool) → (if b then Some new.0 else newest_copy file past) ≡ Some copy
        → (copy == new.0 || is_copy copy past) ≡ true
    by before true now =
        let one : new.0 ≡ copy = same_some new.0 copy now in
        let same : (copy == new.0) ≡ true = grind (arith, nat_tests) in
        ap (λ b. b || is_copy copy past) same
    by before false was = or_right (copy == new.0) (is_copy copy past) (before was)
newest_is_copy file copy (e ∷ past) is = newest_is_copy file copy past is

-- no store of the host owes its page to a copy
abbrev pub OwesNothing : Header → ℕ → List Event → Type 0
OwesNothing header h past = (object page copy : ℕ) → OwesPush header h object page copy past → ⊥

-- where no known object is one
pub owes_none : {header : Header} {h : ℕ} {chains : ChainTable} {objects : ObjectTable} {ids : Ids} {regions_made objects_made marked : ℕ} {past : List Event}
    → HasRegions chains objects ids (λ r. region_of header r past) (λ o. backing_of header o past) regions_made objects_made marked → HaveHomes header past
    → ((r : ℕ) → named header ≤ r → in_use header h r past ≡ true → (row : RegionRow) × (region_at chains r ≡ Some row))
    → AreNoCopies objects (λ o. is_copy o past) → OwesNothing header h past
owes_none {header = header} {h = h} {past = past} has homes there plain object page copy owes =
    let known = temporary_down has homes (λ r. in_use header h r past) there copy (copy_temporary header object copy past homes owes.newest) owes.lives in
    let bad : true ≡ false = sym (newest_is_copy object copy past owes.newest) ∙ plain copy known.row known.known in
    cc
