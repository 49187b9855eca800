-- Entries on shared and wild objects are not to be copied by a fork, whatever is made of the entries; and regions that count others are over what they were.
use Rattle.vm_kernel.proofs.Common.{AllRows, AreShared, Bool, ChainTable, ChangesOnly, Entry, HasKinds, Header, Inherit, IsShared, List, Mapped, ObjectTable}
use Rattle.vm_kernel.proofs.Common.{Option, Prot, ap, RegionRow, Some, [], arith, cut, entered, eqb_tells, false, flat_map, inherited, inl, inr, is_copied, max}
use Rattle.vm_kernel.proofs.Common.{meets_uncopied, meets_range, min, named, nat_lt, nat_tests, part, protected, refl, rows_cut, rows_entered, rows_in}
use Rattle.vm_kernel.proofs.Common.{rows_rewritten, subst, sym, true, unwrap_or, ℕ, ◌&&◌, ◌++◌, ◌+◌, ◌<◌, ◌^◌, ◌∙◌, ◌∷◌, ◌≡◌, ◌≤◌}
use Rattle.std.specs.Prelude.{if◌then◌else◌, not, ◌||◌}
use Rattle.std.proofs.lemmas.Bool.{or_parts}
use Rattle.vm_base.specs.declared.ids.Inherit.TheVariants as inherit
use Rattle.vm_legal.specs.Licences.{is_paged}
use Rattle.vm_legal.specs.Outside.{is_file}
use Rattle.vm_model.specs.Rows.{rows_append}
use Rattle.vm_state.proofs.Changing.{Recounts, row_before}

-- an entry on a temporary region may be copied
pub temporary_shared : (header : Header) (row : Entry) → named header ≤ row.region.0 → IsShared header row
temporary_shared header row least less other = absurd (omega (arith, least, less))

-- and so may one on a region whose copies are delayed
pub paged_shared : (header : Header) (row : Entry) → is_paged header row.region.0 ≡ true → IsShared header row
paged_shared header row paged less other =
    let below : nat_lt row.region.0 (named header) ≡ true = grind (arith, nat_tests) in
    absurd (let bad : true ≡ false = sym paged ∙ (ap (λ b. not b || is_file header row.region.0) below ∙ other) in cc)

-- the entries of one task are others
pub shared_changed : (header : Header) (task : ℕ) (maps new : Mapped) (rows : Option (List Entry)) → ChangesOnly maps new task rows
    → AllRows (IsShared header) (unwrap_or rows []) → AreShared header maps → AreShared header new
shared_changed header task maps new rows changes own has t = elim (eqb_tells task t) [
  | inl same ↦
      subst (λ (z : ℕ). AllRows (IsShared header) (rows_in z new)) same.1
      (subst (λ (z : Option (List Entry)). AllRows (IsShared header) (unwrap_or z [])) (sym changes.changed) own)
  | inr apart ↦ subst (λ (z : Option (List Entry)). AllRows (IsShared header) (unwrap_or z [])) (sym (changes.others t (λ e. apart.1 (sym e)))) (has t)
]

-- a task has an entry more
pub shared_entered : (header : Header) (task : ℕ) (maps new : Mapped) (row : Entry) → ChangesOnly maps new task (Some (entered row (rows_in task maps)))
    → IsShared header row → AreShared header maps → AreShared header new
shared_entered header task maps new row changes its has =
    shared_changed header task maps new (Some (entered row (rows_in task maps))) changes
    (rows_entered (IsShared header) row (rows_in task maps) its (has task)) has

-- entries that are cut keep their inheritance

pub shared_protected : (header : Header) (size address bytes : ℕ) (prot : Prot) (rows : List Entry) → AllRows (IsShared header) rows
    → AllRows (IsShared header) (protected size address bytes prot rows)
shared_protected header size address bytes prot rows all =
    rows_rewritten size (IsShared header) (λ row. record row { prot = prot } ∷ []) (λ row start end is low less high. is) (λ row is. (is, tt)) address bytes
    rows all

-- none of them is in a range that is to be copied
copied_apart : (header : Header) (size address bytes : ℕ) (rows : List Entry) → AllRows (IsShared header) rows
    → meets_uncopied header address bytes rows ≡ false
    → AllRows (IsShared header) (inherited size address bytes inherit.Copy rows)
copied_apart header size address bytes [] all apart = tt
copied_apart header size address bytes (row ∷ rows) all apart =
    let tests = or_parts (not (is_paged header row.region.0) && meets_range address bytes (row ∷ [])) (meets_uncopied header address bytes rows) apart in
    let later = copied_apart header size address bytes rows all.1 tests.1 in
    let back = cut size (address + bytes) (2 ^ 32) row in
    let middle = flat_map becomes (cut size address (address + bytes) row) in
    rows_append (IsShared header) (cut size 0 address row) (middle ++ (back ++ inherited size address bytes inherit.Copy rows))
    (rows_cut size (IsShared header) (λ part_of start end is low less high. is) 0 address row all.0)
    (rows_append (IsShared header) middle (back ++ inherited size address bytes inherit.Copy rows)
    (inner (nat_lt (max address row.address) (min (address + bytes) (row.address + row.bytes))) refl tests.0)
    (rows_append (IsShared header) back (inherited size address bytes inherit.Copy rows)
    (rows_cut size (IsShared header) (λ part_of start end is low less high. is) (address + bytes) (2 ^ 32) row all.0) later))
  where
    becomes : Entry → List Entry
    becomes one = record one { inherit = inherit.Copy } ∷ []

    -- a part in the range is of an entry that meets it
    meets : nat_lt (max address row.address) (min (address + bytes) (row.address + row.bytes)) ≡ true → meets_range address bytes (row ∷ []) ≡ true
    meets less =
        let low : row.address < address + bytes = grind (arith, nat_tests) in
        let high : address < row.address + row.bytes = grind (arith, nat_tests) in
        grind (arith, nat_tests)

    inner : (b : Bool) → nat_lt (max address row.address) (min (address + bytes) (row.address + row.bytes)) ≡ b
        → (not (is_paged header row.region.0) && meets_range address bytes (row ∷ [])) ≡ false
        → AllRows (IsShared header) (flat_map becomes (if b then part size row (max address row.address) (min (address + bytes) (row.address + row.bytes)) ∷
        [] else []))
    inner true less none = (
      (λ on other same. absurd (let test : nat_lt row.region.0 (named header) ≡ true = grind (arith, nat_tests) in let met = meets less in
          let slow : is_paged header row.region.0 ≡ false = ap (λ b. not b || is_file header row.region.0) test ∙ other in
          let bad : true ≡ false = sym (ap (λ b. not b && meets_range address bytes (row ∷ [])) slow ∙ met) ∙ none in cc)),
      tt,
    )
    inner false less none = tt

pub shared_inherited : (header : Header) (size address bytes : ℕ) (to : Inherit) (rows : List Entry) → AllRows (IsShared header) rows
    → (is_copied to && meets_uncopied header address bytes rows) ≡ false → AllRows (IsShared header) (inherited size address bytes to rows)
shared_inherited header size address bytes inherit.Copy rows all apart = copied_apart header size address bytes rows all apart
shared_inherited header size address bytes inherit.Share rows all apart =
    rows_rewritten size (IsShared header) (λ row. record row { inherit = inherit.Share } ∷ []) (λ row start end is low less high. is)
    (λ row is. ((λ on other same. absurd (let bad : inherit.Share ≡ inherit.Copy = same in cc)), tt)) address bytes rows all
shared_inherited header size address bytes inherit.Never rows all apart =
    rows_rewritten size (IsShared header) (λ row. record row { inherit = inherit.Never } ∷ []) (λ row start end is low less high. is)
    (λ row is. ((λ on other same. absurd (let bad : inherit.Never ≡ inherit.Copy = same in cc)), tt)) address bytes rows all

-- regions that count other entries are over what they were
pub kinds_recounted : (header : Header) (count : ℕ → ℕ) (os : ObjectTable) (cs cs2 : ChainTable) → Recounts count cs cs2 → HasKinds header os cs
    → HasKinds header os cs2
kinds_recounted header count os cs cs2 is has =
    record {
      kinds = has.kinds;
      present = has.present;
      tops =
          λ r row least found. let b = row_before count cs cs2 is r row found in subst (λ (z : RegionRow). named header ≤ z.top.0) (sym b.is)
          (has.tops r b.was least b.found);
      unders = λ o row found. has.unders o row (sym (is.shadows o) ∙ found);
    }
