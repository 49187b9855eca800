-- The pages of an entry that holds an address.
use Rattle.std.proofs.Common.{ℕ, zero, suc, ◌≡◌, ◌+◌, ◌-◌, ◌<◌, ◌≤◌, ◌^◌, true, false, List, [], ◌∷◌, Some, subst, ⊎_elim, arith}
use Rattle.std.proofs.lemmas.Bool.{cases_lt}
use Rattle.std.proofs.lemmas.Bool.Decides.{nat_tests}
use Rattle.std.proofs.lemmas.Option.{none-some, same_Some}
use Rattle.std.specs.Prelude.{slice_get, nat_le, nat_lt, ◌&&◌}
use Rattle.vm_base.specs.Entries.{AllWholePages, HasWholePages, entry_at, page_at}
use Rattle.vm_base.specs.declared.entry.Entry.{Entry}
use Rattle.vm_maps.proofs.Multiples.{div_grows}

-- an entry of the list that holds an address
pub record Holds (size address : ℕ) (row : Entry) : Type 0 where
  pub low : row.address ≤ address
  pub high : address < row.address + row.bytes
  pub whole : HasWholePages size row

pub holds : (size address : ℕ) (rows : List Entry) (row : Entry) → AllWholePages size rows → entry_at address rows ≡ Some row → Holds size address row
holds size address [] row all is = absurd (none-some row is)
holds size address (x ∷ rows) row all is =
    let rest : entry_at address rows ≡ Some row → Holds size address row = λ e. holds size address rows row all.1 e in
    let out : (nat_le x.address address && nat_lt address (x.address + x.bytes)) ≡ false → Holds size address row = λ test. rest (rw test at is) in
    let found : x.address ≤ address → address < x.address + x.bytes → Holds size address row
    = λ low high.
    let yes : (nat_le x.address address && nat_lt address (x.address + x.bytes)) ≡ true = grind (arith, nat_tests) in
    let same : Some x ≡ Some row = rw yes at is in
    subst (Holds size address) (same_Some x row same) (record { low = low; high = high; whole = all.0 }) in
    ⊎_elim (λ less. out (grind (arith, nat_tests))) (λ low. ⊎_elim (λ high. found low high) (λ le. out (grind (arith, nat_tests)))
    (cases_lt address (x.address + x.bytes))) (cases_lt address x.address)

-- its page at the address is one of its region's
pub page_fits : (size address : ℕ) (row : Entry) → Holds size address row → page_at size address row < 2 ^ 32
page_fits size address row h =
    let grows = div_grows size (address - row.address) row.bytes (omega (arith, h.low, h.high)) in
    omega (arith, grows, h.whole.pages)

pub whole_at : (size i : ℕ) (rows : List Entry) (row : Entry) → AllWholePages size rows → slice_get rows i ≡ Some row → HasWholePages size row
whole_at size i [] row all is = absurd (none-some row is)
whole_at size zero (x ∷ rows) row all is = subst (HasWholePages size) (same_Some x row is) all.0
whole_at size (suc i) (x ∷ rows) row all is = whole_at size i rows row all.1 is
