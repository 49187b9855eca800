-- The rows of a table as the entries of the map that keeps them.
use Rattle.std.proofs.Common.{ℕ, ◌≡◌, ◌==◌, Bool, true, false, List, [], ◌∷◌, Option, Some, None, refl, sym, ◌∙◌, ap, arith, ⊎_elim}
use Rattle.std.proofs.lemmas.Bool.{cases_Bool, false≢true}
use Rattle.std.proofs.lemmas.Bool.Decides.{nat_tests}
use Rattle.std.specs.Cmp.{IsEquivalence}
use Rattle.std.specs.Map.{lookup}
use Rattle.std.specs.Prelude.{◌&&◌, IsSome, MatchOption, if◌then◌else◌, is_some}
use Rattle.vm_base.proofs.Keys.{page_read}
use Rattle.vm_base.specs.Keys.{is_page}
use Rattle.vm_base.specs.declared.ids.PageKey.{PageKey}
use Rattle.vm_base.specs.declared.ids.PageNo.{PageNo}
use Rattle.vm_sets.specs.Groups.{IsFirstIn, IsFirstMarked, NoneFrom, NoneMarkedFrom, PageSet, is_in, is_marked}
use Rattle.vm_resident.specs.Kept.{pages_of, same_page}
use Rattle.vm_resident.specs.Resident.{IsNextNoted, IsNextPage, NoRowsFrom, NoneNotedFrom, PutsRow, ResidentTable, has_note, row_among, row_at}
use Rattle.vm_resident.specs.declared.page_row.PageRow.{PageRow}

-- the row of a page in the map
abbrev pub entry_at : ℕ → ℕ → List (PageKey × PageRow) → Option PageRow
entry_at o p entries = lookup (λ key. o == key.object.0 && p == key.page.0) entries

flipped : (key : PageKey) (o p : ℕ) → is_page key o p ≡ (o == key.object.0 && p == key.page.0)
flipped key o p = grind (arith, nat_tests)

pub row_entry : (o p : ℕ) (entries : List (PageKey × PageRow)) → row_among o p (pages_of entries) ≡ entry_at o p entries
row_entry o p [] = refl
row_entry o p (e ∷ es) =
    ap (λ b. if b then Some e.1 else row_among o p (pages_of es)) (flipped e.0 o p)
    ∙ ap (λ z. if o == e.0.object.0 && p == e.0.page.0 then Some e.1 else z) (row_entry o p es)

pub same_page_laws : IsEquivalence same_page
same_page_laws = record {
  refl = λ x. grind (arith, nat_tests);
  symm = λ x y. grind (arith, nat_tests);
  congr = λ x y z same. grind (arith, nat_tests);
}

abbrev pub seen : List (PageKey × PageRow) → ℕ → ResidentTable
seen entries spare = record { rows = pages_of entries; spare = spare }

-- the map has this row at a page now, or none, and at each other what it had
abbrev pub WritesEntry : PageKey → Option PageRow → List (PageKey × PageRow) → List (PageKey × PageRow) → Type 0
WritesEntry key row old new = (o p : ℕ) → entry_at o p new ≡ (if is_page key o p then row else entry_at o p old)

pub row_put : (old new : List (PageKey × PageRow)) (key : PageKey) (row : Option PageRow) (s t : ℕ) → WritesEntry key row old new
    → PutsRow key.object.0 key.page.0 row (seen old s) (seen new t)
row_put old new key row s t writes = record {
  at = λ o p. row_entry o p new ∙ writes o p ∙ ap (λ z. if is_page key o p then row else z) (sym (row_entry o p old));
}

-- so a set has the pages whose rows pass a test after a write too
pub pages_put : (test : Option PageRow → Bool) (old new : List (PageKey × PageRow)) (key : PageKey) (row : Option PageRow) (was now : ℕ → ℕ → Bool)
    → ((o p : ℕ) → was o p ≡ test (row_among o p (pages_of old)))
    → WritesEntry key row old new → ((o p : ℕ) → now o p ≡ (if is_page key o p then test row else was o p))
    → (o p : ℕ) → now o p ≡ test (row_among o p (pages_of new))
pages_put test old new key row was now same writes puts o p =
    let rows = row_put old new key row 0 0 writes in
    puts o p ∙ by (is_page key o p) ∙ ap test (sym (rows.at o p))
  where
    by : (b : Bool) → (if b then test row else was o p) ≡ test (if b then row else row_among o p (pages_of old))
    by true = refl
    by false = same o p

-- and where the row of a page is changed, with the set left as it was
pub pages_kept : (old new : List (PageKey × PageRow)) (key : PageKey) (row : PageRow) (set : PageSet)
    → ((o p : ℕ) → is_in set o p ≡ is_some (row_among o p (pages_of old)))
    → WritesEntry key (Some row) old new → IsSome (entry_at key.object.0 key.page.0 old) → (o p : ℕ) → is_in set o p ≡ is_some (row_among o p (pages_of new))
pages_kept old new key row set same writes there =
    let stands : IsSome (row_among key.object.0 key.page.0 (pages_of old)) = ap is_some (row_entry key.object.0 key.page.0 old) ∙ there in
    pages_put is_some old new key (Some row) (is_in set) (is_in set) same writes
    (λ o p. ⊎_elim
    (λ (here : is_page key o p ≡ true).
    let read = page_read key o p here in
    rw here (same o p ∙ rw (read.object, read.page) at stands))
    (λ (apart : is_page key o p ≡ false). rw apart refl)
    (cases_Bool (is_page key o p)))

none_where : {A : Type 0} (o : Option A) → is_some o ≡ false → o ≡ None
none_where None none = refl
none_where (Some x) some = absurd (false≢true (sym some))

-- the first page in the set is that of the first row
pub next_row : (table : ResidentTable) (set : PageSet) (object from : ℕ) (result : Option PageNo) → ((o p : ℕ) → is_in set o p ≡ is_some (row_at table o p))
    → MatchOption result (NoneFrom set object from) (λ page. IsFirstIn set object from page.0)
    → MatchOption result (NoRowsFrom table object from) (λ page. IsNextPage table object from page.0)
next_row table set object from None same none = λ q le. none_where (row_at table object q) (sym (same object q) ∙ none q le)
next_row table set object from (Some page) same found = record {
  low = found.low;
  there = sym (same object page.0) ∙ found.there;
  first = λ q le less. none_where (row_at table object q) (sym (same object q) ∙ found.first q le less);
}

-- and the first that is marked is the first of whose row anything is noted
pub next_noted : (table : ResidentTable) (set : PageSet) (object from : ℕ) (result : Option PageNo)
    → ((o p : ℕ) → is_marked set o p ≡ has_note (row_at table o p))
    → MatchOption result (NoneMarkedFrom set object from) (λ page. IsFirstMarked set object from page.0)
    → MatchOption result (NoneNotedFrom table object from) (λ page. IsNextNoted table object from page.0)
next_noted table set object from None same none = λ q le. sym (same object q) ∙ none q le
next_noted table set object from (Some page) same found =
    record { low = found.low; there = sym (same object page.0) ∙ found.there; first = λ q le less. sym (same object q) ∙ found.first q le less }
