-- Which page a frame leads to.
use Rattle.std.proofs.Common.{ℕ, suc, ◌≡◌, ◌==◌, true, false, List, [], ◌∷◌, Some, None, refl, sym, ◌∙◌, ap, ⊎_elim, arith}
use Rattle.indexmap.specs.IndexMap.{insert_entry}
use Rattle.std.proofs.lemmas.Bool.{cases_Bool, cases_eq}
use Rattle.std.proofs.lemmas.Bool.Decides.{nat_tests}
use Rattle.std.proofs.lemmas.Map.Entries.{lookup_from_place}
use Rattle.std.proofs.lemmas.Option.{none-some, same_Some}
use Rattle.std.specs.List.{IsDistinct}
use Rattle.std.specs.Map.{keys_of, lookup, set_value}
use Rattle.std.specs.Prelude.{Bool, if◌then◌else◌, slice_get}
use Rattle.vm_base.proofs.Keys.{swap_tests}
use Rattle.vm_base.specs.Keys.{is_page}
use Rattle.vm_base.specs.declared.ids.PageKey.{PageKey}
use Rattle.vm_resident.proofs.Entries.{row_entry, same_page_laws}
use Rattle.vm_resident.specs.Kept.{pages_of, same_page}
use Rattle.vm_resident.specs.Resident.{owner_among, row_among}
use Rattle.vm_resident.specs.declared.page_row.PageRow.{PageRow}
use Rattle.vm_resident.specs.declared.resident_page.ResidentPage.{ResidentPage}

-- the page has a row with the frame
pub record HasFrame (key : PageKey) (f : ℕ) (entries : List (PageKey × PageRow)) : Type 0 where
  pub row : PageRow
  pub at : row_among key.object.0 key.page.0 (pages_of entries) ≡ Some row
  pub frame : row.frame.0 ≡ f

-- an entry has the page and the frame
record Stands (key : PageKey) (f : ℕ) (entries : List (PageKey × PageRow)) : Type 0 where
  i : ℕ
  row : PageRow
  is : slice_get entries i ≡ Some (key, row)
  frame : row.frame.0 ≡ f

owner_stands : (f : ℕ) (key : PageKey) (entries : List (PageKey × PageRow)) → owner_among f (pages_of entries) ≡ Some key → Stands key f entries
owner_stands f key [] is = absurd (none-some key is)
owner_stands f key (e ∷ es) is =
    ⊎_elim
    (λ (same : e.1.frame.0 ≡ f).
    let yes : (e.1.frame.0 == f) ≡ true = grind (arith, nat_tests) in
    let one : e.0 ≡ key = same_Some e.0 key (rw yes at is) in
    record { i = 0; row = e.1; is = ap (λ (z : PageKey). Some (z, e.1)) one; frame = same })
    (λ (other : e.1.frame.0 ≡ f → ⊥).
    let no : (e.1.frame.0 == f) ≡ false = grind (arith, nat_tests) in
    let rest = owner_stands f key es (rw no at is) in
    record { i = suc rest.i; row = rest.row; is = rest.is; frame = rest.frame })
    (cases_eq e.1.frame.0 f)

pub owner_has : (f : ℕ) (key : PageKey) (entries : List (PageKey × PageRow)) → IsDistinct same_page (keys_of entries)
    → owner_among f (pages_of entries) ≡ Some key → HasFrame key f entries
owner_has f key entries unique leads =
    let stands = owner_stands f key entries leads in
    record {
      row = stands.row;
      at = row_entry key.object.0 key.page.0 entries ∙ lookup_from_place same_page_laws entries stands.i key stands.row unique stands.is;
      frame = stands.frame;
    }

pub owner_none : (f o p : ℕ) (row : PageRow) (pages : List ResidentPage) → owner_among f pages ≡ None → row_among o p pages ≡ Some row → row.frame.0 ≡ f → ⊥
owner_none f o p row [] none is same = none-some row is
owner_none f o p row (x ∷ xs) none is same =
    ⊎_elim
    (λ (first : x.row.frame.0 ≡ f).
    let yes : (x.row.frame.0 == f) ≡ true = grind (arith, nat_tests) in
    none-some x.key (sym (rw yes at none)))
    (λ (other : x.row.frame.0 ≡ f → ⊥).
    let no : (x.row.frame.0 == f) ≡ false = grind (arith, nat_tests) in
    ⊎_elim
    (λ (here : is_page x.key o p ≡ true). other (ap (λ (z : PageRow). z.frame.0) (same_Some x.row row (rw here at is)) ∙ same))
    (λ (apart : is_page x.key o p ≡ false). owner_none f o p row xs (rw no at none) (rw apart at is) same)
    (cases_Bool (is_page x.key o p)))
    (cases_eq x.row.frame.0 f)

-- the first entry with the frame, and what is left behind one that hasn't it
pub owner_first : (f : ℕ) (key : PageKey) (row : PageRow) (entries rest : List (PageKey × PageRow)) → entries ≡ (key, row) ∷ rest → row.frame.0 ≡ f
    → Some key ≡ owner_among f (pages_of entries)
owner_first f key row entries rest is same =
    let yes : (row.frame.0 == f) ≡ true = grind (arith, nat_tests) in
    rw is (rw yes refl)

pub owner_later : (f : ℕ) (key : PageKey) (row : PageRow) (entries rest : List (PageKey × PageRow)) → entries ≡ (key, row) ∷ rest → (row.frame.0 ≡ f → ⊥)
    → owner_among f (pages_of rest) ≡ owner_among f (pages_of entries)
owner_later f key row entries rest is differ =
    let no : (row.frame.0 == f) ≡ false = grind (arith, nat_tests) in
    rw is (rw no refl)

-- two frames that differ don't both pass the test of one
one_frame : (a b g : ℕ) → (a == b) ≡ false → (a == g) ≡ true → (b == g) ≡ false
one_frame a b g differ same = grind (arith, nat_tests)

pub owner_inserted : (g : ℕ) (key : PageKey) (row : PageRow) (entries : List (PageKey × PageRow)) → lookup (same_page key) entries ≡ None
    → owner_among row.frame.0 (pages_of entries) ≡ None
    → owner_among g (pages_of (insert_entry same_page entries key row)) ≡ (if row.frame.0 == g then Some key else owner_among g (pages_of entries))
owner_inserted g key row [] absent none = refl
owner_inserted g key row (e ∷ es) absent none =
    ⊎_elim
    (λ (here : same_page key e.0 ≡ true). absurd (none-some e.1 (sym (rw here at absent))))
    (λ (apart : same_page key e.0 ≡ false).
    ⊎_elim
    (λ (yes : (e.1.frame.0 == row.frame.0) ≡ true). absurd (none-some e.0 (sym (rw yes at none))))
    (λ (no : (e.1.frame.0 == row.frame.0) ≡ false).
    let rest = owner_inserted g key row es (rw apart at absent) (rw no at none) in
    rw apart (rw rest (swap_tests (e.1.frame.0 == g) (row.frame.0 == g) (Some e.0) (Some key) (owner_among g (pages_of es))
    (λ same. one_frame e.1.frame.0 row.frame.0 g no same))))
    (cases_Bool (e.1.frame.0 == row.frame.0)))
    (cases_Bool (same_page key e.0))

pub owner_set : (g : ℕ) (test : PageKey → Bool) (was row : PageRow) (entries : List (PageKey × PageRow)) → lookup test entries ≡ Some was
    → was.frame.0 ≡ row.frame.0
    → owner_among g (pages_of (set_value test entries row)) ≡ owner_among g (pages_of entries)
owner_set g test was row [] there frame = refl
owner_set g test was row (e ∷ es) there frame =
    ⊎_elim
    (λ (here : test e.0 ≡ true).
    let same : row.frame.0 ≡ e.1.frame.0 = sym frame ∙ ap (λ (z : PageRow). z.frame.0) (sym (same_Some e.1 was (rw here at there))) in
    rw here (ap (λ z. if z == g then Some e.0 else owner_among g (pages_of es)) same))
    (λ (apart : test e.0 ≡ false). rw apart (ap (λ z. if e.1.frame.0 == g then Some e.0 else z) (owner_set g test was row es (rw apart at there) frame)))
    (cases_Bool (test e.0))
