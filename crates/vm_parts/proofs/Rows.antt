-- What an edit of one page, one frame or one object leaves, case by case.
use Rattle.std.proofs.Common.{◌≡◌, ℕ, ◌<◌, ◌==◌, ◌&&◌, Bool, true, false, List, length, get_or, set, refl, ap, sym, ◌∙◌, subst, Some, None, Option, inl, inr}
use Rattle.std.proofs.lemmas.Bool.Decides.{eqb_tells}
use Rattle.std.proofs.lemmas.List.{get_or-set_same, get_or-set_other}
use Rattle.std.specs.Prelude.{if◌then◌else◌, ◌⊎◌, IfSome, IsSome, IsSomeAnd}
use Rattle.vm_resident.specs.Resident.{IsOwned, PutsRow, ResidentTable, owner_of, page_key, row_at}
use Rattle.vm_resident.specs.declared.page_row.PageRow.{PageRow}
use Rattle.vm_parts.specs.Changes.{asked_row}

pub some_is : {A : Type 0} (x y : A) → Some x ≡ Some y → x ≡ y
some_is x y e = cc

-- the page is the one that was put
pub record IsPut (o p : ℕ) (x : Option PageRow) (o2 p2 : ℕ) (found : Option PageRow) : Type 0 where
  pub object : o ≡ o2
  pub page : p ≡ p2
  pub test : (o == o2 && p == p2) ≡ true
  pub is : found ≡ x

-- the page is another
pub record IsOther (o p : ℕ) (was : Option PageRow) (o2 p2 : ℕ) (found : Option PageRow) : Type 0 where
  pub apart : o ≡ o2 → p ≡ p2 → ⊥
  pub test : (o == o2 && p == p2) ≡ false
  pub is : found ≡ was

pub row_cases : (o p : ℕ) (x : Option PageRow) (old new : ResidentTable) → PutsRow o p x old new → (o2 p2 : ℕ)
    → IsPut o p x o2 p2 (row_at new o2 p2) ⊎ IsOther o p (row_at old o2 p2) o2 p2 (row_at new o2 p2)
row_cases o p x old new put o2 p2 = elim (eqb_tells o o2) [
  | inl same ↦ elim (eqb_tells p p2) [
    | inl also ↦
        let test : (o == o2 && p == p2) ≡ true = rw (same.0, also.0) refl in
        inl (record { object = same.1; page = also.1; test = test; is = put.at o2 p2 ∙ ap (λ b. if b then x else row_at old o2 p2) test })
    | inr apart ↦
        let test : (o == o2 && p == p2) ≡ false = rw (same.0, apart.0) refl in
        inr (record { apart = λ e f. apart.1 f; test = test; is = put.at o2 p2 ∙ ap (λ b. if b then x else row_at old o2 p2) test })
  ]
  | inr apart ↦
      let test : (o == o2 && p == p2) ≡ false = rw apart.0 refl in
      inr (record { apart = λ e f. apart.1 e; test = test; is = put.at o2 p2 ∙ ap (λ b. if b then x else row_at old o2 p2) test })
]

-- the row that stands where another was put
pub row_put : (rs rs2 : ResidentTable) (o p : ℕ) (x : Option PageRow) → PutsRow o p x rs rs2 → row_at rs2 o p ≡ x
row_put rs rs2 o p x put = elim (row_cases o p x rs rs2 put o p) [ inl now ↦ now.is | inr other ↦ absurd (other.apart refl refl) ]

-- the row that stood where another is put
pub stood : (rs : ResidentTable) (o p o2 p2 : ℕ) (x : Option PageRow) → o ≡ o2 → p ≡ p2 → row_at rs o p ≡ x → row_at rs o2 p2 ≡ x
stood rs o p o2 p2 x same also is = sym (ap (λ z. row_at rs z p2) same) ∙ (sym (ap (λ z. row_at rs o z) also) ∙ is)

-- a test of one number
pub one_case : {A : Type 0} (f g : ℕ) (x y z : A) → z ≡ (if f == g then x else y) → ((f ≡ g) × (z ≡ x)) ⊎ ((f ≡ g → ⊥) × (z ≡ y))
one_case f g x y z is = elim (eqb_tells f g) [
  | inl same ↦ inl (same.1, is ∙ ap (λ b. if b then x else y) same.0)
  | inr apart ↦ inr (apart.1, is ∙ ap (λ b. if b then x else y) apart.0)
]

pub if_true : {A : Type 0} (f : ℕ) (x y z : A) → z ≡ (if f == f then x else y) → z ≡ x
if_true f x y z is = elim (one_case f f x y z is) [ inl same ↦ same.1 | inr apart ↦ absurd (apart.0 refl) ]

-- what is the same everywhere is so at one place too
pub same_case : {A : Type 0} (x y : ℕ → A) (z : A) (f : ℕ) → ((g : ℕ) → x g ≡ y g) → y f ≡ z → (g : ℕ) → x g ≡ (if f == g then z else y g)
same_case x y z f same at g = elim (eqb_tells f g) [
  | inl is ↦ rw is.0 (same g ∙ (sym (ap y is.1) ∙ at))
  | inr apart ↦ rw apart.0 (same g)
]

-- a list with one item changed
pub set_cases : {A : Type 0} (xs : List A) (f : ℕ) (x d : A) → f < length xs → (g : ℕ) → get_or (set xs f x) g d ≡ (if f == g then x else get_or xs g d)
set_cases xs f x d inside g = elim (eqb_tells f g) [
  | inl same ↦ rw same.0 (subst (λ (z : ℕ). get_or (set xs f x) z d ≡ x) same.1 (get_or-set_same xs f x d inside))
  | inr apart ↦ rw apart.0 (get_or-set_other xs f g x d (λ e. apart.1 (sym e)))
]

-- two pages don't share a frame
pub not_shared : (rs : ResidentTable) (o p o2 p2 : ℕ) (r r2 : PageRow) → IsOwned rs → row_at rs o p ≡ Some r → row_at rs o2 p2 ≡ Some r2 → (o ≡ o2 → p ≡ p2 → ⊥)
    → r.frame.0 ≡ r2.frame.0 → ⊥
not_shared rs o p o2 p2 r r2 owned is is2 apart same =
    let both : page_key o p ≡ page_key o2 p2 = some_is (page_key o p) (page_key o2 p2)
    (sym (owned.at o p r is) ∙ (ap (owner_of rs) same ∙ owned.at o2 p2 r2 is2)) in
    apart (ap (λ z. z.object.0) both) (ap (λ z. z.page.0) both)

asked_where : (here : Bool) (row was : PageRow) → (if here then None else Some row) ≡ Some was → (row ≡ was) × (here ≡ false)
asked_where true row was is = absurd (let bad : None ≡ Some was = is in cc)
asked_where false row was is = (some_is row was is, refl)

-- a page that is asked has this row, and isn't here
pub asked_is : (x : Option PageRow) (was : PageRow) → asked_row x ≡ Some was → (x ≡ Some was) × (was.here ≡ false)
asked_is None was is = absurd (let bad : None ≡ Some was = is in cc)
asked_is (Some row) was is = let both = asked_where row.here row was is in (ap (λ z. Some z) both.0, ap (λ z. z.here) (sym both.0) ∙ both.1)

-- the row of a page that is here, or asked
pub row_of : (x : Option PageRow) (P : PageRow → Type 0) → IsSomeAnd x P → (row : PageRow) × (x ≡ Some row) × P row
row_of None P some = absurd some
row_of (Some row) P some = (row, refl, some)

-- the row of a page that has one
pub row_there : (x : Option PageRow) → IsSome x → (row : PageRow) × (x ≡ Some row)
row_there None some = absurd (let bad : false ≡ true = some in cc)
row_there (Some row) some = (row, refl)

-- what is said of a row that was found
pub if_found : (x : Option PageRow) (row : PageRow) (P : PageRow → Type 0) → x ≡ Some row → P row → IfSome x P
if_found x row P found is = subst (λ (z : Option PageRow). IfSome z P) (sym found) is

pub of_found : (x : Option PageRow) (row : PageRow) (P : PageRow → Type 0) → x ≡ Some row → IfSome x P → P row
of_found x row P found is = subst (λ (z : Option PageRow). IfSome z P) found is

pub and_found : (x : Option PageRow) (row : PageRow) (P : PageRow → Type 0) → x ≡ Some row → IsSomeAnd x P → P row
and_found x row P found is = subst (λ (z : Option PageRow). IsSomeAnd z P) found is
