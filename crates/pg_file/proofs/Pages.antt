-- Which pages are lost, once one is taken out.
use Rattle.std.proofs.Common.{ℕ, ◌≡◌, ◌==◌, ◌||◌, not, Bool, true, false, List, [], ◌∷◌, refl, sym, ◌∙◌, ap, arith, if◌then◌else◌}
use Rattle.std.proofs.lemmas.Bool.Decides.{nat_tests}
use Rattle.std.specs.List.{filter}
use Rattle.vm_base.specs.declared.ids.PageNo.{PageNo}
use Rattle.pg_file.specs.Files.{is_among}
use Rattle.pg_file.specs.Finding.{LostPages, Marks}

abbrev pub is_apart : ℕ → PageNo → Bool
is_apart page other = not (other.0 == page)

pub same_if : {X : Type 0} (t : Bool) (x : X) → (if t then x else x) ≡ x
same_if true x = refl
same_if false x = refl

pub removed : (page : ℕ) (pages : List PageNo) → Marks page false pages (filter (is_apart page) pages)
removed page [] p = sym (same_if (page == p) false)
removed page (x ∷ xs) p = by (x.0 == page) refl (removed page xs p)
  where
    none : (t : Bool) → (x.0 == page) ≡ true → (page == p) ≡ t → (if t then false else is_among p xs) ≡ (if t then false else ((x.0 == p) || is_among p xs))
    none true here same = refl
    none false here apart = let no : (x.0 == p) ≡ false = grind (arith, nat_tests, here, apart) in rw no refl

    swap : (t s : Bool) → (x.0 == page) ≡ false → (page == p) ≡ t → (x.0 == p) ≡ s
        → (s || (if t then false else is_among p xs)) ≡ (if t then false else (s || is_among p xs))
    swap false s other apart is = refl
    swap true true other same is = let bad : true ≡ false = grind (arith, nat_tests, other, same, is) in bad
    swap true false other same is = refl

    by : (b : Bool) → (x.0 == page) ≡ b → is_among p (filter (is_apart page) xs) ≡ (if page == p then false else is_among p xs)
        → is_among p (filter (is_apart page) (x ∷ xs)) ≡ (if page == p then false else is_among p (x ∷ xs))
    by true here rest = rw here (rest ∙ none (page == p) here refl)
    by false other rest = rw (other, rest) (swap (page == p) (x.0 == p) other refl refl)

pub taken_out : (page spare : ℕ) (was left : List PageNo) (table : LostPages) → record { pages = was; spare = spare } ≡ table
    → left ≡ filter (is_apart page) was → Marks page false table.pages left
taken_out page spare was left table shown is p =
    let same : was ≡ table.pages = ap (λ (z : LostPages). z.pages) shown in
    ap (is_among p) is ∙ removed page was p ∙ ap (λ (xs : List PageNo). if page == p then false else is_among p xs) same
