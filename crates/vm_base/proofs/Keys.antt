-- How one page stands to another by rising key.
use Rattle.std.proofs.Common.{ℕ, suc, ◌≡◌, ◌<◌, ◌≤◌, Bool, true, false, refl, sym, ◌∙◌, ⊎_elim, arith}
use Rattle.std.proofs.lemmas.Bool.{cases_order, false≢true}
use Rattle.std.proofs.lemmas.Bool.Decides.{nat_tests}
use Rattle.std.specs.Prelude.{if◌then◌else◌}
use Rattle.vm_base.specs.Keys.{IsFrom, is_before, is_page, page_key}
use Rattle.vm_base.specs.declared.ids.PageKey.{PageKey}

-- a page comes in front of another, as orders
pub record IsAhead (object page o p : ℕ) : Type 0 where
  pub above : o ≤ object
  pub inside : object ≤ o → p < page

-- how a page stands to another: in front of it, the same, or behind it
pub record Ahead (key : PageKey) (o p : ℕ) : Type 0 where
  pub before : is_before key o p ≡ true
  pub apart : is_page key o p ≡ false
  pub place : IsAhead o p key.object.0 key.page.0

pub record Same (key : PageKey) (o p : ℕ) : Type 0 where
  pub before : is_before key o p ≡ false
  pub here : is_page key o p ≡ true
  pub object : key.object.0 ≡ o
  pub page : key.page.0 ≡ p

pub record Behind (key : PageKey) (o p : ℕ) : Type 0 where
  pub before : is_before key o p ≡ false
  pub apart : is_page key o p ≡ false
  pub place : IsFrom o (suc p) key

pub lower_object : (key : PageKey) (o p : ℕ) → key.object.0 < o → Ahead key o p
lower_object key o p less = record {
  before = grind (arith, nat_tests);
  apart = grind (arith, nat_tests);
  place = record { above = omega arith; inside = λ le. absurd (omega arith) };
}

pub lower_page : (key : PageKey) (o p : ℕ) → key.object.0 ≡ o → key.page.0 < p → Ahead key o p
lower_page key o p same less = record {
  before = grind (arith, nat_tests);
  apart = grind (arith, nat_tests);
  place = record { above = omega arith; inside = λ le. less };
}

pub same_page : (key : PageKey) (o p : ℕ) → key.object.0 ≡ o → key.page.0 ≡ p → Same key o p
same_page key o p one two = record {
  before = grind (arith, nat_tests);
  here = grind (arith, nat_tests);
  object = one;
  page = two;
}

pub higher_page : (key : PageKey) (o p : ℕ) → key.object.0 ≡ o → p < key.page.0 → Behind key o p
higher_page key o p same less = record {
  before = grind (arith, nat_tests);
  apart = grind (arith, nat_tests);
  place = record { above = omega arith; inside = λ le. omega arith };
}

pub higher_object : (key : PageKey) (o p : ℕ) → o < key.object.0 → Behind key o p
higher_object key o p less = record {
  before = grind (arith, nat_tests);
  apart = grind (arith, nat_tests);
  place = record { above = omega arith; inside = λ le. absurd (omega arith) };
}

pub cases_key : {P : Type 0} (key : PageKey) (o p : ℕ) → (Ahead key o p → P) → (Same key o p → P) → (Behind key o p → P) → P
cases_key {P} key o p ahead same behind =
    let inside : key.object.0 ≡ o → P
    = λ e. ⊎_elim (λ (f : key.page.0 ≡ p). same (same_page key o p e f)) (⊎_elim (λ (l : key.page.0 < p). ahead (lower_page key o p e l))
    (λ (l : p < key.page.0). behind (higher_page key o p e l))) (cases_order key.page.0 p) in
    ⊎_elim inside (⊎_elim (λ l. ahead (lower_object key o p l)) (λ l. behind (higher_object key o p l))) (cases_order key.object.0 o)

-- what lies behind is not the page
pub apart : (key : PageKey) (object page o p : ℕ) → IsFrom object page key → IsAhead object page o p → is_page key o p ≡ false
apart key object page o p from ahead =
    cases_key key o p
    (λ (h : Ahead key o p). h.apart)
    (λ (h : Same key o p). let l : object ≤ o = omega (arith, from.above, h.object) in let m = ahead.inside l in let n = from.inside
    (omega (arith, ahead.above, h.object)) in absurd (omega (arith, h.page)))
    (λ (h : Behind key o p). h.apart)

-- what stands behind a page is not the page
pub from_ahead : (key : PageKey) (o p : ℕ) → IsFrom o (suc p) key → IsAhead key.object.0 (suc key.page.0) o p
from_ahead key o p from = record {
  above = from.above;
  inside = λ le. let m = from.inside le in omega arith;
}

pub before_read : (key : PageKey) (o p : ℕ) → is_before key o p ≡ true → Ahead key o p
before_read key o p is =
    cases_key key o p
    (λ (h : Ahead key o p). h)
    (λ (h : Same key o p). absurd (false≢true (sym h.before ∙ is)))
    (λ (h : Behind key o p). absurd (false≢true (sym h.before ∙ is)))

pub page_read : (key : PageKey) (o p : ℕ) → is_page key o p ≡ true → Same key o p
page_read key o p is =
    cases_key key o p
    (λ (h : Ahead key o p). absurd (false≢true (sym h.apart ∙ is)))
    (λ (h : Same key o p). h)
    (λ (h : Behind key o p). absurd (false≢true (sym h.apart ∙ is)))

pub itself : (key : PageKey) → is_page key key.object.0 key.page.0 ≡ true
itself key = let h = same_page key key.object.0 key.page.0 refl refl in h.here

pub before_is : (key : PageKey) (o p : ℕ) → IsAhead o p key.object.0 key.page.0 → is_before key o p ≡ true
before_is key o p ahead =
    cases_key key o p
    (λ (h : Ahead key o p). h.before)
    (λ (h : Same key o p). let m = ahead.inside (omega (arith, h.object)) in absurd (omega (arith, h.page)))
    (λ (h : Behind key o p). let m = ahead.inside h.place.above in let n = h.place.inside ahead.above in absurd (omega arith))

-- a page further on is from there too
pub later : (object page : ℕ) (key other : PageKey) → IsFrom object page key → IsFrom key.object.0 (suc key.page.0) other → IsFrom object page other
later object page key other from behind = record {
  above = omega (arith, from.above, behind.above);
  inside = λ le. let m = from.inside (omega (arith, behind.above)) in let n = behind.inside (omega (arith, from.above)) in omega arith;
}

-- a page in front of another is not the other
pub other_page : (key : PageKey) (other : PageKey) (o p : ℕ) → is_page key other.object.0 other.page.0 ≡ false → is_page key o p ≡ true
    → is_page other o p ≡ false
other_page key other o p differ here =
    let is = page_read key o p here in
    cases_key other o p
    (λ (h : Ahead other o p). h.apart)
    (λ (h : Same other o p). absurd (false≢true (sym (rw (h.object, h.page) at differ) ∙ here)))
    (λ (h : Behind other o p). h.apart)

-- a page from behind another on is not the other
pub behind_apart : (key other : PageKey) (o p : ℕ) → IsFrom key.object.0 (suc key.page.0) other → is_page key o p ≡ true → is_page other o p ≡ false
behind_apart key other o p from here =
    let is = page_read key o p here in
    apart other key.object.0 (suc key.page.0) o p from (record { above = omega (arith, is.object); inside = λ le. omega (arith, is.page) })

pub key_is : (key : PageKey) (o p : ℕ) → key.object.0 ≡ o → key.page.0 ≡ p → page_key o p ≡ key
key_is key o p one two = rw (← one, ← two) refl

-- two tests that don't both hold can be made in either order
pub swap_tests : {X : Type 0} (a b : Bool) (u v w : X) → (a ≡ true → b ≡ false)
    → (if a then u else (if b then v else w)) ≡ (if b then v else (if a then u else w))
swap_tests true true u v w other = absurd (false≢true (sym (other refl)))
swap_tests true false u v w other = refl
swap_tests false true u v w other = refl
swap_tests false false u v w other = refl
