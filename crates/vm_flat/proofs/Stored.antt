-- A store.
use Rattle.std.proofs.Common.{◌<◌, ◌≡◌, ℕ, zero, suc, ◌+◌, ◌≤◌, List, ◌∷◌, arith, Bool, true, false, None, refl, if◌then◌else◌, ◌∙◌, sym, subst, ap, inl, inr}
use Rattle.std.proofs.lemmas.Bool.Decides.{nat_tests}
use Rattle.std.specs.Prelude.{◌⊎◌, ◌==◌, ◌&&◌}
use native.Mathlib.Decide.{ℕ_discrete}
use Rattle.vm_base.specs.Pages.{with_bytes}
use Rattle.vm_flat.specs.Words.{Stores, Nothing}
use Rattle.vm_flat.specs.Spot.{spot_after}
use Rattle.vm_flat.proofs.Allowed.{content}
use Rattle.vm_flat.proofs.Deeds.{is_file, covered, Ground, Deed, Stored, row, objects, link, spot, flat}
use Rattle.vm_flat.proofs.Causes.{Path, Reach, Tops, Cause, StoresThere, Foreign}
use Rattle.vm_flat.proofs.Good.{Good, good_stores, good_again}
use Rattle.vm_flat.proofs.World.{ReachAt, ShapeOf, World, view, GoodAt, path_covered, under_view, Barren, barren_top, reach_next, reach_top}
use Rattle.vm_flat.proofs.World.{each_place}
use Rattle.vm_flat.proofs.Marked.{Marked, marked_nothing, marked_stores}

-- two tests, one of which fails
pub and_no : {A : Type 0} (o p k q : ℕ) (x y : A) → (o ≡ k → p ≡ q → ⊥) → (if k == o && q == p then x else y) ≡ y
and_no o p k q x y apart = and_no_if (k == o && q == p) refl
  where
    and_no_if : (b : Bool) → (k == o && q == p) ≡ b → (if b then x else y) ≡ y
    and_no_if false is = refl
    and_no_if true is = absurd (apart (grind (arith, nat_tests)) (grind (arith, nat_tests)))

pub and_yes : {A : Type 0} (o p k q : ℕ) (x y : A) → o ≡ k → p ≡ q → (if k == o && q == p then x else y) ≡ x
and_yes o p k q x y e f = and_yes_if (k == o && q == p) refl
  where
    and_yes_if : (b : Bool) → (k == o && q == p) ≡ b → (if b then x else y) ≡ x
    and_yes_if true is = refl
    and_yes_if false is = absurd (grind (arith, nat_tests))

-- the same for a region's page
pub page_no : {A : Type 0} (o p k q : ℕ) (x y : A) → (o ≡ k → p ≡ q → ⊥) → (if o == k && p == q then x else y) ≡ y
page_no o p k q x y apart = and_no k q o p x y (λ e f. apart (sym e) (sym f))

pub page_yes : {A : Type 0} (o p k q : ℕ) (x y : A) → o ≡ k → p ≡ q → (if o == k && p == q then x else y) ≡ x
page_yes o p k q x y e f = and_yes k q o p x y (sym e) (sym f)

-- a file, or a temporary object
pub kind : (z : Ground) (k : ℕ) (past : List Deed) → covered z k past ≡ true → (is_file z k ≡ true) ⊎ (z.named ≤ k)
kind z k past ours = kind_if (is_file z k) refl
  where
    kind_if : (b : Bool) → is_file z k ≡ b → (b ≡ true) ⊎ (z.named ≤ k)
    kind_if true is = inl refl
    kind_if false is = inr (grind (arith, nat_tests))

pub top_covered : (z : Ground) (r i k q : ℕ) (past : List Deed) → ShapeOf z past → Tops z r i k q past → covered z k past ≡ true
top_covered z r i k q past sh tops = subst (λ (o : ℕ). covered z o past ≡ true) tops.object (sh.covers_tops r tops.used)

-- no path from another reached place leads to the top place of a region without the mark
pub path_other : (z : Ground) (r i k q : ℕ) (past : List Deed) → ShapeOf z past → Tops z r i k q past → (row z r past).mark ≡ false → z.named ≤ k
    → (n o p l lp : ℕ) → Reach z o past → Path (λ j. link z j past) n o p l lp → (o ≡ k → p ≡ q → ⊥) → l ≡ k → lp ≡ q → ⊥
path_other z r i k q past sh tops plain temporary zero o p l lp reach path apart e f = apart (path.0 ∙ e) (path.1 ∙ f)
path_other z r i k q past sh tops plain temporary (suc n) o p l lp reach path apart e f =
    path_other z r i k q past sh tops plain temporary n (link z o past).under ((link z o past).shift + p) l lp (reach_next z o past reach path.0) path.1
    (λ e' f'. sh.own r o tops.used plain (omega (arith, temporary, tops.object)) reach path.0 (e' ∙ sym tops.object)) e f

view_other : (z : Ground) (r i k q at : ℕ) (bytes : List ℕ) (o p : ℕ) (past : List Deed) → (o ≡ k → p ≡ q → ⊥)
    → view z o p (Stored true r i k q at bytes ∷ past) ≡ view z o p past
view_other z r i k q at bytes o p past apart = and_no o p k q (with_bytes at bytes (view z o p past)) (view z o p past) apart

-- the other regions
regional_other : (z : Ground) (r i k q at : ℕ) (bytes : List ℕ) (past : List Deed) → World z past → StoresThere z r i k q past
    → (g j : ℕ) → (row z g past).used ≡ true → j < (row z g past).pages → (g ≡ r → j ≡ i → ⊥)
    → flat z g j (Stored true r i k q at bytes ∷ past) ≡ view z (row z g past).top ((row z g past).shift + j) (Stored true r i k q at bytes ∷ past)
regional_other z r i k q at bytes past w c g j used inside apart =
    let was : flat z g j past ≡ view z (row z g past).top ((row z g past).shift + j) past = w.regional g j used inside in
    let left : flat z g j (Stored true r i k q at bytes ∷ past) ≡ flat z g j past = page_no g j r i (with_bytes at bytes (flat z g j past)) (flat z g j past)
    apart in
    let right : view z (row z g past).top ((row z g past).shift + j) (Stored true r i k q at bytes ∷ past) ≡ view z (row z g past).top
    ((row z g past).shift + j) past =
    view_other z r i k q at bytes (row z g past).top ((row z g past).shift + j) past elsewhere in
    left ∙ was ∙ sym right
  where
    elsewhere : (row z g past).top ≡ k → (row z g past).shift + j ≡ q → ⊥
    elsewhere e f = elim (ℕ_discrete g r) [
      | yes is ↦ apart is (let same : (row z r past).shift + j ≡ q = subst (λ (h : ℕ). (row z h past).shift + j ≡ q) is f in omega (arith, same, c.tops.page))
      | no is ↦ w.shape.alone r g c.tops.used c.unmarked used is (e ∙ sym c.tops.object)
    ]

regional_own : (z : Ground) (r i k q at : ℕ) (bytes : List ℕ) (past : List Deed) → World z past → StoresThere z r i k q past
    → flat z r i (Stored true r i k q at bytes ∷ past) ≡ view z (row z r past).top ((row z r past).shift + i) (Stored true r i k q at bytes ∷ past)
regional_own z r i k q at bytes past w c =
    page_yes r i r i (with_bytes at bytes (flat z r i past)) (flat z r i past) refl refl
    ∙ ap (with_bytes at bytes) (w.regional r i c.tops.used c.tops.inside)
    ∙ sym (and_yes (row z r past).top ((row z r past).shift + i) k q (with_bytes at bytes (view z (row z r past).top ((row z r past).shift + i) past))
    (view z (row z r past).top ((row z r past).shift + i) past) c.tops.object c.tops.page)

regional_after : (z : Ground) (r i k q at : ℕ) (bytes : List ℕ) (past : List Deed) → World z past → StoresThere z r i k q past
    → (g j : ℕ) → (row z g past).used ≡ true → j < (row z g past).pages
    → flat z g j (Stored true r i k q at bytes ∷ past) ≡ view z (row z g past).top ((row z g past).shift + j) (Stored true r i k q at bytes ∷ past)
regional_after z r i k q at bytes past w c g j used inside = elim (ℕ_discrete g r) [
  | no apart ↦ regional_other z r i k q at bytes past w c g j used inside (λ e f. apart e)
  | yes e ↦ elim (ℕ_discrete j i) [
    | no apart ↦ regional_other z r i k q at bytes past w c g j used inside (λ e' f. apart f)
    | yes f ↦ subst (λ (h : ℕ). flat z h j (Stored true r i k q at bytes ∷ past) ≡ view z (row z h past).top ((row z h past).shift + j)
        (Stored true r i k q at bytes ∷ past)) (sym e)
        (subst (λ (h : ℕ). flat z r h (Stored true r i k q at bytes ∷ past) ≡ view z (row z r past).top ((row z r past).shift + h)
        (Stored true r i k q at bytes ∷ past)) (sym f)
        (regional_own z r i k q at bytes past w c))
  ]
]

-- nothing that is reached stands on the object
under_other : (z : Ground) (r i k q at : ℕ) (bytes : List ℕ) (past : List Deed) → World z past → StoresThere z r i k q past
    → (o p : ℕ) → Reach z o past → content (spot z o p past) ≡ None → (link z o past).backed ≡ true
    → under_view z o p (Stored true r i k q at bytes ∷ past) ≡ under_view z o p past
under_other z r i k q at bytes past w c o p reach none backed =
    view_other z r i k q at bytes (link z o past).under ((link z o past).shift + p) past
    (λ e f. elim (kind z k past (top_covered z r i k q past w.shape c.tops)) [
      | inl file ↦ c.pushed file o p reach backed e f none
      | inr temporary ↦ w.shape.own r o c.tops.used c.unmarked (omega (arith, temporary, c.tops.object)) reach backed (e ∙ sym c.tops.object)
    ])

-- what is below a place that is reached and not the event's own is not the event's own
barren_other : (z : Ground) (r i k q at : ℕ) (bytes : List ℕ) (past : List Deed) → World z past → StoresThere z r i k q past
    → (o p : ℕ) → (o ≡ k → p ≡ q → ⊥) → Reach z o past → Barren z o p past → Barren z o p (Stored true r i k q at bytes ∷ past)
barren_other z r i k q at bytes past w c o p apart reach barren n l lp path = (
  view_other z r i k q at bytes l lp past (apart_from (kind z k past (top_covered z r i k q past w.shape c.tops))) ∙ (barren n l lp path).0,
  (barren n l lp path).1,
)
  where
    clash : (b : Bool) → b ≡ false → b ≡ true → ⊥
    clash b isnt is = cc

    apart_from : (is_file z k ≡ true) ⊎ (z.named ≤ k) → l ≡ k → lp ≡ q → ⊥
    apart_from (inr temporary) = path_other z r i k q past w.shape c.tops c.unmarked temporary n o p l lp reach path apart
    apart_from (inl file) = λ e f. absurd (clash (is_file z l) (barren n l lp path).1 (ap (is_file z) e ∙ file))

after_own : (z : Ground) (r i k q at : ℕ) (bytes : List ℕ) (past : List Deed) → World z past → StoresThere z r i k q past
    → World z (Stored true r i k q at bytes ∷ past)
after_own z r i k q at bytes past w c =
    record {
      shape = w.shape;
      regional = regional_after z r i k q at bytes past w c;
      places = λ o p ours. places_if o p ours (k == o && q == p) refl;
      stems = w.stems;
      marks = each_place (Marked z past) k q true (Stores at bytes) Nothing
          (λ is. marked_stores z past w k q at bytes (reach_top z r i k q past w.shape c.tops) c.here) (marked_nothing z past w);
    }
  where
    own : (o p : ℕ) → covered z o past ≡ true → o ≡ k → p ≡ q
        → Good z.zeros (ReachAt z o p past) (objects z past ≤ o) (Barren z o p (Stored true r i k q at bytes ∷ past)) (with_bytes at bytes (view z o p past))
        (link z o past).backed (under_view z o p (Stored true r i k q at bytes ∷ past)) (spot_after z.zeros (spot z o p past) (Stores at bytes))
    own o p ours e f =
        let here : (spot z o p past).here ≡ true = subst (λ (h : ℕ). (spot z h p past).here ≡ true) (sym e)
        (subst (λ (h : ℕ). (spot z k h past).here ≡ true) (sym f) c.here) in
        good_stores z.zeros (ReachAt z o p past) (objects z past ≤ o) (Barren z o p past) (Barren z o p (Stored true r i k q at bytes ∷ past)) (view z o p past)
        (link z o past).backed (under_view z o p past) (under_view z o p (Stored true r i k q at bytes ∷ past)) (spot z o p past) at bytes
        (w.places o p ours) here (barren_top z o p past)

    other : (o p : ℕ) → covered z o past ≡ true → (o ≡ k → p ≡ q → ⊥)
        → Good z.zeros (ReachAt z o p past) (objects z past ≤ o) (Barren z o p (Stored true r i k q at bytes ∷ past)) (view z o p past) (link z o past).backed
        (under_view z o p (Stored true r i k q at bytes ∷ past)) (spot z o p past)
    other o p ours apart =
        good_again z.zeros (ReachAt z o p past) (ReachAt z o p past) (objects z past ≤ o) (objects z past ≤ o) (Barren z o p past)
        (Barren z o p (Stored true r i k q at bytes ∷ past)) (view z o p past) (view z o p past) (link z o past).backed (under_view z o p past)
        (under_view z o p (Stored true r i k q at bytes ∷ past)) (spot z o p past)
        (w.places o p ours) (λ x. x) (λ x. x) (λ x. refl) (λ reach. under_other z r i k q at bytes past w c o p reach.0)
        (λ reach. barren_other z r i k q at bytes past w c o p apart reach.0)

    places_if : (o p : ℕ) → covered z o past ≡ true → (b : Bool) → (k == o && q == p) ≡ b
        → Good z.zeros (ReachAt z o p past) (objects z past ≤ o) (Barren z o p (Stored true r i k q at bytes ∷ past))
        (if b then with_bytes at bytes (view z o p past) else view z o p past) (link z o past).backed
        (under_view z o p (Stored true r i k q at bytes ∷ past))
        (spot_after z.zeros (spot z o p past) (if b then Stores at bytes else Nothing))
    places_if o p ours true is = own o p ours (grind (arith, nat_tests)) (grind (arith, nat_tests))
    places_if o p ours false is = other o p ours (λ e f. absurd (grind (arith, nat_tests)))

-- a test that fails
pub no_if : {A : Type 0} (own : Bool) (o p k q : ℕ) (x y : A) → (own ≡ true → o ≡ k → ⊥) → (if own && (k == o && q == p) then x else y) ≡ y
no_if own o p k q x y apart = no_if_so (own && (k == o && q == p)) refl
  where
    no_if_so : (b : Bool) → (own && (k == o && q == p)) ≡ b → (if b then x else y) ≡ y
    no_if_so false is = refl
    no_if_so true is = absurd (apart (grind arith) (grind (arith, nat_tests)))

pub not_ours : (z : Ground) (own : Bool) (r k : ℕ) (past : List Deed) → Foreign z own r k past → (o : ℕ) → covered z o past ≡ true → own ≡ true → o ≡ k → ⊥
not_ours z own r k past f o ours is e =
    let isnt : covered z o past ≡ false = ap (λ h. covered z h past) e ∙ f.apart is in
    clash (covered z o past) isnt ours
  where
    clash : (b : Bool) → b ≡ false → b ≡ true → ⊥
    clash b isnt is = cc

-- a deed at a place that is not ours, on a region that is not in use
after_foreign : (z : Ground) (own : Bool) (r i k q at : ℕ) (bytes : List ℕ) (past : List Deed) → World z past → Foreign z own r k past
    → World z (Stored own r i k q at bytes ∷ past)
after_foreign z own r i k q at bytes past w f =
    record {
      shape = w.shape;
      regional = regional;
      places = places;
      stems = w.stems;
      marks = each_place (Marked z past) k q own (Stores at bytes) Nothing (λ is ours. absurd (not_ours z own r k past f k ours is refl))
          (marked_nothing z past w);
    }
  where
    view_is : (o p : ℕ) → covered z o past ≡ true → view z o p (Stored own r i k q at bytes ∷ past) ≡ view z o p past
    view_is o p ours = no_if own o p k q (with_bytes at bytes (view z o p past)) (view z o p past) (not_ours z own r k past f o ours)

    clash : (b : Bool) → b ≡ false → b ≡ true → ⊥
    clash b isnt is = cc

    regional : (g j : ℕ) → (row z g past).used ≡ true → j < (row z g past).pages
        → flat z g j (Stored own r i k q at bytes ∷ past) ≡ view z (row z g past).top ((row z g past).shift + j) (Stored own r i k q at bytes ∷ past)
    regional g j used inside =
        page_no g j r i (with_bytes at bytes (flat z g j past)) (flat z g j past)
        (λ e e'. clash (row z g past).used (ap (λ h. (row z h past).used) e ∙ f.unused) used)
        ∙ w.regional g j used inside
        ∙ sym (view_is (row z g past).top ((row z g past).shift + j) (w.shape.covers_tops g used))

    places : (o p : ℕ) → covered z o past ≡ true → GoodAt z (Stored own r i k q at bytes ∷ past) o p (spot z o p (Stored own r i k q at bytes ∷ past))
    places o p ours =
        subst (λ e. GoodAt z (Stored own r i k q at bytes ∷ past) o p (spot_after z.zeros (spot z o p past) e))
        (sym (no_if own o p k q (Stores at bytes) Nothing (not_ours z own r k past f o ours)))
        (good_again z.zeros (ReachAt z o p past) (ReachAt z o p past) (objects z past ≤ o) (objects z past ≤ o) (Barren z o p past)
        (Barren z o p (Stored own r i k q at bytes ∷ past)) (view z o p past) (view z o p (Stored own r i k q at bytes ∷ past)) (link z o past).backed
        (under_view z o p past) (under_view z o p (Stored own r i k q at bytes ∷ past)) (spot z o p past)
        (w.places o p ours) (λ x. x) (λ x. x) (λ x. view_is o p ours) (λ reach none backed. view_is (link z o past).under ((link z o past).shift + p)
        (w.shape.covers_under o ours backed))
        (λ reach barren n l lp path. (view_is l lp (path_covered z n o p l lp past w.shape ours path) ∙ (barren n l lp path).0, (barren n l lp path).1)))

pub after_stored : (z : Ground) (own : Bool) (r i k q at : ℕ) (bytes : List ℕ) (past : List Deed) → World z past → Cause z (Stored own r i k q at bytes) past
    → World z (Stored own r i k q at bytes ∷ past)
after_stored z own r i k q at bytes past w (inl there) =
    subst (λ (b : Bool). World z (Stored b r i k q at bytes ∷ past)) (sym there.0.on_host) (after_own z r i k q at bytes past w there.1)
after_stored z own r i k q at bytes past w (inr foreign) = after_foreign z own r i k q at bytes past w foreign
