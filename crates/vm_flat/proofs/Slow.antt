-- A page of a slow copy.
use Rattle.std.proofs.Common.{◌<◌, ◌≡◌, ℕ, ◌+◌, ◌≤◌, List, ◌∷◌, arith, Bool, true, false, None, refl, if◌then◌else◌, ◌∙◌, sym, subst, ap, inl, inr}
use Rattle.std.proofs.lemmas.Bool.Decides.{nat_tests}
use Rattle.std.specs.Prelude.{◌⊎◌, ◌==◌, ◌&&◌}
use native.Mathlib.Decide.{ℕ_discrete}
use Rattle.vm_flat.specs.Words.{Raises, Nothing}
use Rattle.vm_flat.specs.Spot.{Spot, spot_after}
use Rattle.vm_flat.proofs.Allowed.{content}
use Rattle.vm_flat.proofs.Deeds.{is_file, covered, is_copy, Ground, Deed, Copied, row, objects, link, spot, flat}
use Rattle.vm_flat.proofs.Causes.{Reach, Cause, CopiesThere, Foreign}
use Rattle.vm_flat.proofs.Good.{Good, good_puts, good_again}
use Rattle.vm_flat.proofs.World.{ReachAt, World, view, tops_below, GoodAt, path_covered, under_view, Barren, each_place}
use Rattle.vm_flat.proofs.Marked.{Marked, marked_nothing, marked_plain}
use Rattle.vm_flat.proofs.Stored.{and_no, and_yes, page_no, page_yes, path_other, kind, top_covered, no_if, not_ours}
use Rattle.vm_flat.proofs.File.{file_is}

view_other : (z : Ground) (x y l lp r i k q : ℕ) (o p : ℕ) (past : List Deed) → (o ≡ k → p ≡ q → ⊥)
    → view z o p (Copied true x y l lp r i k q ∷ past) ≡ view z o p past
view_other z x y l lp r i k q o p past apart = and_no o p k q (flat z x y past) (view z o p past) apart

-- the other regions
slow_other : (z : Ground) (x y l lp r i k q : ℕ) (past : List Deed) → World z past → CopiesThere z x y l lp r i k q past
    → (g j : ℕ) → (row z g past).used ≡ true → j < (row z g past).pages → (g ≡ r → j ≡ i → ⊥)
    → flat z g j (Copied true x y l lp r i k q ∷ past) ≡ view z (row z g past).top ((row z g past).shift + j) (Copied true x y l lp r i k q ∷ past)
slow_other z x y l lp r i k q past w c g j used inside apart =
    let was : flat z g j past ≡ view z (row z g past).top ((row z g past).shift + j) past = w.regional g j used inside in
    let left : flat z g j (Copied true x y l lp r i k q ∷ past) ≡ flat z g j past = page_no g j r i (flat z x y past) (flat z g j past) apart in
    let right : view z (row z g past).top ((row z g past).shift + j) (Copied true x y l lp r i k q ∷ past) ≡ view z (row z g past).top
    ((row z g past).shift + j) past =
    view_other z x y l lp r i k q (row z g past).top ((row z g past).shift + j) past elsewhere in
    left ∙ was ∙ sym right
  where
    elsewhere : (row z g past).top ≡ k → (row z g past).shift + j ≡ q → ⊥
    elsewhere e f = elim (ℕ_discrete g r) [
      | yes is ↦ apart is (let same : (row z r past).shift + j ≡ q = subst (λ (h : ℕ). (row z h past).shift + j ≡ q) is f in omega (arith, same, c.tops.page))
      | no is ↦ w.shape.alone r g c.tops.used c.unmarked used is (e ∙ sym c.tops.object)
    ]

slow_own : (z : Ground) (x y l lp r i k q : ℕ) (past : List Deed) → World z past → CopiesThere z x y l lp r i k q past
    → flat z r i (Copied true x y l lp r i k q ∷ past) ≡ view z (row z r past).top ((row z r past).shift + i) (Copied true x y l lp r i k q ∷ past)
slow_own z x y l lp r i k q past w c =
    page_yes r i r i (flat z x y past) (flat z r i past) refl refl
    ∙ sym (and_yes (row z r past).top ((row z r past).shift + i) k q (flat z x y past) (view z (row z r past).top ((row z r past).shift + i) past) c.tops.object
    c.tops.page)

slow_after : (z : Ground) (x y l lp r i k q : ℕ) (past : List Deed) → World z past → CopiesThere z x y l lp r i k q past
    → (g j : ℕ) → (row z g past).used ≡ true → j < (row z g past).pages
    → flat z g j (Copied true x y l lp r i k q ∷ past) ≡ view z (row z g past).top ((row z g past).shift + j) (Copied true x y l lp r i k q ∷ past)
slow_after z x y l lp r i k q past w c g j used inside = elim (ℕ_discrete g r) [
  | no apart ↦ slow_other z x y l lp r i k q past w c g j used inside (λ e f. apart e)
  | yes e ↦ elim (ℕ_discrete j i) [
    | no apart ↦ slow_other z x y l lp r i k q past w c g j used inside (λ e' f. apart f)
    | yes f ↦ subst (λ (h : ℕ). flat z h j (Copied true x y l lp r i k q ∷ past) ≡ view z (row z h past).top ((row z h past).shift + j)
        (Copied true x y l lp r i k q ∷ past)) (sym e)
        (subst (λ (h : ℕ). flat z r h (Copied true x y l lp r i k q ∷ past) ≡ view z (row z r past).top ((row z r past).shift + h)
        (Copied true x y l lp r i k q ∷ past)) (sym f)
        (slow_own z x y l lp r i k q past w c))
  ]
]

-- nothing that is reached stands on the object
under_other : (z : Ground) (x y l lp r i k q : ℕ) (past : List Deed) → World z past → CopiesThere z x y l lp r i k q past
    → (o p : ℕ) → Reach z o past → content (spot z o p past) ≡ None → (link z o past).backed ≡ true
    → under_view z o p (Copied true x y l lp r i k q ∷ past) ≡ under_view z o p past
under_other z x y l lp r i k q past w c o p reach none backed =
    view_other z x y l lp r i k q (link z o past).under ((link z o past).shift + p) past by_kind
  where
    clash : (b : Bool) → b ≡ false → b ≡ true → ⊥
    clash b isnt is = cc

    by_kind : (link z o past).under ≡ k → (link z o past).shift + p ≡ q → ⊥
    by_kind e f = elim (kind z k past (top_covered z r i k q past w.shape c.tops)) [
      | inl file ↦ clash (is_file z k) (sym (file_is z k q past) ∙ c.plain) file
      | inr temporary ↦ w.shape.own r o c.tops.used c.unmarked (omega (arith, temporary, c.tops.object)) reach backed (e ∙ sym c.tops.object)
    ]

-- what is below a place that is reached and not the event's own is not the event's own
barren_other : (z : Ground) (x y l lp r i k q : ℕ) (past : List Deed) → World z past → CopiesThere z x y l lp r i k q past
    → (o p : ℕ) → (o ≡ k → p ≡ q → ⊥) → Reach z o past → Barren z o p past → Barren z o p (Copied true x y l lp r i k q ∷ past)
barren_other z x y l lp r i k q past w c o p apart reach barren n m mp path = (
  view_other z x y l lp r i k q m mp past (apart_from (kind z k past (top_covered z r i k q past w.shape c.tops))) ∙ (barren n m mp path).0,
  (barren n m mp path).1,
)
  where
    clash : (b : Bool) → b ≡ false → b ≡ true → ⊥
    clash b isnt is = cc

    apart_from : (is_file z k ≡ true) ⊎ (z.named ≤ k) → m ≡ k → mp ≡ q → ⊥
    apart_from (inr temporary) = path_other z r i k q past w.shape c.tops c.unmarked temporary n o p m mp reach path apart
    apart_from (inl file) = λ e f. absurd (clash (is_file z m) (barren n m mp path).1 (ap (is_file z) e ∙ file))

after_own : (z : Ground) (x y l lp r i k q : ℕ) (past : List Deed) → World z past → CopiesThere z x y l lp r i k q past
    → World z (Copied true x y l lp r i k q ∷ past)
after_own z x y l lp r i k q past w c =
    record {
      shape = w.shape;
      regional = slow_after z x y l lp r i k q past w c;
      places = λ o p ours. places_if o p ours (k == o && q == p) refl;
      stems = w.stems;
      marks = each_place (Marked z past) k q true (Raises (spot z l lp past).bytes) Nothing
          (λ is. marked_plain z past w k q (Raises (spot z l lp past).bytes) (λ copy. clash (is_copy z k past) c.no_copy copy)) (marked_nothing z past w);
    }
  where
    clash : (b : Bool) → b ≡ false → b ≡ true → ⊥
    clash b isnt is = cc

    page : List ℕ
    page = (spot z l lp past).bytes

    born : (o : ℕ) → o ≡ k → objects z past ≤ o → ⊥
    born o e unborn = omega (arith, tops_below w.shape r c.tops.used, c.tops.object, e, unborn)

    own : (o p : ℕ) → covered z o past ≡ true → o ≡ k → p ≡ q
        → Good z.zeros (ReachAt z o p past) (objects z past ≤ o) (Barren z o p (Copied true x y l lp r i k q ∷ past)) (flat z x y past) (link z o past).backed
        (under_view z o p (Copied true x y l lp r i k q ∷ past)) (spot_after z.zeros (spot z o p past) (Raises page))
    own o p ours e f =
        let there : (s : Spot) → s ≡ spot z k q past → (s.here ≡ false) × (s.asked ≡ false)
        × (s.file ≡ false) = λ s is. subst (λ (t : Spot). (t.here ≡ false) × (t.asked ≡ false) × (t.file ≡ false)) (sym is) (c.away, c.unasked, c.plain) in
        let at : ((spot z o p past).here ≡ false) × ((spot z o p past).asked ≡ false)
        × ((spot z o p past).file ≡ false) = there (spot z o p past) (ap (λ h. spot z h p past) e ∙ ap (λ h. spot z k h past) f) in
        subst (λ (v : List ℕ). Good z.zeros (ReachAt z o p past) (objects z past ≤ o) (Barren z o p (Copied true x y l lp r i k q ∷ past)) v
        (link z o past).backed (under_view z o p (Copied true x y l lp r i k q ∷ past)) (spot_after z.zeros (spot z o p past) (Raises page)))
        (sym c.same)
        (good_puts z.zeros (ReachAt z o p past) (objects z past ≤ o) (Barren z o p past) (Barren z o p (Copied true x y l lp r i k q ∷ past)) (view z o p past)
        (link z o past).backed (under_view z o p past) (under_view z o p (Copied true x y l lp r i k q ∷ past)) (spot z o p past) page (w.places o p ours)
        at (born o e))

    other : (o p : ℕ) → covered z o past ≡ true → (o ≡ k → p ≡ q → ⊥)
        → Good z.zeros (ReachAt z o p past) (objects z past ≤ o) (Barren z o p (Copied true x y l lp r i k q ∷ past)) (view z o p past) (link z o past).backed
        (under_view z o p (Copied true x y l lp r i k q ∷ past)) (spot z o p past)
    other o p ours apart =
        good_again z.zeros (ReachAt z o p past) (ReachAt z o p past) (objects z past ≤ o) (objects z past ≤ o) (Barren z o p past)
        (Barren z o p (Copied true x y l lp r i k q ∷ past)) (view z o p past) (view z o p past) (link z o past).backed (under_view z o p past)
        (under_view z o p (Copied true x y l lp r i k q ∷ past)) (spot z o p past)
        (w.places o p ours) (λ x. x) (λ x. x) (λ x. refl) (λ reach. under_other z x y l lp r i k q past w c o p reach.0)
        (λ reach. barren_other z x y l lp r i k q past w c o p apart reach.0)

    places_if : (o p : ℕ) → covered z o past ≡ true → (b : Bool) → (k == o && q == p) ≡ b
        → Good z.zeros (ReachAt z o p past) (objects z past ≤ o) (Barren z o p (Copied true x y l lp r i k q ∷ past))
        (if b then flat z x y past else view z o p past) (link z o past).backed (under_view z o p (Copied true x y l lp r i k q ∷ past))
        (spot_after z.zeros (spot z o p past) (if b then Raises (spot z l lp past).bytes else Nothing))
    places_if o p ours true is = own o p ours (grind (arith, nat_tests)) (grind (arith, nat_tests))
    places_if o p ours false is = other o p ours (λ e f. absurd (grind (arith, nat_tests)))

-- at a place that is not ours, for a region that is not in use
after_foreign : (z : Ground) (own : Bool) (x y l lp r i k q : ℕ) (past : List Deed) → World z past → Foreign z own r k past
    → World z (Copied own x y l lp r i k q ∷ past)
after_foreign z own x y l lp r i k q past w f =
    record {
      shape = w.shape;
      regional = regional;
      places = places;
      stems = w.stems;
      marks = each_place (Marked z past) k q own (Raises (spot z l lp past).bytes) Nothing (λ is ours. absurd (not_ours z own r k past f k ours is refl))
          (marked_nothing z past w);
    }
  where
    view_is : (o p : ℕ) → covered z o past ≡ true → view z o p (Copied own x y l lp r i k q ∷ past) ≡ view z o p past
    view_is o p ours = no_if own o p k q (flat z x y past) (view z o p past) (not_ours z own r k past f o ours)

    clash : (b : Bool) → b ≡ false → b ≡ true → ⊥
    clash b isnt is = cc

    regional : (g j : ℕ) → (row z g past).used ≡ true → j < (row z g past).pages
        → flat z g j (Copied own x y l lp r i k q ∷ past) ≡ view z (row z g past).top ((row z g past).shift + j) (Copied own x y l lp r i k q ∷ past)
    regional g j used inside =
        page_no g j r i (flat z x y past) (flat z g j past) (λ e e'. clash (row z g past).used (ap (λ h. (row z h past).used) e ∙ f.unused) used)
        ∙ w.regional g j used inside
        ∙ sym (view_is (row z g past).top ((row z g past).shift + j) (w.shape.covers_tops g used))

    places : (o p : ℕ) → covered z o past ≡ true → GoodAt z (Copied own x y l lp r i k q ∷ past) o p (spot z o p (Copied own x y l lp r i k q ∷ past))
    places o p ours =
        subst (λ e. GoodAt z (Copied own x y l lp r i k q ∷ past) o p (spot_after z.zeros (spot z o p past) e))
        (sym (no_if own o p k q (Raises (spot z l lp past).bytes) Nothing (not_ours z own r k past f o ours)))
        (good_again z.zeros (ReachAt z o p past) (ReachAt z o p past) (objects z past ≤ o) (objects z past ≤ o) (Barren z o p past)
        (Barren z o p (Copied own x y l lp r i k q ∷ past)) (view z o p past) (view z o p (Copied own x y l lp r i k q ∷ past)) (link z o past).backed
        (under_view z o p past) (under_view z o p (Copied own x y l lp r i k q ∷ past)) (spot z o p past)
        (w.places o p ours) (λ x. x) (λ x. x) (λ x. view_is o p ours) (λ reach none backed. view_is (link z o past).under ((link z o past).shift + p)
        (w.shape.covers_under o ours backed))
        (λ reach barren n m mp path. (view_is m mp (path_covered z n o p m mp past w.shape ours path) ∙ (barren n m mp path).0, (barren n m mp path).1)))

pub after_copied : (z : Ground) (own : Bool) (x y l lp r i k q : ℕ) (past : List Deed) → World z past → Cause z (Copied own x y l lp r i k q) past
    → World z (Copied own x y l lp r i k q ∷ past)
after_copied z own x y l lp r i k q past w (inl there) =
    subst (λ (b : Bool). World z (Copied b x y l lp r i k q ∷ past)) (sym there.0.on_host) (after_own z x y l lp r i k q past w there.1)
after_copied z own x y l lp r i k q past w (inr foreign) = after_foreign z own x y l lp r i k q past w foreign
