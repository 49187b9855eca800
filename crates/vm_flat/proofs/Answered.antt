-- An answer of a pager.
use Rattle.std.proofs.Common.{◌<◌, ◌≡◌, ℕ, ◌+◌, ◌≤◌, List, ◌∷◌, arith, Bool, true, false, refl, if◌then◌else◌, ◌∙◌, sym, subst, ap, inl, inr}
use Rattle.std.proofs.lemmas.Bool.Decides.{nat_tests}
use Rattle.std.specs.Prelude.{◌==◌, ◌&&◌}
use native.Mathlib.Decide.{ℕ_discrete}
use Rattle.vm_flat.specs.Words.{SpotDownWord, Answers, Nothing}
use Rattle.vm_flat.specs.Spot.{spot_after}
use Rattle.vm_flat.proofs.Allowed.{May}
use Rattle.vm_flat.proofs.Deeds.{is_file, covered, Ground, Deed, Answered, said, row, objects, link, spot, flat}
use Rattle.vm_flat.proofs.Marked.{Marked, marked_nothing, marked_saved, marked_plain, copy_plain}
use Rattle.vm_flat.proofs.Causes.{Reach, Cause, Ours, OwnRegion, Foreign}
use Rattle.vm_flat.proofs.Good.{Good, good_answers, good_tells, good_again}
use Rattle.vm_flat.proofs.World.{ReachAt, World, view, GoodAt, path_covered, under_view, Barren, each_place}
use Rattle.vm_flat.proofs.Traffic.{After, rest_nothing}
use Rattle.vm_flat.proofs.Stored.{and_no, and_yes, page_no, page_yes, no_if, not_ours}

-- it says what was known
after_plain : (z : Ground) (own : Bool) (o p : ℕ) (word : SpotDownWord) (past : List Deed) → World z past
    → (Ours z own o past → May z.zeros (spot z o p past) (Answers false word)) → World z (Answered own false o p word ∷ past)
after_plain z own o p word past w c =
    record {
      shape = w.shape;
      regional = w.regional;
      places = each_place (After z past) o p own (Answers false word) Nothing
          (λ is ours. good_answers z.zeros (ReachAt z o p past) (objects z past ≤ o) (Barren z o p past) (view z o p past) (link z o past).backed
          (under_view z o p past) (spot z o p past) word (w.places o p ours) (c (record { on_host = is; covered = ours })))
          (rest_nothing z past w);
      stems = w.stems;
      marks = each_place (Marked z past) o p own (Answers false word) Nothing
          (λ is. marked_saved z past w o p (Answers false word) (λ ours. (c (record { on_host = is; covered = ours }), λ r. tt))) (marked_nothing z past w);
    }

-- it says what the file has
after_told : (z : Ground) (k q : ℕ) (word : SpotDownWord) (past : List Deed) → World z past → May z.zeros (spot z k q past) (Answers true word)
    → OwnRegion z k past → World z (Answered true true k q word ∷ past)
after_told z k q word past w may c =
    record {
      shape = w.shape;
      regional = regional;
      places = λ o p ours. places_if o p ours (k == o && q == p) refl;
      stems = w.stems;
      marks = each_place (Marked z past) k q true (Answers true word) Nothing
          (λ is. marked_plain z past w k q (Answers true word) (λ copy. copy_plain z k past w copy c.file)) (marked_nothing z past w);
    }
  where
    view_else : (o p : ℕ) → (o ≡ k → p ≡ q → ⊥) → view z o p (Answered true true k q word ∷ past) ≡ view z o p past
    view_else o p apart = and_no o p k q (said z.zeros word (view z o p past)) (view z o p past) apart

    at_top : (i : ℕ) → (row z k past).shift + i ≡ i
    at_top i = omega (arith, c.shift)

    own_region : (i : ℕ) → (row z k past).used ≡ true → i < (row z k past).pages
        → flat z k i (Answered true true k q word ∷ past) ≡ view z (row z k past).top ((row z k past).shift + i) (Answered true true k q word ∷ past)
    own_region i used inside = elim (ℕ_discrete i q) [
      | yes e ↦
          page_yes k i k q (said z.zeros word (flat z k i past)) (flat z k i past) refl e
          ∙ ap (said z.zeros word) (w.regional k i used inside)
          ∙ sym (and_yes (row z k past).top ((row z k past).shift + i) k q (said z.zeros word (view z (row z k past).top ((row z k past).shift + i) past))
          (view z (row z k past).top ((row z k past).shift + i) past) c.top (at_top i ∙ e))
      | no apart ↦
          page_no k i k q (said z.zeros word (flat z k i past)) (flat z k i past) (λ e f. apart f)
          ∙ w.regional k i used inside
          ∙ sym (view_else (row z k past).top ((row z k past).shift + i) (λ e f. apart (sym (at_top i) ∙ f)))
    ]

    regional : (r i : ℕ) → (row z r past).used ≡ true → i < (row z r past).pages
        → flat z r i (Answered true true k q word ∷ past) ≡ view z (row z r past).top ((row z r past).shift + i) (Answered true true k q word ∷ past)
    regional r i used inside = elim (ℕ_discrete r k) [
      | yes e ↦ subst (λ (h : ℕ). flat z h i (Answered true true k q word ∷ past) ≡ view z (row z h past).top ((row z h past).shift + i)
          (Answered true true k q word ∷ past)) (sym e)
          (own_region i (subst (λ (h : ℕ). (row z h past).used ≡ true) e used) (subst (λ (h : ℕ). i < (row z h past).pages) e inside))
      | no apart ↦
          page_no r i k q (said z.zeros word (flat z r i past)) (flat z r i past) (λ e f. apart e)
          ∙ w.regional r i used inside
          ∙ sym (view_else (row z r past).top ((row z r past).shift + i) (λ e f. c.alone r used apart e))
    ]

    clash : (b : Bool) → b ≡ false → b ≡ true → ⊥
    clash b isnt is = cc

    barren_else : (o p : ℕ) → (o ≡ k → p ≡ q → ⊥) → Barren z o p past → Barren z o p (Answered true true k q word ∷ past)
    barren_else o p apart barren n l lp path =
        (view_else l lp (λ e f. clash (is_file z l) (barren n l lp path).1 (ap (is_file z) e ∙ c.file)) ∙ (barren n l lp path).0, (barren n l lp path).1)

    under_same : (o p : ℕ) → Reach z o past → (link z o past).backed ≡ true → under_view z o p (Answered true true k q word ∷ past) ≡ under_view z o p past
    under_same o p reach backed = view_else (link z o past).under ((link z o past).shift + p) (λ e f. c.bare o reach backed e)

    own : (o p : ℕ) → covered z o past ≡ true → o ≡ k → p ≡ q
        → Good z.zeros (ReachAt z o p past) (objects z past ≤ o) (Barren z o p (Answered true true k q word ∷ past)) (said z.zeros word (view z o p past))
        (link z o past).backed (under_view z o p (Answered true true k q word ∷ past)) (spot_after z.zeros (spot z o p past) (Answers true word))
    own o p ours e f =
        let may_here : May z.zeros (spot z o p past) (Answers true word) = subst (λ (h : ℕ). May z.zeros (spot z h p past) (Answers true word)) (sym e)
        (subst (λ (h : ℕ). May z.zeros (spot z k h past) (Answers true word)) (sym f) may) in
        good_again z.zeros (ReachAt z o p past) (ReachAt z o p past) (objects z past ≤ o) (objects z past ≤ o) (Barren z o p past)
        (Barren z o p (Answered true true k q word ∷ past)) (said z.zeros word (view z o p past)) (said z.zeros word (view z o p past))
        (link z o past).backed (under_view z o p past) (under_view z o p (Answered true true k q word ∷ past))
        (spot_after z.zeros (spot z o p past) (Answers true word))
        (good_tells z.zeros (ReachAt z o p past) (objects z past ≤ o) (Barren z o p past) (view z o p past) (link z o past).backed (under_view z o p past)
        (spot z o p past) word (w.places o p ours) may_here)
        (λ x. x) (λ x. x) (λ x. refl) (λ reach none backed. under_same o p reach.0 backed)
        (λ reach barren. absurd (clash (is_file z o) (barren 0 o p (refl, refl)).1 (ap (is_file z) e ∙ c.file)))

    other : (o p : ℕ) → covered z o past ≡ true → (o ≡ k → p ≡ q → ⊥)
        → Good z.zeros (ReachAt z o p past) (objects z past ≤ o) (Barren z o p (Answered true true k q word ∷ past)) (view z o p past) (link z o past).backed
        (under_view z o p (Answered true true k q word ∷ past)) (spot z o p past)
    other o p ours apart =
        good_again z.zeros (ReachAt z o p past) (ReachAt z o p past) (objects z past ≤ o) (objects z past ≤ o) (Barren z o p past)
        (Barren z o p (Answered true true k q word ∷ past)) (view z o p past) (view z o p past) (link z o past).backed (under_view z o p past)
        (under_view z o p (Answered true true k q word ∷ past)) (spot z o p past)
        (w.places o p ours) (λ x. x) (λ x. x) (λ x. refl) (λ reach none backed. under_same o p reach.0 backed) (λ reach barren. barren_else o p apart barren)

    places_if : (o p : ℕ) → covered z o past ≡ true → (b : Bool) → (k == o && q == p) ≡ b
        → Good z.zeros (ReachAt z o p past) (objects z past ≤ o) (Barren z o p (Answered true true k q word ∷ past))
        (if b then said z.zeros word (view z o p past) else view z o p past) (link z o past).backed (under_view z o p (Answered true true k q word ∷ past))
        (spot_after z.zeros (spot z o p past) (if b then Answers true word else Nothing))
    places_if o p ours true is = own o p ours (grind (arith, nat_tests)) (grind (arith, nat_tests))
    places_if o p ours false is = other o p ours (λ e f. absurd (grind (arith, nat_tests)))

-- it is about an object that is not in use here
after_away : (z : Ground) (own : Bool) (k q : ℕ) (word : SpotDownWord) (past : List Deed) → World z past → Foreign z own k k past
    → World z (Answered own true k q word ∷ past)
after_away z own k q word past w f =
    record {
      shape = w.shape;
      regional = regional;
      places = places;
      stems = w.stems;
      marks = each_place (Marked z past) k q own (Answers true word) Nothing (λ is ours. absurd (not_ours z own k k past f k ours is refl))
          (marked_nothing z past w);
    }
  where
    view_is : (o p : ℕ) → covered z o past ≡ true → view z o p (Answered own true k q word ∷ past) ≡ view z o p past
    view_is o p ours = no_if own o p k q (said z.zeros word (view z o p past)) (view z o p past) (not_ours z own k k past f o ours)

    clash : (b : Bool) → b ≡ false → b ≡ true → ⊥
    clash b isnt is = cc

    regional : (g j : ℕ) → (row z g past).used ≡ true → j < (row z g past).pages
        → flat z g j (Answered own true k q word ∷ past) ≡ view z (row z g past).top ((row z g past).shift + j) (Answered own true k q word ∷ past)
    regional g j used inside =
        page_no g j k q (said z.zeros word (flat z g j past)) (flat z g j past) (λ e e'. clash (row z g past).used (ap (λ h. (row z h past).used) e ∙ f.unused)
        used)
        ∙ w.regional g j used inside
        ∙ sym (view_is (row z g past).top ((row z g past).shift + j) (w.shape.covers_tops g used))

    places : (o p : ℕ) → covered z o past ≡ true → GoodAt z (Answered own true k q word ∷ past) o p (spot z o p (Answered own true k q word ∷ past))
    places o p ours =
        subst (λ e. GoodAt z (Answered own true k q word ∷ past) o p (spot_after z.zeros (spot z o p past) e))
        (sym (no_if own o p k q (Answers true word) Nothing (not_ours z own k k past f o ours)))
        (good_again z.zeros (ReachAt z o p past) (ReachAt z o p past) (objects z past ≤ o) (objects z past ≤ o) (Barren z o p past)
        (Barren z o p (Answered own true k q word ∷ past)) (view z o p past) (view z o p (Answered own true k q word ∷ past)) (link z o past).backed
        (under_view z o p past) (under_view z o p (Answered own true k q word ∷ past)) (spot z o p past)
        (w.places o p ours) (λ x. x) (λ x. x) (λ x. view_is o p ours) (λ reach none backed. view_is (link z o past).under ((link z o past).shift + p)
        (w.shape.covers_under o ours backed))
        (λ reach barren n l lp path. (view_is l lp (path_covered z n o p l lp past w.shape ours path) ∙ (barren n l lp path).0, (barren n l lp path).1)))

pub after_answered : (z : Ground) (own tells : Bool) (o p : ℕ) (word : SpotDownWord) (past : List Deed) → World z past
    → Cause z (Answered own tells o p word) past → World z (Answered own tells o p word ∷ past)
after_answered z own false o p word past w c = after_plain z own o p word past w c.0
after_answered z own true o p word past w c = elim (c.1 refl) [
  | inl ours ↦ subst (λ (b : Bool). World z (Answered b true o p word ∷ past)) (sym ours.0.on_host) (after_told z o p word past w (c.0 ours.0) ours.1)
  | inr away ↦ after_away z own o p word past w away
]
