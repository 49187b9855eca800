-- Where content comes into a copy's places: by pages that are copied up alone.
use Rattle.std.proofs.Common.{◌≡◌, ◌<◌, ℕ, zero, suc, ◌+◌, ◌≤◌, List, ◌∷◌, arith, Bool, true, false, None, refl, if◌then◌else◌, ◌∙◌, sym, subst, ◌≢◌, inl, inr}
use Rattle.std.proofs.lemmas.Bool.Decides.{nat_tests}
use Rattle.std.specs.Prelude.{◌⊎◌, ◌==◌, ◌&&◌, ◌||◌}
use Rattle.vm_flat.specs.Words.{SpotEffect, Raises, Stores, StepEnds, Nothing}
use Rattle.vm_flat.specs.Spot.{Spot, spot_after}
use Rattle.vm_flat.proofs.Allowed.{May, content}
use Rattle.vm_flat.proofs.Deeds.{Ground, Deed, Raised, is_file, covered, is_copy, is_pushed, objects, link, spot}
use Rattle.vm_flat.proofs.Causes.{Reach, Cause, Finds, Pushes}
use Rattle.vm_flat.proofs.Sound.{Saves, content_saved}
use Rattle.vm_flat.proofs.Stems.{Marks}
use Rattle.vm_flat.proofs.World.{ReachAt, World, MarkAt, Barren, tops_below}

-- where the content stays
pub mark_same : (U C R : Type 0) (b : Bool) (s t : Spot) → (C → R → content t ≡ content s) → Marks U C R b s → Marks U C R b t
mark_same U C R b s t same m =
    record {
      fresh = m.fresh;
      full = λ c r is none. m.full c r is (sym (same c r) ∙ none);
      bare = λ c r is. same c r ∙ m.bare c r is;
    }

-- at a place of no copy
pub mark_plain : (U C R : Type 0) (b : Bool) (s : Spot) → (C → ⊥) → (U → b ≡ false) → Marks U C R b s
mark_plain U C R b s plain fresh = record { fresh = fresh; full = λ c. absurd (plain c); bare = λ c. absurd (plain c) }

pub mark_again : (U U' C C' R R' : Type 0) (b : Bool) (s : Spot) → (U' → U) → (C' → C) → (C' → R' → R) → Marks U C R b s → Marks U' C' R' b s
mark_again U U' C C' R R' b s unborn copy reach m =
    record {
      fresh = λ u. m.fresh (unborn u);
      full = λ c r. m.full (copy c) (reach c r);
      bare = λ c r. m.bare (copy c) (reach c r);
    }

mark_stores : (z : List ℕ) (U C R : Type 0) (b : Bool) (s : Spot) (at : ℕ) (bytes : List ℕ) → s.here ≡ true → (C → R → content s ≢ None) → Marks U C R b s
    → Marks U C R b (spot_after z s (Stores at bytes))
mark_stores z U C R b s at bytes here solid m =
    record {
      fresh = m.fresh;
      full = λ c r is none. some none;
      bare = λ c r is. absurd (solid c r (m.bare c r is));
    }
  where
    some : content (spot_after z s (Stores at bytes)) ≢ None
    some none = grind arith

mark_raises : (z : List ℕ) (U C R : Type 0) (s : Spot) (bytes : List ℕ) → (U → ⊥) → Marks U C R true (spot_after z s (Raises bytes))
mark_raises z U C R s bytes born =
    record {
      fresh = λ u. absurd (born u);
      full = λ c r is none. some none;
      bare = λ c r is. absurd (let no : true ≡ false = is in cc);
    }
  where
    some : content (spot_after z s (Raises bytes)) ≢ None
    some none = cc

-- a copy is no file
pub copy_plain : (z : Ground) (o : ℕ) (past : List Deed) → World z past → is_copy z o past ≡ true → is_file z o ≡ true → ⊥
copy_plain z o past w copy file =
    let c = w.stems.copy_is o copy in
    let late : z.named ≤ o = (w.stems.sources o c.file c.source).late in
    grind (arith, nat_tests)

pub barren_next : (z : Ground) (o p : ℕ) (past : List Deed) → Barren z o p past → (link z o past).backed ≡ true
    → Barren z (link z o past).under ((link z o past).shift + p) past
barren_next z o p past barren backed n l lp path = barren (suc n) l lp (backed, path)

-- a file is below each place of a copy
copy_over : (z : Ground) (n o p : ℕ) (past : List Deed) → (w : World z past) → w.shape.rank o < n → is_copy z o past ≡ true → Barren z o p past → ⊥
copy_over z zero o p past w low copy barren = omega (arith, low)
copy_over z (suc n) o p past w low copy barren =
    let c = w.stems.copy_is o copy in
    let backed : (link z o past).backed ≡ true = (w.stems.sources o c.file c.source).backed in
    let falls : w.shape.rank (link z o past).under < w.shape.rank o = w.shape.falls o backed in
    let next : Barren z (link z o past).under ((link z o past).shift + p) past = barren_next z o p past barren backed in
    elim c.under [
      | inl file ↦ clash (is_file z (link z o past).under) (next 0 (link z o past).under ((link z o past).shift + p) (refl, refl)).1 file
      | inr more ↦ copy_over z n (link z o past).under ((link z o past).shift + p) past w (omega (arith, falls, low)) more next
    ]
  where
    clash : (b : Bool) → b ≡ false → b ≡ true → ⊥
    clash b isnt is = cc

pub barren_copy : (z : Ground) (o p : ℕ) (past : List Deed) → World z past → is_copy z o past ≡ true → Barren z o p past → ⊥
barren_copy z o p past w copy barren = copy_over z (suc (w.shape.rank o)) o p past w (omega arith) copy barren

-- a page that is here has content
pub copy_solid : (z : Ground) (o p : ℕ) (past : List Deed) → World z past → covered z o past ≡ true → ReachAt z o p past → (spot z o p past).here ≡ true
    → is_copy z o past ≡ true → content (spot z o p past) ≢ None
copy_solid z o p past w ours reach here copy none = barren_copy z o p past w copy (((w.places o p ours).fits reach).zeros none here)

-- the places after an effect that copies nothing up
abbrev pub Marked : Ground → List Deed → ℕ → ℕ → SpotEffect → Type 0
Marked z past o p e = covered z o past ≡ true → MarkAt z past o p (spot_after z.zeros (spot z o p past) e)

pub marked_nothing : (z : Ground) (past : List Deed) → World z past → (o p : ℕ) → Marked z past o p Nothing
marked_nothing z past w o p = w.marks o p

pub marked_step : (z : Ground) (past : List Deed) → World z past → (o p : ℕ) → Marked z past o p StepEnds
marked_step z past w o p ours =
    mark_same (objects z past ≤ o) (is_copy z o past ≡ true) (Reach z o past) (is_pushed z o p past) (spot z o p past)
    (spot_after z.zeros (spot z o p past) StepEnds) (λ c r. refl) (w.marks o p ours)

pub marked_saved : (z : Ground) (past : List Deed) → World z past → (o p : ℕ) (e : SpotEffect)
    → (covered z o past ≡ true → May z.zeros (spot z o p past) e × (Reach z o past → Saves (spot z o p past) e)) → Marked z past o p e
marked_saved z past w o p e may ours =
    mark_same (objects z past ≤ o) (is_copy z o past ≡ true) (Reach z o past) (is_pushed z o p past) (spot z o p past)
    (spot_after z.zeros (spot z o p past) e)
    (λ c r. content_saved z.zeros (spot z o p past) e (w.places o p ours).sound (may ours).0 ((may ours).1 r)) (w.marks o p ours)

pub marked_plain : (z : Ground) (past : List Deed) → World z past → (o p : ℕ) (e : SpotEffect) → (is_copy z o past ≡ true → ⊥) → Marked z past o p e
marked_plain z past w o p e plain ours =
    mark_plain (objects z past ≤ o) (is_copy z o past ≡ true) (Reach z o past) (is_pushed z o p past) (spot_after z.zeros (spot z o p past) e) plain
    (w.marks o p ours).fresh

pub marked_stores : (z : Ground) (past : List Deed) → World z past → (o p at : ℕ) (bytes : List ℕ) → ReachAt z o p past → (spot z o p past).here ≡ true
    → Marked z past o p (Stores at bytes)
marked_stores z past w o p at bytes reach here ours =
    mark_stores z.zeros (objects z past ≤ o) (is_copy z o past ≡ true) (Reach z o past) (is_pushed z o p past) (spot z o p past) at bytes here
    (λ c r. copy_solid z o p past w ours reach here c) (w.marks o p ours)

-- a page is copied up
pub marked_raised : (z : Ground) (own : Bool) (l lp k q : ℕ) (past : List Deed) → World z past → Cause z (Raised own l lp k q) past → (o p : ℕ)
    → covered z o past ≡ true → MarkAt z (Raised own l lp k q ∷ past) o p (spot z o p (Raised own l lp k q ∷ past))
marked_raised z own l lp k q past w c o p ours = by (own && (k == o && q == p)) refl
  where
    made : Finds z l lp k q past ⊎ Pushes z l lp k q past → objects z past ≤ k → ⊥
    made (inl f) unborn = omega (arith, tops_below w.shape f.region f.tops.used, f.tops.object, unborn)
    made (inr f) unborn = let n = (w.stems.newest_is l k f.newest).made in omega (arith, n, unborn)

    born : own ≡ true → k ≡ o → objects z past ≤ o → ⊥
    born is e unborn =
        made (c (record { on_host = is; covered = subst (λ (h : ℕ). covered z h past ≡ true) (sym e) ours })) (omega (arith, e, unborn))

    by : (b : Bool) → (own && (k == o && q == p)) ≡ b
        → Marks (objects z past ≤ o) (is_copy z o past ≡ true) (Reach z o past) (b || is_pushed z o p past)
        (spot_after z.zeros (spot z o p past) (if b then Raises (spot z l lp past).bytes else Nothing))
    by false is = w.marks o p ours
    by true is =
        mark_raises z.zeros (objects z past ≤ o) (is_copy z o past ≡ true) (Reach z o past) (spot z o p past) (spot z l lp past).bytes
        (born (grind arith) (grind (arith, nat_tests)))
