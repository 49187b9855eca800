-- Events that make, copy, leave and shadow regions.
use Rattle.std.proofs.Common.{◌≡◌, ℕ, zero, suc, ◌+◌, ◌<◌, ◌≤◌, List, [], ◌∷◌, arith, Bool, true, false, Some, refl, if◌then◌else◌, ◌∙◌, sym, subst, ◌≢◌, inl}
use Rattle.std.proofs.Common.{inr}
use Rattle.std.proofs.lemmas.Bool.Decides.{nat_tests}
use Rattle.std.specs.Prelude.{◌⊎◌, ◌==◌, ◌&&◌}
use native.Mathlib.Decide.{ℕ_discrete}
use Rattle.vm_flat.proofs.Deeds.{pages, Ground, Deed, Region, Cow, Kept, Shadowed, Row, made_row, cow_row, shadow_row, row, regions, objects, Link, link, spot}
use Rattle.vm_flat.proofs.Deeds.{Delayed, flat, covered, is_file, newest, is_copy, is_pushed, stem}
use Rattle.vm_flat.proofs.Covered.{covered_fresh, file_declared}
use Rattle.vm_flat.proofs.Stems.{Newest, StemsOf}
use Rattle.vm_flat.proofs.Marked.{mark_again}
use Rattle.vm_flat.proofs.Causes.{Below, Reach, Cause}
use Rattle.vm_flat.proofs.Good.{good_again, fits_blank}
use Rattle.vm_flat.proofs.World.{ReachAt, ShapeOf, World, GoodAt, view, tops_below, path_small, reach_small, under_view, Barren}

pub eq_no : (o k : ℕ) → o ≢ k → (o == k) ≡ false
eq_no o k apart = grind (arith, nat_tests)

pub eq_yes : (o k : ℕ) → o ≡ k → (o == k) ≡ true
eq_yes o k e = grind (arith, nat_tests)

pub if_no : {A : Type 0} (o k : ℕ) (x y : A) → o ≢ k → (if o == k then x else y) ≡ y
if_no o k x y apart = subst (λ (b : Bool). (if b then x else y) ≡ y) (sym (eq_no o k apart)) refl

pub if_yes : {A : Type 0} (o k : ℕ) (x y : A) → o ≡ k → (if o == k then x else y) ≡ x
if_yes o k x y e = subst (λ (b : Bool). (if b then x else y) ≡ x) (sym (eq_yes o k e)) refl

made_other : (z : Ground) (own : Bool) (r region object count : ℕ) (past : List Deed) → r ≢ region
    → row z r (Region own region object count ∷ past) ≡ row z r past
made_other z own r region object count past apart =
    subst (λ (b : Bool). made_row b own object count (row z r past) ≡ row z r past) (sym (eq_no r region apart)) refl

pub cow_other : (z : Ground) (r region source off count : ℕ) (past : List Deed) → r ≢ region → r ≢ source
    → row z r (Cow region source off count ∷ past) ≡ row z r past
cow_other z r region source off count past apart too =
    subst (λ (b : Bool). cow_row b (r == source) off count (row z source past) (row z r past) ≡ row z r past) (sym (eq_no r region apart))
    (subst (λ (c : Bool). cow_row false c off count (row z source past) (row z r past) ≡ row z r past) (sym (eq_no r source too)) refl)

pub shadow_other : (z : Ground) (r region new : ℕ) (past : List Deed) → r ≢ region → row z r (Shadowed region new ∷ past) ≡ row z r past
shadow_other z r region new past apart = subst (λ (b : Bool). shadow_row b new (row z r past) ≡ row z r past) (sym (eq_no r region apart)) refl

pub below_bare : (links : ℕ → Link) (n o u : ℕ) → ((links o).backed ≡ true → ⊥) → Below links n o u → o ≡ u
below_bare links zero o u bare is = is
below_bare links (suc n) o u bare is = absurd (bare is.0)

-- below an object that is there, links of new ones are not seen
pub below_old : (links new : ℕ → Link) (m n o u : ℕ) → o < m → ((k : ℕ) → k < m → new k ≡ links k) → ((k : ℕ) → (links k).backed ≡ true → (links k).under < m)
    → Below new n o u → Below links n o u
below_old links new m zero o u small same born is = is
below_old links new m (suc n) o u small same born is =
    let backed : (links o).backed ≡ true = subst (λ (l : Link). l.backed ≡ true) (same o small) is.0 in
    let next : Below new n (links o).under u = subst (λ (l : Link). Below new n l.under u) (same o small) is.1 in
    (backed, below_old links new m n (links o).under u (born o backed) same born next)

-- the declared objects come first
pub named_objects : (z : Ground) (past : List Deed) → z.named ≤ objects z past
named_objects z [] = omega arith
named_objects z (Region own region object count ∷ past) = omega (arith, named_objects z past)
named_objects z (Delayed tells region source off count copy ∷ past) = omega (arith, named_objects z past)
named_objects z (Shadowed region new ∷ past) = omega (arith, named_objects z past)
named_objects z (e ∷ past) = named_objects z past

-- region

stems_region : (z : Ground) (own : Bool) (region object count : ℕ) (past : List Deed) → StemsOf z past → object ≡ objects z past
    → StemsOf z (Region own region object count ∷ past)
stems_region z own region object count past s new =
    record { stands = s.stands; newest_is = newest_is; sources = s.sources; copy_is = s.copy_is; unmade = λ o u. s.unmade o (omega (arith, u)) }
  where
    pages_old : (k : ℕ) → k < objects z past → pages z k (Region own region object count ∷ past) ≡ pages z k past
    pages_old k small = if_no k object count (pages z k past) (λ e. omega (arith, small, e, new))

    newest_is : (f c : ℕ) → newest z f past ≡ Some c
        → Newest (λ o. is_file z o) (λ o. link z o past) (λ o. pages z o (Region own region object count ∷ past)) (suc (objects z past))
        (λ o. is_copy z o past) (λ o. stem z o past) f c
    newest_is f c is =
        let n = s.newest_is f c is in
        record {
          file = n.file;
          copy = n.copy;
          source = n.source;
          backed = n.backed;
          under = n.under;
          shift = n.shift;
          made = omega (arith, n.made);
          same_pages =
              pages_old c n.made
              ∙ n.same_pages
              ∙ sym (pages_old f (omega (arith, file_declared z f n.file, named_objects z past)));
        }

-- what isn't made is no copy
pub unmade_copy : (z : Ground) (o : ℕ) (past : List Deed) → World z past → objects z past ≤ o → is_copy z o past ≡ true → ⊥
unmade_copy z o past w unmade copy = clash (is_copy z o past) (w.stems.unmade o unmade).1 copy
  where
    clash : (b : Bool) → b ≡ false → b ≡ true → ⊥
    clash b isnt is = cc

reach_region : (z : Ground) (here : Bool) (region object count o : ℕ) (past : List Deed) → ShapeOf z past → object ≡ objects z past
    → Reach z o (Region here region object count ∷ past) → Reach z o past ⊎ (object ≡ o)
reach_region z here region object count o past sh new reach = elim (ℕ_discrete reach.0 region) [
  | yes e ↦
      let at : Below (λ k. link z k past) reach.1 object o = subst (λ (t : ℕ). Below (λ k. link z k past) reach.1 t o)
      (if_yes reach.0 region object (row z reach.0 past).top e) reach.3 in
      inr (below_bare (λ k. link z k past) reach.1 object o (λ backed. omega (arith, sh.made object backed, new)) at)
  | no other ↦
      let same : row z reach.0 (Region here region object count ∷ past) ≡ row z reach.0 past = made_other z here reach.0 region object count past other in
      inl (reach.0, reach.1, subst (λ (x : Row). x.used ≡ true) same reach.2, subst (λ (x : Row). Below (λ k. link z k past) reach.1 x.top o) same reach.3)
]

shape_region : (z : Ground) (here : Bool) (region object count : ℕ) (past : List Deed) → ShapeOf z past → (here ≡ true → covered z object past ≡ true)
    → region ≡ regions z past → object ≡ objects z past → ShapeOf z (Region here region object count ∷ past)
shape_region z here region object count past sh ours is new =
    record {
      rows_below = λ r used. grind (arith, nat_tests, sh.rows_below r);
      tops_made = λ r less. grind (arith, nat_tests, sh.tops_made r);
      born = λ o backed. omega (arith, sh.born o backed);
      rank = sh.rank;
      falls = sh.falls;
      made = λ o backed. omega (arith, sh.made o backed);
      covers_tops = covers_tops;
      covers_under = sh.covers_under;
      tops_inside = λ r i used less. grind (arith, nat_tests, sh.tops_inside r i, sh.tops_made r, sh.rows_below r, new);
      inside = inside;
      own = apart;
      alone = λ r q used mark used' apart. grind (arith, nat_tests, sh.alone r q, sh.tops_made r, sh.tops_made q, sh.rows_below r, sh.rows_below q);
    }
  where
    covers_tops : (r : ℕ) → (row z r (Region here region object count ∷ past)).used ≡ true
        → covered z (row z r (Region here region object count ∷ past)).top past ≡ true
    covers_tops r used = elim (ℕ_discrete r region) [
      | yes e ↦ subst (λ (k : ℕ). covered z k past ≡ true) (sym (if_yes r region object (row z r past).top e))
          (ours (sym (if_yes r region here (row z r past).used e) ∙ used))
      | no other ↦ subst (λ (x : Row). x.used ≡ true → covered z x.top past ≡ true) (sym (made_other z here r region object count past other))
          (sh.covers_tops r) used
    ]

    pages_old : (k : ℕ) → k < objects z past → pages z k (Region here region object count ∷ past) ≡ pages z k past
    pages_old k small = if_no k object count (pages z k past) (λ e. omega (arith, small, e, new))

    inside : (o p : ℕ) → Reach z o (Region here region object count ∷ past) → (link z o past).backed ≡ true
        → p < pages z o (Region here region object count ∷ past)
        → (link z o past).shift + p < pages z (link z o past).under (Region here region object count ∷ past)
    inside o p reach backed less = elim (reach_region z here region object count o past sh new reach) [
      | inl was ↦ subst (λ (m : ℕ). (link z o past).shift + p < m) (sym (pages_old (link z o past).under (sh.born o backed)))
          (sh.inside o p was backed (subst (λ (m : ℕ). p < m) (pages_old o (sh.made o backed)) less))
      | inr e ↦ absurd (omega (arith, e, new, sh.made o backed))
    ]

    apart : (r v : ℕ) → (row z r (Region here region object count ∷ past)).used ≡ true → (row z r (Region here region object count ∷ past)).mark ≡ false
        → z.named ≤ (row z r (Region here region object count ∷ past)).top → Reach z v (Region here region object count ∷ past) → (link z v past).backed ≡ true
        → (link z v past).under ≢ (row z r (Region here region object count ∷ past)).top
    apart r v used mark kind reach backed = elim (ℕ_discrete r region) [
      | yes e ↦ λ same. omega (arith, sh.born v backed, same ∙ if_yes r region object (row z r past).top e, new)
      | no other ↦
          let row_is : row z r (Region here region object count ∷ past) ≡ row z r past = made_other z here r region object count past other in
          elim (reach_region z here region object count v past sh new reach) [
            | inl was ↦ subst (λ (x : Row). (link z v past).under ≢ x.top) (sym row_is)
                (sh.own r v (subst (λ (x : Row). x.used ≡ true) row_is used) (subst (λ (x : Row). x.mark ≡ false) row_is mark)
                (subst (λ (x : Row). z.named ≤ x.top) row_is kind) was backed)
            | inr e ↦ absurd (omega (arith, e, new, sh.made v backed))
          ]
    ]

pub after_region : (z : Ground) (here : Bool) (region object count : ℕ) (past : List Deed) → World z past → Cause z (Region here region object count) past
    → World z (Region here region object count ∷ past)
after_region z here region object count past w c =
    record {
      shape = shape_region z here region object count past w.shape
          (λ own. covered_fresh z object past (omega (arith, named_objects z past, c.1)) (w.stems.unmade object (omega (arith, c.1))).0 (c.2 own)) c.0 c.1;
      regional = regional;
      places = places;
      stems = stems_region z here region object count past w.stems c.1;
      marks = λ o p ours.
          mark_again (objects z past ≤ o) (suc (objects z past) ≤ o) (is_copy z o past ≡ true) (is_copy z o past ≡ true) (Reach z o past)
          (Reach z o (Region here region object count ∷ past)) (is_pushed z o p past) (spot z o p past) (λ u. omega (arith, u)) (λ copy. copy)
          (λ copy reach. elim (reach_region z here region object count o past w.shape c.1 reach) [
            | inl was ↦ was
            | inr e ↦ absurd (unmade_copy z o past w (omega (arith, e, c.1)) copy)
          ])
          (w.marks o p ours);
    }
  where
    view_old : (o p : ℕ) → o < objects z past → view z o p (Region here region object count ∷ past) ≡ view z o p past
    view_old o p small = if_no o object z.zeros (view z o p past) (λ e. omega (arith, small, e, c.1))

    regional : (r i : ℕ) → (row z r (Region here region object count ∷ past)).used ≡ true → i < (row z r (Region here region object count ∷ past)).pages
        → flat z r i (Region here region object count ∷ past) ≡ view z (row z r (Region here region object count ∷ past)).top
        ((row z r (Region here region object count ∷ past)).shift + i) (Region here region object count ∷ past)
    regional r i used inside = elim (ℕ_discrete r region) [
      | yes e ↦ if_yes r region z.zeros (flat z r i past) e
          ∙ sym (if_yes (row z r (Region here region object count ∷ past)).top object z.zeros
          (view z (row z r (Region here region object count ∷ past)).top ((row z r (Region here region object count ∷ past)).shift + i) past)
          (if_yes r region object (row z r past).top e))
      | no other ↦
          let row_is : row z r (Region here region object count ∷ past) ≡ row z r past = made_other z here r region object count past other in
          let was : (row z r past).used ≡ true = subst (λ (x : Row). x.used ≡ true) row_is used in
          if_no r region z.zeros (flat z r i past) other ∙ w.regional r i was (subst (λ (x : Row). i < x.pages) row_is inside)
          ∙ subst (λ (x : Row). view z (row z r past).top ((row z r past).shift + i) past ≡ view z x.top (x.shift + i) (Region here region object count ∷ past))
          (sym row_is)
          (sym (view_old (row z r past).top ((row z r past).shift + i) (tops_below w.shape r was)))
    ]

    old_small : (o : ℕ) → o ≢ object → Reach z o (Region here region object count ∷ past) → o < objects z past
    old_small o other reach =
        elim (reach_region z here region object count o past w.shape c.1 reach) [ inl was ↦ reach_small z o past w.shape was | inr e ↦ absurd (other (sym e)) ]

    places : (o p : ℕ) → covered z o past ≡ true → GoodAt z (Region here region object count ∷ past) o p (spot z o p past)
    places o p ours = elim (ℕ_discrete o object) [
      | yes e ↦
          record {
            sound = (w.places o p ours).sound;
            fits =
                λ r. fits_blank z.zeros (Barren z o p (Region here region object count ∷ past)) (view z o p (Region here region object count ∷ past))
                (link z o past).backed (under_view z o p (Region here region object count ∷ past)) (spot z o p past) (w.places o p ours).sound
                ((w.places o p ours).blank (omega (arith, e, c.1))) (λ backed. absurd (omega (arith, w.shape.made o backed, e, c.1)))
                (λ bare. if_yes o object z.zeros (view z o p past) e);
            blank = λ u. (w.places o p ours).blank (omega (arith, u));
          }
      | no other ↦
          good_again z.zeros (ReachAt z o p past) (ReachAt z o p (Region here region object count ∷ past)) (objects z past ≤ o) (suc (objects z past) ≤ o)
          (Barren z o p past) (Barren z o p (Region here region object count ∷ past)) (view z o p past)
          (view z o p (Region here region object count ∷ past)) (link z o past).backed (under_view z o p past)
          (under_view z o p (Region here region object count ∷ past)) (spot z o p past)
          (w.places o p ours)
          (λ reach. (
            elim (reach_region z here region object count o past w.shape c.1 reach.0) [ inl was ↦ was | inr e ↦ absurd (other (sym e)) ],
            subst (λ (m : ℕ). p < m) (if_no o object count (pages z o past) other) reach.1,
          ))
          (λ u. omega (arith, u))
          (λ reach. if_no o object z.zeros (view z o p past) other)
          (λ reach none backed. view_old (link z o past).under ((link z o past).shift + p) (w.shape.born o backed))
          (λ reach barren n l lp path. (
            view_old l lp (path_small (λ k. link z k past) (objects z past) n o p l lp w.shape.born (old_small o other reach.0)
                path) ∙ (barren n l lp path).0,
            (barren n l lp path).1,
          ))
    ]

-- kept

kept_used : (b u : Bool) → (b && u) ≡ true → u ≡ true
kept_used b u is = grind arith

reach_kept : (z : Ground) (held : ℕ → Bool) (o : ℕ) (past : List Deed) → Reach z o (Kept held ∷ past) → Reach z o past
reach_kept z held o past reach = (reach.0, reach.1, kept_used (held reach.0) (row z reach.0 past).used reach.2, reach.3)

pub after_kept : (z : Ground) (held : ℕ → Bool) (past : List Deed) → World z past → World z (Kept held ∷ past)
after_kept z held past w =
    record {
      shape =
          record {
            rows_below = λ r used. w.shape.rows_below r (was r used);
            tops_made = w.shape.tops_made;
            born = w.shape.born;
            rank = w.shape.rank;
            falls = w.shape.falls;
            made = w.shape.made;
            covers_tops = λ r used. w.shape.covers_tops r (was r used);
            covers_under = w.shape.covers_under;
            tops_inside = λ r i used. w.shape.tops_inside r i (was r used);
            inside = λ o p reach. w.shape.inside o p (reach_kept z held o past reach);
            own = λ r v used mark kind reach. w.shape.own r v (was r used) mark kind (reach_kept z held v past reach);
            alone = λ r q used mark used'. w.shape.alone r q (was r used) mark (was q used');
          };
      regional = λ r i used. w.regional r i (was r used);
      places = λ o p ours.
          good_again z.zeros (ReachAt z o p past) (ReachAt z o p (Kept held ∷ past)) (objects z past ≤ o) (objects z past ≤ o) (Barren z o p past)
          (Barren z o p past) (view z o p past) (view z o p past) (link z o past).backed (under_view z o p past) (under_view z o p past) (spot z o p past)
          (w.places o p ours) (λ reach. (reach_kept z held o past reach.0, reach.1)) (λ u. u) (λ reach. refl) (λ reach none backed. refl)
          (λ reach barren. barren);
      stems = w.stems;
      marks = λ o p ours.
          mark_again (objects z past ≤ o) (objects z past ≤ o) (is_copy z o past ≡ true) (is_copy z o past ≡ true) (Reach z o past)
          (Reach z o (Kept held ∷ past)) (is_pushed z o p past) (spot z o p past) (λ u. u) (λ copy. copy) (λ copy. reach_kept z held o past) (w.marks o p ours);
    }
  where
    was : (r : ℕ) → (row z r (Kept held ∷ past)).used ≡ true → (row z r past).used ≡ true
    was r used = kept_used (held r) (row z r past).used used
