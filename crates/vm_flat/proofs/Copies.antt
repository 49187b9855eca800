-- Symmetric copies and shadows.
use Rattle.std.proofs.Common.{◌≡◌, ℕ, zero, suc, ◌+◌, ◌<◌, ◌≤◌, List, ◌∷◌, arith, Bool, true, false, Option, Some, None, refl, if◌then◌else◌, ◌∙◌, sym, subst}
use Rattle.std.proofs.Common.{ap, ◌≢◌, inl, inr}
use Rattle.std.proofs.lemmas.Bool.Decides.{nat_tests}
use Rattle.std.specs.Prelude.{◌⊎◌, ◌==◌}
use native.Mathlib.Decide.{ℕ_discrete}
use Rattle.vm_flat.proofs.Deeds.{pages, Ground, Deed, Cow, Shadowed, Unmarked, Row, cow_row, row, regions, objects, Link, link, spot, flat, covered}
use Rattle.vm_flat.proofs.Deeds.{is_file, newest, is_copy, is_pushed, stem}
use Rattle.vm_flat.proofs.Causes.{Path, Below, Reach, Cause}
use Rattle.vm_flat.proofs.Good.{Good, good_again, fits_blank}
use Rattle.vm_flat.proofs.World.{ReachAt, ShapeOf, World, GoodAt, view, tops_below, path_small, path_old, reach_small, under_view, Barren}
use Rattle.vm_flat.proofs.Regions.{eq_no, if_no, if_yes, cow_other, shadow_other, below_old, named_objects, unmade_copy}
use Rattle.vm_flat.proofs.Covered.{covered_same, covered_alike, covered_fresh, covered_paging, file_declared}
use Rattle.vm_flat.proofs.Stems.{Newest, Source, Copy, StemsOf}
use Rattle.vm_flat.proofs.Marked.{mark_again}

-- cow

cow_top : (z : Ground) (r region source off count : ℕ) (past : List Deed) → r ≢ region → (row z r (Cow region source off count ∷ past)).top ≡ (row z r past).top
cow_top z r region source off count past apart = if_no r region (row z source past).top (row z r past).top apart

cow_shift : (z : Ground) (r region source off count : ℕ) (past : List Deed) → r ≢ region
    → (row z r (Cow region source off count ∷ past)).shift ≡ (row z r past).shift
cow_shift z r region source off count past apart = if_no r region ((row z source past).shift + off) (row z r past).shift apart

cow_used : (z : Ground) (r region source off count : ℕ) (past : List Deed) → r ≢ region → (row z r (Cow region source off count ∷ past)).used ≡ true
    → (row z r past).used ≡ true
cow_used z r region source off count past apart used = sym (if_no r region (row z source past).used (row z r past).used apart) ∙ used

-- the copy is in use where its source is
cow_from : (z : Ground) (r region source off count : ℕ) (past : List Deed) → r ≡ region → (row z r (Cow region source off count ∷ past)).used ≡ true
    → (row z source past).used ≡ true
cow_from z r region source off count past e used = sym (if_yes r region (row z source past).used (row z r past).used e) ∙ used

reach_cow : (z : Ground) (region source off count o : ℕ) (past : List Deed) → Reach z o (Cow region source off count ∷ past) → Reach z o past
reach_cow z region source off count o past reach = elim (ℕ_discrete reach.0 region) [
  | yes e ↦ (
    source,
    reach.1,
    cow_from z reach.0 region source off count past e reach.2,
    subst (λ (t : ℕ). Below (λ k. link z k past) reach.1 t o) (if_yes reach.0 region (row z source past).top (row z reach.0 past).top e) reach.3,
  )
  | no apart ↦ (
    reach.0,
    reach.1,
    cow_used z reach.0 region source off count past apart reach.2,
    subst (λ (t : ℕ). Below (λ k. link z k past) reach.1 t o) (cow_top z reach.0 region source off count past apart) reach.3,
  )
]

-- without the mark it is neither the copy nor its source
cow_mark : (b c : Bool) (off count : ℕ) (source old : Row) → (cow_row b c off count source old).mark ≡ false → (b ≡ false) × (c ≡ false) × (old.mark ≡ false)
cow_mark b c off count source old is = grind arith

not_same : (o k : ℕ) → (o == k) ≡ false → o ≢ k
not_same o k is = grind (arith, nat_tests)

shape_cow : (z : Ground) (region source off count : ℕ) (past : List Deed) → ShapeOf z past → region ≡ regions z past → source < regions z past
    → off + count ≤ (row z source past).pages → ShapeOf z (Cow region source off count ∷ past)
shape_cow z region source off count past sh is from within =
    record {
      rows_below =
          λ r used. elim (ℕ_discrete r region) [
            | yes e ↦ omega (arith, e, is)
            | no apart ↦ omega
                (arith, sh.rows_below r (cow_used z r region source off count past apart used))
          ];
      tops_made = λ r less. grind (arith, nat_tests, sh.tops_made r, sh.tops_made source from);
      born = sh.born;
      rank = sh.rank;
      falls = sh.falls;
      made = sh.made;
      covers_tops = λ r used. elim (ℕ_discrete r region) [
        | yes e ↦ subst (λ (k : ℕ). covered z k past ≡ true) (sym (if_yes r region (row z source past).top (row z r past).top e))
            (sh.covers_tops source (cow_from z r region source off count past e used))
        | no apart ↦ subst (λ (k : ℕ). covered z k past ≡ true) (sym (cow_top z r region source off count past apart))
            (sh.covers_tops r (cow_used z r region source off count past apart used))
      ];
      covers_under = sh.covers_under;
      tops_inside = tops_inside;
      inside = λ o p reach. sh.inside o p (reach_cow z region source off count o past reach);
      own = own;
      alone = alone;
    }
  where
    tops_inside : (r i : ℕ) → (row z r (Cow region source off count ∷ past)).used ≡ true → i < (row z r (Cow region source off count ∷ past)).pages
        → (row z r (Cow region source off count ∷ past)).shift + i < pages z (row z r (Cow region source off count ∷ past)).top past
    tops_inside r i used less = elim (ℕ_discrete r region) [
      | yes e ↦
          let few : i < count = subst (λ (m : ℕ). i < m) (if_yes r region count (row z r past).pages e) less in
          let there : (row z source past).shift + (off + i) < pages z (row z source past).top past = sh.tops_inside source (off + i)
          (cow_from z r region source off count past e used) (omega (arith, few, within)) in
          subst (λ (k : ℕ). (row z r (Cow region source off count ∷ past)).shift + i < pages z k past)
          (sym (if_yes r region (row z source past).top (row z r past).top e))
          (subst (λ (s : ℕ). s + i < pages z (row z source past).top past) (sym (if_yes r region ((row z source past).shift + off) (row z r past).shift e))
          (omega (arith, there)))
      | no apart ↦
          subst (λ (k : ℕ). (row z r (Cow region source off count ∷ past)).shift + i < pages z k past) (sym (cow_top z r region source off count past apart))
          (subst (λ (s : ℕ). s + i < pages z (row z r past).top past) (sym (cow_shift z r region source off count past apart))
          (sh.tops_inside r i (cow_used z r region source off count past apart used)
          (subst (λ (m : ℕ). i < m) (if_no r region count (row z r past).pages apart) less)))
    ]

    own : (r v : ℕ) → (row z r (Cow region source off count ∷ past)).used ≡ true → (row z r (Cow region source off count ∷ past)).mark ≡ false
        → z.named ≤ (row z r (Cow region source off count ∷ past)).top → Reach z v (Cow region source off count ∷ past) → (link z v past).backed ≡ true
        → (link z v past).under ≢ (row z r (Cow region source off count ∷ past)).top
    own r v used mark kind reach backed =
        let plain : ((r == region) ≡ false) × ((r == source) ≡ false)
        × ((row z r past).mark ≡ false) = cow_mark (r == region) (r == source) off count (row z source past) (row z r past) mark in
        let same : row z r (Cow region source off count ∷ past) ≡ row z r past = cow_other z r region source off count past (not_same r region plain.0)
        (not_same r source plain.1) in
        subst (λ (x : Row). (link z v past).under ≢ x.top) (sym same) (sh.own r v (subst (λ (x : Row). x.used ≡ true) same used) plain.2
        (subst (λ (x : Row). z.named ≤ x.top) same kind) (reach_cow z region source off count v past reach) backed)

    alone : (r q : ℕ) → (row z r (Cow region source off count ∷ past)).used ≡ true → (row z r (Cow region source off count ∷ past)).mark ≡ false
        → (row z q (Cow region source off count ∷ past)).used ≡ true → q ≢ r
        → (row z q (Cow region source off count ∷ past)).top ≢ (row z r (Cow region source off count ∷ past)).top
    alone r q used mark used' apart =
        let plain : ((r == region) ≡ false) × ((r == source) ≡ false)
        × ((row z r past).mark ≡ false) = cow_mark (r == region) (r == source) off count (row z source past) (row z r past) mark in
        let same : row z r (Cow region source off count ∷ past) ≡ row z r past = cow_other z r region source off count past (not_same r region plain.0)
        (not_same r source plain.1) in
        let was : (row z r past).used ≡ true = subst (λ (x : Row). x.used ≡ true) same used in
        subst (λ (x : Row). (row z q (Cow region source off count ∷ past)).top ≢ x.top) (sym same) (elim (ℕ_discrete q region) [
          | yes e ↦ λ f. sh.alone r source was plain.2 (cow_from z q region source off count past e used') (λ g. not_same r source plain.1 (sym g))
              (sym (if_yes q region (row z source past).top (row z q past).top e) ∙ f)
          | no other ↦ λ f. sh.alone r q was plain.2 (cow_used z q region source off count past other used') apart
              (sym (cow_top z q region source off count past other) ∙ f)
        ])

pub after_cow : (z : Ground) (region source off count : ℕ) (past : List Deed) → World z past → Cause z (Cow region source off count) past
    → World z (Cow region source off count ∷ past)
after_cow z region source off count past w c =
    record {
      shape = shape_cow z region source off count past w.shape c.0 c.1 c.2;
      regional = regional;
      places = λ o p ours.
          good_again z.zeros (ReachAt z o p past) (ReachAt z o p (Cow region source off count ∷ past)) (objects z past ≤ o) (objects z past ≤ o)
          (Barren z o p past) (Barren z o p past) (view z o p past) (view z o p past) (link z o past).backed (under_view z o p past) (under_view z o p past)
          (spot z o p past)
          (w.places o p ours) (λ reach. (reach_cow z region source off count o past reach.0, reach.1)) (λ u. u) (λ reach. refl) (λ reach none backed. refl)
          (λ reach barren. barren);
      stems = w.stems;
      marks = λ o p ours.
          mark_again (objects z past ≤ o) (objects z past ≤ o) (is_copy z o past ≡ true) (is_copy z o past ≡ true) (Reach z o past)
          (Reach z o (Cow region source off count ∷ past)) (is_pushed z o p past) (spot z o p past) (λ u. u) (λ copy. copy)
          (λ copy. reach_cow z region source off count o past) (w.marks o p ours);
    }
  where
    regional : (r i : ℕ) → (row z r (Cow region source off count ∷ past)).used ≡ true → i < (row z r (Cow region source off count ∷ past)).pages
        → flat z r i (Cow region source off count ∷ past) ≡ view z (row z r (Cow region source off count ∷ past)).top
        ((row z r (Cow region source off count ∷ past)).shift + i) past
    regional r i used inside = elim (ℕ_discrete r region) [
      | yes e ↦
          if_yes r region (flat z source (off + i) past) (flat z r i past) e
          ∙ w.regional source (off + i) (cow_from z r region source off count past e used) (few e)
          ∙ ap (λ q. view z (row z source past).top q past) (omega arith)
          ∙ ap (λ q. view z (row z source past).top (q + i) past) (sym (if_yes r region ((row z source past).shift + off) (row z r past).shift e))
          ∙ ap (λ k. view z k ((row z r (Cow region source off count ∷ past)).shift + i) past)
          (sym (if_yes r region (row z source past).top (row z r past).top e))
      | no apart ↦
          if_no r region (flat z source (off + i) past) (flat z r i past) apart
          ∙ w.regional r i (cow_used z r region source off count past apart used)
          (subst (λ (m : ℕ). i < m) (if_no r region count (row z r past).pages apart) inside)
          ∙ ap (λ q. view z (row z r past).top (q + i) past) (sym (cow_shift z r region source off count past apart))
          ∙ ap (λ k. view z k ((row z r (Cow region source off count ∷ past)).shift + i) past) (sym (cow_top z r region source off count past apart))
    ]
      where
        few : r ≡ region → off + i < (row z source past).pages
        few e = let less : i < count = subst (λ (m : ℕ). i < m) (if_yes r region count (row z r past).pages e) inside in omega (arith, less, c.2)

-- shadowed

true_false : true ≡ false → ⊥
true_false e = cc

link_old : (z : Ground) (o region new : ℕ) (past : List Deed) → o ≢ new → link z o (Shadowed region new ∷ past) ≡ link z o past
link_old z o region new past apart =
    subst (λ (b : Bool). record {
      backed = if b then true else (link z o past).backed;
      under = if b then (row z region past).top else (link z o past).under;
      shift = if b then (row z region past).shift else (link z o past).shift;
    } ≡ link z o past) (sym (eq_no o new apart)) refl

-- what a reached object was
reach_shadowed : (z : Ground) (region new o : ℕ) (past : List Deed) → ShapeOf z past → new ≡ objects z past → region < regions z past
    → Reach z o (Shadowed region new ∷ past) → Reach z o past ⊎ (new ≡ o)
reach_shadowed z region new o past sh is made reach = elim (ℕ_discrete reach.0 region) [
  | yes e ↦ from_new (subst (λ (k : ℕ). (row z k past).used ≡ true) e reach.2) reach.1
      (subst (λ (t : ℕ). Below (λ k. link z k (Shadowed region new ∷ past)) reach.1 t o) (if_yes reach.0 region new (row z reach.0 past).top e) reach.3)
  | no apart ↦
      let same : row z reach.0 (Shadowed region new ∷ past) ≡ row z reach.0 past = shadow_other z reach.0 region new past apart in
      inl (
        reach.0,
        reach.1,
        reach.2,
        old reach.1 (row z reach.0 past).top (tops_below sh reach.0 reach.2)
            (subst (λ (x : Row). Below (λ k. link z k (Shadowed region new ∷ past)) reach.1 x.top o) same reach.3),
      )
]
  where
    old : (n v : ℕ) → v < objects z past → Below (λ k. link z k (Shadowed region new ∷ past)) n v o → Below (λ k. link z k past) n v o
    old n v small below =
        below_old (λ k. link z k past) (λ k. link z k (Shadowed region new ∷ past)) (objects z past) n v o small
        (λ k le. link_old z k region new past (λ e. omega (arith, e, le, is))) sh.born below

    from_new : (row z region past).used ≡ true → (n : ℕ) → Below (λ k. link z k (Shadowed region new ∷ past)) n new o → Reach z o past ⊎ (new ≡ o)
    from_new used zero below = inr below
    from_new used (suc n) below =
        inl (
          region,
          n,
          used,
          old n (row z region past).top (tops_below sh region used)
              (subst (λ (k : ℕ). Below (λ k. link z k (Shadowed region new ∷ past)) n k o) (if_yes new new (row z region past).top (link z new past).under refl)
              below.1),
        )

-- the new object is reached from its region alone
reach_new : (z : Ground) (region new : ℕ) (past : List Deed) → ShapeOf z past → new ≡ objects z past → Reach z new (Shadowed region new ∷ past)
    → (row z region past).used ≡ true
reach_new z region new past sh is reach = elim (ℕ_discrete reach.0 region) [
  | yes e ↦ subst (λ (k : ℕ). (row z k past).used ≡ true) e reach.2
  | no apart ↦
      let same : row z reach.0 (Shadowed region new ∷ past) ≡ row z reach.0 past = shadow_other z reach.0 region new past apart in
      let below : Below (λ k. link z k (Shadowed region new ∷ past)) reach.1 (row z reach.0 past).top new = subst
      (λ (x : Row). Below (λ k. link z k (Shadowed region new ∷ past)) reach.1 x.top new) same reach.3 in
      let was : Below (λ k. link z k past) reach.1 (row z reach.0 past).top new =
      below_old (λ k. link z k past) (λ k. link z k (Shadowed region new ∷ past)) (objects z past) reach.1 (row z reach.0 past).top new
      (tops_below sh reach.0 reach.2) (λ k le. link_old z k region new past (λ e. omega (arith, e, le, is))) sh.born below in
      let small : new < objects z past = reach_small z new past sh (reach.0, reach.1, reach.2, was) in
      absurd (omega (arith, small, is))
]

-- the new object's pages come from where its old top's do
stem_old : (z : Ground) (o region new : ℕ) (past : List Deed) → o ≢ new → stem z o (Shadowed region new ∷ past) ≡ stem z o past
stem_old z o region new past apart = if_no o new (stem z (row z region past).top past) (stem z o past) apart

covered_old : (z : Ground) (o region new : ℕ) (past : List Deed) → o ≢ new → covered z o (Shadowed region new ∷ past) ≡ covered z o past
covered_old z o region new past apart = covered_same z o past (Shadowed region new ∷ past) (stem_old z o region new past apart)

covered_new : (z : Ground) (region new : ℕ) (past : List Deed) → new ≡ objects z past → z.named ≤ (row z region past).top
    → covered z new (Shadowed region new ∷ past) ≡ covered z (row z region past).top past
covered_new z region new past is late =
    covered_alike z new (row z region past).top (Shadowed region new ∷ past) past (omega (arith, is, named_objects z past)) late
    (if_yes new new (stem z (row z region past).top past) (stem z new past) refl)

covered_before : (z : Ground) (o region new : ℕ) (past : List Deed) → StemsOf z past → new ≡ objects z past
    → covered z o (Shadowed region new ∷ past) ≡ true → covered z o past ≡ true
covered_before z o region new past s is ours = elim (ℕ_discrete o new) [
  | no apart ↦ sym (covered_old z o region new past apart) ∙ ours
  | yes e ↦
      let late : z.named ≤ o = omega (arith, e, is, named_objects z past) in
      covered_fresh z o past late (s.unmade o (omega (arith, e, is))).0 (covered_paging z o (Shadowed region new ∷ past) late ours)
]

stems_shadowed : (z : Ground) (region new : ℕ) (past : List Deed) → StemsOf z past → ShapeOf z past → new ≡ objects z past → region < regions z past
    → z.named ≤ (row z region past).top → StemsOf z (Shadowed region new ∷ past)
stems_shadowed z region new past s sh is from late =
    record { stands = stands; newest_is = newest_is; sources = sources; copy_is = copy_is; unmade = unmade }
  where
    now : List Deed
    now = Shadowed region new ∷ past

    apart : (k : ℕ) → k < objects z past → k ≢ new
    apart k small e = omega (arith, small, e, is)

    pages_old : (k : ℕ) → k < objects z past → pages z k now ≡ pages z k past
    pages_old k small = if_no k new (row z region past).pages (pages z k past) (apart k small)

    stem_made : (o f : ℕ) → stem z o past ≡ Some f → o ≢ new
    stem_made o f has e = some_none f (sym has ∙ (s.unmade o (omega (arith, e, is))).0)
      where
        some_none : (f : ℕ) → ◌≡◌ {A = Option ℕ} (Some f) None → ⊥
        some_none f e = cc

    stem_kept : (o f : ℕ) → stem z o past ≡ Some f → stem z o now ≡ Some f
    stem_kept o f has = stem_old z o region new past (stem_made o f has) ∙ has

    stands : (v f : ℕ) → f < z.named → (link z v now).backed ≡ true → (link z v now).under ≡ f → newest z f past ≡ Some v
    stands v f declared backed under = elim (ℕ_discrete v new) [
      | yes e ↦ absurd (omega (arith, declared, late, under, if_yes v new (row z region past).top (link z v past).under e))
      | no other ↦
          let same : link z v now ≡ link z v past = link_old z v region new past other in
          s.stands v f declared (subst (λ (l : Link). l.backed ≡ true) same backed) (subst (λ (l : Link). l.under ≡ f) same under)
    ]

    newest_is : (f c : ℕ) → newest z f past ≡ Some c
        → Newest (λ o. is_file z o) (λ o. link z o now) (λ o. pages z o now) (suc (objects z past)) (λ o. is_copy z o past) (λ o. stem z o now) f c
    newest_is f c has =
        let n = s.newest_is f c has in
        let same : link z c now ≡ link z c past = link_old z c region new past (apart c n.made) in
        record {
          file = n.file;
          copy = n.copy;
          source = stem_kept c f n.source;
          backed = subst (λ (l : Link). l.backed ≡ true) (sym same) n.backed;
          under = subst (λ (l : Link). l.under ≡ f) (sym same) n.under;
          shift = subst (λ (l : Link). l.shift ≡ 0) (sym same) n.shift;
          made = omega (arith, n.made);
          same_pages =
              pages_old c n.made
              ∙ n.same_pages
              ∙ sym (pages_old f (omega (arith, file_declared z f n.file, named_objects z past)));
        }

    source_new : (o f : ℕ) → o ≡ new → stem z o now ≡ Some f → Source z.named (λ k. is_file z k) (λ k. link z k now) (λ k. stem z k now) o f
    source_new o f e has =
        let top : stem z (row z region past).top past ≡ Some f = sym (if_yes o new (stem z (row z region past).top past) (stem z o past) e) ∙ has in
        record {
          late = omega (arith, e, is, named_objects z past);
          file = (s.sources (row z region past).top f top).file;
          backed = if_yes o new true (link z o past).backed e;
          under = inr (subst (λ (k : ℕ). stem z k now ≡ Some f) (sym (if_yes o new (row z region past).top (link z o past).under e))
              (stem_kept (row z region past).top f top));
        }

    under_old : (o f : ℕ) → ((link z o past).under ≡ f) ⊎ (stem z (link z o past).under past ≡ Some f)
        → ((link z o past).under ≡ f) ⊎ (stem z (link z o past).under now ≡ Some f)
    under_old o f (inl stands) = inl stands
    under_old o f (inr has) = inr (stem_kept (link z o past).under f has)

    sources : (o f : ℕ) → stem z o now ≡ Some f → Source z.named (λ k. is_file z k) (λ k. link z k now) (λ k. stem z k now) o f
    sources o f has = elim (ℕ_discrete o new) [
      | yes e ↦ source_new o f e has
      | no other ↦
          let x = s.sources o f (sym (stem_old z o region new past other) ∙ has) in
          let same : link z o now ≡ link z o past = link_old z o region new past other in
          record {
            late = x.late;
            file = x.file;
            backed = subst (λ (l : Link). l.backed ≡ true) (sym same) x.backed;
            under = subst (λ (l : Link). (l.under ≡ f) ⊎ (stem z l.under now ≡ Some f)) (sym same) (under_old o f x.under);
          }
    ]

    copy_is : (o : ℕ) → is_copy z o past ≡ true → Copy (λ k. is_file z k) (λ k. link z k now) (λ k. is_copy z k past) (λ k. stem z k now) o
    copy_is o copy =
        let c = s.copy_is o copy in
        record {
          file = c.file;
          source = stem_kept o c.file c.source;
          under = subst (λ (l : Link). (is_file z l.under ≡ true) ⊎ (is_copy z l.under past ≡ true))
              (sym (link_old z o region new past (stem_made o c.file c.source))) c.under;
        }

    unmade : (o : ℕ) → suc (objects z past) ≤ o → (stem z o now ≡ None) × (is_copy z o past ≡ false)
    unmade o u =
        let was = s.unmade o (omega (arith, u)) in (stem_old z o region new past (λ e. omega (arith, e, u, is)) ∙ was.0, was.1)

shape_shadowed : (z : Ground) (region new : ℕ) (past : List Deed) → ShapeOf z past → new ≡ objects z past → region < regions z past
    → z.named ≤ (row z region past).top → ShapeOf z (Shadowed region new ∷ past)
shape_shadowed z region new past sh is from late =
    record {
      rows_below = sh.rows_below;
      tops_made = λ r less. grind (arith, nat_tests, sh.tops_made r less);
      born = λ o backed. grind (arith, nat_tests, sh.born o, sh.tops_made region from);
      rank = rank;
      falls = falls;
      made = λ o backed. grind (arith, nat_tests, sh.made o);
      covers_tops = λ r used. elim (ℕ_discrete r region) [
        | yes e ↦ subst (λ (k : ℕ). covered z k (Shadowed region new ∷ past) ≡ true) (sym (if_yes r region new (row z r past).top e))
            (covered_new z region new past is late ∙ sh.covers_tops region (subst (λ (k : ℕ). (row z k past).used ≡ true) e used))
        | no apart ↦ subst (λ (x : Row). covered z x.top (Shadowed region new ∷ past) ≡ true) (sym (shadow_other z r region new past apart))
            (covered_old z (row z r past).top region new past (λ e. omega (arith, e, is, tops_below sh r used)) ∙ sh.covers_tops r used)
      ];
      covers_under = λ o mine backed. elim (ℕ_discrete o new) [
        | yes e ↦ subst (λ (k : ℕ). covered z k (Shadowed region new ∷ past) ≡ true) (sym (if_yes o new (row z region past).top (link z o past).under e))
            (covered_old z (row z region past).top region new past (λ f. omega (arith, f, is, sh.tops_made region from))
            ∙ sym (covered_new z region new past is late)
            ∙ subst (λ (k : ℕ). covered z k (Shadowed region new ∷ past) ≡ true) e mine)
        | no apart ↦
            let was : (link z o past).backed ≡ true = subst (λ (l : Link). l.backed ≡ true) (link_old z o region new past apart) backed in
            subst (λ (l : Link). covered z l.under (Shadowed region new ∷ past) ≡ true) (sym (link_old z o region new past apart))
            (covered_old z (link z o past).under region new past (λ e. omega (arith, e, is, sh.born o was))
            ∙ sh.covers_under o (sym (covered_old z o region new past apart) ∙ mine) was)
      ];
      tops_inside = tops_inside;
      inside = inside;
      own = own;
      alone = λ r q used mark used' apart. grind (arith, nat_tests, sh.alone r q, tops_below sh r used, tops_below sh q used');
    }
  where
    -- the new object has one more than its old top
    rank : ℕ → ℕ
    rank = λ o. if o == new then sh.rank (row z region past).top + 1 else sh.rank o

    rank_old : (k : ℕ) → k < objects z past → rank k ≡ sh.rank k
    rank_old k small = if_no k new (sh.rank (row z region past).top + 1) (sh.rank k) (λ e. omega (arith, small, e, is))

    falls : (o : ℕ) → (link z o (Shadowed region new ∷ past)).backed ≡ true → rank (link z o (Shadowed region new ∷ past)).under < rank o
    falls o backed = elim (ℕ_discrete o new) [
      | yes e ↦
          let low : rank (link z o (Shadowed region new ∷ past)).under ≡ sh.rank (row z region past).top =
          ap rank (if_yes o new (row z region past).top (link z o past).under e) ∙ rank_old (row z region past).top (sh.tops_made region from) in
          let high : rank o ≡ sh.rank (row z region past).top + 1 = if_yes o new (sh.rank (row z region past).top + 1) (sh.rank o) e in
          omega (arith, low, high)
      | no apart ↦
          let same : link z o (Shadowed region new ∷ past) ≡ link z o past = link_old z o region new past apart in
          let was : (link z o past).backed ≡ true = subst (λ (x : Link). x.backed ≡ true) same backed in
          let low : rank (link z o (Shadowed region new ∷ past)).under ≡ sh.rank (link z o past).under = ap (λ (x : Link). rank x.under) same
          ∙ rank_old (link z o past).under (sh.born o was) in
          let high : rank o ≡ sh.rank o = if_no o new (sh.rank (row z region past).top + 1) (sh.rank o) apart in
          omega (arith, low, high, sh.falls o was)
    ]

    pages_old : (k : ℕ) → k < objects z past → pages z k (Shadowed region new ∷ past) ≡ pages z k past
    pages_old k small = if_no k new (row z region past).pages (pages z k past) (λ e. omega (arith, small, e, is))

    pages_new : (k : ℕ) → k ≡ new → pages z k (Shadowed region new ∷ past) ≡ (row z region past).pages
    pages_new k e = if_yes k new (row z region past).pages (pages z k past) e

    tops_inside : (r i : ℕ) → (row z r past).used ≡ true → i < (row z r past).pages
        → (row z r (Shadowed region new ∷ past)).shift + i < pages z (row z r (Shadowed region new ∷ past)).top (Shadowed region new ∷ past)
    tops_inside r i used less = elim (ℕ_discrete r region) [
      | yes e ↦
          subst (λ (k : ℕ). (row z r (Shadowed region new ∷ past)).shift + i < pages z k (Shadowed region new ∷ past))
          (sym (if_yes r region new (row z r past).top e))
          (subst (λ (s : ℕ). s + i < pages z new (Shadowed region new ∷ past)) (sym (if_yes r region 0 (row z r past).shift e))
          (subst (λ (m : ℕ). 0 + i < m) (sym (pages_new new refl)) (omega (arith, subst (λ (k : ℕ). i < (row z k past).pages) e less))))
      | no apart ↦
          let row_is : row z r (Shadowed region new ∷ past) ≡ row z r past = shadow_other z r region new past apart in
          subst (λ (x : Row). x.shift + i < pages z x.top (Shadowed region new ∷ past)) (sym row_is)
          (subst (λ (m : ℕ). (row z r past).shift + i < m) (sym (pages_old (row z r past).top (tops_below sh r used))) (sh.tops_inside r i used less))
    ]

    inside : (o p : ℕ) → Reach z o (Shadowed region new ∷ past) → (link z o (Shadowed region new ∷ past)).backed ≡ true
        → p < pages z o (Shadowed region new ∷ past)
        → (link z o (Shadowed region new ∷ past)).shift + p < pages z (link z o (Shadowed region new ∷ past)).under (Shadowed region new ∷ past)
    inside o p reach backed less = elim (ℕ_discrete o new) [
      | yes e ↦
          subst (λ (k : ℕ). (link z o (Shadowed region new ∷ past)).shift + p < pages z k (Shadowed region new ∷ past))
          (sym (if_yes o new (row z region past).top (link z o past).under e))
          (subst (λ (s : ℕ). s + p < pages z (row z region past).top (Shadowed region new ∷ past))
          (sym (if_yes o new (row z region past).shift (link z o past).shift e))
          (subst (λ (m : ℕ). (row z region past).shift + p < m) (sym (pages_old (row z region past).top (sh.tops_made region from)))
          (sh.tops_inside region p (reach_new z region new past sh is (subst (λ (k : ℕ). Reach z k (Shadowed region new ∷ past)) e reach))
          (subst (λ (m : ℕ). p < m) (pages_new o e) less))))
      | no apart ↦
          let same : link z o (Shadowed region new ∷ past) ≡ link z o past = link_old z o region new past apart in
          let was_backed : (link z o past).backed ≡ true = subst (λ (x : Link). x.backed ≡ true) same backed in
          elim (reach_shadowed z region new o past sh is from reach) [
            | inl was ↦ subst (λ (x : Link). x.shift + p < pages z x.under (Shadowed region new ∷ past)) (sym same)
                (subst (λ (m : ℕ). (link z o past).shift + p < m) (sym (pages_old (link z o past).under (sh.born o was_backed)))
                (sh.inside o p was was_backed (subst (λ (m : ℕ). p < m) (pages_old o (sh.made o was_backed)) less)))
            | inr e ↦ absurd (apart (sym e))
          ]
    ]

    own : (r v : ℕ) → (row z r past).used ≡ true → (row z r (Shadowed region new ∷ past)).mark ≡ false → z.named ≤ (row z r (Shadowed region new ∷ past)).top
        → Reach z v (Shadowed region new ∷ past) → (link z v (Shadowed region new ∷ past)).backed ≡ true
        → (link z v (Shadowed region new ∷ past)).under ≢ (row z r (Shadowed region new ∷ past)).top
    own r v used mark kind reach backed = elim (ℕ_discrete v new) [
      | yes e ↦
          let stands : (link z v (Shadowed region new ∷ past)).under ≡ (row z region past).top = if_yes v new (row z region past).top (link z v past).under e in
          elim (ℕ_discrete r region) [
            | yes f ↦ λ same. omega (arith, stands, same, if_yes r region new (row z r past).top f, sh.tops_made region from, is)
            | no f ↦
                let row_is : row z r (Shadowed region new ∷ past) ≡ row z r past = shadow_other z r region new past f in
                λ same. sh.alone r region used (subst (λ (x : Row). x.mark ≡ false) row_is mark)
                (reach_new z region new past sh is (subst (λ (k : ℕ). Reach z k (Shadowed region new ∷ past)) e reach)) (λ g. f (sym g))
                (sym stands ∙ same ∙ ap (λ (x : Row). x.top) row_is)
          ]
      | no e ↦
          let link_is : link z v (Shadowed region new ∷ past) ≡ link z v past = link_old z v region new past e in
          let was_backed : (link z v past).backed ≡ true = subst (λ (l : Link). l.backed ≡ true) link_is backed in
          elim (ℕ_discrete r region) [
            | yes f ↦ λ same. omega (arith, sym (ap (λ (l : Link). l.under) link_is) ∙ same, if_yes r region new (row z r past).top f, sh.born v was_backed, is)
            | no f ↦
                let row_is : row z r (Shadowed region new ∷ past) ≡ row z r past = shadow_other z r region new past f in
                elim (reach_shadowed z region new v past sh is from reach) [
                  | inl was ↦ λ same. sh.own r v used (subst (λ (x : Row). x.mark ≡ false) row_is mark) (subst (λ (x : Row). z.named ≤ x.top) row_is kind) was
                      was_backed (sym (ap (λ (l : Link). l.under) link_is) ∙ same ∙ ap (λ (x : Row). x.top) row_is)
                  | inr g ↦ absurd (e (sym g))
                ]
          ]
    ]

pub after_shadowed : (z : Ground) (region new : ℕ) (past : List Deed) → World z past → Cause z (Shadowed region new) past → World z (Shadowed region new ∷ past)
after_shadowed z region new past w c =
    record {
      shape = shape_shadowed z region new past w.shape c.0 c.1 c.3;
      regional = regional;
      places = places;
      stems = stems_shadowed z region new past w.stems w.shape c.0 c.1 c.3;
      marks = λ o p ours.
          mark_again (objects z past ≤ o) (suc (objects z past) ≤ o) (is_copy z o past ≡ true) (is_copy z o past ≡ true) (Reach z o past)
          (Reach z o (Shadowed region new ∷ past)) (is_pushed z o p past) (spot z o p past) (λ u. omega (arith, u)) (λ copy. copy)
          (λ copy reach. elim (reach_shadowed z region new o past w.shape c.0 c.1 reach) [
            | inl was ↦ was
            | inr e ↦ absurd (unmade_copy z o past w (omega (arith, e, c.0)) copy)
          ])
          (w.marks o p (covered_before z o region new past w.stems c.0 ours));
    }
  where
    under_region : ℕ → List ℕ
    under_region p = view z (row z region past).top ((row z region past).shift + p) past

    view_old : (o p : ℕ) → o < objects z past → view z o p (Shadowed region new ∷ past) ≡ view z o p past
    view_old o p small = if_no o new (view z (row z region past).top ((row z region past).shift + p) past) (view z o p past) (λ e. omega (arith, small, e, c.0))

    view_new : (o p : ℕ) → o ≡ new → view z o p (Shadowed region new ∷ past) ≡ view z (row z region past).top ((row z region past).shift + p) past
    view_new o p e = if_yes o new (view z (row z region past).top ((row z region past).shift + p) past) (view z o p past) e

    regional : (r i : ℕ) → (row z r past).used ≡ true → i < (row z r past).pages
        → flat z r i past ≡ view z (row z r (Shadowed region new ∷ past)).top ((row z r (Shadowed region new ∷ past)).shift + i) (Shadowed region new ∷ past)
    regional r i used inside = elim (ℕ_discrete r region) [
      | yes e ↦
          w.regional r i used inside
          ∙ ap (λ k. view z (row z k past).top ((row z k past).shift + i) past) e
          ∙ sym (view_new new i refl)
          ∙ ap (λ q. view z new q (Shadowed region new ∷ past)) (let none : i ≡ 0 + i = omega arith in none)
          ∙ ap (λ q. view z new (q + i) (Shadowed region new ∷ past)) (sym (if_yes r region 0 (row z r past).shift e))
          ∙ ap (λ k. view z k ((row z r (Shadowed region new ∷ past)).shift + i) (Shadowed region new ∷ past)) (sym (if_yes r region new (row z r past).top e))
      | no apart ↦
          let row_is : row z r (Shadowed region new ∷ past) ≡ row z r past = shadow_other z r region new past apart in
          w.regional r i used inside
          ∙ subst (λ (x : Row). view z (row z r past).top ((row z r past).shift + i) past ≡ view z x.top (x.shift + i) (Shadowed region new ∷ past))
          (sym row_is)
          (sym (view_old (row z r past).top ((row z r past).shift + i) (tops_below w.shape r used)))
    ]

    stands : (o p : ℕ) → o ≡ new → view z o p (Shadowed region new ∷ past) ≡ under_view z o p (Shadowed region new ∷ past)
    stands o p e =
        view_new o p e
        ∙ sym (view_old (row z region past).top ((row z region past).shift + p) (w.shape.tops_made region c.1))
        ∙ ap (λ q. view z (row z region past).top (q + p) (Shadowed region new ∷ past)) (sym (if_yes o new (row z region past).shift (link z o past).shift e))
        ∙ ap (λ k. view z k ((link z o (Shadowed region new ∷ past)).shift + p) (Shadowed region new ∷ past))
        (sym (if_yes o new (row z region past).top (link z o past).under e))

    old_small : (o : ℕ) → o ≢ new → Reach z o (Shadowed region new ∷ past) → o < objects z past
    old_small o apart reach =
        elim (reach_shadowed z region new o past w.shape c.0 c.1 reach) [ inl was ↦ reach_small z o past w.shape was | inr e ↦ absurd (apart (sym e)) ]

    barren_old : (o p : ℕ) → o ≢ new → Reach z o (Shadowed region new ∷ past) → Barren z o p past → Barren z o p (Shadowed region new ∷ past)
    barren_old o p apart reach barren n l lp path =
        let small : o < objects z past = old_small o apart reach in
        let was : Path (λ k. link z k past) n o p l lp = path_old (λ k. link z k past) (λ k. link z k (Shadowed region new ∷ past)) (objects z past) n o p l lp
        small (λ k le. link_old z k region new past (λ e. omega (arith, e, le, c.0))) w.shape.born path in
        (view_old l lp (path_small (λ k. link z k past) (objects z past) n o p l lp w.shape.born small was) ∙ (barren n l lp was).0, (barren n l lp was).1)

    before : (o : ℕ) → covered z o (Shadowed region new ∷ past) ≡ true → covered z o past ≡ true
    before o ours = covered_before z o region new past w.stems c.0 ours

    places : (o p : ℕ) → covered z o (Shadowed region new ∷ past) ≡ true → GoodAt z (Shadowed region new ∷ past) o p (spot z o p past)
    places o p ours = elim (ℕ_discrete o new) [
      | yes e ↦
          record {
            sound = (w.places o p (before o ours)).sound;
            fits =
                λ r. fits_blank z.zeros (Barren z o p (Shadowed region new ∷ past)) (view z o p (Shadowed region new ∷ past))
                (link z o (Shadowed region new ∷ past)).backed (under_view z o p (Shadowed region new ∷ past)) (spot z o p past)
                (w.places o p (before o ours)).sound
                ((w.places o p (before o ours)).blank (omega (arith, e, c.0))) (λ backed. stands o p e)
                (λ bare. absurd (true_false (sym (if_yes o new true (link z o past).backed e) ∙ bare)));
            blank = λ u. (w.places o p (before o ours)).blank (omega (arith, u));
          }
      | no apart ↦
          let link_is : link z o (Shadowed region new ∷ past) ≡ link z o past = link_old z o region new past apart in
          subst (λ (l : Link). Good z.zeros (ReachAt z o p (Shadowed region new ∷ past)) (suc (objects z past) ≤ o) (Barren z o p (Shadowed region new ∷ past))
          (view z o p (Shadowed region new ∷ past)) l.backed (view z l.under (l.shift + p) (Shadowed region new ∷ past)) (spot z o p past)) (sym link_is)
          (good_again z.zeros (ReachAt z o p past) (ReachAt z o p (Shadowed region new ∷ past)) (objects z past ≤ o) (suc (objects z past) ≤ o)
          (Barren z o p past) (Barren z o p (Shadowed region new ∷ past)) (view z o p past) (view z o p (Shadowed region new ∷ past)) (link z o past).backed
          (under_view z o p past) (view z (link z o past).under ((link z o past).shift + p) (Shadowed region new ∷ past)) (spot z o p past)
          (w.places o p (before o ours))
          (λ reach. (
            elim (reach_shadowed z region new o past w.shape c.0 c.1 reach.0) [ inl was ↦ was | inr e ↦ absurd (apart (sym e)) ],
            subst (λ (m : ℕ). p < m) (if_no o new (row z region past).pages (pages z o past) apart) reach.1,
          ))
          (λ u. omega (arith, u))
          (λ reach. if_no o new (view z (row z region past).top ((row z region past).shift + p) past) (view z o p past) apart)
          (λ reach none backed. view_old (link z o past).under ((link z o past).shift + p) (w.shape.born o backed))
          (λ reach. barren_old o p apart reach.0))
    ]

-- unmarked

pub after_unmarked : (z : Ground) (region : ℕ) (past : List Deed) → World z past → Cause z (Unmarked region) past → World z (Unmarked region ∷ past)
after_unmarked z region past w c =
    record {
      shape =
          record {
            rows_below = w.shape.rows_below;
            tops_made = w.shape.tops_made;
            born = w.shape.born;
            rank = w.shape.rank;
            falls = w.shape.falls;
            made = w.shape.made;
            covers_tops = w.shape.covers_tops;
            covers_under = w.shape.covers_under;
            tops_inside = w.shape.tops_inside;
            inside = w.shape.inside;
            own = own;
            alone = alone;
          };
      regional = w.regional;
      places = w.places;
      stems = w.stems;
      marks = w.marks;
    }
  where
    own : (r v : ℕ) → (row z r past).used ≡ true → (row z r (Unmarked region ∷ past)).mark ≡ false → z.named ≤ (row z r past).top → Reach z v past
        → (link z v past).backed ≡ true → (link z v past).under ≢ (row z r past).top
    own r v used mark kind reach backed = elim (ℕ_discrete r region) [
      | yes e ↦ subst (λ (k : ℕ). (link z v past).under ≢ (row z k past).top) (sym e)
          ((c (subst (λ (k : ℕ). (row z k past).used ≡ true) e used)).bare v reach backed)
      | no apart ↦ w.shape.own r v used (sym (if_no r region false (row z r past).mark apart) ∙ mark) kind reach backed
    ]

    alone : (r q : ℕ) → (row z r past).used ≡ true → (row z r (Unmarked region ∷ past)).mark ≡ false → (row z q past).used ≡ true → q ≢ r
        → (row z q past).top ≢ (row z r past).top
    alone r q used mark there other = elim (ℕ_discrete r region) [
      | yes e ↦ subst (λ (k : ℕ). (row z q past).top ≢ (row z k past).top) (sym e)
          ((c (subst (λ (k : ℕ). (row z k past).used ≡ true) e used)).tops q there (λ same. other (same ∙ sym e)))
      | no apart ↦ w.shape.alone r q used (sym (if_no r region false (row z r past).mark apart) ∙ mark) there other
    ]
