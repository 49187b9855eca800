-- Copies of files: what stands on what after one.
use Rattle.std.proofs.Common.{◌≡◌, ℕ, zero, suc, ◌+◌, ◌<◌, ◌≤◌, List, ◌∷◌, arith, Bool, true, false, Option, Some, None, refl, if◌then◌else◌, ◌∙◌, sym}
use Rattle.std.proofs.Common.{subst, ap, ◌≢◌, inl, inr}
use Rattle.std.specs.Prelude.{◌⊎◌, ◌==◌, ◌&&◌, ◌||◌}
use native.Mathlib.Decide.{ℕ_discrete}
use Rattle.vm_model.specs.Regions.{is_newest}
use Rattle.vm_flat.specs.Spot.{Spot}
use Rattle.vm_flat.proofs.Allowed.{content}
use Rattle.vm_flat.proofs.Deeds.{pages, Ground, Deed, Delayed, Row, delayed_row, row, regions, objects, Link, pushed, link, is_file, covered, told, newest}
use Rattle.vm_flat.proofs.Deeds.{is_copy, is_pushed, stem, spot, flat}
use Rattle.vm_flat.proofs.Causes.{Path, Below, Reach, Cause, Delays}
use Rattle.vm_flat.proofs.Stems.{Newest, Source, Copy, StemsOf}
use Rattle.vm_flat.proofs.Covered.{covered_same, covered_alike, covered_late, covered_fresh, covered_paging, covered_file, file_declared}
use Rattle.vm_flat.proofs.Sound.{Sound}
use Rattle.vm_flat.proofs.Good.{Good, good_again, fits_blank}
use Rattle.vm_flat.proofs.World.{ReachAt, ShapeOf, World, GoodAt, MarkAt, view, under_view, Barren, tops_below, reach_small, reach_next}
use Rattle.vm_flat.proofs.Marked.{barren_copy, barren_next, mark_again}
use Rattle.vm_flat.proofs.Regions.{eq_no, eq_yes, if_no, if_yes, named_objects}

-- links

abbrev pub over : ℕ → Link
over k = record { backed = true; under = k; shift = 0 }

abbrev pub after_links : ℕ → ℕ → Option ℕ → (ℕ → Link) → ℕ → Link
after_links source copy m links o = pushed (o == copy) (is_newest o m) source copy (links o)

link_copy : (source copy : ℕ) (m : Option ℕ) (links : ℕ → Link) (o : ℕ) → o ≡ copy → after_links source copy m links o ≡ over source
link_copy source copy m links o e = ap (λ (b : Bool). pushed b (is_newest o m) source copy (links o)) (eq_yes o copy e)

link_newest : (source copy : ℕ) (m : Option ℕ) (links : ℕ → Link) (o : ℕ) → o ≢ copy → m ≡ Some o → after_links source copy m links o ≡ over copy
link_newest source copy m links o apart is =
    ap (λ (b : Bool). pushed b (is_newest o m) source copy (links o)) (eq_no o copy apart)
    ∙ ap (λ (n : Option ℕ). pushed false (is_newest o n) source copy (links o)) is
    ∙ ap (λ (b : Bool). pushed false b source copy (links o)) (eq_yes o o refl)

link_else : (source copy : ℕ) (m : Option ℕ) (links : ℕ → Link) (o : ℕ) → o ≢ copy → m ≢ Some o → after_links source copy m links o ≡ links o
link_else source copy m links o apart isnt =
    ap (λ (b : Bool). pushed b (is_newest o m) source copy (links o)) (eq_no o copy apart)
    ∙ ap (λ (b : Bool). pushed false b source copy (links o)) (older m isnt)
  where
    older : (n : Option ℕ) → n ≢ Some o → is_newest o n ≡ false
    older None isnt = refl
    older (Some k) isnt = eq_no o k (λ e. isnt (ap (λ (h : ℕ). Some h) (sym e)))

newest_or : (m : Option ℕ) (o : ℕ) → (m ≡ Some o) ⊎ (m ≢ Some o)
newest_or None o = inr (λ e. cc)
newest_or (Some k) o = elim (ℕ_discrete k o) [ yes e ↦ inl (ap (λ (h : ℕ). Some h) e) | no apart ↦ inr (λ e. apart (cc)) ]

-- the new copy, the newest until then, and what stands as it did
pub by_link : (source copy : ℕ) (m : Option ℕ) (links : ℕ → Link) (o : ℕ) (P : Link → Type 0) → (o ≡ copy → P (over source))
    → (o ≢ copy → m ≡ Some o → P (over copy)) → (o ≢ copy → m ≢ Some o → P (links o)) → P (after_links source copy m links o)
by_link source copy m links o P this newest rest = elim (ℕ_discrete o copy) [
  | yes e ↦ subst P (sym (link_copy source copy m links o e)) (this e)
  | no apart ↦ elim (newest_or m o) [
    | inl is ↦ subst P (sym (link_newest source copy m links o apart is)) (newest apart is)
    | inr isnt ↦ subst P (sym (link_else source copy m links o apart isnt)) (rest apart isnt)
  ]
]

pub some_same : (a b : ℕ) → ◌≡◌ {A = Option ℕ} (Some a) (Some b) → a ≡ b
some_same a b e = cc

some_none : (a : ℕ) → ◌≡◌ {A = Option ℕ} (Some a) None → ⊥
some_none a e = cc

-- rows

pub row_other : (z : Ground) (tells : Bool) (r region source off count copy : ℕ) (past : List Deed) → r ≢ region
    → row z r (Delayed tells region source off count copy ∷ past) ≡ row z r past
row_other z tells r region source off count copy past apart =
    subst (λ (b : Bool). delayed_row b tells copy off count (row z source past) (row z r past) ≡ row z r past) (sym (eq_no r region apart)) refl

pub row_own : (z : Ground) (tells : Bool) (r region source off count copy : ℕ) (past : List Deed) → r ≡ region
    → row z r (Delayed tells region source off count copy ∷ past)
    ≡ record { used = (row z source past).used && tells; mark = true; top = copy; shift = off; pages = count }
row_own z tells r region source off count copy past e =
    ap (λ (b : Bool). delayed_row b tells copy off count (row z source past) (row z r past)) (eq_yes r region e)

both : (a b : Bool) → (a && b) ≡ true → (a ≡ true) × (b ≡ true)
both a b is = grind arith

-- a copy is in use only where its file is
pub row_from : (z : Ground) (tells : Bool) (r region source off count copy : ℕ) (past : List Deed) → r ≡ region
    → (row z r (Delayed tells region source off count copy ∷ past)).used ≡ true → ((row z source past).used ≡ true) × (tells ≡ true)
row_from z tells r region source off count copy past e used =
    both (row z source past).used tells (sym (ap (λ (x : Row). x.used) (row_own z tells r region source off count copy past e)) ∙ used)

-- what is reached

pub reach_delayed : (z : Ground) (tells : Bool) (region source off count copy o : ℕ) (past : List Deed) → ShapeOf z past → StemsOf z past
    → Delays z tells region source off count copy past → Reach z o (Delayed tells region source off count copy ∷ past) → Reach z o past ⊎ (copy ≡ o)
reach_delayed z tells region source off count copy o past sh s d reach = elim (ℕ_discrete reach.0 region) [
  | yes e ↦
      let own = row_own z tells reach.0 region source off count copy past e in
      from reach.1 copy (inr (refl, (source, 0, (row_from z tells reach.0 region source off count copy past e reach.2).0, d.top)))
      (subst (λ (x : Row). Below (λ k. link z k now) reach.1 x.top o) own reach.3)
  | no apart ↦
      let same = row_other z tells reach.0 region source off count copy past apart in
      from reach.1 (row z reach.0 past).top (inl (reach.0, 0, subst (λ (x : Row). x.used ≡ true) same reach.2, refl))
      (subst (λ (x : Row). Below (λ k. link z k now) reach.1 x.top o) same reach.3)
]
  where
    now : List Deed
    now = Delayed tells region source off count copy ∷ past

    on_source : (v : ℕ) → Reach z v past ⊎ ((copy ≡ v) × Reach z source past) → newest z source past ≡ Some v → Reach z source past
    on_source v (inr new) is = new.1
    on_source v (inl was) is =
        let n = s.newest_is source v is in subst (λ (k : ℕ). Reach z k past) n.under (reach_next z v past was n.backed)

    of_copy : (v : ℕ) → v ≡ copy → Reach z v past ⊎ ((copy ≡ v) × Reach z source past) → Reach z source past
    of_copy v e (inr new) = new.1
    of_copy v e (inl was) = absurd (omega (arith, reach_small z v past sh was, e, d.new))

    old : (v : ℕ) → v ≢ copy → Reach z v past ⊎ ((copy ≡ v) × Reach z source past) → Reach z v past
    old v apart (inl was) = was
    old v apart (inr new) = absurd (apart (sym new.0))

    from : (n v : ℕ) → Reach z v past ⊎ ((copy ≡ v) × Reach z source past) → Below (λ k. link z k now) n v o → Reach z o past ⊎ (copy ≡ o)
    from zero v (inl was) is = inl (subst (λ (k : ℕ). Reach z k past) is was)
    from zero v (inr new) is = inr (new.0 ∙ is)
    from (suc n) v was is =
        by_link source copy (newest z source past) (λ k. link z k past) v
        (λ l. l.backed ≡ true → Below (λ k. link z k now) n l.under o → Reach z o past ⊎ (copy ≡ o))
        (λ e backed below. from n source (inl (of_copy v e was)) below)
        (λ apart is backed below. from n copy (inr (refl, on_source v was is)) below)
        (λ apart isnt backed below. from n (link z v past).under (inl (reach_next z v past (old v apart was) backed)) below)
        is.0 is.1

-- coverage

pub covered_old : (z : Ground) (tells : Bool) (o region source off count copy : ℕ) (past : List Deed) → o ≢ copy
    → covered z o (Delayed tells region source off count copy ∷ past) ≡ covered z o past
covered_old z tells o region source off count copy past apart =
    covered_same z o past (Delayed tells region source off count copy ∷ past) (if_no o copy (Some source) (stem z o past) apart)

-- the copy is covered where it is in use
covered_copy : (z : Ground) (tells : Bool) (region source off count copy : ℕ) (past : List Deed) → Delays z tells region source off count copy past
    → tells ≡ true → covered z copy (Delayed tells region source off count copy ∷ past) ≡ true
covered_copy z tells region source off count copy past d is =
    covered_late z copy (Delayed tells region source off count copy ∷ past) (omega (arith, d.new, named_objects z past))
    ∙ ap (λ s. z.paging && told z s) (if_yes copy copy (Some source) (stem z copy past) refl)
    ∙ d.told is

shape_delayed : (z : Ground) (tells : Bool) (region source off count copy : ℕ) (past : List Deed) → ShapeOf z past → StemsOf z past
    → Delays z tells region source off count copy past → ShapeOf z (Delayed tells region source off count copy ∷ past)
shape_delayed z tells region source off count copy past sh s d =
    record {
      rows_below = λ r used. elim (ℕ_discrete r region) [
        | yes e ↦ omega (arith, e, d.next)
        | no apart ↦ omega (arith, sh.rows_below r (subst (λ (x : Row). x.used ≡ true) (other r apart) used))
      ];
      tops_made = λ r less. elim (ℕ_discrete r region) [
        | yes e ↦ omega (arith, ap (λ (x : Row). x.top) (mine r e), d.new)
        | no apart ↦
            let small : r < regions z past = omega (arith, less, apart, d.next) in
            omega (arith, ap (λ (x : Row). x.top) (other r apart), sh.tops_made r small)
      ];
      born = λ o. by_link source copy (newest z source past) (λ k. link z k past) o (λ l. l.backed ≡ true → l.under < suc (objects z past))
          (λ e backed. omega (arith, source_made)) (λ apart is backed. omega (arith, d.new)) (λ apart isnt backed. omega (arith, sh.born o backed));
      rank = rank;
      falls = falls;
      made = λ o. by_link source copy (newest z source past) (λ k. link z k past) o (λ l. l.backed ≡ true → o < suc (objects z past))
          (λ e backed. omega (arith, e, d.new)) (λ apart is backed. omega (arith, (s.newest_is source o is).made))
          (λ apart isnt backed. omega (arith, sh.made o backed));
      covers_tops = covers_tops;
      covers_under = covers_under;
      tops_inside = tops_inside;
      inside = inside;
      own = own;
      alone = alone;
    }
  where
    now : List Deed
    now = Delayed tells region source off count copy ∷ past

    mine : (r : ℕ) → r ≡ region → row z r now ≡ record { used = (row z source past).used && tells; mark = true; top = copy; shift = off; pages = count }
    mine r e = row_own z tells r region source off count copy past e

    other : (r : ℕ) → r ≢ region → row z r now ≡ row z r past
    other r apart = row_other z tells r region source off count copy past apart

    source_made : source < objects z past
    source_made = omega (arith, file_declared z source d.file, named_objects z past)

    late : z.named ≤ copy
    late = omega (arith, d.new, named_objects z past)

    old : (k : ℕ) → k < objects z past → k ≢ copy
    old k small e = omega (arith, small, e, d.new)

    -- the new copy comes between its file and the copy that stood on it
    rank : ℕ → ℕ
    rank = λ o. if o == copy then suc (sh.rank source + sh.rank source) else sh.rank o + sh.rank o

    rank_old : (k : ℕ) → k < objects z past → rank k ≡ sh.rank k + sh.rank k
    rank_old k small = if_no k copy (suc (sh.rank source + sh.rank source)) (sh.rank k + sh.rank k) (old k small)

    rank_new : (k : ℕ) → k ≡ copy → rank k ≡ suc (sh.rank source + sh.rank source)
    rank_new k e = if_yes k copy (suc (sh.rank source + sh.rank source)) (sh.rank k + sh.rank k) e

    falls : (o : ℕ) → (link z o now).backed ≡ true → rank (link z o now).under < rank o
    falls o =
        by_link source copy (newest z source past) (λ k. link z k past) o (λ l. l.backed ≡ true → rank l.under < rank o)
        (λ e backed. omega (arith, rank_new o e, rank_old source source_made))
        (λ apart is backed.
        let n = s.newest_is source o is in
        let less : sh.rank (link z o past).under < sh.rank o = sh.falls o n.backed in
        omega (arith, less, ap sh.rank n.under, rank_new copy refl, rank_old o n.made))
        (λ apart isnt backed. omega (arith, sh.falls o backed, rank_old (link z o past).under (sh.born o backed), rank_old o (sh.made o backed)))

    covers_old : (k : ℕ) → k ≢ copy → covered z k now ≡ covered z k past
    covers_old k apart = covered_old z tells k region source off count copy past apart

    covers_tops : (r : ℕ) → (row z r now).used ≡ true → covered z (row z r now).top now ≡ true
    covers_tops r used = elim (ℕ_discrete r region) [
      | yes e ↦ subst (λ (x : Row). covered z x.top now ≡ true) (sym (mine r e))
          (covered_copy z tells region source off count copy past d (row_from z tells r region source off count copy past e used).1)
      | no apart ↦
          let was : (row z r past).used ≡ true = subst (λ (x : Row). x.used ≡ true) (other r apart) used in
          subst (λ (x : Row). covered z x.top now ≡ true) (sym (other r apart))
          (covers_old (row z r past).top (old (row z r past).top (tops_below sh r was)) ∙ sh.covers_tops r was)
    ]

    covers_under : (o : ℕ) → covered z o now ≡ true → (link z o now).backed ≡ true → covered z (link z o now).under now ≡ true
    covers_under o ours =
        by_link source copy (newest z source past) (λ k. link z k past) o (λ l. l.backed ≡ true → covered z l.under now ≡ true)
        (λ e backed. covered_file z source now d.file)
        (λ apart is backed.
        let n = s.newest_is source o is in
        covered_alike z copy o now now late (s.sources o source n.source).late
        (if_yes copy copy (Some source) (stem z copy past) refl ∙ sym n.source ∙ sym (if_no o copy (Some source) (stem z o past) apart))
        ∙ ours)
        (λ apart isnt backed. covers_old (link z o past).under (old (link z o past).under (sh.born o backed))
        ∙ sh.covers_under o (sym (covers_old o apart) ∙ ours) backed)

    pages_old : (k : ℕ) → k < objects z past → pages z k now ≡ pages z k past
    pages_old k small = if_no k copy (pages z source past) (pages z k past) (old k small)

    pages_new : (k : ℕ) → k ≡ copy → pages z k now ≡ pages z source past
    pages_new k e = if_yes k copy (pages z source past) (pages z k past) e

    within : (i : ℕ) → (row z source past).used ≡ true → i < count → off + i < pages z source past
    within i used less =
        let at : (row z source past).shift + (off + i) < pages z (row z source past).top past = sh.tops_inside source (off + i) used
        (omega (arith, less, d.inside)) in
        let there : (row z source past).shift + (off + i) < pages z source past = subst
        (λ (k : ℕ). (row z source past).shift + (off + i) < pages z k past) d.top at in
        omega (arith, there, d.shift)

    tops_inside : (r i : ℕ) → (row z r now).used ≡ true → i < (row z r now).pages → (row z r now).shift + i < pages z (row z r now).top now
    tops_inside r i used less = elim (ℕ_discrete r region) [
      | yes e ↦ subst (λ (x : Row). x.shift + i < pages z x.top now) (sym (mine r e)) (subst (λ (m : ℕ). off + i < m) (sym (pages_new copy refl))
          (within i (row_from z tells r region source off count copy past e used).0 (subst (λ (x : Row). i < x.pages) (mine r e) less)))
      | no apart ↦
          let was : (row z r past).used ≡ true = subst (λ (x : Row). x.used ≡ true) (other r apart) used in
          subst (λ (x : Row). x.shift + i < pages z x.top now) (sym (other r apart))
          (subst (λ (m : ℕ). (row z r past).shift + i < m) (sym (pages_old (row z r past).top (tops_below sh r was)))
          (sh.tops_inside r i was (subst (λ (x : Row). i < x.pages) (other r apart) less)))
    ]

    reached : (o : ℕ) → o ≢ copy → Reach z o now → Reach z o past
    reached o apart reach =
        elim (reach_delayed z tells region source off count copy o past sh s d reach) [ inl was ↦ was | inr e ↦ absurd (apart (sym e)) ]

    inside : (o p : ℕ) → Reach z o now → (link z o now).backed ≡ true → p < pages z o now → (link z o now).shift + p < pages z (link z o now).under now
    inside o p reach backed less =
        by_link source copy (newest z source past) (λ k. link z k past) o (λ l. l.backed ≡ true → l.shift + p < pages z l.under now)
        (λ e on. omega (arith, less, pages_new o e, pages_old source source_made))
        (λ apart is on. let n = s.newest_is source o is in omega (arith, less, pages_old o n.made, n.same_pages, pages_new copy refl))
        (λ apart isnt on.
        let low : (link z o past).shift + p < pages z (link z o past).under past = sh.inside o p (reached o apart reach) on
        (omega (arith, less, pages_old o (sh.made o on))) in
        omega (arith, low, pages_old (link z o past).under (sh.born o on)))
        backed

    unmarked : (r : ℕ) → (row z r now).mark ≡ false → r ≢ region
    unmarked r plain e = clash (sym (ap (λ (x : Row). x.mark) (mine r e)) ∙ plain)
      where
        clash : true ≡ false → ⊥
        clash is = cc

    own : (r v : ℕ) → (row z r now).used ≡ true → (row z r now).mark ≡ false → z.named ≤ (row z r now).top → Reach z v now → (link z v now).backed ≡ true
        → (link z v now).under ≢ (row z r now).top
    own r v used mark kind reach =
        let same : row z r now ≡ row z r past = other r (unmarked r mark) in
        let was : (row z r past).used ≡ true = subst (λ (x : Row). x.used ≡ true) same used in
        let far : z.named ≤ (row z r past).top = subst (λ (x : Row). z.named ≤ x.top) same kind in
        subst (λ (x : Row). (link z v now).backed ≡ true → (link z v now).under ≢ x.top) (sym same)
        (by_link source copy (newest z source past) (λ k. link z k past) v (λ l. l.backed ≡ true → l.under ≢ (row z r past).top)
        (λ e on f. omega (arith, f, far, file_declared z source d.file))
        (λ apart is on f. omega (arith, f, d.new, tops_below sh r was))
        (λ apart isnt on. sh.own r v was (subst (λ (x : Row). x.mark ≡ false) same mark) far (reached v apart reach) on))

    alone : (r q : ℕ) → (row z r now).used ≡ true → (row z r now).mark ≡ false → (row z q now).used ≡ true → q ≢ r → (row z q now).top ≢ (row z r now).top
    alone r q used mark used' apart =
        let same : row z r now ≡ row z r past = other r (unmarked r mark) in
        let was : (row z r past).used ≡ true = subst (λ (x : Row). x.used ≡ true) same used in
        subst (λ (x : Row). (row z q now).top ≢ x.top) (sym same) (elim (ℕ_discrete q region) [
          | yes e ↦ λ f. omega (arith, f, ap (λ (x : Row). x.top) (mine q e), d.new, tops_below sh r was)
          | no far ↦ λ f. sh.alone r q was (subst (λ (x : Row). x.mark ≡ false) same mark) (subst (λ (x : Row). x.used ≡ true) (other q far) used') apart
              (sym (ap (λ (x : Row). x.top) (other q far)) ∙ f)
        ])

stems_delayed : (z : Ground) (tells : Bool) (region source off count copy : ℕ) (past : List Deed) → StemsOf z past
    → Delays z tells region source off count copy past → StemsOf z (Delayed tells region source off count copy ∷ past)
stems_delayed z tells region source off count copy past s d =
    record { stands = stands; newest_is = newest_is; sources = sources; copy_is = copy_is; unmade = unmade }
  where
    now : List Deed
    now = Delayed tells region source off count copy ∷ past

    late : z.named ≤ copy
    late = omega (arith, d.new, named_objects z past)

    file_made : (f : ℕ) → is_file z f ≡ true → f < objects z past
    file_made f file = omega (arith, file_declared z f file, named_objects z past)

    old : (k : ℕ) → k < objects z past → k ≢ copy
    old k small e = omega (arith, small, e, d.new)

    stem_new : (k : ℕ) → k ≡ copy → stem z k now ≡ Some source
    stem_new k e = if_yes k copy (Some source) (stem z k past) e

    stem_old : (k : ℕ) → k ≢ copy → stem z k now ≡ stem z k past
    stem_old k apart = if_no k copy (Some source) (stem z k past) apart

    stem_made : (o f : ℕ) → stem z o past ≡ Some f → o ≢ copy
    stem_made o f has e = some_none f (sym has ∙ (s.unmade o (omega (arith, e, d.new))).0)

    stem_kept : (o f : ℕ) → stem z o past ≡ Some f → stem z o now ≡ Some f
    stem_kept o f has = stem_old o (stem_made o f has) ∙ has

    newest_new : (f : ℕ) → f ≡ source → newest z f now ≡ Some copy
    newest_new f e = if_yes f source (Some copy) (newest z f past) e

    newest_old : (f : ℕ) → f ≢ source → newest z f now ≡ newest z f past
    newest_old f apart = if_no f source (Some copy) (newest z f past) apart

    copy_new : (k : ℕ) → k ≡ copy → is_copy z k now ≡ true
    copy_new k e = ap (λ (b : Bool). b || is_copy z k past) (eq_yes k copy e)

    copy_old : (k : ℕ) → k ≢ copy → is_copy z k now ≡ is_copy z k past
    copy_old k apart = ap (λ (b : Bool). b || is_copy z k past) (eq_no k copy apart)

    copy_kept : (k : ℕ) → is_copy z k past ≡ true → is_copy z k now ≡ true
    copy_kept k was = grind arith

    pages_old : (k : ℕ) → k < objects z past → pages z k now ≡ pages z k past
    pages_old k small = if_no k copy (pages z source past) (pages z k past) (old k small)

    stands : (v f : ℕ) → f < z.named → (link z v now).backed ≡ true → (link z v now).under ≡ f → newest z f now ≡ Some v
    stands v f declared =
        by_link source copy (newest z source past) (λ k. link z k past) v (λ l. l.backed ≡ true → l.under ≡ f → newest z f now ≡ Some v)
        (λ e backed under. newest_new f (sym under) ∙ ap (λ (k : ℕ). Some k) (sym e))
        (λ apart is backed under. absurd (omega (arith, under, declared, late)))
        (λ apart isnt backed under.
        let was : newest z f past ≡ Some v = s.stands v f declared backed under in
        newest_old f (λ e. isnt (subst (λ (k : ℕ). newest z k past ≡ Some v) e was)) ∙ was)

    is_new : (c : ℕ) → c ≡ copy
        → Newest (λ o. is_file z o) (λ o. link z o now) (λ o. pages z o now) (suc (objects z past)) (λ o. is_copy z o now) (λ o. stem z o now) source c
    is_new c e =
        let stand : link z c now ≡ over source = link_copy source copy (newest z source past) (λ k. link z k past) c e in
        record {
          file = d.file;
          copy = copy_new c e;
          source = stem_new c e;
          backed = ap (λ (l : Link). l.backed) stand;
          under = ap (λ (l : Link). l.under) stand;
          shift = ap (λ (l : Link). l.shift) stand;
          made = omega (arith, e, d.new);
          same_pages = if_yes c copy (pages z source past) (pages z c past) e ∙ sym (pages_old source (file_made source d.file));
        }

    is_old : (f c : ℕ) → f ≢ source → newest z f past ≡ Some c
        → Newest (λ o. is_file z o) (λ o. link z o now) (λ o. pages z o now) (suc (objects z past)) (λ o. is_copy z o now) (λ o. stem z o now) f c
    is_old f c apart has =
        let n = s.newest_is f c has in
        let stand : link z c now ≡ link z c past = link_else source copy (newest z source past) (λ k. link z k past) c (old c n.made)
        (λ e. apart (sym n.under ∙ (s.newest_is source c e).under)) in
        record {
          file = n.file;
          copy = copy_kept c n.copy;
          source = stem_kept c f n.source;
          backed = ap (λ (l : Link). l.backed) stand ∙ n.backed;
          under = ap (λ (l : Link). l.under) stand ∙ n.under;
          shift = ap (λ (l : Link). l.shift) stand ∙ n.shift;
          made = omega (arith, n.made);
          same_pages = pages_old c n.made ∙ n.same_pages ∙ sym (pages_old f (file_made f n.file));
        }

    newest_is : (f c : ℕ) → newest z f now ≡ Some c
        → Newest (λ o. is_file z o) (λ o. link z o now) (λ o. pages z o now) (suc (objects z past)) (λ o. is_copy z o now) (λ o. stem z o now) f c
    newest_is f c has = elim (ℕ_discrete f source) [
      | yes e ↦ subst (λ (k : ℕ). Newest (λ o. is_file z o) (λ o. link z o now) (λ o. pages z o now) (suc (objects z past)) (λ o. is_copy z o now)
          (λ o. stem z o now) k c) (sym e) (is_new c (sym (some_same copy c (sym (newest_new f e) ∙ has))))
      | no apart ↦ is_old f c apart (sym (newest_old f apart) ∙ has)
    ]

    under_now : (o f : ℕ) → o ≢ copy → stem z o past ≡ Some f
        → ((link z o now).backed ≡ true) × (((link z o now).under ≡ f) ⊎ (stem z (link z o now).under now ≡ Some f))
    under_now o f far has =
        by_link source copy (newest z source past) (λ k. link z k past) o (λ l. (l.backed ≡ true) × ((l.under ≡ f) ⊎ (stem z l.under now ≡ Some f)))
        (λ e. absurd (far e))
        (λ apart is. (refl, inr (stem_new copy refl ∙ sym (s.newest_is source o is).source ∙ has)))
        (λ apart isnt. let x = s.sources o f has in (x.backed, elim x.under [ inl on ↦ inl on | inr low ↦ inr (stem_kept (link z o past).under f low) ]))

    sources : (o f : ℕ) → stem z o now ≡ Some f → Source z.named (λ k. is_file z k) (λ k. link z k now) (λ k. stem z k now) o f
    sources o f has = elim (ℕ_discrete o copy) [
      | yes e ↦
          let stand : link z o now ≡ over source = link_copy source copy (newest z source past) (λ k. link z k past) o e in
          let same : source ≡ f = some_same source f (sym (stem_new o e) ∙ has) in
          record {
            late = omega (arith, e, late);
            file = subst (λ (k : ℕ). is_file z k ≡ true) same d.file;
            backed = ap (λ (l : Link). l.backed) stand;
            under = inl (ap (λ (l : Link). l.under) stand ∙ same);
          }
      | no apart ↦
          let was : stem z o past ≡ Some f = sym (stem_old o apart) ∙ has in
          record {
            late = (s.sources o f was).late;
            file = (s.sources o f was).file;
            backed = (under_now o f apart was).0;
            under = (under_now o f apart was).1;
          }
    ]

    copy_is : (o : ℕ) → is_copy z o now ≡ true → Copy (λ k. is_file z k) (λ k. link z k now) (λ k. is_copy z k now) (λ k. stem z k now) o
    copy_is o is = elim (ℕ_discrete o copy) [
      | yes e ↦ record {
        file = source;
        source = stem_new o e;
        under = subst (λ (l : Link). (is_file z l.under ≡ true) ⊎ (is_copy z l.under now ≡ true))
            (sym (link_copy source copy (newest z source past) (λ k. link z k past) o e)) (inl d.file);
      }
      | no apart ↦
          let c = s.copy_is o (sym (copy_old o apart) ∙ is) in
          record {
            file = c.file;
            source = stem_kept o c.file c.source;
            under = by_link source copy (newest z source past) (λ k. link z k past) o (λ l. (is_file z l.under ≡ true) ⊎ (is_copy z l.under now ≡ true))
                (λ e. inl d.file) (λ far is. inr (copy_new copy refl))
                (λ far isnt. elim c.under [ inl file ↦ inl file | inr more ↦ inr (copy_kept (link z o past).under more) ]);
          }
    ]

    unmade : (o : ℕ) → suc (objects z past) ≤ o → (stem z o now ≡ None) × (is_copy z o now ≡ false)
    unmade o u =
        let was = s.unmade o (omega (arith, u)) in
        let apart : o ≢ copy = λ e. omega (arith, u, e, d.new) in
        (stem_old o apart ∙ was.0, copy_old o apart ∙ was.1)

-- the places

-- a place of which nothing is known yet has no content
blank_content : (z : List ℕ) (s : Spot) → Sound z s → (s.here ≡ false) × (s.control ≡ 0) × (s.file ≡ false) → content s ≡ None
blank_content z s ok blank = let none : s.returned ≡ None = ok.never blank.2 blank.1 in grind arith

pub after_delayed : (z : Ground) (tells : Bool) (region source off count copy : ℕ) (past : List Deed) → World z past
    → Cause z (Delayed tells region source off count copy) past → World z (Delayed tells region source off count copy ∷ past)
after_delayed z tells region source off count copy past w d =
    record {
      shape = shape_delayed z tells region source off count copy past w.shape w.stems d;
      regional = regional;
      places = places;
      stems = stems_delayed z tells region source off count copy past w.stems d;
      marks = marks;
    }
  where
    now : List Deed
    now = Delayed tells region source off count copy ∷ past

    source_made : source < objects z past
    source_made = omega (arith, file_declared z source d.file, named_objects z past)

    old : (k : ℕ) → k < objects z past → k ≢ copy
    old k small e = omega (arith, small, e, d.new)

    view_old : (o p : ℕ) → o ≢ copy → view z o p now ≡ view z o p past
    view_old o p apart = if_no o copy (view z source p past) (view z o p past) apart

    view_new : (o p : ℕ) → o ≡ copy → view z o p now ≡ view z source p past
    view_new o p e = if_yes o copy (view z source p past) (view z o p past) e

    regional : (r i : ℕ) → (row z r now).used ≡ true → i < (row z r now).pages → flat z r i now ≡ view z (row z r now).top ((row z r now).shift + i) now
    regional r i used inside = elim (ℕ_discrete r region) [
      | yes e ↦
          let mine = row_own z tells r region source off count copy past e in
          let few : i < count = subst (λ (x : Row). i < x.pages) mine inside in
          if_yes r region (flat z source (off + i) past) (flat z r i past) e
          ∙ w.regional source (off + i) (row_from z tells r region source off count copy past e used).0 (omega (arith, few, d.inside))
          ∙ ap (λ k. view z k ((row z source past).shift + (off + i)) past) d.top
          ∙ ap (λ q. view z source q past) (omega (arith, d.shift))
          ∙ sym (view_new copy (off + i) refl)
          ∙ subst (λ (x : Row). view z copy (off + i) now ≡ view z x.top (x.shift + i) now) (sym mine) refl
      | no apart ↦
          let same = row_other z tells r region source off count copy past apart in
          let was : (row z r past).used ≡ true = subst (λ (x : Row). x.used ≡ true) same used in
          if_no r region (flat z source (off + i) past) (flat z r i past) apart
          ∙ w.regional r i was (subst (λ (x : Row). i < x.pages) same inside)
          ∙ sym (view_old (row z r past).top ((row z r past).shift + i) (old (row z r past).top (tops_below w.shape r was)))
          ∙ subst (λ (x : Row). view z (row z r past).top ((row z r past).shift + i) now ≡ view z x.top (x.shift + i) now) (sym same) refl
    ]

    reached : (o : ℕ) → o ≢ copy → Reach z o now → Reach z o past
    reached o apart reach =
        elim (reach_delayed z tells region source off count copy o past w.shape w.stems d reach) [ inl was ↦ was | inr e ↦ absurd (apart (sym e)) ]

    reached_at : (o p : ℕ) → o ≢ copy → ReachAt z o p now → ReachAt z o p past
    reached_at o p apart reach =
        (reached o apart reach.0, subst (λ (m : ℕ). p < m) (if_no o copy (pages z source past) (pages z o past) apart) reach.1)

    before : (o : ℕ) → covered z o now ≡ true → covered z o past ≡ true
    before o ours = elim (ℕ_discrete o copy) [
      | no apart ↦ sym (covered_old z tells o region source off count copy past apart) ∙ ours
      | yes e ↦
          let late : z.named ≤ o = omega (arith, e, d.new, named_objects z past) in
          covered_fresh z o past late (w.stems.unmade o (omega (arith, e, d.new))).0 (covered_paging z o now late ours)
    ]

    -- below a place that is not over a file the copy isn't seen
    barren_old : (n o p l lp : ℕ) → o < objects z past → Barren z o p past → Path (λ k. link z k now) n o p l lp
        → (view z l lp now ≡ z.zeros) × (is_file z l ≡ false)
    barren_old zero o p l lp small barren path =
        let small_l : l < objects z past = omega (arith, path.0, small) in
        (view_old l lp (old l small_l) ∙ (barren 0 l lp path).0, (barren 0 l lp path).1)
    barren_old (suc n) o p l lp small barren path =
        by_link source copy (newest z source past) (λ k. link z k past) o
        (λ x. x.backed ≡ true → Path (λ k. link z k now) n x.under (x.shift + p) l lp → (view z l lp now ≡ z.zeros) × (is_file z l ≡ false))
        (λ e. absurd (old o small e))
        (λ apart is. absurd (barren_copy z o p past w (w.stems.newest_is source o is).copy barren))
        (λ apart isnt backed next. barren_old n (link z o past).under ((link z o past).shift + p) l lp (w.shape.born o backed)
        (barren_next z o p past barren backed) next)
        path.0 path.1

    new_place : (o p : ℕ) → o ≡ copy → covered z o past ≡ true → GoodAt z now o p (spot z o p past)
    new_place o p e ours =
        let g = w.places o p ours in
        subst (λ (x : Link). Good z.zeros (ReachAt z o p now) (suc (objects z past) ≤ o) (Barren z o p now) (view z o p now) x.backed
        (view z x.under (x.shift + p) now) (spot z o p past)) (sym (link_copy source copy (newest z source past) (λ k. link z k past) o e))
        (record {
          sound = g.sound;
          fits =
              λ r. fits_blank z.zeros (Barren z o p now) (view z o p now) true (view z source (0 + p) now) (spot z o p past) g.sound
              (g.blank (omega (arith, e, d.new)))
              (λ backed. view_new o p e ∙ sym (view_old source p (old source source_made)) ∙ ap (λ q. view z source q now) (omega arith))
              (λ bare. absurd (let no : true ≡ false = bare in cc));
          blank = λ u. g.blank (omega (arith, u));
        })

    newest_place : (o p : ℕ) → o ≢ copy → newest z source past ≡ Some o → covered z o past ≡ true → GoodAt z now o p (spot z o p past)
    newest_place o p apart is ours =
        let n = w.stems.newest_is source o is in
        subst (λ (x : Link). Good z.zeros (ReachAt z o p now) (suc (objects z past) ≤ o) (Barren z o p now) (view z o p now) x.backed
        (view z x.under (x.shift + p) now) (spot z o p past)) (sym (link_newest source copy (newest z source past) (λ k. link z k past) o apart is))
        (good_again z.zeros (ReachAt z o p past) (ReachAt z o p now) (objects z past ≤ o) (suc (objects z past) ≤ o) (Barren z o p past) (Barren z o p now)
        (view z o p past) (view z o p now) true (under_view z o p past) (view z copy (0 + p) now) (spot z o p past)
        (subst (λ (b : Bool). Good z.zeros (ReachAt z o p past) (objects z past ≤ o) (Barren z o p past) (view z o p past) b (under_view z o p past)
        (spot z o p past)) n.backed (w.places o p ours))
        (reached_at o p apart) (λ u. omega (arith, u)) (λ reach. view_old o p apart)
        (λ reach none backed.
        view_new copy (0 + p) refl
        ∙ ap (λ q. view z source q past) (omega (arith, n.shift))
        ∙ ap (λ k. view z k ((link z o past).shift + p) past) (sym n.under))
        (λ reach barren. absurd (barren_copy z o p past w n.copy barren)))

    other_place : (o p : ℕ) → o ≢ copy → newest z source past ≢ Some o → covered z o past ≡ true → GoodAt z now o p (spot z o p past)
    other_place o p apart isnt ours =
        subst (λ (x : Link). Good z.zeros (ReachAt z o p now) (suc (objects z past) ≤ o) (Barren z o p now) (view z o p now) x.backed
        (view z x.under (x.shift + p) now) (spot z o p past)) (sym (link_else source copy (newest z source past) (λ k. link z k past) o apart isnt))
        (good_again z.zeros (ReachAt z o p past) (ReachAt z o p now) (objects z past ≤ o) (suc (objects z past) ≤ o) (Barren z o p past) (Barren z o p now)
        (view z o p past) (view z o p now) (link z o past).backed (under_view z o p past)
        (view z (link z o past).under ((link z o past).shift + p) now) (spot z o p past) (w.places o p ours)
        (reached_at o p apart) (λ u. omega (arith, u)) (λ reach. view_old o p apart)
        (λ reach none backed. view_old (link z o past).under ((link z o past).shift + p) (old (link z o past).under (w.shape.born o backed)))
        (λ reach barren n l lp path. barren_old n o p l lp (reach_small z o past w.shape (reached o apart reach.0)) barren path))

    places : (o p : ℕ) → covered z o now ≡ true → GoodAt z now o p (spot z o p past)
    places o p ours = elim (ℕ_discrete o copy) [
      | yes e ↦ new_place o p e (before o ours)
      | no apart ↦ elim (newest_or (newest z source past) o) [
        | inl is ↦ newest_place o p apart is (before o ours)
        | inr isnt ↦ other_place o p apart isnt (before o ours)
      ]
    ]

    marks : (o p : ℕ) → covered z o now ≡ true → MarkAt z now o p (spot z o p past)
    marks o p ours = elim (ℕ_discrete o copy) [
      | yes e ↦
          let g = w.places o p (before o ours) in
          let unborn : objects z past ≤ o = omega (arith, e, d.new) in
          let none : is_pushed z o p past ≡ false = (w.marks o p (before o ours)).fresh unborn in
          record {
            fresh = λ u. none;
            full = λ c r is. absurd (let no : true ≡ false = sym is ∙ none in cc);
            bare = λ c r is. blank_content z.zeros (spot z o p past) g.sound (g.blank unborn);
          }
      | no apart ↦ mark_again (objects z past ≤ o) (suc (objects z past) ≤ o) (is_copy z o past ≡ true) (is_copy z o now ≡ true) (Reach z o past)
          (Reach z o now) (is_pushed z o p past) (spot z o p past) (λ u. omega (arith, u))
          (λ c. sym (ap (λ (b : Bool). b || is_copy z o past) (eq_no o copy apart)) ∙ c) (λ c. reached o apart) (w.marks o p (before o ours))
    ]
