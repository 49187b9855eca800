-- What a merge leaves: each object shows what it showed, and the lower object is reached no more.
use Rattle.std.proofs.Common.{◌≡◌, ℕ, zero, suc, ◌+◌, ◌<◌, ◌≤◌, List, ◌∷◌, arith, Bool, true, false, Some, None, refl, if◌then◌else◌, ◌∙◌, sym, subst, ap}
use Rattle.std.proofs.Common.{◌≢◌, inl, inr}
use Rattle.std.proofs.lemmas.Bool.Decides.{nat_tests}
use Rattle.std.specs.Prelude.{◌⊎◌, ◌==◌, ◌&&◌, not, nat_lt}
use native.Mathlib.Decide.{ℕ_discrete}
use Rattle.vm_flat.specs.Words.{SpotEffect, Moves, Drops, Nothing}
use Rattle.vm_flat.specs.Spot.{Spot, merged_effect, spot_after}
use Rattle.vm_flat.proofs.Allowed.{May, content}
use Rattle.vm_flat.proofs.Deeds.{Ground, is_file, covered, Deed, Merged, Row, row, pages, objects, Link, joined, link, spot}
use Rattle.vm_flat.proofs.Deeds.{newest, is_copy, is_pushed, stem}
use Rattle.vm_flat.proofs.Stems.{Newest, Source, Copy, StemsOf}
use Rattle.vm_flat.proofs.Marked.{mark_plain, mark_again}
use Rattle.vm_flat.proofs.Causes.{Path, Below, Reaches, Reach, Cause, Joins, Pair}
use Rattle.vm_flat.proofs.Sound.{Sound, keep_moves, keep_gone}
use Rattle.vm_flat.proofs.Good.{Fits, Good, good_again}
use Rattle.vm_flat.proofs.World.{ReachAt, reach_under, ShapeOf, World, GoodAt, MarkAt, below_next, under_view, view, Barren, barren_top}
use Rattle.vm_flat.proofs.File.{file_is}
use Rattle.vm_flat.proofs.Control.{control_is}
use Rattle.vm_flat.proofs.Regions.{eq_no, eq_yes}

clash : (b : Bool) → b ≡ false → b ≡ true → ⊥
clash b isnt is = cc

-- links

abbrev after : ℕ → ℕ → (ℕ → Link) → ℕ → Link
after upper lower links o = joined (o == upper) (links lower) (links o)

link_other : (links : ℕ → Link) (o upper lower : ℕ) → o ≢ upper → after upper lower links o ≡ links o
link_other links o upper lower apart = ap (λ (b : Bool). joined b (links lower) (links o)) (eq_no o upper apart)

link_own : (links : ℕ → Link) (o upper lower : ℕ) → o ≡ upper → after upper lower links o ≡ joined true (links lower) (links upper)
link_own links o upper lower e =
    ap (λ (b : Bool). joined b (links lower) (links o)) (eq_yes o upper e) ∙ ap (λ (k : ℕ). joined true (links lower) (links k)) e

reaches_next : (rows : ℕ → Row) (links : ℕ → Link) (o : ℕ) → Reaches rows links o → (links o).backed ≡ true → Reaches rows links (links o).under
reaches_next rows links o reach backed = (reach.0, suc reach.1, reach.2, below_next links reach.1 (rows reach.0).top o reach.3 backed)

-- what is below after it was below before, where the upper isn't reached
below_foreign : (rows : ℕ → Row) (links : ℕ → Link) (upper lower : ℕ) → (Reaches rows links upper → ⊥) → (n v o : ℕ) → Reaches rows links v
    → Below (after upper lower links) n v o → Reaches rows links o
below_foreign rows links upper lower foreign zero v o reach is = subst (λ (k : ℕ). Reaches rows links k) is reach
below_foreign rows links upper lower foreign (suc n) v o reach is =
    let same : after upper lower links v ≡ links v = link_other links v upper lower (λ e. foreign (subst (λ (k : ℕ). Reaches rows links k) e reach)) in
    below_foreign rows links upper lower foreign n (links v).under o
    (reaches_next rows links v reach (subst (λ (x : Link). x.backed ≡ true) same is.0))
    (subst (λ (x : Link). Below (after upper lower links) n x.under o) same is.1)

-- and so it was where the lower is reached by the upper alone; the lower isn't below any more
below_own : (rows : ℕ → Row) (links : ℕ → Link) (rank : ℕ → ℕ) (upper lower : ℕ) → ((k : ℕ) → (links k).backed ≡ true → rank (links k).under < rank k)
    → (links upper).backed ≡ true → (links upper).under ≡ lower
    → ((v : ℕ) → Reaches rows links v → (links v).backed ≡ true → (links v).under ≡ lower → v ≡ upper) → (n v o : ℕ) → Reaches rows links v → v ≢ lower
    → Below (after upper lower links) n v o → Reaches rows links o × (o ≢ lower)
below_own rows links rank upper lower falls on under sole zero v o reach apart is =
    (subst (λ (k : ℕ). Reaches rows links k) is reach, λ e. apart (is ∙ e))
below_own rows links rank upper lower falls on under sole (suc n) v o reach apart is = elim (ℕ_discrete v upper) [
  | yes e ↦
      let own : after upper lower links v ≡ joined true (links lower) (links upper) = link_own links v upper lower e in
      let backed : (links lower).backed ≡ true = sym (ap (λ (x : Link). x.backed) own) ∙ is.0 in
      let here : Reaches rows links upper = subst (λ (k : ℕ). Reaches rows links k) e reach in
      let low : Reaches rows links lower = subst (λ (k : ℕ). Reaches rows links k) under (reaches_next rows links upper here on) in
      below_own rows links rank upper lower falls on under sole n (links lower).under o (reaches_next rows links lower low backed)
      (λ f. let less : rank (links lower).under < rank lower = falls lower backed in
      let same : rank (links lower).under ≡ rank lower = ap rank f in omega (arith, less, same))
      (subst (λ (x : Link). Below (after upper lower links) n x.under o) own is.1)
  | no other ↦
      let same : after upper lower links v ≡ links v = link_other links v upper lower other in
      let backed : (links v).backed ≡ true = subst (λ (x : Link). x.backed ≡ true) same is.0 in
      below_own rows links rank upper lower falls on under sole n (links v).under o (reaches_next rows links v reach backed)
      (λ f. other (sole v reach backed f)) (subst (λ (x : Link). Below (after upper lower links) n x.under o) same is.1)
]

-- each place below after it was below before
path_merged : (links : ℕ → Link) (upper lower : ℕ) → (links upper).backed ≡ true → (links upper).under ≡ lower → (n o p l lp : ℕ)
    → Path (after upper lower links) n o p l lp → (m : ℕ) × Path links m o p l lp
path_merged links upper lower on under zero o p l lp is = (0, is)
path_merged links upper lower on under (suc n) o p l lp is = elim (ℕ_discrete o upper) [
  | yes e ↦
      let own : after upper lower links o ≡ joined true (links lower) (links upper) = link_own links o upper lower e in
      let backed : (links lower).backed ≡ true = sym (ap (λ (x : Link). x.backed) own) ∙ is.0 in
      let next : Path (after upper lower links) n (links lower).under (((links lower).shift + (links upper).shift) + p) l lp = subst
      (λ (x : Link). Path (after upper lower links) n x.under (x.shift + p) l lp) own is.1 in
      let was : (m : ℕ) × Path links m (links lower).under (((links lower).shift + (links upper).shift) + p) l lp = path_merged links upper lower on under n
      (links lower).under (((links lower).shift + (links upper).shift) + p) l lp next in
      let far : ((links lower).shift + (links upper).shift) + p ≡ (links lower).shift + ((links upper).shift + p) = omega arith in
      let low : Path links (suc was.0) lower ((links upper).shift + p) l lp =
      (backed, subst (λ (q : ℕ). Path links was.0 (links lower).under q l lp) far was.1) in
      let high : Path links (suc (suc was.0)) upper p l lp =
      (on, subst (λ (k : ℕ). Path links (suc was.0) k ((links upper).shift + p) l lp) (sym under) low) in
      (suc (suc was.0), subst (λ (k : ℕ). Path links (suc (suc was.0)) k p l lp) (sym e) high)
  | no other ↦
      let same : after upper lower links o ≡ links o = link_other links o upper lower other in
      let backed : (links o).backed ≡ true = subst (λ (x : Link). x.backed ≡ true) same is.0 in
      let next : Path (after upper lower links) n (links o).under ((links o).shift + p) l lp = subst
      (λ (x : Link). Path (after upper lower links) n x.under (x.shift + p) l lp) same is.1 in
      let was : (m : ℕ) × Path links m (links o).under ((links o).shift + p) l lp = path_merged links upper lower on under n (links o).under
      ((links o).shift + p) l lp next in
      (suc was.0, (backed, was.1))
]

-- what is reached

reach_foreign : (z : Ground) (own : Bool) (upper lower shift upper_pages lower_pages o : ℕ) (past : List Deed) → (Reach z upper past → ⊥)
    → Reach z o (Merged own upper lower shift upper_pages lower_pages ∷ past) → Reach z o past
reach_foreign z own upper lower shift upper_pages lower_pages o past foreign reach =
    below_foreign (λ r. row z r past) (λ k. link z k past) upper lower foreign reach.1 (row z reach.0 past).top o (reach.0, 0, reach.2, refl) reach.3

reach_own : (z : Ground) (own : Bool) (upper lower shift upper_pages lower_pages o : ℕ) (past : List Deed) → ShapeOf z past
    → Joins z own upper lower shift upper_pages lower_pages past → Pair z upper lower past
    → Reach z o (Merged own upper lower shift upper_pages lower_pages ∷ past) → Reach z o past × (o ≢ lower)
reach_own z own upper lower shift upper_pages lower_pages o past sh c pair reach =
    below_own (λ r. row z r past) (λ k. link z k past) sh.rank upper lower sh.falls c.backed c.under pair.sole reach.1 (row z reach.0 past).top o
    (reach.0, 0, reach.2, refl) (pair.no_top reach.0 reach.2) reach.3

reach_merged : (z : Ground) (own : Bool) (upper lower shift upper_pages lower_pages o : ℕ) (past : List Deed) → ShapeOf z past
    → Joins z own upper lower shift upper_pages lower_pages past → Reach z o (Merged own upper lower shift upper_pages lower_pages ∷ past) → Reach z o past
reach_merged z true upper lower shift upper_pages lower_pages o past sh c reach =
    (reach_own z true upper lower shift upper_pages lower_pages o past sh c (c.pair refl) reach).0
reach_merged z false upper lower shift upper_pages lower_pages o past sh c reach =
    reach_foreign z false upper lower shift upper_pages lower_pages o past (c.foreign refl) reach

low_reach : (z : Ground) (upper lower : ℕ) (past : List Deed) → (link z upper past).backed ≡ true → (link z upper past).under ≡ lower → Reach z upper past
    → Reach z lower past
low_reach z upper lower past on under reach =
    subst (λ (k : ℕ). Reach z k past) under (reaches_next (λ r. row z r past) (λ k. link z k past) upper reach on)

shape_merged : (z : Ground) (own : Bool) (upper lower shift upper_pages lower_pages : ℕ) (past : List Deed) → ShapeOf z past
    → Joins z own upper lower shift upper_pages lower_pages past → ShapeOf z (Merged own upper lower shift upper_pages lower_pages ∷ past)
shape_merged z own upper lower shift upper_pages lower_pages past sh c =
    record {
      rows_below = sh.rows_below;
      tops_made = sh.tops_made;
      born = λ o. by_link o (λ x. x.backed ≡ true → x.under < objects z past) (λ e. sh.born lower) (λ other. sh.born o);
      rank = sh.rank;
      falls = λ o. by_link o (λ x. x.backed ≡ true → sh.rank x.under < sh.rank o) (λ e. falls o e) (λ other. sh.falls o);
      made = λ o. by_link o (λ x. x.backed ≡ true → o < objects z past) (λ e backed. omega (arith, e, sh.made upper c.backed)) (λ other. sh.made o);
      covers_tops = sh.covers_tops;
      covers_under = λ o ours. by_link o (λ x. x.backed ≡ true → covered z x.under past ≡ true) (λ e. sh.covers_under lower (covers o e ours))
          (λ other. sh.covers_under o ours);
      tops_inside = sh.tops_inside;
      inside = λ o p reach backed less. by_link o (λ x. x.backed ≡ true → x.shift + p < pages z x.under past) (λ e on. inside o p e (reached o reach) less on)
          (λ other on. sh.inside o p (reached o reach) on less) backed;
      own = λ r v used mark kind reach. by_link v (λ x. x.backed ≡ true → x.under ≢ (row z r past).top)
          (λ e. sh.own r lower used mark kind (low v e (reached v reach))) (λ other. sh.own r v used mark kind (reached v reach));
      alone = sh.alone;
    }
  where
    by_link : (o : ℕ) (P : Link → Type 0) → (o ≡ upper → P (joined true (link z lower past) (link z upper past))) → (o ≢ upper → P (link z o past))
        → P (link z o (Merged own upper lower shift upper_pages lower_pages ∷ past))
    by_link o P mine other = elim (ℕ_discrete o upper) [
      | yes e ↦ subst P (sym (link_own (λ k. link z k past) o upper lower e)) (mine e)
      | no apart ↦ subst P (sym (link_other (λ k. link z k past) o upper lower apart)) (other apart)
    ]

    reached : (o : ℕ) → Reach z o (Merged own upper lower shift upper_pages lower_pages ∷ past) → Reach z o past
    reached o reach = reach_merged z own upper lower shift upper_pages lower_pages o past sh c reach

    low : (o : ℕ) → o ≡ upper → Reach z o past → Reach z lower past
    low o e reach = low_reach z upper lower past c.backed c.under (subst (λ (k : ℕ). Reach z k past) e reach)

    falls : (o : ℕ) → o ≡ upper → (link z lower past).backed ≡ true → sh.rank (link z lower past).under < sh.rank o
    falls o e backed =
        let one : sh.rank (link z lower past).under < sh.rank lower = sh.falls lower backed in
        let two : sh.rank (link z upper past).under < sh.rank upper = sh.falls upper c.backed in
        let same : sh.rank (link z upper past).under ≡ sh.rank lower = ap sh.rank c.under in
        let mine : sh.rank o ≡ sh.rank upper = ap sh.rank e in
        omega (arith, one, two, same, mine)

    covers : (o : ℕ) → o ≡ upper → covered z o past ≡ true → covered z lower past ≡ true
    covers o e ours = subst (λ (k : ℕ). covered z k past ≡ true) c.under (sh.covers_under upper (subst (λ (k : ℕ). covered z k past ≡ true) e ours) c.backed)

    inside : (o p : ℕ) → o ≡ upper → Reach z o past → p < pages z o past → (link z lower past).backed ≡ true
        → ((link z lower past).shift + (link z upper past).shift) + p < pages z (link z lower past).under past
    inside o p e reach less backed =
        let first : (link z upper past).shift + p < pages z lower past = subst (λ (k : ℕ). (link z upper past).shift + p < pages z k past) c.under
        (sh.inside upper p (subst (λ (k : ℕ). Reach z k past) e reach) c.backed (subst (λ (k : ℕ). p < pages z k past) e less)) in
        let deep : (link z lower past).shift + ((link z upper past).shift + p) < pages z (link z lower past).under past = sh.inside lower
        ((link z upper past).shift + p) (low o e reach) backed first in
        omega (arith, deep)

-- places

-- a place of the upper object, s, and the place below it, t
fits_merged : (z : List ℕ) (B C D : Type 0) (v x w : List ℕ) (b : Bool) (s t : Spot) (m : Bool) → (t.here && not s.here) ≡ m → Sound z s → Sound z t
    → s.file ≡ false → s.control ≡ 0 → t.file ≡ false → t.control ≡ 0 → Fits z B v true x s → Fits z C x b w t → (B → D) → (v ≡ x → C → D)
    → (B → b ≡ true → w ≡ z) → (B → v ≡ z) → Fits z D v b w (spot_after z s (if m then Moves t.bytes t.dirty else Nothing))
fits_merged z B C D v x w b s t true is ok low plain never low_plain low_never f g own moved below top =
    let away : s.here ≡ false = grind arith in
    let there : t.here ≡ true = grind arith in
    let none : s.returned ≡ None = ok.never plain never in
    let low_none : t.returned ≡ None = low.never low_plain low_never in
    let bare : content s ≡ None = grind arith in
    let same : v ≡ x = f.through bare refl in
    let now : content (spot_after z s (Moves t.bytes t.dirty)) ≡ content t = grind arith in
    record {
      solid = λ bytes e. same ∙ g.solid bytes (sym now ∙ e);
      through = λ e backed. same ∙ g.through (sym now ∙ e) backed;
      bottom = λ e last. same ∙ g.bottom (sym now ∙ e) last;
      zeros = λ e here. moved same (g.zeros (sym now ∙ e) there);
      living = f.living;
    }
fits_merged z B C D v x w b s t false is ok low plain never low_plain low_never f g own moved below top =
    record {
      solid = f.solid;
      through = λ e backed. elim (is_here s.here refl) [
        | inl here ↦ top (f.zeros e here) ∙ sym (below (f.zeros e here) backed)
        | inr away ↦ f.through e refl ∙ g.through (bare away) backed
      ];
      bottom = λ e last. elim (is_here s.here refl) [
        | inl here ↦ top (f.zeros e here)
        | inr away ↦ f.through e refl ∙ g.bottom (bare away) last
      ];
      zeros = λ e here. own (f.zeros e here);
      living = f.living;
    }
  where
    is_here : (h : Bool) → s.here ≡ h → (s.here ≡ true) ⊎ (s.here ≡ false)
    is_here true e = inl e
    is_here false e = inr e

    bare : s.here ≡ false → content t ≡ None
    bare away = let none : t.returned ≡ None = low.never low_plain low_never in grind arith

-- the page below may come up
may_move : (z : List ℕ) (s t : Spot) → (t.here && not s.here) ≡ true → Sound z s → Sound z t → s.file ≡ false → s.control ≡ 0 → t.file ≡ false → t.control ≡ 0
    → May z s (Moves t.bytes t.dirty)
may_move z s t is ok low plain never low_plain low_never =
    let none : s.returned ≡ None = ok.never plain never in let low_none : t.returned ≡ None = low.never low_plain low_never in grind arith

-- on another host
foreign_places : (z : Ground) (upper lower shift upper_pages lower_pages : ℕ) (past : List Deed) → World z past
    → Joins z false upper lower shift upper_pages lower_pages past → (o p : ℕ) → covered z o past ≡ true
    → GoodAt z (Merged false upper lower shift upper_pages lower_pages ∷ past) o p (spot z o p past)
foreign_places z upper lower shift upper_pages lower_pages past w c o p ours = elim (ℕ_discrete o upper) [
  | yes e ↦ record {
    sound = (w.places o p ours).sound;
    fits = λ reach. absurd (c.foreign refl (subst (λ (k : ℕ). Reach z k past) e (before reach.0)));
    blank = λ unborn. absurd (omega (arith, unborn, e, w.shape.made upper c.backed));
  }
  | no other ↦ subst (λ (x : Link). Good z.zeros (ReachAt z o p now) (objects z past ≤ o) (Barren z o p now) (view z o p past) x.backed
      (view z x.under (x.shift + p) past) (spot z o p past)) (sym (link_other (λ k. link z k past) o upper lower other))
      (good_again z.zeros (ReachAt z o p past) (ReachAt z o p now) (objects z past ≤ o) (objects z past ≤ o) (Barren z o p past) (Barren z o p now)
      (view z o p past) (view z o p past) (link z o past).backed (under_view z o p past) (under_view z o p past) (spot z o p past) (w.places o p ours)
      (λ reach. (before reach.0, reach.1)) (λ u. u) (λ reach. refl) (λ reach none backed. refl)
      (λ reach barren n l lp path. let was : (m : ℕ) × Path (λ k. link z k past) m o p l lp = path_merged (λ k. link z k past) upper lower c.backed c.under n o
      p l lp path in barren was.0 l lp was.1))
]
  where
    now : List Deed
    now = Merged false upper lower shift upper_pages lower_pages ∷ past

    before : Reach z o now → Reach z o past
    before reach = reach_foreign z false upper lower shift upper_pages lower_pages o past (c.foreign refl) reach

-- on their own

-- the effects

of_upper : (p upper lower shift upper_pages lower_pages : ℕ) (s t : Spot) → merged_effect upper p upper lower shift upper_pages lower_pages s t
    ≡ (if nat_lt p upper_pages && (nat_lt (shift + p) lower_pages && (t.here && not s.here)) then Moves t.bytes t.dirty else Nothing)
of_upper p upper lower shift upper_pages lower_pages s t =
    ap (λ (b : Bool). if b
    then (if nat_lt p upper_pages && (nat_lt (shift + p) lower_pages && (t.here && not s.here)) then Moves t.bytes t.dirty else Nothing)
    else (if upper == lower && nat_lt p lower_pages then Drops else Nothing)) (eq_yes upper upper refl)

of_lower : (o p upper lower shift upper_pages lower_pages : ℕ) (s t : Spot) → o ≢ upper
    → merged_effect o p upper lower shift upper_pages lower_pages s t ≡ (if o == lower && nat_lt p lower_pages then Drops else Nothing)
of_lower o p upper lower shift upper_pages lower_pages s t apart =
    ap (λ (b : Bool). if b
    then (if nat_lt p upper_pages && (nat_lt (shift + p) lower_pages && (t.here && not s.here)) then Moves t.bytes t.dirty else Nothing)
    else (if o == lower && nat_lt p lower_pages then Drops else Nothing)) (eq_no o upper apart)

pub of_other : (o p upper lower shift upper_pages lower_pages : ℕ) (s t : Spot) → o ≢ upper → o ≢ lower
    → merged_effect o p upper lower shift upper_pages lower_pages s t ≡ Nothing
of_other o p upper lower shift upper_pages lower_pages s t apart too =
    of_lower o p upper lower shift upper_pages lower_pages s t apart
    ∙ ap (λ (b : Bool). if b && nat_lt p lower_pages then Drops else Nothing) (eq_no o lower too)

dropped_sound : (z : List ℕ) (s : Spot) (b : Bool) → Sound z s → Sound z (spot_after z s (if b then Drops else Nothing))
dropped_sound z s true ok = keep_gone z s ok
dropped_sound z s false ok = ok

less_true : (a b : ℕ) → a < b → nat_lt a b ≡ true
less_true a b less = grind (arith, nat_tests)

settled : (a b m : Bool) → a ≡ true → b ≡ true → (a && (b && m)) ≡ m
settled true true m first second = refl
settled true false m first second = absurd (let bad : false ≡ true = second in cc)
settled false b m first second = absurd (let bad : false ≡ true = first in cc)

last_of : (a b m : Bool) → (a && (b && m)) ≡ true → m ≡ true
last_of a b m is = grind arith

-- a place of the upper object
upper_place : (z : Ground) (upper lower shift upper_pages lower_pages : ℕ) (past : List Deed) → World z past
    → Joins z true upper lower shift upper_pages lower_pages past → (p : ℕ) → covered z upper past ≡ true
    → GoodAt z (Merged true upper lower shift upper_pages lower_pages ∷ past) upper p
    (spot z upper p (Merged true upper lower shift upper_pages lower_pages ∷ past))
upper_place z upper lower shift upper_pages lower_pages past w c p ours =
    subst (λ (x : Link). Good z.zeros (ReachAt z upper p now) (objects z past ≤ upper) (Barren z upper p now) (view z upper p past) x.backed
    (view z x.under (x.shift + p) past) (spot z upper p now)) (sym (link_own (λ k. link z k past) upper upper lower refl))
    (subst (λ (u : List ℕ). Good z.zeros (ReachAt z upper p now) (objects z past ≤ upper) (Barren z upper p now) (view z upper p past)
    (link z lower past).backed
    u (spot z upper p now)) (ap (λ q. view z (link z lower past).under q past) far)
    (subst (λ (e : SpotEffect). Good z.zeros (ReachAt z upper p now) (objects z past ≤ upper) (Barren z upper p now) (view z upper p past)
    (link z lower past).backed (under_view z lower (shift + p) past) (spot_after z.zeros above e))
    (sym (of_upper p upper lower shift upper_pages lower_pages above below))
    (record { sound = sound _ refl; fits = fits; blank = λ unborn. absurd (omega (arith, unborn, w.shape.made upper c.backed)) })))
  where
    now : List Deed
    now = Merged true upper lower shift upper_pages lower_pages ∷ past

    above : Spot
    above = spot z upper p past

    below : Spot
    below = spot z lower (shift + p) past

    moves : Bool
    moves = nat_lt p upper_pages && (nat_lt (shift + p) lower_pages && (below.here && not above.here))

    far : (link z lower past).shift + (shift + p) ≡ ((link z lower past).shift + (link z upper past).shift) + p
    far = omega (arith, c.shift_is)

    too : covered z lower past ≡ true
    too = subst (λ (k : ℕ). covered z k past ≡ true) c.under (w.shape.covers_under upper ours c.backed)

    above_control : above.control ≡ 0
    above_control = control_is z upper p past ∙ (c.pair refl).upper_never

    below_control : below.control ≡ 0
    below_control = control_is z lower (shift + p) past ∙ (c.pair refl).lower_never

    above_plain : above.file ≡ false
    above_plain = file_is z upper p past ∙ c.upper_plain

    below_plain : below.file ≡ false
    below_plain = file_is z lower (shift + p) past ∙ c.lower_plain

    sound : (m : Bool) → moves ≡ m → Sound z.zeros (spot_after z.zeros above (if m then Moves below.bytes below.dirty else Nothing))
    sound false is = (w.places upper p ours).sound
    sound true is =
        keep_moves z.zeros above below.bytes below.dirty (w.places upper p ours).sound
        (may_move z.zeros above below (last_of (nat_lt p upper_pages) (nat_lt (shift + p) lower_pages) (below.here && not above.here) is)
        (w.places upper p ours).sound (w.places lower (shift + p) too).sound above_plain above_control below_plain below_control)

    under : under_view z upper p past ≡ view z lower (shift + p) past
    under = ap (λ k. view z k ((link z upper past).shift + p) past) c.under ∙ ap (λ n. view z lower (n + p) past) c.shift_is

    -- zeros below the upper place are zeros below the joined one
    barren_same : Barren z upper p past → Barren z upper p now
    barren_same barren n l lp path =
        let was : (m : ℕ) × Path (λ k. link z k past) m upper p l lp = path_merged (λ k. link z k past) upper lower c.backed c.under n upper p l lp path in
        barren was.0 l lp was.1

    -- and so are those below the lower, where the upper place shows what the lower does
    barren_moved : view z upper p past ≡ view z lower (shift + p) past → Barren z lower (shift + p) past → Barren z upper p now
    barren_moved same barren zero l lp path = (
      ap (λ q. view z l q past) (sym path.1) ∙ ap (λ k. view z k p past) (sym path.0) ∙ same ∙ (barren 0 lower (shift + p) (refl, refl)).0,
      subst (λ (k : ℕ). is_file z k ≡ false) path.0 c.upper_plain,
    )
    barren_moved same barren (suc n) l lp path =
        let own : link z upper now ≡ joined true (link z lower past) (link z upper past) = link_own (λ k. link z k past) upper upper lower refl in
        let backed : (link z lower past).backed ≡ true = sym (ap (λ (x : Link). x.backed) own) ∙ path.0 in
        let next : Path (λ k. link z k now) n (link z lower past).under (((link z lower past).shift + (link z upper past).shift) + p) l lp = subst
        (λ (x : Link). Path (λ k. link z k now) n x.under (x.shift + p) l lp) own path.1 in
        let was : (m : ℕ) × Path (λ k. link z k past) m (link z lower past).under (((link z lower past).shift + (link z upper past).shift) + p) l lp =
        path_merged (λ k. link z k past) upper lower c.backed c.under n (link z lower past).under
        (((link z lower past).shift + (link z upper past).shift) + p) l lp next in
        barren (suc was.0) l lp (backed, subst (λ (q : ℕ). Path (λ k. link z k past) was.0 (link z lower past).under q l lp) (sym far) was.1)

    barren_two : Barren z upper p past → (link z lower past).backed ≡ true → under_view z lower (shift + p) past ≡ z.zeros
    barren_two barren backed =
        (barren 2 (link z lower past).under ((link z lower past).shift + (shift + p)) (
          c.backed,
          subst (λ (k : ℕ). Path (λ j. link z j past) 1 k ((link z upper past).shift + p) (link z lower past).under ((link z lower past).shift + (shift + p)))
              (sym c.under) (backed, (refl, ap (λ n. (link z lower past).shift + (n + p)) c.shift_is)),
        )).0

    fits : ReachAt z upper p now → Fits z.zeros (Barren z upper p now) (view z upper p past) (link z lower past).backed (under_view z lower (shift + p) past)
        (spot_after z.zeros above (if moves then Moves below.bytes below.dirty else Nothing))
    fits reach =
        let was : ReachAt z upper p past =
        ((reach_own z true upper lower shift upper_pages lower_pages upper past w.shape c (c.pair refl) reach.0).0, reach.1) in
        let next : ReachAt z (link z upper past).under ((link z upper past).shift + p) past = reach_under z upper p past w.shape was c.backed in
        let low : ReachAt z lower (shift + p) past = subst (λ (k : ℕ). ReachAt z k (shift + p) past) c.under
        (subst (λ (n : ℕ). ReachAt z (link z upper past).under (n + p) past) c.shift_is next) in
        let one : nat_lt p upper_pages ≡ true = less_true p upper_pages (subst (λ (n : ℕ). p < n) c.upper_pages_is reach.1) in
        let two : nat_lt (shift + p) lower_pages ≡ true = less_true (shift + p) lower_pages (subst (λ (n : ℕ). shift + p < n) c.lower_pages_is low.1) in
        subst (λ (m : Bool). Fits z.zeros (Barren z upper p now) (view z upper p past) (link z lower past).backed (under_view z lower (shift + p) past)
        (spot_after z.zeros above (if m then Moves below.bytes below.dirty else Nothing)))
        (sym (settled (nat_lt p upper_pages) (nat_lt (shift + p) lower_pages) (below.here && not above.here) one two))
        (fits_merged z.zeros (Barren z upper p past) (Barren z lower (shift + p) past) (Barren z upper p now) (view z upper p past)
        (view z lower (shift + p) past) (under_view z lower (shift + p) past) (link z lower past).backed above below (below.here && not above.here) refl
        (w.places upper p ours).sound (w.places lower (shift + p) too).sound above_plain above_control below_plain below_control
        (subst (λ (u : List ℕ). Fits z.zeros (Barren z upper p past) (view z upper p past) true u above) under
        (subst (λ (b : Bool). Fits z.zeros (Barren z upper p past) (view z upper p past) b (under_view z upper p past) above) c.backed
        ((w.places upper p ours).fits was)))
        ((w.places lower (shift + p) too).fits low) barren_same barren_moved barren_two (barren_top z upper p past))

-- a place of another object
other_place : (z : Ground) (upper lower shift upper_pages lower_pages : ℕ) (past : List Deed) → World z past
    → Joins z true upper lower shift upper_pages lower_pages past → (o p : ℕ) → covered z o past ≡ true → o ≢ upper
    → GoodAt z (Merged true upper lower shift upper_pages lower_pages ∷ past) o p
    (spot z o p (Merged true upper lower shift upper_pages lower_pages ∷ past))
other_place z upper lower shift upper_pages lower_pages past w c o p ours apart = elim (ℕ_discrete o lower) [
  | yes e ↦ record {
    sound = subst (λ (f : SpotEffect). Sound z.zeros (spot_after z.zeros (spot z o p past) f))
        (sym (of_lower o p upper lower shift upper_pages lower_pages (spot z o p past) (spot z lower (shift + p) past) apart))
        (dropped_sound z.zeros (spot z o p past) (o == lower && nat_lt p lower_pages) (w.places o p ours).sound);
    fits = λ reach. absurd ((before reach.0).1 e);
    blank = λ unborn. absurd (omega (arith, unborn, e, w.shape.born upper c.backed, c.under));
  }
  | no other ↦ subst (λ (f : SpotEffect). Good z.zeros (ReachAt z o p now) (objects z past ≤ o) (Barren z o p now) (view z o p past) (link z o now).backed
      (under_view z o p now) (spot_after z.zeros (spot z o p past) f))
      (sym (of_other o p upper lower shift upper_pages lower_pages (spot z o p past) (spot z lower (shift + p) past) apart other))
      (subst (λ (x : Link). Good z.zeros (ReachAt z o p now) (objects z past ≤ o) (Barren z o p now) (view z o p past) x.backed
      (view z x.under (x.shift + p) past) (spot z o p past)) (sym (link_other (λ k. link z k past) o upper lower apart))
      (good_again z.zeros (ReachAt z o p past) (ReachAt z o p now) (objects z past ≤ o) (objects z past ≤ o) (Barren z o p past) (Barren z o p now)
      (view z o p past) (view z o p past) (link z o past).backed (under_view z o p past) (under_view z o p past) (spot z o p past) (w.places o p ours)
      (λ reach. ((before reach.0).0, reach.1)) (λ u. u) (λ reach. refl) (λ reach none backed. refl)
      (λ reach barren n l lp path. let was : (m : ℕ) × Path (λ k. link z k past) m o p l lp = path_merged (λ k. link z k past) upper lower c.backed c.under n o
      p l lp path in barren was.0 l lp was.1)))
]
  where
    now : List Deed
    now = Merged true upper lower shift upper_pages lower_pages ∷ past

    before : Reach z o now → Reach z o past × (o ≢ lower)
    before reach = reach_own z true upper lower shift upper_pages lower_pages o past w.shape c (c.pair refl) reach

own_places : (z : Ground) (upper lower shift upper_pages lower_pages : ℕ) (past : List Deed) → World z past
    → Joins z true upper lower shift upper_pages lower_pages past → (o p : ℕ) → covered z o past ≡ true
    → GoodAt z (Merged true upper lower shift upper_pages lower_pages ∷ past) o p
    (spot z o p (Merged true upper lower shift upper_pages lower_pages ∷ past))
own_places z upper lower shift upper_pages lower_pages past w c o p ours = elim (ℕ_discrete o upper) [
  | yes e ↦ subst (λ (k : ℕ). GoodAt z (Merged true upper lower shift upper_pages lower_pages ∷ past) k p
      (spot z k p (Merged true upper lower shift upper_pages lower_pages ∷ past))) (sym e)
      (upper_place z upper lower shift upper_pages lower_pages past w c p (subst (λ (k : ℕ). covered z k past ≡ true) e ours))
  | no apart ↦ other_place z upper lower shift upper_pages lower_pages past w c o p ours apart
]

-- copies

-- neither of the two is a copy
lower_copy : (z : Ground) (own : Bool) (upper lower shift upper_pages lower_pages : ℕ) (past : List Deed)
    → Joins z own upper lower shift upper_pages lower_pages past → (k : ℕ) → k ≡ lower → is_copy z k past ≡ true → ⊥
lower_copy z own upper lower shift upper_pages lower_pages past c k e copy =
    clash (is_copy z lower past) c.no_copy (subst (λ (h : ℕ). is_copy z h past ≡ true) e copy)

lower_file : (z : Ground) (own : Bool) (upper lower shift upper_pages lower_pages : ℕ) (past : List Deed)
    → Joins z own upper lower shift upper_pages lower_pages past → (k : ℕ) → k ≡ lower → is_file z k ≡ true → ⊥
lower_file z own upper lower shift upper_pages lower_pages past c k e file =
    clash (is_file z lower) c.lower_plain (subst (λ (h : ℕ). is_file z h ≡ true) e file)

upper_copy : (z : Ground) (own : Bool) (upper lower shift upper_pages lower_pages : ℕ) (past : List Deed) → StemsOf z past
    → Joins z own upper lower shift upper_pages lower_pages past → (k : ℕ) → k ≡ upper → is_copy z k past ≡ true → ⊥
upper_copy z own upper lower shift upper_pages lower_pages past s c k e copy =
    elim (s.copy_is upper (subst (λ (h : ℕ). is_copy z h past ≡ true) e copy)).under [
      | inl file ↦ lower_file z own upper lower shift upper_pages lower_pages past c (link z upper past).under c.under file
      | inr more ↦ lower_copy z own upper lower shift upper_pages lower_pages past c (link z upper past).under c.under more
    ]

stems_merged : (z : Ground) (own : Bool) (upper lower shift upper_pages lower_pages : ℕ) (past : List Deed) → StemsOf z past
    → Joins z own upper lower shift upper_pages lower_pages past → StemsOf z (Merged own upper lower shift upper_pages lower_pages ∷ past)
stems_merged z own upper lower shift upper_pages lower_pages past s c =
    record { stands = stands; newest_is = newest_is; sources = sources; copy_is = copy_is; unmade = s.unmade }
  where
    now : List Deed
    now = Merged own upper lower shift upper_pages lower_pages ∷ past

    kept : (o : ℕ) → o ≢ upper → link z o now ≡ link z o past
    kept o apart = link_other (λ k. link z k past) o upper lower apart

    joins : (o : ℕ) → o ≡ upper → link z o now ≡ joined true (link z lower past) (link z upper past)
    joins o e = link_own (λ k. link z k past) o upper lower e

    apart : (o : ℕ) → is_copy z o past ≡ true → o ≢ upper
    apart o copy e = upper_copy z own upper lower shift upper_pages lower_pages past s c o e copy

    stands : (v f : ℕ) → f < z.named → (link z v now).backed ≡ true → (link z v now).under ≡ f → newest z f past ≡ Some v
    stands v f declared backed under = elim (ℕ_discrete v upper) [
      | yes e ↦
          let low : newest z f past ≡ Some lower = s.stands lower f declared (subst (λ (l : Link). l.backed ≡ true) (joins v e) backed)
          (subst (λ (l : Link). l.under ≡ f) (joins v e) under) in
          absurd (lower_copy z own upper lower shift upper_pages lower_pages past c lower refl (s.newest_is f lower low).copy)
      | no other ↦
          s.stands v f declared (subst (λ (l : Link). l.backed ≡ true) (kept v other) backed) (subst (λ (l : Link). l.under ≡ f) (kept v other) under)
    ]

    newest_is : (f k : ℕ) → newest z f past ≡ Some k
        → Newest (λ o. is_file z o) (λ o. link z o now) (λ o. pages z o past) (objects z past) (λ o. is_copy z o past) (λ o. stem z o past) f k
    newest_is f k has =
        let n = s.newest_is f k has in
        let same : link z k now ≡ link z k past = kept k (apart k n.copy) in
        record {
          file = n.file;
          copy = n.copy;
          source = n.source;
          backed = subst (λ (l : Link). l.backed ≡ true) (sym same) n.backed;
          under = subst (λ (l : Link). l.under ≡ f) (sym same) n.under;
          shift = subst (λ (l : Link). l.shift ≡ 0) (sym same) n.shift;
          made = n.made;
          same_pages = n.same_pages;
        }

    low_stem : (f : ℕ) → stem z upper past ≡ Some f → stem z lower past ≡ Some f
    low_stem f has = let x = s.sources upper f has in elim x.under [
      | inl on ↦ absurd (lower_file z own upper lower shift upper_pages lower_pages past c f (sym on ∙ c.under) x.file)
      | inr low ↦ subst (λ (k : ℕ). stem z k past ≡ Some f) c.under low
    ]

    sources : (o f : ℕ) → stem z o past ≡ Some f → Source z.named (λ k. is_file z k) (λ k. link z k now) (λ k. stem z k past) o f
    sources o f has = elim (ℕ_discrete o upper) [
      | yes e ↦
          let y = s.sources lower f (low_stem f (subst (λ (k : ℕ). stem z k past ≡ Some f) e has)) in
          record {
            late = (s.sources o f has).late;
            file = y.file;
            backed = subst (λ (l : Link). l.backed ≡ true) (sym (joins o e)) y.backed;
            under = subst (λ (l : Link). (l.under ≡ f) ⊎ (stem z l.under past ≡ Some f)) (sym (joins o e)) y.under;
          }
      | no other ↦
          let x = s.sources o f has in
          record {
            late = x.late;
            file = x.file;
            backed = subst (λ (l : Link). l.backed ≡ true) (sym (kept o other)) x.backed;
            under = subst (λ (l : Link). (l.under ≡ f) ⊎ (stem z l.under past ≡ Some f)) (sym (kept o other)) x.under;
          }
    ]

    copy_is : (o : ℕ) → is_copy z o past ≡ true → Copy (λ k. is_file z k) (λ k. link z k now) (λ k. is_copy z k past) (λ k. stem z k past) o
    copy_is o copy =
        let x = s.copy_is o copy in
        record {
          file = x.file;
          source = x.source;
          under = subst (λ (l : Link). (is_file z l.under ≡ true) ⊎ (is_copy z l.under past ≡ true)) (sym (kept o (apart o copy))) x.under;
        }

marks_own : (z : Ground) (upper lower shift upper_pages lower_pages : ℕ) (past : List Deed) → World z past
    → Joins z true upper lower shift upper_pages lower_pages past → (o p : ℕ) → covered z o past ≡ true
    → MarkAt z (Merged true upper lower shift upper_pages lower_pages ∷ past) o p
    (spot z o p (Merged true upper lower shift upper_pages lower_pages ∷ past))
marks_own z upper lower shift upper_pages lower_pages past w c o p ours = elim (ℕ_discrete o upper) [
  | yes e ↦ plain (upper_copy z true upper lower shift upper_pages lower_pages past w.stems c o e)
  | no apart ↦ elim (ℕ_discrete o lower) [
    | yes e ↦ plain (lower_copy z true upper lower shift upper_pages lower_pages past c o e)
    | no other ↦ subst (λ (f : SpotEffect). MarkAt z now o p (spot_after z.zeros (spot z o p past) f))
        (sym (of_other o p upper lower shift upper_pages lower_pages (spot z o p past) (spot z lower (shift + p) past) apart other))
        (mark_again (objects z past ≤ o) (objects z past ≤ o) (is_copy z o past ≡ true) (is_copy z o past ≡ true) (Reach z o past) (Reach z o now)
        (is_pushed z o p past) (spot z o p past) (λ u. u) (λ copy. copy)
        (λ copy. reach_merged z true upper lower shift upper_pages lower_pages o past w.shape c) (w.marks o p ours))
  ]
]
  where
    now : List Deed
    now = Merged true upper lower shift upper_pages lower_pages ∷ past

    plain : (is_copy z o past ≡ true → ⊥) → MarkAt z now o p (spot z o p now)
    plain no_copy =
        mark_plain (objects z past ≤ o) (is_copy z o past ≡ true) (Reach z o now) (is_pushed z o p past) (spot z o p now) no_copy (w.marks o p ours).fresh

pub after_merged : (z : Ground) (own : Bool) (upper lower shift upper_pages lower_pages : ℕ) (past : List Deed) → World z past
    → Cause z (Merged own upper lower shift upper_pages lower_pages) past → World z (Merged own upper lower shift upper_pages lower_pages ∷ past)
after_merged z true upper lower shift upper_pages lower_pages past w c =
    record {
      shape = shape_merged z true upper lower shift upper_pages lower_pages past w.shape c;
      regional = w.regional;
      places = own_places z upper lower shift upper_pages lower_pages past w c;
      stems = stems_merged z true upper lower shift upper_pages lower_pages past w.stems c;
      marks = marks_own z upper lower shift upper_pages lower_pages past w c;
    }
after_merged z false upper lower shift upper_pages lower_pages past w c =
    record {
      shape = shape_merged z false upper lower shift upper_pages lower_pages past w.shape c;
      regional = w.regional;
      places = foreign_places z upper lower shift upper_pages lower_pages past w c;
      stems = stems_merged z false upper lower shift upper_pages lower_pages past w.stems c;
      marks = λ o p ours.
          mark_again (objects z past ≤ o) (objects z past ≤ o) (is_copy z o past ≡ true) (is_copy z o past ≡ true) (Reach z o past)
          (Reach z o (Merged false upper lower shift upper_pages lower_pages ∷ past)) (is_pushed z o p past) (spot z o p past) (λ u. u) (λ copy. copy)
          (λ copy. reach_merged z false upper lower shift upper_pages lower_pages o past w.shape c) (w.marks o p ours);
    }
