-- What holds of all regions, objects and places, and what a walk finds.
use Rattle.std.proofs.Common.{◌≡◌, ℕ, zero, suc, ◌+◌, ◌<◌, ◌≤◌, List, [], ◌∷◌, arith, Bool, true, false, None, Some, refl, if◌then◌else◌, ◌∙◌, sym, subst, ap}
use Rattle.std.proofs.Common.{◌≢◌}
use Rattle.std.proofs.lemmas.Bool.Decides.{nat_tests}
use Rattle.std.specs.Prelude.{◌⊎◌, ◌==◌, ◌&&◌}
use Rattle.vm_base.specs.Pages.{with_bytes}
use Rattle.vm_flat.specs.Words.{SpotEffect}
use Rattle.vm_flat.specs.Spot.{Spot}
use Rattle.vm_flat.proofs.Allowed.{Passed, content}
use Rattle.vm_flat.proofs.Deeds.{pages, is_file, covered, Ground, Deed, Region, Delayed, Shadowed, Copied, Stored, Answered, said, Row, row, regions}
use Rattle.vm_flat.proofs.Deeds.{objects, Link, link, at_place, spot, flat, newest, is_copy, is_pushed, stem}
use Rattle.vm_flat.proofs.Causes.{Below, Path, Reaches, Reach, Walks, Sinks, Tops}
use Rattle.vm_flat.proofs.Sound.{passed_content}
use Rattle.vm_flat.proofs.File.{file_is}
use Rattle.vm_flat.proofs.Good.{Good, shown}
use Rattle.vm_flat.proofs.Stems.{StemsOf, Marks}

-- what an object shows at a page, with eager copies
abbrev pub view : Ground → ℕ → ℕ → List Deed → List ℕ
view z o p [] = if is_file z o then z.start o p else z.zeros
view z o p (Region own region object count ∷ past) = if o == object then z.zeros else view z o p past
view z o p (Delayed tells region source off count copy ∷ past) = if o == copy then view z source p past else view z o p past
view z o p (Shadowed region new ∷ past) = if o == new then view z (row z region past).top ((row z region past).shift + p) past else view z o p past
view z o p (Copied own source index object page region i upper upper_page ∷ past) =
    if own && (upper == o && upper_page == p) then flat z source index past else view z o p past
view z o p (Stored own region index object page at bytes ∷ past) =
    if own && (object == o && page == p) then with_bytes at bytes (view z o p past) else view z o p past
view z o p (Answered own tells object page word ∷ past) =
    if (tells && own) && (object == o && page == p) then said z.zeros word (view z o p past) else view z o p past
view z o p (e ∷ past) = view z o p past

-- the numbers of regions and objects, and which objects stand on which: each chain ends, since a rank falls along it
pub record Shape (named : ℕ) (covers : ℕ → Bool) (rows : ℕ → Row) (links : ℕ → Link) (lengths : ℕ → ℕ) (next_region next_object : ℕ) : Type 0 where
  pub rows_below : (r : ℕ) → (rows r).used ≡ true → r < next_region
  pub tops_made : (r : ℕ) → r < next_region → (rows r).top < next_object
  pub born : (o : ℕ) → (links o).backed ≡ true → (links o).under < next_object
  pub rank : ℕ → ℕ
  pub falls : (o : ℕ) → (links o).backed ≡ true → rank (links o).under < rank o
  pub made : (o : ℕ) → (links o).backed ≡ true → o < next_object
  -- files and temporary objects alone
  pub covers_tops : (r : ℕ) → (rows r).used ≡ true → covers (rows r).top ≡ true
  pub covers_under : (o : ℕ) → covers o ≡ true → (links o).backed ≡ true → covers (links o).under ≡ true
  -- each page of a region or an object has a page below
  pub tops_inside : (r i : ℕ) → (rows r).used ≡ true → i < (rows r).pages → (rows r).shift + i < lengths (rows r).top
  pub inside : (o p : ℕ) → Reaches rows links o → (links o).backed ≡ true → p < lengths o → (links o).shift + p < lengths (links o).under
  -- the top of a region without the mark backs nothing and is no other region's top
  pub own : (r v : ℕ) → (rows r).used ≡ true → (rows r).mark ≡ false → named ≤ (rows r).top → Reaches rows links v → (links v).backed ≡ true
      → (links v).under ≢ (rows r).top
  pub alone : (r q : ℕ) → (rows r).used ≡ true → (rows r).mark ≡ false → (rows q).used ≡ true → q ≢ r → (rows q).top ≢ (rows r).top

abbrev pub tops_below : {named : ℕ} {covers : ℕ → Bool} {rows : ℕ → Row} {links : ℕ → Link} {lengths : ℕ → ℕ} {next_region next_object : ℕ}
    → Shape named covers rows links lengths next_region next_object → (r : ℕ) → (rows r).used ≡ true → (rows r).top < next_object
tops_below sh r used = sh.tops_made r (sh.rows_below r used)

abbrev pub ShapeOf : Ground → List Deed → Type 0
ShapeOf z past = Shape z.named (λ o. covered z o past) (λ r. row z r past) (λ o. link z o past) (λ o. pages z o past) (regions z past) (objects z past)

abbrev pub under_view : Ground → ℕ → ℕ → List Deed → List ℕ
under_view z o p past = view z (link z o past).under ((link z o past).shift + p) past

-- zeros show here and in all that is below
abbrev pub Barren : Ground → ℕ → ℕ → List Deed → Type 0
Barren z o p past = (n l lp : ℕ) → Path (λ k. link z k past) n o p l lp → (view z l lp past ≡ z.zeros) × (is_file z l ≡ false)

pub barren_top : (z : Ground) (o p : ℕ) (past : List Deed) → Barren z o p past → view z o p past ≡ z.zeros
barren_top z o p past barren = (barren 0 o p (refl, refl)).0

abbrev pub ReachAt : Ground → ℕ → ℕ → List Deed → Type 0
ReachAt z o p past = Reach z o past × (p < pages z o past)

abbrev pub GoodAt : Ground → List Deed → ℕ → ℕ → Spot → Type 0
GoodAt z past o p s =
    Good z.zeros (ReachAt z o p past) (objects z past ≤ o) (Barren z o p past) (view z o p past) (link z o past).backed (under_view z o p past) s

abbrev pub MarkAt : Ground → List Deed → ℕ → ℕ → Spot → Type 0
MarkAt z past o p s = Marks (objects z past ≤ o) (is_copy z o past ≡ true) (Reach z o past) (is_pushed z o p past) s

pub record World (z : Ground) (past : List Deed) : Type 0 where
  pub shape : ShapeOf z past
  -- a region shows what its top object shows
  pub regional : (r i : ℕ) → (row z r past).used ≡ true → i < (row z r past).pages → flat z r i past ≡ view z (row z r past).top ((row z r past).shift + i) past
  pub places : (o p : ℕ) → covered z o past ≡ true → GoodAt z past o p (spot z o p past)
  pub stems : StemsOf z past
  pub marks : (o p : ℕ) → covered z o past ≡ true → MarkAt z past o p (spot z o p past)

-- copies

pub pushed_content : (z : Ground) (o p : ℕ) (past : List Deed) → World z past → covered z o past ≡ true → is_copy z o past ≡ true → is_pushed z o p past ≡ true
    → Reach z o past → content (spot z o p past) ≢ None
pushed_content z o p past w ours copy pushed reach = (w.marks o p ours).full copy reach pushed

pub stands_newest : (z : Ground) (f v : ℕ) (past : List Deed) → World z past → f < z.named → (link z v past).backed ≡ true → (link z v past).under ≡ f
    → newest z f past ≡ Some v
stands_newest z f v past w declared backed under = w.stems.stands v f declared backed under

pub newest_copy_is : (z : Ground) (f c : ℕ) (past : List Deed) → World z past → newest z f past ≡ Some c
    → (is_copy z c past ≡ true) × ((link z c past).under ≡ f) × ((link z c past).shift ≡ 0) × (stem z c past ≡ Some f)
newest_copy_is z f c past w is = let n = w.stems.newest_is f c is in (n.copy, n.under, n.shift, n.source)

pub stem_backed : (z : Ground) (o f : ℕ) (past : List Deed) → World z past → stem z o past ≡ Some f
    → ((link z o past).backed ≡ true) × (((link z o past).under ≡ f) ⊎ (stem z (link z o past).under past ≡ Some f)) × (is_file z f ≡ true)
stem_backed z o f past w is = let s = w.stems.sources o f is in (s.backed, s.under, s.file)

pub unmade_stem : (z : Ground) (o : ℕ) (past : List Deed) → World z past → objects z past ≤ o → stem z o past ≡ None
unmade_stem z o past w unmade = (w.stems.unmade o unmade).0

-- chains

pub below_next : (links : ℕ → Link) (n o u : ℕ) → Below links n o u → (links u).backed ≡ true → Below links (suc n) o (links u).under
below_next links zero o u is backed = subst (λ (k : ℕ). Below links 1 o (links k).under) is (subst (λ (k : ℕ). (links k).backed ≡ true) (sym is) backed, refl)
below_next links (suc n) o u is backed = (is.0, below_next links n (links o).under u is.1 backed)

pub reach_next : (z : Ground) (o : ℕ) (past : List Deed) → Reach z o past → (link z o past).backed ≡ true → Reach z (link z o past).under past
reach_next z o past reach backed = (reach.0, suc reach.1, reach.2, below_next (λ k. link z k past) reach.1 (row z reach.0 past).top o reach.3 backed)

pub reach_top : (z : Ground) (r i o p : ℕ) (past : List Deed) → ShapeOf z past → Tops z r i o p past → ReachAt z o p past
reach_top z r i o p past sh tops = (
  (r, 0, tops.used, tops.object),
  subst (λ (k : ℕ). p < pages z k past) tops.object
      (let at : (row z r past).shift + i < pages z (row z r past).top past = sh.tops_inside r i tops.used tops.inside in omega (arith, at, tops.page)),
)

pub reach_under : (z : Ground) (o p : ℕ) (past : List Deed) → ShapeOf z past → ReachAt z o p past → (link z o past).backed ≡ true
    → ReachAt z (link z o past).under ((link z o past).shift + p) past
reach_under z o p past sh reach backed = (reach_next z o past reach.0 backed, sh.inside o p reach.0 backed reach.1)

below_small : (links : ℕ → Link) (m n o u : ℕ) → ((k : ℕ) → (links k).backed ≡ true → (links k).under < m) → o < m → Below links n o u → u < m
below_small links m zero o u born small is = omega (arith, is, small)
below_small links m (suc n) o u born small is = below_small links m n (links o).under u born (born o is.0) is.1

pub path_small : (links : ℕ → Link) (m n o p l lp : ℕ) → ((k : ℕ) → (links k).backed ≡ true → (links k).under < m) → o < m → Path links n o p l lp → l < m
path_small links m zero o p l lp born small is = omega (arith, is.0, small)
path_small links m (suc n) o p l lp born small is = path_small links m n (links o).under ((links o).shift + p) l lp born (born o is.0) is.1

pub reach_small : (z : Ground) (o : ℕ) (past : List Deed) → ShapeOf z past → Reach z o past → o < objects z past
reach_small z o past sh reach =
    below_small (λ k. link z k past) (objects z past) reach.1 (row z reach.0 past).top o sh.born (tops_below sh reach.0 reach.2) reach.3

-- below an object that is there, links of new ones are not seen
pub path_old : (links new : ℕ → Link) (m n o p l lp : ℕ) → o < m → ((k : ℕ) → k < m → new k ≡ links k)
    → ((k : ℕ) → (links k).backed ≡ true → (links k).under < m) → Path new n o p l lp → Path links n o p l lp
path_old links new m zero o p l lp small same born is = is
path_old links new m (suc n) o p l lp small same born is =
    let backed : (links o).backed ≡ true = subst (λ (x : Link). x.backed ≡ true) (same o small) is.0 in
    let next : Path new n (links o).under ((links o).shift + p) l lp = subst (λ (x : Link). Path new n x.under (x.shift + p) l lp) (same o small) is.1 in
    (backed, path_old links new m n (links o).under ((links o).shift + p) l lp (born o backed) same born next)

below_covered : (covers : ℕ → Bool) (links : ℕ → Link) (n o u : ℕ) → ((k : ℕ) → covers k ≡ true → (links k).backed ≡ true → covers (links k).under ≡ true)
    → covers o ≡ true → Below links n o u → covers u ≡ true
below_covered covers links zero o u under is below = subst (λ (k : ℕ). covers k ≡ true) below is
below_covered covers links (suc n) o u under is below = below_covered covers links n (links o).under u under (under o is below.0) below.1

pub reach_covered : (z : Ground) (o : ℕ) (past : List Deed) → ShapeOf z past → Reach z o past → covered z o past ≡ true
reach_covered z o past sh reach =
    below_covered (λ k. covered z k past) (λ k. link z k past) reach.1 (row z reach.0 past).top o sh.covers_under (sh.covers_tops reach.0 reach.2) reach.3

pub path_covered : (z : Ground) (n o p l lp : ℕ) (past : List Deed) → ShapeOf z past → covered z o past ≡ true → Path (λ k. link z k past) n o p l lp
    → covered z l past ≡ true
path_covered z zero o p l lp past sh is path = subst (λ (k : ℕ). covered z k past ≡ true) path.0 is
path_covered z (suc n) o p l lp past sh is path =
    path_covered z n (link z o past).under ((link z o past).shift + p) l lp past sh (sh.covers_under o is path.0) path.1

pub placed : (z : Ground) (o p : ℕ) (past : List Deed) → World z past → ReachAt z o p past → GoodAt z past o p (spot z o p past)
placed z o p past w reach = w.places o p (reach_covered z o past w.shape reach.0)

empty : (z : Ground) (o p : ℕ) (past : List Deed) → World z past → ReachAt z o p past → Passed (spot z o p past) → content (spot z o p past) ≡ None
empty z o p past w reach passed =
    passed_content z.zeros (spot z o p past) (placed z o p past w reach).sound passed ((placed z o p past w reach).fits reach).living

pub sunk : (z : Ground) (n o p : ℕ) (past : List Deed) → World z past → ReachAt z o p past → Sinks z n o p past → view z o p past ≡ z.zeros
sunk z zero o p past w reach sinks = ((placed z o p past w reach).fits reach).bottom (empty z o p past w reach sinks.0) sinks.1
sunk z (suc n) o p past w reach sinks =
    ((placed z o p past w reach).fits reach).through (empty z o p past w reach sinks.0) sinks.1
    ∙ sunk z n (link z o past).under ((link z o past).shift + p) past w (reach_under z o p past w.shape reach sinks.1) sinks.2

pub sinks_passed : (z : Ground) (n o p : ℕ) (past : List Deed) → Sinks z n o p past → Passed (spot z o p past)
sinks_passed z zero o p past sinks = sinks.0
sinks_passed z (suc n) o p past sinks = sinks.0

-- where the walk finds nothing, zeros show all the way down
pub sunk_below : (z : Ground) (n o p : ℕ) (past : List Deed) → World z past → ReachAt z o p past → Sinks z n o p past → Barren z o p past
sunk_below z n o p past w reach sinks zero l lp path = (
  ap (λ q. view z l q past) (sym path.1) ∙ ap (λ k. view z k p past) (sym path.0) ∙ sunk z n o p past w reach sinks,
  subst (λ (k : ℕ). is_file z k ≡ false) path.0 (sym (file_is z o p past) ∙ (sinks_passed z n o p past sinks).plain),
)
sunk_below z zero o p past w reach sinks (suc m) l lp path = absurd (clash (link z o past).backed path.0 sinks.1)
  where
    clash : (b : Bool) → b ≡ true → b ≡ false → ⊥
    clash b is isnt = cc
sunk_below z (suc n) o p past w reach sinks (suc m) l lp path =
    sunk_below z n (link z o past).under ((link z o past).shift + p) past w (reach_under z o p past w.shape reach sinks.1) sinks.2 m l lp path.1

pub walked : (z : Ground) (n o p l lp : ℕ) (past : List Deed) → World z past → ReachAt z o p past → Walks z n o p l lp past
    → (view z o p past ≡ view z l lp past) × ReachAt z l lp past
walked z zero o p l lp past w reach walks = (
  ap (λ k. view z k p past) walks.0 ∙ ap (λ q. view z l q past) walks.1,
  subst (λ (k : ℕ). ReachAt z k lp past) walks.0 (subst (λ (q : ℕ). ReachAt z o q past) walks.1 reach),
)
walked z (suc n) o p l lp past w reach walks =
    let more : (view z (link z o past).under ((link z o past).shift + p) past ≡ view z l lp past)
    × ReachAt z l lp past = walked z n (link z o past).under ((link z o past).shift + p) l lp past w (reach_under z o p past w.shape reach walks.1)
    walks.2 in
    (((placed z o p past w reach).fits reach).through (empty z o p past w reach walks.0) walks.1 ∙ more.0, more.1)

-- what the walk finds here is what the place at its start shows
pub found : (z : Ground) (n o p l lp : ℕ) (past : List Deed) → World z past → ReachAt z o p past → Walks z n o p l lp past → (spot z l lp past).here ≡ true
    → view z o p past ≡ (spot z l lp past).bytes
found z n o p l lp past w reach walks here =
    let at : (view z o p past ≡ view z l lp past) × ReachAt z l lp past = walked z n o p l lp past w reach walks in
    at.0 ∙ shown z.zeros (Barren z l lp past) (view z l lp past) (link z l past).backed (under_view z l lp past) (spot z l lp past)
    (placed z l lp past w at.1).sound ((placed z l lp past w at.1).fits at.1) (barren_top z l lp past) here

pub load : (z : Ground) (r i n o p l lp : ℕ) (past : List Deed) → World z past → Tops z r i o p past → Walks z n o p l lp past → (spot z l lp past).here ≡ true
    → (spot z l lp past).bytes ≡ flat z r i past
load z r i n o p l lp past w tops walks here =
    let top : flat z r i past ≡ view z o p past = w.regional r i tops.used tops.inside ∙ ap (λ k. view z k ((row z r past).shift + i) past) tops.object
    ∙ ap (λ q. view z o q past) tops.page in
    sym (top ∙ found z n o p l lp past w (reach_top z r i o p past w.shape tops) walks here)

-- a place is the deed's own or another
place_if : (P : ℕ → ℕ → SpotEffect → Type 0) (o p object page : ℕ) (own : Bool) (mine other : SpotEffect) (b : Bool) → (own && (object == o && page == p)) ≡ b
    → (own ≡ true → P object page mine) → ((k q : ℕ) → P k q other) → P o p (if b then mine else other)
place_if P o p object page own mine other true is at rest =
    let t : own ≡ true = grind arith in
    let e : o ≡ object = grind (arith, nat_tests) in
    let f : p ≡ page = grind (arith, nat_tests) in
    subst (λ (k : ℕ). P k p mine) (sym e) (subst (λ (q : ℕ). P object q mine) (sym f) (at t))
place_if P o p object page own mine other false is at rest = rest o p

pub each_place : (P : ℕ → ℕ → SpotEffect → Type 0) (object page : ℕ) (own : Bool) (mine other : SpotEffect) → (own ≡ true → P object page mine)
    → ((k q : ℕ) → P k q other) → (o p : ℕ) → P o p (at_place o p own object page mine other)
each_place P object page own mine other at rest o p = place_if P o p object page own mine other (own && (object == o && page == p)) refl at rest

object_if : (P : ℕ → ℕ → SpotEffect → Type 0) (o p object : ℕ) (own : Bool) (mine other : SpotEffect) (b : Bool) → (own && object == o) ≡ b
    → (own ≡ true → (q : ℕ) → P object q mine) → ((k q : ℕ) → P k q other) → P o p (if b then mine else other)
object_if P o p object own mine other true is at rest =
    let t : own ≡ true = grind arith in
    let e : o ≡ object = grind (arith, nat_tests) in
    subst (λ (k : ℕ). P k p mine) (sym e) (at t p)
object_if P o p object own mine other false is at rest = rest o p

pub each_object : (P : ℕ → ℕ → SpotEffect → Type 0) (object : ℕ) (own : Bool) (mine other : SpotEffect) → (own ≡ true → (q : ℕ) → P object q mine)
    → ((k q : ℕ) → P k q other) → (o p : ℕ) → P o p (if own && object == o then mine else other)
each_object P object own mine other at rest o p = object_if P o p object own mine other (own && object == o) refl at rest
