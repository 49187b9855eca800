-- Pages and their places: each has one row, and keeps its place where the row changes.
use Rattle.std.proofs.Common.{ℕ, zero, suc, ◌≡◌, ◌<◌, ◌≤◌, Bool, true, false, if◌then◌else◌, List, [], ◌∷◌, ◌++◌, length, set, Option, Some, None}
use Rattle.std.proofs.Common.{refl, sym, ◌∙◌, ap, subst, ⊎_elim, arith}
use native.Mathlib.Decide.{ℕ_discrete}
use Rattle.std.proofs.lemmas.Bool.{cases_Bool, false≢true}
use Rattle.std.proofs.lemmas.Option.{none-some, same_Some, slice_get_within}
use Rattle.std.specs.Prelude.{slice_get}
use Rattle.vm_base.proofs.Keys.{itself, page_read, same_page, swap_tests}
use Rattle.vm_base.specs.Keys.{is_page}
use Rattle.vm_base.specs.declared.ids.PageKey.{PageKey}
use Rattle.std.specs.Option.{option_map_or}
use Rattle.sms_pages.specs.Directory.{Directory}
use Rattle.vm_base.specs.declared.ids.ObjectId.{ObjectId}
use Rattle.vm_model.specs.declared.event.Event.{Event}
use Rattle.vm_sets.specs.Places.{KeepsPlaces, Marks, PlaceTable, Touches, all_marks, has_mark, known_of, place_in}
use Rattle.vm_sets.specs.declared.group_key.GroupKey.{GroupKey}
use Rattle.vm_sets.specs.declared.page_places.Group.{Group}
use Rattle.vm_sets.specs.declared.page_places.ObjectPages.{ObjectPages}
use Rattle.sms_server.specs.Kept.{ArePlaced, IsKept, IsMarked, IsRowAt, IsRowOf, IsSpare, StandsThere, TakesMark, is_page_at, is_quiet}
use Rattle.sms_server.specs.Table.{row_among}
use Rattle.sms_server.specs.declared.page_row.PageRow.{PageRow}

-- a list with another row at one index

pub get_set_same : (rows : List PageRow) (i : ℕ) (y : PageRow) → i < length rows → slice_get (set rows i y) i ≡ Some y
get_set_same [] i y within = absurd (omega arith)
get_set_same (x ∷ xs) zero y within = refl
get_set_same (x ∷ xs) (suc i) y within = get_set_same xs i y (omega arith)

pub get_set_other : (rows : List PageRow) (i k : ℕ) (y : PageRow) → (k ≡ i → ⊥) → slice_get (set rows i y) k ≡ slice_get rows k
get_set_other [] zero k y other = refl
get_set_other [] (suc i) k y other = refl
get_set_other (x ∷ xs) zero zero y other = absurd (other refl)
get_set_other (x ∷ xs) zero (suc k) y other = refl
get_set_other (x ∷ xs) (suc i) zero y other = refl
get_set_other (x ∷ xs) (suc i) (suc k) y other = get_set_other xs i k y (λ e. other (ap suc e))

pub set_itself : (rows : List PageRow) (i : ℕ) (x : PageRow) → slice_get rows i ≡ Some x → set rows i x ≡ rows
set_itself [] i x is = absurd (none-some x is)
set_itself (y ∷ ys) zero x is = ap (λ (z : PageRow). z ∷ ys) (sym (same_Some y x is))
set_itself (y ∷ ys) (suc i) x is = ap (λ (l : List PageRow). y ∷ l) (set_itself ys i x is)

-- what holds of each place holds with a row at one of them
pub each_set : (P : ℕ → Option PageRow → Type 0) (rows : List PageRow) (i : ℕ) (y : PageRow) → i < length rows → P i (Some y)
    → ((k : ℕ) → (k ≡ i → ⊥) → P k (slice_get rows k)) → (k : ℕ) → P k (slice_get (set rows i y) k)
each_set P rows i y within own each k = elim (ℕ_discrete k i) [
  | yes e ↦ subst (λ (n : ℕ). P n (slice_get (set rows i y) n)) (sym e) (subst (P i) (sym (get_set_same rows i y within)) own)
  | no e ↦ subst (P k) (sym (get_set_other rows i k y e)) (each k e)
]

-- a list with a further row

pub get_pushed_same : (rows : List PageRow) (y : PageRow) → slice_get (rows ++ y ∷ []) (length rows) ≡ Some y
get_pushed_same [] y = refl
get_pushed_same (x ∷ xs) y = get_pushed_same xs y

pub get_pushed_other : (rows : List PageRow) (k : ℕ) (y : PageRow) → (k ≡ length rows → ⊥) → slice_get (rows ++ y ∷ []) k ≡ slice_get rows k
get_pushed_other [] zero y other = absurd (other refl)
get_pushed_other [] (suc k) y other = refl
get_pushed_other (x ∷ xs) zero y other = refl
get_pushed_other (x ∷ xs) (suc k) y other = get_pushed_other xs k y (λ e. other (ap suc e))

pub each_pushed : (P : ℕ → Option PageRow → Type 0) (rows : List PageRow) (y : PageRow) → P (length rows) (Some y)
    → ((k : ℕ) → (k ≡ length rows → ⊥) → P k (slice_get rows k)) → (k : ℕ) → P k (slice_get (rows ++ y ∷ []) k)
each_pushed P rows y own each k = elim (ℕ_discrete k (length rows)) [
  | yes e ↦ subst (λ (n : ℕ). P n (slice_get (rows ++ y ∷ []) n)) (sym e) (subst (P (length rows)) (sym (get_pushed_same rows y)) own)
  | no e ↦ subst (P k) (sym (get_pushed_other rows k y e)) (each k e)
]

-- no two rows are of one page
abbrev pub AreApart : List PageRow → Type 0
AreApart rows = (i j : ℕ) (x y : PageRow) → slice_get rows i ≡ Some x → slice_get rows j ≡ Some y → x.key.object.0 ≡ y.key.object.0
    → x.key.page.0 ≡ y.key.page.0 → i ≡ j

stands_at : (places : PlaceTable) (rows : List PageRow) (i : ℕ) (x : PageRow) → ArePlaced places rows → slice_get rows i ≡ Some x
    → place_in places x.key.object.0 x.key.page.0 ≡ Some i
stands_at places rows i x placed is = subst (StandsThere places i) is (placed.stand i)

pub are_apart : (places : PlaceTable) (rows : List PageRow) → ArePlaced places rows → AreApart rows
are_apart places rows placed i j x y one two object page =
    let first = stands_at places rows i x placed one in
    let second = stands_at places rows j y placed two in
    let same : place_in places x.key.object.0 x.key.page.0 ≡ Some j = rw (object, page) second in
    same_Some i j (sym first ∙ same)

apart_rest : (y : PageRow) (ys : List PageRow) → AreApart (y ∷ ys) → AreApart ys
apart_rest y ys apart i j a b one two object page = let e = apart (suc i) (suc j) a b one two object page in omega arith

-- a row of another page
apart_head : (y : PageRow) (ys : List PageRow) (i : ℕ) (x : PageRow) (o p : ℕ) → AreApart (y ∷ ys) → slice_get ys i ≡ Some x → is_page x.key o p ≡ true
    → is_page y.key o p ≡ false
apart_head y ys i x o p apart is here =
    ⊎_elim
    (λ (there : is_page y.key o p ≡ true).
    let one = page_read x.key o p here in
    let two = page_read y.key o p there in
    let e = apart 0 (suc i) y x refl is (two.object ∙ sym one.object) (two.page ∙ sym one.page) in
    absurd (omega arith))
    (λ (no_page : is_page y.key o p ≡ false). no_page)
    (cases_Bool (is_page y.key o p))

-- a page's row is the one that stands somewhere
pub among_at : (i : ℕ) (x : PageRow) (rows : List PageRow) → AreApart rows → slice_get rows i ≡ Some x → row_among x.key.object.0 x.key.page.0 rows ≡ Some x
among_at i x [] apart is = absurd (none-some x is)
among_at zero x (y ∷ ys) apart is = let e = same_Some y x is in rw e (rw (itself x.key) refl)
among_at (suc i) x (y ∷ ys) apart is =
    rw (apart_head y ys i x x.key.object.0 x.key.page.0 apart is (itself x.key)) (among_at i x ys (apart_rest y ys apart) is)

pub row_set : (i o p : ℕ) (x new : PageRow) (rows : List PageRow) → AreApart rows → slice_get rows i ≡ Some x → x.key ≡ new.key
    → row_among o p (set rows i new) ≡ (if is_page new.key o p then Some new else row_among o p rows)
row_set i o p x new [] apart is same = absurd (none-some x is)
row_set zero o p x new (y ∷ ys) apart is same =
    let read : is_page y.key o p ≡ is_page new.key o p = ap (λ (key : PageKey). is_page key o p) (ap (λ (z : PageRow). z.key) (same_Some y x is) ∙ same) in
    ⊎_elim (λ (here : is_page new.key o p ≡ true). rw here refl) (λ (other : is_page new.key o p ≡ false). rw (read, other) refl)
    (cases_Bool (is_page new.key o p))
row_set (suc i) o p x new (y ∷ ys) apart is same =
    let rest = row_set i o p x new ys (apart_rest y ys apart) is same in
    let differ : is_page new.key o p ≡ true → is_page y.key o p ≡ false = λ here. apart_head y ys i x o p apart is
    (ap (λ (key : PageKey). is_page key o p) same ∙ here) in
    rw rest (by (is_page y.key o p) (is_page new.key o p) differ)
  where
    by : (a b : Bool) → (b ≡ true → a ≡ false)
        → (if a then Some y else (if b then Some new else row_among o p ys)) ≡ (if b then Some new else (if a then Some y else row_among o p ys))
    by true true differ = absurd (false≢true (sym (differ refl)))
    by true false differ = refl
    by false true differ = refl
    by false false differ = refl

-- a page of which no row is has none
pub none_among : (o p : ℕ) (rows : List PageRow) → ((i : ℕ) (x : PageRow) → slice_get rows i ≡ Some x → is_page x.key o p ≡ false) → row_among o p rows ≡ None
none_among o p [] none = refl
none_among o p (x ∷ xs) none = rw (none 0 x refl) (none_among o p xs (λ i y is. none (suc i) y is))

pub row_pushed : (o p : ℕ) (new : PageRow) (rows : List PageRow) → row_among new.key.object.0 new.key.page.0 rows ≡ None
    → row_among o p (rows ++ new ∷ []) ≡ (if is_page new.key o p then Some new else row_among o p rows)
row_pushed o p new [] absent = refl
row_pushed o p new (x ∷ xs) absent =
    let apart : is_page x.key new.key.object.0 new.key.page.0 ≡ false = ⊎_elim
    (λ (here : is_page x.key new.key.object.0 new.key.page.0 ≡ true). absurd (none-some x (sym (rw here at absent))))
    (λ (no_page : is_page x.key new.key.object.0 new.key.page.0 ≡ false). no_page)
    (cases_Bool (is_page x.key new.key.object.0 new.key.page.0)) in
    let rest = row_pushed o p new xs (rw apart at absent) in
    let differ : is_page x.key o p ≡ true → is_page new.key o p ≡ false = λ here.
    let one = page_read x.key o p here in
    ⊎_elim
    (λ (there : is_page new.key o p ≡ true).
    let two = page_read new.key o p there in
    let same = same_page x.key new.key.object.0 new.key.page.0 (one.object ∙ sym two.object) (one.page ∙ sym two.page) in
    absurd (false≢true (sym apart ∙ same.here)))
    (λ (no_page : is_page new.key o p ≡ false). no_page)
    (cases_Bool (is_page new.key o p)) in
    rw rest (swap_tests (is_page x.key o p) (is_page new.key o p) (Some x) (Some new) (row_among o p xs) differ)

-- the row to which a page's place leads

pub row_there : (o p i : ℕ) (r : Option PageRow) → IsRowOf o p r → (x : PageRow) × (r ≡ Some x) × (x.key.object.0 ≡ o) × (x.key.page.0 ≡ p)
row_there o p i None none = absurd none
row_there o p i (Some x) is = (x, refl, is.0, is.1)

same_key : (a b : PageKey) → a.object.0 ≡ b.object.0 → a.page.0 ≡ b.page.0 → a ≡ b
same_key a b one two = ap (λ n. let k : PageKey = record { object = record { 0 = n }; page = a.page } in k) one
    ∙ ap (λ n. let k : PageKey = record { object = b.object; page = record { 0 = n } } in k) two

pub found : (places : PlaceTable) (rows : List PageRow) (key : PageKey) (i : ℕ) → ArePlaced places rows
    → place_in places key.object.0 key.page.0 ≡ Some i → IsRowAt key i rows
found places rows key i placed is =
    let there = row_there key.object.0 key.page.0 i (slice_get rows i) (placed.leads key.object.0 key.page.0 i is) in
    record { row = there.0; at = there.1; key_is = same_key there.0.key key there.2 there.3 }

-- a row of the page that stands somewhere
pub stands_row : (rows : List PageRow) (key : PageKey) (i : ℕ) → is_page_at key.object.0 key.page.0 (slice_get rows i) ≡ true → IsRowAt key i rows
stands_row rows key i here = by (slice_get rows i) refl here
  where
    by : (r : Option PageRow) → slice_get rows i ≡ r → is_page_at key.object.0 key.page.0 r ≡ true → IsRowAt key i rows
    by None is here = absurd (false≢true here)
    by (Some x) is here = let read = page_read x.key key.object.0 key.page.0 here in record { row = x; at = is; key_is = same_key x.key key read.object read.page }

-- and a page without a place has no row
pub not_found : (places : PlaceTable) (rows : List PageRow) (o p : ℕ) → ArePlaced places rows → place_in places o p ≡ None → row_among o p rows ≡ None
not_found places rows o p placed none = none_among o p rows (λ i x is.
    ⊎_elim
    (λ (here : is_page x.key o p ≡ true).
    let read = page_read x.key o p here in
    let stood : place_in places o p ≡ Some i = rw (read.object, read.page) at (stands_at places rows i x placed is) in
    absurd (none-some i (sym none ∙ stood)))
    (λ (apart : is_page x.key o p ≡ false). apart)
    (cases_Bool (is_page x.key o p)))

-- a page that has a row has a place
pub no_place : (places : PlaceTable) (rows : List PageRow) (o p : ℕ) → ArePlaced places rows → row_among o p rows ≡ None → place_in places o p ≡ None
no_place places rows o p placed none = by (place_in places o p) refl
  where
    by : (place : Option ℕ) → place_in places o p ≡ place → place ≡ None
    by None is = refl
    by (Some i) is =
        let there = row_there o p i (slice_get rows i) (placed.leads o p i is) in
        let among = among_at i there.0 rows (are_apart places rows placed) there.1 in
        let same : row_among o p rows ≡ Some there.0 = rw (there.2, there.3) at among in
        absurd (none-some there.0 (sym none ∙ same))

-- a row that is changed, or whose marks are

pub placed_step : (places left : PlaceTable) (rows : List PageRow) (i : ℕ) (x y : PageRow) → ArePlaced places rows → slice_get rows i ≡ Some x
    → y.key ≡ x.key → KeepsPlaces places left
    → ((k o p : ℕ) → k ≤ all_marks → is_page x.key o p ≡ false → has_mark left k o p ≡ has_mark places k o p)
    → ((k : ℕ) → k ≤ all_marks → has_mark left k x.key.object.0 x.key.page.0 ≡ false → is_quiet k y.directory ≡ true)
    → ArePlaced left (set rows i y)
placed_step places left rows i x y placed is key kept others own = record {
  leads = λ o p k stood.
      each_set (λ k r. place_in left o p ≡ Some k → IsRowOf o p r) rows i y within
      (λ stood. subst (λ (z : PageKey). (z.object.0 ≡ o) × (z.page.0 ≡ p)) (sym key)
      (subst (IsRowOf o p) is (placed.leads o p i (sym (kept.places o p) ∙ stood))))
      (λ k apart stood. placed.leads o p k (sym (kept.places o p) ∙ stood))
      k stood;
  stand =
      each_set (StandsThere left) rows i y within
      (subst (λ (z : PageKey). place_in left z.object.0 z.page.0 ≡ Some i) (sym key)
      (kept.places x.key.object.0 x.key.page.0 ∙ stands_at places rows i x placed is))
      (λ k apart. stays k (slice_get rows k) (placed.stand k));
  marked = λ k mark le.
      each_set (λ k r. IsMarked left mark r) rows i y within
      (subst (λ (z : PageKey). has_mark left mark z.object.0 z.page.0 ≡ false → is_quiet mark y.directory ≡ true) (sym key) (own mark le))
      (λ k apart. other k mark le apart (slice_get rows k) refl (placed.marked k mark le))
      k;
} where
  within : i < length rows
  within = slice_get_within rows i x is

  stays : (k : ℕ) (r : Option PageRow) → StandsThere places k r → StandsThere left k r
  stays k None stood = tt
  stays k (Some z) stood = kept.places z.key.object.0 z.key.page.0 ∙ stood

  other : (k mark : ℕ) → mark ≤ all_marks → (k ≡ i → ⊥) → (r : Option PageRow) → slice_get rows k ≡ r → IsMarked places mark r → IsMarked left mark r
  other k mark le apart None at marked = tt
  other k mark le apart (Some z) at marked = λ unmarked.
      let differ : is_page x.key z.key.object.0 z.key.page.0 ≡ false = ⊎_elim
      (λ (here : is_page x.key z.key.object.0 z.key.page.0 ≡ true).
      let read = page_read x.key z.key.object.0 z.key.page.0 here in
      absurd (apart (sym (are_apart places rows placed i k x z is at read.object read.page))))
      (λ (no_page : is_page x.key z.key.object.0 z.key.page.0 ≡ false). no_page)
      (cases_Bool (is_page x.key z.key.object.0 z.key.page.0)) in
      marked (sym (others mark z.key.object.0 z.key.page.0 le differ) ∙ unmarked)

-- a row of a page
pub record IsPageOf (key : PageKey) (x : PageRow) : Type 0 where
  pub object : x.key.object.0 ≡ key.object.0
  pub page : x.key.page.0 ≡ key.page.0

is_page_of : (key : PageKey) (x : PageRow) → IsPageOf key x → (o p : ℕ) → is_page key o p ≡ is_page x.key o p
is_page_of key x of o p = rw (of.object, of.page) refl

-- a row that is as quiet as it was
pub placed_changed : (places : PlaceTable) (rows : List PageRow) (i : ℕ) (x y : PageRow) → ArePlaced places rows → slice_get rows i ≡ Some x
    → y.key ≡ x.key → ((k : ℕ) → is_quiet k y.directory ≡ is_quiet k x.directory) → ArePlaced places (set rows i y)
placed_changed places rows i x y placed is key quiet =
    placed_step places places rows i x y placed is key (record { places = λ o p. refl; objects = refl; spare = refl }) (λ k o p le apart. refl)
    (λ k le unmarked. quiet k ∙ subst (IsMarked places k) is (placed.marked i k le) unmarked)

-- and whose mark is taken off, since it is quiet
pub placed_unmarked : (places left : PlaceTable) (rows : List PageRow) (i : ℕ) (x y : PageRow) (mark : ℕ) (key : PageKey) → ArePlaced places rows
    → slice_get rows i ≡ Some x → y.key ≡ x.key → ((k : ℕ) → is_quiet k y.directory ≡ is_quiet k x.directory) → IsPageOf key x
    → Marks mark key false places left → is_quiet mark x.directory ≡ true → ArePlaced left (set rows i y)
placed_unmarked places left rows i x y mark key placed is same quiet of marks now =
    placed_step places left rows i x y placed is same marks.kept
    (λ k o p le apart. elim (ℕ_discrete k mark) [
      | yes e ↦
          let at = marks.at o p in
          let kept : has_mark left mark o p ≡ has_mark places mark o p = rw (is_page_of key x of o p, apart) at at in
          subst (λ (n : ℕ). has_mark left n o p ≡ has_mark places n o p) (sym e) kept
      | no e ↦ marks.others k o p le e
    ])
    (λ k le unmarked. quiet k ∙ elim (ℕ_discrete k mark) [
      | yes e ↦ ap (λ (n : ℕ). is_quiet n x.directory) e ∙ now
      | no e ↦ subst (IsMarked places k) is (placed.marked i k le) (sym (marks.others k x.key.object.0 x.key.page.0 le e) ∙ unmarked)
    ])

pub keeps : (places left : PlaceTable) → left ≡ places → KeepsPlaces places left
keeps places left is = rw is (record { places = λ o p. refl; objects = refl; spare = refl })

pub placed_taken : (places left : PlaceTable) (rows : List PageRow) (i : ℕ) (x y : PageRow) (mark : ℕ) (key : PageKey) (b : Bool) → ArePlaced places rows
    → slice_get rows i ≡ Some x → y.key ≡ x.key → ((k : ℕ) → is_quiet k y.directory ≡ is_quiet k x.directory) → IsPageOf key x
    → TakesMark b mark key places left → (b ≡ true → is_quiet mark x.directory ≡ true) → ArePlaced left (set rows i y) × KeepsPlaces places left
placed_taken places left rows i x y mark key true placed is same quiet of takes now =
    (placed_unmarked places left rows i x y mark key placed is same quiet of takes (now refl), takes.kept)
placed_taken places left rows i x y mark key false placed is same quiet of takes now =
    (subst (λ (t : PlaceTable). ArePlaced t (set rows i y)) (sym takes) (placed_changed places rows i x y placed is same quiet), keeps places left takes)

-- or that has all marks now
pub placed_touched : (places left : PlaceTable) (rows : List PageRow) (i : ℕ) (x y : PageRow) (key : PageKey) → ArePlaced places rows
    → slice_get rows i ≡ Some x → y.key ≡ x.key → IsPageOf key x → Touches key places left → ArePlaced left (set rows i y)
placed_touched places left rows i x y key placed is same of touches =
    placed_step places left rows i x y placed is same touches.kept
    (λ k o p le apart. rw (is_page_of key x of o p, apart) at (touches.marks k o p le))
    (λ k le unmarked. let marked = rw (is_page_of key x of x.key.object.0 x.key.page.0, itself x.key) at (touches.marks k x.key.object.0 x.key.page.0 le) in
    absurd (false≢true (sym unmarked ∙ marked)))

-- room for further pages is made
pub placed_reserved : (places left : PlaceTable) (rows : List PageRow) → left.groups ≡ places.groups → ArePlaced places rows → ArePlaced left rows
placed_reserved places left rows same placed =
    let table : PlaceTable = record { groups = places.groups; objects = left.objects; spare = left.spare } in
    let p : ArePlaced table rows = record { leads = placed.leads; stand = placed.stand; marked = placed.marked } in
    subst (λ (groups : List (GroupKey × Group)). ArePlaced (record { groups = groups; objects = left.objects; spare = left.spare }) rows) (sym same) p

pub kept_reserved : (size : ℕ) (rows now : List PageRow) (places left : PlaceTable) (spare after : Option Directory) (events : List Event)
    → IsKept size rows places spare events → now ≡ rows → left.groups ≡ places.groups → left.objects ≡ places.objects → IsSpare size after
    → IsKept size now left after events
kept_reserved size rows now places left spare after events kept same groups objects new =
    rw same (record {
      placed = placed_reserved places left rows groups kept.placed;
      counted = λ o. ap (λ (known : List (ObjectId × ObjectPages)). option_map_or (λ (k : ObjectPages). k.pages) (known_of o known) 0) objects ∙ kept.counted o;
      whole = kept.whole;
      new = new;
      none = kept.none;
    })
