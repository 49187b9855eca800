-- Frames that stand on a list once each, and the pages in them.
use Rattle.std.proofs.Common.{ℕ, zero, suc, ◌≡◌, ◌≢◌, ◌<◌, ◌≤◌, ◌==◌, ◌||◌, Bool, true, false, List, [], ◌∷◌, ◌++◌, length, get_or, set, map, refl, ap, arith}
use Rattle.std.proofs.Common.{◌∙◌}
use Rattle.std.proofs.lemmas.Bool.Decides.{nat_tests}
use Rattle.std.proofs.lemmas.List.{get_or-set_other}
use Rattle.vm_base.specs.declared.ids.FrameNo.{FrameNo}
use Rattle.vm_queues.specs.Queues.{EachOnce, has_page, is_skipped, marked, pages_except}
use Rattle.vm_queues.specs.Kept.{FramesAreApart, pages, without_frame}

pub skipped_append : (xs ys : List FrameNo) (f : ℕ) → is_skipped (xs ++ ys) f ≡ (is_skipped xs f || is_skipped ys f)
skipped_append [] ys f = refl
skipped_append (x ∷ xs) ys f = let rest = skipped_append xs ys f in grind (arith, nat_tests)

pub none_left : (xs ys : List FrameNo) (f : ℕ) → is_skipped (xs ++ ys) f ≡ false → is_skipped xs f ≡ false
none_left xs ys f none = let append = skipped_append xs ys f in grind (arith, nat_tests)

pub none_right : (xs ys : List FrameNo) (f : ℕ) → is_skipped (xs ++ ys) f ≡ false → is_skipped ys f ≡ false
none_right xs ys f none = let append = skipped_append xs ys f in grind (arith, nat_tests)

pub apart_push : (n : ℕ) (fs : List FrameNo) (f : FrameNo) → FramesAreApart n fs → f.0 < n → is_skipped fs f.0 ≡ false → FramesAreApart n (fs ++ f ∷ [])
apart_push n [] f apart less new = (less, refl, tt)
apart_push n (g ∷ fs) f apart less new =
    let others : is_skipped fs f.0 ≡ false = grind (arith, nat_tests) in
    let append = skipped_append fs (f ∷ []) g.0 in
    let once = apart.1 in
    let both : is_skipped (fs ++ f ∷ []) g.0 ≡ false = grind (arith, nat_tests) in
    (apart.0, both, apart_push n fs f apart.2 less others)

pub apart_left : (n : ℕ) (xs ys : List FrameNo) → FramesAreApart n (xs ++ ys) → FramesAreApart n xs
apart_left n [] ys apart = tt
apart_left n (x ∷ xs) ys apart =
    let append = skipped_append xs ys x.0 in
    let once = apart.1 in
    (apart.0, grind (arith, nat_tests), apart_left n xs ys apart.2)

pub apart_right : (n : ℕ) (xs ys : List FrameNo) → FramesAreApart n (xs ++ ys) → FramesAreApart n ys
apart_right n [] ys apart = apart
apart_right n (x ∷ xs) ys apart = apart_right n xs ys apart.2

pub disjoint : (n : ℕ) (xs ys : List FrameNo) (f : ℕ) → FramesAreApart n (xs ++ ys) → is_skipped xs f ≡ true → is_skipped ys f ≡ false
disjoint n [] ys f apart there = absurd (cc)
disjoint n (x ∷ xs) ys f apart there =
    let append = skipped_append xs ys x.0 in
    let once = apart.1 in
    let rest : is_skipped xs f ≡ true → is_skipped ys f ≡ false = λ there. disjoint n xs ys f apart.2 there in
    grind (arith, nat_tests)

-- a frame among others, none of which is the same
pub record Stands (n f : ℕ) (left right : List FrameNo) : Type 0 where
  pub inside : f < n
  pub front : is_skipped left f ≡ false
  pub behind : is_skipped right f ≡ false

pub stands : (n : ℕ) (left : List FrameNo) (f : FrameNo) (right : List FrameNo) → FramesAreApart n (left ++ f ∷ right) → Stands n f.0 left right
stands n [] f right apart = record { inside = apart.0; front = refl; behind = apart.1 }
stands n (g ∷ left) f right apart =
    let rest = stands n left f right apart.2 in
    let append = skipped_append left (f ∷ right) g.0 in
    let once = apart.1 in
    let front = rest.front in
    record { inside = rest.inside; front = grind (arith, nat_tests); behind = rest.behind }

pub inside : (n : ℕ) (fs : List FrameNo) (f : ℕ) → FramesAreApart n fs → is_skipped fs f ≡ true → f < n
inside n [] f apart there = absurd (cc)
inside n (g ∷ fs) f apart there =
    let less = apart.0 in
    let rest : is_skipped fs f ≡ true → f < n = λ there. inside n fs f apart.2 there in
    grind (arith, nat_tests)

pub without_none : (f : ℕ) (fs : List FrameNo) → is_skipped fs f ≡ false → without_frame f fs ≡ fs
without_none f [] none = refl
without_none f (g ∷ fs) none =
    let others : is_skipped fs f ≡ false = grind (arith, nat_tests) in
    let no : (g.0 == f) ≡ false = grind (arith, nat_tests) in
    rw no (ap (λ rest. g ∷ rest) (without_none f fs others))

pub still_none : (f g : ℕ) (fs : List FrameNo) → is_skipped fs g ≡ false → is_skipped (without_frame f fs) g ≡ false
still_none f g [] none = refl
still_none f g (x ∷ fs) none =
    let others : is_skipped fs g ≡ false = grind (arith, nat_tests) in
    let rest = still_none f g fs others in
    grind (arith, nat_tests)

apart_cons : (test : Bool) (n f : ℕ) (g : FrameNo) (fs : List FrameNo) → (g.0 == f) ≡ test → g.0 < n → is_skipped fs g.0 ≡ false
    → FramesAreApart n (without_frame f fs) → FramesAreApart n (without_frame f (g ∷ fs))
apart_cons true n f g fs is less once rest = rw is rest
apart_cons false n f g fs is less once rest = rw is (less, still_none f g.0 fs once, rest)

pub apart_without : (n f : ℕ) (fs : List FrameNo) → FramesAreApart n fs → FramesAreApart n (without_frame f fs)
apart_without n f [] apart = tt
apart_without n f (g ∷ fs) apart = apart_cons (g.0 == f) n f g fs refl apart.0 apart.1 (apart_without n f fs apart.2)

below_cons : (test : Bool) (n : ℕ) (g : FrameNo) (fs : List FrameNo) → (g.0 == n) ≡ test → g.0 < suc n → is_skipped fs g.0 ≡ false
    → FramesAreApart n (without_frame n fs) → FramesAreApart n (without_frame n (g ∷ fs))
below_cons true n g fs is less once rest = rw is rest
below_cons false n g fs is less once rest =
    let lower : g.0 < n = grind (arith, nat_tests) in
    rw is (lower, still_none n g.0 fs once, rest)

below_without : (n : ℕ) (fs : List FrameNo) → FramesAreApart (suc n) fs → FramesAreApart n (without_frame n fs)
below_without n [] apart = tt
below_without n (g ∷ fs) apart = below_cons (g.0 == n) n g fs refl apart.0 apart.1 (below_without n fs apart.2)

length_cons : (test : Bool) (n f : ℕ) (g : FrameNo) (fs : List FrameNo) → (g.0 == f) ≡ test → is_skipped fs g.0 ≡ false
    → length fs ≤ suc (length (without_frame f fs)) → length (g ∷ fs) ≤ suc (length (without_frame f (g ∷ fs)))
length_cons true n f g fs is once rest =
    let same : g.0 ≡ f = grind (arith, nat_tests) in
    let all = ap length (without_none f fs (rw same at once)) in
    rw is (omega (arith, all))
length_cons false n f g fs is once rest = rw is (omega (arith, rest))

length_without : (n f : ℕ) (fs : List FrameNo) → FramesAreApart n fs → length fs ≤ suc (length (without_frame f fs))
length_without n f [] apart = omega arith
length_without n f (g ∷ fs) apart = length_cons (g.0 == f) n f g fs refl apart.1 (length_without n f fs apart.2)

-- no more frames than there are numbers
pub apart_fits : (n : ℕ) (fs : List FrameNo) → FramesAreApart n fs → length fs ≤ n
apart_fits n [] apart = omega arith
apart_fits zero (f ∷ fs) apart = absurd (omega (arith, apart.0))
apart_fits (suc n) (f ∷ fs) apart =
    let left = apart_fits n (without_frame n (f ∷ fs)) (below_without n (f ∷ fs) apart) in
    let count = length_without (suc n) n (f ∷ fs) apart in
    omega (arith, left, count)

pub without_append : (f : ℕ) (xs ys : List FrameNo) → without_frame f (xs ++ ys) ≡ without_frame f xs ++ without_frame f ys
without_append f [] ys = refl
without_append f (x ∷ xs) ys = let rest = without_append f xs ys in grind (arith, nat_tests)

-- a frame of a list, with those in front of it and those behind it
pub record Split (f : FrameNo) (fs : List FrameNo) : Type 0 where
  pub left : List FrameNo
  pub right : List FrameNo
  pub is : fs ≡ left ++ f ∷ right

split_cons : (test : Bool) (f g : FrameNo) (fs : List FrameNo) → (g.0 == f.0) ≡ test → is_skipped (g ∷ fs) f.0 ≡ true → (is_skipped fs f.0 ≡ true → Split f fs)
    → Split f (g ∷ fs)
split_cons true f g fs is there rest =
    let same : g.0 ≡ f.0 = grind (arith, nat_tests, is) in
    record { left = []; right = fs; is = ap (λ (n : ℕ). record { 0 = n } ∷ fs) same }
split_cons false f g fs is there rest =
    let behind = rest (rw is at there) in
    record { left = g ∷ behind.left; right = behind.right; is = ap (λ z. g ∷ z) behind.is }

pub split : (f : FrameNo) (fs : List FrameNo) → is_skipped fs f.0 ≡ true → Split f fs
split f [] there = absurd (cc)
split f (g ∷ fs) there = split_cons (g.0 == f.0) f g fs refl there (split f fs)

pub same_number : (a : ℕ) → (a == a) ≡ true
same_number a = grind (arith, nat_tests)

pub without_first : (f : FrameNo) (fs : List FrameNo) → is_skipped fs f.0 ≡ false → without_frame f.0 (f ∷ fs) ≡ fs
without_first f fs none = rw (same_number f.0) (without_none f.0 fs none)

pub without_one : (n : ℕ) (xs : List FrameNo) (f : FrameNo) (ys : List FrameNo) → FramesAreApart n (xs ++ f ∷ ys) → without_frame f.0 (xs ++ f ∷ ys) ≡ xs ++ ys
without_one n xs f ys apart =
    let stand = stands n xs f ys apart in
    without_append f.0 xs (f ∷ ys) ∙ ap (λ z. z ++ without_frame f.0 (f ∷ ys)) (without_none f.0 xs stand.front)
    ∙ ap (λ z. xs ++ z) (without_first f ys stand.behind)

none_cons : (test : Bool) (f : ℕ) (g : FrameNo) (fs : List FrameNo) → (g.0 == f) ≡ test → is_skipped (without_frame f fs) f ≡ false
    → is_skipped (without_frame f (g ∷ fs)) f ≡ false
none_cons true f g fs is rest = rw is rest
none_cons false f g fs is rest = rw (is, is) rest

pub none_without : (f : ℕ) (fs : List FrameNo) → is_skipped (without_frame f fs) f ≡ false
none_without f [] = refl
none_without f (g ∷ fs) = none_cons (g.0 == f) f g fs refl (none_without f fs)

-- the mark of a frame that is not on the list
pub pages_apart : (marks : List Bool) (f : ℕ) (mark : Bool) (fs : List FrameNo) → is_skipped fs f ≡ false → pages (set marks f mark) fs ≡ pages marks fs
pages_apart marks f mark [] none = refl
pages_apart marks f mark (g ∷ fs) none =
    let other : g.0 ≢ f = grind (arith, nat_tests) in
    let others : is_skipped fs f ≡ false = grind (arith, nat_tests) in
    rw (get_or-set_other marks f g.0 mark false other, pages_apart marks f mark fs others) refl

mark_set : (marks : List Bool) (f other : ℕ) → f < length marks → get_or (set marks f true) other false ≡ ((other == f) || get_or marks other false)
mark_set [] f other inside = absurd (omega arith)
mark_set (x ∷ marks) zero zero inside = grind (arith, nat_tests)
mark_set (x ∷ marks) zero (suc other) inside = grind (arith, nat_tests)
mark_set (x ∷ marks) (suc f) zero inside = grind (arith, nat_tests)
mark_set (x ∷ marks) (suc f) (suc other) inside = let rest = mark_set marks f other (omega arith) in grind (arith, nat_tests)

pub pages_marked : (marks : List Bool) (f : ℕ) (fs : List FrameNo) → f < length marks → pages (set marks f true) fs ≡ map (marked f) (pages marks fs)
pages_marked marks f [] inside = refl
pages_marked marks f (g ∷ fs) inside = rw (mark_set marks f g.0 inside, pages_marked marks f fs inside) refl

pages_cons : (test : Bool) (marks : List Bool) (f : ℕ) (g : FrameNo) (fs : List FrameNo) → (g.0 == f) ≡ test
    → pages marks (without_frame f fs) ≡ pages_except f (pages marks fs) → pages marks (without_frame f (g ∷ fs)) ≡ pages_except f (pages marks (g ∷ fs))
pages_cons true marks f g fs is rest = rw is rest
pages_cons false marks f g fs is rest = rw (is, rest) refl

pub pages_without : (marks : List Bool) (f : ℕ) (fs : List FrameNo) → pages marks (without_frame f fs) ≡ pages_except f (pages marks fs)
pages_without marks f [] = refl
pages_without marks f (g ∷ fs) = pages_cons (g.0 == f) marks f g fs refl (pages_without marks f fs)

pub has_pages : (marks : List Bool) (f : ℕ) (fs : List FrameNo) → has_page (pages marks fs) f ≡ is_skipped fs f
has_pages marks f [] = refl
has_pages marks f (g ∷ fs) = let rest = has_pages marks f fs in rw rest refl

-- so each page stands there once
pub pages_once : (n : ℕ) (marks : List Bool) (fs : List FrameNo) → FramesAreApart n fs → EachOnce (pages marks fs)
pages_once n marks [] apart = tt
pages_once n marks (f ∷ fs) apart = (has_pages marks f.0 fs ∙ apart.1, pages_once n marks fs apart.2)
