-- Pages go to the inactive list one by one or at once, and second chances are given one by one or at once.
use Rattle.std.proofs.Common.{ℕ, ◌≡◌, ◌+◌, ◌<◌, ◌≤◌, ◌==◌, ◌||◌, Bool, true, false, List, [], ◌∷◌, ◌++◌, drop, length, map, take, refl, sym, ◌∙◌, ap, Some, None, arith}
use Rattle.std.proofs.lemmas.Bool.Decides.{nat_tests}
use Rattle.std.proofs.lemmas.List.{append-nil, append_assoc, drop-append-le, drop-drop, drop-take, length-append, length-drop, length-map, length-take-le}
use Rattle.std.proofs.lemmas.List.{map-append, take-append-drop, take-append-le, take-take}
use Rattle.std.specs.Prelude.{if◌then◌else◌}
use Rattle.vm_base.specs.declared.ids.FrameNo.{FrameNo}
use Rattle.vm_queues.specs.Kept.{front_referenced}
use Rattle.vm_queues.specs.Queues.{Page, Queues, balanced, cleared, first_left, first_unskipped, from_unreferenced, has_page, is_skipped, needs_none}
use Rattle.vm_queues.specs.Queues.{one_spared, referenced_front}
use Rattle.vm_queues.specs.Queues.{shortage, spared, with_deactivated}

abbrev pub queues : List Page → List Page → ℕ → Queues
queues a i n = record { active = a; inactive = i; frames = n }

pub same_queues : (a b i j : List Page) (m n : ℕ) → a ≡ b → i ≡ j → m ≡ n → queues a i m ≡ queues b j n
same_queues a b i j m n e f g = λ k. queues (e k) (f k) (g k)

take_two : (k n : ℕ) (xs : List Page) → take k xs ++ take n (drop k xs) ≡ take (k + n) xs
take_two k n xs =
    ap (λ z. z ++ take n (drop k xs)) (sym (take-take k (k + n) xs (omega arith)))
    ∙ ap (λ z. take k (take (k + n) xs) ++ z) (sym (drop-take k n xs))
    ∙ take-append-drop k (take (k + n) xs)

-- what is lacking when some pages have moved
short_moved : (k : ℕ) (a i : List Page) (n : ℕ) → k ≤ shortage (queues a i n) → k ≤ length a
    → shortage (queues a i n) ≡ k + shortage (with_deactivated k (queues a i n))
short_moved k a i n few there =
    let left = length-drop k a in
    let more = length-append i (map cleared (take k a)) in
    let went = length-map (take k a) cleared in
    let count = length-take-le k a there in
    omega (arith, left, more, went, count)

pub short_fits : (a i : List Page) (n : ℕ) → shortage (queues a i n) ≤ length a
short_fits a i n = omega arith

pub balanced_moved : (k : ℕ) (a i : List Page) (n : ℕ) → k ≤ shortage (queues a i n) → k ≤ length a
    → balanced (with_deactivated k (queues a i n)) ≡ balanced (queues a i n)
balanced_moved k a i n few there =
    let short = short_moved k a i n few there in
    let left = shortage (with_deactivated k (queues a i n)) in
    let gone = map-append cleared (take k a) (take left (drop k a)) in
    same_queues _ _ _ _ _ _
    (drop-drop left k a ∙ ap (λ z. drop z a) (sym short))
    (append_assoc i (map cleared (take k a)) (map cleared (take left (drop k a)))
    ∙ ap (λ z. i ++ z) (sym gone ∙ ap (map cleared) (take_two k left a ∙ ap (λ z. take z a) (sym short))))
    refl

pub balanced_one : (q : Queues) → 0 < shortage q → balanced (with_deactivated 1 q) ≡ balanced q
balanced_one q some = balanced_moved 1 q.active q.inactive q.frames (omega (arith, some)) (omega (arith, some, short_fits q.active q.inactive q.frames))

pub short_one : (q : Queues) → 0 < shortage q → shortage (with_deactivated 1 q) < shortage q
short_one q some =
    omega (arith, some, short_moved 1 q.active q.inactive q.frames (omega (arith, some)) (omega (arith, some, short_fits q.active q.inactive q.frames)))

pub balanced_done : (q : Queues) → needs_none q → balanced q ≡ q
balanced_done q none =
    same_queues _ _ _ _ _ _
    (ap (λ z. drop z q.active) none)
    (ap (λ z. q.inactive ++ map cleared (take z q.active)) none ∙ append-nil q.inactive)
    refl

pub front_stays : (xs ys : List Page) → referenced_front (xs ++ map cleared ys) ≡ referenced_front xs
front_stays [] [] = refl
front_stays [] (y ∷ ys) = refl
front_stays (x ∷ xs) ys = rw (front_stays xs ys) refl

rest_cons : (test : Bool) (x : Page) (xs ys : List Page) → x.referenced ≡ test
    → from_unreferenced (xs ++ map cleared ys) ≡ from_unreferenced xs ++ map cleared ys
    → from_unreferenced (x ∷ xs ++ map cleared ys) ≡ from_unreferenced (x ∷ xs) ++ map cleared ys
rest_cons true x xs ys is rest = rw is rest
rest_cons false x xs ys is rest = rw is refl

rest_grows : (xs ys : List Page) → from_unreferenced (xs ++ map cleared ys) ≡ from_unreferenced xs ++ map cleared ys
rest_grows [] [] = refl
rest_grows [] (y ∷ ys) = refl
rest_grows (x ∷ xs) ys = rest_cons x.referenced x xs ys refl (rest_grows xs ys)

pub count_front : (xs : List Page) → length (referenced_front xs) + length (from_unreferenced xs) ≡ length xs
count_front [] = refl
count_front (x ∷ xs) = let rest = count_front xs in grind (arith, nat_tests)

-- one second chance more, and then the others
step_pages : (p : Page) (a i : List Page) (n : ℕ) → p.referenced ≡ true → spared (balanced (one_spared (queues a (p ∷ i) n))) ≡ spared (queues a (p ∷ i) n)
step_pages p a i n is =
    let z = a ++ cleared p ∷ [] in
    let front = map cleared (referenced_front i) in
    let rest = from_unreferenced i in
    let k = shortage (queues z i n) in
    let count = count_front i in
    let joined = length-append z front in
    let marks = length-map (referenced_front i) cleared in
    let fits : k ≤ length z = short_fits z i n in
    let within : k ≤ length (z ++ front) = omega (arith, joined, fits) in
    let few : k ≤ shortage (queues (z ++ front) rest n) = omega (arith, joined, marks, count) in
    let gone = map cleared (take k z) in
    let back : map cleared (referenced_front (i ++ gone)) ≡ front = ap (map cleared) (front_stays i (take k z)) in
    let behind : from_unreferenced (i ++ gone) ≡ rest ++ gone = rest_grows i (take k z) in
    let split : queues (drop k z ++ map cleared (referenced_front (i ++ gone))) (from_unreferenced (i ++ gone)) n ≡ with_deactivated k
    (queues (z ++ front) rest n)
    = same_queues _ _ _ _ _ _
    (ap (λ w. drop k z ++ w) back ∙ sym (drop-append-le k z front fits))
    (behind ∙ ap (λ w. rest ++ map cleared w) (sym (take-append-le k z front fits)))
    refl in
    let whole : queues (z ++ front) rest n ≡ queues (a ++ map cleared (referenced_front (p ∷ i))) (from_unreferenced (p ∷ i)) n
    = rw is (same_queues _ _ _ _ _ _ (append_assoc a (cleared p ∷ []) front) refl refl) in
    ap balanced split ∙ balanced_moved k (z ++ front) rest n few within ∙ ap balanced whole

step : (a i : List Page) (n : ℕ) → front_referenced (queues a i n) ≡ true → spared (balanced (one_spared (queues a i n))) ≡ spared (queues a i n)
step a [] n is = absurd (cc)
step a (p ∷ i) n is = step_pages p a i n is

pub spared_step : (q : Queues) → front_referenced q ≡ true → spared (balanced (one_spared q)) ≡ spared q
spared_step q is = step q.active q.inactive q.frames is

fewer : (a i : List Page) (n : ℕ) → front_referenced (queues a i n) ≡ true
    → length (referenced_front (balanced (one_spared (queues a i n))).inactive) < length (referenced_front i)
fewer a [] n is = absurd (cc)
fewer a (p ∷ i) n is =
    let z = a ++ cleared p ∷ [] in
    let same = ap length (front_stays i (take (shortage (queues z i n)) z)) in
    rw is (omega (arith, same))

pub spared_fewer : (q : Queues) → front_referenced q ≡ true
    → length (referenced_front (balanced (one_spared q)).inactive) < length (referenced_front q.inactive)
spared_fewer q is = fewer q.active q.inactive q.frames is

done : (a i : List Page) (n : ℕ) → front_referenced (queues a i n) ≡ false → needs_none (queues a i n) → spared (queues a i n) ≡ queues a i n
done a [] n is none = ap balanced (same_queues (a ++ []) a [] [] n n (append-nil a) refl refl) ∙ balanced_done (queues a [] n) none
done a (p ∷ i) n is none =
    let front : referenced_front (p ∷ i) ≡ [] = ap (λ (b : Bool). if b then p ∷ referenced_front i else []) is in
    let rest : from_unreferenced (p ∷ i) ≡ p ∷ i = ap (λ (b : Bool). if b then from_unreferenced i else p ∷ i) is in
    ap balanced (same_queues _ _ _ _ n n (ap (λ z. a ++ map cleared z) front ∙ append-nil a) rest refl) ∙ balanced_done (queues a (p ∷ i) n) none

pub spared_done : (q : Queues) → front_referenced q ≡ false → needs_none q → spared q ≡ q
spared_done q is none = done q.active q.inactive q.frames is none

pub none_needed : (q : Queues) → needs_none (balanced q)
none_needed q = omega (arith, short_moved (shortage q) q.active q.inactive q.frames (omega arith) (short_fits q.active q.inactive q.frames))

pub first_some : (spares : ℕ → Bool) (xs ys : List Page) (f : FrameNo) → first_left spares xs ≡ Some f → first_left spares (xs ++ ys) ≡ Some f
first_some spares [] ys f is = absurd (cc)
first_some spares (x ∷ xs) ys f is = by (spares x.frame) (first_some spares xs ys f) is
  where
    by : (b : Bool) → (first_left spares xs ≡ Some f → first_left spares (xs ++ ys) ≡ Some f)
        → (if b then first_left spares xs else Some (record { 0 = x.frame })) ≡ Some f
        → (if b then first_left spares (xs ++ ys) else Some (record { 0 = x.frame })) ≡ Some f
    by true rest is = rest is
    by false rest is = is

pub first_none : (spares : ℕ → Bool) (xs ys : List Page) → first_left spares xs ≡ None → first_left spares (xs ++ ys) ≡ first_left spares ys
first_none spares [] ys is = refl
first_none spares (x ∷ xs) ys is = by (spares x.frame) (first_none spares xs ys) is
  where
    by : (b : Bool) → (first_left spares xs ≡ None → first_left spares (xs ++ ys) ≡ first_left spares ys)
        → (if b then first_left spares xs else Some (record { 0 = x.frame })) ≡ None
        → (if b then first_left spares (xs ++ ys) else Some (record { 0 = x.frame })) ≡ first_left spares ys
    by true rest is = rest is
    by false rest is = absurd (let bad : Some (record { 0 = x.frame }) ≡ None = is in cc)

pub first_picked : (spares : ℕ → Bool) (p : Page) (ps : List Page) → spares p.frame ≡ false → first_left spares (p ∷ ps) ≡ Some (record { 0 = p.frame })
first_picked spares p ps is = rw is refl

pub first_spared : (spares : ℕ → Bool) (p : Page) (ps : List Page) → spares p.frame ≡ true → first_left spares (p ∷ ps) ≡ first_left spares ps
first_spared spares p ps is = rw is refl

-- frames of a list alone are skipped
pub first_skipped : (skip : List FrameNo) (spares : ℕ → Bool) (pages : List Page) → ((f : ℕ) → has_page pages f ≡ true → is_skipped skip f ≡ spares f)
    → first_left spares pages ≡ first_unskipped skip pages
first_skipped skip spares [] same = refl
first_skipped skip spares (page ∷ pages) same =
    ap (λ b. if b then first_left spares pages else Some (record { 0 = page.frame })) (sym (same page.frame (first_has page.frame (has_page pages page.frame))))
    ∙ ap (λ z. if is_skipped skip page.frame then z else Some (record { 0 = page.frame }))
    (first_skipped skip spares pages (λ f there. same f (later_has (page.frame == f) (has_page pages f) there)))
  where
    first_has : (f : ℕ) (b : Bool) → ((f == f) || b) ≡ true
    first_has f b = grind (arith, nat_tests)

    later_has : (a b : Bool) → b ≡ true → (a || b) ≡ true
    later_has true b is = refl
    later_has false b is = is
