-- Lists of places in which each stands once: one more, and one less.
use Rattle.std.proofs.Common.{ℕ, suc, ◌≡◌, List, [], ◌∷◌, length, Bool, true, false, refl, sym, ap, ◌∙◌, arith, if◌then◌else◌}
use Rattle.std.proofs.lemmas.Bool.Decides.{nat_tests}
use Rattle.std.specs.Prelude.{◌==◌, ◌&&◌, ◌+◌, ◌-◌, ◌≤◌}
use Rattle.vm_model.specs.Local.{Place}
use Rattle.vm_quiet.specs.Places.{times}
use Rattle.vm_quiet.proofs.Letters.{never}

abbrev pub one_if : Bool → ℕ
one_if true = 1
one_if false = 0

-- so many places have U: each of them stands once in a list, and no other does
pub record Held (U : ℕ → ℕ → Bool) (n : ℕ) : Type 0 where
  pub places : List Place
  pub each : (o p : ℕ) → times o p places ≡ one_if (U o p)
  pub count : length places ≡ n

-- the test at one place
pub test_there : (U : ℕ → ℕ → Bool) (a b o p : ℕ) → (a == o && b == p) ≡ true → U o p ≡ U a b
test_there U a b o p is = ap (λ x. U x p) (sym (object_is a b o p is)) ∙ ap (λ x. U a x) (sym (page_is a b o p is))
  where
    object_is : (a b o p : ℕ) → (a == o && b == p) ≡ true → a ≡ o
    object_is a b o p is = grind (arith, nat_tests)

    page_is : (a b o p : ℕ) → (a == o && b == p) ≡ true → b ≡ p
    page_is a b o p is = grind (arith, nat_tests)

pub own_place : (a b : ℕ) → (a == a && b == b) ≡ true
own_place a b = grind (arith, nat_tests)

pub held_none : (U : ℕ → ℕ → Bool) → ((o p : ℕ) → U o p ≡ false) → Held U 0
held_none U none = record { places = []; each = λ o p. sym (ap one_if (none o p)); count = refl }

pub held_same : (U V : ℕ → ℕ → Bool) (n : ℕ) → ((o p : ℕ) → V o p ≡ U o p) → Held U n → Held V n
held_same U V n same h = record { places = h.places; each = λ o p. h.each o p ∙ sym (ap one_if (same o p)); count = h.count }

pub held_more : (U V : ℕ → ℕ → Bool) (n a b : ℕ) → U a b ≡ false → ((o p : ℕ) → V o p ≡ (if a == o && b == p then true else U o p)) → Held U n → Held V (n + 1)
held_more U V n a b free new h =
    record {
      places = record { object = a; page = b } ∷ h.places;
      each = λ o p. one (a == o && b == p) (times o p h.places) (U o p) (V o p) (λ is. test_there U a b o p is ∙ free) (h.each o p) (new o p);
      count = omega (arith, h.count);
    }
  where
    one : (t : Bool) (k : ℕ) (u v : Bool) → (t ≡ true → u ≡ false) → k ≡ one_if u → v ≡ (if t then true else u) → (if t then suc k else k) ≡ one_if v
    one true k u v free e is = ap (λ x. suc x) (e ∙ ap one_if (free refl)) ∙ sym (ap one_if is)
    one false k u v free e is = e ∙ sym (ap one_if is)

abbrev pub without_place : ℕ → ℕ → List Place → List Place
without_place o p [] = []
without_place o p (place ∷ places) = if place.object == o && place.page == p then places else place ∷ without_place o p places

pub times_without : (a b o p : ℕ) (places : List Place)
    → times o p (without_place a b places) ≡ (if a == o && b == p then times o p places - 1 else times o p places)
times_without a b o p [] = none (a == o && b == p)
  where
    none : (t : Bool) → 0 ≡ (if t then 0 - 1 else 0)
    none true = refl
    none false = refl
times_without a b o p (x ∷ xs) = by (x.object == a && x.page == b) (x.object == o && x.page == p) (a == o && b == p) refl refl refl (times_without a b o p xs)
  where
    apart : (x y a b o p : ℕ) → (x == a && y == b) ≡ false → (x == o && y == p) ≡ true → (a == o && b == p) ≡ true → ⊥
    apart x y a b o p e f g = absurd (grind (arith, nat_tests))

    equal : (x y a b o p : ℕ) → (x == a && y == b) ≡ true → (x == o && y == p) ≡ (a == o && b == p)
    equal x y a b o p e = sym (test_there (λ i j. i == o && j == p) x y a b e)

    hit : (u t : Bool) (k : ℕ) → u ≡ t → k ≡ (if t then (if u then suc k else k) - 1 else (if u then suc k else k))
    hit true true k e = omega arith
    hit false false k e = refl
    hit true false k e = never (sym e)
    hit false true k e = never e

    miss : (u t : Bool) (k w : ℕ) → (u ≡ true → t ≡ true → ⊥) → w ≡ (if t then k - 1 else k)
        → (if u then suc w else w) ≡ (if t then (if u then suc k else k) - 1 else (if u then suc k else k))
    miss true true k w clash e = absurd (clash refl refl)
    miss true false k w clash e = ap (λ x. suc x) e
    miss false true k w clash e = e
    miss false false k w clash e = e

    by : (s u t : Bool) → (x.object == a && x.page == b) ≡ s → (x.object == o && x.page == p) ≡ u → (a == o && b == p) ≡ t
        → times o p (without_place a b xs) ≡ (if a == o && b == p then times o p xs - 1 else times o p xs)
        → times o p (if s then xs else x ∷ without_place a b xs) ≡ (if a == o && b == p then times o p (x ∷ xs) - 1 else times o p (x ∷ xs))
    by true u t e f g more = hit (x.object == o && x.page == p) (a == o && b == p) (times o p xs) (equal x.object x.page a b o p e)
    by false u t e f g more =
        miss (x.object == o && x.page == p) (a == o && b == p) (times o p xs) (times o p (without_place a b xs)) (apart x.object x.page a b o p e) more

pub length_without : (a b : ℕ) (places : List Place) → 1 ≤ times a b places → length (without_place a b places) + 1 ≡ length places
length_without a b [] some = absurd (omega (arith, some))
length_without a b (x ∷ xs) some = by (x.object == a && x.page == b) some (length_without a b xs)
  where
    by : (s : Bool) → 1 ≤ (if s then suc (times a b xs) else times a b xs) → (1 ≤ times a b xs → length (without_place a b xs) + 1 ≡ length xs)
        → length (if s then xs else x ∷ without_place a b xs) + 1 ≡ length (x ∷ xs)
    by true some more = omega arith
    by false some more = omega (arith, more some)

pub held_less : (U V : ℕ → ℕ → Bool) (n a b : ℕ) → U a b ≡ true → ((o p : ℕ) → V o p ≡ (if a == o && b == p then false else U o p)) → Held U n → Held V (n - 1)
held_less U V n a b there new h =
    record {
      places = without_place a b h.places;
      each =
          λ o p. times_without a b o p h.places ∙ one (a == o && b == p) (times o p h.places) (U o p) (V o p) (λ is. test_there U a b o p is ∙ there)
          (h.each o p) (new o p);
      count = omega (arith, length_without a b h.places (omega (arith, h.each a b ∙ ap one_if there)), h.count);
    }
  where
    one : (t : Bool) (k : ℕ) (u v : Bool) → (t ≡ true → u ≡ true) → k ≡ one_if u → v ≡ (if t then false else u) → (if t then k - 1 else k) ≡ one_if v
    one true k u v there e is = ap (λ x. x - 1) (e ∙ ap one_if (there refl)) ∙ sym (ap one_if is)
    one false k u v there e is = e ∙ sym (ap one_if is)

-- some place is held where one has U
pub held_some : (U : ℕ → ℕ → Bool) (n a b : ℕ) → U a b ≡ true → Held U n → 1 ≤ n
held_some U n a b there h = omega (arith, length_without a b h.places (omega (arith, h.each a b ∙ ap one_if there)), h.count)
