-- The places with frames behind a merge: a page of the lower object moves up to the upper's place, or goes.
use Rattle.std.proofs.Common.{◌≡◌, ◌≢◌, ◌∙◌, sym, ap, subst, ℕ, zero, suc, List, true, false, Bool, if◌then◌else◌, arith, refl}
use Rattle.std.proofs.lemmas.Bool.Decides.{nat_tests}
use Rattle.std.specs.Prelude.{◌==◌, ◌&&◌, ◌||◌, ◌+◌, ◌-◌, ◌<◌, ◌≤◌, not, nat_lt}
use Rattle.vm_model.specs.declared.event.Event.{Event}
use Rattle.vm_model.specs.declared.script.Header.{Header}
use Rattle.vm_model.specs.Local.{moves_up}
use Rattle.vm_model.specs.Named.{named}
use Rattle.vm_model.specs.Regions.{backing_of, region_of}
use Rattle.vm_legal.proofs.Below.{below_next}
use Rattle.vm_legal.specs.Frames.{pages_gone}
use Rattle.vm_legal.specs.Merges.{IsPair}
use Rattle.vm_legal.specs.Walks.{Below, Reach}
use Rattle.vm_quiet.proofs.Letters.{never}
use Rattle.vm_quiet.proofs.Places.{Held, held_less, held_more, held_same, held_some}
use Rattle.vm_quiet.proofs.Sane.{IsDeclaredRegion, own_number}

-- page p of the upper object is one of the lower's first k
abbrev pub comes_up : (ℕ → ℕ → Bool) → ℕ → ℕ → ℕ → ℕ → ℕ → Bool
comes_up U lower shift pages k p = nat_lt p pages && (nat_lt (shift + p) k && U lower (shift + p))

abbrev pub place_left : (upper lower was up gone : Bool) → Bool
place_left upper lower was up gone = if upper then was || up else if lower then not gone && was else was

-- what is left when the lower's first k pages are done, of the upper object, the lower or another
abbrev pub left_by : (ℕ → ℕ → Bool) → ℕ → ℕ → ℕ → ℕ → ℕ → ℕ → Bool → Bool → Bool
left_by U lower shift pages k o p upper_it lower_it = place_left upper_it lower_it (U o p) (comes_up U lower shift pages k p) (nat_lt p k)

abbrev pub merged_below : (ℕ → ℕ → Bool) → ℕ → ℕ → ℕ → ℕ → ℕ → ℕ → ℕ → Bool
merged_below U upper lower shift pages k o p = left_by U lower shift pages k o p (upper == o) (lower == o)

pub record IsMerged (U : ℕ → ℕ → Bool) (upper lower shift pages n k : ℕ) : Type 0 where
  pub number : ℕ
  pub held : Held (merged_below U upper lower shift pages k) number
  pub sum : number + pages_gone U upper lower shift pages k ≡ n

-- where nothing is there no test tells anything
no_one : (a b c : Bool) → c ≡ false → (a && c) ≡ (b && c)
no_one true true c is = refl
no_one true false c is = is
no_one false true c is = sym is
no_one false false c is = refl

-- of the lower's pages one more that isn't there changes nothing
none_there : (U : ℕ → ℕ → Bool) (upper lower shift pages k o p : ℕ) → U lower k ≡ false
    → merged_below U upper lower shift pages (suc k) o p ≡ merged_below U upper lower shift pages k o p
none_there U upper lower shift pages k o p none = by (upper == o) (lower == o) refl refl
  where
    up : (t : Bool) → (shift + p == k) ≡ t → comes_up U lower shift pages (suc k) p ≡ comes_up U lower shift pages k p
    up true is =
        let e : shift + p ≡ k = own_number (shift + p) k is in
        let dead : U lower (shift + p) ≡ false = subst (λ (q : ℕ). U lower q ≡ false) (sym e) none in
        ap (λ b. nat_lt p pages && b) (no_one (nat_lt (shift + p) (suc k)) (nat_lt (shift + p) k) (U lower (shift + p)) dead)
    up false is =
        let same : nat_lt (shift + p) (suc k) ≡ nat_lt (shift + p) k = grind (arith, nat_tests) in
        ap (λ b. nat_lt p pages && (b && U lower (shift + p))) same

    low : (t : Bool) → (p == k) ≡ t → (lower == o) ≡ true → (not (nat_lt p (suc k)) && U o p) ≡ (not (nat_lt p k) && U o p)
    low true is here =
        let dead : U o p ≡ false = subst (λ (q : ℕ). U o q ≡ false) (sym (own_number p k is))
        (subst (λ (x : ℕ). U x k ≡ false) (own_number lower o here) none) in
        no_one (not (nat_lt p (suc k))) (not (nat_lt p k)) (U o p) dead
    low false is here =
        let same : nat_lt p (suc k) ≡ nat_lt p k = grind (arith, nat_tests) in
        ap (λ b. not b && U o p) same

    by : (s t : Bool) → (upper == o) ≡ s → (lower == o) ≡ t → left_by U lower shift pages (suc k) o p s t ≡ left_by U lower shift pages k o p s t
    by true t is too = ap (λ b. U o p || b) (up (shift + p == k) refl)
    by false true is too = low (p == k) refl too
    by false false is too = refl

-- the tests of the upper object and of the lower don't both hold
off_lower : (upper lower o : ℕ) → upper ≢ lower → (upper == o) ≡ true → (lower == o) ≡ false
off_lower upper lower o apart is = grind (arith, nat_tests, apart)

-- the lower's page k, done too
gone_there : (U : ℕ → ℕ → Bool) (k o p : ℕ) → (not (nat_lt p (suc k)) && U o p) ≡ (if k == p then false else not (nat_lt p k) && U o p)
gone_there U k o p = by (k == p) refl
  where
    by : (t : Bool) → (k == p) ≡ t → (not (nat_lt p (suc k)) && U o p) ≡ (if t then false else not (nat_lt p k) && U o p)
    by true is = let less : nat_lt p (suc k) ≡ true = grind (arith, nat_tests) in ap (λ b. not b && U o p) less
    by false is = let same : nat_lt p (suc k) ≡ nat_lt p k = grind (arith, nat_tests) in ap (λ b. not b && U o p) same

-- a page that goes: none comes up
goes : (U : ℕ → ℕ → Bool) (upper lower shift pages k o p : ℕ) → upper ≢ lower → moves_up U upper shift pages k ≡ false
    → merged_below U upper lower shift pages (suc k) o p ≡ (if lower == o && k == p then false else merged_below U upper lower shift pages k o p)
goes U upper lower shift pages k o p apart stays = by (upper == o) (lower == o) refl refl
  where
    full : (u i a b : Bool) → (i && not u) ≡ false → (u || (i && a)) ≡ (u || (i && b))
    full true i a b is = refl
    full false false a b is = refl
    full false true a b is = never (sym is)

    up : (t : Bool) → (shift + p == k) ≡ t → (upper == o) ≡ true
        → (U o p || comes_up U lower shift pages (suc k) p) ≡ (U o p || comes_up U lower shift pages k p)
    up true is here =
        let e : shift + p ≡ k = own_number (shift + p) k is in
        let back : k - shift ≡ p = omega (arith, e) in
        let high : nat_lt k shift ≡ false = grind (arith, nat_tests, e) in
        let at_k : (nat_lt (k - shift) pages && not (U upper (k - shift))) ≡ false =
        subst (λ (b : Bool). (not b && (nat_lt (k - shift) pages && not (U upper (k - shift)))) ≡ false) high stays in
        let at_p : (nat_lt p pages && not (U upper p)) ≡ false = subst (λ (q : ℕ). (nat_lt q pages && not (U upper q)) ≡ false) back at_k in
        full (U o p) (nat_lt p pages) (nat_lt (shift + p) (suc k) && U lower (shift + p)) (nat_lt (shift + p) k && U lower (shift + p))
        (subst (λ (x : ℕ). (nat_lt p pages && not (U x p)) ≡ false) (own_number upper o here) at_p)
    up false is here =
        let same : nat_lt (shift + p) (suc k) ≡ nat_lt (shift + p) k = grind (arith, nat_tests) in
        ap (λ b. U o p || (nat_lt p pages && (b && U lower (shift + p)))) same

    by : (s t : Bool) → (upper == o) ≡ s → (lower == o) ≡ t
        → left_by U lower shift pages (suc k) o p s t ≡ (if t && k == p then false else left_by U lower shift pages k o p s t)
    by true true is too = never (sym (off_lower upper lower o apart is) ∙ too)
    by true false is too = up (shift + p == k) refl is
    by false true is too = gone_there U k o p
    by false false is too = refl

-- a page that moves is none below the shift, and goes to a place of the upper that is free
moving : (U : ℕ → ℕ → Bool) (upper shift pages k : ℕ) → moves_up U upper shift pages k ≡ true
    → (nat_lt k shift ≡ false) × (nat_lt (k - shift) pages ≡ true) × (U upper (k - shift) ≡ false)
moving U upper shift pages k does = parts (nat_lt k shift) (nat_lt (k - shift) pages) (U upper (k - shift)) does
  where
    parts : (a b c : Bool) → (not a && (b && not c)) ≡ true → (a ≡ false) × (b ≡ true) × (c ≡ false)
    parts false true false is = (refl, refl, refl)
    parts false true true is = never is
    parts false false c is = never is
    parts true b c is = never is

-- a page that moves: it has gone, and has come
comes : (U : ℕ → ℕ → Bool) (upper lower shift pages k o p : ℕ) → upper ≢ lower → U lower k ≡ true → moves_up U upper shift pages k ≡ true
    → merged_below U upper lower shift pages (suc k) o p
    ≡ (if upper == o && (k - shift) == p then true else if lower == o && k == p then false else merged_below U upper lower shift pages k o p)
comes U upper lower shift pages k o p apart there does = by (upper == o) (lower == o) refl refl
  where
    high : shift ≤ k
    high = high_of (moving U upper shift pages k does).0
      where
        high_of : nat_lt k shift ≡ false → shift ≤ k
        high_of is = grind (arith, nat_tests)

    all : (u a b c : Bool) → a ≡ true → b ≡ true → c ≡ true → (u || (a && (b && c))) ≡ true
    all true a b c is too three = refl
    all false true true true is too three = refl
    all false true true false is too three = three
    all false true false c is too three = too
    all false false b c is too three = is

    up : (t : Bool) → ((k - shift) == p) ≡ t
        → (U o p || comes_up U lower shift pages (suc k) p) ≡ (if t then true else U o p || comes_up U lower shift pages k p)
    up true is =
        let e : k - shift ≡ p = own_number (k - shift) p is in
        let f : shift + p ≡ k = omega (arith, e, high) in
        let two : nat_lt (shift + p) (suc k) ≡ true = grind (arith, nat_tests, f) in
        all (U o p) (nat_lt p pages) (nat_lt (shift + p) (suc k)) (U lower (shift + p))
        (subst (λ (q : ℕ). nat_lt q pages ≡ true) e (moving U upper shift pages k does).1) two
        (subst (λ (q : ℕ). U lower q ≡ true) (sym f) there)
    up false is =
        let same : nat_lt (shift + p) (suc k) ≡ nat_lt (shift + p) k = grind (arith, nat_tests, high) in
        ap (λ b. U o p || (nat_lt p pages && (b && U lower (shift + p)))) same

    by : (s t : Bool) → (upper == o) ≡ s → (lower == o) ≡ t
        → left_by U lower shift pages (suc k) o p s t ≡ (if s && (k - shift) == p then true else if t && k == p then false
        else left_by U lower shift pages k o p s t)
    by true true is too = never (sym (off_lower upper lower o apart is) ∙ too)
    by true false is too = up ((k - shift) == p) refl
    by false true is too = gone_there U k o p
    by false false is too = refl

start : (U : ℕ → ℕ → Bool) (upper lower shift pages o p : ℕ) → merged_below U upper lower shift pages 0 o p ≡ U o p
start U upper lower shift pages o p =
    by (upper == o) (lower == o) (U o p) (nat_lt p pages) (U lower (shift + p)) (nat_lt (shift + p) 0) (nat_lt p 0) (grind (arith, nat_tests))
    (grind (arith, nat_tests))
  where
    by : (s t u a b c d : Bool) → c ≡ false → d ≡ false → place_left s t u (a && (c && b)) d ≡ u
    by true t true a b c d is too = refl
    by true t false true b false d is too = refl
    by true t false false b c d is too = refl
    by true t false true b true d is too = never (sym is)
    by false true u a b c false is too = refl
    by false true u a b c true is too = never (sym too)
    by false false u a b c d is too = refl

-- the upper's place isn't there yet when a page comes up to it
free : (U : ℕ → ℕ → Bool) (upper lower shift pages k : ℕ) → moves_up U upper shift pages k ≡ true
    → merged_below U upper lower shift pages k upper (k - shift) ≡ false
free U upper lower shift pages k does =
    let part = moving U upper shift pages k does in
    by (upper == upper) (lower == upper) (U upper (k - shift)) (nat_lt (k - shift) pages) (nat_lt (shift + (k - shift)) k) (U lower (shift + (k - shift)))
    (nat_lt (k - shift) k) own part.2 (late part.0)
  where
    own : (upper == upper) ≡ true
    own = grind (arith, nat_tests)

    late : nat_lt k shift ≡ false → nat_lt (shift + (k - shift)) k ≡ false
    late is = grind (arith, nat_tests)

    by : (s t u a c b d : Bool) → s ≡ true → u ≡ false → c ≡ false → place_left s t u (a && (c && b)) d ≡ false
    by true t false true false b d is none after = refl
    by true t false false c b d is none after = refl
    by true t false true true b d is none after = never (sym after)
    by true t true a c b d is none after = never (sym none)
    by false t u a c b d is none after = never is

-- the lower's page is there still when it is its turn
stands : (U : ℕ → ℕ → Bool) (upper lower shift pages k : ℕ) → upper ≢ lower → U lower k ≡ true
    → merged_below U upper lower shift pages k lower k ≡ true
stands U upper lower shift pages k apart there =
    by (upper == lower) (lower == lower) (U lower k) (comes_up U lower shift pages k k) (nat_lt k k) (grind (arith, nat_tests, apart))
    (grind (arith, nat_tests))
    there (grind (arith, nat_tests))
  where
    by : (s t u m d : Bool) → s ≡ false → t ≡ true → u ≡ true → d ≡ false → place_left s t u m d ≡ true
    by true t u m d is own here late = never (sym is)
    by false false u m d is own here late = never own
    by false true u m true is own here late = never (sym late)
    by false true u m false is own here late = here

pub held_merged : (U : ℕ → ℕ → Bool) (upper lower shift pages n k : ℕ) → upper ≢ lower → Held U n → IsMerged U upper lower shift pages n k
held_merged U upper lower shift pages n zero apart h =
    record {
      number = n;
      held = held_same U (merged_below U upper lower shift pages 0) n (λ o p. start U upper lower shift pages o p) h;
      sum = omega arith;
    }
held_merged U upper lower shift pages n (suc k) apart h =
    by (U lower k) (moves_up U upper shift pages k) refl refl (held_merged U upper lower shift pages n k apart h)
  where
    was : ℕ → ℕ → Bool
    was = merged_below U upper lower shift pages k

    mid : ℕ → ℕ → Bool
    mid = λ o p. if lower == o && k == p then false else was o p

    vacant : moves_up U upper shift pages k ≡ true → mid upper (k - shift) ≡ false
    vacant does =
        let off : (lower == upper && k == (k - shift)) ≡ false = grind (arith, nat_tests, apart) in
        ap (λ (b : Bool). if b then false else was upper (k - shift)) off ∙ free U upper lower shift pages k does

    counted : (b : Bool) → (U lower k && not (moves_up U upper shift pages k)) ≡ b
        → pages_gone U upper lower shift pages (suc k) ≡ (if b then pages_gone U upper lower shift pages k + 1 else pages_gone U upper lower shift pages k)
    counted b is = ap (λ x. if x then pages_gone U upper lower shift pages k + 1 else pages_gone U upper lower shift pages k) is

    by : (u m : Bool) → U lower k ≡ u → moves_up U upper shift pages k ≡ m → IsMerged U upper lower shift pages n k
        → IsMerged U upper lower shift pages n (suc k)
    by false m there does left =
        record {
          number = left.number;
          held = held_same was (merged_below U upper lower shift pages (suc k)) left.number (λ o p. none_there U upper lower shift pages k o p there) left.held;
          sum = omega (arith, left.sum, counted false (ap (λ b. b && not (moves_up U upper shift pages k)) there));
        }
    by true false there does left =
        let here : was lower k ≡ true = stands U upper lower shift pages k apart there in
        record {
          number = left.number - 1;
          held = held_less was (merged_below U upper lower shift pages (suc k)) left.number lower k here
              (λ o p. goes U upper lower shift pages k o p apart does) left.held;
          sum =
              omega (
                arith,
                left.sum,
                held_some was left.number lower k here left.held,
                counted true (ap (λ b. b && not (moves_up U upper shift pages k)) there
                    ∙ ap (λ b. not b) does),
              );
        }
    by true true there does left =
        let here : was lower k ≡ true = stands U upper lower shift pages k apart there in
        record {
          number = (left.number - 1) + 1;
          held = held_more mid (merged_below U upper lower shift pages (suc k)) (left.number - 1) upper (k - shift) (vacant does)
              (λ o p. comes U upper lower shift pages k o p apart there does) (held_less was mid left.number lower k here (λ o p. refl) left.held);
          sum =
              omega (
                arith,
                left.sum,
                held_some was left.number lower k here left.held,
                counted false (ap (λ b. b && not (moves_up U upper shift pages k)) there
                    ∙ ap (λ b. not b) does),
              );
        }

-- pages that go are counted by what both objects have
pub gone_same : (U V : ℕ → ℕ → Bool) (upper lower shift pages n : ℕ) → ((p : ℕ) → U upper p ≡ V upper p) → ((p : ℕ) → U lower p ≡ V lower p)
    → pages_gone U upper lower shift pages n ≡ pages_gone V upper lower shift pages n
gone_same U V upper lower shift pages zero up low = refl
gone_same U V upper lower shift pages (suc n) up low =
    counted (U lower n && not (moves_up U upper shift pages n)) (V lower n && not (moves_up V upper shift pages n))
    (pages_gone U upper lower shift pages n) (pages_gone V upper lower shift pages n)
    (ap (λ x. x && not (moves_up U upper shift pages n)) (low n)
    ∙ ap (λ x. V lower n && not (not (nat_lt n shift) && (nat_lt (n - shift) pages && not x))) (up (n - shift)))
    (gone_same U V upper lower shift pages n up low)
  where
    counted : (a b : Bool) (m k : ℕ) → a ≡ b → m ≡ k → (if a then m + 1 else m) ≡ (if b then k + 1 else k)
    counted a b m k e f = ap (λ x. if x then m + 1 else m) e ∙ ap (λ x. if b then x + 1 else x) f

-- Two objects of a pair are not the same one: whoever reaches the upper comes from an object that stands on it, or by a region's top.
pub pair_apart : (header : Header) (host upper lower : ℕ) (past : List Event)
    → ((r : ℕ) → r < named header → IsDeclaredRegion r (region_of header r past)) → IsPair header host upper lower past → upper ≢ lower
pair_apart header host upper lower past declared pair same =
    from pair.reached.1 (region_of header pair.reached.0 past).top (pair.reached.0, 0, pair.reached.2, refl)
    (top (nat_lt pair.reached.0 (named header)) refl) pair.reached.3
  where
    less : (a b : ℕ) → nat_lt a b ≡ true → a < b
    less a b is = grind (arith, nat_tests)

    more : (a b : ℕ) → nat_lt a b ≡ false → b ≤ a
    more a b is = grind (arith, nat_tests)

    small : (r a b n : ℕ) → r < n → n ≤ b → a ≡ r → a ≡ b → ⊥
    small r a b n below from e f = absurd (omega (arith, below, from, e, f))

    top : (b : Bool) → nat_lt pair.reached.0 (named header) ≡ b → (region_of header pair.reached.0 past).top ≡ lower → ⊥
    top true below =
        small pair.reached.0 (region_of header pair.reached.0 past).top lower (named header) (less pair.reached.0 (named header) below) pair.temporary
        (declared pair.reached.0 (less pair.reached.0 (named header) below)).top
    top false above = pair.no_top pair.reached.0 (more pair.reached.0 (named header) above) pair.reached.2

    from : (steps o : ℕ) → Reach header host o past → (o ≡ lower → ⊥) → Below (λ k. backing_of header k past) steps o upper → ⊥
    from zero o reach other below = other (below ∙ same)
    from (suc steps) o reach other below =
        from steps (backing_of header o past).under
        (reach.0, suc reach.1, reach.2, below_next (λ k. backing_of header k past) reach.1 (region_of header reach.0 past).top o reach.3 below.0)
        (λ e. other (pair.sole o reach below.0 e ∙ same)) below.1
