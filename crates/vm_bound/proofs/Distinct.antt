-- Sums over places of what many want: each place counts once for each who wants it, and the places of one page stand in one chain.
use Rattle.std.proofs.Common.{ℕ, zero, suc, ◌≤◌, ◌≡◌, ◌+◌, ◌*◌, Bool, true, false, Option, Some, None, arith, refl}
use Rattle.std.proofs.lemmas.Bool.Decides.{nat_tests}
use Rattle.std.specs.Prelude.{◌==◌, ◌&&◌, ◌||◌, if◌then◌else◌}
use Rattle.vm_bound.specs.Accesses.{chain_has, depth_below}
use Rattle.vm_bound.specs.Lines.{sum_below}
use Rattle.vm_model.specs.Local.{is_on}
use Rattle.vm_model.specs.Regions.{Backing}

-- Sums over numbers.

pub sum_lower : (n : ℕ) (f g : ℕ → ℕ) → ((i : ℕ) → f i ≤ g i) → sum_below n f ≤ sum_below n g
sum_lower zero f g each = omega arith
sum_lower (suc n) f g each = let one = each n in let rest = sum_lower n f g each in omega (arith, one, rest)

pub sum_both : (n : ℕ) (f g : ℕ → ℕ) → sum_below n (λ i. f i + g i) ≡ sum_below n f + sum_below n g
sum_both zero f g = omega arith
sum_both (suc n) f g = let rest = sum_both n f g in omega (arith, rest)

pub sum_none : (n : ℕ) (f : ℕ → ℕ) → ((i : ℕ) → f i ≤ 0) → sum_below n f ≤ 0
sum_none zero f each = omega arith
sum_none (suc n) f each = let one = each n in let rest = sum_none n f each in omega (arith, one, rest)

-- the numbers below one but a single one weigh nothing
past_it : (n k w : ℕ) (f : ℕ → ℕ) → ((i : ℕ) → f i ≤ (if k == i then w else 0)) → n ≤ k → sum_below n f ≤ 0
past_it zero k w f each le = omega arith
past_it (suc n) k w f each le =
    let rest = past_it n k w f each (omega (arith, le)) in
    let other : (k == n) ≡ false = grind (arith, nat_tests, le) in
    by (k == n) other (each n) rest
  where
    by : (b : Bool) → b ≡ false → f n ≤ (if b then w else 0) → sum_below n f ≤ 0 → f n + sum_below n f ≤ 0
    by true e one rest = absurd (cc)
    by false e one rest = omega (arith, one, rest)

pub sum_single : (n k w : ℕ) (f : ℕ → ℕ) → ((i : ℕ) → f i ≤ (if k == i then w else 0)) → sum_below n f ≤ w
sum_single zero k w f each = omega arith
sum_single (suc n) k w f each = by (k == n) refl (each n) (sum_single n k w f each)
  where
    by : (b : Bool) → (k == n) ≡ b → f n ≤ (if b then w else 0) → sum_below n f ≤ w → f n + sum_below n f ≤ w
    by true is one rest =
        let same : k ≡ n = grind (arith, nat_tests) in
        let none = past_it n k w f each (omega (arith, same)) in
        omega (arith, one, none)
    by false is one rest = omega (arith, one, rest)

-- Sums over the places of some hosts: so many hosts, so many objects, of each its pages.

abbrev pub weigh : Bool → ℕ → ℕ
weigh b w = if b then w else 0

abbrev pub pages_sum : ℕ → (ℕ → ℕ) → (ℕ → ℕ → ℕ) → ℕ
pages_sum objects pages weight = sum_below objects (λ o. sum_below (pages o) (λ p. weight o p))

abbrev pub places_sum : ℕ → ℕ → (ℕ → ℕ) → (ℕ → ℕ → ℕ → ℕ) → ℕ
places_sum hosts objects pages weight = sum_below hosts (λ h. pages_sum objects pages (λ o p. weight h o p))

pub pages_lower : (objects : ℕ) (pages : ℕ → ℕ) (f g : ℕ → ℕ → ℕ) → ((o p : ℕ) → f o p ≤ g o p) → pages_sum objects pages f ≤ pages_sum objects pages g
pages_lower objects pages f g each =
    sum_lower objects (λ o. sum_below (pages o) (λ p. f o p)) (λ o. sum_below (pages o) (λ p. g o p))
    (λ o. sum_lower (pages o) (λ p. f o p) (λ p. g o p) (λ p. each o p))

pub places_lower : (hosts objects : ℕ) (pages : ℕ → ℕ) (f g : ℕ → ℕ → ℕ → ℕ) → ((h o p : ℕ) → f h o p ≤ g h o p)
    → places_sum hosts objects pages f ≤ places_sum hosts objects pages g
places_lower hosts objects pages f g each =
    sum_lower hosts (λ h. pages_sum objects pages (f h)) (λ h. pages_sum objects pages (g h)) (λ h. pages_lower objects pages (f h) (g h) (each h))

pub pages_both : (objects : ℕ) (pages : ℕ → ℕ) (f g : ℕ → ℕ → ℕ)
    → pages_sum objects pages (λ o p. f o p + g o p) ≡ pages_sum objects pages f + pages_sum objects pages g
pages_both zero pages f g = omega arith
pages_both (suc n) pages f g =
    let one = sum_both (pages n) (λ p. f n p) (λ p. g n p) in
    let rest = pages_both n pages f g in
    omega (arith, one, rest)

pub places_both : (hosts objects : ℕ) (pages : ℕ → ℕ) (f g : ℕ → ℕ → ℕ → ℕ)
    → places_sum hosts objects pages (λ h o p. f h o p + g h o p) ≡ places_sum hosts objects pages f + places_sum hosts objects pages g
places_both zero objects pages f g = omega arith
places_both (suc n) objects pages f g =
    let one = pages_both objects pages (λ o p. f n o p) (λ o p. g n o p) in
    let rest = places_both n objects pages f g in
    omega (arith, one, rest)

pub pages_none : (objects : ℕ) (pages : ℕ → ℕ) (f : ℕ → ℕ → ℕ) → ((o p : ℕ) → f o p ≤ 0) → pages_sum objects pages f ≤ 0
pages_none objects pages f each =
    sum_none objects (λ o. sum_below (pages o) (λ p. f o p)) (λ o. sum_none (pages o) (λ p. f o p) (λ p. each o p))

pub places_none : (hosts objects : ℕ) (pages : ℕ → ℕ) (f : ℕ → ℕ → ℕ → ℕ) → ((h o p : ℕ) → f h o p ≤ 0) → places_sum hosts objects pages f ≤ 0
places_none hosts objects pages f each =
    sum_none hosts (λ h. pages_sum objects pages (f h)) (λ h. pages_none objects pages (f h) (each h))

-- what some want at each place, summed over the places, is what each of them wants there
pub places_swapped : (n hosts objects : ℕ) (pages : ℕ → ℕ) (f : ℕ → ℕ → ℕ → ℕ → ℕ)
    → places_sum hosts objects pages (λ h o p. sum_below n (λ i. f i h o p)) ≤ sum_below n (λ i. places_sum hosts objects pages (f i))
places_swapped zero hosts objects pages f = places_none hosts objects pages (λ h o p. 0) (λ h o p. omega arith)
places_swapped (suc n) hosts objects pages f =
    let parts = places_both hosts objects pages (f n) (λ h o p. sum_below n (λ i. f i h o p)) in
    let rest = places_swapped n hosts objects pages f in
    omega (arith, parts, rest)

-- One place, one host, one chain.

pub one_page : (objects : ℕ) (pages : ℕ → ℕ) (top top_page w : ℕ)
    → pages_sum objects pages (λ o p. weigh (top == o && top_page == p) w) ≤ w
one_page objects pages top top_page w =
    sum_single objects top w (λ o. sum_below (pages o) (λ p. weigh (top == o && top_page == p) w)) (λ o. by o (top == o))
  where
    by : (o : ℕ) (b : Bool) → sum_below (pages o) (λ p. weigh (b && top_page == p) w) ≤ (if b then w else 0)
    by o true = sum_single (pages o) top_page w (λ p. weigh (top_page == p) w) (λ p. itself (weigh (top_page == p) w))
      where
        itself : (k : ℕ) → k ≤ k
        itself k = omega arith
    by o false = sum_none (pages o) (λ p. 0) (λ p. omega arith)

-- whoever lives on one host wants no more than there
pub one_host : (hosts objects : ℕ) (pages : ℕ → ℕ) (host : Option ℕ) (f : ℕ → ℕ → Bool) (w most : ℕ)
    → pages_sum objects pages (λ o p. weigh (f o p) w) ≤ most
    → places_sum hosts objects pages (λ h o p. weigh (is_on h host && f o p) w) ≤ most
one_host hosts objects pages None f w most le =
    let none = places_none hosts objects pages (λ h o p. 0) (λ h o p. omega arith) in omega (arith, none)
one_host hosts objects pages (Some own) f w most le =
    sum_single hosts own most (λ h. pages_sum objects pages (λ o p. weigh (own == h && f o p) w)) (λ h. by (own == h))
  where
    by : (b : Bool) → pages_sum objects pages (λ o p. weigh (b && f o p) w) ≤ (if b then most else 0)
    by true = le
    by false = pages_none objects pages (λ o p. 0) (λ o p. omega arith)

either : (a b : Bool) (w : ℕ) → weigh (a || b) w ≤ weigh a w + weigh b w
either true b w = omega arith
either false b w = omega arith

-- the places of a chain are one more than the objects below its first
pub one_chain : (objects : ℕ) (pages : ℕ → ℕ) (backings : ℕ → Backing) (n top top_page : ℕ)
    → pages_sum objects pages (λ o p. weigh (chain_has backings n top top_page o p) 2) ≤ 2 * suc (depth_below backings n top)
one_chain objects pages backings zero top top_page =
    let none = pages_none objects pages (λ o p. 0) (λ o p. omega arith) in omega (arith, none)
one_chain objects pages backings (suc n) top top_page =
    by (backings top).backed (one_chain objects pages backings n (backings top).under ((backings top).shift + top_page))
  where
    below : ℕ → ℕ → Bool
    below o p = chain_has backings n (backings top).under ((backings top).shift + top_page) o p

    by : (b : Bool) → pages_sum objects pages (λ o p. weigh (below o p) 2) ≤ 2 * suc (depth_below backings n (backings top).under)
        → pages_sum objects pages (λ o p. weigh ((top == o && top_page == p) || (b && below o p)) 2)
        ≤ 2 * suc (if b then suc (depth_below backings n (backings top).under) else 0)
    by true le =
        let parts = pages_lower objects pages (λ o p. weigh ((top == o && top_page == p) || below o p) 2)
        (λ o p. weigh (top == o && top_page == p) 2 + weigh (below o p) 2) (λ o p. either (top == o && top_page == p) (below o p) 2) in
        let each = pages_both objects pages (λ o p. weigh (top == o && top_page == p) 2) (λ o p. weigh (below o p) 2) in
        let one = one_page objects pages top top_page 2 in
        omega (arith, parts, each, one, le)
    by false le =
        let parts = pages_lower objects pages (λ o p. weigh ((top == o && top_page == p) || false) 2)
        (λ o p. weigh (top == o && top_page == p) 2) (λ o p. alone (top == o && top_page == p)) in
        let one = one_page objects pages top top_page 2 in
        omega (arith, parts, one)
      where
        alone : (a : Bool) → weigh (a || false) 2 ≤ weigh a 2
        alone true = omega arith
        alone false = omega arith
