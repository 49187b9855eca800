-- Those who wait for unlocks under a lock request are woken, page by page.
use Rattle.vm_kernel.proofs.Common.{Bool, List, None, On, Option, PageKey, Some, Waiting, [], ap, arith, false, if◌then◌else◌, refl, some_is, sym, true}
use Rattle.vm_kernel.proofs.Common.{woken_page, ℕ, ◌+◌, ◌<◌, ◌∙◌, ◌∷◌, ◌≡◌, ◌≤◌}
use Rattle.std.specs.Prelude.{map, ◌&&◌, ◌==◌}
use Rattle.std.proofs.Common.{inl, inr}
use Rattle.std.proofs.lemmas.Bool.Decides.{eqb_tells}
use Rattle.vm_resident.specs.Resident.{page_key}
use Rattle.vm_kernel.proofs.memory.PagesShown.{itself}
use Rattle.vm_kernel.specs.Taking.{PageWaitedFor, is_unlocked, page_awaited}
use Rattle.vm_resident.specs.Resident.{ResidentTable}
use Rattle.vm_waits.specs.Waits.{count_rows, oldest_row, one, with_on, woken}
use Rattle.vm_waits.specs.declared.waiting.On.TheVariants as on

-- a test that passes whoever waits for the word of a page, and nobody who is to be run again
pub record IsOfPages (test : On → Bool) (key : PageKey) : Type 0 where
  pub page : test (on.Page key) ≡ true
  pub push : test (on.Push key) ≡ true
  pub again : test on.Again ≡ false

told_key : (a b : PageKey) → (a.object.0 == b.object.0 && a.page.0 == b.page.0) ≡ true → a ≡ b
told_key a b is = elim (eqb_tells a.object.0 b.object.0) [
  | inl one ↦ elim (eqb_tells a.page.0 b.page.0) [
    | inl two ↦ λ i. page_key (one.1 i) (two.1 i)
    | inr apart ↦ absurd (let bad : false ≡ true = rw (one.0, apart.0) at is in cc)
  ]
  | inr apart ↦ absurd (let bad : false ≡ true = rw apart.0 at is in cc)
]

-- whoever waits for the word of the page passes it
passes_it : (test : On → Bool) (key : PageKey) → IsOfPages test key → (reason : On) → woken_page key reason ≡ true → test reason ≡ true
passes_it test key of on.Again is = absurd (let bad : false ≡ true = is in cc)
passes_it test key of (on.Ready object) is = absurd (let bad : false ≡ true = is in cc)
passes_it test key of (on.Page other) is = ap (λ z. test (on.Page z)) (told_key other key is) ∙ of.page
passes_it test key of (on.Push other) is = ap (λ z. test (on.Push z)) (told_key other key is) ∙ of.push
passes_it test key of on.Frame is = absurd (let bad : false ≡ true = is in cc)

-- whom it passes is woken anyway
woken_twice : (test : On → Bool) (key : PageKey) → IsOfPages test key → (w : Waiting) → woken test (woken (woken_page key) w) ≡ woken test w
woken_twice test key of w = by (woken_page key w.on) refl
  where
    by : (b : Bool) → woken_page key w.on ≡ b → woken test (if b then with_on w on.Again else w) ≡ woken test w
    by false other = refl
    by true same =
        ap (λ (b : Bool). if b then with_on w on.Again else with_on w on.Again) of.again
        ∙ sym (ap (λ (b : Bool). if b then with_on w on.Again else w) (passes_it test key of w.on same))

pub map_twice : (test : On → Bool) (key : PageKey) → IsOfPages test key → (rows : List Waiting)
    → map (woken test) (map (woken (woken_page key)) rows) ≡ map (woken test) rows
map_twice test key of [] = refl
map_twice test key of (w ∷ ws) =
    ap (λ z. z ∷ map (woken test) (map (woken (woken_page key)) ws)) (woken_twice test key of w) ∙ ap (λ z. woken test w ∷ z) (map_twice test key of ws)

-- fewer pass it then

passes_less : (test : On → Bool) (key : PageKey) → IsOfPages test key → (w : Waiting) → one (test (woken (woken_page key) w).on) ≤ one (test w.on)
passes_less test key of w = by (woken_page key w.on)
  where
    least : (b : Bool) → 0 ≤ one b
    least b = omega arith

    by : (b : Bool) → one (test (if b then with_on w on.Again else w).on) ≤ one (test w.on)
    by false = omega arith
    by true = let none : one (test on.Again) ≡ 0 = ap one of.again in omega (arith, none, least (test w.on))

count_most : (test : On → Bool) (key : PageKey) → IsOfPages test key → (rows : List Waiting)
    → count_rows test (map (woken (woken_page key)) rows) ≤ count_rows test rows
count_most test key of [] = omega arith
count_most test key of (w ∷ ws) =
    let first = passes_less test key of w in
    let rest = count_most test key of ws in
    omega (arith, first, rest)

pub count_less : (test : On → Bool) (key : PageKey) → IsOfPages test key → (rows : List Waiting) (w : Waiting) → oldest_row test rows ≡ Some w
    → woken_page key w.on ≡ true → count_rows test (map (woken (woken_page key)) rows) < count_rows test rows
count_less test key of [] w is waits = absurd (let bad : None ≡ Some w = is in cc)
count_less test key of (x ∷ xs) w is waits = by (test x.on) refl is (λ later. count_less test key of xs w later waits)
  where
    woken_now : woken_page key x.on ≡ true → one (test (woken (woken_page key) x).on) ≡ 0
    woken_now page = ap (λ (b : Bool). one (test (if b then with_on x on.Again else x).on)) page ∙ ap one of.again

    by : (b : Bool) → test x.on ≡ b → (if b then Some x else oldest_row test xs) ≡ Some w
        → (oldest_row test xs ≡ Some w → count_rows test (map (woken (woken_page key)) xs) < count_rows test xs)
        → one (test (woken (woken_page key) x).on) + count_rows test (map (woken (woken_page key)) xs) < one (test x.on) + count_rows test xs
    by true passes now rest =
        let same : x ≡ w = some_is x w now in
        let gone = woken_now (ap (λ (z : Waiting). woken_page key z.on) same ∙ waits) in
        let had : one (test x.on) ≡ 1 = ap one passes in
        let most = count_most test key of xs in
        omega (arith, gone, had, most)
    by false fails later rest =
        let first = passes_less test key of x in
        let less = rest later in
        omega (arith, first, less)

-- who passes the test of a lock request waits for the word of a page

pub itself_page : (key : PageKey) → (key.object.0 == key.object.0 && key.page.0 == key.page.0) ≡ true
itself_page key = rw (itself key.object.0, itself key.page.0) refl

unlocked_page : (rs : ResidentTable) (object page count : ℕ) (reason : On) (key : PageKey) → is_unlocked rs object page count reason ≡ true
    → Some key ≡ page_awaited reason → (woken_page key reason ≡ true) × IsOfPages (is_unlocked rs object page count) key
unlocked_page rs object page count (on.Page other) key is same =
    let it = some_is other key (sym same) in
    let passes = ap (λ z. is_unlocked rs object page count (on.Page z)) (sym it) ∙ is in (
      ap (λ z. woken_page key (on.Page z)) it ∙ itself_page key,
      record { page = passes; push = passes; again = refl },
    )
unlocked_page rs object page count (on.Push other) key is same =
    let it = some_is other key (sym same) in
    let passes = ap (λ z. is_unlocked rs object page count (on.Push z)) (sym it) ∙ is in (
      ap (λ z. woken_page key (on.Push z)) it ∙ itself_page key,
      record { page = passes; push = passes; again = refl },
    )
unlocked_page rs object page count on.Again key is same = absurd (let bad : false ≡ true = is in cc)
unlocked_page rs object page count (on.Ready other) key is same = absurd (let bad : false ≡ true = is in cc)
unlocked_page rs object page count on.Frame key is same = absurd (let bad : false ≡ true = is in cc)

oldest_passes : (test : On → Bool) (rows : List Waiting) (w : Waiting) → oldest_row test rows ≡ Some w → test w.on ≡ true
oldest_passes test [] w is = absurd (let bad : None ≡ Some w = is in cc)
oldest_passes test (x ∷ xs) w is = by (test x.on) refl is (λ later. oldest_passes test xs w later)
  where
    by : (b : Bool) → test x.on ≡ b → (if b then Some x else oldest_row test xs) ≡ Some w → (oldest_row test xs ≡ Some w → test w.on ≡ true) → test w.on ≡ true
    by true passes now rest = ap (λ (z : Waiting). test z.on) (sym (some_is x w now)) ∙ passes
    by false fails later rest = rest later

-- the oldest that passes
pub record IsOldest (rs : ResidentTable) (object page count : ℕ) (rows : List Waiting) (key : PageKey) : Type 0 where
  pub row : Waiting
  pub is : oldest_row (is_unlocked rs object page count) rows ≡ Some row
  pub waits : woken_page key row.on ≡ true
  pub of : IsOfPages (is_unlocked rs object page count) key

pub oldest_is : (rs : ResidentTable) (object page count : ℕ) (rows : List Waiting) (key : PageKey)
    → PageWaitedFor (Some key) (oldest_row (is_unlocked rs object page count) rows) → IsOldest rs object page count rows key
oldest_is rs object page count rows key waits = by (oldest_row (is_unlocked rs object page count) rows) refl waits
  where
    by : (x : Option Waiting) → oldest_row (is_unlocked rs object page count) rows ≡ x → PageWaitedFor (Some key) x → IsOldest rs object page count rows key
    by None is none = absurd (let bad : Some key ≡ None = none in cc)
    by (Some w) is same =
        let passes = oldest_passes (is_unlocked rs object page count) rows w is in
        let page_is = unlocked_page rs object page count w.on key passes same in
        record { row = w; is = is; waits = page_is.0; of = page_is.1 }

-- nobody passes any more
pub none_passes : (rs : ResidentTable) (object page count : ℕ) (rows : List Waiting) → PageWaitedFor None (oldest_row (is_unlocked rs object page count) rows)
    → map (woken (is_unlocked rs object page count)) rows ≡ rows
none_passes rs object page count rows waits = by (oldest_row (is_unlocked rs object page count) rows) refl waits
  where
    test : On → Bool
    test = is_unlocked rs object page count

    stays : (ws : List Waiting) → oldest_row test ws ≡ None → map (woken test) ws ≡ ws
    stays [] none = refl
    stays (w ∷ ws) none = first (test w.on) refl none (λ later. stays ws later)
      where
        first : (b : Bool) → test w.on ≡ b → (if b then Some w else oldest_row test ws) ≡ None → (oldest_row test ws ≡ None → map (woken test) ws ≡ ws)
            → woken test w ∷ map (woken test) ws ≡ w ∷ ws
        first true passes bad rest = absurd (let no : Some w ≡ None = bad in cc)
        first false fails later rest = ap (λ (b : Bool). (if b then with_on w on.Again else w) ∷ map (woken test) ws) fails ∙ ap (λ z. w ∷ z) (rest later)

    waited : (w : Waiting) → test w.on ≡ true → None ≡ page_awaited w.on → map (woken test) rows ≡ rows
    waited w passes none = by_reason w.on passes none
      where
        by_reason : (reason : On) → test reason ≡ true → None ≡ page_awaited reason → map (woken test) rows ≡ rows
        by_reason (on.Page key) is bad = absurd (let no : None ≡ Some key = bad in cc)
        by_reason (on.Push key) is bad = absurd (let no : None ≡ Some key = bad in cc)
        by_reason on.Again is bad = absurd (let no : false ≡ true = is in cc)
        by_reason (on.Ready other) is bad = absurd (let no : false ≡ true = is in cc)
        by_reason on.Frame is bad = absurd (let no : false ≡ true = is in cc)

    by : (x : Option Waiting) → oldest_row test rows ≡ x → PageWaitedFor None x → map (woken test) rows ≡ rows
    by None is none = stays rows is
    by (Some w) is none = waited w (oldest_passes test rows w is) none
