-- What holds of one place at every moment.
use Rattle.std.proofs.Common.{◌≡◌, ℕ, ◌+◌, ◌≤◌, List, [], ◌∷◌, ◌++◌, arith, Bool, true, false, Option, Some, None, refl, ap, sym, length, if◌then◌else◌, ◌≢◌}
use Rattle.std.proofs.lemmas.Bool.Decides.{nat_tests}
use Rattle.std.specs.Prelude.{◌⊎◌}
use Rattle.vm_flat.specs.Words.{SpotDownWord, Supplying, Unavailing, Erring, SpotEffect, Creates, Requests, Returns, TakesRequest, TakesReturn, Answers, Takes}
use Rattle.vm_flat.specs.Words.{Zeroes, Raises, Stores, Drops, Moves, Ends, StepEnds, Nothing}
use Rattle.vm_model.specs.Side.{rest}
use Rattle.vm_flat.specs.Spot.{Spot, first_spot, spot_after}
use Rattle.vm_flat.proofs.Allowed.{Passed, MayAnswer, May, content}
use Rattle.vm_flat.proofs.Queues.{requests, returns, behind, latest, requests_ask, requests_return, returns_ask, behind_ask, behind_return, latest_ask}
use Rattle.vm_flat.proofs.Queues.{latest_return, latest_none, Says, Carry, carry_end, carry_rest, carry_none, carry_first, length_end}

abbrev pub count : Bool → ℕ
count true = 1
count false = 0

abbrev pub or_zero : List ℕ → Option (List ℕ) → List ℕ
or_zero z None = z
or_zero z (Some bytes) = bytes

-- what the pager has where it says that there is nothing
abbrev pub nothing : List ℕ → Spot → Option (List ℕ)
nothing z s = if s.file then Some z else None

pub record Sound (z : List ℕ) (s : Spot) : Type 0 where
  pub bound : s.control ≤ 2
  pub not_here : s.asked ≡ true → s.here ≡ false
  pub living : s.asked ≡ true → s.control ≡ 1
  -- the request is on its way, or being answered, or its answer is on its way
  pub one : (requests s.up + count s.step) + length s.down ≤ count s.asked
  -- nothing is returned behind a request
  pub drained : s.asked ≡ true → requests s.up ≡ 0 → returns s.up ≡ 0
  pub in_order : behind s.up ≡ 0
  pub last : latest s.up s.kept ≡ s.returned
  pub coming : Carry (nothing z s) s.returned s.down
  -- what can never have been returned
  pub never : s.file ≡ false → s.control ≡ 0 → s.returned ≡ None
  pub told : s.file ≡ true → s.absent ≡ false
  pub void : s.void ≡ true → s.returned ≡ Some z
  pub void_here : s.void ≡ true → s.here ≡ false
  pub void_file : s.void ≡ true → s.file ≡ true
  pub unknown : s.absent ≡ true → s.returned ≡ None
  -- a clean page is the last return, or zeros
  pub clean : s.here ≡ true → s.dirty ≡ false → s.bytes ≡ or_zero z s.returned

pub keep_creates : (z : List ℕ) (s : Spot) → Sound z s → May z s Creates → Sound z (spot_after z s Creates)
keep_creates z s ok may = grind (arith, nat_tests)

pub keep_requests : (z : List ℕ) (s : Spot) (lives : Bool) → Sound z s → May z s (Requests lives) → Sound z (spot_after z s (Requests lives))
keep_requests z s lives ok may = grind (arith, nat_tests, requests_ask, returns_ask, behind_ask, latest_ask)

pub keep_returns : (z : List ℕ) (s : Spot) (keep : Bool) (bytes : List ℕ) → Sound z s → May z s (Returns keep bytes)
    → Sound z (spot_after z s (Returns keep bytes))
keep_returns z s keep bytes ok may =
    let quiet : s.asked ≡ false = grind (arith) in
    let up : requests s.up ≡ 0 = grind (arith) in
    let down : length s.down ≡ 0 = grind (arith) in
    let carried : Carry (nothing z s) (Some bytes) s.down = carry_none (nothing z s) (Some bytes) s.down down in
    grind (arith, nat_tests, requests_return, behind_return s.up bytes up, latest_return)

pub keep_takes_request : (z : List ℕ) (s : Spot) → Sound z s → May z s TakesRequest → Sound z (spot_after z s TakesRequest)
keep_takes_request z s ok may = grind (arith, nat_tests)

pub keep_takes_return : (z : List ℕ) (s : Spot) (bytes : List ℕ) → Sound z s → May z s (TakesReturn bytes) → Sound z (spot_after z s (TakesReturn bytes))
keep_takes_return z s bytes ok may = grind (arith, nat_tests)

says : (z : List ℕ) (s : Spot) (w : SpotDownWord) → Sound z s → MayAnswer z s w → Says (nothing z s) s.returned w
says z s (Supplying bytes) ok may = grind (arith, latest_none)
says z s Unavailing ok may = grind (arith, latest_none)
says z s Erring ok may = tt

steps : (z : List ℕ) (s : Spot) (w : SpotDownWord) → MayAnswer z s w → s.step ≡ true
steps z s (Supplying bytes) may = may.0
steps z s Unavailing may = may.0
steps z s Erring may = may

pub keep_answers : (z : List ℕ) (s : Spot) (w : SpotDownWord) → Sound z s → May z s (Answers false w) → Sound z (spot_after z s (Answers false w))
keep_answers z s w ok may =
    let on : s.step ≡ true = steps z s w may in
    let carried : Carry (nothing z s) s.returned (s.down ++ w ∷ []) = carry_end (nothing z s) s.returned s.down w ok.coming (says z s w ok may) in
    grind (arith, nat_tests, length_end)

pub keep_tells : (z : List ℕ) (s : Spot) (w : SpotDownWord) → Sound z s → May z s (Answers true w) → Sound z (spot_after z s (Answers true w))
keep_tells z s (Supplying bytes) ok may =
    let down : length s.down ≡ 0 = grind (arith) in
    let up : returns s.up ≡ 0 = grind (arith) in
    let carried : Carry (nothing z s) (Some bytes) (s.down ++ Supplying bytes ∷ []) = carry_end (nothing z s) (Some bytes) s.down (Supplying bytes)
    (carry_none (nothing z s) (Some bytes) s.down down) refl in
    grind (arith, nat_tests, length_end, latest_none)
keep_tells z s Unavailing ok may =
    let down : length s.down ≡ 0 = grind (arith) in
    let up : returns s.up ≡ 0 = grind (arith) in
    let none : Some z ≡ nothing z s = ap (λ (b : Bool). if b then Some z else None) (sym may.1) in
    let carried : Carry (nothing z s) (Some z) (s.down ++ Unavailing ∷ []) = carry_end (nothing z s) (Some z) s.down Unavailing
    (carry_none (nothing z s) (Some z) s.down down) none in
    grind (arith, nat_tests, length_end, latest_none)
keep_tells z s Erring ok may =
    let carried : Carry (nothing z s) s.returned (s.down ++ Erring ∷ []) = carry_end (nothing z s) s.returned s.down Erring ok.coming tt in
    grind (arith, nat_tests, length_end)

pub keep_takes : (z : List ℕ) (s : Spot) (w : SpotDownWord) → Sound z s → May z s (Takes w) → Sound z (spot_after z s (Takes w))
keep_takes z s (Supplying bytes) ok may =
    let said : s.returned ≡ Some bytes = carry_first (nothing z s) s.returned s.down (Supplying bytes) may ok.coming in
    let carried : Carry (nothing z s) s.returned (rest s.down) = carry_rest (nothing z s) s.returned s.down ok.coming in
    grind (arith, nat_tests)
keep_takes z s Unavailing ok may =
    let said : s.returned ≡ nothing z s = carry_first (nothing z s) s.returned s.down Unavailing may ok.coming in
    let carried : Carry (nothing z s) s.returned (rest s.down) = carry_rest (nothing z s) s.returned s.down ok.coming in
    grind (arith, nat_tests)
keep_takes z s Erring ok may =
    let carried : Carry (nothing z s) s.returned (rest s.down) = carry_rest (nothing z s) s.returned s.down ok.coming in
    grind (arith, nat_tests)

-- the object may still be reached, so its control has not ended
pub passed_returned : (z : List ℕ) (s : Spot) → Sound z s → Passed s → s.control ≢ 2 → s.returned ≡ None
passed_returned z s ok passed lives = grind arith

pub keep_zeroes : (z : List ℕ) (s : Spot) → Sound z s → May z s Zeroes → or_zero z s.returned ≡ z → Sound z (spot_after z s Zeroes)
keep_zeroes z s ok may none = grind (arith, nat_tests)

pub keep_raises : (z : List ℕ) (s : Spot) (bytes : List ℕ) → Sound z s → May z s (Raises bytes) → Sound z (spot_after z s (Raises bytes))
keep_raises z s bytes ok may = grind (arith, nat_tests)

pub keep_stores : (z : List ℕ) (s : Spot) (at : ℕ) (bytes : List ℕ) → Sound z s → May z s (Stores at bytes) → Sound z (spot_after z s (Stores at bytes))
keep_stores z s at bytes ok may = grind (arith, nat_tests)

pub keep_drops : (z : List ℕ) (s : Spot) → Sound z s → May z s Drops → Sound z (spot_after z s Drops)
keep_drops z s ok may = grind (arith, nat_tests)

pub keep_moves : (z : List ℕ) (s : Spot) (bytes : List ℕ) (dirty : Bool) → Sound z s → May z s (Moves bytes dirty)
    → Sound z (spot_after z s (Moves bytes dirty))
keep_moves z s bytes dirty ok may = grind (arith, nat_tests)

-- also where there is no page
pub keep_gone : (z : List ℕ) (s : Spot) → Sound z s → Sound z (spot_after z s Drops)
keep_gone z s ok = grind (arith, nat_tests)

pub keep_ends : (z : List ℕ) (s : Spot) → Sound z s → May z s Ends → Sound z (spot_after z s Ends)
keep_ends z s ok may = grind (arith, nat_tests)

pub keep_step : (z : List ℕ) (s : Spot) → Sound z s → Sound z (spot_after z s StepEnds)
keep_step z s ok = grind (arith, nat_tests)

pub sound_start : (z : List ℕ) (file : Bool) (bytes : List ℕ) → Sound z (first_spot file bytes)
sound_start z file bytes = grind (arith, nat_tests)

pub supplied_returned : (z : List ℕ) (s : Spot) (bytes : List ℕ) → Sound z s → May z s (Takes (Supplying bytes)) → s.returned ≡ Some bytes
supplied_returned z s bytes ok may = carry_first (nothing z s) s.returned s.down (Supplying bytes) may ok.coming

-- the content

-- effects that leave the content as it is
abbrev pub Saves : Spot → SpotEffect → Type 0
Saves s (Raises bytes) = ⊥
Saves s (Stores at bytes) = ⊥
Saves s (Answers true word) = ⊥
Saves s Drops = s.dirty ≡ false
Saves s (Moves bytes dirty) = ⊥
Saves s e = Unit {0}

takes_saves : (z : List ℕ) (s : Spot) (w : SpotDownWord) → Sound z s → May z s (Takes w) → content (spot_after z s (Takes w)) ≡ content s
takes_saves z s (Supplying bytes) ok may =
    let said : s.returned ≡ Some bytes = carry_first (nothing z s) s.returned s.down (Supplying bytes) may ok.coming in
    grind (arith, nat_tests)
takes_saves z s Unavailing ok may = refl
takes_saves z s Erring ok may = refl

pub content_saved : (z : List ℕ) (s : Spot) (e : SpotEffect) → Sound z s → May z s e → Saves s e → content (spot_after z s e) ≡ content s
content_saved z s Creates ok may saves = refl
content_saved z s (Requests lives) ok may saves = refl
content_saved z s (Returns keep bytes) ok may saves = grind arith
content_saved z s TakesRequest ok may saves = refl
content_saved z s (TakesReturn bytes) ok may saves = refl
content_saved z s (Answers true word) ok may saves = absurd saves
content_saved z s (Answers false word) ok may saves = refl
content_saved z s (Takes word) ok may saves = takes_saves z s word ok may
content_saved z s Zeroes ok may saves = grind arith
content_saved z s (Raises bytes) ok may saves = absurd saves
content_saved z s (Stores at bytes) ok may saves = absurd saves
content_saved z s Drops ok may saves = grind arith
content_saved z s (Moves bytes dirty) ok may saves = absurd saves
content_saved z s Ends ok may saves = refl
content_saved z s StepEnds ok may saves = refl
content_saved z s Nothing ok may saves = refl

-- a page here shows its content, or it is a zero page above nothing
pub shows : (z : List ℕ) (s : Spot) → Sound z s → s.here ≡ true → (content s ≡ Some s.bytes) ⊎ ((content s ≡ None) × (s.bytes ≡ z))
shows z s ok here = grind arith

pub passed_content : (z : List ℕ) (s : Spot) → Sound z s → Passed s → s.control ≢ 2 → content s ≡ None
passed_content z s ok passed lives = grind (arith, passed_returned)
