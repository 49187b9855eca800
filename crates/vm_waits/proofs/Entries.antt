-- For callers: the rows of tasks after a call, and what the two counts say of them.
pub use Rattle.vm_waits.proofs.Rows.{entry_task}
use Rattle.std.proofs.Common.{ℕ, ◌≡◌, ◌≢◌, ◌==◌, Bool, true, false, List, Option, Some, None, refl, sym, ◌∙◌, ap, ⊎_elim, arith}
use Rattle.std.proofs.lemmas.Bool.{cases_Bool}
use Rattle.std.proofs.lemmas.Bool.Decides.{nat_tests}
use Rattle.std.proofs.lemmas.Option.{none-some, same_Some}
use Rattle.vm_waits.proofs.Rows.{none_passes}
use Rattle.vm_waits.specs.Waits.{PutsEntry, Waked, count_again, entry, is_again, is_frame, queued, with_on, woken}
use Rattle.vm_waits.specs.declared.waiting.On.{On}
use Rattle.vm_waits.specs.declared.waiting.On.TheVariants as on
use Rattle.vm_waits.specs.declared.waiting.Waiting.{Waiting}

pub puts_here : (t : ℕ) (row : Option Waiting) (old new : List Waiting) → PutsEntry t row old new → entry new t ≡ row
puts_here t row old new puts = let same : (t == t) ≡ true = grind (arith, nat_tests) in rw same at (puts.at t)

pub puts_elsewhere : (t u : ℕ) (row : Option Waiting) (old new : List Waiting) → PutsEntry t row old new → t ≢ u → entry new u ≡ entry old u
puts_elsewhere t u row old new puts apart = let no : (t == u) ≡ false = grind (arith, nat_tests) in rw no at (puts.at u)

-- a row is the new one, or stood there
pub puts_cases : {P : Type 0} (t u : ℕ) (row : Option Waiting) (old new : List Waiting) (w : Waiting) → PutsEntry t row old new → entry new u ≡ Some w
    → (t ≡ u → row ≡ Some w → P) → (t ≢ u → entry old u ≡ Some w → P) → P
puts_cases t u row old new w puts is here elsewhere =
    ⊎_elim
    (λ (same : (t == u) ≡ true). here (grind (arith, nat_tests)) (sym (rw same at (puts.at u)) ∙ is))
    (λ (apart : (t == u) ≡ false). elsewhere (grind (arith, nat_tests)) (sym (rw apart at (puts.at u)) ∙ is))
    (cases_Bool (t == u))

woken_cases : {P : Type 0} (test : On → Bool) (was w : Waiting) → woken test was ≡ w → (test was.on ≡ false → was ≡ w → P)
    → (test was.on ≡ true → with_on was on.Again ≡ w → P) → P
woken_cases test was w is stays turns =
    ⊎_elim
    (λ (passes : test was.on ≡ true). turns passes (rw passes at is))
    (λ (fails : test was.on ≡ false). stays fails (rw fails at is))
    (cases_Bool (test was.on))

-- a row stood there, and is to be run again if it passed the test
pub waked_cases : {P : Type 0} (test : On → Bool) (old new : Option Waiting) (w : Waiting) → Waked test old new → new ≡ Some w
    → (old ≡ Some w → test w.on ≡ false → P) → ((was : Waiting) → old ≡ Some was → test was.on ≡ true → with_on was on.Again ≡ w → P) → P
waked_cases test None new w waked is stays turns = absurd (none-some w (sym waked ∙ is))
waked_cases test (Some was) new w waked is stays turns =
    woken_cases test was w (same_Some (woken test was) w (sym waked ∙ is))
    (λ fails same. stays (ap Some same) (ap (λ (z : Waiting). test z.on) (sym same) ∙ fails))
    (λ passes same. turns was refl passes same)

-- nothing is to be run again
pub none_again : (rows : List Waiting) (t : ℕ) (w : Waiting) → count_again rows ≡ 0 → entry rows t ≡ Some w → is_again w.on ≡ false
none_again rows t w none is = none_passes is_again rows t w none is

-- nothing waits for a frame
pub none_queued : (rows : List Waiting) (t : ℕ) (w : Waiting) → queued rows ≡ 0 → entry rows t ≡ Some w → is_frame w.on ≡ false
none_queued rows t w none is = none_passes is_frame rows t w none is
