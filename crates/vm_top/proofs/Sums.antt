-- One event more in a summary.
use Rattle.std.proofs.Common.{◌≡◌, ℕ, ◌+◌, ◌-◌, ◌%◌, ◌^◌, ◌<◌, ◌≤◌, Bool, true, false, List, [], ◌∷◌, length, refl, ◌∙◌, arith}
use Rattle.vm_model.specs.declared.event.Event.{Event}
use Rattle.vm_model.specs.Text.{flag}
use Rattle.vm_model.specs.Summary.{count_of, sum_of, value_of}

flag_small : (b : Bool) → flag b ≤ 1
flag_small true = omega arith
flag_small false = omega arith

count_within : (is_kind : Event → Bool) (history : List Event) → count_of is_kind history ≤ length history
count_within is_kind [] = omega arith
count_within is_kind (event ∷ past) = omega (arith, count_within is_kind past, flag_small (is_kind event))

pub below : (is_kind : Event → Bool) (past : List Event) (count : ℕ) → count ≡ count_of is_kind past → length past < 2 ^ 32 - 1 → count < 2 ^ 32 - 1
below is_kind past count is few = omega (arith, is, few, count_within is_kind past)

pub one_more : (is_kind : Event → Bool) (event : Event) (past : List Event) (old new : ℕ) (holds : Bool) → old ≡ count_of is_kind past → holds ≡ is_kind event
    → new ≡ old + flag holds → new ≡ count_of is_kind (event ∷ past)
one_more is_kind event past old new holds is same more = more ∙ rw (is, same) refl

pub sum_more : (event : Event) (past : List Event) (sum value : ℕ) → sum ≡ sum_of past → value ≡ value_of event → (sum + value) % 2 ^ 64 ≡ sum_of (event ∷ past)
sum_more event past sum value is one = omega (arith, is, one)
