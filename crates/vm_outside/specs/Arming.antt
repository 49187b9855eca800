-- A backing whose coming calls can be made to fail.
use Rattle.std.specs.Prelude.{ℕ, ◌≡◌, ◌≢◌, ◌+◌, ◌-◌, ◌≤◌, ◌<◌, ◌⊎◌, List, [], ◌∷◌}
use Rattle.std.proofs.Common.{Ok, Err, inl, inr, arith, refl, ap}
use Rattle.vm_base.specs.declared.failure.WriteStop.TheVariants as stop
use Rattle.vm_outside.specs.Calls.{Call, AsksLength, Reads, Writes, HasFailed, Made, weight, weight_of}
use Rattle.vm_outside.specs.Causes.{next_count}

-- the backing within, the number of the coming call that fails (0: none), and how many armed calls failed
pub record Arming (B : Type 0) : Type 0 where
  pub inner : B
  pub left : ℕ
  pub reached : ℕ

-- armed in neither, and as many reached; armed in both, for no later call, and as many reached; or armed in the
-- first alone, and one more reached
abbrev pub ArmedLater : ℕ → ℕ → ℕ → ℕ → Type 0
ArmedLater left reached left_after reached_after =
    ((left ≡ 0) × (left_after ≡ 0) × (reached_after ≡ reached))
    ⊎ (((0 < left) × (0 < left_after) × (left_after ≤ left) × (reached_after ≡ reached))
    ⊎ ((0 < left) × (left_after ≡ 0) × (reached_after ≡ next_count reached)))

-- the armed call failed, and the backing within was left alone
abbrev pub Strikes : {B : Type 0} → Arming B → Arming B → Type 0
Strikes old new = new ≡ record { inner = old.inner; left = 0; reached = next_count old.reached }

-- a call went to the backing within, and brought an arming one call nearer
abbrev pub PassesOn : {B : Type 0} → Arming B → Arming B → Type 0
PassesOn old new = (new.left ≡ old.left - 1) × (new.reached ≡ old.reached)

-- a call that is struck fails and is not passed on; each other goes to the backing within, and brings an arming nearer
-- by its weight
abbrev pub ArmedCalled : {B : Type 0} → (Call → B → B → Type 0) → Call → Arming B → Arming B → Type 0
ArmedCalled called call old new =
    ((old.left ≡ 1) × HasFailed call × Strikes old new)
    ⊎ ((old.left ≢ 1) × called call old.inner new.inner × (new.left ≡ old.left - weight call) × (new.reached ≡ old.reached))

-- the arming after calls of so much weight: none was there; or it is so much nearer; or it was reached and used up
abbrev pub ArmedAfter : ℕ → ℕ → ℕ → ℕ → ℕ → Type 0
ArmedAfter n left reached left_after reached_after =
    ((left ≡ 0) × (left_after ≡ 0) × (reached_after ≡ reached))
    ⊎ (((n < left) × (left_after ≡ left - n) × (reached_after ≡ reached))
    ⊎ ((0 < left) × (left ≤ n) × (left_after ≡ 0) × (reached_after ≡ next_count reached)))

-- a call left the arming as it was
abbrev pub KeepsArming : {B : Type 0} → Arming B → Arming B → Type 0
KeepsArming old new = (new.left ≡ old.left) × (new.reached ≡ old.reached)

-- at most one armed failure was reached, and only where one was armed, which is used up then
abbrev pub ReachesOne : {B : Type 0} → Arming B → Arming B → Type 0
ReachesOne old new =
    (new.reached ≡ old.reached) ⊎ ((0 < old.left) × (new.left ≡ 0) × (new.reached ≡ next_count old.reached))

pub armed_later_same : (left reached : ℕ) → ArmedLater left reached left reached
armed_later_same left reached = grind arith

pub armed_later_more : (l r m s n t : ℕ) → ArmedLater l r m s → ArmedLater m s n t → ArmedLater l r n t
armed_later_more l r m s n t one two = grind arith

reaches : (l r m s : ℕ) → ArmedLater l r m s → (s ≡ r) ⊎ ((0 < l) × (m ≡ 0) × (s ≡ next_count r))
reaches l r m s later = grind arith

pub later_reaches_one : {B : Type 0} (old new : Arming B) → ArmedLater old.left old.reached new.left new.reached
    → ReachesOne old new
later_reaches_one old new later = reaches old.left old.reached new.left new.reached later

armed_after_none : (left reached : ℕ) → ArmedAfter 0 left reached left reached
armed_after_none left reached = grind arith

armed_after_more : (v w l r m s n t : ℕ) → ArmedAfter v l r m s → ArmedAfter w m s n t → ArmedAfter (v + w) l r n t
armed_after_more v w l r m s n t one two = grind arith

failed_weight : (call : Call) → HasFailed call → weight call ≡ 1
failed_weight (AsksLength name answer) failed = refl
failed_weight (Reads name at n answer) failed = refl
failed_weight (Writes name at bytes (Ok done)) failed = refl
failed_weight (Writes name at bytes (Err stop.Failed)) failed = refl
failed_weight (Writes name at bytes (Err stop.NoMemory)) failed = absurd (cc)

most_weight : (call : Call) → weight call ≤ 1
most_weight (AsksLength name answer) = omega arith
most_weight (Reads name at n answer) = omega arith
most_weight (Writes name at bytes (Ok done)) = omega arith
most_weight (Writes name at bytes (Err stop.Failed)) = omega arith
most_weight (Writes name at bytes (Err stop.NoMemory)) = omega arith

struck_after : (w l r m s : ℕ) → w ≡ 1 → l ≡ 1 → m ≡ 0 → s ≡ next_count r → ArmedAfter w l r m s
struck_after w l r m s weight left none reached = grind arith

passed_after : (w l r m s : ℕ) → w ≤ 1 → l ≢ 1 → m ≡ l - w → s ≡ r → ArmedAfter w l r m s
passed_after w l r m s most left nearer same = grind arith

armed_call : {B : Type 0} (called : Call → B → B → Type 0) (call : Call) (old new : Arming B) → ArmedCalled called call old new
    → ArmedAfter (weight call) old.left old.reached new.left new.reached
armed_call called call old new (inl struck) =
    struck_after _ _ _ _ _ (failed_weight call struck.1) struck.0 (ap (λ z. z.left) struck.2) (ap (λ z. z.reached) struck.2)
armed_call called call old new (inr passed) = passed_after _ _ _ _ _ (most_weight call) passed.0 passed.2 passed.3

-- what calls leave of an arming is told by how many they were
pub made_after : {B : Type 0} (called : Call → B → B → Type 0) (calls : List Call) (old new : Arming B)
    → Made (λ call s t. ArmedCalled called call s t) calls old new
    → ArmedAfter (weight_of calls) old.left old.reached new.left new.reached
made_after called [] old new none = rw none (armed_after_none old.left old.reached)
made_after called (call ∷ calls) old new made =
    armed_after_more (weight call) (weight_of calls) _ _ _ _ _ _ (armed_call called call old made.0 made.1)
    (made_after called calls made.0 new made.2)
