-- A settle goes on being legal with each message that it takes.
use Rattle.vm_system.proofs.Common.{Bool, Command, CountRises, Device, DevicesCounted, DevicesHaveCause, Err, Event, GrowsWithinLimit, Header, IsErrOf}
use Rattle.vm_system.proofs.Common.{KeepsOpen, Letter, List, Ok, Outside, StaysOpen, SystemStop, [], ap, arith, devices, false, inl, inr, length, most_events}
use Rattle.vm_system.proofs.Common.{refl, subst, sym, undelivered, ℕ, ◌+◌, ◌<◌, ◌∙◌, ◌∷◌, ◌≡◌, ◌≢◌, ◌≤◌, ◌⊎◌}
use Rattle.std.proofs.Common.{Result}
use Rattle.vm_system.specs.declared.stop.SystemStop.TheVariants as stops
use Rattle.vm_system.proofs.Growth.{devices_grow, grew_more}

pub stays_more : (header : Header) (outside : Outside) (doing : Command) (first old new : List Event) → StaysOpen header outside doing first old
    → KeepsOpen header outside doing old new → StaysOpen header outside doing first new
stays_more header outside doing first old new stays keeps = λ line run legal. (keeps line run (stays line run legal)).so_far

-- memory ends in a taking only where one may begin
pub below_of : (result : Result Bool SystemStop) (letters : List Letter) (n : ℕ) → (letters ≡ [] → result ≡ Ok false)
    → ((most_events ≤ n) × (letters ≢ []) → result ≡ Err stops.EventLimit) → result ≡ Err stops.NoMemory
    → n < most_events
below_of result letters n calm full none = by_order (grind arith)
  where
    by_letters : (rest : List Letter) → letters ≡ rest → most_events ≤ n → n < most_events
    by_letters [] is over = let bad = calm is in absurd (cc)
    by_letters (letter ∷ rest) is over = let bad = full (over, λ none. let both : letter ∷ rest ≡ [] = sym is ∙ none in absurd (cc)) in absurd (cc)

    by_order : (n < most_events) ⊎ (most_events ≤ n) → n < most_events
    by_order (inl below) = below
    by_order (inr over) = by_letters letters refl over

-- where a taking stops, the history has grown so far
pub grew_stop : (stop : SystemStop) (result : Result Bool SystemStop) (first old new : List Event) → result ≡ Err stop
    → (result ≡ Err stops.EventLimit → new ≡ old) → (undelivered old ≡ [] → result ≡ Ok false)
    → ((most_events ≤ length old) × (undelivered old ≢ []) → result ≡ Err stops.EventLimit) → GrowsWithinLimit first old → GrowsWithinLimit old new
    → GrowsWithinLimit first new
grew_stop stops.EventLimit result first old new is same calm full one two = subst (GrowsWithinLimit first) (sym (same is)) one
grew_stop stops.NoMemory result first old new is same calm full one two =
    grew_more first old new one two (below_of result (undelivered old) (length old) calm full is)

-- the failures of the takings are counted together

counted : (before was now a b c : ℕ) → before ≤ was → was ≤ now → (b + before ≤ a + was) ⊎ CountRises was was → (c ≡ b) ⊎ CountRises was now → c ≤ b + 1
    → (c + before ≤ a + now) ⊎ CountRises now now
counted before was now a b c first then few cause one = grind arith

spared_more : (before was now a b c : ℕ) → a ≤ b → b ≤ c → (b ≡ a → was ≡ before) → (c ≡ b → now ≡ was) → c ≡ a → now ≡ before
spared_more before was now a b c first then one two same = let same_b : b ≡ a = omega arith in let same_c : c ≡ b = omega arith in two same_c ∙ one same_b

pub counted_more : (who : Device) (before was now : ℕ) (first old new : List Event) → GrowsWithinLimit first old → GrowsWithinLimit old new
    → DevicesCounted who before was first old → DevicesHaveCause who was now old new
    → DevicesCounted who before now first new
counted_more who before was now first old new grew more one two = record {
  later = omega (arith, one.later, two.later);
  few = counted before was now (devices who first) (devices who old) (devices who new) one.later two.later one.few two.cause two.few;
  spared =
      spared_more before was now (devices who first) (devices who old) (devices who new) (devices_grow who first old grew) (devices_grow who old new more)
      one.spared two.spared;
}

-- an error is the same, whatever else might have been answered

same_err : {A E : Type 0} (x e : E) → IsErrOf {T = A} (Err x) e → x ≡ e
same_err {A} {E} x e is = let both : ◌≡◌ {A = Result A E} (Err x) (Err e) = is in cc

pub other_err : {A B E : Type 0} (x e : E) → IsErrOf {T = A} (Err x) e → IsErrOf {T = B} (Err x) e
other_err x e is = ap Err (same_err x e is)

-- a step stops at the limit, or for want of memory
pub by_stop : (stop : SystemStop) (result : Result Bool SystemStop) (P : Type 0) → result ≡ Err stop → (result ≡ Err stops.EventLimit → P)
    → (result ≡ Err stops.NoMemory → P) → P
by_stop stops.EventLimit result P is full none = full is
by_stop stops.NoMemory result P is full none = none is
