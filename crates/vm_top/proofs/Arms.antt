-- How steps leave the backings armed, and what failed.
use Rattle.std.proofs.Common.{◌≡◌, ℕ, min, ◌+◌, ◌<◌, ◌≤◌, ◌⊎◌, inl, List, [], ◌∷◌, true, false, Option, Some, None, refl, ap, sym, ◌∙◌, subst, arith}
use Rattle.vm_model.specs.declared.event.Device.{Device}
use Rattle.vm_model.specs.declared.event.Device.TheVariants as device
use Rattle.vm_model.specs.declared.event.Event.{Event}
use Rattle.vm_model.specs.declared.command.Command.{Command}
use Rattle.vm_model.specs.declared.command.Command.TheVariants as command
use Rattle.vm_model.specs.declared.command.Numbered.{Numbered}
use Rattle.vm_model.specs.declared.script.Header.{Header}
use Rattle.vm_model.specs.declared.script.Script.{Script}
use Rattle.vm_model.specs.Moments.{before_last_line}
use Rattle.vm_model.specs.Ranges.{InRange}
use Rattle.vm_legal.specs.Steps.{before_step, takings}
use Rattle.vm_outside.specs.Arming.{Arming, ArmedLater}
use Rattle.vm_outside.specs.Causes.{CountRises, next_count, sum_count}
use Rattle.vm_system.specs.Steps.{DevicesHaveCause, GrowsWithinLimit, LeavesBacking, arms, devices, took_up}
use Rattle.vm_system.proofs.Growth.{devices_grow}
use Rattle.vm_top.specs.Always.{BackingKept, Counts}
use Rattle.vm_top.specs.Arming.{BackingLeft, FailuresCounted, armings, is_untouched, last_arming, ran_of}
use Rattle.vm_top.specs.Top.{BackingEnds}
use Rattle.vm_top.specs.Running.{Arms, BackingRuns, BothCounted, FaultCounts, Running, counted}
use Rattle.vm_top.proofs.Counting.{untouched_line, untouched_taking}

-- what holds of each backing holds of any
pub of_both : (Q : Device → Type 0) → Q device.Files → Q device.Paging → (who : Device) → Q who
of_both Q files paging device.Files = files
of_both Q files paging device.Paging = paging

-- the last arming command
last_some : (arming : Command → Option ℕ) (n : Numbered) (run : List Numbered) (count : ℕ) → arming n.command ≡ Some count
    → last_arming arming (n ∷ run) ≡ Some count
last_some arming n run count is = rw (is, last_arming) refl

last_none : (arming : Command → Option ℕ) (n : Numbered) (run : List Numbered) → arming n.command ≡ None → last_arming arming (n ∷ run) ≡ last_arming arming run
last_none arming n run is = rw (is, last_arming) refl

-- how many commands arm
armings_some : (arming : Command → Option ℕ) (n : Numbered) (run : List Numbered) (count : ℕ) → arming n.command ≡ Some count
    → armings arming (n ∷ run) ≡ armings arming run + 1
armings_some arming n run count is = rw (is, armings) refl

armings_none : (arming : Command → Option ℕ) (n : Numbered) (run : List Numbered) → arming n.command ≡ None → armings arming (n ∷ run) ≡ armings arming run
armings_none arming n run is = rw (is, armings) refl

arms_some : (header : Header) (who : Device) (c : Command) (count : ℕ) → arms who c ≡ Some count → InRange header c → 0 < count
arms_some header device.Files (command.FailFiles k) count is range = let same : k ≡ count = cc in let least = range.0 in omega arith
arms_some header device.Paging (command.FailPaging k) count is range = let same : k ≡ count = cc in let least = range.0 in omega arith
arms_some header device.Files other count is range = absurd (cc)
arms_some header device.Paging other count is range = absurd (cc)

-- a backing is armed
backing_armed : {B : Type 0} (header : Header) (who : Device) (n : Numbered) (run : List Numbered) (old_h new_h : List Event) (start old new : Arming B)
    (count : ℕ) → arms who n.command ≡ Some count → 0 < count
    → new ≡ record { inner = old.inner; left = count; reached = old.reached } → BackingRuns header who run old_h start old
    → BackingRuns header who (n ∷ run) new_h start new
backing_armed header who n run old_h new_h start old new count armed some is was =
    let last = last_some (arms who) n run count armed in
    let left : new.left ≡ count = ap (λ z. z.left) is in
    let reached : new.reached ≡ old.reached = ap (λ z. z.reached) is in
    let more = armings_some (arms who) n run count armed in
    let few = was.left.few in
    let fewer : new.reached + min 1 new.left ≤ start.reached + armings (arms who) (n ∷ run) = omega (arith, more, few, reached) in
    record {
      left = record {
        none = λ none. absurd (cc);
        some = λ k more. inl (omega arith);
        untouched = λ k more un. let same : count ≡ k = cc in left ∙ same;
        few = fewer;
      };
      rising = rw reached was.rising;
    }

later_rises : (start l r m s : ℕ) → ArmedLater l r m s → next_count start ≤ next_count r → next_count start ≤ next_count s
later_rises start l r m s later was = grind arith

later_some : (start l r m s : ℕ) → ArmedLater l r m s → next_count start ≤ next_count r → (0 < l) ⊎ CountRises start r → (0 < m) ⊎ CountRises start s
later_some start l r m s later rising was = grind arith

later_none : (start l r m s : ℕ) → ArmedLater l r m s → (l ≡ 0) × (r ≡ start) → (m ≡ 0) × (s ≡ start)
later_none start l r m s later was = let l0 = was.0 in let r0 = was.1 in (grind arith, grind arith)

later_few : (start l r m s k : ℕ) → ArmedLater l r m s → r + min 1 l ≤ start + k → s + min 1 m ≤ start + k
later_few start l r m s k later few = grind arith

-- calls go to a backing, or none does
pub backing_later : {B : Type 0} (header : Header) (who : Device) (run more : List Numbered) (old_h new_h : List Event) (start old new : Arming B)
    → last_arming (arms who) more ≡ last_arming (arms who) run → armings (arms who) more ≡ armings (arms who) run
    → ArmedLater old.left old.reached new.left new.reached
    → (is_untouched header who more new_h ≡ true → (new.left ≡ old.left) × (is_untouched header who run old_h ≡ true))
    → BackingRuns header who run old_h start old → BackingRuns header who more new_h start new
backing_later header who run more old_h new_h start old new last count later un was =
    record {
      left = record {
        none = λ none. later_none start.reached old.left old.reached new.left new.reached later (was.left.none (sym last ∙ none));
        some = λ k some. later_some start.reached old.left old.reached new.left new.reached later was.rising (was.left.some k (sym last ∙ some));
        untouched = λ k some is. let both = un is in both.0 ∙ was.left.untouched k (sym last ∙ some) both.1;
        few = rw count (later_few start.reached old.left old.reached new.left new.reached (armings (arms who) run) later was.left.few);
      };
      rising = later_rises start.reached old.left old.reached new.left new.reached later was.rising;
    }

-- and behind a command that doesn't arm it
pub backing_behind : {B : Type 0} (header : Header) (who : Device) (n : Numbered) (run : List Numbered) (old_h new_h : List Event) (start old new : Arming B)
    → arms who n.command ≡ None
    → ArmedLater old.left old.reached new.left new.reached
    → (is_untouched header who (n ∷ run) new_h ≡ true → (new.left ≡ old.left) × (is_untouched header who run old_h ≡ true))
    → BackingRuns header who run old_h start old → BackingRuns header who (n ∷ run) new_h start new
backing_behind header who n run old_h new_h start old new unarmed later un was =
    backing_later header who run (n ∷ run) old_h new_h start old new (last_none (arms who) n run unarmed) (armings_none (arms who) n run unarmed) later un was

-- a command's step
pub backing_step : {B : Type 0} (header : Header) (who : Device) (n : Numbered) (run : List Numbered) (old_h new_h : List Event) (start old new : Arming B)
    → InRange header n.command → LeavesBacking header who n.command new_h old new
    → (arms who n.command ≡ None → ArmedLater old.left old.reached new.left new.reached)
    → before_last_line new_h ≡ old_h → BackingRuns header who run old_h start old → BackingRuns header who (n ∷ run) new_h start new
backing_step header who n run old_h new_h start old new range leaves later front was = by_arming (arms who n.command) refl
  where
    by_arming : (a : Option ℕ) → arms who n.command ≡ a → BackingRuns header who (n ∷ run) new_h start new
    by_arming None is =
        backing_behind header who n run old_h new_h start old new is (later is)
        (λ un. let both = untouched_line header who n run new_h old_h is front un in (ap (λ z. z.left) (leaves.asked is both.0), both.1)) was
    by_arming (Some count) is =
        backing_armed header who n run old_h new_h start old new count is (arms_some header who n.command count is range) (leaves.armed count is) was

-- a taking of a settle
pub backing_taking : {B : Type 0} (header : Header) (who : Device) (n : Numbered) (run : List Numbered) (old_h new_h : List Event) (start old new : Arming B)
    → ArmedLater old.left old.reached new.left new.reached
    → (took_up header who new_h ≡ false → new ≡ old) → before_step new_h ≡ old_h → takings new_h ≡ takings old_h + 1
    → BackingRuns header who (n ∷ run) old_h start old → BackingRuns header who (n ∷ run) new_h start new
backing_taking header who n run old_h new_h start old new later unasked front more was =
    backing_later header who (n ∷ run) (n ∷ run) old_h new_h start old new refl refl later
    (λ un. let both = untouched_taking header who n run new_h old_h front more un in (ap (λ z. z.left) (unasked both.0), both.1)) was

-- the failures of a step are counted
counted_more : (before was now a b : ℕ) → was ≤ now → (a ≡ b) ⊎ CountRises was now → a ≤ b + 1 → (b + before ≤ was) ⊎ CountRises was was → (a + before ≤ now)
    ⊎ CountRises now now
counted_more before was now a b later cause few old = grind arith

stays : (before was now a b : ℕ) → b ≤ a → (a ≡ b → now ≡ was) → (b ≡ 0 → was ≡ before) → a ≡ 0 → now ≡ before
stays before was now a b grown spared none is = let none_b : b ≡ 0 = omega arith in let same : a ≡ b = omega arith in spared same ∙ none none_b

pub failures_step : (who : Device) (before was now : ℕ) (old new : List Event) → GrowsWithinLimit old new → DevicesHaveCause who was now old new
    → FailuresCounted who before was old → FailuresCounted who before now new
failures_step who before was now old new grew step told =
    record {
      few = counted_more before was now (devices who new) (devices who old) step.later step.cause step.few told.few;
      none = stays before was now (devices who new) (devices who old) (devices_grow who old new grew) step.spared told.none;
    }

-- the failures of each device have their cause in its count of faults
abbrev pub BothHaveCause : FaultCounts → FaultCounts → List Event → List Event → Type 0
BothHaveCause was now old new = (who : Device) → DevicesHaveCause who (counted who was) (counted who now) old new

pub failures_of : (start was now : FaultCounts) (old new : List Event) → GrowsWithinLimit old new
    → BothHaveCause was now old new → BothCounted start was old → BothCounted start now new
failures_of start was now old new grew step told who =
    failures_step who (counted who start) (counted who was) (counted who now) old new grew (step who) (told who)

-- of the commands that have a line
pub arms_of : {F P : Type 0} (given : Running F P) (run : List Numbered) (h : List Event) (f : Arming F) (p : Arming P) → ran_of given.script h ≡ run
    → BackingRuns given.script.header device.Files run h given.files f
    → BackingRuns given.script.header device.Paging run h given.paging p → Arms given h f p
arms_of given run h f p here files paging = record {
  files = subst (λ z. BackingRuns given.script.header device.Files z h given.files f) (sym here) files;
  paging = subst (λ z. BackingRuns given.script.header device.Paging z h given.paging p) (sym here) paging;
}

-- the failures that were told are bounded by the backing's own and by the commands
pub bounded : (d i0 i1 r0 r1 l k : ℕ) → (d + sum_count i0 r0 ≤ sum_count i1 r1) ⊎ CountRises (sum_count i1 r1) (sum_count i1 r1) → r1 + min 1 l ≤ r0 + k
    → (d + i0 ≤ i1 + k) ⊎ CountRises (sum_count i1 r1) (sum_count i1 r1)
bounded d i0 i1 r0 r1 l k counted few = grind arith

-- whoever lets all coming calls pass first leaves a backing as it is left behind that
pub kept_disarmed : {B : Type 0} (who : Device) (script : Option Script) (history : List Event) (old new : Arming B) (counts : Counts)
    → BackingKept who script history (record { inner = old.inner; left = 0; reached = old.reached }) new counts → BackingKept who script history old new counts
kept_disarmed {B} who script history old new counts is = record { ends = by script is.ends; counted = is.counted; bounded = is.bounded }
  where
    by : (script : Option Script) → BackingEnds who script history (record { inner = old.inner; left = 0; reached = old.reached }) new
        → BackingEnds who script history old new
    by None ends = ends
    by (Some run) ends = record { none = ends.none; some = ends.some; untouched = ends.untouched; few = ends.few }

-- how a backing is left by a run, said of either
pub kept_by : {B : Type 0} (who : Device) (script : Script) (h : List Event) (old new : Arming B) (i0 i1 : ℕ)
    → BackingLeft script.header who (ran_of script h) h old new → FailuresCounted who (sum_count i0 old.reached) (sum_count i1 new.reached) h
    → BackingKept who (Some script) h old new (record { old = sum_count i0 old.reached; new = sum_count i1 new.reached; own_old = i0; own_new = i1 })
kept_by {B} who script h old new i0 i1 left told = record {
  ends = left;
  counted = told;
  bounded = bounded (devices who h) i0 i1 old.reached new.reached new.left (armings (arms who) (ran_of script h)) told.few left.few;
}

pub none_counted : (who : Device) (n : ℕ) (h : List Event) → h ≡ [] → FailuresCounted who n n h
none_counted who n h none = record { few = inl (subst (λ (z : List Event). devices who z + n ≤ n) (sym none) (omega arith)); none = λ zero. refl }
