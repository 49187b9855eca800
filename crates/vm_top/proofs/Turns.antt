-- A command's step keeps what a run keeps, or stops it.
use Rattle.std.proofs.Common.{◌≡◌, ℕ, ◌+◌, ◌-◌, ◌<◌, ◌≤◌, ◌⊎◌, inl, inr, List, [], ◌∷◌, ◌++◌, length, reverse, slice_get, take, Option, Some, None, Err, refl}
use Rattle.std.proofs.Common.{ap, sym, ◌∙◌, subst, arith, append_assoc, append-nil}
use Rattle.std.specs.Prelude.{IsErrOf}
use Rattle.std.specs.Io.KnownBytes.{Appends}
use Rattle.std.proofs.KnownBytes.{Appends-nil}
use Rattle.vm_model.specs.Limits.{most_events}
use Rattle.vm_model.specs.declared.event.Device.{Device}
use Rattle.vm_model.specs.declared.event.Device.TheVariants as device
use Rattle.vm_model.specs.declared.event.Event.{Event}
use Rattle.vm_model.specs.declared.command.Command.{Command}
use Rattle.vm_model.specs.declared.command.Command.TheVariants as command
use Rattle.vm_model.specs.declared.command.Numbered.{Numbered}
use Rattle.vm_model.specs.declared.script.Header.{Header}
use Rattle.vm_model.specs.declared.script.Script.{Script}
use Rattle.vm_model.specs.Moments.{before_last_line}
use Rattle.vm_model.specs.Ranges.{InRange}
use Rattle.vm_model.specs.Summary.{count_of, is_line}
use Rattle.vm_model.specs.Text.{text, line_of}
use Rattle.vm_legal.specs.Legal.{CanonicalFor, CanonicalSoFar}
use Rattle.vm_legal.specs.Outside.{Outside}
use Rattle.vm_legal.specs.Steps.{takings}
use Rattle.vm_legal.proofs.Turns.{legal_of, open_in_turn}
use Rattle.vm_outside.specs.Arming.{Arming, ArmedLater, KeepsArming}
use Rattle.vm_system.specs.Steps.{GrowsWithinLimit, IsNextCanonical, KeepsCanonical, LeavesBacking, CanonicalOpen, IsBelowLimit, arms}
use Rattle.vm_system.specs.Steps.{settles}
use Rattle.vm_system.specs.declared.stop.SystemStop.{SystemStop}
use Rattle.vm_system.specs.declared.stop.SystemStop.TheVariants as stops
use Rattle.vm_top.specs.Arming.{BackingLeft, ran_of}
use Rattle.vm_top.specs.Run.{IsPart, IsRunnable, RanAs, front_of, text_so_far}
use Rattle.vm_top.specs.Running.{Arms, BackingRuns, BothCounted, FaultCounts, IsBetweenCommands, IsNextOf, RunStops, Running, Turned}
use Rattle.vm_top.specs.Writing.{WroteBeyond, WroteStart, oldest_items}
use Rattle.vm_top.specs.declared.run.RunEnd.{RunEnd}
use Rattle.vm_top.specs.declared.run.RunEnd.TheVariants as ends
use Rattle.vm_top.specs.declared.words.Report.{Report}
use Rattle.vm_top.specs.declared.words.Report.TheVariants as reports
use Rattle.vm_top.proofs.Arms.{BothHaveCause, arms_of, backing_step, failures_of}
use Rattle.vm_top.proofs.Counting.{lines_more, takings_none}
use Rattle.vm_base.proofs.Lists.{oldest_all, oldest_step}
use Rattle.vm_top.proofs.Starts.{legal_start, oldest_none, order_at, order_left, order_next, range_at}
use Rattle.vm_top.proofs.Writings.{front_start, start_all}

-- what a command's step does to a backing
pub record BackingStep {B : Type 0} (header : Header) (who : Device) (n : Numbered) (new : List Event) (before after : Arming B) : Type 0 where
  pub leaves : LeavesBacking header who n.command new before after
  pub later : arms who n.command ≡ None → ArmedLater before.left before.reached after.left after.reached

-- what a command's step does, where it is made
pub record Stepped {F P : Type 0} (header : Header) (outside : Outside) (n : Numbered) (old new : List Event) (f0 f1 : Arming F) (p0 p1 : Arming P)
    (e0 e1 : FaultCounts) : Type 0 where
  pub legal : KeepsCanonical header outside n old new
  pub grew : GrowsWithinLimit old new
  pub front : before_last_line new ≡ old
  pub files : BackingStep header device.Files n new f0 f1
  pub paging : BackingStep header device.Paging n new p0 p1
  pub devices : BothHaveCause e0 e1 old new

-- the command's line is one more
pub lines_step : (header : Header) (outside : Outside) (n : Numbered) (run : List Numbered) (old new : List Event) → before_last_line new ≡ old
    → IsNextCanonical header outside n run new
    → count_of is_line new ≡ count_of is_line old + 1
lines_step header outside n run old new front next = by_group next.so_far
  where
    by_group : CanonicalOpen header outside (n ∷ run) new → count_of is_line new ≡ count_of is_line old + 1
    by_group legal = let follows = legal.follows in lines_more new old follows.1 follows.0 n.line front follows.2

-- what a step leaves, whatever is written of it
pub record Left {F P : Type 0} (given : Running F P) (new : List Event) (f1 : Arming F) (p1 : Arming P) (e1 : FaultCounts) : Type 0 where
  pub below : IsBelowLimit new
  pub arms : Arms given new f1 p1
  pub failed : BothCounted given.faults e1 new

-- a command's step was made
pub record Made {F P : Type 0} (given : Running F P) (n : Numbered) (old new : List Event) (f1 : Arming F) (p1 : Arming P) (e1 : FaultCounts) : Type 0 where
  pub lines : count_of is_line new ≡ count_of is_line old + 1
  pub here : ran_of given.script new ≡ n ∷ ran_of given.script old
  pub next : IsNextCanonical given.script.header given.outside n (ran_of given.script old) new
  pub left : Left given new f1 p1 e1

pub made : {F P : Type 0} (report : Report) (given : Running F P) (n : Numbered) (old new : List Event) (was : Option (List ℕ)) (f0 f1 : Arming F)
    (p0 p1 : Arming P) (e0 e1 : FaultCounts)
    → IsBetweenCommands report given old was f0 p0 e0 → IsNextOf given.script n old → InRange given.script.header n.command → length old < most_events
    → Stepped given.script.header given.outside n old new f0 f1 p0 p1 e0 e1 → Made given n old new f1 p1 e1
made {F = F} {P = P} report given n old new was f0 f1 p0 p1 e0 e1 runs follows range below step =
    let run = ran_of given.script old in
    let next = step.legal run runs.legal in
    let lines = lines_step given.script.header given.outside n run old new step.front next in
    let here : ran_of given.script new ≡ n ∷ run = ap (λ z. oldest_items z given.script.commands.items) lines ∙ follows in
    let files = backing_step given.script.header device.Files n run old new given.files f0 f1 range step.files.leaves step.files.later step.front
    runs.keeps.arms.files in
    let paging = backing_step given.script.header device.Paging n run old new given.paging p0 p1 range step.paging.leaves step.paging.later step.front
    runs.keeps.arms.paging in
    record {
      lines = lines;
      here = here;
      next = next;
      left = record {
        below = step.grew.limit below runs.keeps.below;
        arms = arms_of given (n ∷ run) new f1 p1 here files paging;
        failed = failures_of given.faults e0 e1 old new step.grew step.devices runs.keeps.failed;
      };
    }

-- the step that is shown: what it began with is what stood there before
front_is : (c : Command) (new old : List Event) → before_last_line new ≡ old → (takings new ≡ 0) ⊎ (settles c ≡ None) → front_of c new ≡ old
front_is (command.Settle count) new old front (inl none) = takings_none new none ∙ front
front_is (command.Settle count) new old front (inr other) = absurd (cc)
front_is other new old front none = front

-- the text grows with the history
text_grown : (more old : List Event) → (rest : List ℕ) × (text (more ++ old) ≡ text old ++ rest)
text_grown [] old = ([], sym (append-nil (text old)))
text_grown (e ∷ more) old =
    let front = text_grown more old in
    (front.0 ++ line_of e, ap (λ z. z ++ line_of e) front.1 ∙ append_assoc (text old) front.0 (line_of e))

pub shown_grown : (report : Report) (start now : Option (List ℕ)) (old new : List Event) → GrowsWithinLimit old new → Appends start now (text_so_far report old)
    → WroteStart start now (text_so_far report new)
shown_grown reports.History start now old new grew wrote =
    let grown = text_grown grew.more old in
    subst (WroteStart start now) (sym (ap text grew.is ∙ grown.1)) (front_start start now (text old) grown.0 wrote)
shown_grown reports.Summary start now old new grew wrote = start_all start now [] wrote

-- what is canonical for the first commands is so as far as it goes

pub open_so_far : (script : Script) (outside : Outside) (later run : List Numbered) (h : List Event) → script.commands.items ≡ later ++ run
    → CanonicalOpen script.header outside run h → CanonicalSoFar script outside h
open_so_far script outside later run h order legal = record {
  later = later;
  run = run;
  order = order;
  follows = legal.follows;
  holds = legal.holds;
  rests = legal.rests;
  ended = legal.ended;
  last = legal.last;
  recalled = legal.recalled;
  recalls = legal.recalls;
}

pub open_whole : (header : Header) (outside : Outside) (run : List Numbered) (h : List Event) → CanonicalFor header outside run h
    → CanonicalOpen header outside run h
open_whole header outside run h legal = record {
  follows = open_in_turn header outside run h legal.follows;
  holds = legal.holds;
  rests = legal.rests;
  ended = legal.ended;
  last = legal.last;
  recalled = legal.recalled;
  recalls = legal.recalls;
}

-- the commands that are left behind the next one
abbrev pub left_of : {F P : Type 0} → Running F P → List Event → List Numbered
left_of given old = take (length given.script.commands.items - (count_of is_line old + 1)) given.script.commands.items

order_made : {F P : Type 0} (given : Running F P) (n : Numbered) (old : List Event) → IsNextOf given.script n old
    → given.script.commands.items ≡ left_of given old ++ n ∷ ran_of given.script old
order_made given n old follows = order_next given.script.commands.items (count_of is_line old) n follows

-- a write failed behind a whole step
pub turn_failed : {F P : Type 0} (report : Report) (given : Running F P) (n : Numbered) (old new : List Event) (now : Option (List ℕ)) (f1 : Arming F)
    (p1 : Arming P) (e1 : FaultCounts)
    → IsNextOf given.script n old → before_last_line new ≡ old → Made given n old new f1 p1 e1 → (report ≡ reports.History)
    × WroteBeyond given.start now (text old) (text new)
    → RanAs report given.script given.outside new ends.Failed given.start now
turn_failed report given n old new now f1 p1 e1 follows front step wrote = (
  wrote.0,
  record {
    later = left_of given old;
    next = n;
    run = ran_of given.script old;
    order = order_made given n old follows;
    legal = step.next.so_far;
    written = subst (λ z. WroteBeyond given.start now (text z) (text new)) (sym (front_is n.command new old front step.next.none)) wrote.1;
  },
)

-- memory ended behind a whole step
pub turn_unshown : {F P : Type 0} (report : Report) (given : Running F P) (n : Numbered) (old new : List Event) (now : Option (List ℕ)) (f1 : Arming F)
    (p1 : Arming P) (e1 : FaultCounts)
    → IsNextOf given.script n old → GrowsWithinLimit old new → Made given n old new f1 p1 e1 → Appends given.start now (text_so_far report old)
    → RanAs report given.script given.outside new ends.NoMemory given.start now
turn_unshown report given n old new now f1 p1 e1 follows grew step wrote = (
  open_so_far given.script given.outside (left_of given old) (n ∷ ran_of given.script old) new (order_made given n old follows) step.next.so_far,
  shown_grown report given.start now old new grew wrote,
)

-- for want of memory the step was not made
pub turn_refused : {F P : Type 0} (report : Report) (given : Running F P) (old new : List Event) (now : Option (List ℕ))
    → CanonicalFor given.script.header given.outside (ran_of given.script old) old → new ≡ old
    → Appends given.start now (text_so_far report old) → RanAs report given.script given.outside new ends.NoMemory given.start now
turn_refused report given old new now legal same wrote =
    let script = given.script in
    let run = ran_of script old in
    let later = take (length script.commands.items - count_of is_line old) script.commands.items in
    subst (λ z. RanAs report script given.outside z ends.NoMemory given.start now) (sym same) (
      open_so_far script given.outside later run old (order_at script.commands.items (count_of is_line old))
          (open_whole script.header given.outside run old legal),
      start_all given.start now (text_so_far report old) wrote,
    )

-- how a turn stops behind its step: a write failed, or memory ended
pub shown_stops : {F P : Type 0} (report : Report) (given : Running F P) (n : Numbered) (old new : List Event) (now : Option (List ℕ)) (f1 : Arming F)
    (p1 : Arming P) (e1 : FaultCounts) (how : RunEnd)
    → IsNextOf given.script n old → before_last_line new ≡ old → GrowsWithinLimit old new → Made given n old new f1 p1 e1
    → (how ≡ ends.Failed → (report ≡ reports.History) × WroteBeyond given.start now (text old) (text new))
    → (how ≡ ends.NoMemory → Appends given.start now (text_so_far report old))
    → (how ≡ ends.Failed) ⊎ (how ≡ ends.NoMemory) → RunStops report given new now f1 p1 e1 how
shown_stops report given n old new now f1 p1 e1 how follows front grew step failed none (inl is) =
    subst (RunStops report given new now f1 p1 e1) (sym is) (record {
      ran = turn_failed report given n old new now f1 p1 e1 follows front step (failed is);
      below = step.left.below;
      arms = step.left.arms;
      failed = step.left.failed;
    })
shown_stops report given n old new now f1 p1 e1 how follows front grew step failed none (inr is) =
    subst (RunStops report given new now f1 p1 e1) (sym is) (record {
      ran = turn_unshown report given n old new now f1 p1 e1 follows grew step (none is);
      below = step.left.below;
      arms = step.left.arms;
      failed = step.left.failed;
    })

-- a backing whose arming was kept is armed as it was
backing_kept : {B : Type 0} (header : Header) (who : Device) (run : List Numbered) (h : List Event) (start before after : Arming B) → KeepsArming before after
    → BackingRuns header who run h start before → BackingRuns header who run h start after
backing_kept header who run h start before after kept was = record {
  left = record {
    none = λ none. rw (kept.0, kept.1) (was.left.none none);
    some = λ count some. rw (kept.0, kept.1) (was.left.some count some);
    untouched = λ count some un. rw kept.0 (was.left.untouched count some un);
    few = rw (kept.0, kept.1) was.left.few;
  };
  rising = rw kept.1 was.rising;
}

pub arms_kept : {F P : Type 0} (given : Running F P) (old new : List Event) (f0 f1 : Arming F) (p0 p1 : Arming P) → new ≡ old → KeepsArming f0 f1
    → KeepsArming p0 p1 → Arms given old f0 p0 → Arms given new f1 p1
arms_kept given old new f0 f1 p0 p1 same files paging was =
    let script = given.script in
    subst (λ z. Arms given z f1 p1) (sym same) (record {
      files = backing_kept script.header device.Files (ran_of script old) old given.files f0 f1 files was.files;
      paging = backing_kept script.header device.Paging (ran_of script old) old given.paging p0 p1 paging was.paging;
    })

-- how a turn stops in its step
pub step_stops : {F P : Type 0} (report : Report) (given : Running F P) (old new : List Event) (now : Option (List ℕ)) (f0 f1 : Arming F) (p0 p1 : Arming P)
    (e0 e1 : FaultCounts)
    → IsBetweenCommands report given old now f0 p0 e0 → GrowsWithinLimit old new → new ≡ old → KeepsArming f0 f1 → KeepsArming p0 p1
    → BothHaveCause e0 e1 old new
    → RunStops report given new now f1 p1 e1 ends.NoMemory
step_stops report given old new now f0 f1 p0 p1 e0 e1 runs grew same files paging devices = record {
  ran = turn_refused report given old new now runs.legal same runs.keeps.written;
  below = subst IsBelowLimit (sym same) runs.keeps.below;
  arms = arms_kept given old new f0 f1 p0 p1 same files paging runs.keeps.arms;
  failed = failures_of given.faults e0 e1 old new grew devices runs.keeps.failed;
}

-- behind the step, where it was shown
pub turned : {F P : Type 0} (report : Report) (given : Running F P) (n : Numbered) (old new : List Event) (now : Option (List ℕ)) (f1 : Arming F)
    (p1 : Arming P) (e1 : FaultCounts) → Made given n old new f1 p1 e1
    → Appends given.start now (text_so_far report new) → Turned report given n new now f1 p1 e1
turned report given n old new now f1 p1 e1 step wrote = record {
  keeps = record { below = step.left.below; written = wrote; arms = step.left.arms; failed = step.left.failed };
  run = ran_of given.script old;
  here = step.here;
  next = step.next;
}

-- why a step stops the run
pub step_ends : (stop : SystemStop) (got end : RunEnd) → (stop ≡ stops.EventLimit → got ≡ ends.EventLimit) → (stop ≡ stops.NoMemory → got ≡ ends.NoMemory)
    → got ≡ end
    → ((stop ≡ stops.EventLimit) × (end ≡ ends.EventLimit)) ⊎ ((stop ≡ stops.NoMemory) × (end ≡ ends.NoMemory))
step_ends stops.EventLimit got end full none is = inl (refl, sym is ∙ full refl)
step_ends stops.NoMemory got end full none is = inr (refl, sym is ∙ none refl)

-- and that no write failed in it
pub step_wrote : (stop : SystemStop) (got : RunEnd) → (stop ≡ stops.EventLimit → got ≡ ends.EventLimit) → (stop ≡ stops.NoMemory → got ≡ ends.NoMemory)
    → got ≡ ends.Failed → ⊥
step_wrote stops.EventLimit got full none is = let other = full refl in absurd (cc)
step_wrote stops.NoMemory got full none is = let other = none refl in absurd (cc)

-- the commands in front of the next one were run
part_of : {F P : Type 0} (report : Report) (given : Running F P) (n : Numbered) (h : List Event) (now : Option (List ℕ)) (f : Arming F) (p : Arming P)
    (e : FaultCounts) → IsBetweenCommands report given h now f p e → IsNextOf given.script n h
    → IsPart given.script given.outside (left_of given h ++ n ∷ []) (ran_of given.script h) h
part_of report given n h now f p e runs follows = record {
  order = order_left given.script.commands.items (count_of is_line h) n follows;
  legal = runs.legal;
}

-- the history is full
pub full_stops : {F P : Type 0} (report : Report) (given : Running F P) (n : Numbered) (h : List Event) (now : Option (List ℕ)) (f : Arming F) (p : Arming P)
    (e : FaultCounts) → IsBetweenCommands report given h now f p e → IsNextOf given.script n h
    → most_events ≤ length h → RunStops report given h now f p e ends.EventLimit
full_stops report given n h now f p e runs follows full = record {
  ran = (
    record {
      full = full;
      left = inl (record { later = left_of given h; next = n; run = ran_of given.script h; part = part_of report given n h now f p e runs follows });
    },
    runs.keeps.written,
  );
  below = runs.keeps.below;
  arms = runs.keeps.arms;
  failed = runs.keeps.failed;
}

-- a command other than a settle is whole behind its step
pub turned_runs : {F P : Type 0} (report : Report) (given : Running F P) (n : Numbered) (h : List Event) (now : Option (List ℕ)) (f : Arming F) (p : Arming P)
    (e : FaultCounts) → Turned report given n h now f p e → settles n.command ≡ None
    → IsBetweenCommands report given h now f p e
turned_runs report given n h now f p e turned other = record {
  keeps = turned.keeps;
  legal = subst (λ z. CanonicalFor given.script.header given.outside z h) (sym turned.here) (turned.next.whole other);
}

pub settles_none : (c : Command) → ((count : ℕ) → c ≡ command.Settle count → ⊥) → settles c ≡ None
settles_none (command.Settle count) other = absurd (other count refl)
settles_none c other = refl

pub same_end : {T : Type 0} {a b : RunEnd} → IsErrOf {T = T} (Err a) b → a ≡ b
same_end is = cc

-- the command at an index is the next one where so many have a line
pub next_at : (given script : Script) (i : ℕ) (n : Numbered) (h : List Event) → given ≡ script → slice_get (reverse script.commands.items) i ≡ Some n
    → count_of is_line h ≡ i → IsNextOf given n h
next_at given script i n h same found lines =
    subst (λ z. IsNextOf z n h) (sym same)
    (subst (λ z. oldest_items (z + 1) script.commands.items ≡ n ∷ oldest_items z script.commands.items) (sym lines)
    (oldest_step script.commands.items i n found))

pub range_of : (given script : Script) (i : ℕ) (n : Numbered) → given ≡ script → IsRunnable script → slice_get (reverse script.commands.items) i ≡ Some n
    → InRange given.header n.command
range_of given script i n same runs found = subst (λ z. InRange z.header n.command) (sym same) (range_at script i n runs found)

-- all commands have a line
pub all_stops : {F P : Type 0} (report : Report) (given : Running F P) (h : List Event) (now : Option (List ℕ)) (f : Arming F) (p : Arming P) (e : FaultCounts)
    → IsBetweenCommands report given h now f p e
    → length given.script.commands.items ≤ count_of is_line h → RunStops report given h now f p e ends.Done
all_stops report given h now f p e runs all =
    let whole = oldest_all given.script.commands.items (count_of is_line h) all in
    let canonical : CanonicalFor given.script.header given.outside given.script.commands.items h = subst
    (λ z. CanonicalFor given.script.header given.outside z h) whole runs.legal in
    record {
      ran = (
        record { legal = legal_of given.script.header given.outside given.script.commands.items h canonical; canonical = canonical },
        runs.keeps.written,
      );
      below = runs.keeps.below;
      arms = runs.keeps.arms;
      failed = runs.keeps.failed;
    }

-- of no events nothing is shown
shown_none : (written : Option (List ℕ)) (report : Report) → Appends written written (text_so_far report [])
shown_none written reports.History = Appends-nil written
shown_none written reports.Summary = Appends-nil written

-- where nothing was run a backing that isn't armed stays so
start_backing : {B : Type 0} (header : Header) (who : Device) (start : Arming B) → start.left ≡ 0 → BackingRuns header who [] [] start start
start_backing header who start unarmed = record {
  left = record { none = λ none. (unarmed, refl); some = λ count some. absurd (cc); untouched = λ count some un. absurd (cc); few = omega (arith, unarmed) };
  rising = omega arith;
}

pub start_left : {B : Type 0} (script : Script) (who : Device) (start : Arming B) (h : List Event) → h ≡ [] → start.left ≡ 0
    → BackingLeft script.header who (ran_of script h) h start start
start_left script who start h nothing unarmed =
    subst (λ z. BackingLeft script.header who (ran_of script z) z start start) (sym nothing)
    (subst (λ z. BackingLeft script.header who z [] start start) (sym (oldest_none script.commands.items)) (start_backing script.header who start unarmed).left)

-- a run begins with nothing
start_run : {F P : Type 0} (report : Report) (given : Running F P) → given.files.left ≡ 0 → given.paging.left ≡ 0
    → IsBetweenCommands report given [] given.start given.files given.paging given.faults
start_run report given files paging =
    let none = oldest_none given.script.commands.items in
    record {
      keeps = record {
        below = tt;
        written = shown_none given.start report;
        arms =
            arms_of given [] [] given.files given.paging none (start_backing given.script.header device.Files given.files files)
            (start_backing given.script.header device.Paging given.paging paging);
        failed = λ who. record { few = inl (omega arith); none = λ none. refl };
      };
      legal = subst (λ z. CanonicalFor given.script.header given.outside z []) (sym none) (legal_start given.script.header given.outside);
    }

pub start_runs : {F P : Type 0} (report : Report) (given : Running F P) (h : List Event) → h ≡ [] → given.files.left ≡ 0 → given.paging.left ≡ 0
    → IsBetweenCommands report given h given.start given.files given.paging given.faults
start_runs report given h nothing files paging =
    subst (λ z. IsBetweenCommands report given z given.start given.files given.paging given.faults) (sym nothing) (start_run report given files paging)

-- nothing was run
pub nothing_ran : (report : Report) (script : Script) (outside : Outside) (h : List Event) (written : Option (List ℕ)) → h ≡ []
    → RanAs report script outside h ends.NoMemory written written
nothing_ran report script outside h written nothing =
    subst (λ z. RanAs report script outside z ends.NoMemory written written) (sym nothing) (
      open_so_far script outside script.commands.items [] [] (sym (append-nil script.commands.items))
          (open_whole script.header outside [] [] (legal_start script.header outside)),
      start_all written written (text_so_far report []) (shown_none written report),
    )
