-- A taking of a settle keeps what a run keeps inside it, or stops the run.
use Rattle.std.proofs.Common.{◌≡◌, ℕ, ◌-◌, ◌<◌, ◌≤◌, ◌⊎◌, inl, inr, List, [], ◌∷◌, ◌++◌, length, take, false, Option, Some, None, ap, sym, ◌∙◌, subst}
use Rattle.std.specs.Prelude.{◌≢◌}
use Rattle.std.specs.Io.KnownBytes.{Appends}
use Rattle.vm_model.specs.Limits.{most_events}
use Rattle.vm_model.specs.declared.event.Device.{Device}
use Rattle.vm_model.specs.declared.event.Device.TheVariants as device
use Rattle.vm_model.specs.declared.event.Event.{Event}
use Rattle.vm_model.specs.declared.command.Command.TheVariants as command
use Rattle.vm_model.specs.declared.command.Numbered.{Numbered}
use Rattle.vm_model.specs.declared.script.Header.{Header}
use Rattle.vm_model.specs.Summary.{count_of, is_line}
use Rattle.vm_model.specs.Text.{text}
use Rattle.vm_legal.specs.InTurn.{FollowsInTurn, FollowsSoFarInTurn}
use Rattle.vm_legal.specs.Legal.{CanonicalFor}
use Rattle.vm_legal.specs.Outside.{Outside}
use Rattle.vm_legal.specs.Steps.{before_step, takings}
use Rattle.vm_legal.specs.Undelivered.{undelivered}
use Rattle.vm_outside.specs.Arming.{Arming, ArmedLater, KeepsArming}
use Rattle.vm_system.specs.Steps.{GrowsWithinLimit, HasMore, IsBelowLimit, KeepsOpen, CanonicalOpen, TakesMore, settles, took_up}
use Rattle.vm_top.specs.Arming.{ran_of}
use Rattle.vm_top.specs.Run.{RanAs, front_of, text_so_far}
use Rattle.vm_top.specs.Running.{BackingRuns, FaultCounts, IsBetweenCommands, RunStops, RunTaking, Running, Settles, Turned}
use Rattle.vm_top.specs.Writing.{WroteBeyond, oldest_items}
use Rattle.vm_top.specs.declared.run.RunEnd.{RunEnd}
use Rattle.vm_top.specs.declared.run.RunEnd.TheVariants as ends
use Rattle.vm_top.specs.declared.words.Report.{Report}
use Rattle.vm_top.specs.declared.words.Report.TheVariants as reports
use Rattle.vm_top.proofs.Arms.{BothHaveCause, backing_taking, arms_of, failures_of}
use Rattle.vm_top.proofs.Counting.{lines_same}
use Rattle.vm_top.proofs.Starts.{order_at}
use Rattle.vm_top.proofs.Turns.{Left, arms_kept, open_so_far, shown_grown}
use Rattle.vm_top.proofs.Writings.{start_all}

-- the command in whose step messages are taken, at a line
abbrev pub settle_at : {F P : Type 0} → RunTaking F P → ℕ → Numbered
settle_at given line = record { line = line; command = given.command }

-- what the taking of a message does to a backing
pub record BackingTook {B : Type 0} (header : Header) (who : Device) (new : List Event) (before after : Arming B) : Type 0 where
  pub later : ArmedLater before.left before.reached after.left after.reached
  pub unasked : took_up header who new ≡ false → after ≡ before

-- what it does, where it is made
pub record Took {F P : Type 0} (given : RunTaking F P) (old new : List Event) (f0 f1 : Arming F) (p0 p1 : Arming P) (e0 e1 : FaultCounts) : Type 0 where
  pub legal : KeepsOpen given.running.script.header given.running.outside given.command old new
  pub grew : GrowsWithinLimit old new
  pub front : before_step new ≡ old
  pub below : length old < most_events
  pub files : BackingTook given.running.script.header device.Files new f0 f1
  pub paging : BackingTook given.running.script.header device.Paging new p0 p1
  pub devices : BothHaveCause e0 e1 old new

-- a taking was made
pub record Held {F P : Type 0} (given : RunTaking F P) (line : ℕ) (run : List Numbered) (old new : List Event) (f1 : Arming F) (p1 : Arming P)
    (e1 : FaultCounts) : Type 0 where
  pub lines : count_of is_line new ≡ count_of is_line old
  pub here : ran_of given.running.script new ≡ settle_at given line ∷ run
  pub legal : TakesMore given.running.script.header given.running.outside (settle_at given line) run old new
  pub left : Left given.running new f1 p1 e1

pub held : {F P : Type 0} (report : Report) (given : RunTaking F P) (old new : List Event) (was : Option (List ℕ)) (f0 f1 : Arming F) (p0 p1 : Arming P)
    (e0 e1 : FaultCounts)
    → (settles : Settles report given old was f0 p0 e0) → Took given old new f0 f1 p0 p1 e0 e1 → Held given settles.line settles.run old new f1 p1 e1
held report given old new was f0 f1 p0 p1 e0 e1 settles took =
    let n = settle_at given settles.line in
    let run = settles.run in
    let legal = took.legal settles.line run settles.legal in
    let lines = lines_same new old took.front legal.more in
    let same : ran_of given.running.script new ≡ ran_of given.running.script old = ap (λ z. oldest_items z given.running.script.commands.items) lines in
    let here : ran_of given.running.script new ≡ n ∷ run = same ∙ settles.here in
    let header = given.running.script.header in
    let files =
    backing_taking header device.Files n run old new given.running.files f0 f1 took.files.later took.files.unasked took.front legal.more
    (subst (λ z. BackingRuns header device.Files z old given.running.files f0) settles.here settles.keeps.arms.files) in
    let paging =
    backing_taking header device.Paging n run old new given.running.paging p0 p1 took.paging.later took.paging.unasked took.front legal.more
    (subst (λ z. BackingRuns header device.Paging z old given.running.paging p0) settles.here settles.keeps.arms.paging) in
    record {
      lines = lines;
      here = here;
      legal = legal;
      left = record {
        below = took.grew.limit took.below settles.keeps.below;
        arms = arms_of given.running (n ∷ run) new f1 p1 here files paging;
        failed = failures_of given.running.faults e0 e1 old new took.grew took.devices settles.keeps.failed;
      };
    }

-- the settle goes on, where the taking was shown
pub settles_on : {F P : Type 0} (report : Report) (given : RunTaking F P) (line : ℕ) (run : List Numbered) (old new : List Event) (now : Option (List ℕ))
    (f1 : Arming F) (p1 : Arming P) (e1 : FaultCounts)
    → Held given line run old new f1 p1 e1 → Appends given.running.start now (text_so_far report new) → Settles report given new now f1 p1 e1
settles_on report given line run old new now f1 p1 e1 step wrote = record {
  keeps = record { below = step.left.below; written = wrote; arms = step.left.arms; failed = step.left.failed };
  line = line;
  run = run;
  here = step.here;
  legal = step.legal.so_far;
}

-- the commands that are left behind the settle
abbrev pub behind : {F P : Type 0} → RunTaking F P → List Event → List Numbered
behind given h = take (length given.running.script.commands.items - count_of is_line h) given.running.script.commands.items

order_of : {F P : Type 0} (given : RunTaking F P) (n : Numbered) (run : List Numbered) (h : List Event) → ran_of given.running.script h ≡ n ∷ run
    → given.running.script.commands.items ≡ behind given h ++ n ∷ run
order_of given n run h here = order_at given.running.script.commands.items (count_of is_line h) ∙ ap (λ z. behind given h ++ z) here

-- a write failed behind the taking
take_failed : {F P : Type 0} (report : Report) (given : RunTaking F P) (line : ℕ) (run : List Numbered) (old new : List Event) (now : Option (List ℕ))
    (f1 : Arming F) (p1 : Arming P) (e1 : FaultCounts)
    → HasMore given.command old → before_step new ≡ old → Held given line run old new f1 p1 e1 → (report ≡ reports.History)
    × WroteBeyond given.running.start now (text old) (text new)
    → RanAs report given.running.script given.running.outside new ends.Failed given.running.start now
take_failed report given line run old new now f1 p1 e1 more front step wrote =
    let shows : front_of given.command new ≡ old = ap (λ z. front_of z new) more.is ∙ front in (
      wrote.0,
      record {
        later = behind given new;
        next = settle_at given line;
        run = run;
        order = order_of given (settle_at given line) run new step.here;
        legal = step.legal.so_far;
        written = subst (λ z. WroteBeyond given.running.start now (text z) (text new)) (sym shows) wrote.1;
      },
    )

-- memory ended behind the taking
take_unshown : {F P : Type 0} (report : Report) (given : RunTaking F P) (line : ℕ) (run : List Numbered) (old new : List Event) (now : Option (List ℕ))
    (f1 : Arming F) (p1 : Arming P) (e1 : FaultCounts)
    → GrowsWithinLimit old new → Held given line run old new f1 p1 e1 → Appends given.running.start now (text_so_far report old)
    → RanAs report given.running.script given.running.outside new ends.NoMemory given.running.start now
take_unshown report given line run old new now f1 p1 e1 grew step wrote = (
  open_so_far given.running.script given.running.outside (behind given new) (settle_at given line ∷ run) new
      (order_of given (settle_at given line) run new step.here) step.legal.so_far,
  shown_grown report given.running.start now old new grew wrote,
)

-- how the run stops behind a taking: a write failed, or memory ended
pub held_stops : {F P : Type 0} (report : Report) (given : RunTaking F P) (line : ℕ) (run : List Numbered) (old new : List Event) (now : Option (List ℕ))
    (f1 : Arming F) (p1 : Arming P) (e1 : FaultCounts) (how : RunEnd)
    → HasMore given.command old → before_step new ≡ old → GrowsWithinLimit old new → Held given line run old new f1 p1 e1
    → (how ≡ ends.Failed → (report ≡ reports.History) × WroteBeyond given.running.start now (text old) (text new))
    → (how ≡ ends.NoMemory → Appends given.running.start now (text_so_far report old))
    → (how ≡ ends.Failed) ⊎ (how ≡ ends.NoMemory) → RunStops report given.running new now f1 p1 e1 how
held_stops report given line run old new now f1 p1 e1 how more front grew step failed none (inl is) =
    subst (RunStops report given.running new now f1 p1 e1) (sym is)
    (record {
      ran = take_failed report given line run old new now f1 p1 e1 more front step (failed is);
      below = step.left.below;
      arms = step.left.arms;
      failed = step.left.failed;
    })
held_stops report given line run old new now f1 p1 e1 how more front grew step failed none (inr is) =
    subst (RunStops report given.running new now f1 p1 e1) (sym is)
    (record {
      ran = take_unshown report given line run old new now f1 p1 e1 grew step (none is);
      below = step.left.below;
      arms = step.left.arms;
      failed = step.left.failed;
    })

-- for want of memory the taking was not made
pub take_stops : {F P : Type 0} (report : Report) (given : RunTaking F P) (old new : List Event) (now : Option (List ℕ)) (f0 f1 : Arming F) (p0 p1 : Arming P)
    (e0 e1 : FaultCounts)
    → Settles report given old now f0 p0 e0 → GrowsWithinLimit old new → new ≡ old → KeepsArming f0 f1 → KeepsArming p0 p1
    → BothHaveCause e0 e1 old new
    → RunStops report given.running new now f1 p1 e1 ends.NoMemory
take_stops report given old new now f0 f1 p0 p1 e0 e1 settles grew same files paging devices =
    let script = given.running.script in
    let outside = given.running.outside in
    let all = settle_at given settles.line ∷ settles.run in record {
      ran = subst (λ z. RanAs report script outside z ends.NoMemory given.running.start now) (sym same) (
        open_so_far script outside (behind given old) all old (order_of given (settle_at given settles.line) settles.run old settles.here) settles.legal,
        start_all given.running.start now (text_so_far report old) settles.keeps.written,
      );
      below = subst IsBelowLimit (sym same) settles.keeps.below;
      arms = arms_kept given.running old new f0 f1 p0 p1 same files paging settles.keeps.arms;
      failed = failures_of given.running.faults e0 e1 old new grew devices settles.keeps.failed;
    }

-- the history is full, and something is there to take
pub take_full : {F P : Type 0} (report : Report) (given : RunTaking F P) (h : List Event) (now : Option (List ℕ)) (f : Arming F) (p : Arming P)
    (e : FaultCounts)
    → Settles report given h now f p e → HasMore given.command h → most_events ≤ length h → undelivered h ≢ []
    → RunStops report given.running h now f p e ends.EventLimit
take_full report given h now f p e settles more full some = record {
  ran = (
    record {
      full = full;
      left = inr (record {
        later = behind given h;
        next = settle_at given settles.line;
        run = settles.run;
        order = order_of given (settle_at given settles.line) settles.run h settles.here;
        legal = settles.legal;
        more = more;
        some = some;
      });
    },
    settles.keeps.written,
  );
  below = settles.keeps.below;
  arms = settles.keeps.arms;
  failed = settles.keeps.failed;
}

-- the counts of faults of both backings
abbrev pub counts_of : ℕ → ℕ → FaultCounts
counts_of files paging = record { files = files; paging = paging }

pub counts_same : (a b c d : ℕ) → a ≡ c → b ≡ d → counts_of a b ≡ counts_of c d
counts_same a b c d files paging = ap (λ z. counts_of z b) files ∙ ap (counts_of c) paging

-- nothing has changed
pub stops_same : {F P : Type 0} (report : Report) (given : RunTaking F P) (old new : List Event) (now : Option (List ℕ)) (f0 f1 : Arming F) (p0 p1 : Arming P)
    (e0 e1 : FaultCounts) (how end : RunEnd)
    → new ≡ old → f1 ≡ f0 → p1 ≡ p0 → e1 ≡ e0 → end ≡ how → RunStops report given.running old now f0 p0 e0 how
    → RunStops report given.running new now f1 p1 e1 end
stops_same report given old new now f0 f1 p0 p1 e0 e1 how end h f p e is was =
    subst (λ z. RunStops report given.running z now f1 p1 e1 end) (sym h)
    (subst (λ z. RunStops report given.running old now z p1 e1 end) (sym f)
    (subst (λ z. RunStops report given.running old now f0 z e1 end) (sym p)
    (subst (λ z. RunStops report given.running old now f0 p0 z end) (sym e)
    (subst (RunStops report given.running old now f0 p0 e0) (sym is) was))))

-- a settle that has taken its messages, or all, is whole
settled : (header : Header) (outside : Outside) (line count : ℕ) (run : List Numbered) (h : List Event) → (takings h ≡ count) ⊎ (undelivered h ≡ [])
    → CanonicalOpen header outside (record { line = line; command = command.Settle count } ∷ run) h
    → CanonicalFor header outside (record { line = line; command = command.Settle count } ∷ run) h
settled header outside line count run h end legal =
    record {
      follows = whole_of legal.follows;
      holds = legal.holds;
      rests = legal.rests;
      ended = legal.ended;
      last = legal.last;
      recalled = legal.recalled;
      recalls = legal.recalls;
    }
  where
    whole_of : FollowsSoFarInTurn header outside (record { line = line; command = command.Settle count } ∷ run) h
        → FollowsInTurn header outside (record { line = line; command = command.Settle count } ∷ run) h
    whole_of (past, group, is, made, done, follows) = (past, group, is, made, subst (λ z. (takings z ≡ count) ⊎ (undelivered z ≡ [])) is end, follows)

-- a settle has ended
pub settle_runs : {F P : Type 0} (report : Report) (given : RunTaking F P) (count : ℕ) (h : List Event) (now : Option (List ℕ)) (f : Arming F) (p : Arming P)
    (e : FaultCounts) → given.command ≡ command.Settle count
    → Settles report given h now f p e → (takings h ≡ count) ⊎ (undelivered h ≡ []) → IsBetweenCommands report given.running h now f p e
settle_runs report given count h now f p e is settles end =
    let header = given.running.script.header in
    let outside = given.running.outside in
    let open_is = subst (λ z. CanonicalOpen header outside (record { line = settles.line; command = z } ∷ settles.run) h) is settles.legal in
    let legal = settled header outside settles.line count settles.run h end open_is in
    record {
      keeps = settles.keeps;
      legal =
          subst (λ z. CanonicalFor header outside z h) (sym settles.here) (subst (λ z. CanonicalFor header outside
          (record { line = settles.line; command = z } ∷ settles.run) h) (sym is) legal);
    }

-- behind its line a settle has taken nothing
pub turned_settles : {F P : Type 0} (report : Report) (given : Running F P) (n : Numbered) (count : ℕ) (h : List Event) (now : Option (List ℕ)) (f : Arming F)
    (p : Arming P) (e : FaultCounts) → n.command ≡ command.Settle count
    → Turned report given n h now f p e → Settles report (record { running = given; command = command.Settle count }) h now f p e
turned_settles report given n count h now f p e is turned = record {
  keeps = turned.keeps;
  line = n.line;
  run = turned.run;
  here = turned.here ∙ ap (λ z. record { line = n.line; command = z } ∷ turned.run) is;
  legal = subst (λ z. CanonicalOpen given.script.header given.outside (record { line = n.line; command = z } ∷ turned.run) h) is turned.next.so_far;
}

pub turned_none : {F P : Type 0} (report : Report) (given : Running F P) (n : Numbered) (count : ℕ) (h : List Event) (now : Option (List ℕ)) (f : Arming F)
    (p : Arming P) (e : FaultCounts) → n.command ≡ command.Settle count
    → Turned report given n h now f p e → takings h ≡ 0
turned_none report given n count h now f p e is turned = elim turned.next.none [
  | inl none ↦ none
  | inr other ↦ let bad : Some count ≡ None = sym (ap settles is) ∙ other in absurd (cc)
]
