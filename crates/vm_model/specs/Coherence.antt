-- What holds of a shared page: one writer, the same bytes everywhere, and nobody waits in vain.
use Rattle.std.specs.Prelude.{◌≡◌, ◌≢◌, ◌⊎◌, ◌+◌, ℕ, ◌<◌, List, [], ◌∷◌, Bool, true, false, Option, Some, None, slice_range}
use Rattle.vm_base.specs.Pages.{little_endian}
use Rattle.vm_model.specs.Words.{UpWord, Asking, Unlocking, Returning, Doing, Ending, OtherUp, DownWord, Supplying, Locking, Lacking, Failing, Readying}
use Rattle.vm_model.specs.Words.{OtherDown, ActEffect, Opens, SendsUp, TakenUp, SentDown, TakesDown, Puts, Drops, Begins, Loads, Stores, Fails, BeginsCopy}
use Rattle.vm_model.specs.Words.{Copies, EndsCopy, StepBegins, Nothing, Act}
use Rattle.vm_model.specs.Side.{Side, side, can_read, can_write}
use Rattle.vm_model.specs.Waiters.{Waiter, waiters, waiter_of}
use Rattle.vm_model.specs.Server.{line, current}
use Rattle.vm_model.specs.PageLicences.{ActsLicensed}

-- at every moment, also inside a step
abbrev pub Throughout : (List Act → Type 0) → List Act → Type 0
Throughout P [] = P []
Throughout P (a ∷ past) = P (a ∷ past) × Throughout P past

-- while a host can write the page, no other can read it
abbrev pub OneWriter : List Act → Type 0
OneWriter past = (g h : ℕ) → g ≢ h → can_write (side h past) ≡ true → can_read (side g past) ≡ false

-- the bytes on the way

abbrev pub SaysUp : List ℕ → UpWord → Type 0
SaysUp page (Returning dirty keep bytes) = bytes ≡ page
SaysUp page (Asking control access) = Unit {0}
SaysUp page (Unlocking access) = Unit {0}
SaysUp page (Doing control count) = Unit {0}
SaysUp page (Ending control) = Unit {0}
SaysUp page OtherUp = Unit {0}

abbrev pub SaysDown : List ℕ → DownWord → Type 0
SaysDown page (Supplying lock precious bytes) = bytes ≡ page
SaysDown page (Locking count returns flush lock reply) = Unit {0}
SaysDown page Lacking = Unit {0}
SaysDown page Failing = Unit {0}
SaysDown page Readying = Unit {0}
SaysDown page OtherDown = Unit {0}

abbrev pub CarryUp : List ℕ → List UpWord → Type 0
CarryUp page [] = Unit {0}
CarryUp page (w ∷ q) = SaysUp page w × CarryUp page q

abbrev pub CarryDown : List ℕ → List DownWord → Type 0
CarryDown page [] = Unit {0}
CarryDown page (w ∷ q) = SaysDown page w × CarryDown page q

-- the host has these bytes of the page, and so has each message on its way
pub record Carries (page : List ℕ) (s : Side) : Type 0 where
  pub here : 0 < s.right → s.bytes ≡ page
  pub coming : CarryDown page s.down
  pub going : CarryUp page s.up

-- every host, and each supply and each return on the way, has what the stores left
abbrev pub SameBytes : ℕ → List Act → Type 0
SameBytes size past = (h : ℕ) → Carries (current size past) (side h past)

abbrev pub WaiterReads : List ℕ → ℕ → Option Waiter → Type 0
WaiterReads page value None = ⊥
WaiterReads page value (Some w) = value ≡ little_endian (slice_range page w.at (w.at + w.size))

abbrev pub LoadReads : ℕ → ℕ → ActEffect → List Act → Type 0
LoadReads size h (Loads task value) past = WaiterReads (current size past) value (waiter_of task (waiters h past))
LoadReads size h (Opens control ready) past = Unit {0}
LoadReads size h (SendsUp control word) past = Unit {0}
LoadReads size h (TakenUp word) past = Unit {0}
LoadReads size h (SentDown control word) past = Unit {0}
LoadReads size h (TakesDown control word) past = Unit {0}
LoadReads size h (Puts bytes dirty) past = Unit {0}
LoadReads size h Drops past = Unit {0}
LoadReads size h (Begins task store at bytes value) past = Unit {0}
LoadReads size h (Stores task at bytes value) past = Unit {0}
LoadReads size h (Fails task) past = Unit {0}
LoadReads size h (BeginsCopy task times) past = Unit {0}
LoadReads size h (Copies task) past = Unit {0}
LoadReads size h (EndsCopy task) past = Unit {0}
LoadReads size h StepBegins past = Unit {0}
LoadReads size h Nothing past = Unit {0}

-- each load answers what the stores in front of it left
abbrev pub EachLoadReads : ℕ → List Act → Type 0
EachLoadReads size [] = Unit {0}
EachLoadReads size (a ∷ past) = LoadReads size a.host a.effect past × EachLoadReads size past

-- A shared page behaves as one memory: each event has its cause, at every moment there is one writer and every copy
-- has the same bytes, and each load answers them.
pub record PageLegal (size : ℕ) (acts : List Act) : Type 0 where
  pub licensed : ActsLicensed size acts
  pub one_writer : Throughout OneWriter acts
  pub same_bytes : Throughout (SameBytes size) acts
  pub loads : EachLoadReads size acts

-- what a step owes at its end

-- a lock with a reply is done in the step that took it
abbrev pub Done : List Act → Type 0
Done past = (h : ℕ) → (side h past).step ≡ 0

abbrev pub begins_step : ActEffect → Bool
begins_step (TakenUp word) = true
begins_step (TakesDown control word) = true
begins_step StepBegins = true
begins_step e = false

abbrev pub StepsDone : List Act → Type 0
StepsDone [] = Unit {0}
StepsDone (a ∷ past) = (begins_step a.effect ≡ true → Done past) × StepsDone past

-- an access that waits has asked, has an unlock outstanding, or waits for the control to be ready
abbrev pub WaitersHaveAsked : List Act → Type 0
WaitersHaveAsked past = (h : ℕ) → waiters h past ≢ [] →
    ((side h past).asked ≡ true) ⊎ (((0 < (side h past).right) × ((side h past).unlocking ≡ true))
    ⊎ (((side h past).live ≡ true) × ((side h past).ready ≡ false)))

-- where the server's line is not empty, a host is awaited
abbrev pub SomebodyIsAwaited : List Act → Type 0
SomebodyIsAwaited past = line past ≢ [] → (h : ℕ) × (0 < (side h past).awaits)

-- nothing of the page is on its way, every live control is ready, and no step is under way
pub record Quiet (past : List Act) : Type 0 where
  pub no_up : (h : ℕ) → (side h past).up ≡ []
  pub no_down : (h : ℕ) → (side h past).down ≡ []
  pub all_ready : (h : ℕ) → (side h past).live ≡ true → (side h past).ready ≡ true
  pub done : Done past

-- no place is asked, and no unlock is outstanding
pub record NothingIsAsked (past : List Act) : Type 0 where
  pub none_asked : (h : ℕ) → (side h past).asked ≡ false
  pub none_unlocking : (h : ℕ) → 0 < (side h past).right → (side h past).unlocking ≡ false

abbrev pub NobodyWaits : List Act → Type 0
NobodyWaits past = (h : ℕ) → waiters h past ≡ []
