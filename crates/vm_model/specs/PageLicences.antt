-- Why each event of a page of a shared object may happen.
use Rattle.std.specs.Prelude.{◌≡◌, ◌≢◌, ◌+◌, ◌==◌, ◌&&◌, ◌||◌, if◌then◌else◌, ℕ, ◌<◌, ◌≤◌, List, [], ◌∷◌, Bool, true, false, Option, Some, None, slice_range}
use Rattle.vm_base.specs.Pages.{little_endian}
use Rattle.vm_model.specs.Words.{UpWord, Asking, Unlocking, Returning, Doing, Ending, OtherUp, DownWord, Supplying, Locking, Lacking, Failing, Readying}
use Rattle.vm_model.specs.Words.{OtherDown, ActEffect, Opens, SendsUp, TakenUp, SentDown, TakesDown, Puts, Drops, Begins, Loads, Stores, Fails, BeginsCopy}
use Rattle.vm_model.specs.Words.{Copies, EndsCopy, StepBegins, Nothing, Act}
use Rattle.vm_model.specs.Side.{Side, side, has_alone, can_read, can_write}
use Rattle.vm_model.specs.Waiters.{Waiter, waiters, waiter_of, any_store, any_load, readers, any_reader}
use Rattle.vm_model.specs.Server.{first, Wanting, wants_write, line, kept}

-- the host

-- to read only for a load that waits or a slow copy that is still to read the page, to write only for a store that
-- waits
abbrev pub has_reason : ℕ → List Waiter → List ℕ → Bool
has_reason access ws rs = (access == 1 && (any_load ws || any_reader rs)) || (access == 3 && any_store ws)

-- why a host may send this
abbrev pub MaySend : List Waiter → List ℕ → Side → UpWord → Type 0
MaySend ws rs s (Asking asker access) =
    (s.right ≡ 0) × (s.asked ≡ false) × (s.ready ≡ true) × (asker ≡ s.control) × (has_reason access ws rs ≡ true)
MaySend ws rs s (Unlocking access) =
    (s.right ≡ 1) × (s.unlocking ≡ false) × (s.step ≡ 0) × (access ≡ 3) × (any_store ws ≡ true)
MaySend ws rs s (Returning dirty keep bytes) =
    (0 < s.right) × (s.dirty ≡ true) × (dirty ≡ true) × (bytes ≡ s.bytes) × (keep ≡ true → s.step ≡ 1)
MaySend ws rs s (Doing control count) =
    (s.control ≡ control) × (count ≡ 1) × (0 < s.step) × (s.step ≡ 2 → s.right ≡ 0) × (has_alone s ≡ false)
MaySend ws rs s (Ending control) = (s.control ≡ control) × (s.right ≡ 0) × (s.asked ≡ false)
MaySend ws rs s OtherUp = Unit {0}

-- a load reads what the host has
abbrev pub MayLoad : Option Waiter → Side → ℕ → Type 0
MayLoad None s value = ⊥
MayLoad (Some w) s value =
    (w.store ≡ false) × (can_read s ≡ true) × (value ≡ little_endian (slice_range s.bytes w.at (w.at + w.size)))

-- a store puts what it began with
abbrev pub MayStore : Option Waiter → Side → ℕ → ℕ → ℕ → Type 0
MayStore None s at size value = ⊥
MayStore (Some w) s at size value =
    (w.store ≡ true) × (can_write s ≡ true) × (at ≡ w.at) × (size ≡ w.size) × (value ≡ w.value)

-- what is taken is the oldest of its channel; no page is put into the host but by a supply, and no access fails
abbrev pub HostMay : List Waiter → List ℕ → Side → ActEffect → Type 0
HostMay ws rs s (Opens control ready) = (s.live ≡ false) × (control ≡ s.control + 1)
HostMay ws rs s (SendsUp control OtherUp) = Unit {0}
HostMay ws rs s (SendsUp control word) = (s.live ≡ true) × (s.control ≡ control) × MaySend ws rs s word
HostMay ws rs s (TakenUp OtherUp) = Unit {0}
HostMay ws rs s (TakenUp word) = first s.up ≡ Some word
HostMay ws rs s (SentDown control word) = ⊥
HostMay ws rs s (TakesDown control Readying) = Unit {0}
HostMay ws rs s (TakesDown control OtherDown) = Unit {0}
HostMay ws rs s (TakesDown control word) = s.control ≡ control → s.live ≡ true → first s.down ≡ Some word
HostMay ws rs s (Puts bytes dirty) = ⊥
HostMay ws rs s Drops = (0 < s.right) × (s.dirty ≡ false)
HostMay ws rs s (Begins task store at size value) = Unit {0}
HostMay ws rs s (Loads task value) = MayLoad (waiter_of task ws) s value
HostMay ws rs s (Stores task at size value) = MayStore (waiter_of task ws) s at size value
HostMay ws rs s (Fails task) = ⊥
HostMay ws rs s (BeginsCopy task times) = Unit {0}
HostMay ws rs s (Copies task) = Unit {0}
HostMay ws rs s (EndsCopy task) = Unit {0}
HostMay ws rs s StepBegins = Unit {0}
HostMay ws rs s Nothing = Unit {0}

-- the server

abbrev pub NobodyAwaited : List Act → Type 0
NobodyAwaited past = (g : ℕ) → (side g past).awaits ≡ 0

abbrev pub OthersHold : ℕ → ℕ → List Act → Type 0
OthersHold n h past = (g : ℕ) → g ≢ h → (side g past).holds ≤ n

-- a supply goes to the front's request: to read where no other host holds Write, to write where no other holds
abbrev pub SupplyRow : ℕ → ℕ → List Act → Option Wanting → Type 0
SupplyRow h lock past None = ⊥
SupplyRow h lock past (Some w) =
    (w.host ≡ h) × (w.upgrade ≡ false) × (lock ≡ (if w.access == 3 then 0 else 2)) × OthersHold (if w.access == 3 then 0 else 1) h past

-- a lock goes to the front's upgrade where no other holds
abbrev pub UpgradeRow : ℕ → Option Wanting → Type 0
UpgradeRow h None = ⊥
UpgradeRow h (Some w) = (w.host ≡ h) × (w.upgrade ≡ true)

-- a lock with a reply goes to a holder for another's front: a flush to write, a clean lock to read what it can write
abbrev pub RecallRow : ℕ → Bool → ℕ → ℕ → Option Wanting → Type 0
RecallRow h flush lock holds None = ⊥
RecallRow h true lock holds (Some w) = (w.host ≢ h) × (lock ≡ 8) × (wants_write w ≡ true)
RecallRow h false lock holds (Some w) = (w.host ≢ h) × (lock ≡ 2) × (wants_write w ≡ false) × (holds ≡ 2)

-- why the server may send this to the host
abbrev pub ReplyCause : ℕ → ℕ → ℕ → DownWord → List Act → Type 0
ReplyCause size h control (Supplying lock precious bytes) past =
    (control ≡ (side h past).heard) × (precious ≡ false) × NobodyAwaited past × (bytes ≡ kept size past) × SupplyRow h lock past (first (line past))
ReplyCause size h control (Locking count returns flush lock true) past =
    (control ≡ (side h past).heard) × (count ≡ 1) × (returns ≡ 1) × ((side h past).awaits ≡ 0) × (0 < (side h past).holds)
    × RecallRow h flush lock (side h past).holds (first (line past))
ReplyCause size h control (Locking count returns flush lock false) past =
    (control ≡ (side h past).heard) × (count ≡ 1) × (returns ≡ 0) × (flush ≡ false) × (lock ≡ 0) × NobodyAwaited past × OthersHold 0 h past
    × UpgradeRow h (first (line past))
ReplyCause size h control Lacking past = ⊥
ReplyCause size h control Failing past = ⊥
ReplyCause size h control Readying past = Unit {0}
ReplyCause size h control OtherDown past = Unit {0}

abbrev pub Cause : ℕ → ℕ → ActEffect → List Act → Type 0
Cause size h (SentDown control word) past = ReplyCause size h control word past
Cause size h e past = HostMay (waiters h past) (readers h past) (side h past) e

-- each act has its cause
abbrev pub ActsLicensed : ℕ → List Act → Type 0
ActsLicensed size [] = Unit {0}
ActsLicensed size (a ∷ past) = Cause size a.host a.effect past × ActsLicensed size past
