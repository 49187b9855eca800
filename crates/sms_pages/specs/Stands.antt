-- A page's directory beside the page's history: what it notes is what the history says.
use Rattle.std.specs.Prelude.{ℕ, ◌≡◌, ◌≤◌, ◌<◌, ◌+◌, ◌==◌, Bool, true, false, if◌then◌else◌, Some, List, [], ◌∷◌, ◌++◌, length, slice_index}
use Rattle.vm_base.specs.Limits.{most_hosts}
use Rattle.vm_base.specs.declared.ids.Lock.{Lock}
use Rattle.vm_model.specs.Words.{Act, Supplying, Locking, SentDown, TakenUp, UpWord}
use Rattle.vm_model.specs.Side.{side}
use Rattle.vm_model.specs.Server.{Wanting, first, line, kept, NoUpgrade, NoRequest}
use Rattle.vm_model.specs.PageLicences.{ActsLicensed}
use Rattle.vm_model.specs.Coherence.{SomebodyIsAwaited}
use Rattle.sms_pages.specs.declared.reply.Reply.{Reply}
use Rattle.sms_pages.specs.declared.reply.Reply.TheVariants.{Supply, Flush, CleanLock, Unlock}
use Rattle.sms_pages.specs.Directory.{Directory, Outcome, is_recalled}

-- an upgrade counts only while its host holds Read
abbrev pub counts : List ℕ → Wanting → Bool
counts holds w = if w.upgrade then slice_index holds w.host == 1 else true

abbrev pub count_wanting : List ℕ → List Wanting → List Wanting
count_wanting holds [] = []
count_wanting holds (w ∷ ws) = if counts holds w then w ∷ count_wanting holds ws else count_wanting holds ws

-- each is of one of eight hosts; a host is in it once with an upgrade and once with a request, the upgrade in front
abbrev pub LineIsInTurn : List Wanting → Type 0
LineIsInTurn [] = Unit {0}
LineIsInTurn (w ∷ ws) = (w.host < most_hosts) × NoUpgrade w.host ws × (w.upgrade ≡ false → NoRequest w.host ws) × LineIsInTurn ws

pub record DirectoryStands (size : ℕ) (holds awaits : List ℕ) (bytes : List ℕ) (wants : List Wanting) (past : List Act) : Type 0 where
  pub same_holds : (h : ℕ) → (side h past).holds ≡ slice_index holds h
  pub same_awaits : (h : ℕ) → (side h past).awaits ≡ slice_index awaits h
  pub same_line : line past ≡ count_wanting holds wants
  pub same_bytes : kept size past ≡ bytes
  pub eight_hold : length holds ≡ most_hosts
  pub eight_await : length awaits ≡ most_hosts
  pub bounded : (h : ℕ) → slice_index holds h ≤ 2
  pub in_turn : LineIsInTurn wants
  -- a host whose request waits holds nothing, and one that can write has no upgrade waiting
  pub waiting : (h : ℕ) → 0 < slice_index holds h → NoRequest h wants
  pub writing : (h : ℕ) → slice_index holds h ≡ 2 → NoUpgrade h wants

abbrev pub lock_number : Lock → ℕ
lock_number l = (if l.read then 1 else 0) + (if l.write then 2 else 0)

-- the sending of a reply, to the control that the server knows of the host
abbrev pub reply_act : (ℕ → ℕ) → Reply → Act
reply_act heard (Supply host lock bytes) =
    record { host = host.0; effect = SentDown (heard host.0) (Supplying (lock_number lock) false bytes) }
reply_act heard (Flush host) = record { host = host.0; effect = SentDown (heard host.0) (Locking 1 1 true 8 true) }
reply_act heard (CleanLock host) = record { host = host.0; effect = SentDown (heard host.0) (Locking 1 1 false 2 true) }
reply_act heard (Unlock host) = record { host = host.0; effect = SentDown (heard host.0) (Locking 1 0 false 0 false) }

-- the replies as acts, the newest first
abbrev pub reply_acts : (ℕ → ℕ) → List Reply → List Act
reply_acts heard [] = []
reply_acts heard (r ∷ rs) = reply_act heard r ∷ reply_acts heard rs

abbrev pub Hears : (ℕ → ℕ) → List Act → Type 0
Hears heard past = (h : ℕ) → heard h ≡ (side h past).heard

-- the past with the replies has a cause for each act, and what serving leaves stands for it
pub record ServingFollows (size : ℕ) (heard : ℕ → ℕ) (bytes : List ℕ) (s : Outcome) (past : List Act) : Type 0 where
  pub licensed : ActsLicensed size (reply_acts heard s.replies ++ past)
  pub stands : DirectoryStands size s.holds s.awaits bytes s.line (reply_acts heard s.replies ++ past)

abbrev pub StandsFor : ℕ → Directory → List Act → Type 0
StandsFor size d past = DirectoryStands size d.holds d.awaits d.bytes d.line past

-- each host is awaited that the first in line would have recalled if it weren't
abbrev pub AllAreRecalled : List Act → Type 0
AllAreRecalled past =
    (host : ℕ) (w : Wanting) → first (line past) ≡ Some w → is_recalled w host (side host past).holds 0 ≡ true → 0 < (side host past).awaits

-- each reply has its cause, the directory stands for the past with them, and where somebody still waits a host is
-- awaited, and with it each that stands in the way of the first in line
pub record RepliesHaveCause (size : ℕ) (heard : ℕ → ℕ) (after : Directory) (replies : List Reply) (past : List Act) : Type 0 where
  pub licensed : ActsLicensed size (reply_acts heard replies ++ past)
  pub stands : StandsFor size after (reply_acts heard replies ++ past)
  pub served : SomebodyIsAwaited (reply_acts heard replies ++ past)
  pub recalled : AllAreRecalled (reply_acts heard replies ++ past)

-- the taking of a message of the host
abbrev pub taking_act : ℕ → UpWord → Act
taking_act h word = record { host = h; effect = TakenUp word }
