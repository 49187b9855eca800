-- The world beside its history: each host's kernel and the directory are what the history says.
use Rattle.std.specs.Prelude.{ℕ, ◌+◌, not, ◌≡◌, ◌≢◌, ◌≤◌, List, Option, Some, None, [], length, slice_get}
use Rattle.vm_base.specs.Limits.{most_hosts}
use Rattle.vm_model.specs.declared.event.Event.{Event}
use Rattle.vm_model.specs.Side.{side, nobody}
use Rattle.vm_model.specs.Waiters.{waiters}
use Rattle.vm_model.specs.PagePart.{world_part}
use Rattle.vm_model.specs.Channels.{up_queue, down_queue}
use Rattle.vm_model.specs.PageLicences.{ActsLicensed}
use Rattle.vm_model.specs.Coherence.{Done, StepsDone, SomebodyIsAwaited}
use Rattle.std.specs.VecDeque.{deque_len, deque_capacity}
use Rattle.vm_base.specs.declared.ids.HostId.{HostId}
use Rattle.sms_pages.specs.Directory.{Directory, wanted_access, requested, unlock_heard, saved, finished, ended}
use Rattle.sms_pages.specs.declared.reply.Reply.{Reply}
use Rattle.sms_pages.specs.declared.reply.Reply.TheVariants as reply
use Rattle.sms_pages.specs.Stands.{StandsFor, RepliesHaveCause}
use Rattle.sms_pages.specs.Desk.{AllLong}
use Rattle.sms_proto.specs.declared.letter.Letter.{Letter}
use Rattle.sms_proto.specs.declared.letter.Letter.TheVariants as letter
use Rattle.sms_proto.specs.declared.letter.Order.{Order}
use Rattle.sms_proto.specs.declared.letter.Order.TheVariants as order
use Rattle.sms_proto.specs.declared.kernel.Kernel.{Kernel}
use Rattle.sms_proto.specs.Kernels.{IsPrompt, KernelFits}

-- what host g has of the page and of its channels is as it was
pub record SameHostSide (size g : ℕ) (old new : List Event) : Type 0 where
  pub same_side : side g (world_part size new) ≡ side g (world_part size old)
  pub same_waits : waiters g (world_part size new) ≡ waiters g (world_part size old)
  pub same_up : up_queue g 0 new ≡ up_queue g 0 old
  pub same_down : (n : ℕ) → down_queue g 0 n new ≡ down_queue g 0 n old

-- what events of host h alone leave: the other hosts, what steps owe, and what the server knows
pub record Moved (size h : ℕ) (old new : List Event) : Type 0 where
  pub kept : (g : ℕ) → g ≢ h → (side g (world_part size old)).step ≡ 0 → SameHostSide size g old new
  pub steps : Done (world_part size old) → StepsDone (world_part size old) → StepsDone (world_part size new)
  pub stands : (d : Directory) → StandsFor size d (world_part size old) → StandsFor size d (world_part size new)

-- a host that the world doesn't have
pub record Absent (size g : ℕ) (history : List Event) : Type 0 where
  pub nothing : side g (world_part size history) ≡ nobody
  pub no_waits : waiters g (world_part size history) ≡ []

-- a host of the world
pub record Present (pages g : ℕ) (history : List Event) (k : Kernel) : Type 0 where
  pub same_host : k.host.0 ≡ g
  pub same_size : k.size ≡ pages
  pub fits : KernelFits history k
  pub prompt : IsPrompt k

abbrev pub StandsAt : ℕ → ℕ → List Event → Option Kernel → Type 0
StandsAt size g history None = Absent size g history
StandsAt size g history (Some k) = Present size g history k

pub record WorldStands (size : ℕ) (kernels : List Kernel) (d : Directory) (history : List Event) : Type 0 where
  pub licensed : ActsLicensed size (world_part size history)
  pub steps : StepsDone (world_part size history)
  pub served : SomebodyIsAwaited (world_part size history)
  pub noted : StandsFor size d (world_part size history)
  pub each : (g : ℕ) → StandsAt size g history (slice_get kernels g)
  pub few : length kernels ≤ most_hosts
  pub long : length d.bytes ≡ size

-- the server's answers

-- what the server notes of a letter, before it serves its line
abbrev pub noted_by : ℕ → Letter → Directory → Directory
noted_by h (letter.Request control access) d = requested h (wanted_access access) d
noted_by h (letter.Unlock control) d = unlock_heard h d
noted_by h (letter.Return control keep bytes) d = saved h keep bytes d
noted_by h (letter.Completed control) d = finished h d
noted_by h (letter.Terminate control) d = ended h d

abbrev pub heard_of : Option Kernel → ℕ
heard_of None = 0
heard_of (Some k) = k.heard

-- the control of the last request taken from each host
abbrev pub heard_in : List Kernel → ℕ → ℕ
heard_in kernels g = heard_of (slice_get kernels g)

-- the host and the order of a reply
abbrev pub reply_host : Reply → HostId
reply_host (reply.Supply host lock bytes) = host
reply_host (reply.Flush host) = host
reply_host (reply.CleanLock host) = host
reply_host (reply.Unlock host) = host

abbrev pub reply_order : Reply → Order
reply_order (reply.Supply host lock bytes) = order.Supply (not lock.write) bytes
reply_order (reply.Flush host) = order.Flush
reply_order (reply.CleanLock host) = order.Clean
reply_order (reply.Unlock host) = order.Unlock

-- the server has replies to send, the newest first, and what it knows stands for the history with them
pub record Answering (size : ℕ) (kernels : List Kernel) (d : Directory) (replies : List Reply) (history : List Event) : Type 0 where
  pub answered : RepliesHaveCause size (heard_in kernels) d replies (world_part size history)
  pub steps : StepsDone (world_part size history)
  pub each : (g : ℕ) → StandsAt size g history (slice_get kernels g)
  pub few : length kernels ≤ most_hosts
  pub long : length d.bytes ≡ size

-- each host has room for so many more orders
abbrev pub HasPlaces : ℕ → List Kernel → Type 0
HasPlaces n kernels = (g : ℕ) (k : Kernel) → slice_get kernels g ≡ Some k → deque_len k.down + n ≤ deque_capacity k.down

-- the page that a letter carries has so many bytes
abbrev pub IsLong : ℕ → Letter → Type 0
IsLong size (letter.Return control keep bytes) = length bytes ≡ size
IsLong size l = Unit {0}

-- the pages at hand are as long as that of the order
abbrev pub IsSupplied : Order → List (List ℕ) → Type 0
IsSupplied (order.Supply writes bytes) pages = AllLong (length bytes) pages
IsSupplied o pages = Unit {0}
