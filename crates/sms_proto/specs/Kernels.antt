-- A host's kernel beside the history: what it notes is what the history says.
use Rattle.std.specs.Prelude.{ℕ, ◌≡◌, ◌≢◌, ◌≤◌, ◌<◌, ◌+◌, ◌==◌, true, false, if◌then◌else◌, Option, Some, None, List, [], ◌∷◌, ◌++◌, map, length}
use Rattle.std.specs.VecDeque.{deque_len, deque_capacity}
use Rattle.vm_base.specs.Listing.{Listed}
use Rattle.vm_model.specs.declared.message.Channel.TheVariants.{Up}
use Rattle.vm_model.specs.declared.message.Message.TheVariants as message
use Rattle.vm_model.specs.declared.event.Event.{Event}
use Rattle.vm_model.specs.declared.event.Event.TheVariants as event
use Rattle.vm_model.specs.Side.{Side, side}
use Rattle.vm_model.specs.Waiters.{Waiter, waiters}
use Rattle.vm_model.specs.PagePart.{world_part}
use Rattle.vm_model.specs.Channels.{up_queue, down_queue}
use Rattle.sms_proto.specs.declared.letter.Letter.{Letter}
use Rattle.sms_proto.specs.declared.letter.Letter.TheVariants as letter
use Rattle.sms_proto.specs.declared.letter.Order.{Order}
use Rattle.sms_proto.specs.declared.letter.Order.TheVariants as order
use Rattle.sms_proto.specs.declared.kernel.Kernel.{Kernel}
use Rattle.sms_proto.specs.declared.kernel.Want.{Want}
use Rattle.sms_proto.specs.Letters.{letter_message, letter_word, order_message, order_word, taken_first}
use Rattle.vm_model.specs.Server.{first}
use Rattle.sms_proto.specs.Steps.{begun_event, put_away_event}

-- P holds of each
abbrev pub Each : {A : Type 0} → (A → Type 0) → List A → Type 0
Each P [] = Unit {0}
Each P (x ∷ xs) = P x × Each P xs

-- one or the other, as no access waits or one does
abbrev pub where_idle : {A B : Type 0} → Option A → B → B → B
where_idle None idle busy = idle
where_idle (Some want) idle busy = busy

abbrev pub idle_head : {A : Type 0} → Option A → Event → Option Event
idle_head None e = Some e
idle_head (Some want) e = None

-- an access of a task that waits: eight bytes from the page's front on
abbrev pub waiter : ℕ → Want → Waiter
waiter task want = record { task = task; store = want.store; at = 0; size = 8; value = want.value }

abbrev pub waiter_list : ℕ → Option Want → List Waiter
waiter_list task None = []
waiter_list task (Some want) = waiter task want ∷ []

-- a letter's page has so many bytes, and a request names no control that is still to come
abbrev pub IsProper : ℕ → ℕ → Letter → Type 0
IsProper size control (letter.Request asker access) = asker ≤ control
IsProper size control (letter.Return returner keep bytes) = length bytes ≡ size
IsProper size control l = Unit {0}

abbrev pub IsWholeOrder : ℕ → Order → Type 0
IsWholeOrder size (order.Supply writes bytes) = length bytes ≡ size
IsWholeOrder size o = Unit {0}

-- the lock of a page that is here
abbrev pub lock_with : ℕ → ℕ
lock_with right = if right == 2 then 0 else 2

-- what the history says of the kernel's host
abbrev pub kernel_side : List Event → Kernel → Side
kernel_side history k = side k.host.0 (world_part k.size history)

pub record KernelFits (history : List Event) (k : Kernel) : Type 0 where
  pub control : (kernel_side history k).control ≡ k.control
  pub live : (kernel_side history k).live ≡ k.live
  pub ready : k.live ≡ true → (kernel_side history k).ready ≡ true
  pub right : (kernel_side history k).right ≡ k.right
  pub lock : 0 < k.right → (kernel_side history k).lock ≡ lock_with k.right
  pub bytes : 0 < k.right → (kernel_side history k).bytes ≡ k.bytes
  pub dirty : (kernel_side history k).dirty ≡ k.dirty
  pub asked : (kernel_side history k).asked ≡ k.asked
  pub unlocking : (kernel_side history k).unlocking ≡ k.unlocking
  pub step : (kernel_side history k).step ≡ 0
  pub heard : (kernel_side history k).heard ≡ k.heard
  pub up : (kernel_side history k).up ≡ map letter_word k.up.items
  pub down : (kernel_side history k).down ≡ map order_word k.down.items
  pub waits : waiters k.host.0 (world_part k.size history) ≡ waiter_list k.host.0 k.want
  pub sent : up_queue k.host.0 0 history ≡ map letter_message k.up.items
  pub coming : k.live ≡ true → down_queue k.host.0 0 k.control history ≡ map order_message k.down.items
  pub later : (n : ℕ) → k.control < n → down_queue k.host.0 0 n history ≡ []
  -- a host without a control has nothing; what is asked is not here, and somebody waits for it
  pub gone_right : k.live ≡ false → k.right ≡ 0
  pub gone_down : k.live ≡ false → k.down.items ≡ []
  pub gone_asked : k.live ≡ false → k.asked ≡ false
  pub asked_away : k.asked ≡ true → k.right ≡ 0
  pub asked_waits : k.asked ≡ true → k.want ≢ None
  pub bounded : k.right ≤ 2
  pub heard_before : k.heard ≤ k.control
  pub proper : Each (IsProper k.size k.control) k.up.items
  pub supplies : Each (IsWholeOrder k.size) k.down.items
  pub whole : length k.bytes ≡ k.size
  pub front : 8 ≤ k.size

-- an access that waits has asked, or has an unlock outstanding
abbrev pub IsPrompt : Kernel → Type 0
IsPrompt k = k.want ≢ None → k.asked ≡ false → (0 < k.right) × (k.unlocking ≡ true)

-- so many more events and letters take no memory
pub record HasRoom (n : ℕ) (list : Listed Event) (k : Kernel) : Type 0 where
  pub events : n ≤ list.room
  pub letters : deque_len k.up + n ≤ deque_capacity k.up

-- what a kernel's steps add

abbrev pub access_head : Kernel → Want → Option Event
access_head k want = idle_head k.want (begun_event k.host.0 want.store want.value)

abbrev pub order_head : Kernel → Option Event
order_head k = if k.live then taken_first k.host k.control (first k.down.items) else None

abbrev pub given_up : Kernel → List Event
given_up k = if 0 == k.right then [] else put_away_event k.host.0 k.control k.dirty k.bytes ∷ []

abbrev pub evicted_by : Kernel → List Event → List Event
evicted_by k old = where_idle k.want (given_up k ++ old) old

abbrev pub kernel_leaves : Kernel → List Event → List Event
kernel_leaves k old =
    if k.live then where_idle k.want (event.Sent (Up k.host (record { 0 = 0 })) (message.Terminate k.control) ∷ given_up k ++ old) old else old

-- the same host, with the same access waiting and the same of the page
pub record SamePage (k m : Kernel) : Type 0 where
  pub same_host : m.host ≡ k.host
  pub same_size : m.size ≡ k.size
  pub same_want : m.want ≡ k.want
  pub same_asked : m.asked ≡ k.asked
  pub same_right : m.right ≡ k.right
  pub same_unlocking : m.unlocking ≡ k.unlocking
