-- What is on the way, as messages and as words of the page.
use Rattle.std.specs.Prelude.{ℕ, Bool, true, false, if◌then◌else◌, Option, Some, None, List}
use Rattle.vm_base.specs.declared.ids.HostId.{HostId}
use Rattle.vm_model.specs.declared.message.Channel.TheVariants.{Up, Down}
use Rattle.vm_model.specs.declared.event.Event.{Event}
use Rattle.vm_model.specs.declared.event.Event.TheVariants.{Sent, Taken, Dropped}
use Rattle.vm_base.specs.declared.ids.PageNo.{PageNo}
use Rattle.vm_model.specs.declared.message.Message.{Message}
use Rattle.vm_model.specs.declared.message.Message.TheVariants as message
use Rattle.vm_model.specs.Words.{UpWord, Asking, Unlocking, Returning, Doing, Ending, DownWord, Supplying, Locking}
use Rattle.sms_pages.specs.Directory.{wanted_access}
use Rattle.sms_proto.specs.declared.letter.Letter.{Letter}
use Rattle.sms_proto.specs.declared.letter.Letter.TheVariants as letter
use Rattle.sms_proto.specs.declared.letter.Order.{Order}
use Rattle.sms_proto.specs.declared.letter.Order.TheVariants as order

-- the world's one page
abbrev pub the_page : PageNo
the_page = record { 0 = 0 }

abbrev pub letter_message : Letter → Message
letter_message (letter.Request control access) = message.Request control the_page (wanted_access access)
letter_message (letter.Unlock control) = message.Unlock control the_page 3
letter_message (letter.Return control keep bytes) = message.Return control the_page true keep bytes
letter_message (letter.Completed control) = message.Completed control the_page 1
letter_message (letter.Terminate control) = message.Terminate control

abbrev pub letter_word : Letter → UpWord
letter_word (letter.Request control access) = Asking control (wanted_access access)
letter_word (letter.Unlock control) = Unlocking 3
letter_word (letter.Return control keep bytes) = Returning true keep bytes
letter_word (letter.Completed control) = Doing control 1
letter_word (letter.Terminate control) = Ending control

-- the lock of a supply
abbrev pub supply_lock : Bool → ℕ
supply_lock writes = if writes then 0 else 2

abbrev pub order_message : Order → Message
order_message (order.Supply writes bytes) = message.Supply the_page (supply_lock writes) false bytes
order_message order.Flush = message.Lock the_page 1 1 true 8 true
order_message order.Clean = message.Lock the_page 1 1 false 2 true
order_message order.Unlock = message.Lock the_page 1 0 false 0 false

abbrev pub order_word : Order → DownWord
order_word (order.Supply writes bytes) = Supplying (supply_lock writes) false bytes
order_word order.Flush = Locking 1 1 true 8 true
order_word order.Clean = Locking 1 1 false 2 true
order_word order.Unlock = Locking 1 0 false 0 false

-- the taking of an order by a control of the host
abbrev pub order_taken : HostId → ℕ → Order → Event
order_taken host control o = Taken (Down host (record { 0 = 0 }) control) (order_message o)

abbrev pub taken_first : HostId → ℕ → Option Order → Option Event
taken_first host control None = None
taken_first host control (Some o) = Some (order_taken host control o)

-- what a host does while it takes an order

abbrev pub done_event : HostId → ℕ → Event
done_event host control = Sent (Up host (record { 0 = 0 })) (message.Completed control the_page 1)

abbrev pub return_event : HostId → ℕ → Bool → List ℕ → Event
return_event host control keep bytes =
    Sent (Up host (record { 0 = 0 })) (message.Return control the_page true keep bytes)

abbrev pub drop_event : HostId → Event
drop_event host = Dropped host (record { 0 = 0 }) the_page

-- the server's part

abbrev pub letter_taken : HostId → Letter → Event
letter_taken host l = Taken (Up host (record { 0 = 0 })) (letter_message l)

abbrev pub order_sent : HostId → ℕ → Order → Event
order_sent host control o = Sent (Down host (record { 0 = 0 }) control) (order_message o)

-- the control of the last request taken from a host, once a letter of it is taken
abbrev pub heard_by : ℕ → Letter → ℕ
heard_by heard (letter.Request control access) = control
heard_by heard l = heard
