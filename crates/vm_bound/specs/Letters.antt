-- What undelivered messages may still cause, each itself counted.
use Rattle.std.specs.Prelude.{ℕ, ◌+◌, ◌*◌, Bool, List, [], ◌∷◌, length, if◌then◌else◌}
use Rattle.vm_legal.specs.Outside.{is_shared}
use Rattle.vm_legal.specs.Undelivered.{undelivered}
use Rattle.vm_legal.specs.Steps.{Letter}
use Rattle.vm_model.specs.Named.{declared_pages}
use Rattle.vm_model.specs.declared.event.Event.{Event}
use Rattle.vm_model.specs.declared.message.Channel.{Channel}
use Rattle.vm_model.specs.declared.message.Channel.TheVariants.{Up, Down}
use Rattle.vm_model.specs.declared.message.Message.{Message}
use Rattle.vm_model.specs.declared.message.Message.TheVariants as message
use Rattle.vm_model.specs.declared.script.Header.{Header}

-- how many hosts there are
abbrev pub host_count : Header → ℕ
host_count header = length header.frames.items

-- what one who wants a page of a shared object costs the server and the others: of each other host a recall, which is done, and the answer
abbrev pub wish_weight : ℕ → ℕ
wish_weight hosts = 3 * hosts

-- A message of a declared object with so many pages, shared or not, or of a temporary one. A pager that is told of the object says that it is
-- ready; with that, and with a change of attributes, the object may end, with a return of each page. A lock is done at each page of its range,
-- and then the host says so; a page that it takes away from those who wait is asked for once more. A request is answered; by the server of
-- shared memory when its turn has come.
abbrev pub message_weight : ℕ → Bool → ℕ → Message → ℕ
message_weight hosts shared pages (message.Init control size) = pages + 4
message_weight hosts shared pages (message.Create control size) = pages + 4
message_weight hosts shared pages (message.Ready cache strategy) = pages + 3
message_weight hosts shared pages (message.Attributes cache strategy reply) = pages + 3
message_weight hosts shared pages (message.Request control page access) = if shared then wish_weight hosts + 1 else 2
message_weight hosts shared pages (message.Unlock control page access) = if shared then wish_weight hosts + 1 else 1
message_weight hosts shared pages (message.Lock page count returns flush lock reply) = if shared then count + 2 else 3 * count + 2
message_weight hosts shared pages (message.Destroy reason) = 2
message_weight hosts shared pages (message.Return control page dirty keep bytes) = 1
message_weight hosts shared pages (message.Completed control page count) = 1
message_weight hosts shared pages (message.Changed control cache strategy) = 1
message_weight hosts shared pages (message.Terminate control) = 1
message_weight hosts shared pages (message.Supply page lock precious bytes) = 1
message_weight hosts shared pages (message.Unavailable page) = 1
message_weight hosts shared pages (message.Error page reason) = 1

-- the object that the messages of a channel are about
abbrev pub object_on : Channel → ℕ
object_on (Up host object) = object.0
object_on (Down host object control) = object.0

-- a temporary object never ends by what its pager says, so its pages don't count
abbrev pub letter_weight : Header → Letter → ℕ
letter_weight header letter =
    message_weight (host_count header) (is_shared header (object_on letter.channel)) (declared_pages header (object_on letter.channel)) letter.message

abbrev pub weights : Header → List Letter → ℕ
weights header [] = 0
weights header (letter ∷ rest) = letter_weight header letter + weights header rest

-- what all that is undelivered may still cause
abbrev pub letters : Header → List Event → ℕ
letters header past = weights header (undelivered past)
